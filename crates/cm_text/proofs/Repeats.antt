-- Texts that stand several times.
use Rattle.std.proofs.Common.{◌≡◌, ℕ, zero, suc, ◌+◌, ◌-◌, ◌%◌, ◌<◌, ◌≤◌, List, [], ◌∷◌, ◌++◌, length, take, drop, get_or, replicate, refl, sym, ap, ap₂, subst, ◌∙◌, arith, append_assoc, append-nil}
use Rattle.std.proofs.Math.Nat.{mod-one}
use Rattle.std.proofs.Math.Seq.{take-add}
use Rattle.std.proofs.lemmas.List.{get_or-drop, get_or-take, take_rest}
use Rattle.cm_text.specs.Format.{Format, IsSample, sample_line, sample_lines}
use Rattle.cm_text.specs.Repeated.{repeated}
use Rattle.cm_text.proofs.Entries.{same_line, same_sample}
use Rattle.cm_text.proofs.Joined.{lines-joined}

repeated-add : (m n : ℕ) (text : List ℕ) → repeated (m + n) text ≡ repeated m text ++ repeated n text
repeated-add zero n text = ap (λ k. repeated k text) (omega arith)
repeated-add (suc m) n text =
    let more : suc m + n ≡ suc (m + n) = omega arith in
    ap (λ k. repeated k text) more ∙ ap (λ (t : List ℕ). text ++ t) (repeated-add m n text) ∙ sym (append_assoc text (repeated m text) (repeated n text))

-- once more
pub repeated-next : (n : ℕ) (before text : List ℕ) → (before ++ repeated n text) ++ text ≡ before ++ repeated (n + 1) text
repeated-next n before text =
    append_assoc before (repeated n text) text
    ∙ ap (λ (t : List ℕ). before ++ t) (ap (λ (t : List ℕ). repeated n text ++ t) (sym (append-nil text)) ∙ sym (repeated-add n 1 text))

-- some of the times that are left
pub repeated-left : (left count : ℕ) (line text lines before whole : List ℕ) → count ≤ left → text ++ lines ≡ before → before ++ repeated left line ≡ whole →
    (text ++ (lines ++ repeated count line)) ++ repeated (left - count) line ≡ whole
repeated-left left count line text lines before whole some is all =
    let both : left ≡ count + (left - count) = omega (arith, some) in
    ap (λ (t : List ℕ). t ++ repeated (left - count) line) (sym (append_assoc text lines (repeated count line)) ∙ ap (λ (t : List ℕ). t ++ repeated count line) is)
    ∙ append_assoc before (repeated count line) (repeated (left - count) line)
    ∙ ap (λ (t : List ℕ). before ++ t) (sym (repeated-add count (left - count) line) ∙ ap (λ k. repeated k line) (sym both))
    ∙ all

-- the lines of a command that has one list entry
module _ (f : Format) (alone : length f.list ≡ 1) where
  here : (place : ℕ) → 0 ≡ place % length f.list
  here place = sym (ap (λ k. place % k) alone ∙ mod-one place)

  some : 0 < length f.list
  some = omega (arith, alone)

  alone_line : (place word : ℕ) → sample_line f 0 word ≡ sample_line f place word
  alone_line place word = same_line f place 0 (here place) some word

  -- each place is of that entry
  alone_lines : (place other : ℕ) (words : List ℕ) → sample_lines f place words ≡ sample_lines f other words
  alone_lines place other [] = refl
  alone_lines place other (word ∷ words) = ap₂ (λ (l t : List ℕ). l ++ t) (sym (alone_line place word) ∙ alone_line other word) (alone_lines (suc place) (suc other) words)

  -- the same word again and again
  alike_lines : (place n word : ℕ) → sample_lines f place (replicate n word) ≡ repeated n (sample_line f 0 word)
  alike_lines place zero word = refl
  alike_lines place (suc n) word = ap₂ (λ (l t : List ℕ). l ++ t) (sym (alone_line place word)) (alike_lines (suc place) n word)

  -- the first of the words from one on can be reported
  pub first_code : (place i : ℕ) (words : List ℕ) → i < length words → IsSample f (place + i) (get_or words i 0) → IsSample f 0 (get_or (take (length words - i) (drop i words)) 0 0)
  first_code place i words within may =
      let at : get_or (take (length words - i) (drop i words)) 0 0 ≡ get_or words i 0 = get_or-take (length words - i) (drop i words) 0 0 (omega (arith, within)) ∙ get_or-drop i words 0 0 ∙ ap (λ k. get_or words k 0) (omega arith) in
      subst (λ word. IsSample f 0 word) (sym at) (same_sample f (place + i) 0 (here (place + i)) some (get_or words i 0) may)

  -- the line of the first word alone
  pub first_line : (words before one : List ℕ) → 1 ≤ length words → one ≡ before ++ sample_line f 0 (get_or words 0 0) → one ≡ before ++ sample_lines f 0 (take 1 words)
  first_line [] before one within is = absurd (omega (arith, within))
  first_line (word ∷ words) before one within is = is ∙ ap (λ (t : List ℕ). before ++ t) (sym (append-nil (sample_line f 0 word)))

  -- the line of the first word, and those of words that are alike after it
  pub first_and_alike : (words : List ℕ) (more word : ℕ) (before one all line : List ℕ) → 1 ≤ length words → one ≡ before ++ sample_line f 0 (get_or words 0 0) → all ≡ one ++ repeated more line →
      line ≡ sample_line f 0 word → take more (take (length words - 1) (drop 1 words)) ≡ replicate more word → all ≡ before ++ sample_lines f 0 (take (1 + more) words)
  first_and_alike [] more word before one all line within first rest is alike = absurd (omega (arith, within))
  first_and_alike (w ∷ words) more word before one all line within first rest is alike =
      let longer : suc more ≡ 1 + more = omega arith in
      let these : repeated more line ≡ sample_lines f 1 (take more words) = ap (repeated more) is ∙ sym (alike_lines 1 more word) ∙ ap (sample_lines f 1) (sym alike ∙ ap (take more) (take_rest (w ∷ words) 1)) in
      rest
      ∙ ap (λ (t : List ℕ). t ++ repeated more line) first
      ∙ append_assoc before (sample_line f 0 w) (repeated more line)
      ∙ ap (λ (t : List ℕ). before ++ (sample_line f 0 w ++ t)) these
      ∙ ap (λ n. before ++ sample_lines f 0 (take n (w ∷ words))) longer

  -- the lines of the samples so far, and those of more of them
  pub more_alike : (place i n : ℕ) (words had text lines : List ℕ) → i ≤ length words → text ≡ had ++ sample_lines f place (take i words) →
      lines ≡ text ++ sample_lines f 0 (take n (take (length words - i) (drop i words))) → lines ≡ had ++ sample_lines f place (take (i + n) words)
  more_alike place i n words had text lines within before is =
      let these = sample_lines f 0 (take n (take (length words - i) (drop i words))) in
      let there = place + length (take i words) in
      is
      ∙ ap (λ (t : List ℕ). t ++ these) before
      ∙ append_assoc had (sample_lines f place (take i words)) these
      ∙ ap (λ (t : List ℕ). had ++ (sample_lines f place (take i words) ++ t)) (alone_lines 0 there _ ∙ ap (λ (ws : List ℕ). sample_lines f there (take n ws)) (take_rest words i))
      ∙ ap (λ (t : List ℕ). had ++ t) (sym (lines-joined f place (take i words) (take n (drop i words))) ∙ ap (sample_lines f place) (sym (take-add i n words)))
