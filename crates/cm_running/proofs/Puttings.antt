-- Putting words out of a ring, one at a time.
use Rattle.std.proofs.Common.{◌≡◌, ℕ, suc, ◌+◌, ◌-◌, ◌≤◌, List, [], ◌∷◌, ◌++◌, length, take, drop, refl, sym, ap, ap₂, ◌∙◌, arith, append_assoc, drop-drop, length-drop}
use Rattle.std.specs.Prelude.{slice_index}
use Rattle.cm_expand.specs.declared.conv.Conv.{Conv}
use Rattle.cm_ring_core.specs.Local.{Ring}
use Rattle.cm_ring_core.proofs.Rings.{same_ring}
use Rattle.cm_text.specs.Outputs.{Output, output_text, output_texts}
use Rattle.cm_running.specs.Putting.{Moves, emptied, going, less}
use Rattle.cm_running.specs.ToCome.{ToCome}
use Rattle.cm_running.specs.Running.{outputs}
use Rattle.cm_expand.proofs.Come.{come-first}

-- the lines of what goes out of a ring
abbrev pub reporting : ℕ → Ring → List Conv → ℕ → List ℕ
reporting sub ring to_come time = output_texts (outputs sub (take (going ring to_come time) to_come) ring.held)

-- the output of a ring's first word
abbrev pub first_output : ℕ → Conv → Ring → Output
first_output sub c ring = record { sub = sub; time = c.time; index = c.list_index; word = slice_index ring.held 0 }

going-some : (ring : Ring) (c : Conv) (rest : List Conv) (time : ℕ) → 1 ≤ ring.w - ring.r → c.time ≤ time → going ring (c ∷ rest) time ≡ suc (going (less ring 1) rest time)
going-some ring c rest time some early = omega (arith, come-first time c rest early)

less-less : (ring : Ring) (n : ℕ) → less (less ring 1) n ≡ less ring (suc n)
less-less ring n = same_ring _ _ refl refl (omega arith) (omega arith) refl refl refl refl (let more : 1 + n ≡ suc n = omega arith in drop-drop n 1 ring.held ∙ ap (λ k. drop k ring.held) more)

emptied-next : (ring : Ring) (c : Conv) (rest : List Conv) (time : ℕ) → 1 ≤ ring.w - ring.r → c.time ≤ time → emptied (less ring 1) rest time ≡ emptied ring (c ∷ rest) time
emptied-next ring c rest time some early = less-less ring (going (less ring 1) rest time) ∙ ap (less ring) (sym (going-some ring c rest time some early))

pub emptied-some : (ring put : Ring) (old : List Conv) (c : Conv) (rest : List Conv) (time : ℕ) → 1 ≤ ring.w - ring.r → old ≡ c ∷ rest → c.time ≤ time → put ≡ less ring 1 → emptied put rest time ≡ emptied ring old time
emptied-some ring put old c rest time some first early step = ap (λ (p : Ring). emptied p rest time) step ∙ emptied-next ring c rest time some early ∙ ap (λ cs. emptied ring cs time) (sym first)

pub drop-put : (ring put : Ring) (old : List Conv) (c : Conv) (rest : List Conv) (time : ℕ) → 1 ≤ ring.w - ring.r → old ≡ c ∷ rest → c.time ≤ time → put ≡ less ring 1 → drop (going put rest time) rest ≡ drop (going ring old time) old
drop-put ring put old c rest time some first early step =
    ap (λ (p : Ring). drop (going p rest time) rest) step ∙ ap (λ n. drop n (c ∷ rest)) (sym (going-some ring c rest time some early)) ∙ ap (λ cs. drop (going ring cs time) cs) (sym first)

first-reported : (sub : ℕ) (c : Conv) (cs : List Conv) (held : List ℕ) → 1 ≤ length held →
    output_text (record { sub = sub; time = c.time; index = c.list_index; word = slice_index held 0 }) ++ output_texts (outputs sub cs (drop 1 held)) ≡ output_texts (outputs sub (c ∷ cs) held)
first-reported sub c cs [] some = absurd (omega arith)
first-reported sub c cs (x ∷ xs) some = refl

reporting-next : (sub : ℕ) (ring : Ring) (c : Conv) (rest : List Conv) (time : ℕ) → 1 ≤ ring.w - ring.r → ring.w - ring.r ≤ length ring.held → c.time ≤ time →
    output_text (first_output sub c ring) ++ reporting sub (less ring 1) rest time ≡ reporting sub ring (c ∷ rest) time
reporting-next sub ring c rest time some held early =
    first-reported sub c (take (going (less ring 1) rest time) rest) ring.held (omega arith) ∙ ap (λ n. output_texts (outputs sub (take n (c ∷ rest)) ring.held)) (sym (going-some ring c rest time some early))

pub reporting-some : (sub : ℕ) (ring put : Ring) (old : List Conv) (c : Conv) (rest : List Conv) (time : ℕ) (text more : List ℕ) → 1 ≤ ring.w - ring.r → ring.w - ring.r ≤ length ring.held → old ≡ c ∷ rest → c.time ≤ time →
    put ≡ less ring 1 → more ≡ text ++ output_text (first_output sub c ring) → more ++ reporting sub put rest time ≡ text ++ reporting sub ring old time
reporting-some sub ring put old c rest time text more some held first early step said =
    ap₂ (λ t (p : Ring). t ++ reporting sub p rest time) said step ∙ append_assoc text (output_text (first_output sub c ring)) (reporting sub (less ring 1) rest time)
    ∙ ap (λ x. text ++ x) (reporting-next sub ring c rest time some held early ∙ ap (λ cs. reporting sub ring cs time) (sym first))

pub moves-more : (first ring put : Ring) (from before after : ToCome) (c : Conv) → Moves first ring from before → 1 ≤ ring.w - ring.r → before.conversions ≡ c ∷ after.conversions → after ≡ record before { conversions = after.conversions } → put ≡ less ring 1 → Moves first put from after
moves-more first ring put from before after c moves some next same step = record {
  count = moves.count + 1;
  few = omega (arith, some, ap (λ (r : Ring). r.r) moves.ring, ap (λ (r : Ring). r.w) moves.ring);
  come = omega (arith, ap length next, ap (λ (b : ToCome). length b.conversions) moves.board, length-drop moves.count from.conversions);
  ring = step ∙ ap (λ (r : Ring). less r 1) moves.ring ∙ same_ring _ _ refl refl (omega arith) (omega arith) refl refl refl refl (drop-drop 1 moves.count first.held);
  board = same ∙ ap₂ (λ cs (b : ToCome). let t : ToCome = record b { conversions = cs } in t) left moves.board;
}
  where
    left : after.conversions ≡ drop (moves.count + 1) from.conversions
    left = sym (ap (drop 1) next) ∙ ap (λ (b : ToCome). drop 1 b.conversions) moves.board ∙ drop-drop 1 moves.count from.conversions
