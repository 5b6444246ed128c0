-- A printed head is read as the same head.
use Rattle.std.proofs.Common.{◌≡◌, ℕ, ◌^◌, ◌<◌, ◌≤◌, Bool, true, false, ◌&&◌, Ok, refl, ap, ◌∙◌, nat_le, nat_lt, ◌==◌, arith, decimal}
use Rattle.std.proofs.lemmas.Bool.Decides.{nat_tests}
use Rattle.std.proofs.lemmas.Bool.{lt-ltb}
use Rattle.cm_base.specs.Lines.{LineText, is_word}
use Rattle.cm_base.specs.Reading.{◌>>=◌}
use Rattle.cm_base.specs.Words.{limited}
use Rattle.cm_base.specs.WrittenLines.{is_line}
use Rattle.cm_base.proofs.Bools.{and_true, both}
use Rattle.cm_base.proofs.NumbersBack.{number_in-decimal, word-decimal}
use Rattle.cm_board.specs.Board.{IsSoundSub, SubText, fits_commands, fits_kind, fits_lines, has_channels, has_text, most_in}
use Rattle.cm_board.specs.Said.{head_of}
use Rattle.cm_board.specs.declared.board.Kind.{Kind}
use Rattle.cm_board.specs.declared.board.Kind.TheVariants as kinds
use Rattle.cm_board.specs.declared.table.Head.{Head}
use Rattle.cm_board_text.specs.BoardPart.{head_after}
use Rattle.cm_board_text.specs.Heads.{channels_word, kind_word}
use Rattle.cm_board_text.specs.Printed.{head_line, kind_text}

kind_back : (kind : Kind) → (kind_word (kind_text kind) ≡ Ok kind) × (is_word (kind_text kind) ≡ true)
kind_back kinds.Unused = (refl, refl)
kind_back kinds.Ai = (refl, refl)
kind_back kinds.Ao = (refl, refl)
kind_back kinds.Di = (refl, refl)
kind_back kinds.Do = (refl, refl)
kind_back kinds.Dio = (refl, refl)

channels_back : (version : ℕ) (kind : Kind) (n : ℕ) → n ≤ 256 → has_channels version kind n ≡ true → channels_word version kind (decimal n) ≡ Ok n
channels_back version kinds.Unused n k h = number_in-decimal 0 0 n (omega arith) (none n h)
  where
    none : (n : ℕ) → (n == 0) ≡ true → (nat_le 0 n && nat_le n 0) ≡ true
    none n h = grind (arith, nat_tests)
channels_back version kinds.Ai n k h = number_in-decimal 1 (most_in version 64 256) n (omega arith) h
channels_back version kinds.Ao n k h = number_in-decimal 1 (most_in version 64 256) n (omega arith) h
channels_back version kinds.Di n k h = number_in-decimal 1 (most_in version 64 256) n (omega arith) h
channels_back version kinds.Do n k h = number_in-decimal 1 (most_in version 64 256) n (omega arith) h
channels_back version kinds.Dio n k h = number_in-decimal 1 (most_in version 64 256) n (omega arith) h

-- the channels of a sound subdevice are as many as its kind may have
channels_kept : (s : SubText) → IsSoundSub s → has_channels s.version s.kind s.channels ≡ true
unfolding has_text
channels_kept s h = first (has_channels s.version s.kind s.channels) _ _ _ (both (fits_kind s) (fits_commands s) (both (fits_kind s && fits_commands s) (fits_lines s) h.text).0).0
  where
    first : (a b c d : Bool) → (a && b && c && d) ≡ true → a ≡ true
    first true b c d e = refl
    first false b c d e = cc

abbrev pub head_at : ℕ → SubText → LineText
head_at number s = record { number = number; words = head_line s; bad = false }

-- the first line of a block that has at most 15 before it
pub head_back : (count number : ℕ) (s : SubText) → count < 16 → IsSoundSub s → head_after s.version count (head_at number s) ≡ Ok (head_of s)
head_back count number s few h =
    ap (λ x. (x >>= λ k. channels_word s.version k (decimal s.channels) >>= λ n. Ok (record { version = s.version; kind = k; channels = n })) >>= λ (head : Head). limited (nat_lt count 16) head) (kind_back s.kind).0
    ∙ ap (λ x. (x >>= λ n. Ok (record { version = s.version; kind = s.kind; channels = n })) >>= λ (head : Head). limited (nat_lt count 16) head) (channels_back s.version s.kind s.channels h.few_channels (channels_kept s h))
    ∙ ap (λ b. limited b (head_of s)) (lt-ltb count 16 few)

pub head_is_line : (s : SubText) → IsSoundSub s → is_line (head_line s) ≡ true
head_is_line s h = and_true _ _ (kind_back s.kind).1 (and_true _ true (word-decimal s.channels (small s.channels h.few_channels)) refl)
  where
    small : (n : ℕ) → n ≤ 256 → n < 2 ^ 32
    small n h = omega arith
