-- What holds of the head of a block that is read.
use Rattle.std.proofs.Common.{◌≡◌, ℕ, ◌&&◌, List, refl, IsTrue, nat_le, ◌==◌, arith}
use Rattle.std.proofs.lemmas.Bool.Decides.{nat_tests}
use Rattle.std.specs.Result.{IfOk}
use Rattle.cm_base.specs.Words.{number_in, two_words}
use Rattle.cm_base.proofs.Oks.{after_any, number_ok, then_ok, weaker}
use Rattle.cm_board.specs.Board.{has_channels, most_in}
use Rattle.cm_board.specs.declared.board.Kind.{Kind}
use Rattle.cm_board.specs.declared.board.Kind.TheVariants as kinds
use Rattle.cm_board.specs.declared.table.Head.{Head}
use Rattle.cm_board_text.specs.Heads.{channels_word, head_words, kind_word}

channels_ok : (version : ℕ) (kind : Kind) (w : List ℕ) → IfOk (channels_word version kind w) (λ n. IsTrue (has_channels version kind n))
channels_ok version kinds.Unused w = weaker (λ n. IsTrue (nat_le 0 n && nat_le n 0)) (λ n. IsTrue (n == 0)) zero_only (number_in 0 0 w) (number_ok 0 0 w)
  where
    zero_only : (n : ℕ) → IsTrue (nat_le 0 n && nat_le n 0) → IsTrue (n == 0)
    zero_only n h = grind (arith, nat_tests)
channels_ok version kinds.Ai w = number_ok 1 (most_in version 64 256) w
channels_ok version kinds.Ao w = number_ok 1 (most_in version 64 256) w
channels_ok version kinds.Di w = number_ok 1 (most_in version 64 256) w
channels_ok version kinds.Do w = number_ok 1 (most_in version 64 256) w
channels_ok version kinds.Dio w = number_ok 1 (most_in version 64 256) w

-- a head is of its version, and its channels are as many as its kind may have
abbrev pub IsHead : ℕ → Head → Type 0
IsHead version head = IsTrue (has_channels head.version head.kind head.channels) × (head.version ≡ version)

pub head_may : (version : ℕ) (words : List (List ℕ)) → IfOk (head_words version words) (IsHead version)
head_may version words =
    after_any (IsHead version) (two_words words) _ (λ w.
    after_any (IsHead version) (kind_word w.0) _ (λ k.
    then_ok (λ n. IsTrue (has_channels version k n)) (IsHead version) (channels_word version k w.1) _ (channels_ok version k w.1) (λ n h. (h, refl))))
