-- Answers to commands that are tested.
use Rattle.std.proofs.Common.{◌≡◌, ℕ, List, ◌++◌, append_assoc}

-- five parts after a text
pub five-parts : (x a b c d e : List ℕ) → ((((x ++ a) ++ b) ++ c) ++ d) ++ e ≡ x ++ ((((a ++ b) ++ c) ++ d) ++ e)
five-parts x a b c d e = simp append_assoc
