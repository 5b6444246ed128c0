-- Raw words at even distances.
use Rattle.std.proofs.Common.{◌≡◌, ℕ, zero, suc, ◌+◌, List, [], ◌∷◌, map, replicate, ℤ, refl, ap, ◌∙◌}
use Rattle.cm_board.specs.Munge.{unmunged}
use Rattle.cm_sample.specs.Sample.{code_of}
use Rattle.cm_signal.specs.Signals.{wave_level}
use Rattle.cm_signal.specs.Adding.{progression}
use Rattle.cm_expand.specs.Item.{moving_raw}
use Rattle.cm_expand.specs.declared.moving.Moving.{Moving}

-- the same word at all times
pub same_at_all : (word first step count : ℕ) → replicate count word ≡ map (λ (t : ℕ). word) (progression first step count)
same_at_all word first step zero = refl
same_at_all word first step (suc count) = ap (λ (ws : List ℕ). word ∷ ws) (same_at_all word (first + step) step count)

map-twice : {X Y Z : Type 0} (f : Y → Z) (g : X → Y) (xs : List X) → map f (map g xs) ≡ map (λ (x : X). f (g x)) xs
map-twice f g [] = refl
map-twice f g (x ∷ xs) = ap (λ zs. f (g x) ∷ zs) (map-twice f g xs)

-- the raw words of the levels at some times
pub raws_at : (m : Moving) (words : List ℕ) (levels : List ℤ) (times : List ℕ) → words ≡ map (λ level. unmunged m.munge m.scale.maxdata (code_of m.scale.range m.scale.maxdata level)) levels →
    levels ≡ map (wave_level m.wave) times → words ≡ map (moving_raw m) times
raws_at m words levels times by_level at = by_level ∙ ap (map (λ level. unmunged m.munge m.scale.maxdata (code_of m.scale.range m.scale.maxdata level))) at ∙ map-twice _ (wave_level m.wave) times

-- functions that agree at each time
pub same_raws : (f g : ℕ → ℕ) (times : List ℕ) → ((t : ℕ) → f t ≡ g t) → map f times ≡ map g times
same_raws f g [] same = refl
same_raws f g (t ∷ times) same = ap (λ w. w ∷ map f times) (same t) ∙ ap (λ (ws : List ℕ). g t ∷ ws) (same_raws f g times same)
