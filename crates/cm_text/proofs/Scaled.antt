-- A line by the scale of its list entry.
use Rattle.std.proofs.Common.{◌≡◌, ℕ, ◌%◌, ◌<◌, List, ◌++◌, length, get_or, sym, ap, ap₂, ◌∙◌, arith, subst}
use Rattle.std.specs.Prelude.{codes, if◌then◌else◌}
use Rattle.std.specs.Fmt.{decimal, signed_decimal}
use Rattle.std.proofs.Math.Nat.{mod-eq_of_lt}
use Rattle.std.proofs.lemmas.Option.{get_or_from_slice_get}
use Rattle.cm_base.proofs.Elements.{there}
use Rattle.cm_board.specs.declared.board.Range.{Range}
use Rattle.cm_sample.specs.Sample.{micro_of}
use Rattle.cm_sample.specs.declared.scale.Scale.{Scale}
use Rattle.cm_text.specs.Format.{Format, level_of, sample_line}
use Rattle.cm_text.specs.Scales.{AreScales, IsScaleOf, scaled_level, scaled_line}

-- the scale at a list index is that of its entry
pub scale_at : (f : Format) (scales : List Scale) (index : ℕ) (scale : Scale) → AreScales f.sub f.list scales → index < length f.list → scale ≡ get_or scales index scale → IsScaleOf f.sub (get_or f.list index 0) scale
scale_at f scales index scale all within is =
    let x = there scales index (omega (arith, within, all.all)) in
    subst (IsScaleOf f.sub (get_or f.list index 0)) (sym (is ∙ get_or_from_slice_get scales index x.0 scale x.1)) (all.each index x.0 x.1)

-- the line of a list index by its entry's scale is that of its sample
pub line-scaled : (f : Format) (scale : Scale) (index word : ℕ) → index < length f.list → IsScaleOf f.sub (get_or f.list index 0) scale → scaled_line scale f.raw index word ≡ sample_line f index word
line-scaled f scale index word within its =
    let level : scaled_level scale word ≡ level_of f.sub (get_or f.list index 0) word = ap₂ (λ (r : Range) (most : ℕ). signed_decimal (micro_of r most word)) its.range its.maxdata in
    let here : index % length f.list ≡ index = mod-eq_of_lt within in
    ap (λ (l : List ℕ). decimal index ++ codes " " ++ (if f.raw then codes "raw " ++ decimal word else l) ++ codes "\n") level
    ∙ ap (λ (k : ℕ). decimal k ++ codes " " ++ (if f.raw then codes "raw " ++ decimal word else level_of f.sub (get_or f.list k 0) word) ++ codes "\n") (sym here)
