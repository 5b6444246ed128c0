-- A long text that is written piece by piece.
use Rattle.std.proofs.Common.{◌≡◌, ℕ, ◌+◌, ◌≤◌, List, [], ◌++◌, length, take, Option, Result, Ok, Err, OnErr, refl, sym, ap, ◌∙◌, subst, arith, append_assoc, append-nil, length-append}
use Rattle.std.proofs.Math.Seq.{take-append_seam, take-append-add}
use Rattle.std.proofs.lemmas.List.{take-append-le}
use Rattle.std.specs.Io.KnownBytes.{Appends}
use Rattle.std.proofs.KnownBytes.{Appends-nil, Appends-trans}
use Rattle.cm_base.specs.Transfer.{AppendsPrefix, IsUnderWay, Moves}

pub under_way-start : (a : Option (List ℕ)) (whole : List ℕ) → IsUnderWay a a [] whole whole
under_way-start a whole = ([], Appends-nil a, refl)

-- a part more is gathered
pub under_way-more : (a b : Option (List ℕ)) (text more piece rest whole : List ℕ) → more ≡ text ++ piece → IsUnderWay a b text (piece ++ rest) whole → IsUnderWay a b more rest whole
under_way-more a b text more piece rest whole e way = (
  way.0,
  way.1,
  ap (λ t. way.0 ++ (t ++ rest)) e ∙ ap (λ t. way.0 ++ t) (append_assoc text piece rest) ∙ way.2,
)

-- a prefix of what is gathered is written
pub under_way-moved : (a b c : Option (List ℕ)) (text left rest whole : List ℕ) → Moves b c text left → IsUnderWay a b text rest whole → IsUnderWay a c left rest whole
under_way-moved a b c text left rest whole moved way = (
  way.0 ++ moved.0,
  Appends-trans a b c way.0 moved.0 way.1 moved.1,
  append_assoc way.0 moved.0 (left ++ rest) ∙ ap (λ t. way.0 ++ t) (sym (append_assoc moved.0 left rest) ∙ ap (λ t. t ++ rest) (sym moved.2)) ∙ way.2,
)

-- what was written is a prefix of the whole
pub under_way-stopped : (a b : Option (List ℕ)) (text rest whole : List ℕ) → IsUnderWay a b text rest whole → AppendsPrefix a b whole
under_way-stopped a b text rest whole way =
    let long : length way.0 ≤ length whole = omega (arith, ap length way.2, length-append way.0 (text ++ rest)) in
    let prefix : take (length way.0) whole ≡ way.0 = ap (take (length way.0)) (sym way.2) ∙ take-append_seam way.0 (text ++ rest) in
    (length way.0, long, subst (Appends a b) (sym prefix) way.1)

-- and so is what a failed write leaves
pub under_way-failed : (a b c : Option (List ℕ)) (text rest whole : List ℕ) → AppendsPrefix b c text → IsUnderWay a b text rest whole → AppendsPrefix a c whole
under_way-failed a b c text rest whole failed way =
    let all : length whole ≡ length way.0 + (length text + length rest) = omega (arith, ap length way.2, length-append way.0 (text ++ rest), length-append text rest) in
    let prefix : take (length way.0 + failed.0) whole ≡ way.0 ++ take failed.0 text =
    ap (take (length way.0 + failed.0)) (sym way.2) ∙ take-append-add way.0 (text ++ rest) failed.0 ∙ ap (λ t. way.0 ++ t) (take-append-le failed.0 text rest failed.1)
    in
    (length way.0 + failed.0, omega (arith, failed.1), subst (Appends a c) (sym prefix) (Appends-trans a b c way.0 (take failed.0 text) way.1 failed.2))

-- the last part is written
pub under_way-ended : (a b c : Option (List ℕ)) (text whole : List ℕ) → Appends b c text → IsUnderWay a b text [] whole → Appends a c whole
under_way-ended a b c text whole last way = subst (Appends a c) (ap (λ t. way.0 ++ t) (sym (append-nil text)) ∙ way.2) (Appends-trans a b c way.0 text way.1 last)

-- what holds anyway holds where a result is an error
pub on_err : {X E : Type 0} {P : Type 0} (r : Result X E) → P → OnErr r P
on_err (Ok x) p = tt
on_err (Err e) p = p
