-- Arguments moved into their limits.
use Rattle.std.proofs.Common.{◌≡◌, ℕ, ◌+◌, ◌-◌, ◌/◌, ◌%◌, ◌^◌, ◌≤◌, Bool, true, false, ◌&&◌, refl, ap, ◌∙◌, arith}
use Rattle.std.specs.Prelude.{◌==◌, if◌then◌else◌}
use Rattle.std.proofs.lemmas.Bool.{cond-false, eq-eqb}
use Rattle.cm_base.specs.Source as source
use Rattle.cm_board.specs.Board.{SubText}
use Rattle.cm_cmd.specs.declared.command.Trig.{Trig}
use Rattle.cm_test.specs.declared.limits.ArgLimits.{ArgLimits}
use Rattle.cm_test.specs.Law.{KeepsEdge}
use Rattle.cm_test.specs.Steps.{limited, moved, moved_into, with_arg}

-- the part of an argument that its limits are about, by whether it is external and whether lines can be inverted
abbrev part : Bool → Bool → ℕ → ℕ
part external invert a = if external then (if invert then a % 2 ^ 31 else a) else a

abbrev moved_arg : ArgLimits → Bool → Bool → ℕ → ℕ
moved_arg l external invert a = moved_into l (part external invert a) + (a - part external invert a)

part_fits : (external invert : Bool) (a : ℕ) → part external invert a ≤ a
part_fits true true a = omega arith
part_fits true false a = omega arith
part_fits false invert a = omega arith

arg_twice : (l : ArgLimits) (external invert : Bool) (a : ℕ) → (external ≡ true → l.low ≡ 0) → moved_arg l external invert (moved_arg l external invert a) ≡ moved_arg l external invert a
arg_twice l true true a lines = let z = lines refl in omega arith
arg_twice l true false a lines = omega arith
arg_twice l false invert a lines = omega arith

-- the limits of an external argument are those of a line, which begin at 0
abbrev pub FromZero : ArgLimits → Trig → Type 0
FromZero l t = (t.src == source.ext) ≡ true → l.low ≡ 0

-- what is moved twice is moved once
pub moved_twice : (sub : SubText) (l : ArgLimits) (t : Trig) → FromZero l t → moved sub l (moved sub l t) ≡ moved sub l t
moved_twice sub l t lines = ap (λ a. with_arg a t) (arg_twice l (t.src == source.ext) sub.invert t.arg lines)

-- what stays has its limited part in the limits
pub limited_stays : (sub : SubText) (l : ArgLimits) (t : Trig) → moved sub l t ≡ t → moved_into l (limited sub t) ≡ limited sub t
limited_stays sub l t e =
    let same : moved_into l (limited sub t) + (t.arg - limited sub t) ≡ t.arg = ap (λ (u : Trig). u.arg) e in
    let fits : limited sub t ≤ t.arg = part_fits (t.src == source.ext) sub.invert t.arg in
    omega (arith, same, fits)

-- an argument that isn't external is limited as a whole
pub whole : (sub : SubText) (t : Trig) (src : ℕ) → (src == source.ext) ≡ false → t.src ≡ src → limited sub t ≡ t.arg
whole sub t src other is = cond-false (t.src == source.ext) _ t.arg (ap (λ s. s == source.ext) is ∙ other)

pub moved_whole : (sub : SubText) (l : ArgLimits) (t : Trig) (src : ℕ) → (src == source.ext) ≡ false → t.src ≡ src → (moved sub l t).arg ≡ moved_into l t.arg
moved_whole sub l t src other is =
    let same = whole sub t src other is in
    ap (λ x. moved_into l x + (t.arg - x)) same ∙ (let z : moved_into l t.arg + (t.arg - t.arg) ≡ moved_into l t.arg = omega arith in z)

-- an external argument asks for the same edges
edge_stays : (l : ArgLimits) (external invert : Bool) (a : ℕ) → (external ≡ true → l.low ≡ 0) → external ≡ true → (invert && moved_arg l external invert a / 2 ^ 31 % 2 == 1) ≡ (invert && a / 2 ^ 31 % 2 == 1)
edge_stays l true true a lines is = let z = lines refl in
    let same : moved_arg l true true a / 2 ^ 31 ≡ a / 2 ^ 31 = omega arith in
    ap (λ (n : ℕ). n % 2 == 1) same
edge_stays l true false a lines is = refl
edge_stays l false invert a lines is = cc

pub keeps_edge : (sub : SubText) (l : ArgLimits) (t : Trig) → FromZero l t → KeepsEdge sub t (moved sub l t)
keeps_edge sub l t lines is = edge_stays l (t.src == source.ext) sub.invert t.arg lines (eq-eqb t.src source.ext is)
