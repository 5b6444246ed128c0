-- What is handed over, by what comes next.
use Rattle.std.proofs.Common.{◌≡◌, ℕ, zero, suc, ◌+◌, ◌≤◌, Bool, true, false, List, [], ◌∷◌, length, map, take, drop, refl, sym, ap, ◌∙◌, arith, length-drop, drop-drop, Option, Some, None}
use Rattle.std.specs.Prelude.{if◌then◌else◌, nat_le, slice_get}
use Rattle.cm_board.specs.declared.board.Fifo.{Fifo}
use Rattle.cm_expand.specs.Items.{items_of}
use Rattle.cm_expand.specs.Taking.{come}
use Rattle.cm_expand.specs.declared.conv.Conv.{Conv}
use Rattle.cm_fifo.specs.Handed.{NextEvent, Drains, Handed, Nothing, Overflows, and_then, at_time, next_event, handed, handed_after, handed_by, last_of, nothing, drain_time, unless_lost}
use Rattle.cm_fifo.specs.State.{FifoState, IsSoundFifo, left_after, next_of, time_of}

module _ (f : Fifo) (last horizon : ℕ) where
  -- where nothing comes, nothing is handed over
  pub handed-nothing : (more : ℕ) (left : List Conv) → next_event f last horizon left ≡ Nothing → handed f last horizon more left ≡ nothing
  handed-nothing zero left e = refl
  handed-nothing (suc more) left e = ap (λ c. handed_by c f.depth left (handed f last horizon more)) e

  -- a drain hands over so many, and others follow
  pub handed-drains : (more : ℕ) (left : List Conv) (time count : ℕ) → next_event f last horizon left ≡ Drains time count →
      handed f last horizon (suc more) left ≡ and_then time (take count left) (handed f last horizon more (drop count left))
  handed-drains more left time count e = ap (λ c. handed_by c f.depth left (handed f last horizon more)) e

  -- an overflow hands over all that the FIFO holds, and loses the next one
  pub handed-overflows : (more : ℕ) (left : List Conv) (time : ℕ) → next_event f last horizon left ≡ Overflows time →
      handed f last horizon (suc more) left ≡ record { arrivals = map (at_time time) (take f.depth left); lost_at = Some time }
  handed-overflows more left time e = ap (λ c. handed_by c f.depth left (handed f last horizon more)) e

  -- after a drain of none there is nothing
  idle : (more : ℕ) (left : List Conv) (time : ℕ) → next_event f last horizon left ≡ Drains time 0 → handed f last horizon more left ≡ nothing
  idle zero left time e = refl
  idle (suc more) left time e = handed-drains more left time 0 e ∙ ap (λ rest. and_then time [] rest) (idle more left time e)

  same_more : (m n : ℕ) (left : List Conv) → length left ≤ m → length left ≤ n → handed f last horizon m left ≡ handed f last horizon n left
  same_more zero n [] few few' = sym (handed-nothing n [] refl)
  same_more zero n (c ∷ left) few few' = absurd (omega arith)
  same_more (suc m) zero [] few few' = refl
  same_more (suc m) zero (c ∷ left) few few' = absurd (omega arith)
  same_more (suc m) (suc n) left few few' = at (next_event f last horizon left) refl (λ k. same_more m n (drop (suc k) left) (omega (arith, length-drop (suc k) left)) (omega (arith, length-drop (suc k) left)))
    where
      at : (c : NextEvent) → next_event f last horizon left ≡ c → ((k : ℕ) → handed f last horizon m (drop (suc k) left) ≡ handed f last horizon n (drop (suc k) left)) → handed f last horizon (suc m) left ≡ handed f last horizon (suc n) left
      at Nothing e rest = handed-nothing (suc m) left e ∙ sym (handed-nothing (suc n) left e)
      at (Overflows time) e rest = handed-overflows m left time e ∙ sym (handed-overflows n left time e)
      at (Drains time zero) e rest = idle (suc m) left time e ∙ sym (idle (suc n) left time e)
      at (Drains time (suc k)) e rest = handed-drains m left time (suc k) e ∙ ap (λ later. and_then time (take (suc k) left) later) (rest k) ∙ sym (handed-drains n left time (suc k) e)

  -- as many drains as there are conversions suffice
  pub handed-enough : (more : ℕ) (left : List Conv) → length left ≤ more → handed f last horizon more left ≡ handed f last horizon (length left) left
  handed-enough more left few = same_more more (length left) left few (omega arith)

-- what comes next of a board that has not lost any
next-next_event : (b : FifoState) (over : Bool) → b.over ≡ over → over ≡ false → next_of b ≡ next_event b.fifo (last_of b.plan) b.plan.signals.horizon (left_after b)
next-next_event b true e none = absurd (cc)
next-next_event b false e none = ap (λ (over : Bool). if over then Nothing else next_event b.fifo (last_of b.plan) b.plan.signals.horizon (left_after b)) e

-- where something comes, none was lost
pub not_over : (over : Bool) (c d : NextEvent) → (if over then Nothing else c) ≡ d → (d ≡ Nothing → ⊥) → over ≡ false
not_over true c d e some = absurd (some (sym e))
not_over false c d e some = refl

-- what a board hands over after what was handed over before, by what comes next
abbrev pub handed_later : FifoState → ℕ → Handed
handed_later b more = handed_after b.fifo b.plan (b.taken + b.ready) more

pub step-nothing : (b : FifoState) (more : ℕ) → b.over ≡ false → next_of b ≡ Nothing → handed_later b more ≡ nothing
step-nothing b more none e = handed-nothing b.fifo (last_of b.plan) b.plan.signals.horizon more (left_after b) (sym (next-next_event b b.over refl none) ∙ e)

pub step-drains : (b : FifoState) (more time count : ℕ) → next_of b ≡ Drains time count →
    handed_later b (suc more) ≡ and_then time (take count (left_after b)) (handed_after b.fifo b.plan (b.taken + b.ready + count) more)
step-drains b more time count e =
    let none : b.over ≡ false = not_over b.over (next_event b.fifo (last_of b.plan) b.plan.signals.horizon (left_after b)) (Drains time count) e (λ x. cc) in
    handed-drains b.fifo (last_of b.plan) b.plan.signals.horizon more (left_after b) time count (sym (next-next_event b b.over refl none) ∙ e)
    ∙ ap (λ left. and_then time (take count (left_after b)) (handed b.fifo (last_of b.plan) b.plan.signals.horizon more left)) (drop-drop count (b.taken + b.ready) (items_of b.plan))

pub step-overflows : (b : FifoState) (more time : ℕ) → next_of b ≡ Overflows time →
    handed_later b (suc more) ≡ record { arrivals = map (at_time time) (take b.fifo.depth (left_after b)); lost_at = Some time }
step-overflows b more time e =
    let none : b.over ≡ false = not_over b.over (next_event b.fifo (last_of b.plan) b.plan.signals.horizon (left_after b)) (Overflows time) e (λ x. cc) in
    handed-overflows b.fifo (last_of b.plan) b.plan.signals.horizon more (left_after b) time (sym (next-next_event b b.over refl none) ∙ e)

-- nothing comes only where nothing is left
next_event-nothing : (f : Fifo) (last horizon : ℕ) (left : List Conv) → next_event f last horizon left ≡ Nothing → left ≡ []
next_event-nothing f last horizon [] e = refl
next_event-nothing f last horizon (c ∷ left) e = absurd (some (slice_get (c ∷ left) f.depth) e)
  where
    by_time : (late : Bool) (time other count : ℕ) → (if late then Overflows time else Drains other count) ≡ Nothing → ⊥
    by_time true time other count e = cc
    by_time false time other count e = cc

    some : (o : Option Conv) → unless_lost o (drain_time f last horizon (c ∷ left)) (come (drain_time f last horizon (c ∷ left)) (c ∷ left)) ≡ Nothing → ⊥
    some None e = cc
    some (Some d) e = by_time (nat_le d.time (drain_time f last horizon (c ∷ left))) d.time (drain_time f last horizon (c ∷ left)) (come (drain_time f last horizon (c ∷ left)) (c ∷ left)) e

-- so all were taken where none was lost, none is ready and nothing comes
pub all-taken : (b : FifoState) → IsSoundFifo b → b.over ≡ false → b.ready ≡ 0 → next_of b ≡ Nothing → b.taken ≡ length (items_of b.plan)
all-taken b is none ready e =
    let left : left_after b ≡ [] = next_event-nothing b.fifo (last_of b.plan) b.plan.signals.horizon (left_after b) (sym (next-next_event b b.over refl none) ∙ e) in
    let count : length (left_after b) ≡ 0 = ap length left in
    omega (arith, length-drop (b.taken + b.ready) (items_of b.plan), is.within)

-- where no time is given, nothing comes
pub none-comes : (c : NextEvent) → time_of c ≡ None → c ≡ Nothing
none-comes Nothing e = refl
none-comes (Drains time count) e = absurd (cc)
none-comes (Overflows time) e = absurd (cc)
