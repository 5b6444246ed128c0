-- A command's fields against what contracts see.
use Rattle.std.proofs.Common.{◌≡◌, ℕ, ◌+◌, ◌<◌, ◌≤◌, ◌^◌, true, false, List, [], length, drop, Option, sym, ap, ap₂, ◌∙◌, arith, subst, ◌-◌, ◌++◌, min, take, get_or, codes, length-drop, length-take, get_or-drop, get_or-take}
use Rattle.cm_ring_core.specs.Local.{Ring}
use Rattle.cm_text.specs.Format.{IsSample, sample_lines}
use Rattle.cm_running.specs.CommandView.{IsCommand, IsInStep, IsPaced, IsServed, its_schedule, running_of}
use Rattle.cm_running.specs.Filling.{filled, moving}
use Rattle.std.specs.Prelude.{if◌then◌else◌}
use Rattle.std.proofs.lemmas.Bool.{cond-false, cond-true}
use Rattle.cm_running.specs.Putting.{without}
use Rattle.cm_running.specs.Reading.{taken}
use Rattle.cm_running.specs.Running.{Schedule, arrived, collected, end_by, is_out, missed, samples, written_by}
use Rattle.cm_running.specs.Texts.{taken_text}
use Rattle.std.specs.Fmt.{decimal}
use Rattle.cm_running.specs.ToCome.{ToCome, end_shown}
use Rattle.cm_running.specs.declared.command.Command.TheInside.{Inside}
use Rattle.cm_text.specs.declared.end.End.{End}
use Rattle.cm_text.specs.declared.end.End.TheVariants.{Overrun, Underrun}
use Rattle.cm_running.proofs.Samples.{length-samples}
use Rattle.cm_running.proofs.Bringing.{end_shown-right, filled-in_step, length-held, take-held}

-- a command after its ring and its board were moved on
abbrev pub later : Inside → Ring → ToCome → Option End → Inside
later c ring board end = record c { ring = ring; board = board; end = end }

-- an input's ring and board
pub in_step : (c : Inside) → IsCommand c → is_out (its_schedule c) ≡ false → IsInStep (its_schedule c) c.ring c.board
in_step c command input = subst (λ b. IsServed b (its_schedule c) c.ring c.board) (command.out ∙ input) command.served

-- an output's
pub paced : (c : Inside) → IsCommand c → is_out (its_schedule c) ≡ true → IsPaced (its_schedule c) c.ring c.board
paced c command output = subst (λ b. IsServed b (its_schedule c) c.ring c.board) (command.out ∙ output) command.served

-- there are places for all that is to come
pub places_left : (c : Inside) → IsCommand c → is_out (its_schedule c) ≡ false → c.ring.a + length c.board.conversions < 2 ^ 62
places_left c command input =
    let step = in_step c command input in
    omega (arith, command.planned.few, command.planned.timely.within, step.level.w_a, step.within, ap (λ (b : ToCome). length b.conversions) step.ahead, length-drop c.ring.w (its_schedule c).arrivals)

collected-in_step : (c : Inside) → IsCommand c → is_out (its_schedule c) ≡ false → (time : ℕ) (ring : Ring) (board : ToCome) → c.ring.w ≤ arrived (its_schedule c) time →
    ring ≡ filled c.ring c.board.conversions time → board ≡ without (moving c.ring c.board.conversions time) c.board →
    IsInStep (its_schedule c) ring board × (ring.w ≡ written_by (running_of c) time)
collected-in_step c command input time ring board some moved left =
    let step = filled-in_step (its_schedule c) c.ring c.board time command.planned (in_step c command input) some in (
      subst (λ (b : ToCome). IsInStep (its_schedule c) ring b) (sym left)
          (subst (λ (r : Ring). IsInStep (its_schedule c) r (without (moving c.ring c.board.conversions time) c.board)) (sym moved) step.0),
      ap (λ (r : Ring). r.w) moved ∙ step.1,
    )

pub collected-command : (c : Inside) → IsCommand c → is_out (its_schedule c) ≡ false → (time : ℕ) (ring : Ring) (board : ToCome) → c.ring.w ≤ arrived (its_schedule c) time →
    ring ≡ filled c.ring c.board.conversions time → board ≡ without (moving c.ring c.board.conversions time) c.board →
    (end : Option End) → IsCommand (later c ring board end)
collected-command c command input time ring board some moved left end = record {
  planned = command.planned;
  out = command.out;
  served = subst (λ b. IsServed b (its_schedule c) ring board) (sym (command.out ∙ input)) (collected-in_step c command input time ring board some moved left).0;
  lines = command.lines;
  looks = command.looks;
}

missed-input : (s : Schedule) (k : ℕ) → is_out s ≡ false → missed s k ≡ Overrun k
missed-input s k input = cond-false (is_out s) (Underrun k) (Overrun k) input

pub missed-output : (s : Schedule) (k : ℕ) → is_out s ≡ true → missed s k ≡ Underrun k
missed-output s k output = cond-true (is_out s) (Underrun k) (Overrun k) output

pub running-collected : (c : Inside) → IsCommand c → is_out (its_schedule c) ≡ false → (time : ℕ) (ring : Ring) (board : ToCome) → c.ring.w ≤ arrived (its_schedule c) time →
    ring ≡ filled c.ring c.board.conversions time → board ≡ without (moving c.ring c.board.conversions time) c.board →
    (end : Option End) → end ≡ end_shown board (Overrun ring.w) ring.w (its_schedule c).horizon time → running_of (later c ring board end) ≡ collected (running_of c) time
running-collected c command input time ring board some moved left end shown =
    let s = its_schedule c in
    let step = collected-in_step c command input time ring board some moved left in
    let same_r : ring.r ≡ c.ring.r = ap (λ (r : Ring). r.r) moved in
    let same_ra : ring.ra ≡ c.ring.ra = ap (λ (r : Ring). r.ra) moved in
    let same_a : ring.a ≡ written_by (running_of c) time = sym step.0.level.w_a ∙ step.1 in
    let none : (if c.out then ring.held else []) ≡ (if c.out then c.ring.held else []) = cond-false c.out ring.held [] (command.out ∙ input) ∙ sym (cond-false c.out c.ring.held [] (command.out ∙ input)) in
    let its_end : end ≡ end_by s (c.ring.r + s.size) time =
    shown ∙ ap (λ (b : ToCome). end_shown b (Overrun ring.w) ring.w s.horizon time) step.0.ahead
    ∙ end_shown-right s (Overrun ring.w) (c.ring.r + s.size) ring.w time command.planned.timely.order command.planned.timely step.1
    (λ over. ap Overrun (omega (arith, step.1)) ∙ sym (missed-input s (c.ring.r + s.size) input)) in
    λ i. record { schedule = s; r = same_r i; ra = same_ra i; w = step.1 i; a = same_a i; words = none i; end = its_end i }

-- what a ring holds is as long as its places say, and all of it are codes
pub length-ring : (c : Inside) → IsCommand c → is_out (its_schedule c) ≡ false → length c.ring.held ≡ c.ring.w - c.ring.r
length-ring c command input =
    let step = in_step c command input in
    ap length step.held ∙ length-held (its_schedule c) c.ring.r c.ring.w (omega (arith, step.r_ra, step.ra_w)) (omega (arith, step.within, command.planned.timely.within))

pub codes-ring : (c : Inside) → IsCommand c → is_out (its_schedule c) ≡ false → (i : ℕ) → i < c.ring.w - c.ring.r → IsSample (its_schedule c).format (c.ring.r + i) (get_or c.ring.held i 0)
codes-ring c command input i within =
    let step = in_step c command input in
    subst (λ word. IsSample (its_schedule c).format (c.ring.r + i) word)
    (sym (ap (λ xs. get_or xs i 0) step.held ∙ get_or-drop c.ring.r (take c.ring.w (samples (its_schedule c))) i 0
    ∙ get_or-take c.ring.w (samples (its_schedule c)) (c.ring.r + i) 0 (omega arith)))
    (command.planned.codes input (c.ring.r + i) (omega (arith, step.within, command.planned.timely.within)))

-- the samples that a read takes
pub read-words : (c : Inside) → IsCommand c → is_out (its_schedule c) ≡ false → c.ring.ra ≡ c.ring.r → (n granted : ℕ) → granted ≡ min n (c.ring.m - c.ring.ra) →
    take granted c.ring.held ≡ take (min n (c.ring.w - c.ring.r)) (drop c.ring.r (samples (its_schedule c)))
read-words c command input unmapped n granted was =
    let step = in_step c command input in
    let same : granted ≡ min n (c.ring.w - c.ring.r) = omega (arith, was, step.level.m_w, unmapped) in
    ap₂ take same step.held ∙ take-held (its_schedule c) c.ring.r c.ring.w (min n (c.ring.w - c.ring.r)) (omega (arith, step.r_ra, step.ra_w)) (omega arith)

-- the text of a read's answer
pub read-answer : (c : Inside) → IsCommand c → is_out (its_schedule c) ≡ false → c.ring.ra ≡ c.ring.r → (n granted : ℕ) → granted ≡ min n (c.ring.m - c.ring.ra) →
    codes "ok " ++ decimal granted ++ codes "\n" ++ sample_lines (its_schedule c).format c.ring.r (take granted c.ring.held) ≡ taken_text (its_schedule c).format c.ring.r (taken n (running_of c))
read-answer c command input unmapped n granted was = ap₂ (λ count words. codes "ok " ++ decimal count ++ codes "\n" ++ sample_lines (its_schedule c).format c.ring.r words) (same ∙ sym long_words) its_words
  where
    step : IsInStep (its_schedule c) c.ring c.board
    step = in_step c command input

    k : ℕ
    k = min n (c.ring.w - c.ring.r)

    same : granted ≡ k
    same = omega (arith, was, step.level.m_w, unmapped)

    words : List ℕ
    words = take k (drop c.ring.r (samples (its_schedule c)))

    its_words : take granted c.ring.held ≡ words
    its_words = read-words c command input unmapped n granted was

    long_words : length words ≡ k
    long_words =
        omega (arith, step.within, command.planned.timely.within, length-take k (drop c.ring.r (samples (its_schedule c))), length-drop c.ring.r (samples (its_schedule c)), length-samples (its_schedule c))
