-- Commands of outputs, and commands before their first conversion.
use Rattle.std.proofs.Common.{◌≡◌, ℕ, ◌+◌, ◌-◌, ◌<◌, ◌≤◌, ◌^◌, min, Bool, true, false, List, [], length, take, drop, Option, None, refl, sym, ap, ap₂, ◌∙◌, arith, subst, drop-drop, length-drop}
use Rattle.std.specs.Prelude.{if◌then◌else◌}
use Rattle.std.proofs.lemmas.Bool.{cond-true}
use Rattle.cm_sample.specs.Rule.{RuleText, map_from, munged_word}
use Rattle.cm_ring_core.specs.Pushed.{munged_to}
use Rattle.cm_running.specs.Writing.{mark_on, munged_within}
use Rattle.cm_ring_core.specs.Local.{IsFresh, IsRing, Ring}
use Rattle.cm_running.specs.CommandView.{IsCommand, IsPaced, IsServed, its_schedule, running_of}
use Rattle.cm_expand.specs.Taking.{come}
use Rattle.cm_running.specs.Putting.{Moves, emptied, going, without}
use Rattle.cm_running.specs.Running.{Schedule, arrived, due, end_by, is_out, munge_in, outputs, put_by, put_out, samples, started}
use Rattle.cm_running.specs.ToCome.{ToCome, all_to_come, end_shown, left_after}
use Rattle.cm_running.specs.declared.command.Command.TheInside.{Inside}
use Rattle.cm_text.specs.declared.end.End.{End}
use Rattle.cm_text.specs.declared.end.End.TheVariants.{Underrun}
use Rattle.cm_expand.proofs.Come.{come-drop}
use Rattle.cm_running.proofs.Bringing.{end_shown-right}
use Rattle.cm_running.proofs.Commands.{later, missed-output, paced}

-- all that is marked has a place
pub marked : (c : Inside) → IsCommand c → is_out (its_schedule c) ≡ true → IsRing c.ring → c.ring.w < 2 ^ 62
marked c command output ring =
    let step = paced c command output in
    omega (arith, command.planned.few, command.planned.small, command.planned.timely.within, step.within, step.size, ring.w_a, ring.room)

pub long : (ring : Ring) → IsRing ring → ring.w - ring.r ≤ length ring.held
long ring is = omega (arith, is.count, is.w_a)

-- moving words and conversions on keeps them in step
put-paced : (s : Schedule) (old new : Ring) (before after : ToCome) → IsPaced s old before → Moves old new before after → IsPaced s new after
put-paced s old new before after step moves = record {
  m_w = ap (λ (r : Ring). r.m) moves.ring ∙ step.m_w ∙ sym (ap (λ (r : Ring). r.w) moves.ring);
  munge = ap (λ (r : Ring). munged_word r.rule) moves.ring ∙ step.munge;
  size = ap (λ (r : Ring). r.size) moves.ring ∙ step.size;
  unmapped = ap (λ (r : Ring). r.ra) moves.ring ∙ sym (ap (λ (r : Ring). r.r) moves.ring);
  r_w = omega (arith, step.r_w, moves.few, ap (λ (r : Ring). r.r) moves.ring, ap (λ (r : Ring). r.w) moves.ring);
  within = omega (arith, step.within, moves.come, ap (λ (r : Ring). r.r) moves.ring, ap (λ (b : ToCome). length b.conversions) step.ahead, length-drop old.r s.arrivals);
  ahead = moves.board ∙ ap (without moves.count) step.ahead
      ∙ ap (λ cs. let t : ToCome = record { conversions = cs; complete = s.complete; edge = s.edge; lost_at = s.lost_at } in t) (drop-drop moves.count old.r s.arrivals ∙ ap (λ k. drop k s.arrivals) (sym (ap (λ (r : Ring). r.r) moves.ring)));
}

pub put-command : (c : Inside) → IsCommand c → is_out (its_schedule c) ≡ true → (ring : Ring) (board : ToCome) → Moves c.ring ring c.board board → (end : Option End) → IsCommand (later c ring board end)
put-command c command output ring board moves end = record {
  planned = command.planned;
  out = command.out;
  served = subst (λ b. IsServed b (its_schedule c) ring board) (sym (command.out ∙ output)) (put-paced (its_schedule c) c.ring ring c.board board (paced c command output) moves);
  lines = command.lines;
  looks = command.looks;
}

put-place : (c : Inside) → IsCommand c → is_out (its_schedule c) ≡ true → (time : ℕ) → c.ring.r ≤ arrived (its_schedule c) time → c.ring.r + going c.ring c.board.conversions time ≡ put_by (running_of c) time
put-place c command output time some =
    let step = paced c command output in
    let after : come time c.board.conversions ≡ arrived (its_schedule c) time - c.ring.r = ap (λ (b : ToCome). come time b.conversions) step.ahead ∙ come-drop time c.ring.r (its_schedule c).arrivals command.planned.timely.order some in
    omega (arith, after, some, step.r_w)

pub running-put : (c : Inside) → IsCommand c → is_out (its_schedule c) ≡ true → (time : ℕ) (ring : Ring) (board : ToCome) → c.ring.r ≤ arrived (its_schedule c) time → Moves c.ring ring c.board board →
    ring ≡ emptied c.ring c.board.conversions time → (end : Option End) → end ≡ end_shown board (Underrun ring.w) ring.r (its_schedule c).horizon time → running_of (later c ring board end) ≡ put_out (running_of c) time
running-put c command output time ring board some moves moved end shown =
    let s = its_schedule c in
    let out : c.out ≡ true = command.out ∙ output in
    let place : c.ring.r + going c.ring c.board.conversions time ≡ put_by (running_of c) time = put-place c command output time some in
    let same_r : ring.r ≡ put_by (running_of c) time = ap (λ (r : Ring). r.r) moved ∙ place in
    let same_ra : ring.ra ≡ put_by (running_of c) time = ap (λ (r : Ring). r.ra) moved ∙ place in
    let same_w : ring.w ≡ c.ring.w = ap (λ (r : Ring). r.w) moved in
    let same_a : ring.a ≡ c.ring.a = ap (λ (r : Ring). r.a) moved in
    let count : going c.ring c.board.conversions time ≡ put_by (running_of c) time - c.ring.r = omega (arith, place) in
    let left : (if c.out then ring.held else []) ≡ drop (put_by (running_of c) time - c.ring.r) (if c.out then c.ring.held else []) =
    cond-true c.out ring.held [] out ∙ ap (λ (r : Ring). r.held) moved ∙ ap (λ n. drop n c.ring.held) count ∙ ap (drop (put_by (running_of c) time - c.ring.r)) (sym (cond-true c.out c.ring.held [] out)) in
    let ahead : board ≡ left_after (put_by (running_of c) time) s = (put-paced s c.ring ring c.board board (paced c command output) moves).ahead ∙ ap (λ n. left_after n s) same_r in
    let its_end : end ≡ end_by s c.ring.w time =
    shown ∙ ap₂ (λ (b : ToCome) k. end_shown b (Underrun ring.w) k s.horizon time) ahead same_r
    ∙ end_shown-right s (Underrun ring.w) c.ring.w (put_by (running_of c) time) time command.planned.timely.order command.planned.timely refl
    (λ over. ap Underrun same_w ∙ sym (missed-output s c.ring.w output)) in
    λ i. record { schedule = s; r = same_r i; ra = same_ra i; w = same_w i; a = same_a i; words = left i; end = its_end i }

-- what is put out
pub due-put : (c : Inside) → IsCommand c → is_out (its_schedule c) ≡ true → (index time : ℕ) → c.ring.r ≤ arrived (its_schedule c) time → c.end ≡ None →
    due index time (running_of c) ≡ outputs index (take (going c.ring c.board.conversions time) c.board.conversions) c.ring.held
due-put c command output index time some runs =
    let s = its_schedule c in
    let count : put_by (running_of c) time - c.ring.r ≡ going c.ring c.board.conversions time = omega (arith, put-place c command output time some) in
    unended runs ∙ cond-true (is_out s) (outputs index (take (put_by (running_of c) time - c.ring.r) (drop c.ring.r s.arrivals)) (if c.out then c.ring.held else [])) [] output
    ∙ ap₂ (λ n held. outputs index (take n (drop c.ring.r s.arrivals)) held) count (cond-true c.out c.ring.held [] (command.out ∙ output))
    ∙ ap (λ (b : ToCome). outputs index (take (going c.ring c.board.conversions time) b.conversions) c.ring.held) (sym (paced c command output).ahead)
  where
    unended : c.end ≡ None → due index time (running_of c) ≡ (if is_out (its_schedule c) then outputs index (take (put_by (running_of c) time - c.ring.r) (drop c.ring.r (its_schedule c).arrivals)) (if c.out then c.ring.held else []) else [])
    unended runs = rw runs refl

-- an empty ring and a board before its first conversion serve a command
pub fresh-served : (out : Bool) (s : Schedule) (ring : Ring) (board : ToCome) (rule : RuleText) (size : ℕ) → IsFresh ring rule size → munged_word rule ≡ munge_in s → size ≡ s.size → board ≡ all_to_come s → IsServed out s ring board
fresh-served false s ring board rule size fresh munges its_size all = record {
  level = record { m_w = fresh.m ∙ sym fresh.w; w_a = fresh.w ∙ sym fresh.a };
  munge = ap munged_word fresh.its_rule ∙ munges;
  size = fresh.its_size ∙ its_size;
  r_ra = omega (arith, fresh.r, fresh.ra);
  ra_w = omega (arith, fresh.ra, fresh.w);
  within = omega (arith, fresh.w);
  w_room = omega (arith, fresh.w);
  held = fresh.held ∙ sym (ap₂ (λ r w. drop r (take w (samples s))) fresh.r fresh.w);
  ahead = all ∙ ap (λ w. left_after w s) (sym fresh.w);
}
fresh-served true s ring board rule size fresh munges its_size all = record {
  m_w = fresh.m ∙ sym fresh.w;
  munge = ap munged_word fresh.its_rule ∙ munges;
  size = fresh.its_size ∙ its_size;
  unmapped = fresh.ra ∙ sym fresh.r;
  r_w = omega (arith, fresh.r);
  within = omega (arith, fresh.r);
  ahead = all ∙ ap (λ r. left_after r s) (sym fresh.r);
}

either : (out : Bool) (held : List ℕ) → held ≡ [] → (if out then held else []) ≡ []
either true held e = e
either false held e = refl

pub fresh-view : (c : Inside) (rule : RuleText) (size : ℕ) → IsFresh c.ring rule size → c.end ≡ None → running_of c ≡ started (its_schedule c)
fresh-view c rule size fresh runs = λ i. record {
  schedule = its_schedule c;
  r = fresh.r i;
  ra = fresh.ra i;
  w = fresh.w i;
  a = fresh.a i;
  words = either c.out c.ring.held fresh.held i;
  end = runs i;
}

-- there are places for all that is allocated
pub allocated : (c : Inside) → IsCommand c → IsRing c.ring → c.ring.a < 2 ^ 62
allocated c command ring = by_out c.out command.served
  where
    by_out : (out : Bool) → IsServed out (its_schedule c) c.ring c.board → c.ring.a < 2 ^ 62
    by_out true step = omega (arith, command.planned.few, command.planned.small, command.planned.timely.within, step.within, step.size, ring.room)
    by_out false step = omega (arith, command.planned.few, command.planned.small, command.planned.timely.within, step.within, step.level.w_a)

-- a buffer of which nothing was served serves another schedule
pub served-anew : (out : Bool) (s t : Schedule) (ring : Ring) (before after : ToCome) → IsServed out s ring before → (if out then ring.r else ring.w) ≡ 0 → munge_in t ≡ munge_in s → t.size ≡ s.size → after ≡ all_to_come t → IsServed out t ring after
served-anew false s t ring before after step none munges size all =
    let r : ring.r ≡ 0 = omega (arith, step.r_ra, step.ra_w) in
    record {
      level = step.level;
      munge = step.munge ∙ sym munges;
      size = step.size ∙ sym size;
      r_ra = step.r_ra;
      ra_w = step.ra_w;
      within = omega arith;
      w_room = omega (arith, step.w_room, size);
      held = step.held ∙ ap₂ (λ r w. drop r (take w (samples s))) r none ∙ sym (ap₂ (λ r w. drop r (take w (samples t))) r none);
      ahead = all ∙ ap (λ w. left_after w t) (sym none);
    }
served-anew true s t ring before after step none munges size all = record {
  m_w = step.m_w;
  munge = step.munge ∙ sym munges;
  size = step.size ∙ sym size;
  unmapped = step.unmapped;
  r_w = step.r_w;
  within = omega arith;
  ahead = all ∙ ap (λ r. left_after r t) (sym none);
}

-- words that were marked are munged
pub marked-view : (c : Inside) → IsCommand c → is_out (its_schedule c) ≡ true → (k granted : ℕ) (moved ring : Ring) → k ≤ c.ring.a - c.ring.w → granted ≡ min k (c.ring.a - c.ring.w) → moved ≡ record c.ring { w = c.ring.w + granted } →
    ring ≡ munged_to moved moved.w → running_of (record c { ring = ring }) ≡ mark_on k (running_of c)
marked-view c command output k granted moved ring filled count after munges =
    let s = its_schedule c in
    let step = paced c command output in
    let out : c.out ≡ true = command.out ∙ output in
    let all : granted ≡ k = omega (arith, count) in
    let whole : ring ≡ munged_to (record c.ring { w = c.ring.w + k }) (c.ring.w + k) =
    munges ∙ ap (λ (r : Ring). munged_to r r.w) after ∙ ap (λ n. munged_to (record c.ring { w = c.ring.w + n }) (c.ring.w + n)) all in
    let held : ring.held ≡ map_from (munged_within (munge_in s) c.ring.w (c.ring.w + k)) c.ring.r c.ring.held =
    ap (λ (r : Ring). r.held) whole ∙ ap₂ (λ low munge. map_from (munged_within munge low (c.ring.w + k)) c.ring.r c.ring.held) step.m_w step.munge in
    let words : (if c.out then ring.held else []) ≡ map_from (munged_within (munge_in s) c.ring.w (c.ring.w + k)) c.ring.r (if c.out then c.ring.held else []) =
    cond-true c.out ring.held [] out ∙ held ∙ ap (map_from (munged_within (munge_in s) c.ring.w (c.ring.w + k)) c.ring.r) (sym (cond-true c.out c.ring.held [] out)) in
    λ i. record {
      schedule = s;
      r = ap (λ (r : Ring). r.r) whole i;
      ra = ap (λ (r : Ring). r.ra) whole i;
      w = ap (λ (r : Ring). r.w) whole i;
      a = ap (λ (r : Ring). r.a) whole i;
      words = words i;
      end = c.end;
    }
