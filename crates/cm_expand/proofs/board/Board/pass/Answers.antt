use Rattle.std.proofs.Common.{◌≡◌, ◌+◌, refl, sym, ap, ◌∙◌, subst, Option, arith}
use Rattle.std.specs.Prelude.{slice_get, MatchOption, Some, None}
use Rattle.cm_expand.specs.Board.{BoardState}
use Rattle.cm_expand.specs.Items.{items_of}
use Rattle.cm_expand.specs.PlanView.{plan_text}
use Rattle.cm_expand.specs.declared.conv.Conv.{Conv}
use Rattle.cm_expand.specs.declared.timing.Next.TheVariants.{At}
use Rattle.cm_expand.proofs.Boards.{board_follows, board_item, no_point, board_room, no_timing, runs_at}
use Rattle.cm_expand.proofs.board.Board.pass.Goals as goal

-- what is there decides what has changed
Changes : BoardState → BoardState → Option Conv → Type 0
Changes old new there = MatchOption there (new ≡ old) (λ _. new ≡ record old { place = old.place + 1 })

-- where nothing is left nothing has changed
stays : (old : BoardState) (there : Option Conv) → there ≡ None → Changes old old there
unfolding Changes
stays old there none = subst (Changes old old) (sym none) refl

-- where a conversion is there the place is the next one
passes : (old new : BoardState) (there : Option Conv) (conv : Conv) → there ≡ Some conv → new ≡ record old { place = old.place + 1 } → Changes old new there
unfolding Changes
passes old new there conv some next = subst (Changes old new) (sym some) next

pub returns-in_default : goal.returns-in_default
unfolding Changes
returns-in_default c =
    let b = c.self.inside in
    stays c.args.self.now (slice_get (items_of c.args.self.now.plan) c.args.self.now.place)
    (sym (ap (λ (text : BoardState). slice_get (items_of text.plan) text.place) c.self.view_is) ∙ no_timing (plan_text b.plan) b.place b.timing b.point c.in_default.is c.self.invariant.board)

pub returns-in_default-point : goal.returns-in_default-point
unfolding Changes
returns-in_default-point c =
    let b = c.self.inside in
    stays c.args.self.now (slice_get (items_of c.args.self.now.plan) c.args.self.now.place)
    (sym (ap (λ (text : BoardState). slice_get (items_of text.plan) text.place) c.self.view_is) ∙ no_point (plan_text b.plan) b.place b.timing b.point c.in_default-point.not-At c.self.invariant.board)

pub overflow_add-self : goal.overflow_add-self
overflow_add-self c =
    let b = c.self.inside in
    let is = runs_at (plan_text b.plan) b.place b.timing b.point (At c.in-At.point) c.in-Some.timing c.in-Some.is c.in-At.is c.self.invariant.board in
    let room = board_room (plan_text b.plan) b.place (record { timing = c.in-Some.timing; point = c.in-At.point }) is in
    omega arith

pub invariant_of-self : goal.invariant_of-self
invariant_of-self c =
    let b = c.self.inside in
    let is = runs_at (plan_text b.plan) b.place b.timing b.point (At c.in-At.point) c.in-Some.timing c.in-Some.is c.in-At.is c.self.invariant.board in
    let following = c.following-self-inside in
    record {
      board = board_follows (plan_text b.plan) b.place b.timing c.in-Some.timing c.in-At.point following.result c.in-Some.is is following.ensures.rest following.ensures.full following.ensures.point following.ensures.index;
      items = c.self.invariant.items;
    }

pub returns : goal.returns
unfolding Changes
returns c =
    let b = c.self.inside in
    let is = runs_at (plan_text b.plan) b.place b.timing b.point (At c.in-At.point) c.in-Some.timing c.in-Some.is c.in-At.is c.self.invariant.board in
    passes c.args.self.now _ (slice_get (items_of c.args.self.now.plan) c.args.self.now.place) _
    (sym (ap (λ (text : BoardState). slice_get (items_of text.plan) text.place) c.self.view_is) ∙ board_item (plan_text b.plan) b.place (record { timing = c.in-Some.timing; point = c.in-At.point }) is)
    (ap (λ (text : BoardState). record text { place = text.place + 1 }) c.self.view_is)
