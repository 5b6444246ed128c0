use Rattle.std.proofs.Common.{◌≡◌, ◌≤◌, ◌++◌, true, List, None, sym, ap, ◌∙◌, subst, rules}
use Rattle.std.proofs.lemmas.Result.{on_ok_weaker}
use Rattle.cm_text.specs.Outputs.{Output, output_texts}
use Rattle.cm_running.specs.CommandView.{its_schedule}
use Rattle.cm_running.specs.Putting.{Moves}
use Rattle.cm_running.specs.Running.{Running, arrived, due, is_out, put_out}
use Rattle.cm_running.specs.ToCome.{ToCome, end_shown}
use Rattle.cm_text.specs.declared.end.End.TheVariants.{Underrun}
use Rattle.cm_running.proofs.Pacing.{due-put, long, marked, put-command, running-put}
use Rattle.cm_running.proofs.command.Command.put_out.Goals as goal

pub put_due-reported-requires-clause-places : goal.put_due-reported-requires-clause-places
put_due-reported-requires-clause-places c =
    let output : is_out (its_schedule c.self.inside) ≡ true = subst (λ (r : Running). is_out r.schedule ≡ true) (sym c.self.view_is) c.requires.output in
    marked c.self.inside c.self.invariant output c.room.ensures.ring

pub put_due-reported-requires-clause-held : goal.put_due-reported-requires-clause-held
put_due-reported-requires-clause-held c = long c.self.inside.ring c.room.ensures.ring

pub invariant_of-self : goal.invariant_of-self
invariant_of-self c =
    let output : is_out (its_schedule c.self.inside) ≡ true = subst (λ (r : Running). is_out r.schedule ≡ true) (sym c.self.view_is) c.requires.output in
    let moves = subst (λ (b : ToCome). Moves c.self.inside.ring c.put_due-reported.new.ring c.self.inside.board b) (sym c.shown_end-self-inside.ensures.after) c.put_due-reported.ensures.moves in
    put-command c.self.inside c.self.invariant output c.put_due-reported.new.ring c.shown_end-self-inside.new.board moves _

pub returns-clause-after : goal.returns-clause-after
returns-clause-after c =
    let output : is_out (its_schedule c.self.inside) ≡ true = subst (λ (r : Running). is_out r.schedule ≡ true) (sym c.self.view_is) c.requires.output in
    let some : c.self.inside.ring.r ≤ arrived (its_schedule c.self.inside) c.args.time = subst (λ (r : Running). r.r ≤ arrived r.schedule c.args.time) (sym c.self.view_is) c.requires.ready in
    let moves = subst (λ (b : ToCome). Moves c.self.inside.ring c.put_due-reported.new.ring c.self.inside.board b) (sym c.shown_end-self-inside.ensures.after) c.put_due-reported.ensures.moves in
    let shown : c.shown_end-self-inside.result ≡ end_shown c.shown_end-self-inside.new.board (Underrun c.put_due-reported.new.ring.w) c.put_due-reported.new.ring.r (its_schedule c.self.inside).horizon c.args.time = search rules in
    on_ok_weaker c.put_due-reported.result (λ moved.
    running-put c.self.inside c.self.invariant output c.args.time c.put_due-reported.new.ring c.shown_end-self-inside.new.board some moves moved c.shown_end-self-inside.result shown
    ∙ ap (λ (r : Running). put_out r c.args.time) c.self.view_is) c.put_due-reported.ensures.ring

pub returns-clause-text : goal.returns-clause-text
returns-clause-text c =
    let output : is_out (its_schedule c.self.inside) ≡ true = subst (λ (r : Running). is_out r.schedule ≡ true) (sym c.self.view_is) c.requires.output in
    let some : c.self.inside.ring.r ≤ arrived (its_schedule c.self.inside) c.args.time = subst (λ (r : Running). r.r ≤ arrived r.schedule c.args.time) (sym c.self.view_is) c.requires.ready in
    let runs : c.self.inside.end ≡ None = ap (λ (r : Running). r.end) c.self.view_is ∙ c.requires.runs in
    on_ok_weaker c.put_due-reported.result (λ said.
    said ∙ ap (λ (os : List Output). c.args.text.now.items ++ output_texts os) (sym (due-put c.self.inside c.self.invariant output c.args.index c.args.time some runs) ∙ ap (due c.args.index c.args.time) c.self.view_is)) c.put_due-reported.ensures.text
