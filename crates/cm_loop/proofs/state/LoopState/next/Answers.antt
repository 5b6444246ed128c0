use Rattle.std.proofs.Common.{◌≡◌, ℕ, ◌+◌, ◌%◌, length, ap, ◌∙◌, refl, arith}
use Rattle.cm_loop.specs.State.{StateText}
use Rattle.cm_loop.proofs.States.{word_fits, filter_kept, state_ok, stands}
use Rattle.cm_loop.proofs.state.LoopState.next.Goals as goal

pub next_output-output-requires-clause-fits : goal.next_output-output-requires-clause-fits
next_output-output-requires-clause-fits c = word_fits c.self.inside.entries.items c.self.inside.entries.items c.self.inside.window c.self.inside.at c.self.inside.count c.self.invariant c.args.word c.args.self.now c.self.view_is c.requires.fits

pub invariant_of-self : goal.invariant_of-self
invariant_of-self c =
    let size : c.len.result ≡ length c.next_output-output.new.entries.items = omega arith in
    state_ok c.self.inside.entries.items c.next_output-output.new.entries.items c.self.inside.window c.self.inside.at c.self.inside.count c.self.invariant c.args.word c.next_output-output.result c.next_output-output.ensures _ _
    (c.next_index-self-inside.ensures.value ∙ ap (λ (n : ℕ). (c.self.inside.at + 1) % n) size) refl

pub returns-clause-rule : goal.returns-clause-rule
returns-clause-rule c =
    filter_kept c.self.inside.entries.items c.next_output-output.new.entries.items c.self.inside.window c.self.inside.at c.self.inside.count c.self.invariant c.args.word c.next_output-output.result c.next_output-output.ensures
    ∙ ap (λ (s : StateText). s.rule) c.self.view_is

pub returns-clause-next : goal.returns-clause-next
returns-clause-next c = stands c.self.inside.entries.items c.next_output-output.new.entries.items c.self.inside.window c.self.inside.at c.self.inside.count c.self.invariant c.args.word c.next_output-output.result c.next_output-output.ensures _ refl c.args.self.now
    c.self.view_is
