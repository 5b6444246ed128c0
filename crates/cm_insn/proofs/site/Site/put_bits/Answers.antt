use Rattle.std.proofs.Common.{◌≡◌, ◌∙◌, ℕ, ap, arith, get_or, length, subst, sym}
use Rattle.cm_board.specs.Board.{SubText}
use Rattle.cm_insn.specs.Bits.{bit_put}
use Rattle.cm_sub.specs.State.{StateText}
use Rattle.cm_sub.specs.StateView.{state_text}
use Rattle.cm_insn.proofs.Words.{put_length, put_more}
use Rattle.cm_insn.proofs.site.Site.put_bits.Goals as goal

pub after_bits-value-requires-clause-value : goal.after_bits-value-requires-clause-value
after_bits-value-requires-clause-value c =
    let channels : c.sub.inside.channels ≡ c.args.self.now.sub.now.channels = ap (λ (s : SubText). s.channels) c.sub.view_is in
    let size = put_length c.args.self.now.sub.now c.args.mask c.args.bits c.loop-c.c c.args.state.now c.loop-c.state c.loop-c.invariant in
    omega (arith, channels, size)

pub after_bits-value-requires-clause-out : goal.after_bits-value-requires-clause-out
after_bits-value-requires-clause-out c =
    let channels : c.sub.inside.channels ≡ c.args.self.now.sub.now.channels = ap (λ (s : SubText). s.channels) c.sub.view_is in
    let size = ap (λ (s : StateText). length s.outs) c.loop-c.invariant in
    omega (arith, channels, size)

pub index_mut-requires : goal.index_mut-requires
index_mut-requires c =
    let channels : c.sub.inside.channels ≡ c.args.self.now.sub.now.channels = ap (λ (s : SubText). s.channels) c.sub.view_is in
    let size = put_length c.args.self.now.sub.now c.args.mask c.args.bits c.loop-c.c c.args.state.now c.loop-c.state c.loop-c.invariant in
    let seen : length c.state.inside.values.items ≡ length c.loop-c.state.values = ap (λ (s : StateText). length s.values) c.state.view_is in
    omega (arith, channels, size, seen, c.state.inside.values.ok.0)

pub loop-c-preserved : goal.loop-c-preserved
loop-c-preserved c =
    let sub : SubText = c.args.self.now.sub.now in
    let old : StateText = c.args.state.now in
    let i : ℕ = c.loop-c.c in
    let value : ℕ = c.after_bits-value.result in
    let channels : c.sub.inside.channels ≡ c.args.self.now.sub.now.channels = ap (λ (s : SubText). s.channels) c.sub.view_is in
    let put = subst (λ (s : StateText). value ≡ bit_put sub s.outs c.args.mask c.args.bits i (get_or s.values i 0)) (sym c.state.view_is) c.after_bits-value.ensures in
    put_more sub c.args.mask c.args.bits i value old (state_text c.state.inside) (c.state.view_is ∙ c.loop-c.invariant) (omega (arith, channels)) put

pub returns-clause-size : goal.returns-clause-size
returns-clause-size c = put_length c.args.self.now.sub.now c.args.mask c.args.bits c.loop-c.c c.args.state.now c.loop-c.state c.loop-c.invariant
