use Rattle.std.proofs.Common.{List, ℕ, ◌++◌, ap, ◌∙◌}
use Rattle.cm_serve.specs.Subdevices.{channel_text}
use Rattle.cm_running.proofs.Texts.{text_more}
use Rattle.cm_serve.proofs.subdevices.put_channels.Goals as goal

pub loop-chan-preserved : goal.loop-chan-preserved
loop-chan-preserved c =
    c.in_ok-put_channel.ensures
    ∙ ap (λ (text : List ℕ). text ++ channel_text c.args.sub.now c.loop-chan.chan) c.loop-chan.invariant
    ∙ text_more (channel_text c.args.sub.now) c.args.text.now.items c.loop-chan.chan
