use Rattle.std.proofs.Common.{◌∷◌, ◌∙◌, append_assoc}
use Rattle.std.specs.Fmt.{decimal}
use Rattle.cm_cmd.specs.CommandText.{trigger_text}
use Rattle.cm_cmd.specs.ListText.{list_text}
use Rattle.cm_cmd.specs.View.{cmd_text}
use Rattle.cm_cmd.proofs.Parts.{eight_written}
use Rattle.cm_base.proofs.Pieces.{on_ok}
use Rattle.cm_cmd.proofs.printing.put_cmd.Goals as goal

pub returns : goal.returns
returns c =
    let cmd = cmd_text c.cmd.inside in
    rw (← c.cmd.view_is) (on_ok c.put_list.result _ _ c.put_list.ensures (λ e.
    eight_written _ _ _ _ _ _ _ _ (decimal cmd.sub) (decimal cmd.flags) (trigger_text cmd.start) (trigger_text cmd.scan_begin) (trigger_text cmd.convert) (trigger_text cmd.scan_end) (trigger_text cmd.stop) (list_text cmd.list)
    (c.in_ok-put_head.ensures ∙ append_assoc c.args.out.now.items (decimal cmd.sub) (32 ∷ decimal cmd.flags)) c.in_ok-put_trigger.ensures c.in_ok-put_trigger-2.ensures c.in_ok-put_trigger-3.ensures c.in_ok-put_trigger-4.ensures c.in_ok-put_trigger-5.ensures (rw c.deref.ensures.value at e)))
