use Rattle.std.proofs.Common.{false, true, arith}
use Rattle.cm_board.specs.Table.{form_text}
use Rattle.cm_board_text.proofs.TableAt.{channel_place, none_of_channel, of_channel_is, own_place}
use Rattle.cm_board_text.proofs.lines.place_of.Goals as goal
use Rattle.cm_board_text.proofs.lines.place_of.Goals.{else-form-rows-via-then-form-rows+else-rows-form, else-form-rows-via-else-form-rows}

-- a line about a channel
pub returns-then-rows-form : goal.returns-then-rows-form
returns-then-rows-form c =
    channel_place c.args.rows.now (form_text c.args.form.now) c.args.values.now c.channel_of.result
    (of_channel_is c.args.rows.now c.args.form.now.row _ true c.if-form-rows.true c.if-rows-form.true) c.channel_of.ensures

-- one about the subdevice, or of no row
pub returns-else-form-rows : goal.returns-else-form-rows
returns-else-form-rows c =
    elim c.else-form-rows.branch [
      | else-form-rows-via-then-form-rows+else-rows-form w ↦ own_place c.args.rows.now (form_text c.args.form.now) c.args.values.now
          (of_channel_is c.args.rows.now c.args.form.now.row _ false w.if-form-rows.true w.if-rows-form.false)
      | else-form-rows-via-else-form-rows w ↦ own_place c.args.rows.now (form_text c.args.form.now) c.args.values.now
          (none_of_channel c.args.rows.now c.args.form.now.row (omega (arith, w.if-form-rows.false)))
    ]
