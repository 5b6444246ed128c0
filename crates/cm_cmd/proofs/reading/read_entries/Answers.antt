use Rattle.std.proofs.Common.{◌≡◌, ◌∙◌, ap, None, [], rules}
use Rattle.std.specs.List.{position}
use Rattle.cm_base.specs.Reading.{at_line}
use Rattle.cm_base.specs.ReadStop.{Stops}
use Rattle.cm_base.specs.Stops.{is_byte}
use Rattle.cm_cmd.proofs.Cuts.{entries_after, entry_more, entry_stops, last_entry, last_stops}
use Rattle.cm_cmd.proofs.reading.read_entries.Goals as goal

pub returns-in_err-push_entry : goal.returns-in_err-push_entry
returns-in_err-push_entry c =
    let stops : Stops c.in_err-push_entry.field-0.0 (at_line c.args.line (entries_after c.args.most [] c.args.text.now)) =
    entry_stops c.args.most c.args.line c.in_err-push_entry.field-0.0 (entries_after c.args.most [] c.args.text.now) c.loop-at.list.items c.loop-at.rest.now c.in-Some.at c.before-in-Some.result.now c.loop-at.invariant c.in-Some.ensures.place c.before-in-Some.ensures c.in_err-push_entry.ensures in
    search (rules, stops)

pub loop-at-preserved : goal.loop-at-preserved
loop-at-preserved c =
    c.loop-at.invariant
    ∙ entry_more c.args.most c.args.line c.loop-at.list.items c.loop-at.rest.now c.in-Some.at c.before-in-Some.result.now c.after-rest.result.now c.push_entry.new.list.items c.in-Some.ensures.place c.before-in-Some.ensures c.after-rest.ensures c.in_ok-push_entry.ensures

pub returns-in_err-push_entry-2 : goal.returns-in_err-push_entry-2
returns-in_err-push_entry-2 c =
    let end : position (is_byte 44) c.loop-at.rest.now ≡ None = cc in
    let stops : Stops c.in_err-push_entry-2.field-0.0 (at_line c.args.line (entries_after c.args.most [] c.args.text.now)) =
    last_stops c.args.most c.args.line c.in_err-push_entry-2.field-0.0 (entries_after c.args.most [] c.args.text.now) c.loop-at.list.items c.loop-at.rest.now c.loop-at.invariant end c.in_err-push_entry-2.ensures in
    search (rules, stops)

pub returns : goal.returns
returns c =
    let end : position (is_byte 44) c.loop-at.rest.now ≡ None = cc in
    ap (at_line c.args.line) (c.loop-at.invariant ∙ last_entry c.args.most c.loop-at.list.items c.loop-at.rest.now end) ∙ c.in_ok-push_entry-2.ensures
