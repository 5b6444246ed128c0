use Rattle.std.proofs.Common.{◌+◌, ◌≤◌, length, take, ap, subst, ◌∙◌}
use Rattle.cm_client.specs.Progress.{HasRead}
use Rattle.cm_client.proofs.Pieces.{all_after, all_same, copied_piece, piece_accepted}
use Rattle.cm_client.proofs.reading.copy_piece.Goals as goal

pub consume-requires : goal.consume-requires
consume-requires g c =
    let r = c.args.reader.now in
    let count = c.copy_read-count.result in
    let within : r.part.released + count ≤ length r.ring.samples = c.copy_read-count.ensures.within c.requires.some in
    piece_accepted _ _ _ _ r (take count c.copy_read-count.new.out) count c.requires.all within
    (ap (take count) c.copy_read-count.ensures.copied ∙ copied_piece r.ring r.part.released count _ within)

pub returns-then-count-eq0-clause-all : goal.returns-then-count-eq0-clause-all
returns-then-count-eq0-clause-all g c =
    let r = c.args.reader.now in
    let new = c.copy_read-count.new.reader in
    let read : HasRead r new c.copy_read-count.result = record { same = c.copy_read-count.ensures.same; within = c.copy_read-count.ensures.within c.requires.some } in
    all_same _ _ _ _ r new c.requires.all (subst (HasRead r new) c.if-count-eq0.true read)

pub returns-clause-all : goal.returns-clause-all
returns-clause-all g c =
    let r = c.args.reader.now in
    let new = c.copy_read-count.new.reader in
    let count = c.copy_read-count.result in
    let within : r.part.released + count ≤ length r.ring.samples = c.copy_read-count.ensures.within c.requires.some in
    let read : HasRead r new count = record { same = c.copy_read-count.ensures.same; within = within } in
    all_after _ _ count _ _ _ _ _ _ r new (take count c.copy_read-count.new.out) c.requires.all read
    (ap (take count) c.copy_read-count.ensures.copied ∙ copied_piece r.ring r.part.released count _ within)
    c.in_ok-consume.ensures.count c.in_ok-consume.ensures.made c.consume.ensures.makes c.consume.ensures.accepts
