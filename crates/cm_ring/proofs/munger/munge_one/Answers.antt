use Rattle.std.proofs.Common.{◌<◌, ◌+◌, ap, arith}
use Rattle.cm_ring.proofs.Mungers.{raw_fits, ran_one}
use Rattle.cm_ring.proofs.munger.munge_one.Goals as goal

pub overflow_cast-raw : goal.overflow_cast-raw
overflow_cast-raw g c =
    let h : c.load_raw_cell-raw.result < 4294967296 = raw_fits _ c.args.seat.now.me.0 c.load_raw_cell-raw.new.seat.me.0 c.args.seat.now.me.0 c.args.place _ _ c.requires.may (ap (λ n. n + 5) c.requires.cell) c.load_raw_cell-raw.ensures.gives in
    omega arith

pub returns-clause-run : goal.returns-clause-run
returns-clause-run g c = ran_one c.args.rule.now c.args.seat.now.me.0 c.load_raw_cell-raw.new.seat.me.0 c.munge_cell.new.seat.me.0 _ _ _ c.load_raw_cell-raw.ensures.gives c.munge_cell.ensures.gives
