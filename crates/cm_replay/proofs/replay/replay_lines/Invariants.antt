use Rattle.std.proofs.Common.{◌≤◌, drop}
use Rattle.cm_base.specs.Transfer.{IsUnderWay}
use Rattle.cm_replay.specs.Ready.{StaysReady}
use Rattle.cm_replay.specs.Replies.{AreMany, AreWhole}
use Rattle.cm_replay.specs.State.{State}
use Rattle.cm_replay.specs.Texts.{replay_text, texts_from}
use Rattle.cm_replay.proofs.replay.replay_lines.Given as goal

-- a prefix of the text is written, the next part waits, and the rest is answered to the lines that are left
abbrev pub invariant-loop-i : goal.invariant-loop-i
invariant-loop-i g l =
    let s = l.setting in
    let state : State = record { files = l.files; devices = l.seats.items } in record {
      many : AreMany s.board l.files l.seats.items;
      whole : AreWhole s.board l.seats.items;
      ready : StaysReady s state (drop l.i l.lines);
      way : IsUnderWay (g.K.Sink.text l.fn.sink) (g.K.Sink.text l.sink) l.text.items (texts_from s state (drop l.i l.lines)) (replay_text s l.lines);
      later : g.K.Sink.faults l.fn.sink ≤ g.K.Sink.faults l.sink;
    }
