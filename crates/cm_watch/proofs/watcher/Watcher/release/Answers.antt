use Rattle.std.proofs.Common.{◌≡◌, ℕ, ◌-◌, ◌<◌, length, min, sym, ap, ◌∙◌, subst, arith, refl}
use Rattle.std.proofs.lemmas.List.{get_or_read}
use Rattle.std.proofs.lemmas.Option.{slice_get_read}
use Rattle.cm_client.specs.Waiting.{HasHandedOn}
use Rattle.cm_watch.specs.Told.{WatcherText, untold}
use Rattle.cm_watch.proofs.watcher.Watcher.release.Goals as goal

pub returns-clause-rung : goal.returns-clause-rung
returns-clause-rung c =
    let line = c.args.line in
    let told = c.self.inside.told.items in
    let boards = c.self.inside.boards.items in
    let board = c.index_mut-board.result.now in
    let within : line < length told = subst (λ (w : WatcherText). line < length w.told) (sym c.self.view_is) c.requires in
    let had = get_or_read told line c.index.result.now within c.index.ensures 0 in
    let count = c.saturating_sub-count.ensures ∙ ap (λ (n : ℕ). c.args.released - n) had in
    let more : c.min.result ≡ untold told line c.args.released = c.min.ensures ∙ λ i. min (count i) (c.from.ensures i) in
    rw (← c.self.view_is) record {
      before = board;
      after = c.add.new.self;
      had = slice_get_read boards (length boards) line board refl (omega (arith, within, c.self.invariant)) c.index_mut-board.ensures.value;
      set = refl;
      handed = subst (λ (n : ℕ). HasHandedOn n board c.go_on.new.self c.add.new.self) more record {
        awake = λ some. c.go_on.ensures;
        woken = λ some. c.add.ensures.woken;
        kept = c.add.ensures.kept;
      };
    }
