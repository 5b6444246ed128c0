use Rattle.std.proofs.Common.{◌≡◌, refl, sym, subst}
use Rattle.std.proofs.lemmas.List.Elements.{All-map}
use Rattle.cm_client.specs.Waiting.{AlarmText, HaveRung}
use Rattle.cm_watch.specs.Told.{rung}
use Rattle.cm_watch.proofs.watcher.Watcher.wait.Goals as goal

pub wait-requires : goal.wait-requires
wait-requires g c =
    subst HaveRung (sym c.wake_all.ensures) (All-map (λ (alarm : AlarmText). alarm.count ≡ 0) rung _ (λ k d below. refl))
