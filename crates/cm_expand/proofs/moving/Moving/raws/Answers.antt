use Rattle.std.proofs.Common.{ap, ◌∙◌, length, map, ℕ}
use Rattle.std.proofs.lemmas.List.{length-take-le}
use Rattle.cm_signal.specs.Signals.{wave_level}
use Rattle.cm_signal.specs.Adding.{progression}
use Rattle.cm_expand.proofs.Raws.{raws_at}
use Rattle.cm_expand.proofs.moving.Moving.raws.Goals as goal

pub returns : goal.returns
returns c =
    let m = c.args.self.now in
    let count = length c.args.words.now in
    raws_at m c.put_coded.new.words _ (progression c.args.first c.args.step count) c.put_coded.ensures (c.levels.ensures ∙ ap (λ (n : ℕ). map (wave_level m.wave) (progression c.args.first c.args.step n)) (length-take-le count _ c.requires.few))
