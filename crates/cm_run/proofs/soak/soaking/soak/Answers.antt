use Rattle.std.proofs.Common.{◌≡◌, ◌∙◌, IfOk, List, sym, ap, subst}
use Rattle.std.specs.List.{All}
use Rattle.cm_job.specs.Job.{RunJobText}
use Rattle.cm_run.specs.SoakSums as spec
use Rattle.cm_run.specs.declared.soak.part.Part.{Part}
use Rattle.cm_run.proofs.SoakJobs.{job_soaks, soak_parts_are}
use Rattle.cm_run.proofs.soak.soaking.soak.Goals as goal

pub sum_lines-requires-after_bounds : goal.sum_lines-requires-after_bounds
sum_lines-requires-after_bounds g c κs within =
    subst (λ (j : RunJobText). All spec.IsSoakLine j.lines) (sym c.requires.job) (job_soaks c.args.n c.requires.n.1)

pub returns-clause-parts : goal.returns-clause-parts
returns-clause-parts g c =
    subst (λ (parts : List Part). IfOk c.sum_lines.result (λ s. s.summary.parts ≡ parts))
    (ap (λ (j : RunJobText). spec.parts_of j.board j.signals j.lines) c.requires.job ∙ soak_parts_are c.args.n) c.sum_lines.ensures.parts

pub returns-clause-readers : goal.returns-clause-readers
returns-clause-readers g c =
    subst (λ (j : RunJobText). IfOk c.sum_lines.result (λ s. spec.AreWhole j.board j.signals j.lines s.readers.items)) c.requires.job c.sum_lines.ensures.readers
