-- What a soak of n conversions gives.
use Rattle.std.specs.Prelude.{ℕ, ◌==◌, List, [], ◌∷◌, if◌then◌else◌}
use Rattle.cm_job.specs.Calls.{plan_of}
use Rattle.cm_run.specs.SoakJob.{share, soak_board, soak_line, soak_signals}
use Rattle.cm_run.specs.SoakSums.{no_part, part_of}
use Rattle.cm_run.specs.SoakText.{summary_text}
use Rattle.cm_run.specs.declared.soak.part.Part.{Part}

-- the part of a subdevice: that of its line's command, and zeros where it has no line
abbrev pub soak_part : ℕ → ℕ → Part
soak_part n i = if share n i == 0 then no_part else part_of (plan_of soak_board soak_signals (soak_line i (share n i)))

-- the parts of the four subdevices
abbrev pub soak_parts : ℕ → List Part
soak_parts n = soak_part n 0 ∷ soak_part n 1 ∷ soak_part n 2 ∷ soak_part n 3 ∷ []

-- the text of a soak. The name stands for it unless it is unfolded
unfoldable pub soak_text : ℕ → List ℕ
soak_text n = summary_text n (soak_parts n)
