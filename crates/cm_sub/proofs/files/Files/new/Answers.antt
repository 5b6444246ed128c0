use Rattle.std.proofs.lemmas.List.{take-replicate}
use Rattle.cm_sub.specs.Claims.{nobody}
use Rattle.cm_sub.specs.Files.{no_files}
use Rattle.cm_sub.proofs.files.Files.new.Goals as goal

pub returns : goal.returns
returns c = λ i. record { are_open = (no_files c.args.subs).are_open; claims = take-replicate c.args.subs 16 nobody c.requires i }
