-- The answer to a text, or to a line, that is refused.
use Rattle.std.specs.Prelude.{ℕ, List, ◌++◌, codes}
use Rattle.std.specs.Fmt.{decimal}
use Rattle.cm_base.specs.declared.faults.Fault.{Fault}
use Rattle.cm_base.specs.declared.faults.Fault.TheVariants.{TooLong, BadLine, BadNumber, Unknown, Missing, Double}
use Rattle.cm_base.specs.declared.faults.Fault.TheVariants.{Limit, Bad}
use Rattle.cm_base.specs.declared.faults.Refused.{Refused}

-- the name of a fault in an answer
abbrev pub fault_name : Fault → List ℕ
fault_name TooLong = codes "TooLong"
fault_name BadLine = codes "BadLine"
fault_name BadNumber = codes "BadNumber"
fault_name Unknown = codes "Unknown"
fault_name Missing = codes "Missing"
fault_name Double = codes "Double"
fault_name Limit = codes "Limit"
fault_name Bad = codes "Bad"

-- the answer where a line is refused: its number and the cause
abbrev pub refused_text : Refused → List ℕ
refused_text r = codes "refused " ++ decimal r.line ++ codes " " ++ fault_name r.cause ++ codes "\n"
