-- Checks in their order, and the errors with which they refuse.
use Rattle.std.specs.Prelude.{ℕ, Bool, List, [], ◌∷◌, ◌++◌, Option, Some, None, codes, if◌then◌else◌}
use Rattle.std.specs.Fmt.{decimal}
use Rattle.cm_sub.specs.declared.errno.Errno.{Errno}
use Rattle.cm_sub.specs.declared.errno.Errno.TheVariants as errors

-- the number of an error
abbrev pub number_of : Errno → ℕ
number_of errors.Io = 5
number_of errors.Again = 11
number_of errors.Access = 13
number_of errors.Busy = 16
number_of errors.NoDev = 19
number_of errors.Inval = 22
number_of errors.Pipe = 32

-- the answer that refuses with an error
abbrev pub refused_text : Errno → List ℕ
refused_text error = codes "err " ++ decimal (number_of error) ++ codes "\n"

-- a check that refuses with an error where its test holds
abbrev pub refuse : Errno → Bool → Option Errno
refuse error test = if test then Some error else None

-- the error of the first check that refuses
abbrev pub first_refusal : List (Option Errno) → Option Errno
first_refusal [] = None
first_refusal (Some error ∷ rest) = Some error
first_refusal (None ∷ rest) = first_refusal rest
