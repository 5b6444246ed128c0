use Rattle.std.proofs.Common.{◌≡◌, ◌^◌, ◌<◌, drop, take}
use Rattle.std.specs.Char.{is_ascii_digit}
use Rattle.std.specs.List.{list_all}
use Rattle.std.specs.Str.Parse.{digits_value}
use Rattle.cm_base.proofs.numbers.value_of_8.Given as goal

-- the number that the digits so far write
abbrev pub invariant-loop-at : goal.invariant-loop-at
invariant-loop-at l = record {
  value : l.value ≡ digits_value 10 (take l.at l.word);
  short : l.value < 10 ^ l.at;
  digits : list_all is_ascii_digit l.word ≡ list_all is_ascii_digit (drop l.at l.word);
}
