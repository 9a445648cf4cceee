use Rattle.std.proofs.Common.{◌≡◌, ◌^◌, ◌<◌, true, take}
use Rattle.std.specs.Str.{all_ascii_digits}
use Rattle.std.specs.Str.Parse.{digits_value}
use Rattle.acpins_survey_run.proofs.folders.number_of.Given as goal

abbrev pub invariant-loop-c : goal.invariant-loop-c
invariant-loop-c l = record {
  digits : all_ascii_digits (take l.c-index l.digits) ≡ true;
  number : l.number ≡ digits_value 10 (take l.c-index l.digits);
  small : l.number < 2 ^ 32;
}
