use Rattle.std.proofs.Common.{◌≡◌, map, take, string_bytes}
use Rattle.acpins_survey_run.specs.Folders.{dsdts_among}
use Rattle.acpins_survey_run.proofs.Ssdts.{lent_both}
use Rattle.acpins_survey_run.proofs.folders.dsdts_among.Given as goal

abbrev pub invariant-loop-name : goal.invariant-loop-name
invariant-loop-name l = map lent_both l.dsdts.items ≡ dsdts_among (map string_bytes (take l.name-index l.names))
