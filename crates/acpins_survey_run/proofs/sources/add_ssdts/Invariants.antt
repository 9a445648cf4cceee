use Rattle.std.proofs.Common.{◌≡◌, ◌++◌, map, take, string_bytes}
use Rattle.acpins_survey_run.proofs.Gathering.{lent_path}
use Rattle.acpins_survey_run.proofs.sources.add_ssdts.Given as goal

abbrev pub invariant-loop-name : goal.invariant-loop-name
invariant-loop-name l = map string_bytes l.files.items ≡ map string_bytes l.fn.files.items ++ map (lent_path l.folder) (take l.name-index l.name-items)
