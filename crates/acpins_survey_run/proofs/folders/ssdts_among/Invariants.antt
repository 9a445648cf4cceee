use Rattle.std.proofs.Common.{◌≡◌, map, take, string_bytes}
use Rattle.acpins_survey_run.specs.Folders.{numbered_ssdts}
use Rattle.acpins_survey_run.proofs.Ssdts.{lent_pair, name_of}
use Rattle.acpins_survey_run.proofs.folders.ssdts_among.Given as goal

abbrev pub invariant-loop-name : goal.invariant-loop-name
invariant-loop-name l = map lent_pair l.numbered.items ≡ numbered_ssdts l.extension (map string_bytes (take l.name-index l.names))

abbrev pub invariant-loop-pair : goal.invariant-loop-pair
invariant-loop-pair l = map (λ s. s.now) l.ssdts.items ≡ map name_of (map lent_pair (take l.pair-index l.pair-items))
