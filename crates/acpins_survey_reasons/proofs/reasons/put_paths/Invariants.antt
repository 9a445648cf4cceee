use Rattle.std.proofs.Common.{◌≡◌, ◌++◌, take}
use Rattle.std.specs.List.{flat_map}
use Rattle.acpi_name.specs.Text.{path_text}
use Rattle.acpins_survey_reasons.proofs.reasons.put_paths.Given as goal

abbrev pub invariant-loop-path : goal.invariant-loop-path
invariant-loop-path l = l.text ≡ l.initial.text ++ flat_map (λ y. l.between ++ path_text y) (take l.path-index l.rest)
