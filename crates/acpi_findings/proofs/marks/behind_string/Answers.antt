use Rattle.std.proofs.Common.{◌∙◌, length, drop, ap}
use Rattle.std.proofs.lemmas.List.{drop-drop}
use Rattle.acpi_findings.proofs.marks.behind_string.Goals as goal

pub returns : goal.returns
returns c = c.bytes_behind-2.ensures ∙ ap (drop 2) c.bytes_behind.ensures ∙ drop-drop 2 (length c.args.text.now) c.args.bytes.now
