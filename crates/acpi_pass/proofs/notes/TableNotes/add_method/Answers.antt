-- What a wrong body leaves open is named here: its refusal then names it, and needs no second search.
use Rattle.std.proofs.Common.{rules}
use Rattle.std.proofs.lemmas.List.{map_push}
use Rattle.acpi_pass.proofs.notes.TableNotes.add_method.Goals as goal

pub returns : goal.returns
returns c = search (rules, map_push)
