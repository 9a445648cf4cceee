use Rattle.std.proofs.Common.{◌≡◌, ◌++◌, drop}
use Rattle.acpi_pass.specs.Links.{answers}
use Rattle.acpi_pass.specs.Namespace.{namespace_of}
use Rattle.acpi_pass.proofs.links.answers_of.Given as goal

abbrev pub invariant-loop-name : goal.invariant-loop-name
invariant-loop-name g l =
    l.found.items ++ answers (namespace_of (g.S.Space.contents l.objects)) l.scope (drop l.name-index l.names) ≡ answers (namespace_of (g.S.Space.contents l.objects)) l.scope l.names
