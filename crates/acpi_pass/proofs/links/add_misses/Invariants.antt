use Rattle.std.proofs.Common.{◌≡◌, ◌++◌, drop}
use Rattle.acpi_pass.specs.Namespace.{namespace_of}
use Rattle.acpi_pass.specs.steps.Missing.{misses_from}
use Rattle.acpi_pass.proofs.links.add_misses.Given as goal

abbrev pub invariant-loop-name : goal.invariant-loop-name
invariant-loop-name g l =
    l.missed.items ++ misses_from (g.Q.Wanted.wanted l.wanted) (namespace_of (g.S.Space.contents l.objects)) l.scope (drop l.name-index l.names)
    ≡ l.initial.missed.items ++ misses_from (g.Q.Wanted.wanted l.wanted) (namespace_of (g.S.Space.contents l.objects)) l.scope l.names
