use Rattle.std.proofs.Common.{◌∷◌, map}
use Rattle.acpi_declare.specs.Keeping.{AreKeptNotes}
use Rattle.acpi_declare.specs.Links.{links_at}
use Rattle.acpi_declare.specs.Loads.{IsLoad}
use Rattle.acpi_declare.specs.Namespace.{namespace_of}
use Rattle.acpi_declare.specs.Notes.{notes_of}
use Rattle.acpi_machine.proofs.machine.load_keeping.Goals as goal

pub returns-clause-ok : goal.returns-clause-ok
returns-clause-ok g c =
    let tables = c.args.dsdt.now ∷ c.args.ssdts.now in
    let declared = c.in_ok-declare_keeping.ensures in
    let parts = c.into_parts-objects in
    let objects = namespace_of (g.S.Space.contents parts.result.0) in
    let loads : IsLoad c.args.depth tables objects (links_at parts.result.1) = rw (parts.ensures.objects, parts.ensures.links) declared.ok in
    let kept : AreKeptNotes c.args.depth tables c.args.keep (map notes_of parts.result.2.items) = rw parts.ensures.notes declared.notes in
    record { loads = loads; notes = map notes_of parts.result.2.items; kept = kept; bodies = c.in_ok-bodies.ensures }
