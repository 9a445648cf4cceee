use Rattle.std.proofs.Common.{◌∷◌, map, refl}
use Rattle.acpi_declare.specs.DeclaredView.{objects_in, links_in, notes_in}
use Rattle.acpi_declare.specs.Links.{links_at}
use Rattle.acpi_declare.specs.Namespace.{namespace_of}
use Rattle.acpi_declare.specs.Notes.{notes_of}
use Rattle.acpi_machine.proofs.Explained.{explained}
use Rattle.acpi_machine.proofs.reasons.explain_shared.Goals as goal

pub returns-clause-ok : goal.returns-clause-ok
returns-clause-ok g c =
    let d = c.in_ok-declared.declared in
    explained _ c.args.depth (c.args.dsdt.now ∷ c.args.ssdts.now) (namespace_of (g.S.Space.contents (objects_in d))) (links_at (links_in d))
    (map notes_of (notes_in d)) c.args.path.now c.in_ok-reason_at.field-0 (λ n. refl)
    c.in_ok-declared.ensures.ok c.in_ok-declared.ensures.notes (rw (c.objects.ensures, c.notes.ensures) at c.in_ok-reason_at.ensures)
