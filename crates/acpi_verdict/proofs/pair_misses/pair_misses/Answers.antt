use Rattle.std.proofs.Common.{◌≡◌, ◌⊎◌, false, List, map, subst}
use Rattle.std.specs.Prelude.{IsTrue}
use Rattle.std.specs.FinMap.{empty}
use Rattle.acpi_name.specs.Names.{Segment}
use Rattle.acpi_pass.specs.declared.notes.TableNotes.{TableNotes}
use Rattle.acpi_declare.specs.Namespace.{namespace_of}
use Rattle.acpi_declare.specs.Notes.{notes_of}
use Rattle.acpi_space.specs.Spaces.{is_defined}
use Rattle.acpi_body.specs.steps.Gathering.{Grows}
use Rattle.acpi_declare.specs.Declaring.{state_of}
use Rattle.acpi_verdict.specs.steps.PairMisses.{part_misses}
use Rattle.acpi_verdict.specs.steps.Misses.{AreMisses, IsMissedScope}
use Rattle.acpi_verdict.proofs.pair_misses.pair_misses.Goals as goal

pub returns : goal.returns
returns g c =
    let wanted = is_defined (g.T.Space.contents c.args.among.now) in
    let contents = g.O.Space.contents in
    let l = state_of contents c.args.declared.now in
    let one = state_of g.S.Space.contents c.args.dsdt.now in
    record {
      scopes = c.in_ok-scopes.scopes;
      scopes_are = subst (λ (ns : List TableNotes). Grows empty c.in_ok-scopes.scopes (λ (p : List Segment). IsMissedScope (map notes_of ns) p × IsTrue (wanted p))) c.notes.ensures
          c.in_ok-scopes.ensures;
      own = subst (λ (o : _). AreMisses wanted c.args.depth (namespace_of (contents o)) l c.in_ok-scopes.scopes c.in_ok-own.own) c.objects.ensures c.in_ok-own.ensures;
      under = subst (λ (o : _). ((c.args.affected ≡ false) × (part_misses c.in_ok-under.under ≡ c.args.alone.now))
          ⊎ AreMisses wanted c.args.depth (namespace_of (contents o)) one empty (part_misses c.in_ok-under.under)) c.objects-2.ensures c.in_ok-under.ensures;
    }
