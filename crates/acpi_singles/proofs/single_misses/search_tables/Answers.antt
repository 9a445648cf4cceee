use Rattle.std.proofs.Common.{◌≡◌, ◌∙◌, [], ◌∷◌, ◌++◌, List, map, sym, ap, subst, refl}
use Rattle.std.specs.FinMap.{entries}
use Rattle.acpi_space.specs.Lookups.{Lookup, nothing}
use Rattle.acpi_declare.specs.Namespace.{namespace_of}
use Rattle.acpi_declare.specs.Notes.{Notes, notes_of}
use Rattle.acpi_pass.proofs.ValuesByPath.{get_none}
use Rattle.acpi_body.specs.Bodies.{BodyTree, body_view}
use Rattle.acpi_machine.specs.MachineView.{bodies_of}
use Rattle.acpi_order.specs.steps.Noted.{noted, all_noted}
use Rattle.acpi_machine.specs.steps.Adding.{AddsBodies}
use Rattle.acpi_machine.proofs.AddedBodies.{adds_both}
use Rattle.acpi_singles.specs.SingleView.{awaited_view}
use Rattle.acpi_singles.specs.declared.singles.Awaited.{Awaited}
use Rattle.acpi_singles.specs.steps.SingleMisses.{tagged}
use Rattle.acpi_singles.proofs.single_misses.search_tables.Goals as goal

pub returns : goal.returns
returns g c =
    let depth = c.args.depth in
    let objects = namespace_of (g.S.Space.contents c.args.objects.now) in
    let n = notes_of c.two-dsdt.result.0 in
    let m = notes_of c.two-dsdt.result.1 in
    let one = c.in_ok-of_dsdt.of_dsdt in
    let two = c.in_ok-of_ssdt.of_ssdt in
    let both : map notes_of c.args.notes.items ≡ n ∷ m ∷ [] = ap (map notes_of) c.two-dsdt.ensures in
    let mid = bodies_of c.search_methods.new.bodies in
    let last = bodies_of c.search_methods-2.new.bodies in
    let no_bodies : bodies_of c.new-bodies.result ≡ nothing =
    get_none (map (λ e. (e.0, body_view e.1)) c.new-bodies.result.entries) (ap (map (λ e. (e.0, body_view e.1))) c.new-bodies.ensures.empty) in
    let of_dsdt : AddsBodies depth objects (noted n) nothing mid =
    subst (λ (b : Lookup BodyTree). AddsBodies depth objects (noted n) b mid) no_bodies c.in_ok-of_dsdt.ensures.bodies in
    record {
      first = n;
      second = m;
      both = both;
      scopes = c.add_paths.new.paths;
      scopes_are = c.in_ok-add_paths.ensures;
      of_first = one;
      of_second = two;
      first_are = c.in_ok-of_dsdt.ensures.misses;
      second_are = c.in_ok-of_ssdt.ensures.misses;
      bodies_are = subst (λ (ns : List Notes). AddsBodies depth objects (all_noted ns) nothing last) (sym both)
          (adds_both depth objects (noted n) (noted m ++ []) nothing mid last of_dsdt (adds_both depth objects (noted m) [] mid last last c.in_ok-of_ssdt.ensures.bodies refl));
      missed_are = refl;
      awaited_are = c.in_ok-list_awaited-2.ensures ∙ ap (λ l. l ++ tagged 1 (entries two.awaited))
          (c.in_ok-list_awaited.ensures ∙ ap (λ (l : List Awaited). map awaited_view l ++ tagged 0 (entries one.awaited)) c.new-awaited.ensures.items);
    }
