use Rattle.std.proofs.Common.{◌≡◌, ◌∙◌, List, None, Some, ap, sym, rules}
use Rattle.std.specs.Option.{option_copied, option_map}
use Rattle.std.specs.FinMap.{get, insert}
use Rattle.acpi_name.specs.Names.{Segment}
use Rattle.acpi_space.specs.Lookups.{singleton, union}
use Rattle.acpi_tree.specs.Objects.{ObjectTree, object_view}
use Rattle.acpi_tree.specs.steps.Equality.{decides, object_tells}
use Rattle.acpi_declare.specs.Namespace.{namespace_of}
use Rattle.acpi_pass.proofs.Unions.{namespace_insert}
use Rattle.acpi_singles.proofs.JoinedValues.{same_or_other, put_last}
use Rattle.acpi_singles.proofs.joining.add_object.Goals as goal
use Rattle.acpi_singles.proofs.joining.add_object.Goals.{in-Ok, in-Err-Memory}

pub returns-in-Some : goal.returns-in-Some
returns-in-Some g c =
    let m = g.S.Space.contents c.args.objects.now in
    let here : get m c.args.path ≡ Some c.in-Some.other.now = search rules in
    same_or_other (namespace_of m) c.args.path (object_view c.args.object.now) (object_view c.in-Some.other.now) c.eq.result (ap (option_map object_view) here)
    (rw c.eq.ensures (decides object_tells (object_view c.in-Some.other.now) (object_view c.args.object.now)))

pub returns : goal.returns
returns g c =
    let m = g.S.Space.contents c.args.objects.now in
    let v = object_view c.args.object.now in
    let free : get m c.args.path ≡ None = sym c.get.ensures ∙ ap option_copied c.in_default.is in
    elim c.match-insert.branch [
      | in-Ok w ↦
          let is : namespace_of (g.S.Space.contents c.insert.new.self) ≡ union (namespace_of m) (singleton c.args.path v) =
          ap namespace_of (w.in-Ok.ensures.ok ∙ ap (λ (q : List Segment). insert m q c.in_ok-copy.field-0) c.path.view_is) ∙ namespace_insert m c.args.path c.in_ok-copy.field-0 free
          ∙ ap (λ (o : ObjectTree). union (namespace_of m) (singleton c.args.path o)) c.in_ok-copy.ensures in
          rw w.result-is (put_last (namespace_of m) (namespace_of (g.S.Space.contents c.insert.new.self)) c.args.path v (ap (option_map object_view) free) is)
      | in-Err-Memory w ↦ search rules
    ]
