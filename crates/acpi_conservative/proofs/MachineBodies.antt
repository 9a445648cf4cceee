-- The bodies that a machine keeps are what the survey reads.
use Rattle.std.proofs.Common.{ℕ, List, [], ◌∷◌, ◌++◌, map, sym, subst}
use Rattle.std.specs.List.{AllByRecursion, AllZip}
use Rattle.acpi_space.specs.Lookups.{Lookup}
use Rattle.acpi_declare.specs.Namespace.{Namespace}
use Rattle.acpi_declare.specs.Listing.{Placement}
use Rattle.acpi_declare.specs.Notes.{external_counts, Method, methods}
use Rattle.acpi_body.specs.Bodies.{BodyTree}
use Rattle.acpi_order.specs.Bodies as machines
use Rattle.acpi_order.specs.Bodies.{with_counts, IsBody, AreBodies, all_methods}
use Rattle.acpi_survey.specs.declared.machine_survey.SurveyedTable.{SurveyedTable}
use Rattle.acpi_survey.specs.Reading.{Reading}
use Rattle.acpi_conservative.specs.Laws.{HasBodyOf, HaveBodies, IsKeptAs, StrictMachineBodies}
use Rattle.acpi_conservative.proofs.Bodies.{strict_bodies}

module _ (depth : ℕ) (kept : List SurveyedTable) (last : Reading) (objects : Namespace) where
  one_kept : (externals : Lookup ℕ) (m : Method) → HasBodyOf depth kept last objects externals m → (tree : BodyTree) → IsBody depth objects (with_counts externals m) tree
      → IsKeptAs depth kept last objects (with_counts externals m) tree
  one_kept externals m h tree is = record {
    number = h.number;
    entry = h.entry;
    is_numbered = h.is_numbered;
    path = h.path;
    body = λ b at. let r = h.body b at in (r.0, r.1, r.2, r.3 tree is);
  }

  table_kept : (externals : Lookup ℕ) (ms : List Method) → AllByRecursion (HasBodyOf depth kept last objects externals) ms → (rest : List machines.Method)
      → ((trees : List BodyTree) → AreBodies depth objects rest trees → AllZip (IsKeptAs depth kept last objects) rest trees)
      → (trees : List BodyTree) → AreBodies depth objects (map (with_counts externals) ms ++ rest) trees → AllZip (IsKeptAs depth kept last objects) (map (with_counts externals) ms ++ rest) trees
  table_kept externals [] h rest later trees are = later trees are
  table_kept externals (m ∷ ms) h rest later [] are = absurd are
  table_kept externals (m ∷ ms) h rest later (tree ∷ trees) are = (one_kept externals m h.0 tree are.0, table_kept externals ms h.1 rest later trees are.1)

  all_kept : (ts : List (List Placement)) → AllByRecursion (HaveBodies depth kept last objects) ts → (trees : List BodyTree) → AreBodies depth objects (all_methods ts) trees
      → AllZip (IsKeptAs depth kept last objects) (all_methods ts) trees
  all_kept [] h [] are = tt
  all_kept [] h (tree ∷ trees) are = absurd are
  all_kept (t ∷ ts) h trees are = table_kept (external_counts t) (methods t) h.0 (all_methods ts) (λ us more. all_kept ts h.1 us more) trees are

pub strict_machine_bodies : StrictMachineBodies
strict_machine_bodies depth kept last a m is =
    all_kept depth kept last m.objects is.placements
    (subst (λ (o : Namespace). AllByRecursion (HaveBodies depth kept last o) is.placements) (sym is.objects_are) (strict_bodies depth kept last a is.placements is.listings)) is.trees is.read
