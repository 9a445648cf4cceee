-- What two surveys say of their entries, and that the comparison of the lists tells whether it is the same.
use Rattle.std.proofs.Common.{◌≡◌, ◌∙◌, ℕ, Bool, List, Option, map, sym, ap}
use Rattle.std.specs.Borrow.{Bor}
use Rattle.std.specs.Cmp.Lexicographic.{pointwise}
use Rattle.acpi_tree.specs.steps.Equality.{decides}
use Rattle.acpi_conditions.specs.ByPath.{AreByPath, lent_pair}
use Rattle.acpi_conditions.specs.Entries.{Path, Turn, Entry}
use Rattle.acpi_conditions.specs.EntryForms.{entry_view}
use Rattle.acpi_conditions.specs.declared.entry.Entry.{Entry as EntryForm}
use Rattle.acpi_survey.specs.declared.machine_survey.Survey.{Survey}
use Rattle.acpi_entries.specs.Condition.{PlacedParts}
use Rattle.acpi_entries.specs.ConditionViews.{literal_view, placed_view, placed_views}
use Rattle.acpi_entries.specs.declared.body.MethodBody.{MethodBody}
use Rattle.acpi_entries.specs.declared.condition.PlacedLiteral.{PlacedLiteral}
use Rattle.acpi_same.specs.Numbered.{entries_of}
use Rattle.acpi_entries.specs.SurveyBodies.{AreBodies}
use Rattle.acpi_same.specs.Same.{EntryParts, Says, TellsSame, said}
use Rattle.acpi_same.specs.steps.Equality.{entry_eq, entries_tell}
use Rattle.acpi_same.proofs.Lists.{map_twice}

-- the literals of a condition, without places
pub literals_are : (ls : List PlacedLiteral) (ps : List PlacedParts) → placed_views ls ≡ ps → map (λ (l : PlacedLiteral). literal_view l.literal) ls ≡ map (λ (p : PlacedParts). p.literal) ps
literals_are ls ps e = map_twice (λ (p : PlacedParts). p.literal) placed_view ls ∙ ap (map (λ (p : PlacedParts). p.literal)) e

abbrev path_of : EntryForm → Path
path_of e = e.path

-- the paths of entries as the code keeps them
pub same_paths : (ways : List (List Turn)) (es : List EntryForm) (vs : List Entry) → map (entry_view ways) es ≡ vs → map path_of es ≡ map (λ (e : Entry). e.path) vs
same_paths ways es vs e = map_twice (λ (e : Entry). e.path) (entry_view ways) es ∙ ap (map (λ (e : Entry). e.path)) e

abbrev pub entries_said : Survey → List (Option MethodBody) → List (Bor Path × ℕ) → List EntryParts
entries_said s bodies order = map (λ (x : Bor Path × ℕ). said s bodies (lent_pair x)) order

abbrev pub IsOrder : Survey → List (Bor Path × ℕ) → Type 0
IsOrder s order = AreByPath (map (λ (e : Entry). e.path) (entries_of s)) (map lent_pair order)

says : (s : Survey) (bodies : List (Option MethodBody)) (order : List (Bor Path × ℕ)) → IsOrder s order → AreBodies s bodies → Says s (entries_said s bodies order)
says s bodies order by_path are =
    record {
      order = map lent_pair order;
      by_path = by_path;
      bodies = bodies;
      are_bodies = are;
      are = map_twice (said s bodies) lent_pair order;
    }

pub tells : (old new : Survey) (v w : List (Option MethodBody)) (xs ys : List (Bor Path × ℕ)) → IsOrder old xs → IsOrder new ys → AreBodies old v → AreBodies new w
    → (b : Bool) → b ≡ pointwise entry_eq (entries_said old v xs) (entries_said new w ys) → TellsSame old new b
tells old new v w xs ys by_old by_new old_bodies new_bodies b e =
    let d = decides entries_tell (entries_said old v xs) (entries_said new w ys) in
    record {
      old_entries = entries_said old v xs;
      new_entries = entries_said new w ys;
      old_says = says old v xs by_old old_bodies;
      new_says = says new w ys by_new new_bodies;
      is = (λ h. d.0 (sym e ∙ h), λ h. e ∙ d.1 h);
    }
