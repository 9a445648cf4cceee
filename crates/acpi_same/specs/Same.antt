-- When two surveys say the same, but for where it stands (ACPI 6.5, 5.3 and 20.2.5).
use Rattle.std.specs.Prelude.{◌≡◌, ◌↔◌, ◌<◌, ℕ, Bool, IsTrue, List, length, map, Option, Some, None, slice_index_or}
use Rattle.acpi_tree.specs.Terms.{TermTrees}
use Rattle.acpi_tree.specs.TermView.{terms_tree}
use Rattle.acpi_kinds.specs.Objects.{ObjectParts}
use Rattle.acpi_conditions.specs.ByPath.{AreByPath}
use Rattle.acpi_conditions.specs.Entries.{Path, Entry}
use Rattle.acpi_survey.specs.declared.machine_survey.Survey.{Survey}
use Rattle.acpi_objects.specs.Declaring.{object_of}
use Rattle.acpi_entries.specs.Condition.{LiteralParts, PlacedParts}
use Rattle.acpi_entries.specs.SurveyBodies.{AreBodies}
use Rattle.acpi_entries.specs.EntryLinks.{LinkParts}
use Rattle.acpi_entries.specs.declared.body.BodyReading.{BodyReading}
use Rattle.acpi_entries.specs.declared.body.BodyReading.TheVariants.{Terms, Opaque}
use Rattle.acpi_entries.specs.declared.body.MethodBody.{MethodBody}
use Rattle.acpi_same.specs.Numbered.{condition_at, entries_of, links_at, part_at}

-- what stands in a method: its statements, or its bytes where it can't be read
pub data BodyParts : Type 0 where
  statements : TermTrees → BodyParts
  unread : List ℕ → BodyParts

abbrev pub reading_parts : (code : List ℕ) → BodyReading → BodyParts
reading_parts code (Terms v) = statements (terms_tree v.items)
reading_parts code (Opaque reason place name) = unread code

abbrev pub body_parts : Option MethodBody → Option BodyParts
body_parts None = None
body_parts (Some b) = Some (reading_parts b.code.now b.reading)

-- what a survey says of an entry, but for where it stands
pub record EntryParts : Type 0 where
  pub path : Path
  pub object : ObjectParts
  pub links : List LinkParts
  pub condition : List LiteralParts
  pub body : Option BodyParts

abbrev pub literals_at : Survey → ℕ → List LiteralParts
literals_at s n = map (λ (l : PlacedParts). l.literal) (condition_at s n)

-- of the entry with this path and number, where these are the bodies
abbrev pub said : Survey → List (Option MethodBody) → Path × ℕ → EntryParts
said s bodies x = record {
  path = x.0;
  object = object_of (part_at s x.1) x.1;
  links = links_at s x.1;
  condition = literals_at s x.1;
  body = body_parts (slice_index_or bodies x.1 None);
}

-- A survey says this of its entries, in the order of the paths, those of one path in the order of their places.
pub record Says (s : Survey) (es : List EntryParts) : Type 0 where
  pub order : List (Path × ℕ)
  pub by_path : AreByPath (map (λ (e : Entry). e.path) (entries_of s)) order
  pub bodies : List (Option MethodBody)
  pub are_bodies : AreBodies s bodies
  pub are : es ≡ map (said s bodies) order

-- The test is true exactly where two surveys say the same.
pub record TellsSame (old new : Survey) (test : Bool) : Type 0 where
  pub old_entries : List EntryParts
  pub new_entries : List EntryParts
  pub old_says : Says old old_entries
  pub new_says : Says new new_entries
  pub is : IsTrue test ↔ (old_entries ≡ new_entries)
