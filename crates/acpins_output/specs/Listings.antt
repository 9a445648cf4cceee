-- What prints a namespace (docs/COMMAND.md).
use Rattle.std.specs.Prelude.{◌≡◌, ℕ, List, Option, IsTrue}
use Rattle.std.specs.FinMap.{find, is_sorted}
use Rattle.acpi_name.specs.Names.{Segment}
use Rattle.acpi_name.specs.Paths.{path_cmp}
use Rattle.acpi_tree.specs.Objects.{ObjectTree}
use Rattle.acpi_text.specs.Lines.{listing_text}
use Rattle.acpi_declare.specs.Namespace.{Namespace}
use Rattle.acpi_declare.specs.Links.{Links}

-- the text is a line for each object of the namespace, in the order of the paths, with the links at its path
pub record Prints (objects : Namespace) (links : List Segment → Option Links)
    (text : List ℕ) : Type 0 where
  pub lines : List (List Segment × ObjectTree)
  pub ascending : IsTrue (is_sorted path_cmp lines)
  pub objects_are : (p : List Segment) → find path_cmp p lines ≡ objects p
  pub text_is : text ≡ listing_text lines links
