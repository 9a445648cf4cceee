-- Where the names of a term may be found, in words (ACPI 6.5, 5.3).
use Rattle.std.specs.Prelude.{ℕ, Bool, List, [], ◌∷◌, ◌++◌, Option, Some, None, codes, if◌then◌else◌}
use Rattle.acpi_name.specs.Names.{Segment}
use Rattle.acpi_name.specs.Text.{path_text}
use Rattle.acpi_tree.specs.Terms.{TermTree}
use Rattle.acpi_text.specs.Constants.{separated}
use Rattle.acpi_text.specs.Terms.{term_text}
use Rattle.acpi_entries.specs.EntryLinks.{LinkParts}

-- the candidates with a bar between each two, and behind them `|-` where the name isn't certain; `-` where there are
-- none
abbrev pub found_at : (is_certain : Bool) → List (List Segment) → List ℕ
found_at is_certain [] = codes "-"
found_at is_certain (p ∷ ps) =
    separated (codes "|") path_text (p ∷ ps) ++ (if is_certain then [] else codes "|-")

abbrev pub link_text : LinkParts → List ℕ
link_text l = found_at l.is_certain l.paths

-- an arrow and links with a comma between each two; nothing where there are none
abbrev pub links_text : List LinkParts → List ℕ
links_text [] = []
links_text (l ∷ ls) = codes " -> " ++ separated (codes ", ") link_text (l ∷ ls)

-- an arrow and a source in the place of a link, or the links
abbrev pub sourced_text : Option TermTree → List LinkParts → List ℕ
sourced_text None links = links_text links
sourced_text (Some t) links = codes " -> (" ++ term_text t ++ codes ")"
