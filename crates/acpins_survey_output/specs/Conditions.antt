-- Conditions in words: what has to be so for a term to declare its object (ACPI 6.5, 5.3 and 19.6).
use Rattle.std.specs.Prelude.{ℕ, List, [], ◌∷◌, ◌++◌, Option, Some, None, codes, decimal}
use Rattle.std.specs.List.{flat_map}
use Rattle.acpi_name.specs.Text.{name_text, path_text}
use Rattle.acpi_tree.specs.Terms.{TermTree}
use Rattle.acpi_text.specs.Terms.{term_text}
use Rattle.acpi_ranges.specs.declared.sites.Site.{Site}
use Rattle.acpi_entries.specs.Condition.{LiteralParts, if_taken, if_missed, while_taken, stop_missed, has, free, needs, PlacedParts}

-- a predicate, which may be lost
abbrev pub test_text : Option TermTree → List ℕ
test_text None = codes "?"
test_text (Some t) = term_text t

-- a literal that comes from that site
abbrev pub text_at : Site → LiteralParts → List ℕ
text_at site (if_taken test) = codes "if(" ++ test_text test ++ codes ")"
text_at site (if_missed test) = codes "not(" ++ test_text test ++ codes ")"
text_at site (while_taken test) = codes "while(" ++ test_text test ++ codes ")"
text_at site stop_missed =
    codes "past(" ++ decimal site.table ++ codes ":" ++ decimal site.offset ++ codes ")"
text_at site (has p) = codes "has(" ++ path_text p ++ codes ")"
text_at site (free p) = codes "no(" ++ path_text p ++ codes ")"
text_at site (needs n) = codes "needs(" ++ name_text n ++ codes ")"

abbrev pub literal_text : PlacedParts → List ℕ
literal_text l = text_at l.site l.literal

-- a question mark and the literals, each behind a blank; nothing where there are none
abbrev pub condition_text : List PlacedParts → List ℕ
condition_text [] = []
condition_text (l ∷ ls) = codes " ?" ++ flat_map (λ x. codes " " ++ literal_text x) (l ∷ ls)
