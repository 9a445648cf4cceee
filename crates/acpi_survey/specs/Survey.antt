-- The survey of tables: each is read behind those before it, whatever stands in it (ACPI 6.5, 5.2.11, 5.3 and 20.2.5).
use Rattle.std.specs.Prelude.{◌≡◌, ◌+◌, ◌*◌, ◌^◌, ℕ, suc, List, [], ◌∷◌}
use Rattle.std.specs.FinMap as finite
use Rattle.acpi_outline.specs.Nodes.{NodeTrees}
use Rattle.acpi_outline.specs.Rules.{after_all}
use Rattle.acpi_outline.specs.Outline.{IsOutline}
use Rattle.acpi_conditions.specs.Nodes.{Nodes}
use Rattle.acpi_conditions.specs.Walk as walks
use Rattle.acpi_conditions.specs.Walk.{Walk}
use Rattle.acpi_pieces.specs.declared.tables.TableContent.{TableContent}
use Rattle.acpi_pieces.specs.Tables.{IsJudged, code_read}
use Rattle.acpi_survey.specs.Nodes.{nodes_of}
use Rattle.acpi_survey.specs.Reading.{Reading, survey_rules}

-- A place is a table's number and the number of bytes of its code before it, as one number.
abbrev pub place_in : ℕ → ℕ → ℕ
place_in table offset = table * 2 ^ 64 + offset

-- before a table
abbrev pub at_table : ℕ → Reading → Reading
at_table number s = record s { base = place_in number 0 }

-- behind it; what its Externals say is forgotten
abbrev pub behind_table : Reading → Reading
behind_table s = record s { walk = walks.end_table s.walk; expected = finite.empty }

-- Tables have these nodes, read one after another; and what is known behind them.
abbrev pub AreRead : ℕ → ℕ → Reading → List (List ℕ) → List NodeTrees → Reading → Type 0
AreRead depth number s [] [] last = last ≡ s
AreRead depth number s (b ∷ bs) (ns ∷ nss) last = (j : TableContent) × IsJudged number b j
    × IsOutline survey_rules (at_table number s) depth ns (code_read j)
    × AreRead depth (suc number)
    (behind_table (after_all survey_rules (at_table number s) ns)) bs nss last
AreRead depth number s [] (ns ∷ nss) last = ⊥
AreRead depth number s (b ∷ bs) [] last = ⊥

-- what the nodes of each table do
abbrev pub all_nodes : ℕ → List NodeTrees → List Nodes
all_nodes number [] = []
all_nodes number (ns ∷ nss) = nodes_of (place_in number 0) ns ∷ all_nodes (suc number) nss
