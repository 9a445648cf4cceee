-- The names of a table by its number.
use Rattle.std.proofs.Common.{◌≡◌, ◌∙◌, ℕ, Bool, List, [], Option, Some, None, refl, ap, option_map}
use Rattle.std.specs.Prelude.{unwrap_or}
use Rattle.acpi_outline.specs.View.{nodes_view}
use Rattle.acpi_outline.specs.declared.node.Nodes.{Nodes}
use Rattle.acpi_survey.specs.declared.machine_survey.Survey.{Survey}
use Rattle.acpi_survey.specs.declared.machine_survey.SurveyedTable.{SurveyedTable}
use Rattle.acpi_ranges.specs.Index.{entered_in, refusals_in}
use Rattle.acpi_ranges.specs.declared.index.PlaceIndex.{PlaceIndex}
use Rattle.acpi_ranges.specs.steps.Indexes.{index_entered, index_refusals}
use Rattle.acpi_module_uses.specs.ModuleNames.{names_in, setting_of}
use Rattle.acpi_module_uses.specs.steps.Steps.{setting_in}

one_some : (a b : Nodes) → Some a ≡ Some b → a ≡ b
one_some a b e = cc

setting_is : (s : Survey) (x : PlaceIndex) (callables : List Bool) (table : ℕ) → ((number place : ℕ) → index_entered x number place ≡ entered_in s.reading number place)
    → ((place : ℕ) → index_refusals x place ≡ refusals_in s.reading place) → setting_in s x callables table ≡ setting_of s callables table
setting_is s x callables table entered refused = λ i. record {
  table = table;
  entries = s.reading.walk.entries;
  sources = s.reading.sources;
  entered = λ place. entered table place i;
  refusals = λ place. refused place i;
  callables = callables;
}

pub names_found : (s : Survey) (x : PlaceIndex) (callables : List Bool) (table : ℕ) (o : Option SurveyedTable) (ns : Nodes)
    → ((number place : ℕ) → index_entered x number place ≡ entered_in s.reading number place) → ((place : ℕ) → index_refusals x place ≡ refusals_in s.reading place)
    → Some ns ≡ option_map (λ t. t.nodes) o
    → names_in (setting_in s x callables table) (nodes_view ns) ≡ unwrap_or (option_map (λ t. names_in (setting_of s callables table) (nodes_view t.nodes)) o) []
names_found s x callables table None ns entered refused found = absurd (cc found)
names_found s x callables table (Some t) ns entered refused found =
    ap (λ w. names_in w (nodes_view ns)) (setting_is s x callables table entered refused) ∙ ap (λ m. names_in (setting_of s callables table) (nodes_view m)) (one_some ns t.nodes found)

pub no_names_found : (s : Survey) (callables : List Bool) (table : ℕ) (o : Option SurveyedTable) → None ≡ option_map (λ t. t.nodes) o
    → [] ≡ unwrap_or (option_map (λ t. names_in (setting_of s callables table) (nodes_view t.nodes)) o) []
no_names_found s callables table None found = refl
no_names_found s callables table (Some t) found = absurd (cc found)
