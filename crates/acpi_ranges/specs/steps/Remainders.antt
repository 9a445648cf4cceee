-- How the code goes through the lists of nodes.
use Rattle.std.specs.Prelude.{◌≡◌, ℕ, suc, Bool, false, List, [], ◌∷◌, ◌++◌, Option, Some, None}
use Rattle.acpi_conditions.specs.Entries.{Path}
use Rattle.acpi_ranges.specs.Ranges.{Part, of_node, of_element, of_lost, Range, Entered, inner_ranges}
use Rattle.acpi_ranges.specs.SpanViews.{part_of, span_range, left_in}
use Rattle.acpi_survey.specs.Survey.{place_in}
use Rattle.acpi_ranges.specs.steps.ByPlace.{kept_at}
use Rattle.acpi_ranges.specs.declared.scopes.EnteredPaths.{EnteredPaths}
use Rattle.acpi_ranges.specs.declared.spans.Span.{Span}
use Rattle.acpi_ranges.specs.declared.spans.Items.{Items}
use Rattle.acpi_ranges.specs.declared.spans.Items.TheVariants as items
use Rattle.acpi_ranges.specs.declared.spans.Remainder.{Remainder}

-- what is entered at the places of the table
abbrev pub entered_in : EnteredPaths → Entered
entered_in p place = kept_at p.paths.now (place_in p.table place)

abbrev pub entered_by : Option EnteredPaths → Entered
entered_by None place = None
entered_by (Some p) place = entered_in p place

abbrev pub left_in_some : Entered → (depth : ℕ) → Option Remainder → List Range
left_in_some entered depth None = []
left_in_some entered depth (Some r) = left_in entered depth r

abbrev pub inside_part : Entered → (depth place : ℕ) → Path → (end : ℕ) → Part → List Range
inside_part entered depth place s end (of_node n) = inner_ranges entered depth place s end n
inside_part entered depth place s end (of_element f offset e) = []
inside_part entered depth place s end (of_lost why) = []

abbrev pub inside_span : Entered → Path → Span → List Range
inside_span entered s x = inside_part entered (suc x.depth) x.from s x.to (part_of x.what)

-- the first of a list in a scope, what stands inside it, and the list's rest
abbrev pub with_first_item : Entered → Path → Bool → Option Span → List Range → List Range
with_first_item entered s behind_if None rest = []
with_first_item entered s behind_if (Some x) rest =
    span_range s behind_if x ∷ inside_span entered s x ++ rest

abbrev pub HasNoItems : Items → Type 0
HasNoItems (items.Nodes ns) = ns.now ≡ []
HasNoItems (items.Fields fixed es) = es.now ≡ []

-- whether an If stands directly before the next item: none does in a field list
abbrev pub items_behind_if : Bool → Items → Bool
items_behind_if behind_if (items.Nodes ns) = behind_if
items_behind_if behind_if (items.Fields fixed es) = false

abbrev pub behind_if_in : Remainder → Bool
behind_if_in r = items_behind_if r.is_behind_if r.items
