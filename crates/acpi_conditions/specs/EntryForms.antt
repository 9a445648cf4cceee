-- Entries and refusals as the code keeps them (ACPI 6.5, 5.3).
use Rattle.std.specs.Prelude.{List}
use Rattle.acpi_conditions.specs.Nodes.{Term}
use Rattle.acpi_conditions.specs.Entries.{Turn, Asks, Entry, Refusal, Why, empty_name, above_root, missing, no_parent, not_a_scope, taken, unsure}
use Rattle.acpi_conditions.specs.Turns.{way_of}
use Rattle.acpi_conditions.specs.declared.entry.Term.{Term as TermForm}
use Rattle.acpi_conditions.specs.declared.entry.Asks.{Asks as AsksForm}
use Rattle.acpi_conditions.specs.declared.entry.Entry.{Entry as EntryForm}
use Rattle.acpi_conditions.specs.declared.packages.Refusal.{Refusal as RefusalForm}
use Rattle.acpi_conditions.specs.declared.placing.Reason.{Reason}
use Rattle.acpi_conditions.specs.declared.placing.Reason.TheVariants.{EmptyName, AboveRoot, Missing, NoParent, NotAScope, Taken, Unsure}

abbrev pub term_view : TermForm → Term
term_view t =
    record { place = t.place; name = t.name; is_scope = t.is_scope; needs = t.needs.items }

abbrev pub asks_view : AsksForm → Asks
asks_view a = record { has = a.has; no = a.no; needs = a.needs.items }

-- the entry, by the ways
abbrev pub entry_view : List (List Turn) → EntryForm → Entry
entry_view ways e =
    record {
      term = term_view e.term;
      scope = e.scope;
      path = e.path;
      way = way_of ways e.way;
      asks = asks_view e.asks;
    }

-- ---- refusals

abbrev pub why_of : Reason → Why
why_of (EmptyName p) = empty_name p
why_of (AboveRoot p) = above_root p
why_of (Missing p) = missing p
why_of (NoParent p) = no_parent p
why_of (NotAScope p) = not_a_scope p
why_of (Taken p) = taken p
why_of (Unsure paths) = unsure paths.items

abbrev pub refusal_of : RefusalForm → Refusal
refusal_of r = record { place = r.place; why = why_of r.reason }
