-- The parts of a walk's steps, each as a change of the walk (ACPI 6.5, 5.3).
use Rattle.std.specs.Prelude.{◌≡◌, Bool, true, cond, List, [], ◌∷◌, ◌++◌, Option, Some, None, drop, take}
use Rattle.std.specs.List.{filter}
use Rattle.acpi_conditions.specs.Nodes.{Term}
use Rattle.acpi_conditions.specs.Entries.{Path, Turn, Entry}
use Rattle.acpi_conditions.specs.Known.{Certain}
use Rattle.acpi_conditions.specs.Survey.{turning, leaves_table}
use Rattle.acpi_conditions.specs.Walk.{of_term, of_other, Package, Walk, pass, out_of, given_inside, given_by, certain_after}
use Rattle.acpi_conditions.specs.EntryForms.{asks_view}
use Rattle.acpi_conditions.specs.declared.targets.Target.{Target as TargetForm}

abbrev pub with_turn : Turn → Walk → Walk
with_turn turn w = record w { around = turning w.around turn }

abbrev pub with_scope : Path → Walk → Walk
with_scope p w = record w { around = record w.around { scope = p } }

abbrev pub with_package : Package → Walk → Walk
with_package p w = record w { packages = p ∷ w.packages; last_if = None }

abbrev pub with_certain : List Certain → Walk → Walk
with_certain cs w = record w { known = record w.known { certain = cs } }

abbrev pub with_entry : Entry → Walk → Walk
with_entry e w =
    record w {
      entries = w.entries ++ e ∷ [];
      known = record w.known { entries = w.known.entries ++ e ∷ [] };
    }

abbrev pub with_loop : Walk → Walk
with_loop w = record w { known = record w.known { in_loop = true } }

-- of the stops in the innermost package those that leave the table
abbrev pub with_returns : List Package → Walk → Walk
with_returns [] w = w
with_returns (p ∷ outer) w =
    record w {
      stops = take p.stops w.stops
          ++ filter (λ s. leaves_table s.kind) (drop p.stops w.stops);
    }

-- out of the innermost package, behind which certain is what was inside, or what was before it
abbrev pub gone_out : Bool → List Package → Walk → Walk
gone_out keeps [] w = pass w
gone_out keeps (p ∷ outer) w = out_of p outer
    (record (given_inside p w) { certain = cond keeps w.known.certain p.known.certain }) w

-- in the other branch of the If directly before
abbrev pub with_other : Option Package → Walk → Walk
with_other None w = w
with_other (Some p) w = with_package (record p { kind = of_other }) w

-- where the innermost package stands, and what is known before it
abbrev pub gone_back : List Package → Walk → Walk
gone_back [] w = pass w
gone_back (p ∷ outer) w = record w { around = p.around; known = p.known; last_if = None }

-- known is what was at the start of the table, and its entries
abbrev pub at_start : Walk → Walk
at_start w = record w {
  known = record w.start.known {
    entries = w.start.known.entries
        ++ drop w.start.entries w.entries;
  };
  packages = [];
  last_if = None;
}

-- the entry of a term that stands here
abbrev pub entry_here : Walk → Term → TargetForm → Entry
entry_here w t s =
    record {
      term = t;
      scope = w.around.scope;
      path = s.path;
      way = w.around.way;
      asks = asks_view s.asks;
    }

abbrev pub innermost : List Package → Option Package
innermost [] = None
innermost (p ∷ outer) = Some p

abbrev pub with_turns : List Turn → Walk → Walk
with_turns ts w = record w { around = record w.around { way = w.around.way ++ ts } }

-- Behind the term whose package is the innermost, what is certain is this beside what is inside, or beside what was
-- before it.
abbrev pub IsBehindTerm : List Package → Walk → Bool → List Certain → Type 0
IsBehindTerm [] w keeps cs = cs ≡ []
IsBehindTerm (p ∷ outer) w keeps cs = certain_after p.known
    (drop p.entries w.entries) w.known.certain ≡ cs ++ cond keeps w.known.certain p.known.certain

-- out of a term's package
abbrev pub left_term : List Package → Walk → Walk
left_term [] w = pass w
left_term (p ∷ outer) w = out_of p outer (given_by of_term p.known (given_inside p w)) w
