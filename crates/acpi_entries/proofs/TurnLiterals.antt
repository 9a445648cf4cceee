-- Each turn of the way of an entry has a literal.
use Rattle.std.proofs.Common.{◌≡◌, ◌≢◌, ◌==◌, ℕ, Bool, true, false, cond, List, [], ◌∷◌, ◌++◌, map, find, inl, inr, Option, Some, None, refl, sym, ap, subst, ◌∙◌}
use Rattle.std.specs.Option.{option_and_then}
use Rattle.std.proofs.lemmas.Bool.{eqb-true, eq-eqb}
use Rattle.acpi_name.specs.Names.{NameParts}
use Rattle.acpi_name.specs.Paths.{parent_of}
use Rattle.acpi_space.specs.Laws.{Among}
use Rattle.acpi_space.proofs.Elements.{one_some, all_map}
use Rattle.acpi_conditions.specs.Nodes.{Place}
use Rattle.acpi_conditions.specs.Entries.{Path, Turn, then_branch, else_branch, in_round, within, past, asks_nothing, Entry}
use Rattle.acpi_conditions.proofs.Basics.{some_found}
use Rattle.acpi_survey.specs.Reading.{Reading}
use Rattle.acpi_survey.specs.Predefined.{first_reading}
use Rattle.acpi_survey.specs.Laws.{StandAlone}
use Rattle.acpi_survey.specs.Surveys.{AreTables, bytes_of, nodes_of_each}
use Rattle.acpi_survey.specs.declared.machine_survey.SurveyedTable.{SurveyedTable}
use Rattle.acpi_survey.proofs.RunEntries.{entries_stand_alone}
use Rattle.acpi_survey.proofs.Surveys.{are_read}
use Rattle.acpi_ranges.specs.Laws.{IsTurnIn, entries_of}
use Rattle.acpi_ranges.proofs.NodesInTables.{entries_have_parts}
use Rattle.acpi_ranges.proofs.RecordedParts.{scopes_are_entered}
use Rattle.acpi_entries.specs.Condition.{PlacedParts, literal_at, has, free, needs, asked_if, asked, entry_at, asked_within, predicate_of, turn_literals}
use Rattle.acpi_entries.specs.Laws.{HasLiterals, TurnsHaveLiterals}

-- what is found passes the test, and is one of the list
found_is : {X : Type 0} (test : X → Bool) (xs : List X) (y : X) → find test xs ≡ Some y → Among xs y × (test y ≡ true)
found_is test [] y e = cc
found_is test (x ∷ xs) y e = by (test x) refl e (found_is test xs y)
  where
    by : (b : Bool) → test x ≡ b → cond b (Some x) (find test xs) ≡ Some y → (find test xs ≡ Some y → Among xs y × (test y ≡ true)) → Among (x ∷ xs) y × (test y ≡ true)
    by true is e more = let same : x ≡ y = one_some x y e in (inl same, ap test (sym same) ∙ is)
    by false is e more = let r = more e in (inr r.0, r.1)

-- an entry that asks something says what
asked_some : (e : Entry) → asks_nothing e.asks ≡ false → asked e ≢ []
asked_some e asks = by e.asks.has e.asks.no e.asks.needs asks
  where
    by : (h n : Bool) (ns : List NameParts) → asks_nothing (record { has = h; no = n; needs = ns }) ≡ false
        → asked_if h e.term.place (has (parent_of e.path)) ++ asked_if n e.term.place (free e.path) ++ map (λ n. literal_at e.term.place (needs n)) ns ≢ []
    by true n ns asks = λ is. cc
    by false true ns asks = λ is. cc
    by false false (x ∷ ns) asks = λ is. cc
    by false false [] asks = cc

some_literal : (l : PlacedParts) (ls : List PlacedParts) → l ∷ ls ≢ []
some_literal l ls = λ is. cc

module _ (depth : ℕ) (last : Reading) (ts : List SurveyedTable) (h : AreTables depth 0 first_reading ts last) where
  alone : StandAlone (entries_of last) last.walk.refused
  alone = entries_stand_alone depth last (bytes_of ts) (nodes_of_each ts) (are_read depth 0 first_reading last ts h)

  asker_has : (place : Place) (e : Entry) → asks_nothing e.asks ≡ false → (o : Option (ℕ × Path)) → asked_within place o (Some e) ≢ []
  asker_has place e asks None = asked_some e asks
  asker_has place e asks (Some o) = some_literal (literal_at place (has o.1)) []

  within_has : (place : Place) → IsTurnIn ts (entries_of last) (within place) → turn_literals ts last.opened last.walk.entries (within place) ≢ []
  within_has place (inl f) =
      let found = some_found (λ (e : Entry). e.term.place == place) (entries_of last) f.0 f.1 (eq-eqb f.0.term.place place f.2) in
      let is = found_is (λ (e : Entry). e.term.place == place) (entries_of last) found.0 found.1 in
      let same : f.0 ≡ found.0 = alone.one f.0 found.0 f.1 is.0 (f.2 ∙ sym (eqb-true found.0.term.place place is.1)) in
      let asks : asks_nothing found.0.asks ≡ false = subst (λ (e : Entry). asks_nothing e.asks ≡ false) same f.3 in
      subst (λ (o : Option Entry). asked_within place (find (λ (o : ℕ × Path). o.0 == place) last.opened) o ≢ []) (sym found.1)
      (asker_has place found.0 asks (find (λ (o : ℕ × Path). o.0 == place) last.opened))
  within_has place (inr s) =
      let o = scopes_are_entered depth last ts h place s.0 s.1 in
      let found = some_found (λ (o : ℕ × Path). o.0 == place) last.opened (place, o.0) o.1 (eq-eqb place place refl) in
      subst (λ (o : Option (ℕ × Path)). asked_within place o (entry_at last.walk.entries place) ≢ []) (sym found.1) (some_literal (literal_at place (has found.0.1)) [])

  turn_has : (turn : Turn) → IsTurnIn ts (entries_of last) turn → HasLiterals ts last turn
  turn_has (then_branch place) is = record { literals = some_literal _ []; predicate = (is.0, ap (option_and_then predicate_of) is.1.2) }
  turn_has (else_branch place) is = record { literals = some_literal _ []; predicate = tt }
  turn_has (in_round place) is = record { literals = some_literal _ []; predicate = (is.0, ap (option_and_then predicate_of) is.1.2) }
  turn_has (within place) is = record { literals = within_has place is; predicate = tt }
  turn_has (past place) is = record { literals = some_literal _ []; predicate = tt }

pub turns_have_literals : TurnsHaveLiterals
turns_have_literals depth last ts h e m = all_map (IsTurnIn ts (entries_of last)) (HasLiterals ts last) (turn_has depth last ts h) e.way (entries_have_parts depth last ts h e m).turns
