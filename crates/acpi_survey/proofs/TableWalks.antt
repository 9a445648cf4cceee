-- What is read of tables, one after another, is their survey.
use Rattle.std.proofs.Common.{◌≡◌, ℕ, suc, List, [], ◌∷◌, ◌++◌, length, None, refl, sym, ap, ◌∙◌}
use Rattle.acpi_outline.specs.Nodes.{NodeTrees}
use Rattle.acpi_outline.specs.Rules.{after_all}
use Rattle.acpi_conditions.specs.Survey.{known_behind, surveys, all_entries, all_refused}
use Rattle.acpi_conditions.specs.Walk.{Walk, started, end_table, walked_tables}
use Rattle.acpi_conditions.proofs.Walks.{walk_is_surveys}
use Rattle.acpi_survey.specs.Reading.{Reading, survey_rules}
use Rattle.acpi_pieces.specs.Tables.{code_read}
use Rattle.acpi_survey.specs.Survey.{at_table, behind_table, AreRead, all_nodes}
use Rattle.acpi_survey.specs.Laws.{IsSurveyed, IsAtStart}
use Rattle.acpi_survey.proofs.Walking.{nodes_walked}

-- the walk of the reader is that through what the nodes of the tables do
tables_walked : (depth number : ℕ) (s last : Reading) (tables : List (List ℕ)) (nss : List NodeTrees) → s.walk.last_if ≡ None → AreRead depth number s tables nss last
    → last.walk ≡ walked_tables (all_nodes number nss) s.walk
tables_walked depth number s last [] [] fresh h = ap (λ (s : Reading). s.walk) h
tables_walked depth number s last (b ∷ bs) (ns ∷ nss) fresh h =
    let behind : Reading = behind_table (after_all survey_rules (at_table number s) ns) in
    tables_walked depth (suc number) behind last bs nss refl h.3
    ∙ ap (λ (w : Walk). walked_tables (all_nodes (suc number) nss) (end_table w)) (nodes_walked depth (length (code_read h.0)) (at_table number s) ns (code_read h.0) h.2 fresh)
tables_walked depth number s last [] (ns ∷ nss) fresh h = absurd h
tables_walked depth number s last (b ∷ bs) [] fresh h = absurd h

pub read_is_survey : (depth number : ℕ) (s last : Reading) (tables : List (List ℕ)) (nss : List NodeTrees) → IsAtStart s.walk → AreRead depth number s tables nss last
    → IsSurveyed number s last nss
read_is_survey depth number s last tables nss start h = record {
  entries = ap (λ (w : Walk). w.entries) walk;
  refused = ap (λ (w : Walk). w.refused) walk;
  known = ap (λ (w : Walk). w.known) walk;
}
  where
    walk : last.walk ≡ started (record s.walk {
      known = known_behind s.walk.known (all_nodes number nss);
      entries = s.walk.entries ++ all_entries (surveys s.walk.known (all_nodes number nss));
      refused = s.walk.refused ++ all_refused (surveys s.walk.known (all_nodes number nss));
    })
    walk =
        tables_walked depth number s last tables nss (sym (ap (λ (w : Walk). w.last_if) start)) h
        ∙ ap (walked_tables (all_nodes number nss)) (sym start)
        ∙ walk_is_surveys (all_nodes number nss) s.walk
