-- The body of an entry, by its number.
use Rattle.std.proofs.Common.{◌≡◌, ℕ, List, Option, Some, None, option_map, slice_get, refl, sym, ap, subst, ◌∙◌}
use Rattle.std.specs.Option.{option_and_then}
use Rattle.acpi_body.specs.Arguments.{BodyGrammar}
use Rattle.acpi_conditions.specs.Entries.{Entry}
use Rattle.acpi_survey.specs.Bodies.{entry_grammar}
use Rattle.acpi_ranges.specs.Lookup.{Found}
use Rattle.acpi_ranges.specs.Sites.{table_at}
use Rattle.acpi_entries.specs.EntryBodies.{IsBodyReading, method_code, IsBody, IsBodyIn}
use Rattle.acpi_entries.specs.declared.body.MethodBody.{MethodBody}
use Rattle.acpi_survey.specs.declared.machine_survey.SurveyedTable.{SurveyedTable}
use Rattle.acpi_ranges.proofs.DeclaringParts.{some_is}

abbrev entry_table : List SurveyedTable → Option Entry → Option SurveyedTable
entry_table ts o = option_and_then (λ (e : Entry). slice_get ts (table_at e.term.place)) o

pub body_is : (es : List Entry) (counts : List (Option ℕ)) (ts : List SurveyedTable) (depth : ℕ) (o : Option Entry) (e : Entry) (t : SurveyedTable) (s p : Option Found) (code : ℕ × List ℕ) (b : MethodBody)
    → Some e ≡ o → Some t ≡ slice_get ts (table_at e.term.place) → Some s ≡ option_map Some p → Some code ≡ option_and_then method_code s → b.code.now ≡ code.1 → b.offset ≡ code.0
    → IsBodyReading (entry_grammar es counts t.expected e) e.path depth code.1 b.reading
    → IsBodyIn es counts depth o (entry_table ts o) p (Some b)
body_is es counts ts depth o e t s p code b is table part found bytes offset reading =
    let same : s ≡ p = part_is s p part in
    let here : option_and_then method_code p ≡ Some code = sym (found ∙ ap (option_and_then method_code) same) in
    let body : IsBody (entry_grammar es counts t.expected e) e.path depth (Some code) (Some b) = (bytes, offset, reading) in
    let at_entry : IsBodyIn es counts depth (Some e) (Some t) p (Some b) = subst (λ c. IsBody (entry_grammar es counts t.expected e) e.path depth c (Some b)) (sym here) body in
    let at_table : IsBodyIn es counts depth (Some e) (entry_table ts (Some e)) p (Some b) = subst (λ t. IsBodyIn es counts depth (Some e) t p (Some b)) table at_entry in
    subst (λ o. IsBodyIn es counts depth o (entry_table ts o) p (Some b)) is at_table
  where
    part_is : (s p : Option Found) → Some s ≡ option_map Some p → s ≡ p
    part_is s None e = absurd (cc e)
    part_is s (Some x) e = some_is e
