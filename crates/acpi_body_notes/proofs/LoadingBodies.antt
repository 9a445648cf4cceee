-- Whether the body of an entry loads tables does not depend on how the body is kept; where it does, its code has the opcode.
use Rattle.std.proofs.Common.{◌≡◌, ℕ, ◌+◌, ◌<◌, ◌≤◌, arith, map, Bool, true, false, cond, [], ◌∷◌, ◌++◌, true≢false, List, length, Option, Some, None, option_map, slice_get, refl, sym, ap, subst, ◌∙◌}
use Rattle.std.specs.Prelude.{◌↔◌}
use Rattle.std.specs.FinMap as finite
use Rattle.std.specs.Option.{option_and_then}
use Rattle.std.proofs.lemmas.List.{length-map}
use Rattle.std.proofs.lemmas.Option.{slice_get_within}
use Rattle.acpi_tree.specs.TermView.{terms_tree}
use Rattle.acpi_body.specs.Arguments.{BodyGrammar}
use Rattle.acpi_body.specs.Loads.{have_load}
use Rattle.acpi_conditions.specs.Entries.{Path, Entry}
use Rattle.acpi_survey.specs.declared.machine_survey.Survey.{Survey}
use Rattle.acpi_survey.specs.declared.machine_survey.SurveyedTable.{SurveyedTable}
use Rattle.acpi_survey.specs.Bodies.{entry_grammar}
use Rattle.acpi_ranges.specs.EntryParts.{part_declaring}
use Rattle.acpi_ranges.specs.Lookup.{Found}
use Rattle.acpi_ranges.specs.Sites.{table_at}
use Rattle.acpi_ranges.proofs.DeclaringParts.{some_is}
use Rattle.acpi_entries.specs.EntryBodies.{IsBodyReading, IsBody, IsBodyIn, IsBodyOf, method_code}
use Rattle.acpi_entries.specs.declared.body.BodyReading.{BodyReading}
use Rattle.acpi_entries.specs.declared.body.BodyReading.TheVariants.{Terms, Opaque}
use Rattle.acpi_entries.specs.declared.body.MethodBody.{MethodBody}
use Rattle.acpi_body_notes.specs.LoadNotes.{AreLoading, LoadsTables, reading_loads}
use Rattle.acpi_body_notes.specs.steps.LoadBytes.{holds_load}
use Rattle.acpi_body_notes.specs.steps.LoadCodes.{body_loads, code_holds_load}
use Rattle.acpi_body_notes.proofs.Collecting.{AreBelow, one_without, one_with, all_below}
use Rattle.acpi_body_notes.proofs.LoadsSpelled.{statements_hold}

-- ---- one code

readings_alike : (g : BodyGrammar) (p : Path) (depth : ℕ) (code : List ℕ) (a b : BodyReading) → IsBodyReading g p depth code a → IsBodyReading g p depth code b → reading_loads a ≡ reading_loads b
readings_alike g p depth code (Terms v) (Terms w) x y = ap have_load ((x (terms_tree w.items)).1 ((y (terms_tree w.items)).0 refl))
readings_alike g p depth code (Terms v) (Opaque reason place name) x y = absurd (y.1 (terms_tree v.items) ((x (terms_tree v.items)).0 refl))
readings_alike g p depth code (Opaque reason place name) (Terms w) x y = absurd (x.1 (terms_tree w.items) ((y (terms_tree w.items)).0 refl))
readings_alike g p depth code (Opaque reason place name) (Opaque reason' place' name') x y = refl

reading_holds : (g : BodyGrammar) (p : Path) (depth : ℕ) (code : List ℕ) (a : BodyReading) → IsBodyReading g p depth code a → reading_loads a ≡ true → holds_load code ≡ true
reading_holds g p depth code (Terms v) x loads = statements_hold g p finite.empty (terms_tree v.items) code ((x (terms_tree v.items)).0 refl).spelled loads
reading_holds g p depth code (Opaque reason place name) x loads = absurd (true≢false (sym loads))

-- ---- one entry

module _ (g : BodyGrammar) (p : Path) (depth : ℕ) where
  bodies_alike : (o : Option (ℕ × List ℕ)) (a b : Option MethodBody) → IsBody g p depth o a → IsBody g p depth o b → body_loads a ≡ body_loads b
  bodies_alike None None None x y = refl
  bodies_alike None None (Some b) x y = absurd y
  bodies_alike None (Some a) b x y = absurd x
  bodies_alike (Some code) None b x y = absurd x
  bodies_alike (Some code) (Some a) None x y = absurd y
  bodies_alike (Some code) (Some a) (Some b) x y = readings_alike g p depth code.1 a.reading b.reading x.2 y.2

  body_holds : (o : Option (ℕ × List ℕ)) (b : MethodBody) → IsBody g p depth o (Some b) → reading_loads b.reading ≡ true → code_holds_load o ≡ true
  body_holds None b x loads = absurd x
  body_holds (Some code) b x loads = reading_holds g p depth code.1 b.reading x.2 loads

module _ (es : List Entry) (counts : List (Option ℕ)) (depth : ℕ) (part : Option Found) where
  alike_in : (e : Option Entry) (t : Option SurveyedTable) (a b : Option MethodBody) → IsBodyIn es counts depth e t part a → IsBodyIn es counts depth e t part b → body_loads a ≡ body_loads b
  alike_in (Some e) (Some t) a b x y = bodies_alike (entry_grammar es counts t.expected e) e.path depth (option_and_then method_code part) a b x y
  alike_in (Some e) None a b x y = ap body_loads (x ∙ sym y)
  alike_in None t a b x y = ap body_loads (x ∙ sym y)

  holds_in : (e : Option Entry) (t : Option SurveyedTable) (b : MethodBody) → IsBodyIn es counts depth e t part (Some b) → reading_loads b.reading ≡ true → code_holds_load (option_and_then method_code part) ≡ true
  holds_in (Some e) (Some t) b x loads = body_holds (entry_grammar es counts t.expected e) e.path depth (option_and_then method_code part) b x loads
  holds_in (Some e) None b x loads = absurd (cc x)
  holds_in None t b x loads = absurd (cc x)

  entry_in : (e : Option Entry) (t : Option SurveyedTable) (b : MethodBody) → IsBodyIn es counts depth e t part (Some b) → (x : Entry) × (e ≡ Some x)
  entry_in (Some e) t b x = (e, refl)
  entry_in None t b x = absurd (cc x)

-- ---- a survey's

abbrev entry_at : Survey → ℕ → Option Entry
entry_at s n = slice_get s.reading.walk.entries n

abbrev table_of : Survey → ℕ → Option SurveyedTable
table_of s n = option_and_then (λ (e : Entry). slice_get s.tables.items (table_at e.term.place)) (entry_at s n)

abbrev part_at : Survey → ℕ → Option Found
part_at s n = part_declaring s.tables.items s.reading.walk.entries n

-- so a body that is found says it
pub loads_exactly : (s : Survey) (n : ℕ) (b : Option MethodBody) → IsBodyOf s.reading.walk.entries s.reading.counts s.tables.items s.depth n b → (body_loads b ≡ true) ↔ (LoadsTables s n)
loads_exactly s n b is = (to b is, λ h. alike_in s.reading.walk.entries s.reading.counts s.depth (part_at s n) (entry_at s n) (table_of s n) b (Some h.body) is h.is ∙ h.loads)
  where
    to : (b : Option MethodBody) → IsBodyOf s.reading.walk.entries s.reading.counts s.tables.items s.depth n b → body_loads b ≡ true → LoadsTables s n
    to None is loads = absurd (true≢false (sym loads))
    to (Some b) is loads = record { body = b; is = is; loads = loads }

-- a code without such an opcode is that of none
pub loads_hold : (s : Survey) (n : ℕ) → LoadsTables s n → code_holds_load (option_and_then method_code (part_at s n)) ≡ true
loads_hold s n h = holds_in s.reading.walk.entries s.reading.counts s.depth (part_at s n) (entry_at s n) (table_of s n) h.body h.is h.loads

pub loads_not : (s : Survey) (n : ℕ) → code_holds_load (option_and_then method_code (part_at s n)) ≡ false → (false ≡ true) ↔ (LoadsTables s n)
loads_not s n none = (λ e. absurd (true≢false (sym e)), λ h. sym none ∙ loads_hold s n h)

-- it has an entry
pub loads_within : (s : Survey) (n : ℕ) → LoadsTables s n → n < length s.reading.walk.entries
loads_within s n h =
    let there = entry_in s.reading.walk.entries s.reading.counts s.depth (part_at s n) (entry_at s n) (table_of s n) h.body h.is in
    slice_get_within s.reading.walk.entries n there.0 there.1

-- ---- numbers of entries

-- one number more
pub put_below : (s : Survey) (n : ℕ) (loads : Bool) (before after : List ℕ) → (loads ≡ true) ↔ (LoadsTables s n) → after ≡ cond loads (before ++ n ∷ []) before
    → AreBelow (LoadsTables s) n before → AreBelow (LoadsTables s) (n + 1) after
put_below s n true before after exact put h = subst (AreBelow (LoadsTables s) (n + 1)) (sym put) (one_with (LoadsTables s) n before (exact.0 refl) h)
put_below s n false before after exact put h = subst (AreBelow (LoadsTables s) (n + 1)) (sym put) (one_without (LoadsTables s) n before (λ k. absurd (true≢false (sym (exact.1 k)))) h)

-- behind the last entry
pub all_loading : (s : Survey) (end : ℕ) (numbers : List ℕ) → length s.reading.walk.entries ≤ end → AreBelow (LoadsTables s) end numbers → AreLoading s numbers
all_loading s end numbers past h = record {
  exactly = all_below (LoadsTables s) end numbers (λ n k. let within : n < length s.reading.walk.entries = loads_within s n k in omega arith) h;
  ascending = h.ascending;
}

pub as_long : {A B : Type 0} (f : A → B) (xs : List A) (ys : List B) → map f xs ≡ ys → length ys ≡ length xs
as_long f xs ys is = sym (ap length is) ∙ length-map xs f

-- the part that is found is that which declares the entry
pub part_is : (s p : Option Found) → Some s ≡ option_map Some p → s ≡ p
part_is s None e = absurd (cc e)
part_is s (Some x) e = some_is e
