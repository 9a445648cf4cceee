-- What a survey keeps of tables is what is read of them.
use Rattle.std.proofs.Common.{◌≡◌, ◌≤◌, ◌++◌, ◌+◌, ℕ, suc, List, [], ◌∷◌, length, drop, refl, sym, ap, subst, ◌∙◌, append-nil, append_assoc}
use Rattle.std.proofs.lemmas.List.{drop_all}
use Rattle.acpi_survey.specs.Reading.{Reading}
use Rattle.acpi_survey.specs.Predefined.{Predefined, with_object, with_objects, first_reading, predefined_root, predefined_scopes, predefined_objects, nothing_read}
use Rattle.acpi_survey.specs.Laws.{IsAtStart, IsSurveyed, IsOnlyReading}
use Rattle.acpi_survey.specs.Survey.{AreRead, behind_table}
use Rattle.acpi_survey.specs.Surveys.{IsTable, AreTables, behind_nodes, bytes_of, nodes_of_each}
use Rattle.acpi_survey.proofs.TableWalks.{read_is_survey}
use Rattle.acpi_survey.proofs.OneReading.{at_most_one}
use Rattle.acpi_survey.specs.declared.machine_survey.SurveyedTable.{SurveyedTable}

pub are_read : (depth number : ℕ) (s last : Reading) (ts : List SurveyedTable) → AreTables depth number s ts last → AreRead depth number s (bytes_of ts) (nodes_of_each ts) last
are_read depth number s last [] h = h
are_read depth number s last (t ∷ ts) h = (t.judged, h.0.judged, h.0.outline, are_read depth (suc number) (behind_table (behind_nodes number s t)) last ts h.1)

object_at_start : (s : Reading) (o : Predefined) → IsAtStart (with_object s o).walk
unfolding with_object
object_at_start s o = refl

objects_at_start : (os : List Predefined) (s : Reading) → IsAtStart s.walk → IsAtStart (with_objects s os).walk
objects_at_start [] s h = h
objects_at_start (o ∷ os) s h = objects_at_start os (with_object s o) (object_at_start s o)

-- what is known before all tables is at the start of a table
pub first_at_start : IsAtStart first_reading.walk
unfolding first_reading
first_at_start = objects_at_start predefined_objects (with_objects (with_object nothing_read predefined_root) predefined_scopes) (objects_at_start predefined_scopes (with_object nothing_read predefined_root) (object_at_start nothing_read predefined_root))

-- some tables are read of all whose bytes are these, and others stand behind them: what are further tables is so behind those that are
-- read
pub record Kept (depth : ℕ) (read : List SurveyedTable) (s : Reading) (behind all : List (List ℕ)) : Type 0 where
  pub bytes : bytes_of read ++ behind ≡ all
  pub tables : (rest : List SurveyedTable) (last : Reading) → AreTables depth (length read) s rest last → AreTables depth 0 first_reading (read ++ rest) last

pub kept_first : (depth : ℕ) (all : List (List ℕ)) → Kept depth [] first_reading all all
kept_first depth all = record { bytes = refl; tables = λ rest last h. h }

bytes_more : (read : List SurveyedTable) (t : SurveyedTable) (behind : List (List ℕ)) → bytes_of (read ++ t ∷ []) ++ behind ≡ bytes_of read ++ t.bytes ∷ behind
bytes_more [] t behind = refl
bytes_more (r ∷ read) t behind = ap (λ (bs : List (List ℕ)). r.bytes ∷ bs) (bytes_more read t behind)

length_more : (read : List SurveyedTable) (t : SurveyedTable) → length (read ++ t ∷ []) ≡ suc (length read)
length_more [] t = refl
length_more (r ∷ read) t = ap suc (length_more read t)

pub kept_more : (depth : ℕ) (read : List SurveyedTable) (s : Reading) (t : SurveyedTable) (behind all : List (List ℕ)) → Kept depth read s (t.bytes ∷ behind) all
    → IsTable depth (length read) s t → Kept depth (read ++ t ∷ []) (behind_table (behind_nodes (length read) s t)) behind all
kept_more depth read s t behind all k is = record {
  bytes = bytes_more read t behind ∙ k.bytes;
  tables = λ rest last h. subst (λ (ts : List SurveyedTable). AreTables depth 0 first_reading ts last) (sym (append_assoc read (t ∷ []) rest))
      (k.tables (t ∷ rest) last (is, subst (λ (n : ℕ). AreTables depth n (behind_table (behind_nodes (length read) s t)) rest last) (length_more read t) h));
}

pub kept_all : (depth : ℕ) (read : List SurveyedTable) (s : Reading) (all : List (List ℕ)) → Kept depth read s [] all → AreTables depth 0 first_reading read s
kept_all depth read s all k = subst (λ (ts : List SurveyedTable). AreTables depth 0 first_reading ts s) (append-nil read) (k.tables [] s refl)

-- one table more
pub kept_next : (depth n i : ℕ) (read next : List SurveyedTable) (s more : Reading) (t : SurveyedTable) (b : List ℕ) (all : List (List ℕ)) → Kept depth read s (drop i all) all
    → n ≡ length read → drop i all ≡ b ∷ drop (i + 1) all → t.bytes ≡ b → IsTable depth n s t → more ≡ behind_table (behind_nodes n s t) → next ≡ read ++ t ∷ []
    → Kept depth next more (drop (i + 1) all) all
kept_next depth n i read next s more t b all k number here bytes is after longer =
    let front : Kept depth read s (t.bytes ∷ drop (i + 1) all) all =
    subst (λ (bs : List (List ℕ)). Kept depth read s bs all) (here ∙ ap (λ (b : List ℕ). b ∷ drop (i + 1) all) (sym bytes)) k in
    let now : Kept depth (read ++ t ∷ []) (behind_table (behind_nodes (length read) s t)) (drop (i + 1) all) all =
    kept_more depth read s t (drop (i + 1) all) all front (subst (λ (m : ℕ). IsTable depth m s t) number is) in
    let behind : Kept depth (read ++ t ∷ []) more (drop (i + 1) all) all =
    subst (λ (r : Reading). Kept depth (read ++ t ∷ []) r (drop (i + 1) all) all) (sym (after ∙ ap (λ (m : ℕ). behind_table (behind_nodes m s t)) number)) now in
    subst (λ (ts : List SurveyedTable). Kept depth ts more (drop (i + 1) all) all) (sym longer) behind

-- behind all tables

kept_behind : (depth i : ℕ) (read : List SurveyedTable) (s : Reading) (all : List (List ℕ)) → length all ≤ i → Kept depth read s (drop i all) all → Kept depth read s [] all
kept_behind depth i read s all h k = subst (λ (bs : List (List ℕ)). Kept depth read s bs all) (drop_all i all h) k

pub all_kept : (depth i : ℕ) (read : List SurveyedTable) (s : Reading) (all : List (List ℕ)) → length all ≤ i → Kept depth read s (drop i all) all
    → AreTables depth 0 first_reading read s
all_kept depth i read s all h k = kept_all depth read s all (kept_behind depth i read s all h k)

pub all_bytes : (depth i : ℕ) (read : List SurveyedTable) (s : Reading) (all : List (List ℕ)) → length all ≤ i → Kept depth read s (drop i all) all → bytes_of read ≡ all
all_bytes depth i read s all h k = sym (append-nil (bytes_of read)) ∙ (kept_behind depth i read s all h k).bytes

pub all_read : (depth i : ℕ) (read : List SurveyedTable) (s : Reading) (all : List (List ℕ)) → length all ≤ i → Kept depth read s (drop i all) all
    → AreRead depth 0 first_reading all (nodes_of_each read) s
all_read depth i read s all h k =
    subst (λ (bs : List (List ℕ)). AreRead depth 0 first_reading bs (nodes_of_each read) s) (all_bytes depth i read s all h k) (are_read depth 0 first_reading s read (all_kept depth i read s all h k))

pub all_surveyed : (depth i : ℕ) (read : List SurveyedTable) (s : Reading) (all : List (List ℕ)) → length all ≤ i → Kept depth read s (drop i all) all
    → IsSurveyed 0 first_reading s (nodes_of_each read)
all_surveyed depth i read s all h k = read_is_survey depth 0 first_reading s all (nodes_of_each read) first_at_start (all_read depth i read s all h k)

pub all_only : (depth i : ℕ) (read : List SurveyedTable) (s : Reading) (all : List (List ℕ)) → length all ≤ i → Kept depth read s (drop i all) all
    → IsOnlyReading depth all (nodes_of_each read) s
all_only depth i read s all h k = λ mss other r. at_most_one depth 0 first_reading s other all (nodes_of_each read) mss (all_read depth i read s all h k) r
