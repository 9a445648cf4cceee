-- Behind the predefined entries stand those of the objects that strict listings declare, each with the object's part.
use Rattle.std.proofs.Common.{◌≡◌, ◌^◌, ◌<◌, ◌≤◌, ℕ, suc, List, [], ◌∷◌, ◌++◌, append_assoc, append-nil, length, length-append, slice_get, Some, refl, sym, ap, ◌∙◌, arith}
use Rattle.std.specs.List.{AllZip}
use Rattle.std.specs.Option.{option_and_then}
use Rattle.std.proofs.lemmas.List.{length-drop}
use Rattle.acpi_space.specs.Lookups.{union}
use Rattle.acpi_declare.specs.Namespace.{Namespace}
use Rattle.acpi_declare.specs.Predefined.{predefined}
use Rattle.acpi_declare.specs.Listing.{Placement, objects_of}
use Rattle.acpi_declare.specs.Loads.{AreListings}
use Rattle.acpi_declare.specs.Tables.{code_of}
use Rattle.acpi_outline.specs.Tiling.{Tiles}
use Rattle.acpi_outline.specs.View.{nodes_view}
use Rattle.acpi_conditions.specs.Entries.{Entry}
use Rattle.acpi_conditions.proofs.Viewing.{get_behind}
use Rattle.acpi_survey.specs.declared.machine_survey.SurveyedTable.{SurveyedTable}
use Rattle.acpi_ranges.specs.Sites.{table_at, byte_at}
use Rattle.acpi_ranges.specs.Lookup.{part_at}
use Rattle.acpi_ranges.proofs.Searching.{part_is_searched}
use Rattle.acpi_ranges.proofs.PartLookups.{part_within, in_table, at_byte}
use Rattle.acpi_survey.specs.Reading.{Reading}
use Rattle.acpi_survey.specs.Predefined.{first_reading}
use Rattle.acpi_pieces.specs.Tables.{code_read}
use Rattle.acpi_survey.specs.Survey.{place_in, behind_table}
use Rattle.acpi_survey.specs.Surveys.{AreTables, behind_nodes, bytes_of}
use Rattle.acpi_conservative.specs.Parts.{DeclaredPart, declared, all_declared, IsDeclaredAt, StrictReadIsDeclared}
use Rattle.acpi_conservative.proofs.WholeTables.{strict_table_is_read}
use Rattle.acpi_conservative.proofs.Steps.{both_zip, IsObjectAt, HaveEntries}
use Rattle.acpi_conservative.proofs.FollowedTables.{part_of, AreFollowed, strict_tables_follow}

-- ---- one table

module _ (kept : List SurveyedTable) (number : ℕ) (k : SurveyedTable) (here : slice_get kept number ≡ Some k) (tiles : Tiles 0 (length (code_read k.judged)) (nodes_view k.nodes))
    (short : length (code_read k.judged) ≤ 2 ^ 64) where
  one_object : (d : DeclaredPart) (e : Entry) → IsObjectAt (part_of k) (place_in number 0) d e → IsDeclaredAt kept d e
  one_object d e at =
      let within = part_within at.place (length (code_read k.judged)) 0 (length (code_read k.judged)) (nodes_view k.nodes) tiles at.part at.found in
      let low : at.place < 2 ^ 64 = omega (arith, within.1, short) in
      record {
        scope = at.scope;
        path = at.path;
        part = at.part;
        stands =
            ap (option_and_then (λ (t : SurveyedTable). part_at (byte_at e.term.place) (length (code_read t.judged)) (nodes_view t.nodes)))
            (ap (slice_get kept) (ap table_at at.stands ∙ in_table number at.place low) ∙ here)
            ∙ part_is_searched (byte_at e.term.place) (length (code_read k.judged)) (nodes_view k.nodes)
            ∙ ap (part_of k) (ap byte_at at.stands ∙ at_byte number at.place low)
            ∙ at.found;
        is_part = at.is_part;
      }

  all_objects : (ds : List DeclaredPart) (es : List Entry) → HaveEntries (part_of k) (place_in number 0) ds es → AllZip (IsDeclaredAt kept) ds es
  all_objects [] [] h = tt
  all_objects [] (e ∷ es) h = absurd h
  all_objects (d ∷ ds) [] h = absurd h
  all_objects (d ∷ ds) (e ∷ es) h = (one_object d e h.0, all_objects ds es h.1)

-- ---- table after table

module _ (depth : ℕ) (kept : List SurveyedTable) (last : Reading) where
  -- behind these entries stand those of the tables
  abbrev AreDeclared : List Entry → List (List Placement) → Type 0
  AreDeclared before ts = (es : List Entry) × (last.walk.entries ≡ before ++ es) × AllZip (IsDeclaredAt kept) (all_declared ts) es

  tables_declared : (number : ℕ) (front rest : List SurveyedTable) → kept ≡ front ++ rest → number ≡ length front → (s : Reading) → AreTables depth number s rest last
      → (objects : Namespace) (ts : List (List Placement)) → AreListings depth number objects (bytes_of rest) ts → (before : List Entry) → AreFollowed last number before ts rest → AreDeclared before ts
  tables_declared number front [] whole count s a objects [] l before f = ([], f ∙ sym (append-nil before), tt)
  tables_declared number front [] whole count s a objects (t ∷ ts) l before f = absurd f
  tables_declared number front (k ∷ rest) whole count s a objects [] l before f = absurd f
  tables_declared number front (k ∷ rest) whole count s a objects (t ∷ ts) l before f =
      let here : slice_get kept number ≡ Some k = ap (λ l. slice_get l number) whole ∙ ap (slice_get (front ++ k ∷ rest)) count ∙ get_behind front rest k in
      let code : length (code_read k.judged) ≡ length (code_of k.bytes) = ap length (ap code_read (strict_table_is_read depth number k.bytes l.0.0 l.0.1 k.judged a.0.judged)) in
      let short : length (code_read k.judged) ≤ 2 ^ 64 = omega (arith, code, length-drop 36 k.bytes, l.0.1.numbered.table.within_limit) in
      let later : AreDeclared (before ++ f.0.news) ts =
      tables_declared (suc number) (front ++ k ∷ []) rest (whole ∙ sym (append_assoc front (k ∷ []) rest)) (omega (arith, count, length-append front (k ∷ []))) (behind_table (behind_nodes number s k)) a.1
      (union objects (objects_of t)) ts l.1 (before ++ f.0.news) f.1 in (
        f.0.news ++ later.0,
        later.1 ∙ append_assoc before f.0.news later.0,
        both_zip (IsDeclaredAt kept) (declared t) (all_declared ts) f.0.news later.0 (all_objects kept number k here f.0.tiles short (declared t) f.0.news f.0.objects_there) later.2,
      )

pub strict_read_is_declared : StrictReadIsDeclared
strict_read_is_declared depth kept last a ts l =
    tables_declared depth kept last 0 [] kept refl refl first_reading a predefined ts l first_reading.walk.entries (strict_tables_follow depth kept last a ts l)
