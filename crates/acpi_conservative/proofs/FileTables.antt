-- A file of whole tables is cut into these.
use Rattle.std.proofs.Common.{◌≡◌, ◌∙◌, ◌+◌, ℕ, List, [], ◌∷◌, ◌++◌, length, take, refl, sym, ap, subst, arith}
use Rattle.std.specs.List.{AllByRecursion, concat}
use Rattle.std.proofs.lemmas.List.{length-append, take_at, drop_at}
use Rattle.std.proofs.lemmas.List.Elements.{recursion_from_All}
use Rattle.acpi_table.specs.Tables.{length_field, IsTable}
use Rattle.acpi_table.proofs.TableLaws.{length_field-append}
use Rattle.acpi_pieces.specs.Pieces.{IsFront, ArePieces}
use Rattle.acpi_pieces.proofs.FilePieces.{one}
use Rattle.acpi_conservative.specs.Laws.{StrictFileIsCut}

whole_front : (table rest : List ℕ) → IsTable table → IsFront table (table ++ rest)
whole_front table rest h =
    let size : length (table ++ rest) ≡ length table + length rest = length-append table rest in
    let field : length_field (table ++ rest) ≡ length table = length_field-append table rest h.has_header ∙ h.has_length in
    record {
      some = λ empty. let none : length (table ++ rest) ≡ 0 = ap length empty in omega (arith, none, size, h.has_header);
      table = λ l. sym (ap (λ n. take n (table ++ rest)) field ∙ take_at table rest (length table) refl);
      other = λ none. absurd (none (record { has_header = omega (arith, size, h.has_header); least = omega (arith, field, h.has_header); most = omega (arith, field, h.within_limit) }));
    }

whole_pieces : (tables : List (List ℕ)) → AllByRecursion IsTable tables → ArePieces tables (concat tables)
whole_pieces [] h = refl
whole_pieces (table ∷ tables) h = (
  whole_front table (concat tables) h.0,
  subst (ArePieces tables) (sym (drop_at table (concat tables) (length table) refl)) (whole_pieces tables h.1),
)

pub strict_file_is_cut : StrictFileIsCut
strict_file_is_cut tables whole pieces are = one pieces tables (concat tables) are (whole_pieces tables (recursion_from_All IsTable tables whole))
