-- A strict table is read whole.
use Rattle.std.proofs.Common.{◌≡◌, ℕ, zero, suc, false, List, take, drop, inl, inr, ap, ◌∙◌, arith}
use Rattle.std.proofs.lemmas.List.{take_all}
use Rattle.std.proofs.lemmas.Bool.{false_from_ne_true}
use Rattle.acpi_table.specs.Tables.{length_field, sum_of, IsTable}
use Rattle.acpi_table.specs.declared.tables.TableFault.TheVariants.{Short, BadLength, TooLong}
use Rattle.acpi_declare.specs.Tables.{IsNumbered, code_of}
use Rattle.acpi_pieces.specs.declared.tables.TableReason.TheVariants.{Table, NotDsdt, NotSsdt}
use Rattle.acpi_pieces.specs.declared.tables.TableContent.{TableContent}
use Rattle.acpi_pieces.specs.declared.tables.TableContent.TheVariants.{Unread, Read}
use Rattle.acpi_pieces.specs.Tables.{IsDsdt, IsSsdt, IsOutOfPlace, IsJudged}
use Rattle.acpi_conservative.specs.Laws.{StrictTableIsRead}

no_signature : (number : ℕ) (bytes : List ℕ) → IsNumbered number bytes → (IsDsdt bytes → ⊥) → (IsSsdt bytes → ⊥) → ⊥
no_signature zero bytes n not_dsdt not_ssdt = not_dsdt n.signed
no_signature (suc k) bytes n not_dsdt not_ssdt = not_ssdt n.signed

in_place : (number : ℕ) (bytes : List ℕ) → IsNumbered number bytes → IsOutOfPlace number bytes → ⊥
in_place zero bytes n (inl (is, no_dsdt)) = no_dsdt n.signed
in_place zero bytes n (inr (is, no_ssdt)) = omega (arith, is)
in_place (suc k) bytes n (inl (is, no_dsdt)) = omega (arith, is)
in_place (suc k) bytes n (inr (is, no_ssdt)) = no_ssdt n.signed

whole_table : (number : ℕ) (bytes : List ℕ) → IsNumbered number bytes → (j : TableContent) → IsJudged number bytes j → j ≡ Read (code_of bytes) false false false 0
whole_table number bytes n (Unread (Table Short)) h = absurd (omega (arith, h, n.table.has_header))
whole_table number bytes n (Unread (Table BadLength)) h = absurd (omega (arith, h.1, n.table.has_header, n.table.has_length))
whole_table number bytes n (Unread (Table TooLong)) h = absurd (omega (arith, h.1, n.table.within_limit, n.table.has_length))
whole_table number bytes n (Unread (Table f)) h = absurd h
whole_table number bytes n (Unread NotDsdt) h = absurd (no_signature number bytes n h.1 h.2)
whole_table number bytes n (Unread NotSsdt) h = absurd (no_signature number bytes n h.1 h.2)
whole_table number bytes n (Read code is_cut has_bad_sum is_out_of_place trailing) h =
    let t : IsTable bytes = n.table in
    let all : take (length_field bytes) bytes ≡ bytes = take_all (length_field bytes) bytes (omega (arith, t.has_length)) in
    let is_code : code ≡ code_of bytes = h.2 ∙ ap (drop 36) all in
    let whole : is_cut ≡ false = false_from_ne_true is_cut (λ is. omega (arith, h.3.0 is, t.has_length)) in
    let sum : has_bad_sum ≡ false = false_from_ne_true has_bad_sum (λ is. (h.4.0 is).1 (ap sum_of all ∙ t.sums_to_zero)) in
    let place : is_out_of_place ≡ false = false_from_ne_true is_out_of_place (λ is. in_place number bytes n (h.5.0 is)) in
    let none : trailing ≡ 0 = omega (arith, h.6, t.has_length) in
    λ i. Read (is_code i) (whole i) (sum i) (place i) (none i)

pub strict_table_is_read : StrictTableIsRead
strict_table_is_read depth number bytes is t j h = whole_table number bytes t.numbered j h
