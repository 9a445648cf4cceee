-- What the faults of a table say of its length and its sum.
use Rattle.std.proofs.Common.{◌≡◌, ◌≢◌, ◌↔◌, ℕ, ◌+◌, ◌-◌, List, length, take, drop, min, IsTrue, true, false, ap, sym, refl, ◌∙◌, arith}
use Rattle.std.proofs.lemmas.List.{drop-take, take_min}
use Rattle.std.specs.List.{slice_range}
use Rattle.acpi_table.specs.Tables.{length_field, IsRefusedAs}
use Rattle.acpi_table.specs.declared.tables.TableFault.TheVariants.{Short, BadLength, TooLong, Cut, BadSum}
use Rattle.acpi_table.specs.declared.tables.TableFault.{TableFault}
use Rattle.acpi_pieces.specs.declared.tables.TableReason.TheVariants.{Table}
use Rattle.acpi_pieces.specs.declared.tables.TableContent.TheVariants.{Unread}
use Rattle.acpi_pieces.specs.Pieces.{HasLength}
use Rattle.acpi_pieces.specs.Tables.{HasBadSum, IsJudged, code_in}

pub length_of_cut : (bytes : List ℕ) → IsRefusedAs Cut bytes → HasLength bytes
length_of_cut bytes cut = record { has_header = cut.0; least = cut.1; most = cut.2 }

pub sum_of_cut : (bytes : List ℕ) → IsRefusedAs Cut bytes → IsTrue false ↔ HasBadSum bytes
sum_of_cut bytes cut = (λ no_sum. cc, λ bad. absurd (omega (arith, cut.3, bad.0)))

pub length_of_bad_sum : (bytes : List ℕ) → IsRefusedAs BadSum bytes → HasLength bytes
length_of_bad_sum bytes bad = record { has_header = omega (arith, bad.0, bad.2); least = bad.0; most = bad.1 }

pub sum_of_bad_sum : (bytes : List ℕ) → IsRefusedAs BadSum bytes → IsTrue true ↔ HasBadSum bytes
sum_of_bad_sum bytes bad = (λ sum. (bad.2, bad.3), λ sum. refl)

-- what stands behind the header, up to the table's end or the last byte
pub code_range : (bytes : List ℕ) (end : ℕ) → HasLength bytes → end ≡ min (length_field bytes) (length bytes)
    → slice_range bytes 36 end ≡ code_in bytes
code_range bytes end l is =
    let at_end : end ≡ 36 + (end - 36) = omega (arith, is, l.least, l.has_header) in
    sym (drop-take 36 (end - 36) bytes) ∙ ap (λ n. drop 36 (take n bytes)) (sym at_end ∙ is)
    ∙ ap (drop 36) (take_min (length_field bytes) bytes)

pub unread_as : (number : ℕ) (fault : TableFault) (bytes : List ℕ) → fault ≢ Cut → fault ≢ BadSum → IsRefusedAs fault bytes
    → IsJudged number bytes (Unread (Table fault))
unread_as number Short bytes whole sum refused = refused
unread_as number BadLength bytes whole sum refused = refused
unread_as number TooLong bytes whole sum refused = refused
unread_as number Cut bytes whole sum refused = absurd (whole refl)
unread_as number BadSum bytes whole sum refused = absurd (sum refl)
