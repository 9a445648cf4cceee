-- Of each table something is judged, and its code is one.
use Rattle.std.proofs.Common.{◌≡◌, ◌↔◌, ◌⊎◌, ◌-◌, ◌<◌, ◌≤◌, ℕ, zero, suc, Bool, true, false, true≢false, List, length, take, IsTrue, inl, inr, refl, sym, ◌∙◌, arith}
use Rattle.std.specs.Prelude.{Decides, codes}
use Rattle.std.specs.Str.{bytes_eq}
use Rattle.std.proofs.lemmas.Bool.{cases_lt, cases_eq}
use Rattle.std.proofs.lemmas.Slice.Eq.{bytes_eq-Decides}
use Rattle.acpi_table.specs.Tables.{sum_of, length_field}
use Rattle.acpi_table.specs.declared.tables.TableFault.TheVariants.{Short, BadLength, TooLong}
use Rattle.acpi_pieces.specs.declared.tables.TableReason.{TableReason}
use Rattle.acpi_pieces.specs.declared.tables.TableReason.TheVariants.{Table, NotDsdt, NotSsdt}
use Rattle.acpi_pieces.specs.declared.tables.TableContent.{TableContent}
use Rattle.acpi_pieces.specs.declared.tables.TableContent.TheVariants.{Unread, Read}
use Rattle.acpi_pieces.specs.Pieces.{HasLength}
use Rattle.acpi_pieces.specs.Tables.{IsDsdt, IsSsdt, HasBadSum, IsOutOfPlace, IsJudged, code_in}
use Rattle.acpi_pieces.specs.Tables.{code_read}

-- ---- what can be told

told : {P : Type 0} → P ⊎ (P → ⊥) → (b : Bool) × (IsTrue b ↔ P)
told (inl p) = (true, (λ t. p, λ q. refl))
told (inr not_so) = (false, (λ t. absurd (true≢false (sym t)), λ p. absurd (not_so p)))

bytes_told : (xs ys : List ℕ) → (xs ≡ ys) ⊎ (xs ≡ ys → ⊥)
bytes_told xs ys = by (bytes_eq xs ys) (bytes_eq-Decides xs ys)
  where
    by : (b : Bool) → Decides b (xs ≡ ys) → (xs ≡ ys) ⊎ (xs ≡ ys → ⊥)
    by true d = inl (d.0 refl)
    by false d = inr (λ e. true≢false (sym (d.1 e)))

cut_told : (m n : ℕ) → (m < n) ⊎ (m < n → ⊥)
cut_told m n = by (cases_lt m n)
  where
    by : (m < n) ⊎ (n ≤ m) → (m < n) ⊎ (m < n → ⊥)
    by (inl less) = inl less
    by (inr more) = inr (λ less. omega (arith, less, more))

bad_sum_told : (bytes : List ℕ) → HasBadSum bytes ⊎ (HasBadSum bytes → ⊥)
bad_sum_told bytes = by (cases_lt (length bytes) (length_field bytes)) (cases_eq (sum_of (take (length_field bytes) bytes)) 0)
  where
    by : (length bytes < length_field bytes) ⊎ (length_field bytes ≤ length bytes) → (sum_of (take (length_field bytes) bytes) ≡ 0) ⊎ (sum_of (take (length_field bytes) bytes) ≡ 0 → ⊥)
        → HasBadSum bytes ⊎ (HasBadSum bytes → ⊥)
    by (inl cut) s = inr (λ bad. omega (arith, cut, bad.0))
    by (inr whole) (inl good) = inr (λ bad. bad.1 good)
    by (inr whole) (inr bad) = inl (whole, bad)

first_in_place : (bytes : List ℕ) → IsDsdt bytes → IsOutOfPlace zero bytes → ⊥
first_in_place bytes d (inl out) = out.1 d
first_in_place bytes d (inr out) = omega (arith, out.0)

later_in_place : (n : ℕ) (bytes : List ℕ) → IsSsdt bytes → IsOutOfPlace (suc n) bytes → ⊥
later_in_place n bytes s (inl out) = omega (arith, out.0)
later_in_place n bytes s (inr out) = out.1 s

place_told : (number : ℕ) (bytes : List ℕ) → IsDsdt bytes ⊎ (IsDsdt bytes → ⊥) → IsSsdt bytes ⊎ (IsSsdt bytes → ⊥) → IsOutOfPlace number bytes ⊎ (IsOutOfPlace number bytes → ⊥)
place_told zero bytes (inl d) s = inr (λ out. first_in_place bytes d out)
place_told zero bytes (inr other) s = inl (inl (refl, other))
place_told (suc n) bytes d (inl s) = inr (λ out. later_in_place n bytes s out)
place_told (suc n) bytes d (inr other) = inl (inr (omega arith, other))

-- ---- what is read of a table

read_of : (number : ℕ) (bytes : List ℕ) → HasLength bytes → IsDsdt bytes ⊎ IsSsdt bytes → (j : TableContent) × IsJudged number bytes j
read_of number bytes l signed =
    let cut = told (cut_told (length bytes) (length_field bytes)) in
    let sum = told (bad_sum_told bytes) in
    let out = told (place_told number bytes (bytes_told (take 4 bytes) (codes "DSDT")) (bytes_told (take 4 bytes) (codes "SSDT"))) in
    (Read (code_in bytes) cut.0 sum.0 out.0 (length bytes - length_field bytes), (l, signed, refl, cut.1, sum.1, out.1, refl))

unread_of : (number : ℕ) (bytes : List ℕ) → HasLength bytes → (IsDsdt bytes → ⊥) → (IsSsdt bytes → ⊥) → (j : TableContent) × IsJudged number bytes j
unread_of zero bytes l no_dsdt no_ssdt = (Unread NotDsdt, (l, no_dsdt, no_ssdt, refl))
unread_of (suc n) bytes l no_dsdt no_ssdt = (Unread NotSsdt, (l, no_dsdt, no_ssdt, omega arith))

by_signature : (number : ℕ) (bytes : List ℕ) → HasLength bytes → IsDsdt bytes ⊎ (IsDsdt bytes → ⊥) → IsSsdt bytes ⊎ (IsSsdt bytes → ⊥) → (j : TableContent) × IsJudged number bytes j
by_signature number bytes l (inl d) s = read_of number bytes l (inl d)
by_signature number bytes l (inr other) (inl s) = read_of number bytes l (inr s)
by_signature number bytes l (inr no_dsdt) (inr no_ssdt) = unread_of number bytes l no_dsdt no_ssdt

by_length : (number : ℕ) (bytes : List ℕ) → 36 ≤ length bytes → (length_field bytes < 36) ⊎ (36 ≤ length_field bytes) → (16777216 < length_field bytes) ⊎ (length_field bytes ≤ 16777216)
    → (j : TableContent) × IsJudged number bytes j
by_length number bytes has (inl less) m = (Unread (Table BadLength), (has, less))
by_length number bytes has (inr least) (inl more) = (Unread (Table TooLong), (has, more))
by_length number bytes has (inr least) (inr most) =
    by_signature number bytes (record { has_header = has; least = least; most = most }) (bytes_told (take 4 bytes) (codes "DSDT")) (bytes_told (take 4 bytes) (codes "SSDT"))

by_header : (number : ℕ) (bytes : List ℕ) → (length bytes < 36) ⊎ (36 ≤ length bytes) → (j : TableContent) × IsJudged number bytes j
by_header number bytes (inl short) = (Unread (Table Short), short)
by_header number bytes (inr has) = by_length number bytes has (cases_lt (length_field bytes) 36) (cases_lt 16777216 (length_field bytes))

pub judged : (number : ℕ) (bytes : List ℕ) → (j : TableContent) × IsJudged number bytes j
judged number bytes = by_header number bytes (cases_lt (length bytes) 36)

-- ---- its code is one

not_read : (number : ℕ) (bytes : List ℕ) (why : TableReason) → IsJudged number bytes (Unread why) → HasLength bytes → IsDsdt bytes ⊎ IsSsdt bytes → ⊥
not_read number bytes (Table Short) h l signed = omega (arith, h, l.has_header)
not_read number bytes (Table BadLength) h l signed = omega (arith, h.1, l.least)
not_read number bytes (Table TooLong) h l signed = omega (arith, h.1, l.most)
not_read number bytes (Table f) h l signed = absurd h
not_read number bytes NotDsdt h l (inl d) = h.1 d
not_read number bytes NotDsdt h l (inr s) = h.2 s
not_read number bytes NotSsdt h l (inl d) = h.1 d
not_read number bytes NotSsdt h l (inr s) = h.2 s

pub one_code : (number : ℕ) (bytes : List ℕ) (i j : TableContent) → IsJudged number bytes i → IsJudged number bytes j → code_read i ≡ code_read j
one_code number bytes (Unread why) (Unread what) h k = refl
one_code number bytes (Unread why) (Read code is_cut has_bad_sum is_out_of_place trailing) h k = absurd (not_read number bytes why h k.0 k.1)
one_code number bytes (Read code is_cut has_bad_sum is_out_of_place trailing) (Unread why) h k = absurd (not_read number bytes why k h.0 h.1)
one_code number bytes (Read code is_cut has_bad_sum is_out_of_place trailing) (Read other cut sum out more) h k = h.2 ∙ sym k.2
