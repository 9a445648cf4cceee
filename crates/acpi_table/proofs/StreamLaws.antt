-- Reading piece by piece: what was taken so far.
use Rattle.std.proofs.Common.{Result, Ok, Err, ◌≡◌, ◌≢◌, ℕ, ◌+◌, ◌≤◌, ◌<◌, length, take, IfSome, arith, List, ◌++◌, Option, Some, None, refl, sym, ap, subst, ◌∙◌, append_assoc, append-nil, []}
use Rattle.std.proofs.lemmas.List.{length-append, take_at}
use Rattle.std.specs.Io.KnownBytes.{Consumes, IsAtEnd}
use Rattle.std.proofs.KnownBytes.{Consumes-trans}
use Rattle.acpi_table.proofs.TableLaws.{length_field-append, table_again}
use Rattle.acpi_table.specs.steps.Taking.{TakesOnto}
use Rattle.acpi_table.specs.Tables.{sum_of, length_field, IsTable, IsRefusedAs, table_at}
use Rattle.acpi_table.specs.declared.streams.ReadFault.{ReadFault}
use Rattle.acpi_table.specs.declared.streams.ReadFault.TheVariants.{Table}
use Rattle.acpi_table.specs.declared.tables.TableFault.{TableFault}
use Rattle.acpi_table.specs.declared.tables.TableFault.TheVariants.{Short, BadLength, TooLong, Cut, BadSum}

-- nothing read is nothing taken
pub TakesOnto-nothing : (a : Option (List ℕ)) (there : List ℕ) → TakesOnto a a there there
TakesOnto-nothing None there = ([], sym (append-nil there), tt)
TakesOnto-nothing (Some xs) there = ([], sym (append-nil there), refl)

-- one piece after another
pub TakesOnto-both : (a b c : Option (List ℕ)) (there more all : List ℕ) → TakesOnto a b there more → TakesOnto b c more all → TakesOnto a c there all
TakesOnto-both a b c there more all p q =
    (p.0 ++ q.0, q.1 ∙ ap (λ l. l ++ q.0) p.1 ∙ append_assoc there p.0 q.0, Consumes-trans a b c p.0 q.0 p.2 q.2)

-- what a loop that reads pieces keeps
pub record SoFar (coming coming' : Option (List ℕ)) (failures failures' : ℕ) (old new : List ℕ) (size target : ℕ) : Type 0 where
  pub within : size ≤ target
  pub taken : TakesOnto coming coming' old new
  pub kept : failures' ≡ failures

refused_at : (xs first more all rest : List ℕ) → all ≡ first ++ more → xs ≡ all ++ rest
    → 36 ≤ length first → 36 ≤ length_field first → length_field first ≤ 16777216 → length all ≡ length_field first → sum_of all ≢ 0
    → IsRefusedAs BadSum xs × (xs ≢ [])
refused_at xs first more all rest grown split long low high whole sum =
    let same : length_field all ≡ length_field first = ap length_field grown ∙ length_field-append first more long in
    let field : length_field xs ≡ length all =
    ap length_field split ∙ length_field-append all rest (omega arith) ∙ same ∙ sym whole in
    let size : length xs ≡ length all + length rest = ap length split ∙ length-append all rest in
    let front : take (length_field xs) xs ≡ all =
    ap (λ n. take n xs) field ∙ ap (take (length all)) split ∙ take_at all rest (length all) refl in
    ((omega arith, omega arith, omega arith, λ zero. sum (ap sum_of (sym front) ∙ zero)), λ none. absurd (some none))
  where
    some : xs ≡ [] → ⊥
    some none = let size : length xs ≡ 0 = ap length none in let all_size : length xs ≡ length all + length rest = ap length split ∙ length-append all rest in omega arith

-- A whole table's bytes were read, and they don't sum to 0.
pub bad_sum_refused : (a b c : Option (List ℕ)) (start first all : List ℕ) (n : ℕ) → start ≡ [] → TakesOnto a b start first → TakesOnto b c first all
    → n ≡ length_field first → 36 ≤ length first → 36 ≤ n → n ≤ 16777216 → length all ≡ n → sum_of all ≢ 0
    → IfSome a (λ bytes. IsRefusedAs BadSum bytes × (bytes ≢ []))
bad_sum_refused None b c start first all n empty p q field long low high whole sum = tt
bad_sum_refused (Some xs) b c start first all n empty p q field long low high whole sum =
    let both = TakesOnto-both (Some xs) b c start first all p q in
    by_end c both.0 both.2 (both.1 ∙ ap (λ l. l ++ both.0) empty)
  where
    by_end : (c : Option (List ℕ)) (taken : List ℕ) → Consumes (Some xs) c taken → all ≡ taken → IsRefusedAs BadSum xs × (xs ≢ [])
    by_end None taken h same = absurd h
    by_end (Some ys) taken h same =
        refused_at xs first q.0 all ys q.1 (h ∙ ap (λ l. l ++ ys) (sym same)) long (omega arith) (omega arith) (whole ∙ field) sum

-- What was taken onto nothing was taken whole.
pub taken_whole : (a b : Option (List ℕ)) (start all : List ℕ) → start ≡ [] → TakesOnto a b start all → Consumes a b all
taken_whole a b start all empty p = subst (Consumes a b) (sym (p.1 ∙ ap (λ s. s ++ p.0) empty)) p.2

-- Bytes that were taken are the front of what a source told.
told_front : (P : List ℕ → Type 0) (a b : Option (List ℕ)) (all : List ℕ) → Consumes a b all → ((rest : List ℕ) → P (all ++ rest)) → IfSome a P
told_front P None b all taken holds = tt
told_front P (Some xs) None all taken holds = absurd taken
told_front P (Some xs) (Some ys) all taken holds = subst P (sym taken) (holds ys)

-- Bytes that were taken up to the end are all that a source told.
told_all : (P : List ℕ → Type 0) (a b : Option (List ℕ)) (all : List ℕ) → Consumes a b all → IsAtEnd b → P all → IfSome a P
told_all P None b all taken end holds = tt
told_all P (Some xs) None all taken end holds = absurd taken
told_all P (Some xs) (Some ys) all taken end holds = subst P (sym (taken ∙ ap (λ l. all ++ l) end ∙ append-nil all)) holds

abbrev Refuses : TableFault → List ℕ → Type 0
Refuses fault bytes = IsRefusedAs fault bytes × (bytes ≢ [])

some_bytes : (xs : List ℕ) → 0 < length xs → xs ≢ []
some_bytes xs some = λ none. let size : length xs ≡ 0 = ap length none in omega arith

-- The input ended within the header.
pub short_refused : (a b : Option (List ℕ)) (start first : List ℕ) → start ≡ [] → TakesOnto a b start first → IsAtEnd b
    → 0 < length first → length first < 36 → IfSome a (λ bytes. IsRefusedAs Short bytes × (bytes ≢ []))
short_refused a b start first empty p end some short =
    told_all (Refuses Short) a b first (taken_whole a b start first empty p) end (short, some_bytes first some)

-- The header says fewer bytes than its own.
pub bad_length_refused : (a b : Option (List ℕ)) (start first : List ℕ) (n : ℕ) → start ≡ [] → TakesOnto a b start first
    → n ≡ length_field first → 36 ≤ length first → n < 36 → IfSome a (λ bytes. IsRefusedAs BadLength bytes × (bytes ≢ []))
bad_length_refused a b start first n empty p field long low =
    told_front (Refuses BadLength) a b first (taken_whole a b start first empty p) (λ rest.
    let size = length-append first rest in
    let same = length_field-append first rest long in
    ((omega arith, omega arith), some_bytes (first ++ rest) (omega arith)))

-- The header says more bytes than a table may have.
pub too_long_refused : (a b : Option (List ℕ)) (start first : List ℕ) (n : ℕ) → start ≡ [] → TakesOnto a b start first
    → n ≡ length_field first → 36 ≤ length first → 16777216 < n → IfSome a (λ bytes. IsRefusedAs TooLong bytes × (bytes ≢ []))
too_long_refused a b start first n empty p field long high =
    told_front (Refuses TooLong) a b first (taken_whole a b start first empty p) (λ rest.
    let size = length-append first rest in
    let same = length_field-append first rest long in
    ((omega arith, omega arith), some_bytes (first ++ rest) (omega arith)))

-- The input ended within the table.
pub cut_refused : (a b c : Option (List ℕ)) (start first all : List ℕ) (n : ℕ) → start ≡ [] → TakesOnto a b start first → TakesOnto b c first all → IsAtEnd c
    → n ≡ length_field first → 36 ≤ length first → 36 ≤ n → n ≤ 16777216 → length all < n
    → IfSome a (λ bytes. IsRefusedAs Cut bytes × (bytes ≢ []))
cut_refused a b c start first all n empty p q end field long low high cut =
    let size : length all ≡ length first + length q.0 = ap length q.1 ∙ length-append first q.0 in
    let same : length_field all ≡ length_field first = ap length_field q.1 ∙ length_field-append first q.0 long in
    told_all (Refuses Cut) a c all (taken_whole a c start all empty (TakesOnto-both a b c start first all p q)) end
    ((omega arith, omega arith, omega arith, omega arith), some_bytes all (omega arith))

-- A whole table's bytes were read, and they sum to 0.
pub whole_read : (a b : Option (List ℕ)) (first all : List ℕ) (n : ℕ) → TakesOnto a b first all → n ≡ length_field first → 36 ≤ length first → 36 ≤ n → n ≤ 16777216
    → length all ≡ n → sum_of all ≡ 0 → IsTable all
whole_read a b first all n p field long low high whole sum =
    let same : length_field all ≡ length_field first = ap length_field p.1 ∙ length_field-append first p.0 long in
    record {
      has_header = omega arith;
      within_limit = omega arith;
      has_length = omega arith;
      sums_to_zero = sum;
    }

abbrev failed : (A : Type 0) → TableFault → Result A ReadFault
failed A fault = Err (Table fault)

-- a table's fault is told as it is
pub table_fault_is : (A : Type 0) (d e : TableFault) → failed A d ≡ failed A e → d ≡ e
table_fault_is A d e h = cc

-- A table that was taken from bytes that a source told is what is cut off there.
pub taken_is_cut : (xs ys table : List ℕ) → IsTable table → Consumes (Some xs) (Some ys) table → table_at xs ≡ Ok (table, ys)
taken_is_cut xs ys table is taken = ap table_at taken ∙ table_again table ys is
