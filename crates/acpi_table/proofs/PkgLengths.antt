-- Laws of package lengths: what is spelled is read, what is read is spelled, what is shortest.
use Rattle.std.proofs.Common.{◌≡◌, ◌≢◌, add_comm, add-one, ℕ, zero, suc, ◌+◌, ◌*◌, ◌^◌, ◌/◌, ◌%◌, ◌≤◌, ◌<◌, Bool, true, false, cond, ltb, List, [], ◌∷◌, ◌++◌, length, take, drop, slice_index, All, Result, Ok, Err, refl, sym, ap, subst, ◌∙◌, arith, inl, inr}
use Rattle.std.proofs.lemmas.Bool.{ltb-false, ltb-true, le-ltb, lt-ltb}
use Rattle.std.proofs.lemmas.List.{append-nil, get_or_past, length-append, length-take, take-append-drop, drop_at}
use Rattle.std.proofs.lemmas.List.Elements.{All-get_or, All-head, All-tail}
use Rattle.std.specs.Prelude.{◌↔◌, IfOk, IsErrOf}
use Rattle.byteorder.specs.Endian.{little_number, little_bytes}
use Rattle.acpi_table.specs.Gives.{Gives}
use Rattle.byteorder.specs.Numbers.{little_from-append, little_from-lt, little_number-reads_back, length-bytes_low_first}
use Rattle.acpi_table.proofs.Choices.{chosen, guard_ok}
use Rattle.acpi_table.specs.declared.lengths.PkgFault.{PkgFault}
use Rattle.acpi_table.specs.declared.lengths.PkgFault.TheVariants.{Cut, ReservedBits}
use Rattle.acpi_table.specs.PkgLength.{SpellsPkgLength, HasReservedBits, EndsInPkgLength, shortest_pkg_length, package_number}
use Rattle.acpi_table.specs.steps.PkgLengthRead.{pkg_length_at}

-- ---- what is spelled is read

pub pkg_length_again : (n : ℕ) (front rest : List ℕ) → SpellsPkgLength n front → pkg_length_at (front ++ rest) ≡ Ok (n, rest)
unfolding pkg_length_at
pkg_length_again n [] rest h = absurd h
pkg_length_again n (lead ∷ tail) rest (inl h) =
    rw (lt-ltb lead 64 h.0, h.1, h.2) refl
pkg_length_again n (lead ∷ tail) rest (inr h) =
    let low : ltb lead 64 ≡ false = le-ltb _ _ h.0 in
    let good : ltb 15 (lead % 64) ≡ false = le-ltb _ _ (omega (arith, h.1)) in
    let long : ltb (length (tail ++ rest)) (lead / 64) ≡ false = le-ltb _ _ (omega (arith, length-append tail rest, h.2)) in
    rw (low, good, long, drop_at tail rest (lead / 64) h.2, little_from-append (lead / 64) tail rest (omega (arith, h.2)), h.3) refl

-- ---- what is read is spelled

-- These bytes at the front spell the number that was read, and the rest stands after them.
pub record Took (bytes : List ℕ) (x : ℕ × List ℕ) : Type 0 where
  pub front : List ℕ
  pub spells : SpellsPkgLength x.0 front
  pub whole : bytes ≡ front ++ x.1

abbrev done : {A : Type 0} → A → Result A PkgFault
done x = Ok x

ok_is : {A : Type 0} (x y : A) → done x ≡ done y → x ≡ y
ok_is x y e = cc

pub pkg_length_took : (bytes : List ℕ) (x : ℕ × List ℕ) → pkg_length_at bytes ≡ Ok x → Took bytes x
unfolding pkg_length_at
pkg_length_took [] x e = absurd cc
pkg_length_took (b ∷ tail) x e =
    elim (chosen (ltb b 64) (Ok (b, tail)) _ (Ok x) e) [
      | inl t ↦
          let is = ok_is (b, tail) x t.1 in
          subst (Took (b ∷ tail)) is (record { front = b ∷ []; spells = inl (ltb-true b 64 t.0, refl, refl); whole = refl })
      | inr f ↦
          let g = guard_ok (ltb 15 (b % 64)) ReservedBits _ x f.1 in
          let h = guard_ok (ltb (length tail) (b / 64)) Cut _ x g.1 in
          let low : 64 ≤ b = ltb-false _ _ f.0 in
          let good : b % 64 ≤ 15 = ltb-false _ _ g.0 in
          let long : b / 64 ≤ length tail = ltb-false _ _ h.0 in
          let k = b / 64 in
          let len : length (take k tail) ≡ k = omega (arith, length-take k tail) in
          let whole : tail ≡ take k tail ++ drop k tail = sym (take-append-drop k tail) in
          let same : little_number k tail ≡ little_number k (take k tail) = ap (little_number k) whole ∙ little_from-append k (take k tail) (drop k tail) (omega arith) in
          let is = ok_is (b % 64 + 16 * little_number k tail, drop k tail) x h.1 in
          subst (Took (b ∷ tail)) is
          (record { front = b ∷ take k tail; spells = inr (low, omega arith, len, ap (λ n. b % 64 + 16 * n) same); whole = ap (λ (t : List ℕ). b ∷ t) whole })
    ]

-- a lead byte with as many bytes as it asks for
pub spells_wide : (lead : ℕ) (tail : List ℕ) → 64 ≤ lead → lead % 64 ≤ 15 → lead / 64 ≤ length tail
    → SpellsPkgLength (lead % 64 + 16 * little_number (lead / 64) tail) (take (1 + lead / 64) (lead ∷ tail))
spells_wide lead tail low good long =
    let k = lead / 64 in
    let len : length (take k tail) ≡ k = omega (arith, length-take k tail) in
    let whole : tail ≡ take k tail ++ drop k tail = sym (take-append-drop k tail) in
    let same : little_number k tail ≡ little_number k (take k tail) = ap (little_number k) whole ∙ little_from-append k (take k tail) (drop k tail) (omega arith) in
    rw (add_comm 1 k, add-one k) (inr (low, omega arith, len, ap (λ n. lead % 64 + 16 * n) same))

-- bytes begin with one package length at most
pub one_spelling : (bytes a after b rest : List ℕ) (m n : ℕ) → SpellsPkgLength m a → bytes ≡ a ++ after → SpellsPkgLength n b → bytes ≡ b ++ rest
    → (m ≡ n) × (length a ≡ length b)
one_spelling bytes a after b rest m n ha ea hb eb =
    let first : pkg_length_at bytes ≡ Ok (m, after) = rw ea (pkg_length_again m a after ha) in
    let second : pkg_length_at bytes ≡ Ok (n, rest) = rw eb (pkg_length_again n b rest hb) in
    let same = ok_is (m, after) (n, rest) (sym first ∙ second) in
    let left : length after ≡ length rest = ap (λ (x : ℕ × List ℕ). length x.1) same in
    let la : length bytes ≡ length a + length after = ap length ea ∙ length-append a after in
    let lb : length bytes ≡ length b + length rest = ap length eb ∙ length-append b rest in
    (ap (λ (x : ℕ × List ℕ). x.0) same, omega arith)

-- ---- what a fault says

abbrev failed : {A : Type 0} → PkgFault → Result A PkgFault
failed e = Err e

fault_is : {A : Type 0} (d e : PkgFault) → failed {A = A} d ≡ failed e → d ≡ e
fault_is d e h = cc

-- What a fault of reading says of the bytes.
abbrev pub Shows : PkgFault → List ℕ → Type 0
Shows ReservedBits bytes = HasReservedBits bytes
Shows Cut bytes = EndsInPkgLength bytes

pub pkg_length_failed : (bytes : List ℕ) (fault : PkgFault) → pkg_length_at bytes ≡ Err fault → Shows fault bytes
unfolding pkg_length_at
pkg_length_failed [] fault e = subst (λ f. Shows f []) (fault_is {A = ℕ × List ℕ} Cut fault e) tt
pkg_length_failed (b ∷ tail) fault e =
    elim (chosen (ltb b 64) (Ok (b, tail)) _ (Err fault) e) [
      | inl t ↦ absurd cc
      | inr f ↦
          let low : 64 ≤ b = ltb-false _ _ f.0 in
          elim (chosen (ltb 15 (b % 64)) (Err ReservedBits) _ (Err fault) f.1) [
            | inl t ↦ subst (λ f. Shows f (b ∷ tail)) (fault_is {A = ℕ × List ℕ} ReservedBits fault t.1) (low, ltb-true _ _ t.0)
            | inr g ↦
                elim (chosen (ltb (length tail) (b / 64)) (Err Cut) _ (Err fault) g.1) [
                  | inl t ↦ subst (λ f. Shows f (b ∷ tail)) (fault_is {A = ℕ × List ℕ} Cut fault t.1) (low, ltb-false _ _ g.0, ltb-true _ _ t.0)
                  | inr h ↦ absurd cc
                ]
          ]
    ]

-- Where a fault's condition holds, that fault is told.
pub pkg_length_refuses : (bytes : List ℕ) (fault : PkgFault) → Shows fault bytes → pkg_length_at bytes ≡ Err fault
unfolding pkg_length_at
pkg_length_refuses [] Cut h = refl
pkg_length_refuses [] ReservedBits h = absurd h
pkg_length_refuses (lead ∷ tail) ReservedBits h =
    let follows : ltb lead 64 ≡ false = le-ltb _ _ h.0 in
    let reserved : ltb 15 (lead % 64) ≡ true = lt-ltb _ _ h.1 in
    rw (follows, reserved) refl
pkg_length_refuses (lead ∷ tail) Cut h =
    let follows : ltb lead 64 ≡ false = le-ltb _ _ h.0 in
    let good : ltb 15 (lead % 64) ≡ false = le-ltb _ _ h.1 in
    let is_cut : ltb (length tail) (lead / 64) ≡ true = lt-ltb _ _ h.2 in
    rw (follows, good, is_cut) refl

-- ---- the shortest spelling

number_spells : (k n : ℕ) → n < 256 ^ k → (length (little_bytes k n) ≡ k) × (little_number k (little_bytes k n) ≡ n)
number_spells k n lt =
    (length-bytes_low_first 0 k n, ap (little_number k) (sym (append-nil (little_bytes k n))) ∙ little_number-reads_back k n [] lt)

-- a lead byte that says that k bytes follow
wide : (k lead n : ℕ) → lead ≡ 64 * k + n % 16 → 0 < k → k < 4 → n / 16 < 256 ^ k → SpellsPkgLength n (lead ∷ little_bytes k (n / 16))
wide k lead n is pos few lt =
    let s = number_spells k (n / 16) lt in
    let rest : lead / 64 ≡ k = omega arith in
    let low : lead % 64 ≡ n % 16 = omega arith in
    let number : n ≡ n % 16 + 16 * (n / 16) = omega arith in
    inr (omega arith, omega arith, s.0 ∙ sym rest, rw (rest, low, s.1) number)

pub shortest_spells : (n : ℕ) → n < 268435456 → SpellsPkgLength n (shortest_pkg_length n)
unfolding shortest_pkg_length
shortest_spells n lt = by_tests (ltb n 64) (ltb n 4096) (ltb n 1048576) refl refl refl
  where
    by_tests : (a b c : Bool) → ltb n 64 ≡ a → ltb n 4096 ≡ b → ltb n 1048576 ≡ c
        → SpellsPkgLength n (cond a (n ∷ []) (cond b ((64 + n % 16) ∷ little_bytes 1 (n / 16))
        (cond c ((128 + n % 16) ∷ little_bytes 2 (n / 16)) ((192 + n % 16) ∷ little_bytes 3 (n / 16)))))
    by_tests true b c x y z = inl (ltb-true n 64 x, refl, refl)
    by_tests false true c x y z = let h = ltb-true n 4096 y in wide 1 (64 + n % 16) n (omega arith) (omega arith) (omega arith) (omega arith)
    by_tests false false true x y z = let h = ltb-true n 1048576 z in wide 2 (128 + n % 16) n (omega arith) (omega arith) (omega arith) (omega arith)
    by_tests false false false x y z = wide 3 (192 + n % 16) n (omega arith) (omega arith) (omega arith) (omega arith)

pub one_byte : (n : ℕ) → n < 64 → length (shortest_pkg_length n) ≡ 1
unfolding shortest_pkg_length
one_byte n h = rw (lt-ltb n 64 h) refl

pub two_bytes : (n : ℕ) → 64 ≤ n → n < 4096 → length (shortest_pkg_length n) ≡ 2
unfolding shortest_pkg_length
two_bytes n l h = rw (le-ltb n 64 l, lt-ltb n 4096 h) refl

pub three_bytes : (n : ℕ) → 4096 ≤ n → n < 1048576 → length (shortest_pkg_length n) ≡ 3
unfolding shortest_pkg_length
three_bytes n l h = let k : 64 ≤ n = omega arith in rw (le-ltb n 64 k, le-ltb n 4096 l, lt-ltb n 1048576 h) refl

pub four_bytes : (n : ℕ) → 1048576 ≤ n → length (shortest_pkg_length n) ≡ 4
unfolding shortest_pkg_length
four_bytes n l = let k : 64 ≤ n = omega arith in let j : 4096 ≤ n = omega arith in rw (le-ltb n 64 k, le-ltb n 4096 j, le-ltb n 1048576 l) refl

-- A package's number counts its payload and its own bytes, and has a spelling.
pub number_counts : (payload : ℕ) → payload < 268435452 → (length (shortest_pkg_length (package_number payload)) + payload ≡ package_number payload) × (package_number payload < 268435456)
unfolding package_number
number_counts p lt = by_tests (ltb (p + 1) 64) (ltb (p + 2) 4096) (ltb (p + 3) 1048576) refl refl refl
  where
    by_tests : (a b c : Bool) → ltb (p + 1) 64 ≡ a → ltb (p + 2) 4096 ≡ b → ltb (p + 3) 1048576 ≡ c
        → (length (shortest_pkg_length (cond a (p + 1) (cond b (p + 2) (cond c (p + 3) (p + 4))))) + p
        ≡ cond a (p + 1) (cond b (p + 2) (cond c (p + 3) (p + 4)))) × (cond a (p + 1) (cond b (p + 2) (cond c (p + 3) (p + 4))) < 268435456)
    by_tests true b c x y z = let h = ltb-true _ _ x in (omega (arith, one_byte (p + 1) h), omega arith)
    by_tests false true c x y z = let h = ltb-true _ _ y in let g = ltb-false _ _ x in (omega (arith, two_bytes (p + 2) (omega arith) h), omega arith)
    by_tests false false true x y z = let h = ltb-true _ _ z in let g = ltb-false _ _ y in (omega (arith, three_bytes (p + 3) (omega arith) h), omega arith)
    by_tests false false false x y z = let g = ltb-false _ _ z in (omega (arith, four_bytes (p + 4) (omega arith)), omega arith)

-- ---- no spelling is shorter

-- the number in bytes is below what so many bytes hold
bytes_below : (k : ℕ) (bytes : List ℕ) → All (λ b. b < 256) bytes → length bytes ≡ k → little_number k bytes < 256 ^ k
bytes_below k bytes all is = little_from-lt 0 k bytes each
  where
    each : (i : ℕ) → slice_index bytes i < 256
    each i = by_test (ltb i (length bytes)) refl
      where
        by_test : (t : Bool) → ltb i (length bytes) ≡ t → slice_index bytes i < 256
        by_test true e = All-get_or (λ b. b < 256) bytes i 0 (ltb-true _ _ e) all
        by_test false e = let past : slice_index bytes i ≡ 0 = get_or_past bytes i 0 (ltb-false _ _ e) in omega (arith, past)

-- how great a number can be that so many bytes spell
pub record Fits (n : ℕ) (bytes : List ℕ) : Type 0 where
  pub some : 1 ≤ length bytes
  pub in_one : length bytes ≡ 1 → n < 64
  pub in_two : length bytes ≡ 2 → n < 4096
  pub in_three : length bytes ≡ 3 → n < 1048576
  pub in_all : n < 268435456

-- the number in k bytes after the lead
abbrev tail_number : ℕ → ℕ → List ℕ → ℕ
tail_number lead k tail = lead % 64 + 16 * little_number k tail

at_width : (n lead k : ℕ) (tail : List ℕ) → lead / 64 ≡ k → n ≡ tail_number lead (lead / 64) tail → n ≡ tail_number lead k tail
at_width n lead k tail is e = subst (λ w. n ≡ tail_number lead w tail) is e

pub spelled_fits : (n : ℕ) (bytes : List ℕ) → All (λ b. b < 256) bytes → SpellsPkgLength n bytes → Fits n bytes
spelled_fits n [] all h = absurd h
spelled_fits n (lead ∷ tail) all (inl h) =
    let one : length (lead ∷ tail) ≡ 1 = ap (λ (t : List ℕ). length (lead ∷ t)) h.1 in
    record {
      some = omega arith;
      in_one = λ e. omega (arith, h.2, h.0);
      in_two = λ e. omega (arith, h.2, h.0);
      in_three = λ e. omega (arith, h.2, h.0);
      in_all = omega (arith, h.2, h.0);
    }
spelled_fits n (lead ∷ tail) all (inr h) =
    let lead_lt : lead < 256 = All-head (λ b. b < 256) lead tail all in
    let rest = All-tail (λ b. b < 256) lead tail all in
    let wide : (k : ℕ) → lead / 64 ≡ k → little_number k tail < 256 ^ k = λ k is. bytes_below k tail rest (h.2 ∙ is) in
    let size : length (lead ∷ tail) ≡ 1 + lead / 64 = omega (arith, h.2) in
    let at_two : lead / 64 ≡ 1 → n < 4096 = λ is.
    let below : little_number 1 tail < 256 = wide 1 is in omega (arith, at_width n lead 1 tail is h.3, h.1) in
    let at_three : lead / 64 ≡ 2 → n < 1048576 = λ is.
    let below : little_number 2 tail < 65536 = wide 2 is in omega (arith, at_width n lead 2 tail is h.3, h.1) in
    let at_four : lead / 64 ≡ 3 → n < 268435456 = λ is.
    let below : little_number 3 tail < 16777216 = wide 3 is in omega (arith, at_width n lead 3 tail is h.3, h.1) in
    let three : lead / 64 ≤ 3 = omega arith in
    record {
      some = omega arith;
      in_one = λ e. omega (arith, h.0);
      in_two = λ e. at_two (omega arith);
      in_three = λ e. at_three (omega arith);
      in_all = by_width (lead / 64) refl three at_two at_three at_four;
    }
  where
    by_width : (k : ℕ) → lead / 64 ≡ k → k ≤ 3 → (lead / 64 ≡ 1 → n < 4096) → (lead / 64 ≡ 2 → n < 1048576) → (lead / 64 ≡ 3 → n < 268435456) → n < 268435456
    by_width zero is few a b c = omega (arith, h.0)
    by_width (suc zero) is few a b c = omega (arith, a is)
    by_width (suc (suc zero)) is few a b c = omega (arith, b is)
    by_width (suc (suc (suc zero))) is few a b c = c is
    by_width (suc (suc (suc (suc k)))) is few a b c = omega arith

-- a number that is too great for k bytes has no spelling in k bytes
above : (size k n bound : ℕ) → bound ≤ n → (size ≡ k → n < bound) → size ≢ k
above size k n bound low fits is = let lt : n < bound = fits is in omega arith

pub shortest_least : (n : ℕ) (other : List ℕ) → All (λ b. b < 256) other → SpellsPkgLength n other → length (shortest_pkg_length n) ≤ length other
shortest_least n other all h = by_tests (ltb n 64) (ltb n 4096) (ltb n 1048576) refl refl refl
  where
    fits : Fits n other
    fits = spelled_fits n other all h

    by_tests : (a b c : Bool) → ltb n 64 ≡ a → ltb n 4096 ≡ b → ltb n 1048576 ≡ c → length (shortest_pkg_length n) ≤ length other
    by_tests true b c x y z = omega (arith, one_byte n (ltb-true _ _ x), fits.some)
    by_tests false true c x y z =
        let low : 64 ≤ n = ltb-false _ _ x in
        omega (arith, two_bytes n low (ltb-true _ _ y), fits.some, above (length other) 1 n 64 low fits.in_one)
    by_tests false false true x y z =
        let low : 4096 ≤ n = ltb-false _ _ y in
        omega (arith, three_bytes n low (ltb-true _ _ z), fits.some, above (length other) 1 n 64 (omega arith) fits.in_one, above (length other) 2 n 4096 low fits.in_two)
    by_tests false false false x y z =
        let low : 1048576 ≤ n = ltb-false _ _ z in
        omega (
          arith,
          four_bytes n low,
          fits.some,
          above (length other) 1 n 64 (omega arith) fits.in_one,
          above (length other) 2 n 4096 (omega arith) fits.in_two,
          above (length other) 3 n 1048576 low fits.in_three,
        )

-- a payload that is too great for k bytes of its own isn't counted with k bytes
excess : (size k payload number bound : ℕ) → number ≡ size + payload → bound ≤ payload + k → (size ≡ k → number < bound) → size ≢ k
excess size k payload number bound is low fits same = let lt : number < bound = fits same in omega arith

pub number_least : (payload other : ℕ) (bytes : List ℕ) → All (λ b. b < 256) bytes → SpellsPkgLength other bytes → other ≡ length bytes + payload → package_number payload ≤ other
unfolding package_number
number_least p other bytes all h is = by_tests (ltb (p + 1) 64) (ltb (p + 2) 4096) (ltb (p + 3) 1048576) refl refl refl
  where
    fits : Fits other bytes
    fits = spelled_fits other bytes all h

    by_tests : (a b c : Bool) → ltb (p + 1) 64 ≡ a → ltb (p + 2) 4096 ≡ b → ltb (p + 3) 1048576 ≡ c → cond a (p + 1) (cond b (p + 2) (cond c (p + 3) (p + 4))) ≤ other
    by_tests true b c x y z = omega (arith, fits.some, is)
    by_tests false true c x y z =
        let low : 64 ≤ p + 1 = ltb-false _ _ x in
        let not_one = excess (length bytes) 1 p other 64 is low fits.in_one in
        omega (arith, fits.some, is, not_one)
    by_tests false false true x y z =
        let low : 4096 ≤ p + 2 = ltb-false _ _ y in
        let not_one = excess (length bytes) 1 p other 64 is (omega arith) fits.in_one in
        let not_two = excess (length bytes) 2 p other 4096 is low fits.in_two in
        omega (arith, fits.some, is, not_one, not_two)
    by_tests false false false x y z =
        let low : 1048576 ≤ p + 3 = ltb-false _ _ z in
        let not_one = excess (length bytes) 1 p other 64 is (omega arith) fits.in_one in
        let not_two = excess (length bytes) 2 p other 4096 is (omega arith) fits.in_two in
        let not_three = excess (length bytes) 3 p other 1048576 is low fits.in_three in
        omega (arith, fits.some, is, not_one, not_two, not_three)

-- How many bytes of its own a package's number takes.
pub ruleset own_bytes = (one_byte, two_bytes, three_bytes, four_bytes, number_least)

-- The shortest spelling spells, and no other is shorter.
pub ruleset shortest_is = (shortest_spells, shortest_least)

-- a result that says what `read_pkg_length` says is what the reading gives
pub pkg_length_exact : (bytes : List ℕ) (r : Result (ℕ × ℕ) PkgFault) → IfOk r (λ x. SpellsPkgLength x.0 (take x.1 bytes))
    → (IsErrOf r ReservedBits ↔ HasReservedBits bytes) → (IsErrOf r Cut ↔ EndsInPkgLength bytes) → Gives (λ x. (x.0, drop x.1 bytes)) r (pkg_length_at bytes)
pkg_length_exact bytes (Ok x) found reserved cut = ap pkg_length_at (sym (take-append-drop x.1 bytes)) ∙ pkg_length_again x.0 (take x.1 bytes) (drop x.1 bytes) found
pkg_length_exact bytes (Err ReservedBits) found reserved cut = pkg_length_refuses bytes ReservedBits (reserved.0 refl)
pkg_length_exact bytes (Err Cut) found reserved cut = pkg_length_refuses bytes Cut (cut.0 refl)
