-- Readings that find exactly what is spelled, and stop exactly where it fails.
use Rattle.std.proofs.Common.{◌≡◌, ◌≢◌, ◌⊎◌, ℕ, zero, suc, ◌-◌, ◌+◌, ◌≤◌, ◌<◌, Bool, true, false, ltb, ◌||◌, List, [], ◌∷◌, ◌++◌, length, take, Result, Ok, Err, refl, sym, ap, subst, ◌∙◌, append_assoc, arith, inl, inr}
use Rattle.std.proofs.lemmas.Bool.{lt-ltb, ltb-false, ltb-true, or_parts}
use Rattle.std.proofs.lemmas.List.{length-append, length-take, take-append-drop, append-nil}
use Rattle.acpi_table.specs.PkgLength.{SpellsPkgLength}
use Rattle.acpi_table.specs.steps.PkgLengthRead.{pkg_length_at}
use Rattle.acpi_table.specs.declared.lengths.PkgFault.{PkgFault}
use Rattle.acpi_table.specs.declared.lengths.PkgFault.TheVariants as lengths
use Rattle.acpi_table.proofs.PkgLengths.{pkg_length_took, pkg_length_failed, pkg_length_refuses}
use Rattle.acpi_code.specs.declared.fault.CodeReason.TheVariants.{Cut, ReservedBits, Overrun}
use Rattle.acpi_code.specs.declared.fault.CodeFault.{CodeFault}
use Rattle.acpi_code.specs.declared.opcode.Opcode.{Opcode}
use Rattle.acpi_code.specs.Opcodes.{opcode_bytes, BeginsWith}
use Rattle.acpi_code.specs.Spelling.{SpellsEach}
use Rattle.acpi_code.specs.Faults.{Failure, FailsAs, FailsBehind, FailsInTurn, FailsEach, FailsPkgLength, Overruns, FailsPackage, FailsOpcode, FailsByOpcode}
use Rattle.acpi_code.specs.steps.Opcodes.{first_opcode, is_spelled}
use Rattle.acpi_code.specs.steps.Reading.{◌>>=◌, with_fault, Reading, each_with, each_at, fault_at, or_length_fault, length_in, Package, package_of, package_at, opcode_at, byte_at}
use Rattle.acpi_code.proofs.Readings.{Judge, judge_bind, judge_into, judge_if, judge_told, Front}
use Rattle.acpi_code.proofs.Lists.{fails_on, reads_on, all_at, each_complete, StopsAt, stops_here, stops_behind}
use Rattle.acpi_code.proofs.Numbers.{length_complete}
use Rattle.acpi_code.proofs.Opcodes.{opens, Opened, opcode_found, first_begins, opcode_opened}
use Rattle.acpi_code.proofs.Packages.{PackageFront, package_complete}

-- a reading of what stands first
pub record Exact {A F : Type 0} (Spells : A → List ℕ → Type 0) (Fails : Failure F) (read : ℕ → List ℕ → Reading F A) : Type 0 where
  pub found : (end : ℕ) (x : A) (a rest : List ℕ) → Spells x a → read end (a ++ rest) ≡ Ok (x, rest)
  pub judged : (end : ℕ) (bytes : List ℕ) → Judge (Front Spells bytes) (Fails end bytes) (read end bytes)
  pub stops : (end : ℕ) (bytes : List ℕ) (f : F) → Fails end bytes f → read end bytes ≡ Err f

-- a reading of all of the bytes
pub record ExactAll {X F : Type 0} (Spells : X → List ℕ → Type 0) (Fails : Failure F) (read : ℕ → List ℕ → Result X F) : Type 0 where
  pub found : (end : ℕ) (x : X) (bytes : List ℕ) → Spells x bytes → read end bytes ≡ Ok x
  pub judged : (end : ℕ) (bytes : List ℕ) → Judge (λ x. Spells x bytes) (Fails end bytes) (read end bytes)
  pub stops : (end : ℕ) (bytes : List ℕ) (f : F) → Fails end bytes f → read end bytes ≡ Err f

-- ---- parts, as what holds them

-- a fault as another shows what it shows
pub as_judged : {A F G : Type 0} (Good : A → Type 0) (Fails : Failure F) (into : F → G) (end : ℕ) (bytes : List ℕ) (r : Result A F) → Judge Good (Fails end bytes) r → Judge Good (FailsAs into Fails end bytes) (with_fault into r)
as_judged Good Fails into end bytes r h = judge_told Good (Fails end bytes) (FailsAs into Fails end bytes) into r (λ f b. (f, b, refl)) h

pub as_stops : {A F G : Type 0} (Fails : Failure F) (into : F → G) (end : ℕ) (bytes : List ℕ) (r : Result A F) (g : G) → ((f : F) → Fails end bytes f → r ≡ Err f) → FailsAs into Fails end bytes g → with_fault into r ≡ Err g
as_stops Fails into end bytes r g stops h = ap (with_fault into) (stops h.0 h.1) ∙ ap Err (sym h.2)

pub exact_as : {A F G : Type 0} (Spells : A → List ℕ → Type 0) (Fails : Failure F) (read : ℕ → List ℕ → Reading F A) (into : F → G) → Exact Spells Fails read
    → Exact Spells (FailsAs into Fails) (λ end bytes. with_fault into (read end bytes))
exact_as Spells Fails read into e = record {
  found = λ end x a rest h. ap (with_fault into) (e.found end x a rest h);
  judged = λ end bytes. as_judged (Front Spells bytes) Fails into end bytes (read end bytes) (e.judged end bytes);
  stops = λ end bytes g h. as_stops Fails into end bytes (read end bytes) g (e.stops end bytes) h;
}

pub all_as : {X F G : Type 0} (Spells : X → List ℕ → Type 0) (Fails : Failure F) (read : ℕ → List ℕ → Result X F) (into : F → G) → ExactAll Spells Fails read
    → ExactAll Spells (FailsAs into Fails) (λ end bytes. with_fault into (read end bytes))
all_as Spells Fails read into e = record {
  found = λ end x bytes h. ap (with_fault into) (e.found end x bytes h);
  judged = λ end bytes. as_judged (λ x. Spells x bytes) Fails into end bytes (read end bytes) (e.judged end bytes);
  stops = λ end bytes g h. as_stops Fails into end bytes (read end bytes) g (e.stops end bytes) h;
}

-- the same, of what is spelled alike
pub exact_alike : {A F : Type 0} (Spells Spells2 : A → List ℕ → Type 0) (Fails : Failure F) (read : ℕ → List ℕ → Reading F A)
    → ((x : A) (a : List ℕ) → Spells x a → Spells2 x a) → ((x : A) (a : List ℕ) → Spells2 x a → Spells x a) → Exact Spells Fails read → Exact Spells2 Fails read
exact_alike Spells Spells2 Fails read there back e = record {
  found = λ end x a rest h. e.found end x a rest (back x a h);
  judged = λ end bytes. judge_into (Front Spells bytes) (Front Spells2 bytes) (Fails end bytes) (Fails end bytes) (read end bytes)
      (λ x t. record { front = t.front; spells = there x.0 t.front t.spells; whole = t.whole }) (λ f h. h) (e.judged end bytes);
  stops = e.stops;
}

-- what was read is made into a value
pub made_judged : {A B F : Type 0} (Spells : A → List ℕ → Type 0) (Spells2 : B → List ℕ → Type 0) (Bad : F → Type 0) (made : A → B) (bytes : List ℕ) (r : Reading F A)
    → ((v : A) (a : List ℕ) → Spells v a → Spells2 (made v) a) → Judge (Front Spells bytes) Bad r → Judge (Front Spells2 bytes) Bad (r >>= λ x. Ok (made x.0, x.1))
made_judged Spells Spells2 Bad made bytes (Ok x) k h = record { front = h.front; spells = k x.0 h.front h.spells; whole = h.whole }
made_judged Spells Spells2 Bad made bytes (Err f) k h = h

-- what was read behind these bytes is read with them
pub behind_judged : {A F : Type 0} (Spells Spells2 : A → List ℕ → Type 0) (Fails : Failure F) (op : List ℕ) (end : ℕ) (bytes rest : List ℕ) (r : Reading F A) → bytes ≡ op ++ rest
    → ((v : A) (a : List ℕ) → Spells v a → Spells2 v (op ++ a)) → Judge (Front Spells rest) (Fails end rest) r → Judge (Front Spells2 bytes) (FailsBehind op Fails end bytes) r
behind_judged Spells Spells2 Fails op end bytes rest (Ok x) is k h =
    record { front = op ++ h.front; spells = k x.0 h.front h.spells; whole = is ∙ ap (λ (t : List ℕ). op ++ t) h.whole ∙ sym (append_assoc op h.front x.1) }
behind_judged Spells Spells2 Fails op end bytes rest (Err f) is k h = (rest, is, h)

-- ---- one part, and what is read behind it

pub turn_judged : {A B F : Type 0} (Spells : A → List ℕ → Type 0) (First : Failure F) (Then : A → Failure F) (read : ℕ → List ℕ → Reading F A) (Good : B → Type 0) (end : ℕ) (bytes : List ℕ) (k : A × List ℕ → Result B F)
    → Exact Spells First read → ((x : A × List ℕ) → Front Spells bytes x → Judge Good (Then x.0 end x.1) (k x)) → Judge Good (FailsInTurn First Spells Then end bytes) (read end bytes >>= k)
turn_judged Spells First Then read Good end bytes k e more =
    let Bad = FailsInTurn First Spells Then end bytes in
    judge_bind (Front Spells bytes) Good Bad (read end bytes) k
    (judge_into (Front Spells bytes) (Front Spells bytes) (First end bytes) Bad (read end bytes) (λ x t. t) (λ f h. inl h) (e.judged end bytes))
    (λ x t. judge_into Good Good (Then x.0 end x.1) Bad (k x) (λ y g. g) (λ f h. inr (x.0, t.front, x.1, t.spells, t.whole, h)) (more x t))

pub turn_stops : {A B F : Type 0} (Spells : A → List ℕ → Type 0) (First : Failure F) (Then : A → Failure F) (read : ℕ → List ℕ → Reading F A) (end : ℕ) (bytes : List ℕ) (k : A × List ℕ → Result B F) (f : F)
    → Exact Spells First read → ((x : A) (b : List ℕ) → Then x end b f → k (x, b) ≡ Err f) → FailsInTurn First Spells Then end bytes f → (read end bytes >>= k) ≡ Err f
turn_stops Spells First Then read end bytes k f e more (inl h) = fails_on f (read end bytes) k (e.stops end bytes f h)
turn_stops Spells First Then read end bytes k f e more (inr h) =
    ap (λ (l : List ℕ). read end l >>= k) h.4 ∙ reads_on (read end (h.1 ++ h.2)) (h.0, h.2) k (e.found end h.0 h.1 h.2 h.3) ∙ more h.0 h.2 h.5

-- ---- one after another to the end of the bytes

some_left : (b : ℕ) (rest : List ℕ) → b ∷ rest ≢ []
some_left b rest e = cc

pub not_empty : (bytes : List ℕ) → bytes ≢ [] → 0 < length bytes
not_empty [] h = absurd (h refl)
not_empty (b ∷ bytes) h = omega arith

pub each_judged : {A F : Type 0} (Spells : A → List ℕ → Type 0) (One : Failure F) (read : ℕ → List ℕ → Reading F A) → Exact Spells One read → ((x : A) (a : List ℕ) → Spells x a → 0 < length a)
    → (end n : ℕ) (bytes : List ℕ) → length bytes ≤ n → Judge (λ xs. SpellsEach Spells xs bytes) (FailsEach Spells One end bytes) (each_with (read end) n bytes)
unfolding each_with
each_judged Spells One read e long end zero [] le = refl
each_judged Spells One read e long end zero (b ∷ rest) le = absurd (omega arith)
each_judged Spells One read e long end (suc n) [] le = refl
each_judged {A} Spells One read e long end (suc n) (b ∷ rest) le =
    let G : List A → Type 0 = λ xs. SpellsEach Spells xs (b ∷ rest) in
    let Bad = FailsEach Spells One end (b ∷ rest) in
    judge_bind (Front Spells (b ∷ rest)) G Bad (read end (b ∷ rest)) _
    (judge_into (Front Spells (b ∷ rest)) (Front Spells (b ∷ rest)) (One end (b ∷ rest)) Bad (read end (b ∷ rest)) (λ x t. t) (λ f h. ([], [], b ∷ rest, refl, refl, some_left b rest, h)) (e.judged end (b ∷ rest)))
    (λ x t.
    let some = long x.0 t.front t.spells in
    let sizes : suc (length rest) ≡ length t.front + length x.1 = ap length t.whole ∙ length-append t.front x.1 in
    judge_bind (λ xs. SpellsEach Spells xs x.1) G Bad (each_with (read end) n x.1) _
    (judge_into (λ xs. SpellsEach Spells xs x.1) (λ xs. SpellsEach Spells xs x.1) (FailsEach Spells One end x.1) Bad (each_with (read end) n x.1) (λ xs q. q)
    (λ f h. (x.0 ∷ h.0, t.front ++ h.1, h.2, (t.front, h.1, t.spells, h.3, refl), t.whole ∙ ap (λ (l : List ℕ). t.front ++ l) h.4 ∙ sym (append_assoc t.front h.1 h.2), h.5, h.6))
    (each_judged Spells One read e long end n x.1 (omega arith)))
    (λ xs q. (t.front, x.1, t.spells, q, t.whole)))

each_behind : {A F : Type 0} (Spells : A → List ℕ → Type 0) (One : Failure F) (read : ℕ → List ℕ → Reading F A) → Exact Spells One read → ((x : A) (a : List ℕ) → Spells x a → 0 < length a)
    → (end : ℕ) (xs : List A) (a b : List ℕ) (f : F) → SpellsEach Spells xs a → b ≢ [] → One end b f → StopsAt (read end) (a ++ b) f
each_behind Spells One read e long end [] a b f h some one = rw h (stops_here (read end) b f (not_empty b some) (e.stops end b f one))
each_behind Spells One read e long end (x ∷ xs) a b f h some one =
    rw (h.4, append_assoc h.0 h.1 b)
    (stops_behind (read end) h.0 (h.1 ++ b) x f (long x h.0 h.2) (e.found end x h.0 (h.1 ++ b) h.2) (each_behind Spells One read e long end xs h.1 b f h.3 some one))

pub each_stops : {A F : Type 0} (Spells : A → List ℕ → Type 0) (One : Failure F) (read : ℕ → List ℕ → Reading F A) → Exact Spells One read → ((x : A) (a : List ℕ) → Spells x a → 0 < length a)
    → (end : ℕ) (bytes : List ℕ) (f : F) → FailsEach Spells One end bytes f → each_at (read end) bytes ≡ Err f
each_stops Spells One read e long end bytes f h =
    let stops = each_behind Spells One read e long end h.0 h.1 h.2 f h.3 h.5 h.6 in
    ap (λ (l : List ℕ). each_at (read end) l) h.4 ∙ stops (length (h.1 ++ h.2)) (omega arith)

pub exact_each : {A F : Type 0} (Spells : A → List ℕ → Type 0) (One : Failure F) (read : ℕ → List ℕ → Reading F A) → Exact Spells One read → ((x : A) (a : List ℕ) → Spells x a → 0 < length a)
    → ExactAll (λ xs bytes. SpellsEach Spells xs bytes) (FailsEach Spells One) (λ end bytes. each_at (read end) bytes)
exact_each Spells One read e long = record {
  found = λ end xs bytes h. all_at (read end) bytes xs (each_complete Spells (read end) long (e.found end) xs bytes h);
  judged = λ end bytes. each_judged Spells One read e long end (length bytes) bytes (omega arith);
  stops = each_stops Spells One read e long;
}

-- ---- package lengths and packages

abbrev IsPkgFault : ℕ → List ℕ → PkgFault → CodeFault → Type 0
IsPkgFault end bytes lengths.Cut f = f ≡ fault_at end [] Cut
IsPkgFault end bytes lengths.ReservedBits f = f ≡ fault_at end bytes ReservedBits

length_judged : (end : ℕ) (bytes : List ℕ) → Judge (Front SpellsPkgLength bytes) (FailsPkgLength end bytes) (length_in end bytes)
unfolding length_in
length_judged end bytes = by_result (pkg_length_at bytes) refl
  where
    by_result : (r : Result (ℕ × List ℕ) PkgFault) → pkg_length_at bytes ≡ r → Judge (Front SpellsPkgLength bytes) (FailsPkgLength end bytes) (or_length_fault end bytes r)
    by_result (Ok x) e = let t = pkg_length_took bytes x e in record { front = t.front; spells = t.spells; whole = t.whole }
    by_result (Err lengths.Cut) e = inl (pkg_length_failed bytes lengths.Cut e, refl)
    by_result (Err lengths.ReservedBits) e = inr (pkg_length_failed bytes lengths.ReservedBits e, refl)

length_stops : (end : ℕ) (bytes : List ℕ) (f : CodeFault) → FailsPkgLength end bytes f → length_in end bytes ≡ Err f
unfolding length_in
length_stops end bytes f (inl h) = rw (pkg_length_refuses bytes lengths.Cut h.0) (ap Err (sym h.1))
length_stops end bytes f (inr h) = rw (pkg_length_refuses bytes lengths.ReservedBits h.0) (ap Err (sym h.1))

pub exact_length : Exact SpellsPkgLength FailsPkgLength length_in
exact_length = record { found = λ end n a rest h. length_complete n end a rest h; judged = length_judged; stops = length_stops }

length_long : (n : ℕ) (len : List ℕ) → SpellsPkgLength n len → 0 < length len
length_long n [] h = absurd h
length_long n (b ∷ len) h = omega arith

-- how a package fails itself
abbrev FailsItself : Failure CodeFault
FailsItself end bytes f = FailsPkgLength end bytes f ⊎ (Overruns bytes × (f ≡ fault_at end bytes Overrun))

or_true : (a b : Bool) → (a || b) ≡ true → (a ≡ true) ⊎ (b ≡ true)
or_true true b e = inl refl
or_true false b e = inr e

opened_package : (end : ℕ) (bytes : List ℕ) → Judge (PackageFront end bytes) (FailsItself end bytes) (package_at end bytes)
unfolding package_at
opened_package end bytes =
    judge_bind (Front SpellsPkgLength bytes) (PackageFront end bytes) (FailsItself end bytes) (length_in end bytes) _
    (judge_into (Front SpellsPkgLength bytes) (Front SpellsPkgLength bytes) (FailsPkgLength end bytes) (FailsItself end bytes) (length_in end bytes) (λ x t. t) (λ f h. inl h) (length_judged end bytes)) (λ n t.
    let used = length bytes - length n.1 in
    let sizes : length bytes ≡ length t.front + length n.1 = ap length t.whole ∙ length-append t.front n.1 in
    judge_if (PackageFront end bytes) (FailsItself end bytes) (ltb n.0 used || ltb (length bytes) n.0) _ _
    (λ bad.
    let over : (n.0 < length t.front) ⊎ (length bytes < n.0) =
    elim (or_true (ltb n.0 used) (ltb (length bytes) n.0) bad) [
      | inl low ↦ let lt : n.0 < length bytes - length n.1 = ltb-true _ _ low in inl (omega arith)
      | inr high ↦ let lt : length bytes < n.0 = ltb-true _ _ high in inr lt
    ] in
    inr ((n.0, t.front, n.1, t.spells, t.whole, over), refl))
    (λ good.
    let both = or_parts (ltb n.0 used) (ltb (length bytes) n.0) good in
    let low : length bytes - length n.1 ≤ n.0 = ltb-false _ _ both.0 in
    let high : n.0 ≤ length bytes = ltb-false _ _ both.1 in
    let k = n.0 - used in
    let len : n.0 ≡ length t.front + length (take k n.1) = omega (arith, length-take k n.1) in
    record {
      len = t.front;
      spells_len = subst (λ m. SpellsPkgLength m t.front) len t.spells;
      whole = t.whole ∙ ap (λ (r : List ℕ). t.front ++ r) (sym (take-append-drop k n.1));
      some = length_long n.0 t.front t.spells;
      ends = refl;
    }))

package_overruns : (end : ℕ) (bytes : List ℕ) → Overruns bytes → package_at end bytes ≡ Err (fault_at end bytes Overrun)
unfolding package_at
package_overruns end bytes (n, len, rest, spells, whole, over) =
    let sizes : length bytes ≡ length len + length rest = ap length whole ∙ length-append len rest in
    let used : length bytes - length rest ≡ length len = omega arith in
    let read : length_in end bytes ≡ Ok (n, rest) = ap (length_in end) whole ∙ length_complete n end len rest spells in
    let test : (ltb n (length len) || ltb (length bytes) n) ≡ true = either over in
    rw (read, used, test) refl
  where
    either : (n < length len) ⊎ (length bytes < n) → (ltb n (length len) || ltb (length bytes) n) ≡ true
    either (inl low) = rw (lt-ltb _ _ low) refl
    either (inr high) = by_first (ltb n (length len)) (lt-ltb _ _ high)
      where
        by_first : (b : Bool) → ltb (length bytes) n ≡ true → (b || ltb (length bytes) n) ≡ true
        by_first true e = refl
        by_first false e = e

package_fails : (end : ℕ) (bytes : List ℕ) (f : CodeFault) → FailsPkgLength end bytes f → package_at end bytes ≡ Err f
unfolding package_at
package_fails end bytes f h = rw (length_stops end bytes f h) refl

pub package_judged : {X F : Type 0} (into : CodeFault → F) (Inside : Failure F) (Good : X → Type 0) (end : ℕ) (bytes : List ℕ) (k : Package → Result X F)
    → ((p : Package) → PackageFront end bytes p → Judge Good (Inside p.end p.content) (k p)) → Judge Good (FailsPackage into Inside end bytes) (with_fault into (package_at end bytes) >>= k)
package_judged into Inside Good end bytes k more =
    let Bad = FailsPackage into Inside end bytes in
    judge_bind (PackageFront end bytes) Good Bad (with_fault into (package_at end bytes)) k
    (judge_told (PackageFront end bytes) (FailsItself end bytes) Bad into (package_at end bytes) (λ f h. itself f h) (opened_package end bytes))
    (λ p g. judge_into Good Good (Inside p.end p.content) Bad (k p) (λ x h. h)
    (λ f h. inr (inr (g.len, p.content, p.rest, g.spells_len, g.whole, subst (λ n. Inside n p.content f) g.ends h))) (more p g))
  where
    itself : (f : CodeFault) → FailsItself end bytes f → FailsPackage into Inside end bytes (into f)
    itself f (inl h) = inl (f, h, refl)
    itself f (inr h) = inr (inl (h.0, ap into h.1))

pub package_stops : {X F : Type 0} (into : CodeFault → F) (Inside : Failure F) (end : ℕ) (bytes : List ℕ) (k : Package → Result X F) (f : F)
    → ((p : Package) → Inside p.end p.content f → k p ≡ Err f) → FailsPackage into Inside end bytes f → (with_fault into (package_at end bytes) >>= k) ≡ Err f
package_stops into Inside end bytes k f more (inl h) = fails_on f (with_fault into (package_at end bytes)) k (ap (with_fault into) (package_fails end bytes h.0 h.1) ∙ ap Err (sym h.2))
package_stops into Inside end bytes k f more (inr (inl h)) =
    fails_on f (with_fault into (package_at end bytes)) k (ap (with_fault into) (package_overruns end bytes h.0) ∙ ap Err (sym h.1))
package_stops into Inside end bytes k f more (inr (inr h)) =
    let p = package_of end h.1 h.2 in
    reads_on (with_fault into (package_at end bytes)) p k (ap (λ (l : List ℕ). with_fault into (package_at end l)) h.4 ∙ ap (with_fault into) (package_complete end h.0 h.1 h.2 h.3)) ∙ more p h.5

-- ---- by what begins there

opcode_judged : (end : ℕ) (bytes : List ℕ) → Judge (Opened bytes) (FailsOpcode end bytes) (opcode_at end bytes)
opcode_judged end bytes = opcode_opened end bytes

opcode_stops : (end : ℕ) (bytes : List ℕ) (f : CodeFault) → FailsOpcode end bytes f → opcode_at end bytes ≡ Err f
unfolding opcode_at byte_at
opcode_stops end bytes f (inl none, is) = rw none (ap Err (sym is))
opcode_stops end bytes f (inr alone, is) = rw alone (ap Err (sym is))

pub by_opcode_judged : {X F : Type 0} (into : CodeFault → F) (Term : Opcode → Failure F) (Good : X → Type 0) (end : ℕ) (bytes : List ℕ) (k : Opcode × List ℕ → Result X F)
    → ((x : Opcode × List ℕ) → Opened bytes x → Judge Good (Term x.0 end bytes) (k x)) → Judge Good (FailsByOpcode into Term end bytes) (with_fault into (opcode_at end bytes) >>= k)
by_opcode_judged into Term Good end bytes k more =
    let Bad = FailsByOpcode into Term end bytes in
    judge_bind (Opened bytes) Good Bad (with_fault into (opcode_at end bytes)) k
    (judge_told (Opened bytes) (FailsOpcode end bytes) Bad into (opcode_at end bytes) (λ f h. inl (f, h, refl)) (opcode_judged end bytes))
    (λ x o. judge_into Good Good (Term x.0 end bytes) Bad (k x) (λ y h. h) (λ f h. inr (x.0, begins_so bytes x o, h)) (more x o))
  where
    begins_so : (bytes : List ℕ) (x : Opcode × List ℕ) → Opened bytes x → BeginsWith x.0 bytes
    begins_so bytes x o = first_begins bytes x.0 (ap first_opcode (sym (append-nil bytes)) ∙ o.is_opcode [])

pub by_opcode_stops : {X F : Type 0} (into : CodeFault → F) (Term : Opcode → Failure F) (end : ℕ) (bytes : List ℕ) (k : Opcode × List ℕ → Result X F) (f : F)
    → ((o : Opcode) (rest : List ℕ) → opcode_at end bytes ≡ Ok (o, rest) → Term o end bytes f → k (o, rest) ≡ Err f) → FailsByOpcode into Term end bytes f → (with_fault into (opcode_at end bytes) >>= k) ≡ Err f
by_opcode_stops into Term end bytes k f more (inl h) = fails_on f (with_fault into (opcode_at end bytes)) k (ap (with_fault into) (opcode_stops end bytes h.0 h.1) ∙ ap Err (sym h.2))
by_opcode_stops into Term end bytes k f more (inr h) =
    let r = opcode_found end bytes h.0 h.1 in
    reads_on (with_fault into (opcode_at end bytes)) (h.0, r.0) k (ap (with_fault into) r.1) ∙ more h.0 r.0 r.1 h.2

abbrev read_of : Opcode → List ℕ → Reading CodeFault Opcode
read_of o l = Ok (o, l)

-- what fails behind its opcode
pub fails_behind : {F : Type 0} (Fails : Failure F) (o : Opcode) (end : ℕ) (bytes rest : List ℕ) (f : F) → is_spelled o ≡ true → opcode_at end bytes ≡ Ok (o, rest)
    → FailsBehind (opcode_bytes o) Fails end bytes f → Fails end rest f
fails_behind Fails o end bytes rest f spelled read h =
    let again : opcode_at end bytes ≡ Ok (o, h.0) = ap (opcode_at end) h.1 ∙ opens end o h.0 spelled in
    subst (λ (l : List ℕ). Fails end l f) (same_rest o h.0 rest (sym again ∙ read)) h.2
  where
    same_rest : (o : Opcode) (a b : List ℕ) → read_of o a ≡ read_of o b → a ≡ b
    same_rest o a b e = let pair : (o, a) ≡ (o, b) = cc in ap (λ (y : Opcode × List ℕ). y.1) pair
