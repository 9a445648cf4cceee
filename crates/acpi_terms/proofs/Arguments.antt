-- Fixed arguments: what is spelled is read, and where it fails the reading stops.
use Rattle.std.proofs.Common.{◌≡◌, ℕ, ◌-◌, ◌+◌, ◌≤◌, ◌<◌, true, false, ltb, List, [], ◌∷◌, ◌++◌, length, Result, Ok, Err, refl, sym, ap, subst, ◌∙◌, append_assoc, arith, inl, inr}
use Rattle.std.proofs.lemmas.Bool.{le-ltb, lt-ltb, ltb-true, ltb-false}
use Rattle.acpi_name.specs.Spelling.{SpellsName}
use Rattle.acpi_table.specs.PkgLength.{SpellsPkgLength}
use Rattle.acpi_code.specs.declared.fault.CodeReason.TheVariants.{Cut}
use Rattle.acpi_code.specs.declared.opcode.Opcode.{Opcode}
use Rattle.acpi_code.specs.Opcodes.{opcode_bytes}
use Rattle.acpi_code.specs.Spelling.{SpellsByte, SpellsNumber, SpellsTermName, Packs}
use Rattle.acpi_code.specs.Faults.{Failure, FailsInTurn, FailsNumber, FailsName, FailsPackage}
use Rattle.acpi_code.specs.steps.Opcodes.{is_spelled}
use Rattle.acpi_code.specs.steps.Reading.{Reading, byte_at, number_at, name_in, opcode_at}
use Rattle.acpi_code.specs.Faults as codes
use Rattle.acpi_code.proofs.Readings.{Judge, judge_bind, judge_if, Front}
use Rattle.acpi_code.proofs.Lists.{fails_on}
use Rattle.acpi_code.proofs.Numbers.{byte_complete, number_complete}
use Rattle.acpi_code.proofs.Packages.{package_complete}
use Rattle.acpi_code.proofs.Names.{name_in_complete}
use Rattle.acpi_code.proofs.Exact.{Exact, as_stops, exact_as, exact_alike, made_judged, behind_judged, turn_judged, turn_stops, package_judged, package_stops, fails_behind}
use Rattle.acpi_code.proofs.ExactParts.{exact_byte, exact_number, exact_name}
use Rattle.acpi_code.specs.Forms.{FixedArgument, name_arg, source_arg, byte_arg, word_arg, dword_arg, count_arg, int_arg, Value, Values, fixed_arguments, ArgumentsOf}
use Rattle.acpi_terms.specs.declared.fault.ItemReason.TheVariants.{ReservedBits}
use Rattle.acpi_terms.specs.Faults.{FailsPart, FailsCount, FailsArgument, FailsArguments, FailsForm, FailsFilled}
use Rattle.acpi_terms.specs.Spelling.{SpellsArgument, SpellsArguments, SpellsPlain, argument_height, ArgumentWithin, ArgumentsWithin}
pub use Rattle.acpi_terms.specs.Spelling.{arguments_height}
use Rattle.acpi_terms.specs.steps.Reading.{Fault, fault_at, part, part_fault, source_at, args_in, argument_at, arguments_at, plain_at, packed_at}
use Rattle.acpi_terms.proofs.Constants.{int_complete, source_complete, exact_int_term, exact_source}

-- ---- complete

args_complete : (end n : ℕ) (rest : List ℕ) → n ≤ 7 → args_in end (n ∷ rest) ≡ Ok (n, rest)
unfolding args_in byte_at
args_complete end n rest h = let few : ltb 7 n ≡ false = le-ltb _ _ h in rw few refl

argument_complete : (k : FixedArgument) (level end : ℕ) (v : Value k) (a rest : List ℕ) → argument_height k ≤ level → SpellsArgument k v a → argument_at level k end (a ++ rest) ≡ Ok (v, rest)
argument_complete name_arg level end v a rest le h = rw (name_in_complete end v a rest h) refl
argument_complete source_arg level end v a rest le h = source_complete end v a rest h
argument_complete byte_arg level end v a rest le h = rw (h, byte_complete end v rest) refl
argument_complete word_arg level end v a rest le h = rw (number_complete 2 v end a rest h) refl
argument_complete dword_arg level end v a rest le h = rw (number_complete 4 v end a rest h) refl
argument_complete count_arg level end v a rest le h = rw h.1 (args_complete end v rest h.0)
argument_complete int_arg level end v a rest le h = int_complete level end v a rest (omega arith) h

pub arguments_complete : (ks : List FixedArgument) (level end : ℕ) (v : Values ks) (a rest : List ℕ) → arguments_height ks ≤ level
    → SpellsArguments ks v a → arguments_at level ks end (a ++ rest) ≡ Ok (v, rest)
arguments_complete [] level end v a rest le h = rw h refl
arguments_complete (k ∷ ks) level end v a rest le h =
    rw (h.4, append_assoc h.0 h.1 rest, argument_complete k level end v.0 h.0 (h.1 ++ rest) (omega arith) h.2, arguments_complete ks level end v.1 h.1 rest (omega arith) h.3) refl

pub plain_complete : {T : Type 0} (ks : List FixedArgument) (made : Values ks → T) (level end : ℕ) (v : Values ks) (a rest : List ℕ) → arguments_height ks ≤ level → SpellsArguments ks v a
    → plain_at ks made level end (a ++ rest) ≡ Ok (made v, rest)
plain_complete ks made level end v a rest le h = rw (arguments_complete ks level end v a rest le h) refl

pub packed_complete : {X T : Type 0} (ks : List FixedArgument) (made : Values ks → X → T) (level : ℕ) (inner : ℕ → List ℕ → Result X Fault) (end : ℕ) (v : Values ks) (x : X) (len a b rest : List ℕ)
    → arguments_height ks ≤ level → SpellsArguments ks v a → inner (end - length rest) b ≡ Ok x → SpellsPkgLength (length len + length (a ++ b)) len
    → packed_at ks made level inner end ((len ++ (a ++ b)) ++ rest) ≡ Ok (made v x, rest)
packed_complete ks made level inner end v x len a b rest le h fills n =
    rw (append_assoc len (a ++ b) rest, package_complete end len (a ++ b) rest n, arguments_complete ks level (end - length rest) v a b le h, fills) refl

-- ---- what was read is spelled, or it fails so; and where it fails the reading stops

abbrev IsArgs : ℕ → List ℕ → Type 0
IsArgs n bytes = (n ≤ 7) × (bytes ≡ n ∷ [])

args_judged : (end : ℕ) (bytes : List ℕ) → Judge (Front IsArgs bytes) (FailsCount end bytes) (args_in end bytes)
unfolding args_in byte_at
args_judged end [] = inl (codes.fault_at end [] Cut, (omega arith, refl), refl)
args_judged end (b ∷ rest) =
    judge_if (Front IsArgs (b ∷ rest)) (FailsCount end (b ∷ rest)) (ltb 7 b) _ _ (λ many. inr ((b, rest, refl, ltb-true 7 b many), refl))
    (λ few. record { front = b ∷ []; spells = (ltb-false 7 b few, refl); whole = refl })

many_args : (end b : ℕ) (rest : List ℕ) → 7 < b → args_in end (b ∷ rest) ≡ Err (fault_at end (b ∷ rest) ReservedBits)
unfolding args_in byte_at
many_args end b rest many = rw (lt-ltb 7 b many) refl

no_args : (end : ℕ) (bytes : List ℕ) (f : Fault) → part (byte_at end bytes) ≡ Err f → args_in end bytes ≡ Err f
unfolding args_in
no_args end bytes f h = fails_on f (part (byte_at end bytes)) _ h

args_stops : (end : ℕ) (bytes : List ℕ) (f : Fault) → FailsCount end bytes f → args_in end bytes ≡ Err f
args_stops end bytes f (inl h) = no_args end bytes f (as_stops (FailsNumber 1) part_fault end bytes (byte_at end bytes) f (exact_byte.stops end bytes) h)
args_stops end bytes f (inr ((b, rest, is, many), e)) =
    ap (args_in end) is ∙ many_args end b rest many ∙ ap (λ (l : List ℕ). Err (fault_at end l ReservedBits)) (sym is) ∙ ap Err (sym e)

exact_args : Exact IsArgs FailsCount args_in
exact_args = record { found = λ end n a rest h. ap (λ (l : List ℕ). args_in end (l ++ rest)) h.1 ∙ args_complete end n rest h.0; judged = args_judged; stops = args_stops }

-- a part that takes no level
flat : {A : Type 0} (level : ℕ) (Spells : A → List ℕ → Type 0) (Fails : Failure Fault) (read : ℕ → List ℕ → Reading Fault A) → Exact Spells Fails read → Exact (λ v a. Spells v a × (0 ≤ level)) Fails read
flat level Spells Fails read e = exact_alike Spells (λ v a. Spells v a × (0 ≤ level)) Fails read (λ v a h. (h, omega arith)) (λ v a h. h.0) e

exact_argument : (level : ℕ) (k : FixedArgument) → Exact (ArgumentWithin level k) (FailsArgument level k) (argument_at level k)
exact_argument level name_arg = flat level SpellsName (FailsPart FailsName) (λ end bytes. part (name_in end bytes)) (exact_as SpellsName FailsName name_in part_fault exact_name)
exact_argument level source_arg = flat level SpellsTermName (FailsArgument 0 source_arg) source_at exact_source
exact_argument level byte_arg = flat level SpellsByte (FailsPart (FailsNumber 1)) (λ end bytes. part (byte_at end bytes)) (exact_as SpellsByte (FailsNumber 1) byte_at part_fault exact_byte)
exact_argument level word_arg = flat level (SpellsNumber 2) (FailsPart (FailsNumber 2)) (λ end bytes. part (number_at 2 end bytes)) (exact_as (SpellsNumber 2) (FailsNumber 2) (number_at 2) part_fault (exact_number 2))
exact_argument level dword_arg = flat level (SpellsNumber 4) (FailsPart (FailsNumber 4)) (λ end bytes. part (number_at 4 end bytes)) (exact_as (SpellsNumber 4) (FailsNumber 4) (number_at 4) part_fault (exact_number 4))
exact_argument level count_arg = flat level IsArgs FailsCount args_in exact_args
exact_argument level int_arg = exact_int_term level

arguments_found : (level : ℕ) (ks : List FixedArgument) (end : ℕ) (v : Values ks) (a rest : List ℕ) → ArgumentsWithin level ks v a → arguments_at level ks end (a ++ rest) ≡ Ok (v, rest)
arguments_found level ks end v a rest h = arguments_complete ks level end v a rest h.1 h.0

pub arguments_judged : (level : ℕ) (ks : List FixedArgument) (end : ℕ) (bytes : List ℕ) → Judge (Front (ArgumentsWithin level ks) bytes) (FailsArguments level ks end bytes) (arguments_at level ks end bytes)
arguments_judged level [] end bytes = record { front = []; spells = (refl, omega arith); whole = refl }
arguments_judged level (k ∷ ks) end bytes =
    let G : Values (k ∷ ks) × List ℕ → Type 0 = Front (ArgumentsWithin level (k ∷ ks)) bytes in
    turn_judged (ArgumentWithin level k) (FailsArgument level k) (λ v. FailsArguments level ks) (argument_at level k) G end bytes _ (exact_argument level k) (λ x t.
    judge_bind (Front (ArgumentsWithin level ks) x.1) G (FailsArguments level ks end x.1) (arguments_at level ks end x.1) _ (arguments_judged level ks end x.1) (λ xs u.
    record {
      front = t.front ++ u.front;
      spells = ((t.front, u.front, t.spells.0, u.spells.0, refl), omega (arith, t.spells.1, u.spells.1));
      whole = t.whole ∙ ap (λ (y : List ℕ). t.front ++ y) u.whole ∙ sym (append_assoc t.front u.front xs.1);
    }))

pub arguments_stop : (level : ℕ) (ks : List FixedArgument) (end : ℕ) (bytes : List ℕ) (f : Fault) → FailsArguments level ks end bytes f → arguments_at level ks end bytes ≡ Err f
arguments_stop level [] end bytes f h = absurd h
arguments_stop level (k ∷ ks) end bytes f h =
    turn_stops (ArgumentWithin level k) (FailsArgument level k) (λ v. FailsArguments level ks) (argument_at level k) end bytes _ f (exact_argument level k)
    (λ v b q. fails_on f (arguments_at level ks end b) (λ xs. Ok ((v, xs.0), xs.1)) (arguments_stop level ks end b f q)) h

pub exact_arguments : (level : ℕ) (ks : List FixedArgument) → Exact (ArgumentsWithin level ks) (FailsArguments level ks) (arguments_at level ks)
exact_arguments level ks = record { found = arguments_found level ks; judged = arguments_judged level ks; stops = arguments_stop level ks }

-- ---- forms behind an opcode

pub plain_judged : {T : Type 0} (level end : ℕ) (o : Opcode) (made : ArgumentsOf o → T) (Spells : T → List ℕ → Type 0) (bytes rest : List ℕ) → bytes ≡ opcode_bytes o ++ rest
    → ((v : ArgumentsOf o) (front : List ℕ) → SpellsPlain (opcode_bytes o) (fixed_arguments o) v front → arguments_height (fixed_arguments o) ≤ level → Spells (made v) front)
    → Judge (Front Spells bytes) (FailsForm level o end bytes) (plain_at (fixed_arguments o) made level end rest)
plain_judged {T} level end o made Spells bytes rest is spells =
    let op = opcode_bytes o in
    let ks = fixed_arguments o in
    let Behind : T → List ℕ → Type 0 = λ x a. Spells x (op ++ a) in
    behind_judged Behind Spells (FailsArguments level ks) op end bytes rest (plain_at ks made level end rest) is (λ x a k. k)
    (made_judged (ArgumentsWithin level ks) Behind (FailsArguments level ks end rest) made rest (arguments_at level ks end rest)
    (λ v a k. spells v (op ++ a) (a, k.0, refl) k.1) (arguments_judged level ks end rest))

pub plain_stops : {T : Type 0} (level end : ℕ) (o : Opcode) (made : ArgumentsOf o → T) (bytes rest : List ℕ) (f : Fault) → is_spelled o ≡ true → opcode_at end bytes ≡ Ok (o, rest)
    → FailsForm level o end bytes f → plain_at (fixed_arguments o) made level end rest ≡ Err f
plain_stops level end o made bytes rest f spelled read h =
    let ks = fixed_arguments o in
    fails_on f (arguments_at level ks end rest) (λ v. Ok (made v.0, v.1)) (arguments_stop level ks end rest f (fails_behind (FailsArguments level ks) o end bytes rest f spelled read h))

-- what fills a package, behind the fixed arguments
abbrev Filled : ℕ → List FixedArgument → Failure Fault → Failure Fault
Filled level ks Inside = FailsInTurn (FailsArguments level ks) (ArgumentsWithin level ks) (λ v. Inside)

pub filled_judged : {X T : Type 0} (level end : ℕ) (o : Opcode) (made : ArgumentsOf o → X → T) (inner : ℕ → List ℕ → Result X Fault) (Fills : X → List ℕ → Type 0) (Inside : Failure Fault)
    (Spells : T → List ℕ → Type 0) (bytes rest : List ℕ) → bytes ≡ opcode_bytes o ++ rest
    → ((v : ArgumentsOf o) (x : X) (front a b : List ℕ) → SpellsArguments (fixed_arguments o) v a → arguments_height (fixed_arguments o) ≤ level → Fills x b
    → Packs (opcode_bytes o) (a ++ b) front → Spells (made v x) front)
    → ((end : ℕ) (b : List ℕ) → Judge (λ x. Fills x b) (Inside end b) (inner end b))
    → Judge (Front Spells bytes) (FailsFilled level o Inside end bytes) (packed_at (fixed_arguments o) made level inner end rest)
filled_judged {X} {T} level end o made inner Fills Inside Spells bytes rest is spells fills =
    let op = opcode_bytes o in
    let ks = fixed_arguments o in
    let Behind : T → List ℕ → Type 0 = λ x a. Spells x (op ++ a) in
    let G : T × List ℕ → Type 0 = Front Behind rest in
    behind_judged Behind Spells (FailsPackage part_fault (Filled level ks Inside)) op end bytes rest (packed_at ks made level inner end rest) is (λ x a k. k)
    (package_judged part_fault (Filled level ks Inside) G end rest _ (λ p g.
    turn_judged (ArgumentsWithin level ks) (FailsArguments level ks) (λ v. Inside) (arguments_at level ks) G p.end p.content _ (exact_arguments level ks) (λ v t.
    judge_bind (λ x. Fills x v.1) G (Inside p.end v.1) (inner p.end v.1) _ (fills p.end v.1) (λ x q.
    let front = g.len ++ (t.front ++ v.1) in
    let packed : Packs op (t.front ++ v.1) (op ++ front) =
    record {
      len = g.len;
      spells_len = subst (λ (y : List ℕ). SpellsPkgLength (length g.len + length y) g.len) t.whole g.spells_len;
      whole = refl;
    } in
    let whole : rest ≡ front ++ p.rest = g.whole ∙ ap (λ (y : List ℕ). g.len ++ (y ++ p.rest)) t.whole ∙ sym (append_assoc g.len (t.front ++ v.1) p.rest) in
    record { front = front; spells = spells v.0 x (op ++ front) t.front v.1 t.spells.0 t.spells.1 q packed; whole = whole }))))

pub filled_stops : {X T : Type 0} (level end : ℕ) (o : Opcode) (made : ArgumentsOf o → X → T) (inner : ℕ → List ℕ → Result X Fault) (Inside : Failure Fault) (bytes rest : List ℕ) (f : Fault)
    → is_spelled o ≡ true → opcode_at end bytes ≡ Ok (o, rest) → ((end : ℕ) (b : List ℕ) → Inside end b f → inner end b ≡ Err f)
    → FailsFilled level o Inside end bytes f → packed_at (fixed_arguments o) made level inner end rest ≡ Err f
filled_stops level end o made inner Inside bytes rest f spelled read inside h =
    let ks = fixed_arguments o in
    package_stops part_fault (Filled level ks Inside) end rest _ f
    (λ p k. turn_stops (ArgumentsWithin level ks) (FailsArguments level ks) (λ v. Inside) (arguments_at level ks) p.end p.content _ f (exact_arguments level ks)
    (λ v b q. fails_on f (inner p.end b) (λ x. Ok (made v x, p.rest)) (inside p.end b q)) k)
    (fails_behind (FailsPackage part_fault (Filled level ks Inside)) o end bytes rest f spelled read h)
