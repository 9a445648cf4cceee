-- No spelling is shorter: the parts of forms.
use Rattle.std.proofs.Common.{◌≡◌, ◌<◌, ◌≤◌, ◌+◌, ◌^◌, ℕ, zero, suc, Bool, true, false, cond, ltb, List, [], ◌∷◌, ◌++◌, length, slice_index, Option, Some, None, All, refl, ap, subst, arith}
use Rattle.std.proofs.lemmas.List.{length-append}
use Rattle.std.proofs.lemmas.List.Elements.{All-from_recursion}
use Rattle.std.proofs.lemmas.Bool.{ltb-true, ltb-false, le-leb}
use Rattle.std.specs.List.{AllByRecursion}
use Rattle.std.specs.Fmt.{option_append}
use Rattle.byteorder.specs.Endian.{little_bytes}
use Rattle.byteorder.specs.Numbers.{little_from-lt, length-bytes_low_first}
use Rattle.acpi_name.specs.Spelling.{name_bytes}
use Rattle.acpi_name.proofs.NameWritten.{name_shortest}
use Rattle.acpi_table.specs.PkgLength.{SpellsPkgLength, shortest_pkg_length, package_number}
use Rattle.acpi_table.proofs.PkgLengths.{number_counts, number_least, shortest_least, spelled_fits, Fits}
use Rattle.acpi_code.specs.Fields.{SpellsField, SpellsFields}
use Rattle.acpi_code.specs.Spelling.{SpellsNumber, SpellsInt, SpellsEach, Packs}
use Rattle.acpi_code.proofs.Fitting.{AreBytes, parts, packed}
use Rattle.acpi_tree.specs.declared.tree.Int.{Int}
use Rattle.acpi_tree.specs.declared.tree.Int.TheVariants.{Zero, One, Ones, Revision, Byte, Word, DWord, QWord}
use Rattle.acpi_tree.specs.Tree.{FieldTree, unit, reserved, access, connect_name, connect_buffer, extended, field}
use Rattle.acpi_terms.specs.Forms.{FixedArgument, name_arg, source_arg, byte_arg, word_arg, dword_arg, count_arg, int_arg, Value, Values}
use Rattle.acpi_terms.specs.Spelling.{SpellsArgument, SpellsArguments, SpellsPlain, SpellsPacked}
use Rattle.acpi_write.specs.Canonical.{int_bytes, argument_bytes, arguments_bytes, filled_with, each_bytes, bits_bytes, field_bytes, fields_bytes}
use Rattle.acpi_write.specs.Laws.{IsIntTyped, IsTyped, AreTyped, IsFieldTyped}
use Rattle.acpi_write.specs.Shortest.{HasWithin}

-- ---- package lengths

pub all_of : (bytes : List ℕ) → AreBytes bytes → All (λ b. b < 256) bytes
all_of bytes all = All-from_recursion (λ b. b < 256) bytes all

-- a smaller payload has no greater number
number_grows : (p q : ℕ) → p ≤ q → package_number p ≤ package_number q
unfolding package_number
number_grows p q le = by_tests (ltb (p + 1) 64) (ltb (p + 2) 4096) (ltb (p + 3) 1048576) (ltb (q + 1) 64) (ltb (q + 2) 4096) (ltb (q + 3) 1048576) refl refl refl refl refl refl
  where
    by_tests : (a b c d e f : Bool) → ltb (p + 1) 64 ≡ a → ltb (p + 2) 4096 ≡ b → ltb (p + 3) 1048576 ≡ c → ltb (q + 1) 64 ≡ d → ltb (q + 2) 4096 ≡ e → ltb (q + 3) 1048576 ≡ f
        → cond a (p + 1) (cond b (p + 2) (cond c (p + 3) (p + 4))) ≤ cond d (q + 1) (cond e (q + 2) (cond f (q + 3) (q + 4)))
    by_tests true b c true e f x y z u v w = let h = ltb-true _ _ x in let k = ltb-true _ _ u in omega arith
    by_tests true b c false true f x y z u v w = let h = ltb-true _ _ x in let k = ltb-true _ _ v in let l = ltb-false _ _ u in omega arith
    by_tests true b c false false true x y z u v w = let h = ltb-true _ _ x in let k = ltb-true _ _ w in let l = ltb-false _ _ v in omega arith
    by_tests true b c false false false x y z u v w = let h = ltb-true _ _ x in let l = ltb-false _ _ w in omega arith
    by_tests false true c true e f x y z u v w = let h = ltb-true _ _ y in let g = ltb-false _ _ x in let k = ltb-true _ _ u in omega arith
    by_tests false true c false true f x y z u v w = let h = ltb-true _ _ y in let g = ltb-false _ _ x in let k = ltb-true _ _ v in let l = ltb-false _ _ u in omega arith
    by_tests false true c false false true x y z u v w = let h = ltb-true _ _ y in let g = ltb-false _ _ x in let k = ltb-true _ _ w in let l = ltb-false _ _ v in omega arith
    by_tests false true c false false false x y z u v w = let h = ltb-true _ _ y in let g = ltb-false _ _ x in let l = ltb-false _ _ w in omega arith
    by_tests false false true true e f x y z u v w = let h = ltb-true _ _ z in let g = ltb-false _ _ y in let k = ltb-true _ _ u in omega arith
    by_tests false false true false true f x y z u v w = let h = ltb-true _ _ z in let g = ltb-false _ _ y in let k = ltb-true _ _ v in let l = ltb-false _ _ u in omega arith
    by_tests false false true false false true x y z u v w = let h = ltb-true _ _ z in let g = ltb-false _ _ y in let k = ltb-true _ _ w in let l = ltb-false _ _ v in omega arith
    by_tests false false true false false false x y z u v w = let h = ltb-true _ _ z in let g = ltb-false _ _ y in let l = ltb-false _ _ w in omega arith
    by_tests false false false true e f x y z u v w = let g = ltb-false _ _ z in let k = ltb-true _ _ u in omega arith
    by_tests false false false false true f x y z u v w = let g = ltb-false _ _ z in let k = ltb-true _ _ v in let l = ltb-false _ _ u in omega arith
    by_tests false false false false false true x y z u v w = let g = ltb-false _ _ z in let k = ltb-true _ _ w in let l = ltb-false _ _ v in omega arith
    by_tests false false false false false false x y z u v w = let g = ltb-false _ _ z in let l = ltb-false _ _ w in omega arith

-- a package whose number has a spelling has a payload that the greatest number counts
few : (own number payload : ℕ) → number ≡ own + payload → 1 ≤ own → (own ≡ 1 → number < 64) → (own ≡ 2 → number < 4096) → (own ≡ 3 → number < 1048576)
    → number < 268435456 → payload < 268435452
few zero number payload is some one two three all = absurd (omega (arith, some))
few (suc zero) number payload is some one two three all = let lt : number < 64 = one refl in omega (arith, is, lt)
few (suc (suc zero)) number payload is some one two three all = let lt : number < 4096 = two refl in omega (arith, is, lt)
few (suc (suc (suc zero))) number payload is some one two three all = let lt : number < 1048576 = three refl in omega (arith, is, lt)
few (suc (suc (suc (suc own)))) number payload is some one two three all = omega (arith, is, all)

-- ---- what is put together

pub within_both : (a b : Option (List ℕ)) (x y whole : List ℕ) → HasWithin a x → HasWithin b y → whole ≡ x ++ y → HasWithin (option_append a b) whole
within_both None b x y whole h k e = absurd h
within_both (Some a) None x y whole h k e = absurd k
within_both (Some a) (Some b) x y whole h k e = rw e (omega (arith, length-append a b, length-append x y, h, k))

pub within_packed : (op front : List ℕ) (content : Option (List ℕ)) (inner bytes : List ℕ) → AreBytes bytes → Packs op inner bytes
    → HasWithin (option_append (Some front) content) inner → HasWithin (filled_with op front content) bytes
within_packed op front None inner bytes all p h = absurd h
within_packed op front (Some c) inner bytes all p h =
    let split = parts op (p.len ++ inner) bytes p.whole all in
    let own : All (λ b. b < 256) p.len = all_of p.len (parts p.len inner (p.len ++ inner) refl split.1).0 in
    let f : Fits (length p.len + length inner) p.len = spelled_fits (length p.len + length inner) p.len own p.spells_len in
    let payload : length inner < 268435452 = few (length p.len) (length p.len + length inner) (length inner) refl f.some f.in_one f.in_two f.in_three f.in_all in
    let least : package_number (length inner) ≤ length p.len + length inner = number_least (length inner) (length p.len + length inner) p.len own p.spells_len refl in
    let grows : package_number (length (front ++ c)) ≤ package_number (length inner) = number_grows (length (front ++ c)) (length inner) h in
    let below : length (front ++ c) < 268435452 = omega (arith, h, payload) in
    let counts = (number_counts (length (front ++ c)) below).0 in
    let mine : List ℕ = shortest_pkg_length (package_number (length (front ++ c))) in
    let sizes : length (op ++ (mine ++ (front ++ c))) ≤ length bytes =
    omega (arith, counts, grows, least, length-append op (mine ++ (front ++ c)), length-append mine (front ++ c), ap length p.whole, length-append op (p.len ++ inner), length-append p.len inner) in
    rw (le-leb (length (front ++ c)) 268435451 (omega (arith, below))) sizes

-- ---- fixed arguments

pub number_short : (k n : ℕ) (b : List ℕ) → SpellsNumber k n b → length (little_bytes k n) ≤ length b
number_short k n b h = omega (arith, length-bytes_low_first 0 k n, h.0)

pub int_short : (i : Int) (b : List ℕ) → SpellsInt i b → length (int_bytes i) ≤ length b
int_short Zero b h = rw h (omega arith)
int_short One b h = rw h (omega arith)
int_short Ones b h = rw h (omega arith)
int_short Revision b h = rw h (omega arith)
int_short (Byte n) b h = rw h (omega arith)
int_short (Word n) b h = rw h.2 (omega (arith, number_short 2 n h.0 h.1))
int_short (DWord n) b h = rw h.2 (omega (arith, number_short 4 n h.0 h.1))
int_short (QWord n) b h = rw h.2 (omega (arith, number_short 8 n h.0 h.1))

argument_short : (k : FixedArgument) (v : Value k) (b : List ℕ) → AreBytes b → SpellsArgument k v b → length (argument_bytes k v) ≤ length b
argument_short name_arg n b all h = name_shortest n b h
argument_short source_arg n b all h = name_shortest n b h.0
argument_short byte_arg n b all h = rw h (omega arith)
argument_short word_arg n b all h = number_short 2 n b h
argument_short dword_arg n b all h = number_short 4 n b h
argument_short count_arg n b all h = rw h.1 (omega arith)
argument_short int_arg i b all h = int_short i b h

arguments_short : (ks : List FixedArgument) (v : Values ks) (b : List ℕ) → AreBytes b → SpellsArguments ks v b → length (arguments_bytes ks v) ≤ length b
arguments_short [] v b all h = rw h (omega arith)
arguments_short (k ∷ ks) v b all (x, y, one, rest, whole) =
    let split = parts x y b whole all in
    within_both (Some (argument_bytes k v.0)) (Some (arguments_bytes ks v.1)) x y b (argument_short k v.0 x split.0 one) (arguments_short ks v.1 y split.1 rest) whole

-- ---- forms

pub plain_short : (op : List ℕ) (ks : List FixedArgument) (v : Values ks) (bytes : List ℕ) → AreBytes bytes → SpellsPlain op ks v bytes → length (op ++ arguments_bytes ks v) ≤ length bytes
plain_short op ks v bytes all h =
    let split = parts op h.0 bytes h.2 all in
    within_both (Some op) (Some (arguments_bytes ks v)) op h.0 bytes (omega arith) (arguments_short ks v h.0 split.1 h.1) h.2

pub filled_short : (op : List ℕ) (ks : List FixedArgument) (v : Values ks) (Fills : List ℕ → Type 0) (content : Option (List ℕ)) (bytes : List ℕ)
    → AreBytes bytes → SpellsPacked op ks v Fills bytes
    → ((b : List ℕ) → AreBytes b → Fills b → HasWithin content b) → HasWithin (filled_with op (arguments_bytes ks v) content) bytes
filled_short op ks v Fills content bytes all (a, b, front, fills, packs) one =
    let split = parts a b (a ++ b) refl (packed op (a ++ b) bytes packs all) in
    within_packed op (arguments_bytes ks v) content (a ++ b) bytes all packs
    (within_both (Some (arguments_bytes ks v)) content a b (a ++ b) (arguments_short ks v a split.0 front) (one b split.1 fills) refl)

pub each_short : {A : Type 0} (f : A → Option (List ℕ)) (Spells : A → List ℕ → Type 0) → ((x : A) (b : List ℕ) → AreBytes b → Spells x b → HasWithin (f x) b)
    → (xs : List A) (bytes : List ℕ) → AreBytes bytes → SpellsEach Spells xs bytes → HasWithin (each_bytes f xs) bytes
each_short f Spells one [] bytes all h = rw h (omega arith)
each_short f Spells one (x ∷ xs) bytes all (a, b, first, rest, whole) =
    let split = parts a b bytes whole all in
    within_both (f x) (each_bytes f xs) a b bytes (one x a split.0 first) (each_short f Spells one xs b split.1 rest) whole

-- ---- field elements

pub bits_short : (n : ℕ) (b : List ℕ) → AreBytes b → SpellsPkgLength n b → HasWithin (bits_bytes n) b
bits_short n b all h =
    let f : Fits n b = spelled_fits n b (all_of b all) h in
    rw (le-leb n 268435455 (omega (arith, f.in_all))) (shortest_least n b (all_of b all) h)

field_short : (x : FieldTree) (bytes : List ℕ) → AreBytes bytes → SpellsField x bytes → HasWithin (field_bytes x) bytes
field_short (unit g bits) bytes all (a, b, segment, number, whole) =
    within_both (Some g) (bits_bytes bits) a b bytes (rw segment.1 (omega arith)) (bits_short bits b (parts a b bytes whole all).1 number) whole
field_short (reserved bits) bytes all (b, number, whole) = within_both (Some (0 ∷ [])) (bits_bytes bits) (0 ∷ []) b bytes (omega arith)
    (bits_short bits b (parts (0 ∷ []) b bytes whole all).1 number) whole
field_short (access kind attribute) bytes all h = rw h (omega arith)
field_short (connect_name n) bytes all (a, named, whole) = let le : length (name_bytes n) ≤ length a = name_shortest n a named in rw whole (omega (arith, le))
field_short (connect_buffer size content) bytes all (a, h, packs) =
    within_packed (2 ∷ 17 ∷ []) (int_bytes size) (Some content) (a ++ content) bytes all packs
    (within_both (Some (int_bytes size)) (Some content) a content (a ++ content) (int_short size a h) (omega arith) refl)
field_short (extended kind attribute len) bytes all h = rw h (omega arith)

pub fields_short : (es : List FieldTree) (b : List ℕ) → AreBytes b → SpellsFields es b → HasWithin (fields_bytes es) b
fields_short es b all h = each_short field_bytes SpellsField field_short es b all h

-- ---- what is spelled has the values that a value in memory has

pub number_below : (k n : ℕ) (b : List ℕ) → AreBytes b → SpellsNumber k n b → n < 256 ^ k
number_below k n b all h = subst (λ m. m < 256 ^ k) h.1 (little_from-lt 0 k b (each b all))
  where
    each : (b : List ℕ) → AreBytes b → (i : ℕ) → slice_index b i < 256
    each [] all i = omega arith
    each (x ∷ b) all zero = all.0
    each (x ∷ b) all (suc i) = each b all.1 i

pub int_typed : (i : Int) (b : List ℕ) → AreBytes b → SpellsInt i b → IsIntTyped i
int_typed (Word n) b all h = number_below 2 n h.0 (parts (11 ∷ []) h.0 b h.2 all).1 h.1
int_typed (DWord n) b all h = number_below 4 n h.0 (parts (12 ∷ []) h.0 b h.2 all).1 h.1
int_typed (QWord n) b all h = number_below 8 n h.0 (parts (14 ∷ []) h.0 b h.2 all).1 h.1
int_typed _ b all h = tt

argument_typed : (k : FixedArgument) (v : Value k) (b : List ℕ) → AreBytes b → SpellsArgument k v b → IsTyped k v
argument_typed name_arg n b all h = h.is_name
argument_typed source_arg n b all h = h.0.is_name
argument_typed word_arg n b all h = number_below 2 n b all h
argument_typed dword_arg n b all h = number_below 4 n b all h
argument_typed int_arg i b all h = int_typed i b all h
argument_typed byte_arg n b all h = tt
argument_typed count_arg n b all h = tt

arguments_typed : (ks : List FixedArgument) (v : Values ks) (b : List ℕ) → AreBytes b → SpellsArguments ks v b → AreTyped ks v
arguments_typed [] v b all h = tt
arguments_typed (k ∷ ks) v b all (x, y, one, rest, whole) = let split = parts x y b whole all in (argument_typed k v.0 x split.0 one, arguments_typed ks v.1 y split.1 rest)

pub plain_typed : (op : List ℕ) (ks : List FixedArgument) (v : Values ks) (bytes : List ℕ) → AreBytes bytes → SpellsPlain op ks v bytes → AreTyped ks v
plain_typed op ks v bytes all h = arguments_typed ks v h.0 (parts op h.0 bytes h.2 all).1 h.1

pub front_typed : (op : List ℕ) (ks : List FixedArgument) (v : Values ks) (Fills : List ℕ → Type 0) (bytes : List ℕ) → AreBytes bytes → SpellsPacked op ks v Fills bytes → AreTyped ks v
front_typed op ks v Fills bytes all (a, b, front, fills, packs) = arguments_typed ks v a (parts a b (a ++ b) refl (packed op (a ++ b) bytes packs all)).0 front

pub content_of : (op : List ℕ) (ks : List FixedArgument) (v : Values ks) (Fills : List ℕ → Type 0) (bytes : List ℕ) → AreBytes bytes
    → SpellsPacked op ks v Fills bytes → (b : List ℕ) × AreBytes b × Fills b
content_of op ks v Fills bytes all (a, b, front, fills, packs) = (b, (parts a b (a ++ b) refl (packed op (a ++ b) bytes packs all)).1, fills)

pub each_typed : {A : Type 0} (Spells : A → List ℕ → Type 0) (Holds : A → Type 0) → ((x : A) (b : List ℕ) → AreBytes b → Spells x b → Holds x)
    → (xs : List A) (bytes : List ℕ) → AreBytes bytes → SpellsEach Spells xs bytes → AllByRecursion Holds xs
each_typed Spells Holds one [] bytes all h = tt
each_typed Spells Holds one (x ∷ xs) bytes all (a, b, first, rest, whole) = let split = parts a b bytes whole all in (one x a split.0 first, each_typed Spells Holds one xs b split.1 rest)

field_typed : (x : FieldTree) (bytes : List ℕ) → AreBytes bytes → SpellsField x bytes → IsFieldTyped x
field_typed (unit g bits) bytes all h = h.2.0
field_typed (connect_name n) bytes all h = h.1.is_name
field_typed (connect_buffer size content) bytes all (a, h, packs) = int_typed size a (parts a content (a ++ content) refl (packed (2 ∷ 17 ∷ []) (a ++ content) bytes packs all)).0 h
field_typed (reserved bits) bytes all h = tt
field_typed (access kind attribute) bytes all h = tt
field_typed (extended kind attribute len) bytes all h = tt

pub fields_typed : (es : List FieldTree) (bytes : List ℕ) → AreBytes bytes → SpellsFields es bytes → AllByRecursion IsFieldTyped es
fields_typed es bytes all h = each_typed SpellsField IsFieldTyped field_typed es bytes all h
