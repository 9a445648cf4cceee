-- What is written spells its tree: the parts of forms.
use Rattle.std.proofs.Common.{◌≡◌, ℕ, zero, suc, ◌<◌, ◌≤◌, ◌^◌, Bool, true, false, ◌&&◌, ◌||◌, ◌==◌, not, List, [], ◌∷◌, ◌++◌, length, slice_index, append-nil, Option, Some, None, refl, sym, ap, subst, ◌∙◌, arith}
use Rattle.std.specs.List.{AllByRecursion, list_all}
use Rattle.std.specs.Fmt.{option_append}
use Rattle.std.specs.Prelude.{nat_le, nat_lt, nat_eq, cond}
use Rattle.std.proofs.lemmas.Bool.{ltb-true, leb-true}
use Rattle.byteorder.specs.Endian.{little_number, little_bytes}
use Rattle.byteorder.specs.Numbers.{little_number-reads_back, length-bytes_low_first}
use Rattle.acpi_name.specs.Names.{NameParts, IsName, Segment, is_segment, is_lead_char, is_name_char, is_null_name}
use Rattle.acpi_name.specs.Spelling.{name_bytes, prefix_of, path_bytes}
use Rattle.acpi_name.proofs.NameWritten.{name_written}
use Rattle.acpi_table.specs.PkgLength.{SpellsPkgLength, shortest_pkg_length, package_number}
use Rattle.acpi_table.proofs.PkgLengths.{shortest_spells, number_counts}
use Rattle.acpi_code.specs.Opcodes.{is_name_start}
use Rattle.acpi_code.specs.declared.opcode.Opcode.{Opcode}
use Rattle.acpi_code.specs.Fields.{SpellsField, SpellsFields}
use Rattle.acpi_code.specs.Spelling.{SpellsNumber, SpellsInt, SpellsTermName, SpellsEach, IsText, Packs}
use Rattle.acpi_tree.specs.declared.tree.Int.{Int}
use Rattle.acpi_tree.specs.declared.tree.Int.TheVariants.{Zero, One, Ones, Revision, Byte, Word, DWord, QWord}
use Rattle.acpi_tree.specs.Tree.{FieldTree, unit, reserved, access, connect_name, connect_buffer, extended, field}
use Rattle.acpi_tree.specs.Fits.{text_fits, bits_fit, field_fits}
use Rattle.acpi_terms.specs.Forms.{FixedArgument, name_arg, source_arg, byte_arg, word_arg, dword_arg, count_arg, int_arg, Value, Values, fixed_arguments, ArgumentsOf}
use Rattle.acpi_terms.specs.Spelling.{SpellsArgument, SpellsArguments, SpellsPacked, SpellsForm}
use Rattle.acpi_write.specs.Canonical.{int_bytes, argument_bytes, arguments_bytes, form_bytes, packed_bytes, filled_with, each_bytes, bits_bytes, field_bytes, fields_bytes}
use Rattle.acpi_write.specs.Laws.{IsIntTyped, IsTyped, AreTyped, IsFieldTyped}

-- ---- both tests of an `&&`, and both parts of a pair of spellings

pub first_of : (a b : Bool) → (a && b) ≡ true → a ≡ true
first_of true b e = refl
first_of false b e = absurd cc

pub second_of : (a b : Bool) → (a && b) ≡ true → b ≡ true
second_of true b e = e
second_of false b e = absurd cc

pub record Both (a b : Option (List ℕ)) (bytes : List ℕ) : Type 0 where
  pub front : List ℕ
  pub back : List ℕ
  pub is_front : a ≡ Some front
  pub is_back : b ≡ Some back
  pub whole : bytes ≡ front ++ back

pub some_is : (a b : List ℕ) → Some a ≡ Some b → a ≡ b
some_is a b e = cc

pub both_of : (a b : Option (List ℕ)) (bytes : List ℕ) → option_append a b ≡ Some bytes → Both a b bytes
both_of None b bytes e = absurd cc
both_of (Some a) None bytes e = absurd cc
both_of (Some a) (Some b) bytes e = record { front = a; back = b; is_front = refl; is_back = refl; whole = sym (some_is (a ++ b) bytes e) }

-- ---- fixed arguments

pub number_written : (k n : ℕ) → n < 256 ^ k → SpellsNumber k n (little_bytes k n)
number_written k n few = (length-bytes_low_first 0 k n, ap (little_number k) (sym (append-nil (little_bytes k n))) ∙ little_number-reads_back k n [] few)

pub int_written : (i : Int) → IsIntTyped i → SpellsInt i (int_bytes i)
int_written Zero f = refl
int_written One f = refl
int_written Ones f = refl
int_written Revision f = refl
int_written (Byte n) f = refl
int_written (Word n) f = (little_bytes 2 n, number_written 2 n f, refl)
int_written (DWord n) f = (little_bytes 4 n, number_written 4 n f, refl)
int_written (QWord n) f = (little_bytes 8 n, number_written 8 n f, refl)

-- what an argument must be besides, to have a spelling
abbrev pub Stands : (k : FixedArgument) → Value k → Type 0
Stands source_arg n = is_null_name n ≡ false
Stands count_arg n = n ≤ 7
Stands _ v = Unit {0}

abbrev pub AllStand : (ks : List FixedArgument) → Values ks → Type 0
AllStand [] v = Unit {0}
AllStand (k ∷ ks) v = Stands k v.0 × AllStand ks v.1

or_last : (w x y z l : Bool) → l ≡ true → (w || x || y || z || l) ≡ true
or_last true x y z l e = refl
or_last false true y z l e = refl
or_last false false true z l e = refl
or_last false false false true l e = refl
or_last false false false false l e = e

lead_starts : (s : Segment) → is_segment s ≡ true → is_name_start (slice_index s 0) ≡ true
lead_starts [] e = absurd cc
lead_starts (a ∷ []) e = absurd cc
lead_starts (a ∷ b ∷ []) e = absurd cc
lead_starts (a ∷ b ∷ c ∷ []) e = absurd cc
lead_starts (a ∷ b ∷ c ∷ d ∷ []) e = or_last (a == 0x5C) (a == 0x5E) (a == 0x2E) (a == 0x2F) (is_lead_char a)
    (first_of (is_lead_char a) (is_name_char b) (first_of (is_lead_char a && is_name_char b) (is_name_char c)
    (first_of (is_lead_char a && is_name_char b && is_name_char c) (is_name_char d) e)))
lead_starts (a ∷ b ∷ c ∷ d ∷ x ∷ xs) e = absurd cc

parts_start : (rooted : Bool) (parents : ℕ) (ss : List Segment) → list_all is_segment ss ≡ true → (not rooted && nat_eq parents 0 && nat_eq (length ss) 0) ≡ false
    → is_name_start (slice_index (prefix_of rooted parents ++ path_bytes ss) 0) ≡ true
parts_start true parents ss h some = refl
parts_start false (suc p) ss h some = refl
parts_start false zero [] h some = absurd cc
parts_start false zero (s ∷ []) h some = lead_starts s (first_of (is_segment s) true h)
parts_start false zero (s ∷ t ∷ []) h some = refl
parts_start false zero (s ∷ t ∷ u ∷ ss) h some = refl

pub term_name_written : (n : NameParts) → IsName n → is_null_name n ≡ false → SpellsTermName n (name_bytes n)
term_name_written n h some = (name_written n h, parts_start n.rooted n.parents n.segments h.are_segments some)

argument_written : (k : FixedArgument) (v : Value k) → IsTyped k v → Stands k v → SpellsArgument k v (argument_bytes k v)
argument_written name_arg n f s = name_written n f
argument_written source_arg n f s = term_name_written n f s
argument_written byte_arg n f s = refl
argument_written word_arg n f s = number_written 2 n f
argument_written dword_arg n f s = number_written 4 n f
argument_written count_arg n f s = (s, refl)
argument_written int_arg i f s = int_written i f

arguments_written : (ks : List FixedArgument) (v : Values ks) → AreTyped ks v → AllStand ks v → SpellsArguments ks v (arguments_bytes ks v)
arguments_written [] v f s = refl
arguments_written (k ∷ ks) v f s = (argument_bytes k v.0, arguments_bytes ks v.1, argument_written k v.0 f.0 s.0, arguments_written ks v.1 f.1 s.1, refl)

-- ---- forms

pub form_written : (o : Opcode) (v : ArgumentsOf o) (bytes : List ℕ) → AreTyped (fixed_arguments o) v → AllStand (fixed_arguments o) v → Some (form_bytes o v) ≡ Some bytes → SpellsForm o v bytes
form_written o v bytes f s e = (arguments_bytes (fixed_arguments o) v, arguments_written (fixed_arguments o) v f s, sym (some_is (form_bytes o v) bytes e))

pub packs : (opcode content : List ℕ) → length content < 268435452 → Packs opcode content (opcode ++ (shortest_pkg_length (package_number (length content)) ++ content))
packs opcode content few =
    let number = package_number (length content) in
    let counts = number_counts (length content) few in
    record {
      len = shortest_pkg_length number;
      spells_len = subst (λ n. SpellsPkgLength n (shortest_pkg_length number)) (sym counts.0) (shortest_spells number counts.1);
      whole = refl;
    }

pub packed_written : (opcode content bytes : List ℕ) → packed_bytes opcode content ≡ Some bytes → Packs opcode content bytes
packed_written opcode content bytes e = by_test (nat_le (length content) 268435451) refl e
  where
    spelled : List ℕ
    spelled = opcode ++ (shortest_pkg_length (package_number (length content)) ++ content)

    by_test : (t : Bool) → nat_le (length content) 268435451 ≡ t → cond t (Some spelled) None ≡ Some bytes → Packs opcode content bytes
    by_test true few e = let le : length content ≤ 268435451 = leb-true _ _ few in subst (Packs opcode content) (some_is spelled bytes e) (packs opcode content (omega (arith, le)))
    by_test false few e = absurd cc

pub filled_written : (opcode : List ℕ) (ks : List FixedArgument) (v : Values ks) (Fills : List ℕ → Type 0) (content : Option (List ℕ)) (bytes : List ℕ) → AreTyped ks v → AllStand ks v
    → ((b : List ℕ) → content ≡ Some b → Fills b) → filled_with opcode (arguments_bytes ks v) content ≡ Some bytes → SpellsPacked opcode ks v Fills bytes
filled_written opcode ks v Fills None bytes f s fills e = absurd cc
filled_written opcode ks v Fills (Some b) bytes f s fills e = (arguments_bytes ks v, b, arguments_written ks v f s, fills b refl, packed_written opcode (arguments_bytes ks v ++ b) bytes e)

-- what fills a package, behind what stands first in it
pub filled_is : (op front : List ℕ) (content : Option (List ℕ)) (bytes : List ℕ) → filled_with op front content ≡ Some bytes → (c : List ℕ) × (content ≡ Some c) × Packs op (front ++ c) bytes
filled_is op front None bytes e = absurd cc
filled_is op front (Some c) bytes e = (c, refl, packed_written op (front ++ c) bytes e)

-- the parts of a pair of which the first has a spelling of its own
pub front_is : (a : List ℕ) (b : Option (List ℕ)) (bytes : List ℕ) → option_append (Some a) b ≡ Some bytes → (rest : List ℕ) × (b ≡ Some rest) × (bytes ≡ a ++ rest)
front_is a None bytes e = absurd cc
front_is a (Some rest) bytes e = (rest, refl, sym (some_is (a ++ rest) bytes e))

pub each_written : {A : Type 0} (f : A → Option (List ℕ)) (Spells : A → List ℕ → Type 0) (Holds : A → Type 0) (fits : A → Bool)
    → ((x : A) (b : List ℕ) → Holds x → fits x ≡ true → f x ≡ Some b → Spells x b)
    → (xs : List A) (bytes : List ℕ) → AllByRecursion Holds xs → list_all fits xs ≡ true → each_bytes f xs ≡ Some bytes → SpellsEach Spells xs bytes
each_written f Spells Holds fits one [] bytes h all e = sym (some_is [] bytes e)
each_written f Spells Holds fits one (x ∷ xs) bytes h all e =
    let b = both_of (f x) (each_bytes f xs) bytes e in (
      b.front,
      b.back,
      one x b.front h.0 (first_of (fits x) (list_all fits xs) all) b.is_front,
      each_written f Spells Holds fits one xs b.back h.1 (second_of (fits x) (list_all fits xs) all) b.is_back,
      b.whole,
    )

-- ---- strings

pub text_written : (text : List ℕ) → list_all text_fits text ≡ true → AllByRecursion IsText text
text_written [] e = tt
text_written (b ∷ text) e =
    let one : (nat_lt 0 b && nat_lt b 128) ≡ true = first_of (text_fits b) (list_all text_fits text) e in
    ((ltb-true 0 b (first_of (nat_lt 0 b) (nat_lt b 128) one), ltb-true b 128 (second_of (nat_lt 0 b) (nat_lt b 128) one)), text_written text (second_of (text_fits b) (list_all text_fits text) e))

-- ---- field elements

pub bits_few : (n : ℕ) → bits_fit n ≡ true → n < 268435456
bits_few n e = let le : n ≤ 268435455 = leb-true _ _ e in omega (arith, le)

pub bits_are : (n : ℕ) (b : List ℕ) → bits_bytes n ≡ Some b → b ≡ shortest_pkg_length n
bits_are n b e = by_test (nat_le n 268435455) e
  where
    by_test : (t : Bool) → cond t (Some (shortest_pkg_length n)) None ≡ Some b → b ≡ shortest_pkg_length n
    by_test true e = sym (some_is (shortest_pkg_length n) b e)
    by_test false e = absurd cc

length_written : (bits : ℕ) (b : List ℕ) → field_fits (reserved bits) ≡ true → bits_bytes bits ≡ Some b → SpellsPkgLength bits b
length_written bits b fit e = subst (SpellsPkgLength bits) (sym (bits_are bits b e)) (shortest_spells bits (bits_few bits fit))

field_written : (x : FieldTree) (bytes : List ℕ) → IsFieldTyped x → field_fits x ≡ true → field_bytes x ≡ Some bytes → SpellsField x bytes
field_written (unit g bits) bytes h fit e = let b = front_is g (bits_bytes bits) bytes e in (g, b.0, (h, refl), length_written bits b.0 fit b.1, b.2)
field_written (reserved bits) bytes h fit e = let b = front_is (0 ∷ []) (bits_bytes bits) bytes e in (b.0, length_written bits b.0 fit b.1, b.2)
field_written (access kind attribute) bytes h fit e = sym (some_is (1 ∷ kind ∷ attribute ∷ []) bytes e)
field_written (connect_name n) bytes h fit e = (name_bytes n, name_written n h, sym (some_is (2 ∷ name_bytes n) bytes e))
field_written (connect_buffer size content) bytes h fit e =
    let f = filled_is (2 ∷ 17 ∷ []) (int_bytes size) (Some content) bytes e in
    (int_bytes size, int_written size h, subst (λ c. Packs (2 ∷ 17 ∷ []) (int_bytes size ++ c) bytes) (sym (some_is content f.0 f.1)) f.2)
field_written (extended kind attribute len) bytes h fit e = sym (some_is (3 ∷ kind ∷ attribute ∷ len ∷ []) bytes e)

pub fields_written : (es : List FieldTree) (bytes : List ℕ) → AllByRecursion IsFieldTyped es → list_all field_fits es ≡ true → fields_bytes es ≡ Some bytes → SpellsFields es bytes
fields_written es bytes h fit e = each_written field_bytes SpellsField IsFieldTyped field_fits field_written es bytes h fit e
