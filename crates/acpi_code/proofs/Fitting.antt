-- What spells a part fits.
use Rattle.std.proofs.Common.{◌≡◌, ℕ, zero, suc, ◌+◌, ◌*◌, ◌/◌, ◌%◌, ◌≤◌, ◌<◌, Bool, true, false, ◌&&◌, not, eqb, List, [], ◌∷◌, ◌++◌, length, slice_index, get_or, Fits, w8, refl, subst, ◌∙◌, arith, inl, inr}
use Rattle.std.specs.List.{AllByRecursion, list_all}
use Rattle.std.proofs.lemmas.Bool.{lt-ltb, eqb-true, le-leb}
use Rattle.std.proofs.Math.Facts.{Fits-lt-pow}
use Rattle.byteorder.specs.Endian.{little_number}
use Rattle.acpi_name.specs.Names.{NameParts, is_null_name}
use Rattle.acpi_name.specs.Spelling.{SpellsName, SpellsPath}
use Rattle.acpi_table.specs.PkgLength.{SpellsPkgLength}
use Rattle.acpi_code.specs.Opcodes.{is_name_start}
use Rattle.acpi_code.specs.Spelling.{IsText, SpellsTermName, SpellsEach, Packs}
use Rattle.acpi_code.specs.Fields.{SpellsField, SpellsFields}
use Rattle.acpi_tree.specs.Tree.{FieldTree, unit, reserved, access, connect_name, connect_buffer, extended}
use Rattle.acpi_tree.specs.Fits.{text_fits, bits_fit, field_fits}

abbrev pub AreBytes : List ℕ → Type 0
AreBytes = AllByRecursion (λ b. b < 256)

pub are_bytes : (bytes : List ℕ) → ((i : ℕ) → Fits w8 (get_or bytes i 0)) → AreBytes bytes
are_bytes [] each = tt
are_bytes (b ∷ bytes) each = (Fits-lt-pow (each 0), are_bytes bytes (λ i. each (suc i)))

pub both : {a b : Bool} → a ≡ true → b ≡ true → (a && b) ≡ true
both e f = rw (e, f) refl

pub front_bytes : (a b : List ℕ) → AreBytes (a ++ b) → AreBytes a
front_bytes [] b all = tt
front_bytes (x ∷ a) b all = (all.0, front_bytes a b all.1)

pub back_bytes : (a b : List ℕ) → AreBytes (a ++ b) → AreBytes b
back_bytes [] b all = all
back_bytes (x ∷ a) b all = back_bytes a b all.1

pub parts : (a b bytes : List ℕ) → bytes ≡ a ++ b → AreBytes bytes → AreBytes a × AreBytes b
parts a b bytes whole all = let split : AreBytes (a ++ b) = subst AreBytes whole all in (front_bytes a b split, back_bytes a b split)

pub packed : (opcode content bytes : List ℕ) → Packs opcode content bytes → AreBytes bytes → AreBytes content
packed opcode content bytes p all = (parts p.len content (p.len ++ content) refl (parts opcode (p.len ++ content) bytes p.whole all).1).1

-- ---- package lengths, names, text

wide : (n opcode k : ℕ) (tail : List ℕ) → k ≤ 3 → AreBytes tail → length tail ≡ k → opcode % 64 < 16 → n ≡ opcode % 64 + 16 * little_number k tail → n ≤ 268435455
wide n opcode zero tail le all is low e = let f : n ≡ opcode % 64 + 16 * 0 = e in omega (arith, f, low)
wide n opcode (suc zero) (a ∷ []) le all is low e =
    let f : n ≡ opcode % 64 + 16 * (a + 256 * 0) = e in let h : a < 256 = all.0 in omega (arith, f, low, h)
wide n opcode (suc (suc zero)) (a ∷ b ∷ []) le all is low e =
    let f : n ≡ opcode % 64 + 16 * (a + 256 * (b + 256 * 0)) = e in let h : a < 256 = all.0 in let i : b < 256 = all.1.0 in omega (arith, f, low, h, i)
wide n opcode (suc (suc (suc zero))) (a ∷ b ∷ c ∷ []) le all is low e =
    let f : n ≡ opcode % 64 + 16 * (a + 256 * (b + 256 * (c + 256 * 0))) = e in let h : a < 256 = all.0 in let i : b < 256 = all.1.0 in let j : c < 256 = all.1.1.0 in omega (arith, f, low, h, i, j)
wide n opcode (suc (suc (suc (suc k)))) tail le all is low e = absurd (omega (arith, le))
wide n opcode k tail le all is low e = absurd (omega (arith, is))

pub length_fits : (n : ℕ) (bytes : List ℕ) → SpellsPkgLength n bytes → AreBytes bytes → bits_fit n ≡ true
length_fits n [] h all = absurd h
length_fits n (opcode ∷ tail) h all = le-leb n 268435455 (elim h [ inl s ↦ let lt : opcode < 64 = s.0 in omega (arith, lt, s.2) | inr l ↦ few l ])
  where
    few : ((64 ≤ opcode) × (opcode % 64 < 16) × (length tail ≡ opcode / 64) × (n ≡ opcode % 64 + 16 * little_number (opcode / 64) tail)) → n ≤ 268435455
    few l = let byte : opcode < 256 = all.0 in let le : opcode / 64 ≤ 3 = omega (arith, byte) in wide n opcode (opcode / 64) tail le all.1 l.2 l.1 l.3

null_is : (n : NameParts) (a : List ℕ) → SpellsName n a → n.rooted ≡ false → n.parents ≡ 0 → length n.segments ≡ 0 → a ≡ 0 ∷ []
null_is n a h rooted parents none = h.whole ∙ rw (rooted, parents) (path_is h.spells_path)
  where
    path_is : SpellsPath n.segments h.path → h.path ≡ 0 ∷ []
    path_is p = elim p [
      | inl e ↦ e.1
      | inr q ↦ elim q [ inl f ↦ absurd (omega (arith, none, f.0)) | inr r ↦ elim r [ inl g ↦ absurd (omega (arith, none, g.0)) | inr o ↦ absurd (omega (arith, none, o.0)) ] ]
    ]

pub term_name_fits : (n : NameParts) (a : List ℕ) → SpellsTermName n a → not (is_null_name n) ≡ true
term_name_fits n a h = by_parts n.rooted (eqb n.parents 0) (eqb (length n.segments) 0) refl refl refl
  where
    by_parts : (r p s : Bool) → n.rooted ≡ r → eqb n.parents 0 ≡ p → eqb (length n.segments) 0 ≡ s → not (not r && p && s) ≡ true
    by_parts true p s er ep es = refl
    by_parts false false s er ep es = refl
    by_parts false true false er ep es = refl
    by_parts false true true er ep es =
        let is : a ≡ 0 ∷ [] = null_is n a h.0 er (eqb-true n.parents 0 ep) (eqb-true (length n.segments) 0 es) in
        let start : is_name_start (slice_index a 0) ≡ true = h.1 in
        let never : false ≡ true = subst (λ b. is_name_start (slice_index b 0) ≡ true) is start in
        absurd cc

pub text_all : (text : List ℕ) → AllByRecursion IsText text → list_all text_fits text ≡ true
text_all [] h = refl
text_all (b ∷ text) h = both (both (lt-ltb 0 b h.0.0) (lt-ltb b 128 h.0.1)) (text_all text h.1)

-- ---- lists

pub each_fits : {A : Type 0} (Spells : A → List ℕ → Type 0) (fits : A → Bool) → ((x : A) (a : List ℕ) → Spells x a → AreBytes a → fits x ≡ true)
    → (xs : List A) (bytes : List ℕ) → SpellsEach Spells xs bytes → AreBytes bytes → list_all fits xs ≡ true
each_fits Spells fits one [] bytes h all = refl
each_fits Spells fits one (x ∷ xs) bytes h all =
    let split = parts h.0 h.1 bytes h.4 all in both (one x h.0 h.2 split.0) (each_fits Spells fits one xs h.1 h.3 split.1)

-- ---- field elements

pub field_fit : (e : FieldTree) (bytes : List ℕ) → SpellsField e bytes → AreBytes bytes → field_fits e ≡ true
field_fit (unit g bits) bytes (a, b, hg, hb, whole) all = length_fits bits b hb (parts a b bytes whole all).1
field_fit (reserved bits) bytes (b, hb, whole) all = length_fits bits b hb (parts (0x00 ∷ []) b bytes whole all).1
field_fit (access kind attribute) bytes h all = refl
field_fit (connect_name n) bytes h all = refl
field_fit (connect_buffer size content) bytes h all = refl
field_fit (extended kind attribute len) bytes h all = refl

pub fields_fit : (es : List FieldTree) (bytes : List ℕ) → SpellsFields es bytes → AreBytes bytes → list_all field_fits es ≡ true
fields_fit es bytes h all = each_fits SpellsField field_fits field_fit es bytes h all
