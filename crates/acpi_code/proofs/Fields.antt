-- Field elements: what is spelled is read.
use Rattle.std.proofs.Common.{◌≡◌, ℕ, ◌-◌, ◌+◌, ◌<◌, Bool, true, false, eqb, ◌&&◌, cond, true≢false, List, [], ◌∷◌, ◌++◌, length, Result, Ok, Err, refl, sym, ap, ◌∙◌, append_assoc, arith}
use Rattle.std.proofs.lemmas.List.{length-append}
use Rattle.std.proofs.lemmas.Bool.{eqb-true}
use Rattle.acpi_name.specs.Names.{Segment, NameParts, is_segment, is_lead_char, is_name_char}
use Rattle.acpi_name.specs.Spelling.{SpellsName}
use Rattle.acpi_name.specs.Reading.{segment_at, segments_at, path_at, relative_at, name_at}
use Rattle.acpi_name.specs.declared.reading.NameFault.{NameFault}
use Rattle.acpi_name.specs.declared.reading.NameFault.TheVariants.{BadChar}
use Rattle.acpi_name.proofs.NameAgain.{name_long, neq, and_true}
use Rattle.acpi_table.specs.PkgLength.{SpellsPkgLength}
use Rattle.acpi_tree.specs.declared.tree.Int.{Int}
use Rattle.acpi_tree.specs.Tree.{FieldTree, unit, reserved, access, connect_name, connect_buffer, extended}
use Rattle.acpi_code.specs.declared.fault.ConstantFault.{ConstantFault}
use Rattle.acpi_code.specs.Spelling.{SpellsInt}
use Rattle.acpi_code.specs.Fields.{SpellsField, SpellsFields}
use Rattle.acpi_code.specs.steps.Remaining.{Remaining}
use Rattle.acpi_code.specs.steps.Reading.{Reading, byte_at, or_name_fault, name_in, each_at}
use Rattle.acpi_code.specs.steps.Fields.{connect_buffer_at, connect_name_at, connect_at, unit_at, reserved_at, access_at, extended_at, field_at, fields_in}
use Rattle.acpi_code.specs.steps.Cursor.{Stops}
use Rattle.acpi_code.specs.declared.fault.FieldFault.{FieldFault}
use Rattle.acpi_code.specs.declared.fault.FieldFault.TheVariants as fields
use Rattle.acpi_code.proofs.Constants.{int_complete}
use Rattle.acpi_code.proofs.Lists.{each_complete, all_at, Turns, stopped}
use Rattle.acpi_code.proofs.Names.{name_in_complete, segment_in_complete}
use Rattle.acpi_code.proofs.Numbers.{length_complete}
use Rattle.acpi_code.proofs.Packages.{front_is, package_complete}

-- ---- as the code does

-- where one of a list fails, the list does
pub stopped_there : {A : Type 0} (one : ℕ → List ℕ → Reading ConstantFault A) (first now : Remaining) (front : List A) (e : FieldFault) → 0 < length now.bytes
    → Stops e (one now.end now.bytes) → Turns one first now front → Stops e (each_at (one first.end) first.bytes)
stopped_there one first now front fields.Memory some fails so = tt
stopped_there one first now front (fields.At f) some fails so = stopped one first now front f some fails so

-- ---- complete

buffer_complete : (end : ℕ) (size : Int) (content a len rest : List ℕ) → SpellsInt size a → SpellsPkgLength (length len + length (a ++ content)) len
    → connect_buffer_at end (len ++ ((a ++ content) ++ rest)) ≡ Ok (connect_buffer size content, rest)
unfolding connect_buffer_at
buffer_complete end size content a len rest h l = rw (package_complete end len (a ++ content) rest l, int_complete size (end - length rest) a content h) refl

connect_name_complete : (end : ℕ) (n : NameParts) (a rest : List ℕ) → SpellsName n a → connect_name_at end (a ++ rest) ≡ Ok (connect_name n, rest)
unfolding connect_name_at
connect_name_complete end n a rest h = rw (name_in_complete end n a rest h) refl

unit_complete : (end : ℕ) (g : Segment) (bits : ℕ) (b rest : List ℕ) → is_segment g ≡ true → SpellsPkgLength bits b → unit_at end (g ++ (b ++ rest)) ≡ Ok (unit g bits, rest)
unfolding unit_at
unit_complete end g bits b rest h l = rw (segment_in_complete end g (b ++ rest) h, length_complete bits end b rest l) refl

reserved_complete : (end bits : ℕ) (b rest : List ℕ) → SpellsPkgLength bits b → reserved_at end (b ++ rest) ≡ Ok (reserved bits, rest)
unfolding reserved_at
reserved_complete end bits b rest l = rw (length_complete bits end b rest l) refl

-- the first byte decides
zero_first : (end : ℕ) (bytes : List ℕ) (x : FieldTree × List ℕ) → reserved_at end bytes ≡ Ok x → field_at end (0x00 ∷ bytes) ≡ Ok x
unfolding field_at byte_at
zero_first end bytes x h = h

connect_first : (end : ℕ) (bytes : List ℕ) (x : FieldTree × List ℕ) → connect_at end bytes ≡ Ok x → field_at end (0x02 ∷ bytes) ≡ Ok x
unfolding field_at byte_at
connect_first end bytes x h = h

buffer_first : (end : ℕ) (bytes : List ℕ) (x : FieldTree × List ℕ) → connect_buffer_at end bytes ≡ Ok x → connect_at end (0x11 ∷ bytes) ≡ Ok x
unfolding connect_at byte_at
buffer_first end bytes x h = h

access_complete : (end kind attribute : ℕ) (rest : List ℕ) → field_at end (0x01 ∷ kind ∷ attribute ∷ rest) ≡ Ok (access kind attribute, rest)
unfolding field_at access_at byte_at
access_complete end kind attribute rest = refl

extended_complete : (end kind attribute len : ℕ) (rest : List ℕ) → field_at end (0x03 ∷ kind ∷ attribute ∷ len ∷ rest) ≡ Ok (extended kind attribute len, rest)
unfolding field_at extended_at byte_at
extended_complete end kind attribute len rest = refl

-- no name and no segment begins with the byte
no_segment : (r : List ℕ) → segment_at (0x11 ∷ r) ≡ Err BadChar
unfolding segment_at
no_segment [] = refl
no_segment (a ∷ []) = refl
no_segment (a ∷ b ∷ []) = refl
no_segment (a ∷ b ∷ c ∷ r) = refl

abbrev failed : NameFault → Result (NameParts × List ℕ) NameFault
failed f = Err f

no_name : (r : List ℕ) → name_at (0x11 ∷ r) ≡ failed BadChar
unfolding name_at relative_at path_at segments_at
no_name r = rw (no_segment r) refl

no_name_11 : (end : ℕ) (a rest : List ℕ) (x : NameParts × List ℕ) → name_in end (0x11 ∷ rest) ≡ Ok x → ⊥
unfolding name_in
no_name_11 end a rest x e = never (ap (or_name_fault end (0x11 ∷ rest)) (sym (no_name rest)) ∙ e)
  where
    never : or_name_fault end (0x11 ∷ rest) (failed BadChar) ≡ Ok x → ⊥
    never e = cc

name_first : (end : ℕ) (bytes : List ℕ) (n : NameParts) (rest : List ℕ) → name_in end bytes ≡ Ok (n, rest)
    → connect_name_at end bytes ≡ Ok (connect_name n, rest) → 0 < length bytes → connect_at end bytes ≡ Ok (connect_name n, rest)
unfolding connect_at byte_at
name_first end [] n rest e h some = absurd (omega arith)
name_first end (b ∷ bytes) n rest e h some = by_test (eqb b 0x11) refl
  where
    by_test : (t : Bool) → eqb b 0x11 ≡ t → cond t (connect_buffer_at end bytes) (connect_name_at end (b ∷ bytes)) ≡ Ok (connect_name n, rest)
    by_test true t = absurd (no_name_11 end [] bytes (n, rest) (ap (λ k. name_in end (k ∷ bytes)) (sym (eqb-true b 0x11 t)) ∙ e))
    by_test false t = h

-- a segment begins with none of the bytes of the other elements
lead_not : (b : ℕ) → is_lead_char b ≡ true → (eqb b 0x00 ≡ false) × (eqb b 0x01 ≡ false) × (eqb b 0x02 ≡ false) × (eqb b 0x03 ≡ false)
lead_not b h = (neq b 0x00 (λ e. never 0x00 e refl), neq b 0x01 (λ e. never 0x01 e refl), neq b 0x02 (λ e. never 0x02 e refl), neq b 0x03 (λ e. never 0x03 e refl))
  where
    never : (k : ℕ) → b ≡ k → is_lead_char k ≡ false → ⊥
    never k e f = let t : is_lead_char k ≡ true = ap is_lead_char (sym e) ∙ h in absurd (true≢false (sym t ∙ f))

segment_lead : (b : ℕ) (g : List ℕ) → is_segment (b ∷ g) ≡ true → is_lead_char b ≡ true
segment_lead b (x ∷ y ∷ z ∷ []) h =
    let three = and_true (is_lead_char b && is_name_char x && is_name_char y) (is_name_char z) h in
    let two = and_true (is_lead_char b && is_name_char x) (is_name_char y) three.0 in
    (and_true (is_lead_char b) (is_name_char x) two.0).0
segment_lead b [] h = absurd cc
segment_lead b (x ∷ []) h = absurd cc
segment_lead b (x ∷ y ∷ []) h = absurd cc
segment_lead b (x ∷ y ∷ z ∷ w ∷ g) h = absurd cc

unit_first : (end : ℕ) (g more : List ℕ) (x : FieldTree × List ℕ) → is_segment g ≡ true → unit_at end (g ++ more) ≡ Ok x → field_at end (g ++ more) ≡ Ok x
unfolding field_at byte_at
unit_first end [] more x h u = absurd cc
unit_first end (b ∷ g) more x h u =
    let n = lead_not b (segment_lead b g h) in
    rw (n.0, n.1, n.2, n.3) u

pub field_complete : (end : ℕ) (e : FieldTree) (a rest : List ℕ) → SpellsField e a → field_at end (a ++ rest) ≡ Ok (e, rest)
field_complete end (unit g bits) a rest (x, y, seg, len, whole) =
    let is : a ++ rest ≡ g ++ (y ++ rest) = ap (λ (l : List ℕ). l ++ rest) (whole ∙ ap (λ (l : List ℕ). l ++ y) seg.1) ∙ append_assoc g y rest in
    rw is (unit_first end g (y ++ rest) (unit g bits, rest) seg.0 (unit_complete end g bits y rest seg.0 len))
field_complete end (reserved bits) a rest (y, len, whole) = rw whole (zero_first end (y ++ rest) (reserved bits, rest) (reserved_complete end bits y rest len))
field_complete end (access kind attribute) a rest h = rw h (access_complete end kind attribute rest)
field_complete end (connect_name n) a rest (x, h, whole) =
    rw whole (connect_first end (x ++ rest) (connect_name n, rest) (name_first end (x ++ rest) n rest (name_in_complete end n x rest h)
    (connect_name_complete end n x rest h) (omega (arith, length-append x rest, name_long n x h))))
field_complete end (connect_buffer size content) a rest (x, h, packs) =
    let is = front_is (0x02 ∷ 0x11 ∷ []) a packs.len (x ++ content) rest packs.whole in
    rw is (connect_first end (0x11 ∷ (packs.len ++ ((x ++ content) ++ rest))) (connect_buffer size content, rest)
    (buffer_first end (packs.len ++ ((x ++ content) ++ rest)) (connect_buffer size content, rest) (buffer_complete end size content x packs.len rest h packs.spells_len)))
field_complete end (extended kind attribute len) a rest h = rw h (extended_complete end kind attribute len rest)

pub field_long : (e : FieldTree) (a : List ℕ) → SpellsField e a → 0 < length a
field_long (unit g bits) a (x, y, seg, len, whole) = rw (whole, seg.1) (by_segment g seg.0)
  where
    by_segment : (g : List ℕ) → is_segment g ≡ true → 0 < length (g ++ y)
    by_segment [] h = absurd cc
    by_segment (b ∷ g) h = omega arith
field_long (reserved bits) a h = rw h.2 (omega arith)
field_long (access kind attribute) a h = rw h (omega arith)
field_long (connect_name n) a h = rw h.2 (omega arith)
field_long (connect_buffer size content) a h = rw h.2.whole (omega arith)
field_long (extended kind attribute len) a h = rw h (omega arith)

pub fields_complete : (end : ℕ) (es : List FieldTree) (b : List ℕ) → SpellsFields es b → fields_in end b ≡ Ok es
fields_complete end es b h = all_at (field_at end) b es (each_complete SpellsField (field_at end) field_long (λ e a rest k. field_complete end e a rest k) es b h)
