-- Whether two trees are equal, as tests, which decide equality and so are equivalences.
use Rattle.std.proofs.Common.{◌≡◌, Bool, true, false, ◌&&◌, eqb, List, [], ◌∷◌, refl, sym, ap, ap₂, subst, ℕ, nat_eq}
use Rattle.std.proofs.lemmas.Bool.{eqb-true}
use Rattle.std.proofs.lemmas.Bool.Decides.{Decides-eqb}
use Rattle.std.specs.Bool.{Decides}
use Rattle.std.specs.Cmp.{IsEquivalence}
use Rattle.std.specs.Cmp.Lexicographic.{pointwise}
use Rattle.acpi_name.specs.NameEqual.{name_eq}
use Rattle.acpi_name.proofs.EqualNames.{name_eq_Decides}
use Rattle.acpi_name.proofs.NameAgain.{and_true}
use Rattle.acpi_tree.specs.declared.tree.Int.{Int}
use Rattle.acpi_tree.specs.declared.tree.Int.TheVariants.{Zero, One, Ones, Revision, Byte, Word, DWord, QWord}
use Rattle.acpi_tree.specs.declared.tree.Width.{Width}
use Rattle.acpi_tree.specs.declared.tree.Width.TheVariants as widths
use Rattle.acpi_tree.specs.Tree.{DataTree, int, str, buffer, pkg, var_pkg, ElemTree, of_data, of_name, ElemTrees, no_elems, elem, FieldTree, unit, reserved, access, connect_name, connect_buffer, extended}
use Rattle.acpi_tree.specs.declared.object.FieldForm.{FieldForm}
use Rattle.acpi_tree.specs.declared.object.FieldForm.TheVariants as forms
use Rattle.acpi_tree.specs.Objects.{ObjectTree, root_object, scope_object, predefined_object, device_object, processor_object, power_object, thermal_object, name_object, method_object, region_object, mutex_object, event_object, field_object, create_object, create_field_object}

abbrev pub int_eq : Int → Int → Bool
int_eq Zero Zero = true
int_eq One One = true
int_eq Ones Ones = true
int_eq Revision Revision = true
int_eq (Byte m) (Byte n) = nat_eq m n
int_eq (Word m) (Word n) = nat_eq m n
int_eq (DWord m) (DWord n) = nat_eq m n
int_eq (QWord m) (QWord n) = nat_eq m n
int_eq _ _ = false

abbrev pub width_eq : Width → Width → Bool
width_eq widths.DWord widths.DWord = true
width_eq widths.Word widths.Word = true
width_eq widths.Byte widths.Byte = true
width_eq widths.Bit widths.Bit = true
width_eq widths.QWord widths.QWord = true
width_eq _ _ = false

abbrev pub bytes_eq : List ℕ → List ℕ → Bool
bytes_eq = pointwise nat_eq

abbrev mutual
  pub data_eq : DataTree → DataTree → Bool
  data_eq (int i) (int j) = int_eq i j
  data_eq (str s) (str t) = bytes_eq s t
  data_eq (buffer i s) (buffer j t) = int_eq i j && bytes_eq s t
  data_eq (pkg m es) (pkg n fs) = nat_eq m n && elems_eq es fs
  data_eq (var_pkg i es) (var_pkg j fs) = int_eq i j && elems_eq es fs
  data_eq _ _ = false

  pub elem_eq : ElemTree → ElemTree → Bool
  elem_eq (of_data d) (of_data e) = data_eq d e
  elem_eq (of_name m) (of_name n) = name_eq m n
  elem_eq _ _ = false

  pub elems_eq : ElemTrees → ElemTrees → Bool
  elems_eq no_elems no_elems = true
  elems_eq (elem d ds) (elem e es) = elem_eq d e && elems_eq ds es
  elems_eq _ _ = false

abbrev pub field_eq : FieldTree → FieldTree → Bool
field_eq (unit s m) (unit t n) = bytes_eq s t && nat_eq m n
field_eq (reserved m) (reserved n) = nat_eq m n
field_eq (access k l) (access m n) = nat_eq k m && nat_eq l n
field_eq (connect_name m) (connect_name n) = name_eq m n
field_eq (connect_buffer i s) (connect_buffer j t) = int_eq i j && bytes_eq s t
field_eq (extended j k l) (extended m n o) = nat_eq j m && nat_eq k n && nat_eq l o
field_eq _ _ = false

abbrev pub fields_eq : List FieldTree → List FieldTree → Bool
fields_eq = pointwise field_eq

abbrev pub field_form_eq : FieldForm → FieldForm → Bool
field_form_eq forms.Field forms.Field = true
field_form_eq forms.Index forms.Index = true
field_form_eq (forms.Bank i) (forms.Bank j) = int_eq i j
field_form_eq _ _ = false

abbrev pub object_eq : ObjectTree → ObjectTree → Bool
object_eq root_object root_object = true
object_eq scope_object scope_object = true
object_eq predefined_object predefined_object = true
object_eq device_object device_object = true
object_eq (processor_object i b l) (processor_object j c k) = nat_eq i j && nat_eq b c && nat_eq l k
object_eq (power_object l o) (power_object k p) = nat_eq l k && nat_eq o p
object_eq thermal_object thermal_object = true
object_eq (name_object d) (name_object e) = data_eq d e
object_eq (method_object f) (method_object g) = nat_eq f g
object_eq (region_object s o l) (region_object t p k) = nat_eq s t && int_eq o p && int_eq l k
object_eq (mutex_object f) (mutex_object g) = nat_eq f g
object_eq event_object event_object = true
object_eq (field_object w f o b) (field_object v g p c) =
    field_form_eq w v && nat_eq f g && nat_eq o p && nat_eq b c
object_eq (create_object w i) (create_object v j) = width_eq w v && int_eq i j
object_eq (create_field_object i b) (create_field_object j c) = int_eq i j && int_eq b c
object_eq _ _ = false

abbrev IsTruth : Bool → Type 0
IsTruth true = Unit {0}
IsTruth false = ⊥

pub never : {P : Type 0} → false ≡ true → P
never h = absurd (subst (λ b. IsTruth b) (sym h) tt)

pub both : {a b : Bool} → a ≡ true → b ≡ true → (a && b) ≡ true
both {a = true} left right = right
both {a = false} left right = never left

-- a test that is true of equal values alone, and of each value with itself
pub record Tells {X : Type 0} (E : X → X → Bool) : Type 0 where
  pub is : (x y : X) → E x y ≡ true → x ≡ y
  pub same : (x : X) → E x x ≡ true

pub decides : {X : Type 0} {E : X → X → Bool} → Tells E → (x y : X) → Decides (E x y) (x ≡ y)
decides {E = E} t x y = (t.is x y, λ h. subst (λ z. E x z ≡ true) h (t.same x))

from_decides : {X : Type 0} {E : X → X → Bool} → ((x y : X) → Decides (E x y) (x ≡ y)) → Tells E
from_decides d = record { is = λ x y h. (d x y).0 h; same = λ x. (d x x).1 refl }

pub names_tell : Tells name_eq
names_tell = from_decides name_eq_Decides

pub numbers_tell : Tells eqb
numbers_tell = from_decides Decides-eqb

int_is : (i j : Int) → int_eq i j ≡ true → i ≡ j
int_is Zero Zero h = refl
int_is One One h = refl
int_is Ones Ones h = refl
int_is Revision Revision h = refl
int_is (Byte m) (Byte n) h = ap Byte (eqb-true m n h)
int_is (Word m) (Word n) h = ap Word (eqb-true m n h)
int_is (DWord m) (DWord n) h = ap DWord (eqb-true m n h)
int_is (QWord m) (QWord n) h = ap QWord (eqb-true m n h)
int_is i j h = never h

int_same : (i : Int) → int_eq i i ≡ true
int_same Zero = refl
int_same One = refl
int_same Ones = refl
int_same Revision = refl
int_same (Byte n) = numbers_tell.same n
int_same (Word n) = numbers_tell.same n
int_same (DWord n) = numbers_tell.same n
int_same (QWord n) = numbers_tell.same n

pub ints_tell : Tells int_eq
ints_tell = record { is = int_is; same = int_same }

width_is : (w v : Width) → width_eq w v ≡ true → w ≡ v
width_is widths.DWord widths.DWord h = refl
width_is widths.Word widths.Word h = refl
width_is widths.Byte widths.Byte h = refl
width_is widths.Bit widths.Bit h = refl
width_is widths.QWord widths.QWord h = refl
width_is w v h = never h

width_same : (w : Width) → width_eq w w ≡ true
width_same widths.DWord = refl
width_same widths.Word = refl
width_same widths.Byte = refl
width_same widths.Bit = refl
width_same widths.QWord = refl

pub widths_tell : Tells width_eq
widths_tell = record { is = width_is; same = width_same }

pub lists_tell : {X : Type 0} {E : X → X → Bool} → Tells E → Tells (pointwise E)
lists_tell {X = X} {E = E} t = record { is = is; same = same }
  where
    is : (xs ys : List X) → pointwise E xs ys ≡ true → xs ≡ ys
    is [] [] h = refl
    is (x ∷ xs) (y ∷ ys) h = let p = and_true (E x y) (pointwise E xs ys) h in
        ap₂ (λ (a : X) (b : List X). a ∷ b) (t.is x y p.0) (is xs ys p.1)
    is xs ys h = never h

    same : (xs : List X) → pointwise E xs xs ≡ true
    same [] = refl
    same (x ∷ xs) = both (t.same x) (same xs)

pub bytes_tell : Tells bytes_eq
bytes_tell = lists_tell numbers_tell

mutual
  data_is : (d e : DataTree) → data_eq d e ≡ true → d ≡ e
  data_is (int i) (int j) h = ap int (int_is i j h)
  data_is (str s) (str t) h = ap str (bytes_tell.is s t h)
  data_is (buffer i s) (buffer j t) h = let p = and_true (int_eq i j) (bytes_eq s t) h in
      ap₂ buffer (int_is i j p.0) (bytes_tell.is s t p.1)
  data_is (pkg m es) (pkg n fs) h = let p = and_true (eqb m n) (elems_eq es fs) h in
      ap₂ pkg (eqb-true m n p.0) (elems_is es fs p.1)
  data_is (var_pkg i es) (var_pkg j fs) h = let p = and_true (int_eq i j) (elems_eq es fs) h in
      ap₂ var_pkg (int_is i j p.0) (elems_is es fs p.1)
  data_is d e h = never h

  elem_is : (d e : ElemTree) → elem_eq d e ≡ true → d ≡ e
  elem_is (of_data d) (of_data e) h = ap of_data (data_is d e h)
  elem_is (of_name m) (of_name n) h = ap of_name (names_tell.is m n h)
  elem_is d e h = never h

  elems_is : (ds es : ElemTrees) → elems_eq ds es ≡ true → ds ≡ es
  elems_is no_elems no_elems h = refl
  elems_is (elem d ds) (elem e es) h = let p = and_true (elem_eq d e) (elems_eq ds es) h in
      ap₂ elem (elem_is d e p.0) (elems_is ds es p.1)
  elems_is ds es h = never h

mutual
  data_same : (d : DataTree) → data_eq d d ≡ true
  data_same (int i) = int_same i
  data_same (str s) = bytes_tell.same s
  data_same (buffer i s) = both (int_same i) (bytes_tell.same s)
  data_same (pkg n es) = both (numbers_tell.same n) (elems_same es)
  data_same (var_pkg i es) = both (int_same i) (elems_same es)

  elem_same : (e : ElemTree) → elem_eq e e ≡ true
  elem_same (of_data d) = data_same d
  elem_same (of_name n) = names_tell.same n

  elems_same : (es : ElemTrees) → elems_eq es es ≡ true
  elems_same no_elems = refl
  elems_same (elem e es) = both (elem_same e) (elems_same es)

pub data_tells : Tells data_eq
data_tells = record { is = data_is; same = data_same }

pub elem_tells : Tells elem_eq
elem_tells = record { is = elem_is; same = elem_same }

field_is : (d e : FieldTree) → field_eq d e ≡ true → d ≡ e
field_is (unit s m) (unit t n) h = let p = and_true (bytes_eq s t) (eqb m n) h in
    ap₂ unit (bytes_tell.is s t p.0) (eqb-true m n p.1)
field_is (reserved m) (reserved n) h = ap reserved (eqb-true m n h)
field_is (access k l) (access m n) h =
    let p = and_true (eqb k m) (eqb l n) h in ap₂ access (eqb-true k m p.0) (eqb-true l n p.1)
field_is (connect_name m) (connect_name n) h = ap connect_name (names_tell.is m n h)
field_is (connect_buffer i s) (connect_buffer j t) h =
    let p = and_true (int_eq i j) (bytes_eq s t) h in
    ap₂ connect_buffer (int_is i j p.0) (bytes_tell.is s t p.1)
field_is (extended j k l) (extended m n o) h =
    let p = and_true (eqb j m && eqb k n) (eqb l o) h in
    let q = and_true (eqb j m) (eqb k n) p.0 in
    let e = eqb-true j m q.0 in
    let f = eqb-true k n q.1 in
    let g = eqb-true l o p.1 in
    λ x. extended (e x) (f x) (g x)
field_is d e h = never h

field_same : (e : FieldTree) → field_eq e e ≡ true
field_same (unit s n) = both (bytes_tell.same s) (numbers_tell.same n)
field_same (reserved n) = numbers_tell.same n
field_same (access k l) = both (numbers_tell.same k) (numbers_tell.same l)
field_same (connect_name n) = names_tell.same n
field_same (connect_buffer i s) = both (int_same i) (bytes_tell.same s)
field_same (extended j k l) =
    both (both (numbers_tell.same j) (numbers_tell.same k)) (numbers_tell.same l)

pub field_tells : Tells field_eq
field_tells = record { is = field_is; same = field_same }

pub fields_tell : Tells fields_eq
fields_tell = lists_tell field_tells

field_form_is : (w v : FieldForm) → field_form_eq w v ≡ true → w ≡ v
field_form_is forms.Field forms.Field h = refl
field_form_is forms.Index forms.Index h = refl
field_form_is (forms.Bank i) (forms.Bank j) h = ap forms.Bank (int_is i j h)
field_form_is w v h = never h

field_form_same : (w : FieldForm) → field_form_eq w w ≡ true
field_form_same forms.Field = refl
field_form_same forms.Index = refl
field_form_same (forms.Bank i) = int_same i

object_is : (a b : ObjectTree) → object_eq a b ≡ true → a ≡ b
object_is root_object root_object h = refl
object_is scope_object scope_object h = refl
object_is predefined_object predefined_object h = refl
object_is device_object device_object h = refl
object_is thermal_object thermal_object h = refl
object_is event_object event_object h = refl
object_is (processor_object i b l) (processor_object j c k) h =
    let p2 = and_true (eqb i j && eqb b c) (eqb l k) h in
    let p1 = and_true (eqb i j) (eqb b c) p2.0 in
    let e0 = eqb-true i j p1.0 in
    let e1 = eqb-true b c p1.1 in
    let e2 = eqb-true l k p2.1 in
    λ x. processor_object (e0 x) (e1 x) (e2 x)
object_is (power_object l o) (power_object k p) h =
    let p1 = and_true (eqb l k) (eqb o p) h in
    let e0 = eqb-true l k p1.0 in
    let e1 = eqb-true o p p1.1 in
    λ x. power_object (e0 x) (e1 x)
object_is (name_object d) (name_object e) h = ap name_object (data_is d e h)
object_is (method_object f) (method_object g) h = ap method_object (eqb-true f g h)
object_is (region_object s o l) (region_object t p k) h =
    let p2 = and_true (eqb s t && int_eq o p) (int_eq l k) h in
    let p1 = and_true (eqb s t) (int_eq o p) p2.0 in
    let e0 = eqb-true s t p1.0 in
    let e1 = int_is o p p1.1 in
    let e2 = int_is l k p2.1 in
    λ x. region_object (e0 x) (e1 x) (e2 x)
object_is (mutex_object f) (mutex_object g) h = ap mutex_object (eqb-true f g h)
object_is (field_object w f o b) (field_object v g p c) h =
    let p3 = and_true (field_form_eq w v && eqb f g && eqb o p) (eqb b c) h in
    let p2 = and_true (field_form_eq w v && eqb f g) (eqb o p) p3.0 in
    let p1 = and_true (field_form_eq w v) (eqb f g) p2.0 in
    let e0 = field_form_is w v p1.0 in
    let e1 = eqb-true f g p1.1 in
    let e2 = eqb-true o p p2.1 in
    let e3 = eqb-true b c p3.1 in
    λ x. field_object (e0 x) (e1 x) (e2 x) (e3 x)
object_is (create_object w i) (create_object v j) h =
    let p1 = and_true (width_eq w v) (int_eq i j) h in
    let e0 = width_is w v p1.0 in
    let e1 = int_is i j p1.1 in
    λ x. create_object (e0 x) (e1 x)
object_is (create_field_object i b) (create_field_object j c) h =
    let p1 = and_true (int_eq i j) (int_eq b c) h in
    let e0 = int_is i j p1.0 in
    let e1 = int_is b c p1.1 in
    λ x. create_field_object (e0 x) (e1 x)
object_is a b h = never h

object_same : (a : ObjectTree) → object_eq a a ≡ true
object_same root_object = refl
object_same scope_object = refl
object_same predefined_object = refl
object_same device_object = refl
object_same thermal_object = refl
object_same event_object = refl
object_same (processor_object i b l) =
    both (both (numbers_tell.same i) (numbers_tell.same b)) (numbers_tell.same l)
object_same (power_object l o) = both (numbers_tell.same l) (numbers_tell.same o)
object_same (name_object d) = data_same d
object_same (method_object f) = numbers_tell.same f
object_same (region_object s o l) = both (both (numbers_tell.same s) (int_same o)) (int_same l)
object_same (mutex_object f) = numbers_tell.same f
object_same (field_object w f o b) = both
    (both (both (field_form_same w) (numbers_tell.same f)) (numbers_tell.same o))
    (numbers_tell.same b)
object_same (create_object w i) = both (width_same w) (int_same i)
object_same (create_field_object i b) = both (int_same i) (int_same b)

pub object_tells : Tells object_eq
object_tells = record { is = object_is; same = object_same }

-- such a test is an equivalence
both_ways : (p q : Bool) → (p ≡ true → q ≡ true) → (q ≡ true → p ≡ true) → p ≡ q
both_ways true q forth back = sym (forth refl)
both_ways false true forth back = back refl
both_ways false false forth back = refl

pub equivalence : {X : Type 0} {E : X → X → Bool} → Tells E → IsEquivalence E
equivalence {X = X} {E = E} t =
    record {
      refl = t.same;
      symm = λ x y. both_ways (E x y) (E y x) (turned x y) (turned y x);
      congr = λ x y z h. ap (λ w. E w z) (t.is x y h);
    }
  where
    turned : (x y : X) → E x y ≡ true → E y x ≡ true
    turned x y h = subst (λ z. E z x ≡ true) (t.is x y h) (t.same x)
