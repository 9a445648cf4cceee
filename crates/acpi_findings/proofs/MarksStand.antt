-- What stands behind a spelled term, and that its marks stand in its bytes, in order.
use Rattle.std.proofs.Common.{◌≡◌, ◌⊎◌, ◌+◌, ◌-◌, ◌/◌, ◌≤◌, ℕ, zero, suc, Bool, true, false, cond, List, [], ◌∷◌, ◌++◌, length, drop, take, Option, Some, unwrap_or, option_map, Result, inl, inr, refl, sym, ap, subst, ◌∙◌, append_assoc, arith}
use Rattle.std.proofs.lemmas.List.{length-append, length-drop}
use Rattle.acpi_name.specs.Names.{NameParts}
use Rattle.acpi_name.specs.Spelling.{SpellsName, BeginsWithName}
use Rattle.acpi_table.specs.PkgLength.{SpellsPkgLength}
use Rattle.acpi_tree.specs.declared.tree.Int.{Int}
use Rattle.acpi_tree.specs.declared.tree.Int.TheVariants as ints
use Rattle.acpi_tree.specs.declared.tree.Width.TheVariants as widths
use Rattle.acpi_tree.specs.declared.place.NamedForm.{NamedForm}
use Rattle.acpi_tree.specs.declared.place.NamedForm.TheVariants as named
use Rattle.acpi_tree.specs.declared.place.OperandKind.{OperandKind}
use Rattle.acpi_tree.specs.Operators.{is_load, operands_of}
use Rattle.acpi_tree.specs.Terms.{TermTree, TermTrees, int, str, buffer, pkg, var_pkg, local, arg, debug, no_target, raw, ref, call, apply, if_do, while_do, declare, declare_units, no_terms, more}
use Rattle.acpi_code.specs.Opcodes.{opcode_bytes, operator_bytes}
use Rattle.acpi_code.specs.Forms.{named_opcode}
use Rattle.acpi_code.specs.Spelling.{SpellsInt, SpellsEach, Packs}
use Rattle.acpi_values.specs.Grammars.{Grammar}
use Rattle.acpi_values.specs.Spelling.{Spells, AreOperands, AreElements, values}
use Rattle.acpi_ranges.specs.LostRanges.{name_front}
use Rattle.acpi_name.proofs.NameTold.{begins_read}
use Rattle.acpi_name.specs.declared.reading.NameFault.{NameFault}
use Rattle.std.specs.Result.{result_ok}
use Rattle.acpi_findings.specs.MarkLaws.{BeginsMark, StandsAt, TermsEndWhereSpelled, MarksStandWhereSpelled}
use Rattle.acpi_space.specs.Laws.{Among}
use Rattle.acpi_space.proofs.Elements.{among_append}
use Rattle.acpi_findings.proofs.Rising.{Rises, rises_from, rises_to, rises_on}
use Rattle.acpi_findings.specs.Marks.{MarkTree, PlacedMark, called, load, behind_name, behind_names, in_package, int_size, operator_size, opcode_size, behind, behind_all, marks_in, marks_in_all}

-- ---- the bytes behind what is spelled

pub drop_front : (k : ℕ) (a rest : List ℕ) → length a ≡ k → drop k (a ++ rest) ≡ rest
drop_front zero [] rest e = refl
drop_front (suc k) [] rest e = absurd (omega (arith, e))
drop_front zero (x ∷ a) rest e = absurd (omega (arith, e))
drop_front (suc k) (x ∷ a) rest e = drop_front k a rest (omega (arith, e))

take_front : (a rest : List ℕ) → take (length a) (a ++ rest) ≡ a
take_front [] rest = refl
take_front (x ∷ a) rest = ap (λ (l : List ℕ). x ∷ l) (take_front a rest)

spelled_begins : (n : NameParts) (a rest : List ℕ) → SpellsName n a → BeginsWithName n (length a) (a ++ rest)
spelled_begins n a rest h = record { within = omega (arith, length-append a rest); spells = subst (SpellsName n) (sym (take_front a rest)) h }

pub name_behind : (n : NameParts) (a rest : List ℕ) → SpellsName n a → behind_name (a ++ rest) ≡ rest
name_behind n a rest h =
    let begins : BeginsWithName n (length a) (a ++ rest) = spelled_begins n a rest h in
    let bytes : List ℕ = a ++ rest in
    let used : length bytes - length (drop (length a) bytes) ≡ length a = omega (arith, length-drop (length a) bytes, begins.within) in
    let front : name_front bytes ≡ Some (n, length a) =
    ap (λ (r : Result (NameParts × List ℕ) NameFault). option_map (λ (x : NameParts × List ℕ). (x.0, length bytes - length x.1)) (result_ok r)) (begins_read n (length a) bytes begins)
    ∙ ap (λ (k : ℕ). Some (n, k)) used in
    ap (λ (o : Option (NameParts × ℕ)). drop (unwrap_or (option_map (λ (x : NameParts × ℕ). x.1) o) 0) (a ++ rest)) front
    ∙ drop_front (length a) a rest refl

pub names_behind : (ns : List NameParts) (a rest : List ℕ) → SpellsEach SpellsName ns a → behind_names ns (a ++ rest) ≡ rest
names_behind [] a rest h = ap (λ (l : List ℕ). l ++ rest) h
names_behind (n ∷ ns) a rest h =
    ap (λ (l : List ℕ). behind_names ns (behind_name l)) (ap (λ (l : List ℕ). l ++ rest) h.4 ∙ append_assoc h.0 h.1 rest)
    ∙ ap (behind_names ns) (name_behind n h.0 (h.1 ++ rest) h.2)
    ∙ names_behind ns h.1 rest h.3

-- a package length says in its first byte how many bytes follow
length_size : (n lead : ℕ) (tail : List ℕ) → SpellsPkgLength n (lead ∷ tail) → length tail ≡ lead / 64
length_size n lead tail (inl h) =
    let none : length tail ≡ 0 = ap length h.1 in omega (arith, h.0, none)
length_size n lead tail (inr h) = h.2

length_behind : (op n : ℕ) (len content : List ℕ) → SpellsPkgLength n len → in_package (op ∷ (len ++ content)) ≡ content
length_behind op n [] content h = absurd h
length_behind op n (lead ∷ tail) content h =
    drop_front (2 + lead / 64) (op ∷ lead ∷ tail) content (omega (arith, length_size n lead tail h))

pub package_behind : (op : ℕ) (content a rest : List ℕ) → Packs (op ∷ []) content a → in_package (a ++ rest) ≡ content ++ rest
package_behind op content a rest p =
    ap (λ (l : List ℕ). in_package (l ++ rest)) p.whole
    ∙ ap (λ (l : List ℕ). in_package (op ∷ l)) (append_assoc p.len content rest)
    ∙ length_behind op (length p.len + length content) p.len (content ++ rest) p.spells_len

-- .. and with an opcode of two bytes behind the first
pub package_behind_two : (op two : ℕ) (content a rest : List ℕ) → Packs (op ∷ two ∷ []) content a → in_package (drop 1 (a ++ rest)) ≡ content ++ rest
package_behind_two op two content a rest p =
    ap (λ (l : List ℕ). in_package (drop 1 (l ++ rest))) p.whole
    ∙ ap (λ (l : List ℕ). in_package (two ∷ l)) (append_assoc p.len content rest)
    ∙ length_behind two (length p.len + length content) p.len (content ++ rest) p.spells_len

int_long : (i : Int) (a : List ℕ) → SpellsInt i a → length a ≡ int_size i
int_long ints.Zero a h = ap length h
int_long ints.One a h = ap length h
int_long ints.Ones a h = ap length h
int_long ints.Revision a h = ap length h
int_long (ints.Byte n) a h = ap length h
int_long (ints.Word n) a h = ap length h.2 ∙ ap suc h.1.0
int_long (ints.DWord n) a h = ap length h.2 ∙ ap suc h.1.0
int_long (ints.QWord n) a h = ap length h.2 ∙ ap suc h.1.0

pub opcode_long : (form : NamedForm) → length (opcode_bytes (named_opcode form)) ≡ opcode_size form
opcode_long named.Name = refl
opcode_long (named.Create widths.DWord) = refl
opcode_long (named.Create widths.Word) = refl
opcode_long (named.Create widths.Byte) = refl
opcode_long (named.Create widths.Bit) = refl
opcode_long (named.Create widths.QWord) = refl
opcode_long named.CreateField = refl
opcode_long named.Region = refl
opcode_long named.Mutex = refl
opcode_long named.Event = refl

-- ---- a term at the front of bytes

abbrev pub mark_place : PlacedMark → ℕ
mark_place m = m.0

-- each mark stands among the bytes, which end at the place
abbrev pub AllStand : (end : ℕ) → List ℕ → List PlacedMark → Type 0
AllStand end bytes ms = (m : PlacedMark) → Among ms m → StandsAt end bytes m

stand_behind : (end : ℕ) (bytes front inner : List ℕ) (ms : List PlacedMark) → bytes ≡ front ++ inner → AllStand end inner ms → AllStand end bytes ms
stand_behind end bytes front inner ms whole h m among =
    let here = h m among in
    (front ++ here.0, here.1, whole ∙ ap (λ (l : List ℕ). front ++ l) here.2 ∙ sym (append_assoc front here.0 here.1), here.3, here.4)

stand_both : (end : ℕ) (bytes : List ℕ) (ms ns : List PlacedMark) → AllStand end bytes ms → AllStand end bytes ns → AllStand end bytes (ms ++ ns)
stand_both end bytes ms ns h n m among = by (among_append ms ns m among)
  where
    by : Among ms m ⊎ Among ns m → StandsAt end bytes m
    by (inl a) = h m a
    by (inr a) = n m a

-- the bytes that are left behind it, and its marks between
pub record IsFront (end : ℕ) (bytes rest left : List ℕ) (marks : List PlacedMark) : Type 0 where
  pub left_is : left ≡ rest
  pub rise : Rises mark_place (end - length bytes) (end - length rest) marks
  pub stand : AllStand end bytes marks

-- with nothing noticed
leaf : (end : ℕ) (a rest left : List ℕ) → left ≡ rest → IsFront end (a ++ rest) rest left []
leaf end a rest left e = let long = length-append a rest in record { left_is = e; rise = omega (arith, long); stand = λ m none. absurd none }

-- wider bytes around
within : (end : ℕ) (bytes inner rest later : List ℕ) (marks : List PlacedMark) → length inner ≤ length bytes → length later ≤ length rest
    → Rises mark_place (end - length inner) (end - length rest) marks → Rises mark_place (end - length bytes) (end - length later) marks
within end bytes inner rest later marks le less h =
    rises_from mark_place (end - length bytes) (end - length inner) (end - length later) marks (omega (arith, le))
    (rises_to mark_place (end - length inner) (end - length rest) (end - length later) marks (omega (arith, less)) h)

abbrev TermFront : TermTree → Type 0
TermFront t = (g : Grammar) (end : ℕ) (a rest : List ℕ) → Spells g t a → IsFront end (a ++ rest) rest (behind t (a ++ rest)) (marks_in end t (a ++ rest))

abbrev TermsFront : TermTrees → Type 0
TermsFront ts = (g : Grammar) (ks : List OperandKind) (end : ℕ) (a rest : List ℕ) → AreOperands g ks ts a → IsFront end (a ++ rest) rest (behind_all ts (a ++ rest)) (marks_in_all end ts (a ++ rest))

abbrev ElementsFront : TermTrees → Type 0
ElementsFront ts = (g : Grammar) (end : ℕ) (a rest : List ℕ) → AreElements g ts a → IsFront end (a ++ rest) rest (behind_all ts (a ++ rest)) (marks_in_all end ts (a ++ rest))

-- of more, the first and then the others
both_front : (end : ℕ) (t : TermTree) (ts : TermTrees) (whole a b rest : List ℕ) → whole ≡ a ++ b
    → IsFront end (a ++ (b ++ rest)) (b ++ rest) (behind t (a ++ (b ++ rest))) (marks_in end t (a ++ (b ++ rest)))
    → IsFront end (b ++ rest) rest (behind_all ts (b ++ rest)) (marks_in_all end ts (b ++ rest))
    → IsFront end (whole ++ rest) rest (behind_all (more t ts) (whole ++ rest)) (marks_in_all end (more t ts) (whole ++ rest))
both_front end t ts whole a b rest is h n =
    subst (λ (l : List ℕ). IsFront end l rest (behind_all (more t ts) l) (marks_in_all end (more t ts) l)) (sym (ap (λ (l : List ℕ). l ++ rest) is ∙ append_assoc a b rest))
    (record {
      left_is = ap (behind_all ts) h.left_is ∙ n.left_is;
      rise = rises_on mark_place (end - length (a ++ (b ++ rest))) (end - length (b ++ rest)) (end - length rest) (marks_in end t (a ++ (b ++ rest)))
          (marks_in_all end ts (behind t (a ++ (b ++ rest)))) h.rise
          (subst (λ (l : List ℕ). Rises mark_place (end - length (b ++ rest)) (end - length rest) (marks_in_all end ts l)) (sym h.left_is) n.rise);
      stand = stand_both end (a ++ (b ++ rest)) (marks_in end t (a ++ (b ++ rest))) (marks_in_all end ts (behind t (a ++ (b ++ rest)))) h.stand
          (stand_behind end (a ++ (b ++ rest)) a (b ++ rest) (marks_in_all end ts (behind t (a ++ (b ++ rest)))) refl
          (subst (λ (l : List ℕ). AllStand end (b ++ rest) (marks_in_all end ts l)) (sym h.left_is) n.stand));
    })

-- what a package holds, at its front
pub packed_longer : (opcode content a rest : List ℕ) → Packs opcode content a → length (content ++ rest) ≤ length (a ++ rest)
packed_longer opcode content a rest p =
    let size : length a ≡ length opcode + (length p.len + length content) = ap length p.whole ∙ length-append opcode (p.len ++ content) ∙ ap (λ k. length opcode + k) (length-append p.len content) in
    omega (arith, size, length-append content rest, length-append a rest)

packed_front : (end op : ℕ) (content a rest : List ℕ) (left : List ℕ → List ℕ) (marks : List ℕ → List PlacedMark) → Packs (op ∷ []) content a
    → IsFront end (content ++ rest) rest (left (content ++ rest)) (marks (content ++ rest)) → IsFront end (a ++ rest) rest (left (in_package (a ++ rest))) (marks (in_package (a ++ rest)))
packed_front end op content a rest left marks p h =
    subst (λ (l : List ℕ). IsFront end (a ++ rest) rest (left l) (marks l)) (sym (package_behind op content a rest p))
    (record {
      left_is = h.left_is;
      rise = within end (a ++ rest) (content ++ rest) rest rest (marks (content ++ rest)) (packed_longer (op ∷ []) content a rest p) (omega arith) h.rise;
      stand = stand_behind end (a ++ rest) (op ∷ p.len) (content ++ rest) (marks (content ++ rest))
          (ap (λ (l : List ℕ). l ++ rest) p.whole ∙ ap (λ (l : List ℕ). op ∷ l) (append_assoc p.len content rest)) h.stand;
    })

-- a size and bytes behind it
sized_front : (end : ℕ) (size : TermTree) (s content rest : List ℕ)
    → IsFront end (s ++ (content ++ rest)) (content ++ rest) (behind size (s ++ (content ++ rest))) (marks_in end size (s ++ (content ++ rest)))
    → IsFront end ((s ++ content) ++ rest) rest (drop (length content) (behind size ((s ++ content) ++ rest))) (marks_in end size ((s ++ content) ++ rest))
sized_front end size s content rest h =
    subst (λ (l : List ℕ). IsFront end l rest (drop (length content) (behind size l)) (marks_in end size l)) (sym (append_assoc s content rest))
    (record {
      left_is = ap (drop (length content)) h.left_is ∙ drop_front (length content) content rest refl;
      rise = within end (s ++ (content ++ rest)) (s ++ (content ++ rest)) (content ++ rest) rest (marks_in end size (s ++ (content ++ rest))) (omega arith)
          (omega (arith, length-append content rest)) h.rise;
      stand = h.stand;
    })

-- operands behind a name or an opcode
operands_front : (end : ℕ) (vs : TermTrees) (w x rest l : List ℕ) → l ≡ w ++ (x ++ rest) → (inner : List ℕ) → inner ≡ x ++ rest
    → IsFront end (x ++ rest) rest (behind_all vs (x ++ rest)) (marks_in_all end vs (x ++ rest))
    → IsFront end l rest (behind_all vs inner) (marks_in_all end vs inner)
operands_front end vs w x rest l whole inner is h = record {
  left_is = ap (behind_all vs) is ∙ h.left_is;
  rise = subst (λ (i : List ℕ). Rises mark_place (end - length l) (end - length rest) (marks_in_all end vs i)) (sym is)
      (within end l (x ++ rest) rest rest (marks_in_all end vs (x ++ rest)) (omega (arith, ap length whole, length-append w (x ++ rest))) (omega arith) h.rise);
  stand = subst (λ (i : List ℕ). AllStand end l (marks_in_all end vs i)) (sym is) (stand_behind end l w (x ++ rest) (marks_in_all end vs (x ++ rest)) whole h.stand);
}

-- a mark at the front, and those of the operands
marked_front : (end : ℕ) (l rest left : List ℕ) (marks : List PlacedMark) (m : MarkTree) → BeginsMark m l → IsFront end l rest left marks → IsFront end l rest left ((end - length l, m) ∷ marks)
marked_front end l rest left marks m begins h =
    record { left_is = h.left_is; rise = (omega arith, h.rise); stand = by }
  where
    by : AllStand end l ((end - length l, m) ∷ marks)
    by x (inl e) = subst (StandsAt end l) e ([], l, refl, refl, begins)
    by x (inr a) = h.stand x a

load_front : (b : Bool) (end : ℕ) (l rest left : List ℕ) (marks : List PlacedMark) → (b ≡ true → BeginsMark load l) → IsFront end l rest left marks
    → IsFront end l rest left (cond b ((end - length l, load) ∷ []) [] ++ marks)
load_front true end l rest left marks begins h = marked_front end l rest left marks load (begins refl) h
load_front false end l rest left marks begins h = h

name_begins : (n : NameParts) (w later l : List ℕ) → l ≡ w ++ later → SpellsName n w → BeginsMark (called n) l
name_begins n w later l whole h = (length w, subst (BeginsWithName n (length w)) (sym whole) (spelled_begins n w later h))

mutual
  term_front : (t : TermTree) → TermFront t
  term_front (int i) g end a rest h = leaf end a rest (drop (int_size i) (a ++ rest)) (drop_front (int_size i) a rest (int_long i a h))
  term_front (str text) g end a rest h =
      let size : length a ≡ suc (length h.0) = ap length h.2 in
      let inner : length h.0 ≡ length text + 1 = ap length h.1.1 ∙ length-append text (0 ∷ []) in
      leaf end a rest (drop (length text + 2) (a ++ rest)) (drop_front (length text + 2) a rest (omega (arith, size, inner)))
  term_front (buffer size content) g end a rest h =
      packed_front end 0x11 (h.0 ++ content) a rest (λ l. drop (length content) (behind size l)) (marks_in end size) h.3
      (sized_front end size h.0 content rest (term_front size g end h.0 (content ++ rest) h.2))
  term_front (pkg count es) g end a rest h =
      packed_front end 0x12 (count ∷ h.0) a rest (λ l. behind_all es (drop 1 l)) (λ l. marks_in_all end es (drop 1 l)) h.2
      (operands_front end es (count ∷ []) h.0 rest (count ∷ (h.0 ++ rest)) refl (h.0 ++ rest) refl (elements_front es g end h.0 rest h.1))
  term_front (var_pkg count es) g end a rest h =
      packed_front end 0x13 (h.0 ++ h.1) a rest (λ l. behind_all es (behind count l)) (λ l. marks_in end count l ++ marks_in_all end es (behind count l)) h.5
      (both_front end count es (h.0 ++ h.1) h.0 h.1 rest refl (term_front count g end h.0 (h.1 ++ rest) h.3) (elements_front es g end h.1 rest h.4))
  term_front (local n) g end a rest h = leaf end a rest (drop 1 (a ++ rest)) (drop_front 1 a rest (ap length h.0))
  term_front (arg n) g end a rest h = leaf end a rest (drop 1 (a ++ rest)) (drop_front 1 a rest (ap length h.0))
  term_front debug g end a rest h = leaf end a rest (drop 2 (a ++ rest)) (drop_front 2 a rest (ap length h))
  term_front no_target g end a rest h = leaf end a rest (drop 1 (a ++ rest)) (drop_front 1 a rest (ap length h))
  term_front (raw k n) g end a rest h = leaf end a rest (drop k (a ++ rest)) (drop_front k a rest h.0)
  term_front (ref n) g end a rest h = leaf end a rest (behind_name (a ++ rest)) (name_behind n a rest h.0)
  term_front (call n vs) g end a rest h =
      let whole : a ++ rest ≡ h.1 ++ (h.2 ++ rest) = ap (λ (l : List ℕ). l ++ rest) h.6 ∙ append_assoc h.1 h.2 rest in
      marked_front end (a ++ rest) rest (behind_all vs (behind_name (a ++ rest))) (marks_in_all end vs (behind_name (a ++ rest))) (called n) (name_begins n h.1 (h.2 ++ rest) (a ++ rest) whole h.4.0)
      (operands_front end vs h.1 h.2 rest (a ++ rest) whole (behind_name (a ++ rest)) (ap behind_name whole ∙ name_behind n h.1 (h.2 ++ rest) h.4.0)
      (terms_front vs g (values h.0) end h.2 rest h.5))
  term_front (apply op vs) g end a rest h =
      let op_bytes : List ℕ = operator_bytes op in
      let whole : a ++ rest ≡ op_bytes ++ (h.0 ++ rest) = ap (λ (l : List ℕ). l ++ rest) h.3 ∙ append_assoc op_bytes h.0 rest in
      let inner : List ℕ = drop (operator_size op) (a ++ rest) in
      let is : inner ≡ h.0 ++ rest = ap (drop (operator_size op)) whole ∙ drop_front (operator_size op) op_bytes (h.0 ++ rest) refl in
      load_front (is_load op) end (a ++ rest) rest (behind_all vs inner) (marks_in_all end vs inner) (λ e. (op, e, h.0 ++ rest, whole))
      (operands_front end vs op_bytes h.0 rest (a ++ rest) whole inner is (terms_front vs g (operands_of op) end h.0 rest h.2))
  term_front (if_do v ts e) g end a rest h = absurd h
  term_front (while_do v ts) g end a rest h = absurd h
  term_front (declare form before n others) g end a rest h = absurd h
  term_front (declare_units form ns vs es) g end a rest h = absurd h

  terms_front : (ts : TermTrees) → TermsFront ts
  terms_front no_terms g [] end a rest h = leaf end a rest (a ++ rest) (ap (λ (l : List ℕ). l ++ rest) h)
  terms_front no_terms g (k ∷ ks) end a rest h = absurd h
  terms_front (more t ts) g [] end a rest h = absurd h
  terms_front (more t ts) g (k ∷ ks) end a rest h =
      both_front end t ts a h.0 h.1 rest h.5 (term_front t g end h.0 (h.1 ++ rest) h.3) (terms_front ts g ks end h.1 rest h.4)

  elements_front : (ts : TermTrees) → ElementsFront ts
  elements_front no_terms g end a rest h = leaf end a rest (a ++ rest) (ap (λ (l : List ℕ). l ++ rest) h)
  elements_front (more t ts) g end a rest h =
      both_front end t ts a h.0 h.1 rest h.5 (term_front t g end h.0 (h.1 ++ rest) h.3) (elements_front ts g end h.1 rest h.4)

pub term_stands : (t : TermTree) → TermFront t
term_stands t = term_front t

pub terms_stand : (ts : TermTrees) → TermsFront ts
terms_stand ts = terms_front ts

pub terms_end : TermsEndWhereSpelled
terms_end g t bytes rest h = (term_front t g 0 bytes rest h).left_is

pub marks_stand : MarksStandWhereSpelled
marks_stand g t end bytes rest h = (term_front t g end bytes rest h).stand
