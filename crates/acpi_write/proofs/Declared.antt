-- What is put of a declaration, one part in front of the other.
use Rattle.std.proofs.Common.{◌≡◌, ◌∙◌, ap, sym, refl, ℕ, List, [], ◌∷◌, ◌++◌, length, Option, Some, None, Result, Ok, Err, box_value, append_assoc, arith, ◌≤◌}
use Rattle.std.proofs.lemmas.List.{append-nil, length-append}
use Rattle.std.specs.Fmt.{option_append}
use Rattle.std.specs.Global.{Vec, Box}
use Rattle.byteorder.specs.Endian.{little_bytes}
use Rattle.acpi_name.specs.Names.{NameParts}
use Rattle.acpi_name.specs.Spelling.{name_bytes}
use Rattle.acpi_code.specs.Opcodes.{width_bytes}
use Rattle.acpi_tree.specs.declared.tree.FieldElem.{FieldElem}
use Rattle.acpi_tree.specs.declared.tree.Width.{Width}
use Rattle.acpi_tree.specs.declared.term.Term.{Term, Term-F, fold-roll-Term}
use Rattle.acpi_tree.specs.declared.term.Term.TheVariants as term
use Rattle.acpi_tree.specs.declared.term.Decl.{Decl, Decl-F, fold-roll-Decl}
use Rattle.acpi_tree.specs.declared.term.Decl.TheVariants as decl
use Rattle.acpi_tree.specs.Terms.{TermTree}
use Rattle.acpi_tree.specs.View.{fields_view}
use Rattle.acpi_tree.specs.TermView.{decl_step, operand_step, term_step, term_view, decl_view, terms_tree, else_view}
use Rattle.acpi_write.specs.declared.fault.WriteFault.{WriteFault}
use Rattle.acpi_write.specs.declared.fault.WriteFault.TheVariants.{TooLong, Memory}
use Rattle.acpi_write.specs.Canonical.{filled_with, fields_bytes}
use Rattle.acpi_write.specs.CanonicalTerms.{term_bytes, terms_bytes, else_bytes}
use Rattle.acpi_write.specs.steps.Writing.{Puts}
use Rattle.acpi_write.proofs.Fronts.{both_assoc, none_behind}

abbrev Bytes : Type 0
Bytes = Option (List ℕ)

abbrev Done : Type 0
Done = Result (Unit {0}) WriteFault

-- ---- one part in front of another

pub onto : (a b : Bytes) (old mid new : List ℕ) → option_append b (Some old) ≡ Some mid → option_append a (Some mid) ≡ Some new → option_append (option_append a b) (Some old) ≡ Some new
onto a b old mid new first second = both_assoc a b (Some old) ∙ ap (option_append a) first ∙ second

pub puts_onto : (r : Done) (a b : Bytes) (old mid new : List ℕ) → option_append b (Some old) ≡ Some mid → Puts r a mid new → Puts r (option_append a b) old new
puts_onto (Ok x) a b old mid new first put = onto a b old mid new first put
puts_onto (Err TooLong) a b old mid new first put = ap (λ x. option_append x b) put
puts_onto (Err Memory) a b old mid new first put = tt

pub puts_as : (r : Done) (a b : Bytes) (old new : List ℕ) → a ≡ b → Puts r b old new → Puts r a old new
puts_as r a b old new same put = rw same put

pub none_first : (a b : Bytes) → a ≡ None → option_append a b ≡ None
none_first a b none = ap (λ x. option_append x b) none

pub none_under : (a b : Bytes) → b ≡ None → option_append a b ≡ None
none_under a b none = ap (option_append a) none ∙ none_behind a

pub none_within : (op front : List ℕ) (b : Bytes) → b ≡ None → filled_with op front b ≡ None
none_within op front b none = ap (filled_with op front) none

-- what is put makes nothing shorter
pub longer : (b : Bytes) (old mid : List ℕ) → option_append b (Some old) ≡ Some mid → length old ≤ length mid
longer None old mid put = absurd cc
longer (Some b) old mid put = let e : mid ≡ b ++ old = cc in omega (arith, ap length e, length-append b old)

-- a package round what is put
pub puts_round : (r : Done) (round : Bytes → Bytes) (content : Bytes) (end : ℕ) (old mid new : List ℕ) → option_append content (Some old) ≡ Some mid → end ≡ length old
    → ((c rest : List ℕ) → mid ≡ c ++ rest → length rest ≡ end → Puts r (round (Some c)) rest new) → Puts r (round content) old new
puts_round r round None end old mid new put is fill = absurd cc
puts_round r round (Some c) end old mid new put is fill = let e : mid ≡ c ++ old = cc in fill c old e (sym is)

-- ---- declarations, form by form

named_parts : (op n : List ℕ) (d : Bytes) → option_append (Some op) (option_append (Some []) (option_append (Some n) (option_append d (Some [])))) ≡ option_append (Some (op ++ n)) d
named_parts op n None = refl
named_parts op n (Some d) = ap Some (simp (append_assoc, append-nil))

pub name_is : (d : Decl) (n : NameParts) (b : Box Term) (x : Term) → d ≡ decl.Name n b → x ≡ box_value b
    → term_bytes (decl_view d) ≡ option_append (Some ((0x08 ∷ []) ++ name_bytes n)) (term_bytes (term_view x))
name_is d n b x is same =
    ap (λ e. term_bytes (decl_view e)) (is ∙ sym (decl.rolls-Name n b)) ∙ ap term_bytes (fold-roll-Decl TermTree TermTree TermTree decl_step operand_step term_step (Decl-F.Name n b))
    ∙ named_parts (0x08 ∷ []) (name_bytes n) (term_bytes (term_view (box_value b))) ∙ ap (λ y. option_append (Some ((0x08 ∷ []) ++ name_bytes n)) (term_bytes (term_view y))) (sym same)

created_parts : (op n : List ℕ) (s i : Bytes) → option_append (Some op)
    (option_append (option_append s (option_append i (Some []))) (option_append (Some n) (Some []))) ≡ option_append (Some op)
    (option_append s (option_append i (Some n)))
created_parts op n None i = refl
created_parts op n (Some s) None = refl
created_parts op n (Some s) (Some i) = ap Some (simp (append_assoc, append-nil))

pub create_is : (d : Decl) (w : Width) (s i : Box Term) (n : NameParts) (x y : Term) → d ≡ decl.Create w s i n → x ≡ box_value s → y ≡ box_value i
    → term_bytes (decl_view d) ≡ option_append (Some (width_bytes w)) (option_append (term_bytes (term_view x)) (option_append (term_bytes (term_view y)) (Some (name_bytes n))))
create_is d w s i n x y is first second =
    rw (first, second) (ap (λ e. term_bytes (decl_view e)) (is ∙ sym (decl.rolls-Create w s i n))
    ∙ ap term_bytes (fold-roll-Decl TermTree TermTree TermTree decl_step operand_step term_step (Decl-F.Create w s i n))
    ∙ created_parts (width_bytes w) (name_bytes n) (term_bytes (term_view (box_value s))) (term_bytes (term_view (box_value i))))

bits_created_parts : (op n : List ℕ) (s i b : Bytes) → option_append (Some op) (option_append (option_append s (option_append i (option_append b (Some [])))) (option_append (Some n) (Some [])))
    ≡ option_append (Some op) (option_append s (option_append i (option_append b (Some n))))
bits_created_parts op n None i b = refl
bits_created_parts op n (Some s) None b = refl
bits_created_parts op n (Some s) (Some i) None = refl
bits_created_parts op n (Some s) (Some i) (Some b) = ap Some (simp (append_assoc, append-nil))

pub create_field_is : (d : Decl) (s i b : Box Term) (n : NameParts) (x y z : Term) → d ≡ decl.CreateField s i b n → x ≡ box_value s → y ≡ box_value i → z ≡ box_value b
    → term_bytes (decl_view d) ≡ option_append (Some (0x5B ∷ 0x13 ∷ []))
    (option_append (term_bytes (term_view x)) (option_append (term_bytes (term_view y))
    (option_append (term_bytes (term_view z)) (Some (name_bytes n)))))
create_field_is d s i b n x y z is first second third =
    rw (first, second, third) (ap (λ e. term_bytes (decl_view e)) (is ∙ sym (decl.rolls-CreateField s i b n))
    ∙ ap term_bytes (fold-roll-Decl TermTree TermTree TermTree decl_step operand_step term_step (Decl-F.CreateField s i b n))
    ∙ bits_created_parts (0x5B ∷ 0x13 ∷ []) (name_bytes n) (term_bytes (term_view (box_value s))) (term_bytes (term_view (box_value i))) (term_bytes (term_view (box_value b))))

pub mutex_is : (d : Decl) (n : NameParts) (f : ℕ) → d ≡ decl.Mutex n f → term_bytes (decl_view d) ≡ option_append (Some ((0x5B ∷ 0x01 ∷ []) ++ name_bytes n)) (Some (little_bytes 1 f))
mutex_is d n f is =
    ap (λ e. term_bytes (decl_view e)) (is ∙ sym (decl.rolls-Mutex n f)) ∙ ap term_bytes (fold-roll-Decl TermTree TermTree TermTree decl_step operand_step term_step (Decl-F.Mutex n f))

region_parts : (op n s : List ℕ) (o l : Bytes) → option_append (Some op) (option_append (Some []) (option_append (Some n) (option_append (Some s) (option_append o (option_append l (Some []))))))
    ≡ option_append (Some (op ++ n)) (option_append (Some s) (option_append o l))
region_parts op n s None l = refl
region_parts op n s (Some o) None = refl
region_parts op n s (Some o) (Some l) = ap Some (simp (append_assoc, append-nil))

pub region_is : (d : Decl) (n : NameParts) (s : ℕ) (o l : Box Term) (x y : Term) → d ≡ decl.Region n s o l → x ≡ box_value o → y ≡ box_value l
    → term_bytes (decl_view d) ≡ option_append (Some ((0x5B ∷ 0x80 ∷ []) ++ name_bytes n))
    (option_append (Some (little_bytes 1 s)) (option_append (term_bytes (term_view x)) (term_bytes (term_view y))))
region_is d n s o l x y is first second =
    rw (first, second) (ap (λ e. term_bytes (decl_view e)) (is ∙ sym (decl.rolls-Region n s o l))
    ∙ ap term_bytes (fold-roll-Decl TermTree TermTree TermTree decl_step operand_step term_step (Decl-F.Region n s o l))
    ∙ region_parts (0x5B ∷ 0x80 ∷ []) (name_bytes n) (little_bytes 1 s) (term_bytes (term_view (box_value o))) (term_bytes (term_view (box_value l))))

bank_parts : (op r b f : List ℕ) (v es : Bytes)
    → filled_with op []
    (option_append (option_append (Some r) (option_append (Some b) (Some []))) (option_append (option_append v (option_append (Some f) (Some []))) es))
    ≡ filled_with op (r ++ (b ++ [])) (option_append v (option_append (Some f) es))
bank_parts op r b f None es = refl
bank_parts op r b f (Some v) None = refl
bank_parts op r b f (Some v) (Some es) = ap (λ x. filled_with op [] (Some x)) (simp (append_assoc, append-nil))

pub bank_field_is : (d : Decl) (r b : NameParts) (i : Box Term) (f : ℕ) (v : Vec FieldElem) (x : Term) (es : List FieldElem) → d ≡ decl.BankField r b i f v → x ≡ box_value i → es ≡ v.items
    → term_bytes (decl_view d) ≡ filled_with (0x5B ∷ 0x87 ∷ []) (name_bytes r ++ (name_bytes b ++ []))
    (option_append (term_bytes (term_view x)) (option_append (Some (little_bytes 1 f)) (fields_bytes (fields_view es))))
bank_field_is d r b i f v x es is same units =
    rw (same, units) (ap (λ e. term_bytes (decl_view e)) (is ∙ sym (decl.rolls-BankField r b i f v))
    ∙ ap term_bytes (fold-roll-Decl TermTree TermTree TermTree decl_step operand_step term_step (Decl-F.BankField r b i f v))
    ∙ bank_parts (0x5B ∷ 0x87 ∷ []) (name_bytes r) (name_bytes b) (little_bytes 1 f) (term_bytes (term_view (box_value i))) (fields_bytes (fields_view v.items)))

-- ---- terms with packages, form by form

pub buffer_is : (t : Term) (b : Box Term) (v : Vec ℕ) (x : Term) (content : List ℕ) → t ≡ term.Buffer b v → x ≡ box_value b → content ≡ v.items
    → term_bytes (term_view t) ≡ filled_with (0x11 ∷ []) [] (option_append (term_bytes (term_view x)) (Some content))
buffer_is t b v x content is first same =
    rw (first, same) (ap (λ e. term_bytes (term_view e)) (is ∙ sym (term.rolls-Buffer b v))
    ∙ ap term_bytes (fold-roll-Term TermTree TermTree TermTree decl_step operand_step term_step (Term-F.Buffer b v)))

pub pkg_is : (t : Term) (n : ℕ) (v : Vec Term) (ts : List Term) → t ≡ term.Package n v → ts ≡ v.items → term_bytes (term_view t) ≡ filled_with (0x12 ∷ []) (n ∷ []) (terms_bytes (terms_tree ts))
pkg_is t n v ts is same =
    rw same (ap (λ e. term_bytes (term_view e)) (is ∙ sym (term.rolls-Package n v)) ∙ ap term_bytes (fold-roll-Term TermTree TermTree TermTree decl_step operand_step term_step (Term-F.Package n v)))

pub var_pkg_is : (t : Term) (b : Box Term) (v : Vec Term) (x : Term) (ts : List Term) → t ≡ term.VarPackage b v → x ≡ box_value b → ts ≡ v.items
    → term_bytes (term_view t) ≡ filled_with (0x13 ∷ []) [] (option_append (term_bytes (term_view x)) (terms_bytes (terms_tree ts)))
var_pkg_is t b v x ts is first same =
    rw (first, same) (ap (λ e. term_bytes (term_view e)) (is ∙ sym (term.rolls-VarPackage b v))
    ∙ ap term_bytes (fold-roll-Term TermTree TermTree TermTree decl_step operand_step term_step (Term-F.VarPackage b v)))

pub while_is : (t : Term) (b : Box Term) (v : Vec Term) (x : Term) (ts : List Term) → t ≡ term.While b v → x ≡ box_value b → ts ≡ v.items
    → term_bytes (term_view t) ≡ filled_with (0xA2 ∷ []) [] (option_append (term_bytes (term_view x)) (terms_bytes (terms_tree ts)))
while_is t b v x ts is first same =
    rw (first, same) (ap (λ e. term_bytes (term_view e)) (is ∙ sym (term.rolls-While b v))
    ∙ ap term_bytes (fold-roll-Term TermTree TermTree TermTree decl_step operand_step term_step (Term-F.While b v)))

pub if_is : (t : Term) (b : Box Term) (v : Vec Term) (o : Option (Vec Term)) (x : Term) (ts : List Term) → t ≡ term.If b v o → x ≡ box_value b → ts ≡ v.items
    → term_bytes (term_view t) ≡ option_append (filled_with (0xA0 ∷ []) [] (option_append (term_bytes (term_view x)) (terms_bytes (terms_tree ts)))) (else_bytes (else_view o))
if_is t b v None x ts is first same =
    rw (first, same) (ap (λ e. term_bytes (term_view e)) (is ∙ sym (term.rolls-If b v None))
    ∙ ap term_bytes (fold-roll-Term TermTree TermTree TermTree decl_step operand_step term_step (Term-F.If b v None)))
if_is t b v (Some o) x ts is first same =
    rw (first, same) (ap (λ e. term_bytes (term_view e)) (is ∙ sym (term.rolls-If b v (Some o)))
    ∙ ap term_bytes (fold-roll-Term TermTree TermTree TermTree decl_step operand_step term_step (Term-F.If b v (Some o))))

-- the package of an Else stands where there is one
pub else_put : (o : Option (Vec Term)) (v : Vec Term) (ts : List Term) (old mid new : List ℕ) → o ≡ Some v → ts ≡ v.items
    → option_append (filled_with (0xA1 ∷ []) [] (terms_bytes (terms_tree ts))) (Some old) ≡ Some mid → new ≡ mid
    → option_append (else_bytes (else_view o)) (Some old) ≡ Some new
else_put o v ts old mid new is same put last = rw (is, ← same, last) put

pub no_else_put : (o : Option (Vec Term)) (old new : List ℕ) → o ≡ None → new ≡ old → option_append (else_bytes (else_view o)) (Some old) ≡ Some new
no_else_put o old new is last = rw (is, last) refl
