-- A tree tells which form of declaration it stands for, so two of different forms aren't equal.
use Rattle.std.proofs.Common.{◌≡◌, ℕ, Bool, true, false, refl, sym, ap, ◌∙◌, subst}
use Rattle.std.specs.Global.{Box, Vec}
use Rattle.acpi_name.specs.Names.{NameParts}
use Rattle.acpi_tree.specs.declared.tree.Width.{Width}
use Rattle.acpi_tree.specs.declared.tree.FieldElem.{FieldElem}
use Rattle.acpi_tree.specs.declared.place.NamedForm.TheVariants as named
use Rattle.acpi_tree.specs.declared.place.UnitsForm.TheVariants as units
use Rattle.acpi_tree.specs.declared.term.Operand.{Operand}
use Rattle.acpi_tree.specs.declared.term.Term.{Term}
use Rattle.acpi_tree.specs.declared.term.Decl.{Decl, Decl-F, fold-roll-Decl, out-Decl, roll-Decl, roll-out-Decl}
use Rattle.acpi_tree.specs.declared.term.Decl.TheVariants as decl
use Rattle.acpi_tree.specs.Terms.{TermTree, declare, declare_units}
use Rattle.acpi_tree.specs.TermView.{decl_step, operand_step, term_step, decl_view}
use Rattle.acpi_tree.specs.steps.TermEquality.{term_eq}
use Rattle.acpi_tree.specs.steps.TermEquality.{term_tells}

pub unlike : (t u : TermTree) → (t ≡ u → ⊥) → false ≡ term_eq t u
unlike t u other = by_test (term_eq t u) refl
  where
    by_test : (b : Bool) → term_eq t u ≡ b → false ≡ b
    by_test false h = refl
    by_test true h = absurd (other (term_tells.is t u h))

-- ---- the forms of declarations

pub data Form : Type 0 where
  of_name : Form
  of_create : Form
  of_create_field : Form
  of_mutex : Form
  of_event : Form
  of_region : Form
  of_field : Form
  of_index_field : Form
  of_bank_field : Form
  of_none : Form

abbrev pub form_of : TermTree → Form
form_of (declare named.Name before n behind) = of_name
form_of (declare (named.Create w) before n behind) = of_create
form_of (declare named.CreateField before n behind) = of_create_field
form_of (declare named.Mutex before n behind) = of_mutex
form_of (declare named.Event before n behind) = of_event
form_of (declare named.Region before n behind) = of_region
form_of (declare_units units.Field ns ts es) = of_field
form_of (declare_units units.IndexField ns ts es) = of_index_field
form_of (declare_units units.BankField ns ts es) = of_bank_field
form_of _ = of_none

-- a declaration of that form
abbrev pub Declares : Form → Decl → Type 0
Declares of_name d = (n : NameParts) × ((b : Box Term) × (d ≡ decl.Name n b))
Declares of_create d = (w : Width) × ((s : Box Term) × ((i : Box Term) × ((n : NameParts) × (d ≡ decl.Create w s i n))))
Declares of_create_field d = (s : Box Term) × ((i : Box Term) × ((b : Box Term) × ((n : NameParts) × (d ≡ decl.CreateField s i b n))))
Declares of_mutex d = (n : NameParts) × ((f : ℕ) × (d ≡ decl.Mutex n f))
Declares of_event d = (n : NameParts) × (d ≡ decl.Event n)
Declares of_region d = (n : NameParts) × ((s : ℕ) × ((o : Box Term) × ((l : Box Term) × (d ≡ decl.Region n s o l))))
Declares of_field d = (r : NameParts) × ((f : ℕ) × ((v : Vec FieldElem) × (d ≡ decl.Field r f v)))
Declares of_index_field d = (i : NameParts) × ((e : NameParts) × ((f : ℕ) × ((v : Vec FieldElem) × (d ≡ decl.IndexField i e f v))))
Declares of_bank_field d = (r : NameParts) × ((b : NameParts) × ((t : Box Term) × ((f : ℕ) × ((v : Vec FieldElem) × (d ≡ decl.BankField r b t f v)))))
Declares of_none d = ⊥

viewed : (o : Decl-F Decl Operand Term) (k : Form) → form_of (decl_view (roll-Decl o)) ≡ k → Declares k (roll-Decl o) → Declares (form_of (decl_view (roll-Decl o))) (roll-Decl o)
viewed o k e h = subst (λ j. Declares j (roll-Decl o)) (sym e) h

layer : (o : Decl-F Decl Operand Term) → Declares (form_of (decl_view (roll-Decl o))) (roll-Decl o)
layer (Decl-F.Name n b) = viewed (Decl-F.Name n b) of_name
    (ap form_of (fold-roll-Decl TermTree TermTree TermTree decl_step operand_step term_step (Decl-F.Name n b))) (n, (b, decl.rolls-Name n b))
layer (Decl-F.Create w s i n) = viewed (Decl-F.Create w s i n) of_create
    (ap form_of (fold-roll-Decl TermTree TermTree TermTree decl_step operand_step term_step (Decl-F.Create w s i n))) (w, (s, (i, (n, decl.rolls-Create w s i n))))
layer (Decl-F.CreateField s i b n) = viewed (Decl-F.CreateField s i b n) of_create_field
    (ap form_of (fold-roll-Decl TermTree TermTree TermTree decl_step operand_step term_step (Decl-F.CreateField s i b n)))
    (s, (i, (b, (n, decl.rolls-CreateField s i b n))))
layer (Decl-F.Mutex n f) = viewed (Decl-F.Mutex n f) of_mutex
    (ap form_of (fold-roll-Decl TermTree TermTree TermTree decl_step operand_step term_step (Decl-F.Mutex n f))) (n, (f, decl.rolls-Mutex n f))
layer (Decl-F.Event n) = viewed (Decl-F.Event n) of_event (ap form_of (fold-roll-Decl TermTree TermTree TermTree decl_step operand_step term_step (Decl-F.Event n))) (n, decl.rolls-Event n)
layer (Decl-F.Region n s o l) = viewed (Decl-F.Region n s o l) of_region
    (ap form_of (fold-roll-Decl TermTree TermTree TermTree decl_step operand_step term_step (Decl-F.Region n s o l))) (n, (s, (o, (l, decl.rolls-Region n s o l))))
layer (Decl-F.Field r f v) = viewed (Decl-F.Field r f v) of_field
    (ap form_of (fold-roll-Decl TermTree TermTree TermTree decl_step operand_step term_step (Decl-F.Field r f v))) (r, (f, (v, decl.rolls-Field r f v)))
layer (Decl-F.IndexField i e f v) = viewed (Decl-F.IndexField i e f v) of_index_field
    (ap form_of (fold-roll-Decl TermTree TermTree TermTree decl_step operand_step term_step (Decl-F.IndexField i e f v)))
    (i, (e, (f, (v, decl.rolls-IndexField i e f v))))
layer (Decl-F.BankField r b t f v) = viewed (Decl-F.BankField r b t f v) of_bank_field
    (ap form_of (fold-roll-Decl TermTree TermTree TermTree decl_step operand_step term_step (Decl-F.BankField r b t f v)))
    (r, (b, (t, (f, (v, decl.rolls-BankField r b t f v)))))

declares : (d : Decl) → Declares (form_of (decl_view d)) d
declares d = subst (λ e. Declares (form_of (decl_view e)) e) (roll-out-Decl d) (layer (out-Decl d))

-- two declarations of different forms
pub other_form : (a b : Decl) {t : TermTree} → decl_view a ≡ t → (Declares (form_of t) b → ⊥) → false ≡ term_eq (decl_view a) (decl_view b)
other_form a b is other = unlike (decl_view a) (decl_view b) (λ e. other (subst (λ u. Declares (form_of u) b) (sym e ∙ is) (declares b)))
