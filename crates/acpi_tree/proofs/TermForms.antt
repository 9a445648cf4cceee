-- What the tree of a term or of a declaration is, form by form.
use Rattle.std.proofs.Common.{◌≡◌, ◌∷◌, [], ℕ, List, sym, ap, ◌∙◌}
use Rattle.std.specs.Global.{Box, Vec}
use Rattle.acpi_name.specs.Names.{NameParts}
use Rattle.acpi_tree.specs.declared.op.Op.{Op}
use Rattle.acpi_tree.specs.declared.tree.Int.{Int}
use Rattle.acpi_tree.specs.declared.tree.Width.{Width}
use Rattle.acpi_tree.specs.declared.tree.FieldElem.{FieldElem}
use Rattle.acpi_tree.specs.declared.place.NamedForm.TheVariants as named
use Rattle.acpi_tree.specs.declared.place.UnitsForm.TheVariants as units
use Rattle.acpi_tree.specs.declared.term.Operand.{Operand}
use Rattle.acpi_tree.specs.declared.term.Term.{Term, Term-F, fold-roll-Term}
use Rattle.acpi_tree.specs.declared.term.Term.TheVariants as term
use Rattle.acpi_tree.specs.declared.term.Decl.{Decl, Decl-F, fold-roll-Decl}
use Rattle.acpi_tree.specs.declared.term.Decl.TheVariants as decl
use Rattle.acpi_tree.specs.Terms.{TermTree, int, str, buffer, pkg, var_pkg, local, arg, debug, no_target, raw, ref, call, apply, while_do, declare, declare_units, no_terms, more, terms_of}
use Rattle.acpi_tree.specs.View.{fields_view}
use Rattle.acpi_tree.specs.TermView.{decl_step, operand_step, term_step, term_view, decl_view, operands_view, terms_tree}

pub view_of_int : (whole : Term) (i : Int) → whole ≡ term.Int i → term_view whole ≡ int i
view_of_int whole i is =
    ap term_view (is ∙ sym (term.rolls-Int i)) ∙ fold-roll-Term TermTree TermTree TermTree decl_step operand_step term_step (Term-F.Int i)

pub view_of_str : (whole : Term) (v : Vec ℕ) (inside-v : List ℕ) → whole ≡ term.Str v → inside-v ≡ v.items → term_view whole ≡ str inside-v
view_of_str whole v inside-v is same-v =
    ap term_view (is ∙ sym (term.rolls-Str v)) ∙ fold-roll-Term TermTree TermTree TermTree decl_step operand_step term_step (Term-F.Str v)
    ∙ ap (λ x. str x) (sym same-v)

pub view_of_buffer : (whole : Term) (s : Box Term) (v : Vec ℕ) (inside-s : Term) (inside-v : List ℕ) → whole ≡ term.Buffer s v → inside-s ≡ s.value
    → inside-v ≡ v.items → term_view whole ≡ buffer (term_view inside-s) inside-v
view_of_buffer whole s v inside-s inside-v is same-s same-v =
    ap term_view (is ∙ sym (term.rolls-Buffer s v)) ∙ fold-roll-Term TermTree TermTree TermTree decl_step operand_step term_step (Term-F.Buffer s v)
    ∙ ap (λ x. buffer (term_view x) v.items) (sym same-s)
    ∙ ap (λ x. buffer (term_view inside-s) x) (sym same-v)

pub view_of_package : (whole : Term) (n : ℕ) (v : Vec Term) (inside-v : List Term) → whole ≡ term.Package n v → inside-v ≡ v.items → term_view whole ≡ pkg n (terms_tree inside-v)
view_of_package whole n v inside-v is same-v =
    ap term_view (is ∙ sym (term.rolls-Package n v)) ∙ fold-roll-Term TermTree TermTree TermTree decl_step operand_step term_step (Term-F.Package n v)
    ∙ ap (λ x. pkg n (terms_tree x)) (sym same-v)

pub view_of_var_package : (whole : Term) (n : Box Term) (v : Vec Term) (inside-n : Term) (inside-v : List Term) → whole ≡ term.VarPackage n v
    → inside-n ≡ n.value → inside-v ≡ v.items → term_view whole ≡ var_pkg (term_view inside-n) (terms_tree inside-v)
view_of_var_package whole n v inside-n inside-v is same-n same-v =
    ap term_view (is ∙ sym (term.rolls-VarPackage n v)) ∙ fold-roll-Term TermTree TermTree TermTree decl_step operand_step term_step (Term-F.VarPackage n v)
    ∙ ap (λ x. var_pkg (term_view x) (terms_tree v.items)) (sym same-n)
    ∙ ap (λ x. var_pkg (term_view inside-n) (terms_tree x)) (sym same-v)

pub view_of_local : (whole : Term) (n : ℕ) → whole ≡ term.Local n → term_view whole ≡ local n
view_of_local whole n is =
    ap term_view (is ∙ sym (term.rolls-Local n)) ∙ fold-roll-Term TermTree TermTree TermTree decl_step operand_step term_step (Term-F.Local n)

pub view_of_arg : (whole : Term) (n : ℕ) → whole ≡ term.Arg n → term_view whole ≡ arg n
view_of_arg whole n is =
    ap term_view (is ∙ sym (term.rolls-Arg n)) ∙ fold-roll-Term TermTree TermTree TermTree decl_step operand_step term_step (Term-F.Arg n)

pub view_of_debug : (whole : Term) → whole ≡ term.Debug → term_view whole ≡ debug
view_of_debug whole is =
    ap term_view (is ∙ sym term.rolls-Debug) ∙ fold-roll-Term TermTree TermTree TermTree decl_step operand_step term_step Term-F.Debug

pub view_of_no_target : (whole : Term) → whole ≡ term.NoTarget → term_view whole ≡ no_target
view_of_no_target whole is =
    ap term_view (is ∙ sym term.rolls-NoTarget) ∙ fold-roll-Term TermTree TermTree TermTree decl_step operand_step term_step Term-F.NoTarget

pub view_of_ref : (whole : Term) (n : NameParts) → whole ≡ term.Ref n → term_view whole ≡ ref n
view_of_ref whole n is =
    ap term_view (is ∙ sym (term.rolls-Ref n)) ∙ fold-roll-Term TermTree TermTree TermTree decl_step operand_step term_step (Term-F.Ref n)

pub view_of_call : (whole : Term) (n : NameParts) (v : Vec Term) (inside-v : List Term) → whole ≡ term.Call n v → inside-v ≡ v.items → term_view whole ≡ call n (terms_tree inside-v)
view_of_call whole n v inside-v is same-v =
    ap term_view (is ∙ sym (term.rolls-Call n v)) ∙ fold-roll-Term TermTree TermTree TermTree decl_step operand_step term_step (Term-F.Call n v)
    ∙ ap (λ x. call n (terms_tree x)) (sym same-v)

pub view_of_op : (whole : Term) (o : Op) (v : Vec Operand) (inside-v : List Operand) → whole ≡ term.Op o v → inside-v ≡ v.items
    → term_view whole ≡ apply o (terms_of (operands_view inside-v))
view_of_op whole o v inside-v is same-v =
    ap term_view (is ∙ sym (term.rolls-Op o v)) ∙ fold-roll-Term TermTree TermTree TermTree decl_step operand_step term_step (Term-F.Op o v)
    ∙ ap (λ x. apply o (terms_of (operands_view x))) (sym same-v)

pub view_of_while : (whole : Term) (b : Box Term) (v : Vec Term) (inside-b : Term) (inside-v : List Term) → whole ≡ term.While b v
    → inside-b ≡ b.value → inside-v ≡ v.items → term_view whole ≡ while_do (term_view inside-b) (terms_tree inside-v)
view_of_while whole b v inside-b inside-v is same-b same-v =
    ap term_view (is ∙ sym (term.rolls-While b v)) ∙ fold-roll-Term TermTree TermTree TermTree decl_step operand_step term_step (Term-F.While b v)
    ∙ ap (λ x. while_do (term_view x) (terms_tree v.items)) (sym same-b)
    ∙ ap (λ x. while_do (term_view inside-b) (terms_tree x)) (sym same-v)

pub view_of_declare : (whole : Term) (d : Box Decl) (inside-d : Decl) → whole ≡ term.Declare d → inside-d ≡ d.value → term_view whole ≡ decl_view inside-d
view_of_declare whole d inside-d is same-d =
    ap term_view (is ∙ sym (term.rolls-Declare d)) ∙ fold-roll-Term TermTree TermTree TermTree decl_step operand_step term_step (Term-F.Declare d)
    ∙ ap (λ x. decl_view x) (sym same-d)

-- ---- declarations

pub view_of_declared_name : (whole : Decl) (n : NameParts) (b : Box Term) (inside-b : Term) → whole ≡ decl.Name n b → inside-b ≡ b.value
    → decl_view whole ≡ declare named.Name no_terms n (more (term_view inside-b) no_terms)
view_of_declared_name whole n b inside-b is same-b =
    ap decl_view (is ∙ sym (decl.rolls-Name n b)) ∙ fold-roll-Decl TermTree TermTree TermTree decl_step operand_step term_step (Decl-F.Name n b)
    ∙ ap (λ x. declare named.Name no_terms n (more (term_view x) no_terms)) (sym same-b)

pub view_of_declared_create : (whole : Decl) (w : Width) (s : Box Term) (i : Box Term) (n : NameParts) (inside-s : Term) (inside-i : Term)
    → whole ≡ decl.Create w s i n → inside-s ≡ s.value → inside-i ≡ i.value → decl_view whole ≡ declare (named.Create w)
    (more (term_view inside-s) (more (term_view inside-i) no_terms)) n no_terms
view_of_declared_create whole w s i n inside-s inside-i is same-s same-i =
    ap decl_view (is ∙ sym (decl.rolls-Create w s i n)) ∙ fold-roll-Decl TermTree TermTree TermTree decl_step operand_step term_step (Decl-F.Create w s i n)
    ∙ ap (λ x. declare (named.Create w) (more (term_view x) (more (term_view i.value) no_terms)) n no_terms) (sym same-s)
    ∙ ap (λ x. declare (named.Create w) (more (term_view inside-s) (more (term_view x) no_terms)) n no_terms) (sym same-i)

pub view_of_declared_create_field : (whole : Decl) (s : Box Term) (i : Box Term) (b : Box Term) (n : NameParts) (inside-s : Term) (inside-i : Term)
    (inside-b : Term) → whole ≡ decl.CreateField s i b n → inside-s ≡ s.value → inside-i ≡ i.value → inside-b ≡ b.value
    → decl_view whole ≡ declare named.CreateField (more (term_view inside-s) (more (term_view inside-i) (more (term_view inside-b) no_terms))) n no_terms
view_of_declared_create_field whole s i b n inside-s inside-i inside-b is same-s same-i same-b =
    ap decl_view (is ∙ sym (decl.rolls-CreateField s i b n)) ∙ fold-roll-Decl TermTree TermTree TermTree decl_step operand_step term_step (Decl-F.CreateField s i b n)
    ∙ ap (λ x. declare named.CreateField (more (term_view x) (more (term_view i.value) (more (term_view b.value) no_terms))) n no_terms) (sym same-s)
    ∙ ap (λ x. declare named.CreateField (more (term_view inside-s) (more (term_view x) (more (term_view b.value) no_terms))) n no_terms) (sym same-i)
    ∙ ap (λ x. declare named.CreateField (more (term_view inside-s) (more (term_view inside-i) (more (term_view x) no_terms))) n no_terms) (sym same-b)

pub view_of_declared_mutex : (whole : Decl) (n : NameParts) (f : ℕ) → whole ≡ decl.Mutex n f → decl_view whole ≡ declare named.Mutex no_terms n (more (raw 1 f) no_terms)
view_of_declared_mutex whole n f is =
    ap decl_view (is ∙ sym (decl.rolls-Mutex n f)) ∙ fold-roll-Decl TermTree TermTree TermTree decl_step operand_step term_step (Decl-F.Mutex n f)

pub view_of_declared_event : (whole : Decl) (n : NameParts) → whole ≡ decl.Event n → decl_view whole ≡ declare named.Event no_terms n no_terms
view_of_declared_event whole n is =
    ap decl_view (is ∙ sym (decl.rolls-Event n)) ∙ fold-roll-Decl TermTree TermTree TermTree decl_step operand_step term_step (Decl-F.Event n)

pub view_of_declared_region : (whole : Decl) (n : NameParts) (k : ℕ) (o : Box Term) (l : Box Term) (inside-o : Term) (inside-l : Term)
    → whole ≡ decl.Region n k o l → inside-o ≡ o.value → inside-l ≡ l.value → decl_view whole ≡ declare named.Region no_terms n
    (more (raw 1 k) (more (term_view inside-o) (more (term_view inside-l) no_terms)))
view_of_declared_region whole n k o l inside-o inside-l is same-o same-l =
    ap decl_view (is ∙ sym (decl.rolls-Region n k o l)) ∙ fold-roll-Decl TermTree TermTree TermTree decl_step operand_step term_step (Decl-F.Region n k o l)
    ∙ ap (λ x. declare named.Region no_terms n (more (raw 1 k) (more (term_view x) (more (term_view l.value) no_terms)))) (sym same-o)
    ∙ ap (λ x. declare named.Region no_terms n (more (raw 1 k) (more (term_view inside-o) (more (term_view x) no_terms)))) (sym same-l)

pub view_of_declared_field : (whole : Decl) (r : NameParts) (f : ℕ) (v : Vec FieldElem) (inside-v : List FieldElem) → whole ≡ decl.Field r f v
    → inside-v ≡ v.items → decl_view whole ≡ declare_units units.Field (r ∷ []) (more (raw 1 f) no_terms) (fields_view inside-v)
view_of_declared_field whole r f v inside-v is same-v =
    ap decl_view (is ∙ sym (decl.rolls-Field r f v)) ∙ fold-roll-Decl TermTree TermTree TermTree decl_step operand_step term_step (Decl-F.Field r f v)
    ∙ ap (λ x. declare_units units.Field (r ∷ []) (more (raw 1 f) no_terms) (fields_view x)) (sym same-v)

pub view_of_declared_index_field : (whole : Decl) (i : NameParts) (e : NameParts) (f : ℕ) (v : Vec FieldElem) (inside-v : List FieldElem)
    → whole ≡ decl.IndexField i e f v → inside-v ≡ v.items → decl_view whole ≡ declare_units units.IndexField (i ∷ e ∷ []) (more (raw 1 f) no_terms)
    (fields_view inside-v)
view_of_declared_index_field whole i e f v inside-v is same-v =
    ap decl_view (is ∙ sym (decl.rolls-IndexField i e f v)) ∙ fold-roll-Decl TermTree TermTree TermTree decl_step operand_step term_step (Decl-F.IndexField i e f v)
    ∙ ap (λ x. declare_units units.IndexField (i ∷ e ∷ []) (more (raw 1 f) no_terms) (fields_view x)) (sym same-v)

pub view_of_declared_bank_field : (whole : Decl) (r : NameParts) (c : NameParts) (t : Box Term) (f : ℕ) (v : Vec FieldElem) (inside-t : Term)
    (inside-v : List FieldElem) → whole ≡ decl.BankField r c t f v → inside-t ≡ t.value → inside-v ≡ v.items
    → decl_view whole ≡ declare_units units.BankField (r ∷ c ∷ []) (more (term_view inside-t) (more (raw 1 f) no_terms)) (fields_view inside-v)
view_of_declared_bank_field whole r c t f v inside-t inside-v is same-t same-v =
    ap decl_view (is ∙ sym (decl.rolls-BankField r c t f v)) ∙ fold-roll-Decl TermTree TermTree TermTree decl_step operand_step term_step (Decl-F.BankField r c t f v)
    ∙ ap (λ x. declare_units units.BankField (r ∷ c ∷ []) (more (term_view x) (more (raw 1 f) no_terms)) (fields_view v.items)) (sym same-t)
    ∙ ap (λ x. declare_units units.BankField (r ∷ c ∷ []) (more (term_view inside-t) (more (raw 1 f) no_terms)) (fields_view x)) (sym same-v)
