-- Whether two terms of method bodies are equal, as tests, which decide equality.
use Rattle.std.proofs.Common.{◌≡◌, true, ◌&&◌, eqb, refl, ap, ap₂, Bool, false, nat_eq, List}
use Rattle.std.proofs.lemmas.Bool.{eqb-true}
use denote.Enum.Bare.{same_true, true_same, sameb}
use Rattle.acpi_name.specs.NameEqual.{name_eq}
use Rattle.acpi_name.proofs.NameAgain.{and_true}
use Rattle.acpi_tree.specs.contracts.op.Op as operators
use Rattle.acpi_tree.specs.contracts.place.UnitsForm as units_forms
use Rattle.acpi_tree.specs.declared.place.NamedForm.{NamedForm}
use Rattle.acpi_tree.specs.declared.place.NamedForm.TheVariants as named
use Rattle.acpi_tree.specs.Terms.{TermTree, ElseTree, TermTrees, int, str, buffer, pkg, var_pkg, local, arg, debug, no_target, raw, ref, call, apply, if_do, no_else, else_do, while_do, declare, declare_units, no_terms, more}
use Rattle.acpi_tree.specs.steps.Equality.{int_eq, width_eq, bytes_eq, fields_eq, Tells, both, never, names_tell, numbers_tell, ints_tell, widths_tell, lists_tell, bytes_tell, fields_tell}
use Rattle.std.specs.Cmp.Lexicographic.{pointwise}
use Rattle.acpi_name.specs.Names.{NameParts}
use Rattle.acpi_tree.specs.declared.op.Op.{Op}
use Rattle.acpi_tree.specs.declared.place.UnitsForm.{UnitsForm}

abbrev pub op_eq : Op → Op → Bool
op_eq = sameb operators.the_type

abbrev pub units_form_eq : UnitsForm → UnitsForm → Bool
units_form_eq = sameb units_forms.the_type

abbrev pub named_form_eq : NamedForm → NamedForm → Bool
named_form_eq named.Name named.Name = true
named_form_eq (named.Create w) (named.Create v) = width_eq w v
named_form_eq named.CreateField named.CreateField = true
named_form_eq named.Region named.Region = true
named_form_eq named.Mutex named.Mutex = true
named_form_eq named.Event named.Event = true
named_form_eq _ _ = false

abbrev pub names_eq : List NameParts → List NameParts → Bool
names_eq = pointwise name_eq

abbrev mutual
  pub term_eq : TermTree → TermTree → Bool
  term_eq (int i) (int j) = int_eq i j
  term_eq (str s) (str t) = bytes_eq s t
  term_eq (buffer v s) (buffer w t) = term_eq v w && bytes_eq s t
  term_eq (pkg m ts) (pkg n us) = nat_eq m n && terms_eq ts us
  term_eq (var_pkg v ts) (var_pkg w us) = term_eq v w && terms_eq ts us
  term_eq (local m) (local n) = nat_eq m n
  term_eq (arg m) (arg n) = nat_eq m n
  term_eq debug debug = true
  term_eq no_target no_target = true
  term_eq (raw j m) (raw k n) = nat_eq j k && nat_eq m n
  term_eq (ref m) (ref n) = name_eq m n
  term_eq (call m ts) (call n us) = name_eq m n && terms_eq ts us
  term_eq (apply o ts) (apply p us) = op_eq o p && terms_eq ts us
  term_eq (if_do v ts e) (if_do w us f) = else_eq e f && term_eq v w && terms_eq ts us
  term_eq (while_do v ts) (while_do w us) = term_eq v w && terms_eq ts us
  term_eq (declare f ts m us) (declare g vs n ws) =
      named_form_eq f g && terms_eq ts vs && name_eq m n && terms_eq us ws
  term_eq (declare_units f ms ts es) (declare_units g ns us fs) =
      units_form_eq f g && names_eq ms ns && terms_eq ts us && fields_eq es fs
  term_eq _ _ = false

  pub else_eq : ElseTree → ElseTree → Bool
  else_eq no_else no_else = true
  else_eq (else_do ts) (else_do us) = terms_eq ts us
  else_eq _ _ = false

  pub terms_eq : TermTrees → TermTrees → Bool
  terms_eq no_terms no_terms = true
  terms_eq (more t ts) (more u us) = term_eq t u && terms_eq ts us
  terms_eq _ _ = false

ops_tell : Tells op_eq
ops_tell =
    record {
      is = same_true operators.the_type tt;
      same = λ o. true_same operators.the_type o o refl;
    }

units_forms_tell : Tells units_form_eq
units_forms_tell =
    record {
      is = same_true units_forms.the_type tt;
      same = λ f. true_same units_forms.the_type f f refl;
    }

named_form_is : (f g : NamedForm) → named_form_eq f g ≡ true → f ≡ g
named_form_is named.Name named.Name h = refl
named_form_is (named.Create w) (named.Create v) h = ap named.Create (widths_tell.is w v h)
named_form_is named.CreateField named.CreateField h = refl
named_form_is named.Region named.Region h = refl
named_form_is named.Mutex named.Mutex h = refl
named_form_is named.Event named.Event h = refl
named_form_is f g h = never h

named_form_same : (f : NamedForm) → named_form_eq f f ≡ true
named_form_same named.Name = refl
named_form_same (named.Create w) = widths_tell.same w
named_form_same named.CreateField = refl
named_form_same named.Region = refl
named_form_same named.Mutex = refl
named_form_same named.Event = refl

named_forms_tell : Tells named_form_eq
named_forms_tell = record { is = named_form_is; same = named_form_same }

all_names_tell : Tells names_eq
all_names_tell = lists_tell names_tell

mutual
  term_is : (t u : TermTree) → term_eq t u ≡ true → t ≡ u
  term_is (int a) (int w) h = ap int (ints_tell.is a w h)
  term_is (str a) (str w) h = ap str (bytes_tell.is a w h)
  term_is (buffer a b) (buffer w x) h = let p = and_true (term_eq a w) (bytes_eq b x) h in
      ap₂ buffer (term_is a w p.0) (bytes_tell.is b x p.1)
  term_is (pkg a b) (pkg w x) h =
      let p = and_true (eqb a w) (terms_eq b x) h in ap₂ pkg (eqb-true a w p.0) (terms_is b x p.1)
  term_is (var_pkg a b) (var_pkg w x) h = let p = and_true (term_eq a w) (terms_eq b x) h in
      ap₂ var_pkg (term_is a w p.0) (terms_is b x p.1)
  term_is (local a) (local w) h = ap local (eqb-true a w h)
  term_is (arg a) (arg w) h = ap arg (eqb-true a w h)
  term_is debug debug h = refl
  term_is no_target no_target h = refl
  term_is (raw a b) (raw w x) h =
      let p = and_true (eqb a w) (eqb b x) h in ap₂ raw (eqb-true a w p.0) (eqb-true b x p.1)
  term_is (ref a) (ref w) h = ap ref (names_tell.is a w h)
  term_is (call a b) (call w x) h = let p = and_true (name_eq a w) (terms_eq b x) h in
      ap₂ call (names_tell.is a w p.0) (terms_is b x p.1)
  term_is (apply a b) (apply w x) h = let p = and_true (op_eq a w) (terms_eq b x) h in
      ap₂ apply (ops_tell.is a w p.0) (terms_is b x p.1)
  term_is (if_do a b c) (if_do w x y) h =
      let p2 = and_true (else_eq c y && term_eq a w) (terms_eq b x) h in
      let p1 = and_true (else_eq c y) (term_eq a w) p2.0 in
      let e0 = term_is a w p1.1 in
      let e1 = terms_is b x p2.1 in
      let e2 = else_is c y p1.0 in
      λ i. if_do (e0 i) (e1 i) (e2 i)
  term_is (while_do a b) (while_do w x) h = let p = and_true (term_eq a w) (terms_eq b x) h in
      ap₂ while_do (term_is a w p.0) (terms_is b x p.1)
  term_is (declare a b c d) (declare w x y z) h =
      let p3 = and_true (named_form_eq a w && terms_eq b x && name_eq c y) (terms_eq d z) h in
      let p2 = and_true (named_form_eq a w && terms_eq b x) (name_eq c y) p3.0 in
      let p1 = and_true (named_form_eq a w) (terms_eq b x) p2.0 in
      let e0 = named_forms_tell.is a w p1.0 in
      let e1 = terms_is b x p1.1 in
      let e2 = names_tell.is c y p2.1 in
      let e3 = terms_is d z p3.1 in
      λ i. declare (e0 i) (e1 i) (e2 i) (e3 i)
  term_is (declare_units a b c d) (declare_units w x y z) h =
      let p3 = and_true (units_form_eq a w && names_eq b x && terms_eq c y) (fields_eq d z) h in
      let p2 = and_true (units_form_eq a w && names_eq b x) (terms_eq c y) p3.0 in
      let p1 = and_true (units_form_eq a w) (names_eq b x) p2.0 in
      let e0 = units_forms_tell.is a w p1.0 in
      let e1 = all_names_tell.is b x p1.1 in
      let e2 = terms_is c y p2.1 in
      let e3 = fields_tell.is d z p3.1 in
      λ i. declare_units (e0 i) (e1 i) (e2 i) (e3 i)
  term_is t u h = never h

  else_is : (e f : ElseTree) → else_eq e f ≡ true → e ≡ f
  else_is no_else no_else h = refl
  else_is (else_do ts) (else_do us) h = ap else_do (terms_is ts us h)
  else_is e f h = never h

  terms_is : (ts us : TermTrees) → terms_eq ts us ≡ true → ts ≡ us
  terms_is no_terms no_terms h = refl
  terms_is (more t ts) (more u us) h = let p = and_true (term_eq t u) (terms_eq ts us) h in
      ap₂ more (term_is t u p.0) (terms_is ts us p.1)
  terms_is ts us h = never h

mutual
  term_same : (t : TermTree) → term_eq t t ≡ true
  term_same (int a) = ints_tell.same a
  term_same (str a) = bytes_tell.same a
  term_same (buffer a b) = both (term_same a) (bytes_tell.same b)
  term_same (pkg a b) = both (numbers_tell.same a) (terms_same b)
  term_same (var_pkg a b) = both (term_same a) (terms_same b)
  term_same (local a) = numbers_tell.same a
  term_same (arg a) = numbers_tell.same a
  term_same debug = refl
  term_same no_target = refl
  term_same (raw a b) = both (numbers_tell.same a) (numbers_tell.same b)
  term_same (ref a) = names_tell.same a
  term_same (call a b) = both (names_tell.same a) (terms_same b)
  term_same (apply a b) = both (ops_tell.same a) (terms_same b)
  term_same (if_do a b c) = both (both (else_same c) (term_same a)) (terms_same b)
  term_same (while_do a b) = both (term_same a) (terms_same b)
  term_same (declare a b c d) =
      both (both (both (named_forms_tell.same a) (terms_same b)) (names_tell.same c)) (terms_same d)
  term_same (declare_units a b c d) = both
      (both (both (units_forms_tell.same a) (all_names_tell.same b)) (terms_same c))
      (fields_tell.same d)

  else_same : (e : ElseTree) → else_eq e e ≡ true
  else_same no_else = refl
  else_same (else_do ts) = terms_same ts

  terms_same : (ts : TermTrees) → terms_eq ts ts ≡ true
  terms_same no_terms = refl
  terms_same (more t ts) = both (term_same t) (terms_same ts)

pub term_tells : Tells term_eq
term_tells = record { is = term_is; same = term_same }
