-- Data in a package that ends within its list holds its fault: reading it stops alike, whatever stands behind it.
use Rattle.std.proofs.Common.{◌≡◌, ◌⊎◌, ◌<◌, ◌-◌, ℕ, zero, suc, Bool, false, List, [], ◌∷◌, ◌++◌, length, Some, None, Result, Ok, Err, refl, sym, ap, subst, ◌∙◌, append_assoc, arith, inl, inr}
use Rattle.std.proofs.lemmas.List.{append-nil}
use Rattle.acpi_name.specs.Names.{NameParts}
use Rattle.acpi_name.specs.Spelling.{SpellsName}
use Rattle.acpi_tree.specs.declared.place.Place.{Place}
use Rattle.acpi_tree.specs.declared.place.Place.TheVariants.{Value, Statement, Element}
use Rattle.acpi_tree.specs.declared.place.OperandKind.TheVariants.{At}
use Rattle.acpi_tree.specs.declared.place.NamedForm.TheVariants as named
use Rattle.acpi_tree.specs.Terms.{TermTree, TermTrees, buffer, pkg, var_pkg, declare, no_terms, more, terms_of}
use Rattle.acpi_code.specs.declared.fault.CodeFault.{CodeFault}
use Rattle.acpi_code.specs.declared.opcode.Opcode.{Opcode}
use Rattle.acpi_code.specs.declared.opcode.Opcode.TheVariants as opcodes
use Rattle.acpi_code.specs.Faults.{FailsOpcode, FailsName}
use Rattle.acpi_code.specs.Spelling.{Packs}
use Rattle.acpi_code.specs.steps.Reading.{◌>>=◌, Reading, Package, package_of, name_in, package_at, opcode_at, byte_at, each_at}
use Rattle.acpi_code.proofs.ExactParts.{exact_name}
use Rattle.acpi_code.proofs.Names.{name_in_complete}
use Rattle.acpi_code.proofs.Opcodes.{opens, Opened, opcode_opened}
use Rattle.acpi_code.proofs.Packages.{PackageFront, front_is, package_complete}
use Rattle.acpi_code.proofs.Readings.{Judge, Front}
use Rattle.acpi_values.specs.declared.fault.BodyFault.{BodyFault}
use Rattle.acpi_values.specs.Grammars.{Grammar}
use Rattle.acpi_values.specs.Refusals.{refusal_at}
use Rattle.acpi_values.specs.steps.Reading as bodies
use Rattle.acpi_values.specs.steps.Reading.{operands_at, operand_at, term_at, placed_by, form_by, buffer_form, package_form, var_package_form}
use Rattle.acpi_values.proofs.TermExact.{is_block}
use Rattle.acpi_outline.specs.declared.form.DataForm.{DataForm}
use Rattle.acpi_outline.specs.declared.form.DataForm.TheVariants as datas
use Rattle.acpi_outline.specs.declared.fault.LostFault.{LostFault}
use Rattle.acpi_outline.specs.Nodes.{PlainTree, term, NodeTree, data_lost, name_lost, data_opcode, data_bytes}
use Rattle.acpi_outline.specs.Rules.{Rules, grammar_at}
use Rattle.acpi_outline.specs.Spelling.{IsNameOf, BeginsWith, BeginsData}
use Rattle.acpi_outline.specs.Faults.{FailsLength}
use Rattle.acpi_outline.specs.steps.Reading.{part, of_term, packed_form, data_form, packed_as, data_by, opened_data, named_data, name_at_level, contained_by, or_contained, named_in, term_in, plain_in, node_at}
use Rattle.acpi_outline.proofs.Parts.{package_part}
use Rattle.acpi_outline.proofs.Sound.{opened}

-- ---- opcodes of data

pub data_none : (form : DataForm) → packed_form (data_opcode form) ≡ None
data_none datas.Buffer = refl
data_none datas.Package = refl
data_none datas.VarPackage = refl

data_some : (form : DataForm) → data_form (data_opcode form) ≡ Some form
data_some datas.Buffer = refl
data_some datas.Package = refl
data_some datas.VarPackage = refl

pub data_contained : (form : DataForm) (level : ℕ) (why : LostFault) (end : ℕ) (rest : List ℕ) → contained_by level why end (data_opcode form) rest ≡ packed_as (data_lost form why) why (package_at end rest)
data_contained datas.Buffer level why end rest = refl
data_contained datas.Package level why end rest = refl
data_contained datas.VarPackage level why end rest = refl

pub data_begins : (form : DataForm) (end : ℕ) (x : List ℕ) → opcode_at end (data_bytes form ++ x) ≡ Ok (data_opcode form, x)
data_begins datas.Buffer end x = opens end opcodes.Buffer x refl
data_begins datas.Package end x = opens end opcodes.Package x refl
data_begins datas.VarPackage end x = opens end opcodes.VarPackage x refl

pub data_clear : (form : DataForm) → is_block (data_opcode form) ≡ false
data_clear datas.Buffer = refl
data_clear datas.Package = refl
data_clear datas.VarPackage = refl

-- it may be a statement, and a value
pub data_allowed : (loads : Bool) (form : DataForm) → (refusal_at loads Statement (data_opcode form) ≡ None) × (refusal_at loads Value (data_opcode form) ≡ None)
data_allowed loads datas.Buffer = (refl, refl)
data_allowed loads datas.Package = (refl, refl)
data_allowed loads datas.VarPackage = (refl, refl)

abbrev read_opcode : Opcode × List ℕ → Reading CodeFault Opcode
read_opcode x = Ok x

same_opcode : (x y : Opcode × List ℕ) → read_opcode x ≡ read_opcode y → x ≡ y
same_opcode x y e = cc

-- ---- what a package of data is read as, whatever stands behind it

abbrev inside_at : Grammar → ℕ → DataForm → ℕ → List ℕ → Result TermTree BodyFault
inside_at g level datas.Buffer end content = term_at g level Value end content >>= λ size. Ok (buffer size.0 size.1)
inside_at g level datas.Package end content =
    bodies.part (byte_at end content) >>= λ count. each_at (term_at g level Element end) count.1 >>= λ es. Ok (pkg count.0 (terms_of es))
inside_at g level datas.VarPackage end content =
    term_at g level Value end content >>= λ count. each_at (term_at g level Element end) count.1 >>= λ es. Ok (var_pkg count.0 (terms_of es))

-- .. and what is behind it
abbrev with_rest : List ℕ → Result TermTree BodyFault → Reading BodyFault TermTree
with_rest rest (Ok t) = Ok (t, rest)
with_rest rest (Err f) = Err f

made_with : {A : Type 0} (q : Result A BodyFault) (made : A → TermTree) (rest : List ℕ) → (q >>= λ x. Ok (made x, rest)) ≡ with_rest rest (q >>= λ x. Ok (made x))
made_with (Ok x) made rest = refl
made_with (Err f) made rest = refl

made_twice : {A B : Type 0} (q : Result A BodyFault) (k : A → Result B BodyFault) (made : A → B → TermTree) (rest : List ℕ)
    → (q >>= λ x. k x >>= λ y. Ok (made x y, rest)) ≡ with_rest rest (q >>= λ x. k x >>= λ y. Ok (made x y))
made_twice (Ok x) k made rest = made_with (k x) (made x) rest
made_twice (Err f) k made rest = refl

form_at : (g : Grammar) (level : ℕ) (place : Place) (end : ℕ) (form : DataForm) (whole len content rest : List ℕ) → Packs (data_bytes form) content (data_bytes form ++ (len ++ content))
    → package_at end (len ++ (content ++ rest)) ≡ Ok (package_of end content rest)
    → form_by g (term_at g level) place end whole (data_opcode form) (len ++ (content ++ rest)) ≡ with_rest rest (inside_at g level form (end - length rest) content)
unfolding form_by buffer_form package_form var_package_form
form_at g level place end datas.Buffer whole len content rest packs e = rw e (made_with (term_at g level Value (end - length rest) content) (λ size. buffer size.0 size.1) rest)
form_at g level place end datas.Package whole len content rest packs e =
    rw e (made_twice (bodies.part (byte_at (end - length rest) content)) (λ count. each_at (term_at g level Element (end - length rest)) count.1) (λ count es. pkg count.0 (terms_of es)) rest)
form_at g level place end datas.VarPackage whole len content rest packs e =
    rw e (made_twice (term_at g level Value (end - length rest) content) (λ count. each_at (term_at g level Element (end - length rest)) count.1) (λ count es. var_pkg count.0 (terms_of es)) rest)

data_at : (g : Grammar) (level : ℕ) (place : Place) (end : ℕ) (form : DataForm) (content a rest : List ℕ) → refusal_at g.loads place (data_opcode form) ≡ None → Packs (data_bytes form) content a
    → term_at g (suc level) place end (a ++ rest) ≡ with_rest rest (inside_at g level form (end - length rest) content)
unfolding term_at placed_by
data_at g level place end form content a rest allowed packs =
    let y = packs.len ++ (content ++ rest) in
    let is = front_is (data_bytes form) a packs.len content rest packs.whole in
    rw (is, data_begins form end y, allowed)
    (form_at g level place end form (data_bytes form ++ y) packs.len content rest (record { len = packs.len; spells_len = packs.spells_len; whole = refl }) (package_complete end packs.len content rest packs.spells_len))

fails_alike : (x : Result TermTree BodyFault) (rest other : List ℕ) (f : LostFault) → of_term (with_rest rest x) ≡ Err f → of_term (with_rest other x) ≡ Err f
fails_alike (Ok t) rest other f e = absurd cc
fails_alike (Err w) rest other f e = e

-- it stops so up to its own end, exactly where it does with something behind it
module _ {S : Type 0} (r : Rules S) (level : ℕ) (known : S) (place : Place) (end : ℕ) (form : DataForm) (content a rest : List ℕ)
    (allowed : refusal_at (grammar_at r known).loads place (data_opcode form) ≡ None) (packs : Packs (data_bytes form) content a) where
  alone : term_at (grammar_at r known) (suc level) place (end - length rest) a ≡ with_rest [] (inside_at (grammar_at r known) level form (end - length rest) content)
  alone =
      let g = grammar_at r known in
      let same : end - length rest - 0 ≡ end - length rest = omega arith in
      ap (term_at g (suc level) place (end - length rest)) (sym (append-nil a)) ∙ data_at g level place (end - length rest) form content a [] allowed packs
      ∙ ap (λ e. with_rest [] (inside_at g level form e content)) same

  pub fails_alone : (f : LostFault) → of_term (term_at (grammar_at r known) (suc level) place end (a ++ rest)) ≡ Err f
      → of_term (term_at (grammar_at r known) (suc level) place (end - length rest) a) ≡ Err f
  fails_alone f e =
      let g = grammar_at r known in
      let x = inside_at g level form (end - length rest) content in
      ap (λ q. of_term q) alone ∙ fails_alike x rest [] f (ap (λ q. of_term q) (sym (data_at g level place end form content a rest allowed packs)) ∙ e)

  pub fails_within : (f : LostFault) → of_term (term_at (grammar_at r known) (suc level) place (end - length rest) a) ≡ Err f
      → of_term (term_at (grammar_at r known) (suc level) place end (a ++ rest)) ≡ Err f
  fails_within f e =
      let g = grammar_at r known in
      let x = inside_at g level form (end - length rest) content in
      ap (λ q. of_term q) (data_at g level place end form content a rest allowed packs) ∙ fails_alike x [] rest f (ap (λ q. of_term q) (sym alone) ∙ e)

-- ---- a Name is read as its value is

abbrev of_value : NameParts → TermTree × List ℕ → Reading LostFault PlainTree
of_value n v = Ok (term (declare named.Name no_terms n (more v.0 no_terms)), v.1)

abbrev one_value : TermTree × List ℕ → Reading BodyFault (List TermTree)
one_value v = Ok (v.0 ∷ [], v.1)

abbrev of_values : NameParts → List TermTree × List ℕ → Reading LostFault PlainTree
of_values n vs = Ok (term (declare named.Name no_terms n (terms_of vs.0)), vs.1)

name_at : {S : Type 0} (r : Rules S) (level : ℕ) (known : S) (end : ℕ) (n : NameParts) (a y : List ℕ) → SpellsName n a
    → named_in r level known named.Name end (a ++ y) ≡ (of_term (term_at (grammar_at r known) level Value end y) >>= of_value n)
unfolding named_in operands_at operand_at
name_at r level known end n a y h = rw (name_in_complete end n a y h) (by_value (term_at (grammar_at r known) level Value end y))
  where
    by_value : (q : Reading BodyFault TermTree) → (of_term (q >>= one_value) >>= of_values n) ≡ (of_term q >>= of_value n)
    by_value (Ok v) = refl
    by_value (Err f) = refl

value_fails : (n : NameParts) (q : Reading LostFault TermTree) (f : LostFault) → (q >>= of_value n) ≡ Err f → q ≡ Err f
value_fails n (Ok v) f e = absurd cc
value_fails n (Err w) f e = cc

pub named_fails : {S : Type 0} (r : Rules S) (level : ℕ) (known : S) (end : ℕ) (n : NameParts) (a y : List ℕ) (f : LostFault) → SpellsName n a
    → named_in r level known named.Name end (a ++ y) ≡ Err f → of_term (term_at (grammar_at r known) level Value end y) ≡ Err f
named_fails r level known end n a y f h e = value_fails n (of_term (term_at (grammar_at r known) level Value end y)) f (sym (name_at r level known end n a y h) ∙ e)

pub named_stops_there : {S : Type 0} (r : Rules S) (level : ℕ) (known : S) (end : ℕ) (n : NameParts) (a y : List ℕ) (f : LostFault) → SpellsName n a
    → of_term (term_at (grammar_at r known) level Value end y) ≡ Err f → named_in r level known named.Name end (a ++ y) ≡ Err f
named_stops_there r level known end n a y f h e = name_at r level known end n a y h ∙ rw e refl

-- ---- what is read of them, where no plain node is

pub name_read : (n : NameParts) (form : DataForm) (level : ℕ) (why : LostFault) (end : ℕ) (a rest : List ℕ) → 0 < level → (is : IsNameOf n form a)
    → contained_by level why end opcodes.DeclareName (is.spelled ++ (is.packed ++ rest)) ≡ Ok (name_lost n form why, rest)
name_read n form zero why end a rest some is = absurd (omega arith)
name_read n form (suc level) why end a rest some is =
    let front = front_is (data_bytes form) is.packed is.packs.len is.content rest is.packs.whole in
    rw (name_in_complete end n is.spelled (is.packed ++ rest) is.spells, front, data_begins form end (is.packs.len ++ (is.content ++ rest)), data_some form, package_complete end is.packs.len is.content rest is.packs.spells_len) refl

-- ---- as nodes

pub data_opened : {S : Type 0} (r : Rules S) (level : ℕ) (known : S) (end : ℕ) (form : DataForm) (content a rest : List ℕ) (packs : Packs (data_bytes form) content a)
    → node_at r (suc level) known end (a ++ rest) ≡ or_contained level end (data_opcode form) (packs.len ++ (content ++ rest)) (plain_in r level known end (a ++ rest) (data_opcode form) (packs.len ++ (content ++ rest)))
unfolding node_at
data_opened r level known end form content a rest packs =
    let opened = ap (opcode_at end) (front_is (data_bytes form) a packs.len content rest packs.whole) ∙ data_begins form end (packs.len ++ (content ++ rest)) in
    rw (opened, data_none form) refl

pub name_opened : {S : Type 0} (r : Rules S) (level : ℕ) (known : S) (end : ℕ) (n : NameParts) (form : DataForm) (a rest : List ℕ) (is : IsNameOf n form a)
    → node_at r (suc level) known end (a ++ rest) ≡ or_contained level end opcodes.DeclareName (is.spelled ++ (is.packed ++ rest)) (plain_in r level known end (a ++ rest) opcodes.DeclareName (is.spelled ++ (is.packed ++ rest)))
unfolding node_at
name_opened r level known end n form a rest is =
    let all : a ++ rest ≡ 0x08 ∷ (is.spelled ++ (is.packed ++ rest)) = ap (λ (l : List ℕ). l ++ rest) is.whole ∙ ap (λ (l : List ℕ). 0x08 ∷ l) (append_assoc is.spelled is.packed rest) in
    let opened = ap (opcode_at end) all ∙ opens end opcodes.DeclareName (is.spelled ++ (is.packed ++ rest)) refl in
    rw opened refl

pub data_given : (form : DataForm) (level : ℕ) (why : LostFault) (end : ℕ) (content a rest : List ℕ) (packs : Packs (data_bytes form) content a)
    → contained_by level why end (data_opcode form) (packs.len ++ (content ++ rest)) ≡ Ok (data_lost form why, rest)
data_given form level why end content a rest packs = data_contained form level why end (packs.len ++ (content ++ rest)) ∙ rw (package_complete end packs.len content rest packs.spells_len) refl

-- ---- what holds a fault

-- the data at the front of bytes, as the node that it is, and what is behind it
pub record HeldData (level : ℕ) (why : LostFault) (bytes : List ℕ) (x : NodeTree × List ℕ) (form : DataForm) : Type 0 where
  pub content : List ℕ
  pub front : List ℕ
  pub packs : Packs (data_bytes form) content front
  pub whole : bytes ≡ front ++ x.1
  pub is : x.0 ≡ data_lost form why

pub record HeldName (level : ℕ) (why : LostFault) (bytes : List ℕ) (x : NodeTree × List ℕ) : Type 0 where
  pub name : NameParts
  pub form : DataForm
  pub front : List ℕ
  pub is_name : IsNameOf name form front
  pub some : 0 < level
  pub whole : bytes ≡ front ++ x.1
  pub is : x.0 ≡ name_lost name form why

-- .. by its opcode
abbrev pub Held : ℕ → LostFault → List ℕ → Opcode → NodeTree × List ℕ → Type 0
Held level why bytes opcodes.Buffer x = HeldData level why bytes x datas.Buffer
Held level why bytes opcodes.Package x = HeldData level why bytes x datas.Package
Held level why bytes opcodes.VarPackage x = HeldData level why bytes x datas.VarPackage
Held level why bytes opcodes.DeclareName x = HeldName level why bytes x
Held level why bytes _ x = ⊥

module _ (level : ℕ) (why : LostFault) (end : ℕ) (bytes : List ℕ) where
  data_held : (form : DataForm) (rest : List ℕ) (q : Result Package CodeFault) → bytes ≡ data_bytes form ++ rest → Judge (PackageFront end rest) (FailsLength end rest) (part q)
      → Judge (λ x. HeldData level why bytes x form) (λ f. f ≡ why) (packed_as (data_lost form why) why q)
  data_held form rest (Err f) is g = refl
  data_held form rest (Ok p) is g =
      let op = data_bytes form in
      record {
        content = p.content;
        front = op ++ (g.len ++ p.content);
        packs = record { len = g.len; spells_len = g.spells_len; whole = refl };
        whole = is ∙ ap (λ (l : List ℕ). op ++ l) (g.whole ∙ sym (append_assoc g.len p.content p.rest)) ∙ sym (append_assoc op (g.len ++ p.content) p.rest);
        is = refl;
      }

  packed_held : (n : NameParts) (form : DataForm) (spelled there rest : List ℕ) (q : Result Package CodeFault) → 0 < level → SpellsName n spelled → bytes ≡ 0x08 ∷ (spelled ++ there) → there ≡ data_bytes form ++ rest
      → Judge (PackageFront end rest) (FailsLength end rest) (part q) → Judge (λ x. HeldName level why bytes x) (λ f. f ≡ why) (packed_as (name_lost n form why) why q)
  packed_held n form spelled there rest (Err f) some spells here is g = refl
  packed_held n form spelled there rest (Ok p) some spells here is g =
      let op = data_bytes form in
      let packed = op ++ (g.len ++ p.content) in
      let behind : there ≡ packed ++ p.rest = is ∙ ap (λ (l : List ℕ). op ++ l) (g.whole ∙ sym (append_assoc g.len p.content p.rest)) ∙ sym (append_assoc op (g.len ++ p.content) p.rest) in
      record {
        name = n;
        form = form;
        front = 0x08 ∷ (spelled ++ packed);
        is_name = record { content = p.content; spelled = spelled; packed = packed; spells = spells; packs = record { len = g.len; spells_len = g.spells_len; whole = refl }; whole = refl };
        some = some;
        whole = here ∙ ap (λ (l : List ℕ). 0x08 ∷ l) (ap (λ (l : List ℕ). spelled ++ l) behind ∙ sym (append_assoc spelled packed p.rest));
        is = refl;
      }

  by_data : (n : NameParts) (spelled there rest : List ℕ) (o : Opcode) → 0 < level → SpellsName n spelled → bytes ≡ 0x08 ∷ (spelled ++ there) → Opened there (o, rest)
      → Judge (λ x. HeldName level why bytes x) (λ f. f ≡ why) (data_by n why end rest (data_form o))
  by_data n spelled there rest opcodes.Buffer some spells here o = packed_held n datas.Buffer spelled there rest (package_at end rest) some spells here (opened opcodes.Buffer there rest o o.told.1) (package_part end rest)
  by_data n spelled there rest opcodes.Package some spells here o = packed_held n datas.Package spelled there rest (package_at end rest) some spells here (opened opcodes.Package there rest o o.told.1) (package_part end rest)
  by_data n spelled there rest opcodes.VarPackage some spells here o = packed_held n datas.VarPackage spelled there rest (package_at end rest) some spells here (opened opcodes.VarPackage there rest o o.told.1) (package_part end rest)
  by_data n spelled there rest _ some spells here o = refl

  by_opcode : (n : NameParts) (spelled there : List ℕ) (q : Reading CodeFault Opcode) → 0 < level → SpellsName n spelled → bytes ≡ 0x08 ∷ (spelled ++ there) → Judge (Opened there) (FailsOpcode end there) q
      → Judge (λ x. HeldName level why bytes x) (λ f. f ≡ why) (opened_data n why end q)
  by_opcode n spelled there (Err f) some spells here o = refl
  by_opcode n spelled there (Ok x) some spells here o = by_data n spelled there x.1 x.0 some spells here o

  by_name : (rest : List ℕ) (q : Reading CodeFault NameParts) → 0 < level → bytes ≡ 0x08 ∷ rest → Judge (Front SpellsName rest) (FailsName end rest) q
      → Judge (λ x. HeldName level why bytes x) (λ f. f ≡ why) (named_data why end q)
  by_name rest (Err f) some is k = refl
  by_name rest (Ok n) some is k = by_opcode n.0 k.front n.1 (opcode_at end n.1) some k.spells (is ∙ ap (λ (l : List ℕ). 0x08 ∷ l) k.whole) (opcode_opened end n.1)

  by_level : (left : ℕ) (rest : List ℕ) → left ≡ level → bytes ≡ 0x08 ∷ rest → Judge (λ x. HeldName level why bytes x) (λ f. f ≡ why) (name_at_level left why end rest)
  by_level zero rest same is = refl
  by_level (suc left) rest same is = by_name rest (name_in end rest) (omega (arith, same)) is (exact_name.judged end rest)

  pub contained_judged : (rest : List ℕ) (o : Opcode) → Opened bytes (o, rest) → Judge (Held level why bytes o) (λ f. f ≡ why) (contained_by level why end o rest)
  contained_judged rest opcodes.Buffer o = data_held datas.Buffer rest (package_at end rest) (opened opcodes.Buffer bytes rest o o.told.1) (package_part end rest)
  contained_judged rest opcodes.Package o = data_held datas.Package rest (package_at end rest) (opened opcodes.Package bytes rest o o.told.1) (package_part end rest)
  contained_judged rest opcodes.VarPackage o = data_held datas.VarPackage rest (package_at end rest) (opened opcodes.VarPackage bytes rest o o.told.1) (package_part end rest)
  contained_judged rest opcodes.DeclareName o = by_level level rest refl (opened opcodes.DeclareName bytes rest o o.told.1)
  contained_judged rest _ o = refl

-- ---- data begins exactly where something holds a fault

data_begins_there : (level : ℕ) (why : LostFault) (bytes : List ℕ) (form : DataForm) (x : NodeTree × List ℕ) → HeldData level why bytes x form → BeginsData level bytes
data_begins_there level why bytes form x h = inl (record { tree = (form, h.content); front = h.front; rest = x.1; spells = h.packs; whole = h.whole })

name_begins_there : (level : ℕ) (why : LostFault) (bytes : List ℕ) (x : NodeTree × List ℕ) → HeldName level why bytes x → BeginsData level bytes
name_begins_there level why bytes x h = inr (h.some, record { tree = (h.name, h.form); front = h.front; rest = x.1; spells = h.is_name; whole = h.whole })

held_begins : (level : ℕ) (why : LostFault) (bytes : List ℕ) (o : Opcode) (x : NodeTree × List ℕ) → Held level why bytes o x → BeginsData level bytes
held_begins level why bytes opcodes.Buffer x h = data_begins_there level why bytes datas.Buffer x h
held_begins level why bytes opcodes.Package x h = data_begins_there level why bytes datas.Package x h
held_begins level why bytes opcodes.VarPackage x h = data_begins_there level why bytes datas.VarPackage x h
held_begins level why bytes opcodes.DeclareName x h = name_begins_there level why bytes x h
held_begins level why bytes _ x h = absurd h

-- where no data begins nothing holds the fault
pub none_holds : (level : ℕ) (why : LostFault) (end : ℕ) (bytes rest : List ℕ) (o : Opcode) → Opened bytes (o, rest) → ¬ BeginsData level bytes → contained_by level why end o rest ≡ Err why
none_holds level why end bytes rest o there none = by_read (contained_by level why end o rest) (contained_judged level why end bytes rest o there)
  where
    by_read : (q : Reading LostFault NodeTree) → Judge (Held level why bytes o) (λ f. f ≡ why) q → q ≡ Err why
    by_read (Ok x) h = absurd (none (held_begins level why bytes o x h))
    by_read (Err f) h = ap Err h

abbrev read_node : NodeTree × List ℕ → Reading LostFault NodeTree
read_node x = Ok x

not_read : (f : LostFault) (x : NodeTree × List ℕ) → read_node x ≡ Err f → ⊥
not_read f x e = cc

declare_opens : (end : ℕ) (y : List ℕ) → opcode_at end (0x08 ∷ y) ≡ Ok (opcodes.DeclareName, y)
declare_opens end y = opens end opcodes.DeclareName y refl

-- where nothing does no data begins
pub no_data : (level : ℕ) (why : LostFault) (end : ℕ) (bytes rest : List ℕ) (o : Opcode) → opcode_at end bytes ≡ Ok (o, rest) → contained_by level why end o rest ≡ Err why → ¬ BeginsData level bytes
no_data level why end bytes rest o read_so e (inl b) =
    let form : DataForm = b.tree.0 in
    let y = b.spells.len ++ (b.tree.1 ++ b.rest) in
    let there : opcode_at end bytes ≡ Ok (data_opcode form, y) = ap (opcode_at end) (b.whole ∙ front_is (data_bytes form) b.front b.spells.len b.tree.1 b.rest b.spells.whole) ∙ data_begins form end y in
    let same = same_opcode (data_opcode form, y) (o, rest) (sym there ∙ read_so) in
    let read : contained_by level why end o rest ≡ read_node (data_lost form why, b.rest) =
    ap (λ (x : Opcode × List ℕ). contained_by level why end x.0 x.1) (sym same) ∙ data_given form level why end b.tree.1 b.front b.rest b.spells in
    not_read why (data_lost form why, b.rest) (sym read ∙ e)
no_data level why end bytes rest o read_so e (inr (some, b)) =
    let is = b.spells in
    let y = is.spelled ++ (is.packed ++ b.rest) in
    let all : bytes ≡ 0x08 ∷ y = b.whole ∙ ap (λ (l : List ℕ). l ++ b.rest) is.whole ∙ ap (λ (l : List ℕ). 0x08 ∷ l) (append_assoc is.spelled is.packed b.rest) in
    let there : opcode_at end bytes ≡ Ok (opcodes.DeclareName, y) = ap (opcode_at end) all ∙ declare_opens end y in
    let same = same_opcode (opcodes.DeclareName, y) (o, rest) (sym there ∙ read_so) in
    let read : contained_by level why end o rest ≡ read_node (name_lost b.tree.0 b.tree.1 why, b.rest) =
    ap (λ (x : Opcode × List ℕ). contained_by level why end x.0 x.1) (sym same) ∙ name_read b.tree.0 b.tree.1 level why end b.front b.rest some is in
    not_read why (name_lost b.tree.0 b.tree.1 why, b.rest) (sym read ∙ e)
