-- What is spelled is read: plain nodes, fixeds, packages.
use Rattle.std.proofs.Common.{◌≡◌, ◌⊎◌, ℕ, zero, suc, ◌-◌, ◌≤◌, Bool, true, false, ◌&&◌, cond, eqb, ltb, List, [], ◌∷◌, ◌++◌, length, Some, None, Result, Ok, refl, sym, ap, ◌∙◌, append_assoc, arith, inl, inr}
use Rattle.std.proofs.lemmas.Bool.{eqb-true, le-ltb}
use Rattle.acpi_name.specs.Names.{NameParts}
use Rattle.acpi_name.specs.Spelling.{SpellsName}
use Rattle.acpi_name.proofs.NameAgain.{and_true}
use Rattle.acpi_tree.specs.declared.tree.Int.TheVariants.{Zero}
use Rattle.acpi_tree.specs.declared.place.Place.{Place}
use Rattle.acpi_tree.specs.declared.place.Place.TheVariants.{Value, SuperName, Statement}
use Rattle.acpi_tree.specs.declared.place.OperandKind.{OperandKind}
use Rattle.acpi_tree.specs.declared.place.OperandKind.TheVariants.{At, Target, Byte, Word, DWord}
use Rattle.acpi_tree.specs.declared.place.NamedForm.{NamedForm}
use Rattle.acpi_tree.specs.declared.place.NamedForm.TheVariants as named
use Rattle.acpi_tree.specs.declared.place.UnitsForm.{UnitsForm}
use Rattle.acpi_tree.specs.declared.place.UnitsForm.TheVariants as fields
use Rattle.acpi_tree.specs.Tree.{ExternalParts}
use Rattle.acpi_tree.specs.Terms.{TermTree, TermTrees, int, str, buffer, pkg, var_pkg, local, arg, debug, raw, call, apply, if_do, while_do, declare, declare_units, no_terms, more, terms_of}
use Rattle.acpi_tree.specs.Operators.{names_of_units, operands_of_units}
use Rattle.acpi_tree.specs.Places.{is_raw}
use Rattle.acpi_code.specs.declared.opcode.Opcode.{Opcode}
use Rattle.acpi_code.specs.declared.opcode.Opcode.TheVariants as opcodes
use Rattle.acpi_code.specs.Opcodes.{opcode_bytes}
use Rattle.acpi_code.specs.Spelling.{SpellsEach, Packs}
use Rattle.acpi_code.specs.steps.Reading.{byte_at, opcode_at}
use Rattle.acpi_code.proofs.Names.{name_in_complete}
use Rattle.acpi_code.proofs.Numbers.{byte_complete}
use Rattle.acpi_code.proofs.Opcodes.{opens}
use Rattle.acpi_code.proofs.Packages.{front_is, package_complete}
use Rattle.acpi_code.specs.FixedArguments.{SpellsExternal}
use Rattle.acpi_values.specs.Grammars.{Grammar}
use Rattle.acpi_values.specs.Spelling.{Stands, StandsFor, Spells, AreOperands, height, heights}
use Rattle.acpi_code.specs.Forms.{named_opcode, units_opcode}
use Rattle.acpi_values.specs.steps.Reading.{operands_at, placed_by, constant_form, form_by, term_at}
use Rattle.acpi_values.proofs.Allowed.{lead_of, allowed_at}
use Rattle.acpi_values.proofs.TermComplete.{listed, terms_of-listed, form_complete, operands_complete, term_complete}
use Rattle.acpi_outline.specs.declared.form.ContainerForm.{ContainerForm}
use Rattle.acpi_outline.specs.declared.form.ContainerForm.TheVariants as containers
use Rattle.acpi_outline.specs.declared.form.PackedForm.{PackedForm}
use Rattle.acpi_outline.specs.declared.form.PackedForm.TheVariants as forms
use Rattle.acpi_outline.specs.declared.fault.LostFault.{LostFault}
use Rattle.acpi_outline.specs.Nodes.{PlainTree, term, external, alias, table_region, FixedTree, scope, container, method, if_so, otherwise, while_so, units, NodeTree, plain, form_of, container_opcode, form_opcode, form_bytes}
use Rattle.acpi_outline.specs.Rules.{Rules, grammar_at}
use Rattle.acpi_outline.specs.Outline.{operands_after, is_stray, SpellsPlain, first_heights, container_operands, IsPlain, IsTest, IsFixed}
use Rattle.acpi_outline.specs.steps.Reading.{first_in, named_in, external_in, term_in, alias_in, table_region_in, plain_by, plain_in, value_in, test_in, names_in, container_in, units_in, fixed_in, packed_by, packed_in, packed_form, nodes_at, node_at}
use Rattle.acpi_outline.proofs.Sources.{first_complete}

-- ---- plain nodes

-- what it begins with
abbrev pub plain_lead : PlainTree → Opcode
plain_lead (term (declare form before n behind)) = named_opcode form
plain_lead (term t) = lead_of t
plain_lead (external x) = opcodes.External
plain_lead (alias source n) = opcodes.Alias
plain_lead (table_region n vs) = opcodes.DataRegion

-- it is read behind its opcode, which begins the bytes
pub record Leads {S : Type 0} (r : Rules S) (level : ℕ) (known : S) (end : ℕ) (bytes : List ℕ) (p : PlainTree) (rest : List ℕ) : Type 0 where
  pub opcode : Opcode
  pub behind : List ℕ
  pub opens : opcode_at end bytes ≡ Ok (opcode, behind)
  pub lead : opcode ≡ plain_lead p
  pub no_form : packed_form opcode ≡ None
  pub reads : plain_by r level known end bytes opcode behind ≡ Ok (p, rest)

named_made : {S : Type 0} (r : Rules S) (level : ℕ) (known : S) (form : NamedForm) (end : ℕ) (n : NameParts) (us vs : List TermTree) (x a y rest : List ℕ)
    → first_in r level known form end x ≡ Ok (us, a ++ y) → SpellsName n a
    → operands_at (term_at (grammar_at r known) level) (operands_after form) end y ≡ Ok (vs, rest)
    → named_in r level known form end x ≡ Ok (term (declare form (terms_of us) n (terms_of vs)), rest)
unfolding named_in
named_made r level known form end n us vs x a y rest first hn o = rw (first, name_in_complete end n a y hn, o) refl

named_leads : {S : Type 0} (r : Rules S) (level : ℕ) (known : S) (form : NamedForm) (end : ℕ) (bytes x : List ℕ) (p : PlainTree) (rest : List ℕ)
    → named_opcode form ≡ plain_lead p → bytes ≡ opcode_bytes (named_opcode form) ++ x → named_in r level known form end x ≡ Ok (p, rest)
    → Leads r level known end bytes p rest
named_leads r level known named.Name end bytes x p rest lead is e = record { opcode = opcodes.DeclareName; behind = x; opens = ap (opcode_at end) is ∙ opens end opcodes.DeclareName x refl; lead = lead; no_form = refl; reads = e }
named_leads r level known (named.Create w) end bytes x p rest lead is e = record { opcode = opcodes.Create w; behind = x; opens = ap (opcode_at end) is ∙ opens end (opcodes.Create w) x refl; lead = lead; no_form = refl; reads = e }
named_leads r level known named.CreateField end bytes x p rest lead is e = record { opcode = opcodes.CreateField; behind = x; opens = ap (opcode_at end) is ∙ opens end opcodes.CreateField x refl; lead = lead; no_form = refl; reads = e }
named_leads r level known named.Region end bytes x p rest lead is e = record { opcode = opcodes.Region; behind = x; opens = ap (opcode_at end) is ∙ opens end opcodes.Region x refl; lead = lead; no_form = refl; reads = e }
named_leads r level known named.Mutex end bytes x p rest lead is e = record { opcode = opcodes.Mutex; behind = x; opens = ap (opcode_at end) is ∙ opens end opcodes.Mutex x refl; lead = lead; no_form = refl; reads = e }
named_leads r level known named.Event end bytes x p rest lead is e = record { opcode = opcodes.Event; behind = x; opens = ap (opcode_at end) is ∙ opens end opcodes.Event x refl; lead = lead; no_form = refl; reads = e }

declared_leads : {S : Type 0} (r : Rules S) (level : ℕ) (known : S) (end : ℕ) (form : NamedForm) (before : TermTrees) (n : NameParts) (behind : TermTrees) (b rest : List ℕ)
    → SpellsPlain r known (term (declare form before n behind)) b → first_heights before ≤ level → heights behind ≤ level
    → Leads r level known end (b ++ rest) (term (declare form before n behind)) rest
declared_leads r level known end form before n behind b rest (x, a, c, hb, hn, ho, whole) first last =
    let op = opcode_bytes (named_opcode form) in
    let is : b ++ rest ≡ op ++ (x ++ (a ++ (c ++ rest))) = rw whole (simp append_assoc) in
    let u = first_complete r level known form end before x (a ++ (c ++ rest)) hb first in
    let o = operands_complete (grammar_at r known) (operands_after form) behind level end c rest ho last in
    let made = named_made r level known form end n (listed before) (listed behind) (x ++ (a ++ (c ++ rest))) a (c ++ rest) rest u hn o in
    let same : term (declare form (terms_of (listed before)) n (terms_of (listed behind))) ≡ term (declare form before n behind) = rw (terms_of-listed before, terms_of-listed behind) refl in
    named_leads r level known form end (b ++ rest) (x ++ (a ++ (c ++ rest))) (term (declare form before n behind)) rest refl is
    (made ∙ ap (λ (t : PlainTree). Ok (t, rest)) same)

external_made : (end : ℕ) (x : ExternalParts) (a rest : List ℕ) → SpellsName x.name a → x.args ≤ 7 → external_in end (a ++ (x.kind ∷ x.args ∷ rest)) ≡ Ok (external x, rest)
unfolding external_in
external_made end x a rest hn few =
    let low : ltb 7 x.args ≡ false = le-ltb _ _ few in
    rw (name_in_complete end x.name a (x.kind ∷ x.args ∷ rest) hn, byte_complete end x.kind (x.args ∷ rest), byte_complete end x.args rest, low) refl

external_leads : {S : Type 0} (r : Rules S) (level : ℕ) (known : S) (end : ℕ) (x : ExternalParts) (b rest : List ℕ) → SpellsExternal x b → Leads r level known end (b ++ rest) (external x) rest
external_leads r level known end x b rest (q, (a, y, hn, (k, z, hk, (c, w, hc, none, e3), e2), e1), whole) =
    let inner : y ≡ x.kind ∷ x.args ∷ [] = e2 ∙ rw (hk, e3, hc.1, none) refl in
    let is : b ++ rest ≡ 0x15 ∷ (a ++ (x.kind ∷ x.args ∷ rest)) = rw (whole, e1, inner) (ap (λ (l : List ℕ). 0x15 ∷ l) (append_assoc a (x.kind ∷ x.args ∷ []) rest)) in
    record {
      opcode = opcodes.External;
      behind = a ++ (x.kind ∷ x.args ∷ rest);
      opens = ap (opcode_at end) is ∙ opens end opcodes.External (a ++ (x.kind ∷ x.args ∷ rest)) refl;
      lead = refl;
      no_form = refl;
      reads = external_made end x a rest hn hc.0;
    }

term_made : {S : Type 0} (r : Rules S) (level : ℕ) (known : S) (place : Place) (end : ℕ) (t : TermTree) (bytes rest : List ℕ)
    → term_at (grammar_at r known) (suc level) place end bytes ≡ Ok (t, rest) → term_in r level known place end bytes ≡ Ok (term t, rest)
unfolding term_in
term_made r level known place end t bytes rest e = rw e refl

-- what was read of a term that begins with its opcode
abbrev Formed : {S : Type 0} → Rules S → ℕ → S → Place → ℕ → TermTree → List ℕ → List ℕ → Type 0
Formed r level known place end t bytes rest =
    (x : List ℕ) × (opcode_at end bytes ≡ Ok (lead_of t, x)) × (term_in r level known place end bytes ≡ Ok (term t, rest))

formed : {S : Type 0} (r : Rules S) (level : ℕ) (known : S) (place : Place) (end : ℕ) (t : TermTree) (b rest : List ℕ) → Stands place t → Spells (grammar_at r known) t b
    → height t ≤ suc level → Formed r level known place end t (b ++ rest) rest
formed r level known place end t b rest st h le =
    let f = form_complete (grammar_at r known) t level place end b rest (allowed_at (grammar_at r known) place t b st h) h le in
    (f.0, f.1, term_made r level known place end t (b ++ rest) rest (term_complete (grammar_at r known) t (suc level) place end b rest st h le))

statement_leads : {S : Type 0} (r : Rules S) (level : ℕ) (known : S) (end : ℕ) (t : TermTree) (b bytes rest : List ℕ) → Stands Statement t → Spells (grammar_at r known) t b
    → Formed r level known Statement end t bytes rest → Leads r level known end bytes (term t) rest
statement_leads r level known end (buffer size content) b bytes rest st h f = record { opcode = opcodes.Buffer; behind = f.0; opens = f.1; lead = refl; no_form = refl; reads = f.2 }
statement_leads r level known end (pkg count es) b bytes rest st h f = record { opcode = opcodes.Package; behind = f.0; opens = f.1; lead = refl; no_form = refl; reads = f.2 }
statement_leads r level known end (var_pkg count es) b bytes rest st h f = record { opcode = opcodes.VarPackage; behind = f.0; opens = f.1; lead = refl; no_form = refl; reads = f.2 }
statement_leads r level known end (call n vs) b bytes rest st h f = record { opcode = opcodes.Name; behind = f.0; opens = f.1; lead = refl; no_form = refl; reads = f.2 }
statement_leads r level known end (apply op vs) b bytes rest st h f = record { opcode = opcodes.Operator op; behind = f.0; opens = f.1; lead = refl; no_form = refl; reads = f.2 }
statement_leads r level known end (if_do v ts e) b bytes rest st h f = absurd h
statement_leads r level known end (while_do v ts) b bytes rest st h f = absurd h
statement_leads r level known end (declare form before n behind) b bytes rest st h f = absurd h
statement_leads r level known end (declare_units form ns vs es) b bytes rest st h f = absurd h
statement_leads r level known end _ b bytes rest st h f = absurd cc

-- where a stray stands
abbrev stray_place : TermTree → Place
stray_place debug = SuperName
stray_place _ = Value

stray_stands : (t : TermTree) → is_stray t ≡ true → Stands (stray_place t) t
stray_stands (int i) st = refl
stray_stands (str text) st = refl
stray_stands (local n) st = refl
stray_stands (arg n) st = refl
stray_stands debug st = refl
stray_stands _ st = absurd cc

stray_leads : {S : Type 0} (r : Rules S) (level : ℕ) (known : S) (end : ℕ) (t : TermTree) (bytes rest : List ℕ) → is_stray t ≡ true
    → Formed r level known (stray_place t) end t bytes rest → Leads r level known end bytes (term t) rest
stray_leads r level known end (int i) bytes rest st f = record { opcode = lead_of (int i); behind = f.0; opens = f.1; lead = refl; no_form = refl; reads = f.2 }
stray_leads r level known end (str text) bytes rest st f = record { opcode = opcodes.Str; behind = f.0; opens = f.1; lead = refl; no_form = refl; reads = f.2 }
stray_leads r level known end (local n) bytes rest st f = record { opcode = opcodes.Local n; behind = f.0; opens = f.1; lead = refl; no_form = refl; reads = f.2 }
stray_leads r level known end (arg n) bytes rest st f = record { opcode = opcodes.Arg n; behind = f.0; opens = f.1; lead = refl; no_form = refl; reads = f.2 }
stray_leads r level known end debug bytes rest st f = record { opcode = opcodes.Debug; behind = f.0; opens = f.1; lead = refl; no_form = refl; reads = f.2 }
stray_leads r level known end _ bytes rest st f = absurd cc

term_leads : {S : Type 0} (r : Rules S) (level : ℕ) (known : S) (end : ℕ) (t : TermTree) (b rest : List ℕ) → Stands Statement t ⊎ (is_stray t ≡ true) → Spells (grammar_at r known) t b
    → height t ≤ suc level → Leads r level known end (b ++ rest) (term t) rest
term_leads r level known end t b rest (inl st) h le = statement_leads r level known end t b (b ++ rest) rest st h (formed r level known Statement end t b rest st h le)
term_leads r level known end t b rest (inr st) h le =
    stray_leads r level known end t (b ++ rest) rest st (formed r level known (stray_place t) end t b rest (stray_stands t st) h le)

alias_made : (end : ℕ) (source n : NameParts) (a b rest : List ℕ) → SpellsName source a → SpellsName n b → alias_in end (a ++ (b ++ rest)) ≡ Ok (alias source n, rest)
unfolding alias_in
alias_made end source n a b rest hs hn = rw (name_in_complete end source a (b ++ rest) hs, name_in_complete end n b rest hn) refl

alias_leads : {S : Type 0} (r : Rules S) (level : ℕ) (known : S) (end : ℕ) (source n : NameParts) (b rest : List ℕ) → SpellsPlain r known (alias source n) b
    → Leads r level known end (b ++ rest) (alias source n) rest
alias_leads r level known end source n b rest (x, y, hs, hn, whole) =
    let is : b ++ rest ≡ 0x06 ∷ (x ++ (y ++ rest)) = rw whole (ap (λ (l : List ℕ). 0x06 ∷ l) (append_assoc x y rest)) in
    record {
      opcode = opcodes.Alias;
      behind = x ++ (y ++ rest);
      opens = ap (opcode_at end) is ∙ opens end opcodes.Alias (x ++ (y ++ rest)) refl;
      lead = refl;
      no_form = refl;
      reads = alias_made end source n x y rest hs hn;
    }

region_made : {S : Type 0} (r : Rules S) (level : ℕ) (known : S) (end : ℕ) (n : NameParts) (vs : List TermTree) (a y rest : List ℕ) → SpellsName n a
    → operands_at (term_at (grammar_at r known) level) (At Value ∷ At Value ∷ At Value ∷ []) end y ≡ Ok (vs, rest)
    → table_region_in r level known end (a ++ y) ≡ Ok (table_region n (terms_of vs), rest)
unfolding table_region_in
region_made r level known end n vs a y rest hn o = rw (name_in_complete end n a y hn, o) refl

region_leads : {S : Type 0} (r : Rules S) (level : ℕ) (known : S) (end : ℕ) (n : NameParts) (vs : TermTrees) (b rest : List ℕ) → SpellsPlain r known (table_region n vs) b
    → heights vs ≤ level → Leads r level known end (b ++ rest) (table_region n vs) rest
region_leads r level known end n vs b rest (x, y, hn, ho, whole) le =
    let is : b ++ rest ≡ 0x5B ∷ 0x88 ∷ (x ++ (y ++ rest)) = rw whole (ap (λ (l : List ℕ). 0x5B ∷ 0x88 ∷ l) (append_assoc x y rest)) in
    let o = operands_complete (grammar_at r known) (At Value ∷ At Value ∷ At Value ∷ []) vs level end y rest ho le in
    let same : table_region n (terms_of (listed vs)) ≡ table_region n vs = rw (terms_of-listed vs) refl in
    record {
      opcode = opcodes.DataRegion;
      behind = x ++ (y ++ rest);
      opens = ap (opcode_at end) is ∙ opens end opcodes.DataRegion (x ++ (y ++ rest)) refl;
      lead = refl;
      no_form = refl;
      reads = region_made r level known end n (listed vs) x (y ++ rest) rest hn o ∙ ap (λ (p : PlainTree). Ok (p, rest)) same;
    }

pub plain_leads : {S : Type 0} (r : Rules S) (level : ℕ) (known : S) (end : ℕ) (p : PlainTree) (b rest : List ℕ) → IsPlain r (suc level) known p b → Leads r level known end (b ++ rest) p rest
plain_leads r level known end (term (declare form before n behind)) b rest h =
    declared_leads r level known end form before n behind b rest h.spells (omega (arith, h.within)) (omega (arith, h.within))
plain_leads r level known end (term t) b rest h = term_leads r level known end t b rest h.spells.0 h.spells.1 h.within
plain_leads r level known end (external x) b rest h = external_leads r level known end x b rest h.spells
plain_leads r level known end (alias source n) b rest h = alias_leads r level known end source n b rest h.spells
plain_leads r level known end (table_region n vs) b rest h = region_leads r level known end n vs b rest h.spells (omega (arith, h.within))

pub leads_in : {S : Type 0} (r : Rules S) (level : ℕ) (known : S) (end : ℕ) (p : PlainTree) (bytes rest : List ℕ) (l : Leads r level known end bytes p rest)
    → plain_in r level known end bytes l.opcode l.behind ≡ Ok (plain p, rest)
unfolding plain_in
leads_in r level known end p bytes rest l = rw l.reads refl

leads_on : {S : Type 0} (r : Rules S) (level : ℕ) (known : S) (end : ℕ) (p : PlainTree) (bytes rest : List ℕ) → Leads r level known end bytes p rest
    → node_at r (suc level) known end bytes ≡ Ok (plain p, rest)
unfolding node_at plain_in
leads_on r level known end p bytes rest l = rw (l.opens, l.no_form, l.reads) refl

pub plain_complete : {S : Type 0} (r : Rules S) (level : ℕ) (known : S) (end : ℕ) (p : PlainTree) (b rest : List ℕ) → IsPlain r (suc level) known p b
    → node_at r (suc level) known end (b ++ rest) ≡ Ok (plain p, rest)
plain_complete r level known end p b rest h = leads_on r level known end p (b ++ rest) rest (plain_leads r level known end p b rest h)

-- ---- fixed arguments

value_complete : {S : Type 0} (r : Rules S) (level : ℕ) (known : S) (end : ℕ) (v : TermTree) (a rest : List ℕ) → IsTest r level known v a → height v ≤ level
    → value_in r level known end (a ++ rest) ≡ Ok (v, rest)
value_complete r level known end v a rest h le = rw (term_complete (grammar_at r known) v level Value end a rest h.stands h.spells le) refl

abbrev read_value : TermTree × List ℕ → Result (TermTree × List ℕ) LostFault
read_value x = Ok x

-- a value that begins with the byte 00 is that byte
zero_value : {S : Type 0} (r : Rules S) (level : ℕ) (known : S) (end : ℕ) (rest : List ℕ) (x : TermTree × List ℕ) → value_in r level known end (0 ∷ rest) ≡ read_value x
    → read_value (int Zero, rest) ≡ read_value x
unfolding term_at placed_by form_by constant_form opcode_at byte_at
zero_value r zero known end rest x e = absurd cc
zero_value r (suc level) known end rest x e = e

value_is_test : {S : Type 0} (r : Rules S) (level : ℕ) (known : S) (end : ℕ) (bytes : List ℕ) (x : TermTree × List ℕ) → value_in r level known end bytes ≡ Ok x
    → test_in r level known end bytes ≡ Ok x
value_is_test r level known end [] x e = e
value_is_test r level known end (b ∷ rest) x e = by_test (eqb b 0) refl
  where
    by_test : (t : Bool) → eqb b 0 ≡ t → cond t (Ok (int Zero, rest)) (value_in r level known end (b ∷ rest)) ≡ read_value x
    by_test true t = zero_value r level known end rest x (ap (λ k. value_in r level known end (k ∷ rest)) (sym (eqb-true b 0 t)) ∙ e)
    by_test false t = e

test_complete : {S : Type 0} (r : Rules S) (level : ℕ) (known : S) (end : ℕ) (v : TermTree) (a rest : List ℕ) → IsTest r level known v a → test_in r level known end (a ++ rest) ≡ Ok (v, rest)
test_complete r level known end (int Zero) a rest h = rw h.spells refl
test_complete r level known end v a rest h = value_is_test r level known end (a ++ rest) (v, rest) (value_complete r level known end v a rest h h.within)

pub names_complete : (ns : List NameParts) (end : ℕ) (a rest : List ℕ) → SpellsEach SpellsName ns a → names_in (length ns) end (a ++ rest) ≡ Ok (ns, rest)
unfolding names_in
names_complete [] end a rest h = rw h refl
names_complete (n ∷ ns) end a rest (x, y, hn, hs, whole) =
    rw (whole, append_assoc x y rest, name_in_complete end n x (y ++ rest) hn, names_complete ns end y rest hs) refl

-- numbers have no level
abbrev is_number : OperandKind → Bool
is_number (At place) = false
is_number Target = false
is_number _ = true

number_low : (k : ℕ) (t : TermTree) → is_raw k t ≡ true → height t ≡ 0
number_low k (raw j n) h = refl
number_low k _ h = absurd cc

numbers_low : (grammar : Grammar) (k : OperandKind) (t : TermTree) → is_number k ≡ true → StandsFor k t → height t ≡ 0
numbers_low grammar Byte t ok h = number_low 1 t h
numbers_low grammar Word t ok h = number_low 2 t h
numbers_low grammar DWord t ok h = number_low 4 t h
numbers_low grammar (At place) t ok h = absurd cc
numbers_low grammar Target t ok h = absurd cc

abbrev are_numbers : List OperandKind → Bool
are_numbers [] = true
are_numbers (k ∷ ks) = is_number k && are_numbers ks

all_low : (grammar : Grammar) (ks : List OperandKind) (ts : TermTrees) (b : List ℕ) → are_numbers ks ≡ true → AreOperands grammar ks ts b → heights ts ≡ 0
all_low grammar [] no_terms b ok h = refl
all_low grammar (k ∷ ks) no_terms b ok h = absurd h
all_low grammar [] (more t ts) b ok h = absurd h
all_low grammar (k ∷ ks) (more t ts) b ok (x, y, st, ht, hs, whole) =
    let oks = and_true (is_number k) (are_numbers ks) ok in
    rw (numbers_low grammar k t oks.0 st, all_low grammar ks ts y oks.1 hs) refl

container_numbers : (form : ContainerForm) → are_numbers (container_operands form) ≡ true
container_numbers containers.Device = refl
container_numbers containers.Processor = refl
container_numbers containers.Power = refl
container_numbers containers.Thermal = refl

container_complete : {S : Type 0} (r : Rules S) (level : ℕ) (known : S) (end : ℕ) (form : ContainerForm) (n : NameParts) (vs : TermTrees) (a rest : List ℕ)
    → IsFixed r level known (container form n vs) a → container_in r level known form end (a ++ rest) ≡ Ok (container form n vs, rest)
unfolding container_in
container_complete r level known end form n vs a rest (x, y, hn, ho, whole) =
    let low = all_low (grammar_at r known) (container_operands form) vs y (container_numbers form) ho in
    let o = operands_complete (grammar_at r known) (container_operands form) vs level end y rest ho (omega (arith, low)) in
    rw (whole, append_assoc x y rest, name_in_complete end n x (y ++ rest) hn, o) (ap (λ ts. Ok (container form n ts, rest)) (terms_of-listed vs))

units_complete : {S : Type 0} (r : Rules S) (level : ℕ) (known : S) (end : ℕ) (form : UnitsForm) (ns : List NameParts) (vs : TermTrees) (a rest : List ℕ)
    → IsFixed r level known (units form ns vs) a → units_in r level known form end (a ++ rest) ≡ Ok (units form ns vs, rest)
unfolding units_in
units_complete r level known end form ns vs a rest (h, within) =
    let whole : a ++ rest ≡ h.names ++ (h.operands ++ rest) = ap (λ (l : List ℕ). l ++ rest) h.whole ∙ append_assoc h.names h.operands rest in
    let n : names_in (names_of_units form) end (h.names ++ (h.operands ++ rest)) ≡ Ok (ns, h.operands ++ rest) =
    ap (λ k. names_in k end (h.names ++ (h.operands ++ rest))) (sym h.all_names) ∙ names_complete ns end h.names (h.operands ++ rest) h.are_names in
    let o = operands_complete (grammar_at r known) (operands_of_units form) vs level end h.operands rest h.are_operands within in
    rw (whole, n, o) (ap (λ ts. Ok (units form ns ts, rest)) (terms_of-listed vs))

pub fixed_complete : {S : Type 0} (r : Rules S) (level : ℕ) (known : S) (end : ℕ) (f : FixedTree) (a rest : List ℕ) → IsFixed r level known f a
    → fixed_in r level known (form_of f) end (a ++ rest) ≡ Ok (f, rest)
unfolding fixed_in
fixed_complete r level known end (scope n) a rest h = rw (name_in_complete end n a rest h) refl
fixed_complete r level known end (container form n vs) a rest h = container_complete r level known end form n vs a rest h
fixed_complete r level known end (method n flags) a rest (x, hn, whole) =
    rw (whole, append_assoc x (flags ∷ []) rest, name_in_complete end n x (flags ∷ rest) hn, byte_complete end flags rest) refl
fixed_complete r level known end (if_so v) a rest h = rw (test_complete r level known end v a rest h) refl
fixed_complete r level known end otherwise a rest h = rw h refl
fixed_complete r level known end (while_so v) a rest h = rw (test_complete r level known end v a rest h) refl
fixed_complete r level known end (units form ns vs) a rest h = units_complete r level known end form ns vs a rest h

-- ---- packages

container_opens : (form : ContainerForm) (end : ℕ) (x : List ℕ) → opcode_at end (opcode_bytes (container_opcode form) ++ x) ≡ Ok (container_opcode form, x)
container_opens containers.Device end x = opens end opcodes.Device x refl
container_opens containers.Processor end x = opens end opcodes.Processor x refl
container_opens containers.Power end x = opens end opcodes.Power x refl
container_opens containers.Thermal end x = opens end opcodes.Thermal x refl

units_open : (form : UnitsForm) (end : ℕ) (x : List ℕ) → opcode_at end (opcode_bytes (units_opcode form) ++ x) ≡ Ok (units_opcode form, x)
units_open fields.Field end x = opens end opcodes.Field x refl
units_open fields.IndexField end x = opens end opcodes.IndexField x refl
units_open fields.BankField end x = opens end opcodes.BankField x refl

pub form_opens : (form : PackedForm) (end : ℕ) (x : List ℕ) → opcode_at end (form_bytes form ++ x) ≡ Ok (form_opcode form, x)
form_opens forms.Scope end x = opens end opcodes.Scope x refl
form_opens (forms.Container form) end x = container_opens form end x
form_opens forms.Method end x = opens end opcodes.Method x refl
form_opens forms.If end x = opens end opcodes.If x refl
form_opens forms.Else end x = opens end opcodes.Else x refl
form_opens forms.While end x = opens end opcodes.While x refl
form_opens (forms.Units form) end x = units_open form end x

pub form_packs : (form : PackedForm) → packed_form (form_opcode form) ≡ Some form
form_packs forms.Scope = refl
form_packs (forms.Container containers.Device) = refl
form_packs (forms.Container containers.Processor) = refl
form_packs (forms.Container containers.Power) = refl
form_packs (forms.Container containers.Thermal) = refl
form_packs forms.Method = refl
form_packs forms.If = refl
form_packs forms.Else = refl
form_packs forms.While = refl
form_packs (forms.Units fields.Field) = refl
form_packs (forms.Units fields.IndexField) = refl
form_packs (forms.Units fields.BankField) = refl

-- what a package is read as
abbrev pub packed : {S : Type 0} → Rules S → ℕ → ℕ → ℕ → S → PackedForm → List ℕ → NodeTree
packed r level place end known form content = packed_by r (nodes_at r level) place known form end (fixed_in r level known form end content)

pub packed_complete : {S : Type 0} (r : Rules S) (level : ℕ) (known : S) (end : ℕ) (form : PackedForm) (content a rest : List ℕ) → Packs (form_bytes form) content a
    → node_at r (suc level) known end (a ++ rest) ≡ Ok (packed r level (end - length (a ++ rest)) (end - length rest) known form content, rest)
unfolding node_at packed_in
packed_complete r level known end form content a rest h =
    let is = front_is (form_bytes form) a h.len content rest h.whole in
    rw (is, form_opens form end (h.len ++ (content ++ rest)), form_packs form, package_complete end h.len content rest h.spells_len) refl
