-- Nodes that are read stand for their bytes, and where reading stops they fail so.
use Rattle.std.proofs.Common.{◌≡◌, ℕ, zero, suc, ◌-◌, ◌+◌, ◌≤◌, ◌<◌, Bool, true, false, List, [], ◌∷◌, ◌++◌, length, None, Result, Ok, Err, refl, sym, ap, subst, ◌∙◌, append_assoc, arith, inl, inr}
use Rattle.std.proofs.lemmas.List.{length-append, append-nil}
use Rattle.acpi_code.specs.declared.fault.CodeFault.{CodeFault}
use Rattle.acpi_code.specs.declared.opcode.Opcode.{Opcode}
use Rattle.acpi_code.specs.declared.opcode.Opcode.TheVariants as opcodes
use Rattle.acpi_code.specs.Faults.{FailsBehind, FailsOpcode, FailsByOpcode}
use Rattle.acpi_code.specs.Opcodes as code
use Rattle.acpi_code.specs.Spelling.{Packs}
use Rattle.acpi_code.specs.steps.Opcodes.{first_opcode}
use Rattle.acpi_code.specs.steps.Reading.{◌>>=◌, Reading, Package, package_at, opcode_at}
use Rattle.acpi_code.proofs.Exact.{package_judged}
use Rattle.acpi_code.proofs.Opcodes.{Opened, opcode_opened, first_begins}
use Rattle.acpi_code.proofs.Packages.{PackageFront}
use Rattle.acpi_code.proofs.Readings.{Judge, judge_bind, judge_into, Front}
use Rattle.acpi_tree.specs.declared.place.NamedForm.TheVariants as named
use Rattle.acpi_tree.specs.declared.place.Place.TheVariants.{Value, Statement}
use Rattle.acpi_tree.specs.declared.place.UnitsForm.TheVariants as fields
use Rattle.acpi_values.specs.steps.Reading.{term_at}
use Rattle.acpi_outline.specs.declared.form.DataForm.{DataForm}
use Rattle.acpi_outline.specs.declared.form.DataForm.TheVariants as datas
use Rattle.acpi_outline.specs.declared.form.ContainerForm.TheVariants as containers
use Rattle.acpi_outline.specs.declared.form.PackedForm.{PackedForm}
use Rattle.acpi_outline.specs.declared.form.PackedForm.TheVariants as forms
use Rattle.acpi_outline.specs.declared.fault.LostFault.{LostFault}
use Rattle.acpi_values.specs.Faults.{IsTermAt}
use Rattle.acpi_outline.specs.Nodes.{PlainTree, term, data_opcode, FixedTree, NodeTree, plain, form_of, form_opcode, form_bytes, data_bytes, data_lost, name_lost, has_fields}
use Rattle.acpi_outline.specs.Rules.{Rules, grammar_at, goes_into, after}
use Rattle.acpi_outline.specs.Spelling.{IsPlain, IsFixed, BeginsData}
use Rattle.acpi_outline.specs.Faults.{part_fault, FailsFixed, FailsTermAt, FailsPlain, FailsLength, FailsBegun, FailsNode}
use Rattle.acpi_outline.specs.Outline.{IsNode, AreNodes, AreFields}
use Rattle.acpi_outline.specs.steps.Reading.{part, of_term, plain_by, plain_in, term_in, named_in, fixed_in, Nodes, filled_by, packed_by, packed_in, packed_form, node_by, then_nodes, nodes_with, nodes_at, node_at, contained_by, or_contained, unentered, fields_at}
use Rattle.acpi_outline.proofs.Data.{HeldData, HeldName, Held, contained_judged, no_data, data_allowed, data_clear, data_begins, fails_alone, named_fails}
use Rattle.acpi_outline.proofs.FieldLists.{fields_are}
use Rattle.acpi_outline.proofs.FixedArguments.{FixedOf, fixed_judged}
use Rattle.acpi_outline.proofs.Parts.{term_part, term_here_judged, bad_of, begins_so}
use Rattle.acpi_outline.proofs.Sound.{Plain, opened, behind_judged, plain_judged}

-- ---- what was read

pub record GoodNode {S : Type 0} (r : Rules S) (left : ℕ) (known : S) (end : ℕ) (bytes : List ℕ) (x : NodeTree × List ℕ) : Type 0 where
  pub inside : ℕ
  pub levels : left ≡ suc inside
  pub front : List ℕ
  pub whole : bytes ≡ front ++ x.1
  pub long : 0 < length front
  pub is_node : IsNode r inside (end - length bytes) (end - length x.1) known x.0 front

pub form_long : (form : PackedForm) → 0 < length (form_bytes form)
form_long forms.Scope = omega arith
form_long (forms.Container containers.Device) = omega arith
form_long (forms.Container containers.Processor) = omega arith
form_long (forms.Container containers.Power) = omega arith
form_long (forms.Container containers.Thermal) = omega arith
form_long (forms.Units fields.Field) = omega arith
form_long (forms.Units fields.IndexField) = omega arith
form_long (forms.Units fields.BankField) = omega arith
form_long _ = omega arith

pub data_long : (form : DataForm) → 0 < length (data_bytes form)
data_long datas.Buffer = omega arith
data_long datas.Package = omega arith
data_long datas.VarPackage = omega arith

-- a reading that was made into another failed itself
bind_fails : {A B F : Type 0} (q : Result A F) (made : A → B) (f : F) → (q >>= λ x. Ok (made x)) ≡ Err f → q ≡ Err f
bind_fails (Ok x) made f e = absurd cc
bind_fails (Err g) made f e = cc

module _ {S : Type 0} (r : Rules S) where
  abbrev InnerNodes : ℕ → Nodes S → Type 0
  InnerNodes level inner = (known : S) (end : ℕ) (bytes : List ℕ) → AreNodes r level end known (inner known end bytes) bytes

  module _ (level : ℕ) (known : S) where
    abbrev Good : ℕ → List ℕ → NodeTree × List ℕ → Type 0
    Good end bytes = GoodNode r (suc level) known end bytes

    -- ---- packages

    module _ (inner : Nodes S) (i : InnerNodes level inner) where
      -- not gone into
      unentered_is : (place end inner_end : ℕ) (front bytes content : List ℕ) (f : FixedTree) (u : Bool) → has_fields f ≡ u → inner_end ≡ end → goes_into r known f ≡ false → IsFixed r level known f front
          → Packs (form_bytes (form_of f)) (front ++ content) bytes → IsNode r level place end known (unentered f inner_end content u) bytes
      unentered_is place end inner_end front bytes content f true has ends goes is_fixed packs =
          let are = subst (λ e. AreFields e 0 (fields_at inner_end content) content) ends (fields_are inner_end content) in
          (front, content, is_fixed, goes, are, packs, has)
      unentered_is place end inner_end front bytes content f false has ends goes is_fixed packs = (front, is_fixed, goes, packs, has)

      -- gone into or not
      entered_is : (place end inner_end : ℕ) (front bytes content : List ℕ) (f : FixedTree) (b : Bool) → inner_end ≡ end → goes_into r known f ≡ b → IsFixed r level known f front
          → Packs (form_bytes (form_of f)) (front ++ content) bytes → IsNode r level place end known (filled_by r inner place known f b inner_end content) bytes
      entered_is place end inner_end front bytes content f true ends goes is_fixed packs =
          let k = r.enter known place f in
          let are = subst (λ e. AreNodes r level e k (inner k inner_end content) content) ends (i k inner_end content) in
          (front, content, is_fixed, goes, are, packs)
      entered_is place end inner_end front bytes content f false ends goes is_fixed packs =
          unentered_is place end inner_end front bytes content f (has_fields f) refl ends goes is_fixed packs

      -- .. behind fixed arguments, or none of them
      fronted_is : (place end inner_end : ℕ) (bytes content : List ℕ) (form : PackedForm) (fr : Reading LostFault FixedTree) → inner_end ≡ end
          → Packs (form_bytes form) content bytes → Judge (Front (FixedOf r level known form) content) (FailsFixed r level known form inner_end content) fr
          → IsNode r level place end known (packed_by r inner place known form inner_end fr) bytes
      fronted_is place end inner_end bytes content form (Ok f) ends packs g =
          let here : Packs (form_bytes (form_of f.0)) (g.front ++ f.1) bytes = rw (g.spells.0, sym g.whole) packs in
          entered_is place end inner_end g.front bytes f.1 f.0 (goes_into r known f.0) ends refl g.spells.1 here
      fronted_is place end inner_end bytes content form (Err why) ends packs bad =
          (content, subst (λ e. FailsFixed r level known form e content why) ends bad, packs)

      packed_judged : (form : PackedForm) (end : ℕ) (bytes rest : List ℕ) → bytes ≡ form_bytes form ++ rest
          → Judge (Good end bytes) (FailsBehind (form_bytes form) FailsLength end bytes) (packed_in r level inner (end - length bytes) known form end rest)
      unfolding packed_in
      packed_judged form end bytes rest is =
          let op = form_bytes form in
          behind_judged op FailsLength (Good end bytes) end bytes rest _ is
          (package_judged part_fault (λ end content f. ⊥) (Good end bytes) end rest _ (λ p g.
          let front = op ++ (g.len ++ p.content) in
          record {
            inside = level;
            levels = refl;
            front = front;
            whole = is ∙ ap (λ (l : List ℕ). op ++ l) (g.whole ∙ sym (append_assoc g.len p.content p.rest)) ∙ sym (append_assoc op (g.len ++ p.content) p.rest);
            long = omega (arith, form_long form, length-append op (g.len ++ p.content));
            is_node = fronted_is (end - length bytes) (end - length p.rest) p.end front p.content form (fixed_in r level known form p.end p.content) g.ends
                (record { len = g.len; spells_len = g.spells_len; whole = refl }) (fixed_judged r level known form p.end p.content);
          }))

    -- ---- plain nodes, and what holds their faults

    plain_good : (end : ℕ) (bytes : List ℕ) (p : PlainTree × List ℕ) → Plain r level known bytes p → Good end bytes (plain p.0, p.1)
    plain_good end bytes p g = record {
      inside = level;
      levels = refl;
      front = g.front;
      whole = g.whole;
      long = g.spells.long;
      is_node = record { spells = g.spells.spells; within = g.spells.within };
    }

    -- a statement that is data, up to its own end
    data_alone : (form : DataForm) (end : ℕ) (content a : List ℕ) (why : LostFault) → Packs (data_bytes form) content a
        → of_term (term_at (grammar_at r known) (suc level) Statement end a) ≡ Err why → FailsTermAt r (suc level) known Statement end a why
    data_alone form end content a why packs e =
        let read = ap (opcode_at end) packs.whole ∙ data_begins form end (packs.len ++ content) in
        bad_of (Front (IsTermAt (grammar_at r known) (suc level) Statement) a) (FailsTermAt r (suc level) known Statement end a) (of_term (term_at (grammar_at r known) (suc level) Statement end a)) why
        (term_here_judged r level known Statement end a (packs.len ++ content) (data_opcode form) (data_clear form) read) e

    data_good : (form : DataForm) (why : LostFault) (end : ℕ) (bytes : List ℕ) (x : NodeTree × List ℕ) → term_in r level known Statement end bytes ≡ Err why → HeldData level why bytes x form → Good end bytes x
    unfolding term_in
    data_good form why end bytes x fails h =
        let g = grammar_at r known in
        let last = end - length x.1 in
        let long : of_term (term_at g (suc level) Statement end (h.front ++ x.1)) ≡ Err why =
        ap (λ (l : List ℕ). of_term (term_at g (suc level) Statement end l)) (sym h.whole) ∙ bind_fails (of_term (term_at g (suc level) Statement end bytes)) (λ t. (term t.0, t.1)) why fails in
        let short = fails_alone r level known Statement end form h.content h.front x.1 (data_allowed g.loads form).0 h.packs why long in
        let node : IsNode r level (end - length bytes) last known (data_lost form why) h.front = (h.content, h.packs, data_alone form last h.content h.front why h.packs short) in
        record {
          inside = level;
          levels = refl;
          front = h.front;
          whole = h.whole;
          long = omega (arith, data_long form, ap length h.packs.whole, length-append (data_bytes form) (h.packs.len ++ h.content));
          is_node = subst (λ n. IsNode r level (end - length bytes) last known n h.front) (sym h.is) node;
        }

  -- the value of a Name, up to its own end
  value_alone : (level : ℕ) (known : S) (form : DataForm) (end : ℕ) (content a rest : List ℕ) (why : LostFault) → 0 < level → Packs (data_bytes form) content a
      → of_term (term_at (grammar_at r known) level Value end (a ++ rest)) ≡ Err why → FailsTermAt r level known Value (end - length rest) a why
  value_alone zero known form end content a rest why some packs e = absurd (omega arith)
  value_alone (suc level) known form end content a rest why some packs e =
      let g = grammar_at r known in
      let last = end - length rest in
      bad_of (Front (IsTermAt g (suc level) Value) a) (FailsTermAt r (suc level) known Value last a) (of_term (term_at g (suc level) Value last a)) why
      ((term_part r (suc level) known Value refl).judged last a)
      (fails_alone r level known Value end form content a rest (data_allowed g.loads form).1 packs why e)

  name_good : (level : ℕ) (known : S) (why : LostFault) (end : ℕ) (bytes rest : List ℕ) (x : NodeTree × List ℕ) → bytes ≡ 0x08 ∷ rest → named_in r level known named.Name end rest ≡ Err why → HeldName level why bytes x
      → GoodNode r (suc level) known end bytes x
  name_good level known why end bytes rest x is fails h =
      let last = end - length x.1 in
      let n = h.is_name in
      let there : rest ≡ n.spelled ++ (n.packed ++ x.1) = same_tail rest (n.spelled ++ (n.packed ++ x.1)) (sym is ∙ h.whole ∙ ap (λ (l : List ℕ). l ++ x.1) n.whole ∙ ap (λ (l : List ℕ). 0x08 ∷ l) (append_assoc n.spelled n.packed x.1)) in
      let value = named_fails r level known end h.name n.spelled (n.packed ++ x.1) why n.spells (ap (named_in r level known named.Name end) (sym there) ∙ fails) in
      let node : IsNode r level (end - length bytes) last known (name_lost h.name h.form why) h.front = (h.some, n, value_alone level known h.form end n.content n.packed x.1 why h.some n.packs value) in
      record {
        inside = level;
        levels = refl;
        front = h.front;
        whole = h.whole;
        long = omega (arith, ap length n.whole);
        is_node = subst (λ m. IsNode r level (end - length bytes) last known m h.front) (sym h.is) node;
      }
    where
      same_tail : (a b : List ℕ) → 0x08 ∷ a ≡ 0x08 ∷ b → a ≡ b
      same_tail a b e = cc

  module _ (level : ℕ) (known : S) where
    held_good : (why : LostFault) (end : ℕ) (bytes rest : List ℕ) (o : Opcode) (x : NodeTree × List ℕ) → Opened bytes (o, rest) → plain_by r level known end bytes o rest ≡ Err why → Held level why bytes o x
        → GoodNode r (suc level) known end bytes x
    held_good why end bytes rest opcodes.Buffer x o fails h = data_good level known datas.Buffer why end bytes x fails h
    held_good why end bytes rest opcodes.Package x o fails h = data_good level known datas.Package why end bytes x fails h
    held_good why end bytes rest opcodes.VarPackage x o fails h = data_good level known datas.VarPackage why end bytes x fails h
    held_good why end bytes rest opcodes.DeclareName x o fails h = name_good level known why end bytes rest x (opened opcodes.DeclareName bytes rest o o.told.1) fails h
    held_good why end bytes rest _ x o fails h = absurd h

    plain_fails : (end : ℕ) (bytes rest : List ℕ) (o : Opcode) (why : LostFault) → opcode_at end bytes ≡ Ok (o, rest) → contained_by level why end o rest ≡ Err why → FailsPlain r level known o end bytes why
        → FailsBegun r level known o end bytes why
    plain_fails end bytes rest o why e none bad = inr (no_data level why end bytes rest o e none, bad)

    plain_node_judged : (end : ℕ) (bytes rest : List ℕ) (o : Opcode) → packed_form o ≡ None → opcode_at end bytes ≡ Ok (o, rest) → Opened bytes (o, rest)
        → Judge (GoodNode r (suc level) known end bytes) (FailsBegun r level known o end bytes) (or_contained level end o rest (plain_in r level known end bytes o rest))
    unfolding plain_in
    plain_node_judged end bytes rest o none e opens = by_plain (plain_by r level known end bytes o rest) refl (plain_judged r level known end bytes rest o none e opens)
      where
        by_held : (why : LostFault) (q : Reading LostFault NodeTree) → plain_by r level known end bytes o rest ≡ Err why → FailsPlain r level known o end bytes why → contained_by level why end o rest ≡ q
            → Judge (Held level why bytes o) (λ f. f ≡ why) q → Judge (GoodNode r (suc level) known end bytes) (FailsBegun r level known o end bytes) q
        by_held why (Ok x) fails bad is h = held_good why end bytes rest o x opens fails h
        by_held why (Err f) fails bad is same =
            subst (FailsBegun r level known o end bytes) (sym same) (plain_fails end bytes rest o why e (is ∙ ap Err same) bad)

        by_plain : (q : Reading LostFault PlainTree) → plain_by r level known end bytes o rest ≡ q → Judge (Plain r level known bytes) (FailsPlain r level known o end bytes) q
            → Judge (GoodNode r (suc level) known end bytes) (FailsBegun r level known o end bytes) (or_contained level end o rest (q >>= λ p. Ok (plain p.0, p.1)))
        by_plain (Ok p) same g = plain_good level known end bytes p g
        by_plain (Err why) same bad = by_held why (contained_by level why end o rest) same bad refl (contained_judged level why end bytes rest o opens)

    -- ---- by what begins there

    module _ (inner : Nodes S) (i : InnerNodes level inner) where
      package_judged_by : (form : PackedForm) (end : ℕ) (bytes rest : List ℕ) → Opened bytes (form_opcode form, rest) → bytes ≡ form_bytes form ++ rest
          → Judge (GoodNode r (suc level) known end bytes) (FailsBegun r level known (form_opcode form) end bytes) (packed_in r level inner (end - length bytes) known form end rest)
      package_judged_by form end bytes rest o is =
          judge_into (GoodNode r (suc level) known end bytes) (GoodNode r (suc level) known end bytes) (FailsBehind (form_bytes form) FailsLength end bytes) (FailsBegun r level known (form_opcode form) end bytes)
          (packed_in r level inner (end - length bytes) known form end rest) (λ x g. g) (λ f bad. inl (form, refl, bad)) (packed_judged level known inner i form end bytes rest is)

      node_by_judged : (end : ℕ) (bytes rest : List ℕ) (o : Opcode) → opcode_at end bytes ≡ Ok (o, rest) → Opened bytes (o, rest)
          → Judge (GoodNode r (suc level) known end bytes) (FailsBegun r level known o end bytes) (node_by r level inner known end bytes o rest (packed_form o))
      node_by_judged end bytes rest opcodes.Scope e o = package_judged_by forms.Scope end bytes rest o (opened opcodes.Scope bytes rest o o.told.1)
      node_by_judged end bytes rest opcodes.Device e o = package_judged_by (forms.Container containers.Device) end bytes rest o (opened opcodes.Device bytes rest o o.told.1)
      node_by_judged end bytes rest opcodes.Processor e o = package_judged_by (forms.Container containers.Processor) end bytes rest o (opened opcodes.Processor bytes rest o o.told.1)
      node_by_judged end bytes rest opcodes.Power e o = package_judged_by (forms.Container containers.Power) end bytes rest o (opened opcodes.Power bytes rest o o.told.1)
      node_by_judged end bytes rest opcodes.Thermal e o = package_judged_by (forms.Container containers.Thermal) end bytes rest o (opened opcodes.Thermal bytes rest o o.told.1)
      node_by_judged end bytes rest opcodes.Method e o = package_judged_by forms.Method end bytes rest o (opened opcodes.Method bytes rest o o.told.1)
      node_by_judged end bytes rest opcodes.If e o = package_judged_by forms.If end bytes rest o (opened opcodes.If bytes rest o o.told.1)
      node_by_judged end bytes rest opcodes.Else e o = package_judged_by forms.Else end bytes rest o (opened opcodes.Else bytes rest o o.told.1)
      node_by_judged end bytes rest opcodes.While e o = package_judged_by forms.While end bytes rest o (opened opcodes.While bytes rest o o.told.1)
      node_by_judged end bytes rest opcodes.Field e o = package_judged_by (forms.Units fields.Field) end bytes rest o (opened opcodes.Field bytes rest o o.told.1)
      node_by_judged end bytes rest opcodes.IndexField e o = package_judged_by (forms.Units fields.IndexField) end bytes rest o (opened opcodes.IndexField bytes rest o o.told.1)
      node_by_judged end bytes rest opcodes.BankField e o = package_judged_by (forms.Units fields.BankField) end bytes rest o (opened opcodes.BankField bytes rest o o.told.1)
      node_by_judged end bytes rest _ e o = plain_node_judged end bytes rest _ refl e o

      opened_node_judged : (end : ℕ) (bytes : List ℕ) (q : Reading CodeFault Opcode) → opcode_at end bytes ≡ q → Judge (Opened bytes) (FailsOpcode end bytes) q
          → Judge (GoodNode r (suc level) known end bytes) (FailsNode r (suc level) known end bytes) (part q >>= λ x. node_by r level inner known end bytes x.0 x.1 (packed_form x.0))
      opened_node_judged end bytes (Err f) e bad = inl (f, bad, refl)
      opened_node_judged end bytes (Ok x) e o =
          judge_into (GoodNode r (suc level) known end bytes) (GoodNode r (suc level) known end bytes) (FailsBegun r level known x.0 end bytes) (FailsNode r (suc level) known end bytes)
          (node_by r level inner known end bytes x.0 x.1 (packed_form x.0)) (λ y g. g) (λ f bad. inr (x.0, begins_so bytes x o, bad)) (node_by_judged end bytes x.1 x.0 e o)

  -- ---- one after another

  list_is : (left end : ℕ) (one : S → ℕ → List ℕ → Reading LostFault NodeTree)
      → ((known : S) (bytes : List ℕ) → Judge (GoodNode r left known end bytes) (FailsNode r left known end bytes) (one known end bytes))
      → (n : ℕ) (known : S) (bytes : List ℕ) → length bytes ≤ n → AreNodes r left end known (nodes_with r one n known end bytes) bytes
  unfolding nodes_with
  list_is left end one judged zero known [] le = refl
  list_is left end one judged zero known (b ∷ rest) le = absurd (omega arith)
  list_is left end one judged (suc n) known [] le = refl
  list_is left end one judged (suc n) known (b ∷ rest) le = by_read (one known end (b ∷ rest)) (judged known (b ∷ rest)) (λ known bytes. list_is left end one judged n known bytes)
    where
      by_read : (q : Reading LostFault NodeTree) → Judge (GoodNode r left known end (b ∷ rest)) (FailsNode r left known end (b ∷ rest)) q
          → ((known : S) (bytes : List ℕ) → length bytes ≤ n → AreNodes r left end known (nodes_with r one n known end bytes) bytes)
          → AreNodes r left end known (then_nodes (end - length (b ∷ rest)) q (λ x. nodes_with r one n (after r (end - length (b ∷ rest)) known x.0) end x.1)) (b ∷ rest)
      by_read (Ok x) g go_on =
          let sizes : suc (length rest) ≡ length g.front + length x.1 = ap length g.whole ∙ length-append g.front x.1 in
          let more = go_on (after r (end - length (b ∷ rest)) known x.0) x.1 (omega (arith, g.long)) in
          (g.front, x.1, g.inside, g.levels, refl, g.is_node, more, g.whole)
      by_read (Err why) bad go_on = (refl, omega arith, bad)

pub node_at_judged : {S : Type 0} (r : Rules S) (left : ℕ) (known : S) (end : ℕ) (bytes : List ℕ)
    → Judge (GoodNode r left known end bytes) (FailsNode r left known end bytes) (node_at r left known end bytes)
unfolding node_at
node_at_judged r zero known end bytes = refl
node_at_judged r (suc level) known end bytes =
    opened_node_judged r level known (nodes_at r level)
    (λ known end bytes. list_is r level end (node_at r level) (λ known bytes. node_at_judged r level known end bytes) (length bytes) known bytes (omega arith))
    end bytes (opcode_at end bytes) refl (opcode_opened end bytes)

-- what is read of bytes stands for them
pub nodes_are : {S : Type 0} (r : Rules S) (left : ℕ) (known : S) (end : ℕ) (bytes : List ℕ) → AreNodes r left end known (nodes_at r left known end bytes) bytes
nodes_are r left known end bytes = list_is r left end (node_at r left) (λ known bytes. node_at_judged r left known end bytes) (length bytes) known bytes (omega arith)
