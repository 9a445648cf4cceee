-- Bytes have one outline, and its nodes tile them.
use Rattle.std.proofs.Common.{Some, None, ◌≡◌, ℕ, zero, suc, ◌-◌, ◌+◌, ◌≤◌, ◌<◌, true, Option, List, [], ◌∷◌, ◌++◌, length, Ok, Err, refl, sym, ap, subst, ◌∙◌, arith, inl, inr, append_assoc}
use Rattle.std.proofs.lemmas.List.{length-append}
use Rattle.acpi_name.specs.Names.{NameParts}
use Rattle.acpi_code.specs.declared.opcode.Opcode.{Opcode}
use Rattle.acpi_code.specs.declared.opcode.Opcode.TheVariants as opcodes
use Rattle.acpi_code.specs.Faults.{FailsOpcode}
use Rattle.acpi_code.specs.Spelling.{Packs}
use Rattle.acpi_code.specs.steps.Opcodes.{is_spelled}
use Rattle.acpi_code.specs.steps.Reading.{◌>>=◌, Reading, opcode_at}
use Rattle.acpi_code.proofs.Exact.{by_opcode_stops, package_stops, fails_behind}
use Rattle.acpi_code.proofs.Opcodes.{Opened, opcode_opened, opens}
use Rattle.acpi_code.proofs.Packages.{front_is}
use Rattle.acpi_tree.specs.declared.place.Place.TheVariants.{Value, Statement}
use Rattle.acpi_tree.specs.declared.place.UnitsForm.TheVariants as fields
use Rattle.acpi_values.specs.steps.Reading.{term_at}
use Rattle.acpi_values.proofs.Parts.{good_of}
use Rattle.acpi_outline.specs.declared.form.ContainerForm.TheVariants as containers
use Rattle.acpi_outline.specs.declared.form.PackedForm.{PackedForm}
use Rattle.acpi_outline.specs.declared.form.PackedForm.TheVariants as forms
use Rattle.acpi_outline.specs.declared.form.DataForm.{DataForm}
use Rattle.acpi_outline.specs.declared.form.DataForm.TheVariants as datas
use Rattle.acpi_outline.specs.declared.fault.LostFault.{LostFault}
use Rattle.acpi_outline.specs.Nodes.{FixedTree, NodeTree, plain, holds, closed, package_lost, NodeTrees, no_more, lost, node, form_of, form_opcode, form_bytes, PlainTree, data_lost, name_lost, data_opcode, data_bytes, FieldNodes, no_more_fields, fields_lost, field_node, holds_fields}
use Rattle.acpi_outline.specs.Rules.{Rules, grammar_at, after}
use Rattle.acpi_outline.specs.Spelling.{IsNameOf, BeginsData}
use Rattle.acpi_outline.specs.Faults.{part_fault, FailsFixed, FailsTermAt, FailsPlain, FailsLength, FailsBegun, FailsNode}
use Rattle.acpi_outline.specs.Outline.{IsNode, AreNodes, IsOutline}
use Rattle.acpi_outline.specs.Tiling.{TilesInside, Tiles}
use Rattle.acpi_outline.specs.steps.Reading.{part, of_term, fixed_in, packed_by, packed_in, node_by, then_nodes, nodes_with, nodes_at, node_at, plain_in, named_in, term_in, packed_form, fields_at}
use Rattle.acpi_outline.proofs.Complete.{plain_complete, fixed_complete, form_packs, packed, packed_complete}
use Rattle.acpi_outline.proofs.Data.{data_begins, data_clear, data_allowed, data_opened, name_opened, data_given, name_read, none_holds, fails_within, named_stops_there}
use Rattle.acpi_outline.proofs.FieldLists.{fields_again, fields_tile}
use Rattle.acpi_outline.proofs.FixedArguments.{fixed_stops}
use Rattle.acpi_outline.proofs.NodesSound.{GoodNode, form_long, data_long, node_at_judged, nodes_are}
use Rattle.acpi_outline.proofs.Parts.{term_part, term_here_stops, opens_there}
use Rattle.acpi_outline.proofs.Sound.{plain_long, plain_stops, plain_unpacked}

abbrev node_found : NodeTree × List ℕ → Reading LostFault NodeTree
node_found x = Ok x

pub node_of : {S : Type 0} (r : Rules S) (left : ℕ) (known : S) (end : ℕ) (bytes : List ℕ) (x : NodeTree × List ℕ) → node_at r left known end bytes ≡ Ok x → GoodNode r left known end bytes x
node_of r left known end bytes x e = good_of (GoodNode r left known end bytes) (FailsNode r left known end bytes) (node_at r left known end bytes) x (node_at_judged r left known end bytes) e

-- ---- turns

pub none_left : {S : Type 0} (r : Rules S) (left n : ℕ) (known : S) (end : ℕ) → nodes_with r (node_at r left) n known end [] ≡ no_more
unfolding nodes_with
none_left r left zero known end = refl
none_left r left (suc n) known end = refl

pub turn : {S : Type 0} (r : Rules S) (left n : ℕ) (known : S) (end : ℕ) (bytes : List ℕ) (q : Reading LostFault NodeTree) → 0 < length bytes → length bytes ≤ n
    → node_at r left known end bytes ≡ q
    → nodes_with r (node_at r left) n known end bytes ≡ then_nodes (end - length bytes) q (λ x. nodes_with r (node_at r left) (n - 1) (after r (end - length bytes) known x.0) end x.1)
unfolding nodes_with
turn r left n known end [] q some le e = absurd (omega arith)
turn r left zero known end (b ∷ rest) q some le e = absurd (omega arith)
turn r left (suc n) known end (b ∷ rest) q some le e = let less : suc n - 1 ≡ n = omega arith in rw (e, less) refl

-- ---- where nodes fail reading stops

form_spelled : (form : PackedForm) → is_spelled (form_opcode form) ≡ true
form_spelled (forms.Container containers.Device) = refl
form_spelled (forms.Container containers.Processor) = refl
form_spelled (forms.Container containers.Power) = refl
form_spelled (forms.Container containers.Thermal) = refl
form_spelled (forms.Units fields.Field) = refl
form_spelled (forms.Units fields.IndexField) = refl
form_spelled (forms.Units fields.BankField) = refl
form_spelled _ = refl

package_fails : {S : Type 0} (r : Rules S) (level : ℕ) (known : S) (place : ℕ) (form : PackedForm) (end : ℕ) (rest : List ℕ) (f : LostFault) → FailsLength end rest f
    → packed_in r level (nodes_at r level) place known form end rest ≡ Err f
unfolding packed_in
package_fails r level known place form end rest f h = package_stops part_fault (λ end content f. ⊥) end rest _ f (λ p none. absurd none) h

begun_stops : {S : Type 0} (r : Rules S) (level : ℕ) (known : S) (end : ℕ) (bytes rest : List ℕ) (o : Opcode) (f : LostFault) → opcode_at end bytes ≡ Ok (o, rest) → FailsBegun r level known o end bytes f
    → node_by r level (nodes_at r level) known end bytes o rest (packed_form o) ≡ Err f
unfolding plain_in
begun_stops r level known end bytes rest o f e (inl (form, is, h)) =
    let place = end - length bytes in
    let read : opcode_at end bytes ≡ Ok (form_opcode form, rest) = e ∙ ap (λ (p : Opcode). Ok (p, rest)) is in
    ap (λ (p : Opcode). node_by r level (nodes_at r level) known end bytes p rest (packed_form p)) is
    ∙ ap (node_by r level (nodes_at r level) known end bytes (form_opcode form) rest) (form_packs form)
    ∙ package_fails r level known place form end rest f (fails_behind FailsLength (form_opcode form) end bytes rest f (form_spelled form) read h)
begun_stops r level known end bytes rest o f e (inr (none, bad)) =
    let there = opens_there end bytes (o, rest) e in
    ap (node_by r level (nodes_at r level) known end bytes o rest) (plain_unpacked r level known end bytes o f bad)
    ∙ rw (plain_stops r level known end bytes rest o f e bad) (none_holds level f end bytes rest o there none)

pub node_stops : {S : Type 0} (r : Rules S) (left : ℕ) (known : S) (end : ℕ) (bytes : List ℕ) (f : LostFault) → FailsNode r left known end bytes f → node_at r left known end bytes ≡ Err f
unfolding node_at
node_stops r zero known end bytes f h = ap Err (sym h)
node_stops r (suc level) known end bytes f h = by_opcode_stops part_fault (FailsBegun r level known) end bytes _ f (λ o rest e bad. begun_stops r level known end bytes rest o f e bad) h

-- ---- what stands for bytes is read of them

pub pack_longer : (form : PackedForm) (content bytes : List ℕ) → Packs (form_bytes form) content bytes → length content < length bytes
pack_longer form content bytes h =
    let op = form_bytes form in
    omega (arith, ap length h.whole, length-append op (h.len ++ content), length-append h.len content, form_long form)

node_long : {S : Type 0} (r : Rules S) (level place end : ℕ) (known : S) (n : NodeTree) (a : List ℕ) → IsNode r level place end known n a → 0 < length a
node_long r level place end known (plain p) a h = plain_long r known p a h.spells
node_long r level place end known (holds f ns) a h = omega (arith, pack_longer (form_of f) (h.0 ++ h.1) a h.5)
node_long r level place end known (holds_fields f es) a h = omega (arith, pack_longer (form_of f) (h.0 ++ h.1) a h.5)
node_long r level place end known (closed f content) a h = omega (arith, pack_longer (form_of f) (h.0 ++ content) a h.3)
node_long r level place end known (package_lost form why) a h = omega (arith, pack_longer form h.0 a h.2)
node_long r level place end known (data_lost form why) a h = omega (arith, ap length h.1.whole, length-append (data_bytes form) (h.1.len ++ h.0), data_long form)
node_long r level place end known (name_lost n form why) a h = rw h.1.whole (omega arith)

-- a statement whose data fails
data_again : {S : Type 0} (r : Rules S) (level : ℕ) (known : S) (end : ℕ) (form : DataForm) (why : LostFault) (content a rest : List ℕ) → Packs (data_bytes form) content a
    → FailsTermAt r (suc level) known Statement (end - length rest) a why → node_at r (suc level) known end (a ++ rest) ≡ node_found (data_lost form why, rest)
unfolding plain_in term_in
data_again r level known end form why content a rest packs h =
    let g = grammar_at r known in
    let last = end - length rest in
    let y = packs.len ++ (content ++ rest) in
    let alone = term_here_stops r level known Statement last a why h in
    let long = fails_within r level known Statement end form content a rest (data_allowed g.loads form).0 packs why alone in
    let read : plain_in r level known end (a ++ rest) (data_opcode form) y ≡ Err why = data_plain r level known end form (a ++ rest) y why long in
    data_opened r level known end form content a rest packs ∙ rw read (data_given form level why end content a rest packs)
  where
    data_plain : {S : Type 0} (r : Rules S) (level : ℕ) (known : S) (end : ℕ) (form : DataForm) (bytes y : List ℕ) (why : LostFault) → of_term (term_at (grammar_at r known) (suc level) Statement end bytes) ≡ Err why
        → plain_in r level known end bytes (data_opcode form) y ≡ Err why
    data_plain r level known end datas.Buffer bytes y why e = rw e refl
    data_plain r level known end datas.Package bytes y why e = rw e refl
    data_plain r level known end datas.VarPackage bytes y why e = rw e refl

value_stops : {S : Type 0} (r : Rules S) (level : ℕ) (known : S) (end : ℕ) (form : DataForm) (why : LostFault) (content a rest : List ℕ) → 0 < level → Packs (data_bytes form) content a
    → FailsTermAt r level known Value (end - length rest) a why → of_term (term_at (grammar_at r known) level Value end (a ++ rest)) ≡ Err why
value_stops r zero known end form why content a rest some packs h = absurd (omega arith)
value_stops r (suc level) known end form why content a rest some packs h =
    fails_within r level known Value end form content a rest (data_allowed (grammar_at r known).loads form).1 packs why ((term_part r (suc level) known Value refl).stops (end - length rest) a why h)

-- a Name whose data fails
name_again : {S : Type 0} (r : Rules S) (level : ℕ) (known : S) (end : ℕ) (n : NameParts) (form : DataForm) (why : LostFault) (a rest : List ℕ) → 0 < level → (is : IsNameOf n form a)
    → FailsTermAt r level known Value (end - length rest) is.packed why → node_at r (suc level) known end (a ++ rest) ≡ node_found (name_lost n form why, rest)
unfolding plain_in
name_again r level known end n form why a rest some is h =
    let value = value_stops r level known end form why is.content is.packed rest some is.packs h in
    let read = named_stops_there r level known end n is.spelled (is.packed ++ rest) why is.spells value in
    name_opened r level known end n form a rest is ∙ rw read (name_read n form level why end a rest some is)

same_nodes : (place place2 : ℕ) (n : NodeTree) (ns ms all : NodeTrees) → all ≡ node place2 n ms → place ≡ place2 → ns ≡ ms → node place n ns ≡ all
same_nodes place place2 n ns ms all is at behind = rw (is, at, behind) refl

mutual
  pub node_again : {S : Type 0} (r : Rules S) (n : NodeTree) (level : ℕ) (known : S) (end : ℕ) (a rest : List ℕ)
      → IsNode r level (end - length (a ++ rest)) (end - length rest) known n a → node_at r (suc level) known end (a ++ rest) ≡ node_found (n, rest)
  node_again r (plain p) level known end a rest h = plain_complete r level known end p a rest h
  node_again r (holds f ns) level known end a rest (x, y, is_fixed, goes, are, packs) =
      let place = end - length (a ++ rest) in
      let last = end - length rest in
      let inner : ns ≡ nodes_at r level (r.enter known place f) last y = nodes_again r ns level (r.enter known place f) last y are (length y) (omega arith) in
      let made : packed r level place last known (form_of f) (x ++ y) ≡ holds f ns = rw (fixed_complete r level known last f x y is_fixed, goes) (ap (holds f) (sym inner)) in
      packed_complete r level known end (form_of f) (x ++ y) a rest packs ∙ ap (λ m. node_found (m, rest)) made
  node_again r (holds_fields f es) level known end a rest (x, y, is_fixed, goes, are, packs, has) =
      let place = end - length (a ++ rest) in
      let last = end - length rest in
      let inner : es ≡ fields_at last y = fields_again es last 0 y are (length y) (omega arith) in
      let made : packed r level place last known (form_of f) (x ++ y) ≡ holds_fields f es = rw (fixed_complete r level known last f x y is_fixed, goes, has) (ap (holds_fields f) (sym inner)) in
      packed_complete r level known end (form_of f) (x ++ y) a rest packs ∙ ap (λ m. node_found (m, rest)) made
  node_again r (closed f content) level known end a rest (x, is_fixed, goes, packs, has) =
      let place = end - length (a ++ rest) in
      let last = end - length rest in
      let made : packed r level place last known (form_of f) (x ++ content) ≡ closed f content = rw (fixed_complete r level known last f x content is_fixed, goes, has) refl in
      packed_complete r level known end (form_of f) (x ++ content) a rest packs ∙ ap (λ m. node_found (m, rest)) made
  node_again r (package_lost form why) level known end a rest (b, bad, packs) =
      let place = end - length (a ++ rest) in
      let last = end - length rest in
      let made : packed r level place last known form b ≡ package_lost form why = rw (fixed_stops r level known form last b why bad) refl in
      packed_complete r level known end form b a rest packs ∙ ap (λ m. node_found (m, rest)) made
  node_again r (data_lost form why) level known end a rest (b, packs, bad) = data_again r level known end form why b a rest packs bad
  node_again r (name_lost n form why) level known end a rest (some, is, bad) = name_again r level known end n form why a rest some is bad

  nodes_again : {S : Type 0} (r : Rules S) (ns : NodeTrees) (left : ℕ) (known : S) (end : ℕ) (bytes : List ℕ)
      → AreNodes r left end known ns bytes → (n : ℕ) → length bytes ≤ n → ns ≡ nodes_with r (node_at r left) n known end bytes
  nodes_again r no_more left known end bytes h n le = rw (h, none_left r left n known end) refl
  nodes_again r (lost place why) left known end bytes (at, some, bad) n le = rw (turn r left n known end bytes (Err why) some le (node_stops r left known end bytes why bad), at) refl
  nodes_again r (node place m ns) left known end bytes (a, b, inside, levels, at, is_node, are, whole) n le =
      let sizes : length bytes ≡ length a + length b = ap length whole ∙ length-append a b in
      let some = node_long r inside place (end - length b) known m a is_node in
      let at_front : end - length bytes ≡ end - length (a ++ b) = ap (λ (l : List ℕ). end - length l) whole in
      let there : IsNode r inside (end - length (a ++ b)) (end - length b) known m a = rw (sym at_front, sym at) is_node in
      let read : node_at r left known end bytes ≡ node_found (m, b) = rw (levels, whole) (node_again r m inside known end a b there) in
      let step = turn r left n known end bytes (Ok (m, b)) (omega arith) le read in
      let state : after r place known m ≡ after r (end - length bytes) known m = ap (λ p. after r p known m) at in
      let behind = nodes_again r ns left (after r place known m) end b are (n - 1) (omega arith) in
      let there_too = ap (λ k. nodes_with r (node_at r left) (n - 1) k end b) state in
      same_nodes place (end - length bytes) m ns _ _ step at (behind ∙ there_too)

pub outline_again : {S : Type 0} (r : Rules S) (known : S) (depth : ℕ) (code : List ℕ) (ns : NodeTrees) → IsOutline r known depth ns code
    → ns ≡ nodes_at r depth known (length code) code
outline_again r known depth code ns h = nodes_again r ns depth known (length code) code h (length code) (omega arith)

pub at_most_one : {S : Type 0} (r : Rules S) (known : S) (depth : ℕ) (code : List ℕ) (ns ms : NodeTrees)
    → IsOutline r known depth ns code → IsOutline r known depth ms code → ns ≡ ms
at_most_one r known depth code ns ms h k = outline_again r known depth code ns h ∙ sym (outline_again r known depth code ms k)

pub has_one : {S : Type 0} (r : Rules S) (known : S) (depth : ℕ) (code : List ℕ) → (ns : NodeTrees) × IsOutline r known depth ns code
has_one r known depth code = (nodes_at r depth known (length code) code, nodes_are r depth known (length code) code)

-- ---- tiles

mutual
  node_tiles : {S : Type 0} (r : Rules S) (n : NodeTree) (level place end : ℕ) (known : S) (a : List ℕ) → place + length a ≡ end → IsNode r level place end known n a → TilesInside place end n
  node_tiles r (plain p) level place end known a fits h = tt
  node_tiles r (holds f ns) level place end known a fits (x, y, is_fixed, goes, are, packs) =
      let size = pack_longer (form_of f) (x ++ y) a packs in
      (end - length y, omega (arith, length-append x y), nodes_tile r ns level end (r.enter known place f) y (omega (arith, length-append x y)) are)
  node_tiles r (holds_fields f es) level place end known a fits (x, y, is_fixed, goes, are, packs, has) =
      let size = pack_longer (form_of f) (x ++ y) a packs in
      (end - length y, omega (arith, length-append x y), fields_tile es end 0 y (omega (arith, length-append x y)) are)
  node_tiles r (closed f content) level place end known a fits h = tt
  node_tiles r (package_lost form why) level place end known a fits h = tt
  node_tiles r (data_lost form why) level place end known a fits h = tt
  node_tiles r (name_lost n form why) level place end known a fits h = tt

  nodes_tile : {S : Type 0} (r : Rules S) (ns : NodeTrees) (left end : ℕ) (known : S) (bytes : List ℕ) → length bytes ≤ end → AreNodes r left end known ns bytes → Tiles (end - length bytes) end ns
  nodes_tile r no_more left end known bytes fits h = let none : length bytes ≡ 0 = ap length h in omega arith
  nodes_tile r (lost place why) left end known bytes fits h = (h.0, omega (arith, h.1))
  nodes_tile r (node place n ns) left end known bytes fits (a, b, inside, levels, at, is_node, are, whole) =
      let sizes : length bytes ≡ length a + length b = ap length whole ∙ length-append a b in
      let some = node_long r inside place (end - length b) known n a is_node in (
        end - length b,
        at,
        omega arith,
        omega arith,
        node_tiles r n inside place (end - length b) known a (omega arith) is_node,
        nodes_tile r ns left end (after r place known n) b (omega arith) are,
      )

pub outline_tiles : {S : Type 0} (r : Rules S) (known : S) (depth : ℕ) (code : List ℕ) (ns : NodeTrees) → IsOutline r known depth ns code → Tiles 0 (length code) ns
outline_tiles r known depth code ns h =
    let none : length code - length code ≡ 0 = omega arith in
    subst (λ place. Tiles place (length code) ns) none (nodes_tile r ns depth (length code) known code (omega arith) h)
