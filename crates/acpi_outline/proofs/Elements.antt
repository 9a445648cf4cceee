-- How the elements of a field list are read, one after another, as a loop does.
use Rattle.std.proofs.Common.{◌≡◌, ℕ, ◌-◌, ◌<◌, List, [], ◌∷◌, ◌++◌, length, Ok, Err, refl, sym, ap, ◌∙◌, arith}
use Rattle.acpi_tree.specs.Tree.{FieldTree}
use Rattle.acpi_code.specs.declared.fault.ConstantFault.{ConstantFault}
use Rattle.acpi_code.specs.steps.Fields.{field_at}
use Rattle.acpi_code.specs.steps.Remaining.{Remaining, Advances}
use Rattle.acpi_outline.specs.declared.fault.LostFault.{LostFault}
use Rattle.acpi_outline.specs.Nodes.{FixedTree, FieldNodes, no_more_fields, fields_lost, field_node}
use Rattle.acpi_outline.specs.View.{PlacedElement, fields_before}
use Rattle.acpi_outline.specs.Rules.{Rules, after_fields}
use Rattle.acpi_outline.specs.Outline.{bits_behind}
use Rattle.acpi_outline.specs.Faults.{element_fault}
use Rattle.acpi_outline.specs.steps.Reading.{fields_with, fields_at}
use Rattle.acpi_outline.specs.steps.Elements.{FieldsFollow}
use Rattle.acpi_outline.proofs.FieldLists.{no_fields_left, field_turn}

field_push : (front : List PlacedElement) (p : PlacedElement) (es : FieldNodes) → fields_before (front ++ p ∷ []) es ≡ fields_before front (field_node p.0 p.1 p.2 es)
field_push [] p es = refl
field_push (q ∷ front) p es = ap (field_node q.0 q.1 q.2) (field_push front p es)

after_put : {S : Type 0} (r : Rules S) (f : FixedTree) (known : S) (front : List PlacedElement) (es : FieldNodes)
    → after_fields r known f (fields_before front es) ≡ after_fields r (after_fields r known f (fields_before front no_more_fields)) f es
after_put r f known [] es = refl
after_put r f known (p ∷ front) es = after_put r f (r.after_field known p.0 f p.2) front es

pub fields_begun : {S : Type 0} (r : Rules S) (f : FixedTree) (known : S) (first : Remaining) → FieldsFollow r f known first known first 0 []
fields_begun r f known first = record { same_end = refl; turns = length first.bytes; enough = omega arith; whole = refl; state = refl }

pub fields_go_on : {S : Type 0} (r : Rules S) (f : FixedTree) (known : S) (first : Remaining) (now_known : S) (now : Remaining) (next_known : S) (next : Remaining) (offset : ℕ) (front : List PlacedElement) (e : FieldTree) → 0 < length now.bytes
    → field_at now.end now.bytes ≡ Ok (e, next.bytes) → next_known ≡ r.after_field now_known (now.end - length now.bytes) f e → Advances now next
    → FieldsFollow r f known first now_known now offset front → FieldsFollow r f known first next_known next (bits_behind offset e) (front ++ (now.end - length now.bytes, offset, e) ∷ [])
fields_go_on r f known first now_known now next_known next offset front e some read state on so =
    let place = now.end - length now.bytes in
    let step = field_turn so.turns now.end offset now.bytes (Ok (e, next.bytes)) some so.enough read in
    record {
      same_end = on.same_end ∙ so.same_end;
      turns = so.turns - 1;
      enough = omega (arith, so.enough, on.less);
      whole = rw on.same_end (field_push front (place, offset, e) (fields_with (so.turns - 1) now.end (bits_behind offset e) next.bytes) ∙ ap (fields_before front) (sym step) ∙ so.whole);
      state = ap (after_fields r known f) (field_push front (place, offset, e) no_more_fields) ∙ after_put r f known front (field_node place offset e no_more_fields) ∙ rw (so.state, state) refl;
    }

pub fields_end_lost : {S : Type 0} (r : Rules S) (f : FixedTree) (known : S) (first : Remaining) (now_known : S) (now : Remaining) (offset : ℕ) (front : List PlacedElement) (g : ConstantFault) → 0 < length now.bytes
    → field_at now.end now.bytes ≡ Err g → FieldsFollow r f known first now_known now offset front
    → fields_before front (fields_lost (now.end - length now.bytes) (element_fault g)) ≡ fields_at first.end first.bytes
fields_end_lost r f known first now_known now offset front g some read so =
    ap (fields_before front) (sym (field_turn so.turns now.end offset now.bytes (Err g) some so.enough read)) ∙ so.whole

pub fields_end_all : {S : Type 0} (r : Rules S) (f : FixedTree) (known : S) (first : Remaining) (now_known : S) (now : Remaining) (offset : ℕ) (front : List PlacedElement) → length now.bytes ≡ 0
    → FieldsFollow r f known first now_known now offset front → fields_before front no_more_fields ≡ fields_at first.end first.bytes
fields_end_all r f known first now_known now offset front none so = ap (fields_before front) (sym (at_end now.bytes none)) ∙ so.whole
  where
    at_end : (bytes : List ℕ) → length bytes ≡ 0 → fields_with so.turns now.end offset bytes ≡ no_more_fields
    at_end [] none = no_fields_left so.turns now.end offset
    at_end (b ∷ rest) none = absurd (omega arith)

pub fields_state_lost : {S : Type 0} (r : Rules S) (f : FixedTree) (known : S) (first : Remaining) (now_known : S) (now : Remaining) (offset : ℕ) (front : List PlacedElement) (place : ℕ) (why : LostFault)
    → FieldsFollow r f known first now_known now offset front → now_known ≡ after_fields r known f (fields_before front (fields_lost place why))
fields_state_lost r f known first now_known now offset front place why so = sym (after_put r f known front (fields_lost place why) ∙ so.state)
