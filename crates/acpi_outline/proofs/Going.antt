-- How the nodes of a list are read, one after another, as a loop does.
use Rattle.std.proofs.Common.{◌≡◌, ℕ, zero, suc, ◌-◌, ◌<◌, List, [], ◌∷◌, ◌++◌, length, Some, None, Result, Ok, Err, refl, sym, ap, ◌∙◌, arith}
use Rattle.acpi_code.specs.declared.fault.CodeFault.{CodeFault}
use Rattle.acpi_code.specs.declared.opcode.Opcode.{Opcode}
use Rattle.acpi_code.specs.steps.Remaining.{Remaining, Advances}
use Rattle.acpi_code.specs.steps.Reading.{Package, no_level, package_at, opcode_at}
use Rattle.acpi_outline.specs.declared.form.PackedForm.{PackedForm}
use Rattle.acpi_outline.specs.declared.fault.LostFault.{LostFault}
use Rattle.acpi_outline.specs.declared.fault.LostError.{LostError}
use Rattle.acpi_outline.specs.declared.fault.LostError.TheVariants.{Fault, Memory}
use Rattle.acpi_outline.specs.Faults.{part_fault}
use Rattle.acpi_outline.specs.Nodes.{FixedTree, NodeTree, holds, NodeTrees, no_more, lost, node}
use Rattle.acpi_outline.specs.View.{Placed, put_before}
use Rattle.acpi_outline.specs.Rules.{Rules, after, after_all}
use Rattle.acpi_outline.specs.steps.Cursor.{Fails}
use Rattle.acpi_outline.specs.steps.Going.{Follows}
use Rattle.acpi_outline.specs.steps.Reading.{or_contained, plain_in, fixed_in, packed_by, packed_in, node_by, packed_form, nodes_with, nodes_at, node_at}
use Rattle.acpi_outline.proofs.One.{none_left, turn}

put_push : (front : List Placed) (p : Placed) (ns : NodeTrees) → put_before (front ++ p ∷ []) ns ≡ put_before front (node p.0 p.1 ns)
put_push [] p ns = refl
put_push (q ∷ front) p ns = ap (node q.0 q.1) (put_push front p ns)

after_put : {S : Type 0} (r : Rules S) (known : S) (front : List Placed) (ns : NodeTrees) → after_all r known (put_before front ns) ≡ after_all r (after_all r known (put_before front no_more)) ns
after_put r known [] ns = refl
after_put r known (p ∷ front) ns = after_put r (after r p.0 known p.1) front ns

pub begun : {S : Type 0} (r : Rules S) (level : ℕ) (known : S) (first : Remaining) → Follows r level known first known first []
begun r level known first = record { same_end = refl; turns = length first.bytes; enough = omega arith; whole = refl; state = refl }

pub goes_on : {S : Type 0} (r : Rules S) (level : ℕ) (known : S) (first : Remaining) (now_known : S) (now : Remaining) (next_known : S) (next : Remaining) (front : List Placed) (n : NodeTree) → 0 < length now.bytes
    → node_at r level now_known now.end now.bytes ≡ Ok (n, next.bytes) → next_known ≡ after r (now.end - length now.bytes) now_known n → Advances now next
    → Follows r level known first now_known now front → Follows r level known first next_known next (front ++ (now.end - length now.bytes, n) ∷ [])
goes_on r level known first now_known now next_known next front n some read state on so =
    let place = now.end - length now.bytes in
    let step = turn r level so.turns now_known now.end now.bytes (Ok (n, next.bytes)) some so.enough read in
    record {
      same_end = on.same_end ∙ so.same_end;
      turns = so.turns - 1;
      enough = omega (arith, so.enough, on.less);
      whole = rw (on.same_end, state) (put_push front (place, n) (nodes_with r (node_at r level) (so.turns - 1) (after r place now_known n) now.end next.bytes) ∙ ap (put_before front) (sym step) ∙ so.whole);
      state = ap (after_all r known) (put_push front (place, n) no_more) ∙ after_put r known front (node place n no_more) ∙ rw (so.state, state) refl;
    }

-- the same of a node that holds others, which were read behind its front
pub entered_goes_on : {S : Type 0} (r : Rules S) (level : ℕ) (known : S) (first : Remaining) (now_known : S) (now : Remaining) (entered held left : S) (next : Remaining) (front : List Placed) (f : FixedTree) (inner : Remaining) (ns : NodeTrees)
    → 0 < length now.bytes → node_at r level now_known now.end now.bytes ≡ Ok (holds f (nodes_at r (level - 1) (r.enter now_known (now.end - length now.bytes) f) inner.end inner.bytes), next.bytes)
    → entered ≡ r.enter now_known (now.end - length now.bytes) f → ns ≡ nodes_at r (level - 1) entered inner.end inner.bytes → held ≡ after_all r entered ns → left ≡ r.leave held
    → Advances now next → Follows r level known first now_known now front → Follows r level known first left next (front ++ (now.end - length now.bytes, holds f ns) ∷ [])
entered_goes_on r level known first now_known now entered held left next front f inner ns some read enters are state leaves on so =
    let place = now.end - length now.bytes in
    let same : nodes_at r (level - 1) (r.enter now_known place f) inner.end inner.bytes ≡ ns = ap (λ k. nodes_at r (level - 1) k inner.end inner.bytes) (sym enters) ∙ sym are in
    let behind : left ≡ r.leave (after_all r (r.enter now_known place f) ns) = leaves ∙ ap r.leave (state ∙ ap (λ k. after_all r k ns) enters) in
    goes_on r level known first now_known now left next front (holds f ns) some (read ∙ ap (λ ms. Ok (holds f ms, next.bytes)) same) behind on so

pub goes_lost : {S : Type 0} (r : Rules S) (level : ℕ) (known : S) (first : Remaining) (now_known : S) (now : Remaining) (front : List Placed) (why : LostFault) → 0 < length now.bytes
    → node_at r level now_known now.end now.bytes ≡ Err why → Follows r level known first now_known now front
    → put_before front (lost (now.end - length now.bytes) why) ≡ nodes_at r level known first.end first.bytes
goes_lost r level known first now_known now front why some read so =
    ap (put_before front) (sym (turn r level so.turns now_known now.end now.bytes (Err why) some so.enough read)) ∙ so.whole

pub goes_out : {S : Type 0} (r : Rules S) (level : ℕ) (known : S) (first : Remaining) (now_known : S) (now : Remaining) (front : List Placed) → length now.bytes ≡ 0
    → Follows r level known first now_known now front → put_before front no_more ≡ nodes_at r level known first.end first.bytes
goes_out r level known first now_known now front none so = ap (put_before front) (sym (at_end now.bytes none)) ∙ so.whole
  where
    at_end : (bytes : List ℕ) → length bytes ≡ 0 → nodes_with r (node_at r level) so.turns now_known now.end bytes ≡ no_more
    at_end [] none = none_left r level so.turns now_known now.end
    at_end (b ∷ rest) none = absurd (omega arith)

-- the state behind what was read, and nothing more
pub state_lost : {S : Type 0} (r : Rules S) (level : ℕ) (known : S) (first : Remaining) (now_known : S) (now : Remaining) (front : List Placed) (place : ℕ) (why : LostFault)
    → Follows r level known first now_known now front → now_known ≡ after_all r known (put_before front (lost place why))
state_lost r level known first now_known now front place why so = sym (after_put r known front (lost place why) ∙ so.state)

pub node_opened : {S : Type 0} (r : Rules S) (level : ℕ) (known : S) (end : ℕ) (bytes : List ℕ) (o : Opcode) (rest : List ℕ) → 0 < level → opcode_at end bytes ≡ Ok (o, rest)
    → node_at r level known end bytes ≡ node_by r (level - 1) (nodes_at r (level - 1)) known end bytes o rest (packed_form o)
unfolding node_at
node_opened r zero known end bytes o rest some e = absurd (omega arith)
node_opened r (suc level) known end bytes o rest some e = let less : suc level - 1 ≡ level = omega arith in rw (e, less) refl

-- ---- what begins a list, by its opcode

pub no_level_left : {S : Type 0} (r : Rules S) (level : ℕ) (known : S) (end : ℕ) (bytes : List ℕ) → level ≡ 0 → node_at r level known end bytes ≡ Err (part_fault (no_level end bytes))
unfolding node_at
no_level_left r level known end bytes none = rw none refl

pub node_unopened : {S : Type 0} (r : Rules S) (level : ℕ) (known : S) (end : ℕ) (bytes : List ℕ) (f : CodeFault) → 0 < level → opcode_at end bytes ≡ Err f
    → node_at r level known end bytes ≡ Err (part_fault f)
unfolding node_at
node_unopened r zero known end bytes f some e = absurd (omega arith)
node_unopened r (suc level) known end bytes f some e = rw e refl

pub package_begun : {S : Type 0} (r : Rules S) (level : ℕ) (known : S) (end : ℕ) (bytes : List ℕ) (o : Opcode) (rest : List ℕ) (form : PackedForm) (p : Package) → 0 < level
    → opcode_at end bytes ≡ Ok (o, rest) → packed_form o ≡ Some form → package_at end rest ≡ Ok p
    → node_at r level known end bytes ≡ Ok (packed_by r (nodes_at r (level - 1)) (end - length bytes) known form p.end (fixed_in r (level - 1) known form p.end p.content), p.rest)
unfolding packed_in
package_begun r level known end bytes o rest form p some opens is read = node_opened r level known end bytes o rest some opens ∙ rw (is, read) refl

pub package_unread : {S : Type 0} (r : Rules S) (level : ℕ) (known : S) (end : ℕ) (bytes : List ℕ) (o : Opcode) (rest : List ℕ) (form : PackedForm) (f : CodeFault) → 0 < level
    → opcode_at end bytes ≡ Ok (o, rest) → packed_form o ≡ Some form → package_at end rest ≡ Err f → node_at r level known end bytes ≡ Err (part_fault f)
unfolding packed_in
package_unread r level known end bytes o rest form f some opens is fails = node_opened r level known end bytes o rest some opens ∙ rw (is, fails) refl

pub plain_begun : {S : Type 0} (r : Rules S) (level : ℕ) (known : S) (end : ℕ) (bytes : List ℕ) (o : Opcode) (rest : List ℕ) → 0 < level
    → opcode_at end bytes ≡ Ok (o, rest) → packed_form o ≡ None → node_at r level known end bytes ≡ or_contained (level - 1) end o rest (plain_in r (level - 1) known end bytes o rest)
plain_begun r level known end bytes o rest some opens none = node_opened r level known end bytes o rest some opens ∙ rw none refl

pub fails_as : {Y : Type 0} (e : LostError) (r k : Result Y LostFault) → k ≡ r → Fails e r → Fails e k
fails_as Memory r k e h = tt
fails_as (Fault f) r k e h = e ∙ h

-- the state behind what was read, and nothing more
pub state_out : {S : Type 0} (r : Rules S) (level : ℕ) (known : S) (first : Remaining) (now_known : S) (now : Remaining) (front : List Placed)
    → Follows r level known first now_known now front → now_known ≡ after_all r known (put_before front no_more)
state_out r level known first now_known now front so = sym so.state
