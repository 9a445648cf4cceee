-- What is told of code that begins with items and goes on with a term that is refused by itself.
use Rattle.std.proofs.Common.{◌≡◌, ℕ, zero, suc, ◌-◌, ◌≤◌, ◌<◌, Option, Some, None, List, ◌++◌, length, Result, Err, refl, ap, append_assoc, arith}
use Rattle.std.proofs.lemmas.List.{length-append}
use Rattle.acpi_terms.specs.declared.fault.ItemReason.{ItemReason}
use Rattle.acpi_code.specs.declared.opcode.Opcode.{Opcode}
use Rattle.acpi_code.specs.declared.opcode.Opcode.TheVariants as opcodes
use Rattle.acpi_code.proofs.Lists.{StopsAt, stops_here, stops_behind}
use Rattle.acpi_code.specs.Opcodes.{BeginsWith}
use Rattle.acpi_code.specs.steps.Reading.{Reading}
use Rattle.acpi_code.proofs.Opcodes.{opcode_found, some_begin}
use Rattle.acpi_terms.proofs.Items.{item_long, item_complete}
use Rattle.acpi_terms.specs.Faults.{refusal, Refused}
use Rattle.acpi_terms.specs.Spelling.{SpellsItems, items_height}
use Rattle.acpi_terms.specs.steps.Reading.{Fault, fault_at, item_by, items_with, item_at, items_at}
use Rattle.acpi_tree.specs.Tree.{ItemTree, ItemTrees, no_items, item}

abbrev known : {A : Type 0} → A → Option A
known x = Some x

known_is : {A : Type 0} (x y : A) → known x ≡ known y → x ≡ y
known_is x y e = cc

none_known : {A : Type 0} (x : A) → None ≡ known x → ⊥
none_known x e = cc

abbrev stop : Fault → Reading Fault ItemTree
stop f = Err f

told : (end : ℕ) (w : List ℕ) (r why : ItemReason) → known r ≡ known why → stop (fault_at end w r) ≡ stop (fault_at end w why)
told end w r why e = ap (λ (y : ItemReason). stop (fault_at end w y)) (known_is r why e)

refused_there : (inner : ℕ → List ℕ → Result ItemTrees Fault) (level end : ℕ) (w rest : List ℕ) (term : Opcode) (why : ItemReason)
    → refusal term ≡ known why → item_by inner level end w term rest ≡ Err (fault_at end w why)
refused_there inner level end w rest opcodes.DeclareName why e = absurd (none_known why e)
refused_there inner level end w rest opcodes.Scope why e = absurd (none_known why e)
refused_there inner level end w rest opcodes.Method why e = absurd (none_known why e)
refused_there inner level end w rest opcodes.External why e = absurd (none_known why e)
refused_there inner level end w rest opcodes.If why e = absurd (none_known why e)
refused_there inner level end w rest (opcodes.Create k) why e = absurd (none_known why e)
refused_there inner level end w rest opcodes.CreateField why e = absurd (none_known why e)
refused_there inner level end w rest opcodes.Mutex why e = absurd (none_known why e)
refused_there inner level end w rest opcodes.Event why e = absurd (none_known why e)
refused_there inner level end w rest opcodes.Region why e = absurd (none_known why e)
refused_there inner level end w rest opcodes.Field why e = absurd (none_known why e)
refused_there inner level end w rest opcodes.Device why e = absurd (none_known why e)
refused_there inner level end w rest opcodes.Processor why e = absurd (none_known why e)
refused_there inner level end w rest opcodes.Power why e = absurd (none_known why e)
refused_there inner level end w rest opcodes.Thermal why e = absurd (none_known why e)
refused_there inner level end w rest opcodes.IndexField why e = absurd (none_known why e)
refused_there inner level end w rest opcodes.BankField why e = absurd (none_known why e)
refused_there inner level end w rest term why e = told end w _ why e

stops_there : (level end : ℕ) (w : List ℕ) (first : Opcode) (why : ItemReason) → BeginsWith first w → refusal first ≡ known why → item_at (suc level) end w ≡ Err (fault_at end w why)
unfolding item_at
stops_there level end w first why opens refuses =
    let r = opcode_found end w first opens in
    rw r.1 (refused_there (items_with (item_at level)) level end w r.0 first why refuses)

stops_behind_items : (is : ItemTrees) (level end : ℕ) (u w : List ℕ) (f : Fault) → SpellsItems is u → items_height is ≤ level → 0 < length w
    → item_at level end w ≡ Err f → StopsAt (item_at level end) (u ++ w) f
stops_behind_items no_items level end u w f h le some e = rw h (stops_here (item_at level end) w f some e)
stops_behind_items (item i is) level end u w f h le some e =
    rw (h.4, append_assoc h.0 h.1 w)
    (stops_behind (item_at level end) h.0 (h.1 ++ w) i f (item_long i h.0 h.2) (item_complete i level end h.0 (h.1 ++ w) h.2 (omega arith))
    (stops_behind_items is level end h.1 w f h.3 (omega arith) some e))

-- the first term that is refused by itself is told, at its place
pub next_told : (depth : ℕ) (u w : List ℕ) (is : ItemTrees) (why : ItemReason) → 0 < depth → SpellsItems is u → items_height is ≤ depth
    → Refused why w 0 → items_at depth (u ++ w) ≡ Err (record { reason = why; place = length u })
next_told zero u w is why some h le r = absurd (omega arith)
next_told (suc level) u w is why some h le r =
    let end = length (u ++ w) in
    let begins = some_begin w r.0 r.1 in
    let stops = stops_there level end w r.0 why r.1 r.2 in
    let all = stops_behind_items is (suc level) end u w (fault_at end w why) h le begins stops end (omega arith) in
    let place : end - length w ≡ length u = omega (arith, length-append u w) in
    rw (all, place) refl
