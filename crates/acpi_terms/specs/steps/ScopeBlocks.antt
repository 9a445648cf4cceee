-- Items that hold items: the reading of what stands before these, and then of them.
use Rattle.std.specs.Prelude.{◌≡◌, ◌<◌, ◌-◌, ◌++◌, ◌∷◌, [], ℕ, List, Bool, true, false, Option, None, Some, Result, Ok, Err}
use Rattle.acpi_name.specs.Names.{NameParts}
use Rattle.acpi_tree.specs.declared.tree.ScopeKind.{ScopeKind}
use Rattle.acpi_tree.specs.declared.tree.ScopeKind.TheVariants as kinds
use Rattle.acpi_tree.specs.Tree.{ItemTree, ItemTrees, scope}
use Rattle.acpi_code.specs.declared.opcode.Opcode.{Opcode}
use Rattle.acpi_code.specs.declared.opcode.Opcode.TheVariants as opcodes
use Rattle.acpi_code.specs.steps.Reading.{◌>>=◌, Reading, name_in, opcode_at, package_at}
use Rattle.acpi_terms.specs.declared.scope_block.ScopeFront.{ScopeFront}
use Rattle.acpi_terms.specs.declared.scope_block.ScopeBlock as code
use Rattle.acpi_terms.specs.declared.item.NextItem.{NextItem}
use Rattle.acpi_terms.specs.declared.item.NextItem.TheVariants.{Leaf, ScopeBlock}
use Rattle.acpi_tree.specs.Fits.{holds_items}
use Rattle.acpi_tree.specs.View.{item_view}
use Rattle.acpi_terms.specs.declared.fault.ItemFault.{ItemFault}
use Rattle.acpi_code.specs.steps.Remaining.{Remaining, Advances}
use Rattle.acpi_terms.specs.steps.Cursor.{Fails}
use Rattle.acpi_terms.specs.steps.Reading.{Fault, part, plain_at, items_with, item_at}
use Rattle.acpi_code.specs.Forms.{byte_arg, word_arg, dword_arg}

-- the opcode is that of an item that holds items
abbrev pub opens_items : Opcode → Bool
opens_items opcodes.Scope = true
opens_items opcodes.Device = true
opens_items opcodes.Processor = true
opens_items opcodes.Power = true
opens_items opcodes.Thermal = true
opens_items _ = false

-- the item of what stands before these items, and of them
abbrev pub scope_with : ScopeFront → ItemTrees → ItemTree
scope_with f is = scope f.kind f.name is

-- what stands between the name and the items, by fixed arguments
abbrev pub kind_at : Opcode → ℕ → List ℕ → Reading Fault ScopeKind
kind_at opcodes.Scope = plain_at [] (λ _. kinds.Scope) 0
kind_at opcodes.Device = plain_at [] (λ _. kinds.Device) 0
kind_at opcodes.Processor =
    plain_at (byte_arg ∷ dword_arg ∷ byte_arg ∷ []) (λ v. kinds.Processor v.0 v.1.0 v.1.1.0) 0
kind_at opcodes.Power = plain_at (byte_arg ∷ word_arg ∷ []) (λ v. kinds.Power v.0 v.1.0) 0
kind_at _ = plain_at [] (λ _. kinds.Thermal) 0

-- the name, and what stands behind it
abbrev pub front_at : Opcode → ℕ → List ℕ → Reading Fault (ItemTrees → ItemTree)
front_at opcode end bytes = do
  n ← part (name_in end bytes)
  k ← kind_at opcode end n.1
  Ok (scope k.0 n.0, k.1)

-- in a package, with the items behind them to its end
abbrev pub scope_block_item : (ℕ → List ℕ → Result ItemTrees Fault) → Opcode → ℕ → List ℕ
    → Reading Fault ItemTree
scope_block_item inner opcode end bytes = do
  p ← part (package_at end bytes)
  f ← front_at opcode p.end p.content
  is ← inner p.end f.1
  Ok (f.0 is, p.rest)

-- ---- as the code tells it

-- What stands before the items of an item was read, and these are spelled by the bytes inside: then the reading of the
-- item, by that of the items inside, is that of these, and puts them there.
abbrev pub BeginsWith : Result ItemTrees Fault → Reading Fault ItemTree → code.ScopeBlock → List ℕ
    → Type 0
BeginsWith inside whole h rest = whole ≡ (inside >>= λ is. Ok (scope_with h.front is, rest))

abbrev pub BeginsScope : ((ℕ → List ℕ → Result ItemTrees Fault) → ℕ → List ℕ
    → Reading Fault ItemTree) → Remaining → Remaining → Result code.ScopeBlock ItemFault → Type 0
BeginsScope read old new (Ok h) =
    ((inner : ℕ → List ℕ → Result ItemTrees Fault)
    → BeginsWith (inner h.inner.end h.inner.bytes) (read inner old.end old.bytes) h new.bytes)
    × Advances old new
BeginsScope read old new (Err e) =
    (inner : ℕ → List ℕ → Result ItemTrees Fault) → Fails e (read inner old.end old.bytes)

-- what stands before the items of the next item was read, whatever reads these
abbrev pub HasFront : Remaining → Remaining → code.ScopeBlock → Type 0
HasFront old new h = (opcode : Opcode) × (behind : List ℕ)
    × (opcode_at old.end old.bytes ≡ Ok (opcode, behind)) × (opens_items opcode ≡ true)
    × ((inner : ℕ → List ℕ → Result ItemTrees Fault)
    → BeginsWith (inner h.inner.end h.inner.bytes)
    (scope_block_item inner opcode old.end behind) h new.bytes)

-- the next item was read, or what stands before its items
abbrev pub GivesNext : ℕ → Remaining → Remaining → Result NextItem ItemFault → Type 0
GivesNext level old new (Ok (Leaf i)) =
    (item_at level old.end old.bytes ≡ Ok (item_view i, new.bytes))
    × (holds_items (item_view i) ≡ false) × (0 < level) × Advances old new
GivesNext level old new (Ok (ScopeBlock h)) =
    (BeginsWith (items_with (item_at (level - 1)) h.inner.end h.inner.bytes)
    (item_at level old.end old.bytes) h new.bytes × HasFront old new h) × (0 < level)
    × Advances old new
GivesNext level old new (Err e) = Fails e (item_at level old.end old.bytes)

-- the next item is the last of those that are there afterwards, or what stands before its items was read
abbrev pub ReadsNext : ℕ → Remaining → Remaining → List ItemTree → List ItemTree
    → Result (Option code.ScopeBlock) ItemFault → Type 0
ReadsNext level old new before now (Ok None) =
    ((i : ItemTree) × (item_at level old.end old.bytes ≡ Ok (i, new.bytes))
    × (now ≡ before ++ i ∷ [])) × Advances old new
ReadsNext level old new before now (Ok (Some h)) =
    (BeginsWith (items_with (item_at (level - 1)) h.inner.end h.inner.bytes)
    (item_at level old.end old.bytes) h new.bytes × (now ≡ before) × (0 < level)) × Advances old new
ReadsNext level old new before now (Err e) = Fails e (item_at level old.end old.bytes)
