-- Laws on what bytes spell.
use Rattle.std.specs.Prelude.{◌≡◌, ◌≤◌, ◌↔◌, ℕ, suc, List, [], ◌∷◌}
use Rattle.acpi_tree.specs.Tree.{DataTree, FieldTree, ItemTrees}
use Rattle.acpi_tree.specs.DataTerms.{data_term}
use Rattle.acpi_values.specs.Spelling.{Spells}
use Rattle.acpi_code.specs.Fields.{SpellsFields}
use Rattle.acpi_terms.specs.declared.fault.ItemReason.{ItemReason}
use Rattle.acpi_terms.specs.declared.fault.ItemReason.TheVariants.{NotData}
use Rattle.acpi_terms.specs.Spelling.{data_grammar, SpellsItems, items_height}
use Rattle.acpi_terms.specs.Faults.{ShowsItems}

-- at most one item tree stands for a code
abbrev pub OneItemTree : Type 0
OneItemTree =
    (code : List ℕ) (is js : ItemTrees) → SpellsItems is code → SpellsItems js code → is ≡ js

-- at most one data tree is spelled by some bytes
abbrev pub OneDataTree : Type 0
OneDataTree = (bytes : List ℕ) (d e : DataTree) → Spells data_grammar (data_term d) bytes
    → Spells data_grammar (data_term e) bytes → d ≡ e

-- at most one list of field elements is spelled by some bytes
abbrev pub OneFieldList : Type 0
OneFieldList = (bytes : List ℕ) (es fs : List FieldTree) → SpellsFields es bytes
    → SpellsFields fs bytes → es ≡ fs

-- of a code and a number of levels at most one reason at one place is true
abbrev pub OneRefusal : Type 0
OneRefusal = (depth : ℕ) (code : List ℕ) (why other : ItemReason) (place there : ℕ)
    → ShowsItems depth code why place → ShowsItems depth code other there
    → (why ≡ other) × (place ≡ there)

-- none is true of a code that spells items within the depth, and one is true of any other
abbrev pub SpelledOrRefused : Type 0
SpelledOrRefused = (depth : ℕ) (code : List ℕ)
    → ((why : ItemReason) × (place : ℕ) × ShowsItems depth code why place)
    ↔ ((is : ItemTrees) → SpellsItems is code → items_height is ≤ depth → ⊥)

-- Name (_PR_) and no data, but Alias: within two levels and more the reason is NotData, at the byte 06
abbrev pub AliasIsNoData : Type 0
AliasIsNoData = (levels : ℕ) (why : ItemReason) (place : ℕ)
    → ShowsItems (suc (suc levels)) (0x08 ∷ 0x5F ∷ 0x50 ∷ 0x52 ∷ 0x5F ∷ 0x06 ∷ []) why place
    ↔ ((why ≡ NotData) × (place ≡ 5))
