-- Parts put behind others.
use Rattle.std.specs.Prelude.{◌≡◌, ℕ, ◌+◌, List, [], ◌∷◌, ◌++◌, length}
use Rattle.acpi_tree.specs.Tree.{DataTree, ElemTree, ElemTrees}
use Rattle.acpi_tree.specs.declared.tree.Int.{Int}
use Rattle.acpins_records.specs.declared.parts.PartRecord.{PartRecord}
use Rattle.acpins_records.specs.declared.parts.Parts.{Parts}
use Rattle.acpins_records.specs.Parts.{part, elems_parts_in, data_parts, data_bytes, elem_parts, elem_bytes, elems_parts, elems_bytes}

-- some parts, which depend on where they stand, and their bytes stand behind the old ones
pub record Adds (parts : (place byte : ℕ) → List PartRecord) (bytes : List ℕ)
    (old new : Parts) : Type 0 where
  pub parts_are : new.parts.items
      ≡ old.parts.items ++ parts (length old.parts.items) (length old.bytes.items)
  pub bytes_are : new.bytes.items ≡ old.bytes.items ++ bytes

-- a part without elements that holds these bytes
abbrev pub AddsHolder : (kind : ℕ) → Int → (bytes : List ℕ) (old new : Parts) → Type 0
AddsHolder kind constant bytes =
    Adds (λ place byte. part kind constant byte (length bytes) (place + 1) ∷ []) bytes

-- a package before its elements
abbrev pub AddsPackage : (kind : ℕ) → Int → ElemTrees → (old new : Parts) → Type 0
AddsPackage kind count es = Adds
    (λ place byte. part kind count 0 0 (place + 1 + elems_parts_in es)
    ∷ elems_parts (place + 1) byte es) (elems_bytes es)

-- an element
abbrev pub AddsElem : ElemTree → (old new : Parts) → Type 0
AddsElem e = Adds (λ place byte. elem_parts place byte e) (elem_bytes e)

-- some data
abbrev pub AddsParts : DataTree → (old new : Parts) → Type 0
AddsParts d = Adds (λ place byte. data_parts place byte d) (data_bytes d)
