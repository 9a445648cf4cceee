-- Which nodes stand for bytes, under a state: the outline of a table's code (ACPI 6.5, 20.2.5).
use Rattle.std.specs.Prelude.{◌≡◌, ◌+◌, ◌-◌, ◌^◌, ◌<◌, ℕ, suc, min, true, false, List, [], ◌++◌, length}
use Rattle.acpi_tree.specs.declared.place.Place.TheVariants.{Value, Statement}
use Rattle.acpi_tree.specs.Tree.{FieldTree}
use Rattle.acpi_tree.specs.Offsets.{element_bits}
use Rattle.acpi_code.specs.Spelling.{Packs}
use Rattle.acpi_code.specs.Fields.{SpellsField}
use Rattle.acpi_outline.specs.Nodes.{FieldNodes, no_more_fields, fields_lost, field_node}
use Rattle.acpi_outline.specs.Nodes.{NodeTree, plain, holds, holds_fields, closed, package_lost, data_lost, name_lost, NodeTrees, no_more, lost, node, form_of, form_bytes, data_bytes, has_fields}
use Rattle.acpi_outline.specs.Rules.{Rules, goes_into, after}
pub use Rattle.acpi_outline.specs.Spelling.{operands_after, operands_first, is_stray, SpellsPlain, source_height, first_heights, plain_height, IsPlain, test_height, IsTest, container_operands, IsFixed, IsNameOf}
use Rattle.acpi_outline.specs.Faults.{FailsTermAt, FailsFixed, FailsElement, FailsNode}

-- ---- the elements of a field list, which have no level (20.2.5.2)

-- the number of bits before the next element, a number of 64 bits
abbrev pub bits_behind : (offset : ℕ) → FieldTree → ℕ
bits_behind offset e = min (offset + element_bits e) (2 ^ 64 - 1)

-- the elements stand for the bytes, so many bits standing before them in their list
abbrev pub AreFields : (end offset : ℕ) → FieldNodes → List ℕ → Type 0
AreFields end offset no_more_fields bytes = bytes ≡ []
AreFields end offset (fields_lost place why) bytes =
    (place ≡ end - length bytes) × (0 < length bytes) × FailsElement end bytes why
AreFields end offset (field_node place at e es) bytes =
    (a : List ℕ) × (b : List ℕ) × (place ≡ end - length bytes) × (at ≡ offset) × SpellsField e a
    × AreFields end (bits_behind offset e) es b × (bytes ≡ a ++ b)

-- ---- outlines

-- The bytes end at the place `end`. A node is read wherever one begins; where none does, what is left of the list is
-- lost, for the reason for which none does. A package that ends within its list holds its faults: where its fixed
-- arguments or its data can't be read it is lost alone, and the list goes on behind it.
abbrev mutual
  -- the node stands for the bytes from `place` to `end`, `level` levels being left inside it
  pub IsNode : {S : Type 0} → Rules S → ℕ → ℕ → ℕ → S → NodeTree → List ℕ → Type 0
  IsNode r level place end known (plain p) bytes = IsPlain r (suc level) known p bytes
  IsNode r level place end known (holds f ns) bytes =
      (a : List ℕ) × (b : List ℕ) × IsFixed r level known f a × (goes_into r known f ≡ true)
      × AreNodes r level end (r.enter known place f) ns b
      × Packs (form_bytes (form_of f)) (a ++ b) bytes
  IsNode r level place end known (holds_fields f es) bytes =
      (a : List ℕ) × (b : List ℕ) × IsFixed r level known f a × (goes_into r known f ≡ false)
      × AreFields end 0 es b × Packs (form_bytes (form_of f)) (a ++ b) bytes × (has_fields f ≡ true)
  IsNode r level place end known (closed f content) bytes =
      (a : List ℕ) × IsFixed r level known f a × (goes_into r known f ≡ false)
      × Packs (form_bytes (form_of f)) (a ++ content) bytes × (has_fields f ≡ false)
  IsNode r level place end known (package_lost form why) bytes =
      (b : List ℕ) × FailsFixed r level known form end b why × Packs (form_bytes form) b bytes
  IsNode r level place end known (data_lost form why) bytes =
      (b : List ℕ) × Packs (data_bytes form) b bytes
      × FailsTermAt r (suc level) known Statement end bytes why
  IsNode r level place end known (name_lost n form why) bytes =
      (0 < level) × (is : IsNameOf n form bytes)
      × FailsTermAt r level known Value end is.packed why

  -- the nodes stand for all of the bytes, `level` levels being left for each
  pub AreNodes : {S : Type 0} → Rules S → ℕ → ℕ → S → NodeTrees → List ℕ → Type 0
  AreNodes r level end known no_more bytes = bytes ≡ []
  AreNodes r level end known (lost place why) bytes =
      (place ≡ end - length bytes) × (0 < length bytes) × FailsNode r level known end bytes why
  AreNodes r level end known (node place n ns) bytes = (a : List ℕ) × (b : List ℕ) × (inside : ℕ)
      × (level ≡ suc inside) × (place ≡ end - length bytes)
      × IsNode r inside place (end - length b) known n a
      × AreNodes r level end (after r place known n) ns b × (bytes ≡ a ++ b)

-- the outline of a code, with at most `depth` levels, from a first state
abbrev pub IsOutline : {S : Type 0} → Rules S → S → ℕ → NodeTrees → List ℕ → Type 0
IsOutline r known depth ns code = AreNodes r depth (length code) known ns code
