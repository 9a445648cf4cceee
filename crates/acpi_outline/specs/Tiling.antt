-- Nodes tile their bytes: each begins where the one before it ends.
use Rattle.std.specs.Prelude.{◌≡◌, ◌<◌, ◌≤◌, ℕ}
use Rattle.acpi_outline.specs.Nodes.{NodeTree, holds, NodeTrees, no_more, lost, node, FieldNodes, no_more_fields, fields_lost, field_node, holds_fields}

-- the place of the first of these, or else the end of their list
abbrev pub first_place : (end : ℕ) → NodeTrees → ℕ
first_place end no_more = end
first_place end (lost place why) = place
first_place end (node place n ns) = place

abbrev pub first_field_place : (end : ℕ) → FieldNodes → ℕ
first_field_place end no_more_fields = end
first_field_place end (fields_lost place why) = place
first_field_place end (field_node place offset e es) = place

abbrev pub TilesFields : ℕ → ℕ → FieldNodes → Type 0
TilesFields start end no_more_fields = start ≡ end
TilesFields start end (fields_lost place why) = (place ≡ start) × (start < end)
TilesFields start end (field_node place offset e es) =
    (next : ℕ) × (place ≡ start) × (start < next) × (next ≤ end) × TilesFields next end es

abbrev mutual
  -- what stands in the node ends at the place `end`, where the node ends, and begins behind its first byte
  pub TilesInside : ℕ → ℕ → NodeTree → Type 0
  TilesInside place end (holds f ns) = (start : ℕ) × (place < start) × Tiles start end ns
  TilesInside place end (holds_fields f es) =
      (start : ℕ) × (place < start) × TilesFields start end es
  TilesInside place end _ = Unit {0}

  -- from one place to another
  pub Tiles : ℕ → ℕ → NodeTrees → Type 0
  Tiles start end no_more = start ≡ end
  Tiles start end (lost place why) = (place ≡ start) × (start < end)
  Tiles start end (node place n ns) = (next : ℕ) × (place ≡ start) × (start < next) × (next ≤ end)
      × TilesInside place next n × Tiles next end ns
