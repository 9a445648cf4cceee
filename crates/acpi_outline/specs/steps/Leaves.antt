-- The tree that a node stands for in which none stand.
use Rattle.acpi_outline.specs.declared.leaf.Leaf.{Leaf}
use Rattle.acpi_outline.specs.declared.leaf.Leaf.TheVariants as leaves
use Rattle.acpi_outline.specs.Nodes.{NodeTree, plain, data_lost, name_lost}
use Rattle.acpi_outline.specs.View.{plain_view}

abbrev pub leaf_view : Leaf → NodeTree
leaf_view (leaves.Plain p) = plain (plain_view p)
leaf_view (leaves.DataLost form why) = data_lost form why
leaf_view (leaves.NameLost n form why) = name_lost n form why
