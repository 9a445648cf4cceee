-- Lines of a listing, put one after another.
use Rattle.std.specs.Prelude.{◌≡◌, List, ◌++◌, map}
use Rattle.std.specs.FinMap.{entries}
use Rattle.acpi_name.specs.Names.{Segment}
use Rattle.acpi_space.specs.Spaces.{PathMap}
use Rattle.acpi_tree.specs.Objects.{ObjectTree, object_view}
use Rattle.acpi_tree.specs.declared.object.Object.{Object}
use Rattle.acpi_text.specs.Lines.{listing_text}
use Rattle.acpi_declare.specs.Links.{links_at}
use Rattle.acpins_output.specs.declared.listing.Lines.{Lines}

-- the objects of a space by their paths, in the order of the paths
abbrev pub objects_by_path : PathMap Object → List (List Segment × ObjectTree)
objects_by_path m = map (λ e. (e.0, object_view e.1)) (entries m)

-- the lines of these pairs stand behind the first lines, and the links are the same
pub record AreLines (first : Lines) (pairs : List (List Segment × Object))
    (now : Lines) : Type 0 where
  pub links : now.links ≡ first.links
  pub text : now.text
      ≡ first.text
      ++ listing_text (map (λ e. (e.0, object_view e.1)) pairs) (links_at first.links.now)
