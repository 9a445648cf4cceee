-- What the steps of a walk over a body say.
use Rattle.std.specs.Prelude.{List, [], ◌∷◌, ◌++◌, take}
use Rattle.acpi_name.specs.Names.{NameParts}
use Rattle.acpi_tree.specs.TermView.{term_view}
use Rattle.acpi_uses.specs.Guards.{GuardedTree}
use Rattle.acpi_uses.specs.declared.guards.GuardStep.{GuardStep}
use Rattle.acpi_uses.specs.declared.guards.GuardStep.TheVariants.{Show, Keep, Statement}

-- the statements, and the names that are shown at each, where these are shown before the steps
abbrev pub guarded_by : List NameParts → List GuardStep → List GuardedTree
guarded_by names [] = []
guarded_by names (Show n ∷ ss) = guarded_by (names ++ n.now ∷ []) ss
guarded_by names (Keep count ∷ ss) = guarded_by (take count names) ss
guarded_by names (Statement t ∷ ss) = (names, term_view t.now) ∷ guarded_by names ss
