-- What a walk over a body has behind its steps.
use Rattle.std.specs.Prelude.{List, [], ◌∷◌, ◌++◌, take}
use Rattle.acpi_name.specs.Names.{NameParts}
use Rattle.acpi_tree.specs.Terms.{TermTrees, no_terms, more}
use Rattle.acpi_uses.specs.Guards.{GuardedTree, shown_behind}
use Rattle.acpi_uses.specs.GuardSteps.{guarded_by}
use Rattle.acpi_uses.specs.declared.guards.GuardStep.{GuardStep}
use Rattle.acpi_uses.specs.declared.guards.GuardStep.TheVariants.{Show, Keep, Statement}

-- the names that are shown behind steps, where these are shown before them
abbrev pub names_after : List NameParts → List GuardStep → List NameParts
names_after names [] = names
names_after names (Show n ∷ ss) = names_after (names ++ n.now ∷ []) ss
names_after names (Keep count ∷ ss) = names_after (take count names) ss
names_after names (Statement t ∷ ss) = names_after names ss

-- from the beginning of a body
abbrev pub found_by : List GuardStep → List GuardedTree
found_by ss = guarded_by [] ss

abbrev pub shown_by : List GuardStep → List NameParts
shown_by ss = names_after [] ss

-- what is shown behind the statements of a list
abbrev pub shown_behind_all : TermTrees → List NameParts
shown_behind_all no_terms = []
shown_behind_all (more t ts) = shown_behind t ++ shown_behind_all ts
