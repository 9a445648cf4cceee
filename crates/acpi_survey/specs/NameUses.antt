-- The names in terms, by how they stand there (ACPI 6.5, 20.2.2 and 20.2.5).
use Rattle.std.specs.Prelude.{List, [], ◌∷◌, ◌++◌, map}
use Rattle.std.specs.Borrow.{Bor}
use Rattle.acpi_name.specs.Names.{NameParts}
use Rattle.acpi_tree.specs.Terms.{TermTree, TermTrees, buffer, pkg, var_pkg, ref, call, apply, ElseTree, if_do, no_else, else_do, while_do, declare, declare_units, no_terms, more}
use Rattle.acpi_outline.specs.Nodes.{PlainTree, term, external, alias, table_region, FixedTree, if_so, while_so, units}
use Rattle.acpi_survey.specs.declared.name_uses.NameUse.{NameUse}
use Rattle.acpi_survey.specs.declared.name_uses.NameUse.TheVariants.{Call, Reference}

-- a name that stands so, if such names are wanted
abbrev pub if_wanted : (wanted found : NameUse) → NameParts → List NameParts
if_wanted Call Call n = n ∷ []
if_wanted Reference Reference n = n ∷ []
if_wanted _ _ n = []

-- In the order of their bytes. The name that a term declares is none of them.
abbrev mutual
  pub names_used : NameUse → TermTree → List NameParts
  names_used wanted (buffer size content) = names_used wanted size
  names_used wanted (pkg count es) = names_used_all wanted es
  names_used wanted (var_pkg count es) = names_used wanted count ++ names_used_all wanted es
  names_used wanted (ref n) = if_wanted wanted Reference n
  names_used wanted (call n vs) = if_wanted wanted Call n ++ names_used_all wanted vs
  names_used wanted (apply op vs) = names_used_all wanted vs
  names_used wanted (if_do v ts e) =
      names_used wanted v ++ (names_used_all wanted ts ++ names_used_else wanted e)
  names_used wanted (while_do v ts) = names_used wanted v ++ names_used_all wanted ts
  names_used wanted (declare form before n behind) =
      names_used_all wanted before ++ names_used_all wanted behind
  names_used wanted (declare_units form ns vs es) = names_used_all wanted vs
  names_used wanted _ = []

  pub names_used_else : NameUse → ElseTree → List NameParts
  names_used_else wanted no_else = []
  names_used_else wanted (else_do ts) = names_used_all wanted ts

  pub names_used_all : NameUse → TermTrees → List NameParts
  names_used_all wanted no_terms = []
  names_used_all wanted (more t ts) = names_used wanted t ++ names_used_all wanted ts

-- in a plain node; the source of an Alias stands there in each way
abbrev pub names_used_in_plain : NameUse → PlainTree → List NameParts
names_used_in_plain wanted (term t) = names_used wanted t
names_used_in_plain wanted (external x) = []
names_used_in_plain wanted (alias source n) = source ∷ []
names_used_in_plain wanted (table_region n vs) = names_used_all wanted vs

-- in the fixed arguments of a package
abbrev pub names_used_in_fixed : NameUse → FixedTree → List NameParts
names_used_in_fixed wanted (if_so v) = names_used wanted v
names_used_in_fixed wanted (while_so v) = names_used wanted v
names_used_in_fixed wanted (units form ns vs) = names_used_all wanted vs
names_used_in_fixed wanted _ = []

-- names that are lent
abbrev pub lent_names : List (Bor NameParts) → List NameParts
lent_names ns = map (λ n. n.now) ns
