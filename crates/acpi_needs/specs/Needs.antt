-- The names in a term that have to be found when it is run (ACPI 6.5, 5.3 and 20.2.5).
use Rattle.std.specs.Prelude.{Bool, true, false, cond, List, [], ◌∷◌, ◌++◌}
use Rattle.std.specs.List.{list_any}
use Rattle.acpi_name.specs.Names.{NameParts}
use Rattle.acpi_name.specs.NameEqual.{name_eq}
use Rattle.acpi_tree.specs.declared.op.Op.{Op}
use Rattle.acpi_tree.specs.declared.op.Op.TheVariants.{CondRefOf}
use Rattle.acpi_tree.specs.Terms.{TermTree, TermTrees, buffer, pkg, var_pkg, ref, call, apply, declare, no_terms, more}

-- CondRefOf finds out whether its operand is there (19.6.14)
abbrev pub finds_out : Op → Bool
finds_out CondRefOf = true
finds_out _ = false

-- In the order of their bytes. A name that is an element of a package is kept, and not searched.
abbrev mutual
  pub names_in : TermTree → List NameParts
  names_in (buffer size content) = names_in size
  names_in (pkg count es) = names_in_elements es
  names_in (var_pkg count es) = names_in count ++ names_in_elements es
  names_in (ref n) = n ∷ []
  names_in (call n vs) = n ∷ names_in_all vs
  names_in (apply op vs) = cond (finds_out op) [] (names_in_all vs)
  names_in _ = []

  pub names_in_all : TermTrees → List NameParts
  names_in_all no_terms = []
  names_in_all (more t ts) = names_in t ++ names_in_all ts

  pub names_in_elements : TermTrees → List NameParts
  names_in_elements no_terms = []
  names_in_elements (more t ts) = names_in_element t ++ names_in_elements ts

  pub names_in_element : TermTree → List NameParts
  names_in_element (ref n) = []
  names_in_element (buffer size content) = names_in size
  names_in_element (pkg count es) = names_in_elements es
  names_in_element (var_pkg count es) = names_in count ++ names_in_elements es
  names_in_element _ = []

-- the source of a Create field may be a name, which is searched later
abbrev pub names_in_source : TermTree → List NameParts
names_in_source (ref n) = []
names_in_source t = names_in t

abbrev pub names_before : TermTrees → List NameParts
names_before no_terms = []
names_before (more t ts) = names_in_source t ++ names_in_all ts

-- in the operands of a declaration
abbrev pub names_of : TermTree → List NameParts
names_of (declare form before n behind) = names_before before ++ names_in_all behind
names_of _ = []

-- ---- each once

abbrev pub is_among : List NameParts → NameParts → Bool
is_among ns n = list_any (λ m. name_eq m n) ns

abbrev pub with_name : List NameParts → NameParts → List NameParts
with_name ns n = cond (is_among ns n) ns (ns ++ n ∷ [])

-- the names behind others, each where it stands first
abbrev pub with_names : List NameParts → List NameParts → List NameParts
with_names kept [] = kept
with_names kept (n ∷ ns) = with_names (with_name kept n) ns
