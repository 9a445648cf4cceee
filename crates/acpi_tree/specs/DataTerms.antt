-- Constant data as a term (ACPI 6.5, 20.2.3 and 20.2.5.4): what a declaration holds is what a method body may hold.
use Rattle.acpi_tree.specs.Tree.{DataTree, int, str, buffer, pkg, var_pkg, ElemTree, of_data, of_name, ElemTrees, no_elems, elem}
use Rattle.acpi_tree.specs.Terms as terms
use Rattle.acpi_tree.specs.Terms.{TermTree, TermTrees, ref, no_terms, more}

abbrev mutual
  pub data_term : DataTree → TermTree
  data_term (int i) = terms.int i
  data_term (str text) = terms.str text
  data_term (buffer size content) = terms.buffer (terms.int size) content
  data_term (pkg count es) = terms.pkg count (elem_terms es)
  data_term (var_pkg count es) = terms.var_pkg (terms.int count) (elem_terms es)

  pub elem_term : ElemTree → TermTree
  elem_term (of_data d) = data_term d
  elem_term (of_name n) = ref n

  pub elem_terms : ElemTrees → TermTrees
  elem_terms no_elems = no_terms
  elem_terms (elem e es) = more (elem_term e) (elem_terms es)
