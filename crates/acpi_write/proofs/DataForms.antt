-- The shortest spelling of packages of data, form by form.
use Rattle.std.proofs.Common.{◌≡◌, ◌∙◌, ap, sym, refl, ℕ, List, [], ◌∷◌, ◌++◌, Option, Some, None, append-nil}
use Rattle.std.specs.Fmt.{option_append}
use Rattle.std.specs.Global.{Vec}
use Rattle.acpi_tree.specs.declared.tree.Data.{Data, Data-F, fold-roll-Data}
use Rattle.acpi_tree.specs.declared.tree.Data.TheVariants as constant
use Rattle.acpi_tree.specs.declared.tree.Elem.{Elem}
use Rattle.acpi_tree.specs.declared.tree.Int.{Int}
use Rattle.acpi_tree.specs.Tree.{DataTree, ElemTree, elems_of}
use Rattle.acpi_tree.specs.DataTerms.{data_term, elem_terms}
use Rattle.acpi_tree.specs.View.{data_step, elem_step, data_view, elems_view}
use Rattle.acpi_write.specs.Canonical.{int_bytes, packed_bytes, filled_with}
use Rattle.acpi_write.specs.CanonicalTerms.{term_bytes, terms_bytes}

pub package_is : (d : Data) (n : ℕ) (v : Vec Elem) (es : List Elem) → d ≡ constant.Package n v → es ≡ v.items
    → term_bytes (data_term (data_view d)) ≡ filled_with (0x12 ∷ []) (n ∷ []) (terms_bytes (elem_terms (elems_of (elems_view es))))
package_is d n v es is same =
    rw same (ap (λ x. term_bytes (data_term (data_view x))) (is ∙ sym (constant.rolls-Package n v))
    ∙ ap (λ t. term_bytes (data_term t)) (fold-roll-Data DataTree ElemTree data_step elem_step (Data-F.Package n v)))

-- the constant is the first thing in the package, or what stands in front of it
in_front : (op front : List ℕ) (b : Option (List ℕ)) → filled_with op [] (option_append (Some front) b) ≡ filled_with op (front ++ []) b
in_front op front None = refl
in_front op front (Some b) = ap (λ l. packed_bytes op (l ++ b)) (sym (append-nil front))

pub var_package_is : (d : Data) (i : Int) (v : Vec Elem) (es : List Elem) → d ≡ constant.VarPackage i v → es ≡ v.items
    → term_bytes (data_term (data_view d)) ≡ filled_with (0x13 ∷ []) (int_bytes i ++ []) (terms_bytes (elem_terms (elems_of (elems_view es))))
var_package_is d i v es is same =
    rw same (ap (λ x. term_bytes (data_term (data_view x))) (is ∙ sym (constant.rolls-VarPackage i v))
    ∙ ap (λ t. term_bytes (data_term t)) (fold-roll-Data DataTree ElemTree data_step elem_step (Data-F.VarPackage i v))
    ∙ in_front (0x13 ∷ []) (int_bytes i) (terms_bytes (elem_terms (elems_of (elems_view v.items)))))
