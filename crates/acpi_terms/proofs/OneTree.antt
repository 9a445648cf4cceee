-- At most one tree is spelled by some bytes.
use Rattle.std.proofs.Common.{◌≡◌, ℕ, ◌+◌, List, [], Result, Ok, sym, ap, ◌∙◌, arith}
use Rattle.acpi_tree.specs.Tree.{DataTree}
use Rattle.acpi_terms.proofs.DataTrees.{data_complete}
use Rattle.acpi_terms.proofs.Fields.{fields_complete}
use Rattle.acpi_terms.proofs.Items.{code_complete}
use Rattle.acpi_terms.specs.Spelling.{data_grammar, items_height}
use Rattle.acpi_terms.specs.steps.Data.{data_height}
use Rattle.acpi_terms.proofs.DataSpelling.{spelled_data}
use Rattle.acpi_terms.specs.steps.Reading.{Fault}
use Rattle.acpi_terms.specs.Laws.{OneItemTree, OneDataTree, OneFieldList}

abbrev done : {A : Type 0} → A → Result A Fault
done x = Ok x

abbrev end : DataTree → DataTree × List ℕ
end d = (d, [])

abbrev alone : DataTree → Result (DataTree × List ℕ) Fault
alone d = Ok (end d)

pub one_item_tree : OneItemTree
one_item_tree code is js h k =
    let depth = items_height is + items_height js in
    let both : done is ≡ done js = sym (code_complete is depth code h (omega arith)) ∙ code_complete js depth code k (omega arith) in
    cc

pub one_data_tree : OneDataTree
one_data_tree bytes d e h k =
    let level = data_height d + data_height e in
    let both : alone d ≡ alone e = sym (data_complete d level 0 bytes [] (spelled_data data_grammar d bytes h) (omega arith)) ∙ data_complete e level 0 bytes [] (spelled_data data_grammar e bytes k) (omega arith) in
    let pair : end d ≡ end e = cc in
    ap (λ p. p.0) pair

pub one_field_list : OneFieldList
one_field_list bytes es fs h k =
    let both : done es ≡ done fs = sym (fields_complete es 0 bytes h) ∙ fields_complete fs 0 bytes k in
    cc
