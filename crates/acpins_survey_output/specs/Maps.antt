-- What `map` prints of a survey: to what each byte of each table belongs (ACPI 6.5, 5.2.6, 5.3 and 20.2.5).
use Rattle.std.specs.Prelude.{◌+◌, ◌-◌, nat_eq, if◌then◌else◌, ℕ, zero, suc, List, [], ◌∷◌, ◌++◌, length, Option, Some, None, codes, decimal}
use Rattle.std.specs.List.{flat_map}
use Rattle.acpi_name.specs.Text.{path_text}
use Rattle.acpi_text.specs.Terms.{term_text}
use Rattle.acpi_tree.specs.Terms.{TermTree, declare, declare_units}
use Rattle.acpi_tree.specs.Tree.{FieldTree, unit}
use Rattle.acpi_outline.specs.declared.fault.LostFault.{LostFault}
use Rattle.acpi_outline.specs.declared.form.PackedForm.TheVariants as forms
use Rattle.acpi_outline.specs.Nodes.{PlainTree, term, external, FixedTree, scope, if_so, otherwise, while_so, NodeTree, plain, holds, holds_fields, closed, package_lost, data_lost, name_lost, NodeTrees}
use Rattle.acpi_outline.specs.View.{nodes_view}
use Rattle.acpi_conditions.specs.Entries.{Path, Why}
use Rattle.acpi_ranges.specs.Index.{entered_in, refusals_in}
use Rattle.acpi_ranges.specs.Index.{Refusals}
use Rattle.acpi_ranges.specs.LostRanges.{bytes_from, range_lost, unsure_name}
use Rattle.acpi_ranges.specs.Sites.{offset_of}
use Rattle.acpi_ranges.specs.Ranges.{Part, of_node, of_element, of_lost, Range, Entered, nothing_entered, code_ranges}
use Rattle.acpi_pieces.specs.Tables.{code_read}
use Rattle.acpi_survey.specs.Survey.{place_in}
use Rattle.acpi_survey.specs.declared.machine_survey.Survey.{Survey}
use Rattle.acpi_survey.specs.declared.machine_survey.SurveyedTable.{SurveyedTable}
use Rattle.acpi_ranges.specs.declared.lost_ranges.LostRange.{LostRange}
use Rattle.acpi_pieces.specs.declared.tables.TableContent.{TableContent}
use Rattle.acpi_pieces.specs.declared.tables.TableContent.TheVariants as judged
use Rattle.acpins_survey_output.specs.Found.{range_text}
use Rattle.acpins_survey_reasons.specs.Reasons.{lost_reason_text, named_text, table_reason_text, why_text}

-- A table's number; at each place of its code the path that is declared or entered there; and why what begins at a
-- place is refused.
pub record TableParts : Type 0 where
  pub number : ℕ
  pub entered : Entered
  pub refusals : Refusals

-- ---- what stands in a range

-- why what begins at a place is refused, or else what is done with which path
abbrev pub begun_text : (word : List ℕ) → Option Why → Option Path → List ℕ
begun_text word (Some why) path = codes "Refused " ++ why_text why
begun_text word None (Some path) = word ++ path_text path
begun_text word None None = []

abbrev pub declaring_text : TableParts → (word : List ℕ) → (place : ℕ) → List ℕ
declaring_text t word place =
    begun_text word (t.refusals (place_in t.number place)) (t.entered place)

abbrev pub term_in_map : TableParts → (place : ℕ) → TermTree → List ℕ
term_in_map t place (declare form before n behind) = declaring_text t (codes "Declares ") place
term_in_map t place (declare_units form ns before es) = declaring_text t (codes "Declares ") place
term_in_map t place v = codes "Statement " ++ term_text v

abbrev pub plain_in_map : TableParts → (place : ℕ) → PlainTree → List ℕ
plain_in_map t place (term v) = term_in_map t place v
plain_in_map t place (external x) = codes "External"
plain_in_map t place _ = declaring_text t (codes "Declares ") place

abbrev pub package_in_map : TableParts → (place : ℕ) → FixedTree → List ℕ
package_in_map t place (scope n) = declaring_text t (codes "Scope ") place
package_in_map t place (if_so v) = codes "If"
package_in_map t place otherwise = codes "Else"
package_in_map t place (while_so v) = codes "While"
package_in_map t place _ = declaring_text t (codes "Declares ") place

-- of a node of which not all is lost
abbrev pub node_in_map : TableParts → (place : ℕ) → NodeTree → List ℕ
node_in_map t place (plain p) = plain_in_map t place p
node_in_map t place (holds f ns) = package_in_map t place f
node_in_map t place (holds_fields f es) = codes "Fields"
node_in_map t place (closed f content) = package_in_map t place f
node_in_map t place (package_lost forms.While why) = codes "While"
node_in_map t place (package_lost form why) = codes "If"
node_in_map t place (data_lost form why) = []
node_in_map t place (name_lost n form why) = declaring_text t (codes "Declares ") place

abbrev pub element_in_map : TableParts → (place : ℕ) → FieldTree → List ℕ
element_in_map t place (unit segment bits) = declaring_text t (codes "Declares ") place
element_in_map t place _ = codes "Layout"

abbrev pub part_in_map : TableParts → (place : ℕ) → Part → List ℕ
part_in_map t place (of_node n) = node_in_map t place n
part_in_map t place (of_element f offset e) = element_in_map t place e
part_in_map t place (of_lost why) = []

-- ---- lines

-- two blanks for each range around
abbrev pub indent : (depth : ℕ) → List ℕ
indent zero = []
indent (suc depth) = indent depth ++ codes "  "

-- the table's number, the first byte of a range, and the first behind it
abbrev pub start_text : (depth number from to : ℕ) → List ℕ
start_text depth number from to =
    indent depth ++ decimal number ++ codes " " ++ range_text from to ++ codes " "

-- the line of a range of which not all is lost; offsets count the table's header
abbrev pub kept_line : TableParts → Range → List ℕ
kept_line t r = start_text r.depth t.number (offset_of r.from) (offset_of r.to)
    ++ part_in_map t r.from r.part ++ 10 ∷ []

-- the line of bytes that are lost; none where there are none
abbrev pub lost_line : (depth number : ℕ) → LostRange → (reason : List ℕ) → List ℕ
lost_line depth number l reason = if nat_eq l.from l.to then [] else
    start_text depth number l.from l.to ++ codes "Lost " ++ reason ++ 10 ∷ []

-- of what is lost of a range of a code
abbrev pub lost_in_map : (number : ℕ) → (code : List ℕ) → (depth : ℕ) → Range → LostFault
    → List ℕ
lost_in_map number code depth r why =
    lost_line depth number (range_lost code r)
    (lost_reason_text why.reason ++ named_text (unsure_name code why.place why.reason))

-- An If or While of which a part is lost has a line, and the part one inside it. The lost data of a Name has none.
abbrev pub node_lines : TableParts → (code : List ℕ) → Range → NodeTree → List ℕ
node_lines t code r (package_lost forms.If why) =
    kept_line t r ++ lost_in_map t.number code (suc r.depth) r why
node_lines t code r (package_lost forms.While why) =
    kept_line t r ++ lost_in_map t.number code (suc r.depth) r why
node_lines t code r (package_lost form why) = lost_in_map t.number code r.depth r why
node_lines t code r (data_lost form why) = lost_in_map t.number code r.depth r why
node_lines t code r n = kept_line t r

abbrev pub part_lines : TableParts → (code : List ℕ) → Range → Part → List ℕ
part_lines t code r (of_node n) = node_lines t code r n
part_lines t code r (of_element f offset e) = kept_line t r
part_lines t code r (of_lost why) = lost_in_map t.number code r.depth r why

abbrev pub range_lines : TableParts → (code : List ℕ) → Range → List ℕ
range_lines t code r = part_lines t code r r.part

-- ---- tables

-- the header and the ranges of a code
abbrev pub code_lines : TableParts → (code : List ℕ) → NodeTrees → List ℕ
code_lines t code ns = start_text 0 t.number 0 36 ++ codes "Header\n"
    ++ flat_map (range_lines t code) (code_ranges nothing_entered (length code) ns)

-- .. and what stands behind the table; of a table of which nothing is read all bytes are lost
abbrev pub table_lines : TableParts → (bytes : List ℕ) → TableContent → NodeTrees → List ℕ
table_lines t bytes (judged.Unread why) ns =
    lost_line 0 t.number (bytes_from 0 bytes) (table_reason_text why)
table_lines t bytes (judged.Read code is_cut has_bad_sum is_out_of_place behind) ns =
    code_lines t code ns
    ++ lost_line 0 t.number (bytes_from (length bytes - behind) bytes) (codes "L3 Trailing")

abbrev pub table_parts : (ℕ → Entered) → Refusals → (number : ℕ) → TableParts
table_parts entered refusals number =
    record { number = number; entered = entered number; refusals = refusals }

-- of tables from a number on, by what is entered in each
abbrev pub map_by : (ℕ → Entered) → Refusals → (number : ℕ) → List SurveyedTable → List ℕ
map_by entered refusals number [] = []
map_by entered refusals number (t ∷ ts) =
    table_lines (table_parts entered refusals number) t.bytes t.judged (nodes_view t.nodes)
    ++ map_by entered refusals (number + 1) ts

-- a line for each range of each table, in byte order
abbrev pub map_text : Survey → List ℕ
map_text s = map_by (entered_in s.reading) (refusals_in s.reading) 0 s.tables.items
