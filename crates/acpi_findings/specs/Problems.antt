-- What is lost or refused in a table, and where (ACPI 6.5, 5.2.6, 5.3 and 20.2.5).
use Rattle.std.specs.Prelude.{◌-◌, ℕ, cond, nat_lt, List, [], ◌∷◌, ◌++◌, length, map, Option, Some, None}
use Rattle.std.specs.Option.{option_to_list}
use Rattle.std.specs.List.{flat_map}
use Rattle.acpi_name.specs.Names.{NameParts}
use Rattle.acpi_outline.specs.declared.fault.LostFault.{LostFault}
use Rattle.acpi_outline.specs.Nodes.{NodeTrees, package_lost, data_lost, name_lost}
use Rattle.acpi_conditions.specs.Entries.{Path, Why}
use Rattle.acpi_survey.specs.Survey.{place_in}
use Rattle.acpi_pieces.specs.Tables.{code_read}
use Rattle.acpi_pieces.specs.declared.tables.TableReason.{TableReason}
use Rattle.acpi_pieces.specs.declared.tables.TableContent.{TableContent}
use Rattle.acpi_pieces.specs.declared.tables.TableContent.TheVariants as judged
use Rattle.acpi_ranges.specs.Index.{Refusals}
use Rattle.acpi_ranges.specs.LostRanges.{bytes_between, bytes_from, range_lost, unsure_name}
use Rattle.acpi_ranges.specs.Ranges.{Part, of_node, of_lost, Range, Entered, code_ranges}
use Rattle.acpi_ranges.specs.Sites.{site_at}
use Rattle.acpi_ranges.specs.declared.lost_ranges.LostRange.{LostRange}
use Rattle.acpi_ranges.specs.declared.sites.Site.{Site}

-- Why something of a table is lost: the table isn't read, or is cut; bytes stand behind it; a part of its code can't be
-- read; a term declares nothing, or a Scope isn't entered.
pub data ReasonParts : Type 0 where
  unread : TableReason → ReasonParts
  cut : ReasonParts
  trailing : ReasonParts
  unreadable : LostFault → ReasonParts
  refused : Why → ReasonParts

-- A problem: where, and why; of which name it isn't sure how many values follow it, where that is the reason; the bytes
-- that are lost, if some are; and the scope in which it stands, but for the table as a whole.
pub record ProblemParts : Type 0 where
  pub site : Site
  pub reason : ReasonParts
  pub name : Option NameParts
  pub lost : Option LostRange
  pub scope : Option Path

-- ---- the table as a whole (5.2.6)

abbrev pub table_problem : (number offset : ℕ) → ReasonParts → Option LostRange → ProblemParts
table_problem number offset why lost =
    record {
      site = record { table = number; offset = offset };
      reason = why;
      name = None;
      lost = lost;
      scope = None;
    }

-- before the problems of its code: none of the table is read, or it is cut
abbrev pub front_problems : (number : ℕ) → (bytes : List ℕ) → TableContent → List ProblemParts
front_problems number bytes (judged.Unread why) =
    table_problem number 0 (unread why) (Some (bytes_from 0 bytes)) ∷ []
front_problems number bytes (judged.Read code is_cut has_bad_sum is_out_of_place behind) =
    cond is_cut (table_problem number 0 cut None ∷ []) []

-- behind them: bytes stand behind the table
abbrev pub trailing_problems : (number : ℕ) → (bytes : List ℕ) → TableContent → List ProblemParts
trailing_problems number bytes (judged.Unread why) = []
trailing_problems number bytes (judged.Read code is_cut has_bad_sum is_out_of_place behind) =
    cond (nat_lt 0 behind)
    (table_problem number (length bytes - behind) trailing
    (Some (bytes_from (length bytes - behind) bytes)) ∷ []) []

-- ---- the code

-- why a part is lost, if it is
abbrev pub why_lost : Part → List LostFault
why_lost (of_node (package_lost form why)) = why ∷ []
why_lost (of_node (data_lost form why)) = why ∷ []
why_lost (of_node (name_lost n form why)) = why ∷ []
why_lost (of_lost why) = why ∷ []
why_lost _ = []

abbrev pub lost_problem : List ℕ → (number : ℕ) → Range → LostFault → ProblemParts
lost_problem code number r why = record {
  site = site_at number why.place;
  reason = unreadable why;
  name = unsure_name code why.place why.reason;
  lost = Some (range_lost code r);
  scope = Some r.scope;
}

abbrev pub refused_problem : (number : ℕ) → Range → Why → ProblemParts
refused_problem number r why = record {
  site = site_at number r.from;
  reason = refused why;
  name = None;
  lost = Some (bytes_between r.from r.to);
  scope = Some r.scope;
}

abbrev pub refused_in : Refusals → (number : ℕ) → Range → List ProblemParts
refused_in refusals number r =
    map (refused_problem number r) (option_to_list (refusals (place_in number r.from)))

abbrev pub lost_in : List ℕ → (number : ℕ) → Range → List ProblemParts
lost_in code number r = map (lost_problem code number r) (why_lost r.part)

-- of a range: that its term or element is refused, and what is lost of it
abbrev pub range_problems : Refusals → List ℕ → (number : ℕ) → Range → List ProblemParts
range_problems refusals code number r = refused_in refusals number r ++ lost_in code number r

-- the ranges of a table's nodes
abbrev pub table_ranges : Entered → TableContent → NodeTrees → List Range
table_ranges entered j ns = code_ranges entered (length (code_read j)) ns

-- the problems of the table of that number, by what is entered at the places of its code
abbrev pub table_problems : Entered → Refusals → (number : ℕ) → (bytes : List ℕ) → TableContent
    → NodeTrees → List ProblemParts
table_problems entered refusals number bytes j ns =
    front_problems number bytes j
    ++ flat_map (range_problems refusals (code_read j) number) (table_ranges entered j ns)
    ++ trailing_problems number bytes j
