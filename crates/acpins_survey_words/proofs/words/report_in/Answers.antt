use Rattle.std.proofs.Common.{◌≡◌, ◌∙◌, Bool, List, Some, None, true, false, if◌then◌else◌, ap, codes, option_map, rules}
use Rattle.clap.proofs.WalkLemmas.{first_value-rows}
use Rattle.clap.specs.Matches.{found_of}
use Rattle.clap.specs.Takes.{is_given}
use Rattle.clap.specs.Walk.{Row, first_of, rows_of}
use Rattle.acpins_survey_words.specs.Words.{command_in, has_width, is_width, report_by, reporting}
use Rattle.acpins_survey_words.proofs.words.report_in.Goals as goal
use Rattle.acpins_survey_words.proofs.words.report_in.Goals.{in-Some+in_ok-width_of-in-Some, in-None}

by_width : (rows : List Row) (is : Bool) → is ≡ has_width (first_of (codes "width") rows)
    → (if is then Some (reporting (is_given (codes "verbose") rows)) else None) ≡ report_by rows
by_width rows is e = ap (λ b. if b then Some (reporting (is_given (codes "verbose") rows)) else None) e

pub returns-in_err-width_of-in-Some : goal.returns-in_err-width_of-in-Some
returns-in_err-width_of-in-Some c =
    let found = found_of c.args.found.now in
    let none : false ≡ is_width c.in-Some.text.now = search rules in
    ap (option_map command_in) c.from_residual.ensures
    ∙ by_width (rows_of found) false (none ∙ ap has_width (c.in-Some.ensures ∙ first_value-rows found (codes "width")))

pub returns : goal.returns
returns c =
    let found = found_of c.args.found.now in
    let is : true ≡ has_width (first_of (codes "width") (rows_of found)) = elim c.match-get_str.branch [
      | in-Some+in_ok-width_of-in-Some w ↦
          (let some : true ≡ is_width w.in-Some.text.now = search rules in some ∙ ap has_width (w.in-Some.ensures ∙ first_value-rows found (codes "width")))
      | in-None w ↦ ap has_width (w.in-None.ensures ∙ first_value-rows found (codes "width"))
    ] in
    ap (λ b. Some (reporting b)) c.has_flag-is_verbose.ensures ∙ by_width (rows_of found) true is
