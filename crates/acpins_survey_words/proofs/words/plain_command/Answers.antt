use Rattle.std.proofs.Common.{◌∙◌, Some, ap, refl, sym, codes, option_map}
use Rattle.clap.proofs.WalkLemmas.{first_value-rows}
use Rattle.clap.specs.Matches.{found_of}
use Rattle.clap.specs.Walk.{rows_of}
use Rattle.acpins_survey_words.specs.Words.{plain_command, command_in, showing, paging, path_first, using}
use Rattle.acpins_words.proofs.WordsAsked.{has_text}
use Rattle.acpins_survey_words.proofs.words.plain_command.Goals as goal

pub returns-in_err-get_str-in-show : goal.returns-in_err-get_str-in-show
returns-in_err-get_str-in-show c =
    ap (option_map command_in) c.from_residual.ensures
    ∙ has_text plain_command showing (codes "show") (codes "path") _ (found_of c.args.found.now) _ refl c.in-show.is c.in_err-get_str-in-show.ensures

pub returns-in_ok-get_str-in-show : goal.returns-in_ok-get_str-in-show
returns-in_ok-get_str-in-show c =
    has_text plain_command showing (codes "show") (codes "path") _ (found_of c.args.found.now) _ refl c.in-show.is c.in_ok-get_str-in-show.ensures

pub returns-in-uses : goal.returns-in-uses
returns-in-uses c =
    ap (λ path. Some (using path)) (c.path_first.ensures ∙ ap path_first (c.get_str-in-uses.ensures ∙ first_value-rows (found_of c.args.found.now) (codes "file")))
    ∙ ap (λ n. plain_command n (rows_of (found_of c.args.found.now))) (sym c.in-uses.is)

pub returns-in_err-get_str-in-html : goal.returns-in_err-get_str-in-html
returns-in_err-get_str-in-html c =
    ap (option_map command_in) c.from_residual-in_err-get_str-in-html.ensures
    ∙ has_text plain_command paging (codes "html") (codes "out") _ (found_of c.args.found.now) _ refl c.in-html.is c.in_err-get_str-in-html.ensures

pub returns-in_ok-get_str-in-html : goal.returns-in_ok-get_str-in-html
returns-in_ok-get_str-in-html c =
    has_text plain_command paging (codes "html") (codes "out") _ (found_of c.args.found.now) _ refl c.in-html.is c.in_ok-get_str-in-html.ensures
