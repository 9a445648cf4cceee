use Rattle.std.proofs.Common.{◌∙◌, ap, refl, codes, option_map}
use Rattle.clap.specs.Matches.{found_of}
use Rattle.acpins_words.specs.Words.{command_by, command_in, showing, rewriting}
use Rattle.acpins_words.proofs.WordsAsked.{has_text}
use Rattle.acpins_words.proofs.words.command_in.Goals as goal

pub returns-in_err-get_str-in-show : goal.returns-in_err-get_str-in-show
returns-in_err-get_str-in-show c =
    ap (option_map command_in) c.from_residual.ensures
    ∙ has_text command_by showing (codes "show") (codes "path") _ (found_of c.args.found.now) _ refl c.in-show.is c.in_err-get_str-in-show.ensures

pub returns-in_ok-get_str-in-show : goal.returns-in_ok-get_str-in-show
returns-in_ok-get_str-in-show c =
    has_text command_by showing (codes "show") (codes "path") _ (found_of c.args.found.now) _ refl c.in-show.is c.in_ok-get_str-in-show.ensures

pub returns-in_err-get_str-in-rewrite : goal.returns-in_err-get_str-in-rewrite
returns-in_err-get_str-in-rewrite c =
    ap (option_map command_in) c.from_residual-in_err-get_str-in-rewrite.ensures
    ∙ has_text command_by rewriting (codes "rewrite") (codes "out") _ (found_of c.args.found.now) _ refl c.in-rewrite.is c.in_err-get_str-in-rewrite.ensures

pub returns-in_ok-get_str-in-rewrite : goal.returns-in_ok-get_str-in-rewrite
returns-in_ok-get_str-in-rewrite c =
    has_text command_by rewriting (codes "rewrite") (codes "out") _ (found_of c.args.found.now) _ refl c.in-rewrite.is c.in_ok-get_str-in-rewrite.ensures
