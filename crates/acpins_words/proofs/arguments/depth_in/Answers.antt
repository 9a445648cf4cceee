use Rattle.std.proofs.Common.{◌∙◌, ap, codes}
use Rattle.clap.proofs.WalkLemmas.{first_value-rows}
use Rattle.clap.specs.Matches.{found_of}
use Rattle.acpins_words.specs.Arguments.{depth_or_usual}
use Rattle.acpins_words.proofs.arguments.depth_in.Goals as goal

pub returns-in-Some : goal.returns-in-Some
returns-in-Some c =
    c.depth_of.ensures ∙ ap depth_or_usual (c.in-Some.ensures ∙ first_value-rows (found_of c.args.found.now) (codes "depth"))

pub returns-in-None : goal.returns-in-None
returns-in-None c =
    c.new.ensures ∙ ap depth_or_usual (c.in-None.ensures ∙ first_value-rows (found_of c.args.found.now) (codes "depth"))
