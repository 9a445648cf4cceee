use Rattle.std.proofs.Common.{◌∙◌, ap, inr, sym, Some, codes}
use Rattle.clap.proofs.WalkLemmas.{raw_values-rows}
use Rattle.clap.specs.Matches.{found_of}
use Rattle.clap.specs.Walk.{texts}
use Rattle.acpins_words.proofs.arguments.read_arguments.Goals as goal

pub returns-in_default-get_strs-clause-wrong : goal.returns-in_default-get_strs-clause-wrong
returns-in_default-get_strs-clause-wrong c e = inr (sym (c.in_default-get_strs.ensures ∙ raw_values-rows (found_of c.args.found.now) (codes "file")))

pub returns-clause-files : goal.returns-clause-files
returns-clause-files c =
    sym (ap (λ items. Some (texts items)) c.in_ok-files.ensures.items ∙ c.in-Some-get_strs.ensures ∙ raw_values-rows (found_of c.args.found.now) (codes "file"))
