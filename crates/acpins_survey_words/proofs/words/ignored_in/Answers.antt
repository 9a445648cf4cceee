use Rattle.std.proofs.Common.{◌∙◌, [], Some, ap, codes}
use Rattle.std.proofs.lemmas.Result.{IfOk-weaker}
use Rattle.std.specs.Prelude.{unwrap_or}
use Rattle.clap.proofs.WalkLemmas.{raw_values-rows}
use Rattle.clap.specs.Matches.{found_of}
use Rattle.acpins_survey_words.specs.Words.{ids_of}
use Rattle.acpins_survey_words.proofs.words.ignored_in.Goals as goal

pub returns-in-Some : goal.returns-in-Some
returns-in-Some c =
    let is = c.in-Some.ensures ∙ raw_values-rows (found_of c.args.found.now) (codes "ignore") in
    IfOk-weaker c.ids_of.result _ _ (λ ids read. read ∙ ap (λ o. ids_of (unwrap_or o [])) is) c.ids_of.ensures

pub returns-in-None : goal.returns-in-None
unfolding ids_of
returns-in-None c =
    let is = c.in-None.ensures ∙ raw_values-rows (found_of c.args.found.now) (codes "ignore") in
    ap Some c.new.ensures.items ∙ ap (λ o. ids_of (unwrap_or o [])) is
