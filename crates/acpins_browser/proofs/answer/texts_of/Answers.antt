use Rattle.std.proofs.Common.{◌<◌, [], subst, sym}
use Rattle.std.proofs.lemmas.List.{get_or-map, length-map}
use Rattle.std.proofs.lemmas.List.Elements.{All-get_or}
use Rattle.std.specs.Str.{IsUtf8}
use Rattle.acpins_browser.specs.Answers.{arguments_in}
use Rattle.acpins_browser.proofs.answer.texts_of.Goals as goal

pub returns-in_default-clause-none : goal.returns-in_default-clause-none
returns-in_default-clause-none c = λ none all.
    let within = c.loop-argument-test.true in
    let arguments = c.args.lent.now in
    let i = c.loop-argument.argument-index in
    c.in_default.ensures.cases.0
    (subst IsUtf8 (get_or-map (λ a. a.bytes.now) arguments i _ [] within)
    (All-get_or IsUtf8 (arguments_in arguments) i [] (subst (λ n. i < n) (sym (length-map arguments (λ a. a.bytes.now))) within) all))
