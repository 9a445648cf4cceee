use Rattle.std.proofs.Common.{◌≡◌, take}
use Rattle.acpins_words.specs.Words.{texts}
use Rattle.acpins_browser.specs.Answers.{arguments_in}
use Rattle.acpins_browser.proofs.answer.texts_of.Given as goal

abbrev pub invariant-loop-argument : goal.invariant-loop-argument
invariant-loop-argument l = texts l.texts.items ≡ arguments_in (take l.argument-index l.lent)
