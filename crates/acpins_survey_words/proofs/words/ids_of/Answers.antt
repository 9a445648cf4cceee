use Rattle.std.proofs.Common.{◌∙◌, ◌+◌, ◌<◌, ◌≤◌, ap, arith, drop, length, sym}
use Rattle.clap.specs.Walk.{texts}
use Rattle.acpins_survey_words.proofs.Ids.{all_read, ids_behind, id_read, not_read, texts_behind, texts_from}
use Rattle.acpins_survey_words.proofs.words.ids_of.Goals as goal

pub returns-in_default : goal.returns-in_default
returns-in_default c =
    let words = c.args.words.now in
    let i = c.loop-word.word-index in
    let below : i < length words = omega arith in
    sym (ap (ids_behind c.loop-word.ids.items) (texts_from words i _ below) ∙ not_read _ _ _ c.in_default.ensures) ∙ c.loop-word.invariant

pub loop-word-preserved : goal.loop-word-preserved
loop-word-preserved c =
    let words = c.args.words.now in
    let i = c.loop-word.word-index in
    let below : i < length words = omega arith in
    ap (λ ids. ids_behind ids (texts (drop (i + 1) words))) c.in_ok-push.ensures.items
    ∙ sym (ap (ids_behind c.loop-word.ids.items) (texts_from words i _ below) ∙ id_read _ _ _ _ c.in-Some.ensures)
    ∙ c.loop-word.invariant

pub returns : goal.returns
returns c =
    let words = c.args.words.now in
    let i = c.loop-word.word-index in
    let past : length words ≤ i = omega arith in
    sym (ap (ids_behind c.loop-word.ids.items) (texts_behind words i past) ∙ all_read c.loop-word.ids.items) ∙ c.loop-word.invariant
