use Rattle.std.proofs.Common.{◌≡◌, ◌∙◌, ◌+◌, List, [], ◌∷◌, Bor, ap, cond, refl, rules, sym, take, tests}
use Rattle.std.specs.Prelude.{not}
use Rattle.std.specs.List.{list_any, position_or_len, prefix_len}
use Rattle.std.proofs.lemmas.Iterator.{YieldsList-from_slice}
use Rattle.std.proofs.lemmas.Iterator.Consumers.{YieldsList-at}
use Rattle.std.proofs.lemmas.Iterator.Search.{YieldsList-from_take_while, any_from_yields_List}
use Rattle.std.proofs.lemmas.List.{take-map}
use Rattle.clap.proofs.WalkLemmas.{list_any-map}
use Rattle.clap.specs.Walk.{Text, texts}
use Rattle.acpins_survey_words.specs.Words.{asks_help, is_end, is_help}
use Rattle.acpins_survey_words.proofs.words.asks_help.Goals as goal

-- how many texts stand before `--`
options_of : (words : List (Bor Text)) → prefix_len (λ w. not (is_end w.now)) words ≡ position_or_len is_end (texts words)
options_of [] = refl
options_of (w ∷ ws) = ap (λ n. cond (not (is_end w.now)) (1 + n) 0) (options_of ws)

asked_in : (words : List (Bor Text)) → list_any (λ w. is_help w.now) (take (prefix_len (λ w. not (is_end w.now)) words) words) ≡ asks_help (texts words)
asked_in words =
    let n = prefix_len (λ (w : Bor Text). not (is_end w.now)) words in
    list_any-map is_help (λ w. w.now) (take n words) ∙ ap (list_any is_help) (sym (take-map (λ w. w.now) n words) ∙ ap (λ m. take m (texts words)) (options_of words))

pub returns : goal.returns
returns c =
    any_from_yields_List (λ (w : Bor Text). is_help w.now) _ _ _ c.any.ensures.ran
    (YieldsList-from_take_while _ (λ w. not (is_end w.now)) (YieldsList-at c.take_while.ensures.source (YieldsList-from_slice c.args.words.now c.iter.ensures.rest))
    c.take_while.ensures.closure c.take_while.ensures.done (λ x b q k. search (rules, tests)))
    (λ x b q k. search (rules, tests))
    ∙ asked_in c.args.words.now
