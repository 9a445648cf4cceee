use Rattle.std.proofs.Common.{◌≡◌, ◌∙◌, List, None, Some, ap, refl, sym, true}
use Rattle.std.specs.Prelude.{option_and_then, option_map}
use Rattle.std.proofs.lemmas.Result.{err_from_is_err_and}
use Rattle.clap.specs.Faults.{is_simple_and_free}
use Rattle.clap.specs.Walk.{Text, texts}
use Rattle.clap.proofs.OnLiterals.{clap_on_literals}
use Rattle.acpins_survey_words.specs.Words.{Asked, asked_of, command_by, command_in, files_behind, survey_app, with_files}
use Rattle.acpins_words.proofs.WordsAsked.{asked_is, faulty_words, no_arguments, no_command}
use Rattle.acpins_survey_words.proofs.words.read_request.Goals as goal

app_is_free : is_simple_and_free survey_app ≡ true
unfolding clap_on_literals
app_is_free = refl

-- what is asked, by the files among its operands
module _ (asked : Asked) {operands : List Text} (same : operands ≡ asked.files) where
  behind : with_files asked ≡ option_map (λ fs. record asked { files = fs }) (files_behind asked.command operands)
  behind = ap (λ os. option_map (λ fs. record asked { files = fs }) (files_behind asked.command os)) (sym same)

  asked_behind : (files : List Text) → Some files ≡ files_behind asked.command operands → with_files asked ≡ Some (record asked { files = files })
  asked_behind files is = behind ∙ ap (option_map (λ fs. record asked { files = fs })) (sym is)

  none_behind : None ≡ files_behind asked.command operands → with_files asked ≡ None
  none_behind none = behind ∙ ap (option_map (λ fs. record asked { files = fs })) (sym none)

pub find_subcommand-requires : goal.find_subcommand-requires
find_subcommand-requires c = ap is_simple_and_free c.in_ok-forms.ensures ∙ app_is_free

pub returns-in_err-name-clause-wrong : goal.returns-in_err-name-clause-wrong
unfolding asked_of
returns-in_err-name-clause-wrong c e =
    let p = err_from_is_err_and c.from_residual-in_err-name.result c.from_residual-in_err-name.ensures.1 in
    ap (option_and_then with_files) (faulty_words survey_app command_by c.in_ok-forms.ensures (texts c.args.words.now) (c.in_err-name.ensures.wrong (cc (e, p.1, p.2))))

pub returns-in_default-clause-wrong : goal.returns-in_default-clause-wrong
unfolding asked_of
returns-in_default-clause-wrong c e =
    ap (option_and_then with_files) (no_command survey_app command_by c.in_ok-forms.ensures (texts c.args.words.now) c.in_ok-name.ensures.found (rw c.in_default.is at c.in_ok-command.ensures))

pub returns-in_err-hex-clause-wrong : goal.returns-in_err-hex-clause-wrong
unfolding asked_of
returns-in_err-hex-clause-wrong c e =
    let p = err_from_is_err_and c.from_residual-in_err-hex.result c.from_residual-in_err-hex.ensures.1 in
    ap (option_and_then with_files)
    (no_arguments survey_app command_by c.in_ok-forms.ensures (texts c.args.words.now) c.in_ok-name.ensures.found _ (rw c.in-Some.is at c.in_ok-command.ensures) (c.in_err-hex.ensures.wrong (cc (e, p.1, p.2))))

pub returns-in_default-files_behind-clause-wrong : goal.returns-in_default-files_behind-clause-wrong
unfolding asked_of
returns-in_default-files_behind-clause-wrong c e =
    let h = c.in_ok-hex.ensures in
    let asked : Asked = record { command = command_in c.in-Some.command; hex = c.in_ok-hex.field-0.hex; depth = c.in_ok-hex.field-0.depth; files = texts c.in_ok-hex.field-0.files.items } in
    ap (option_and_then with_files)
    (asked_is survey_app command_by c.in_ok-forms.ensures (texts c.args.words.now) c.in_ok-name.ensures.found _ _ _ _ (rw c.in-Some.is at c.in_ok-command.ensures) h.hex h.depth h.files)
    ∙ none_behind asked (ap texts c.deref.ensures.value) c.in_default-files_behind.ensures

pub returns-clause-found : goal.returns-clause-found
unfolding asked_of
returns-clause-found c =
    let h = c.in_ok-hex.ensures in
    let asked : Asked = record { command = command_in c.in-Some.command; hex = c.in_ok-hex.field-0.hex; depth = c.in_ok-hex.field-0.depth; files = texts c.in_ok-hex.field-0.files.items } in
    let files = ap (λ fs. Some (texts fs)) c.in_ok-files.ensures.items ∙ c.in-Some-files_behind.ensures in
    ap (option_and_then with_files)
    (asked_is survey_app command_by c.in_ok-forms.ensures (texts c.args.words.now) c.in_ok-name.ensures.found _ _ _ _ (rw c.in-Some.is at c.in_ok-command.ensures) h.hex h.depth h.files)
    ∙ asked_behind asked (ap texts c.deref.ensures.value) _ files
