use Rattle.std.proofs.Common.{◌∙◌, ◌++◌, ap}
use Rattle.std.proofs.lemmas.Result.{IfOk-weaker}
use Rattle.acpins_survey_texts.proofs.json.json_of.Goals as goal

pub returns : goal.returns
returns c = λ o.
    let put = c.in_ok-put_survey.ensures o in
    let rest = c.deref.result.now in
    IfOk-weaker c.into_bytes.result _ _ (λ bytes is. record {
      front = put.0;
      rest = rest;
      is = put.2;
      text_is = is ∙ c.put_all.ensures ∙ ap (λ t. t ++ rest) (put.1 ∙ ap (λ t. t ++ put.0) c.new-text.ensures);
    }) c.into_bytes.ensures
