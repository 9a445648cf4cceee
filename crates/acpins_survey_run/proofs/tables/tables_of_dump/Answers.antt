use Rattle.std.proofs.Common.{◌∙◌, ℕ, List, Vec, Global, map, ap, subst}
use Rattle.std.specs.Prelude.{IfOk}
use Rattle.acpins_survey_run.specs.Input.{ArePiecesOfEach}
use Rattle.acpins_survey_run.proofs.tables.tables_of_dump.Goals as goal

pub returns : goal.returns
returns c =
    let sources = ap (map (λ (v : Vec ℕ Global). v.items)) c.deref.ensures.value ∙ c.in_ok-sources.ensures in
    subst (λ (bs : List (List ℕ)). IfOk c.pieces_of_each.result (λ v. ArePiecesOfEach bs v.items)) sources c.pieces_of_each.ensures
