use Rattle.std.proofs.Common.{◌≡◌, List, ℕ, Option, None, string_bytes, rules}
use Rattle.std.specs.Prelude.{IfSome}
use Rattle.acpins_survey_run.proofs.Gathering.{plain_added}
use Rattle.acpins_survey_run.proofs.sources.add_files.Goals as goal

pub returns-in_ok-push-in-Ok-None-clause-ok : goal.returns-in_ok-push-in-Ok-None-clause-ok
returns-in_ok-push-in-Ok-None-clause-ok g c =
    let names_in = g.D.Folders.names_in c.args.folders.now in
    let file = c.in_ok-file-in-Ok-None.file in
    let known : IfSome (names_in c.args.name.now) (λ (k : Option (List (List ℕ))). None ≡ k) = search rules in
    let same : string_bytes file ≡ c.args.name.now = search rules in
    plain_added string_bytes names_in c.args.name.now c.args.files.now.items c.push.new.self.items file known same c.in_ok-push-in-Ok-None.ensures.items
