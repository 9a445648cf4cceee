use Rattle.std.proofs.Common.{List, ℕ, arith, map, string_bytes, subst, sym}
use Rattle.std.specs.Borrow.{Bor}
use Rattle.acpins_survey_run.specs.Folders.{AreSsdtsAmong}
use Rattle.acpins_survey_run.proofs.Gathering.{all_files}
use Rattle.acpins_survey_run.proofs.sources.add_ssdts.Goals as goal

pub returns : goal.returns
returns c =
    let ssdts = c.deref-name-items.result.now in
    let extension = c.args.extension.now in
    let names = map string_bytes c.args.names.now in
    let among : AreSsdtsAmong extension names (map (λ (s : Bor (List ℕ)). s.now) ssdts) =
    subst (λ (l : List (Bor (List ℕ))). AreSsdtsAmong extension names (map (λ (s : Bor (List ℕ)). s.now) l)) (sym c.deref-name-items.ensures.value) c.in_ok-ssdts.ensures in
    all_files extension c.args.folder.now names ssdts c.loop-name.name-index (map string_bytes c.args.files.now.items) (map string_bytes c.loop-name.files.items)
    (omega arith) among c.loop-name.invariant
