use Rattle.std.proofs.Common.{◌∙◌, ◌<◌, List, ℕ, length, arith, map, string_bytes}
use Rattle.std.specs.Borrow.{Bor}
use Rattle.std.proofs.lemmas.Result.{err_from_is_err_and}
use Rattle.acpins_survey_run.specs.Folders.{AreFilesAt}
use Rattle.acpins_survey_run.proofs.Gathering.{first_folder, next_of, of_all}
use Rattle.acpins_survey_run.proofs.sources.files_of.Goals as goal

pub returns-in_err-add_files-clause-err : goal.returns-in_err-add_files-clause-err
returns-in_err-add_files-clause-err g c =
    let p = err_from_is_err_and c.from_residual.result c.from_residual.ensures.1 in
    let names = c.args.names.now in
    let start = g.D.Folders.names_in c.args.folders.now in
    let error = g.D.Folders.last_error c.add_files.new.folders in
    let failure = c.in_err-add_files.field-0.0 in
    let below : c.loop-name.name-index < length names = grind arith in
    rw (p.1, p.2) (first_folder start error (λ (w : Bor (List ℕ)). w.now) names c.loop-name.name-index _ (map string_bytes c.loop-name.files.items) failure below
    c.loop-name.invariant.are (rw c.loop-name.invariant.stays at c.in_err-add_files.ensures.err))

pub loop-name-preserved : goal.loop-name-preserved
loop-name-preserved g c =
    let names = c.args.names.now in
    let start = g.D.Folders.names_in c.args.folders.now in
    let below : c.loop-name.name-index < length names = grind arith in
    record {
      are = next_of (AreFilesAt start) (λ (w : Bor (List ℕ)). w.now) names c.loop-name.name-index _ (map string_bytes c.loop-name.files.items)
          (map string_bytes c.add_files.new.files.items) below c.loop-name.invariant.are (rw c.loop-name.invariant.stays at c.in_ok-add_files.ensures.ok);
      stays = c.in_ok-add_files.ensures.stays ∙ c.loop-name.invariant.stays;
    }

pub returns-clause-ok : goal.returns-clause-ok
returns-clause-ok g c =
    of_all (AreFilesAt (g.D.Folders.names_in c.args.folders.now)) (λ (w : Bor (List ℕ)). w.now) c.args.names.now c.loop-name.name-index _ (omega arith)
    c.loop-name.invariant.are
