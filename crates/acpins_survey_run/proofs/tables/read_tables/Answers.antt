use Rattle.std.proofs.Common.{◌≡◌, ◌≢◌, ◌∙◌, ◌<◌, ℕ, List, [], Err, length, ap, arith, rules, string_bytes, subst}
use Rattle.std.proofs.lemmas.Result.{err_from_is_err_and}
use Rattle.acpins_io.specs.Outputs.{FileBytes}
use Rattle.acpins_survey_run.specs.Input.{AreTablesIn, IsFileFault}
use Rattle.acpins_survey_run.proofs.Gathering.{first_file, next_of}
use Rattle.acpins_survey_run.specs.declared.failure.Failure.TheVariants.{Memory}
use Rattle.acpins_survey_run.proofs.tables.read_tables.Goals as goal

pub returns-in_err-tables-clause-err : goal.returns-in_err-tables-clause-err
returns-in_err-tables-clause-err g c =
    let p = err_from_is_err_and c.from_residual.result c.from_residual.ensures.1 in
    let names = c.args.names.now in
    let hex = c.args.hex in
    let start = g.F.Files.bytes_of c.args.files.now in
    let error = g.F.Files.last_error c.tables_at.new.files in
    let failure = c.in_err-tables.field-0.0 in
    let below : c.loop-name.name-index < length names = grind arith in
    let known = subst (λ (b : FileBytes). IsFileFault hex c.as_str.result.now (b c.as_str.result.now) error failure) c.loop-name.invariant.stays c.in_err-tables.ensures.err in
    let here = subst (λ (name : List ℕ). IsFileFault hex name (start name) error failure) (c.as_str.ensures.value ∙ ap string_bytes c.name-item.is) known in
    rw (p.1, p.2) (first_file start hex error string_bytes names c.loop-name.name-index c.name-item.result c.loop-name.found.tables.items failure below c.loop-name.invariant.are here)

pub returns-in_err-add-clause-err : goal.returns-in_err-add-clause-err
returns-in_err-add-clause-err g c =
    let names = c.args.names.now in
    let below : c.loop-name.name-index < length names = grind arith in
    let memory : c.from_residual-in_err-add.result ≡ Err Memory = search rules in
    rw memory (first_file (g.F.Files.bytes_of c.args.files.now) c.args.hex (g.F.Files.last_error c.tables_at.new.files) string_bytes names c.loop-name.name-index c.name-item.result
    c.loop-name.found.tables.items Memory below c.loop-name.invariant.are tt)

pub loop-name-preserved : goal.loop-name-preserved
loop-name-preserved g c =
    let names = c.args.names.now in
    let hex = c.args.hex in
    let start = g.F.Files.bytes_of c.args.files.now in
    let tables = c.in_ok-tables.tables.items in
    let below : c.loop-name.name-index < length names = grind arith in
    let are = c.in_ok-tables.ensures.ok in
    let known = subst (λ (b : FileBytes). AreTablesIn hex (b c.as_str.result.now) tables) c.loop-name.invariant.stays are.1 in
    let here = subst (λ (name : List ℕ). AreTablesIn hex (start name) tables) (c.as_str.ensures.value ∙ ap string_bytes c.name-item.is) known in
    record {
      are = next_of (λ name tables. (tables ≢ []) × AreTablesIn hex (start name) tables) string_bytes names c.loop-name.name-index c.name-item.result
          c.loop-name.found.tables.items c.add.new.self.tables.items below c.loop-name.invariant.are (tables, c.in_ok-add.ensures, (are.0, here));
      stays = c.in_ok-tables.ensures.stays ∙ c.loop-name.invariant.stays;
      others = c.in_ok-tables.ensures.others ∙ c.loop-name.invariant.others;
    }
