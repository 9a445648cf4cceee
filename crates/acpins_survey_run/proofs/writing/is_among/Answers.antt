use Rattle.std.proofs.Common.{◌≡◌, ◌∙◌, true, false, true≢false, ap, arith, rules, tests, string_bytes, sym}
use Rattle.std.specs.Str.{bytes_eq}
use Rattle.std.proofs.lemmas.Slice.Eq.{bytes_eq-Decides}
use Rattle.acpins_survey_run.proofs.Spared.{among, apart, apart_more}
use Rattle.acpins_survey_run.proofs.writing.is_among.Goals as goal

pub returns-then-eq-clause-among : goal.returns-then-eq-clause-among
returns-then-eq-clause-among c = λ t.
    let name = c.args.name.now in
    let text = c.as_str.result.now in
    let equal : bytes_eq text name ≡ true = search (rules, tests) in
    let own = sym (c.as_str.ensures.value ∙ ap string_bytes c.file-item.is) in
    among string_bytes c.args.files.now name c.loop-file.file-index c.file-item.result c.loop-file-test.true (own ∙ (bytes_eq-Decides text name).0 equal)

pub loop-file-preserved : goal.loop-file-preserved
loop-file-preserved c =
    let name = c.args.name.now in
    let text = c.as_str.result.now in
    let differs : bytes_eq text name ≡ false = search (rules, tests) in
    let own = c.as_str.ensures.value ∙ ap string_bytes c.file-item.is in
    apart_more string_bytes c.args.files.now name c.loop-file.file-index c.file-item.result c.loop-file-test.true c.loop-file.invariant
    (λ same. true≢false (sym ((bytes_eq-Decides text name).1 (own ∙ same)) ∙ differs))

pub returns-clause-apart : goal.returns-clause-apart
returns-clause-apart c = λ f. apart string_bytes c.args.files.now c.args.name.now c.loop-file.file-index (omega arith) c.loop-file.invariant
