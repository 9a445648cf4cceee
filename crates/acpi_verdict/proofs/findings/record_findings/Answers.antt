use Rattle.std.proofs.Common.{◌≡◌, [], ◌∷◌, false, sym, ◌∙◌}
use Rattle.std.proofs.lemmas.Result.{err_from_is_err_and}
use Rattle.acpi_space.specs.Overlays.{contents_over}
use Rattle.acpi_space.specs.Spaces.{is_defined}
use Rattle.acpi_declare.specs.Declaring.{state_of}
use Rattle.acpi_verdict.specs.steps.PairMisses.{pair_view}
use Rattle.acpi_verdict.proofs.AloneLoads.{memory_alone}
use Rattle.acpi_verdict.proofs.FoundTables.{quiet_there, finds_ssdt}
use Rattle.acpi_verdict.proofs.Overlays.{is_over}
use Rattle.acpi_verdict.proofs.PairMisses.{load_misses}
use Rattle.acpi_verdict.proofs.findings.record_findings.Goals as goal

pub returns-in_err-declared-clause-err : goal.returns-in_err-declared-clause-err
returns-in_err-declared-clause-err g c = λ bytes loads alone.
    let p = err_from_is_err_and c.from_residual.result c.from_residual.ensures.1 in
    rw (p.1, p.2) (memory_alone c.args.depth bytes c.args.ssdt.now c.in_err-declared.field-0.0 alone (c.in_err-declared.ensures.err (bytes ∷ []) [] loads))

pub returns-clause-ok : goal.returns-clause-ok
returns-clause-ok g c = λ bytes ssdts loads alone_is affected definers at.
    let contents = contents_over g.S.Space.contents in
    let one = state_of g.S.Space.contents c.args.dsdt.now in
    let b = c.args.ssdt.now in
    let d = c.args.definers.now in
    let alone = c.args.alone.now.misses in
    let declared = c.in_ok-declared.declared in
    let now = state_of contents declared in
    let over = is_over c.args.depth bytes b one now loads (c.in_ok-declared.ensures.ok (bytes ∷ []) loads) in
    let pair = pair_view c.in_ok-pair.pair in
    let tells = load_misses (is_defined d.first) c.args.depth bytes one loads alone alone_is b now over c.affects.result pair c.in_ok-pair.ensures
    (λ (none : c.affects.result ≡ false). quiet_there c.args.depth bytes ssdts d definers c.args.number b at now over alone c.args.alone.now.affected.items affected (sym c.affects.ensures ∙ none)) in
    finds_ssdt c.args.depth bytes b d definers.firsts c.args.number pair tells c.args.found.now c.add_pair.new.found c.in_ok-add_pair.ensures
