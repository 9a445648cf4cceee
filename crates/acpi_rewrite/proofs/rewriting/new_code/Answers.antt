use Rattle.std.proofs.Common.{◌≡◌, Err, None, refl, sym, ap, subst, ◌∙◌}
use Rattle.std.specs.FinMap.{get}
use Rattle.acpi_tree.specs.TermView.{terms_tree}
use Rattle.acpi_declare.specs.Namespace.{namespace_of}
use Rattle.acpi_body.specs.Arguments.{body_grammar}
use Rattle.acpi_body.specs.Bodies.{body_view, IsBodyOf}
use Rattle.acpi_body.specs.Statements.{ReadsBody}
use Rattle.acpi_body.specs.declared.body.Body.{Body}
use Rattle.acpi_write.specs.CanonicalTerms.{terms_bytes}
use Rattle.acpi_write.specs.declared.fault.WriteFault.{WriteFault}
use Rattle.acpi_write.specs.declared.fault.WriteFault.TheVariants.{TooLong}
use Rattle.acpi_write.proofs.TermsShorter.{read_terms_are_written}
use Rattle.acpi_rewrite.proofs.rewriting.new_code.Goals as goal

pub unreachable-requires : goal.unreachable-requires
unreachable-requires g c =
    let args = body_grammar (namespace_of (g.S.Space.contents c.args.objects.now)) (get c.args.counts.now) c.args.method.now.path in
    let code = c.as_slice-code.result.now in
    let ts = terms_tree c.in-Terms.terms.items in
    let reads : ReadsBody args c.args.method.now.path c.args.depth code ts =
    subst (λ (b : Body). IsBodyOf args c.args.method.now.path c.args.depth code (body_view b)) c.in-Terms.is c.in_ok-terms.ensures.body in
    let w = read_terms_are_written args c.args.method.now.path c.args.depth code ts (λ locals. refl) c.has_bytes.ensures reads in
    let told : c.write_terms.result ≡ Err TooLong = c.in-Err-TooLong.is ∙ ap (λ (f : WriteFault). Err f) c.in-Err-TooLong.field-0-is in
    let none : terms_bytes ts ≡ None = ap (λ v. terms_bytes (terms_tree v)) (sym c.deref.ensures.value) ∙ c.write_terms.ensures.long told in
    let some = w.spelling in
    cc
