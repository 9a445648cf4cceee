use Rattle.std.proofs.Common.{◌≡◌, [], ◌∷◌, ◌++◌, length, ap, ◌∙◌}
use Rattle.acpi_name.specs.Text.{path_text}
use Rattle.acpins_records.proofs.Joins.{satisfied_next, text_next, satisfied_record}
use Rattle.acpins_records.proofs.check.satisfied_records.Goals as goal

pub loop-triple-preserved : goal.loop-triple-preserved
loop-triple-preserved c =
    let t = c.triple-item.result in
    let before : c.len-path.result ≡ length c.loop-triple.text.items = c.len-path.ensures ∙ c.loop-triple.text.ok.0 in
    let size : c.len.result ≡ length (path_text t.path) = c.len.ensures ∙ c.in_ok-form.form.ok.0 ∙ ap length c.in_ok-form.ensures in
    let put = c.in_ok-extend_from_slice.ensures.items ∙ ap (λ bs. c.loop-triple.text.items ++ bs) (c.deref.ensures.value ∙ c.in_ok-form.ensures) in
    record {
      records = satisfied_next c.args.satisfied.now c.loop-triple.triple-index t c.loop-triple.text.items c.loop-triple.records.items _ c.loop-triple-test.true c.triple-item.is
          c.loop-triple.invariant.text c.loop-triple.invariant.records
          (c.in_ok-push.ensures.items
          ∙ ap (λ n. c.loop-triple.records.items ++ satisfied_record t.user t.definer n c.len.result ∷ []) before
          ∙ ap (λ n. c.loop-triple.records.items ++ satisfied_record t.user t.definer (length c.loop-triple.text.items) n ∷ []) size);
      text = text_next c.args.satisfied.now c.loop-triple.triple-index t c.loop-triple.text.items _ c.loop-triple-test.true c.triple-item.is c.loop-triple.invariant.text put;
    }
