use Rattle.std.proofs.Common.{◌≡◌, ◌≢◌, ◌∙◌, [], ◌++◌, append-nil, take, length, ap, sym, subst, refl, true, arith}
use Rattle.std.proofs.lemmas.List.{nil_from_length}
use Rattle.acpi_table.specs.Tables.{IsTable}
use Rattle.acpi_declare.specs.Tables.{signature_of}
use Rattle.acpi_declare.specs.steps.Outcomes.{IsTableFault}
use Rattle.acpi_pass.proofs.Ranges.{range_to_end}
use Rattle.acpi_declare.proofs.load.table_code.Goals as goal

pub returns-then-not-is_signed-clause-err : goal.returns-then-not-is_signed-clause-err
returns-then-not-is_signed-clause-err c = λ depth objects.
    let splits : c.args.bytes.now ≡ c.in-Ok.table ++ c.in-Ok.rest.now = sym c.as_slice.ensures ∙ c.in-Ok.ensures.found.1 in
    let signature : c.header.result.signature ≡ take 4 c.in-Ok.table = ap (λ h. h.signature) c.header.ensures in
    let other : take 4 c.in-Ok.table ≢ signature_of c.args.number = λ e. let signed : c.is_signed.result ≡ true = c.is_signed.ensures.1 (signature ∙ e) in cc in
    subst (IsTableFault depth c.args.number objects c.args.bytes.now) (sym c.table_fault.ensures)
    (refl, c.other_signature.ensures depth objects c.args.bytes.now (record { front = c.in-Ok.table; rest = c.in-Ok.rest.now; splits = splits; table = c.in-Ok.ensures.found.0; other = other }))

pub returns-then-rest-gt0-clause-err : goal.returns-then-rest-gt0-clause-err
returns-then-rest-gt0-clause-err c = λ depth objects.
    let splits : c.args.bytes.now ≡ c.in-Ok.table ++ c.in-Ok.rest.now = sym c.as_slice.ensures ∙ c.in-Ok.ensures.found.1 in
    let signature : c.header.result.signature ≡ take 4 c.in-Ok.table = ap (λ h. h.signature) c.header.ensures in
    let is : c.is_signed.result ≡ true = cc in
    let signed : take 4 c.in-Ok.table ≡ signature_of c.args.number = sym signature ∙ c.is_signed.ensures.0 is in
    let more : c.in-Ok.rest.now ≢ [] = λ e. let zero : length c.in-Ok.rest.now ≡ 0 = ap length e in absurd (grind arith) in
    subst (IsTableFault depth c.args.number objects c.args.bytes.now) (sym c.table_fault-then-rest-gt0.ensures)
    (refl, record { front = c.in-Ok.table; rest = c.in-Ok.rest.now; splits = splits; numbered = record { table = c.in-Ok.ensures.found.0; signed = signed }; more = more })

pub returns-in_ok-slice-in-Ok-clause-ok : goal.returns-in_ok-slice-in-Ok-clause-ok
returns-in_ok-slice-in-Ok-clause-ok c =
    let none : c.in-Ok.rest.now ≡ [] = nil_from_length _ (grind arith) in
    let same : c.args.bytes.now ≡ c.in-Ok.table = sym c.as_slice.ensures ∙ c.in-Ok.ensures.found.1 ∙ ap (λ r. c.in-Ok.table ++ r) none ∙ append-nil c.in-Ok.table in
    let signature : c.header.result.signature ≡ take 4 c.in-Ok.table = ap (λ h. h.signature) c.header.ensures in
    let is : c.is_signed.result ≡ true = cc in
    record {
      numbered = record { table = subst IsTable (sym same) c.in-Ok.ensures.found.0; signed = ap (take 4) same ∙ sym signature ∙ c.is_signed.ensures.0 is };
      code_is = c.in_ok-slice-in-Ok.ensures.ok ∙ range_to_end c.args.bytes.now 36;
    }
