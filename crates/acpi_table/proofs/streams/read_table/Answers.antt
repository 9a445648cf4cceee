use Rattle.std.proofs.Common.{◌≡◌, ◌≢◌, ◌≤◌, ◌<◌, length, vec_len, [], IfSome, ◌∙◌, sym, ap, subst, arith, rules}
use Rattle.acpi_table.proofs.StreamLaws.{TakesOnto-both, taken_whole, short_refused, bad_length_refused, too_long_refused, cut_refused, whole_read, bad_sum_refused, table_fault_is}
use Rattle.acpi_table.specs.Tables.{IsRefusedAs, sum_of, length_field}
use Rattle.acpi_table.specs.declared.tables.TableFault.{TableFault}
use Rattle.acpi_table.specs.declared.tables.TableFault.TheVariants.{Short, BadLength, TooLong, Cut, BadSum}
use Rattle.acpi_table.proofs.streams.read_table.Goals as goal

pub returns-then-len-lt-HEADER_BYTES-clause-refused : goal.returns-then-len-lt-HEADER_BYTES-clause-refused
returns-then-len-lt-HEADER_BYTES-clause-refused g c fault is =
    let first = c.fill.new.table.items in
    let size : length first ≡ vec_len c.fill.new.table = omega (arith, c.fill.new.table.ok.0) in
    let few : vec_len c.fill.new.table < 36 = omega arith in
    let some : 0 < length first = search rules in
    let P : TableFault → Type 0 = λ f. IfSome (g.S.Source.coming c.args.source.now) (λ bytes. IsRefusedAs f bytes × (bytes ≢ [])) in
    subst P (table_fault_is _ Short fault is)
    (short_refused _ _ _ first c.new-table.ensures.items c.in_ok-fill.ensures.taken (c.in_ok-fill.ensures.ended few) some (omega arith))

pub returns-then-len-lt-HEADER_BYTES-clause-failures : goal.returns-then-len-lt-HEADER_BYTES-clause-failures
returns-then-len-lt-HEADER_BYTES-clause-failures g c = c.in_ok-fill.ensures.failures

pub returns-then-length-lt-HEADER_BYTES-clause-refused : goal.returns-then-length-lt-HEADER_BYTES-clause-refused
returns-then-length-lt-HEADER_BYTES-clause-refused g c fault is =
    let first = c.fill.new.table.items in
    let n = c.length_at-length.result in
    let field : n ≡ length_field first = c.length_at-length.ensures ∙ ap length_field c.deref.ensures.value in
    let first_size = ap length c.deref.ensures.value in
    let long : 36 ≤ length first = omega (arith, first_size, c.deref.ensures.len) in
    let P : TableFault → Type 0 = λ f. IfSome (g.S.Source.coming c.args.source.now) (λ bytes. IsRefusedAs f bytes × (bytes ≢ [])) in
    subst P (table_fault_is _ BadLength fault is)
    (bad_length_refused _ _ _ first n c.new-table.ensures.items c.in_ok-fill.ensures.taken field long (omega arith))

pub returns-then-length-lt-HEADER_BYTES-clause-failures : goal.returns-then-length-lt-HEADER_BYTES-clause-failures
returns-then-length-lt-HEADER_BYTES-clause-failures g c = c.in_ok-fill.ensures.failures

pub returns-then-length-gt-TABLE_LIMIT-clause-refused : goal.returns-then-length-gt-TABLE_LIMIT-clause-refused
returns-then-length-gt-TABLE_LIMIT-clause-refused g c fault is =
    let first = c.fill.new.table.items in
    let n = c.length_at-length.result in
    let field : n ≡ length_field first = c.length_at-length.ensures ∙ ap length_field c.deref.ensures.value in
    let first_size = ap length c.deref.ensures.value in
    let long : 36 ≤ length first = omega (arith, first_size, c.deref.ensures.len) in
    let P : TableFault → Type 0 = λ f. IfSome (g.S.Source.coming c.args.source.now) (λ bytes. IsRefusedAs f bytes × (bytes ≢ [])) in
    subst P (table_fault_is _ TooLong fault is)
    (too_long_refused _ _ _ first n c.new-table.ensures.items c.in_ok-fill.ensures.taken field long (omega arith))

pub returns-then-length-gt-TABLE_LIMIT-clause-failures : goal.returns-then-length-gt-TABLE_LIMIT-clause-failures
returns-then-length-gt-TABLE_LIMIT-clause-failures g c = c.in_ok-fill.ensures.failures

pub returns-then-len-length-clause-refused : goal.returns-then-len-length-clause-refused
returns-then-len-length-clause-refused g c fault is =
    let first = c.fill.new.table.items in
    let all = c.fill-2.new.table.items in
    let n = c.length_at-length.result in
    let field : n ≡ length_field first = c.length_at-length.ensures ∙ ap length_field c.deref.ensures.value in
    let first_size = ap length c.deref.ensures.value in
    let all_size : length all ≡ vec_len c.fill-2.new.table = omega (arith, c.fill-2.new.table.ok.0) in
    let long : 36 ≤ length first = omega (arith, first_size, c.deref.ensures.len) in
    let few : vec_len c.fill-2.new.table < n = omega (arith, c.len-2.ensures) in
    let P : TableFault → Type 0 = λ f. IfSome (g.S.Source.coming c.args.source.now) (λ bytes. IsRefusedAs f bytes × (bytes ≢ [])) in
    subst P (table_fault_is _ Cut fault is)
    (cut_refused _ _ _ _ first all n c.new-table.ensures.items c.in_ok-fill.ensures.taken c.in_ok-fill-2.ensures.taken
    (c.in_ok-fill-2.ensures.ended few) field long (omega arith) (omega arith) (omega arith))

pub returns-then-len-length-clause-failures : goal.returns-then-len-length-clause-failures
returns-then-len-length-clause-failures g c = c.in_ok-fill-2.ensures.failures ∙ c.in_ok-fill.ensures.failures

-- What was read is as long as the header says, and its sum isn't 0.
pub returns-then-byte_sum-ne0-clause-refused : goal.returns-then-byte_sum-ne0-clause-refused
returns-then-byte_sum-ne0-clause-refused g c fault is =
    let first = c.fill.new.table.items in
    let all = c.fill-2.new.table.items in
    let n = c.length_at-length.result in
    let field : n ≡ length_field first = c.length_at-length.ensures ∙ ap length_field c.deref.ensures.value in
    let first_size = ap length c.deref.ensures.value in
    let all_size = ap length c.deref-2.ensures.value in
    let long : 36 ≤ length first = omega (arith, first_size, c.deref.ensures.len) in
    let most : vec_len c.fill-2.new.table ≤ n = c.in_ok-fill-2.ensures.within in
    let whole : length all ≡ n = omega (arith, all_size, most, c.deref-2.ensures.len, c.len-2.ensures) in
    let sum : sum_of all ≢ 0 = λ zero. c.if-byte_sum-ne0.true (c.byte_sum.ensures ∙ ap sum_of c.deref-2.ensures.value ∙ zero) in
    let P : TableFault → Type 0 = λ f. IfSome (g.S.Source.coming c.args.source.now) (λ bytes. IsRefusedAs f bytes × (bytes ≢ [])) in
    subst P (table_fault_is _ BadSum fault is)
    (bad_sum_refused _ _ _ _ first all n c.new-table.ensures.items c.in_ok-fill.ensures.taken c.in_ok-fill-2.ensures.taken field long (omega arith) (omega arith) whole sum)

pub returns-then-byte_sum-ne0-clause-failures : goal.returns-then-byte_sum-ne0-clause-failures
returns-then-byte_sum-ne0-clause-failures g c = c.in_ok-fill-2.ensures.failures ∙ c.in_ok-fill.ensures.failures

pub returns-clause-table : goal.returns-clause-table
returns-clause-table g c =
    let first = c.fill.new.table.items in
    let all = c.fill-2.new.table.items in
    let n = c.length_at-length.result in
    let field : n ≡ length_field first = c.length_at-length.ensures ∙ ap length_field c.deref.ensures.value in
    let first_size = ap length c.deref.ensures.value in
    let all_size = ap length c.deref-2.ensures.value in
    let long : 36 ≤ length first = omega (arith, first_size, c.deref.ensures.len) in
    let most : vec_len c.fill-2.new.table ≤ n = c.in_ok-fill-2.ensures.within in
    let whole : length all ≡ n = omega (arith, all_size, most, c.deref-2.ensures.len, c.len-2.ensures) in
    let sum : sum_of all ≡ 0 = ap sum_of (sym c.deref-2.ensures.value) ∙ sym c.byte_sum.ensures ∙ c.if-byte_sum-ne0.false in
    whole_read _ _ first all n c.in_ok-fill-2.ensures.taken field long (omega arith) (omega arith) whole sum

pub returns-clause-taken : goal.returns-clause-taken
returns-clause-taken g c =
    taken_whole _ _ _ _ c.new-table.ensures.items (TakesOnto-both _ _ _ _ _ _ c.in_ok-fill.ensures.taken c.in_ok-fill-2.ensures.taken)

pub returns-clause-failures : goal.returns-clause-failures
returns-clause-failures g c = c.in_ok-fill-2.ensures.failures ∙ c.in_ok-fill.ensures.failures
