use Rattle.std.proofs.Common.{◌≡◌, ◌<◌, All, [], List, length, true, Err, append-nil, sym, ap, subst, ◌∙◌, arith, rules}
use Rattle.std.specs.Vec.Iter.{into_iter_items}
use Rattle.acpi_table.specs.Tables.{header_of}
use Rattle.acpi_table.specs.declared.tables.Header.{Header}
use Rattle.acpi_tree.specs.Fits.{items_fit}
use Rattle.acpi_tree.specs.Tree.{ItemTrees}
use Rattle.acpi_tree.specs.View.{items_tree}
use Rattle.acpi_tree.specs.declared.tree.Item.{Item}
use Rattle.acpi_declare.specs.Namespace.{namespace_of}
use Rattle.acpi_declare.specs.Notes.{notes_of}
use Rattle.acpi_write.specs.CanonicalItems.{items_bytes}
use Rattle.acpi_write.specs.Tables.{header_for}
use Rattle.acpi_write.specs.declared.fault.WriteFault.{WriteFault}
use Rattle.acpi_write.specs.declared.fault.WriteFault.TheVariants.{TooLong}
use Rattle.acpi_rewrite.specs.Rewriting.{codes, without_code}
use Rattle.acpi_rewrite.proofs.Recoded.{alike_fit}
use Rattle.acpi_rewrite.proofs.Recoding.{written_over, as_many_codes, has_room, is_rewritten}
use Rattle.acpi_rewrite.proofs.rewriting.rewritten_table.Goals as goal

pub recode_items-requires : goal.recode_items-requires
recode_items-requires g c =
    let n = c.requires.1 in
    let objects = namespace_of (g.S.Space.contents c.args.objects.now) in
    let given : c.deref_mut.result.now ≡ c.in_ok-items.items.items = search rules in
    let same : items_tree c.in_ok-items.items.items ≡ n.items = c.in_ok-items.ensures.same n.number n.items n.table in
    let many = as_many_codes c.args.depth objects c.args.table.now c.requires.0 (notes_of c.args.notes.now) n c.in_ok-new_codes.field-0.items c.in_ok-new_codes.ensures in
    omega (arith, ap (λ (is : List Item). length (codes (items_tree is))) given, ap (λ (is : ItemTrees). length (codes is)) same, many, ap length c.into_iter-fresh.ensures.rest)

pub unreachable-requires : goal.unreachable-requires
unreachable-requires g c =
    let whole = c.in_default.ensures.only c.args.table.now [] c.requires.1.table.numbered.table (c.as_slice-bytes.ensures ∙ sym (append-nil c.args.table.now)) in
    absurd whole

pub write_table-requires : goal.write_table-requires
write_table-requires g c =
    let given : c.deref_mut.result.now ≡ c.in_ok-items.items.items = search rules in
    let now : c.deref.result.now ≡ c.recode_items.new.items =
    c.deref.ensures.value ∙ written_over c.in_ok-items.items.len c.recode_items.new.items c.in_ok-items.items.items (search rules) (search rules) in
    let alike : without_code (items_tree c.recode_items.new.items) ≡ without_code (items_tree c.in_ok-items.items.items) =
    c.recode_items.ensures.alike ∙ ap (λ (is : List Item). without_code (items_tree is)) given in
    record {
      fit = subst (λ (is : List Item). items_fit (items_tree is) ≡ true) (sym now)
          (alike_fit (items_tree c.in_ok-items.items.items) (items_tree c.recode_items.new.items) alike ∙ c.in_ok-items.ensures.fits);
    }

pub returns-in-Ok-write_table : goal.returns-in-Ok-write_table
returns-in-Ok-write_table g c =
    let objects = namespace_of (g.S.Space.contents c.args.objects.now) in
    let given : c.deref_mut.result.now ≡ c.in_ok-items.items.items = search rules in
    let now : c.deref.result.now ≡ c.recode_items.new.items =
    c.deref.ensures.value ∙ written_over c.in_ok-items.items.len c.recode_items.new.items c.in_ok-items.items.items (search rules) (search rules) in
    let js = items_tree c.recode_items.new.items in
    let bytes = c.in-Ok-write_table.bytes.items in
    let below : All (λ b. b < 256) c.args.table.now = subst (All (λ b. b < 256)) c.as_slice-bytes.ensures c.has_bytes.ensures in
    let below_now : All (λ b. b < 256) bytes = subst (All (λ b. b < 256)) c.deref-in-Ok-write_table.ensures.value c.has_bytes-in-Ok-write_table.ensures in
    record {
      bytes = (below, below_now);
      rewritten = λ t n.
          let alike : without_code js ≡ without_code n.items =
          c.recode_items.ensures.alike ∙ ap (λ (is : List Item). without_code (items_tree is)) given ∙ ap without_code (c.in_ok-items.ensures.same n.number n.items n.table) in
          let whole : c.in-Ok.old ≡ c.args.table.now = (c.in-Ok.ensures.only c.args.table.now [] n.table.numbered.table (c.as_slice-bytes.ensures ∙ sym (append-nil c.args.table.now))).0 in
          is_rewritten c.args.depth objects c.args.table.now t (notes_of c.args.notes.now) n c.in_ok-new_codes.field-0.items c.in_ok-new_codes.ensures js
          (into_iter_items c.recode_items.new.fresh) bytes alike
          (c.recode_items.ensures.codes ∙ c.into_iter-fresh.ensures.rest)
          record {
            table = c.in-Ok-write_table.ensures.table;
            header = c.in-Ok-write_table.ensures.header ∙ ap (λ (h : Header). header_for h bytes) (c.header.ensures ∙ ap header_of whole);
            spelling = sym (ap (λ (is : List Item). items_bytes (items_tree is)) now) ∙ c.in-Ok-write_table.ensures.code;
          };
    }

pub unreachable-requires-in-Err-TooLong : goal.unreachable-requires-in-Err-TooLong
unreachable-requires-in-Err-TooLong g c =
    let n = c.requires.1 in
    let objects = namespace_of (g.S.Space.contents c.args.objects.now) in
    let given : c.deref_mut.result.now ≡ c.in_ok-items.items.items = search rules in
    let now : c.deref.result.now ≡ c.recode_items.new.items =
    c.deref.ensures.value ∙ written_over c.in_ok-items.items.len c.recode_items.new.items c.in_ok-items.items.items (search rules) (search rules) in
    let js = items_tree c.recode_items.new.items in
    let alike : without_code js ≡ without_code n.items =
    c.recode_items.ensures.alike ∙ ap (λ (is : List Item). without_code (items_tree is)) given ∙ ap without_code (c.in_ok-items.ensures.same n.number n.items n.table) in
    let below : All (λ b. b < 256) c.args.table.now = subst (All (λ b. b < 256)) c.as_slice-bytes.ensures c.has_bytes.ensures in
    let told : c.write_table.result ≡ Err TooLong = c.in-Err-TooLong.is ∙ ap (λ (f : WriteFault). Err f) c.in-Err-TooLong.field-0-is in
    has_room c.args.depth objects c.args.table.now c.requires.0 (notes_of c.args.notes.now) n c.in_ok-new_codes.field-0.items c.in_ok-new_codes.ensures js
    (into_iter_items c.recode_items.new.fresh) below alike
    (c.recode_items.ensures.codes ∙ c.into_iter-fresh.ensures.rest)
    (λ code e. c.write_table.ensures.long told code (ap (λ (is : List Item). items_bytes (items_tree is)) now ∙ e))
