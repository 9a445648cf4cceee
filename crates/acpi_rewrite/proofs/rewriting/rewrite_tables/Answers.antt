use Rattle.std.proofs.Common.{◌≡◌, ◌<◌, ◌+◌, List, [], ◌∷◌, ◌++◌, drop, length, map, get_or, take, sym, ap, subst, ◌∙◌, arith, rules, length-append}
use Rattle.std.proofs.lemmas.List.{nil_from_length, take_all}
use Rattle.std.specs.Vec.Iter.{into_iter_items}
use Rattle.acpi_declare.specs.Links.{links_at}
use Rattle.acpi_declare.specs.Loads.{IsLoad, AreNotes}
use Rattle.acpi_declare.specs.Namespace.{namespace_of}
use Rattle.acpi_declare.specs.Notes.{notes_of}
use Rattle.acpi_declare.specs.DeclaredView.{links_in}
use Rattle.acpi_pass.specs.declared.notes.TableNotes.{TableNotes}
use Rattle.acpi_rewrite.specs.Rewriting.{AreTablesOfBytes}
use Rattle.acpi_rewrite.specs.steps.Recoding.{IsRewrittenTo}
use Rattle.acpi_rewrite.proofs.Recoding.{none_rewritten, as_many_notes, all_rewritten, next_left, next_noted, next_rewritten, none_left, more_old, more_new}
use Rattle.acpi_rewrite.proofs.rewriting.rewrite_tables.Goals as goal

pub loop-noted-init : goal.loop-noted-init
loop-noted-init g c =
    let tables = c.args.dsdt.now ∷ c.args.ssdts.now in
    let d = c.in_ok-declared.declared in
    let ns = into_iter_items c.into_iter-noted-iterator.result in
    let N = namespace_of (g.S.Space.contents c.into_parts-objects.result.0) in
    let noted : ns ≡ c.into_parts-objects.result.2.items = search rules in
    let load = subst (λ s. IsLoad c.args.depth tables (namespace_of (g.S.Space.contents s)) (links_at (links_in d))) (sym c.into_parts-objects.ensures.objects) c.in_ok-declared.ensures.ok in
    let notes = subst (λ (l : List TableNotes). AreNotes c.args.depth tables (map notes_of l)) (sym (noted ∙ c.into_parts-objects.ensures.notes)) c.in_ok-declared.ensures.notes in
    let empty : c.new-rewritten.result.items ≡ [] = search rules in
    record {
      left = ap (λ l. drop (length l) ns) (sym empty);
      so_far = subst (λ l. IsRewrittenTo c.args.depth tables (map notes_of ns) N (length l) (map (λ b. b.items) l)) (sym empty)
          (none_rewritten c.args.depth tables (map notes_of ns) N (links_at (links_in d)) load notes);
      old = subst (λ l. AreTablesOfBytes (take (length l) tables)) (sym empty) tt;
      new = subst (λ l. AreTablesOfBytes (map (λ b. b.items) l)) (sym empty) tt;
    }

pub table_at-table-requires : goal.table_at-table-requires
table_at-table-requires g c =
    let tables = c.args.dsdt.now ∷ c.args.ssdts.now in
    let ns = into_iter_items c.into_iter-noted-iterator.result in
    let i = length c.loop-noted.rewritten.items in
    let next : into_iter_items c.loop-noted.noted-iterator ≡ c.in-Some.noted ∷ into_iter_items c.next.new.self = search rules in
    let at = next_left ns i c.in-Some.noted (into_iter_items c.next.new.self) (sym c.loop-noted.invariant.left ∙ next) in
    let many = as_many_notes c.args.depth tables ns (namespace_of (g.S.Space.contents c.into_parts-objects.result.0)) i c.loop-noted.rewritten.items c.loop-noted.invariant.so_far in
    let number : c.len.result ≡ i = c.len.ensures ∙ c.loop-noted.rewritten.ok.0 in
    omega (arith, many, at.0, number)

pub rewritten_table-requires : goal.rewritten_table-requires
rewritten_table-requires g c =
    let tables = c.args.dsdt.now ∷ c.args.ssdts.now in
    let ns = into_iter_items c.into_iter-noted-iterator.result in
    let i = length c.loop-noted.rewritten.items in
    let N = namespace_of (g.S.Space.contents c.into_parts-objects.result.0) in
    let r = c.loop-noted.invariant.so_far in
    let b = c.table_at-table.result.now in
    let n = c.in-Some.noted in
    let next : into_iter_items c.loop-noted.noted-iterator ≡ n ∷ into_iter_items c.next.new.self = search rules in
    let at = next_left ns i n (into_iter_items c.next.new.self) (sym c.loop-noted.invariant.left ∙ next) in
    let there = c.table_at-table.ensures ∙ ap (λ k. get_or tables k b) (c.len.ensures ∙ c.loop-noted.rewritten.ok.0) in (
      get_or r.placements i [],
      next_noted c.args.depth tables ns N i c.loop-noted.rewritten.items r b n at.0 there at.1,
    )

pub loop-noted-preserved : goal.loop-noted-preserved
loop-noted-preserved g c =
    let tables = c.args.dsdt.now ∷ c.args.ssdts.now in
    let ns = into_iter_items c.into_iter-noted-iterator.result in
    let N = namespace_of (g.S.Space.contents c.into_parts-objects.result.0) in
    let done = c.loop-noted.rewritten.items in
    let i = length done in
    let r = c.loop-noted.invariant.so_far in
    let b = c.table_at-table.result.now in
    let n = c.in-Some.noted in
    let next : into_iter_items c.loop-noted.noted-iterator ≡ n ∷ into_iter_items c.next.new.self = search rules in
    let at = next_left ns i n (into_iter_items c.next.new.self) (sym c.loop-noted.invariant.left ∙ next) in
    let there = c.table_at-table.ensures ∙ ap (λ k. get_or tables k b) (c.len.ensures ∙ c.loop-noted.rewritten.ok.0) in
    let one = c.in_ok-rewritten_table in
    let now = c.push.new.self.items in
    let pushed : now ≡ done ++ one.field-0 ∷ [] = search rules in
    let many : length now ≡ i + 1 = ap length pushed ∙ length-append done (one.field-0 ∷ []) in
    let listed = get_or r.placements i [] in
    let noted = next_noted c.args.depth tables ns N i done r b n at.0 there at.1 in
    let within : i < length tables = omega (arith, at.0, as_many_notes c.args.depth tables ns N i done r) in
    record {
      left = at.2 ∙ ap (λ k. drop k ns) (sym many);
      so_far = subst (λ k. IsRewrittenTo c.args.depth tables (map notes_of ns) N k (map (λ b. b.items) now)) (sym many)
          (next_rewritten c.args.depth tables ns N i done r b n at.0 there at.1 now one.field-0 pushed (one.ensures.rewritten listed noted));
      old = subst (λ k. AreTablesOfBytes (take k tables)) (sym many) (more_old tables i b within there c.loop-noted.invariant.old one.ensures.bytes.0);
      new = more_new done now one.field-0 pushed c.loop-noted.invariant.new one.ensures.bytes.1;
    }

pub returns-clause-bytes : goal.returns-clause-bytes
returns-clause-bytes g c =
    let tables = c.args.dsdt.now ∷ c.args.ssdts.now in
    let ns = into_iter_items c.into_iter-noted-iterator.result in
    let i = length c.loop-noted.rewritten.items in
    let none : length (into_iter_items c.loop-noted.noted-iterator) ≡ 0 = sym c.loop-noted.noted-iterator.rest.ok.0 ∙ c.in-None.ensures.steps.0 in
    let past = none_left ns i (sym c.loop-noted.invariant.left ∙ nil_from_length _ none) in
    let many = as_many_notes c.args.depth tables ns (namespace_of (g.S.Space.contents c.into_parts-objects.result.0)) i c.loop-noted.rewritten.items c.loop-noted.invariant.so_far in
    (subst AreTablesOfBytes (take_all i tables (omega (arith, many, past))) c.loop-noted.invariant.old, c.loop-noted.invariant.new)

pub returns-clause-ok : goal.returns-clause-ok
returns-clause-ok g c =
    let tables = c.args.dsdt.now ∷ c.args.ssdts.now in
    let ns = into_iter_items c.into_iter-noted-iterator.result in
    let i = length c.loop-noted.rewritten.items in
    let none : length (into_iter_items c.loop-noted.noted-iterator) ≡ 0 = sym c.loop-noted.noted-iterator.rest.ok.0 ∙ c.in-None.ensures.steps.0 in
    all_rewritten c.args.depth tables ns (namespace_of (g.S.Space.contents c.into_parts-objects.result.0)) i c.loop-noted.rewritten.items c.loop-noted.invariant.so_far
    (none_left ns i (sym c.loop-noted.invariant.left ∙ nil_from_length _ none))
