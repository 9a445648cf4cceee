use Rattle.std.proofs.Common.{◌≡◌, ◌∙◌, ℕ, List, Option, Some, refl, ap, subst, slice_get, map}
use Rattle.std.specs.FinMap as finite
use Rattle.acpi_conditions.specs.EntryForms.{entry_view}
use Rattle.acpi_conditions.specs.Entries.{Entry}
use Rattle.acpi_space.specs.Spaces.{PathMap}
use Rattle.acpi_body.specs.Arguments.{BodyGrammar}
use Rattle.acpi_survey.specs.Bodies.{entry_grammar}
use Rattle.acpi_entries.specs.EntryBodies.{IsBodyReading}
use Rattle.acpi_ranges.specs.EntryParts.{part_declaring}
use Rattle.acpi_ranges.specs.Lookup.{found_of}
use Rattle.acpi_entries.specs.steps.MethodBodies.{method_grammar}
use Rattle.acpi_entries.proofs.DeclaringBodies.{body_is}
use Rattle.acpi_entries.proofs.body.body_of.Goals as goal

pub returns : goal.returns
returns c tile =
    let s = c.args.survey.now in
    let es = s.reading.walk.entries in
    let ways = c.entries-entries.result.ways.now in
    let forms = map (entry_view ways) c.entries-entries.result.paths.now.entries in
    let e = entry_view ways c.in-Some.entry.now in
    let m = c.methods_of-methods.result in
    let t = c.in-Some-Some.table.now in
    let is : Some e ≡ slice_get es c.args.number = c.in-Some.ensures ∙ ap (λ (es : List Entry). slice_get es c.args.number) c.entries-entries.ensures in
    let counted : method_grammar m c.in-Some.entry.now ≡ entry_grammar es s.reading.counts t.expected e =
    ap (λ n. entry_grammar (map (entry_view n.ways.now) n.paths.now.entries) m.counts.now m.expected.now (entry_view n.ways.now c.in-Some.entry.now)) c.methods_of-methods.ensures.entries
    ∙ ap (λ (fs : List Entry). entry_grammar fs m.counts.now m.expected.now e) c.entries-entries.ensures
    ∙ ap (λ (cs : List (Option ℕ)). entry_grammar es cs m.expected.now e) c.methods_of-methods.ensures.counts
    ∙ ap (λ (x : PathMap ℕ). entry_grammar es s.reading.counts x e) c.methods_of-methods.ensures.expected in
    body_is es s.reading.counts s.tables.items s.depth (slice_get es c.args.number) e t (found_of c.in-Some-part_of.part) (part_declaring s.tables.items es c.args.number)
    (c.in-Some-Some.found.offset, c.in-Some-Some.found.code.now)
    record { code = c.in-Some-Some.found.code; offset = c.in-Some-Some.found.offset; reading = c.in_ok-read_body.field-0 }
    is c.in-Some-Some.ensures (c.in-Some-part_of.ensures tile) c.in-Some-Some.ensures' refl refl
    (subst (λ (a : BodyGrammar). IsBodyReading a e.path s.depth c.in-Some-Some.found.code.now c.in_ok-read_body.field-0) counted c.in_ok-read_body.ensures)
