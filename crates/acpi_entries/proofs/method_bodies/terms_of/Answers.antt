use Rattle.std.proofs.Common.{◌≡◌, ◌∙◌, ◌↔◌, IfOk, IfErr, ap, subst, map}
use Rattle.std.specs.FinMap as finite
use Rattle.acpi_tree.specs.Terms.{TermTrees}
use Rattle.acpi_tree.specs.TermView.{terms_tree}
use Rattle.acpi_body.specs.Arguments.{BodyGrammar}
use Rattle.acpi_body.specs.Statements.{ReadsBody}
use Rattle.acpi_body.specs.Faults.{ShowsBody}
use Rattle.acpi_body.specs.Reasons.{IfFault}
use Rattle.acpi_conditions.specs.Met.{Meeting, numbers_met}
use Rattle.acpi_conditions.specs.Views.{View, seen_by}
use Rattle.acpi_conditions.specs.EntryForms.{entry_view}
use Rattle.acpi_survey.specs.Counts.{counts_numbered}
use Rattle.acpi_body.specs.Grammars.{with_loads}
use Rattle.acpi_survey.specs.Bodies.{body_count}
use Rattle.acpi_entries.specs.steps.MethodBodies.{method_grammar}
use Rattle.acpi_entries.proofs.method_bodies.terms_of.Goals as goal

pub returns-clause-read : goal.returns-clause-read
returns-clause-read c =
    let m = c.args.methods.now in
    let e = c.args.entry.now in
    let counted : View → Meeting → BodyGrammar = λ x y locals. with_loads (body_count (finite.get m.expected.now) e.path (seen_by x) (λ p. counts_numbered m.counts.now (numbers_met y p)) locals) in
    let seen : View = record { entries = map (entry_view m.entries.ways.now) m.entries.paths.now.entries; entry = entry_view m.entries.ways.now e } in
    let alike : counted c.in_ok-new.field-0 c.in_ok-new-2.field-0 ≡ method_grammar m e = ap (λ (x : View). counted x c.in_ok-new-2.field-0) c.in_ok-new.ensures ∙ ap (λ (y : Meeting). counted seen y) c.in_ok-new-2.ensures in
    subst (λ (args : BodyGrammar). IfOk c.read_terms.result (λ v. (ts : TermTrees) → (terms_tree v.items ≡ ts) ↔ ReadsBody args e.path c.args.depth c.args.body.now ts)) alike c.read_terms.ensures.read

pub returns-clause-faults : goal.returns-clause-faults
returns-clause-faults c =
    let m = c.args.methods.now in
    let e = c.args.entry.now in
    let counted : View → Meeting → BodyGrammar = λ x y locals. with_loads (body_count (finite.get m.expected.now) e.path (seen_by x) (λ p. counts_numbered m.counts.now (numbers_met y p)) locals) in
    let seen : View = record { entries = map (entry_view m.entries.ways.now) m.entries.paths.now.entries; entry = entry_view m.entries.ways.now e } in
    let alike : counted c.in_ok-new.field-0 c.in_ok-new-2.field-0 ≡ method_grammar m e = ap (λ (x : View). counted x c.in_ok-new-2.field-0) c.in_ok-new.ensures ∙ ap (λ (y : Meeting). counted seen y) c.in_ok-new-2.ensures in
    subst (λ (args : BodyGrammar). IfErr c.read_terms.result (λ s. IfFault s (λ f. ShowsBody args e.path c.args.depth c.args.body.now f.reason f.place))) alike c.read_terms.ensures.faults

pub returns-clause-unread : goal.returns-clause-unread
returns-clause-unread c =
    let m = c.args.methods.now in
    let e = c.args.entry.now in
    let counted : View → Meeting → BodyGrammar = λ x y locals. with_loads (body_count (finite.get m.expected.now) e.path (seen_by x) (λ p. counts_numbered m.counts.now (numbers_met y p)) locals) in
    let seen : View = record { entries = map (entry_view m.entries.ways.now) m.entries.paths.now.entries; entry = entry_view m.entries.ways.now e } in
    let alike : counted c.in_ok-new.field-0 c.in_ok-new-2.field-0 ≡ method_grammar m e = ap (λ (x : View). counted x c.in_ok-new-2.field-0) c.in_ok-new.ensures ∙ ap (λ (y : Meeting). counted seen y) c.in_ok-new-2.ensures in
    subst (λ (args : BodyGrammar). IfErr c.read_terms.result (λ s. IfFault s (λ f. (ts : TermTrees) → ¬ ReadsBody args e.path c.args.depth c.args.body.now ts))) alike c.read_terms.ensures.unread
