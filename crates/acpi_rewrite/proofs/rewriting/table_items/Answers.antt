use Rattle.std.proofs.Common.{◌≡◌, ℕ, Err, sym, subst, ◌∙◌}
use Rattle.acpi_terms.specs.Spelling.{SpellsItems}
use Rattle.acpi_declare.specs.Tables.{code_of}
use Rattle.acpi_pass.proofs.Ranges.{range_to_end}
use Rattle.acpi_terms.specs.Faults.{OrMemory}
use Rattle.acpi_terms.specs.declared.fault.ItemFault.{ItemFault}
use Rattle.acpi_terms.specs.declared.fault.ItemFault.TheVariants.{At}
use Rattle.acpi_terms.specs.declared.fault.ItemReason.{ItemReason}
use Rattle.acpi_tree.specs.View.{items_tree}
use Rattle.acpi_rewrite.proofs.rewriting.table_items.Goals as goal

none : {X : Type 0} (reason : ItemReason) (place : ℕ) (fault : ItemFault) (Is : X → Type 0) → fault ≡ At reason place → OrMemory (Err fault) Is → ⊥
none reason place fault Is e h = subst (λ (f : ItemFault). OrMemory (Err f) Is) e h

pub returns-in-Ok-clause-same : goal.returns-in-Ok-clause-same
returns-in-Ok-clause-same c = λ number is t.
    let code : c.in_ok-code.code ≡ code_of c.args.table.now = c.in_ok-code.ensures.ok ∙ range_to_end c.args.table.now 36 in
    c.in-Ok.ensures.only is (subst (SpellsItems is) (sym code) t.spelled) t.height

pub unreachable-requires : goal.unreachable-requires
unreachable-requires c =
    let t = c.requires.2 in
    let f = c.in-Err-At in
    let code : c.in_ok-code.code ≡ code_of c.args.table.now = c.in_ok-code.ensures.ok ∙ range_to_end c.args.table.now 36 in
    none f.field-0-0 f.field-0-1 f.field-0 (λ v. items_tree v.items ≡ c.requires.1) f.field-0-is (f.ensures.only c.requires.1 (subst (SpellsItems c.requires.1) (sym code) t.spelled) t.height)
