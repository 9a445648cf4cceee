use Rattle.std.proofs.Common.{◌∷◌, map}
use Rattle.acpi_rewrite.proofs.Rewritten.{told_alike, tells_join}
use Rattle.acpi_rewrite.proofs.rewriting.rewrite_shared.Goals as goal

pub returns-clause-alike : goal.returns-clause-alike
returns-clause-alike g c =
    told_alike c.rewrite_tables.result (λ v. map (λ b. b.items) v.items) c.args.depth (c.args.dsdt.now ∷ c.args.ssdts.now) c.rewrite_tables.ensures.ok c.rewrite_tables.ensures.bytes

pub returns-clause-any_order : goal.returns-clause-any_order
returns-clause-any_order g c =
    tells_join c.args.depth c.args.dsdt.now c.args.ssdts.now c.rewrite_tables.result c.rewrite_tables.ensures.none (λ v. map (λ b. b.items) v.items) c.rewrite_tables.ensures.ok
    c.rewrite_tables.ensures.bytes
