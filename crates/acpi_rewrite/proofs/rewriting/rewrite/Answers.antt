use Rattle.std.proofs.Common.{◌≡◌, ◌≤◌, List, ℕ, ◌∷◌, length, map, IfOk, subst, ◌∙◌}
use Rattle.std.specs.List.{AllZip}
use Rattle.acpi_order.specs.Orders.{TellsOfJoin}
use Rattle.acpi_rewrite.specs.Rewriting.{LoadToJoin, AreTablesOfBytes}
use Rattle.acpi_rewrite.proofs.rewriting.rewrite.Goals as goal

pub returns-clause-no_longer : goal.returns-clause-no_longer
returns-clause-no_longer g c =
    let ssdts : c.deref.result.now ≡ map (λ b. b.now) c.args.ssdts.now = c.deref.ensures.value ∙ c.in_ok-ssdts.ensures in
    let dsdt : c.in_ok-dsdt.dsdt ≡ c.args.dsdt.now = c.in_ok-dsdt.ensures in
    let tables : c.in_ok-dsdt.dsdt ∷ c.deref.result.now ≡ c.args.dsdt.now ∷ map (λ b. b.now) c.args.ssdts.now = λ i. dsdt i ∷ ssdts i in
    subst (λ (ts : List (List ℕ)). IfOk c.rewrite_shared.result (λ v. AllZip (λ old now. length now ≤ length old) ts (map (λ b. b.items) v.items))) tables c.rewrite_shared.ensures.no_longer

pub returns-clause-bytes : goal.returns-clause-bytes
returns-clause-bytes g c =
    let ssdts : c.deref.result.now ≡ map (λ b. b.now) c.args.ssdts.now = c.deref.ensures.value ∙ c.in_ok-ssdts.ensures in
    let dsdt : c.in_ok-dsdt.dsdt ≡ c.args.dsdt.now = c.in_ok-dsdt.ensures in
    let tables : c.in_ok-dsdt.dsdt ∷ c.deref.result.now ≡ c.args.dsdt.now ∷ map (λ b. b.now) c.args.ssdts.now = λ i. dsdt i ∷ ssdts i in
    subst (λ (ts : List (List ℕ)). IfOk c.rewrite_shared.result (λ v. AreTablesOfBytes ts × AreTablesOfBytes (map (λ b. b.items) v.items))) tables c.rewrite_shared.ensures.bytes

pub returns-clause-any_order : goal.returns-clause-any_order
returns-clause-any_order g c =
    let ssdts : c.deref.result.now ≡ map (λ b. b.now) c.args.ssdts.now = c.deref.ensures.value ∙ c.in_ok-ssdts.ensures in
    let dsdt : c.in_ok-dsdt.dsdt ≡ c.args.dsdt.now = c.in_ok-dsdt.ensures in
    subst (λ (b : List ℕ). TellsOfJoin (λ Part v. LoadToJoin Part c.args.depth (map (λ b. b.items) v.items)) c.args.depth b (map (λ b. b.now) c.args.ssdts.now) c.rewrite_shared.result) dsdt
    (subst (λ (bs : List (List ℕ)). TellsOfJoin (λ Part v. LoadToJoin Part c.args.depth (map (λ b. b.items) v.items)) c.args.depth c.in_ok-dsdt.dsdt bs c.rewrite_shared.result) ssdts
    c.rewrite_shared.ensures.any_order)
