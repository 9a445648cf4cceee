use Rattle.std.proofs.Common.{◌≡◌, ◌∙◌, [], List, ap, sym, arith}
use Rattle.acpi_pass.specs.Pending.{all_pending_of}
use Rattle.acpi_pass.specs.declared.pending.PendingLinks.{PendingLinks}
use Rattle.acpi_space.specs.Lookups.{union}
use Rattle.acpi_pass.specs.Links.{links_of, links_at}
use Rattle.acpi_pass.specs.Namespace.{namespace_of}
use Rattle.acpi_pass.proofs.LinkAnswers.{links_move}
use Rattle.acpi_pass.proofs.Unions.{union-nothing}
use Rattle.acpi_pass.proofs.links.search_links.Goals as goal

pub loop-link-init : goal.loop-link-init
loop-link-init g c =
    let objects = namespace_of (g.S.Space.contents c.args.objects.now) in
    ap (λ m. union m (links_of objects (all_pending_of c.args.pending.items))) c.new-links.ensures

pub loop-link-preserved : goal.loop-link-preserved
loop-link-preserved g c =
    let objects = namespace_of (g.S.Space.contents c.args.objects.now) in
    let before = links_at c.loop-link.links in
    let w = c.in-Some.link in
    let later = c.pop.new.self.items in
    ap (λ m. union m (links_of objects (all_pending_of later))) c.in_ok-put_pending.ensures
    ∙ links_move objects w later before
    ∙ ap (λ (ws : List PendingLinks). union before (links_of objects (all_pending_of ws))) (sym c.in-Some.ensures.items)
    ∙ c.loop-link.invariant

pub returns : goal.returns
returns g c =
    let objects = namespace_of (g.S.Space.contents c.args.objects.now) in
    let none : c.loop-link.left.items ≡ [] = grind arith in
    sym (union-nothing (links_at c.loop-link.links))
    ∙ ap (λ (ws : List PendingLinks). union (links_at c.loop-link.links) (links_of objects (all_pending_of ws))) (sym none)
    ∙ c.loop-link.invariant
