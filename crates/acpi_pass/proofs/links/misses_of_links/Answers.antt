use Rattle.std.proofs.Common.{◌≡◌, ◌≢◌, false, true≢false, ◌∙◌, ◌∷◌, [], ◌++◌, ◌+◌, ◌<◌, ◌↔◌, List, take, length, ap, sym, subst, arith, rules}
use Rattle.std.proofs.lemmas.List.{take_all, take_more}
use Rattle.std.specs.Prelude.{IsTrue}
use Rattle.acpi_name.specs.Names.{Segment}
use Rattle.acpi_space.specs.Laws.{Among}
use Rattle.acpi_pass.specs.declared.pending.PendingLinks.{PendingLinks}
use Rattle.acpi_pass.specs.Pending.{IsMissedLink, all_pending_of, linked_paths}
use Rattle.acpi_pass.specs.Namespace.{namespace_of}
use Rattle.acpi_pass.specs.steps.Missing.{misses_from}
use Rattle.acpi_pass.proofs.LinkMisses.{with_paths, without_paths}
use Rattle.acpi_pass.proofs.links.misses_of_links.Goals.{then-not-is_empty+in_ok-add_misses, else-not-is_empty}
use Rattle.acpi_pass.proofs.links.misses_of_links.Goals as goal

pub loop-link-preserved : goal.loop-link-preserved
loop-link-preserved g c =
    let objects = namespace_of (g.S.Space.contents c.args.objects.now) in
    let asked = g.Q.Wanted.wanted c.args.wanted.now in
    let l = c.loop-link in
    let w = c.link-item.result in
    let xs = c.args.pending.now in
    let below : l.link-index < length xs = grind arith in
    let longer : take l.link-index xs ++ w ∷ [] ≡ take (l.link-index + 1) xs = ap (λ y. take l.link-index xs ++ y ∷ []) c.link-item.is ∙ sym (take_more xs l.link-index w below) in
    let goes : List (List Segment) → List PendingLinks → Type 0 = λ items ws. (p : List Segment) → Among items p ↔ (IsMissedLink objects (all_pending_of ws) p × IsTrue (asked p)) in
    elim c.if-not-is_empty.branch [
      | then-not-is_empty+in_ok-add_misses v ↦
          let full : c.is_empty.result ≡ false = search rules in
          let some : linked_paths w.scope w.paths ≢ [] = λ e. true≢false (sym ((c.is_empty.ensures w.scope).1 e) ∙ full) in
          let more : c.if-not-is_empty.missed.items ≡ l.missed.items ++ misses_from asked objects w.scope w.names.items = search rules in
          subst (goes c.if-not-is_empty.missed.items) longer (with_paths asked objects (take l.link-index xs) w l.missed.items l.invariant c.if-not-is_empty.missed.items some more)
      | else-not-is_empty v ↦
          let none : linked_paths w.scope w.paths ≡ [] = (c.is_empty.ensures w.scope).0 (search rules) in
          let same : c.if-not-is_empty.missed.items ≡ l.missed.items = search rules in
          subst (λ items. goes items (take (l.link-index + 1) xs)) (sym same)
          (subst (goes l.missed.items) longer (without_paths asked objects (take l.link-index xs) w l.missed.items l.invariant none))
    ]

pub returns : goal.returns
returns g c =
    let objects = namespace_of (g.S.Space.contents c.args.objects.now) in
    let l = c.loop-link in
    let whole : take l.link-index c.args.pending.now ≡ c.args.pending.now = take_all l.link-index c.args.pending.now (omega (arith, c.loop-link-test.false)) in
    subst (λ (ws : List PendingLinks). (p : List Segment) → Among l.missed.items p ↔ (IsMissedLink objects (all_pending_of ws) p × IsTrue (g.Q.Wanted.wanted c.args.wanted.now p)))
    whole l.invariant
