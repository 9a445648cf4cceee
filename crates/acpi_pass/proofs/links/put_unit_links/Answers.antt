use Rattle.std.proofs.Common.{◌≡◌, ◌∙◌, ◌∷◌, [], ◌++◌, List, ap, sym, arith}
use Rattle.std.proofs.lemmas.List.{map-append}
use Rattle.acpi_name.specs.Names.{Segment}
use Rattle.acpi_space.specs.Lookups.{singleton, union}
use Rattle.acpi_pass.specs.Pending.{unit_paths}
use Rattle.acpi_pass.specs.Links.{links_at}
use Rattle.acpi_pass.specs.steps.View.{links_with}
use Rattle.acpi_pass.proofs.LinkAnswers.{path_moves}
use Rattle.acpi_pass.proofs.Unions.{union-nothing}
use Rattle.acpi_pass.proofs.links.put_unit_links.Goals as goal

pub loop-seg-preserved : goal.loop-seg-preserved
loop-seg-preserved c =
    let found = c.args.answers.now.value.items in
    let before = links_at c.loop-seg.links in
    let s = c.args.scope.now in
    let p = s ++ c.in-Some.seg ∷ [] in
    let later = unit_paths s c.pop.new.self.items in
    let all : unit_paths s c.loop-seg.left.items ≡ later ++ p ∷ [] =
    ap (unit_paths s) c.in-Some.ensures.items ∙ map-append (λ g. s ++ g ∷ []) c.pop.new.self.items (c.in-Some.seg ∷ []) in
    ap (λ m. union m (links_with found later)) (c.in_ok-share.ensures.ok ∙ ap (λ (q : List Segment). union before (singleton q found)) c.in_ok-unit_path.ensures)
    ∙ path_moves found p later before
    ∙ ap (λ (ps : List (List Segment)). union before (links_with found ps)) (sym all)
    ∙ c.loop-seg.invariant

pub returns : goal.returns
returns c =
    let found = c.args.answers.now.value.items in
    let none : c.loop-seg.left.items ≡ [] = grind arith in
    sym (union-nothing (links_at c.loop-seg.links))
    ∙ ap (λ (segs : List Segment). union (links_at c.loop-seg.links) (links_with found (unit_paths c.args.scope.now segs))) (sym none)
    ∙ c.loop-seg.invariant
