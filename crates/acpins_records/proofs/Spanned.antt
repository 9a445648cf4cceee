-- Paths whose segments stand one behind the other.
use Rattle.std.proofs.Common.{◌≡◌, ℕ, ◌≤◌, ◌-◌, List, [], ◌∷◌, ◌++◌, map, length, take, drop, ◌∙◌, ap, refl, arith, length-append, length-drop}
use Rattle.std.specs.Prelude.{slice_range}
use Rattle.std.specs.List.{All}
use Rattle.std.proofs.lemmas.List.{take-append-le, drop-append-le, map-append, take_all, drop_all}
use Rattle.std.proofs.lemmas.List.Elements.{All-head, All-tail}
use Rattle.acpi_name.specs.Names.{Segment}
use Rattle.acpins_records.specs.declared.paths.Span.{Span}
use Rattle.acpins_records.specs.steps.Spans.{IsSpan, path_at}

range_kept : (segs more : List Segment) (a b : ℕ) → a ≤ b → b ≤ length segs → slice_range (segs ++ more) a b ≡ slice_range segs a b
range_kept segs more a b up within =
    ap (take (b - a)) (drop-append-le a segs more (omega (arith, up, within)))
    ∙ take-append-le (b - a) (drop a segs) more (omega (arith, up, within, length-drop a segs))

range_behind : (segs more : List Segment) (a b : ℕ) → a ≡ length segs → b ≡ length (segs ++ more) → slice_range (segs ++ more) a b ≡ more
range_behind segs more a b begins ends =
    ap (take (b - a)) (drop-append-le a segs more (omega (arith, begins)) ∙ ap (λ l. l ++ more) (drop_all a segs (omega (arith, begins))))
    ∙ take_all (b - a) more (omega (arith, begins, ends, length-append segs more))

paths_kept : (segs more : List Segment) (ss : List Span) → All (IsSpan segs) ss → map (path_at (segs ++ more)) ss ≡ map (path_at segs) ss
paths_kept segs more [] all = refl
paths_kept segs more (s ∷ ss) all =
    let h = All-head (IsSpan segs) s ss all in
    ap (λ p. p ∷ map (path_at (segs ++ more)) ss) (range_kept segs more s.begin s.end h.0 h.1)
    ∙ ap (λ l. path_at segs s ∷ l) (paths_kept segs more ss (All-tail (IsSpan segs) s ss all))

-- one path more, whose segments stand behind the others
pub path_put : (segs more : List Segment) (ss : List Span) (begin end : ℕ) → All (IsSpan segs) ss → begin ≡ length segs → end ≡ length (segs ++ more)
    → map (path_at (segs ++ more)) (ss ++ record { begin = begin; end = end } ∷ []) ≡ map (path_at segs) ss ++ more ∷ []
path_put segs more ss begin end all begins ends =
    map-append (path_at (segs ++ more)) ss (record { begin = begin; end = end } ∷ [])
    ∙ ap (λ l. l ++ slice_range (segs ++ more) begin end ∷ []) (paths_kept segs more ss all)
    ∙ ap (λ p. map (path_at segs) ss ++ p ∷ []) (range_behind segs more begin end begins ends)
