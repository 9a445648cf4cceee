-- The definitions at small tables.
use Rattle.std.proofs.Common.{◌≡◌, ℕ, Bool, false, ◌||◌, List, [], ◌∷◌, is_some, Option, Some, inl, refl, sym, ap, subst, ◌∙◌, arith}
use Rattle.std.specs.FinMap as finite
use Rattle.std.specs.FinMap.{get-empty}
use Rattle.acpi_name.specs.Names.{Segment, NameParts, IsName}
use Rattle.acpi_name.specs.Paths.{path_cmp}
use Rattle.acpi_name.proofs.NameWritten.{name_written}
use Rattle.acpi_space.specs.Lookups.{nothing}
use Rattle.acpi_space.specs.Search.{answer, missed}
use Rattle.acpi_space.specs.Laws.{Among}
use Rattle.acpi_tree.specs.Terms.{TermTrees, call, no_terms, more}
use Rattle.acpi_declare.specs.Sites.{step, opens, expects}
use Rattle.acpi_declare.specs.Listing.{Placement}
use Rattle.acpi_declare.specs.Notes.{external_counts, scope_misses}
use Rattle.acpi_declare.specs.Predefined.{predefined}
use Rattle.acpi_body.specs.Arguments.{defined_with, args_at, expected_at, expected_place}
use Rattle.acpi_body.specs.Bodies.{read}
use Rattle.acpi_body.specs.Misses.{unless_found, awaited_place}
use Rattle.acpi_order.specs.Bodies.{Method, grammar_of, IsReading}
use Rattle.acpi_order.specs.Misses.{IsBodyMiss, IsAwaiting}

abbrev sb : Segment
sb = 95 ∷ 83 ∷ 66 ∷ 95 ∷ []

abbrev pr : Segment
pr = 95 ∷ 80 ∷ 82 ∷ 95 ∷ []

abbrev mth2 : Segment
mth2 = 77 ∷ 84 ∷ 72 ∷ 50 ∷ []

abbrev caller_name : Segment
caller_name = 67 ∷ 65 ∷ 76 ∷ 76 ∷ []

abbrev plain : Segment → NameParts
plain s = record { rooted = false; parents = 0; segments = s ∷ [] }

-- Scope (_SB_) { Scope (_PR_) {} }: the inner Scope finds \_PR_ and misses \_SB_._PR_
abbrev scopes : List Placement
scopes =
    record { step = step (plain sb) opens; scope = []; path = sb ∷ [] }
    ∷ record { step = step (plain pr) opens; scope = sb ∷ []; path = pr ∷ [] } ∷ []

scope_missed : Among (scope_misses predefined scopes) (sb ∷ pr ∷ [])
scope_missed = inl refl

-- External (MTH2, 8, 0), and the method \CALL whose code is the name MTH2
abbrev externals : List Placement
externals = record { step = step (plain mth2) (expects 0); scope = []; path = [] } ∷ []

abbrev caller : Method
caller = record { path = caller_name ∷ []; code = mth2; counts = external_counts externals }

is_name : IsName (plain mth2)
is_name = record { are_segments = refl; few_segments = omega arith; few_parents = omega arith; no_parents = λ e. refl }

-- where nothing is defined
nowhere : defined_with nothing finite.empty ≡ (λ (q : List Segment). false)
nowhere = λ i q. ap (λ (o : Option (Unit {0})). is_some o || false) (get-empty path_cmp q) i

-- how many values follow MTH2, by what is defined
abbrev values_by : (List Segment → Bool) → ℕ
values_by d = args_at nothing finite.empty (expected_at caller.counts (expected_place caller.counts caller.path (plain mth2))) (answer d caller.path (plain mth2))

no_values : (grammar_of nothing caller finite.empty).args (plain mth2) ≡ Some 0
no_values = ap (λ (d : List Segment → Bool). Some (values_by d)) nowhere

abbrev statement : TermTrees
statement = more (call (plain mth2) no_terms) no_terms

reading : IsReading 1 nothing caller statement
reading = record { spelled = (mth2, [], (refl, (0, mth2, [], no_values, (name_written (plain mth2) is_name, refl), refl, refl)), refl, refl); within = omega arith }

awaited : awaited_place nothing caller.counts caller.path finite.empty (plain mth2) ≡ Some (mth2 ∷ [])
awaited = ap (λ (d : List Segment → Bool). unless_found (answer d caller.path (plain mth2)) (expected_place caller.counts caller.path (plain mth2))) nowhere

-- its body awaits \MTH2 ..
awaits_there : IsAwaiting 1 nothing caller (mth2 ∷ []) 0
awaits_there = (read statement, reading, record { locals = finite.empty; name = plain mth2; searched = inl refl; awaits = awaited; expects = refl })

different : Some (mth2 ∷ []) ≡ Some (caller_name ∷ mth2 ∷ []) → ⊥
different e = cc

-- .. and misses \CALL.MTH2
misses_inside : IsBodyMiss 1 nothing caller (caller_name ∷ mth2 ∷ [])
misses_inside = (
  read statement,
  reading,
  record {
    locals = finite.empty;
    name = plain mth2;
    searched = inl refl;
    misses = subst (λ (d : List Segment → Bool). Among (missed d caller.path (plain mth2)) (caller_name ∷ mth2 ∷ [])) (sym nowhere) (inl refl);
    firm = λ e. different (sym awaited ∙ e);
  },
)
