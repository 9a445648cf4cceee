-- The body of a method as a function of the namespace.
use Rattle.std.proofs.Common.{◌≡◌, ℕ, List, [], ◌∷◌, map, ◌⊎◌, inl, inr, refl, sym, ap, ◌∙◌}
use Rattle.std.specs.FinMap as finite
use Rattle.std.specs.List.{AllByRecursion}
use Rattle.acpi_name.specs.Names.{Segment}
use Rattle.acpi_space.specs.Lookups.{Lookup, nothing, singleton, union}
use Rattle.acpi_tree.specs.Terms.{TermTrees}
use Rattle.acpi_declare.specs.Namespace.{Namespace}
use Rattle.acpi_body.specs.Arguments.{BodyGrammar}
use Rattle.acpi_body.specs.Bodies.{BodyTree, read, unread}
use Rattle.acpi_body.specs.Laws.{AgreeAt}
use Rattle.acpi_body.specs.Loads.{have_load, KeepsLoads}
use Rattle.acpi_body.specs.Searches.{all_searches, IsSpelledIn}
use Rattle.acpi_body.specs.Statements.{ReadsBody}
use Rattle.acpi_body.proofs.Kept.{kept_statements, spelled_statements}
use Rattle.acpi_body.proofs.ReadBodies.{one_reading, read_or_none}
use Rattle.acpi_order.specs.Bodies.{Method, grammar_of, IsReading, IsBody, AreBodies, bodies_at}

-- ---- readings

-- a reading stays one where the names that it searches count the same
pub kept_reads : (depth : ℕ) (a b : BodyGrammar) (s : List Segment) (bytes : List ℕ) (ts : TermTrees)
    → KeepsLoads a b (have_load ts) → AllByRecursion (AgreeAt a b) (all_searches s finite.empty ts) → ReadsBody a s depth bytes ts → ReadsBody b s depth bytes ts
kept_reads depth a b s bytes ts keep same h = record { spelled = kept_statements a b s finite.empty ts bytes keep same h.spelled; within = h.within }

-- the names that a reading searches are spelled in its bytes
pub spelled_reads : (depth : ℕ) (a : BodyGrammar) (s : List Segment) (bytes : List ℕ) (ts : TermTrees)
    → ReadsBody a s depth bytes ts → AllByRecursion (λ e. IsSpelledIn bytes e.1) (all_searches s finite.empty ts)
spelled_reads depth a s bytes ts h = spelled_statements a s finite.empty ts bytes h.spelled

abbrev pub HasNoReading : ℕ → Namespace → Method → Type 0
HasNoReading depth objects m = (ts : TermTrees) → IsReading depth objects m ts → ⊥

pub reading_or_none : (depth : ℕ) (objects : Namespace) (m : Method) → ((ts : TermTrees) × IsReading depth objects m ts) ⊎ HasNoReading depth objects m
reading_or_none depth objects m = read_or_none (grammar_of objects m) m.path depth m.code

pub one_reading_there : (depth : ℕ) (objects : Namespace) (m : Method) (ts us : TermTrees) → IsReading depth objects m ts → IsReading depth objects m us → ts ≡ us
one_reading_there depth objects m ts us h k = one_reading (grammar_of objects m) m.path depth m.code ts us h k

-- ---- one body

abbrev body_by : (depth : ℕ) (objects : Namespace) (m : Method) → ((ts : TermTrees) × IsReading depth objects m ts) ⊎ HasNoReading depth objects m → BodyTree
body_by depth objects m (inl r) = read r.0
body_by depth objects m (inr none) = unread m.code

abbrev pub body_of : ℕ → Namespace → Method → BodyTree
body_of depth objects m = body_by depth objects m (reading_or_none depth objects m)

module _ (depth : ℕ) (objects : Namespace) (m : Method) where
  by_is : (r : ((ts : TermTrees) × IsReading depth objects m ts) ⊎ HasNoReading depth objects m) → IsBody depth objects m (body_by depth objects m r)
  by_is (inl r) = r.1
  by_is (inr none) = (refl, none)

  pub body_is : IsBody depth objects m (body_of depth objects m)
  body_is = by_is (reading_or_none depth objects m)

  pub one_body_there : (v w : BodyTree) → IsBody depth objects m v → IsBody depth objects m w → v ≡ w
  one_body_there (read ts) (read us) h k = ap (λ (ts : TermTrees). read ts) (one_reading_there depth objects m ts us h k)
  one_body_there (read ts) (unread b) h k = absurd (k.1 ts h)
  one_body_there (unread b) (read us) h k = absurd (h.1 us k)
  one_body_there (unread b) (unread c) h k = ap (λ (x : List ℕ). unread x) (h.0 ∙ sym k.0)

-- ---- the bodies of several methods

abbrev pub bodies_of : ℕ → Namespace → List Method → Lookup BodyTree
bodies_of depth objects [] = nothing
bodies_of depth objects (m ∷ ms) = union (bodies_of depth objects ms) (singleton m.path (body_of depth objects m))

module _ (depth : ℕ) (objects : Namespace) where
  pub are_bodies : (ms : List Method) → AreBodies depth objects ms (map (body_of depth objects) ms)
  are_bodies [] = tt
  are_bodies (m ∷ ms) = (body_is depth objects m, are_bodies ms)

  pub bodies_are : (ms : List Method) (bs : List BodyTree) → AreBodies depth objects ms bs → bodies_at ms bs ≡ bodies_of depth objects ms
  bodies_are [] [] h = refl
  bodies_are [] (b ∷ bs) h = absurd h
  bodies_are (m ∷ ms) [] h = absurd h
  bodies_are (m ∷ ms) (b ∷ bs) h =
      ap (λ (v : BodyTree). union (bodies_at ms bs) (singleton m.path v)) (one_body_there depth objects m b (body_of depth objects m) h.0 (body_is depth objects m))
      ∙ ap (λ (l : Lookup BodyTree). union l (singleton m.path (body_of depth objects m))) (bodies_are ms bs h.1)
