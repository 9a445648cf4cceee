-- One step of the pass, from what its parts give.
use Rattle.std.proofs.Common.{◌≡◌, ◌≢◌, ◌==◌, ℕ, List, [], ◌∷◌, ◌++◌, append_assoc, append-nil, Bool, true, false, cond, Option, Some, None, Ok, refl, sym, ap, ◌∙◌}
use Rattle.acpi_name.specs.Names.{Segment, NameParts}
use Rattle.acpi_name.specs.Paths.{place_of}
use Rattle.acpi_space.specs.Lookups.{is_defined_in, nothing, singleton, union}
use Rattle.acpi_space.specs.Search.{missed}
use Rattle.acpi_tree.specs.Objects.{ObjectTree}
use Rattle.acpi_tree.specs.Tree.{ExternalParts}
use Rattle.acpi_pass.specs.Pending.{pending_for}
use Rattle.acpi_pass.specs.Links.{PendingLink}
use Rattle.acpi_pass.specs.Namespace.{Namespace}
use Rattle.acpi_pass.specs.Notes.{Method, Notes, count_at}
use Rattle.acpi_pass.specs.Placing.{declared_path}
use Rattle.acpi_pass.specs.Sites.{step, declares_alone, declares, opens, expects, external_step}
use Rattle.acpi_pass.specs.steps.Pass.{Pass, Passing, no_notes, note_of, all_notes, after, placement, ◌>>=◌, take_step, take_steps}
use Rattle.acpi_pass.specs.steps.View.{count_said, with_counts, with_method, with_missed}
use Rattle.acpi_pass.proofs.Unions.{union-nothing, union_assoc}

-- ---- notes

pub nothing_joined : (n : Notes) → all_notes n no_notes ≡ n
nothing_joined n = λ i. record { counts = union-nothing n.counts i; methods = append-nil n.methods i; missed = append-nil n.missed i }

pub joined_assoc : (a b c : Notes) → all_notes (all_notes a b) c ≡ all_notes a (all_notes b c)
joined_assoc a b c = λ i. record { counts = union_assoc a.counts b.counts c.counts i; methods = append_assoc a.methods b.methods c.methods i; missed = append_assoc a.missed b.missed c.missed i }

-- ---- one step

abbrev pub passed : Pass → Passing
passed t = Ok t

abbrev pub pass : Namespace → List PendingLink → Notes → Pass
pass objects links notes = record { objects = objects; links = links; notes = notes }

-- a step gives what its three parts give
stepped : (t : Pass) (objects : Namespace) (links : List PendingLink) (notes : Notes) (s p : List Segment) (n : NameParts) (o : ObjectTree) (names : List NameParts) (code : Option (List ℕ))
    → declared_path t.objects s n ≡ Ok p
    → after t (placement s (step n (declares o names code)) p) ≡ pass objects links notes
    → take_step t s (step n (declares o names code)) ≡ Ok (pass objects links notes)
stepped t objects links notes s p n o names code placed e =
    ap (λ r. r >>= λ p. Ok (after t (placement s (step n (declares o names code)) p))) placed ∙ ap passed e

-- a declaration inside which others stand
pub declared_scope : (t : Pass) (objects : Namespace) (links : List PendingLink) (notes : Notes) (s p : List Segment) (n : NameParts) (o : ObjectTree)
    → objects ≡ union t.objects (singleton p o) → links ≡ t.links → notes ≡ t.notes
    → pass objects links notes ≡ after t (placement s (step n (declares_alone o)) p)
declared_scope t objects links notes s p n o laid same_links same_notes = λ i. record {
  objects = laid i;
  links = (same_links ∙ sym (append-nil t.links)) i;
  notes = (same_notes ∙ sym (nothing_joined t.notes)) i;
}

-- a declaration without links and code changes the objects alone
pub declared_plainly : (t : Pass) (objects : Namespace) (links : List PendingLink) (notes : Notes) (s p : List Segment) (n : NameParts) (o : ObjectTree)
    → declared_path t.objects s n ≡ Ok p → objects ≡ union t.objects (singleton p o) → links ≡ t.links → notes ≡ t.notes
    → take_step t s (step n (declares_alone o)) ≡ Ok (pass objects links notes)
declared_plainly t objects links notes s p n o placed laid same_links same_notes =
    stepped t objects links notes s p n o [] None placed (sym (declared_scope t objects links notes s p n o laid same_links same_notes))

-- a declaration with links adds one path whose links are pending
pub declared_linked : (t : Pass) (objects : Namespace) (links : List PendingLink) (notes : Notes) (s p : List Segment) (n : NameParts) (o : ObjectTree) (names : List NameParts)
    → names ≢ [] → declared_path t.objects s n ≡ Ok p → objects ≡ union t.objects (singleton p o) → links ≡ t.links ++ pending_for p s names ∷ [] → notes ≡ t.notes
    → take_step t s (step n (declares o names None)) ≡ Ok (pass objects links notes)
declared_linked t objects links notes s p n o [] some placed laid linked same_notes = absurd (some refl)
declared_linked t objects links notes s p n o (m ∷ ms) some placed laid linked same_notes =
    stepped t objects links notes s p n o (m ∷ ms) None placed (λ i. record {
      objects = sym laid i;
      links = sym linked i;
      notes = (nothing_joined t.notes ∙ sym same_notes) i;
    })

-- a method is noted
pub declared_method : (t : Pass) (objects : Namespace) (links : List PendingLink) (notes : Notes) (s p : List Segment) (n : NameParts) (o : ObjectTree) (code : List ℕ)
    → declared_path t.objects s n ≡ Ok p → objects ≡ union t.objects (singleton p o) → links ≡ t.links → notes ≡ with_method t.notes (record { path = p; code = code })
    → take_step t s (step n (declares o [] (Some code))) ≡ Ok (pass objects links notes)
declared_method t objects links notes s p n o code placed laid same_links noted =
    stepped t objects links notes s p n o [] (Some code) placed (λ i. record {
      objects = sym laid i;
      links = (append-nil t.links ∙ sym same_links) i;
      notes = (with_one ∙ sym noted) i;
    })
  where
    one : Method
    one = record { path = p; code = code }

    with_one : all_notes t.notes (note_of t.objects (placement s (step n (declares o [] (Some code))) p)) ≡ with_method t.notes one
    with_one = λ i. record { counts = union-nothing t.notes.counts i; methods = t.notes.methods ++ one ∷ []; missed = append-nil t.notes.missed i }

-- a Scope term notes what its search missed
pub opened_scope : (t : Pass) (objects : Namespace) (links : List PendingLink) (notes : Notes) (s p : List Segment) (n : NameParts)
    → objects ≡ t.objects → links ≡ t.links → notes ≡ with_missed t.notes (missed (is_defined_in t.objects) s n)
    → pass objects links notes ≡ after t (placement s (step n opens) p)
opened_scope t objects links notes s p n same_objects same_links noted = λ i. record {
  objects = (same_objects ∙ sym (union-nothing t.objects)) i;
  links = (same_links ∙ sym (append-nil t.links)) i;
  notes = (noted ∙ with_misses) i;
}
  where
    with_misses : with_missed t.notes (missed (is_defined_in t.objects) s n) ≡ all_notes t.notes (note_of t.objects (placement s (step n opens) p))
    with_misses = λ i. record { counts = sym (union-nothing t.notes.counts) i; methods = sym (append-nil t.notes.methods) i; missed = t.notes.missed ++ missed (is_defined_in t.objects) s n }

-- ---- Externals

counted : (t : Pass) (notes : Notes) (s : List Segment) (n : NameParts) (k : ℕ)
    → union t.notes.counts (count_at k n.segments (place_of s n)) ≡ notes.counts → t.notes.methods ≡ notes.methods → t.notes.missed ≡ notes.missed
    → take_steps t s (step n (expects k) ∷ []) ≡ passed (pass t.objects t.links notes)
counted t notes s n k counts methods missed = λ i. passed (record {
  objects = union-nothing t.objects i;
  links = append-nil t.links i;
  notes = record { counts = counts i; methods = (append-nil t.notes.methods ∙ methods) i; missed = (append-nil t.notes.missed ∙ missed) i };
})

-- an External notes the count that it says
pub expected : (t : Pass) (notes : Notes) (s : List Segment) (x : ExternalParts) → notes ≡ with_counts t.notes (count_said s x)
    → take_steps t s (external_step x) ≡ passed (pass t.objects t.links notes)
expected t notes s x noted = by (x.kind == 8) ∙ ap (λ m. passed (pass t.objects t.links m)) (sym noted)
  where
    by : (b : Bool) → take_steps t s (cond b (step x.name (expects x.args) ∷ []) [])
        ≡ passed (pass t.objects t.links (with_counts t.notes (cond b (count_at x.args x.name.segments (place_of s x.name)) nothing)))
    by true = counted t (with_counts t.notes (count_at x.args x.name.segments (place_of s x.name))) s x.name x.args refl refl refl
    by false = λ i. passed (pass t.objects t.links (record { counts = sym (union-nothing t.notes.counts) i; methods = t.notes.methods; missed = t.notes.missed }))

-- ---- links of a field list

-- no links more
pub with_nothing : (t : Pass) (more : List PendingLink) → more ≡ [] → pass t.objects (t.links ++ more) t.notes ≡ t
with_nothing t more none = λ i. record { objects = t.objects; links = (ap (λ l. t.links ++ l) none ∙ append-nil t.links) i; notes = t.notes }

pub with_links : (t : Pass) (links links' : List PendingLink) → links ≡ links' → pass t.objects links t.notes ≡ pass t.objects links' t.notes
with_links t links links' e = ap (λ l. pass t.objects l t.notes) e
