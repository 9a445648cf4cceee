-- The declaration pass over one table, term after term.
use Rattle.std.specs.Prelude.{List, [], ◌∷◌, ◌++◌, Result, Ok, Err}
use Rattle.acpi_name.specs.Names.{Segment}
use Rattle.acpi_space.specs.Lookups.{nothing, union}
use Rattle.acpi_tree.specs.Tree.{ItemTree, scope, ItemTrees, no_items, item}
use Rattle.acpi_pass.specs.Namespace.{Namespace}
use Rattle.acpi_pass.specs.Sites.{Step, step, kind_object, scope_effect, own_steps}
use Rattle.acpi_pass.specs.Placing.{RefusedAt, placed_path}
use Rattle.acpi_pass.specs.Listing.{Placement, object_of}
use Rattle.acpi_pass.specs.Links.{PendingLink, pending_by}
use Rattle.acpi_pass.specs.Notes.{counts_by, methods_by, missed_by, Notes}

abbrev pub no_notes : Notes
no_notes = record { counts = nothing; methods = []; missed = [] }

-- what one placement over those objects notes
abbrev pub note_of : Namespace → Placement → Notes
note_of objects e = record {
  counts = counts_by e.step.effect e.scope e.step.name;
  methods = methods_by e.step.effect e.path;
  missed = missed_by e.step.effect objects e.scope e.step.name;
}

-- notes, and later ones behind them
abbrev pub all_notes : Notes → Notes → Notes
all_notes n m =
    record {
      counts = union n.counts m.counts;
      methods = n.methods ++ m.methods;
      missed = n.missed ++ m.missed;
    }

-- what the pass has so far
pub record Pass : Type 0 where
  pub objects : Namespace
  pub links : List PendingLink
  pub notes : Notes

-- what it has after one more placement, and after several
abbrev pub after : Pass → Placement → Pass
after t e = record {
  objects = union t.objects (object_of e);
  links = t.links ++ pending_by e.step.effect e.scope e.path;
  notes = all_notes t.notes (note_of t.objects e);
}

abbrev pub after_all : Pass → List Placement → Pass
after_all t [] = t
after_all t (e ∷ es) = after_all (after t e) es

abbrev pub Passing : Type 0
Passing = Result Pass RefusedAt

infixl 10 ◌>>=◌
abbrev pub ◌>>=◌ : {A B : Type 0} → Result A RefusedAt → (A → Result B RefusedAt)
    → Result B RefusedAt
(Ok x) >>= f = f x
(Err e) >>= f = Err e

abbrev pub placement : List Segment → Step → List Segment → Placement
placement s x p = record { step = x; scope = s; path = p }

-- one step in a scope
abbrev pub take_step : Pass → List Segment → Step → Passing
take_step t s x = placed_path x.effect t.objects s x.name >>= λ p. Ok (after t (placement s x p))

abbrev pub take_steps : Pass → List Segment → List Step → Passing
take_steps t s [] = Ok t
take_steps t s (x ∷ xs) = take_step t s x >>= λ u. take_steps u s xs

-- a step, and then what stands inside it
abbrev pub enter : Pass → List Segment → Step → (Pass → List Segment → Passing) → Passing
enter t s x inner =
    placed_path x.effect t.objects s x.name >>= λ p. inner (after t (placement s x p)) p

abbrev mutual
  pub pass_item : Pass → List Segment → ItemTree → Passing
  pass_item t s (scope kind n is) =
      enter t s (step n (scope_effect (kind_object kind))) (λ u p. pass_items u p is)
  pass_item t s i = take_steps t s (own_steps i)

  pub pass_items : Pass → List Segment → ItemTrees → Passing
  pass_items t s no_items = Ok t
  pass_items t s (item i is) = pass_item t s i >>= λ u. pass_items u s is
