-- Steps one after another.
use Rattle.std.proofs.Common.{◌≡◌, List, [], ◌∷◌, ◌++◌, Ok, Err, refl, sym, ap, ◌∙◌}
use Rattle.acpi_name.specs.Names.{Segment}
use Rattle.acpi_tree.specs.Tree.{ExternalParts}
use Rattle.acpi_pass.specs.Notes.{Notes}
use Rattle.acpi_pass.specs.Placing.{RefusedAt}
use Rattle.acpi_pass.specs.Sites.{Step, external_step, external_steps}
use Rattle.acpi_pass.specs.steps.Pass.{Pass, Passing, ◌>>=◌, take_step, take_steps}
use Rattle.acpi_pass.specs.steps.Outcomes.{IsPassErrorOf}
use Rattle.acpi_pass.specs.steps.View.{count_said, counts_said, with_counts}
use Rattle.acpi_pass.proofs.PassSteps.{pass, passed, expected}
use Rattle.acpi_pass.proofs.Unions.{union-nothing, union_assoc}
use Rattle.acpi_pass.specs.declared.refusal.PassError.{PassError}
use Rattle.acpi_pass.specs.declared.refusal.PassError.TheVariants.{Refused, Memory}

regroup : (r : Passing) (f h : Pass → Passing) → (r >>= f) >>= h ≡ (r >>= λ u. f u >>= h)
regroup (Ok t) f h = refl
regroup (Err e) f h = refl

same_then : (r : Passing) (f h : Pass → Passing) → ((t : Pass) → f t ≡ h t) → (r >>= f) ≡ (r >>= h)
same_then (Ok t) f h e = e t
same_then (Err x) f h e = refl

pub take_steps_append : (t : Pass) (s : List Segment) (xs ys : List Step) → take_steps t s (xs ++ ys) ≡ (take_steps t s xs >>= λ u. take_steps u s ys)
take_steps_append t s [] ys = refl
take_steps_append t s (x ∷ xs) ys =
    same_then (take_step t s x) _ _ (λ u. take_steps_append u s xs ys) ∙ sym (regroup (take_step t s x) (λ u. take_steps u s xs) (λ u. take_steps u s ys))

-- the first steps are taken, and so the rest is what is left
pub take_steps_taken : (t u : Pass) (s : List Segment) (xs ys : List Step) → take_steps t s xs ≡ Ok u → take_steps t s (xs ++ ys) ≡ take_steps u s ys
take_steps_taken t u s xs ys e = take_steps_append t s xs ys ∙ ap (λ r. r >>= λ v. take_steps v s ys) e

-- .. or refused, and so all is
pub take_steps_refused : (t : Pass) (s : List Segment) (f : RefusedAt) (xs ys : List Step) → take_steps t s xs ≡ Err f → take_steps t s (xs ++ ys) ≡ Err f
take_steps_refused t s f xs ys e = take_steps_append t s xs ys ∙ ap (λ r. r >>= λ v. take_steps v s ys) e

-- the refusal of the first steps left is that of all the steps
pub told_on : (f : PassError) (t first : Pass) (s : List Segment) (xs ys all : List Step) → take_steps t s (xs ++ ys) ≡ take_steps first s all
    → IsPassErrorOf f (take_steps t s xs) → IsPassErrorOf f (take_steps first s all)
told_on Memory t first s xs ys all e h = tt
told_on (Refused r p) t first s xs ys all e h = sym e ∙ take_steps_refused t s (r, p) xs ys h

-- ---- the Externals of a block

all_expected : (t : Pass) (s : List Segment) (xs : List ExternalParts)
    → take_steps t s (external_steps xs) ≡ passed (pass t.objects t.links (with_counts t.notes (counts_said s xs)))
all_expected t s [] = λ i. passed (pass t.objects t.links (record { counts = sym (union-nothing t.notes.counts) i; methods = t.notes.methods; missed = t.notes.missed }))
all_expected t s (x ∷ xs) =
    let first = with_counts t.notes (count_said s x) in
    take_steps_taken t (pass t.objects t.links first) s (external_step x) (external_steps xs) (expected t first s x refl)
    ∙ all_expected (pass t.objects t.links first) s xs
    ∙ λ i. passed (pass t.objects t.links (record { counts = union_assoc t.notes.counts (count_said s x) (counts_said s xs) i; methods = t.notes.methods; missed = t.notes.missed }))

-- they note the counts that they say
pub expected_all : (t : Pass) (notes : Notes) (s : List Segment) (xs : List ExternalParts) → notes ≡ with_counts t.notes (counts_said s xs)
    → take_steps t s (external_steps xs) ≡ passed (pass t.objects t.links notes)
expected_all t notes s xs noted = all_expected t s xs ∙ ap (λ m. passed (pass t.objects t.links m)) (sym noted)

-- one External after another
pub said_more : (n m : Notes) (s : List Segment) (x : ExternalParts) (xs ys : List ExternalParts) → ys ≡ x ∷ xs → m ≡ with_counts n (count_said s x)
    → with_counts m (counts_said s xs) ≡ with_counts n (counts_said s ys)
said_more n m s x xs ys e noted =
    ap (λ (k : Notes). with_counts k (counts_said s xs)) noted
    ∙ (λ i. record { counts = union_assoc n.counts (count_said s x) (counts_said s xs) i; methods = n.methods; missed = n.missed })
    ∙ ap (λ l. with_counts n (counts_said s l)) (sym e)

pub said_none : (n : Notes) (s : List Segment) (xs : List ExternalParts) → xs ≡ [] → n ≡ with_counts n (counts_said s xs)
said_none n s xs e = (λ i. record { counts = sym (union-nothing n.counts) i; methods = n.methods; missed = n.missed }) ∙ ap (λ l. with_counts n (counts_said s l)) (sym e)
