-- The walk from a scope to the root that looks a segment up at each step.
use Rattle.std.proofs.Common.{◌≡◌, ℕ, ◌≤◌, suc, Bool, true, false, List, [], ◌∷◌, ◌++◌, find, length, Option, Some, None, is_some, not, Bor, true≢false, refl, sym, ap, ◌∙◌, arith, length-append}
use Rattle.std.specs.Option.{option_map, option_copied}
use Rattle.std.specs.List.{last_or}
use Rattle.acpi_name.specs.Paths.{parent_of}
use Rattle.acpi_name.proofs.Parents.{parent_of-push, parent_of_last}
use Rattle.acpi_space.specs.Search.{beginnings}
use Rattle.acpi_space.proofs.Beginnings.{found_whole, found_shorter, found_nowhere}

abbrev nearest_below : {A : Type 0} → (List A → Bool) → List A → A → Option (List A)
nearest_below defined scope g = find (λ q. defined (q ++ g ∷ [])) (beginnings scope)

-- A step of the walk from the inner end. `path` had the segment pushed, was looked up, and had it popped again.
pub walk_found : {A : Type 0} (defined : List A → Bool) (g : A) (path pushed popped scope : List A) (found : Bool) (n : ℕ)
    → nearest_below defined path g ≡ nearest_below defined scope g
    → pushed ≡ path ++ g ∷ [] → popped ≡ parent_of pushed → found ≡ defined pushed → found ≡ true → n ≡ length popped
    → Some n ≡ option_map length (nearest_below defined scope g)
walk_found defined g path pushed popped scope found n inv e f d t l =
    let same : popped ≡ path = f ∙ ap parent_of e ∙ parent_of-push path g in
    let passes : defined (path ++ g ∷ []) ≡ true = ap defined (sym e) ∙ sym d ∙ t in
    ap Some (l ∙ ap length same) ∙ ap (option_map length) (sym (found_whole (λ q. defined (q ++ g ∷ [])) path passes) ∙ inv)

walk_on : {A : Type 0} (defined : List A → Bool) (g x : A) (path pushed popped shorter scope : List A) (found : Bool)
    → nearest_below defined path g ≡ nearest_below defined scope g
    → pushed ≡ path ++ g ∷ [] → popped ≡ parent_of pushed → found ≡ defined pushed → found ≡ false
    → last_or None popped ≡ Some x → shorter ≡ parent_of popped
    → nearest_below defined shorter g ≡ nearest_below defined scope g
walk_on defined g x path pushed popped shorter scope found inv e f d t s m =
    let same : popped ≡ path = f ∙ ap parent_of e ∙ parent_of-push path g in
    let at : path ≡ shorter ++ x ∷ [] = sym same ∙ parent_of_last popped x s ∙ ap (λ l. l ++ x ∷ []) (sym m) in
    let fails : defined ((shorter ++ x ∷ []) ++ g ∷ []) ≡ false = ap (λ l. defined (l ++ g ∷ [])) (sym at) ∙ ap defined (sym e) ∙ sym d ∙ t in
    sym (found_shorter (λ q. defined (q ++ g ∷ [])) shorter x fails) ∙ ap (λ l. nearest_below defined l g) (sym at) ∙ inv

some_last : {B : Type 0} (x : B) (l : List B) → last_or (Some x) l ≡ None → ⊥
some_last x [] e = cc
some_last x (y ∷ l) e = some_last y l e

pub no_last : {B : Type 0} (l : List B) → last_or None l ≡ None → l ≡ []
no_last [] e = refl
no_last (x ∷ l) e = absurd (some_last x l e)

walk_ended : {A : Type 0} (defined : List A → Bool) (g : A) (path pushed popped scope : List A) (found : Bool)
    → nearest_below defined path g ≡ nearest_below defined scope g
    → pushed ≡ path ++ g ∷ [] → popped ≡ parent_of pushed → found ≡ defined pushed → found ≡ false
    → last_or None popped ≡ None
    → None ≡ option_map length (nearest_below defined scope g)
walk_ended defined g path pushed popped scope found inv e f d t s =
    let same : popped ≡ path = f ∙ ap parent_of e ∙ parent_of-push path g in
    let nil : path ≡ [] = sym same ∙ no_last popped s in
    let fails : defined ([] ++ g ∷ []) ≡ false = ap (λ l. defined (l ++ g ∷ [])) (sym nil) ∙ ap defined (sym e) ∙ sym d ∙ t in
    ap (option_map length) (sym (found_nowhere (λ q. defined (q ++ g ∷ [])) fails) ∙ ap (λ l. nearest_below defined l g) (sym nil) ∙ inv)

is_some-copied : {X : Type 0} (o : Option (Bor X)) → is_some (option_copied o) ≡ is_some o
is_some-copied None = refl
is_some-copied (Some x) = refl

pub found_by_get : {X : Type 0} (o : Option (Bor X)) (m : Option X) (found : Bool) → found ≡ is_some o → option_copied o ≡ m → found ≡ is_some m
found_by_get o m found e f = e ∙ sym (is_some-copied o) ∙ ap is_some f

pub walk_on_popped : {A : Type 0} (defined : List A → Bool) (g : A) (o : Option A) (none : Bool) (path pushed popped shorter scope : List A) (found : Bool)
    → nearest_below defined path g ≡ nearest_below defined scope g
    → pushed ≡ path ++ g ∷ [] → popped ≡ parent_of pushed → found ≡ defined pushed → found ≡ false
    → is_some o ≡ not none → none ≡ false → o ≡ last_or None popped → shorter ≡ parent_of popped
    → nearest_below defined shorter g ≡ nearest_below defined scope g
walk_on_popped defined g None none path pushed popped shorter scope found inv e f d t n nf l m = absurd (true≢false (sym (n ∙ ap not nf)))
walk_on_popped defined g (Some x) none path pushed popped shorter scope found inv e f d t n nf l m = walk_on defined g x path pushed popped shorter scope found inv e f d t (sym l) m

pub walk_ended_popped : {A : Type 0} (defined : List A → Bool) (g : A) (o : Option A) (none : Bool) (path pushed popped scope : List A) (found : Bool)
    → nearest_below defined path g ≡ nearest_below defined scope g
    → pushed ≡ path ++ g ∷ [] → popped ≡ parent_of pushed → found ≡ defined pushed → found ≡ false
    → is_some o ≡ not none → none ≡ true → o ≡ last_or None popped
    → None ≡ option_map length (nearest_below defined scope g)
walk_ended_popped defined g None none path pushed popped scope found inv e f d t n nt l = walk_ended defined g path pushed popped scope found inv e f d t (sym l)
walk_ended_popped defined g (Some x) none path pushed popped scope found inv e f d t n nt l = absurd (true≢false (n ∙ ap not nt))

pub walk_shrinks : {A : Type 0} (g : A) (o : Option A) (none : Bool) (path pushed popped shorter : List A)
    → pushed ≡ path ++ g ∷ [] → popped ≡ parent_of pushed
    → is_some o ≡ not none → none ≡ false → o ≡ last_or None popped → shorter ≡ parent_of popped → suc (length shorter) ≤ length path
walk_shrinks g None none path pushed popped shorter e f n nf l m = absurd (true≢false (sym (n ∙ ap not nf)))
walk_shrinks g (Some x) none path pushed popped shorter e f n nf l m =
    let same : popped ≡ path = f ∙ ap parent_of e ∙ parent_of-push path g in
    let at : path ≡ shorter ++ x ∷ [] = sym same ∙ parent_of_last popped x (sym l) ∙ ap (λ l. l ++ x ∷ []) (sym m) in
    omega (arith, ap length at, length-append shorter (x ∷ []))
