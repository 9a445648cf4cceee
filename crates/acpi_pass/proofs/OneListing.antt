-- A table has one listing at most, and none where a site is refused.
use Rattle.std.proofs.Common.{◌≡◌, List, [], ◌∷◌, ◌++◌, Ok, Err, refl, sym, ap, subst, ◌∙◌, append_assoc, append-nil}
use Rattle.acpi_name.specs.Names.{Segment}
use Rattle.acpi_space.specs.Lookups.{union}
use Rattle.acpi_pass.specs.Listing.{Placement, object_of, objects_of, scope_within, IsJustified, IsListing, paths_of, IsFirstRefusal}
use Rattle.acpi_pass.specs.Namespace.{Namespace}
use Rattle.acpi_pass.specs.Placing.{RefusedAt, Placed, IsPlaced, placed_path}
use Rattle.acpi_pass.specs.Sites.{Site, Step}
use Rattle.acpi_pass.proofs.Places.{placed_once, placed_again}
use Rattle.acpi_pass.proofs.Unions.{union-nothing, union_assoc}

same_entry : (e f : Placement) → e.step ≡ f.step → e.scope ≡ f.scope → e.path ≡ f.path → e ≡ f
same_entry e f a b c = λ i. record { step = a i; scope = b i; path = c i }

-- the entries at one site are equal
first_same : (objects : Namespace) (before : List (List Segment)) (x : Site) (e f : Placement)
    → e.step ≡ x.step → e.scope ≡ scope_within before x.inside → IsPlaced e.step.effect objects e.scope e.step.name e.path
    → f.step ≡ x.step → f.scope ≡ scope_within before x.inside → IsPlaced f.step.effect objects f.scope f.step.name f.path → e ≡ f
first_same objects before x e f a b h c d k =
    let steps : e.step ≡ f.step = a ∙ sym c in
    let scopes : e.scope ≡ f.scope = b ∙ sym d in
    let there : IsPlaced f.step.effect objects f.scope f.step.name e.path =
    subst (λ (y : Step). IsPlaced y.effect objects f.scope y.name e.path) steps (subst (λ s. IsPlaced e.step.effect objects s e.step.name e.path) scopes h) in
    same_entry e f steps scopes (placed_once f.step.effect objects f.scope f.step.name e.path f.path there k)

pub justified_once : (objects : Namespace) (before : List (List Segment)) (xs : List Site) (es fs : List Placement) → IsJustified objects before xs es → IsJustified objects before xs fs
    → es ≡ fs
justified_once objects before [] [] [] h k = refl
justified_once objects before (x ∷ xs) (e ∷ es) (f ∷ fs) h k =
    let same = first_same objects before x e f h.0 h.1 h.2 k.0 k.1 k.2 in
    ap (λ g. g ∷ es) same ∙ ap (λ gs. f ∷ gs) (justified_once (union objects (object_of f)) (before ++ f.path ∷ []) xs es fs
    (subst (λ (g : Placement). IsJustified (union objects (object_of g)) (before ++ g.path ∷ []) xs es) same h.3) k.3)
justified_once objects before [] (e ∷ es) fs h k = absurd h
justified_once objects before [] [] (f ∷ fs) h k = absurd k
justified_once objects before (x ∷ xs) [] fs h k = absurd h
justified_once objects before (x ∷ xs) (e ∷ es) [] h k = absurd k

-- ---- refusals

abbrev at : List Segment → Placed
at p = Ok p

abbrev no : RefusedAt → Placed
no f = Err f

-- a listing of sites up to one and of what follows has a place for that one
refused_here : (objects : Namespace) (before : List (List Segment)) (earlier later : List Site) (x : Site) (es gs : List Placement) (f : RefusedAt)
    → IsJustified objects before earlier es → placed_path x.step.effect (union objects (objects_of es)) (scope_within (before ++ paths_of es) x.inside) x.step.name ≡ Err f
    → IsJustified objects before (earlier ++ x ∷ later) gs → ⊥
refused_here objects before [] later x [] [] f h r k = k
refused_here objects before [] later x [] (g ∷ gs) f h r k =
    let scope : scope_within (before ++ []) x.inside ≡ g.scope = ap (λ ps. scope_within ps x.inside) (append-nil before) ∙ sym k.1 in
    let there : placed_path x.step.effect objects g.scope x.step.name ≡ Ok g.path =
    subst (λ (y : Step). placed_path y.effect objects g.scope y.name ≡ Ok g.path) k.0 (placed_again g.step.effect objects g.scope g.step.name g.path k.2) in
    let here : no f ≡ at g.path =
    sym r ∙ ap (λ (m : Namespace). placed_path x.step.effect m (scope_within (before ++ []) x.inside) x.step.name) (union-nothing objects)
    ∙ ap (λ s. placed_path x.step.effect objects s x.step.name) scope ∙ there in
    cc
refused_here objects before [] later x (e ∷ es) gs f h r k = absurd h
refused_here objects before (y ∷ earlier) later x [] gs f h r k = absurd h
refused_here objects before (y ∷ earlier) later x (e ∷ es) [] f h r k = k
refused_here objects before (y ∷ earlier) later x (e ∷ es) (g ∷ gs) f h r k =
    let same = first_same objects before y g e k.0 k.1 k.2 h.0 h.1 h.2 in
    refused_here (union objects (object_of e)) (before ++ e.path ∷ []) earlier later x es gs f h.3
    (ap (λ (m : Namespace). placed_path x.step.effect m (scope_within ((before ++ e.path ∷ []) ++ paths_of es) x.inside) x.step.name) (union_assoc objects (object_of e) (objects_of es))
    ∙ ap (λ ps. placed_path x.step.effect (union objects (union (object_of e) (objects_of es))) (scope_within ps x.inside) x.step.name) (append_assoc before (e.path ∷ []) (paths_of es)) ∙ r)
    (subst (λ (g : Placement). IsJustified (union objects (object_of g)) (before ++ g.path ∷ []) (earlier ++ x ∷ later) gs) same k.3)

-- where a site is refused there is no listing
pub refused_alone : (objects : Namespace) (xs : List Site) (f : RefusedAt) (gs : List Placement) → IsFirstRefusal objects xs f → IsListing objects xs gs → ⊥
refused_alone objects xs f gs r k = refused_here objects [] r.earlier r.later r.site r.placements gs f r.listing r.refused (subst (λ xs. IsListing objects xs gs) r.splits k)
