-- Links and bodies as things that placements give.
use Rattle.std.proofs.Common.{◌≡◌, ◌≢◌, ℕ, List, [], ◌∷◌, ◌++◌, map, Some, None, inl, inr, refl, ap, subst, ◌∙◌}
use Rattle.std.specs.Option.{option_or}
use Rattle.acpi_name.specs.Names.{Segment, NameParts}
use Rattle.acpi_space.specs.Laws.{Among}
use Rattle.acpi_tree.specs.Objects.{ObjectTree}
use Rattle.acpi_declare.specs.Namespace.{Namespace}
use Rattle.acpi_space.specs.Lookups.{Lookup, singleton}
use Rattle.acpi_declare.specs.Notes.{external_counts, methods_by, methods}
use Rattle.acpi_declare.specs.Notes as notes
use Rattle.acpi_order.specs.Bodies.{Method, with_counts, all_methods}
use Rattle.acpi_declare.specs.Sites.{Effect, declares, opens, expects}
use Rattle.acpi_declare.specs.Placing.{IsPlaced}
use Rattle.acpi_declare.specs.Listing.{Placement, object_by}
use Rattle.acpi_declare.specs.Links.{Links, links_of, answers, one_link, all_pending, PendingLink, pending_by, pending_links}
use Rattle.acpi_order.specs.Misses.{Listing}
use Rattle.acpi_order.proofs.Listings.{path_itself}
use Rattle.acpi_order.proofs.ReadBodies.{body_of, bodies_of}
use Rattle.acpi_order.proofs.Items.{AreDistinct, Source, values_of, items_in, items, all_items}

-- ---- links

abbrev pub link_at : PendingLink → List Segment
link_at w = w.path

abbrev pub links_from : Lookup ℕ → Placement → List PendingLink
links_from c e = pending_by e.step.effect e.scope e.path

pub link_frees : (d : Effect) (s p : List Segment) (n : NameParts) (w : PendingLink) (N : Namespace) → Among (pending_by d s p) w → IsPlaced d N s n p → N w.path ≡ None
link_frees (declares o [] code) s p n w N m h = absurd m
link_frees (declares o (l ∷ ls) code) s p n w N (inl e) h = subst (λ (y : PendingLink). N y.path ≡ None) e h.free
link_frees (declares o (l ∷ ls) code) s p n w N (inr m) h = absurd m
link_frees opens s p n w N m h = absurd m
link_frees (expects k) s p n w N m h = absurd m

pub link_gives : (d : Effect) (s p : List Segment) (w : PendingLink) → Among (pending_by d s p) w → (o : ObjectTree) × (object_by d p w.path ≡ Some o)
link_gives (declares o [] code) s p w m = absurd m
link_gives (declares o (l ∷ ls) code) s p w (inl e) = (o, subst (λ (y : PendingLink). object_by (declares o (l ∷ ls) code) p y.path ≡ Some o) e (rw (path_itself p) refl))
link_gives (declares o (l ∷ ls) code) s p w (inr m) = absurd m
link_gives opens s p w m = absurd m
link_gives (expects k) s p w m = absurd m

pub link_alone : (d : Effect) (s p : List Segment) (ys : List PendingLink) → ((y w : PendingLink) → Among (pending_by d s p) w → Among ys y → y.path ≢ w.path)
    → AreDistinct link_at ys → AreDistinct link_at (pending_by d s p ++ ys)
link_alone (declares o [] code) s p ys apart d = d
link_alone (declares o (l ∷ ls) code) s p ys apart d = (λ y m. apart y _ (inl refl) m, d)
link_alone opens s p ys apart d = d
link_alone (expects k) s p ys apart d = d

abbrev pub link_source : Source PendingLink
link_source = record {
  at = link_at;
  from = links_from;
  frees = λ c e w N m h. link_frees e.step.effect e.scope e.path e.step.name w N m h;
  gives = λ c e w m. link_gives e.step.effect e.scope e.path w m;
  alone = λ c e ys apart d. link_alone e.step.effect e.scope e.path ys apart d;
}

abbrev pub link_value : Namespace → PendingLink → Links
link_value objects w = answers objects w.scope w.names

pending_are : (c : Lookup ℕ) (es : List Placement) → pending_links es ≡ items_in link_source c es
pending_are c [] = refl
pending_are c (e ∷ es) = ap (λ ws. pending_by e.step.effect e.scope e.path ++ ws) (pending_are c es)

pub all_pending_are : (ts : List Listing) → all_pending ts ≡ all_items link_source ts
all_pending_are [] = refl
all_pending_are (t ∷ ts) = ap (λ ws. ws ++ all_pending ts) (pending_are (external_counts t) t) ∙ ap (λ ws. items link_source t ++ ws) (all_pending_are ts)

links_are : (objects : Namespace) (ws : List PendingLink) (q : List Segment) → links_of objects ws q ≡ values_of link_at (link_value objects) ws q
links_are objects [] q = refl
links_are objects (w ∷ ws) q = ap (λ a. option_or a (one_link objects w q)) (links_are objects ws q)

pub links_of_tables : (objects : Namespace) (ts : List Listing) (q : List Segment)
    → links_of objects (all_pending ts) q ≡ values_of link_at (link_value objects) (all_items link_source ts) q
links_of_tables objects ts q = links_are objects (all_pending ts) q ∙ ap (λ ws. values_of link_at (link_value objects) ws q) (all_pending_are ts)

-- ---- bodies

abbrev pub body_at : Method → List Segment
body_at m = m.path

-- the method that a placement declares, with the counts of its table
abbrev coded : Lookup ℕ → Effect → List Segment → List Method
coded c d p = map (with_counts c) (methods_by d p)

abbrev methods_from : Lookup ℕ → Placement → List Method
methods_from c e = coded c e.step.effect e.path

pub method_frees : (d : Effect) (s p : List Segment) (n : NameParts) (c : Lookup ℕ) (w : Method) (N : Namespace) → Among (coded c d p) w → IsPlaced d N s n p → N w.path ≡ None
method_frees (declares o ls None) s p n c w N m h = absurd m
method_frees (declares o ls (Some code)) s p n c w N (inl e) h = subst (λ (y : Method). N y.path ≡ None) e h.free
method_frees (declares o ls (Some code)) s p n c w N (inr m) h = absurd m
method_frees opens s p n c w N m h = absurd m
method_frees (expects k) s p n c w N m h = absurd m

pub method_gives : (d : Effect) (p : List Segment) (c : Lookup ℕ) (w : Method) → Among (coded c d p) w → (o : ObjectTree) × (object_by d p w.path ≡ Some o)
method_gives (declares o ls None) p c w m = absurd m
method_gives (declares o ls (Some code)) p c w (inl e) =
    (o, subst (λ (y : Method). object_by (declares o ls (Some code)) p y.path ≡ Some o) e (rw (path_itself p) refl))
method_gives (declares o ls (Some code)) p c w (inr m) = absurd m
method_gives opens p c w m = absurd m
method_gives (expects k) p c w m = absurd m

pub method_alone : (d : Effect) (p : List Segment) (c : Lookup ℕ) (ys : List Method)
    → ((y w : Method) → Among (coded c d p) w → Among ys y → y.path ≢ w.path) → AreDistinct body_at ys → AreDistinct body_at (coded c d p ++ ys)
method_alone (declares o ls None) p c ys apart d = d
method_alone (declares o ls (Some code)) p c ys apart d = (λ y m. apart y _ (inl refl) m, d)
method_alone opens p c ys apart d = d
method_alone (expects k) p c ys apart d = d

abbrev pub method_source : Source Method
method_source = record {
  at = body_at;
  from = methods_from;
  frees = λ c e w N m h. method_frees e.step.effect e.scope e.path e.step.name c w N m h;
  gives = λ c e w m. method_gives e.step.effect e.path c w m;
  alone = λ c e ys apart d. method_alone e.step.effect e.path c ys apart d;
}

coded_more : (c : Lookup ℕ) (d : Effect) (p : List Segment) (ms : List notes.Method) → map (with_counts c) (methods_by d p ++ ms) ≡ coded c d p ++ map (with_counts c) ms
coded_more c (declares o ls None) p ms = refl
coded_more c (declares o ls (Some code)) p ms = refl
coded_more c opens p ms = refl
coded_more c (expects k) p ms = refl

methods_are : (c : Lookup ℕ) (es : List Placement) → map (with_counts c) (methods es) ≡ items_in method_source c es
methods_are c [] = refl
methods_are c (e ∷ es) = coded_more c e.step.effect e.path (methods es) ∙ ap (λ ms. coded c e.step.effect e.path ++ ms) (methods_are c es)

pub all_methods_are : (ts : List Listing) → all_methods ts ≡ all_items method_source ts
all_methods_are [] = refl
all_methods_are (t ∷ ts) = ap (λ ms. ms ++ all_methods ts) (methods_are (external_counts t) t) ∙ ap (λ ms. items method_source t ++ ms) (all_methods_are ts)

bodies_are : (depth : ℕ) (objects : Namespace) (ms : List Method) (q : List Segment) → bodies_of depth objects ms q ≡ values_of body_at (body_of depth objects) ms q
bodies_are depth objects [] q = refl
bodies_are depth objects (m ∷ ms) q = ap (λ a. option_or a (singleton m.path (body_of depth objects m) q)) (bodies_are depth objects ms q)

pub bodies_of_tables : (depth : ℕ) (objects : Namespace) (ts : List Listing) (q : List Segment)
    → bodies_of depth objects (all_methods ts) q ≡ values_of body_at (body_of depth objects) (all_items method_source ts) q
bodies_of_tables depth objects ts q = bodies_are depth objects (all_methods ts) q ∙ ap (λ ms. values_of body_at (body_of depth objects) ms q) (all_methods_are ts)
