-- What is known of a path, by the lists and by what is kept at it.
use Rattle.std.proofs.Common.{◌≡◌, ℕ, suc, ◌<◌, ◌&&◌, ◌||◌, Bool, true, false, cond, not, List, [], ◌∷◌, ◌++◌, map, reverse, length, arith, refl, sym, ap, ap₂, subst, ◌∙◌}
use Rattle.std.specs.List.{list_any}
use Rattle.std.proofs.lemmas.List.{reverse-append, length-append, length-map, get_or_append_left}
use Rattle.acpi_space.specs.Lookups.{is_same_path}
use Rattle.acpi_conditions.specs.Entries.{Path, Entry}
use Rattle.acpi_conditions.specs.Known.{Certain}
use Rattle.acpi_conditions.specs.KnownLists.{is_hidden, seen_beyond}
use Rattle.acpi_conditions.specs.declared.statuses.Presence.{Presence}
use Rattle.acpi_conditions.specs.declared.statuses.Presence.TheVariants.{Nothing, Object, Scope}
use Rattle.acpi_conditions.specs.declared.slots.Sight.{Sight}
use Rattle.acpi_conditions.specs.declared.slots.Slot.{Slot}
use Rattle.acpi_conditions.specs.declared.slots.Slots.{Slots}
use Rattle.acpi_conditions.specs.declared.facts.Fact.{Fact}
use Rattle.acpi_conditions.specs.declared.facts.HiddenRange.{HiddenRange}
use Rattle.acpi_conditions.specs.steps.Slots.{Here, with_certain, kept_over, path_in, HasMore, IsNumbered}
use Rattle.acpi_conditions.specs.Presences.{is_something, is_a_scope}
use Rattle.acpi_conditions.specs.steps.Facts.{raised, certain_of, certainty_at, AreFacts, sights_beyond, is_seen, is_scope_seen, kept_in, paths_in, certain_by, IsCertainBy, SameSights}
use Rattle.acpi_conditions.proofs.Basics.{and_right, any_weaker, same_path, path_itself}

-- ---- what is certain

raised_something : (b : Bool) (c : Presence) → is_something (raised b c) ≡ true
raised_something true c = refl
raised_something false Nothing = refl
raised_something false Object = refl
raised_something false Scope = refl

raised_scope : (b : Bool) (c : Presence) → is_a_scope (raised b c) ≡ (b || is_a_scope c)
raised_scope true c = refl
raised_scope false Nothing = refl
raised_scope false Object = refl
raised_scope false Scope = refl

module _ (paths : List Path) (p : Path) where
  pub certain_is : (fs : List Fact) → list_any (λ c. is_same_path c.path p) (map (certain_of paths) fs) ≡ is_something (certainty_at paths p fs)
  certain_is [] = refl
  certain_is (f ∷ fs) = by (is_same_path (path_in paths f.slot) p) (certain_is fs)
    where
      by : (b : Bool) → list_any (λ c. is_same_path c.path p) (map (certain_of paths) fs) ≡ is_something (certainty_at paths p fs)
          → (b || list_any (λ c. is_same_path c.path p) (map (certain_of paths) fs)) ≡ is_something (cond b (raised f.is_scope (certainty_at paths p fs)) (certainty_at paths p fs))
      by true ih = sym (raised_something f.is_scope (certainty_at paths p fs))
      by false ih = ih

  pub certain_scope_is : (fs : List Fact) → list_any (λ c. is_same_path c.path p && c.is_scope) (map (certain_of paths) fs) ≡ is_a_scope (certainty_at paths p fs)
  certain_scope_is [] = refl
  certain_scope_is (f ∷ fs) = by (is_same_path (path_in paths f.slot) p) (certain_scope_is fs)
    where
      by : (b : Bool) → list_any (λ c. is_same_path c.path p && c.is_scope) (map (certain_of paths) fs) ≡ is_a_scope (certainty_at paths p fs)
          → ((b && f.is_scope) || list_any (λ c. is_same_path c.path p && c.is_scope) (map (certain_of paths) fs)) ≡ is_a_scope (cond b (raised f.is_scope (certainty_at paths p fs)) (certainty_at paths p fs))
      by true ih = ap (λ c. f.is_scope || c) ih ∙ sym (raised_scope f.is_scope (certainty_at paths p fs))
      by false ih = ih

-- ---- what is possible

any_cond : {X : Type 0} (test : X → Bool) (b : Bool) (x : X) (xs : List X) → list_any test (cond b xs (x ∷ xs)) ≡ cond b (list_any test xs) (test x || list_any test xs)
any_cond test true x xs = refl
any_cond test false x xs = refl

any_cond_more : {X : Type 0} (test : X → Bool) (b : Bool) (x : X) (xs : List X) → list_any test (cond b (x ∷ xs) xs) ≡ cond b (test x || list_any test xs) (list_any test xs)
any_cond_more test true x xs = refl
any_cond_more test false x xs = refl

-- an entry before others, at the path or elsewhere, hidden or seen
one_more : (s h l r : Bool) → l ≡ r → cond h l (s || l) ≡ cond s (not h || r) r
one_more true true l r e = e
one_more true false l r e = refl
one_more false true l r e = e
one_more false false l r e = e

one_more_scope : (s b h l r : Bool) → l ≡ r → cond h l ((s && b) || l) ≡ cond s ((b && not h) || r) r
one_more_scope true true true l r e = e
one_more_scope true true false l r e = refl
one_more_scope true false true l r e = e
one_more_scope true false false l r e = e
one_more_scope false b true l r e = e
one_more_scope false b false l r e = e

pub possible_is : (ranges : List HiddenRange) (p : Path) (n : ℕ) (es : List Entry) → list_any (λ e. is_same_path e.path p) (seen_beyond ranges n es) ≡ is_seen ranges (sights_beyond p n es)
possible_is ranges p n [] = refl
possible_is ranges p n (e ∷ es) =
    any_cond (λ e. is_same_path e.path p) (is_hidden ranges n) e (seen_beyond ranges (suc n) es)
    ∙ one_more (is_same_path e.path p) (is_hidden ranges n) _ _ (possible_is ranges p (suc n) es)
    ∙ sym (any_cond_more (λ x. not (is_hidden ranges x.number)) (is_same_path e.path p) (record { number = n; is_scope = e.term.is_scope }) (sights_beyond p (suc n) es))

pub possible_scope_is : (ranges : List HiddenRange) (p : Path) (n : ℕ) (es : List Entry)
    → list_any (λ e. is_same_path e.path p && e.term.is_scope) (seen_beyond ranges n es) ≡ is_scope_seen ranges (sights_beyond p n es)
possible_scope_is ranges p n [] = refl
possible_scope_is ranges p n (e ∷ es) =
    any_cond (λ e. is_same_path e.path p && e.term.is_scope) (is_hidden ranges n) e (seen_beyond ranges (suc n) es)
    ∙ one_more_scope (is_same_path e.path p) e.term.is_scope (is_hidden ranges n) _ _ (possible_scope_is ranges p (suc n) es)
    ∙ sym (any_cond_more (λ x. x.is_scope && not (is_hidden ranges x.number)) (is_same_path e.path p) (record { number = n; is_scope = e.term.is_scope }) (sights_beyond p (suc n) es))

pub scope_is_seen : (ranges : List HiddenRange) (xs : List Sight) → is_scope_seen ranges xs ≡ true → is_seen ranges xs ≡ true
scope_is_seen ranges xs e = any_weaker (λ (x : Sight). x.is_scope && not (is_hidden ranges x.number)) (λ (x : Sight). not (is_hidden ranges x.number)) xs (λ x is. and_right x.is_scope (not (is_hidden ranges x.number)) is) e

-- ---- more paths

path_grown : (paths more : List Path) (n : ℕ) → n < length paths → path_in (paths ++ more) n ≡ path_in paths n
path_grown paths more n l = get_or_append_left paths more [] n l

module _ (paths more : List Path) where
  certainty_grown : (p : Path) (fs : List Fact) → AreFacts paths fs → certainty_at (paths ++ more) p fs ≡ certainty_at paths p fs
  certainty_grown p [] h = refl
  certainty_grown p (f ∷ fs) h =
      ap₂ (λ (q : Path) (c : Presence). cond (is_same_path q p) (raised f.is_scope c) c) (path_grown paths more f.slot h.0) (certainty_grown p fs h.1.1)

  facts_grown : (fs : List Fact) → AreFacts paths fs → AreFacts (paths ++ more) fs
  facts_grown [] h = tt
  facts_grown (f ∷ fs) h = (
    let l : f.slot < length paths = h.0 in omega (arith, length-append paths more),
    (
      h.1.0 ∙ sym (certainty_grown (path_in paths f.slot) fs h.1.1) ∙ ap (λ (q : Path). certainty_at (paths ++ more) q fs) (sym (path_grown paths more f.slot h.0)),
      facts_grown fs h.1.1,
    ),
  )

  listed_grown : (fs : List Fact) → AreFacts paths fs → map (certain_of (paths ++ more)) fs ≡ map (certain_of paths) fs
  listed_grown [] h = refl
  listed_grown (f ∷ fs) h = ap₂ (λ (q : Path) (cs : List Certain). record { path = q; is_scope = f.is_scope } ∷ cs) (path_grown paths more f.slot h.0) (listed_grown fs h.1.1)

-- where a path was reached
module _ (old new : Slots) (facts : List Fact) (h : IsCertainBy old facts) (n : IsNumbered new.numbers (paths_in new)) (same : (p : Path) → kept_in new p ≡ kept_in old p) (more : HasMore (paths_in old) (paths_in new)) where
  pub certain_reached : IsCertainBy new facts
  certain_reached = record {
    numbered = n;
    certain = λ p.
        ap (λ (x : Here). x.certain) (same p) ∙ h.certain p ∙ sym (certainty_grown (paths_in old) more.0 p (reverse facts) h.facts) ∙ ap (λ (ps : List Path). certainty_at ps p (reverse facts)) (sym more.1);
    facts = subst (λ (ps : List Path). AreFacts ps (reverse facts)) (sym more.1) (facts_grown (paths_in old) more.0 (reverse facts) h.facts);
  }

  pub listed_reached : certain_by new facts ≡ certain_by old facts
  listed_reached = ap (λ (ps : List Path). map (certain_of ps) (reverse facts)) more.1 ∙ listed_grown (paths_in old) more.0 (reverse facts) h.facts

-- ---- one fact more

reverse_push : {X : Type 0} (xs : List X) (x : X) → reverse (xs ++ x ∷ []) ≡ x ∷ reverse xs
reverse_push xs x = reverse-append xs (x ∷ [])

pub same_either_way : (p q : Path) → is_same_path p q ≡ is_same_path q p
same_either_way p q = by (is_same_path p q) (is_same_path q p) refl refl
  where
    by : (a b : Bool) → is_same_path p q ≡ a → is_same_path q p ≡ b → a ≡ b
    by true true u v = refl
    by false false u v = refl
    by true false u v = let t : is_same_path q p ≡ true = path_itself q p (sym (same_path p q u)) in let f : true ≡ false = sym t ∙ v in f
    by false true u v = let t : is_same_path p q ≡ true = path_itself p q (sym (same_path q p v)) in let f : false ≡ true = sym u ∙ t in f

slot_within : (s : Slots) (n : ℕ) → n < length s.slots.items → n < length (paths_in s)
slot_within s n l = omega (arith, l, length-map s.slots.items (λ (x : Slot). x.path))

module _ (old new : Slots) (facts more : List Fact) (f : Fact) (h : IsCertainBy old facts) (n : IsNumbered new.numbers (paths_in new)) (same : paths_in new ≡ paths_in old) (within : f.slot < length old.slots.items)
    (is : f.before ≡ (kept_in old (path_in (paths_in old) f.slot)).certain)
    (set : (p : Path) → kept_in new p ≡ kept_over (path_in (paths_in old) f.slot) (with_certain (raised f.is_scope f.before)) (kept_in old) p) (push : more ≡ facts ++ f ∷ []) where
  abbrev path : Path
  path = path_in (paths_in old) f.slot

  newest : reverse more ≡ f ∷ reverse facts
  newest = ap reverse push ∙ reverse_push facts f

  certainty_before : f.before ≡ certainty_at (paths_in old) path (reverse facts)
  certainty_before = is ∙ h.certain path

  certain_now : (p : Path) → (kept_in new p).certain ≡ certainty_at (paths_in old) p (f ∷ reverse facts)
  certain_now p =
      ap (λ (x : Here). x.certain) (set p) ∙ by (is_same_path p path) refl
      ∙ ap (λ c. cond c (raised f.is_scope (certainty_at (paths_in old) p (reverse facts))) (certainty_at (paths_in old) p (reverse facts))) (same_either_way p path)
    where
      by : (c : Bool) → is_same_path p path ≡ c → (cond c (with_certain (raised f.is_scope f.before) (kept_in old path)) (kept_in old p)).certain
          ≡ cond c (raised f.is_scope (certainty_at (paths_in old) p (reverse facts))) (certainty_at (paths_in old) p (reverse facts))
      by true u = ap (raised f.is_scope) (certainty_before ∙ ap (λ q. certainty_at (paths_in old) q (reverse facts)) (sym (same_path p path u)))
      by false u = h.certain p

  pub fact_put : IsCertainBy new more
  fact_put = record {
    numbered = n;
    certain = λ p. certain_now p ∙ ap₂ (λ (ps : List Path) (fs : List Fact). certainty_at ps p fs) (sym same) (sym newest);
    facts = subst (λ (ps : List Path). AreFacts ps (reverse more)) (sym same) (subst (AreFacts (paths_in old)) (sym newest) (slot_within old f.slot within, (certainty_before, h.facts)));
  }

  pub fact_same : SameSights old new
  fact_same p = ap (λ (x : Here). x.sights) (set p) ∙ by (is_same_path p path) refl
    where
      by : (c : Bool) → is_same_path p path ≡ c → (cond c (with_certain (raised f.is_scope f.before) (kept_in old path)) (kept_in old p)).sights ≡ (kept_in old p).sights
      by true u = ap (λ q. (kept_in old q).sights) (sym (same_path p path u))
      by false u = refl

  pub fact_listed : certain_by new more ≡ record { path = path; is_scope = f.is_scope } ∷ certain_by old facts
  fact_listed = ap₂ (λ (ps : List Path) (fs : List Fact). map (certain_of ps) fs) same newest

-- where what is certain at each path stays
pub same_certain : (old new : Slots) (facts now : List Fact) → IsCertainBy old facts → IsNumbered new.numbers (paths_in new) → paths_in new ≡ paths_in old → ((p : Path) → (kept_in new p).certain ≡ (kept_in old p).certain) → now ≡ facts → IsCertainBy new now
same_certain old new facts now h n same keeps e = record {
  numbered = n;
  certain = λ p. keeps p ∙ h.certain p ∙ ap₂ (λ (ps : List Path) (fs : List Fact). certainty_at ps p (reverse fs)) (sym same) (sym e);
  facts = subst (λ (ps : List Path). AreFacts ps (reverse now)) (sym same) (subst (λ (fs : List Fact). AreFacts (paths_in old) (reverse fs)) (sym e) h.facts);
}

-- ---- one fact less

module _ (old : Slots) (facts more : List Fact) (f : Fact) (h : IsCertainBy old facts) (pop : facts ≡ more ++ f ∷ []) where
  newest_popped : reverse facts ≡ f ∷ reverse more
  newest_popped = ap reverse pop ∙ reverse_push more f

  facts_before : AreFacts (paths_in old) (f ∷ reverse more)
  facts_before = subst (AreFacts (paths_in old)) newest_popped h.facts

  pub popped_within : f.slot < length old.slots.items
  popped_within = let l : f.slot < length (paths_in old) = facts_before.0 in omega (arith, length-map old.slots.items (λ (x : Slot). x.path))

  module _ (new : Slots) (n : IsNumbered new.numbers (paths_in new)) (same : paths_in new ≡ paths_in old) (set : (p : Path) → kept_in new p ≡ kept_over (path_in (paths_in old) f.slot) (with_certain f.before) (kept_in old) p) where
    abbrev path_popped : Path
    path_popped = path_in (paths_in old) f.slot

    certain_popped : (p : Path) → (kept_in new p).certain ≡ certainty_at (paths_in old) p (reverse more)
    certain_popped p = ap (λ (x : Here). x.certain) (set p) ∙ by (is_same_path p path_popped) refl
      where
        by : (b : Bool) → is_same_path p path_popped ≡ b → (cond b (with_certain f.before (kept_in old path_popped)) (kept_in old p)).certain ≡ certainty_at (paths_in old) p (reverse more)
        by true u = facts_before.1.0 ∙ ap (λ q. certainty_at (paths_in old) q (reverse more)) (sym (same_path p path_popped u))
        by false u =
            h.certain p ∙ ap (certainty_at (paths_in old) p) newest_popped
            ∙ ap (λ b. cond b (raised f.is_scope (certainty_at (paths_in old) p (reverse more))) (certainty_at (paths_in old) p (reverse more))) (same_either_way path_popped p ∙ u)

    pub fact_popped : IsCertainBy new more
    fact_popped = record {
      numbered = n;
      certain = λ p. certain_popped p ∙ ap (λ (ps : List Path). certainty_at ps p (reverse more)) (sym same);
      facts = subst (λ (ps : List Path). AreFacts ps (reverse more)) (sym same) facts_before.1.1;
    }

    pub sights_popped : SameSights old new
    sights_popped p = ap (λ (x : Here). x.sights) (set p) ∙ by (is_same_path p path_popped) refl
      where
        by : (b : Bool) → is_same_path p path_popped ≡ b → (cond b (with_certain f.before (kept_in old path_popped)) (kept_in old p)).sights ≡ (kept_in old p).sights
        by true u = ap (λ q. (kept_in old q).sights) (sym (same_path p path_popped u))
        by false u = refl
