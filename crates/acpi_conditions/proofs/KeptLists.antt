-- What is kept by path, and what is known by the lists.
use Rattle.std.proofs.Common.{◌≡◌, ℕ, suc, ◌+◌, ◌||◌, ◌&&◌, Bool, true, false, cond, List, [], ◌∷◌, ◌++◌, map, reverse, take, drop, length, Option, Some, None, slice_get, refl, sym, ap, ap₂, subst, ◌∙◌, arith, append-nil}
use Rattle.std.proofs.lemmas.List.{map_push, length-map, reverse-append, reverse-reverse, take-map}
use Rattle.std.specs.Option.{option_map}
use Rattle.std.proofs.lemmas.Option.{slice_get-map, slice_get_within}
use Rattle.std.proofs.Math.Seq.{take-append_seam}
use Rattle.acpi_space.specs.Lookups.{is_same_path}
use Rattle.acpi_space.proofs.Elements.{one_some}
use Rattle.acpi_conditions.specs.Entries.{Path, Turn, Entry}
use Rattle.acpi_conditions.specs.Known.{Certain, is_certain, is_certain_scope, is_possible, is_possible_scope}
use Rattle.std.specs.List.{list_any}
use Rattle.acpi_conditions.specs.EntryForms.{entry_view}
use Rattle.acpi_conditions.specs.KnownLists.{KnownLists, known_by, oldest, seen_beyond}
use Rattle.acpi_conditions.specs.declared.statuses.Presence.{Presence}
use Rattle.acpi_conditions.specs.declared.statuses.Presence.TheVariants.{Nothing, Object, Scope}
use Rattle.acpi_conditions.specs.declared.slots.Sight.{Sight}
use Rattle.acpi_conditions.specs.declared.slots.Slots.{Slots}
use Rattle.acpi_conditions.specs.declared.facts.Fact.{Fact}
use Rattle.acpi_conditions.specs.declared.facts.HiddenRange.{HiddenRange}
use Rattle.acpi_conditions.specs.declared.entry.Entry.{Entry as EntryForm}
use Rattle.acpi_conditions.specs.declared.known_paths.KnownPaths.TheInside.{Inside}
use Rattle.acpi_conditions.specs.steps.Slots.{Here, nothing_here, with_sight, kept_over, path_in, HasMore, IsNumbered}
use Rattle.acpi_conditions.specs.steps.Settled.{certain_at, certain_there}
use Rattle.acpi_conditions.specs.Presences.{is_something, is_a_scope}
use Rattle.acpi_conditions.specs.steps.Facts.{certain_of, certainty_at, AreFacts, sights_beyond, is_seen, is_scope_seen, kept_in, paths_in, certain_by, IsCertainBy, SameSights}
use Rattle.acpi_conditions.specs.steps.KeptPaths.{lists_of, IsKept}
use Rattle.acpi_conditions.proofs.Basics.{same_path}
use Rattle.acpi_conditions.proofs.KeptSlots.{get_first, path_got}
use Rattle.acpi_conditions.proofs.FactLists.{certain_is, certain_scope_is, possible_is, possible_scope_is, same_either_way, certain_reached, listed_reached, same_certain}

-- ---- the four tests

module _ (k : Inside) (h : IsKept k) (p : Path) where
  pub certain_answer : is_something (kept_in k.slots p).certain ≡ is_certain (known_by [] (lists_of k)) p
  certain_answer = ap is_something (h.certain.certain p) ∙ sym (certain_is (paths_in k.slots) p (reverse k.facts.items))

  pub certain_scope_answer : is_a_scope (kept_in k.slots p).certain ≡ is_certain_scope (known_by [] (lists_of k)) p
  certain_scope_answer = ap is_a_scope (h.certain.certain p) ∙ sym (certain_scope_is (paths_in k.slots) p (reverse k.facts.items))

module _ (k : KnownLists) (p : Path) where
  pub possible_in_loop : k.in_loop ≡ true → true ≡ is_possible (known_by [] k) p
  possible_in_loop l = ap (λ b. b || list_any (λ e. is_same_path e.path p) (seen_beyond k.hidden 0 (map (entry_view []) k.entries))) (sym l)

  pub possible_scope_in_loop : k.in_loop ≡ true → true ≡ is_possible_scope (known_by [] k) p
  possible_scope_in_loop l = ap (λ b. b || list_any (λ e. is_same_path e.path p && e.term.is_scope) (seen_beyond k.hidden 0 (map (entry_view []) k.entries))) (sym l)

  module _ (ranges : List HiddenRange) (sights : List Sight) (r : ranges ≡ k.hidden) (s : sights ≡ sights_beyond p 0 (map (entry_view []) k.entries)) (l : k.in_loop ≡ false) where
    pub possible_outside : is_seen ranges sights ≡ is_possible (known_by [] k) p
    possible_outside =
        ap₂ is_seen r s ∙ sym (possible_is k.hidden p 0 (map (entry_view []) k.entries))
        ∙ ap (λ b. b || list_any (λ e. is_same_path e.path p) (seen_beyond k.hidden 0 (map (entry_view []) k.entries))) (sym l)

    pub possible_scope_outside : is_scope_seen ranges sights ≡ is_possible_scope (known_by [] k) p
    possible_scope_outside =
        ap₂ is_scope_seen r s ∙ sym (possible_scope_is k.hidden p 0 (map (entry_view []) k.entries))
        ∙ ap (λ b. b || list_any (λ e. is_same_path e.path p && e.term.is_scope) (seen_beyond k.hidden 0 (map (entry_view []) k.entries))) (sym l)

-- ---- one entry more

omega_zero : (n : ℕ) → n ≡ n + 0
omega_zero n = omega arith

omega_suc : (n m : ℕ) → suc n + m ≡ n + suc m
omega_suc n m = omega arith

sight_before : (b : Bool) (x : Sight) (xs ys zs : List Sight) → xs ≡ ys ++ zs → cond b (x ∷ xs) xs ≡ cond b (x ∷ ys) ys ++ zs
sight_before true x xs ys zs e = ap (λ l. x ∷ l) e
sight_before false x xs ys zs e = e

sights_push : (p : Path) (n : ℕ) (es : List Entry) (e : Entry) → sights_beyond p n (es ++ e ∷ [])
    ≡ sights_beyond p n es ++ cond (is_same_path e.path p) (record { number = n + length es; is_scope = e.term.is_scope } ∷ []) []
sights_push p n [] e = ap (λ m. cond (is_same_path e.path p) (record { number = m; is_scope = e.term.is_scope } ∷ []) []) (omega_zero n)
sights_push p n (x ∷ es) e =
    sight_before (is_same_path x.path p) (record { number = n; is_scope = x.term.is_scope }) (sights_beyond p (suc n) (es ++ e ∷ [])) (sights_beyond p (suc n) es)
    (cond (is_same_path e.path p) (record { number = n + suc (length es); is_scope = e.term.is_scope } ∷ []) [])
    (sights_push p (suc n) es e ∙ ap (λ m. sights_beyond p (suc n) es ++ cond (is_same_path e.path p) (record { number = m; is_scope = e.term.is_scope } ∷ []) []) (omega_suc n (length es)))

-- the lists, by their parts
abbrev lists : List EntryForm → List Certain → List HiddenRange → Bool → KnownLists
lists es cs hs b = record { entries = es; certain = cs; hidden = hs; in_loop = b }

-- ---- the slots of the entries

-- the path of the entry of a number is that of its slot
pub slot_there : (paths : List Path) (ns : List ℕ) (es : List EntryForm) (i n : ℕ) → map (slice_get paths) ns ≡ map (λ e. Some e.path) es → slice_get ns i ≡ Some n → (p : Path) × ((option_map (λ e. e.path) (slice_get es i) ≡ Some p) × (slice_get paths n ≡ Some p))
slot_there paths ns es i n h at = by (slice_get es i) (sym (slice_get-map (λ (e : EntryForm). Some e.path) es i) ∙ ap (λ (l : List (Option Path)). slice_get l i) (sym h) ∙ slice_get-map (slice_get paths) ns i ∙ ap (option_map (slice_get paths)) at)
  where
    by : (o : Option EntryForm) → option_map (λ e. Some e.path) o ≡ Some (slice_get paths n) → (p : Path) × ((option_map (λ e. e.path) o ≡ Some p) × (slice_get paths n ≡ Some p))
    by None e = cc
    by (Some f) e = (f.path, (refl, sym (one_some (Some f.path) (slice_get paths n) e)))

pub no_slot_there : (paths : List Path) (ns : List ℕ) (es : List EntryForm) (i : ℕ) → map (slice_get paths) ns ≡ map (λ e. Some e.path) es → slice_get ns i ≡ None → slice_get es i ≡ None
no_slot_there paths ns es i h at = by (slice_get es i) (sym (slice_get-map (λ (e : EntryForm). Some e.path) es i) ∙ ap (λ (l : List (Option Path)). slice_get l i) (sym h) ∙ slice_get-map (slice_get paths) ns i ∙ ap (option_map (slice_get paths)) at)
  where
    by : (o : Option EntryForm) → option_map (λ e. Some e.path) o ≡ None → o ≡ None
    by None e = refl
    by (Some f) e = cc

numbers_grown : (paths more : List Path) (ns : List ℕ) (es : List EntryForm) → map (slice_get paths) ns ≡ map (λ e. Some e.path) es → map (slice_get (paths ++ more)) ns ≡ map (λ e. Some e.path) es
numbers_grown paths more [] [] h = refl
numbers_grown paths more [] (e ∷ es) h = cc
numbers_grown paths more (n ∷ ns) [] h = cc
numbers_grown paths more (n ∷ ns) (e ∷ es) h =
    let head : slice_get paths n ≡ Some e.path = one_some (slice_get paths n) (Some e.path) (ap (λ (l : List (Option Path)). slice_get l 0) h) in
    ap₂ (λ (o : Option Path) (l : List (Option Path)). o ∷ l) (get_first paths more n (slice_get_within paths n e.path head) ∙ head) (numbers_grown paths more ns es (ap (drop 1) h))

pub same_count : (k : Inside) → IsKept k → length k.entries.items ≡ length k.entry_slots.items
same_count k h = omega (arith, ap length h.numbers, length-map k.entry_slots.items (slice_get (paths_in k.slots)), length-map k.entries.items (λ (e : EntryForm). Some e.path))

pub taken_back : {X : Type 0} (xs pushed more : List X) (x : X) (count : ℕ) → pushed ≡ xs ++ x ∷ [] → count ≡ length xs → more ≡ take count pushed → more ≡ xs
taken_back xs pushed more x count e n t = t ∙ ap₂ take n e ∙ take-append_seam xs (x ∷ [])

-- ---- what a presence makes certain

there_is : (presence : Presence) (p : Path) → is_something presence ≡ true → certain_at p presence ≡ record { path = p; is_scope = is_a_scope presence } ∷ []
there_is Nothing p e = cc
there_is Object p e = refl
there_is Scope p e = refl

pub certified : (paths : List Path) (presence : Presence) (o : Option Path) (n : ℕ) (b : Bool) (p : Path) → o ≡ Some p → slice_get paths n ≡ Some p → b ≡ is_a_scope presence → is_something presence ≡ true → record { path = path_in paths n; is_scope = b } ∷ [] ≡ certain_there presence o
certified paths presence o n b p is at kind some =
    ap₂ (λ (q : Path) (c : Bool). record { path = q; is_scope = c } ∷ []) (path_got paths n p at) kind ∙ sym (there_is presence p some) ∙ ap (certain_there presence) (sym is)

-- ---- a path reached

module _ (k : Inside) (r : Slots) (h : IsKept k) (n : IsNumbered r.numbers (paths_in r)) (same : (p : Path) → kept_in r p ≡ kept_in k.slots p) (more : HasMore (paths_in k.slots) (paths_in r)) where
  pub reached_kept : IsKept (record k { slots = r })
  reached_kept = record {
    certain = certain_reached k.slots r k.facts.items h.certain n same more;
    sights = λ p. ap (λ (x : Here). x.sights) (same p) ∙ h.sights p;
    numbers = ap (λ (ps : List Path). map (slice_get ps) k.entry_slots.items) more.1 ∙ numbers_grown (paths_in k.slots) more.0 k.entry_slots.items k.entries.items h.numbers;
  }

  pub reached_lists : lists_of (record k { slots = r }) ≡ lists_of k
  reached_lists = ap (λ (cs : List Certain). lists k.entries.items cs k.hidden.items k.in_loop) (listed_reached k.slots r k.facts.items h.certain n same more)

-- ---- one entry more

module _ (k new : Inside) (i : ℕ) (d : EntryForm) (h : IsKept k) (numbered : IsNumbered new.slots.numbers (paths_in new.slots)) (paths : paths_in new.slots ≡ paths_in k.slots)
    (set : (p : Path) → kept_in new.slots p ≡ kept_over d.path (with_sight (record { number = length k.entries.items; is_scope = d.term.is_scope })) (kept_in k.slots) p)
    (push : new.entries.items ≡ k.entries.items ++ d ∷ []) (slot : slice_get (paths_in k.slots) i ≡ Some d.path) (slots : new.entry_slots.items ≡ k.entry_slots.items ++ i ∷ []) (facts : new.facts.items ≡ k.facts.items) where
  entries_now : map (entry_view []) new.entries.items ≡ map (entry_view []) k.entries.items ++ entry_view [] d ∷ []
  entries_now = ap (map (entry_view [])) push ∙ map_push (entry_view []) k.entries.items d

  abbrev sight : Sight
  sight = record { number = length k.entries.items; is_scope = d.term.is_scope }

  certain_now : (p : Path) → (kept_in new.slots p).certain ≡ (kept_in k.slots p).certain
  certain_now p = ap (λ (x : Here). x.certain) (set p) ∙ by (is_same_path p d.path) refl
    where
      by : (c : Bool) → is_same_path p d.path ≡ c → (cond c (with_sight sight (kept_in k.slots d.path)) (kept_in k.slots p)).certain ≡ (kept_in k.slots p).certain
      by true u = ap (λ q. (kept_in k.slots q).certain) (sym (same_path p d.path u))
      by false u = refl

  abbrev sight_there : Sight
  sight_there = record { number = 0 + length (map (entry_view []) k.entries.items); is_scope = d.term.is_scope }

  sights_now : (p : Path) → (kept_in new.slots p).sights ≡ sights_beyond p 0 (map (entry_view []) k.entries.items ++ entry_view [] d ∷ [])
  sights_now p = ap (λ (x : Here). x.sights) (set p) ∙ by (is_same_path p d.path) refl ∙ sym (sights_push p 0 (map (entry_view []) k.entries.items) (entry_view [] d))
    where
      number : length k.entries.items ≡ 0 + length (map (entry_view []) k.entries.items)
      number = omega (arith, length-map k.entries.items (entry_view []))

      by : (c : Bool) → is_same_path p d.path ≡ c → (cond c (with_sight sight (kept_in k.slots d.path)) (kept_in k.slots p)).sights
          ≡ sights_beyond p 0 (map (entry_view []) k.entries.items) ++ cond (is_same_path d.path p) (sight_there ∷ []) []
      by true u =
          ap₂ (λ q m. (kept_in k.slots q).sights ++ record { number = m; is_scope = d.term.is_scope } ∷ []) (sym (same_path p d.path u)) number
          ∙ ap (λ l. l ++ sight_there ∷ []) (h.sights p)
          ∙ ap (λ c. sights_beyond p 0 (map (entry_view []) k.entries.items) ++ cond c (sight_there ∷ []) []) (sym u ∙ same_either_way p d.path)
      by false u =
          h.sights p ∙ sym (append-nil (sights_beyond p 0 (map (entry_view []) k.entries.items)))
          ∙ ap (λ c. sights_beyond p 0 (map (entry_view []) k.entries.items) ++ cond c (sight_there ∷ []) []) (sym u ∙ same_either_way p d.path)

  pub entry_kept : IsKept new
  entry_kept = record {
    certain = same_certain k.slots new.slots k.facts.items new.facts.items h.certain numbered paths certain_now facts;
    sights = λ p. sights_now p ∙ ap (sights_beyond p 0) (sym entries_now);
    numbers =
        ap₂ (λ (ps : List Path) (ns : List ℕ). map (slice_get ps) ns) paths slots ∙ map_push (slice_get (paths_in k.slots)) k.entry_slots.items i
        ∙ ap₂ (λ (l : List (Option Path)) (o : Option Path). l ++ o ∷ []) h.numbers slot
        ∙ sym (map_push (λ (e : EntryForm). Some e.path) k.entries.items d) ∙ ap (map (λ (e : EntryForm). Some e.path)) (sym push);
  }

  pub entry_lists : new.hidden.items ≡ k.hidden.items → new.in_loop ≡ k.in_loop → lists_of new ≡ record (lists_of k) { entries = k.entries.items ++ d ∷ [] }
  entry_lists hidden loop = λ j. lists (push j) (map (certain_of (paths j)) (reverse (facts j))) (hidden j) (loop j)

-- ---- the entries stay

module _ (k new : Inside) (h : IsKept k) (c : IsCertainBy new.slots new.facts.items) (same : SameSights k.slots new.slots) (paths : paths_in new.slots ≡ paths_in k.slots) (entries : new.entries.items ≡ k.entries.items) (numbers : new.entry_slots.items ≡ k.entry_slots.items) where
  pub fact_kept : IsKept new
  fact_kept = record {
    certain = c;
    sights = λ p. same p ∙ h.sights p ∙ ap (λ ds. sights_beyond p 0 (map (entry_view []) ds)) (sym entries);
    numbers = ap₂ (λ (ps : List Path) (ns : List ℕ). map (slice_get ps) ns) paths numbers ∙ h.numbers ∙ ap (map (λ (e : EntryForm). Some e.path)) (sym entries);
  }

pub nothing_kept_yet : (k : Inside) → IsNumbered k.slots.numbers (paths_in k.slots) → ((p : Path) → kept_in k.slots p ≡ nothing_here) → k.facts.items ≡ [] → k.entries.items ≡ [] → k.entry_slots.items ≡ [] → IsKept k
nothing_kept_yet k n none f e m = record {
  certain = record {
    numbered = n;
    certain = λ p. ap (λ (x : Here). x.certain) (none p) ∙ ap (λ fs. certainty_at (paths_in k.slots) p (reverse fs)) (sym f);
    facts = subst (λ fs. AreFacts (paths_in k.slots) (reverse fs)) (sym f) tt;
  };
  sights = λ p. ap (λ (x : Here). x.sights) (none p) ∙ ap (λ ds. sights_beyond p 0 (map (entry_view []) ds)) (sym e);
  numbers = ap (map (slice_get (paths_in k.slots))) m ∙ ap (map (λ (x : EntryForm). Some x.path)) (sym e);
}

pub same_kept : (k new : Inside) → IsKept k → IsNumbered new.slots.numbers (paths_in new.slots) → ((p : Path) → kept_in new.slots p ≡ kept_in k.slots p) → paths_in new.slots ≡ paths_in k.slots → new.facts.items ≡ k.facts.items → new.entries.items ≡ k.entries.items
    → new.entry_slots.items ≡ k.entry_slots.items → IsKept new
same_kept k new h n same paths f e m =
    fact_kept k new h (same_certain k.slots new.slots k.facts.items new.facts.items h.certain n paths (λ p. ap (λ (x : Here). x.certain) (same p)) f) (λ p. ap (λ (x : Here). x.sights) (same p)) paths e m

pub lists_are : (k new : Inside) (es : List EntryForm) (cs : List Certain) (hs : List HiddenRange) (b : Bool) → new.entries.items ≡ es → certain_by new.slots new.facts.items ≡ cs → new.hidden.items ≡ hs → new.in_loop ≡ b → lists_of new ≡ lists es cs hs b
lists_are k new es cs hs b e f g h = λ i. lists (e i) (f i) (g i) (h i)

pub same_lists : (k new : Inside) → paths_in new.slots ≡ paths_in k.slots → new.facts.items ≡ k.facts.items → new.entries.items ≡ k.entries.items → new.hidden.items ≡ k.hidden.items → new.in_loop ≡ k.in_loop → lists_of new ≡ lists_of k
same_lists k new paths f e h l = λ i. lists (e i) (map (certain_of (paths i)) (reverse (f i))) (h i) (l i)

-- the oldest facts alone
module _ (paths : List Path) where
  reverse_map : (fs : List Fact) → map (certain_of paths) (reverse fs) ≡ reverse (map (certain_of paths) fs)
  reverse_map [] = refl
  reverse_map (f ∷ fs) =
      ap (map (certain_of paths)) (reverse-append (f ∷ []) fs) ∙ map_push (certain_of paths) (reverse fs) f ∙ ap (λ cs. cs ++ certain_of paths f ∷ []) (reverse_map fs)
      ∙ sym (reverse-append (certain_of paths f ∷ []) (map (certain_of paths) fs))

  map_reverse : (fs : List Fact) → reverse (map (certain_of paths) (reverse fs)) ≡ map (certain_of paths) fs
  map_reverse fs = ap reverse (reverse_map fs) ∙ reverse-reverse (map (certain_of paths) fs)

  oldest_listed : (facts : List Fact) (mark : ℕ) → map (certain_of paths) (reverse (take mark facts)) ≡ oldest mark (map (certain_of paths) (reverse facts))
  oldest_listed facts mark =
      sym (reverse-reverse (map (certain_of paths) (reverse (take mark facts)))) ∙ ap reverse (map_reverse (take mark facts) ∙ sym (take-map (certain_of paths) mark facts) ∙ ap (take mark) (sym (map_reverse facts)))

pub oldest_facts : (old new : Slots) (facts now : List Fact) (mark : ℕ) → paths_in new ≡ paths_in old → now ≡ take mark facts → certain_by new now ≡ oldest mark (certain_by old facts)
oldest_facts old new facts now mark same e = ap₂ (λ (ps : List Path) (fs : List Fact). map (certain_of ps) (reverse fs)) same e ∙ oldest_listed (paths_in old) facts mark

-- ---- whatever the ways are

sights_same : (ways : List (List Turn)) (p : Path) (n : ℕ) (es : List EntryForm) → sights_beyond p n (map (entry_view []) es) ≡ sights_beyond p n (map (entry_view ways) es)
sights_same ways p n [] = refl
sights_same ways p n (e ∷ es) = ap (λ (l : List Sight). cond (is_same_path e.path p) (record { number = n; is_scope = e.term.is_scope } ∷ l) l) (sights_same ways p (suc n) es)

pub possible_any_way : (ways : List (List Turn)) (k : KnownLists) (p : Path) → is_possible (known_by [] k) p ≡ is_possible (known_by ways k) p
possible_any_way ways k p = ap (λ (b : Bool). k.in_loop || b) (possible_is k.hidden p 0 (map (entry_view []) k.entries) ∙ ap (is_seen k.hidden) (sights_same ways p 0 k.entries) ∙ sym (possible_is k.hidden p 0 (map (entry_view ways) k.entries)))

pub possible_scope_any_way : (ways : List (List Turn)) (k : KnownLists) (p : Path) → is_possible_scope (known_by [] k) p ≡ is_possible_scope (known_by ways k) p
possible_scope_any_way ways k p =
    ap (λ (b : Bool). k.in_loop || b) (possible_scope_is k.hidden p 0 (map (entry_view []) k.entries) ∙ ap (is_scope_seen k.hidden) (sights_same ways p 0 k.entries) ∙ sym (possible_scope_is k.hidden p 0 (map (entry_view ways) k.entries)))
