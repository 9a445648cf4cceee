-- Table after table.
use Rattle.std.proofs.Common.{◌≡◌, ℕ, suc, ◌+◌, List, [], ◌∷◌, ◌++◌, length, Result, IfOk, IfErr, refl, sym, ap, subst, ◌∙◌, append_assoc, append-nil, arith}
use Rattle.acpi_declare.specs.Declaring.{State, HasTables, HasTableOver}
use Rattle.std.proofs.lemmas.Result.{MatchResult-weaker}
use Rattle.acpi_declare.specs.declared.fault.LoadFault.{LoadFault}
use Rattle.acpi_pass.specs.declared.keep.Keep.{Keep}
use Rattle.acpi_pass.specs.declared.keep.Keep.TheVariants.{All}
use Rattle.acpi_declare.specs.declared.fault.LoadFault.TheVariants.{At, Memory}
use Rattle.acpi_space.specs.Lookups.{union}
use Rattle.acpi_pass.specs.Links.{PendingLink, pending_links, all_pending}
use Rattle.acpi_pass.specs.Listing.{Placement, objects_of, IsListing}
use Rattle.acpi_declare.specs.Loads.{AreListings, objects_after}
use Rattle.acpi_pass.specs.Namespace.{Namespace}
use Rattle.acpi_pass.specs.Notes.{Notes, notes_on, all_notes}
use Rattle.acpi_pass.specs.Predefined.{predefined}
use Rattle.acpi_declare.specs.Refusals.{IsLoadReason, IsLoadFault}
use Rattle.acpi_pass.specs.Sites.{sites}
use Rattle.acpi_declare.specs.Tables.{IsTableOf}
use Rattle.acpi_pass.specs.Kept.{kept_of, all_kept}
use Rattle.acpi_declare.specs.steps.Adding.{AddsTable, HasKept, with_notes}
use Rattle.acpi_declare.specs.steps.Outcomes.{IsTableFault}

-- the listings of some tables and of one more behind them
more_listings : (depth k number : ℕ) (objects : Namespace) (bs : List (List ℕ)) (ts : List (List Placement)) (b : List ℕ) (t : List Placement) (is : _)
    → AreListings depth k objects bs ts → number ≡ k + length bs → IsTableOf depth number b is → IsListing (objects_after objects ts) (sites is) t
    → AreListings depth k objects (bs ++ b ∷ []) (ts ++ t ∷ [])
more_listings depth k number objects [] [] b t is h e table listing = ((is, subst (λ n. IsTableOf depth n b is) (e ∙ omega arith) table, listing), tt)
more_listings depth k number objects (c ∷ bs) (u ∷ ts) b t is h e table listing =
    (h.0, more_listings depth (suc k) number (union objects (objects_of u)) bs ts b t is h.1 (e ∙ omega arith) table listing)
more_listings depth k number objects [] (u ∷ ts) b t is h e table listing = absurd h
more_listings depth k number objects (c ∷ bs) [] b t is h e table listing = absurd h

more_objects : (objects : Namespace) (ts : List (List Placement)) (t : List Placement) → objects_after objects (ts ++ t ∷ []) ≡ union (objects_after objects ts) (objects_of t)
more_objects objects [] t = refl
more_objects objects (u ∷ ts) t = more_objects (union objects (objects_of u)) ts t

more_pending : (ts : List (List Placement)) (t : List Placement) → all_pending (ts ++ t ∷ []) ≡ all_pending ts ++ pending_links t
more_pending [] t = append-nil (pending_links t)
more_pending (u ∷ ts) t = ap (λ l. pending_links u ++ l) (more_pending ts t) ∙ sym (append_assoc (pending_links u) (all_pending ts) (pending_links t))

more_notes : (objects : Namespace) (ts : List (List Placement)) (t : List Placement) → all_notes objects (ts ++ t ∷ []) ≡ all_notes objects ts ++ notes_on (objects_after objects ts) t ∷ []
more_notes objects [] t = refl
more_notes objects (u ∷ ts) t = ap (λ ns. notes_on objects u ∷ ns) (more_notes (union objects (objects_of u)) ts t)

pub one_more : (depth number : ℕ) (bs : List (List ℕ)) (b : List ℕ) (before now : State) → number ≡ length bs → HasTables depth bs before
    → AddsTable All depth number b before now → HasTables depth (bs ++ b ∷ []) now
one_more depth number bs b before now e so adds = record {
  placements = so.placements ++ adds.placements ∷ [];
  listings = more_listings depth 0 number predefined bs so.placements b adds.placements adds.is so.listings (e ∙ omega arith) adds.table
      (subst (λ (m : Namespace). IsListing m (sites adds.is) adds.placements) so.objects_are adds.listing);
  objects_are = adds.objects_are ∙ ap (λ (m : Namespace). union m (objects_of adds.placements)) so.objects_are ∙ sym (more_objects predefined so.placements adds.placements);
  links_are = adds.links_are ∙ ap (λ (l : List PendingLink). l ++ pending_links adds.placements) so.links_are ∙ sym (more_pending so.placements adds.placements);
  notes_are = adds.notes_are ∙ ap (λ (l : List Notes). l ++ notes_on before.objects adds.placements ∷ []) so.notes_are
      ∙ ap (λ (m : Namespace). all_notes predefined so.placements ++ notes_on m adds.placements ∷ []) so.objects_are ∙ sym (more_notes predefined so.placements adds.placements);
}

-- .. where not all notes are kept
kept_more : (keep : Keep) (ns : List Notes) (n : Notes) → all_kept keep (ns ++ n ∷ []) ≡ all_kept keep ns ++ kept_of keep n
kept_more keep [] n = append-nil (kept_of keep n)
kept_more keep (m ∷ ns) n = ap (λ l. kept_of keep m ++ l) (kept_more keep ns n) ∙ sym (append_assoc (kept_of keep m) (all_kept keep ns) (kept_of keep n))

pub one_more_kept : (keep : Keep) (depth number : ℕ) (bs : List (List ℕ)) (b : List ℕ) (before now : State) → number ≡ length bs → HasKept keep depth bs before
    → AddsTable keep depth number b before now → HasKept keep depth (bs ++ b ∷ []) now
one_more_kept keep depth number bs b before now e so adds =
    let added = notes_on before.objects adds.placements in
    record {
      notes = so.notes ++ added ∷ [];
      all = one_more depth number bs b (with_notes before so.notes) (with_notes now (so.notes ++ added ∷ [])) e so.all
          (record { is = adds.is; table = adds.table; placements = adds.placements; listing = adds.listing; objects_are = adds.objects_are; links_are = adds.links_are; notes_are = refl });
      kept = adds.notes_are ∙ ap (λ (l : List Notes). l ++ kept_of keep added) so.kept ∙ sym (kept_more keep so.notes added);
    }

pub no_tables_kept : (keep : Keep) (depth : ℕ) (now : State) → HasTables depth [] now → now.notes ≡ [] → HasKept keep depth [] now
no_tables_kept keep depth now so none = record { notes = []; all = subst (λ (l : List Notes). HasTables depth [] (with_notes now l)) none so; kept = none }

pub all_are_kept : (ns : List Notes) → all_kept All ns ≡ ns
all_are_kept [] = refl
all_are_kept (n ∷ ns) = ap (λ l. n ∷ l) (all_are_kept ns)

-- .. where it alone keeps its links and notes
pub one_over : (depth number : ℕ) (bs : List (List ℕ)) (b : List ℕ) (all before now : State) → number ≡ length bs → (so : HasTables depth bs all)
    → before.objects ≡ all.objects → before.links ≡ [] → before.notes ≡ []
    → AddsTable All depth number b before now → HasTableOver depth bs so.placements b now
one_over depth number bs b all before now e so same no_links no_notes adds = record {
  placements = adds.placements;
  listings = more_listings depth 0 number predefined bs so.placements b adds.placements adds.is so.listings (e ∙ omega arith) adds.table
      (subst (λ (m : Namespace). IsListing m (sites adds.is) adds.placements) objects adds.listing);
  objects_are = adds.objects_are ∙ ap (λ (m : Namespace). union m (objects_of adds.placements)) objects;
  links_are = adds.links_are ∙ ap (λ (l : List PendingLink). l ++ pending_links adds.placements) no_links;
  notes_are = adds.notes_are ∙ ap (λ (l : List Notes). l ++ notes_on before.objects adds.placements ∷ []) no_notes ∙ ap (λ (m : Namespace). notes_on m adds.placements ∷ []) objects;
}
  where
    objects : before.objects ≡ objects_after predefined so.placements
    objects = same ∙ so.objects_are

-- nothing was declared yet, whatever the depth
pub no_tables : (depth other : ℕ) (now : State) → HasTables other [] now → HasTables depth [] now
no_tables depth other now so = by so.placements refl
  where
    by : (ts : List (List Placement)) → so.placements ≡ ts → HasTables depth [] now
    by [] e = record {
      placements = [];
      listings = tt;
      objects_are = so.objects_are ∙ ap (objects_after predefined) e;
      links_are = so.links_are ∙ ap all_pending e;
      notes_are = so.notes_are ∙ ap (all_notes predefined) e;
    }
    by (t ∷ ts) e = absurd (subst (AreListings other 0 predefined []) e so.listings)

-- .. and nothing was noted
pub no_notes_yet : (depth : ℕ) (now : State) → HasTables depth [] now → now.notes ≡ []
no_notes_yet depth now so = by so.placements refl
  where
    by : (ts : List (List Placement)) → so.placements ≡ ts → now.notes ≡ []
    by [] e = so.notes_are ∙ ap (all_notes predefined) e
    by (t ∷ ts) e = absurd (subst (AreListings depth 0 predefined []) e so.listings)

-- the next table's fault is the load's
pub next_fault : (depth number : ℕ) (bs later all : List (List ℕ)) (b : List ℕ) (before : State) (f : LoadFault) → all ≡ bs ++ b ∷ later → number ≡ length bs
    → HasTables depth bs before
    → IsTableFault depth number before.objects b f → IsLoadFault depth all f
next_fault depth number bs later all b before Memory splits e so h = tt
next_fault depth number bs later all b before (At k reason) splits e so h = record {
  earlier = bs;
  bytes = b;
  later = later;
  splits = splits;
  count = sym e ∙ sym h.0;
  placements = so.placements;
  listings = so.listings;
  refused = refused;
}
  where
    refused : IsLoadReason depth k (objects_after predefined so.placements) b reason
    refused = subst (λ n. IsLoadReason depth n (objects_after predefined so.placements) b reason) (sym h.0) (subst (λ (m : Namespace). IsLoadReason depth number m b reason) so.objects_are h.1)

-- ---- as many notes as tables

pub count_listings : (depth k : ℕ) (objects : Namespace) (bs : List (List ℕ)) (ts : List (List Placement)) → AreListings depth k objects bs ts → length ts ≡ length bs
count_listings depth k objects [] [] h = refl
count_listings depth k objects (b ∷ bs) (t ∷ ts) h = ap suc (count_listings depth (suc k) (union objects (objects_of t)) bs ts h.1)
count_listings depth k objects [] (t ∷ ts) h = absurd h
count_listings depth k objects (b ∷ bs) [] h = absurd h

pub count_notes : (objects : Namespace) (ts : List (List Placement)) → length (all_notes objects ts) ≡ length ts
count_notes objects [] = refl
count_notes objects (t ∷ ts) = ap suc (count_notes (union objects (objects_of t)) ts)

pub count_tables : (depth : ℕ) (bs : List (List ℕ)) (now : State) → HasTables depth bs now → length now.notes ≡ length bs
count_tables depth bs now so = ap length so.notes_are ∙ count_notes predefined so.placements ∙ count_listings depth 0 predefined bs so.placements so.listings

-- ---- what the addition of a table tells

module _ {T : Type 0} (state : T → State) (depth number : ℕ) (bs : List (List ℕ)) (b : List ℕ) (before : State) (r : Result T LoadFault) (e : number ≡ length bs)
    (so : HasTables depth bs before) where
  pub adds_ok : IfOk r (λ d. AddsTable All depth number b before (state d)) → IfOk r (λ d. HasTables depth (bs ++ b ∷ []) (state d))
  adds_ok h = MatchResult-weaker r h (λ d a. one_more depth number bs b before (state d) e so a) (λ f u. u)

  pub adds_err : IfErr r (λ f. IsTableFault depth number before.objects b f) → (later : List (List ℕ)) → IfErr r (λ f. IsLoadFault depth (bs ++ b ∷ later) f)
  adds_err h later = MatchResult-weaker r h (λ d u. u) (λ f t. next_fault depth number bs later (bs ++ b ∷ later) b before f refl e so t)

-- .. over the objects of these tables alone
pub adds_over : {T : Type 0} (state : T → State) (depth number : ℕ) (bs : List (List ℕ)) (b : List ℕ) (all before : State) (r : Result T LoadFault) → number ≡ length bs
    → (so : HasTables depth bs all)
    → before.objects ≡ all.objects → before.links ≡ [] → before.notes ≡ [] → IfOk r (λ d. AddsTable All depth number b before (state d))
    → IfOk r (λ d. HasTableOver depth bs so.placements b (state d))
adds_over state depth number bs b all before r e so same no_links no_notes h =
    MatchResult-weaker r h (λ d a. one_over depth number bs b all before (state d) e so same no_links no_notes a) (λ f u. u)
