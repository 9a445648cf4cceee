-- Where a table is refused, the tables have no load.
use Rattle.std.proofs.Common.{◌≡◌, ◌≢◌, ℕ, suc, ◌+◌, List, [], ◌∷◌, ◌++◌, length, take, Result, Ok, Err, refl, sym, ap, subst, ◌∙◌, arith}
use Rattle.acpi_table.specs.declared.tables.TableFault.{TableFault}
use Rattle.acpi_table.specs.Tables.{IsTable, table_at}
use Rattle.acpi_table.proofs.TableLaws.{table_again, whole_table, table_refuses}
use Rattle.acpi_tree.specs.Tree.{ItemTrees}
use Rattle.acpi_terms.specs.Spelling.{SpellsItems}
use Rattle.acpi_terms.proofs.OneTree.{one_item_tree}
use Rattle.acpi_declare.specs.declared.fault.LoadReason.{LoadReason}
use Rattle.acpi_declare.specs.declared.fault.LoadReason.TheVariants.{Table, NotDsdt, NotSsdt, Trailing, Item, Refused}
use Rattle.acpi_declare.specs.declared.fault.LoadFault.{LoadFault}
use Rattle.acpi_declare.specs.declared.fault.LoadFault.TheVariants.{At, Memory}
use Rattle.acpi_space.specs.Lookups.{union}
use Rattle.acpi_declare.specs.Laws.{OneListing, OneListOfNotes, OneLoad}
use Rattle.acpi_pass.specs.Links.{links_of, all_pending}
use Rattle.acpi_pass.specs.Listing.{Placement, objects_of, IsListing, IsFirstRefusal}
use Rattle.acpi_declare.specs.Loads.{AreListings, objects_after, HasNoLoad}
use Rattle.acpi_pass.specs.Namespace.{Namespace}
use Rattle.acpi_pass.specs.Notes.{all_notes}
use Rattle.acpi_pass.specs.Predefined.{predefined}
use Rattle.acpi_declare.specs.Refusals.{IsLoadReason, IsLoadFault, HasOtherSignature}
use Rattle.acpi_pass.specs.Sites.{sites}
use Rattle.acpi_declare.specs.Tables.{IsTableOf}
use Rattle.acpi_pass.proofs.OneListing.{justified_once, refused_alone}

-- at most one tree stands for a code
one : (code : List ℕ) (is js : ItemTrees) → SpellsItems is code → SpellsItems js code → is ≡ js
one code is js h k = one_item_tree code is js h k

abbrev Cut : Type 0
Cut = Result (List ℕ × List ℕ) TableFault

abbrev cut_as : List ℕ → List ℕ → Cut
cut_as front rest = Ok (front, rest)

abbrev pair : List ℕ → List ℕ → List ℕ × List ℕ
pair a b = (a, b)

abbrev uncut : TableFault → Cut
uncut f = Err f

fronts : (a b c d : List ℕ) → cut_as a b ≡ cut_as c d → (a ≡ c) × (b ≡ d)
fronts a b c d e = let both : pair a b ≡ pair c d = cc in (ap (λ x. x.0) both, ap (λ x. x.1) both)

-- a table that is all of the bytes is the one at their front, and nothing follows it
same_front : (bytes front rest : List ℕ) → IsTable bytes → IsTable front → bytes ≡ front ++ rest → (front ≡ bytes) × (rest ≡ [])
same_front bytes front rest whole table splits = fronts front rest bytes [] (sym (table_again front rest table) ∙ ap table_at (sym splits) ∙ whole_table bytes whole)

signed_otherwise : {depth : ℕ} (number : ℕ) (bytes : List ℕ) (is : ItemTrees) → IsTableOf depth number bytes is → HasOtherSignature number bytes → ⊥
signed_otherwise number bytes is table r = r.other (ap (take 4) (same_front bytes r.front r.rest table.numbered.table r.table r.splits).0 ∙ table.numbered.signed)

-- a table with a listing isn't refused
refuses_none : (depth number : ℕ) (objects : Namespace) (bytes : List ℕ) (reason : LoadReason) (is : ItemTrees) (t : List Placement)
    → IsTableOf depth number bytes is → IsListing objects (sites is) t → IsLoadReason depth number objects bytes reason → ⊥
refuses_none depth number objects bytes (Table f) is t table listing r = let never : uncut f ≡ cut_as bytes [] = sym (table_refuses bytes f r) ∙ whole_table bytes table.numbered.table in cc
refuses_none depth number objects bytes NotDsdt is t table listing r = signed_otherwise number bytes is table r.1
refuses_none depth number objects bytes NotSsdt is t table listing r = signed_otherwise number bytes is table r.1
refuses_none depth number objects bytes Trailing is t table listing r = r.more (same_front bytes r.front r.rest table.numbered.table r.numbered.table r.splits).1
refuses_none depth number objects bytes (Item reason place) is t table listing r = r.1.none is table.spelled table.height
refuses_none depth number objects bytes (Refused refusal path) is t table listing r =
    refused_alone objects (sites is) (refusal, path) t (subst (λ js. IsFirstRefusal objects (sites js) (refusal, path)) (one _ r.0 is r.1.spelled table.spelled) r.2) listing

never_both : (depth k number : ℕ) (objects : Namespace) (earlier later : List (List ℕ)) (bytes : List ℕ) (reason : LoadReason) (es ts : List (List Placement))
    → AreListings depth k objects earlier es → number ≡ k + length earlier → IsLoadReason depth number (objects_after objects es) bytes reason
    → AreListings depth k objects (earlier ++ bytes ∷ later) ts → ⊥
never_both depth k number objects [] later bytes reason [] [] h e r a = a
never_both depth k number objects [] later bytes reason [] (t ∷ ts) h e r a =
    refuses_none depth k objects bytes reason a.0.0 t a.0.1 a.0.2 (subst (λ n. IsLoadReason depth n objects bytes reason) (e ∙ omega arith) r)
never_both depth k number objects [] later bytes reason (u ∷ es) ts h e r a = absurd h
never_both depth k number objects (c ∷ earlier) later bytes reason [] ts h e r a = absurd h
never_both depth k number objects (c ∷ earlier) later bytes reason (u ∷ es) [] h e r a = a
never_both depth k number objects (c ∷ earlier) later bytes reason (u ∷ es) (t ∷ ts) h e r a =
    let trees : a.0.0 ≡ h.0.0 = one _ a.0.0 h.0.0 a.0.1.spelled h.0.1.spelled in
    let same : t ≡ u = justified_once objects [] (sites h.0.0) t u (subst (λ is. IsListing objects (sites is) t) trees a.0.2) h.0.2 in
    never_both depth (suc k) number (union objects (objects_of u)) earlier later bytes reason es ts h.1 (e ∙ omega arith) r
    (subst (λ (v : List Placement). AreListings depth (suc k) (union objects (objects_of v)) (earlier ++ bytes ∷ later) ts) same a.1)

pub refused_has_no_load : (depth : ℕ) (tables : List (List ℕ)) (f : LoadFault) → IsLoadFault depth tables f → f ≢ Memory → HasNoLoad depth tables
refused_has_no_load depth tables Memory h some = absurd (some refl)
refused_has_no_load depth tables (At number reason) h some = λ ts a.
    never_both depth 0 number predefined h.earlier h.later h.bytes reason h.placements ts h.listings (sym h.count ∙ omega arith) h.refused
    (subst (λ bs. AreListings depth 0 predefined bs ts) h.splits a)

-- ---- at most one load

pub same_listings : (depth k : ℕ) (objects : Namespace) (bs : List (List ℕ)) (es ts : List (List Placement)) → AreListings depth k objects bs es → AreListings depth k objects bs ts
    → es ≡ ts
same_listings depth k objects [] [] [] h a = refl
same_listings depth k objects (b ∷ bs) (u ∷ es) (t ∷ ts) h a =
    let trees : a.0.0 ≡ h.0.0 = one _ a.0.0 h.0.0 a.0.1.spelled h.0.1.spelled in
    let same : t ≡ u = justified_once objects [] (sites h.0.0) t u (subst (λ is. IsListing objects (sites is) t) trees a.0.2) h.0.2 in
    ap (λ v. v ∷ es) (sym same) ∙ ap (λ vs. t ∷ vs) (same_listings depth (suc k) (union objects (objects_of u)) bs es ts h.1
    (subst (λ (v : List Placement). AreListings depth (suc k) (union objects (objects_of v)) bs ts) same a.1))
same_listings depth k objects [] (u ∷ es) ts h a = absurd h
same_listings depth k objects [] [] (t ∷ ts) h a = absurd a
same_listings depth k objects (b ∷ bs) [] ts h a = absurd h
same_listings depth k objects (b ∷ bs) (u ∷ es) [] h a = absurd a

pub one_load : OneLoad
one_load depth tables objects objects' links links' h a =
    let same = same_listings depth 0 predefined tables h.placements a.placements h.listings a.listings in
    let objects_same : objects ≡ objects' = h.objects_are ∙ ap (objects_after predefined) same ∙ sym a.objects_are in (
      objects_same,
      h.links_are ∙ ap (λ (es : List (List Placement)). links_of objects (all_pending es)) same ∙ ap (λ (m : Namespace). links_of m (all_pending a.placements)) objects_same ∙ sym a.links_are,
    )

pub one_list_of_notes : OneListOfNotes
one_list_of_notes depth tables notes notes' h a =
    h.notes_are ∙ ap (all_notes predefined) (same_listings depth 0 predefined tables h.placements a.placements h.listings a.listings) ∙ sym a.notes_are

pub one_listing : OneListing
one_listing objects xs es fs h k = justified_once objects [] xs es fs h k
