-- SSDTs over a DSDT, by their numbers.
use Rattle.std.proofs.Common.{◌≡◌, ℕ, zero, suc, ◌+◌, ◌<◌, ◌≤◌, List, [], ◌∷◌, ◌++◌, length, get_or, refl, sym, subst, arith, add-one}
use Rattle.acpi_declare.specs.declared.fault.LoadReason.{LoadReason}
use Rattle.acpi_declare.specs.declared.fault.LoadFault.{LoadFault}
use Rattle.acpi_declare.specs.declared.fault.LoadFault.TheVariants.{At, Memory}
use Rattle.acpi_declare.specs.Declaring.{State, HasTables}
use Rattle.acpi_declare.specs.Listing.{Placement}
use Rattle.acpi_declare.specs.Loads.{AreListings, objects_after}
use Rattle.acpi_declare.specs.Predefined.{predefined}
use Rattle.acpi_declare.specs.Refusals.{IsLoadReason, IsFirstWithout, IsLoadFault}
use Rattle.acpi_declare.proofs.Refusals.{refused_has_no_load}
use Rattle.acpi_order.specs.Independent.{StandsAt, LoadsAlone}
use Rattle.acpi_order.specs.Verdicts.{IsSsdt, DsdtLoads, AllAlone}
use Rattle.acpi_verdict.specs.VerdictView.{IsSinglesFault}
use Rattle.acpi_verdict.specs.steps.Overlays.{renumbered}

-- ---- the SSDT of a number

place_within : (bs : List (List ℕ)) (k : ℕ) (b : List ℕ) → StandsAt bs k b → k < length bs
place_within [] k b h = absurd h
place_within (x ∷ bs) zero b h = omega arith
place_within (x ∷ bs) (suc k) b h = let more = place_within bs k b h in omega arith

pub ssdt_within : (bs : List (List ℕ)) (i : ℕ) (b : List ℕ) → IsSsdt bs i b → i ≤ length bs
ssdt_within bs zero b h = absurd h
ssdt_within bs (suc k) b h = let more = place_within bs k b h in omega arith

place_of_item : (bs : List (List ℕ)) (i : ℕ) (b : List ℕ) → i < length bs → b ≡ get_or bs i b → StandsAt bs i b
place_of_item [] i b within e = absurd (omega arith)
place_of_item (x ∷ bs) zero b within e = sym e
place_of_item (x ∷ bs) (suc i) b within e = place_of_item bs i b (omega arith) e

pub ssdt_at : (bs : List (List ℕ)) (i : ℕ) (b : List ℕ) → i < length bs → b ≡ get_or bs i b → IsSsdt bs (i + 1) b
ssdt_at bs i b within e = rw add-one (place_of_item bs i b within e)

pub alone_at : (depth : ℕ) (dsdt : List ℕ) (bs : List (List ℕ)) → AllAlone depth dsdt bs → (i : ℕ) (b : List ℕ) → IsSsdt bs i b → LoadsAlone depth dsdt b
alone_at depth dsdt bs all zero b at = absurd at
alone_at depth dsdt bs all (suc k) b at = by bs all k at
  where
    by : (cs : List (List ℕ)) → AllAlone depth dsdt cs → (k : ℕ) → StandsAt cs k b → LoadsAlone depth dsdt b
    by [] all k at = absurd at
    by (c ∷ cs) all zero at = subst (LoadsAlone depth dsdt) at all.0
    by (c ∷ cs) all (suc k) at = by cs all.1 k at

-- ---- the DSDT alone

pub dsdt_loads : (depth : ℕ) (dsdt : List ℕ) (one : State) → HasTables depth (dsdt ∷ []) one → DsdtLoads depth dsdt
dsdt_loads depth dsdt one h = by h.placements h.listings
  where
    by : (ts : List (List Placement)) → AreListings depth 0 predefined (dsdt ∷ []) ts → DsdtLoads depth dsdt
    by [] a = absurd a
    by (t ∷ []) a = (t, a)
    by (t ∷ u ∷ us) a = absurd a.1

-- a load with one SSDT that is refused is refused at the SSDT, where the DSDT loads
refused_at : (depth : ℕ) (dsdt b : List ℕ) (reason : LoadReason) (number : ℕ) (earlier : List (List ℕ)) (bytes : List ℕ) (later : List (List ℕ)) (placements : List (List Placement))
    → DsdtLoads depth dsdt
    → dsdt ∷ b ∷ [] ≡ earlier ++ bytes ∷ later → length earlier ≡ number → AreListings depth 0 predefined earlier placements
    → IsLoadReason depth number (objects_after predefined placements) bytes reason → number ≡ 1
refused_at depth dsdt b reason number [] bytes later ts loads splits count listings refused =
    let same : dsdt ≡ bytes = cc in
    let none : IsFirstWithout depth (dsdt ∷ []) 0 reason = record {
      earlier = [];
      bytes = dsdt;
      later = [];
      splits = refl;
      count = refl;
      placements = ts;
      listings = listings;
      refused = subst (λ (n : ℕ). IsLoadReason depth n (objects_after predefined ts) dsdt reason) (sym count) (subst (λ (x : List ℕ). IsLoadReason depth number
          (objects_after predefined ts) x reason) (sym same) refused);
    } in
    absurd (refused_has_no_load depth (dsdt ∷ []) (At 0 reason) none (λ e. let never : ⊥ = cc in never) (loads.0 ∷ []) loads.1)
refused_at depth dsdt b reason number (x ∷ []) bytes later ts loads splits count listings refused = sym count
refused_at depth dsdt b reason number (x ∷ y ∷ xs) bytes later ts loads splits count listings refused = absurd (none xs (tails splits))
  where
    tails : dsdt ∷ b ∷ [] ≡ x ∷ y ∷ (xs ++ bytes ∷ later) → [] ≡ xs ++ bytes ∷ later
    tails e = cc

    none : (zs : List (List ℕ)) → [] ≡ zs ++ bytes ∷ later → ⊥
    none [] e = cc
    none (z ∷ zs) e = cc

pub at_ssdt : (depth : ℕ) (dsdt b : List ℕ) (number : ℕ) (reason : LoadReason) → DsdtLoads depth dsdt → IsFirstWithout depth (dsdt ∷ b ∷ []) number reason
    → IsFirstWithout depth (dsdt ∷ b ∷ []) 1 reason
at_ssdt depth dsdt b number reason loads h =
    subst (λ (n : ℕ). IsFirstWithout depth (dsdt ∷ b ∷ []) n reason)
    (refused_at depth dsdt b reason number h.earlier h.bytes h.later h.placements loads h.splits h.count h.listings h.refused) h

-- ---- a refusal

-- SSDT number i + 1, where those up to number i load alone
pub refused_so : (depth : ℕ) (dsdt : List ℕ) (bs : List (List ℕ)) (i : ℕ) (b : List ℕ) (fault : LoadFault) → DsdtLoads depth dsdt
    → ((k : ℕ) (c : List ℕ) → k ≤ i → IsSsdt bs k c → LoadsAlone depth dsdt c) → IsSsdt bs (i + 1) b
    → IsLoadFault depth (dsdt ∷ b ∷ []) fault → IsSinglesFault depth dsdt bs (renumbered (i + 1) fault)
refused_so depth dsdt bs i b (At number reason) loads alone at refused = record {
  loads = loads;
  earlier = λ k c less is. alone k c (omega arith) is;
  is_reason = (b, at, at_ssdt depth dsdt b number reason loads refused);
}
refused_so depth dsdt bs i b Memory loads alone at refused = tt

-- an SSDT that loads alone is refused for want of memory at most
pub memory_alone : (depth : ℕ) (dsdt b : List ℕ) (fault : LoadFault) → LoadsAlone depth dsdt b → IsLoadFault depth (dsdt ∷ b ∷ []) fault → fault ≡ Memory
memory_alone depth dsdt b (At number reason) alone refused =
    absurd (refused_has_no_load depth (dsdt ∷ b ∷ []) (At number reason) refused (λ e. let never : ⊥ = cc in never) (alone.0 ∷ alone.1 ∷ []) alone.2)
memory_alone depth dsdt b Memory alone refused = refl
