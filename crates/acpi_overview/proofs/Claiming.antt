-- What one container, or one descriptor, adds to claims.
use Rattle.std.proofs.Common.{◌≡◌, ◌<◌, ◌+◌, ℕ, Bool, List, [], ◌∷◌, ◌++◌, length, take, get_or, slice_get, Option, Some, None, refl, sym, ap, ◌∙◌, append_assoc}
use Rattle.std.specs.List.{cons_option}
use Rattle.std.proofs.lemmas.List.{take_more, append-nil}
use Rattle.std.proofs.lemmas.List.Elements.{filter_map-append}
use Rattle.std.proofs.lemmas.Option.{gets}
use Rattle.acpi_resources.specs.declared.descriptor.Descriptor.{Descriptor}
use Rattle.acpi_resources.specs.declared.template.Template.{Template}
use Rattle.acpi_overview.specs.Claims.{claim_to, claimed_range, claims_at, claims_in, claims_of}
use Rattle.acpi_overview.specs.declared.claims.Claim.{Claim}
use Rattle.acpi_overview.specs.declared.containers.Container.{Container}
use Rattle.acpi_overview.specs.declared.resources.AddressKind.{AddressKind}

nothing : (claims more : List Claim) → more ≡ [] → claims ≡ claims ++ more
nothing claims more e = rw e (sym (append-nil claims))

without_container : (kind : AddressKind) (n : ℕ) (c : Option Container) (r : Option (Option Template)) → c ≡ None → claims_of kind n c r ≡ []
without_container kind n c r e = rw e refl

without_resource : (kind : AddressKind) (n : ℕ) (c : Option Container) (r : Option (Option Template)) → r ≡ None → claims_of kind n c r ≡ []
without_resource kind n None r e = refl
without_resource kind n (Some c) r e = rw e refl

without_template : (kind : AddressKind) (n : ℕ) (c : Option Container) (r : Option (Option Template)) → r ≡ Some None → claims_of kind n c r ≡ []
without_template kind n None r e = refl
without_template kind n (Some c) r e = rw e refl

module _ (kind : AddressKind) (containers : List Container) (resources : List (Option Template)) (n : ℕ) (claims : List Claim) where
  pub no_container : slice_get containers n ≡ None → claims ≡ claims ++ claims_at kind containers resources n
  no_container e = nothing claims _ (without_container kind n _ _ e)

  pub no_resource : slice_get resources n ≡ None → claims ≡ claims ++ claims_at kind containers resources n
  no_resource e = nothing claims _ (without_resource kind n _ _ e)

  pub no_template : slice_get resources n ≡ Some None → claims ≡ claims ++ claims_at kind containers resources n
  no_template e = nothing claims _ (without_template kind n (slice_get containers n) _ e)

pub ruleset of_places = (gets, no_container, no_resource, no_template)

-- one descriptor more
claims_more : (kind : AddressKind) (is_bridge : Bool) (number i : ℕ) (ds : List Descriptor) (d : Descriptor) (old : List Claim) → i < length ds
    → (old ++ claims_in kind is_bridge number (take i ds)) ++ cons_option (claim_to kind number (claimed_range is_bridge (get_or ds i d))) []
    ≡ old ++ claims_in kind is_bridge number (take (i + 1) ds)
claims_more kind is_bridge number i ds d old below =
    append_assoc old _ _ ∙ ap (λ l. old ++ l)
    (sym (filter_map-append (λ (x : Descriptor). claim_to kind number (claimed_range is_bridge x)) (take i ds) (get_or ds i d ∷ []))
    ∙ ap (λ l. claims_in kind is_bridge number l) (sym (take_more ds i d below)))

pub claims_next : (kind : AddressKind) (is_bridge : Bool) (number i : ℕ) (ds : List Descriptor) (d : Descriptor)
    (old now new : List Claim) (range : Option (AddressKind × ℕ × ℕ)) → i < length ds
    → now ≡ old ++ claims_in kind is_bridge number (take i ds) → range ≡ claimed_range is_bridge (get_or ds i d)
    → new ≡ now ++ cons_option (claim_to kind number range) [] → new ≡ old ++ claims_in kind is_bridge number (take (i + 1) ds)
claims_next kind is_bridge number i ds d old now new range below front of more =
    rw (more, front, of) (claims_more kind is_bridge number i ds d old below)
