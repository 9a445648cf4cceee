-- What entries settle, by their numbers.
use Rattle.std.proofs.Common.{◌≡◌, ℕ, Bool, true, false, List, [], ◌∷◌, ◌++◌, map, length, Option, Some, None, slice_get, refl, sym, ap, ◌∙◌, append-nil}
use Rattle.std.specs.List.{flat_map}
use Rattle.std.specs.Option.{option_map, option_to_list}
use Rattle.std.proofs.lemmas.Option.{slice_get-map}
use Rattle.acpi_conditions.specs.Entries.{Path, Turn, Entry}
use Rattle.acpi_conditions.specs.Known.{Certain, settled}
use Rattle.acpi_conditions.specs.Walk.{Package, Walk}
use Rattle.acpi_conditions.specs.EntryForms.{entry_view}
use Rattle.acpi_conditions.specs.declared.entry.Entry.{Entry as EntryForm}
use Rattle.acpi_conditions.specs.declared.statuses.Presence.{Presence}
use Rattle.acpi_conditions.specs.declared.statuses.Presence.TheVariants.{Nothing}
use Rattle.acpi_conditions.specs.declared.walk.Walk.TheInside.{Inside}
use Rattle.acpi_conditions.specs.steps.Facts.{raised}
use Rattle.acpi_conditions.specs.steps.Moves.{with_certain, with_entry, gone_out}
use Rattle.acpi_conditions.specs.steps.Settled.{certain_at, certain_there}
use Rattle.acpi_conditions.specs.steps.Walks.{walk_of}
use Rattle.acpi_conditions.proofs.Viewing.{get_behind}

pub raised_there : (b : Bool) (p : Path) → certain_at p (raised b Nothing) ≡ record { path = p; is_scope = b } ∷ []
raised_there true p = refl
raised_there false p = refl

pub none_certain : (o : Option Path) → certain_there Nothing o ≡ []
none_certain None = refl
none_certain (Some p) = refl

-- the path of the entry of a number, whatever the ways are
pub path_viewed : (ways : List (List Turn)) (es : List EntryForm) (n : ℕ) → option_map (λ e. e.path) (slice_get es n) ≡ option_map (λ e. e.path) (slice_get (map (entry_view ways) es) n)
path_viewed ways es n = by (slice_get es n) ∙ ap (option_map (λ (e : Entry). e.path)) (sym (slice_get-map (entry_view ways) es n))
  where
    by : (o : Option EntryForm) → option_map (λ e. e.path) o ≡ option_map (λ e. e.path) (option_map (entry_view ways) o)
    by None = refl
    by (Some e) = refl

pub viewed_there : (w : Inside) (v : Walk) (n : ℕ) (e : EntryForm) → walk_of w ≡ v → slice_get w.paths.entries n ≡ Some e → slice_get v.entries n ≡ Some (entry_view w.ways e)
viewed_there w v n e view at = ap (λ (u : Walk). slice_get u.entries n) (sym view) ∙ slice_get-map (entry_view w.ways) w.paths.entries n ∙ ap (option_map (entry_view w.ways)) at

pub none_viewed : (w : Inside) (v : Walk) (n : ℕ) → walk_of w ≡ v → slice_get w.paths.entries n ≡ None → slice_get v.entries n ≡ None
none_viewed w v n view at = ap (λ (u : Walk). slice_get u.entries n) (sym view) ∙ slice_get-map (entry_view w.ways) w.paths.entries n ∙ ap (option_map (entry_view w.ways)) at

module _ (f : Entry → List Certain) (o : Option Entry) where
  pub settled_there : (e : Entry) (presence : Presence) → o ≡ Some e → certain_at e.path presence ≡ f e → certain_there presence (option_map (λ e. e.path) o) ≡ flat_map f (option_to_list o)
  settled_there e presence is h =
      ap (λ (o : Option Entry). certain_there presence (option_map (λ e. e.path) o)) is ∙ h ∙ sym (append-nil (f e)) ∙ ap (λ (o : Option Entry). flat_map f (option_to_list o)) (sym is)

  pub nothing_there : o ≡ None → certain_there Nothing (option_map (λ e. e.path) o) ≡ flat_map f (option_to_list o)
  nothing_there is = ap (λ (o : Option Entry). certain_there Nothing (option_map (λ e. e.path) o)) is ∙ ap (λ (o : Option Entry). flat_map f (option_to_list o)) (sym is)

-- ---- the entry that was put last

module _ (w : Walk) (e : Entry) (n : ℕ) (last : n ≡ length w.entries) where
  last_there : slice_get (w.entries ++ e ∷ []) n ≡ Some e
  last_there = ap (slice_get (w.entries ++ e ∷ [])) last ∙ get_behind w.entries [] e

  pub last_certified : (presence : Presence) → with_certain (certain_there presence (option_map (λ e. e.path) (slice_get (with_entry e w).entries n)) ++ (with_entry e w).known.certain) (with_entry e w)
      ≡ with_certain (certain_at e.path presence ++ w.known.certain) (with_entry e w)
  last_certified presence = ap (λ (o : Option Entry). with_certain (certain_there presence (option_map (λ e. e.path) o) ++ w.known.certain) (with_entry e w)) last_there

  pub last_settled : with_certain (flat_map settled (option_to_list (slice_get (with_entry e w).entries n)) ++ (with_entry e w).known.certain) (with_entry e w) ≡ with_certain (settled e ++ w.known.certain) (with_entry e w)
  last_settled =
      ap (λ (o : Option Entry). with_certain (flat_map settled (option_to_list o) ++ w.known.certain) (with_entry e w)) last_there
      ∙ ap (λ (cs : List Certain). with_certain (cs ++ w.known.certain) (with_entry e w)) (append-nil (settled e))

-- ---- behind a package

pub gone_entries : (keeps : Bool) (ps : List Package) (w : Walk) → (gone_out keeps ps w).entries ≡ w.entries
gone_entries keeps [] w = refl
gone_entries keeps (p ∷ outer) w = refl
