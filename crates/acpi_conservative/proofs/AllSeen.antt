-- Where no entry has a condition, each is seen from each, and stands at its path for certain.
use Rattle.std.proofs.Common.{◌≡◌, ◌||◌, ◌&&◌, Bool, true, false, true≢false, not, cond, List, [], ◌∷◌, ◌++◌, find, append-nil, is_some, Some, refl, sym, ap, ◌∙◌}
use Rattle.std.specs.Prelude.{option_to_list, IsTrue}
use Rattle.std.specs.List.{AllByRecursion, filter, flat_map, list_any}
use Rattle.std.proofs.lemmas.Bool.{false_from_ne_true}
use Rattle.acpi_name.specs.Names.{NameParts}
use Rattle.acpi_space.specs.Lookups.{is_same_path}
use Rattle.acpi_conditions.specs.Entries.{Path, Turn, is_empty, Entry, HasNoCondition}
use Rattle.acpi_conditions.specs.Known.{Certain, Known, is_certain, is_possible, up_to_certain, settled}
use Rattle.acpi_conditions.specs.Links.{are_exclusive, is_part_of}
use Rattle.acpi_conditions.specs.Views.{seen_by}

-- an entry stands at the path
abbrev pub is_there : List Entry → Path → Bool
is_there es p = list_any (λ (f : Entry). is_same_path f.path p) es

none_exclusive : (es : List Entry) (e : Entry) → AllByRecursion HasNoCondition es → filter (λ (f : Entry). not (are_exclusive f.way e.way)) es ≡ es
none_exclusive [] e h = refl
none_exclusive (f ∷ es) e h =
    let rest : List Entry = filter (λ (f : Entry). not (are_exclusive f.way e.way)) es in
    ap (λ (w : List Turn). cond (not (are_exclusive w e.way)) (f ∷ rest) rest) h.0.0 ∙ ap (λ (fs : List Entry). f ∷ fs) (none_exclusive es e h.1)

all_parts : (es : List Entry) (e : Entry) → AllByRecursion HasNoCondition es → filter (λ (f : Entry). is_part_of f.way e.way) es ≡ es
all_parts [] e h = refl
all_parts (f ∷ es) e h =
    let rest : List Entry = filter (λ (f : Entry). is_part_of f.way e.way) es in
    ap (λ (w : List Turn). cond (is_part_of w e.way) (f ∷ rest) rest) h.0.0 ∙ ap (λ (fs : List Entry). f ∷ fs) (all_parts es e h.1)

one_settled : (p : Path) (f : Entry) → HasNoCondition f → (more : List Certain) → list_any (λ (c : Certain). is_same_path c.path p) (settled f ++ more) ≡ (is_same_path f.path p || list_any (λ (c : Certain). is_same_path c.path p) more)
one_settled p f h more = by f.asks.has f.asks.no f.asks.needs h.1
  where
    by : (has free : Bool) (needs : List NameParts) → IsTrue (not has && not free && is_empty needs)
        → list_any (λ (c : Certain). is_same_path c.path p) (cond (has || not (is_empty needs)) [] (record { path = f.path; is_scope = f.term.is_scope && not free } ∷ []) ++ more)
        ≡ (is_same_path f.path p || list_any (λ (c : Certain). is_same_path c.path p) more)
    by true free needs h = absurd (true≢false (sym h))
    by false true needs h = absurd (true≢false (sym h))
    by false false (n ∷ ns) h = absurd (true≢false (sym h))
    by false false [] h = refl

any_settled : (p : Path) (es : List Entry) → AllByRecursion HasNoCondition es → list_any (λ (c : Certain). is_same_path c.path p) (flat_map settled es) ≡ is_there es p
any_settled p [] h = refl
any_settled p (f ∷ es) h = one_settled p f h.0 (flat_map settled es) ∙ ap (λ b. is_same_path f.path p || b) (any_settled p es h.1)

module _ (es : List Entry) (e : Entry) (h : AllByRecursion HasNoCondition es) where
  pub seen_certain : (p : Path) → is_certain (seen_by (record { entries = es; entry = e })) p ≡ is_there es p
  seen_certain p =
      ap (λ (cs : List Certain). list_any (λ (c : Certain). is_same_path c.path p) cs) (append-nil (flat_map settled (filter (λ (f : Entry). is_part_of f.way e.way) es)))
      ∙ ap (λ (fs : List Entry). list_any (λ (c : Certain). is_same_path c.path p) (flat_map settled fs)) (all_parts es e h)
      ∙ any_settled p es h

  pub seen_possible : (p : Path) → is_possible (seen_by (record { entries = es; entry = e })) p ≡ is_there es p
  seen_possible p = ap (λ (fs : List Entry). is_there fs p) (none_exclusive es e h)

-- ---- the search over what is certain

-- where all that is possible is certain, there is one candidate at most: what the search finds
pub one_candidate : (k : Known) (there : Path → Bool) → ((p : Path) → is_certain k p ≡ there p) → ((p : Path) → is_possible k p ≡ true → there p ≡ true) → (ps : List Path)
    → up_to_certain k ps ≡ option_to_list (find there ps)
one_candidate k there certain possible [] = refl
one_candidate k there certain possible (p ∷ ps) = by (there p) refl (one_candidate k there certain possible ps)
  where
    by : (b : Bool) → there p ≡ b → up_to_certain k ps ≡ option_to_list (find there ps) → up_to_certain k (p ∷ ps) ≡ option_to_list (cond (there p) (Some p) (find there ps))
    by true is rest =
        ap (λ b. cond b (p ∷ []) (cond (is_possible k p) (p ∷ up_to_certain k ps) (up_to_certain k ps))) (certain p ∙ is)
        ∙ sym (ap (λ b. option_to_list (cond b (Some p) (find there ps))) is)
    by false is rest =
        ap (λ b. cond b (p ∷ []) (cond (is_possible k p) (p ∷ up_to_certain k ps) (up_to_certain k ps))) (certain p ∙ is)
        ∙ ap (λ b. cond b (p ∷ up_to_certain k ps) (up_to_certain k ps)) (false_from_ne_true (is_possible k p) (λ y. true≢false (sym (possible p y) ∙ is)))
        ∙ rest
        ∙ sym (ap (λ b. option_to_list (cond b (Some p) (find there ps))) is)

-- .. and where there is one, it is certain
pub one_certain : (k : Known) (there : Path → Bool) → ((p : Path) → is_certain k p ≡ there p) → (ps : List Path) → list_any (is_certain k) ps ≡ is_some (find there ps)
one_certain k there certain [] = refl
one_certain k there certain (p ∷ ps) = ap (λ b. b || list_any (is_certain k) ps) (certain p) ∙ by (there p) (one_certain k there certain ps)
  where
    by : (b : Bool) → list_any (is_certain k) ps ≡ is_some (find there ps) → (b || list_any (is_certain k) ps) ≡ is_some (cond b (Some p) (find there ps))
    by true rest = refl
    by false rest = rest
