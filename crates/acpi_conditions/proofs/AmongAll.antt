-- What is known before all tables, seen among the entries of the tables.
use Rattle.std.proofs.Common.{◌≡◌, Bool, true, false, cond, not, ◌&&◌, ◌||◌, List, [], ◌∷◌, ◌++◌, append_assoc, refl, sym, ap, ap₂, ◌∙◌}
use Rattle.std.specs.List.{filter, flat_map, list_any}
use Rattle.std.specs.Prelude.{IsTrue}
use Rattle.std.proofs.lemmas.List.Folds.{list_any-append}
use Rattle.std.proofs.Math.Bool.{and-true}
use Rattle.acpi_name.specs.Names.{NameParts}
use Rattle.acpi_space.specs.Search.{tries}
use Rattle.acpi_space.specs.Lookups.{is_same_path}
use Rattle.acpi_conditions.specs.Entries.{Turn, is_empty, asks_nothing, Entry, HasNoCondition}
use Rattle.acpi_conditions.specs.Known.{Certain, Known, settled}
use Rattle.acpi_conditions.specs.Survey.{known_inside}
use Rattle.acpi_conditions.specs.Links.{are_exclusive, is_part_of, seen_from, links}
use Rattle.acpi_conditions.specs.Views.{known_with}
use Rattle.acpi_conditions.specs.Laws.{AnswerAlike, SeenAmongAll, NamesAmongAll, LinksAmongAll}
use Rattle.acpi_conditions.proofs.Alike.{same_up_to, same_name}

alike_on : (k q r : Known) → AnswerAlike k q → AnswerAlike q r → AnswerAlike k r
alike_on k q r h g = record {
  certain = λ p. h.certain p ∙ g.certain p;
  certain_scope = λ p. h.certain_scope p ∙ g.certain_scope p;
  possible = λ p. h.possible p ∙ g.possible p;
  possible_scope = λ p. h.possible_scope p ∙ g.possible_scope p;
}

or_middle : (a b c : Bool) → (a || (b || c)) ≡ (b || (a || c))
or_middle true true c = refl
or_middle true false c = refl
or_middle false b c = refl

any_middle : {X : Type 0} (test : X → Bool) (xs ys : List X) (x : X) → list_any test (xs ++ x ∷ ys) ≡ list_any test (x ∷ (xs ++ ys))
any_middle test xs ys x = list_any-append test xs (x ∷ ys) ∙ or_middle (list_any test xs) (test x) (list_any test ys) ∙ ap (λ b. test x || b) (sym (list_any-append test xs ys))

-- ---- one entry

abbrev made : Entry → Certain
made f = record { path = f.path; is_scope = f.term.is_scope }

nothing_asked : (has free found : Bool) → (not has && not free && found) ≡ true → (has ≡ false) × (free ≡ false) × (found ≡ true)
nothing_asked true free found e = cc
nothing_asked false true found e = cc
nothing_asked false false true e = (refl, refl, refl)
nothing_asked false false false e = cc

settled_once : (f : Entry) → IsTrue (asks_nothing f.asks) → settled f ≡ made f ∷ []
settled_once f h =
    let n = nothing_asked f.asks.has f.asks.no (is_empty f.asks.needs) h in
    ap₂ (λ has found. cond (has || not found) [] (record { path = f.path; is_scope = f.term.is_scope && not f.asks.no } ∷ [])) n.0 n.2
    ∙ ap (λ free. record { path = f.path; is_scope = f.term.is_scope && not free } ∷ []) n.1
    ∙ ap (λ b. record { path = f.path; is_scope = b } ∷ []) (and-true f.term.is_scope)

module _ (k : Known) (f : Entry) (es : List Entry) (e : Entry) (h : HasNoCondition f) where
  open_entries : k.entries ++ filter (λ x. not (are_exclusive x.way e.way)) (f ∷ es) ≡ (k.entries ++ f ∷ []) ++ filter (λ x. not (are_exclusive x.way e.way)) es
  open_entries =
      ap (λ (w : List Turn). k.entries ++ cond (not (are_exclusive w e.way)) (f ∷ filter (λ x. not (are_exclusive x.way e.way)) es) (filter (λ x. not (are_exclusive x.way e.way)) es)) h.0
      ∙ sym (append_assoc k.entries (f ∷ []) (filter (λ x. not (are_exclusive x.way e.way)) es))

  certain_entries : flat_map settled (filter (λ x. is_part_of x.way e.way) (f ∷ es)) ++ k.certain ≡ made f ∷ (flat_map settled (filter (λ x. is_part_of x.way e.way) es) ++ k.certain)
  certain_entries =
      ap (λ (w : List Turn). flat_map settled (cond (is_part_of w e.way) (f ∷ filter (λ x. is_part_of x.way e.way) es) (filter (λ x. is_part_of x.way e.way) es)) ++ k.certain) h.0
      ∙ ap (λ cs. (cs ++ flat_map settled (filter (λ x. is_part_of x.way e.way) es)) ++ k.certain) (settled_once f h.1)

  certain_alike : (test : Certain → Bool) → list_any test (flat_map settled (filter (λ x. is_part_of x.way e.way) es) ++ made f ∷ k.certain)
      ≡ list_any test (flat_map settled (filter (λ x. is_part_of x.way e.way) (f ∷ es)) ++ k.certain)
  certain_alike test = any_middle test (flat_map settled (filter (λ x. is_part_of x.way e.way) es)) k.certain (made f) ∙ ap (list_any test) (sym certain_entries)

  one_among : AnswerAlike (seen_from (known_inside k f) es e) (seen_from k (f ∷ es) e)
  one_among = record {
    certain = λ p. certain_alike (λ c. is_same_path c.path p);
    certain_scope = λ p. certain_alike (λ c. is_same_path c.path p && c.is_scope);
    possible = λ p. ap (λ xs. k.in_loop || list_any (λ x. is_same_path x.path p) xs) (sym open_entries);
    possible_scope = λ p. ap (λ xs. k.in_loop || list_any (λ x. is_same_path x.path p && x.term.is_scope) xs) (sym open_entries);
  }

-- ---- all of them

pub seen_among_all : SeenAmongAll
seen_among_all k [] es e h = record { certain = λ p. refl; certain_scope = λ p. refl; possible = λ p. refl; possible_scope = λ p. refl }
seen_among_all k (f ∷ fs) es e h =
    alike_on (seen_from (known_with (known_inside k f) fs) es e) (seen_from (known_inside k f) (fs ++ es) e) (seen_from k (f ∷ (fs ++ es)) e)
    (seen_among_all (known_inside k f) fs es e h.1) (one_among k f (fs ++ es) e h.0)

pub names_among_all : NamesAmongAll
names_among_all k fs es e s n h =
    let a : AnswerAlike (seen_from (known_with k fs) es e) (seen_from k (fs ++ es) e) = seen_among_all k fs es e h in
    (same_up_to (seen_from (known_with k fs) es e) (seen_from k (fs ++ es) e) a (tries s n), same_name (seen_from (known_with k fs) es e) (seen_from k (fs ++ es) e) a s n)

pub links_among_all : LinksAmongAll
links_among_all k fs es e names h = by names
  where
    by : (ns : List NameParts) → links (known_with k fs) es e ns ≡ links k (fs ++ es) e ns
    by [] = refl
    by (n ∷ ns) = ap₂ (λ c cs. c ∷ cs) (names_among_all k fs es e e.scope n h).0 (by ns)
