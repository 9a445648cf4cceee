-- What is known behind a strict table: all that is made is still certain.
use Rattle.std.proofs.Common.{◌≡◌, ◌&&◌, ◌||◌, Bool, true, false, true≢false, not, cond, List, [], ◌∷◌, ◌++◌, inl, inr, ◌⊎◌, Some, refl, sym, ap, subst, ◌∙◌}
use Rattle.std.specs.List.{AllByRecursion, flat_map}
use Rattle.std.specs.Prelude.{IsTrue}
use Rattle.std.proofs.Math.Seq.{drop-append_seam}
use Rattle.acpi_name.specs.Names.{NameParts}
use Rattle.acpi_space.specs.Laws.{Among}
use Rattle.acpi_space.proofs.Elements.{among_left, among_right, among_append, among_all}
use Rattle.acpi_conditions.specs.Nodes.{Term}
use Rattle.acpi_conditions.specs.Entries as entries
use Rattle.acpi_conditions.specs.Entries.{Path, Turn, is_empty, Entry, HasNoCondition}
use Rattle.acpi_conditions.specs.Known.{Certain, Known, settled}
use Rattle.acpi_conditions.specs.Survey.{Survey, lasting, behind_table}
use Rattle.acpi_conditions.specs.Laws.{IsAllOf}
use Rattle.acpi_conditions.specs.Walk.{Walk, passed, pass, given_since, started, end_table}
use Rattle.acpi_conditions.proofs.Basics.{among_flat}
use Rattle.acpi_conditions.proofs.Declaring.{AreCertain, settled_made}
use Rattle.acpi_conditions.proofs.Strict.{flat_among}

-- ---- an entry without a condition lasts

lasting_has : (e : Entry) → HasNoCondition e → Among (lasting e) (record { path = e.path; is_scope = e.term.is_scope })
lasting_has e h =
    subst (λ (w : List Turn). Among {X = Certain} (cond (is_empty w) (settled e) []) (record { path = e.path; is_scope = e.term.is_scope })) (sym h.0)
    (by e.asks.has e.asks.no e.asks.needs h.1 e.term.is_scope)
  where
    by : (has free : Bool) (needs : List NameParts) → IsTrue (not has && not free && is_empty needs) → (s : Bool)
        → Among {X = Certain} (cond (has || not (is_empty needs)) [] (record { path = e.path; is_scope = s && not free } ∷ [])) (record { path = e.path; is_scope = s })
    by true free needs h s = absurd (true≢false (sym h))
    by false true needs h s = absurd (true≢false (sym h))
    by false false (n ∷ ns) h s = absurd (true≢false (sym h))
    by false false [] h true = inl refl
    by false false [] h false = inl refl

-- ---- behind the entries of a table

module _ (before : entries.Namespace) (k : Known) (first : IsAllOf before k) (terms : entries.Namespace) (all : Known) (es : List Entry) (known : IsAllOf terms all)
    (joined : all.entries ≡ k.entries ++ es) (free : AllByRecursion HasNoCondition es) where
  -- what is known when the table is left
  abbrev after_table : Known
  after_table = record k { entries = k.entries ++ es; certain = flat_map lasting es ++ k.certain }

  is_made : (e : Entry) → Among (k.entries ++ es) e → terms e.path ≡ Some e.term
  is_made e m = known.entries_are_made e (subst (λ (l : List Entry). Among l e) (sym joined) m)

  grows : (p : Path) (t : Term) → before p ≡ Some t → terms p ≡ Some t
  grows p t is =
      let e = first.is_true.possible (ap not first.not_in_loop) p t is in
      ap terms (sym e.2) ∙ is_made e.0 (among_left k.entries es e.0 e.1) ∙ ap Some e.3

  lasting_made : (e : Entry) → terms e.path ≡ Some e.term → (b : Bool) → AreCertain terms (cond b (settled e) [])
  lasting_made e is true c m = settled_made terms e is c m
  lasting_made e is false c m = absurd m

  certain_made : AreCertain terms (flat_map lasting es ++ k.certain)
  certain_made c m = by (among_append (flat_map lasting es) k.certain c m)
    where
      by : Among (flat_map lasting es) c ⊎ Among k.certain c → (t : Term) × (terms c.path ≡ Some t) × (IsTrue c.is_scope → IsTrue t.is_scope)
      by (inl n) =
          let e = among_flat lasting es c n in
          lasting_made e.0 (is_made e.0 (among_right k.entries es e.0 e.1)) (is_empty e.0.way) c e.2
      by (inr n) = let t = first.is_true.certain c n in (t.0, grows c.path t.0 t.1, t.2)

  made_certain : (p : Path) (t : Term) → terms p ≡ Some t → Among (flat_map lasting es ++ k.certain) (record { path = p; is_scope = t.is_scope })
  made_certain p t is =
      let e = known.is_true.possible (ap not known.not_in_loop) p t is in
      by e.0 e.2 e.3 (among_append k.entries es e.0 (subst (λ (l : List Entry). Among l e.0) joined e.1))
    where
      by : (e : Entry) → e.path ≡ p → e.term ≡ t → Among k.entries e ⊎ Among es e → Among (flat_map lasting es ++ k.certain) (record { path = p; is_scope = t.is_scope })
      by e path term (inl m) =
          among_right (flat_map lasting es) k.certain (record { path = p; is_scope = t.is_scope })
          (first.made_are_certain p t (ap before (sym path) ∙ first.entries_are_made e m ∙ ap Some term))
      by e path term (inr m) =
          among_left (flat_map lasting es) k.certain (record { path = p; is_scope = t.is_scope })
          (flat_among lasting es e (record { path = p; is_scope = t.is_scope }) m
          (subst (λ (c : Certain). Among (lasting e) c) (λ i. record { path = path i; is_scope = (term i).is_scope }) (lasting_has e (among_all HasNoCondition es free e m))))

  pub all_behind : IsAllOf terms after_table
  all_behind = record {
    is_true = record {
      certain = certain_made;
      possible = λ l p t is.
          let e = known.is_true.possible (ap not known.not_in_loop) p t is in
          (e.0, subst (λ (l : List Entry). Among l e.0) joined e.1, e.2, e.3);
    };
    not_in_loop = first.not_in_loop;
    made_are_certain = made_certain;
    entries_are_made = is_made;
  }

-- ---- a table's walk

pub known_behind_table : (start w : Walk) (x : Survey) → started start ≡ start → pass w ≡ passed x start
    → (end_table w).known ≡ record start.known { entries = start.known.entries ++ x.entries; certain = flat_map lasting x.entries ++ start.known.certain }
known_behind_table start w x is walked =
    ap (λ (u : Walk). behind_table u.start.known (given_since u.start u)) walked
    ∙ ap (λ (u : Walk). behind_table u.start.known (given_since u.start (passed x start))) (sym is)
    ∙ (λ i. record start.known {
      entries = start.known.entries ++ drop-append_seam start.entries x.entries i;
      certain = flat_map lasting (drop-append_seam start.entries x.entries i) ++ start.known.certain;
    })
