-- Links and bodies that one more table leaves as they were.
use Rattle.std.proofs.Common.{◌≡◌, ◌≢◌, ◌↔◌, ℕ, Bool, true, false, cond, ◌||◌, List, [], ◌∷◌, is_some, Option, Some, None, ◌⊎◌, inl, inr, refl, sym, ap, subst, ◌∙◌}
use Rattle.std.specs.List.{AllByRecursion}
use Rattle.std.specs.Option.{option_or}
use Rattle.std.specs.FinMap as finite
use Rattle.std.proofs.lemmas.Bool.{or_right}
use Rattle.acpi_name.specs.Names.{Segment, NameParts}
use Rattle.acpi_space.specs.Search.{answer, missed, tries}
use Rattle.acpi_space.specs.Laws.{Among}
use Rattle.acpi_space.specs.Lookups.{is_defined_in, is_same_path, union}
use Rattle.acpi_space.specs.Spaces.{is_defined}
use Rattle.acpi_space.proofs.KeptSearches.{kept_find, kept_skipped, fewer_skipped}
use Rattle.acpi_space.proofs.Elements.{among_all, all_map, none_of, not_both, one_some}
use Rattle.acpi_tree.specs.Objects.{ObjectTree}
use Rattle.acpi_tree.specs.Terms.{TermTrees}
use Rattle.acpi_declare.specs.Namespace.{Namespace}
use Rattle.acpi_declare.specs.Links.{answers, PendingLink}
use Rattle.acpi_pass.proofs.Unions.{path_same}
use Rattle.acpi_body.specs.Arguments.{Locals, defined_with, expected_place, args_in, args_at}
use Rattle.acpi_body.specs.Bodies.{BodyTree, read, unread}
use Rattle.acpi_body.specs.Searches.{all_searches, IsSpelledIn}
use Rattle.acpi_order.specs.Bodies.{Method, grammar_of, IsReading, IsBody}
use Rattle.acpi_order.specs.Misses.{IsLinkMiss, IsBodyMiss, IsAwaiting}
use Rattle.acpi_body.specs.Misses.{awaited_place, unless_found}
use Rattle.acpi_body.proofs.Grown.{found_passes, awaited_counts}
use Rattle.acpi_order.proofs.Lists.{all_among, skipped_fail, some_or_none}
use Rattle.acpi_order.proofs.Listings.{other_path, some_up}
use Rattle.acpi_order.proofs.ReadBodies.{kept_reads, spelled_reads, HasNoReading, reading_or_none, one_reading_there}
use Rattle.acpi_order.proofs.Counted.{expected}

-- a search answers and misses as before where nothing comes at what it missed

or_free : (a x : Option ObjectTree) → is_some a ≡ false → x ≡ None → is_some (option_or a x) ≡ false
or_free None x e free = ap (λ (y : Option ObjectTree). is_some y) free
or_free (Some o) x e free = cc

module _ (objects more : Namespace) where
  abbrev O : Namespace
  O = union objects more

  -- nothing comes at a path that the search missed
  abbrev IsQuiet : (List Segment → Bool) → List Segment → NameParts → Type 0
  IsQuiet defined s n = (p : List Segment) → Among (missed defined s n) p → more p ≡ None

  still_free : (s : List Segment) (n : NameParts) → IsQuiet (is_defined_in objects) s n → AllByRecursion (λ p. is_defined_in O p ≡ false) (missed (is_defined_in objects) s n)
  still_free s n quiet = all_among _ _ (λ p m. or_free (objects p) (more p)
      (among_all (λ q. is_defined_in objects q ≡ false) _ (skipped_fail (is_defined_in objects) (tries s n)) p m) (quiet p m))

  answer_stays : (s : List Segment) (n : NameParts) → IsQuiet (is_defined_in objects) s n → answer (is_defined_in O) s n ≡ answer (is_defined_in objects) s n
  answer_stays s n quiet = kept_find (is_defined_in objects) (is_defined_in O) (λ p e. some_up (objects p) (more p) e) (tries s n) (still_free s n quiet)

  missed_stays : (s : List Segment) (n : NameParts) → IsQuiet (is_defined_in objects) s n → missed (is_defined_in O) s n ≡ missed (is_defined_in objects) s n
  missed_stays s n quiet = kept_skipped (is_defined_in objects) (is_defined_in O) (λ p e. some_up (objects p) (more p) e) (tries s n) (still_free s n quiet)

  answers_stay : (s : List Segment) (ns : List NameParts) → ((n : NameParts) → Among ns n → IsQuiet (is_defined_in objects) s n) → answers O s ns ≡ answers objects s ns
  answers_stay s [] quiet = refl
  answers_stay s (n ∷ ns) quiet =
      let at = answer_stays s n (quiet n (inl refl)) in
      let rest = answers_stay s ns (λ k m. quiet k (inr m)) in
      λ i. at i ∷ rest i

pub links_stay : (objects more : Namespace) (w : PendingLink) → ((p : List Segment) (o : ObjectTree) → more p ≡ Some o → IsLinkMiss objects w p → ⊥)
    → (answers (union objects more) w.scope w.names ≡ answers objects w.scope w.names) × ((p : List Segment) → IsLinkMiss (union objects more) w p ↔ IsLinkMiss objects w p)
links_stay objects more w apart = (
  answers_stay objects more w.scope w.names quiet,
  (λ p. (
    (λ h. (h.0, h.1, subst (λ l. Among l p) (missed_stays objects more w.scope h.0 (quiet h.0 h.1)) h.2)),
    (λ h. (h.0, h.1, subst (λ l. Among l p) (sym (missed_stays objects more w.scope h.0 (quiet h.0 h.1))) h.2)),
  )),
)
  where
    quiet : (n : NameParts) → Among w.names n → (p : List Segment) → Among (missed (is_defined_in objects) w.scope n) p → more p ≡ None
    quiet n i p m = none_of (more p) (λ o e. apart p o e (n, i, m))

-- ---- bodies

module _ (objects more : Namespace) (locals : Locals) where
  abbrev P : Namespace
  P = union objects more

  either_up : (l : Bool) (a x : Option ObjectTree) → (l || is_some a) ≡ true → (l || is_some (option_or a x)) ≡ true
  either_up true a x e = refl
  either_up false a x e = some_up a x e

  either_free : (l : Bool) (a x : Option ObjectTree) → (l || is_some a) ≡ false → x ≡ None → (l || is_some (option_or a x)) ≡ false
  either_free true a x e free = e
  either_free false a x e free = or_free a x e free

  with_free : (s : List Segment) (n : NameParts) → ((p : List Segment) → Among (missed (defined_with objects locals) s n) p → more p ≡ None)
      → AllByRecursion (λ p. defined_with P locals p ≡ false) (missed (defined_with objects locals) s n)
  with_free s n quiet = all_among _ _ (λ p m. either_free (is_defined locals p) (objects p) (more p)
      (among_all (λ q. defined_with objects locals q ≡ false) _ (skipped_fail (defined_with objects locals) (tries s n)) p m) (quiet p m))

  with_answer : (s : List Segment) (n : NameParts) → ((p : List Segment) → Among (missed (defined_with objects locals) s n) p → more p ≡ None)
      → answer (defined_with P locals) s n ≡ answer (defined_with objects locals) s n
  with_answer s n quiet =
      kept_find (defined_with objects locals) (defined_with P locals) (λ p e. either_up (is_defined locals p) (objects p) (more p) e) (tries s n) (with_free s n quiet)

  with_missed : (s : List Segment) (n : NameParts) → ((p : List Segment) → Among (missed (defined_with objects locals) s n) p → more p ≡ None)
      → missed (defined_with P locals) s n ≡ missed (defined_with objects locals) s n
  with_missed s n quiet =
      kept_skipped (defined_with objects locals) (defined_with P locals) (λ p e. either_up (is_defined locals p) (objects p) (more p) e) (tries s n) (with_free s n quiet)

  -- the answer's arguments are the same, since it is there
  same_args : (l : Bool) (a x : Option ObjectTree) → (l || is_some a) ≡ true → cond l 0 (args_in (option_or a x)) ≡ cond l 0 (args_in a)
  same_args true a x e = refl
  same_args false (Some o) x e = refl
  same_args false None x e = cc

  args_stay : (otherwise : ℕ) (s : List Segment) (n : NameParts) (a : Option (List Segment)) → answer (defined_with objects locals) s n ≡ a
      → args_at P locals otherwise a ≡ args_at objects locals otherwise a
  args_stay otherwise s n None e = refl
  args_stay otherwise s n (Some p) e = same_args (is_defined locals p) (objects p) (more p) (found_passes (defined_with objects locals) (tries s n) p e)

  count_stays : (m : Method) (n : NameParts) → ((p : List Segment) → Among (missed (defined_with objects locals) m.path n) p → more p ≡ None)
      → (grammar_of P m locals).args n ≡ (grammar_of objects m locals).args n
  count_stays m n quiet = ap Some (ap (args_at P locals (expected m n)) (with_answer m.path n quiet) ∙ args_stay (expected m n) m.path n (answer (defined_with objects locals) m.path n) refl)

  awaited_stays : (m : Method) (n : NameParts) → ((p : List Segment) → Among (missed (defined_with objects locals) m.path n) p → more p ≡ None)
      → awaited_place P m.counts m.path locals n ≡ awaited_place objects m.counts m.path locals n
  awaited_stays m n quiet = ap (λ a. unless_found a (expected_place m.counts m.path n)) (with_answer m.path n quiet)

module _ (depth : ℕ) (objects more : Namespace) (m : Method)
    (apart : (p : List Segment) (o : ObjectTree) → more p ≡ Some o → (IsBodyMiss depth objects m p → ⊥) × ((args : ℕ) → IsAwaiting depth objects m p args → ⊥)) where
  abbrev W : Namespace
  W = union objects more

  -- what a read body's name missed is a firm or an open miss
  quiet_by : (ts : TermTrees) → IsReading depth objects m ts → (locals : Locals) (n : NameParts) → Among (all_searches m.path finite.empty ts) (locals, n)
      → (p : List Segment) → Among (missed (defined_with objects locals) m.path n) p → (o : ObjectTree) → more p ≡ Some o
      → (q : List Segment) → awaited_place objects m.counts m.path locals n ≡ Some q → (b : Bool) → is_same_path q p ≡ b → ⊥
  quiet_by ts h locals n i p k o e q at true same =
      let there : awaited_place objects m.counts m.path locals n ≡ Some p = at ∙ ap (λ (x : List Segment). Some x) (path_same q p same) in
      let c = awaited_counts m.counts m.path n (answer (defined_with objects locals) m.path n) p there in
      (apart p o e).1 c.0 (read ts, h, record { locals = locals; name = n; searched = i; awaits = there; expects = c.1 })
  quiet_by ts h locals n i p k o e q at false same =
      let firm : awaited_place objects m.counts m.path locals n ≢ Some p = λ a. other_path q p same (one_some q p (sym at ∙ a)) in
      (apart p o e).0 (read ts, h, record { locals = locals; name = n; searched = i; misses = k; firm = firm })

  quiet_read : (ts : TermTrees) → IsReading depth objects m ts → (locals : Locals) (n : NameParts) → Among (all_searches m.path finite.empty ts) (locals, n)
      → (p : List Segment) → Among (missed (defined_with objects locals) m.path n) p → more p ≡ None
  quiet_read ts h locals n i p k = none_of (more p) (λ o e. by o e (some_or_none (awaited_place objects m.counts m.path locals n)))
    where
      by : (o : ObjectTree) → more p ≡ Some o
          → ((q : List Segment) × (awaited_place objects m.counts m.path locals n ≡ Some q)) ⊎ (awaited_place objects m.counts m.path locals n ≡ None) → ⊥
      by o e (inl r) = quiet_by ts h locals n i p k o e r.0 r.1 (is_same_path r.0 p) refl
      by o e (inr none) = (apart p o e).0 (read ts, h, record { locals = locals; name = n; searched = i; misses = k; firm = λ a. not_both _ p a none })

  quiet_unread : (b : List ℕ) → b ≡ m.code → HasNoReading depth objects m → (n : NameParts) → IsSpelledIn b n
      → (p : List Segment) → Among (missed (is_defined_in objects) m.path n) p → more p ≡ None
  quiet_unread b is none n spelled p k = none_of (more p) (λ o e. (apart p o e).0 (unread b, (is, none), record { name = n; spelled = spelled; misses = k }))

  -- .. also with locals laid over
  quiet_with : HasNoReading depth objects m → (n : NameParts) → IsSpelledIn m.code n → (locals : Locals) (p : List Segment)
      → Among (missed (defined_with objects locals) m.path n) p → more p ≡ None
  quiet_with none n spelled locals p k =
      quiet_unread m.code refl none n spelled p
      (fewer_skipped (is_defined_in objects) (defined_with objects locals) (λ q. or_right (is_defined locals q) (is_defined_in objects q)) (tries m.path n) p k)

  reading_stays : (ts : TermTrees) → IsReading depth objects m ts → IsReading depth W m ts
  reading_stays ts h = kept_reads depth (grammar_of objects m) (grammar_of W m) m.path m.code ts (inl (λ locals may. may))
      (all_among _ _ (λ e i. sym (count_stays objects more e.0 m e.1 (quiet_read ts h e.0 e.1 i)))) h

  none_stays : HasNoReading depth objects m → HasNoReading depth W m
  none_stays none ts h = none ts (kept_reads depth (grammar_of W m) (grammar_of objects m) m.path m.code ts (inl (λ locals may. may))
      (all_map _ _ (λ e spelled. count_stays objects more e.0 m e.1 (quiet_with none e.1 spelled e.0)) _ (spelled_reads depth (grammar_of W m) m.path m.code ts h)) h)

  body_to : (b : BodyTree) → IsBody depth objects m b → IsBody depth W m b
  body_to (read ts) h = reading_stays ts h
  body_to (unread b) h = (h.0, none_stays h.1)

  -- what is read there was read before
  reading_back : (ts : TermTrees) → IsReading depth W m ts → IsReading depth objects m ts
  reading_back ts h = by (reading_or_none depth objects m)
    where
      by : ((us : TermTrees) × IsReading depth objects m us) ⊎ HasNoReading depth objects m → IsReading depth objects m ts
      by (inl r) = subst (IsReading depth objects m) (one_reading_there depth W m r.0 ts (reading_stays r.0 r.1) h) r.1
      by (inr none) = absurd (none_stays none ts h)

  none_back : HasNoReading depth W m → HasNoReading depth objects m
  none_back none ts h = none ts (reading_stays ts h)

  body_back : (b : BodyTree) → IsBody depth W m b → IsBody depth objects m b
  body_back (read ts) h = reading_back ts h
  body_back (unread b) h = (h.0, none_back h.1)

  miss_to : (p : List Segment) → IsBodyMiss depth W m p → IsBodyMiss depth objects m p
  miss_to p (read ts, h, r) =
      let before = reading_back ts h in
      let quiet = quiet_read ts before r.locals r.name r.searched in (
        read ts,
        before,
        record {
          locals = r.locals;
          name = r.name;
          searched = r.searched;
          misses = subst (λ l. Among l p) (with_missed objects more r.locals m.path r.name quiet) r.misses;
          firm = λ e. r.firm (awaited_stays objects more r.locals m r.name quiet ∙ e);
        },
      )
  miss_to p (unread b, (is, none), r) =
      let before = none_back none in (
        unread b,
        (is, before),
        record {
          name = r.name;
          spelled = r.spelled;
          misses = subst (λ l. Among l p) (missed_stays objects more m.path r.name (quiet_unread b is before r.name r.spelled)) r.misses;
        },
      )

  miss_from : (p : List Segment) → IsBodyMiss depth objects m p → IsBodyMiss depth W m p
  miss_from p (read ts, h, r) =
      let quiet = quiet_read ts h r.locals r.name r.searched in (
        read ts,
        reading_stays ts h,
        record {
          locals = r.locals;
          name = r.name;
          searched = r.searched;
          misses = subst (λ l. Among l p) (sym (with_missed objects more r.locals m.path r.name quiet)) r.misses;
          firm = λ e. r.firm (sym (awaited_stays objects more r.locals m r.name quiet) ∙ e);
        },
      )
  miss_from p (unread b, (is, none), r) = (
    unread b,
    (is, none_stays none),
    record {
      name = r.name;
      spelled = r.spelled;
      misses = subst (λ l. Among l p) (sym (missed_stays objects more m.path r.name (quiet_unread b is none r.name r.spelled))) r.misses;
    },
  )

  awaits_to : (p : List Segment) (args : ℕ) → IsAwaiting depth W m p args → IsAwaiting depth objects m p args
  awaits_to p args (read ts, h, r) =
      let before = reading_back ts h in
      let same = awaited_stays objects more r.locals m r.name (quiet_read ts before r.locals r.name r.searched) in
      (read ts, before, record { locals = r.locals; name = r.name; searched = r.searched; awaits = sym same ∙ r.awaits; expects = r.expects })
  awaits_to p args (unread b, h, k) = absurd k

  awaits_from : (p : List Segment) (args : ℕ) → IsAwaiting depth objects m p args → IsAwaiting depth W m p args
  awaits_from p args (read ts, h, r) =
      let same = awaited_stays objects more r.locals m r.name (quiet_read ts h r.locals r.name r.searched) in
      (read ts, reading_stays ts h, record { locals = r.locals; name = r.name; searched = r.searched; awaits = same ∙ r.awaits; expects = r.expects })
  awaits_from p args (unread b, h, k) = absurd k

  pub body_stays : ((b : BodyTree) → IsBody depth W m b ↔ IsBody depth objects m b)
      × ((p : List Segment) → IsBodyMiss depth W m p ↔ IsBodyMiss depth objects m p)
      × ((p : List Segment) (args : ℕ) → IsAwaiting depth W m p args ↔ IsAwaiting depth objects m p args)
  body_stays = ((λ b. (body_back b, body_to b)), (λ p. (miss_to p, miss_from p)), (λ p args. (awaits_to p args, awaits_from p args)))
