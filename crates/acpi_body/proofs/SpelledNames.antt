-- The names that are spelled in the bytes of a body, place by place.
use Rattle.std.proofs.Common.{◌≡◌, ◌⊎◌, inl, inr, ℕ, zero, suc, ◌+◌, ◌-◌, ◌<◌, ◌≤◌, Bool, true, false, cond, eqb, List, [], ◌∷◌, ◌++◌, length, take, drop, Option, Some, None, Result, Ok, Err, refl, sym, ap, subst, ◌∙◌, append_assoc, length-append, length-drop, arith}
use Rattle.std.specs.Prelude.{OnOk, IsTrue, nat_le, option_to_list}
use Rattle.std.specs.List.{prefix_len, filter}
use Rattle.std.proofs.lemmas.Bool.{ltb-true}
use Rattle.std.proofs.lemmas.List.Folds.{length-prefix_len}
use Rattle.acpi_name.specs.Names.{Segment, NameParts, plain_segment}
use Rattle.acpi_name.specs.Paths.{place_of}
use Rattle.acpi_name.specs.Spelling.{SpellsName, BeginsWithName, prefix_of}
use Rattle.acpi_name.specs.Reading.{ups}
use Rattle.acpi_name.proofs.NameAgain.{neq, path_start, ups_of, name_long, one_spelling}
use Rattle.acpi_space.specs.Lookups.{is_defined_in}
use Rattle.acpi_space.specs.Search.{skipped, tries_of, missed}
use Rattle.acpi_space.specs.Laws.{Among}
use Rattle.acpi_space.specs.Wanted.{Wants}
use Rattle.acpi_space.proofs.Filters.{among_filter}
use Rattle.acpi_body.specs.Arguments.{Namespace}
use Rattle.acpi_body.specs.Misses.{IsMissedBy}
use Rattle.acpi_body.specs.steps.Gathering.{Asked, Paths, with_misses, Grows, IsFrontMiss, goes_above}
use Rattle.acpi_body.proofs.Grown.{grows_not, grows_as, grows_then, misses_grow}

split : {A : Type 0} (k : ℕ) (xs : List A) → take k xs ++ drop k xs ≡ xs
split zero xs = refl
split (suc k) [] = refl
split (suc k) (x ∷ xs) = ap (λ l. x ∷ l) (split k xs)

drop_front : {A : Type 0} (xs ys : List A) → drop (length xs) (xs ++ ys) ≡ ys
drop_front [] ys = refl
drop_front (x ∷ xs) ys = drop_front xs ys

pub take_front : {A : Type 0} (xs ys : List A) → take (length xs) (xs ++ ys) ≡ xs
take_front [] ys = refl
take_front (x ∷ xs) ys = ap (λ l. x ∷ l) (take_front xs ys)

whole : {A : Type 0} (n : ℕ) (xs : List A) → n ≡ length xs → take n xs ≡ xs
whole zero [] e = refl
whole zero (x ∷ xs) e = absurd (omega arith)
whole (suc n) [] e = refl
whole (suc n) (x ∷ xs) e = ap (λ l. x ∷ l) (whole n xs (omega arith))

-- the bytes from a place on, as the code lends them
pub rest_is : (k : ℕ) (bytes : List ℕ) → take (length bytes - k) (drop k bytes) ≡ drop k bytes
rest_is k bytes = whole (length bytes - k) (drop k bytes) (sym (length-drop k bytes))

-- ---- more bytes 5E than the path has segments

fewer : {A : Type 0} (p : A → Bool) (k : ℕ) (xs : List A) → prefix_len p (take k xs) ≤ prefix_len p xs
fewer p zero xs = omega arith
fewer p (suc k) [] = omega arith
fewer {A} p (suc k) (x ∷ xs) = by (p x) (fewer p k xs)
  where
    by : (b : Bool) → prefix_len p (take k xs) ≤ prefix_len p xs → cond b (1 + prefix_len p (take k xs)) 0 ≤ cond b (1 + prefix_len p xs) 0
    by true h = omega arith
    by false h = omega arith

fewer_ups : (k : ℕ) (bytes : List ℕ) → ups (take k bytes) ≤ ups bytes
fewer_ups k bytes =
    let p : ℕ → Bool = λ b. eqb b 94 in
    let a : ups (take k bytes) ≡ prefix_len p (take k bytes) = length-prefix_len p (take k bytes) in
    let b : ups bytes ≡ prefix_len p bytes = length-prefix_len p bytes in
    let le : prefix_len p (take k bytes) ≤ prefix_len p bytes = fewer p k bytes in
    omega (arith, a, b, le)

-- the parents of a name are the bytes 5E before it
ups_before : (rooted : Bool) (parents : ℕ) (b : ℕ) (rest : List ℕ) → eqb b 94 ≡ false → ups (prefix_of rooted parents ++ b ∷ rest) ≡ cond rooted 0 parents
ups_before true parents b rest h = refl
ups_before false parents b rest h = ups_of parents b rest h

ups_of_name : (n : NameParts) (bytes rest : List ℕ) → SpellsName n bytes → ups (bytes ++ rest) ≡ cond n.rooted 0 n.parents
ups_of_name n bytes rest h =
    let start = path_start n.segments h.path h.is_name.are_segments h.spells_path in
    let is : bytes ++ rest ≡ prefix_of n.rooted n.parents ++ start.0 ∷ (start.1 ++ rest) =
    ap (λ (l : List ℕ). l ++ rest) (h.whole ∙ ap (λ (l : List ℕ). prefix_of n.rooted n.parents ++ l) start.2) ∙ append_assoc (prefix_of n.rooted n.parents) (start.0 ∷ start.1) rest in
    ap ups is ∙ ups_before n.rooted n.parents start.0 (start.1 ++ rest) start.4

no_place : (rooted : Bool) (parents : ℕ) (segments s : List Segment) → length s < cond rooted 0 parents → place_of s (record { rooted = rooted; parents = parents; segments = segments }) ≡ None
no_place true parents segments s h = absurd (omega arith)
no_place false parents segments s h = let over : nat_le parents (length s) ≡ false = grind arith in rw over refl

not_plain : (rooted : Bool) (parents : ℕ) (segments s : List Segment) → length s < cond rooted 0 parents → plain_segment (record { rooted = rooted; parents = parents; segments = segments }) ≡ None
not_plain true parents segments s h = refl
not_plain false parents segments s h = let some : eqb parents 0 ≡ false = neq parents 0 (λ e. omega arith) in rw some refl

-- such a name misses nothing
pub none_above : (objects : Namespace) (s : List Segment) (bytes : List ℕ) (p : List Segment) → goes_above (length s) bytes ≡ true → IsFrontMiss objects s bytes p → ⊥
none_above objects s bytes p above h =
    let n = h.name in
    let front = take h.count bytes in
    let ups_are : ups bytes ≡ cond n.rooted 0 n.parents = ap ups (sym (split h.count bytes)) ∙ ups_of_name n front (drop h.count bytes) h.begins.spells in
    let most : ups (take (length s + 1) bytes) ≤ ups bytes = fewer_ups (length s + 1) bytes in
    let deep : length s < ups (take (length s + 1) bytes) = ltb-true _ _ above in
    let over : length s < cond n.rooted 0 n.parents = omega (arith, ups_are, most, deep) in
    let none : missed (is_defined_in objects) s n ≡ [] =
    ap (λ (o : Option Segment). skipped (is_defined_in objects) (tries_of s n o)) (not_plain n.rooted n.parents n.segments s over)
    ∙ ap (λ (o : Option (List Segment)). skipped (is_defined_in objects) (option_to_list o)) (no_place n.rooted n.parents n.segments s over) in
    subst (λ (ps : List (List Segment)). Among ps p) none h.misses

-- ---- the name at the front

one_name : (m n : NameParts) (j k : ℕ) (bytes : List ℕ) → BeginsWithName m j bytes → BeginsWithName n k bytes → m ≡ n
one_name m n j k bytes f g = (one_spelling m n (take j bytes) (take k bytes) (drop j bytes) (drop k bytes) f.spells g.spells (split j bytes ∙ sym (split k bytes))).0

pub front_none : (w : Wants) (objects : Namespace) (s : List Segment) (bytes : List ℕ) (old : Paths)
    → ((p : List Segment) → IsFrontMiss objects s bytes p → ⊥) → Grows old old (Asked w (IsFrontMiss objects s bytes))
front_none w objects s bytes old none = grows_as old old (λ p. ⊥) (Asked w (IsFrontMiss objects s bytes)) (λ p. (λ h. absurd h, λ h. none p h.0)) (grows_not old)

front_grows : (w : Wants) (objects : Namespace) (s : List Segment) (bytes : List ℕ) (old new : Paths) (n : NameParts) (count : ℕ) (paths : List (List Segment))
    → BeginsWithName n count bytes → paths ≡ filter w (missed (is_defined_in objects) s n) → new ≡ with_misses None old paths → Grows old new (Asked w (IsFrontMiss objects s bytes))
front_grows w objects s bytes old new n count paths begins is e =
    let ps = filter w (missed (is_defined_in objects) s n) in
    subst (λ (m : Paths). Grows old m (Asked w (IsFrontMiss objects s bytes))) (sym (e ∙ ap (with_misses None old) is))
    (grows_as old (with_misses None old ps) (λ p. Among ps p × (None ≡ Some p → ⊥)) (Asked w (IsFrontMiss objects s bytes)) (λ p. (to p, from p)) (misses_grow None old ps))
  where
    to : (p : List Segment) → Among (filter w (missed (is_defined_in objects) s n)) p × (None ≡ Some p → ⊥) → Asked w (IsFrontMiss objects s bytes) p
    to p h =
        let r = (among_filter w (missed (is_defined_in objects) s n) p).0 h.0 in
        (record { name = n; count = count; begins = begins; misses = r.0 }, r.1)

    from : (p : List Segment) → Asked w (IsFrontMiss objects s bytes) p → Among (filter w (missed (is_defined_in objects) s n)) p × (None ≡ Some p → ⊥)
    from p h =
        let i = subst (λ (m : NameParts). Among (missed (is_defined_in objects) s m) p) (one_name h.0.name n h.0.count count bytes h.0.begins begins) h.0.misses in
        ((among_filter w (missed (is_defined_in objects) s n) p).1 (i, h.1), λ e. cc)

pub front_found : {E : Type 0} (r : Result (Unit {0}) E) (w : Wants) (objects : Namespace) (s : List Segment) (bytes : List ℕ) (old new : Paths)
    (n : NameParts) (count : ℕ) (paths : List (List Segment))
    → BeginsWithName n count bytes → paths ≡ filter w (missed (is_defined_in objects) s n) → OnOk r (new ≡ with_misses None old paths) → OnOk r (Grows old new (Asked w (IsFrontMiss objects s bytes)))
front_found (Ok x) w objects s bytes old new n count paths begins is e = front_grows w objects s bytes old new n count paths begins is e
front_found (Err x) w objects s bytes old new n count paths begins is e = tt

-- ---- at each place

pub record IsMissedBefore (objects : Namespace) (s : List Segment) (bytes : List ℕ) (end : ℕ) (p : List Segment) : Type 0 where
  pub place : ℕ
  pub before : place < end
  pub miss : IsFrontMiss objects s (drop place bytes) p

pub none_before : (w : Wants) (objects : Namespace) (s : List Segment) (bytes : List ℕ) (old : Paths) → Grows old old (Asked w (IsMissedBefore objects s bytes 0))
none_before w objects s bytes old = grows_as old old (λ p. ⊥) (Asked w (IsMissedBefore objects s bytes 0))
    (λ p. (λ h. absurd h, λ h. let b : h.0.place < 0 = h.0.before in omega arith)) (grows_not old)

pub one_place_more : (w : Wants) (objects : Namespace) (s : List Segment) (bytes : List ℕ) (end : ℕ) (old mid new : Paths)
    → Grows old mid (Asked w (IsMissedBefore objects s bytes end)) → Grows mid new (Asked w (IsFrontMiss objects s (drop end bytes)))
    → Grows old new (Asked w (IsMissedBefore objects s bytes (end + 1)))
one_place_more w objects s bytes end old mid new f g =
    grows_as old new (λ p. Asked w (IsMissedBefore objects s bytes end) p ⊎ Asked w (IsFrontMiss objects s (drop end bytes)) p)
    (Asked w (IsMissedBefore objects s bytes (end + 1))) (λ p. (to p, from p))
    (grows_then old mid new (Asked w (IsMissedBefore objects s bytes end)) (Asked w (IsFrontMiss objects s (drop end bytes))) f g)
  where
    to : (p : List Segment) → Asked w (IsMissedBefore objects s bytes end) p ⊎ Asked w (IsFrontMiss objects s (drop end bytes)) p → Asked w (IsMissedBefore objects s bytes (end + 1)) p
    to p (inl h) = (record { place = h.0.place; before = let b : h.0.place < end = h.0.before in omega arith; miss = h.0.miss }, h.1)
    to p (inr h) = (record { place = end; before = omega arith; miss = h.0 }, h.1)

    by : (p : List Segment) (k : ℕ) → IsFrontMiss objects s (drop k bytes) p → IsTrue (w p) → (k < end) ⊎ (k ≡ end)
        → Asked w (IsMissedBefore objects s bytes end) p ⊎ Asked w (IsFrontMiss objects s (drop end bytes)) p
    by p k h t (inl lt) = inl (record { place = k; before = lt; miss = h }, t)
    by p k h t (inr e) = inr (subst (λ (i : ℕ). IsFrontMiss objects s (drop i bytes) p) e h, t)

    from : (p : List Segment) → Asked w (IsMissedBefore objects s bytes (end + 1)) p → Asked w (IsMissedBefore objects s bytes end) p ⊎ Asked w (IsFrontMiss objects s (drop end bytes)) p
    from p h = by p h.0.place h.0.miss h.1 (below_or_at h.0.place end h.0.before)
      where
        below_or_at : (k end : ℕ) → k < end + 1 → (k < end) ⊎ (k ≡ end)
        below_or_at k end h = grind arith

pub every_place : (w : Wants) (objects : Namespace) (s : List Segment) (bytes : List ℕ) (end : ℕ) (old new : Paths) → length bytes ≤ end
    → Grows old new (Asked w (IsMissedBefore objects s bytes end)) → Grows old new (Asked w (IsMissedBy objects s bytes))
every_place w objects s bytes end old new all =
    grows_as old new (Asked w (IsMissedBefore objects s bytes end)) (Asked w (IsMissedBy objects s bytes)) (λ p. (λ h. (to p h.0, h.1), λ h. (from p h.0, h.1)))
  where
    to : (p : List Segment) → IsMissedBefore objects s bytes end p → IsMissedBy objects s bytes p
    to p h =
        let rest = drop h.place bytes in
        let count = h.miss.count in
        record {
          name = h.miss.name;
          spelled = record {
            before = take h.place bytes;
            spelled = take count rest;
            after = drop count rest;
            whole = sym (split h.place bytes) ∙ ap (λ (l : List ℕ). take h.place bytes ++ l) (sym (split count rest));
            spells = h.miss.begins.spells;
          };
          misses = h.miss.misses;
        }

    from : (p : List Segment) → IsMissedBy objects s bytes p → IsMissedBefore objects s bytes end p
    from p h =
        let at = h.spelled in
        let rest = at.spelled ++ at.after in
        let behind : drop (length at.before) bytes ≡ rest = ap (drop (length at.before)) at.whole ∙ drop_front at.before rest in
        let some : 0 < length at.spelled = name_long h.name at.spelled at.spells in
        let sizes : length bytes ≡ length at.before + (length at.spelled + length at.after) = ap length at.whole ∙ simp length-append in
        let begins : BeginsWithName h.name (length at.spelled) rest =
        record {
          within = omega (arith, length-append at.spelled at.after);
          spells = subst (SpellsName h.name) (sym (take_front at.spelled at.after)) at.spells;
        } in
        record {
          place = length at.before;
          before = omega arith;
          miss = subst (λ (l : List ℕ). IsFrontMiss objects s l p) (sym behind) (record { name = h.name; count = length at.spelled; begins = begins; misses = h.misses });
        }
