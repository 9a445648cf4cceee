-- A name that is read is spelled so.
use Rattle.std.proofs.Common.{◌≡◌, ℕ, zero, suc, ◌+◌, ◌≤◌, ◌<◌, Bool, true, false, cond, ltb, eqb, ◌⊎◌, List, [], ◌∷◌, ◌++◌, length, take, drop, replicate, Result, Ok, Err, refl, sym, ap, subst, ◌∙◌, append_assoc, arith, inl, inr}
use Rattle.std.proofs.lemmas.Bool.{ltb-false, eqb-true, eqb-false}
use Rattle.std.proofs.lemmas.List.{take-append-drop}
use Rattle.std.proofs.lemmas.List.Folds.{length-prefix_len}
use Rattle.std.specs.List.{prefix_len}
use Rattle.acpi_name.specs.Names.{Segment, NameParts, AreSegments, is_segment}
use Rattle.acpi_name.specs.Spelling.{segment_bytes, SpellsPath, SpellsName}
use Rattle.acpi_name.specs.declared.reading.NameFault.{NameFault}
use Rattle.acpi_name.specs.declared.reading.NameFault.TheVariants.{Cut, BadChar, ZeroCount, TooManyUps}
use Rattle.acpi_name.specs.Names.{is_segment_front}
use Rattle.acpi_name.specs.Reading.{◌>>=◌, segment_at, segments_at, counted_at, path_at, ups, relative_at, name_at}

pub bind_ok : {A B : Type 0} (r : Result A NameFault) (f : A → Result B NameFault) (y : B) → (r >>= f) ≡ Ok y → (x : A) × (r ≡ Ok x) × (f x ≡ Ok y)
bind_ok (Ok x) f y e = (x, refl, e)
bind_ok (Err d) f y e = absurd cc

abbrev pub done : {A : Type 0} → A → Result A NameFault
done x = Ok x

pub ok_is : {A : Type 0} (x y : A) → done x ≡ done y → x ≡ y
ok_is x y e = cc

pub guard_ok : {A : Type 0} (b : Bool) (d : NameFault) (x : Result A NameFault) (y : A) → cond b (Err d) x ≡ Ok y → (b ≡ false) × (x ≡ Ok y)
guard_ok true d x y e = absurd cc
guard_ok false d x y e = (refl, e)

pub guard_not : {A : Type 0} (b : Bool) (d : NameFault) (x : Result A NameFault) (y : A) → cond b x (Err d) ≡ Ok y → (b ≡ true) × (x ≡ Ok y)
guard_not false d x y e = absurd cc
guard_not true d x y e = (refl, e)

-- which way a test went
pub chosen : {A : Type 0} (b : Bool) (x y z : A) → cond b x y ≡ z → ((b ≡ true) × (x ≡ z)) ⊎ ((b ≡ false) × (y ≡ z))
chosen true x y z e = inl (refl, e)
chosen false x y z e = inr (refl, e)

front_of : (bytes : List ℕ) → is_segment_front bytes ≡ true → 4 ≤ length bytes → is_segment (take 4 bytes) ≡ true
front_of [] h le = absurd (omega arith)
front_of (a ∷ []) h le = absurd (omega arith)
front_of (a ∷ b ∷ []) h le = absurd (omega arith)
front_of (a ∷ b ∷ c ∷ []) h le = absurd (omega arith)
front_of (a ∷ b ∷ c ∷ d ∷ rest) h le = h

pub record TookPath (bytes : List ℕ) (x : List Segment × List ℕ) : Type 0 where
  pub path : List ℕ
  pub spells_path : SpellsPath x.0 path
  pub are_segments : AreSegments x.0
  pub few : length x.0 < 256
  pub whole : bytes ≡ path ++ x.1

record TookSegments (n : ℕ) (bytes : List ℕ) (x : List Segment × List ℕ) : Type 0 where
  count : length x.0 ≡ n
  are_segments : AreSegments x.0
  whole : bytes ≡ segment_bytes x.0 ++ x.1

-- a segment that is read stands at the front
pub segment_took : (bytes : List ℕ) (x : Segment × List ℕ) → segment_at bytes ≡ Ok x → (is_segment x.0 ≡ true) × (bytes ≡ x.0 ++ x.1)
unfolding segment_at
segment_took bytes x e =
    let g = guard_not (is_segment_front bytes) BadChar _ x e in
    let h = guard_ok (ltb (length bytes) 4) Cut (Ok (take 4 bytes, drop 4 bytes)) x g.1 in
    let long : 4 ≤ length bytes = ltb-false _ _ h.0 in
    let is = ok_is (take 4 bytes, drop 4 bytes) x h.1 in
    let s-is : take 4 bytes ≡ x.0 = ap (λ (p : List ℕ × List ℕ). p.0) is in
    let r-is : drop 4 bytes ≡ x.1 = ap (λ (p : List ℕ × List ℕ). p.1) is in
    let seg : is_segment x.0 ≡ true = subst (λ (s : Segment). is_segment s ≡ true) s-is (front_of bytes g.0 long) in
    (seg, rw (← s-is, ← r-is) (sym (take-append-drop 4 bytes)))

segments_took : (n : ℕ) (bytes : List ℕ) (x : List Segment × List ℕ) → segments_at n bytes ≡ Ok x → TookSegments n bytes x
unfolding segments_at
segments_took zero bytes x e = subst (TookSegments 0 bytes) (ok_is ([], bytes) x e) (record { count = refl; are_segments = refl; whole = refl })
segments_took (suc n) bytes x e =
    let b = bind_ok (segment_at bytes) (λ s. segments_at n s.1 >>= λ ss. Ok (s.0 ∷ ss.0, ss.1)) x e in
    let c = bind_ok (segments_at n b.0.1) (λ ss. Ok (b.0.0 ∷ ss.0, ss.1)) x b.2 in
    let more = segments_took n b.0.1 c.0 c.1 in
    let s = segment_took bytes b.0 b.1 in
    subst (TookSegments (suc n) bytes) (ok_is (b.0.0 ∷ c.0.0, c.0.1) x c.2)
    (record { count = ap suc more.count; are_segments = rw s.0 more.are_segments; whole = s.1 ∙ ap (λ (r : List ℕ). b.0.0 ++ r) more.whole ∙ sym (append_assoc b.0.0 (segment_bytes c.0.0) c.0.1) })

counted_took : (b : ℕ) (bytes : List ℕ) (x : List Segment × List ℕ) → b ≡ 47 → counted_at bytes ≡ Ok x → TookPath (b ∷ bytes) x
unfolding counted_at
counted_took b [] x is e = absurd cc
counted_took b (n ∷ bytes) x is e =
    let g = guard_ok (eqb n 0) ZeroCount _ x e in
    let k = guard_ok (ltb 255 n) BadChar (segments_at n bytes) x g.1 in
    let fits : n ≤ 255 = ltb-false 255 n k.0 in
    let t = segments_took n bytes x k.1 in
    let some : n ≡ 0 → ⊥ = eqb-false n 0 g.0 in
    record {
      path = 47 ∷ length x.0 ∷ segment_bytes x.0;
      spells_path = inr (inr (inr (omega (arith, some, t.count), refl)));
      are_segments = t.are_segments;
      few = omega (arith, t.count);
      whole = rw (is, t.count) (ap (λ (r : List ℕ). 47 ∷ n ∷ r) t.whole);
    }

pub path_took : (bytes : List ℕ) (x : List Segment × List ℕ) → path_at bytes ≡ Ok x → TookPath bytes x
unfolding path_at
path_took [] x e = absurd cc
path_took (b ∷ bytes) x e =
    elim (chosen (eqb b 0) _ _ (Ok x) e) [
      | inl t ↦ subst (TookPath (b ∷ bytes)) (ok_is ([], bytes) x t.1)
          (record {
            path = 0 ∷ [];
            spells_path = inl (refl, refl);
            are_segments = refl;
            few = omega arith;
            whole = ap (λ k. k ∷ bytes) (eqb-true b 0 t.0);
          })
      | inr f ↦
          elim (chosen (eqb b 46) _ _ (Ok x) f.1) [
            | inl t ↦
                let s = segments_took 2 bytes x t.1 in
                record {
                  path = 46 ∷ segment_bytes x.0;
                  spells_path = inr (inr (inl (s.count, refl)));
                  are_segments = s.are_segments;
                  few = omega (arith, s.count);
                  whole = rw (eqb-true b 46 t.0) (ap (λ (r : List ℕ). 46 ∷ r) s.whole);
                }
            | inr f ↦
                elim (chosen (eqb b 47) _ _ (Ok x) f.1) [
                  | inl t ↦ counted_took b bytes x (eqb-true b 47 t.0) t.1
                  | inr f ↦
                      let s = segments_took 1 (b ∷ bytes) x f.1 in
                      record { path = segment_bytes x.0; spells_path = inr (inl (s.count, refl)); are_segments = s.are_segments; few = omega (arith, s.count); whole = s.whole }
                ]
          ]
    ]

pub ups_are : (bytes : List ℕ) → bytes ≡ replicate (prefix_len (λ x. eqb x 94) bytes) 94 ++ drop (prefix_len (λ x. eqb x 94) bytes) bytes
ups_are [] = refl
ups_are (b ∷ bytes) = by_test (ups_are bytes) (eqb b 94) refl
  where
    by_test : (bytes ≡ replicate (prefix_len (λ x. eqb x 94) bytes) 94 ++ drop (prefix_len (λ x. eqb x 94) bytes) bytes) → (t : Bool) → eqb b 94 ≡ t
        → b ∷ bytes ≡ replicate (cond t (1 + prefix_len (λ x. eqb x 94) bytes) 0) 94 ++ drop
        (cond t (1 + prefix_len (λ x. eqb x 94) bytes) 0) (b ∷ bytes)
    by_test more true e =
        let one : 1 + prefix_len (λ x. eqb x 94) bytes ≡ suc (prefix_len (λ x. eqb x 94) bytes) = omega arith in
        rw (one, eqb-true b 94 e) (ap (λ (r : List ℕ). 94 ∷ r) more)
    by_test more false e = refl

pub record TookName (bytes : List ℕ) (x : NameParts × List ℕ) : Type 0 where
  pub front : List ℕ
  pub spells : SpellsName x.0 front
  pub whole : bytes ≡ front ++ x.1

relative_took : (bytes : List ℕ) (x : NameParts × List ℕ) → relative_at bytes ≡ Ok x → TookName bytes x
unfolding relative_at
relative_took bytes x e =
    let g = guard_ok (ltb 255 (ups bytes)) TooManyUps _ x e in
    let b = bind_ok (path_at (drop (ups bytes) bytes)) (λ p. Ok (record { rooted = false; parents = ups bytes; segments = p.0 }, p.1)) x g.1 in
    let t = path_took (drop (ups bytes) bytes) b.0 b.1 in
    let few : ups bytes ≤ 255 = ltb-false _ _ g.0 in
    let n : ups bytes ≡ prefix_len (λ x. eqb x 94) bytes = length-prefix_len (λ x. eqb x 94) bytes in
    let all : bytes ≡ replicate (ups bytes) 94 ++ drop (ups bytes) bytes = rw n (ups_are bytes) in
    let never : false ≡ true → ups bytes ≡ 0 = λ h. absurd cc in
    let made : NameParts × List ℕ = (record { rooted = false; parents = ups bytes; segments = b.0.0 }, b.0.1) in
    subst (TookName bytes) (ok_is made x b.2) (record {
      front = replicate (ups bytes) 94 ++ t.path;
      spells = record {
        is_name = record { are_segments = t.are_segments; few_segments = t.few; few_parents = omega arith; no_parents = never };
        path = t.path;
        spells_path = t.spells_path;
        whole = refl;
      };
      whole = all ∙ ap (λ (r : List ℕ). replicate (ups bytes) 94 ++ r) t.whole ∙ sym (append_assoc (replicate (ups bytes) 94) t.path b.0.1);
    })

pub name_took : (bytes : List ℕ) (x : NameParts × List ℕ) → name_at bytes ≡ Ok x → TookName bytes x
unfolding name_at
name_took [] x e = absurd cc
name_took (b ∷ bytes) x e =
    elim (chosen (eqb b 92) _ _ (Ok x) e) [
      | inl t ↦
          let p = bind_ok (path_at bytes) (λ p. Ok (record { rooted = true; parents = 0; segments = p.0 }, p.1)) x t.1 in
          let s = path_took bytes p.0 p.1 in
          let made : NameParts × List ℕ = (record { rooted = true; parents = 0; segments = p.0.0 }, p.0.1) in
          subst (TookName (b ∷ bytes)) (ok_is made x p.2) (record {
            front = 92 ∷ s.path;
            spells = record {
              is_name = record {
                are_segments = s.are_segments;
                few_segments = s.few;
                few_parents = omega arith;
                no_parents = λ h. refl;
              };
              path = s.path;
              spells_path = s.spells_path;
              whole = refl;
            };
            whole = rw (eqb-true b 92 t.0) (ap (λ (r : List ℕ). 92 ∷ r) s.whole);
          })
      | inr f ↦ relative_took (b ∷ bytes) x f.1
    ]
