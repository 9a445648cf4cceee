-- What the standard says of a search, and when an answer stays (ACPI 6.5, 5.3).
use Rattle.std.specs.Prelude.{◌≡◌, ◌<◌, ◌⊎◌, ◌↔◌, Bool, true, false, List, [], ◌∷◌, ◌++◌, length, Option, None, Some, IsTrue}
use Rattle.std.specs.List.{AllByRecursion}
use Rattle.acpi_name.specs.Names.{Segment, NameParts, plain_segment}
use Rattle.acpi_name.specs.Paths.{place_of}
use Rattle.acpi_space.specs.Search.{answer, missed}

-- q is a beginning of xs that passes the test, and no longer one does
pub record IsLongest {A : Type 0} (test : List A → Bool) (xs q : List A) : Type 0 where
  pub rest : List A
  pub begins : xs ≡ q ++ rest
  pub passes : IsTrue (test q)
  pub longest : (b c : List A) → xs ≡ b ++ c → length q < length b → test b ≡ false

-- no beginning of xs passes the test
abbrev pub NoneBegins : {A : Type 0} → (List A → Bool) → List A → Type 0
NoneBegins test xs = (b c : List _) → xs ≡ b ++ c → test b ≡ false

-- of a plain name: the path below the longest beginning of the scope that has it, and none only where no beginning has
-- it
abbrev pub IsLongestAnswer : (List Segment → Bool) → List Segment → Segment → Option (List Segment)
    → Type 0
IsLongestAnswer defined s g (Some p) =
    (q : List Segment) × (p ≡ q ++ g ∷ []) × IsLongest (λ q. defined (q ++ g ∷ [])) s q
IsLongestAnswer defined s g None = NoneBegins (λ q. defined (q ++ g ∷ [])) s

abbrev pub PlainIsLongest : Type 0
PlainIsLongest = (defined : List Segment → Bool) (s : List Segment) (n : NameParts) (g : Segment)
    → plain_segment n ≡ Some g → IsLongestAnswer defined s g (answer defined s n)

-- of any other name: its place, and none only where the place is not defined or is not there
abbrev pub IsPlaceAnswer : (List Segment → Bool) → Option (List Segment) → Option (List Segment)
    → Type 0
IsPlaceAnswer defined place (Some p) = (place ≡ Some p) × IsTrue (defined p)
IsPlaceAnswer defined place None = (p : List Segment) → place ≡ Some p → defined p ≡ false

abbrev pub OtherIsAtPlace : Type 0
OtherIsAtPlace = (defined : List Segment → Bool) (s : List Segment) (n : NameParts)
    → plain_segment n ≡ None → IsPlaceAnswer defined (place_of s n) (answer defined s n)

-- x is one of the list
abbrev pub Among : {X : Type 0} → List X → X → Type 0
Among [] x = ⊥
Among (y ∷ ys) x = (y ≡ x) ⊎ Among ys x

-- what was found, if anything was, is shorter than p
abbrev pub IsPast : {A : Type 0} → Option (List A) → List A → Type 0
IsPast None p = Unit {0}
IsPast (Some found) p = length found < length p

-- p has the segment below a beginning of the scope
abbrev pub IsBelow : List Segment → Segment → List Segment → Type 0
IsBelow s g p = (q : List Segment) × (rest : List Segment) × (s ≡ q ++ rest) × (p ≡ q ++ g ∷ [])

-- what the search of a plain name misses: the paths below the beginnings of the scope that are longer than its answer,
-- and all of them where it has none
abbrev pub MissedArePast : Type 0
MissedArePast = (defined : List Segment → Bool) (s : List Segment) (n : NameParts) (g : Segment)
    → plain_segment n ≡ Some g → (p : List Segment)
    → Among (missed defined s n) p ↔ (IsBelow s g p × IsPast (answer defined s n) p)

-- .. of any other name: its place, where it has one that is not defined
abbrev pub MissedIsPlace : Type 0
MissedIsPlace = (defined : List Segment → Bool) (s : List Segment) (n : NameParts)
    → plain_segment n ≡ None → (p : List Segment)
    → Among (missed defined s n) p ↔ ((place_of s n ≡ Some p) × (defined p ≡ false))

-- `large` has what `small` has, and none of the paths that the search missed
abbrev pub KeepsSearch : (List Segment → Bool) → (List Segment → Bool) → List Segment → NameParts
    → Type 0
KeepsSearch small large s n = ((p : List Segment) → small p ≡ true → large p ≡ true)
    × AllByRecursion (λ p. large p ≡ false) (missed small s n)

abbrev pub AnswerIsKept : Type 0
AnswerIsKept = (small large : List Segment → Bool) (s : List Segment) (n : NameParts)
    → KeepsSearch small large s n → answer large s n ≡ answer small s n

abbrev pub MissedIsKept : Type 0
MissedIsKept = (small large : List Segment → Bool) (s : List Segment) (n : NameParts)
    → KeepsSearch small large s n → missed large s n ≡ missed small s n

-- with more paths defined a search misses none that it did not miss before
abbrev pub MissedAreFewer : Type 0
MissedAreFewer = (small large : List Segment → Bool) (s : List Segment) (n : NameParts)
    → ((p : List Segment) → small p ≡ true → large p ≡ true) → (p : List Segment)
    → Among (missed large s n) p → Among (missed small s n) p
