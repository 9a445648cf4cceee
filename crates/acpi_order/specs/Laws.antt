-- The laws of independent SSDTs, each as one statement (ACPI 6.5, 5.2.11 and 5.3).
use Rattle.std.specs.Prelude.{◌≡◌, ◌≢◌, ◌↔◌, ℕ, ◌<◌, List, [], ◌∷◌, Some, IsTrue, Result, IfOk, IfErr, IsPermutation}
use Rattle.std.specs.declared.cmp.Ordering.TheVariants.{Less}
use Rattle.std.specs.FinMap as finite
use Rattle.acpi_name.specs.Names.{Segment, NameParts}
use Rattle.acpi_name.specs.Paths.{path_cmp}
use Rattle.acpi_space.specs.Lookups.{union}
use Rattle.acpi_space.specs.Search.{answer}
use Rattle.acpi_space.specs.Laws.{Among}
use Rattle.acpi_tree.specs.Objects.{ObjectTree}
use Rattle.acpi_tree.specs.Terms.{TermTrees}
use Rattle.acpi_declare.specs.declared.fault.LoadReason.{LoadReason}
use Rattle.acpi_declare.specs.declared.fault.LoadFault.{LoadFault}
use Rattle.acpi_declare.specs.declared.fault.LoadFault.TheVariants.{Memory}
use Rattle.acpi_declare.specs.Namespace.{Namespace}
use Rattle.acpi_declare.specs.Links.{PendingLink, answers}
use Rattle.acpi_declare.specs.Loads.{HasNoLoad}
use Rattle.acpi_body.specs.Arguments.{Locals, defined_with}
use Rattle.acpi_body.specs.Bodies.{BodyTree}
use Rattle.acpi_body.specs.Searches.{all_searches}
use Rattle.acpi_body.specs.Misses.{awaited_place}
use Rattle.acpi_order.specs.Bodies.{Method, all_methods, IsReading, IsBody}
use Rattle.acpi_order.specs.Machines.{Machine, IsMachine}
use Rattle.acpi_order.specs.Joins.{AllAgree, IsJoin, IsSingleLoad}
use Rattle.acpi_order.specs.Misses.{Listing, objects_of_both, IsLinkMiss, IsBodyMiss, IsAwaiting}
use Rattle.acpi_order.specs.Independent.{AreSingleListings, LoadsAlone, is_method_of, IsIndependent}
use Rattle.acpi_order.specs.Orders.{AreReordered, LoadsToJoin, TellsOfJoin}
use Rattle.acpi_order.specs.Verdicts.{VerdictTree, commute, not_alone, IsVerdict, DsdtLoads, IsSsdt, IsReasonAt, IsPairBefore, IsLeast, IsSame, IsMissed}
use Rattle.acpi_order.specs.Singles.{IsSingle, IsUnmetBy}

-- ---- loads

-- tables load to one machine at most
abbrev pub OneMachine : Type 0
OneMachine = (depth : ℕ) (tables : List (List ℕ)) (m n : Machine) → IsMachine depth tables m
    → IsMachine depth tables n → m ≡ n

-- independent SSDTs load over the DSDT, to a machine that is the join of their single loads
abbrev pub IndependentTablesLoad : Type 0
IndependentTablesLoad = (depth : ℕ) (dsdt : List ℕ) (ssdts : List (List ℕ)) → ssdts ≢ []
    → IsIndependent depth dsdt ssdts
    → (m : Machine) × IsMachine depth (dsdt ∷ ssdts) m × IsJoin (IsSingleLoad depth dsdt ssdts) m

-- given in any order, independent SSDTs load to the join of their single loads
abbrev pub IndependentTablesJoin : Type 0
IndependentTablesJoin = (depth : ℕ) (dsdt : List ℕ) (ssdts given : List (List ℕ)) (m : Machine)
    → ssdts ≢ [] → IsPermutation ssdts given → IsIndependent depth dsdt ssdts
    → IsMachine depth (dsdt ∷ given) m → IsJoin (IsSingleLoad depth dsdt ssdts) m

-- .. and to one machine in all orders
abbrev pub AnyOrderLoadsAlike : Type 0
AnyOrderLoadsAlike = (depth : ℕ) (dsdt : List ℕ) (ssdts given : List (List ℕ)) (m n : Machine)
    → ssdts ≢ [] → IsPermutation ssdts given → IsIndependent depth dsdt ssdts
    → IsMachine depth (dsdt ∷ ssdts) m → IsMachine depth (dsdt ∷ given) n → m ≡ n

-- What tells of a list of tables a machine to which they load or a fault, and a fault that is no allocation failure only
-- where they have no load, tells of independent SSDTs in any order the join of their single loads, or an allocation
-- failure.
abbrev pub LoadTellsJoin : Type 0
LoadTellsJoin =
    (depth : ℕ) (dsdt : List ℕ) (given : List (List ℕ)) (told : Result Machine LoadFault)
    → IfOk told (λ m. IsMachine depth (dsdt ∷ given) m)
    → IfErr told (λ e. e ≢ Memory → HasNoLoad depth (dsdt ∷ given))
    → TellsOfJoin IsJoin depth dsdt given told

-- each order of independent SSDTs loads to the join of their single loads
abbrev pub EachOrderLoads : Type 0
EachOrderLoads = (depth : ℕ) (dsdt : List ℕ) (ssdts given : List (List ℕ))
    → AreReordered depth dsdt ssdts given → LoadsToJoin depth dsdt ssdts given

-- independence and the join are the same for every order
abbrev pub IndependentInAnyOrder : Type 0
IndependentInAnyOrder = (depth : ℕ) (dsdt : List ℕ) (ssdts given : List (List ℕ))
    → IsPermutation ssdts given → IsIndependent depth dsdt ssdts → IsIndependent depth dsdt given

abbrev pub JoinInAnyOrder : Type 0
JoinInAnyOrder = (depth : ℕ) (dsdt : List ℕ) (ssdts given : List (List ℕ)) (m : Machine)
    → IsPermutation ssdts given
    → IsJoin (IsSingleLoad depth dsdt ssdts) m → IsJoin (IsSingleLoad depth dsdt given) m

-- ---- joins

-- machines have one join at most
abbrev pub OneJoin : Type 0
OneJoin =
    (parts : List Machine) (m n : Machine) → IsJoin (Among parts) m → IsJoin (Among parts) n → m ≡ n

-- .. and one exactly where no two of them give a path two values
abbrev pub AgreeingHaveJoin : Type 0
AgreeingHaveJoin = (parts : List Machine) → AllAgree parts → (m : Machine) × IsJoin (Among parts) m

abbrev pub JoinedAgree : Type 0
JoinedAgree = (parts : List Machine) (m : Machine) → IsJoin (Among parts) m → AllAgree parts

-- ---- verdicts

abbrev pub CommuteIsIndependent : Type 0
CommuteIsIndependent = (depth : ℕ) (dsdt : List ℕ) (ssdts : List (List ℕ)) → ssdts ≢ []
    → IsVerdict depth dsdt ssdts commute ↔ IsIndependent depth dsdt ssdts

abbrev pub NoSsdtsCommute : Type 0
NoSsdtsCommute =
    (depth : ℕ) (dsdt : List ℕ) → IsVerdict depth dsdt [] commute ↔ DsdtLoads depth dsdt

abbrev pub OneVerdict : Type 0
OneVerdict = (depth : ℕ) (dsdt : List ℕ) (ssdts : List (List ℕ)) (v w : VerdictTree)
    → IsVerdict depth dsdt ssdts v → IsVerdict depth dsdt ssdts w → v ≡ w

-- where the DSDT and the earlier SSDTs load, and SSDT i is refused for a reason, the verdict is of it
abbrev pub RefusedIsNotAlone : Type 0
RefusedIsNotAlone = (depth : ℕ) (dsdt : List ℕ) (ssdts : List (List ℕ)) (i : ℕ)
    (reason : LoadReason) → DsdtLoads depth dsdt
    → ((k : ℕ) (b : List ℕ) → k < i → IsSsdt ssdts k b → LoadsAlone depth dsdt b)
    → IsReasonAt depth dsdt ssdts i reason → IsVerdict depth dsdt ssdts (not_alone i)

-- where it holds of no earlier pair, and of this pair at no earlier path, it is the least
abbrev pub LeastByPairs : (ℕ → ℕ → List Segment → Type 0) → Type 0
LeastByPairs Holds = (i j : ℕ) (p : List Segment) → Holds i j p
    → ((a b : ℕ) (q : List Segment) → IsPairBefore a b i j → Holds a b q → ⊥)
    → ((q : List Segment) → path_cmp q p ≡ Less → Holds i j q → ⊥) → IsLeast Holds i j p

abbrev pub LeastSame : Type 0
LeastSame =
    (depth : ℕ) (dsdt : List ℕ) (ssdts : List (List ℕ)) → LeastByPairs (IsSame depth dsdt ssdts)

abbrev pub LeastMissed : Type 0
LeastMissed =
    (depth : ℕ) (dsdt : List ℕ) (ssdts : List (List ℕ)) → LeastByPairs (IsMissed depth dsdt ssdts)

-- what two single loads tell decides what they say of each other
abbrev pub SameByLists : Type 0
SameByLists = (depth : ℕ) (dsdt : List ℕ) (ssdts : List (List ℕ)) (i j : ℕ) (b c : List ℕ) → i < j
    → IsSsdt ssdts i b → IsSsdt ssdts j c
    → (m n : Machine) (declares declares' misses misses' : List (List Segment))
    (awaits awaits' : List (ℕ × List Segment × ℕ))
    → IsSingle depth dsdt b m declares misses awaits
    → IsSingle depth dsdt c n declares' misses' awaits'
    → (p : List Segment) → IsSame depth dsdt ssdts i j p ↔ (Among declares p × Among declares' p)

abbrev pub MissedByLists : Type 0
MissedByLists = (depth : ℕ) (dsdt : List ℕ) (ssdts : List (List ℕ)) (i j : ℕ) (b c : List ℕ) → i ≢ j
    → IsSsdt ssdts i b → IsSsdt ssdts j c
    → (m n : Machine) (declares declares' misses misses' : List (List Segment))
    (awaits awaits' : List (ℕ × List Segment × ℕ))
    → IsSingle depth dsdt b m declares misses awaits
    → IsSingle depth dsdt c n declares' misses' awaits'
    → (p : List Segment)
    → IsMissed depth dsdt ssdts i j p ↔ IsUnmetBy misses awaits declares' n.objects p

-- ---- what one more table leaves as it was

-- links answer and miss as before where no path came that they missed
abbrev pub LinksStay : Type 0
LinksStay = (objects more : Namespace) (w : PendingLink)
    → ((p : List Segment) (o : ObjectTree) → more p ≡ Some o → IsLinkMiss objects w p → ⊥)
    → (answers (union objects more) w.scope w.names ≡ answers objects w.scope w.names)
    × ((p : List Segment) → IsLinkMiss (union objects more) w p ↔ IsLinkMiss objects w p)

-- a method has the body that it had, and misses and awaits as before, where no path came that it missed or awaits
abbrev pub BodyStays : Type 0
BodyStays = (depth : ℕ) (objects more : Namespace) (m : Method)
    → ((p : List Segment) (o : ObjectTree) → more p ≡ Some o
    → (IsBodyMiss depth objects m p → ⊥) × ((args : ℕ) → IsAwaiting depth objects m p args → ⊥))
    → ((b : BodyTree) → IsBody depth (union objects more) m b ↔ IsBody depth objects m b)
    × ((p : List Segment)
    → IsBodyMiss depth (union objects more) m p ↔ IsBodyMiss depth objects m p)
    × ((p : List Segment) (args : ℕ)
    → IsAwaiting depth (union objects more) m p args ↔ IsAwaiting depth objects m p args)

-- ---- Externals

-- What a body awaits in a single load of independent SSDTs is met in the load of all: where an object stands there, the
-- name means it, and it is a method of as many arguments as the External says.
abbrev pub AwaitedIsFound : Type 0
AwaitedIsFound = (depth : ℕ) (dsdt : List ℕ) (ssdts : List (List ℕ)) (m : Machine)
    → IsIndependent depth dsdt ssdts → IsMachine depth (dsdt ∷ ssdts) m
    → (b : List ℕ) → Among ssdts b → (first t : Listing) → AreSingleListings depth dsdt b first t
    → (w : Method) → Among (all_methods (first ∷ t ∷ [])) w
    → (ts : TermTrees) → IsReading depth (objects_of_both first t) w ts
    → (locals : Locals) (n : NameParts) → Among (all_searches w.path finite.empty ts) (locals, n)
    → (p : List Segment) → awaited_place (objects_of_both first t) w.counts w.path locals n ≡ Some p
    → (o : ObjectTree) → m.objects p ≡ Some o
    → (answer (defined_with m.objects locals) w.path n ≡ Some p)
    × ((args : ℕ) → w.counts p ≡ Some args → IsTrue (is_method_of o args))
