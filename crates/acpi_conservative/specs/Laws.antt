-- Where the strict load lists tables, the survey lists the same, without conditions (ACPI 6.5, 5.3).
use Rattle.std.specs.Prelude.{◌≡◌, ℕ, true, false, List, [], ◌++◌, map, option_to_list, is_some, Option, Some, slice_get}
use Rattle.std.specs.List.{All, AllByRecursion, AllZip, concat, flat_map}
use Rattle.std.specs.FinMap as finite
use Rattle.acpi_table.specs.Tables.{IsTable}
use Rattle.acpi_name.specs.Names.{NameParts}
use Rattle.acpi_space.specs.Spaces.{PathMap}
use Rattle.acpi_space.specs.Lookups.{Lookup, is_defined_in}
use Rattle.acpi_space.specs.Search.{answer}
use Rattle.acpi_tree.specs.Tree.{ItemTrees}
use Rattle.acpi_tree.specs.TermView.{terms_tree}
use Rattle.acpi_declare.specs.Namespace.{Namespace}
use Rattle.acpi_declare.specs.Predefined.{predefined}
use Rattle.acpi_declare.specs.Listing.{Placement}
use Rattle.acpi_declare.specs.Links.{answers}
use Rattle.acpi_declare.specs.Loads.{AreListings, objects_after}
use Rattle.acpi_declare.specs.Notes.{external_counts, Method, methods}
use Rattle.acpi_declare.specs.Tables.{IsTableOf, code_of}
use Rattle.acpi_body.specs.Arguments.{BodyGrammar, body_grammar}
use Rattle.acpi_body.specs.Faults.{ShowsBody}
use Rattle.acpi_body.specs.Loads.{have_load}
use Rattle.acpi_body.specs.Bodies as bodies
use Rattle.acpi_body.specs.Bodies.{BodyTree, read, unread}
use Rattle.acpi_order.specs.Bodies as machines
use Rattle.acpi_order.specs.Machines.{Machine, IsMachine}
use Rattle.acpi_outline.specs.Nodes.{NodeTrees}
use Rattle.acpi_conservative.specs.StrictNodes.{AreItems}
use Rattle.acpi_conditions.specs.Entries as entries
use Rattle.acpi_conditions.specs.Entries.{Path, Entry, HasNoCondition}
use Rattle.acpi_conditions.specs.Known.{Known, is_certain_name}
use Rattle.acpi_conditions.specs.Survey.{surveys}
use Rattle.acpi_conditions.specs.Laws.{IsAllOf, IsStrict}
use Rattle.acpi_conditions.specs.Listings as conditions
use Rattle.acpi_conditions.specs.Views.{seen_by, links_by}
use Rattle.acpi_pieces.specs.declared.tables.TableContent.{TableContent}
use Rattle.acpi_pieces.specs.declared.tables.TableContent.TheVariants.{Read}
use Rattle.acpi_survey.specs.declared.machine_survey.SurveyedTable.{SurveyedTable}
use Rattle.acpi_entries.specs.declared.body.BodyReading.{BodyReading}
use Rattle.acpi_entries.specs.declared.body.BodyReading.TheVariants.{Terms, Opaque}
use Rattle.acpi_entries.specs.declared.body.MethodBody.{MethodBody}
use Rattle.acpi_values.specs.Grammars.{with_loads}
use Rattle.acpi_survey.specs.Bodies.{entry_grammar}
use Rattle.acpi_entries.specs.EntryBodies.{IsBodyOf}
use Rattle.acpi_findings.specs.Findings.{problems_in, notes_by}
use Rattle.acpi_ranges.specs.Index.{Unknowns}
use Rattle.acpi_pieces.specs.Pieces.{ArePieces}
use Rattle.acpi_ranges.specs.Ranges.{Entered}
use Rattle.acpi_survey.specs.Surveys.{AreTables, bytes_of}
use Rattle.acpi_pieces.specs.Tables.{IsJudged}
use Rattle.acpi_survey.specs.Reading.{Reading}
use Rattle.acpi_survey.specs.Predefined.{first_reading}
use Rattle.acpi_survey.specs.Survey.{AreRead}
use Rattle.acpi_conservative.specs.Strict.{nodes_of, all_placed, Agrees, AreItemListings, AreTablesOf, predefined_terms, predefined_known}

-- the strict listings of item trees are listings of their nodes
abbrev pub StrictIsListing : Type 0
StrictIsListing = (objects : Namespace) (terms : entries.Namespace) → Agrees objects terms
    → (iss : List ItemTrees) (ts : List (List Placement)) → AreItemListings objects iss ts
    → conditions.AreListings (map nodes_of iss) terms (map all_placed ts)

-- so their surveys are these, no entry has a condition, and nothing is refused
abbrev pub StrictLoadIsSurvey : Type 0
StrictLoadIsSurvey = (objects : Namespace) (terms : entries.Namespace) (k : Known)
    → Agrees objects terms → IsAllOf terms k → (iss : List ItemTrees) (ts : List (List Placement))
    → AreItemListings objects iss ts
    → AllZip IsStrict (map all_placed ts) (surveys k (map nodes_of iss))

-- where a list of tables has strict listings, these are the surveys of its items
abbrev pub StrictTablesAreSurvey : Type 0
StrictTablesAreSurvey = (depth : ℕ) (tables : List (List ℕ)) (ts : List (List Placement))
    → AreListings depth 0 predefined tables ts
    → (iss : List ItemTrees) × AreTablesOf depth 0 tables iss
    × AllZip IsStrict (map all_placed ts) (surveys predefined_known (map nodes_of iss))

-- before any table the terms agree with the predefined objects, and all of them are known
abbrev pub PredefinedAgrees : Type 0
PredefinedAgrees = Agrees predefined predefined_terms

abbrev pub PredefinedIsKnown : Type 0
PredefinedIsKnown = IsAllOf predefined_terms predefined_known

-- ---- as the survey reads the bytes

-- a file that holds whole tables, one behind another, is cut into these
abbrev pub StrictFileIsCut : Type 0
StrictFileIsCut = (tables : List (List ℕ)) → All IsTable tables → (pieces : List (List ℕ))
    → ArePieces pieces (concat tables) → pieces ≡ tables

-- nothing is wrong with a table of the strict load: it isn't cut, its bytes sum to 0, it is in place, and nothing
-- stands behind it
abbrev pub StrictTableIsRead : Type 0
StrictTableIsRead = (depth number : ℕ) (bytes : List ℕ) (is : ItemTrees)
    → IsTableOf depth number bytes is → (j : TableContent) → IsJudged number bytes j
    → j ≡ Read (code_of bytes) false false false 0

-- the entry is the placement's, wherever its term stands, and has no condition
pub record IsEntryOf (d : conditions.Placement) (e : Entry) : Type 0 where
  pub scope : e.scope ≡ d.scope
  pub path : e.path ≡ d.path
  pub name : e.term.name ≡ d.term.name
  pub is_scope : e.term.is_scope ≡ d.term.is_scope
  pub needs : e.term.needs ≡ d.term.needs
  pub no_condition : HasNoCondition e

-- Where tables have strict listings, the entries that are read of their bytes, behind those that are there before any
-- table, are these, in their order; and nothing is refused.
abbrev pub StrictReadIsSurvey : Type 0
StrictReadIsSurvey = (depth : ℕ) (tables : List (List ℕ)) (ts : List (List Placement))
    → AreListings depth 0 predefined tables ts
    → (nss : List NodeTrees) (last : Reading) → AreRead depth 0 first_reading tables nss last
    → (es : List Entry) × (last.walk.entries ≡ first_reading.walk.entries ++ es)
    × AllZip IsEntryOf (flat_map all_placed ts) es × (last.walk.refused ≡ [])

-- ---- nothing is lost

-- Where tables have strict listings, the nodes that are read of each are its items: each declares, opens, or is an
-- External. There is no statement.
abbrev pub StrictReadIsItems : Type 0
StrictReadIsItems = (depth : ℕ) (tables : List (List ℕ)) (ts : List (List Placement))
    → AreListings depth 0 predefined tables ts
    → (nss : List NodeTrees) (last : Reading) → AreRead depth 0 first_reading tables nss last
    → (iss : List ItemTrees) × AreTablesOf depth 0 tables iss × AllZip AreItems iss nss

-- A survey of them has no problem: nothing is wrong with a table as a whole, nothing of it is lost, and nothing is
-- refused.
abbrev pub StrictHasNoProblem : Type 0
StrictHasNoProblem = (depth : ℕ) (kept : List SurveyedTable) (last : Reading)
    → AreTables depth 0 first_reading kept last
    → (ts : List (List Placement))
    → AreListings depth 0 predefined (bytes_of kept) ts → problems_in last kept ≡ []

-- Nor has it a note, whatever is entered and whatever names are unknown: no sum is wrong, no table is out of place, and
-- nothing is called, loaded or stray.
abbrev pub StrictHasNoNote : Type 0
StrictHasNoNote = (depth : ℕ) (kept : List SurveyedTable) (last : Reading)
    → AreTables depth 0 first_reading kept last
    → (ts : List (List Placement))
    → AreListings depth 0 predefined (bytes_of kept) ts → (entered : ℕ → Entered)
    (unknowns : Unknowns) → notes_by entered unknowns 0 kept ≡ []

-- ---- links and bodies

-- The links of an entry are what the strict load finds over all objects: for each name one candidate, or none.
abbrev pub StrictLinks : Type 0
StrictLinks = (depth : ℕ) (tables : List (List ℕ)) (ts : List (List Placement))
    → AreListings depth 0 predefined tables ts
    → (nss : List NodeTrees) (last : Reading) → AreRead depth 0 first_reading tables nss last
    → (e : Entry) (names : List NameParts)
    → links_by (record { entries = last.walk.entries; entry = e }) names
    ≡ map option_to_list (answers (objects_after predefined ts) e.scope names)

-- A name is found for certain, where it is found.
abbrev pub StrictCertain : Type 0
StrictCertain = (depth : ℕ) (tables : List (List ℕ)) (ts : List (List Placement))
    → AreListings depth 0 predefined tables ts
    → (nss : List NodeTrees) (last : Reading) → AreRead depth 0 first_reading tables nss last
    → (e : Entry) (n : NameParts)
    → is_certain_name (seen_by (record { entries = last.walk.entries; entry = e })) e.scope n
    ≡ is_some (answer (is_defined_in (objects_after predefined ts)) e.scope n)

-- .. but that loads may stand
abbrev pub loading : BodyGrammar → BodyGrammar
loading g locals = with_loads (g locals).args

-- As many values follow a name in the body of a method, whatever Externals say and the body has declared: its grammar
-- is that of the strict load, but that loads may stand.
abbrev pub StrictCounts : Type 0
StrictCounts = (depth : ℕ) (tables : List (List ℕ)) (ts : List (List Placement))
    → AreListings depth 0 predefined tables ts
    → (nss : List NodeTrees) (last : Reading) → AreRead depth 0 first_reading tables nss last
    → (e : Entry) (expected : PathMap ℕ)
    → entry_grammar last.walk.entries last.counts expected e
    ≡ loading (body_grammar (objects_after predefined ts) (finite.get expected) e.path)

-- ---- bodies

-- the survey hears of a table's Externals what the strict load does
abbrev pub HearsAlike : List Placement → SurveyedTable → Type 0
HearsAlike t k = finite.get k.expected ≡ external_counts t

abbrev pub StrictExternals : Type 0
StrictExternals = (depth : ℕ) (kept : List SurveyedTable) (last : Reading)
    → AreTables depth 0 first_reading kept last
    → (ts : List (List Placement)) → AreListings depth 0 predefined (bytes_of kept) ts
    → AllZip HearsAlike ts kept

-- What the load keeps of a method's code, and what the survey reads of it: the same terms; or none, since the code has
-- none, for a reason that is true of it; or the load keeps the bytes, and the survey reads terms with a LoadTable, Load
-- or Unload.
abbrev pub IsSameBody : BodyGrammar → Path → (depth : ℕ) → (code : List ℕ) → BodyTree → BodyReading
    → Type 0
IsSameBody g p depth code (read ts) (Terms v) = terms_tree v.items ≡ ts
IsSameBody g p depth code (unread bytes) (Opaque reason place name) =
    (bytes ≡ code) × ShowsBody (loading g) p depth code reason place
IsSameBody g p depth code (unread bytes) (Terms v) =
    (bytes ≡ code) × (have_load (terms_tree v.items) ≡ true)
IsSameBody g p depth code (read ts) (Opaque reason place name) = ⊥

-- The entry of that number stands at the method's path, and its body is the method's: it has the method's code, and
-- what is read of it is what the load keeps, by its objects and what the Externals of the method's table say.
pub record HasBodyOf (depth : ℕ) (kept : List SurveyedTable) (last : Reading) (objects : Namespace)
    (externals : Lookup ℕ) (m : Method) : Type 0 where
  pub number : ℕ
  pub entry : Entry
  pub is_numbered : slice_get last.walk.entries number ≡ Some entry
  pub path : entry.path ≡ m.path
  pub body : (b : Option MethodBody) → IsBodyOf last.walk.entries last.counts kept depth number b
      → (c : MethodBody) × (b ≡ Some c) × (c.code.now ≡ m.code)
      × ((tree : BodyTree)
      → bodies.IsBodyOf (body_grammar objects externals m.path) m.path depth m.code tree
      → IsSameBody (body_grammar objects externals m.path) m.path depth m.code tree c.reading)

-- each method of each table has such an entry
abbrev pub HaveBodies : (depth : ℕ) → List SurveyedTable → Reading → Namespace → List Placement
    → Type 0
HaveBodies depth kept last objects t =
    AllByRecursion (HasBodyOf depth kept last objects (external_counts t)) (methods t)

abbrev pub StrictBodies : Type 0
StrictBodies = (depth : ℕ) (kept : List SurveyedTable) (last : Reading)
    → AreTables depth 0 first_reading kept last
    → (ts : List (List Placement)) → AreListings depth 0 predefined (bytes_of kept) ts
    → AllByRecursion (HaveBodies depth kept last (objects_after predefined ts)) ts

-- ---- the machine

-- So is the body of a method of a machine what is kept of it.
pub record IsKeptAs (depth : ℕ) (kept : List SurveyedTable) (last : Reading) (objects : Namespace)
    (m : machines.Method) (tree : BodyTree) : Type 0 where
  pub number : ℕ
  pub entry : Entry
  pub is_numbered : slice_get last.walk.entries number ≡ Some entry
  pub path : entry.path ≡ m.path
  pub body : (b : Option MethodBody) → IsBodyOf last.walk.entries last.counts kept depth number b
      → (c : MethodBody) × (b ≡ Some c) × (c.code.now ≡ m.code) × IsSameBody
      (machines.grammar_of objects m) m.path depth m.code tree c.reading

-- Where tables load to a machine, each of its methods has an entry whose body is what the machine keeps.
abbrev pub StrictMachineBodies : Type 0
StrictMachineBodies = (depth : ℕ) (kept : List SurveyedTable) (last : Reading)
    → AreTables depth 0 first_reading kept last
    → (m : Machine) (is : IsMachine depth (bytes_of kept) m)
    → AllZip (IsKeptAs depth kept last m.objects) (machines.all_methods is.placements) is.trees
