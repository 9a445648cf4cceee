-- What follows of runs: the order of SSDTs that commute is free, and what `rewrite` stores stays (docs/NAMESPACE.md).
use Rattle.std.specs.Prelude.{◌≡◌, ◌≢◌, ◌∷◌, ℕ, List, [], Option, None, Some, IsPermutation, ⊤}
use Rattle.std.specs.declared.io.ErrorKind.{ErrorKind}
use Rattle.acpi_name.specs.Names.{Segment}
use Rattle.acpi_name.specs.Text.{SpellsPathText}
use Rattle.acpi_order.specs.Machines.{Machine}
use Rattle.acpi_order.specs.Joins.{IsJoin, IsSingleLoad}
use Rattle.acpi_order.specs.Verdicts.{commute}
use Rattle.acpins_output.specs.Checked.{ChecksAs}
use Rattle.acpins_output.specs.Listings.{Prints}
use Rattle.acpins_output.specs.Shown.{Shows}
use Rattle.acpins_words.specs.Words.{Text, Command, listing, showing, checking, rewriting, Asked, asked_of}
use Rattle.acpins_run.specs.declared.failure.Failure.{Failure}
use Rattle.acpins_run.specs.declared.failure.Failure.TheVariants.{Read, Output, Memory}
use Rattle.acpins_run.specs.Input.{FileBytes, AreTablesOf}
use Rattle.acpins_run.specs.Runs.{IsOutput, StoresOutput, IsRunFailure}

-- ---- runs over files whose bytes are known

-- the bytes of each of these files are known
abbrev pub AreKnown : FileBytes → List (List ℕ) → Type 0
AreKnown bytes_of [] = ⊤
AreKnown bytes_of (name ∷ names) = (bytes_of name ≢ None) × AreKnown bytes_of names

-- the words ask for this, by that command, of such files
pub record Asks (bytes_of : FileBytes) (words : List Text) (asked : Asked)
    (command : Command) : Type 0 where
  pub ask : asked_of words ≡ Some asked
  pub command_is : asked.command ≡ command
  pub known : AreKnown bytes_of asked.files

-- .. and the run of them printed this text and ended with status 0
pub record HasPrinted (bytes_of : FileBytes) (words : List Text) (asked : Asked) (command : Command)
    (text : List ℕ) : Type 0 where
  pub asks : Asks bytes_of words asked command
  pub printed : IsOutput bytes_of words 0 text

-- a failure that says nothing of tables: opening or reading a file failed, standard output can't be written, or there is
-- no memory
-- `last` is the kind of the error with which opening or reading a file failed last.
abbrev pub IsHostFailure : Option ErrorKind → Failure → Type 0
IsHostFailure last (Read word) = last ≢ None
IsHostFailure last Output = ⊤
IsHostFailure last Memory = ⊤
IsHostFailure last _ = ⊥

-- the run of the words fails in no other way
abbrev pub FailsByHost : FileBytes → List Text → Type 0
FailsByHost bytes_of words = (last : Option ErrorKind) (failure : Failure)
    → IsRunFailure bytes_of last words failure → IsHostFailure last failure

-- ---- SSDTs in any order

-- The files that are checked hold a DSDT and SSDTs, one at least, and the others hold the same in some order.
pub record HoldSame (checked_bytes other_bytes : FileBytes) (checked other : Asked) (dsdt : List ℕ)
    (ssdts given : List (List ℕ)) : Type 0 where
  pub checked_tables : AreTablesOf checked_bytes checked.hex checked.files (dsdt ∷ ssdts)
  pub other_tables : AreTablesOf other_bytes other.hex other.files (dsdt ∷ given)
  pub some : ssdts ≢ []
  pub order : IsPermutation ssdts given
  pub depth_is : other.depth ≡ checked.depth

-- SSDTs that `check` found to commute are listed in any order as the join of their single loads
abbrev pub ListingIsOfJoin : Type 0
ListingIsOfJoin = (checked_bytes other_bytes : FileBytes) (check list : List Text)
    (checked other : Asked) (verdict text : List ℕ) (dsdt : List ℕ) (ssdts given : List (List ℕ))
    → HasPrinted checked_bytes check checked checking verdict
    → HasPrinted other_bytes list other listing text
    → HoldSame checked_bytes other_bytes checked other dsdt ssdts given
    → (m : Machine) × IsJoin (IsSingleLoad checked.depth dsdt ssdts) m
    × Prints m.objects m.links text

-- .. so two orders have the same listing
abbrev pub ListingsAreAlike : Type 0
ListingsAreAlike = (checked_bytes one_bytes two_bytes : FileBytes) (check list again : List Text)
    (checked one two : Asked) (verdict text other : List ℕ)
    (dsdt : List ℕ) (ssdts first second : List (List ℕ))
    → HasPrinted checked_bytes check checked checking verdict
    → HasPrinted one_bytes list one listing text → HasPrinted two_bytes again two listing other
    → HoldSame checked_bytes one_bytes checked one dsdt ssdts first
    → HoldSame checked_bytes two_bytes checked two dsdt ssdts second → text ≡ other

-- .. and what is shown of a path is the object of the join there
abbrev pub ShowingIsOfJoin : Type 0
ShowingIsOfJoin = (checked_bytes other_bytes : FileBytes) (check show : List Text)
    (checked other : Asked) (verdict text : List ℕ) (word : Text) (dsdt : List ℕ)
    (ssdts given : List (List ℕ))
    → HasPrinted checked_bytes check checked checking verdict
    → HasPrinted other_bytes show other (showing word) text
    → HoldSame checked_bytes other_bytes checked other dsdt ssdts given
    → (path : List Segment) × (m : Machine) × SpellsPathText path word
    × IsJoin (IsSingleLoad checked.depth dsdt ssdts) m
    × Shows checked.depth (dsdt ∷ given) m path text

-- .. so of one path, however it is typed, two orders show the same, the reason of a body that isn't read too
abbrev pub ShowingsAreAlike : Type 0
ShowingsAreAlike = (checked_bytes one_bytes two_bytes : FileBytes) (check show again : List Text)
    (checked one two : Asked) (path : List Segment) (word typed : Text)
    (verdict text other : List ℕ) (dsdt : List ℕ) (ssdts first second : List (List ℕ))
    → SpellsPathText path word → SpellsPathText path typed
    → HasPrinted checked_bytes check checked checking verdict
    → HasPrinted one_bytes show one (showing word) text
    → HasPrinted two_bytes again two (showing typed) other
    → HoldSame checked_bytes one_bytes checked one dsdt ssdts first
    → HoldSame checked_bytes two_bytes checked two dsdt ssdts second → text ≡ other

-- no order of them is refused by that command
abbrev pub NoOrderIsRefused : Command → Type 0
NoOrderIsRefused command = (checked_bytes other_bytes : FileBytes) (check words : List Text)
    (checked other : Asked) (verdict : List ℕ) (dsdt : List ℕ) (ssdts given : List (List ℕ))
    → HasPrinted checked_bytes check checked checking verdict
    → Asks other_bytes words other command
    → HoldSame checked_bytes other_bytes checked other dsdt ssdts given
    → FailsByHost other_bytes words

-- .. nor a path that another order shows
abbrev pub NoOrderHidesPath : Type 0
NoOrderHidesPath = (checked_bytes one_bytes two_bytes : FileBytes) (check show again : List Text)
    (checked one two : Asked) (path : List Segment) (word typed : Text) (verdict text : List ℕ)
    (dsdt : List ℕ) (ssdts first second : List (List ℕ))
    → SpellsPathText path word → SpellsPathText path typed
    → HasPrinted checked_bytes check checked checking verdict
    → HasPrinted one_bytes show one (showing word) text
    → Asks two_bytes again two (showing typed)
    → HoldSame checked_bytes one_bytes checked one dsdt ssdts first
    → HoldSame checked_bytes two_bytes checked two dsdt ssdts second
    → FailsByHost two_bytes again

-- .. and `check` of any order of them prints `commute`, with status 0
abbrev pub EachOrderCommutes : Type 0
EachOrderCommutes = (checked_bytes other_bytes : FileBytes) (check again : List Text)
    (checked other : Asked) (verdict text : List ℕ) (status : ℕ) (dsdt : List ℕ)
    (ssdts given : List (List ℕ))
    → HasPrinted checked_bytes check checked checking verdict
    → Asks other_bytes again other checking
    → HoldSame checked_bytes other_bytes checked other dsdt ssdts given
    → IsOutput other_bytes again status text
    → ChecksAs checked.depth dsdt given commute status text

-- ---- files that `rewrite` stored

-- the words ask for the tables of such files in the file of that name, and the run of them stored this content there
pub record HasStored (bytes_of : FileBytes) (words : List Text) (asked : Asked) (out : Text)
    (content : List ℕ) : Type 0 where
  pub asks : Asks bytes_of words asked (rewriting out)
  pub old : FileBytes
  pub new : FileBytes
  pub stored : StoresOutput bytes_of words old new
  pub old_known : old out ≢ None
  pub content_is : new out ≡ Some content

-- that content is read, in the form and to the depth in which it was asked for: it is that of the one file
pub record ReadsAs (bytes_of : FileBytes) (asked stored : Asked) (content : List ℕ) : Type 0 where
  pub file : Text
  pub files_are : asked.files ≡ file ∷ []
  pub bytes_are : bytes_of file ≡ Some content
  pub hex_is : asked.hex ≡ stored.hex
  pub depth_is : asked.depth ≡ stored.depth

-- what was stored is listed as the tables that were rewritten, in whichever files these stand
abbrev pub StoredAreListedAlike : Type 0
StoredAreListedAlike = (input_bytes listed_bytes stored_bytes : FileBytes)
    (rewrite list again : List Text) (rewritten listed stored : Asked) (out : Text)
    (content text other : List ℕ) (tables : List (List ℕ))
    → HasStored input_bytes rewrite rewritten out content
    → HasPrinted listed_bytes list listed listing text
    → HasPrinted stored_bytes again stored listing other
    → AreTablesOf input_bytes rewritten.hex rewritten.files tables
    → AreTablesOf listed_bytes listed.hex listed.files tables → listed.depth ≡ rewritten.depth
    → ReadsAs stored_bytes stored rewritten content → other ≡ text

-- .. and is not refused
abbrev pub NoneStoredIsRefused : Type 0
NoneStoredIsRefused = (input_bytes stored_bytes : FileBytes) (rewrite list : List Text)
    (rewritten stored : Asked) (out : Text) (content : List ℕ)
    → HasStored input_bytes rewrite rewritten out content
    → Asks stored_bytes list stored listing → ReadsAs stored_bytes stored rewritten content
    → FailsByHost stored_bytes list

-- .. and rewritten again it is the same, to the byte
abbrev pub StoredStay : Type 0
StoredStay = (input_bytes stored_bytes : FileBytes) (rewrite again : List Text)
    (rewritten stored : Asked) (out other : Text) (content new : List ℕ)
    → HasStored input_bytes rewrite rewritten out content
    → HasStored stored_bytes again stored other new
    → ReadsAs stored_bytes stored rewritten content → new ≡ content
