-- Runs over files that hold tables which load fail by the host alone.
use Rattle.std.proofs.Common.{◌≡◌, ◌≢◌, ℕ, Bool, true, false, List, [], ◌∷◌, ◌++◌, length, Option, Some, None, Err, refl, sym, ap, subst, ◌∙◌, append_assoc}
use Rattle.std.specs.Prelude.{IfSome, IsTrue}
use Rattle.std.specs.List.{AllByRecursion, concat}
use Rattle.std.specs.declared.io.ErrorKind.{ErrorKind}
use Rattle.std.proofs.lemmas.List.Elements.{recursion_from_All}
use Rattle.acpi_table.specs.Tables.{IsTable, IsRefusedAs, table_at}
use Rattle.acpi_table.specs.declared.tables.TableFault.{TableFault}
use Rattle.acpi_table.proofs.TableLaws.{table_again, table_refuses}
use Rattle.acpi_space.proofs.Elements.{one_some}
use Rattle.acpi_declare.specs.Listing.{Placement}
use Rattle.acpi_declare.specs.Loads.{AreListings}
use Rattle.acpi_declare.specs.Predefined.{predefined}
use Rattle.acpi_declare.specs.Refusals.{IsLoadFault}
use Rattle.acpi_declare.specs.declared.fault.LoadFault.{LoadFault}
use Rattle.acpi_declare.specs.declared.fault.LoadFault.TheVariants as faults
use Rattle.acpi_declare.proofs.Refusals.{refused_has_no_load}
use Rattle.acpins_io.specs.Hexadecimal.{SpellsInHex}
use Rattle.acpins_words.specs.Words.{Text, Command, Asked, asked_of}
use Rattle.acpins_run.specs.declared.failure.Failure.{Failure}
use Rattle.acpins_run.specs.declared.failure.Failure.TheVariants.{WrongWords, BadPath, NoSuchPath, NoTable, Read, BadHex, Out, Output, Table, Item, Load, Memory}
use Rattle.acpins_run.specs.Input.{FileBytes, AreTablesIn, AreTablesOf, BreaksOff, IsFileFault, IsFilesFault}
use Rattle.acpins_run.specs.Failures.{failure_of}
use Rattle.acpins_run.specs.Runs.{IsBadPath, IsFailureOf, IsMissingPath, IsRefusal, IsUnwrittenFile, loaded_by}
use Rattle.acpins_run.specs.RunLaws.{AreKnown, Asks, FailsByHost, IsHostFailure}
use Rattle.acpins_run.proofs.Runs.{at_front, front_is, not_empty, one_content, tables_of}

-- ---- files that hold tables don't break off

never_refused : (u v rest : List ℕ) (fault : TableFault) → IsTable u → rest ≡ u ++ v → IsRefusedAs fault rest → ⊥
never_refused u v rest fault h e r = let never : at_front (u, v) ≡ Err fault = sym (table_again u v h) ∙ ap table_at (sym e) ∙ table_refuses rest fault r in absurd (cc never)

never_breaks : (ts us : List (List ℕ)) (rest : List ℕ) (fault : TableFault) → AllByRecursion IsTable ts → AllByRecursion IsTable us → concat ts ++ rest ≡ concat us → rest ≢ []
    → IsRefusedAs fault rest → ⊥
never_breaks [] [] rest fault h k e some r = some e
never_breaks [] (u ∷ us) rest fault h k e some r = never_refused u (concat us) rest fault k.0 e r
never_breaks (t ∷ ts) [] rest fault h k e some r = not_empty t (concat ts ++ rest) h.0 (sym e ∙ append_assoc t (concat ts) rest)
never_breaks (t ∷ ts) (u ∷ us) rest fault h k e some r =
    let both : (t, concat ts ++ rest) ≡ (u, concat us) =
    front_is (t, concat ts ++ rest) (u, concat us)
    (sym (table_again t (concat ts ++ rest) h.0) ∙ ap table_at (sym (append_assoc t (concat ts) rest) ∙ e) ∙ table_again u (concat us) k.0) in
    never_breaks ts us rest fault h.1 k.1 (ap (λ (x : List ℕ × List ℕ). x.1) both) some r

module _ (hex : Bool) (first : List (List ℕ)) where
  never_broken : (known : Option (List ℕ)) (tables : List (List ℕ)) (fault : TableFault) → known ≢ None → AreTablesIn hex known first → BreaksOff hex known tables fault → ⊥
  never_broken None tables fault some h b = some refl
  never_broken (Some content) tables fault some h b =
      never_breaks tables first b.refused.0 fault (recursion_from_All IsTable tables b.whole) (recursion_from_All IsTable first h.whole)
      (one_content hex content (concat tables ++ b.refused.0) (concat first) b.refused.1 h.stored) b.refused.2 b.refused.3

never_bad : (hex : Bool) (first : List (List ℕ)) (known : Option (List ℕ)) → known ≢ None → AreTablesIn hex known first → IsTrue hex
    → IfSome known (λ content. (bytes : List ℕ) → SpellsInHex bytes content → ⊥) → ⊥
never_bad hex first None some h is none = some refl
never_bad true first (Some content) some h is none = none (concat first) h.stored
never_bad false first (Some content) some h is none = absurd (cc is)

file_fails : (hex : Bool) (name : List ℕ) (known : Option (List ℕ)) (last : Option ErrorKind) (before : ℕ) (first : List (List ℕ)) → known ≢ None → AreTablesIn hex known first
    → (failure : Failure) → IsFileFault hex name known last before failure → IsHostFailure last failure
file_fails hex name known last before first some h (Read word) f = f.1
file_fails hex name known last before first some h (BadHex word) f = absurd (never_bad hex first known some h f.1 f.2)
file_fails hex name known last before first some h (Table number fault) f = absurd (never_broken hex first known f.0 fault some h f.2)
file_fails hex name known last before first some h Memory f = tt
file_fails hex name known last before first some h failure f = absurd f

-- the tables of one of the files
tables_at : (bytes_of : FileBytes) (hex : Bool) (earlier later : List (List ℕ)) (name : List ℕ) (tables : List (List ℕ)) → AreKnown bytes_of (earlier ++ name ∷ later)
    → AreTablesOf bytes_of hex (earlier ++ name ∷ later) tables → (first : List (List ℕ)) × (bytes_of name ≢ None) × AreTablesIn hex (bytes_of name) first
tables_at bytes_of hex [] later name tables known h = (h.0, known.0, h.3)
tables_at bytes_of hex (n ∷ ns) later name tables known h = tables_at bytes_of hex ns later name h.1 known.1 h.4

-- ---- tables that load aren't refused

pub only_memory : (depth : ℕ) (tables : List (List ℕ)) (ps : List (List Placement)) → AreListings depth 0 predefined tables ps → (e : LoadFault) → IsLoadFault depth tables e → e ≡ faults.Memory
only_memory depth tables ps h faults.Memory f = refl
only_memory depth tables ps h (faults.At number reason) f = absurd (refused_has_no_load depth tables (faults.At number reason) f (λ e. cc) ps h)

-- ---- runs

-- that command refuses nothing of these tables
pub record RefusesNothing (bytes_of : FileBytes) (asked : Asked) (command : Command) (tables : List (List ℕ)) : Type 0 where
  pub good_path : IsBadPath command → ⊥
  pub path_there : IsMissingPath bytes_of asked command → ⊥
  pub no_file : (failure : Failure) → IsUnwrittenFile bytes_of asked command failure → ⊥
  pub loads : (e : LoadFault) → IsLoadFault asked.depth (loaded_by command tables) e → e ≡ faults.Memory

module _ (bytes_of : FileBytes) (words : List Text) (asked : Asked) (command : Command) (tables : List (List ℕ)) (asks : Asks bytes_of words asked command)
    (hold : AreTablesOf bytes_of asked.hex asked.files tables) (some : tables ≢ []) (free : RefusesNothing bytes_of asked command tables) where
  files_fail : (last : Option ErrorKind) (failure : Failure) → IsFilesFault bytes_of asked.hex last asked.files failure → IsHostFailure last failure
  files_fail last failure f =
      let at = tables_at bytes_of asked.hex f.earlier f.later f.name tables (subst (AreKnown bytes_of) f.splits asks.known)
      (subst (λ (ns : List (List ℕ)). AreTablesOf bytes_of asked.hex ns tables) f.splits hold) in
      file_fails asked.hex f.name (bytes_of f.name) last (length f.tables) at.0 at.1 at.2 failure f.fault

  refused : (last : Option ErrorKind) (failure : Failure) → IsRefusal bytes_of asked failure → IsHostFailure last failure
  refused last failure f =
      let same : f.tables ≡ tables = tables_of bytes_of asked.hex asked.files f.tables tables asks.known f.of_files hold in
      let loaded : loaded_by asked.command f.tables ≡ loaded_by command tables = ap (λ (c : Command). loaded_by c f.tables) asks.command_is ∙ ap (loaded_by command) same in
      let none : f.fault ≡ faults.Memory = free.loads f.fault (subst (λ (ts : List (List ℕ)). IsLoadFault asked.depth ts f.fault) loaded f.refused) in
      subst (IsHostFailure last) (sym (f.told ∙ ap failure_of none)) tt

  asked_fails : (last : Option ErrorKind) (failure : Failure) → IsFailureOf bytes_of last asked failure → IsHostFailure last failure
  asked_fails last (Read word) h = files_fail last (Read word) h
  asked_fails last (BadHex word) h = files_fail last (BadHex word) h
  asked_fails last (Table number fault) h = files_fail last (Table number fault) h
  asked_fails last BadPath h = free.good_path (subst IsBadPath asks.command_is h)
  asked_fails last NoSuchPath h = free.path_there (subst (IsMissingPath bytes_of asked) asks.command_is h)
  asked_fails last (Out word) h = free.no_file (Out word) (subst (λ (c : Command). IsUnwrittenFile bytes_of asked c (Out word)) asks.command_is h)
  asked_fails last NoTable h = some (tables_of bytes_of asked.hex asked.files tables [] asks.known hold h)
  asked_fails last (Item number reason place) h = refused last (Item number reason place) h
  asked_fails last (Load number reason) h = refused last (Load number reason) h
  asked_fails last Memory h = tt
  asked_fails last WrongWords h = h
  asked_fails last Output h = tt

  by_asked : (last : Option ErrorKind) (failure : Failure) → (a : Asked) × (asked_of words ≡ Some a) × IsFailureOf bytes_of last a failure → IsHostFailure last failure
  by_asked last failure (a, is, h) =
      let same : a ≡ asked = one_some a asked (sym is ∙ asks.ask) in asked_fails last failure (subst (λ (x : Asked). IsFailureOf bytes_of last x failure) same h)

  pub fails_by_host : FailsByHost bytes_of words
  fails_by_host last WrongWords h = let e = sym h ∙ asks.ask in cc
  fails_by_host last Output h = tt
  fails_by_host last Memory h = tt
  fails_by_host last failure h = by_asked last failure h
