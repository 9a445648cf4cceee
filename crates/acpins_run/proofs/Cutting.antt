-- Files cut into tables, one after another.
use Rattle.std.proofs.Common.{◌≡◌, ◌≢◌, ◌+◌, ℕ, zero, suc, arith, Bool, true, false, List, [], ◌∷◌, ◌++◌, length, map, get_or, take, drop, ◌<◌, Bor, Option, Some, None, Result, Ok, Err, refl, sym, ap, subst, ◌∙◌, append_assoc, append-nil}
use Rattle.std.specs.Prelude.{All, IfSome, IfErr}
use Rattle.std.specs.Io.KnownBytes.{Consumes, IsAtEnd}
use Rattle.std.specs.List.{concat}
use Rattle.std.specs.declared.io.ErrorKind.{ErrorKind}
use Rattle.std.specs.declared.io.ErrorKind.TheVariants as kinds
use Rattle.std.proofs.lemmas.List.{length-append, map-append, take_more, drop_more, take-append-drop}
use Rattle.std.proofs.lemmas.List.Elements.{All-nil, All-push}
use Rattle.std.proofs.lemmas.List.Folds.{concat-append}
use Rattle.std.proofs.KnownBytes.{Consumes-trans, Consumes-nil}
use Rattle.acpi_table.specs.Tables.{IsTable, IsRefusedAs}
use Rattle.acpi_table.specs.declared.tables.TableFault.{TableFault}
use Rattle.acpins_io.specs.Faults.{error_of}
use Rattle.acpins_io.specs.Hexadecimal.{SpellsInHex}
use Rattle.acpins_run.specs.Input.{FileBytes, Stores, AreTablesIn, AreTablesOf, AddsTablesOf, BreaksOff, IsFileFault, IsFilesFault}
use Rattle.acpins_run.specs.steps.HexFiles.{IsHexFault}
use Rattle.acpins_run.specs.steps.Reading.{CountsFailedRead}
use Rattle.acpins_run.specs.declared.failure.Failure.{Failure}
use Rattle.acpins_run.specs.declared.failure.Failure.TheVariants.{Read, BadHex, Table, Memory}

-- ---- bytes that are taken, piece by piece

-- all that is known was taken
pub taken_whole : (a b : Option (List ℕ)) (xs : List ℕ) → Consumes a b xs → IsAtEnd b → IfSome a (λ bytes. bytes ≡ xs)
taken_whole None b xs taken end = tt
taken_whole (Some all) None xs taken end = absurd taken
taken_whole (Some all) (Some rest) xs taken end = taken ∙ ap (λ l. xs ++ l) end ∙ append-nil xs

-- ---- the loop that cuts tables

pub record SoFar (known coming : Option (List ℕ)) (old new : List (List ℕ)) : Type 0 where
  pub added : List (List ℕ)
  pub grown : new ≡ old ++ added
  pub whole : All IsTable added
  pub taken : Consumes known coming (concat added)

pub SoFar-nothing : (a : Option (List ℕ)) (old : List (List ℕ)) → SoFar a a old old
SoFar-nothing a old = record { added = []; grown = sym (append-nil old); whole = All-nil IsTable; taken = Consumes-nil a }

pub SoFar-more : (a b c : Option (List ℕ)) (old mid new : List (List ℕ)) (table : List ℕ)
    → SoFar a b old mid → new ≡ mid ++ table ∷ [] → IsTable table → Consumes b c table → SoFar a c old new
SoFar-more a b c old mid new table before grown is taken = record {
  added = before.added ++ table ∷ [];
  grown = grown ∙ ap (λ l. l ++ table ∷ []) before.grown ∙ append_assoc old before.added (table ∷ []);
  whole = All-push IsTable before.added table before.whole is;
  taken = subst (Consumes a c) (sym (concat-append before.added (table ∷ []) ∙ ap (λ l. concat before.added ++ l) (append-nil table)))
      (Consumes-trans a b c (concat before.added) table before.taken taken);
}

-- the bytes are at their end
pub adds_all : (a b : Option (List ℕ)) (old new : List (List ℕ)) → SoFar a b old new → IsAtEnd b → AddsTablesOf false a old new
adds_all a b old new far end =
    (far.added, far.grown, record { whole = far.whole; stored = taken_whole a b (concat far.added) far.taken end })

breaks_at : (a b : Option (List ℕ)) (tables : List (List ℕ)) (fault : TableFault)
    → Consumes a b (concat tables) → IfSome b (λ bytes. IsRefusedAs fault bytes × (bytes ≢ []))
    → IfSome a (λ content. (rest : List ℕ) × Stores false content (concat tables ++ rest) × (rest ≢ []) × IsRefusedAs fault rest)
breaks_at None b tables fault taken refused = tt
breaks_at (Some all) None tables fault taken refused = absurd taken
breaks_at (Some all) (Some rest) tables fault taken refused = (rest, taken, refused.1, refused.0)

-- no table stands at the front of what is left
pub breaks_off : (name : List ℕ) (a b : Option (List ℕ)) (error : Option ErrorKind) (old new : List (List ℕ)) (before number : ℕ) (fault : TableFault)
    → SoFar a b old new → before ≡ length old → number ≡ length new → IfSome b (λ bytes. IsRefusedAs fault bytes × (bytes ≢ []))
    → IsFileFault false name a error before (Table number fault)
breaks_off name a b error old new before number fault far first count refused =
    let size : number ≡ before + length far.added = count ∙ ap length far.grown ∙ length-append old far.added ∙ ap (λ n. n + length far.added) (sym first) in
    (far.added, size, record { whole = far.whole; refused = breaks_at a b far.added fault far.taken refused })

-- ---- failed reads

some_error : (failures : ℕ) (kind : ErrorKind) → failures ≢ 0 → error_of failures kind ≢ None
some_error zero kind some = absurd (some refl)
some_error (suc failures) kind some = λ e. cc

-- where the failure is that a file can't be read, a read failed with that error
abbrev HasFailed : Failure → Option ErrorKind → Type 0
HasFailed (Read word) error = error ≢ None
HasFailed failure error = Unit {0}

counted : (A : Type 0) (failure : Failure) (old new : ℕ) (kind : ErrorKind) → CountsFailedRead {A = A} (Err failure) old new → HasFailed failure (error_of new kind)
counted A (Read word) old new kind more = some_error new kind (λ none. absurd (omega (arith, more, none)))
counted A failure old new kind more = tt

never_counted : (A : Type 0) (failure : Failure) (error : Option ErrorKind) → CountsFailedRead {A = A} (Err failure) 0 0 → HasFailed failure error
never_counted A (Read word) error more = absurd (omega (arith, more))
never_counted A failure error more = tt

with_error : (hex : Bool) (name : List ℕ) (known : Option (List ℕ)) (a b : Option ErrorKind) (before : ℕ) (failure : Failure) → HasFailed failure b
    → IsFileFault hex name known a before failure → IsFileFault hex name known b before failure
with_error hex name known a b before (Read word) failed fault = (fault.0, failed)
with_error hex name known a b before failure failed fault = fault

-- why an open file gives no tables
pub file_fault : (hex : Bool) (name : List ℕ) (known : Option (List ℕ)) (before old new : ℕ) (kind : ErrorKind) (r : Result (Unit {0}) Failure) → hex ≡ false
    → IfErr r (λ f. (error : Option ErrorKind) → error ≢ None → IsFileFault false name known error before f) → CountsFailedRead r old new
    → IfErr r (IsFileFault hex name known (error_of new kind) before)
file_fault hex name known before old new kind (Ok x) plain fault more = tt
file_fault hex name known before old new kind (Err failure) plain fault more =
    subst (λ (h : Bool). IsFileFault h name known (error_of new kind) before failure) (sym plain)
    (with_error false name known (Some kind) (error_of new kind) before failure (counted (Unit {0}) failure old new kind more) (fault (Some kind) (λ e. cc)))

-- ---- files of hexadecimal text

pub spelled : (known : Option (List ℕ)) (bytes other : List ℕ) → IfSome known (λ content. SpellsInHex bytes content) → bytes ≡ other → IfSome known (λ content. SpellsInHex other content)
spelled known bytes other spells same = subst (λ (b : List ℕ). IfSome known (λ content. SpellsInHex b content)) same spells

-- what is cut from the bytes that a text spells is what the text stores
pub adds_from_hex : (known : Option (List ℕ)) (bytes : List ℕ) (old new : List (List ℕ))
    → IfSome known (λ content. SpellsInHex bytes content) → AddsTablesOf false (Some bytes) old new → AddsTablesOf true known old new
adds_from_hex known bytes old new spells adds =
    (adds.0, adds.1, record { whole = adds.2.whole; stored = spelled known bytes (concat adds.0) spells adds.2.stored })

breaks_in_hex : (known : Option (List ℕ)) (bytes : List ℕ) (tables : List (List ℕ)) (fault : TableFault)
    → IfSome known (λ content. SpellsInHex bytes content) → BreaksOff false (Some bytes) tables fault → BreaksOff true known tables fault
breaks_in_hex None bytes tables fault spells breaks = record { whole = breaks.whole; refused = tt }
breaks_in_hex (Some text) bytes tables fault spells breaks = record {
  whole = breaks.whole;
  refused = (breaks.refused.0, spelled (Some text) bytes (concat tables ++ breaks.refused.0) spells breaks.refused.1, breaks.refused.2, breaks.refused.3);
}

fault_from_hex : (name : List ℕ) (known : Option (List ℕ)) (bytes : List ℕ) (error : Option ErrorKind) (before : ℕ) (failure : Failure)
    → IfSome known (λ content. SpellsInHex bytes content) → IsFileFault false name (Some bytes) error before failure → IsFileFault true name known error before failure
fault_from_hex name known bytes error before (BadHex word) spells fault = absurd (cc (fault.1))
fault_from_hex name known bytes error before (Table number reason) spells fault = (fault.0, fault.1, breaks_in_hex known bytes fault.0 reason spells fault.2)
fault_from_hex name known bytes error before failure spells fault = fault

-- why the bytes that a text spells give no tables
pub hex_fault : (hex : Bool) (name : List ℕ) (known : Option (List ℕ)) (bytes : List ℕ) (error : Option ErrorKind) (before : ℕ) (r : Result (Unit {0}) Failure) → hex ≡ true
    → IfSome known (λ content. SpellsInHex bytes content)
    → IfErr r (λ f. (other : Option ErrorKind) → other ≢ None → IsFileFault false name (Some bytes) other before f) → CountsFailedRead r 0 0
    → IfErr r (IsFileFault hex name known error before)
hex_fault hex name known bytes error before (Ok x) is spells fault more = tt
hex_fault hex name known bytes error before (Err failure) is spells fault more =
    subst (λ (h : Bool). IsFileFault h name known error before failure) (sym is)
    (fault_from_hex name known bytes error before failure spells
    (with_error false name (Some bytes) (Some kinds.Other) error before failure (never_counted (Unit {0}) failure error more) (fault (Some kinds.Other) (λ e. cc))))

-- a file that spells no bytes gives no tables
pub hex_is_file_fault : (name : List ℕ) (known : Option (List ℕ)) (error : Option ErrorKind) (before : ℕ) (failure : Failure) → IsHexFault name known error failure
    → IsFileFault true name known error before failure
hex_is_file_fault name known error before (Read word) fault = fault
hex_is_file_fault name known error before (BadHex word) fault = (fault.0, refl, fault.1)
hex_is_file_fault name known error before Memory fault = tt
hex_is_file_fault name known error before failure fault = absurd fault

-- ---- one file after another

pub AreTablesOf-push : (bytes_of : FileBytes) (hex : Bool) (names : List (List ℕ)) (name : List ℕ) (tables added : List (List ℕ))
    → AreTablesOf bytes_of hex names tables → AreTablesIn hex (bytes_of name) added → AreTablesOf bytes_of hex (names ++ name ∷ []) (tables ++ added)
AreTablesOf-push bytes_of hex [] name tables added none last =
    (added, [], ap (λ l. l ++ added) none ∙ sym (append-nil added), last, refl)
AreTablesOf-push bytes_of hex (n ∷ ns) name tables added are last =
    (are.0, are.1 ++ added, ap (λ l. l ++ added) are.2 ∙ append_assoc are.0 are.1 added, are.3, AreTablesOf-push bytes_of hex ns name are.1 added are.4 last)

abbrev pub named : List (Bor (List ℕ)) → List (List ℕ)
named names = map (λ name. name.now) names

-- after the files before this one, this one's tables
pub next_tables : (start now : FileBytes) (hex : Bool) (names : List (Bor (List ℕ))) (i : ℕ) (d : Bor (List ℕ)) (old new : List (List ℕ))
    → now ≡ start → i < length names → AreTablesOf start hex (named (take i names)) old → AddsTablesOf hex (now (get_or names i d).now) old new
    → AreTablesOf start hex (named (take (i + 1) names)) new
next_tables start now hex names i d old new same below before adds =
    let word = get_or names i d in
    let longer : named (take (i + 1) names) ≡ named (take i names) ++ word.now ∷ [] =
    ap named (take_more names i d below) ∙ map-append (λ (n : Bor (List ℕ)). n.now) (take i names) (word ∷ []) in
    let are : AreTablesIn hex (start word.now) adds.0 = subst (λ (b : FileBytes). AreTablesIn hex (b word.now) adds.0) same adds.2 in
    let all = AreTablesOf-push start hex (named (take i names)) word.now old adds.0 before are in
    subst (λ (ns : List (List ℕ)). AreTablesOf start hex ns new) (sym longer)
    (subst (AreTablesOf start hex (named (take i names) ++ word.now ∷ [])) (sym adds.1) all)

-- this one has none
pub next_fault : (start now : FileBytes) (hex : Bool) (error : Option ErrorKind) (names : List (Bor (List ℕ))) (i : ℕ) (d : Bor (List ℕ)) (old : List (List ℕ)) (count : ℕ)
    (failure : Failure)
    → now ≡ start → i < length names → AreTablesOf start hex (named (take i names)) old → count ≡ length old
    → IsFileFault hex (get_or names i d).now (now (get_or names i d).now) error count failure → IsFilesFault start hex error (named names) failure
next_fault start now hex error names i d old count failure same below before counted fault =
    let word = get_or names i d in
    let parts : names ≡ take i names ++ word ∷ drop (i + 1) names = sym (take-append-drop i names) ∙ ap (λ ns. take i names ++ ns) (drop_more names i d below) in
    record {
      earlier = named (take i names);
      name = word.now;
      later = named (drop (i + 1) names);
      splits = ap named parts ∙ map-append (λ (n : Bor (List ℕ)). n.now) (take i names) (word ∷ drop (i + 1) names);
      tables = old;
      before = before;
      fault = subst (λ (b : FileBytes). IsFileFault hex word.now (b word.now) error (length old) failure) same
          (subst (λ (n : ℕ). IsFileFault hex word.now (now word.now) error n failure) counted fault);
    }
