-- What files of rewritten tables hold, how they are listed, and what rewriting them stores.
use Rattle.std.proofs.Common.{◌≡◌, ◌≢◌, ◌<◌, ◌/◌, ◌%◌, ℕ, zero, suc, Bool, true, false, cond, List, [], ◌∷◌, ◌++◌, get_or, slice_index, Option, Some, None, refl, sym, ap, subst, ◌∙◌, arith, append-nil}
use Rattle.std.specs.Prelude.{All, IfSome, not}
use Rattle.std.specs.List.{AllByRecursion, concat}
use Rattle.std.proofs.lemmas.List.Elements.{All-append, All-from_recursion, All-head, All-nil, All-tail, filter-append}
use Rattle.hex.specs.Hex.{IsBytes, decode_of, encode_lower, encode_with, lower_digits}
use Rattle.hex.proofs.HexLemmas.{decode_of-encode_lower}
use Rattle.acpi_table.specs.Tables.{IsTable}
use Rattle.acpi_space.proofs.Elements.{one_some}
use Rattle.acpi_declare.specs.Listing.{Placement}
use Rattle.acpi_declare.specs.Namespace.{Namespace}
use Rattle.acpi_declare.specs.Refusals.{IsLoadFault}
use Rattle.acpi_order.specs.Machines.{Machine, IsMachine}
use Rattle.acpi_order.proofs.Joined.{one_machine}
use Rattle.acpi_rewrite.specs.Rewriting.{AreTablesOfBytes, AreEachRewritten, AreRewritten}
use Rattle.acpi_rewrite.proofs.OneRewriting.{one_rewriting}
use Rattle.acpi_rewrite.proofs.Rewritten.{load_alike, stays}
use Rattle.acpins_io.specs.Hexadecimal.{digits_of, is_blank}
use Rattle.acpins_words.specs.Words.{Text, Command, listing, Asked}
use Rattle.acpins_run.specs.Input.{FileBytes, Stores, AreTablesIn, AreTablesOf}
use Rattle.acpins_run.specs.Rewritten.{file_text, table_text}
use Rattle.acpins_run.specs.Runs.{IsListing, IsStored, IsStoredFor}
use Rattle.acpins_run.specs.RunLaws.{HasStored, ReadsAs, NoneStoredIsRefused, StoredAreListedAlike, StoredStay}
use Rattle.acpins_run.proofs.HostFailures.{fails_by_host, only_memory}
use Rattle.acpins_run.proofs.Runs.{is_printed, one_listing, tables_of}

-- ---- the digits of bytes

dark : (digits : List ℕ) (i : ℕ) → AllByRecursion (λ c. is_blank c ≡ false) digits → is_blank (get_or digits i 0) ≡ false
dark [] i h = refl
dark (c ∷ digits) zero h = h.0
dark (c ∷ digits) (suc i) h = dark digits i h.1

dark_digit : (i : ℕ) → is_blank (slice_index lower_digits i) ≡ false
dark_digit i =
    dark lower_digits i
    (refl, (refl, (refl, (refl, (refl, (refl, (refl, (refl, (refl, (refl, (refl, (refl, (refl, (refl, (refl, (refl, tt))))))))))))))))

kept : (c : ℕ) (text : List ℕ) → is_blank c ≡ false → digits_of (c ∷ text) ≡ c ∷ digits_of text
kept c text h = ap (λ (b : Bool). cond (not b) (c ∷ digits_of text) (digits_of text)) h

all_digits : (xs : List ℕ) → digits_of (encode_lower xs) ≡ encode_lower xs
unfolding encode_with
all_digits [] = refl
all_digits (b ∷ xs) =
    let high = slice_index lower_digits (b / 16) in
    let low = slice_index lower_digits (b % 16) in
    kept high (low ∷ encode_lower xs) (dark_digit (b / 16))
    ∙ ap (λ (l : List ℕ). high ∷ l) (kept low (encode_lower xs) (dark_digit (b % 16)) ∙ ap (λ (l : List ℕ). low ∷ l) (all_digits xs))

encoded_both : (xs ys : List ℕ) → encode_lower (xs ++ ys) ≡ encode_lower xs ++ encode_lower ys
unfolding encode_with
encoded_both [] ys = refl
encoded_both (b ∷ xs) ys = ap (λ (l : List ℕ). slice_index lower_digits (b / 16) ∷ slice_index lower_digits (b % 16) ∷ l) (encoded_both xs ys)

none_encoded : [] ≡ encode_lower []
unfolding encode_with
none_encoded = refl

line_digits : (t : List ℕ) → digits_of (table_text true t) ≡ encode_lower t
line_digits t =
    filter-append (λ b. not (is_blank b)) (encode_lower t) (10 ∷ []) ∙ append-nil (digits_of (encode_lower t)) ∙ all_digits t

file_digits : (ts : List (List ℕ)) → digits_of (file_text true ts) ≡ encode_lower (concat ts)
file_digits [] = none_encoded
file_digits (t ∷ ts) =
    filter-append (λ b. not (is_blank b)) (table_text true t) (file_text true ts)
    ∙ ap (λ (l : List ℕ). l ++ digits_of (file_text true ts)) (line_digits t)
    ∙ ap (λ (l : List ℕ). encode_lower t ++ l) (file_digits ts)
    ∙ sym (encoded_both t (concat ts))

-- ---- what a file of tables stores

all_below : (ts : List (List ℕ)) → AreTablesOfBytes ts → All (λ b. b < 256) (concat ts)
all_below [] h = All-nil (λ b. b < 256)
all_below (t ∷ ts) h = All-append (λ b. b < 256) t (concat ts) h.0 (all_below ts h.1)

are_bytes : (xs : List ℕ) → All (λ b. b < 256) xs → IsBytes xs
are_bytes [] h i = omega arith
are_bytes (x ∷ xs) h zero = All-head (λ b. b < 256) x xs h
are_bytes (x ∷ xs) h (suc i) = are_bytes xs (All-tail (λ b. b < 256) x xs h) i

plain_text : (ts : List (List ℕ)) → file_text false ts ≡ concat ts
plain_text [] = refl
plain_text (t ∷ ts) = ap (λ (l : List ℕ). t ++ l) (plain_text ts)

text_stores : (hex : Bool) (ts : List (List ℕ)) → AreTablesOfBytes ts → Stores hex (file_text hex ts) (concat ts)
text_stores true ts h = ap decode_of (file_digits ts) ∙ decode_of-encode_lower (concat ts) (are_bytes (concat ts) (all_below ts h))
text_stores false ts h = plain_text ts

-- ---- rewritten tables

are_tables : (depth : ℕ) (objects : Namespace) (ps : List (List Placement)) (bs ns : List (List ℕ)) → AreEachRewritten depth objects ps bs ns → AllByRecursion IsTable ns
are_tables depth objects [] [] [] h = tt
are_tables depth objects [] [] (n ∷ ns) h = absurd h
are_tables depth objects [] (b ∷ bs) ns h = absurd h
are_tables depth objects (p ∷ ps) [] ns h = absurd h
are_tables depth objects (p ∷ ps) (b ∷ bs) [] h = absurd h
are_tables depth objects (p ∷ ps) (b ∷ bs) (n ∷ ns) h = (h.0.written.table, are_tables depth objects ps bs ns h.1)

none_of_none : (depth : ℕ) (objects : Namespace) (ps : List (List Placement)) (bs ns : List (List ℕ)) → AreEachRewritten depth objects ps bs ns → ns ≡ [] → bs ≡ []
none_of_none depth objects [] [] ns h e = refl
none_of_none depth objects [] (b ∷ bs) ns h e = absurd h
none_of_none depth objects (p ∷ ps) [] ns h e = refl
none_of_none depth objects (p ∷ ps) (b ∷ bs) [] h e = absurd h
none_of_none depth objects (p ∷ ps) (b ∷ bs) (n ∷ ns) h e = let never : ⊥ = cc in absurd never

known_holds : (a : Option (List ℕ)) (P : Type 0) → a ≢ None → IfSome a (λ _. P) → P
known_holds None P some h = absurd (some refl)
known_holds (Some x) P some h = h

-- ---- a run that stored tables, and runs over its file

module _ (bytes_of : FileBytes) (words : List Text) (asked : Asked) (out : Text) (content : List ℕ) (h : HasStored bytes_of words asked out content) where
  is_stored : IsStored bytes_of asked out h.old h.new
  is_stored =
      let same : h.stored.0 ≡ asked = one_some h.stored.0 asked (sym h.stored.1 ∙ h.asks.ask) in
      subst (λ (c : Command). IsStoredFor bytes_of asked c h.old h.new) h.asks.command_is
      (subst (λ (a : Asked). IsStoredFor bytes_of a a.command h.old h.new) same h.stored.2)

  content_is : content ≡ file_text asked.hex is_stored.rewritten
  content_is =
      one_some content (file_text asked.hex is_stored.rewritten)
      (sym h.content_is ∙ known_holds (h.old out) (h.new out ≡ Some (file_text asked.hex is_stored.rewritten)) h.old_known is_stored.held)

  -- the request reads these very tables
  stored_tables : (stored_bytes : FileBytes) (stored : Asked) → ReadsAs stored_bytes stored asked content → AreTablesOf stored_bytes stored.hex stored.files is_stored.rewritten
  stored_tables stored_bytes stored r =
      let new = is_stored.rewritten in
      let whole = All-from_recursion IsTable new (are_tables asked.depth _ is_stored.are.placements is_stored.tables new is_stored.are.each) in
      let stores : Stores asked.hex content (concat new) = subst (λ (c : List ℕ). Stores asked.hex c (concat new)) (sym content_is) (text_stores asked.hex new is_stored.new_bytes) in
      let there : AreTablesIn asked.hex (Some content) new = record { whole = whole; stored = stores } in
      let here : AreTablesIn stored.hex (stored_bytes r.file) new =
      subst (λ (x : Bool). AreTablesIn x (stored_bytes r.file) new) (sym r.hex_is) (subst (λ (k : Option (List ℕ)). AreTablesIn asked.hex k new) (sym r.bytes_are) there) in
      subst (λ (ns : List (List ℕ)). AreTablesOf stored_bytes stored.hex ns new) (sym r.files_are) (new, [], sym (append-nil new), here, refl)

pub stored_are_listed_alike : StoredAreListedAlike
stored_are_listed_alike input_bytes listed_bytes stored_bytes rewrite list again rewritten listed stored out content text other tables h l k input same depth r =
    let s = is_stored input_bytes rewrite rewritten out content h in
    let one : IsListing listed_bytes listed text = (is_printed listed_bytes list listed listing text l).1 in
    let two : IsListing stored_bytes stored other = (is_printed stored_bytes again stored listing other k).1 in
    let old : one.tables ≡ s.tables =
    tables_of listed_bytes listed.hex listed.files one.tables tables l.asks.known one.loaded.of_files same
    ∙ sym (tables_of input_bytes rewritten.hex rewritten.files s.tables tables h.asks.known s.of_files input) in
    let new : two.tables ≡ s.rewritten =
    tables_of stored_bytes stored.hex stored.files two.tables s.rewritten k.asks.known two.loaded.of_files (stored_tables input_bytes rewrite rewritten out content h stored_bytes stored r) in
    let loads : IsMachine rewritten.depth s.tables one.machine =
    subst (λ (n : ℕ). IsMachine n s.tables one.machine) depth (subst (λ (ts : List (List ℕ)). IsMachine listed.depth ts one.machine) old one.loaded.loaded) in
    let again_loads : IsMachine rewritten.depth s.rewritten two.machine =
    subst (λ (n : ℕ). IsMachine n s.rewritten two.machine) r.depth_is (subst (λ (ts : List (List ℕ)). IsMachine stored.depth ts two.machine) new two.loaded.loaded) in
    let alike = (load_alike rewritten.depth s.tables s.rewritten s.old_bytes s.are one.machine).0 loads in
    one_listing two.machine one.machine other text (one_machine rewritten.depth s.rewritten two.machine one.machine again_loads alike) two.printed one.printed

pub none_stored_is_refused : NoneStoredIsRefused
none_stored_is_refused input_bytes stored_bytes rewrite list rewritten stored out content h k r =
    let s = is_stored input_bytes rewrite rewritten out content h in
    let again = stays rewritten.depth s.tables s.rewritten s.old_bytes s.are in
    fails_by_host stored_bytes list stored listing s.rewritten k (stored_tables input_bytes rewrite rewritten out content h stored_bytes stored r)
    (λ e. s.some (none_of_none rewritten.depth _ s.are.placements s.tables s.rewritten s.are.each e))
    (record {
      good_path = λ bad. bad;
      path_there = λ missing. missing;
      no_file = λ failure unwritten. unwritten;
      loads = λ f refused. only_memory rewritten.depth s.rewritten again.placements again.listings f (subst (λ (n : ℕ). IsLoadFault n s.rewritten f) r.depth_is refused);
    })

pub stored_stay : StoredStay
stored_stay input_bytes stored_bytes rewrite again rewritten stored out other content new h k r =
    let s = is_stored input_bytes rewrite rewritten out content h in
    let t = is_stored stored_bytes again stored other new k in
    let tables : t.tables ≡ s.rewritten =
    tables_of stored_bytes stored.hex stored.files t.tables s.rewritten k.asks.known t.of_files (stored_tables input_bytes rewrite rewritten out content h stored_bytes stored r) in
    let are : AreRewritten rewritten.depth s.rewritten t.rewritten =
    subst (λ (n : ℕ). AreRewritten n s.rewritten t.rewritten) r.depth_is (subst (λ (ts : List (List ℕ)). AreRewritten stored.depth ts t.rewritten) tables t.are) in
    let same : t.rewritten ≡ s.rewritten =
    one_rewriting rewritten.depth s.rewritten t.rewritten s.rewritten t.new_bytes s.new_bytes are (stays rewritten.depth s.tables s.rewritten s.old_bytes s.are) in
    content_is stored_bytes again stored other new k
    ∙ ap (λ (x : Bool). file_text x t.rewritten) r.hex_is
    ∙ ap (file_text rewritten.hex) same
    ∙ sym (content_is input_bytes rewrite rewritten out content h)
