-- What runs print of SSDTs that commute.
use Rattle.std.proofs.Common.{◌≡◌, ◌≢◌, ◌+◌, ℕ, Bool, true, false, T, List, [], ◌∷◌, ◌++◌, length, length-append, Option, Some, None, Result, Ok, refl, sym, ap, subst, ◌∙◌, arith}
use Rattle.std.specs.List.{AllByRecursion, concat}
use Rattle.std.specs.FinMap.Entries.{same_entries}
use Rattle.std.proofs.lemmas.List.Elements.{recursion_from_All}
use Rattle.acpi_name.specs.Names.{Segment}
use Rattle.acpi_name.specs.Paths.{path_cmp}
use Rattle.acpi_name.specs.Text.{SpellsPathText}
use Rattle.acpi_name.specs.steps.PathOrder.{path_cmp_total, path_cmp-IsAntisymmetric}
use Rattle.acpi_table.specs.Tables.{IsTable, table_at}
use Rattle.acpi_table.specs.declared.tables.TableFault.{TableFault}
use Rattle.acpi_table.proofs.TableLaws.{table_again}
use Rattle.acpi_space.proofs.Elements.{one_some}
use Rattle.acpi_text.specs.Lines.{listing_text}
use Rattle.acpi_order.specs.Machines.{Machine, IsMachine}
use Rattle.acpi_order.specs.Joins.{IsJoin, IsSingleLoad}
use Rattle.acpi_order.specs.Orders.{AreReordered}
use Rattle.acpi_order.specs.Independent.{IsIndependent}
use Rattle.acpi_order.specs.Verdicts.{VerdictTree, commute, not_alone, same, missed, IsVerdict}
use Rattle.acpi_order.proofs.Orders.{joins_in_any_order, one_join}
use Rattle.acpi_order.proofs.Verdicts.{commute_is_independent}
use Rattle.acpins_output.specs.Checked.{Checks, ChecksAs}
use Rattle.acpins_output.specs.Listings.{Prints}
use Rattle.acpins_output.specs.Shown.{Shows}
use Rattle.acpins_words.specs.Words.{Text, Command, listing, showing, checking, Asked}
use Rattle.acpins_run.specs.Input.{FileBytes, Stores, AreTablesIn, AreTablesOf}
use Rattle.acpins_run.specs.Runs.{IsOutput, IsPrinted, IsChecking, IsListing, IsShowing}
use Rattle.acpins_run.specs.RunLaws.{AreKnown, Asks, HasPrinted, HoldSame}

-- ---- bytes hold tables in one way

abbrev pub at_front : List ℕ × List ℕ → Result (List ℕ × List ℕ) TableFault
at_front x = Ok x

pub front_is : (x y : List ℕ × List ℕ) → at_front x ≡ at_front y → x ≡ y
front_is x y e = cc

pub not_empty : (t rest : List ℕ) → IsTable t → [] ≡ t ++ rest → ⊥
not_empty t rest h e =
    let size : 0 ≡ length t + length rest = ap length e ∙ length-append t rest in absurd (omega (arith, h.has_header))

one_cut : (ts us : List (List ℕ)) → AllByRecursion IsTable ts → AllByRecursion IsTable us → concat ts ≡ concat us → ts ≡ us
one_cut [] [] h k e = refl
one_cut [] (u ∷ us) h k e = absurd (not_empty u (concat us) k.0 e)
one_cut (t ∷ ts) [] h k e = absurd (not_empty t (concat ts) h.0 (sym e))
one_cut (t ∷ ts) (u ∷ us) h k e =
    let both : (t, concat ts) ≡ (u, concat us) = front_is (t, concat ts) (u, concat us) (sym (table_again t (concat ts) h.0) ∙ ap table_at e ∙ table_again u (concat us) k.0) in
    let first : t ≡ u = ap (λ (x : List ℕ × List ℕ). x.0) both in
    let later : ts ≡ us = one_cut ts us h.1 k.1 (ap (λ (x : List ℕ × List ℕ). x.1) both) in
    λ i. first i ∷ later i

pub one_content : (hex : Bool) (content a b : List ℕ) → Stores hex content a → Stores hex content b → a ≡ b
one_content true content a b h k = let e = sym h ∙ k in cc
one_content false content a b h k = sym h ∙ k

tables_in : (hex : Bool) (known : Option (List ℕ)) (ts us : List (List ℕ)) → known ≢ None → AreTablesIn hex known ts → AreTablesIn hex known us → ts ≡ us
tables_in hex None ts us some h k = absurd (some refl)
tables_in hex (Some content) ts us some h k =
    one_cut ts us (recursion_from_All IsTable ts h.whole) (recursion_from_All IsTable us k.whole) (one_content hex content (concat ts) (concat us) h.stored k.stored)

pub tables_of : (bytes_of : FileBytes) (hex : Bool) (names : List (List ℕ)) (ts us : List (List ℕ)) → AreKnown bytes_of names → AreTablesOf bytes_of hex names ts
    → AreTablesOf bytes_of hex names us → ts ≡ us
tables_of bytes_of hex [] ts us known h k = h ∙ sym k
tables_of bytes_of hex (name ∷ names) ts us known h k =
    let first : h.0 ≡ k.0 = tables_in hex (bytes_of name) h.0 k.0 known.0 h.3 k.3 in
    let later : h.1 ≡ k.1 = tables_of bytes_of hex names h.1 k.1 known.1 h.4 k.4 in
    h.2 ∙ ap (λ l. l ++ h.1) first ∙ ap (λ l. k.0 ++ l) later ∙ sym k.2

pub head_is : (a b : List ℕ) (xs ys : List (List ℕ)) → a ∷ xs ≡ b ∷ ys → a ≡ b
head_is a b xs ys e = cc

pub tail_is : (a b : List ℕ) (xs ys : List (List ℕ)) → a ∷ xs ≡ b ∷ ys → xs ≡ ys
tail_is a b xs ys e = cc

-- ---- what a run with status 0 printed

pub asked_output : (bytes_of : FileBytes) (words : List Text) (asked : Asked) (command : Command) (status : ℕ) (text : List ℕ) → Asks bytes_of words asked command
    → IsOutput bytes_of words status text → IsPrinted bytes_of asked command status text
asked_output bytes_of words asked command status text h printed =
    let same : printed.0 ≡ asked = one_some printed.0 asked (sym printed.1 ∙ h.ask) in
    subst (λ (c : Command). IsPrinted bytes_of asked c status text) h.command_is (subst (λ (a : Asked). IsPrinted bytes_of a a.command status text) same printed.2)

pub is_printed : (bytes_of : FileBytes) (words : List Text) (asked : Asked) (command : Command) (text : List ℕ) → HasPrinted bytes_of words asked command text
    → IsPrinted bytes_of asked command 0 text
is_printed bytes_of words asked command text h = asked_output bytes_of words asked command 0 text h.asks h.printed

-- SSDTs of which a check ends with status 0 are independent
commuting : (depth : ℕ) (dsdt : List ℕ) (ssdts : List (List ℕ)) (text : List ℕ) → ssdts ≢ [] → Checks depth dsdt ssdts 0 text → IsIndependent depth dsdt ssdts
commuting depth dsdt ssdts text some h = by h.0 h.1 h.2
  where
    by : (v : VerdictTree) → IsVerdict depth dsdt ssdts v → ChecksAs depth dsdt ssdts v 0 text → IsIndependent depth dsdt ssdts
    by commute verdict said = (commute_is_independent depth dsdt ssdts some).0 verdict
    by (not_alone i) verdict said = absurd (omega (arith, said.0))
    by (same i j p) verdict said = absurd (omega (arith, said.0))
    by (missed i j p) verdict said = absurd (omega (arith, said.0))

module _ (checked_bytes other_bytes : FileBytes) (checked other : Asked) (dsdt : List ℕ) (ssdts given : List (List ℕ)) (hold : HoldSame checked_bytes other_bytes checked other dsdt ssdts given)
    (known : AreKnown checked_bytes checked.files) where
  pub reordered : (verdict : List ℕ) → IsChecking checked_bytes checked 0 verdict → AreReordered checked.depth dsdt ssdts given
  reordered verdict h =
      let same = tables_of checked_bytes checked.hex checked.files (h.dsdt ∷ h.ssdts) (dsdt ∷ ssdts) known h.of_files hold.checked_tables in
      let one = head_is h.dsdt dsdt h.ssdts ssdts same in
      let all = tail_is h.dsdt dsdt h.ssdts ssdts same in
      let checks : Checks checked.depth dsdt ssdts 0 verdict = subst (λ (b : List ℕ). Checks checked.depth b ssdts 0 verdict) one (subst (λ (bs : List (List ℕ)). Checks checked.depth h.dsdt bs 0 verdict) all h.checked) in
      record { some = hold.some; order = hold.order; independent = commuting checked.depth dsdt ssdts verdict hold.some checks }

  module _ (known_other : AreKnown other_bytes other.files) where
    pub joined : (verdict : List ℕ) (tables : List (List ℕ)) (m : Machine) → IsChecking checked_bytes checked 0 verdict → AreTablesOf other_bytes other.hex other.files tables
        → IsMachine other.depth tables m → IsJoin (IsSingleLoad checked.depth dsdt ssdts) m
    joined verdict tables m h of_files loads =
        let r = reordered verdict h in
        let same = tables_of other_bytes other.hex other.files tables (dsdt ∷ given) known_other of_files hold.other_tables in
        joins_in_any_order checked.depth dsdt ssdts given m r.some r.order r.independent
        (subst (λ (n : ℕ). IsMachine n (dsdt ∷ given) m) hold.depth_is (subst (λ (ts : List (List ℕ)). IsMachine other.depth ts m) same loads))

    listed : (verdict text : List ℕ) → IsChecking checked_bytes checked 0 verdict → IsListing other_bytes other text
        → (m : Machine) × IsJoin (IsSingleLoad checked.depth dsdt ssdts) m × Prints m.objects m.links text
    listed verdict text h l = (l.machine, joined verdict l.tables l.machine h l.loaded.of_files l.loaded.loaded, l.printed)

    shown : (verdict text : List ℕ) (word : Text) → IsChecking checked_bytes checked 0 verdict → IsShowing other_bytes other word text
        → (path : List Segment) × (m : Machine) × SpellsPathText path word × IsJoin (IsSingleLoad checked.depth dsdt ssdts) m × Shows checked.depth (dsdt ∷ given) m path text
    shown verdict text word h l =
        let same = tables_of other_bytes other.hex other.files l.tables (dsdt ∷ given) known_other l.loaded.of_files hold.other_tables in (
          l.path,
          l.machine,
          l.spelled,
          joined verdict l.tables l.machine h l.loaded.of_files l.loaded.loaded,
          subst (λ (n : ℕ). Shows n (dsdt ∷ given) l.machine l.path text) hold.depth_is (subst (λ (ts : List (List ℕ)). Shows other.depth ts l.machine l.path text) same l.printed),
        )

-- ---- one machine has one listing

pub one_listing : (m n : Machine) (a b : List ℕ) → m ≡ n → Prints m.objects m.links a → Prints n.objects n.links b → a ≡ b
one_listing m n a b is h k =
    let p : Prints m.objects m.links b = subst (λ (x : Machine). Prints x.objects x.links b) (sym is) k in
    let lines : h.lines ≡ p.lines = same_entries path_cmp path_cmp_total path_cmp-IsAntisymmetric h.lines p.lines (subst T (sym h.ascending) tt) (subst T (sym p.ascending) tt) (λ q. h.objects_are q ∙ sym (p.objects_are q)) in
    h.text_is ∙ ap (λ l. listing_text l m.links) lines ∙ sym p.text_is

pub listing_is_of_join : (checked_bytes other_bytes : FileBytes) (check list : List Text) (checked other : Asked) (verdict text : List ℕ) (dsdt : List ℕ) (ssdts given : List (List ℕ))
    → HasPrinted checked_bytes check checked checking verdict → HasPrinted other_bytes list other listing text → HoldSame checked_bytes other_bytes checked other dsdt ssdts given
    → (m : Machine) × IsJoin (IsSingleLoad checked.depth dsdt ssdts) m × Prints m.objects m.links text
listing_is_of_join checked_bytes other_bytes check list checked other verdict text dsdt ssdts given h l hold =
    listed checked_bytes other_bytes checked other dsdt ssdts given hold h.asks.known l.asks.known verdict text (is_printed checked_bytes check checked checking verdict h)
    (is_printed other_bytes list other listing text l).1

pub listings_are_alike : (checked_bytes one_bytes two_bytes : FileBytes) (check list again : List Text) (checked one two : Asked) (verdict text other : List ℕ)
    (dsdt : List ℕ) (ssdts first second : List (List ℕ))
    → HasPrinted checked_bytes check checked checking verdict → HasPrinted one_bytes list one listing text → HasPrinted two_bytes again two listing other
    → HoldSame checked_bytes one_bytes checked one dsdt ssdts first → HoldSame checked_bytes two_bytes checked two dsdt ssdts second → text ≡ other
listings_are_alike checked_bytes one_bytes two_bytes check list again checked one two verdict text other dsdt ssdts first second h k l hold hold_two =
    let a = listing_is_of_join checked_bytes one_bytes check list checked one verdict text dsdt ssdts first h k hold in
    let b = listing_is_of_join checked_bytes two_bytes check again checked two verdict other dsdt ssdts second h l hold_two in
    one_listing a.0 b.0 text other (one_join (IsSingleLoad checked.depth dsdt ssdts) a.0 b.0 a.1 b.1) a.2 b.2

pub showing_is_of_join : (checked_bytes other_bytes : FileBytes) (check show : List Text) (checked other : Asked) (verdict text : List ℕ) (word : Text) (dsdt : List ℕ)
    (ssdts given : List (List ℕ))
    → HasPrinted checked_bytes check checked checking verdict → HasPrinted other_bytes show other (showing word) text → HoldSame checked_bytes other_bytes checked other dsdt ssdts given
    → (path : List Segment) × (m : Machine) × SpellsPathText path word × IsJoin (IsSingleLoad checked.depth dsdt ssdts) m × Shows checked.depth (dsdt ∷ given) m path text
showing_is_of_join checked_bytes other_bytes check show checked other verdict text word dsdt ssdts given h l hold =
    shown checked_bytes other_bytes checked other dsdt ssdts given hold h.asks.known l.asks.known verdict text word (is_printed checked_bytes check checked checking verdict h)
    (is_printed other_bytes show other (showing word) text l).1
