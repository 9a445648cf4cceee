-- The steps of a walk, by their parts.
use Rattle.std.proofs.Common.{◌≡◌, ℕ, zero, suc, ◌+◌, ◌≤◌, Bool, false, List, [], ◌∷◌, ◌++◌, length, take, drop, Some, None, Result, Ok, Err, OnOk, slice_get, refl, sym, ap, subst, ◌∙◌, arith, append-nil, append_assoc}
use Rattle.std.specs.List.{filter, flat_map}
use Rattle.std.specs.Option.{option_map, option_to_list}
use Rattle.std.proofs.Math.ListN.{drop_of_length-le}
use Rattle.acpi_space.proofs.Elements.{one_some}
use Rattle.acpi_conditions.specs.Nodes.{Place}
use Rattle.acpi_conditions.specs.Entries.{Entry, Why, Refusal, StopAt}
use Rattle.acpi_conditions.specs.Known.{Certain}
use Rattle.acpi_conditions.specs.Survey.{passing, leaves_table, lasting, refusing}
use Rattle.acpi_conditions.specs.Walk.{Kind, of_body, Package, Walk, passed, pass, given_inside, out_of, leave_from, leave, started, end_table}
use Rattle.acpi_conditions.specs.steps.Moves.{with_certain, gone_out, with_returns, innermost, IsBehindTerm, left_term, at_start}

pub on_ok_map : {X E : Type 0} (r : Result X E) (P Q : Type 0) → (P → Q) → OnOk r P → OnOk r Q
on_ok_map (Ok x) P Q f h = f h
on_ok_map (Err e) P Q f h = tt

pub refused_is : (place : Place) (why : Why) (w : Walk) (rs : List Refusal) → rs ≡ w.refused ++ record { place = place; why = why } ∷ [] → record (pass w) { refused = rs } ≡ passed (refusing place why w.around w.known) w
refused_is place why w rs is = λ i. record w {
  around = record w.around { way = sym (append-nil w.around.way) i };
  known = record w.known { entries = sym (append-nil w.known.entries) i };
  entries = sym (append-nil w.entries) i;
  refused = is i;
  stops = sym (append-nil w.stops) i;
  last_if = None;
}

pub left_term_is : (ps : List Package) (w : Walk) (keeps : Bool) (cs : List Certain) → IsBehindTerm ps w keeps cs → with_certain (cs ++ (gone_out keeps ps w).known.certain) (gone_out keeps ps w) ≡ left_term ps w
left_term_is [] w keeps cs h = ap (λ (l : List Certain). with_certain (l ++ w.known.certain) (pass w)) h
left_term_is (p ∷ outer) w keeps cs h = ap (λ (l : List Certain). out_of p outer (record (given_inside p w) { certain = l }) w) (sym h)

-- ---- out of a While

drop_taken : (n : ℕ) (xs : List StopAt) (test : StopAt → Bool) → drop n (take n xs ++ filter test (drop n xs)) ≡ filter test (drop n xs)
drop_taken zero xs test = refl
drop_taken (suc n) [] test = refl
drop_taken (suc n) (x ∷ xs) test = drop_taken n xs test

take_taken : (n : ℕ) (xs : List StopAt) (test : StopAt → Bool) → take n (take n xs ++ filter test (drop n xs)) ≡ take n xs
take_taken zero xs test = refl
take_taken (suc n) [] test = refl
take_taken (suc n) (x ∷ xs) test = ap (λ (l : List StopAt). x ∷ l) (take_taken n xs test)

left_body_as : (p : Package) (outer : List Package) (w : Walk) → gone_out false (record p { kind = of_body } ∷ outer) (with_returns (record p { kind = of_body } ∷ outer) w) ≡ leave_from (record p { kind = of_body } ∷ outer) w
left_body_as p outer w = λ i. record w {
  around = passing p.around (record { entries = []; refused = []; stops = drop_taken p.stops w.stops (λ s. leaves_table s.kind) i; certain = [] });
  known = record p.known { entries = p.known.entries ++ drop p.entries w.entries };
  stops = take_taken p.stops w.stops (λ s. leaves_table s.kind) i ++ drop_taken p.stops w.stops (λ s. leaves_table s.kind) i;
  packages = outer;
  last_if = None;
}

left_body : (ps : List Package) (w : Walk) → Some of_body ≡ option_map (λ (p : Package). p.kind) (innermost ps) → gone_out false ps (with_returns ps w) ≡ leave_from ps w
left_body [] w e = cc
left_body (p ∷ outer) w e = subst (λ (q : Package). gone_out false (q ∷ outer) (with_returns (q ∷ outer) w) ≡ leave_from (q ∷ outer) w) (ap (λ (kind : Kind). record p { kind = kind }) (one_some of_body p.kind e)) (left_body_as p outer w)

returns_packages : (ps : List Package) (w : Walk) → (with_returns ps w).packages ≡ w.packages
returns_packages [] w = refl
returns_packages (p ∷ outer) w = refl

pub left_while : (w : Walk) → Some of_body ≡ option_map (λ (p : Package). p.kind) (innermost w.packages) → gone_out false (with_returns w.packages w).packages (with_returns w.packages w) ≡ leave w
left_while w e = ap (λ (ps : List Package). gone_out false ps (with_returns w.packages w)) (returns_packages w.packages w) ∙ left_body w.packages w e

-- ---- what the entries of a table settle

pub lasting_more : (es : List Entry) (n : ℕ) → flat_map lasting (option_to_list (slice_get es n)) ++ flat_map lasting (drop (suc n) es) ≡ flat_map lasting (drop n es)
lasting_more [] zero = refl
lasting_more [] (suc n) = refl
lasting_more (e ∷ es) zero = ap (λ (l : List Certain). l ++ flat_map lasting es) (append-nil (lasting e))
lasting_more (e ∷ es) (suc n) = lasting_more es n

-- certain is what those from a number on settle, and what was certain at the start of the table
module _ (w : Walk) where
  abbrev since : ℕ → Walk
  since n = with_certain (flat_map lasting (drop n w.entries) ++ w.start.known.certain) (at_start w)

  pub since_all : (v : Walk) (n : ℕ) → v ≡ at_start w → length w.entries ≤ n → v ≡ since n
  since_all v n is l = is ∙ ap (λ (es : List Entry). with_certain (flat_map lasting es ++ w.start.known.certain) (at_start w)) (sym (drop_of_length-le w.entries l))

  pub since_more : (u v : Walk) (n m : ℕ) → v ≡ since n → m + 1 ≡ n → u ≡ with_certain (flat_map lasting (option_to_list (slice_get v.entries m)) ++ v.known.certain) v → u ≡ since m
  since_more u v n m is l step =
      step ∙ ap (λ (v : Walk). with_certain (flat_map lasting (option_to_list (slice_get v.entries m)) ++ v.known.certain) v) is
      ∙ ap (λ (k : ℕ). with_certain (flat_map lasting (option_to_list (slice_get w.entries m)) ++ (flat_map lasting (drop k w.entries) ++ w.start.known.certain)) (at_start w)) next
      ∙ ap (λ (cs : List Certain). with_certain cs (at_start w))
      (sym (append_assoc (flat_map lasting (option_to_list (slice_get w.entries m))) (flat_map lasting (drop (suc m) w.entries)) w.start.known.certain)
      ∙ ap (λ (cs : List Certain). cs ++ w.start.known.certain) (lasting_more w.entries m))
    where
      next : n ≡ suc m
      next = omega arith

  pub table_ended : (u v : Walk) (n : ℕ) → v ≡ since n → n ≡ w.start.entries → u ≡ started v → u ≡ end_table w
  table_ended u v n is e end = end ∙ ap started is ∙ ap (λ (k : ℕ). started (since k)) e
