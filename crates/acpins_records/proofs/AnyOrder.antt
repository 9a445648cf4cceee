-- What is written of independent SSDTs, in any order.
use Rattle.std.proofs.Common.{◌≡◌, ◌≢◌, ℕ, List, [], ◌∷◌, sym, ap, subst, ◌∙◌, arith}
use Rattle.acpi_order.specs.Machines.{IsMachine}
use Rattle.acpi_order.specs.Orders.{EachOrderLoadsToJoin}
use Rattle.acpi_order.specs.Verdicts.{VerdictTree, commute, not_alone, same, missed, IsVerdict}
use Rattle.acpi_order.proofs.Orders.{joins_in_any_order}
use Rattle.acpi_order.proofs.Told.{each_order_loads}
use Rattle.acpi_order.proofs.Verdicts.{commute_is_independent}
use Rattle.acpi_rewrite.specs.Rewriting.{AreTablesOfBytes, AreRewritten}
use Rattle.acpi_rewrite.proofs.Rewritten.{load_alike}
use Rattle.acpins_records.specs.declared.body.BodyRecord.{BodyRecord}
use Rattle.acpins_records.specs.declared.check.SatisfiedRecord.{SatisfiedRecord}
use Rattle.acpins_records.specs.declared.check.VerdictRecord.{VerdictRecord}
use Rattle.acpins_records.specs.declared.outcome.Outcome.{Outcome}
use Rattle.acpins_records.specs.Bodies.{IsBodyWritten}
use Rattle.acpins_records.specs.Checks.{Answers, IsAnswer, IsAnswerOf}
use Rattle.acpins_records.specs.Orders.{IsBodyInAnyOrder, LoadInAnyOrder, AreTablesInAnyOrder}
use Rattle.acpins_records.specs.Rewrites.{AreTablesWritten}

pub body_in_any_order : (depth : ℕ) (tables : List (List ℕ)) (spelled old new : List ℕ) (r : BodyRecord) (outcome : Outcome) → IsBodyWritten depth tables spelled old new r outcome
    → IsBodyInAnyOrder depth tables spelled old new r
body_in_any_order depth tables spelled old new r outcome h dsdt ssdts given are order =
    let b = h.is_body in
    let loads : IsMachine depth (dsdt ∷ given) b.machine = subst (λ (ts : List (List ℕ)). IsMachine depth ts b.machine) are b.loads in
    let joins = joins_in_any_order depth dsdt ssdts given b.machine order.some order.order order.independent loads in
    let single = (joins.bodies_join h.path b.body).0 b.there in
    record {
      path = h.path;
      spells = h.spells;
      single = single.0;
      is_single = single.1;
      body = b.body;
      there = single.2;
      text = h.text;
      gives = b.gives;
      front = h.front;
    }

-- ---- verdicts

-- the verdict 0 is that of SSDTs that commute
module _ (depth : ℕ) (dsdt : List ℕ) (ssdts : List (List ℕ)) (some : ssdts ≢ []) (r : VerdictRecord) (satisfied : List SatisfiedRecord) (text : List ℕ) (none : r.order ≡ 0) where
  orders_free : (v : VerdictTree) → IsVerdict depth dsdt ssdts v → Answers depth dsdt ssdts v r satisfied text → EachOrderLoadsToJoin depth dsdt ssdts
  orders_free commute is a =
      λ given order. each_order_loads depth dsdt ssdts given (record { some = some; order = order; independent = (commute_is_independent depth dsdt ssdts some).0 is })
  orders_free (not_alone i) is a = let e : 1 ≡ 0 = ap (λ (x : VerdictRecord). x.order) (sym a.2) ∙ none in absurd (omega (arith, e))
  orders_free (same i j p) is a = let e : 2 ≡ 0 = ap (λ (x : VerdictRecord). x.order) (sym a.0) ∙ none in absurd (omega (arith, e))
  orders_free (missed i j p) is a = let e : 3 ≡ 0 = ap (λ (x : VerdictRecord). x.order) (sym a.0) ∙ none in absurd (omega (arith, e))

pub answer_in_any_order : (depth : ℕ) (tables : List (List ℕ)) (r : VerdictRecord) (satisfied : List SatisfiedRecord) (text : List ℕ) → IsAnswer depth tables r satisfied text → r.order ≡ 0
    → LoadInAnyOrder depth tables
answer_in_any_order depth tables r satisfied text h none dsdt ssdts are some =
    let a : IsAnswerOf depth dsdt ssdts r satisfied text = subst (λ (ts : List (List ℕ)). IsAnswer depth ts r satisfied text) are h in
    orders_free depth dsdt ssdts some r satisfied text none a.0 a.1 a.2

-- ---- rewritten tables

pub tables_in_any_order : (depth : ℕ) (tables : List (List ℕ)) (old new ends ends' : List ℕ) (outcome : Outcome) → AreTablesOfBytes tables
    → AreTablesWritten depth tables old new ends ends' outcome → AreTablesInAnyOrder depth tables old new ends ends'
tables_in_any_order depth tables old new ends ends' outcome below h dsdt ssdts given are order =
    let loads = each_order_loads depth dsdt ssdts given order in
    let alike = load_alike depth (dsdt ∷ given) h.rewritten (subst AreTablesOfBytes are below) (subst (λ (ts : List (List ℕ)). AreRewritten depth ts h.rewritten) are h.are) loads.machine in
    (h.rewritten, (loads.machine, alike.0 loads.loads, loads.joins), h.bytes, h.ends_are)
