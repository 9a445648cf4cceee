-- What is read of a body, by the relation of bodies.
use Rattle.std.proofs.Common.{◌≡◌, ℕ, Bool, true, false, zero, suc, ◌<◌, ◌⊎◌, ◌↔◌, List, [], ◌∷◌, ◌++◌, length, Option, Some, None, Result, Ok, Err, refl, sym, ap, subst, ◌∙◌, arith, inl, inr}
use Rattle.std.specs.Prelude.{◌≢◌, IfOk, IfErr, IsErrAnd, IfSome}
use Rattle.std.specs.FinMap as finite
use Rattle.acpi_name.specs.Names.{Segment, NameParts}
use Rattle.acpi_tree.specs.declared.op.Op.TheVariants as ops
use Rattle.acpi_tree.specs.declared.place.Place.TheVariants.{Statement}
use Rattle.acpi_tree.specs.Terms.{TermTree, TermTrees, no_terms, terms_of}
use Rattle.acpi_code.specs.declared.opcode.Opcode.TheVariants as opcodes
use Rattle.acpi_code.specs.Faults.{Failure, FailsUnless}
use Rattle.acpi_code.proofs.Readings.{Judge}
use Rattle.acpi_values.specs.declared.fault.BodyFault.{BodyFault}
use Rattle.acpi_values.specs.declared.fault.BodyReason.{BodyReason}
use Rattle.acpi_values.specs.declared.fault.BodyReason.TheVariants.{NotValue, Unsure}
use Rattle.acpi_values.specs.declared.fault.BodyError.{BodyError}
use Rattle.acpi_values.specs.declared.fault.BodyError.TheVariants as stops
use Rattle.acpi_space.specs.Lookups.{Lookup}
use Rattle.acpi_values.specs.Arguments.{Locals, BodyGrammar}
use Rattle.acpi_body.specs.Arguments.{Namespace, body_grammar}
use Rattle.acpi_body.specs.Statements.{locals_after_all, ReadsBody}
use Rattle.acpi_values.specs.Refusals.{refusal_at}
use Rattle.acpi_values.specs.Faults.{body_fault}
use Rattle.acpi_body.specs.Faults.{AreStatementsIn, FailsStatementForm, FailsAmong, FailsStatement, ShowsBody, IsNoStatement}
use Rattle.acpi_body.specs.Laws.{OneRefusal, ReadOrRefused, ReturnsNoValue}
use Rattle.acpi_body.specs.Reasons.{IfFault}
use Rattle.acpi_body.specs.Bodies.{BodyTree, read, unread, IsBodyOf}
use Rattle.acpi_body.specs.steps.Reading.{body_at}
use Rattle.acpi_body.specs.steps.Answers.{body_of, fault_in}
use Rattle.acpi_values.specs.steps.Cursor.{Gives}
use Rattle.acpi_values.proofs.TermComplete.{listed, terms_of-listed}
use Rattle.acpi_body.proofs.StatementComplete.{statements_complete}
use Rattle.acpi_body.proofs.StatementExact.{exact_statements}
use Rattle.acpi_body.proofs.Sure.{sure_statements}
use Rattle.acpi_values.proofs.Parts.{good_of}
use Rattle.acpi_body.proofs.Next.{next_told}

abbrev pub reading : BodyGrammar → List Segment → ℕ → List ℕ → Result (List TermTree) BodyFault
reading args s depth bytes = body_at args s depth finite.empty bytes

judged : (args : BodyGrammar) (s : List Segment) (depth : ℕ) (bytes : List ℕ)
    → Judge (λ ts. AreStatementsIn args s depth finite.empty (terms_of ts) bytes) (λ f. ShowsBody args s depth bytes f.reason f.place) (reading args s depth bytes)
judged args s depth bytes = (exact_statements s args depth).judged finite.empty (length bytes) bytes

shows : (args : BodyGrammar) (s : List Segment) (depth : ℕ) (bytes : List ℕ) (f : BodyFault) → reading args s depth bytes ≡ Err f → ShowsBody args s depth bytes f.reason f.place
shows args s depth bytes f e = subst (Judge (λ ts. AreStatementsIn args s depth finite.empty (terms_of ts) bytes) (λ f. ShowsBody args s depth bytes f.reason f.place)) e (judged args s depth bytes)

-- where a fault is true of the bytes, reading them stops with it
stops_with : (args : BodyGrammar) (s : List Segment) (depth : ℕ) (bytes : List ℕ) (why : BodyReason) (place : ℕ) → ShowsBody args s depth bytes why place → reading args s depth bytes ≡ Err (body_fault why place)
stops_with args s depth bytes why place h = (exact_statements s args depth).stops finite.empty (length bytes) bytes (body_fault why place) h

took : (args : BodyGrammar) (s : List Segment) (depth : ℕ) (bytes : List ℕ) (ts : List TermTree) → reading args s depth bytes ≡ Ok ts → ReadsBody args s depth bytes (terms_of ts)
took args s depth bytes ts e =
    let t = good_of (λ ts. AreStatementsIn args s depth finite.empty (terms_of ts) bytes) (λ f. ShowsBody args s depth bytes f.reason f.place) (reading args s depth bytes) ts (judged args s depth bytes) e in
    record { spelled = t.0; within = t.1 }

again : (args : BodyGrammar) (s : List Segment) (depth : ℕ) (bytes : List ℕ) (ts : TermTrees) → ReadsBody args s depth bytes ts → reading args s depth bytes ≡ Ok (listed ts)
again args s depth bytes ts h = statements_complete args s ts depth finite.empty (length bytes) bytes h.spelled h.within (length bytes) (omega arith)

abbrev given_terms : List TermTree → Result (List TermTree) BodyFault
given_terms ts = Ok ts

ok_is : (x y : List TermTree) → given_terms x ≡ given_terms y → x ≡ y
ok_is x y e = cc

pub one_reading : (args : BodyGrammar) (s : List Segment) (depth : ℕ) (bytes : List ℕ) (ts us : TermTrees) → ReadsBody args s depth bytes ts → ReadsBody args s depth bytes us → ts ≡ us
one_reading args s depth bytes ts us h k =
    let same = ok_is (listed ts) (listed us) (sym (again args s depth bytes ts h) ∙ again args s depth bytes us k) in
    sym (terms_of-listed ts) ∙ ap terms_of same ∙ terms_of-listed us

abbrev refused : BodyFault → Result (List TermTree) BodyFault
refused f = Err f

not_both : (f : BodyFault) (ts : List TermTree) → refused f ≡ Ok ts → ⊥
not_both f ts e = cc

abbrev given : TermTrees → BodyTree
given ts = read ts

given_is : (ts us : TermTrees) → given ts ≡ given us → ts ≡ us
given_is ts us e = cc

not_given : (bytes : List ℕ) (ts : TermTrees) → unread bytes ≡ given ts → ⊥
not_given bytes ts e = cc

-- bytes are read, or have no reading
pub read_or_none : (args : BodyGrammar) (s : List Segment) (depth : ℕ) (bytes : List ℕ) → ((ts : TermTrees) × ReadsBody args s depth bytes ts) ⊎ ((ts : TermTrees) → ReadsBody args s depth bytes ts → ⊥)
read_or_none args s depth bytes = by_reading (reading args s depth bytes) refl
  where
    by_reading : (r : Result (List TermTree) BodyFault) → reading args s depth bytes ≡ r → ((ts : TermTrees) × ReadsBody args s depth bytes ts) ⊎ ((ts : TermTrees) → ReadsBody args s depth bytes ts → ⊥)
    by_reading (Ok ts) e = inl (terms_of ts, took args s depth bytes ts e)
    by_reading (Err f) e = inr (λ ts h. not_both f (listed ts) (sym e ∙ again args s depth bytes ts h))

-- ---- at most one fault is true

fault_is : (f g : BodyFault) → refused f ≡ refused g → f ≡ g
fault_is f g e = cc

pub one_refusal : OneRefusal
one_refusal args s depth bytes why place h = (
  λ other elsewhere k.
      let same = fault_is (body_fault other elsewhere) (body_fault why place) (sym (stops_with args s depth bytes other elsewhere k) ∙ stops_with args s depth bytes why place h) in
      (ap (λ f. f.reason) same, ap (λ f. f.place) same),
  λ ts r. not_both (body_fault why place) (listed ts) (sym (stops_with args s depth bytes why place h) ∙ again args s depth bytes ts r),
)

pub read_or_refused : ReadOrRefused
read_or_refused args s depth bytes = by_reading (reading args s depth bytes) refl
  where
    by_reading : (r : Result (List TermTree) BodyFault) → reading args s depth bytes ≡ r
        → ((ts : TermTrees) × ReadsBody args s depth bytes ts) ⊎ ((why : BodyReason) × (place : ℕ) × ShowsBody args s depth bytes why place)
    by_reading (Ok ts) e = inl (terms_of ts, took args s depth bytes ts e)
    by_reading (Err f) e = inr (f.reason, f.place, shows args s depth bytes f e)

-- ---- what is given is the body

is_body_of : (args : BodyGrammar) (s : List Segment) (depth : ℕ) (bytes : List ℕ) (r : Result (List TermTree) BodyFault) → reading args s depth bytes ≡ r → IsBodyOf args s depth bytes (body_of bytes r)
is_body_of args s depth bytes (Ok ts) e = took args s depth bytes ts e
is_body_of args s depth bytes (Err f) e = (refl, λ ts h. not_both f (listed ts) (sym e ∙ again args s depth bytes ts h))

pub body_law : {V : Type 0} {E : Type 0} (view : V → BodyTree) (args : BodyGrammar) (s : List Segment) (depth : ℕ) (bytes : List ℕ) (result : Result V E)
    → IfOk result (λ b. view b ≡ body_of bytes (reading args s depth bytes)) → IfOk result (λ b. IsBodyOf args s depth bytes (view b))
body_law view args s depth bytes (Ok b) h = subst (IsBodyOf args s depth bytes) (sym h) (is_body_of args s depth bytes (reading args s depth bytes) refl)
body_law view args s depth bytes (Err e) h = tt

-- the same as an equivalence
read_just : (args : BodyGrammar) (s : List Segment) (depth : ℕ) (bytes : List ℕ) (b : BodyTree) → IsBodyOf args s depth bytes b → (ts : TermTrees) → (b ≡ given ts) ↔ ReadsBody args s depth bytes ts
read_just args s depth bytes (read us) h ts = (λ e. subst (ReadsBody args s depth bytes) (given_is us ts e) h, λ k. ap given (one_reading args s depth bytes us ts h k))
read_just args s depth bytes (unread kept) h ts = (λ e. absurd (not_given kept ts e), λ k. absurd (h.1 ts k))

pub read_law : {V : Type 0} {E : Type 0} (view : V → BodyTree) (args : BodyGrammar) (s : List Segment) (depth : ℕ) (bytes : List ℕ) (result : Result V E)
    → IfOk result (λ b. IsBodyOf args s depth bytes (view b)) → IfOk result (λ b. (ts : TermTrees) → (view b ≡ read ts) ↔ ReadsBody args s depth bytes ts)
read_law view args s depth bytes (Ok b) h = read_just args s depth bytes (view b) h
read_law view args s depth bytes (Err e) h = tt

-- ---- why it isn't read

why_just : (args : BodyGrammar) (s : List Segment) (depth : ℕ) (bytes : List ℕ) (r : Result (List TermTree) BodyFault) → reading args s depth bytes ≡ r
    → (fault_in r ≡ None) ↔ ((ts : TermTrees) × ReadsBody args s depth bytes ts)
why_just args s depth bytes (Ok ts) e = (λ none. (terms_of ts, took args s depth bytes ts e), λ some. refl)
why_just args s depth bytes (Err f) e = (λ none. absurd cc, λ some. absurd (not_both f (listed some.0) (sym e ∙ again args s depth bytes some.0 some.1)))

pub why_law : {E : Type 0} (args : BodyGrammar) (s : List Segment) (depth : ℕ) (bytes : List ℕ) (result : Result (Option BodyFault) E)
    → IfOk result (λ w. w ≡ fault_in (reading args s depth bytes)) → IfOk result (λ w. (w ≡ None) ↔ ((ts : TermTrees) × ReadsBody args s depth bytes ts))
why_law args s depth bytes (Ok w) h = subst (λ w. (w ≡ None) ↔ ((ts : TermTrees) × ReadsBody args s depth bytes ts)) (sym h) (why_just args s depth bytes (reading args s depth bytes) refl)
why_law args s depth bytes (Err e) h = tt

pub next_law : {E : Type 0} (args : BodyGrammar) (s : List Segment) (depth : ℕ) (bytes : List ℕ) (result : Result (Option BodyFault) E)
    → IfOk result (λ w. w ≡ fault_in (reading args s depth bytes)) → 0 < depth → (u w : List ℕ) (ts : TermTrees) (reason : BodyReason) → bytes ≡ u ++ w → ReadsBody args s depth u ts → IsNoStatement (args (locals_after_all s finite.empty ts)).loads reason w
    → IfOk result (λ f. f ≡ Some (record { reason = reason; place = length u }))
next_law args s depth bytes (Ok f) h some u w ts reason whole reads refused =
    h ∙ ap fault_in (ap (reading args s depth) whole ∙ next_told args s depth finite.empty u w ts reason some reads.spelled reads.within refused)
next_law args s depth bytes (Err e) h some u w ts reason whole reads refused = tt

faults_just : (args : BodyGrammar) (s : List Segment) (depth : ℕ) (bytes : List ℕ) (r : Result (List TermTree) BodyFault)
    → reading args s depth bytes ≡ r → IfSome (fault_in r) (λ f. ShowsBody args s depth bytes f.reason f.place)
faults_just args s depth bytes (Ok ts) e = tt
faults_just args s depth bytes (Err f) e = shows args s depth bytes f e

pub faults_law : {E : Type 0} (args : BodyGrammar) (s : List Segment) (depth : ℕ) (bytes : List ℕ) (result : Result (Option BodyFault) E)
    → IfOk result (λ w. w ≡ fault_in (reading args s depth bytes)) → IfOk result (λ w. IfSome w (λ f. ShowsBody args s depth bytes f.reason f.place))
faults_law args s depth bytes (Ok w) h = subst (λ w. IfSome w (λ f. ShowsBody args s depth bytes f.reason f.place)) (sym h) (faults_just args s depth bytes (reading args s depth bytes) refl)
faults_law args s depth bytes (Err e) h = tt

-- the strict loader is always sure
always_sure : (objects : Namespace) (externals : Lookup ℕ) (s : List Segment) (locals : Locals) (n : NameParts) → (body_grammar objects externals s locals).args n ≢ None
always_sure objects externals s locals n e = cc

pub sure_law : {E : Type 0} (objects : Namespace) (externals : Lookup ℕ) (s : List Segment) (depth : ℕ) (bytes : List ℕ) (result : Result (Option BodyFault) E)
    → IfOk result (λ w. IfSome w (λ f. ShowsBody (body_grammar objects externals s) s depth bytes f.reason f.place)) → IfOk result (λ w. IfSome w (λ f. f.reason ≢ Unsure))
sure_law objects externals s depth bytes (Ok None) h = tt
sure_law objects externals s depth bytes (Ok (Some f)) h = sure_statements (body_grammar objects externals s) s (always_sure objects externals s) depth finite.empty (length bytes) bytes f h
sure_law objects externals s depth bytes (Err e) h = tt

-- ---- what is answered of any counting

pub terms_law : {V : Type 0} (view : V → List TermTree) (args : BodyGrammar) (s : List Segment) (depth : ℕ) (bytes : List ℕ) (result : Result V BodyError)
    → Gives view result (reading args s depth bytes) → IfOk result (λ v. (ts : TermTrees) → (terms_of (view v) ≡ ts) ↔ ReadsBody args s depth bytes ts)
terms_law view args s depth bytes (Ok v) h =
    let t = took args s depth bytes (view v) h in
    λ ts. (λ e. subst (ReadsBody args s depth bytes) e t, λ k. one_reading args s depth bytes (terms_of (view v)) ts t k)
terms_law view args s depth bytes (Err e) h = tt

pub shown_law : {V : Type 0} (view : V → List TermTree) (args : BodyGrammar) (s : List Segment) (depth : ℕ) (bytes : List ℕ) (result : Result V BodyError)
    → Gives view result (reading args s depth bytes) → IfErr result (λ e. IfFault e (λ f. ShowsBody args s depth bytes f.reason f.place))
shown_law view args s depth bytes (Ok v) h = tt
shown_law view args s depth bytes (Err stops.Memory) h = tt
shown_law view args s depth bytes (Err (stops.Fault f)) h = shows args s depth bytes f h

pub unread_law : {V : Type 0} (view : V → List TermTree) (args : BodyGrammar) (s : List Segment) (depth : ℕ) (bytes : List ℕ) (result : Result V BodyError)
    → Gives view result (reading args s depth bytes) → IfErr result (λ e. IfFault e (λ f. (ts : TermTrees) → ¬ ReadsBody args s depth bytes ts))
unread_law view args s depth bytes (Ok v) h = tt
unread_law view args s depth bytes (Err stops.Memory) h = tt
unread_law view args s depth bytes (Err (stops.Fault f)) h = λ ts k. not_both f (listed ts) (sym h ∙ again args s depth bytes ts k)

stops_as : {V : Type 0} (view : V → List TermTree) (r : Result (List TermTree) BodyFault) (result : Result V BodyError) (f : BodyFault)
    → Gives view result r → r ≡ Err f → IsErrAnd result (λ e. IfFault e (λ g. g ≡ f))
stops_as view r (Ok v) f h e = absurd (not_both f (view v) (sym e ∙ h))
stops_as view r (Err stops.Memory) f h e = tt
stops_as view r (Err (stops.Fault g)) f h e = fault_is g f (sym h ∙ e)

pub stops_law : {V : Type 0} (view : V → List TermTree) (args : BodyGrammar) (s : List Segment) (depth : ℕ) (bytes : List ℕ) (result : Result V BodyError)
    → Gives view result (reading args s depth bytes) → 0 < depth → (u w : List ℕ) (ts : TermTrees) (reason : BodyReason) → bytes ≡ u ++ w → ReadsBody args s depth u ts → IsNoStatement (args (locals_after_all s finite.empty ts)).loads reason w
    → IsErrAnd result (λ e. IfFault e (λ f. f ≡ record { reason = reason; place = length u }))
stops_law view args s depth bytes result h some u w ts reason whole reads refused =
    stops_as view (reading args s depth bytes) result (record { reason = reason; place = length u }) h
    (ap (reading args s depth) whole ∙ next_told args s depth finite.empty u w ts reason some reads.spelled reads.within refused)

-- ---- an example

some_bytes : (b : ℕ) (rest : List ℕ) → b ∷ rest ≢ []
some_bytes b rest e = cc

return_may_stand : (loads : Bool) → refusal_at loads Statement (opcodes.Operator ops.Return) ≡ None
return_may_stand true = refl
return_may_stand false = refl

pub returns_no_value : ReturnsNoValue
returns_no_value args s zero le = absurd (omega (arith, le))
returns_no_value args s (suc zero) le = absurd (omega (arith, le))
returns_no_value args s (suc (suc n)) le = (
  no_terms,
  [],
  0xA4 ∷ 0xA3 ∷ [],
  (refl, omega arith),
  refl,
  some_bytes 0xA4 (0xA3 ∷ []),
  λ bare rest. absurd cc,
  inr (
    opcodes.Operator ops.Return,
    (0xA3 ∷ [], refl),
    (let
        Form : Failure BodyFault = FailsStatementForm args s (suc n) (FailsAmong args s (suc n) (FailsStatement args s (suc n))) finite.empty (opcodes.Operator ops.Return) in let
        fails : Form 2 (0xA4 ∷ 0xA3 ∷ []) (body_fault NotValue 1) = (0xA3 ∷ [], refl, inl (inr (opcodes.Operator ops.Noop, ([], refl), refl))) in
        subst (λ (o : Option BodyReason). FailsUnless body_fault o Form 2 (0xA4 ∷ 0xA3 ∷ []) (body_fault NotValue 1)) (sym (return_may_stand (args finite.empty).loads)) fails),
  ),
)
