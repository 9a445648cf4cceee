-- Statements are read exactly where they are spelled, and reading stops exactly where they fail.
use Rattle.std.proofs.Common.{◌≡◌, ◌≢◌, ℕ, zero, suc, ◌-◌, ◌+◌, ◌≤◌, Bool, true, false, eqb, ◌&&◌, List, [], ◌∷◌, ◌++◌, length, Option, Some, None, Result, Ok, Err, refl, sym, ap, subst, ◌∙◌, append_assoc, arith, inl, inr}
use Rattle.std.specs.Prelude.{is_none}
use Rattle.std.proofs.lemmas.List.{length-append}
use Rattle.std.proofs.lemmas.Bool.{eqb-true}
use Rattle.acpi_name.specs.Names.{Segment, NameParts}
use Rattle.acpi_name.specs.Paths.{place_of}
use Rattle.acpi_name.specs.Spelling.{SpellsName}
use Rattle.acpi_tree.specs.declared.place.Place.TheVariants.{Value, Statement}
use Rattle.acpi_tree.specs.declared.place.OperandKind.{OperandKind}
use Rattle.acpi_tree.specs.declared.place.NamedForm.{NamedForm}
use Rattle.acpi_tree.specs.declared.place.NamedForm.TheVariants as named
use Rattle.acpi_tree.specs.declared.place.UnitsForm.{UnitsForm}
use Rattle.acpi_tree.specs.declared.place.UnitsForm.TheVariants as units
use Rattle.acpi_tree.specs.Terms.{TermTree, TermTrees, ElseTree, if_do, no_else, else_do, while_do, declare, declare_units, no_terms, more, terms_of}
use Rattle.acpi_tree.specs.Operators.{operands_before, operands_behind, names_of_units, operands_of_units}
use Rattle.acpi_code.specs.declared.opcode.Opcode.{Opcode}
use Rattle.acpi_code.specs.declared.opcode.Opcode.TheVariants as opcodes
use Rattle.acpi_code.specs.Opcodes.{opcode_bytes}
use Rattle.acpi_code.specs.Faults.{Failure, FailsAs, FailsInTurn, FailsPackage, FailsName, FailsUnless, FailsFields}
use Rattle.acpi_code.specs.Fields.{SpellsFields}
use Rattle.acpi_code.specs.Forms.{named_opcode, units_opcode}
use Rattle.acpi_code.specs.Spelling.{Packs}
use Rattle.acpi_code.specs.steps.Opcodes.{is_spelled}
use Rattle.acpi_code.specs.steps.Reading.{◌>>=◌, Reading, Package, package_of, package_at, name_in, opcode_at}
use Rattle.acpi_code.specs.steps.Fields as fields
use Rattle.acpi_code.proofs.Readings.{Judge, judge_bind, judge_into, judge_if, Front}
use Rattle.acpi_code.proofs.Lists.{fails_on, reads_on}
use Rattle.acpi_code.proofs.Opcodes.{Opened}
use Rattle.acpi_code.proofs.Packages.{PackageFront, package_complete}
use Rattle.acpi_code.proofs.Exact.{Exact, ExactAll, all_as, turn_judged, turn_stops, package_judged, package_stops, by_opcode_judged, by_opcode_stops, fails_behind, not_empty}
use Rattle.acpi_values.specs.declared.fault.BodyFault.{BodyFault}
use Rattle.acpi_values.specs.Arguments.{Locals, BodyGrammar}
use Rattle.acpi_values.specs.Grammars.{Grammar}
use Rattle.acpi_values.specs.Refusals.{refusal_at}
use Rattle.acpi_values.specs.Spelling.{height, else_height}
use Rattle.acpi_values.specs.Faults.{fault_of, constant_fault_of, body_fault, IsTermAt, AreOperandsIn, FailsTerm, FailsOperands, FailsForm}
use Rattle.acpi_values.specs.steps.Reading.{Reader, part, operands_at, placed_by, term_at, fields_in}
use Rattle.acpi_values.proofs.Declarations.{units_inner}
use Rattle.acpi_values.proofs.TermComplete.{listed, terms_of-listed, term_complete}
use Rattle.acpi_values.proofs.TermExact.{is_block, are_inner, exact_term, exact_operands, placed_judged, placed_stops, name_read, opening, judged_behind}
use Rattle.acpi_code.proofs.ExactFields.{exact_fields}
use Rattle.acpi_body.specs.Faults.{FailsDeclared, IsDeclared, FailsNamed, FailsNames, AreNames, FailsUnits, AreStatementsIn, FailsBlock, IsBlock, FailsElse, FailsIf, FailsWhile, FailsStatementForm, is_open_if, ends_in_if, FailsAmong, FailsStatement, FailsStatements}
use Rattle.acpi_body.specs.Statements.{MayDeclare, locals_after, locals_after_all, IsStatement, IsElse, AreStatements}
use Rattle.acpi_body.specs.steps.Reading.{Statements, declared_if, declared_at, named_form, names_at, units_form, statements_with, else_at, if_form, while_form, statement_by, statement_at, statements_at}
use Rattle.acpi_body.proofs.StatementComplete.{begins_else, Ends, Closes, ends, statement_starts, declared_read, names_read, statement_complete, statements_complete}
use Rattle.acpi_body.proofs.Next.{Stops, stops_here, stops_behind}

-- ---- declarations

before_inner : (form : NamedForm) → are_inner (operands_before form) ≡ true
before_inner (named.Create w) = refl
before_inner named.CreateField = refl
before_inner _ = refl

behind_inner : (form : NamedForm) → are_inner (operands_behind form) ≡ true
behind_inner named.Name = refl
behind_inner _ = refl

fields_read : ExactAll SpellsFields (FailsAs constant_fault_of FailsFields) fields_in
fields_read = all_as SpellsFields FailsFields fields.fields_in constant_fault_of exact_fields

declared_judged : (m : List Segment) (end : ℕ) (bytes : List ℕ) → Judge (Front (IsDeclared m) bytes) (FailsDeclared m end bytes) (declared_at m end bytes)
unfolding declared_at
declared_judged m end bytes =
    judge_bind (Front SpellsName bytes) (Front (IsDeclared m) bytes) (FailsDeclared m end bytes) (part (name_in end bytes)) _
    (judge_into (Front SpellsName bytes) (Front SpellsName bytes) (FailsAs fault_of FailsName end bytes) (FailsDeclared m end bytes) (part (name_in end bytes)) (λ x t. t) (λ f h. inl h) (name_read.judged end bytes))
    (λ n t. by_place n t (place_of m n.0) n.0.segments refl refl)
  where
    no_place : (n : NameParts) → place_of m n ≡ None → MayDeclare m n → ⊥
    no_place n is may = let e : None ≡ Some may.path = sym is ∙ may.place in cc

    no_segment : (n : NameParts) → n.segments ≡ [] → MayDeclare m n → ⊥
    no_segment n is may = let e : length n.segments ≡ 0 = ap length is in absurd (omega (arith, may.some))

    by_place : (n : NameParts × List ℕ) → Front SpellsName bytes n → (o : Option (List Segment)) (gs : List Segment) → place_of m n.0 ≡ o → n.0.segments ≡ gs
        → Judge (Front (IsDeclared m) bytes) (FailsDeclared m end bytes) (declared_if o gs end bytes (Ok n))
    by_place n t None gs is are = inr (n.0, t.front, n.1, t.spells, t.whole, no_place n.0 is, refl)
    by_place n t (Some p) [] is are = inr (n.0, t.front, n.1, t.spells, t.whole, no_segment n.0 are, refl)
    by_place n t (Some p) (g ∷ gs) is are = record {
      front = t.front;
      spells = (record { path = p; place = is; some = omega (arith, ap length are) }, t.spells);
      whole = t.whole;
    }

declared_stops : (m : List Segment) (end : ℕ) (bytes : List ℕ) (f : BodyFault) → FailsDeclared m end bytes f → declared_at m end bytes ≡ Err f
unfolding declared_at
declared_stops m end bytes f (inl h) = fails_on f (part (name_in end bytes)) _ (name_read.stops end bytes f h)
declared_stops m end bytes f (inr (n, a, b, spells, whole, cannot, is)) =
    let read : part (name_in end bytes) ≡ Ok (n, b) = ap (λ (l : List ℕ). part (name_in end l)) whole ∙ name_read.found end n a b spells in
    reads_on (part (name_in end bytes)) (n, b) _ read ∙ by_place (place_of m n) n.segments refl refl
  where
    by_place : (o : Option (List Segment)) (gs : List Segment) → place_of m n ≡ o → n.segments ≡ gs → declared_if {A = NameParts × List ℕ} o gs end bytes (Ok (n, b)) ≡ Err f
    by_place None gs is_place are = ap Err (sym is)
    by_place (Some p) [] is_place are = ap Err (sym is)
    by_place (Some p) (g ∷ gs) is_place are = absurd (cannot (record { path = p; place = is_place; some = omega (arith, ap length are) }))

exact_declared : (m : List Segment) → Exact (IsDeclared m) (FailsDeclared m) (declared_at m)
exact_declared m = record { found = λ end n a rest h. declared_read m end n a rest h.0 h.1; judged = declared_judged m; stops = declared_stops m }

names_judged : (count end : ℕ) (bytes : List ℕ) → Judge (Front (AreNames count) bytes) (FailsNames count end bytes) (names_at count end bytes)
unfolding names_at
names_judged zero end bytes = record { front = []; spells = (refl, refl); whole = refl }
names_judged (suc count) end bytes =
    let Good = Front (AreNames (suc count)) bytes in
    turn_judged SpellsName (FailsAs fault_of FailsName) (λ n. FailsNames count) (λ end bytes. part (name_in end bytes)) Good end bytes _ name_read (λ n t.
    judge_bind (Front (AreNames count) n.1) Good (FailsNames count end n.1) (names_at count end n.1) _ (names_judged count end n.1) (λ ns u. record {
      front = t.front ++ u.front;
      spells = (ap suc u.spells.0, (t.front, u.front, t.spells, u.spells.1, refl));
      whole = t.whole ∙ ap (λ (l : List ℕ). t.front ++ l) u.whole ∙ sym (append_assoc t.front u.front ns.1);
    }))

names_stop : (count end : ℕ) (bytes : List ℕ) (f : BodyFault) → FailsNames count end bytes f → names_at count end bytes ≡ Err f
unfolding names_at
names_stop zero end bytes f h = absurd h
names_stop (suc count) end bytes f h =
    turn_stops SpellsName (FailsAs fault_of FailsName) (λ n. FailsNames count) (λ end bytes. part (name_in end bytes)) end bytes _ f name_read
    (λ n b k. fails_on f (names_at count end b) _ (names_stop count end b f k)) h

exact_names : (count : ℕ) → Exact (AreNames count) (FailsNames count) (names_at count)
exact_names count = record {
  found = λ end ns a rest h. ap (λ k. names_at k end (a ++ rest)) (sym h.0) ∙ names_read ns end a rest h.1;
  judged = names_judged count;
  stops = names_stop count;
}

-- a reader of statements with so many levels
pub record ReadsAll (m : List Segment) (g : BodyGrammar) (level : ℕ) : Type 0 where
  pub judged : (locals : Locals) (end : ℕ) (bytes : List ℕ)
      → Judge (λ ts. AreStatementsIn g m level locals (terms_of ts) bytes) (FailsStatements g m level locals end bytes) (statements_at g m level locals end bytes)
  pub stops : (locals : Locals) (end : ℕ) (bytes : List ℕ) (f : BodyFault) → FailsStatements g m level locals end bytes f → statements_at g m level locals end bytes ≡ Err f

-- a package, the predicate and the statements in it
abbrev Block : Type 0
Block = Package × TermTree × List TermTree

record IsRead (m : List Segment) (g : BodyGrammar) (level : ℕ) (locals : Locals) (end : ℕ) (bytes : List ℕ) (x : Block) : Type 0 where
  packs : PackageFront end bytes x.0
  a : List ℕ
  b : List ℕ
  term : IsTermAt (g locals) level Value x.1 a
  are : AreStatementsIn g m level locals (terms_of x.2) b
  whole : x.0.content ≡ a ++ b

module _ (m : List Segment) (g : BodyGrammar) where
  -- a statement, and one that ends before what is behind it
  abbrev pub IsStatementIn : ℕ → Locals → TermTree → List ℕ → Type 0
  IsStatementIn level locals t bytes = IsStatement g m locals t bytes × (height t ≤ level)

  abbrev pub Stated : ℕ → Locals → List ℕ → TermTree × List ℕ → Type 0
  Stated level locals bytes x = Front (IsStatementIn level locals) bytes x × Ends x.0 x.1

  -- ---- one after another

  no_open_if : (ts : TermTrees) (t : TermTree) (a b rest : List ℕ) (locals : Locals) → AreStatements g m locals ts a → Ends t rest → rest ≡ a ++ b
      → (ends_in_if ts ≡ true → (tail : List ℕ) → b ≢ 0xA1 ∷ tail) → ends_in_if (more t ts) ≡ true → (tail : List ℕ) → b ≢ 0xA1 ∷ tail
  no_open_if no_terms t a b rest locals h end whole free bare tail is = closed t end bare (whole ∙ ap (λ (l : List ℕ). l ++ b) h ∙ is)
    where
      closed : (t : TermTree) → Ends t rest → is_open_if t ≡ true → rest ≡ 0xA1 ∷ tail → ⊥
      closed (if_do v ts no_else) end bare is = let yes : begins_else rest ≡ true = ap begins_else is in cc
      closed _ end bare is = absurd cc
  no_open_if (more u us) t a b rest locals h end whole free bare tail is = free bare tail is

  among_judged : (level end : ℕ) (One : Locals → Failure BodyFault) (one : Locals → List ℕ → Reading BodyFault TermTree)
      → ((locals : Locals) (bytes : List ℕ) → Judge (Stated level locals bytes) (One locals end bytes) (one locals bytes))
      → (n : ℕ) (locals : Locals) (bytes : List ℕ) → length bytes ≤ n
      → Judge (λ ts. AreStatementsIn g m level locals (terms_of ts) bytes) (FailsAmong g m level One locals end bytes) (statements_with one m n locals bytes)
  unfolding statements_with
  among_judged level end One one judged zero locals [] le = (refl, omega arith)
  among_judged level end One one judged zero locals (b ∷ rest) le = absurd (omega arith)
  among_judged level end One one judged (suc n) locals [] le = (refl, omega arith)
  among_judged level end One one judged (suc n) locals (b ∷ rest) le =
      let Good : List TermTree → Type 0 = λ ts. AreStatementsIn g m level locals (terms_of ts) (b ∷ rest) in
      let Bad = FailsAmong g m level One locals end (b ∷ rest) in
      judge_bind (Stated level locals (b ∷ rest)) Good Bad (one locals (b ∷ rest)) _
      (judge_into (Stated level locals (b ∷ rest)) (Stated level locals (b ∷ rest)) (One locals end (b ∷ rest)) Bad (one locals (b ∷ rest)) (λ x t. t)
      (λ f h. (no_terms, [], b ∷ rest, (refl, omega arith), refl, some_left b rest, λ bare tail. absurd cc, h)) (judged locals (b ∷ rest)))
      (λ x p.
      let t = p.0 in
      let some = (statement_starts g m locals x.0 t.front [] t.spells.0).1 in
      let sizes : suc (length rest) ≡ length t.front + length x.1 = ap length t.whole ∙ length-append t.front x.1 in
      let Behind : List TermTree → Type 0 = λ ts. AreStatementsIn g m level (locals_after m locals x.0) (terms_of ts) x.1 in
      judge_bind Behind Good Bad (statements_with one m n (locals_after m locals x.0) x.1) _
      (judge_into Behind Behind (FailsAmong g m level One (locals_after m locals x.0) end x.1) Bad (statements_with one m n (locals_after m locals x.0) x.1) (λ ts k. k)
      (λ f h. (
        more x.0 h.0,
        t.front ++ h.1,
        h.2,
        ((t.front, h.1, t.spells.0, h.3.0, refl), omega (arith, t.spells.1, h.3.1)),
        t.whole ∙ ap (λ (l : List ℕ). t.front ++ l) h.4 ∙ sym (append_assoc t.front h.1 h.2),
        h.5,
        no_open_if h.0 x.0 h.1 h.2 x.1 (locals_after m locals x.0) h.3.0 p.1 h.4 h.6,
        h.7,
      )) (among_judged level end One one judged n (locals_after m locals x.0) x.1 (omega arith)))
      (λ ts k. ((t.front, x.1, t.spells.0, k.0, t.whole), omega (arith, t.spells.1, k.1))))
    where
      some_left : (b : ℕ) (rest : List ℕ) → b ∷ rest ≢ []
      some_left b rest e = cc

  -- a statement ends before statements and what ends them
  ends_there : (t : TermTree) (ts : TermTrees) (locals : Locals) (y b : List ℕ) → AreStatements g m locals ts y
      → (ends_in_if (more t ts) ≡ true → (rest : List ℕ) → b ≢ 0xA1 ∷ rest) → Ends t (y ++ b)
  ends_there t no_terms locals y b h free = subst (λ (l : List ℕ). Ends t (l ++ b)) (sym h) (closed t free)
    where
      no_else_there : (b : List ℕ) → ((rest : List ℕ) → b ≢ 0xA1 ∷ rest) → begins_else b ≡ false
      no_else_there [] free = refl
      no_else_there (c ∷ rest) free = by_test (eqb c 0xA1) refl
        where
          by_test : (q : Bool) → eqb c 0xA1 ≡ q → eqb c 0xA1 ≡ false
          by_test true q = absurd (free rest (ap (λ k. k ∷ rest) (eqb-true c 0xA1 q)))
          by_test false q = q

      closed : (t : TermTree) → (is_open_if t ≡ true → (rest : List ℕ) → b ≢ 0xA1 ∷ rest) → Ends t b
      closed (if_do v us no_else) free = no_else_there b (free refl)
      closed (if_do v us (else_do es)) free = tt
      closed _ free = tt
  ends_there t (more u us) locals y b (c, d, hu, hs, whole) free =
      ends t (y ++ b) (rw (whole, append_assoc c d b) ((statement_starts g m locals u c (d ++ b) hu).0))

  among_stops : (level end : ℕ) (One : Locals → Failure BodyFault) → ((locals : Locals) (bytes : List ℕ) (f : BodyFault) → One locals end bytes f → statement_at g m level locals end bytes ≡ Err f)
      → (ts : TermTrees) (locals : Locals) (a b : List ℕ) (f : BodyFault) → AreStatementsIn g m level locals ts a → b ≢ []
      → (ends_in_if ts ≡ true → (rest : List ℕ) → b ≢ 0xA1 ∷ rest) → One (locals_after_all m locals ts) end b f
      → Stops (λ locals. statement_at g m level locals end) m locals (a ++ b) f
  among_stops level end One stops no_terms locals a b f h some free one = rw h.0 (stops_here (λ locals. statement_at g m level locals end) m locals b f (not_empty b some) (stops locals b f one))
  among_stops level end One stops (more t ts) locals a b f ((x, y, ht, hs, whole), le) some free one =
      rw (whole, append_assoc x y b)
      (stops_behind (λ locals. statement_at g m level locals end) m locals x (y ++ b) t f ((statement_starts g m locals t x [] ht).1)
      (statement_complete g m t level locals end x (y ++ b) ht (omega arith) (ends_there t ts (locals_after m locals t) y b hs free))
      (among_stops level end One stops ts (locals_after m locals t) y b f (hs, omega arith) some (behind ts free) one))
    where
      behind : (ts : TermTrees) → (ends_in_if (more t ts) ≡ true → (rest : List ℕ) → b ≢ 0xA1 ∷ rest) → ends_in_if ts ≡ true → (rest : List ℕ) → b ≢ 0xA1 ∷ rest
      behind no_terms free bare = absurd cc
      behind (more u us) free bare = free bare

  -- ---- with so many levels inside

  module _ (level : ℕ) (r : ReadsAll m g level) where
    abbrev value : Locals → Reader
    value locals = term_at (g locals) level

    abbrev inner : Statements
    inner = statements_at g m level

    abbrev Inside : Locals → Failure BodyFault
    Inside = FailsStatements g m level

    value_read : (locals : Locals) → Exact (IsTermAt (g locals) level Value) (FailsTerm (g locals) level Value) (value locals Value)
    value_read locals = exact_term (g locals) level Value refl

    operands_read : (locals : Locals) (ks : List OperandKind) → are_inner ks ≡ true → Exact (AreOperandsIn (g locals) level ks) (FailsOperands (g locals) level ks) (operands_at (value locals) ks)
    operands_read locals ks ok = exact_operands (g locals) level (exact_term (g locals) level) ks ok

    -- ---- blocks

    block_at : Locals → ℕ → List ℕ → Result Block BodyFault
    block_at locals end bytes = do
      p ← part (package_at end bytes)
      v ← value locals Value p.end p.content
      ts ← inner locals p.end v.1
      Ok (p, v.0, ts)

    abbrev Filled : Locals → Failure BodyFault
    Filled locals = FailsInTurn (FailsTerm (g locals) level Value) (IsTermAt (g locals) level Value) (λ v. Inside locals)

    block_judged : (locals : Locals) (end : ℕ) (bytes : List ℕ) → Judge (IsRead m g level locals end bytes) (FailsBlock g level Inside locals end bytes) (block_at locals end bytes)
    unfolding block_at
    block_judged locals end bytes =
        package_judged fault_of (Filled locals) (IsRead m g level locals end bytes) end bytes _ (λ p w.
        turn_judged (IsTermAt (g locals) level Value) (FailsTerm (g locals) level Value) (λ v. Inside locals) (value locals Value) (IsRead m g level locals end bytes) p.end p.content _ (value_read locals) (λ v t.
        judge_bind (λ ts. AreStatementsIn g m level locals (terms_of ts) v.1) (IsRead m g level locals end bytes) (Inside locals p.end v.1) (inner locals p.end v.1) _ (r.judged locals p.end v.1) (λ ts u.
        record { packs = w; a = t.front; b = v.1; term = t.spells; are = u; whole = t.whole })))

    block_stops : (locals : Locals) (end : ℕ) (bytes : List ℕ) (f : BodyFault) → FailsBlock g level Inside locals end bytes f → block_at locals end bytes ≡ Err f
    unfolding block_at
    block_stops locals end bytes f h =
        package_stops fault_of (Filled locals) end bytes _ f (λ p k.
        turn_stops (IsTermAt (g locals) level Value) (FailsTerm (g locals) level Value) (λ v. Inside locals) (value locals Value) p.end p.content _ f (value_read locals)
        (λ v b j. fails_on f (inner locals p.end b) _ (r.stops locals p.end b f j)) k) h

    block_found : (locals : Locals) (end : ℕ) (ts : TermTrees) (front back : List ℕ) → IsBlock g m level locals ts front
        → (p : Package) × (v : TermTree) × (p.rest ≡ back) × (block_at locals end (front ++ back) ≡ Ok (p, v, listed ts))
    unfolding block_at
    block_found locals end ts front back (v, a, b, t, are, packs) =
        let is : front ++ back ≡ packs.len ++ ((a ++ b) ++ back) = ap (λ (l : List ℕ). l ++ back) packs.whole ∙ append_assoc packs.len (a ++ b) back in
        let here = end - length back in
        let term : value locals Value here (a ++ b) ≡ Ok (v, b) = term_complete (g locals) v level Value here a b t.0 t.1 t.2 in
        let all : inner locals here b ≡ Ok (listed ts) = statements_complete g m ts level locals here b are.0 are.1 (length b) (omega arith) in
        (package_of end (a ++ b) back, v, refl, rw (is, package_complete end packs.len (a ++ b) back packs.spells_len, term, all) refl)

    -- ---- Else and If

    abbrev IsElseIn : Locals → ElseTree → List ℕ → Type 0
    IsElseIn locals e bytes = IsElse g m locals e bytes × (else_height e ≤ level)

    abbrev Elsed : Locals → List ℕ → ElseTree × List ℕ → Type 0
    Elsed locals bytes x = Front (IsElseIn locals) bytes x × Closes x.0 x.1

    else_judged : (locals : Locals) (end : ℕ) (bytes : List ℕ) → Judge (Elsed locals bytes) (FailsElse (Inside locals) end bytes) (else_at (inner locals) end bytes)
    unfolding else_at
    else_judged locals end [] = (record { front = []; spells = (refl, omega arith); whole = refl }, refl)
    else_judged locals end (b ∷ rest) =
        let Good = Elsed locals (b ∷ rest) in
        judge_if Good (FailsElse (Inside locals) end (b ∷ rest)) (eqb b 0xA1) _ _
        (λ yes.
        let is : b ∷ rest ≡ 0xA1 ∷ rest = ap (λ k. k ∷ rest) (eqb-true b 0xA1 yes) in
        judged_behind (0xA1 ∷ []) (FailsPackage fault_of (Inside locals)) Good end (b ∷ rest) rest _ is
        (package_judged fault_of (Inside locals) Good end rest _ (λ p w.
        judge_bind (λ ts. AreStatementsIn g m level locals (terms_of ts) p.content) Good (Inside locals p.end p.content) (inner locals p.end p.content) _ (r.judged locals p.end p.content) (λ ts t. (
          record {
            front = 0xA1 ∷ (w.len ++ p.content);
            spells = ((p.content, t.0, record { len = w.len; spells_len = w.spells_len; whole = refl }), t.1);
            whole = is ∙ ap (λ (l : List ℕ). 0xA1 ∷ l) (w.whole ∙ sym (append_assoc w.len p.content p.rest));
          },
          tt,
        )))))
        (λ free. (record { front = []; spells = (refl, omega arith); whole = refl }, free))

    else_stops : (locals : Locals) (end : ℕ) (bytes : List ℕ) (f : BodyFault) → FailsElse (Inside locals) end bytes f → else_at (inner locals) end bytes ≡ Err f
    unfolding else_at
    else_stops locals end bytes f (rest, is, h) =
        rw is (package_stops fault_of (Inside locals) end rest _ f (λ p k. fails_on f (inner locals p.end p.content) _ (r.stops locals p.end p.content f k)) h)

    -- what follows a block
    block_then : {A : Type 0} (behind : Block → Result A BodyFault) (locals : Locals) (end : ℕ) (bytes : List ℕ)
        → (part (package_at end bytes) >>= λ p. value locals Value p.end p.content >>= λ v. inner locals p.end v.1 >>= λ ts. behind (p, v.0, ts)) ≡ (block_at locals end bytes >>= behind)
    unfolding block_at
    block_then {A} behind locals end bytes = by_package (part (package_at end bytes))
      where
        by_statements : (p : Package) (v : TermTree × List ℕ) (s : Result (List TermTree) BodyFault) → (s >>= λ ts. behind (p, v.0, ts)) ≡ ((s >>= λ ts. Ok (p, v.0, ts)) >>= behind)
        by_statements p v (Ok ts) = refl
        by_statements p v (Err f) = refl

        by_value : (p : Package) (s : Reading BodyFault TermTree) → (s >>= λ v. inner locals p.end v.1 >>= λ ts. behind (p, v.0, ts)) ≡ ((s >>= λ v. inner locals p.end v.1 >>= λ ts. Ok (p, v.0, ts)) >>= behind)
        by_value p (Ok v) = by_statements p v (inner locals p.end v.1)
        by_value p (Err f) = refl

        by_package : (s : Result Package BodyFault) → (s >>= λ p. value locals Value p.end p.content >>= λ v. inner locals p.end v.1 >>= λ ts. behind (p, v.0, ts))
            ≡ ((s >>= λ p. value locals Value p.end p.content >>= λ v. inner locals p.end v.1 >>= λ ts. Ok (p, v.0, ts)) >>= behind)
        by_package (Ok p) = by_value p (value locals Value p.end p.content)
        by_package (Err f) = refl

    abbrev if_behind : Locals → ℕ → Block → Reading BodyFault TermTree
    if_behind locals end x = else_at (inner (locals_after_all m locals (terms_of x.2))) end x.0.rest >>= λ e. Ok (if_do x.1 (terms_of x.2) e.0, e.1)

    abbrev while_behind : Block → Reading BodyFault TermTree
    while_behind x = Ok (while_do x.1 (terms_of x.2), x.0.rest)

    if_by : (locals : Locals) (end : ℕ) (bytes : List ℕ) → if_form (value locals) inner m locals end bytes ≡ (block_at locals end bytes >>= if_behind locals end)
    unfolding if_form
    if_by locals end bytes = block_then (if_behind locals end) locals end bytes

    while_by : (locals : Locals) (end : ℕ) (bytes : List ℕ) → while_form (value locals) inner locals end bytes ≡ (block_at locals end bytes >>= while_behind)
    unfolding while_form
    while_by locals end bytes = block_then while_behind locals end bytes

    -- the bytes of a package behind an opcode

    block_whole : (op bytes rest : List ℕ) (p : Package) (end : ℕ) → bytes ≡ op ++ rest → (w : PackageFront end rest p) → bytes ≡ (op ++ (w.len ++ p.content)) ++ p.rest
    block_whole op bytes rest p end is w =
        is ∙ ap (λ (l : List ℕ). op ++ l) (w.whole ∙ sym (append_assoc w.len p.content p.rest)) ∙ sym (append_assoc op (w.len ++ p.content) p.rest)

    block_packs : (op a b content : List ℕ) (p : Package) (end : ℕ) (rest : List ℕ) → p.content ≡ a ++ b → (w : PackageFront end rest p) → Packs op (a ++ b) (op ++ (w.len ++ p.content))
    block_packs op a b content p end rest whole w = subst (λ l. Packs op l (op ++ (w.len ++ p.content))) whole (record { len = w.len; spells_len = w.spells_len; whole = refl })

    abbrev Good : Locals → List ℕ → TermTree × List ℕ → Type 0
    Good locals bytes = Stated (suc level) locals bytes

    while_judged : (locals : Locals) (end : ℕ) (bytes rest : List ℕ) → bytes ≡ 0xA2 ∷ rest
        → Judge (Good locals bytes) (FailsWhile g level Inside locals end bytes) (while_form (value locals) inner locals end rest)
    while_judged locals end bytes rest is =
        judged_behind (0xA2 ∷ []) (FailsBlock g level Inside locals) (Good locals bytes) end bytes rest _ is
        (subst (Judge (Good locals bytes) (FailsBlock g level Inside locals end rest)) (sym (while_by locals end rest))
        (judge_bind (IsRead m g level locals end rest) (Good locals bytes) (FailsBlock g level Inside locals end rest) (block_at locals end rest) while_behind (block_judged locals end rest) (λ x h. (
          record {
            front = 0xA2 ∷ (h.packs.len ++ x.0.content);
            spells = (
              (h.a, h.b, h.term.0, h.term.1, h.are.0, block_packs (0xA2 ∷ []) h.a h.b x.0.content x.0 end rest h.whole h.packs),
              omega (arith, h.term.2, h.are.1),
            );
            whole = block_whole (0xA2 ∷ []) bytes rest x.0 end is h.packs;
          },
          tt,
        ))))

    while_stops : (locals : Locals) (end : ℕ) (rest : List ℕ) (f : BodyFault) → FailsBlock g level Inside locals end rest f → while_form (value locals) inner locals end rest ≡ Err f
    while_stops locals end rest f h = while_by locals end rest ∙ fails_on f (block_at locals end rest) while_behind (block_stops locals end rest f h)

    abbrev Branch : Locals → Failure BodyFault
    Branch locals = FailsInTurn (FailsBlock g level Inside locals) (IsBlock g m level locals) (λ ts. FailsElse (Inside (locals_after_all m locals ts)))

    if_judged : (locals : Locals) (end : ℕ) (bytes rest : List ℕ) → bytes ≡ 0xA0 ∷ rest
        → Judge (Good locals bytes) (FailsIf g m level Inside locals end bytes) (if_form (value locals) inner m locals end rest)
    if_judged locals end bytes rest is =
        judged_behind (0xA0 ∷ []) (Branch locals) (Good locals bytes) end bytes rest _ is
        (subst (Judge (Good locals bytes) (Branch locals end rest)) (sym (if_by locals end rest))
        (judge_bind (IsRead m g level locals end rest) (Good locals bytes) (Branch locals end rest) (block_at locals end rest) (if_behind locals end)
        (judge_into (IsRead m g level locals end rest) (IsRead m g level locals end rest) (FailsBlock g level Inside locals end rest) (Branch locals end rest) (block_at locals end rest) (λ x h. h) (λ f h. inl h) (block_judged locals end rest))
        (λ x h.
        let next = locals_after_all m locals (terms_of x.2) in
        let front = h.packs.len ++ x.0.content in
        judge_bind (Elsed next x.0.rest) (Good locals bytes) (Branch locals end rest) (else_at (inner next) end x.0.rest) _
        (judge_into (Elsed next x.0.rest) (Elsed next x.0.rest) (FailsElse (Inside next) end x.0.rest) (Branch locals end rest) (else_at (inner next) end x.0.rest) (λ e o. o)
        (λ f o. inr (terms_of x.2, front, x.0.rest, (x.1, h.a, h.b, h.term, h.are, block_packs [] h.a h.b x.0.content x.0 end rest h.whole h.packs), h.packs.whole ∙ sym (append_assoc h.packs.len x.0.content x.0.rest), o))
        (else_judged next end x.0.rest))
        (λ e o. (
          record {
            front = (0xA0 ∷ front) ++ o.0.front;
            spells = (
              (
                h.a,
                h.b,
                0xA0 ∷ front,
                o.0.front,
                h.term.0,
                h.term.1,
                h.are.0,
                block_packs (0xA0 ∷ []) h.a h.b x.0.content x.0 end rest h.whole h.packs,
                o.0.spells.0,
                refl,
              ),
              omega (arith, h.term.2, h.are.1, o.0.spells.1),
            );
            whole = block_whole (0xA0 ∷ []) bytes rest x.0 end is h.packs ∙ ap (λ (l : List ℕ). (0xA0 ∷ front) ++ l) o.0.whole ∙ sym (append_assoc (0xA0 ∷ front) o.0.front e.1);
          },
          o.1,
        )))))

    if_stops : (locals : Locals) (end : ℕ) (rest : List ℕ) (f : BodyFault) → Branch locals end rest f → if_form (value locals) inner m locals end rest ≡ Err f
    if_stops locals end rest f (inl h) = if_by locals end rest ∙ fails_on f (block_at locals end rest) (if_behind locals end) (block_stops locals end rest f h)
    if_stops locals end rest f (inr (ts, front, back, spells, whole, h)) =
        let b = block_found locals end ts front back spells in
        let read : block_at locals end rest ≡ Ok (b.0, b.1, listed ts) = ap (block_at locals end) whole ∙ b.3 in
        let fails : else_at (inner (locals_after_all m locals (terms_of (listed ts)))) end b.0.rest ≡ Err f =
        rw (terms_of-listed ts, b.2) (else_stops (locals_after_all m locals ts) end back f h) in
        if_by locals end rest ∙ reads_on (block_at locals end rest) (b.0, b.1, listed ts) (if_behind locals end) read ∙ fails_on f (else_at (inner (locals_after_all m locals (terms_of (listed ts)))) end b.0.rest) _ fails

    -- ---- declarations

    named_judged : (locals : Locals) (form : NamedForm) (end : ℕ) (bytes rest : List ℕ) → bytes ≡ opcode_bytes (named_opcode form) ++ rest
        → Judge (Good locals bytes) (FailsNamed (g locals) level m form end bytes) (named_form (value locals) m form end rest)
    unfolding named_form
    named_judged locals form end bytes rest is =
        let op = opcode_bytes (named_opcode form) in
        let Behind : NameParts → Failure BodyFault = λ n. FailsOperands (g locals) level (operands_behind form) in
        let Then : List TermTree → Failure BodyFault = λ ts. FailsInTurn (FailsDeclared m) (IsDeclared m) Behind in
        judged_behind op (FailsInTurn (FailsOperands (g locals) level (operands_before form)) (AreOperandsIn (g locals) level (operands_before form)) Then) (Good locals bytes) end bytes rest _ is
        (turn_judged (AreOperandsIn (g locals) level (operands_before form)) (FailsOperands (g locals) level (operands_before form)) Then (operands_at (value locals) (operands_before form)) (Good locals bytes) end rest _
        (operands_read locals (operands_before form) (before_inner form)) (λ x b.
        turn_judged (IsDeclared m) (FailsDeclared m) Behind (declared_at m) (Good locals bytes) end x.1 _ (exact_declared m) (λ n d.
        judge_bind (Front (AreOperandsIn (g locals) level (operands_behind form)) n.1) (Good locals bytes) (FailsOperands (g locals) level (operands_behind form) end n.1) (operands_at (value locals) (operands_behind form) end n.1) _
        ((operands_read locals (operands_behind form) (behind_inner form)).judged end n.1) (λ y a.
        let back : rest ≡ (b.front ++ (d.front ++ a.front)) ++ y.1 = b.whole ∙ ap (λ (l : List ℕ). b.front ++ l) (d.whole ∙ ap (λ (l : List ℕ). d.front ++ l) a.whole) ∙ simp append_assoc in (
          record {
            front = op ++ (b.front ++ (d.front ++ a.front));
            spells = ((b.front, d.front, a.front, b.spells.0, d.spells.0, d.spells.1, a.spells.0, refl), omega (arith, b.spells.1, a.spells.1));
            whole = is ∙ ap (λ (l : List ℕ). op ++ l) back ∙ sym (append_assoc op (b.front ++ (d.front ++ a.front)) y.1);
          },
          tt,
        )))))

    named_stops : (locals : Locals) (form : NamedForm) (end : ℕ) (bytes rest : List ℕ) (f : BodyFault) → opcode_at end bytes ≡ Ok (named_opcode form, rest) → is_spelled (named_opcode form) ≡ true
        → FailsNamed (g locals) level m form end bytes f → named_form (value locals) m form end rest ≡ Err f
    unfolding named_form
    named_stops locals form end bytes rest f read spelled h =
        let Behind : NameParts → Failure BodyFault = λ n. FailsOperands (g locals) level (operands_behind form) in
        let Then : List TermTree → Failure BodyFault = λ ts. FailsInTurn (FailsDeclared m) (IsDeclared m) Behind in
        let All = FailsInTurn (FailsOperands (g locals) level (operands_before form)) (AreOperandsIn (g locals) level (operands_before form)) Then in
        turn_stops (AreOperandsIn (g locals) level (operands_before form)) (FailsOperands (g locals) level (operands_before form)) Then (operands_at (value locals) (operands_before form)) end rest _ f
        (operands_read locals (operands_before form) (before_inner form)) (λ ts b k.
        turn_stops (IsDeclared m) (FailsDeclared m) Behind (declared_at m) end b _ f (exact_declared m) (λ n c j.
        fails_on f (operands_at (value locals) (operands_behind form) end c) _ ((operands_read locals (operands_behind form) (behind_inner form)).stops end c f j)) k)
        (fails_behind All (named_opcode form) end bytes rest f spelled read h)

    abbrev Held : Locals → UnitsForm → Failure BodyFault
    Held locals form = FailsInTurn (FailsNames (names_of_units form)) (AreNames (names_of_units form)) (λ ns. FailsInTurn (FailsOperands (g locals) level (operands_of_units form))
        (AreOperandsIn (g locals) level (operands_of_units form)) (λ vs. FailsAs constant_fault_of FailsFields))

    units_judged : (locals : Locals) (form : UnitsForm) (end : ℕ) (bytes rest : List ℕ) → bytes ≡ opcode_bytes (units_opcode form) ++ rest
        → Judge (Good locals bytes) (FailsUnits (g locals) level form end bytes) (units_form (value locals) form end rest)
    unfolding units_form
    units_judged locals form end bytes rest is =
        let op = opcode_bytes (units_opcode form) in
        let Behind : List TermTree → Failure BodyFault = λ vs. FailsAs constant_fault_of FailsFields in
        let Then : List NameParts → Failure BodyFault = λ ns. FailsInTurn (FailsOperands (g locals) level (operands_of_units form)) (AreOperandsIn (g locals) level (operands_of_units form)) Behind in
        judged_behind op (FailsPackage fault_of (Held locals form)) (Good locals bytes) end bytes rest _ is
        (package_judged fault_of (Held locals form) (Good locals bytes) end rest _ (λ p w.
        turn_judged (AreNames (names_of_units form)) (FailsNames (names_of_units form)) Then (names_at (names_of_units form)) (Good locals bytes) p.end p.content _ (exact_names (names_of_units form)) (λ ns n.
        turn_judged (AreOperandsIn (g locals) level (operands_of_units form)) (FailsOperands (g locals) level (operands_of_units form)) Behind (operands_at (value locals) (operands_of_units form)) (Good locals bytes) p.end ns.1 _
        (operands_read locals (operands_of_units form) (units_inner form)) (λ vs v.
        judge_bind (λ es. SpellsFields es vs.1) (Good locals bytes) (FailsAs constant_fault_of FailsFields p.end vs.1) (fields_in p.end vs.1) _ (fields_read.judged p.end vs.1) (λ es e.
        let content : p.content ≡ n.front ++ (v.front ++ vs.1) = n.whole ∙ ap (λ (l : List ℕ). n.front ++ l) v.whole in (
          record {
            front = op ++ (w.len ++ p.content);
            spells = (
              (
                n.front,
                v.front,
                vs.1,
                n.spells.0,
                n.spells.1,
                v.spells.0,
                e,
                subst (λ l. Packs op l (op ++ (w.len ++ p.content))) content (record { len = w.len; spells_len = w.spells_len; whole = refl }),
              ),
              omega (arith, v.spells.1),
            );
            whole = block_whole op bytes rest p end is w;
          },
          tt,
        ))))))

    units_stop : (locals : Locals) (form : UnitsForm) (end : ℕ) (bytes rest : List ℕ) (f : BodyFault) → opcode_at end bytes ≡ Ok (units_opcode form, rest) → is_spelled (units_opcode form) ≡ true
        → FailsUnits (g locals) level form end bytes f → units_form (value locals) form end rest ≡ Err f
    unfolding units_form
    units_stop locals form end bytes rest f read spelled h =
        let Behind : List TermTree → Failure BodyFault = λ vs. FailsAs constant_fault_of FailsFields in
        let Then : List NameParts → Failure BodyFault = λ ns. FailsInTurn (FailsOperands (g locals) level (operands_of_units form)) (AreOperandsIn (g locals) level (operands_of_units form)) Behind in
        package_stops fault_of (Held locals form) end rest _ f (λ p k.
        turn_stops (AreNames (names_of_units form)) (FailsNames (names_of_units form)) Then (names_at (names_of_units form)) p.end p.content _ f (exact_names (names_of_units form)) (λ ns b j.
        turn_stops (AreOperandsIn (g locals) level (operands_of_units form)) (FailsOperands (g locals) level (operands_of_units form)) Behind (operands_at (value locals) (operands_of_units form)) p.end b _ f
        (operands_read locals (operands_of_units form) (units_inner form)) (λ vs c i.
        fails_on f (fields_in p.end c) _ (fields_read.stops p.end c f i)) j) k)
        (fails_behind (FailsPackage fault_of (Held locals form)) (units_opcode form) end bytes rest f spelled read h)

    -- ---- a statement, by what it begins with

    -- a term where a statement stands is a statement
    as_statement : (locals : Locals) (t : TermTree) (a rest : List ℕ) → IsTermAt (g locals) (suc level) Statement t a → IsStatementIn (suc level) locals t a × Ends t rest
    as_statement locals (if_do v ts e) a rest h = absurd h.1
    as_statement locals (while_do v ts) a rest h = absurd h.1
    as_statement locals (declare form before n behind) a rest h = absurd h.1
    as_statement locals (declare_units form ns vs es) a rest h = absurd h.1
    as_statement locals _ a rest h = (((h.0, h.1), h.2), tt)

    abbrev Fails : Locals → Opcode → Failure BodyFault
    Fails locals x = FailsUnless body_fault (refusal_at (g locals).loads Statement x) (FailsStatementForm g m level Inside locals x)

    abbrev Plain : Locals → Opcode → Failure BodyFault
    Plain locals x = FailsUnless body_fault (refusal_at (g locals).loads Statement x) (FailsForm (g locals) level (FailsTerm (g locals) level) Statement x)

    plain_judged : (locals : Locals) (end : ℕ) (bytes rest : List ℕ) (x : Opcode) → (is_block x && is_none (refusal_at (g locals).loads Statement x)) ≡ false → Opened bytes (x, rest)
        → Judge (Good locals bytes) (Plain locals x end bytes) (placed_by (g locals) (value locals) Statement end bytes x rest)
    plain_judged locals end bytes rest x clear o =
        judge_into (Front (IsTermAt (g locals) (suc level) Statement) bytes) (Good locals bytes) (Plain locals x end bytes) (Plain locals x end bytes) (placed_by (g locals) (value locals) Statement end bytes x rest)
        (λ y t. let k = as_statement locals y.0 t.front y.1 t.spells in (record { front = t.front; spells = k.0; whole = t.whole }, k.1)) (λ f b. b)
        (placed_judged (g locals) level (exact_term (g locals) level) Statement end bytes rest x clear o)

    by_judged : (locals : Locals) (end : ℕ) (bytes rest : List ℕ) (x : Opcode) → Opened bytes (x, rest)
        → Judge (Good locals bytes) (Fails locals x end bytes) (statement_by (g locals) (value locals) inner m locals end bytes x rest)
    unfolding statement_by
    by_judged locals end bytes rest opcodes.If o = if_judged locals end bytes rest (opening opcodes.If bytes o.front rest o.whole o.told.1)
    by_judged locals end bytes rest opcodes.While o = while_judged locals end bytes rest (opening opcodes.While bytes o.front rest o.whole o.told.1)
    by_judged locals end bytes rest opcodes.DeclareName o = named_judged locals named.Name end bytes rest (opening opcodes.DeclareName bytes o.front rest o.whole o.told.1)
    by_judged locals end bytes rest (opcodes.Create w) o = named_judged locals (named.Create w) end bytes rest (opening (opcodes.Create w) bytes o.front rest o.whole o.told.1)
    by_judged locals end bytes rest opcodes.CreateField o = named_judged locals named.CreateField end bytes rest (opening opcodes.CreateField bytes o.front rest o.whole o.told.1)
    by_judged locals end bytes rest opcodes.Region o = named_judged locals named.Region end bytes rest (opening opcodes.Region bytes o.front rest o.whole o.told.1)
    by_judged locals end bytes rest opcodes.Mutex o = named_judged locals named.Mutex end bytes rest (opening opcodes.Mutex bytes o.front rest o.whole o.told.1)
    by_judged locals end bytes rest opcodes.Event o = named_judged locals named.Event end bytes rest (opening opcodes.Event bytes o.front rest o.whole o.told.1)
    by_judged locals end bytes rest opcodes.Field o = units_judged locals units.Field end bytes rest (opening opcodes.Field bytes o.front rest o.whole o.told.1)
    by_judged locals end bytes rest opcodes.IndexField o = units_judged locals units.IndexField end bytes rest (opening opcodes.IndexField bytes o.front rest o.whole o.told.1)
    by_judged locals end bytes rest opcodes.BankField o = units_judged locals units.BankField end bytes rest (opening opcodes.BankField bytes o.front rest o.whole o.told.1)
    by_judged locals end bytes rest x o = plain_judged locals end bytes rest x refl o

    by_stops : (locals : Locals) (end : ℕ) (bytes rest : List ℕ) (f : BodyFault) (x : Opcode) → opcode_at end bytes ≡ Ok (x, rest) → Fails locals x end bytes f
        → statement_by (g locals) (value locals) inner m locals end bytes x rest ≡ Err f
    unfolding statement_by
    by_stops locals end bytes rest f opcodes.If read h = if_stops locals end rest f (fails_behind (Branch locals) opcodes.If end bytes rest f refl read h)
    by_stops locals end bytes rest f opcodes.While read h = while_stops locals end rest f (fails_behind (FailsBlock g level Inside locals) opcodes.While end bytes rest f refl read h)
    by_stops locals end bytes rest f opcodes.DeclareName read h = named_stops locals named.Name end bytes rest f read refl h
    by_stops locals end bytes rest f (opcodes.Create w) read h = named_stops locals (named.Create w) end bytes rest f read refl h
    by_stops locals end bytes rest f opcodes.CreateField read h = named_stops locals named.CreateField end bytes rest f read refl h
    by_stops locals end bytes rest f opcodes.Region read h = named_stops locals named.Region end bytes rest f read refl h
    by_stops locals end bytes rest f opcodes.Mutex read h = named_stops locals named.Mutex end bytes rest f read refl h
    by_stops locals end bytes rest f opcodes.Event read h = named_stops locals named.Event end bytes rest f read refl h
    by_stops locals end bytes rest f opcodes.Field read h = units_stop locals units.Field end bytes rest f read refl h
    by_stops locals end bytes rest f opcodes.IndexField read h = units_stop locals units.IndexField end bytes rest f read refl h
    by_stops locals end bytes rest f opcodes.BankField read h = units_stop locals units.BankField end bytes rest f read refl h
    by_stops locals end bytes rest f x read h = placed_stops (g locals) level (exact_term (g locals) level) Statement end bytes rest f x read h

  -- ---- a statement

  statement_judged : (level : ℕ) → ReadsAll m g level → (locals : Locals) (end : ℕ) (bytes : List ℕ)
      → Judge (Stated (suc level) locals bytes) (FailsStatement g m (suc level) locals end bytes) (statement_at g m (suc level) locals end bytes)
  unfolding statement_at
  statement_judged level r locals end bytes =
      by_opcode_judged fault_of (Fails level r locals) (Stated (suc level) locals bytes) end bytes _ (λ x o. by_judged level r locals end bytes x.1 x.0 o)

  statement_stops : (level : ℕ) → ReadsAll m g level → (locals : Locals) (end : ℕ) (bytes : List ℕ) (f : BodyFault) → FailsStatement g m (suc level) locals end bytes f
      → statement_at g m (suc level) locals end bytes ≡ Err f
  unfolding statement_at
  statement_stops level r locals end bytes f h = by_opcode_stops fault_of (Fails level r locals) end bytes _ f (λ o rest read k. by_stops level r locals end bytes rest f o read k) h

  none_judged : (locals : Locals) (end : ℕ) (bytes : List ℕ) → Judge (Stated 0 locals bytes) (FailsStatement g m 0 locals end bytes) (statement_at g m 0 locals end bytes)
  unfolding statement_at
  none_judged locals end bytes = refl

  none_stops : (locals : Locals) (end : ℕ) (bytes : List ℕ) (f : BodyFault) → FailsStatement g m 0 locals end bytes f → statement_at g m 0 locals end bytes ≡ Err f
  unfolding statement_at
  none_stops locals end bytes f h = ap Err (sym h)

  -- all statements, if one is read so
  reads_all : (level : ℕ) → ((locals : Locals) (end : ℕ) (bytes : List ℕ) → Judge (Stated level locals bytes) (FailsStatement g m level locals end bytes) (statement_at g m level locals end bytes))
      → ((locals : Locals) (end : ℕ) (bytes : List ℕ) (f : BodyFault) → FailsStatement g m level locals end bytes f → statement_at g m level locals end bytes ≡ Err f) → ReadsAll m g level
  reads_all level judged stops = record {
    judged = λ locals end bytes. among_judged level end (FailsStatement g m level) (λ locals. statement_at g m level locals end) (λ locals bytes. judged locals end bytes) (length bytes) locals bytes (omega arith);
    stops = λ locals end bytes f h.
        ap (λ (l : List ℕ). statements_at g m level locals end l) h.4
        ∙ among_stops level end (FailsStatement g m level) (λ locals bytes f k. stops locals end bytes f k) h.0 locals h.1 h.2 f h.3 h.5 h.6 h.7 (length (h.1 ++ h.2)) (omega arith);
  }

  pub exact_statements : (level : ℕ) → ReadsAll m g level
  exact_statements zero = reads_all 0 none_judged none_stops
  exact_statements (suc level) = reads_all (suc level) (statement_judged level (exact_statements level)) (statement_stops level (exact_statements level))
