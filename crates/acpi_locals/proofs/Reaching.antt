-- What counts as declared where the reading of a body comes to each of its lines.
use Rattle.std.proofs.Common.{◌≡◌, ◌+◌, ℕ, List, [], ◌∷◌, ◌++◌, map, refl, ap}
use Rattle.acpi_tree.specs.Terms.{TermTree, TermTrees, ElseTree, int, str, buffer, pkg, var_pkg, local, arg, debug, no_target, raw, ref, call, apply, if_do, while_do, declare, declare_units, no_terms, more, no_else, else_do}
use Rattle.acpi_body.specs.Arguments.{Locals}
use Rattle.acpi_body.specs.Statements.{locals_after, locals_after_else, locals_after_all}
use Rattle.acpi_conditions.specs.Entries.{Path}
use Rattle.acpi_uses.specs.Statements.{statements_in, statements_in_else, statements_of}
use Rattle.acpi_locals.specs.Lines.{LineParts, declared_behind, lines_from}
use Rattle.acpi_locals.specs.Laws.{Reached, reached_in, reached_in_else, reached}

-- statements one after another, each behind what those before it declare
abbrev each_behind : Path → Locals → List TermTree → List Reached
each_behind s locals [] = []
each_behind s locals (t ∷ ts) = (locals, t) ∷ each_behind s (declared_behind s locals t) ts

abbrev all_behind : Path → Locals → List TermTree → Locals
all_behind s locals [] = locals
all_behind s locals (t ∷ ts) = all_behind s (declared_behind s locals t) ts

behind_both : (s : Path) (locals : Locals) (ts us : List TermTree) → all_behind s locals (ts ++ us) ≡ all_behind s (all_behind s locals ts) us
behind_both s locals [] us = refl
behind_both s locals (t ∷ ts) us = behind_both s (declared_behind s locals t) ts us

each_both : (s : Path) (locals : Locals) (ts us : List TermTree)
    → each_behind s locals (ts ++ us) ≡ each_behind s locals ts ++ each_behind s (all_behind s locals ts) us
each_both s locals [] us = refl
each_both s locals (t ∷ ts) us = ap (λ ps. (locals, t) ∷ ps) (each_both s (declared_behind s locals t) ts us)

mutual
  after_in : (s : Path) (locals : Locals) (t : TermTree) → all_behind s locals (statements_in t) ≡ locals_after s locals t
  after_in s locals (if_do v ts e) =
      rw (behind_both s locals (statements_of ts) (statements_in_else e), after_of s locals ts) (after_in_else s (locals_after_all s locals ts) e)
  after_in s locals (while_do v ts) = after_of s locals ts
  after_in s locals (declare form before n behind) = refl
  after_in s locals (declare_units form ns vs es) = refl
  after_in s locals (ref n) = refl
  after_in s locals (call n vs) = refl
  after_in s locals (apply op vs) = refl
  after_in s locals (buffer size content) = refl
  after_in s locals (pkg count es) = refl
  after_in s locals (var_pkg count es) = refl
  after_in s locals (int i) = refl
  after_in s locals (str text) = refl
  after_in s locals (local n) = refl
  after_in s locals (arg n) = refl
  after_in s locals debug = refl
  after_in s locals no_target = refl
  after_in s locals (raw k n) = refl

  after_in_else : (s : Path) (locals : Locals) (e : ElseTree) → all_behind s locals (statements_in_else e) ≡ locals_after_else s locals e
  after_in_else s locals no_else = refl
  after_in_else s locals (else_do ts) = after_of s locals ts

  after_of : (s : Path) (locals : Locals) (ts : TermTrees) → all_behind s locals (statements_of ts) ≡ locals_after_all s locals ts
  after_of s locals no_terms = refl
  after_of s locals (more t ts) = rw (behind_both s locals (statements_in t) (statements_of ts), after_in s locals t) (after_of s (locals_after s locals t) ts)

mutual
  reached_term : (s : Path) (locals : Locals) (t : TermTree) → each_behind s locals (statements_in t) ≡ reached_in s locals t
  reached_term s locals (if_do v ts e) =
      rw (each_both s locals (statements_of ts) (statements_in_else e), after_of s locals ts, reached_of s locals ts, reached_else s (locals_after_all s locals ts) e) refl
  reached_term s locals (while_do v ts) = ap (λ ps. (locals, while_do v ts) ∷ ps) (reached_of s locals ts)
  reached_term s locals (declare form before n behind) = refl
  reached_term s locals (declare_units form ns vs es) = refl
  reached_term s locals (ref n) = refl
  reached_term s locals (call n vs) = refl
  reached_term s locals (apply op vs) = refl
  reached_term s locals (buffer size content) = refl
  reached_term s locals (pkg count es) = refl
  reached_term s locals (var_pkg count es) = refl
  reached_term s locals (int i) = refl
  reached_term s locals (str text) = refl
  reached_term s locals (local n) = refl
  reached_term s locals (arg n) = refl
  reached_term s locals debug = refl
  reached_term s locals no_target = refl
  reached_term s locals (raw k n) = refl

  reached_else : (s : Path) (locals : Locals) (e : ElseTree) → each_behind s locals (statements_in_else e) ≡ reached_in_else s locals e
  reached_else s locals no_else = refl
  reached_else s locals (else_do ts) = reached_of s locals ts

  reached_of : (s : Path) (locals : Locals) (ts : TermTrees) → each_behind s locals (statements_of ts) ≡ reached s locals ts
  reached_of s locals no_terms = refl
  reached_of s locals (more t ts) =
      rw (each_both s locals (statements_in t) (statements_of ts), after_in s locals t, reached_term s locals t, reached_of s (locals_after s locals t) ts) refl

of_lines : (line : ℕ) (s : Path) (locals : Locals) (ts : List TermTree)
    → map (λ (l : LineParts). (l.before, l.statement)) (lines_from line s locals ts) ≡ each_behind s locals ts
of_lines line s locals [] = refl
of_lines line s locals (t ∷ ts) = ap (λ ps. (locals, t) ∷ ps) (of_lines (line + 1) s (declared_behind s locals t) ts)

pub lines_are_reached : (line : ℕ) (s : Path) (locals : Locals) (ts : TermTrees)
    → map (λ (l : LineParts). (l.before, l.statement)) (lines_from line s locals (statements_of ts)) ≡ reached s locals ts
lines_are_reached line s locals ts = rw (of_lines line s locals (statements_of ts)) (reached_of s locals ts)
