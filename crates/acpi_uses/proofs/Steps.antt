-- Uses of lists of terms, element by element.
use Rattle.std.proofs.Common.{◌≡◌, ◌≢◌, ◌<◌, ◌+◌, ◌++◌, ℕ, zero, suc, List, [], ◌∷◌, length, drop, get_or, refl, sym, arith}
use Rattle.std.proofs.lemmas.List.{drop_more}
use Rattle.acpi_tree.specs.declared.place.OperandKind.{OperandKind}
use Rattle.acpi_tree.specs.declared.op.Op.{Op}
use Rattle.acpi_tree.specs.declared.term.Operand.{Operand}
use Rattle.acpi_tree.specs.declared.term.Term.{Term}
use Rattle.acpi_tree.specs.TermView.{terms_tree, operand_view, operands_view}
use Rattle.acpi_tree.specs.Terms.{no_terms, terms_of}
use Rattle.acpi_uses.specs.declared.role.Role.{Role}
use Rattle.acpi_uses.specs.Roles.{call_role, values_role}
use Rattle.acpi_uses.specs.Uses.{operand_role, uses_in, uses_in_operands}

pub called_with_none : (ts : List Term) (role : Role) → length ts ≡ 0 → call_role (terms_tree ts) role ≡ call_role no_terms role
called_with_none [] role none = refl
called_with_none (t ∷ ts) role none = absurd cc

pub called_with_some : (ts : List Term) (role : Role) → length ts ≢ 0 → call_role (terms_tree ts) role ≡ values_role role
called_with_some [] role some = absurd (some refl)
called_with_some (t ∷ ts) role some = refl

drop_suc : (i : ℕ) (ks : List OperandKind) → drop (suc i) ks ≡ drop 1 (drop i ks)
drop_suc zero ks = refl
drop_suc (suc i) [] = refl
drop_suc (suc i) (k ∷ ks) = drop_suc i ks

pub drop_next : (i : ℕ) (ks : List OperandKind) → drop (i + 1) ks ≡ drop 1 (drop i ks)
drop_next i ks =
    let e : i + 1 ≡ suc i = omega arith in
    rw e (drop_suc i ks)

pub operands_step : (op : Op) (ks : List OperandKind) (os : List Operand) (i : ℕ) (o : Operand) → i < length os → o ≡ get_or os i o
    → uses_in_operands op (drop i ks) (terms_of (operands_view (drop i os)))
    ≡ uses_in (operand_role op (drop i ks)) (operand_view o) ++ uses_in_operands op (drop (i + 1) ks) (terms_of (operands_view (drop (i + 1) os)))
operands_step op ks os i o lt at = rw (drop_next i ks, drop_more os i o lt, sym at) refl
