-- Lists of terms and of operands, element by element.
use Rattle.std.proofs.Common.{◌≡◌, Bool, ◌&&◌, List, [], ◌∷◌, refl, ap}
use Rattle.std.specs.List.{list_all}
use Rattle.std.specs.Cmp.Lexicographic.{pointwise}
use Rattle.acpi_tree.specs.steps.TermEquality.{term_eq, terms_eq}
use Rattle.acpi_tree.specs.declared.place.Place.{Place}
use Rattle.acpi_tree.specs.declared.place.OperandKind.{OperandKind}
use Rattle.acpi_tree.specs.declared.term.Operand.{Operand}
use Rattle.acpi_tree.specs.declared.term.Term.{Term}
use Rattle.acpi_tree.specs.Terms.{terms_of}
use Rattle.acpi_tree.specs.TermView.{term_view, terms_view, operand_view, operands_view}
use Rattle.acpi_tree.specs.Places.{may_stand, may_be}
use Rattle.acpi_tree.specs.TermFits.{term_fits, all_stand, operands_fit}
use Rattle.acpi_tree.proofs.Alike.{paired}

abbrev pub stands : Place → Term → Bool
stands place t = may_stand place (term_view t) && term_fits (term_view t)

pub all_stand_alike : (place : Place) (ts : List Term) → all_stand place (terms_of (terms_view ts)) ≡ list_all (stands place) ts
all_stand_alike place [] = refl
all_stand_alike place (t ∷ ts) = ap (λ b. stands place t && b) (all_stand_alike place ts)

abbrev pub is_operand : OperandKind → Operand → Bool
is_operand k o = may_be k (operand_view o) && term_fits (operand_view o)

pub operands_alike : (ks : List OperandKind) (os : List Operand) → operands_fit ks (terms_of (operands_view os)) ≡ paired is_operand ks os
operands_alike [] [] = refl
operands_alike [] (o ∷ os) = refl
operands_alike (k ∷ ks) [] = refl
operands_alike (k ∷ ks) (o ∷ os) = ap (λ b. is_operand k o && b) (operands_alike ks os)

pub terms_alike : (ts us : List Term) → terms_eq (terms_of (terms_view ts)) (terms_of (terms_view us)) ≡ pointwise (λ t u. term_eq (term_view t) (term_view u)) ts us
terms_alike [] [] = refl
terms_alike [] (u ∷ us) = refl
terms_alike (t ∷ ts) [] = refl
terms_alike (t ∷ ts) (u ∷ us) = ap (λ b. term_eq (term_view t) (term_view u) && b) (terms_alike ts us)

pub same_operands_alike : (os ps : List Operand) → terms_eq (terms_of (operands_view os)) (terms_of (operands_view ps)) ≡ pointwise (λ o p. term_eq (operand_view o) (operand_view p)) os ps
same_operands_alike [] [] = refl
same_operands_alike [] (p ∷ ps) = refl
same_operands_alike (o ∷ os) [] = refl
same_operands_alike (o ∷ os) (p ∷ ps) = ap (λ b. term_eq (operand_view o) (operand_view p) && b) (same_operands_alike os ps)
