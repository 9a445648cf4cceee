-- The tree that a term stands for.
use Rattle.std.specs.Prelude.{List, [], ◌∷◌, map, box_value, Option, Some, None}
use Rattle.std.specs.Global.{Vec}
use Rattle.acpi_tree.specs.Terms.{TermTree, TermTrees, int, str, buffer, pkg, var_pkg, local, arg, debug, no_target, raw, ref, call, apply, ElseTree, if_do, no_else, else_do, while_do, declare, declare_units, no_terms, more, terms_of}
use Rattle.acpi_tree.specs.View.{fields_view}
use Rattle.acpi_tree.specs.declared.place.NamedForm.TheVariants as named
use Rattle.acpi_tree.specs.declared.place.UnitsForm.TheVariants as units
use Rattle.acpi_tree.specs.declared.term.Operand.{Operand, Operand-F, fold-Operand}
use Rattle.acpi_tree.specs.declared.term.Term.{Term, Term-F, fold-Term}
use Rattle.acpi_tree.specs.declared.term.Decl.{Decl, Decl-F, fold-Decl}

abbrev pub operand_step : Operand-F TermTree TermTree TermTree → TermTree
operand_step (Operand-F.Term t) = t
operand_step (Operand-F.Byte n) = raw 1 n
operand_step (Operand-F.Word n) = raw 2 n
operand_step (Operand-F.DWord n) = raw 4 n

abbrev pub else_of : Option (Vec TermTree) → ElseTree
else_of None = no_else
else_of (Some v) = else_do (terms_of v.items)

abbrev pub term_step : Term-F TermTree TermTree TermTree → TermTree
term_step (Term-F.Int i) = int i
term_step (Term-F.Str v) = str v.items
term_step (Term-F.Buffer b v) = buffer (box_value b) v.items
term_step (Term-F.Package n v) = pkg n (terms_of v.items)
term_step (Term-F.VarPackage b v) = var_pkg (box_value b) (terms_of v.items)
term_step (Term-F.Local n) = local n
term_step (Term-F.Arg n) = arg n
term_step Term-F.Debug = debug
term_step Term-F.NoTarget = no_target
term_step (Term-F.Ref n) = ref n
term_step (Term-F.Call n v) = call n (terms_of v.items)
term_step (Term-F.Op op v) = apply op (terms_of v.items)
term_step (Term-F.If b v o) = if_do (box_value b) (terms_of v.items) (else_of o)
term_step (Term-F.While b v) = while_do (box_value b) (terms_of v.items)
term_step (Term-F.Declare b) = box_value b

abbrev pub decl_step : Decl-F TermTree TermTree TermTree → TermTree
decl_step (Decl-F.Name n b) = declare named.Name no_terms n (more (box_value b) no_terms)
decl_step (Decl-F.Create w s i n) =
    declare (named.Create w) (more (box_value s) (more (box_value i) no_terms)) n no_terms
decl_step (Decl-F.CreateField s i b n) = declare named.CreateField
    (more (box_value s) (more (box_value i) (more (box_value b) no_terms))) n no_terms
decl_step (Decl-F.Mutex n f) = declare named.Mutex no_terms n (more (raw 1 f) no_terms)
decl_step (Decl-F.Event n) = declare named.Event no_terms n no_terms
decl_step (Decl-F.Region n s o l) = declare named.Region no_terms n
    (more (raw 1 s) (more (box_value o) (more (box_value l) no_terms)))
decl_step (Decl-F.Field r f v) =
    declare_units units.Field (r ∷ []) (more (raw 1 f) no_terms) (fields_view v.items)
decl_step (Decl-F.IndexField i d f v) =
    declare_units units.IndexField (i ∷ d ∷ []) (more (raw 1 f) no_terms) (fields_view v.items)
decl_step (Decl-F.BankField r b i f v) = declare_units units.BankField (r ∷ b ∷ [])
    (more (box_value i) (more (raw 1 f) no_terms)) (fields_view v.items)

abbrev pub operand_view : Operand → TermTree
operand_view = fold-Operand TermTree TermTree TermTree decl_step operand_step term_step

abbrev pub term_view : Term → TermTree
term_view = fold-Term TermTree TermTree TermTree decl_step operand_step term_step

abbrev pub decl_view : Decl → TermTree
decl_view = fold-Decl TermTree TermTree TermTree decl_step operand_step term_step

abbrev pub terms_view : List Term → List TermTree
terms_view ts = map term_view ts

abbrev pub operands_view : List Operand → List TermTree
operands_view ts = map operand_view ts

abbrev pub terms_tree : List Term → TermTrees
terms_tree ts = terms_of (terms_view ts)

abbrev pub else_view : Option (Vec Term) → ElseTree
else_view None = no_else
else_view (Some v) = else_do (terms_tree v.items)
