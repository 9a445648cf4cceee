-- Bodies by path, one after another.
use Rattle.std.proofs.Common.{◌≡◌, ℕ, List, [], ◌∷◌, ◌++◌, map, sym, ap, subst, ◌∙◌}
use Rattle.std.specs.FinMap.{FinMap, get, insert}
use Rattle.acpi_name.specs.Paths.{path_cmp}
use Rattle.acpi_space.specs.Lookups.{Lookup, singleton, union}
use Rattle.acpi_declare.specs.Namespace.{Namespace}
use Rattle.acpi_declare.specs.Notes as notes
use Rattle.acpi_pass.proofs.ValuesByPath.{get_inserted}
use Rattle.acpi_pass.proofs.Unions.{union_assoc}
use Rattle.acpi_body.specs.Arguments.{body_grammar}
use Rattle.acpi_body.specs.Bodies.{BodyTree, IsBodyOf}
use Rattle.acpi_order.specs.Bodies.{Method, with_counts, AreBodies, bodies_at}
use Rattle.acpi_machine.specs.steps.Adding.{AddsBodies}

-- one method, and others behind it
pub adds_one : (depth : ℕ) (objects : Namespace) (counts : Lookup ℕ) (m : notes.Method) (ms : List notes.Method) (bytes : List ℕ) (b : BodyTree)
    (older newer : FinMap path_cmp BodyTree) (now : Lookup BodyTree)
    → bytes ≡ m.code → IsBodyOf (body_grammar objects counts m.path) m.path depth bytes b → newer ≡ insert older m.path b
    → AddsBodies depth objects (map (with_counts counts) ms) (get newer) now → AddsBodies depth objects (map (with_counts counts) (m ∷ ms)) (get older) now
adds_one depth objects counts m ms bytes b older newer now same body put h = (
  b,
  subst (λ (code : List ℕ). IsBodyOf (body_grammar objects counts m.path) m.path depth code b) same body,
  subst (λ (l : Lookup BodyTree). AddsBodies depth objects (map (with_counts counts) ms) l now) (ap get put ∙ get_inserted older m.path b) h,
)

-- some methods, and others behind them
pub adds_both : (depth : ℕ) (objects : Namespace) (ms ns : List Method) (first second third : Lookup BodyTree)
    → AddsBodies depth objects ms first second → AddsBodies depth objects ns second third → AddsBodies depth objects (ms ++ ns) first third
adds_both depth objects [] ns first second third h k = subst (λ (l : Lookup BodyTree). AddsBodies depth objects ns l third) h k
adds_both depth objects (m ∷ ms) ns first second third h k = (h.0, h.1, adds_both depth objects ms ns (union (singleton m.path h.0) first) second third h.2 k)

-- what was added is the body of each method
pub record Added (depth : ℕ) (objects : Namespace) (ms : List Method) (before now : Lookup BodyTree) : Type 0 where
  pub trees : List BodyTree
  pub read : AreBodies depth objects ms trees
  pub now_is : now ≡ union (bodies_at ms trees) before

pub added : (depth : ℕ) (objects : Namespace) (ms : List Method) (before now : Lookup BodyTree) → AddsBodies depth objects ms before now → Added depth objects ms before now
added depth objects [] before now h = record { trees = []; read = tt; now_is = h }
added depth objects (m ∷ ms) before now h =
    let later : Added depth objects ms (union (singleton m.path h.0) before) now = added depth objects ms (union (singleton m.path h.0) before) now h.2 in
    record {
      trees = h.0 ∷ later.trees;
      read = (h.1, later.read);
      now_is = later.now_is ∙ sym (union_assoc (bodies_at ms later.trees) (singleton m.path h.0) before);
    }
