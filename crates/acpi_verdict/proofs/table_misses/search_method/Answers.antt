use Rattle.std.proofs.Common.{◌≡◌, subst, rules, ℕ, List}
use Rattle.std.specs.FinMap.{get}
use Rattle.std.proofs.lemmas.Result.{on_ok_weaker}
use Rattle.acpi_declare.specs.Namespace.{namespace_of}
use Rattle.acpi_declare.specs.Notes.{method_of}
use Rattle.acpi_space.specs.Spaces.{is_defined}
use Rattle.acpi_body.specs.Arguments.{body_grammar}
use Rattle.acpi_body.specs.Bodies.{body_view, IsBodyOf}
use Rattle.acpi_order.specs.Bodies.{with_counts}
use Rattle.acpi_verdict.proofs.TableMisses.{adds_method}
use Rattle.acpi_verdict.proofs.table_misses.search_method.Goals as goal

pub returns : goal.returns
returns g c =
    let objects = namespace_of (g.O.Space.contents c.args.objects.now) in
    let m = c.args.method.now in
    let counts = get c.args.counts.now in
    let b = body_view c.in_ok-body.body in
    let code : c.deref.result.now ≡ m.code = search rules in
    let body = subst (λ (bytes : List ℕ). IsBodyOf (body_grammar objects counts m.path) m.path c.args.depth bytes b) code c.in_ok-body.ensures.body in
    on_ok_weaker c.add.result
    (adds_method (is_defined (g.T.Space.contents c.args.among.now)) c.args.depth objects (with_counts counts (method_of m)) b body c.in_ok-missed.missed c.args.misses.now c.add.new.self
    c.in_ok-missed.ensures.firm c.in_ok-missed.ensures.«open»)
    c.add.ensures
