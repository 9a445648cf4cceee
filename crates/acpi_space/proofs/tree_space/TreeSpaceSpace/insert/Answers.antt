use Rattle.std.proofs.Common.{refl}
use Rattle.acpi_space.proofs.Insertion.{absent, unchanged, was_free, is_inserted, is_tree, is_unchanged, is_refused}
use Rattle.acpi_space.proofs.Trails.{put_trail}
use Rattle.acpi_space.proofs.tree_space.TreeSpaceSpace.insert.Goals as goal

pub returns-in-Err-clause-refused : goal.returns-in-Err-clause-refused
returns-in-Err-clause-refused g c = (
  absent c.self.inside.nodes.items c.reach.new.nodes.items c.args.self.now c.args.path c.segs.result.now c.self.invariant.0 c.self.view_is
      c.segs.ensures.all c.in-Err.ensures.grown c.in-Err.ensures.absent,
  refl,
)

pub returns-in-Err-clause-err : goal.returns-in-Err-clause-err
returns-in-Err-clause-err g c = unchanged c.self.inside.nodes.items c.reach.new.nodes.items c.args.self.now c.args.path c.segs.result.now c.self.invariant.0 c.self.view_is c.segs.ensures.all
    c.in-Err.ensures.grown

pub invariant_of-self-2 : goal.invariant_of-self-2
invariant_of-self-2 g c = (
  is_tree c.self.inside.nodes.items c.reach.new.nodes.items c.args.self.now c.args.path c.segs.result.now c.self.invariant.0 c.self.view_is c.segs.ensures.all c.in-Ok.ensures.grown
      c.in-Ok.number c.in-Ok.ensures.reached
      c.put.new.nodes.items c.args.value c.put.result c.put.ensures.ok c.put.ensures.err,
  put_trail c.reach.new.nodes.items c.put.new.nodes.items c.in-Ok.number c.args.value c.reach.new.trail.items c.put.result c.put.ensures.ok c.put.ensures.err c.in-Ok.ensures.trail,
)

pub returns-clause-free : goal.returns-clause-free
returns-clause-free g c =
    was_free c.self.inside.nodes.items c.reach.new.nodes.items c.args.self.now c.args.path c.segs.result.now c.self.invariant.0 c.self.view_is c.segs.ensures.all c.in-Ok.ensures.grown
    c.in-Ok.number c.in-Ok.ensures.reached
    c.put.result c.put.ensures.free

pub returns-clause-ok : goal.returns-clause-ok
returns-clause-ok g c =
    is_inserted c.self.inside.nodes.items c.reach.new.nodes.items c.args.self.now c.args.path c.segs.result.now c.self.invariant.0 c.self.view_is c.segs.ensures.all c.in-Ok.ensures.grown
    c.in-Ok.number c.in-Ok.ensures.reached
    c.put.new.nodes.items c.args.value c.put.result c.put.ensures.ok

pub returns-clause-refused : goal.returns-clause-refused
returns-clause-refused g c =
    is_refused c.self.inside.nodes.items c.reach.new.nodes.items c.args.self.now c.args.path c.segs.result.now c.self.invariant.0 c.self.view_is c.segs.ensures.all c.in-Ok.ensures.grown
    c.in-Ok.number c.in-Ok.ensures.reached
    c.put.new.nodes.items c.args.value c.put.result c.put.ensures.taken

pub returns-clause-err : goal.returns-clause-err
returns-clause-err g c =
    is_unchanged c.self.inside.nodes.items c.reach.new.nodes.items c.args.self.now c.args.path c.segs.result.now c.self.invariant.0 c.self.view_is c.segs.ensures.all c.in-Ok.ensures.grown
    c.in-Ok.number c.in-Ok.ensures.reached
    c.put.new.nodes.items c.args.value c.put.result c.put.ensures.err
