use Rattle.std.proofs.Common.{◌<◌, ◌≤◌, arith}
use Rattle.lx_model.specs.Header.{object_count}
use Rattle.lx_model.specs.Tables.{object_entry, object_place, object_fault, objects_of, objects_fault}
use Rattle.lx_read.proofs.TableLoop.{entry_wrong, entry_read, table_read, objects_are, objects_judged}
use Rattle.lx_read.proofs.objects.read_objects.Goals as goal

pub returns-in_err-said : goal.returns-in_err-said
returns-in_err-said c =
    let file = c.args.file.now in
    let count = c.requires.objects in
    let test = c.loop-k-test.true in
    let lt : c.loop-k.k < object_count file = omega arith in
    entry_wrong (object_fault file) (λ k. object_entry file (object_place file k)) (object_count file) c.loop-k.k c.loop-k.objects c.read_object.result c.in_err-said.field-0.0 c.from_residual.result (objects_of file) (objects_fault file) (objects_judged file) lt c.read_object.ensures c.in_err-said.ensures c.from_residual.ensures.1 c.loop-k.invariant

pub loop-k-preserved : goal.loop-k-preserved
loop-k-preserved c =
    let file = c.args.file.now in
    let count = c.requires.objects in
    let test = c.loop-k-test.true in
    let lt : c.loop-k.k < object_count file = omega arith in
    entry_read (object_fault file) (λ k. object_entry file (object_place file k)) (object_count file) c.loop-k.k c.loop-k.objects c.push.new.self c.read_object.result c.in_ok-said.field-0 lt c.read_object.ensures c.in_ok-said.ensures c.in_ok-push.ensures c.loop-k.invariant

pub returns : goal.returns
returns c =
    let file = c.args.file.now in
    let count = c.requires.objects in
    let test = c.loop-k-test.false in
    let ended : object_count file ≤ c.loop-k.k = omega arith in
    table_read (object_fault file) (λ k. object_entry file (object_place file k)) (object_count file) c.loop-k.k c.loop-k.objects (objects_of file) (objects_fault file) (objects_judged file) (objects_are file) ended c.loop-k.invariant
