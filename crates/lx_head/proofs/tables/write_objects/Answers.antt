use Rattle.lx_model.specs.TableSpelling.{object_spelling}
use Rattle.lx_head.proofs.Written.{more}
use Rattle.lx_head.proofs.tables.write_objects.Goals as goal

pub loop-head-preserved : goal.loop-head-preserved
loop-head-preserved c = more object_spelling c.args.heads.now c.loop-head.head-index _ c.loop-head.out.items c.object_bytes.result c.extend_from_slice.new.self.items c.loop-head-test.true c.loop-head.invariant c.object_bytes.ensures c.in_ok-extend_from_slice.ensures.items
