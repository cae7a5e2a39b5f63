use Rattle.lx_model.specs.Header.{object_count}
use Rattle.lx_model.specs.Tables.{object_entry, object_place, object_fault}
use Rattle.lx_read.proofs.TableLoop.{Kept}
use Rattle.lx_read.proofs.objects.read_objects.Given as goal

-- the objects so far and those that are left are all
abbrev pub invariant-loop-k : goal.invariant-loop-k
invariant-loop-k l = Kept (object_fault l.file) (λ k. object_entry l.file (object_place l.file k)) (object_count l.file) l.k l.objects
