use Rattle.std.proofs.Common.{◌≡◌, ◌++◌, drop}
use Rattle.image_model.specs.ObjectTable.{object_heads_from}
use Rattle.lx_write.proofs.objects.object_heads.Given as goal

abbrev pub invariant-loop-object : goal.invariant-loop-object
invariant-loop-object l = l.heads.items ++ object_heads_from l.first (drop l.object-index l.objects) ≡ object_heads_from 1 l.objects
