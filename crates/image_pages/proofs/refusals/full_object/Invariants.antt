use Rattle.std.proofs.Common.{◌≡◌, map}
use Rattle.image_model.specs.LinkLaws.{laid}
use Rattle.image_pages.specs.Memory.{full_from}
use Rattle.image_pages.proofs.Full.{full_at}
use Rattle.image_pages.proofs.refusals.full_object.Given as goal

abbrev pub invariant-loop-index : goal.invariant-loop-index
invariant-loop-index l = full_at l.objects l.index ≡ full_from 1 (map laid l.objects)
