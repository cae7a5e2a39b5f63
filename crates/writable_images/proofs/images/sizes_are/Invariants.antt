use Rattle.std.proofs.Common.{◌≡◌, length, map, take}
use Rattle.writable_images.proofs.images.sizes_are.Given as goal

abbrev pub invariant-loop-place : goal.invariant-loop-place
invariant-loop-place l = map length (take l.place l.bytes) ≡ map (λ o. o.size) (take l.place l.objects)
