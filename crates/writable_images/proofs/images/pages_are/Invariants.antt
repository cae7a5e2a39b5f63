use Rattle.std.proofs.Common.{◌≡◌, length, map, take}
use Rattle.link_model.specs.Records.{page_count}
use Rattle.writable_images.proofs.images.pages_are.Given as goal

abbrev pub invariant-loop-place : goal.invariant-loop-place
invariant-loop-place l = map length (take l.place l.fixes) ≡ map (λ o. page_count o.size) (take l.place l.objects)
