use Rattle.std.proofs.Common.{take}
use Rattle.std.specs.Prelude.{All}
use Rattle.writable_images.specs.Named.{PageFits}
use Rattle.writable_images.proofs.images.fixes_fit.Given as goal

abbrev pub invariant-loop-pages : goal.invariant-loop-pages
invariant-loop-pages l = All (All (PageFits l.named)) (take l.pages-index l.objects)
