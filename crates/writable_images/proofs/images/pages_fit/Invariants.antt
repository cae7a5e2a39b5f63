use Rattle.std.proofs.Common.{take}
use Rattle.std.specs.Prelude.{All}
use Rattle.writable_images.specs.Named.{PageFits}
use Rattle.writable_images.proofs.images.pages_fit.Given as goal

abbrev pub invariant-loop-page : goal.invariant-loop-page
invariant-loop-page l = All (PageFits l.named) (take l.page-index l.pages)
