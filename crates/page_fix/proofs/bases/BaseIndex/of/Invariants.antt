use Rattle.std.proofs.Common.{◌≡◌, length, take}
use Rattle.page_fix.specs.Found.{AreFound}
use Rattle.page_fix.proofs.bases.BaseIndex.of.Given as goal

-- those of the bases so far
abbrev pub invariant-loop-place : goal.invariant-loop-place
invariant-loop-place l = (length l.places ≡ 64) × AreFound (take l.place l.mods) l.places
