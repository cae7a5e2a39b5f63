use Rattle.std.proofs.Common.{◌≡◌, take}
use Rattle.comdat_core.proofs.copies.copied_exts.Given as goal

abbrev pub invariant-loop-ext : goal.invariant-loop-ext
invariant-loop-ext l = l.copies ≡ take l.ext-index l.exts
