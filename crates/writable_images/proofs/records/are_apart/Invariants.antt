use Rattle.std.proofs.Common.{◌≡◌, length, take}
use Rattle.std.specs.Prelude.{AllPairs}
use Rattle.lx_fixrec.specs.Writable.{AreApart}
use Rattle.writable_images.proofs.SourcesApart.{Marks}
use Rattle.writable_images.proofs.records.are_apart.Given as goal

abbrev pub invariant-loop-fix : goal.invariant-loop-fix
invariant-loop-fix l = record {
  room : length l.taken ≡ 4106;
  marks : Marks l.taken (take l.fix-index l.fixes);
  apart : AllPairs AreApart (take l.fix-index l.fixes);
}
