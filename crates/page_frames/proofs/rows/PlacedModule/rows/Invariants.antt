use Rattle.std.proofs.Common.{◌≡◌, map}
use Rattle.std.specs.List.{range_with_len}
use Rattle.page_frames.specs.Frames.{frame_row}
use Rattle.page_frames.proofs.rows.PlacedModule.rows.Given as goal

-- the rows of the objects so far
abbrev pub invariant-loop-before : goal.invariant-loop-before
invariant-loop-before l = l.rows.items ≡ map (frame_row l.self.library.now l.self.«module» l.self.bases.now) (range_with_len 1 l.before)
