use Rattle.std.proofs.Common.{◌≡◌, map}
use Rattle.std.specs.List.{range_with_len}
use Rattle.page_frames.proofs.rows.PlacedModule.row.Given as goal

-- the frames of the pages so far
abbrev pub invariant-loop-page : goal.invariant-loop-page
invariant-loop-page l =
    l.frames.items ≡ map (λ n. record { library = l.self.library.now; «module» = l.self.«module»; bases = l.self.bases.now; page = record { object = l.object; page = n } }) (range_with_len 0 l.page)
