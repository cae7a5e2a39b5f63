use Rattle.std.proofs.Common.{◌≡◌, ℕ, ◌<◌, ◌-◌, true, length, drop, slice_index, ◌∙◌, arith, length-drop}
use Rattle.std.specs.Prelude.{◌==◌}
use Rattle.std.proofs.lemmas.List.{take_all}
use Rattle.command_line.proofs.Parts.{later_last}
use Rattle.command_line.proofs.stem.last_part.Goals as goal
use Rattle.command_line.proofs.stem.last_part.Goals.{then-loop-start-test+else-path-start-ne47, else-loop-start-test}

pub returns : goal.returns
returns c =
    let path = c.args.path.now in
    let start = c.loop-start.start in
    let size = length-drop start path in
    let stops : 0 < start → (slice_index path (start - 1) == 47) ≡ true = elim c.loop-start-test.branch [
      | then-loop-start-test+else-path-start-ne47 w ↦ λ some. let h = w.if-path-start-ne47 in grind (arith, h.false)
      | else-loop-start-test w ↦ λ some. absurd (omega (arith, some, w.loop-start-test.false))
    ] in
    take_all _ (drop start path) (omega (arith, size)) ∙ later_last 47 start path c.loop-start.invariant.within c.loop-start.invariant.none stops
