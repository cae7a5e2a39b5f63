-- One run more is put.
use Rattle.std.proofs.Common.{◌≤◌, ◌<◌, ◌+◌, ◌-◌, ◌/◌, length, ◌∙◌, arith}
use Rattle.std.specs.Prelude.{slice_range}
use Rattle.write_overlay.specs.Layered.{byte_laid}
use Rattle.write_overlay.proofs.Overlays.{cut}
use Rattle.write_overlay.proofs.Layering.{put_in_on}
use Rattle.write_overlay.proofs.layers.Layers.put_made.Goals as goal

pub loop-done-preserved : goal.loop-done-preserved
loop-done-preserved c =
    let inv = c.loop-done.invariant in
    let below : c.loop-done.done < length c.args.bytes.now = c.loop-done-test.true in
    let short : c.min-len.result ≤ length c.args.bytes.now - c.loop-done.done = omega (arith, c.min-len.ensures) in
    let parts = cut c.args.bytes.now c.loop-done.done c.min-len.result short below in (
      omega (arith, short, below),
      λ x from to. c.put_run.ensures.stay c.args.object (x / 4096) (inv.1 x from to),
      λ q x.
          c.put_run.ensures.laid q x
          ∙ put_in_on c.args.object c.args.bytes.now (slice_range c.args.bytes.now c.loop-done.done (c.loop-done.done + c.min-len.result)) c.args.offset c.loop-done.done c.min-len.result q x
          (byte_laid c.loop-done.self q x) (byte_laid c.args.self.now q x) parts.0 parts.1 (inv.2 q x),
    )
