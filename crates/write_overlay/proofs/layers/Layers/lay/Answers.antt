-- What is laid over the bytes is what the writes put there.
use Rattle.write_overlay.proofs.Layering.{laid_is}
use Rattle.write_overlay.proofs.layers.Layers.lay.Goals as goal

pub returns : goal.returns
returns c = λ writes lays.
    laid_is c.args.self.now writes c.args.object c.args.offset c.args.into.now c.lay_over.new.into lays c.lay_over.ensures.length c.lay_over.ensures.bytes
