use Rattle.std.proofs.Common.{◌∙◌, sym, ap}
use Rattle.page_frames.specs.Frames.{frame_bytes}
use Rattle.page_frames.proofs.frames.Frames.publish.Goals as goal

pub put-requires : goal.put-requires
put-requires g c = c.requires.buffer ∙ c.requires.bytes ∙ ap frame_bytes (sym c.frame.ensures)
