use Rattle.std.proofs.Common.{◌∙◌, ap}
use Rattle.page_frames.specs.Frames.{frame_bytes}
use Rattle.page_frames.proofs.frames.Frames.hold.Goals as goal

pub returns-in-Held : goal.returns-in-Held
returns-in-Held g c = c.in-Held.ensures ∙ ap frame_bytes c.frame-frame.ensures

pub returns-in-Some : goal.returns-in-Some
returns-in-Some g c = c.in-Some.ensures ∙ ap frame_bytes c.frame-frame.ensures
