use Rattle.std.proofs.Common.{◌∙◌, refl, sym, ap, arith}
use Rattle.lx_model.specs.ModuleBytes.{fixed_page}
use Rattle.page_frames.specs.Frames.{frame_bytes}
use Rattle.page_frames.specs.declared.frame.FrameOf.{FrameOf}
use Rattle.page_frames.proofs.frame.Frame.put.Goals as goal

pub put-requires : goal.put-requires
put-requires c = (
  (c.turn-found.ensures.0 c.if-found-eq-FREE.true).0 refl,
  omega arith,
  refl,
  c.requires ∙ ap frame_bytes (sym c.self.view_is)
      ∙ ap (λ (of : FrameOf). fixed_page of.library.value of.«module» of.bases.value of.page) (sym c.turn-found.ensures.2),
)
