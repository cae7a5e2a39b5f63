use Rattle.std.proofs.Common.{◌≡◌, ◌∙◌, ap}
use Rattle.page_frames.specs.Frames.{frame_rows}
use Rattle.page_frames.specs.Residences.{FramesFor}
use Rattle.page_frames.proofs.FrameRows.{row_there, frame_there, frame_found}
use Rattle.page_frames.proofs.frames.Frames.frame.Goals as goal

rows_are : (c : goal.After-as_slice) → c.as_slice.result.now ≡ frame_rows c.args.self.now.library c.args.self.now.«module» c.args.self.now.bases
rows_are c = c.as_slice.ensures ∙ c.self.invariant.1 ∙ ap (λ (r : FramesFor). frame_rows r.library r.«module» r.bases) c.self.view_is

pub frame_at-requires-clause-object : goal.frame_at-requires-clause-object
frame_at-requires-clause-object c =
    let r = c.args.self.now in row_there r.library r.«module» r.bases c.args.p c.requires c.as_slice.result.now (rows_are c)

pub frame_at-requires-clause-page : goal.frame_at-requires-clause-page
frame_at-requires-clause-page c =
    let r = c.args.self.now in frame_there r.library r.«module» r.bases c.args.p c.requires c.as_slice.result.now (rows_are c)

pub returns : goal.returns
returns c =
    let r = c.args.self.now in
    c.frame_at.ensures
    ∙ frame_found r.library r.«module» r.bases c.args.p c.requires c.as_slice.result.now c.frame_at.result.now
    (c.as_slice.ensures ∙ c.self.invariant.1 ∙ ap (λ (s : FramesFor). frame_rows s.library s.«module» s.bases) c.self.view_is)
