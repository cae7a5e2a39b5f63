use Rattle.std.proofs.Common.{◌≡◌, ◌∙◌, List, ℕ, Option, sym, ap, subst}
use Rattle.std.specs.Prelude.{IfSome}
use Rattle.std.specs.Arc.{arc_value}
use Rattle.lx_model.specs.ModuleBytes.{fixed_page}
use Rattle.page_frames.specs.Frames.{frame_bytes}
use Rattle.page_frames.specs.Looks.{HasLooked}
use Rattle.page_frames.specs.declared.frame.FrameOf.{FrameOf}
use Rattle.page_frames.specs.declared.frame.Look.{Look}
use Rattle.page_frames.specs.declared.frame.Published.{Published}
use Rattle.page_frames.proofs.frame.Frame.hold.Goals as goal
use Rattle.page_frames.proofs.frame.Frame.hold.Goals.{in-Some, in-None}

abbrev bytes_of : FrameOf → List ℕ
bytes_of of = fixed_page of.library.value of.«module» of.bases.value of.page

pub returns : goal.returns
returns c =
    let page : List ℕ = frame_bytes c.args.self.now in
    let Shown : Look → Type 0 = λ look. HasLooked look page in
    let Held : Option Published → Type 0 = λ held. IfSome held (λ x. arc_value x.bytes ≡ bytes_of c.turn-found.result.1.tag) in
    elim c.match-get.branch [
      | in-Some w ↦ subst Shown (sym w.look-is)
          (subst (HasLooked w.held-look.result) (subst Held w.in-Some.is c.get.ensures.1 ∙ ap bytes_of c.turn-found.ensures.2 ∙ ap frame_bytes c.self.view_is) w.held-look.ensures)
      | in-None w ↦ subst Shown (sym w.look-is) record {}
    ]
