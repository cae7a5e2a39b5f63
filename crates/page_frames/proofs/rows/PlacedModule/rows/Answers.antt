use Rattle.std.proofs.Common.{rules, ◌≡◌, ◌+◌, ◌∙◌, ◌++◌, ◌∷◌, [], ℕ, List, length, map, sym, ap, arith}
use Rattle.std.specs.List.{range_with_len}
use Rattle.std.proofs.lemmas.List.FromFn.{map-range_with_len_more}
use Rattle.lx_model.specs.Library.{module_of}
use Rattle.page_frames.specs.Frames.{FramePage, frame_row, frame_rows}
use Rattle.page_frames.proofs.rows.PlacedModule.rows.Goals as goal

pub loop-before-preserved : goal.loop-before-preserved
loop-before-preserved c =
    let placed = c.args.self.now in
    let row = frame_row placed.library.now placed.«module» placed.bases.now in
    let before = c.loop-before.before in
    let number : 1 + before ≡ before + 1 = omega arith in
    c.in_ok-push.ensures.ok
    ∙ ap (λ (rows : List (List FramePage)). rows ++ c.in_ok-row.field-0 ∷ []) c.loop-before.invariant
    ∙ ap (λ (r : List FramePage). map row (range_with_len 1 before) ++ r ∷ []) c.in_ok-row.ensures
    ∙ sym (map-range_with_len_more row 1 before (before + 1) number)

pub returns : goal.returns
unfolding frame_rows
returns c =
    let placed = c.args.self.now in
    let done : c.loop-before.before ≡ length (module_of placed.library.now placed.«module»).objects = search (arith, rules) in
    c.loop-before.invariant ∙ ap (λ (n : ℕ). map (frame_row placed.library.now placed.«module» placed.bases.now) (range_with_len 1 n)) done
