use Rattle.std.proofs.Common.{rules, ◌≡◌, ◌∙◌, ◌++◌, ◌∷◌, [], ℕ, List, map, sym, ap, arith}
use Rattle.std.specs.List.{range_with_len}
use Rattle.std.proofs.lemmas.List.FromFn.{map-range_with_len_more}
use Rattle.page_frames.specs.Frames.{FramePage, frame_row}
use Rattle.page_frames.proofs.rows.PlacedModule.row.Goals as goal

pub loop-page-preserved : goal.loop-page-preserved
loop-page-preserved c =
    let placed = c.args.self.now in
    let frame : ℕ → FramePage = λ n. record { library = placed.library.now; «module» = placed.«module»; bases = placed.bases.now; page = record { object = c.args.object; page = n } } in
    let page = c.loop-page.page in
    c.in_ok-push.ensures.items
    ∙ ap (λ (frames : List FramePage). frames ++ c.new.result ∷ []) c.loop-page.invariant
    ∙ ap (λ (f : FramePage). map frame (range_with_len 0 page) ++ f ∷ []) c.new.ensures
    ∙ sym (map-range_with_len_more frame 0 page page (omega arith))

pub returns : goal.returns
unfolding frame_row
returns c =
    let placed = c.args.self.now in
    let frame : ℕ → FramePage = λ n. record { library = placed.library.now; «module» = placed.«module»; bases = placed.bases.now; page = record { object = c.args.object; page = n } } in
    let done : c.loop-page.page ≡ c.frame_count-count.result = search (arith, rules) in
    c.loop-page.invariant ∙ ap (λ (n : ℕ). map frame (range_with_len 0 n)) (done ∙ c.frame_count-count.ensures)
