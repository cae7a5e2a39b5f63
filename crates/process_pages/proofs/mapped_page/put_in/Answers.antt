use Rattle.process_pages.proofs.Words.{ap, bytes_under, List, Written, ℕ, [], ◌*◌, ◌∙◌, ◌∷◌}
use Rattle.process_pages.proofs.Copies.{under_is_over}
use Rattle.process_pages.proofs.mapped_page.put_in.Goals as goal

pub returns : goal.returns
returns c =
    let w = c.args.write.now in
    let q = c.args.page in
    c.lay.ensures ∙ ap (λ (ws : List Written). bytes_under ws q.object (q.page * 4096) c.as_mut_slice.result.now) c.from_ref.ensures.value
    ∙ ap (λ (bs : List ℕ). bytes_under (w ∷ []) q.object (q.page * 4096) bs) c.as_mut_slice.ensures.value ∙ under_is_over w q c.args.bytes.now c.requires.object c.requires.whole
