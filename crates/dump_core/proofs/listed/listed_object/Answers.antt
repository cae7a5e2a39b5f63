use Rattle.std.proofs.Common.{ℕ, [], ◌∷◌, ◌++◌, map, sym, ap, ◌∙◌, arith}
use Rattle.std.specs.List.{range_with_len}
use Rattle.std.proofs.lemmas.List.FromFn.{map-range_with_len_more}
use Rattle.dump_model.specs.declared.listing.ListedPage.{ListedPage}
use Rattle.dump_model.specs.Listings.{listed_page, page_id}
use Rattle.dump_core.proofs.listed.listed_object.Goals as goal

pub loop-page-preserved : goal.loop-page-preserved
loop-page-preserved c =
    let page : ℕ → ListedPage = λ i. listed_page c.args.m.now (page_id c.args.number i) in
    let n = c.loop-page.page in
    c.in_ok-push.ensures.items ∙ ap (λ ps. ps ++ c.in_ok-listed_page.field-0 ∷ []) c.loop-page.invariant
    ∙ ap (λ p. map page (range_with_len 0 n) ++ p ∷ []) c.in_ok-listed_page.ensures ∙ sym (map-range_with_len_more page 0 n n (omega arith))
