use Rattle.std.proofs.Common.{◌≡◌, ◌∙◌, ℕ, List, ap, rules}
use Rattle.std.specs.Prelude.{box_value, slice_index}
use Rattle.gen_core.specs.Fixing.{page_words, total}
use Rattle.gen_core.proofs.fixing.sum_of.Goals as goal

pub returns : goal.returns
returns g c =
    let bytes : c.deref.result.now ≡ box_value c.page-page.result = search rules in
    c.sum_of_page.ensures ∙ ap (λ (b : List ℕ). total (page_words (slice_index b))) (bytes ∙ c.page-page.ensures.bytes)
