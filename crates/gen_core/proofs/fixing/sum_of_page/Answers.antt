use Rattle.std.proofs.Common.{◌≡◌, ◌<◌, ◌^◌, ◌∙◌, ◌++◌, ◌∷◌, [], ℕ, ap, sym, rules}
use Rattle.std.specs.Prelude.{slice_index}
use Rattle.gen_core.specs.Fixing.{first_words, total}
use Rattle.gen_core.proofs.Words.{all_words, no_words, one_total, total_more, word_further}
use Rattle.gen_core.proofs.fixing.sum_of_page.Goals as goal

pub loop-i-init : goal.loop-i-init
loop-i-init c = sym (ap total (no_words (slice_index c.args.bytes.now)))

pub loop-i-preserved : goal.loop-i-preserved
loop-i-preserved c =
    let bytes = slice_index c.args.bytes.now in
    let i = c.loop-i.i in
    let word = c.word_of-sum.result in
    let small : word < 2 ^ 32 = search rules in
    total_more (first_words bytes i) (word ∷ []) c.loop-i.sum word c.loop-i.invariant (one_total word small)
    ∙ ap (λ (w : ℕ). total (first_words bytes i ++ w ∷ [])) c.word_of-sum.ensures
    ∙ ap total (word_further bytes i)

pub returns : goal.returns
returns c =
    let last : c.loop-i.i ≡ 1024 = search rules in
    c.loop-i.invariant ∙ ap total (all_words (slice_index c.args.bytes.now) c.loop-i.i last)
