use Rattle.std.proofs.Common.{rules, ◌≡◌, ◌∙◌, ◌++◌, ◌∷◌, [], ℕ, Bool, List, map, sym, ap, arith}
use Rattle.std.specs.List.{range_with_len}
use Rattle.std.proofs.lemmas.List.FromFn.{map-range_with_len_more}
use Rattle.page_fix.specs.Fixable.{is_fixable}
use Rattle.page_fix.specs.Rights.{fixable_row}
use Rattle.page_fix.proofs.marks.Marks.of.Goals as goal

pub loop-page-preserved : goal.loop-page-preserved
loop-page-preserved c =
    let test : ℕ → Bool = λ n. is_fixable c.args.m.now (record { object = c.args.object; page = n }) in
    let page = c.loop-page.page in
    c.in_ok-push.ensures.ok
    ∙ ap (λ (bs : List Bool). bs ++ c.is_fixable.result ∷ []) c.loop-page.invariant
    ∙ ap (λ (b : Bool). map test (range_with_len 0 page) ++ b ∷ []) c.is_fixable.ensures
    ∙ sym (map-range_with_len_more test 0 page page (omega arith))

pub returns : goal.returns
unfolding fixable_row
returns c =
    let done : c.loop-page.page ≡ c.pages-pages.result = search (arith, rules) in
    let test : ℕ → Bool = λ n. is_fixable c.args.m.now (record { object = c.args.object; page = n }) in
    c.loop-page.invariant ∙ ap (λ (n : ℕ). map test (range_with_len 0 n)) (done ∙ c.pages-pages.ensures)
