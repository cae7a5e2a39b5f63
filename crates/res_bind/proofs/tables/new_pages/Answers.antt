use Rattle.std.proofs.Common.{◌<◌, ◌^◌, List, [], ◌∷◌, ◌++◌, sym, subst, ap, ◌∙◌, arith}
use Rattle.std.specs.Prelude.{All}
use Rattle.std.proofs.lemmas.List.Elements.{All-push}
use Rattle.std.proofs.lemmas.List.FromFn.{map-range_with_len_more}
use Rattle.lx_types.specs.declared.object.PageHead.{PageHead}
use Rattle.res_model.specs.Bound.{new_page}
use Rattle.res_bind.proofs.tables.new_pages.Goals as goal

pub loop-k-preserved : goal.loop-k-preserved
loop-k-preserved c =
    let file = c.args.plan.now.file.now in
    let items = c.args.plan.now.items.now in
    let before = c.loop-k.pages.items in
    record {
      are = c.in_ok-push.ensures.items ∙ ap (λ (p : PageHead). before ++ p ∷ []) c.new_page.ensures.is
          ∙ ap (λ (ps : List PageHead). ps ++ new_page file items c.loop-k.k ∷ []) c.loop-k.invariant.are
          ∙ sym (map-range_with_len_more (new_page file items) 0 c.loop-k.k c.loop-k.k (omega arith));
      short = subst (λ (ps : List PageHead). All (λ (p : PageHead). p.len < 2 ^ 16) ps) (sym c.in_ok-push.ensures.items)
          (All-push (λ (p : PageHead). p.len < 2 ^ 16) before c.new_page.result c.loop-k.invariant.short c.new_page.ensures.short);
    }
