use Rattle.process_pages.proofs.Words.{ap, arith, length-take-le, Mapped, sym, take, take_all, take_more, [], ◌++◌, ◌+◌, ◌∙◌, ◌∷◌, ◌≡◌}
use Rattle.process_pages.proofs.freeing.place_pages.Goals as goal

pub loop-place-preserved : goal.loop-place-preserved
loop-place-preserved c =
    let n = c.loop-place.place in
    let pages = c.args.pages.now in
    let before = c.loop-place.residences in
    let x = c.index-pages-place.result in
    let same = c.loop-place.invariant.0 in
    let more : take n pages ++ x ∷ [] ≡ take (n + 1) pages =
    ap (λ (y : Mapped). take n pages ++ y ∷ []) c.index-pages-place.is ∙ sym (take_more pages n x c.loop-place-test.true)
    in (
      c.place_page.ensures.residences ∙ same,
      λ lib apart all.
          rw (← more) (c.place_page.ensures.placed lib (take n pages) (length-take-le n pages (omega (arith, c.loop-place-test.true))) (rw same apart) (c.loop-place.invariant.1 lib apart all)),
    )

pub returns : goal.returns
returns c = record {
  residences = c.loop-place.invariant.0;
  placed = λ lib apart all.
      rw (take_all c.loop-place.place c.args.pages.now c.loop-place-test.false) at (c.loop-place.invariant.1 lib apart all);
}
