use Rattle.std.proofs.Common.{◌≡◌, ◌+◌, ◌∙◌, ◌++◌, ◌∷◌, [], take, length, sym, ap, arith}
use Rattle.process_pages.proofs.Words.{length-map, length-take-le, ReachedResidence, residence_in, residences_in, take_all, take_more}
use Rattle.process_pages.proofs.Positions.{one_more}
use Rattle.process_pages.proofs.residence_finder.ResidenceFinder.of.Goals as goal

pub loop-k-preserved : goal.loop-k-preserved
loop-k-preserved c =
    let n = c.loop-k.k in
    let residences = c.args.residences.now in
    let s = c.index-residences-k.result in
    let more : residences_in (take n residences) ++ residence_in s ∷ [] ≡ residences_in (take (n + 1) residences) =
    sym (one_more (take n residences) s) ∙ ap (λ (y : ReachedResidence). residences_in (take n residences ++ y ∷ [])) c.index-residences-k.is ∙ ap residences_in (sym (take_more residences n s c.loop-k-test.true))
    in
    let long : length (residences_in (take n residences)) ≡ n = length-map (take n residences) residence_in ∙ length-take-le n residences (omega (arith, c.loop-k-test.true)) in
    let number : (residence_in s).«module» ≡ c.module.result =
    ap (λ (y : ReachedResidence). (residence_in y).«module») c.index-residences-k.is ∙ sym (c.module.ensures.number)
    in
    rw (← more) (c.join.ensures (residence_in s) (residences_in (take n residences)) number long c.loop-k.invariant)

pub returns : goal.returns
returns c = rw (take_all c.loop-k.k c.args.residences.now c.loop-k-test.false) at c.loop-k.invariant
