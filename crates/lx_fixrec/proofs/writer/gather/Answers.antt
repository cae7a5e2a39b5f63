use Rattle.std.proofs.Common.{rules, ◌≡◌, ◌+◌, ◌<◌, [], ◌∷◌, ◌++◌, length, get_or, Some, slice_get, sym, subst, arith}
use Rattle.std.proofs.lemmas.Option.{slice_get-get_or}
use Rattle.lx_fixrec.proofs.Beginning.{Gathered, begun_list, one_more}
use Rattle.lx_fixrec.proofs.Pages.{no_fix}
use Rattle.lx_fixrec.proofs.writer.gather.Goals as goal

pub listed-init : goal.listed-init
listed-init c = λ f at.
    subst (Gathered c.args.sources.now f c.args.place _) (sym c.clear.ensures.items) (begun_list c.args.sources.now f c.args.place _ (c.requires.links.each c.args.place f at))

pub listed-preserved : goal.listed-preserved
listed-preserved c = λ f at.
    let s = c.args.sources.now in
    let g = get_or s c.listed.next no_fix in
    let here : slice_get s c.listed.next ≡ Some g = slice_get-get_or s c.listed.next no_fix c.listed-test.true in
    let room : length c.listed.offsets.items + 1 < 255 = omega arith in
    let more : c.push.new.self.items ≡ c.listed.offsets.items ++ g.offset ∷ [] = search rules in
    subst (Gathered s f c.args.place _) (sym more)
    (one_more s f g c.args.place c.listed.next _ c.listed.offsets.items (c.listed.invariant f at) here room (c.requires.links.each c.listed.next g here))
