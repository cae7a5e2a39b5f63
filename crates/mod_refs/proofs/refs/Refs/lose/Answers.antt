-- What leaves are modules of the library, which the process does not reach.
use Rattle.std.proofs.Common.{◌≡◌, false, filter, not, sym, subst, ap, ◌∙◌}
use Rattle.std.specs.Prelude.{All}
use Rattle.load_model.specs.State.{with_process, reaches, is_reached}
use Rattle.load_model.specs.Leaving.{left, gone_modules}
use Rattle.load_model.specs.ProcessCounts.{AreCountsOf}
use Rattle.mod_refs.specs.AllCounts.{HaveModule}
use Rattle.mod_refs.specs.Changes.{given_up}
use Rattle.mod_refs.proofs.KeptCounts.{left_unreached}
use Rattle.mod_refs.proofs.CountsOfAll.{have_modules}
use Rattle.mod_refs.proofs.refs.Refs.lose.Goals as goal

pub gone_of-requires : goal.gone_of-requires
gone_of-requires c =
    subst (All (λ k. HaveModule k c.args.self.now)) (sym c.deref.ensures.value)
    (have_modules c.args.lib.now c.args.self.now c.in_ok-left.left.items c.requires.kept c.in_ok-left.ensures.within)

pub returns : goal.returns
unfolding gone_modules
returns c = λ e are.
    let lib = c.args.lib.now in
    let p = given_up c.args.what (e.processes c.args.pid) in
    let is = subst (AreCountsOf lib (e.processes c.args.pid)) (sym c.counts.ensures) (are.each c.args.pid c.requires.pid) in
    let left_is : c.in_ok-left.left.items ≡ left lib p = c.in_ok-left.ensures.left (e.processes c.args.pid) is in
    let these : c.deref.result.now ≡ left lib p = c.deref.ensures.value ∙ left_is in
    let not_reached = subst (All (λ k. reaches lib p k ≡ false)) (sym these) (left_unreached lib p) in
    record {
      left = left_is;
      gone = c.in_ok-gone.ensures lib e p are not_reached ∙ ap (filter (λ k. not (is_reached lib (with_process e c.args.pid p) k))) these;
    }
