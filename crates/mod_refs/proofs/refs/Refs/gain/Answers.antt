-- What is attached are modules of the library.
use Rattle.std.proofs.Common.{◌≡◌, filter, not, sym, subst, ap, ◌∙◌}
use Rattle.std.specs.Prelude.{All}
use Rattle.load_model.specs.State.{is_reached}
use Rattle.load_model.specs.Entering.{joined}
use Rattle.load_model.specs.ProcessCounts.{AreCountsOf}
use Rattle.mod_refs.specs.AllCounts.{HaveModule}
use Rattle.mod_refs.proofs.CountsOfAll.{have_modules}
use Rattle.mod_refs.proofs.refs.Refs.gain.Goals as goal

pub unreached_of-requires : goal.unreached_of-requires
unreached_of-requires c =
    subst (All (λ k. HaveModule k c.args.self.now)) (sym c.deref.ensures.value)
    (have_modules c.args.lib.now c.args.self.now c.in_ok-joined.joined.items c.requires.kept c.in_ok-joined.ensures.within)

pub returns : goal.returns
unfolding joined
returns c = λ e are.
    let lib = c.args.lib.now in
    let is = subst (AreCountsOf lib (e.processes c.args.pid)) (sym c.counts.ensures) (are.each c.args.pid c.requires.pid) in
    let joined_is : c.in_ok-joined.joined.items ≡ joined lib e c.args.pid c.args.m = c.in_ok-joined.ensures.joined (e.processes c.args.pid) is in
    let these : c.deref.result.now ≡ joined lib e c.args.pid c.args.m = c.deref.ensures.value ∙ joined_is in
    record {
      joined = joined_is;
      fresh = c.in_ok-fresh.ensures lib e are ∙ ap (filter (λ k. not (is_reached lib e k))) these;
    }
