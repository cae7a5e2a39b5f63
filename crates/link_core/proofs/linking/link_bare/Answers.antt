use Rattle.std.proofs.Common.{◌≡◌, sym, subst}
use Rattle.std.proofs.lemmas.Result.{IfOk-from_err}
use Rattle.lx_types.specs.Answers.{Answers}
use Rattle.obj_types.specs.Input.{WholeInput}
use Rattle.comdat_core.specs.Aside.{bare}
use Rattle.link_core.specs.Links.{IsLinked, RefusesLink}
use Rattle.link_core.proofs.Bare.{answers-any, answers-none, kept-bare}
use Rattle.link_core.proofs.linking.link_bare.Goals as goal

pub link_kept-linked-requires : goal.link_kept-linked-requires
link_kept-linked-requires c =
    let is : c.set_aside.new.input ≡ bare c.args.input.now = c.in_ok-aside.ensures.bare in
    record {
      whole = subst WholeInput (sym is) c.requires.whole;
      kept = kept-bare c.args.input.now c.set_aside.new.input c.nothing_taken_links_alike.ensures.bare is;
      out = c.in_ok-out.ensures;
    }

pub returns : goal.returns
returns c =
    let is : c.set_aside.new.input ≡ bare c.args.input.now = c.in_ok-aside.ensures.bare in
    record {
      linked = subst (λ input. Answers c.link_kept-linked.result (IsLinked input) (RefusesLink input)) is c.link_kept-linked.ensures.linked;
      same = answers-any c.link_kept-linked.result (c.put_back.new.input ≡ c.args.input.now) (c.put_back.ensures c.args.input.now is c.in_ok-aside.ensures.aside);
      short = c.link_kept-linked.ensures.short;
    }

pub returns-in_err-aside : goal.returns-in_err-aside
returns-in_err-aside c =
    let failed = c.from_residual.ensures.1 in
    record { linked = answers-none c.from_residual.result _ _ failed; same = answers-none c.from_residual.result _ _ failed; short = IfOk-from_err c.from_residual.result _ c.from_residual.ensures.0 }

pub returns-in_err-out : goal.returns-in_err-out
returns-in_err-out c =
    let failed = c.from_residual-in_err-out.ensures.1 in
    record { linked = answers-none c.from_residual-in_err-out.result _ _ failed; same = answers-none c.from_residual-in_err-out.result _ _ failed; short = IfOk-from_err c.from_residual-in_err-out.result _ c.from_residual-in_err-out.ensures.0 }
