use Rattle.std.proofs.Common.{◌≡◌, refl, sym, subst}
use Rattle.std.proofs.lemmas.Result.{IfOk-from_err}
use Rattle.obj_types.specs.Input.{WholeInput}
use Rattle.link_core.proofs.Bare.{answers-any, answers-none, answers-whole, bare-whole}
use Rattle.link_core.proofs.linking.link_module.Goals as goal

pub link_bare-requires : goal.link_bare-requires
link_bare-requires c =
    record { whole = bare-whole c.args.input.now c.in_ok-out.out c.what_is_kept_is_whole.ensures c.nothing_taken_links_alike.ensures.kept c.in_ok-out.ensures c.if-nothing_taken.ensures c.requires.whole }

pub link_kept-requires : goal.link_kept-requires
link_kept-requires c =
    record {
      whole = subst WholeInput (sym c.in_ok-kept.ensures) (c.what_is_kept_is_whole.ensures c.args.input.now c.requires.whole);
      kept = c.in_ok-kept.ensures;
      out = c.in_ok-out.ensures;
    }

pub returns-then-nothing_taken : goal.returns-then-nothing_taken
returns-then-nothing_taken c =
    record {
      linked = answers-whole c.args.input.now c.in_ok-out.out c.link_bare.result c.nothing_taken_links_alike.ensures.links c.in_ok-out.ensures c.if-nothing_taken.ensures c.link_bare.ensures.linked;
      same = c.link_bare.ensures.same;
      short = c.link_bare.ensures.short;
    }

pub returns : goal.returns
returns c =
    record {
      linked = c.link_kept.ensures.linked;
      same = answers-any c.link_kept.result (c.args.input.now ≡ c.args.input.now) refl;
      short = c.link_kept.ensures.short;
    }

pub returns-in_err-out : goal.returns-in_err-out
returns-in_err-out c =
    let failed = c.from_residual.ensures.1 in
    record { linked = answers-none c.from_residual.result _ _ failed; same = answers-none c.from_residual.result _ _ failed; short = IfOk-from_err c.from_residual.result _ c.from_residual.ensures.0 }

pub returns-in_err-kept : goal.returns-in_err-kept
returns-in_err-kept c =
    let failed = c.from_residual-in_err-kept.ensures.1 in
    record { linked = answers-none c.from_residual-in_err-kept.result _ _ failed; same = answers-none c.from_residual-in_err-kept.result _ _ failed; short = IfOk-from_err c.from_residual-in_err-kept.result _ c.from_residual-in_err-kept.ensures.0 }
