use Rattle.std.proofs.Common.{◌≡◌, refl, sym, subst}
use Rattle.obj_types.specs.Input.{WholeInput}
use Rattle.link_core.proofs.Bare.{answers-any, answers-none, bare-whole}
use Rattle.map_core.proofs.Bare.{answers-whole}
use Rattle.map_core.proofs.linked.map_input.Goals as goal

pub map_bare-requires : goal.map_bare-requires
map_bare-requires c = bare-whole c.args.input.now c.in_ok-out.out c.what_is_kept_is_whole.ensures c.nothing_taken_links_alike.ensures.kept c.in_ok-out.ensures c.if-nothing_taken.ensures c.requires

pub map_of_kept-requires : goal.map_of_kept-requires
map_of_kept-requires c =
    record {
      whole = subst WholeInput (sym c.in_ok-kept.ensures) (c.what_is_kept_is_whole.ensures c.args.input.now c.requires);
      kept = c.in_ok-kept.ensures;
      out = c.in_ok-out.ensures;
    }

pub returns-then-nothing_taken : goal.returns-then-nothing_taken
returns-then-nothing_taken c =
    record {
      mapped = answers-whole c.args.input.now c.in_ok-out.out c.map_bare.result c.nothing_taken_links_alike.ensures.links c.in_ok-out.ensures c.if-nothing_taken.ensures c.map_bare.ensures.mapped;
      same = c.map_bare.ensures.same;
    }

pub returns : goal.returns
returns c = record { mapped = c.map_of_kept.ensures; same = answers-any c.map_of_kept.result (c.args.input.now ≡ c.args.input.now) refl }

pub returns-in_err-out : goal.returns-in_err-out
returns-in_err-out c =
    let failed = c.from_residual.ensures.1 in
    record { mapped = answers-none c.from_residual.result _ _ failed; same = answers-none c.from_residual.result _ _ failed }

pub returns-in_err-kept : goal.returns-in_err-kept
returns-in_err-kept c =
    let failed = c.from_residual-in_err-kept.ensures.1 in
    record { mapped = answers-none c.from_residual-in_err-kept.result _ _ failed; same = answers-none c.from_residual-in_err-kept.result _ _ failed }
