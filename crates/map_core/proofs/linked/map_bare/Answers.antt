use Rattle.std.proofs.Common.{◌≡◌, sym, subst}
use Rattle.lx_types.specs.Answers.{Answers}
use Rattle.obj_types.specs.Input.{WholeInput}
use Rattle.comdat_core.specs.Aside.{bare}
use Rattle.link_core.specs.Links.{RefusesLink}
use Rattle.link_core.proofs.Bare.{answers-any, answers-none, kept-bare}
use Rattle.map_core.specs.Mapped.{IsMapped}
use Rattle.map_core.proofs.linked.map_bare.Goals as goal

pub map_of_kept-mapped-requires : goal.map_of_kept-mapped-requires
map_of_kept-mapped-requires c =
    let is : c.set_aside.new.input ≡ bare c.args.input.now = c.in_ok-aside.ensures.bare in
    record {
      whole = subst WholeInput (sym is) c.requires;
      kept = kept-bare c.args.input.now c.set_aside.new.input c.nothing_taken_links_alike.ensures.bare is;
      out = c.in_ok-out.ensures;
    }

pub returns : goal.returns
returns c =
    let is : c.set_aside.new.input ≡ bare c.args.input.now = c.in_ok-aside.ensures.bare in
    record {
      mapped = subst (λ input. Answers c.map_of_kept-mapped.result (λ text. IsMapped input text.items) (RefusesLink input)) is c.map_of_kept-mapped.ensures;
      same = answers-any c.map_of_kept-mapped.result (c.put_back.new.input ≡ c.args.input.now) (c.put_back.ensures c.args.input.now is c.in_ok-aside.ensures.aside);
    }

pub returns-in_err-aside : goal.returns-in_err-aside
returns-in_err-aside c =
    let failed = c.from_residual.ensures.1 in
    record { mapped = answers-none c.from_residual.result _ _ failed; same = answers-none c.from_residual.result _ _ failed }

pub returns-in_err-out : goal.returns-in_err-out
returns-in_err-out c =
    let failed = c.from_residual-in_err-out.ensures.1 in
    record { mapped = answers-none c.from_residual-in_err-out.result _ _ failed; same = answers-none c.from_residual-in_err-out.result _ _ failed }
