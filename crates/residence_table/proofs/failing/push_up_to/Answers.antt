use Rattle.std.proofs.Common.{◌≡◌, ◌++◌, [], List, drop, sym, subst, ap, ◌∙◌, append-nil}
use Rattle.std.proofs.lemmas.List.{drop_all}
use Rattle.load_model.specs.declared.deeds.Call.{Call}
use Rattle.load_model.specs.State.{nothing_yet}
use Rattle.load_model.specs.Initialising.{is_failing, up_to}
use Rattle.residence_table.proofs.failing.push_up_to.Goals as goal

pub returns : goal.returns
returns c = λ e pairs.
    let calls = c.args.calls.now in
    let out = c.loop-call.into.items in
    let done : drop c.loop-call.call-index calls ≡ [] = drop_all c.loop-call.call-index calls c.loop-call-test.false in
    let all : out ≡ c.args.into.now.items ++ up_to (is_failing (nothing_yet c.args.pairs.now) c.args.pid) calls =
    sym (c.loop-call.invariant ∙ ap (λ (left : List Call). out ++ up_to (is_failing (nothing_yet c.args.pairs.now) c.args.pid) left) done ∙ append-nil out)
    in
    subst (λ ps. out ≡ c.args.into.now.items ++ up_to (is_failing (nothing_yet ps) c.args.pid) calls) (sym pairs) all
