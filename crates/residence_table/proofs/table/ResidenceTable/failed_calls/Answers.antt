use Rattle.std.proofs.Common.{◌≡◌, ◌<◌, ◌++◌, length, ap, sym, subst, ◌∙◌}
use Rattle.std.specs.Prelude.{All}
use Rattle.residence_table.specs.Residences.{residences}
use Rattle.load_model.specs.Entering.{entering_calls}
use Rattle.load_model.specs.Initialising.{failed_calls, is_failing, undoing_calls, up_to}
use Rattle.residence_table.proofs.EntryCalls.{undoing_is, before_within}
use Rattle.residence_table.proofs.table.ResidenceTable.failed_calls.Goals as goal

pub push_undoing-requires : goal.push_undoing-requires
push_undoing-requires g c =
    subst (All (λ k. k < length c.args.lib.now)) (sym c.before-attached.ensures) (before_within (length c.args.lib.now) c.args.failure.now.by c.args.entering.now.joined.now c.requires.joined)

pub returns : goal.returns
unfolding failed_calls
returns g c = λ e same is fails.
    let entering = c.args.entering.now in
    let failure = c.args.failure.now in
    let upto : c.push_up_to.new.into.items ≡ up_to (is_failing e failure.pid) (entering_calls c.args.lib.now e failure.pid entering.how entering.«module» entering.fresh.now) =
    c.in_ok-push_up_to.ensures e (sym fails.pairs) ∙ ap (λ cs. cs ++ up_to (is_failing e failure.pid) failure.calls.now) c.new-calls.ensures.items ∙ ap (up_to (is_failing e failure.pid)) fails.calls
    in
    let undone =
    undoing_is c.args.lib.now e failure.pid entering.how entering.«module» failure.by entering.fresh.now (residences c.args.self.now)
    entering.joined.now c.before-attached.result.now same is.joined is.fresh
    c.before-attached.ensures
    in
    c.from_vec.ensures ∙ c.in_ok-push_undoing.ensures
    ∙ ap (λ cs. c.push_up_to.new.into.items ++ cs) undone
    ∙ ap (λ cs. cs ++ undoing_calls c.args.lib.now e failure.pid entering.how entering.«module» failure.by entering.fresh.now) upto
