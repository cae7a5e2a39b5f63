use Rattle.std.proofs.Common.{ℕ, List, subst}
use Rattle.res_model.specs.declared.item.ResItem.{ResItem}
use Rattle.answer_model.specs.BindAnswer.{bind_outcome}
use Rattle.answer_model.specs.Outcome.{kept}
use Rattle.file_commands.specs.Doing.{DoesOutcome}
use Rattle.file_commands.specs.Refusals.{said_in}
use Rattle.file_commands.proofs.Commands.{bound_kept, not_bound}
use Rattle.file_commands.proofs.bind.bind_items.Goals as goal

pub returns-in_ok-line-in-Ok : goal.returns-in_ok-line-in-Ok
returns-in_ok-line-in-Ok g c =
    let out = c.args.out.now in
    let file = c.args.binding.now.target.file in
    let line = c.in_ok-line-in-Ok.line in
    let before = g.F.Files.state c.args.files.now in
    let now = g.F.Files.state c.keep.new.files in
    let P : List ResItem → Type 0 = λ items. DoesOutcome (bind_outcome out file items) before now (said_in c.keep.result) in
    let Q : List ℕ → Type 0 = λ bytes. DoesOutcome (kept out bytes line) before now (said_in c.keep.result) in
    subst P c.as_slice-items.ensures
    (bound_kept out file c.as_slice-items.result.now c.in-Ok.file.items line before now (said_in c.keep.result) c.in-Ok.ensures.0 c.in-Ok.ensures.1 c.in_ok-line-in-Ok.ensures
    (subst Q c.deref.ensures.value c.keep.ensures))

pub returns-in-Err : goal.returns-in-Err
returns-in-Err g c =
    let out = c.args.out.now in
    let file = c.args.binding.now.target.file in
    let state = g.F.Files.state c.args.files.now in
    let P : List ResItem → Type 0 = λ items. DoesOutcome (bind_outcome out file items) state state (said_in c.refused.result) in
    subst P c.as_slice-items.ensures (not_bound _ out file c.as_slice-items.result.now c.in-Err.why state (said_in c.refused.result) c.in-Err.ensures c.refused.ensures)
