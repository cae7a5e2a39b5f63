use Rattle.std.proofs.Common.{◌≡◌, ◌≤◌, ◌&&◌, not, List, length, sym, ap, ◌∙◌, arith}
use Rattle.lx_types.specs.declared.parts.Parts.{Parts}
use Rattle.load_model.specs.Asks.{is_attached}
use Rattle.load_model.proofs.Bools.{and_false}
use Rattle.load_core.specs.BoardState.{state_of}
use Rattle.check_play.proofs.Ranges.{beyond}
use Rattle.check_play.proofs.asking.may_fault.Goals as goal

pub returns-then-residence-len : goal.returns-then-residence-len
returns-then-residence-len c =
    let b = c.args.standing.now.board in
    let e = state_of b in
    let pid = c.args.view.now.holding.pid in
    let count : c.len.result ≡ length b.library = c.len.ensures.count ∙ ap (λ (l : List Parts). length l) c.library-lib.ensures in
    let past : length b.library ≤ c.args.residence.«module» = omega (arith, count, c.if-residence-len.true) in
    sym (c.faults_by_pages.ensures b.library e pid c.args.residence.serial c.args.residence.«module» c.args.page
    ∙ (ap (λ x. not (e.processes pid).ended && (is_attached b.library e pid c.args.residence.serial c.args.residence.«module» && x)) (beyond b.library c.args.residence.«module» c.args.page past)
    ∙ (ap (λ x. not (e.processes pid).ended && x) (and_false (is_attached b.library e pid c.args.residence.serial c.args.residence.«module»)) ∙ and_false (not (e.processes pid).ended))))
