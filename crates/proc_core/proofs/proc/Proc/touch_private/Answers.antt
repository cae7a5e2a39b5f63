use Rattle.proc_core.proofs.Words.{ap, err_from_is_err_and, false, IsPageOf, not-false, page_in, proc_state, ProcState, residence_at, subst, sym, without_room}
use Rattle.proc_core.proofs.Claims.{Laws, nothing_mapped}
use Rattle.proc_core.proofs.MappedAfter.{roomy_holds}
use Rattle.proc_core.proofs.TouchedPage.{asked_of, roomy_page, roomy_fault, roomy_can, private_holds, private_page}
use Rattle.proc_core.proofs.proc.Proc.touch_private.Goals as goal

pub invariant_of-self : goal.invariant_of-self
invariant_of-self g c =
    let p : ProcState = proc_state c.self.inside.pass c.self.inside.view in
    (c.self.invariant.0, roomy_holds p c.reserve_page.new.self c.self.invariant.1 (ap without_room c.reserve_page.ensures.same))

pub invariant_of-self-in_err-buffer : goal.invariant_of-self-in_err-buffer
invariant_of-self-in_err-buffer g c =
    let p : ProcState = proc_state c.self.inside.pass c.self.inside.view in
    (c.self.invariant.0, roomy_holds p c.reserve_page.new.self c.self.invariant.1 (ap without_room c.reserve_page.ensures.same))

pub returns-in_err-reserve_page-clause-page : goal.returns-in_err-reserve_page-clause-page
returns-in_err-reserve_page-clause-page g c =
    let p : ProcState = proc_state c.self.inside.pass c.self.inside.view in
    let none = err_from_is_err_and c.from_residual.result c.from_residual.ensures.1 in
    rw (none.1, ← c.self.view_is)
    (λ d. nothing_mapped p (page_in (residence_at p.view c.args.at.residence d) c.args.at.page) (residence_at p.view c.args.at.residence d).«module» c.reserve_page.new.self c.args.steps.now (ap without_room c.reserve_page.ensures.same) c.self.invariant.1.stands.stands.front)

pub returns-in_err-buffer-clause-page : goal.returns-in_err-buffer-clause-page
returns-in_err-buffer-clause-page g c =
    let p : ProcState = proc_state c.self.inside.pass c.self.inside.view in
    let none = err_from_is_err_and c.from_residual-in_err-buffer.result c.from_residual-in_err-buffer.ensures.1 in
    rw (none.1, ← c.self.view_is)
    (λ d. nothing_mapped p (page_in (residence_at p.view c.args.at.residence d) c.args.at.page) (residence_at p.view c.args.at.residence d).«module» c.reserve_page.new.self c.args.steps.now (ap without_room c.reserve_page.ensures.same) c.self.invariant.1.stands.stands.front)

pub map_private-requires-clause-residence : goal.map_private-requires-clause-residence
map_private-requires-clause-residence g c =
    let p : ProcState = proc_state c.self.inside.pass c.self.inside.view in
    let is : IsPageOf p.view c.args.at.residence c.args.at.page = subst (λ (s : ProcState). IsPageOf s.view c.args.at.residence c.args.at.page) (sym c.self.view_is) c.requires.page in
    (roomy_page p.view c.reserve_page.new.self c.args.at.residence c.args.at.page (ap without_room c.in_ok-reserve_page.ensures.same) is).residence

pub map_private-requires-clause-page : goal.map_private-requires-clause-page
map_private-requires-clause-page g c =
    let p : ProcState = proc_state c.self.inside.pass c.self.inside.view in
    let asked = asked_of p c.args.self.now c.args.at.residence c.args.at.page false c.self.view_is c.requires.page c.requires.apart c.requires.fault in
    roomy_can p c.reserve_page.new.self c.args.at.residence c.args.at.page c.self.invariant.1 (ap without_room c.in_ok-reserve_page.ensures.same) asked.page asked.apart

pub map_private-requires-clause-own : goal.map_private-requires-clause-own
map_private-requires-clause-own g c =
    let p : ProcState = proc_state c.self.inside.pass c.self.inside.view in
    let asked = asked_of p c.args.self.now c.args.at.residence c.args.at.page false c.self.view_is c.requires.page c.requires.apart c.requires.fault in
    λ d. not-false _ (roomy_fault p.view c.reserve_page.new.self c.args.at.residence c.args.at.page false (ap without_room c.in_ok-reserve_page.ensures.same) asked.fault d)

pub invariant_of-self-2 : goal.invariant_of-self-2
invariant_of-self-2 g c =
    let p : ProcState = proc_state c.self.inside.pass c.self.inside.view in
    let asked = asked_of p c.args.self.now c.args.at.residence c.args.at.page false c.self.view_is c.requires.page c.requires.apart c.requires.fault in
    (c.self.invariant.0, private_holds p c.reserve_page.new.self c.args.at.residence c.args.at.page c.self.invariant.1 (ap without_room c.in_ok-reserve_page.ensures.same) asked.page asked.apart c.map_private.new.self asked.fault c.map_private.ensures.mapped c.pages_stand.ensures)

pub returns-clause-page : goal.returns-clause-page
returns-clause-page g c =
    let p : ProcState = proc_state c.self.inside.pass c.self.inside.view in
    let asked = asked_of p c.args.self.now c.args.at.residence c.args.at.page false c.self.view_is c.requires.page c.requires.apart c.requires.fault in
    let laws : Laws = record { others = c.steps_are_sources.ensures.others; fault = c.steps_are_sources.ensures.fault; mapped = c.steps_are_sources.ensures.mapped } in
    rw (← c.self.view_is)
    (private_page p c.reserve_page.new.self c.args.at.residence c.args.at.page c.self.invariant.1 (ap without_room c.in_ok-reserve_page.ensures.same) asked.page asked.apart c.map_private.new.self asked.fault c.map_private.ensures.mapped laws c.args.steps.now c.map_private.new.steps c.map_private.ensures.steps)
