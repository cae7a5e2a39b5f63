use Rattle.proc_core.proofs.Words.{false, is_there, proc_state, ProcState, residence_at, subst, sym, ◌∙◌, ◌≡◌}
use Rattle.proc_core.proofs.TouchLoop.{page_answered, few_turns, page_was}
use Rattle.proc_core.proofs.TouchedPage.{page_of}
use Rattle.proc_core.proofs.proc.Proc.touch_page.Goals as goal

pub is_mapped-requires-clause-residence : goal.is_mapped-requires-clause-residence
is_mapped-requires-clause-residence g c = (page_of (proc_state c.self.inside.pass c.self.inside.view) c.args.self.now c.args.at.residence c.args.at.page c.self.view_is c.requires.page).residence

pub is_mapped-requires-clause-object : goal.is_mapped-requires-clause-object
is_mapped-requires-clause-object g c = (page_of (proc_state c.self.inside.pass c.self.inside.view) c.args.self.now c.args.at.residence c.args.at.page c.self.view_is c.requires.page).object

pub is_mapped-requires-clause-page : goal.is_mapped-requires-clause-page
is_mapped-requires-clause-page g c = (page_of (proc_state c.self.inside.pass c.self.inside.view) c.args.self.now c.args.at.residence c.args.at.page c.self.view_is c.requires.page).page

pub is_shared_page-requires-clause-residence : goal.is_shared_page-requires-clause-residence
is_shared_page-requires-clause-residence g c = (page_of (proc_state c.self.inside.pass c.self.inside.view) c.args.self.now c.args.at.residence c.args.at.page c.self.view_is c.requires.page).residence

pub is_shared_page-requires-clause-object : goal.is_shared_page-requires-clause-object
is_shared_page-requires-clause-object g c = (page_of (proc_state c.self.inside.pass c.self.inside.view) c.args.self.now c.args.at.residence c.args.at.page c.self.view_is c.requires.page).object

pub is_shared_page-requires-clause-page : goal.is_shared_page-requires-clause-page
is_shared_page-requires-clause-page g c = (page_of (proc_state c.self.inside.pass c.self.inside.view) c.args.self.now c.args.at.residence c.args.at.page c.self.view_is c.requires.page).page

pub returns-then-is_mapped-clause-page : goal.returns-then-is_mapped-clause-page
returns-then-is_mapped-clause-page g c =
    let p : ProcState = proc_state c.self.inside.pass c.self.inside.view in
    rw (← c.self.view_is)
    (λ d. page_was p (residence_at p.view c.args.at.residence d) c.args.at.page c.args.steps.now c.self.invariant.1 (sym (c.is_mapped.ensures d) ∙ c.if-is_mapped.true))

pub touch_shared-requires-clause-apart : goal.touch_shared-requires-clause-apart
touch_shared-requires-clause-apart g c =
    rw (← c.self.view_is) (λ d. sym (c.is_mapped.ensures d) ∙ c.if-is_mapped.false)

pub touch_shared-requires-clause-fault : goal.touch_shared-requires-clause-fault
touch_shared-requires-clause-fault g c =
    let is = page_of (proc_state c.self.inside.pass c.self.inside.view) c.args.self.now c.args.at.residence c.args.at.page c.self.view_is c.requires.page in
    rw (← c.self.view_is) (λ d. sym (is.shared d) ∙ (sym (c.is_shared_page.ensures d) ∙ c.if-is_shared_page.true))

pub touch_private-requires-clause-apart : goal.touch_private-requires-clause-apart
touch_private-requires-clause-apart g c =
    rw (← c.self.view_is) (λ d. sym (c.is_mapped.ensures d) ∙ c.if-is_mapped.false)

pub touch_private-requires-clause-fault : goal.touch_private-requires-clause-fault
touch_private-requires-clause-fault g c =
    let is = page_of (proc_state c.self.inside.pass c.self.inside.view) c.args.self.now c.args.at.residence c.args.at.page c.self.view_is c.requires.page in
    rw (← c.self.view_is) (λ d. sym (is.shared d) ∙ (sym (c.is_shared_page.ensures d) ∙ c.if-is_shared_page.false))

pub returns-then-is_shared_page-clause-page : goal.returns-then-is_shared_page-clause-page
returns-then-is_shared_page-clause-page g c = λ d.
    page_answered c.args.self.now c.touch_shared.new.self (residence_at c.args.self.now.view c.args.at.residence d) c.args.at.page c.args.steps.now c.touch_shared.new.steps c.touch_shared.result
    (subst (λ (s : ProcState). is_there s.view (residence_at s.view c.args.at.residence d) c.args.at.page ≡ false) c.self.view_is (sym (c.is_mapped.ensures d) ∙ c.if-is_mapped.false)) (c.touch_shared.ensures.page d)

pub returns-then-is_shared_page-clause-turns : goal.returns-then-is_shared_page-clause-turns
returns-then-is_shared_page-clause-turns g c = λ d.
    few_turns c.args.self.now c.touch_shared.new.self (residence_at c.args.self.now.view c.args.at.residence d) c.args.at.page c.args.steps.now c.touch_shared.new.steps c.touch_shared.result
    (subst (λ (s : ProcState). is_there s.view (residence_at s.view c.args.at.residence d) c.args.at.page ≡ false) c.self.view_is (sym (c.is_mapped.ensures d) ∙ c.if-is_mapped.false)) (c.touch_shared.ensures.page d)

pub returns-else-is_shared_page-clause-page : goal.returns-else-is_shared_page-clause-page
returns-else-is_shared_page-clause-page g c = λ d.
    page_answered c.args.self.now c.touch_private.new.self (residence_at c.args.self.now.view c.args.at.residence d) c.args.at.page c.args.steps.now c.touch_private.new.steps c.touch_private.result
    (subst (λ (s : ProcState). is_there s.view (residence_at s.view c.args.at.residence d) c.args.at.page ≡ false) c.self.view_is (sym (c.is_mapped.ensures d) ∙ c.if-is_mapped.false)) (c.touch_private.ensures.page d)

pub returns-else-is_shared_page-clause-turns : goal.returns-else-is_shared_page-clause-turns
returns-else-is_shared_page-clause-turns g c = λ d.
    few_turns c.args.self.now c.touch_private.new.self (residence_at c.args.self.now.view c.args.at.residence d) c.args.at.page c.args.steps.now c.touch_private.new.steps c.touch_private.result
    (subst (λ (s : ProcState). is_there s.view (residence_at s.view c.args.at.residence d) c.args.at.page ≡ false) c.self.view_is (sym (c.is_mapped.ensures d) ∙ c.if-is_mapped.false)) (c.touch_private.ensures.page d)
