use Rattle.proc_core.proofs.Words.{◌+◌, [], ap, CanMap, err_from_is_err_and, fault_of, fixed_of, IsFixedIn, IsPageOf, IsTurn, not-true, page_in, PageId, PageRight, proc_state, nowhere}
use Rattle.proc_core.proofs.Words.{ProcessView, ProcState, residence_at, ResidenceFor, source_count, subst, sym, true, without_room, ℕ, ◌∙◌, ◌∷◌, ◌≡◌}
use Rattle.load_core.specs.declared.answers.Claim.TheVariants as claims
use Rattle.proc_core.proofs.Claims.{Laws, nothing_mapped}
use Rattle.proc_core.proofs.MappedAfter.{waited_none}
use Rattle.proc_core.proofs.TouchedPage.{asked_of, claim_of, roomy_page, claimed_room, claimed_stay, claimed_can, claimed_shared, claimed_holds, taken_page, given_page}
use Rattle.proc_core.proofs.proc.Proc.touch_shared.Goals as goal

pub returns-in_err-bytes-clause-page : goal.returns-in_err-bytes-clause-page
returns-in_err-bytes-clause-page g c =
    let p : ProcState = proc_state c.self.inside.pass c.self.inside.view in
    let none = err_from_is_err_and c.from_residual.result c.from_residual.ensures.1 in
    rw (none.1, ← c.self.view_is)
    (λ d. nothing_mapped p (page_in (residence_at p.view c.args.at.residence d) c.args.at.page) (residence_at p.view c.args.at.residence d).«module» c.prepare_page.new.self c.args.steps.now (ap without_room c.prepare_page.ensures.same) c.self.invariant.1.stands.stands.front)

pub claim_page-requires-clause-page : goal.claim_page-requires-clause-page
claim_page-requires-clause-page g c =
    let p : ProcState = proc_state c.self.inside.pass c.self.inside.view in
    let is : IsPageOf p.view c.args.at.residence c.args.at.page = subst (λ (s : ProcState). IsPageOf s.view c.args.at.residence c.args.at.page) (sym c.self.view_is) c.requires.page in
    roomy_page p.view c.prepare_page.new.self c.args.at.residence c.args.at.page (ap without_room c.in_ok-bytes.ensures.same) is

pub returns-in_default-clause-page : goal.returns-in_default-clause-page
returns-in_default-clause-page g c =
    let p : ProcState = proc_state c.self.inside.pass c.self.inside.view in
    rw (← c.self.view_is)
    (λ d. nothing_mapped p (page_in (residence_at p.view c.args.at.residence d) c.args.at.page) (residence_at p.view c.args.at.residence d).«module» c.prepare_page.new.self c.args.steps.now (ap without_room c.in_ok-bytes.ensures.same) c.self.invariant.1.stands.stands.front)

pub returns-in_err-right-clause-page : goal.returns-in_err-right-clause-page
returns-in_err-right-clause-page g c =
    let p : ProcState = proc_state c.self.inside.pass c.self.inside.view in
    let w : ProcessView = c.prepare_page.new.self in
    let k : ℕ = c.args.at.residence in
    let t : PageId = c.args.at.page in
    let bare : without_room w ≡ without_room p.view = ap without_room c.in_ok-bytes.ensures.same in
    let asked = asked_of p c.args.self.now k t true c.self.view_is c.requires.page c.requires.apart c.requires.fault in
    let laws : Laws = record { others = c.steps_are_sources.ensures.others; fault = c.steps_are_sources.ensures.fault; mapped = c.steps_are_sources.ensures.mapped } in
    let none = err_from_is_err_and c.from_residual-in_err-right.result c.from_residual-in_err-right.ensures.1 in
    rw (none.1, ← c.self.view_is)
    (λ d. waited_none laws p c.claim_page.new.self w (residence_at p.view k d) t c.args.steps.now c.self.invariant.1 bare (not-true _ (asked.fault d)) (c.in_err-right.ensures.claim d))

pub map_shared-requires-clause-room : goal.map_shared-requires-clause-room
map_shared-requires-clause-room g c =
    let p : ProcState = proc_state c.self.inside.pass c.self.inside.view in
    let w : ProcessView = c.prepare_page.new.self in
    let k : ℕ = c.args.at.residence in
    let t : PageId = c.args.at.page in
    let bare : without_room w ≡ without_room p.view = ap without_room c.in_ok-bytes.ensures.same in
    let asked = asked_of p c.args.self.now k t true c.self.view_is c.requires.page c.requires.apart c.requires.fault in
    let q : ProcState = proc_state c.self-2.inside.pass c.self-2.inside.view in
    let claim = claim_of (proc_state c.self.inside.pass w) q c.claim_page.new.self w k t _ (claims.Right c.in-Right.right) c.self-2.view_is c.in-Right.is c.in_ok-right.ensures.claim in
    claimed_room p w k t c.self.invariant.1 bare asked.page asked.apart q c.self-2.invariant.1 (fault_of w (residence_at w k nowhere) t ∷ []) (claim nowhere).1 asked.fault c.in_ok-bytes.ensures.room

pub fix-fixed-requires-clause-residence : goal.fix-fixed-requires-clause-residence
fix-fixed-requires-clause-residence g c =
    let p : ProcState = proc_state c.self.inside.pass c.self.inside.view in
    let w : ProcessView = c.prepare_page.new.self in
    let k : ℕ = c.args.at.residence in
    let t : PageId = c.args.at.page in
    let bare : without_room w ≡ without_room p.view = ap without_room c.in_ok-bytes.ensures.same in
    let asked = asked_of p c.args.self.now k t true c.self.view_is c.requires.page c.requires.apart c.requires.fault in
    let q : ProcState = proc_state c.self-2.inside.pass c.self-2.inside.view in
    let claim = claim_of (proc_state c.self.inside.pass w) q c.claim_page.new.self w k t _ (claims.Right c.in-Right.right) c.self-2.view_is c.in-Right.is c.in_ok-right.ensures.claim in
    claimed_stay p w k t c.self.invariant.1 bare asked.page asked.apart q c.self-2.invariant.1 (fault_of w (residence_at w k nowhere) t ∷ []) (claim nowhere).1 asked.fault

pub publish-requires-clause-residence : goal.publish-requires-clause-residence
publish-requires-clause-residence g c =
    let p : ProcState = proc_state c.self.inside.pass c.self.inside.view in
    let w : ProcessView = c.prepare_page.new.self in
    let k : ℕ = c.args.at.residence in
    let t : PageId = c.args.at.page in
    let bare : without_room w ≡ without_room p.view = ap without_room c.in_ok-bytes.ensures.same in
    let asked = asked_of p c.args.self.now k t true c.self.view_is c.requires.page c.requires.apart c.requires.fault in
    let q : ProcState = proc_state c.self-2.inside.pass c.self-2.inside.view in
    let claim = claim_of (proc_state c.self.inside.pass w) q c.claim_page.new.self w k t _ (claims.Right c.in-Right.right) c.self-2.view_is c.in-Right.is c.in_ok-right.ensures.claim in
    claimed_stay p w k t c.self.invariant.1 bare asked.page asked.apart q c.self-2.invariant.1 (fault_of w (residence_at w k nowhere) t ∷ []) (claim nowhere).1 asked.fault

pub map_shared-requires-clause-residence : goal.map_shared-requires-clause-residence
map_shared-requires-clause-residence g c =
    let p : ProcState = proc_state c.self.inside.pass c.self.inside.view in
    let w : ProcessView = c.prepare_page.new.self in
    let k : ℕ = c.args.at.residence in
    let t : PageId = c.args.at.page in
    let bare : without_room w ≡ without_room p.view = ap without_room c.in_ok-bytes.ensures.same in
    let asked = asked_of p c.args.self.now k t true c.self.view_is c.requires.page c.requires.apart c.requires.fault in
    let q : ProcState = proc_state c.self-2.inside.pass c.self-2.inside.view in
    let claim = claim_of (proc_state c.self.inside.pass w) q c.claim_page.new.self w k t _ (claims.Right c.in-Right.right) c.self-2.view_is c.in-Right.is c.in_ok-right.ensures.claim in
    claimed_stay p w k t c.self.invariant.1 bare asked.page asked.apart q c.self-2.invariant.1 (fault_of w (residence_at w k nowhere) t ∷ []) (claim nowhere).1 asked.fault

pub fix-fixed-requires-clause-page : goal.fix-fixed-requires-clause-page
fix-fixed-requires-clause-page g c =
    let p : ProcState = proc_state c.self.inside.pass c.self.inside.view in
    let w : ProcessView = c.prepare_page.new.self in
    let k : ℕ = c.args.at.residence in
    let t : PageId = c.args.at.page in
    let bare : without_room w ≡ without_room p.view = ap without_room c.in_ok-bytes.ensures.same in
    let asked = asked_of p c.args.self.now k t true c.self.view_is c.requires.page c.requires.apart c.requires.fault in
    let q : ProcState = proc_state c.self-2.inside.pass c.self-2.inside.view in
    let claim = claim_of (proc_state c.self.inside.pass w) q c.claim_page.new.self w k t _ (claims.Right c.in-Right.right) c.self-2.view_is c.in-Right.is c.in_ok-right.ensures.claim in
    let turn : IsTurn (proc_state c.self.inside.pass w) q (fault_of w (residence_at w k nowhere) t ∷ []) = (claim nowhere).1 in
    let page_is : c.in-Right.right.page ≡ t = ap (λ (x : PageRight). x.page) (claim nowhere).0 in
    λ d. subst (λ (x : PageId). CanMap q.view (residence_at q.view k d) x) (sym page_is) (claimed_can p w k t c.self.invariant.1 bare asked.page asked.apart q c.self-2.invariant.1 (fault_of w (residence_at w k nowhere) t ∷ []) turn asked.fault d)

pub publish-requires-clause-page : goal.publish-requires-clause-page
publish-requires-clause-page g c =
    let p : ProcState = proc_state c.self.inside.pass c.self.inside.view in
    let w : ProcessView = c.prepare_page.new.self in
    let k : ℕ = c.args.at.residence in
    let t : PageId = c.args.at.page in
    let bare : without_room w ≡ without_room p.view = ap without_room c.in_ok-bytes.ensures.same in
    let asked = asked_of p c.args.self.now k t true c.self.view_is c.requires.page c.requires.apart c.requires.fault in
    let q : ProcState = proc_state c.self-2.inside.pass c.self-2.inside.view in
    let claim = claim_of (proc_state c.self.inside.pass w) q c.claim_page.new.self w k t _ (claims.Right c.in-Right.right) c.self-2.view_is c.in-Right.is c.in_ok-right.ensures.claim in
    let turn : IsTurn (proc_state c.self.inside.pass w) q (fault_of w (residence_at w k nowhere) t ∷ []) = (claim nowhere).1 in
    λ d. claimed_can p w k t c.self.invariant.1 bare asked.page asked.apart q c.self-2.invariant.1 (fault_of w (residence_at w k nowhere) t ∷ []) turn asked.fault d

pub map_shared-requires-clause-page : goal.map_shared-requires-clause-page
map_shared-requires-clause-page g c =
    let p : ProcState = proc_state c.self.inside.pass c.self.inside.view in
    let w : ProcessView = c.prepare_page.new.self in
    let k : ℕ = c.args.at.residence in
    let t : PageId = c.args.at.page in
    let bare : without_room w ≡ without_room p.view = ap without_room c.in_ok-bytes.ensures.same in
    let asked = asked_of p c.args.self.now k t true c.self.view_is c.requires.page c.requires.apart c.requires.fault in
    let q : ProcState = proc_state c.self-2.inside.pass c.self-2.inside.view in
    let claim = claim_of (proc_state c.self.inside.pass w) q c.claim_page.new.self w k t _ (claims.Right c.in-Right.right) c.self-2.view_is c.in-Right.is c.in_ok-right.ensures.claim in
    let turn : IsTurn (proc_state c.self.inside.pass w) q (fault_of w (residence_at w k nowhere) t ∷ []) = (claim nowhere).1 in
    λ d. claimed_can p w k t c.self.invariant.1 bare asked.page asked.apart q c.self-2.invariant.1 (fault_of w (residence_at w k nowhere) t ∷ []) turn asked.fault d

pub fix-fixed-requires-clause-own : goal.fix-fixed-requires-clause-own
fix-fixed-requires-clause-own g c =
    let p : ProcState = proc_state c.self.inside.pass c.self.inside.view in
    let w : ProcessView = c.prepare_page.new.self in
    let k : ℕ = c.args.at.residence in
    let t : PageId = c.args.at.page in
    let q : ProcState = proc_state c.self-2.inside.pass c.self-2.inside.view in
    let claim = claim_of (proc_state c.self.inside.pass w) q c.claim_page.new.self w k t _ (claims.Right c.in-Right.right) c.self-2.view_is c.in-Right.is c.in_ok-right.ensures.claim in
    let turn : IsTurn (proc_state c.self.inside.pass w) q (fault_of w (residence_at w k nowhere) t ∷ []) = (claim nowhere).1 in
    λ d. ap (λ (x : PageRight). x.serial) (claim d).0 ∙ sym (ap (λ (x : ProcessView). (residence_at x k d).serial) turn.view)

pub publish-requires-clause-shared : goal.publish-requires-clause-shared
publish-requires-clause-shared g c =
    let p : ProcState = proc_state c.self.inside.pass c.self.inside.view in
    let w : ProcessView = c.prepare_page.new.self in
    let k : ℕ = c.args.at.residence in
    let t : PageId = c.args.at.page in
    let bare : without_room w ≡ without_room p.view = ap without_room c.in_ok-bytes.ensures.same in
    let asked = asked_of p c.args.self.now k t true c.self.view_is c.requires.page c.requires.apart c.requires.fault in
    let q : ProcState = proc_state c.self-2.inside.pass c.self-2.inside.view in
    let claim = claim_of (proc_state c.self.inside.pass w) q c.claim_page.new.self w k t _ (claims.Right c.in-Right.right) c.self-2.view_is c.in-Right.is c.in_ok-right.ensures.claim in
    let turn : IsTurn (proc_state c.self.inside.pass w) q (fault_of w (residence_at w k nowhere) t ∷ []) = (claim nowhere).1 in
    λ d. claimed_shared p w k t c.self.invariant.1 bare asked.page asked.apart q c.self-2.invariant.1 (fault_of w (residence_at w k nowhere) t ∷ []) turn asked.fault d

pub map_shared-requires-clause-shared : goal.map_shared-requires-clause-shared
map_shared-requires-clause-shared g c =
    let p : ProcState = proc_state c.self.inside.pass c.self.inside.view in
    let w : ProcessView = c.prepare_page.new.self in
    let k : ℕ = c.args.at.residence in
    let t : PageId = c.args.at.page in
    let bare : without_room w ≡ without_room p.view = ap without_room c.in_ok-bytes.ensures.same in
    let asked = asked_of p c.args.self.now k t true c.self.view_is c.requires.page c.requires.apart c.requires.fault in
    let q : ProcState = proc_state c.self-2.inside.pass c.self-2.inside.view in
    let claim = claim_of (proc_state c.self.inside.pass w) q c.claim_page.new.self w k t _ (claims.Right c.in-Right.right) c.self-2.view_is c.in-Right.is c.in_ok-right.ensures.claim in
    let turn : IsTurn (proc_state c.self.inside.pass w) q (fault_of w (residence_at w k nowhere) t ∷ []) = (claim nowhere).1 in
    λ d. claimed_shared p w k t c.self.invariant.1 bare asked.page asked.apart q c.self-2.invariant.1 (fault_of w (residence_at w k nowhere) t ∷ []) turn asked.fault d

pub publish-requires-clause-fixed : goal.publish-requires-clause-fixed
publish-requires-clause-fixed g c =
    let w : ProcessView = c.prepare_page.new.self in
    let k : ℕ = c.args.at.residence in
    let t : PageId = c.args.at.page in
    let q : ProcState = proc_state c.self-2.inside.pass c.self-2.inside.view in
    let claim = claim_of (proc_state c.self.inside.pass w) q c.claim_page.new.self w k t _ (claims.Right c.in-Right.right) c.self-2.view_is c.in-Right.is c.in_ok-right.ensures.claim in
    let page_is : c.in-Right.right.page ≡ t = ap (λ (x : PageRight). x.page) (claim nowhere).0 in
    λ d. c.fix-fixed.ensures.page d ∙ ap (fixed_of q.view (residence_at q.view k d)) page_is

pub invariant_of-self-in-Right : goal.invariant_of-self-in-Right
invariant_of-self-in-Right g c =
    let p : ProcState = proc_state c.self.inside.pass c.self.inside.view in
    let w : ProcessView = c.prepare_page.new.self in
    let k : ℕ = c.args.at.residence in
    let t : PageId = c.args.at.page in
    let bare : without_room w ≡ without_room p.view = ap without_room c.in_ok-bytes.ensures.same in
    let asked = asked_of p c.args.self.now k t true c.self.view_is c.requires.page c.requires.apart c.requires.fault in
    let q : ProcState = proc_state c.self-2.inside.pass c.self-2.inside.view in
    let claim = claim_of (proc_state c.self.inside.pass w) q c.claim_page.new.self w k t _ (claims.Right c.in-Right.right) c.self-2.view_is c.in-Right.is c.in_ok-right.ensures.claim in
    let turn : IsTurn (proc_state c.self.inside.pass w) q (fault_of w (residence_at w k nowhere) t ∷ []) = (claim nowhere).1 in
    let u : ProcessView = c.map_shared.new.self in
    let fixed : (d : ResidenceFor) → IsFixedIn q.view u (residence_at q.view k d) t = c.map_shared.ensures in
    (c.self-2.invariant.0, claimed_holds p w k t c.self.invariant.1 bare asked.page asked.apart q c.self-2.invariant.1 (fault_of w (residence_at w k nowhere) t ∷ []) turn asked.fault u fixed c.pages_stand.ensures (claim nowhere).2)

pub returns-in-Right-clause-page : goal.returns-in-Right-clause-page
returns-in-Right-clause-page g c =
    let p : ProcState = proc_state c.self.inside.pass c.self.inside.view in
    let w : ProcessView = c.prepare_page.new.self in
    let k : ℕ = c.args.at.residence in
    let t : PageId = c.args.at.page in
    let bare : without_room w ≡ without_room p.view = ap without_room c.in_ok-bytes.ensures.same in
    let asked = asked_of p c.args.self.now k t true c.self.view_is c.requires.page c.requires.apart c.requires.fault in
    let laws : Laws = record { others = c.steps_are_sources.ensures.others; fault = c.steps_are_sources.ensures.fault; mapped = c.steps_are_sources.ensures.mapped } in
    let q : ProcState = proc_state c.self-2.inside.pass c.self-2.inside.view in
    let claim = claim_of (proc_state c.self.inside.pass w) q c.claim_page.new.self w k t _ (claims.Right c.in-Right.right) c.self-2.view_is c.in-Right.is c.in_ok-right.ensures.claim in
    let turn : IsTurn (proc_state c.self.inside.pass w) q (fault_of w (residence_at w k nowhere) t ∷ []) = (claim nowhere).1 in
    let page_is : c.in-Right.right.page ≡ t = ap (λ (x : PageRight). x.page) (claim nowhere).0 in
    let u : ProcessView = c.map_shared.new.self in
    let fixed : (d : ResidenceFor) → IsFixedIn q.view u (residence_at q.view k d) t = c.map_shared.ensures in
    rw (← c.self.view_is)
    (λ d. given_page p w k t c.self.invariant.1 bare asked.page asked.apart q c.self-2.invariant.1 (fault_of w (residence_at w k nowhere) t ∷ []) turn asked.fault u fixed laws c.args.steps.now c.fix-fixed.new.steps d (claim d).1
    (c.fix-fixed.ensures.steps d ∙ ap (λ (x : PageId). c.args.steps.now + source_count q.view.library (residence_at q.view k d).«module» x) page_is))

pub map_taken-requires-clause-room : goal.map_taken-requires-clause-room
map_taken-requires-clause-room g c =
    let p : ProcState = proc_state c.self.inside.pass c.self.inside.view in
    let w : ProcessView = c.prepare_page.new.self in
    let k : ℕ = c.args.at.residence in
    let t : PageId = c.args.at.page in
    let bare : without_room w ≡ without_room p.view = ap without_room c.in_ok-bytes.ensures.same in
    let asked = asked_of p c.args.self.now k t true c.self.view_is c.requires.page c.requires.apart c.requires.fault in
    let q : ProcState = proc_state c.self-2.inside.pass c.self-2.inside.view in
    let claim = claim_of (proc_state c.self.inside.pass w) q c.claim_page.new.self w k t _ claims.Taken c.self-2.view_is c.in-Taken.is c.in_ok-right.ensures.claim in
    claimed_room p w k t c.self.invariant.1 bare asked.page asked.apart q c.self-2.invariant.1 [] (claim nowhere).0 asked.fault c.in_ok-bytes.ensures.room

pub map_taken-requires-clause-residence : goal.map_taken-requires-clause-residence
map_taken-requires-clause-residence g c =
    let p : ProcState = proc_state c.self.inside.pass c.self.inside.view in
    let w : ProcessView = c.prepare_page.new.self in
    let k : ℕ = c.args.at.residence in
    let t : PageId = c.args.at.page in
    let bare : without_room w ≡ without_room p.view = ap without_room c.in_ok-bytes.ensures.same in
    let asked = asked_of p c.args.self.now k t true c.self.view_is c.requires.page c.requires.apart c.requires.fault in
    let q : ProcState = proc_state c.self-2.inside.pass c.self-2.inside.view in
    let claim = claim_of (proc_state c.self.inside.pass w) q c.claim_page.new.self w k t _ claims.Taken c.self-2.view_is c.in-Taken.is c.in_ok-right.ensures.claim in
    claimed_stay p w k t c.self.invariant.1 bare asked.page asked.apart q c.self-2.invariant.1 [] (claim nowhere).0 asked.fault

pub map_taken-requires-clause-page : goal.map_taken-requires-clause-page
map_taken-requires-clause-page g c =
    let p : ProcState = proc_state c.self.inside.pass c.self.inside.view in
    let w : ProcessView = c.prepare_page.new.self in
    let k : ℕ = c.args.at.residence in
    let t : PageId = c.args.at.page in
    let bare : without_room w ≡ without_room p.view = ap without_room c.in_ok-bytes.ensures.same in
    let asked = asked_of p c.args.self.now k t true c.self.view_is c.requires.page c.requires.apart c.requires.fault in
    let q : ProcState = proc_state c.self-2.inside.pass c.self-2.inside.view in
    let claim = claim_of (proc_state c.self.inside.pass w) q c.claim_page.new.self w k t _ claims.Taken c.self-2.view_is c.in-Taken.is c.in_ok-right.ensures.claim in
    claimed_can p w k t c.self.invariant.1 bare asked.page asked.apart q c.self-2.invariant.1 [] (claim nowhere).0 asked.fault

pub map_taken-requires-clause-shared : goal.map_taken-requires-clause-shared
map_taken-requires-clause-shared g c =
    let p : ProcState = proc_state c.self.inside.pass c.self.inside.view in
    let w : ProcessView = c.prepare_page.new.self in
    let k : ℕ = c.args.at.residence in
    let t : PageId = c.args.at.page in
    let bare : without_room w ≡ without_room p.view = ap without_room c.in_ok-bytes.ensures.same in
    let asked = asked_of p c.args.self.now k t true c.self.view_is c.requires.page c.requires.apart c.requires.fault in
    let q : ProcState = proc_state c.self-2.inside.pass c.self-2.inside.view in
    let claim = claim_of (proc_state c.self.inside.pass w) q c.claim_page.new.self w k t _ claims.Taken c.self-2.view_is c.in-Taken.is c.in_ok-right.ensures.claim in
    claimed_shared p w k t c.self.invariant.1 bare asked.page asked.apart q c.self-2.invariant.1 [] (claim nowhere).0 asked.fault

pub invariant_of-self-in-Taken : goal.invariant_of-self-in-Taken
invariant_of-self-in-Taken g c =
    let p : ProcState = proc_state c.self.inside.pass c.self.inside.view in
    let w : ProcessView = c.prepare_page.new.self in
    let k : ℕ = c.args.at.residence in
    let t : PageId = c.args.at.page in
    let bare : without_room w ≡ without_room p.view = ap without_room c.in_ok-bytes.ensures.same in
    let asked = asked_of p c.args.self.now k t true c.self.view_is c.requires.page c.requires.apart c.requires.fault in
    let q : ProcState = proc_state c.self-2.inside.pass c.self-2.inside.view in
    let claim = claim_of (proc_state c.self.inside.pass w) q c.claim_page.new.self w k t _ claims.Taken c.self-2.view_is c.in-Taken.is c.in_ok-right.ensures.claim in
    let turn : IsTurn (proc_state c.self.inside.pass w) q [] = (claim nowhere).0 in
    (c.self-2.invariant.0, claimed_holds p w k t c.self.invariant.1 bare asked.page asked.apart q c.self-2.invariant.1 [] turn asked.fault c.map_taken.new.self c.map_taken.ensures c.pages_stand.ensures (claim nowhere).1)

pub returns-in-Taken-clause-page : goal.returns-in-Taken-clause-page
returns-in-Taken-clause-page g c =
    let p : ProcState = proc_state c.self.inside.pass c.self.inside.view in
    let w : ProcessView = c.prepare_page.new.self in
    let k : ℕ = c.args.at.residence in
    let t : PageId = c.args.at.page in
    let bare : without_room w ≡ without_room p.view = ap without_room c.in_ok-bytes.ensures.same in
    let asked = asked_of p c.args.self.now k t true c.self.view_is c.requires.page c.requires.apart c.requires.fault in
    let laws : Laws = record { others = c.steps_are_sources.ensures.others; fault = c.steps_are_sources.ensures.fault; mapped = c.steps_are_sources.ensures.mapped } in
    let q : ProcState = proc_state c.self-2.inside.pass c.self-2.inside.view in
    let claim = claim_of (proc_state c.self.inside.pass w) q c.claim_page.new.self w k t _ claims.Taken c.self-2.view_is c.in-Taken.is c.in_ok-right.ensures.claim in
    let turn : IsTurn (proc_state c.self.inside.pass w) q [] = (claim nowhere).0 in
    rw (← c.self.view_is)
    (λ d. taken_page p w k t c.self.invariant.1 bare asked.page asked.apart q c.self-2.invariant.1 [] turn asked.fault c.map_taken.new.self c.map_taken.ensures laws c.args.steps.now turn d)
