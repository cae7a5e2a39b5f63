use Rattle.proc_core.proofs.Words.{About, Adds, ap, Entry, false, is_there, IsPageOf, Known, needs_fault, page_in, proc_state, ProcState, residence_at, ResidenceFor, rules, subst, sym, true, ◌∙◌, ◌≡◌, nowhere}
use Rattle.proc_core.proofs.Turning.{taken_idle}
use Rattle.proc_core.proofs.PageTurns.{turn_page, turn_can, turn_shared, claim_here, claimed_about, claimed_adds, ClaimTaken, claim_holds, claim_is}
use Rattle.proc_core.proofs.proc.Proc.claim_page.Goals as goal

pub claim-claim-requires-clause-stands : goal.claim-claim-requires-clause-stands
claim-claim-requires-clause-stands g c = c.take_turn-board.ensures.come.stands

pub claim-claim-requires-clause-going : goal.claim-claim-requires-clause-going
claim-claim-requires-clause-going g c =
    let p : ProcState = proc_state c.self.inside.pass c.self.inside.view in
    let is : IsPageOf p.view c.args.at.residence c.args.at.page = subst (λ (s : ProcState). IsPageOf s.view c.args.at.residence c.args.at.page) (sym c.self.view_is) c.requires.page in
    (turn_page p c.take_turn-board.result c.take_turn-board.new.view c.args.at.residence c.args.at.page c.take_turn-board.ensures.come is).going

pub claim-claim-requires-clause-residence : goal.claim-claim-requires-clause-residence
claim-claim-requires-clause-residence g c =
    let p : ProcState = proc_state c.self.inside.pass c.self.inside.view in
    let is : IsPageOf p.view c.args.at.residence c.args.at.page = subst (λ (s : ProcState). IsPageOf s.view c.args.at.residence c.args.at.page) (sym c.self.view_is) c.requires.page in
    (turn_page p c.take_turn-board.result c.take_turn-board.new.view c.args.at.residence c.args.at.page c.take_turn-board.ensures.come is).residence

pub claim-claim-requires-clause-page : goal.claim-claim-requires-clause-page
claim-claim-requires-clause-page g c =
    let p : ProcState = proc_state c.self.inside.pass c.self.inside.view in
    let is : IsPageOf p.view c.args.at.residence c.args.at.page = subst (λ (s : ProcState). IsPageOf s.view c.args.at.residence c.args.at.page) (sym c.self.view_is) c.requires.page in
    let apart : (d : ResidenceFor) → is_there p.view (residence_at p.view c.args.at.residence d) c.args.at.page ≡ false =
    subst (λ (s : ProcState). (d : ResidenceFor) → is_there s.view (residence_at s.view c.args.at.residence d) c.args.at.page ≡ false) (sym c.self.view_is) c.requires.apart in
    turn_can p c.take_turn-board.result c.take_turn-board.new.view c.args.at.residence c.args.at.page c.self.invariant.1 c.take_turn-board.ensures.come is apart

pub claim-claim-requires-clause-shared : goal.claim-claim-requires-clause-shared
claim-claim-requires-clause-shared g c =
    let p : ProcState = proc_state c.self.inside.pass c.self.inside.view in
    let is : IsPageOf p.view c.args.at.residence c.args.at.page = subst (λ (s : ProcState). IsPageOf s.view c.args.at.residence c.args.at.page) (sym c.self.view_is) c.requires.page in
    let fault : (d : ResidenceFor) → needs_fault p.view.library (residence_at p.view c.args.at.residence d).«module» (page_in (residence_at p.view c.args.at.residence d) c.args.at.page) ≡ true =
    subst (λ (s : ProcState). (d : ResidenceFor) → needs_fault s.view.library (residence_at s.view c.args.at.residence d).«module» (page_in (residence_at s.view c.args.at.residence d) c.args.at.page) ≡ true) (sym c.self.view_is) c.requires.fault in
    turn_shared p c.take_turn-board.result c.take_turn-board.new.view c.args.at.residence c.args.at.page c.take_turn-board.ensures.come is fault

pub give_back-requires-clause-about : goal.give_back-requires-clause-about
give_back-requires-clause-about g c =
    let p : ProcState = proc_state c.self.inside.pass c.self.inside.view in
    let come = c.take_turn-board.ensures.come in
    ap (λ (k : Known Entry About). k.subject) c.take_turn-board.ensures.knows.1
    ∙ claimed_about p c.take_turn-board.result c.claim-claim.new.board c.take_turn-board.new.view c.claim-claim.new.self (residence_at p.view c.args.at.residence nowhere) c.args.at.page c.self.invariant.1 come c.claim-claim.result
    (claim_here p c.take_turn-board.result c.claim-claim.new.board c.take_turn-board.new.view c.claim-claim.new.self c.args.at.residence c.args.at.page c.claim-claim.result come c.claim-claim.ensures nowhere)

pub give_back-requires-clause-adds : goal.give_back-requires-clause-adds
give_back-requires-clause-adds g c =
    let p : ProcState = proc_state c.self.inside.pass c.self.inside.view in
    let come = c.take_turn-board.ensures.come in
    subst (λ (k : Known Entry About). Adds (λ (x : Entry). x.pid) k.pid k.seen c.claim-claim.new.board.history) (sym c.take_turn-board.ensures.knows.1)
    (claimed_adds p c.take_turn-board.result c.claim-claim.new.board c.take_turn-board.new.view c.claim-claim.new.self (residence_at p.view c.args.at.residence nowhere) c.args.at.page c.self.invariant.1 come c.claim-claim.result
    (claim_here p c.take_turn-board.result c.claim-claim.new.board c.take_turn-board.new.view c.claim-claim.new.self c.args.at.residence c.args.at.page c.claim-claim.result come c.claim-claim.ensures nowhere))

pub invariant_of-self : goal.invariant_of-self
invariant_of-self g c =
    let p : ProcState = proc_state c.self.inside.pass c.self.inside.view in
    let turn : ClaimTaken p c.take_turn-board.result c.claim-claim.new.board c.take_turn-board.new.view c.claim-claim.new.self c.args.at.residence c.args.at.page c.take_turn-board.new.pass c.give_back.new.pass c.claim-claim.result =
    record {
      idle = (c.self.invariant.0.0, c.self.invariant.0.1);
      holds = c.self.invariant.1;
      come = c.take_turn-board.ensures.come;
      knows = c.take_turn-board.ensures.knows;
      is = c.claim-claim.ensures;
      lock = search rules;
      gave = c.give_back.ensures.gave;
    } in
    (taken_idle c.claim-claim.new.board.history c.take_turn-board.new.pass.me.0 c.give_back.new.pass c.give_back.ensures.gave, claim_holds p _ _ _ _ _ _ _ _ _ turn c.histories_grow.ensures.grows)

pub returns-clause-claim : goal.returns-clause-claim
returns-clause-claim g c =
    let p : ProcState = proc_state c.self.inside.pass c.self.inside.view in
    let turn : ClaimTaken p c.take_turn-board.result c.claim-claim.new.board c.take_turn-board.new.view c.claim-claim.new.self c.args.at.residence c.args.at.page c.take_turn-board.new.pass c.give_back.new.pass c.claim-claim.result =
    record {
      idle = (c.self.invariant.0.0, c.self.invariant.0.1);
      holds = c.self.invariant.1;
      come = c.take_turn-board.ensures.come;
      knows = c.take_turn-board.ensures.knows;
      is = c.claim-claim.ensures;
      lock = search rules;
      gave = c.give_back.ensures.gave;
    } in
    rw (← c.self.view_is) (claim_is p _ _ _ _ _ _ _ _ _ turn)
