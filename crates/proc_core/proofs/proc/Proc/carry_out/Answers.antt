use Rattle.proc_core.proofs.Words.{About, Adds, ap, arith, call_refusal, Command, Entry, Known, None, proc_state, ProcState, rules, subst, sym, ◌∙◌, ◌≡◌}
use Rattle.proc_core.proofs.Made.{Laws}
use Rattle.proc_core.proofs.Turning.{told_here, refused_now, none_at, fine_few, fine_here, Taken, taken, taken_idle, done_about, done_adds}
use Rattle.proc_core.proofs.proc.Proc.carry_out.Goals as goal

pub returns-in-Some-clause-answer : goal.returns-in-Some-clause-answer
returns-in-Some-clause-answer g c =
    let p : ProcState = proc_state c.self.inside.pass c.self.inside.view in
    let command : Command = c.args.command.now in
    let laws : Laws = record {
      known = c.entries_are_known.ensures.known;
      refusals = c.entries_are_known.ensures.refusals;
      told = c.entries_are_known.ensures.told;
      may = c.entries_are_known.ensures.may;
      apart = c.entries_are_known.ensures.apart;
      grows = c.entries_are_known.ensures.grows;
    } in
    let told : c.first_refusal.result ≡ call_refusal p command = told_here p _ command _ _ c.self.view_is c.first_refusal.ensures c.refusal.ensures in
    rw (← c.self.view_is) (refused_now laws p c.self.invariant.1 command c.in-Some.refusal c.first_refusal.result told c.in-Some.is)

pub take_turn-board-requires-clause-few : goal.take_turn-board-requires-clause-few
take_turn-board-requires-clause-few g c =
    let p : ProcState = proc_state c.self.inside.pass c.self.inside.view in
    let command : Command = c.args.command.now in
    let told : c.first_refusal.result ≡ call_refusal p command = told_here p _ command _ _ c.self.view_is c.first_refusal.ensures c.refusal.ensures in
    let fine : call_refusal p command ≡ None = sym told ∙ none_at c.first_refusal.result (λ r is. c.in_default.not-Some r is) in
    let few = fine_few p command fine in
    omega arith

pub act-done-requires-clause-accepted : goal.act-done-requires-clause-accepted
act-done-requires-clause-accepted g c =
    let p : ProcState = proc_state c.self.inside.pass c.self.inside.view in
    let command : Command = c.args.command.now in
    let told : c.first_refusal.result ≡ call_refusal p command = told_here p _ command _ _ c.self.view_is c.first_refusal.ensures c.refusal.ensures in
    let fine : call_refusal p command ≡ None = sym told ∙ none_at c.first_refusal.result (λ r is. c.in_default.not-Some r is) in
    fine_here p c.take_turn-board.result c.take_turn-board.new.view command c.take_turn-board.ensures.come fine

pub returns-clause-answer : goal.returns-clause-answer
returns-clause-answer g c =
    let p : ProcState = proc_state c.self.inside.pass c.self.inside.view in
    let command : Command = c.args.command.now in
    let told : c.first_refusal.result ≡ call_refusal p command = told_here p _ command _ _ c.self.view_is c.first_refusal.ensures c.refusal.ensures in
    let fine : call_refusal p command ≡ None = sym told ∙ none_at c.first_refusal.result (λ r is. c.in_default.not-Some r is) in
    let turn : Taken p command c.take_turn-board.result c.act-done.new.board c.take_turn-board.new.view c.act-done.new.self c.take_turn-board.new.pass c.give_back.new.pass c.act-done.result c.told_by.result =
    record {
      idle = (c.self.invariant.0.0, c.self.invariant.0.1);
      holds = c.self.invariant.1;
      fits = c.requires.fits;
      fine = fine;
      come = c.take_turn-board.ensures.come;
      knows = c.take_turn-board.ensures.knows;
      is = c.act-done.ensures;
      lock = search rules;
      gave = c.give_back.ensures.gave;
      say = c.told_by.ensures;
    } in
    let laws : Laws = record {
      known = c.entries_are_known.ensures.known;
      refusals = c.entries_are_known.ensures.refusals;
      told = c.entries_are_known.ensures.told;
      may = c.entries_are_known.ensures.may;
      apart = c.entries_are_known.ensures.apart;
      grows = c.entries_are_known.ensures.grows;
    } in
    rw (← c.self.view_is) ((taken laws p command _ _ _ _ _ _ _ _ turn).1)

pub give_back-requires-clause-about : goal.give_back-requires-clause-about
give_back-requires-clause-about g c =
    let p : ProcState = proc_state c.self.inside.pass c.self.inside.view in
    let command : Command = c.args.command.now in
    ap (λ (k : Known Entry About). k.subject) c.take_turn-board.ensures.knows.1
    ∙ done_about p c.take_turn-board.result c.act-done.new.board c.take_turn-board.new.view c.act-done.new.self command c.act-done.result c.self.invariant.1 c.take_turn-board.ensures.come c.act-done.ensures

pub give_back-requires-clause-adds : goal.give_back-requires-clause-adds
give_back-requires-clause-adds g c =
    let p : ProcState = proc_state c.self.inside.pass c.self.inside.view in
    let command : Command = c.args.command.now in
    subst (λ (k : Known Entry About). Adds (λ (x : Entry). x.pid) k.pid k.seen c.act-done.new.board.history) (sym c.take_turn-board.ensures.knows.1)
    (done_adds p c.take_turn-board.result c.act-done.new.board c.take_turn-board.new.view c.act-done.new.self command c.act-done.result c.self.invariant.1 c.take_turn-board.ensures.come c.act-done.ensures)

pub invariant_of-self : goal.invariant_of-self
invariant_of-self g c =
    let p : ProcState = proc_state c.self.inside.pass c.self.inside.view in
    let command : Command = c.args.command.now in
    let told : c.first_refusal.result ≡ call_refusal p command = told_here p _ command _ _ c.self.view_is c.first_refusal.ensures c.refusal.ensures in
    let fine : call_refusal p command ≡ None = sym told ∙ none_at c.first_refusal.result (λ r is. c.in_default.not-Some r is) in
    let turn : Taken p command c.take_turn-board.result c.act-done.new.board c.take_turn-board.new.view c.act-done.new.self c.take_turn-board.new.pass c.give_back.new.pass c.act-done.result c.told_by.result =
    record {
      idle = (c.self.invariant.0.0, c.self.invariant.0.1);
      holds = c.self.invariant.1;
      fits = c.requires.fits;
      fine = fine;
      come = c.take_turn-board.ensures.come;
      knows = c.take_turn-board.ensures.knows;
      is = c.act-done.ensures;
      lock = search rules;
      gave = c.give_back.ensures.gave;
      say = c.told_by.ensures;
    } in
    let laws : Laws = record {
      known = c.entries_are_known.ensures.known;
      refusals = c.entries_are_known.ensures.refusals;
      told = c.entries_are_known.ensures.told;
      may = c.entries_are_known.ensures.may;
      apart = c.entries_are_known.ensures.apart;
      grows = c.entries_are_known.ensures.grows;
    } in
    (taken_idle c.act-done.new.board.history c.take_turn-board.new.pass.me.0 c.give_back.new.pass c.give_back.ensures.gave, (taken laws p command _ _ _ _ _ _ _ _ turn).0)
