use Rattle.std.proofs.Common.{ℕ, option_map, sym, ap, ◌∙◌}
use Rattle.std.specs.Option.{option_copied}
use Rattle.load_core.specs.BoardState.{state_of}
use Rattle.check_core.specs.ToldItems.{item_of}
use Rattle.check_play.specs.FaultTouches.{next_touch}
use Rattle.check_play.proofs.PlayedFaults.{touch_named, refused_alone, had_alone, astray_alone, made_alone}
use Rattle.check_play.proofs.faults.play_fault.Goals as goal

pub returns-then-not-may_fault : goal.returns-then-not-may_fault
returns-then-not-may_fault g c j before after x command deed_is can next stands =
    refused_alone j before after x command c.args.standing.now c.args.view.now c.args.fault.0 deed_is can stands (sym c.may_fault.ensures ∙ c.if-not-may_fault.true)

pub returns-then-has : goal.returns-then-has
returns-then-has g c j before after x command deed_is can next stands =
    had_alone j before after x command c.args.standing.now c.args.view.now c.args.fault.0 deed_is can stands c.pid-pid.ensures.process (sym c.may_fault.ensures ∙ c.if-not-may_fault.false)
    (sym (c.has.ensures c.args.standing.now.board.history c.requires.kept.faulted) ∙ c.if-has.true)

pub returns-in_default : goal.returns-in_default
returns-in_default g c j before after x command deed_is can next stands =
    astray_alone j before after x command c.args.standing.now c.args.view.now c.args.fault.0 deed_is can stands c.pid-pid.ensures.process (sym c.may_fault.ensures ∙ c.if-not-may_fault.false) (option_map item_of c.args.fault.1) next
    (ap (λ (n : ℕ). next_touch c.args.standing.now.board.library (state_of c.args.standing.now.board) n c.args.fault.0.residence.serial c.args.fault.0.page (option_map item_of c.args.fault.1)) (sym c.pid-pid.ensures.number)
    ∙ (sym c.next_touch.ensures ∙ ap (λ o. option_copied o) c.in_default.is))

pub make_fault-requires-clause-first : goal.make_fault-requires-clause-first
make_fault-requires-clause-first g c = sym (c.has.ensures c.args.standing.now.board.history c.requires.kept.faulted) ∙ c.if-has.false

pub make_fault-requires-clause-named : goal.make_fault-requires-clause-named
make_fault-requires-clause-named g c =
    touch_named c.args.standing.now.board.library (state_of c.args.standing.now.board) c.args.view.now.holding.pid c.args.fault.0.residence.serial c.args.fault.0.page (option_map item_of c.args.fault.1) c.in-Some.place.now
    (ap (λ (n : ℕ). next_touch c.args.standing.now.board.library (state_of c.args.standing.now.board) n c.args.fault.0.residence.serial c.args.fault.0.page (option_map item_of c.args.fault.1)) (sym c.pid-pid.ensures.number)
    ∙ (sym c.next_touch.ensures ∙ ap (λ o. option_copied o) c.in-Some.is))

pub returns : goal.returns
returns g c j before after x command deed_is can next stands =
    made_alone j before after x command c.args.standing.now c.args.view.now c.args.fault.0 deed_is can stands c.pid-pid.ensures.process (sym c.may_fault.ensures ∙ c.if-not-may_fault.false) c.mapped_pages_move.ensures.fault
    c.make_fault.new.standing c.make_fault.new.view (option_map item_of c.args.fault.1) c.in-Some.place.now c.history.ensures.legal (sym (c.has.ensures c.args.standing.now.board.history c.requires.kept.faulted) ∙ c.if-has.false) next
    (ap (λ (n : ℕ). next_touch c.args.standing.now.board.library (state_of c.args.standing.now.board) n c.args.fault.0.residence.serial c.args.fault.0.page (option_map item_of c.args.fault.1)) (sym c.pid-pid.ensures.number)
    ∙ (sym c.next_touch.ensures ∙ ap (λ o. option_copied o) c.in-Some.is))
    c.in_ok-make_fault.ensures
