use Rattle.std.proofs.Common.{◌≡◌, Some, option_map, sym, ap, ◌∙◌}
use Rattle.load_model.specs.Modules.{fixed_bytes}
use Rattle.load_model.specs.State.{attached_residence}
use Rattle.load_core.specs.BoardState.{BoardState, state_of}
use Rattle.play_laws.proofs.Attached.{reached_stay, unreached}
use Rattle.check_play.specs.Standing.{attached_of}
use Rattle.check_play.proofs.standing.Standing.reached.Goals as goal

pub returns-then-not-reaches-clause-found : goal.returns-then-not-reaches-clause-found
returns-then-not-reaches-clause-found c =
    let b : BoardState = c.args.self.now.board in
    sym (ap (option_map attached_of) (unreached b.library (state_of b) c.args.pid c.args.m (sym c.reaches.ensures ∙ c.if-not-reaches.true)))

pub returns-clause-found : goal.returns-clause-found
returns-clause-found c =
    let b : BoardState = c.args.self.now.board in
    let it = reached_stay c.residents_are_reached.ensures.resident b.library b.failing (fixed_bytes b.library) b.history c.args.self.now.serials c.args.pid c.args.m c.history.ensures.legal c.requires.process
    c.requires.standing.serials c.requires.«module» (sym c.reaches.ensures ∙ c.if-not-reaches.false)
    in
    let serial : c.last.result ≡ it.0.serial = c.last.ensures ∙ sym it.2 in
    let made : option_map attached_of (Some it.0) ≡ option_map attached_of (attached_residence b.library (state_of b) c.args.pid c.args.m) = ap (option_map attached_of) (sym it.1) in
    (λ i. Some (record { serial = serial i; «module» = sym it.3 i })) ∙ made
