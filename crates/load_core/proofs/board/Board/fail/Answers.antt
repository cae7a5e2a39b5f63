-- A load whose initialisation fails has its entry, and gives serial numbers.
use Rattle.std.proofs.Common.{◌≡◌, ◌∷◌, ◌++◌, [], List, refl, sym, ◌∙◌, ap, subst}
use Rattle.load_model.specs.declared.deeds.Deed.TheVariants as deeds
use Rattle.load_model.specs.declared.deeds.Entry.{Entry}
use Rattle.load_model.specs.Initialising.{enter_deed}
use Rattle.load_model.specs.declared.commands.Ask.TheVariants.{Enter as enter}
use Rattle.page_frames.specs.Residences.{Keeping}
use Rattle.load_core.specs.Kept.{Keeps}
use Rattle.load_core.specs.BoardState.{BoardState, state_of, MayAsk, Adds}
use Rattle.load_core.specs.Enters.{IsArrival, IsUndoing}
use Rattle.load_core.specs.Told.{IsLoaded}
use Rattle.load_core.specs.Inside.{board_state_in}
use Rattle.load_core.specs.declared.answers.Loaded.TheVariants as loaded
use Rattle.load_core.proofs.Arriving.{entry_with, adds_so, told_so, keeps_failed}
use Rattle.load_core.proofs.board.Board.fail.Goals as goal

deed : (c : goal.After-drop-arrival-3) → enter_deed (board_state_in c.self.inside).library (state_of (board_state_in c.self.inside)) c.args.at.pid c.args.at.how c.args.at.«module»
    ≡ deeds.Failed c.args.at.how c.args.at.«module» c.args.by c.args.arrival.fresh c.in_ok-undoing.undoing.calls c.in_ok-undoing.undoing.gone
deed c = subst (λ b. IsUndoing b c.args.at c.args.by c.args.arrival c.in_ok-undoing.undoing) (sym c.self.view_is) (c.in_ok-undoing.ensures)

grown : (c : goal.After-drop-arrival-3) → c.push_reserved.new.self.items
    ≡ c.self.inside.history.items ++ entry_with c.args.at.pid (deeds.Failed c.args.at.how c.args.at.«module» c.args.by c.args.arrival.fresh c.in_ok-undoing.undoing.calls c.in_ok-undoing.undoing.gone) ∷ []
grown c =
    let x : Entry = entry_with c.args.at.pid (deeds.Failed c.args.at.how c.args.at.«module» c.args.by c.args.arrival.fresh c.in_ok-undoing.undoing.calls c.in_ok-undoing.undoing.gone) in
    c.push_reserved.ensures.items ∙ ap (λ (h : List Entry). h ++ x ∷ []) c.reserve.ensures.items

pub invariant_of-self-2 : goal.invariant_of-self-2
invariant_of-self-2 c =
    let M : BoardState → Type 0 = λ b. MayAsk b c.args.at.pid (enter c.args.at.how c.args.at.«module») in
    let A : BoardState → Type 0 = λ a. IsArrival a c.args.at c.args.arrival in
    let K : Keeping → Type 0 = λ k. Keeps (record (board_state_in c.self.inside) { history = c.push_reserved.new.self.items; keeper = k.name }) c.self.inside.refs c.self.inside.table k.given in
    subst K (sym c.pass.ensures)
    (keeps_failed c.residences_stay.ensures.bases (board_state_in c.self.inside) c.self.inside.refs c.self.inside.table c.self.inside.keeper.given c.args.arrival.serials c.args.at.pid c.args.at.how
    c.args.at.«module» c.args.by c.args.arrival.fresh c.in_ok-undoing.undoing.calls c.in_ok-undoing.undoing.gone c.push_reserved.new.self.items c.self.invariant c.requires.process
    (subst M (sym c.self.view_is) c.requires.may) (deed c) (subst A (sym c.self.view_is) c.requires.arrival).serials (grown c))

pub returns-clause-entry : goal.returns-clause-entry
returns-clause-entry c =
    let A : BoardState → Type 0 = λ b. Adds b (record (board_state_in c.self.inside) { history = c.push_reserved.new.self.items }) c.args.at.pid (enter c.args.at.how c.args.at.«module») in
    let N : Keeping → Type 0 = λ k. Adds c.args.self.now (record (board_state_in c.self.inside) { history = c.push_reserved.new.self.items; keeper = k.name }) c.args.at.pid (enter c.args.at.how c.args.at.«module») in
    subst N (sym c.pass.ensures)
    (subst A c.self.view_is
    (adds_so (board_state_in c.self.inside) c.args.at.pid c.args.at.how c.args.at.«module»
    (deeds.Failed c.args.at.how c.args.at.«module» c.args.by c.args.arrival.fresh c.in_ok-undoing.undoing.calls c.in_ok-undoing.undoing.gone) c.push_reserved.new.self.items (deed c) (grown c)))

pub returns-clause-answer : goal.returns-clause-answer
returns-clause-answer c =
    let b = board_state_in c.self.inside in
    let L : BoardState → Type 0 = λ a. IsLoaded a (record b { history = c.push_reserved.new.self.items }) c.args.at.pid c.args.at.how c.args.at.«module» (loaded.Failed c.args.by) in
    let N : Keeping → Type 0 = λ k. IsLoaded c.args.self.now (record b { history = c.push_reserved.new.self.items; keeper = k.name }) c.args.at.pid c.args.at.how c.args.at.«module» (loaded.Failed c.args.by) in
    subst N (sym c.pass.ensures)
    (subst L c.self.view_is
    (told_so b (record b { history = c.push_reserved.new.self.items }) c.args.at.pid c.args.at.how c.args.at.«module»
    (deeds.Failed c.args.at.how c.args.at.«module» c.args.by c.args.arrival.fresh c.in_ok-undoing.undoing.calls c.in_ok-undoing.undoing.gone) (loaded.Failed c.args.by) (deed c) refl))
