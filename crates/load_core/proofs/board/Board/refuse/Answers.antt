-- A load without a place has its entry alone.
use Rattle.std.proofs.Common.{◌≡◌, ◌∷◌, ◌++◌, [], List, refl, sym, ◌∙◌, ap, subst}
use Rattle.load_model.specs.declared.deeds.Deed.TheVariants as deeds
use Rattle.load_model.specs.declared.deeds.Entry.{Entry}
use Rattle.load_model.specs.Initialising.{enter_deed}
use Rattle.load_model.specs.declared.commands.Ask.TheVariants.{Enter as enter}
use Rattle.residence_table.specs.Placing.{no_room_of}
use Rattle.load_core.specs.BoardState.{BoardState, state_of, MayAsk, Adds}
use Rattle.load_core.specs.Enters.{IsWithoutRoom}
use Rattle.load_core.specs.Told.{IsLoaded}
use Rattle.load_core.specs.Inside.{board_state_in}
use Rattle.load_core.specs.declared.answers.Loaded.TheVariants as loaded
use Rattle.load_core.proofs.Arriving.{full_deed, entry_with, adds_so, told_so, keeps_full}
use Rattle.load_core.proofs.board.Board.refuse.Goals as goal

deed : (c : goal.After-push_reserved) → enter_deed (board_state_in c.self.inside).library (state_of (board_state_in c.self.inside)) c.args.at.pid c.args.at.how c.args.at.«module»
    ≡ deeds.Full c.args.at.how c.args.at.«module» c.args.none.of c.args.none.object.object c.args.none.object.size
deed c =
    let W : BoardState → Type 0 = λ b. IsWithoutRoom b c.args.at c.args.none in
    full_deed (board_state_in c.self.inside).library (state_of (board_state_in c.self.inside)) c.args.at.pid c.args.at.how c.args.at.«module» (no_room_of c.args.none) (subst W (sym c.self.view_is) c.requires.none)

grown : (c : goal.After-push_reserved) → c.push_reserved.new.self.items
    ≡ c.self.inside.history.items ++ entry_with c.args.at.pid (deeds.Full c.args.at.how c.args.at.«module» c.args.none.of c.args.none.object.object c.args.none.object.size) ∷ []
grown c =
    let x : Entry = entry_with c.args.at.pid (deeds.Full c.args.at.how c.args.at.«module» c.args.none.of c.args.none.object.object c.args.none.object.size) in
    c.push_reserved.ensures.items ∙ ap (λ (h : List Entry). h ++ x ∷ []) c.reserve.ensures.items

pub invariant_of-self-2 : goal.invariant_of-self-2
invariant_of-self-2 c =
    let M : BoardState → Type 0 = λ b. MayAsk b c.args.at.pid (enter c.args.at.how c.args.at.«module») in
    keeps_full c.residences_stay.ensures.bases (board_state_in c.self.inside) c.self.inside.refs c.self.inside.table c.self.inside.keeper.given c.args.at.pid c.args.at.how c.args.at.«module»
    c.args.none.of c.args.none.object.object c.args.none.object.size c.push_reserved.new.self.items c.self.invariant c.requires.process (subst M (sym c.self.view_is) c.requires.may) (deed c) (grown c)

pub returns-clause-entry : goal.returns-clause-entry
returns-clause-entry c =
    let A : BoardState → Type 0 = λ b. Adds b (record (board_state_in c.self.inside) { history = c.push_reserved.new.self.items }) c.args.at.pid (enter c.args.at.how c.args.at.«module») in
    subst A c.self.view_is
    (adds_so (board_state_in c.self.inside) c.args.at.pid c.args.at.how c.args.at.«module»
    (deeds.Full c.args.at.how c.args.at.«module» c.args.none.of c.args.none.object.object c.args.none.object.size) c.push_reserved.new.self.items (deed c) (grown c))

pub returns-clause-answer : goal.returns-clause-answer
returns-clause-answer c =
    let b = board_state_in c.self.inside in
    let told = loaded.Full c.args.none.of c.args.none.object.object c.args.none.object.size in
    let L : BoardState → Type 0 = λ a. IsLoaded a (record b { history = c.push_reserved.new.self.items }) c.args.at.pid c.args.at.how c.args.at.«module» told in
    subst L c.self.view_is
    (told_so b (record b { history = c.push_reserved.new.self.items }) c.args.at.pid c.args.at.how c.args.at.«module»
    (deeds.Full c.args.at.how c.args.at.«module» c.args.none.of c.args.none.object.object c.args.none.object.size) told (deed c) (refl, refl, refl))
