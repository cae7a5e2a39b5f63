-- A debugger's write is done once its entry stands.
use Rattle.std.proofs.Common.{◌≡◌, ◌∷◌, ◌++◌, [], ℕ, List, sym, ◌∙◌, ap, subst}
use Rattle.load_model.specs.declared.deeds.Deed.TheVariants as deeds
use Rattle.load_model.specs.declared.deeds.Entry.{Entry}
use Rattle.load_model.specs.declared.commands.Ask.TheVariants.{Debug as patch}
use Rattle.load_core.specs.BoardState.{BoardState, MayAsk, Adds}
use Rattle.load_core.specs.Inside.{board_state_in}
use Rattle.load_core.proofs.FoundBySerial.{place_found}
use Rattle.load_core.proofs.Using.{patch_attached, keeps_patch, adds_patch}
use Rattle.load_core.proofs.board.Board.debug.Goals as goal

pub place_with-place-requires : goal.place_with-place-requires
place_with-place-requires c =
    let M : BoardState → Type 0 = λ b. MayAsk b c.args.pid (patch c.args.serial c.requires.may.0 c.args.object c.args.offset c.args.bytes.now) in
    place_found (board_state_in c.self.inside) c.self.inside.refs c.self.inside.table c.self.inside.keeper.given c.args.pid c.args.serial c.requires.may.0 c.self.invariant
    (patch_attached (board_state_in c.self.inside) c.args.pid c.args.serial c.requires.may.0 c.args.object c.args.offset c.args.bytes.now (subst M (sym c.self.view_is) c.requires.may.1))

grown : (c : goal.After-push_reserved) →
    c.push_reserved.new.self.items ≡ c.self.inside.history.items ++ record { pid = c.args.pid; deed = deeds.Debug c.args.serial c.module-module.result c.args.object c.args.offset c.args.bytes.now } ∷ []
grown c =
    let E : List ℕ → Entry = λ bytes. record { pid = c.args.pid; deed = deeds.Debug c.args.serial c.module-module.result c.args.object c.args.offset bytes } in
    c.push_reserved.ensures.items ∙ ap (λ (h : List Entry). h ++ E c.in_ok-bytes.bytes ∷ []) c.reserve.ensures.items
    ∙ ap (λ (bytes : List ℕ). c.self.inside.history.items ++ E bytes ∷ []) c.in_ok-bytes.ensures

pub invariant_of-self-2 : goal.invariant_of-self-2
invariant_of-self-2 c =
    let M : BoardState → Type 0 = λ b. MayAsk b c.args.pid (patch c.args.serial c.requires.may.0 c.args.object c.args.offset c.args.bytes.now) in
    keeps_patch (board_state_in c.self.inside) c.self.inside.refs c.self.inside.table c.self.inside.keeper.given c.args.pid c.args.serial c.module-module.result c.self.invariant c.requires.process
    c.place_with-place.result c.at.result.now c.place_with-place.ensures (sym c.at.ensures) c.module-module.ensures c.args.object c.args.offset c.args.bytes.now c.residences_stay.ensures.bases
    c.push_reserved.new.self.items (c.requires.may.0, subst M (sym c.self.view_is) c.requires.may.1) (grown c)

pub returns-clause-entry : goal.returns-clause-entry
returns-clause-entry c k may =
    let M : BoardState → Type 0 = λ b. MayAsk b c.args.pid (patch c.args.serial k c.args.object c.args.offset c.args.bytes.now) in
    let A : BoardState → Type 0 = λ b. Adds b (record (board_state_in c.self.inside) { history = c.push_reserved.new.self.items }) c.args.pid (patch c.args.serial k c.args.object c.args.offset c.args.bytes.now) in
    subst A c.self.view_is
    (adds_patch (board_state_in c.self.inside) c.self.inside.refs c.self.inside.table c.self.inside.keeper.given c.args.pid c.args.serial c.module-module.result c.self.invariant c.requires.process
    c.place_with-place.result c.at.result.now c.place_with-place.ensures (sym c.at.ensures) c.module-module.ensures c.args.object c.args.offset c.args.bytes.now
    c.push_reserved.new.self.items (grown c) k (subst M (sym c.self.view_is) may))
