-- A write is done once its entry stands.
use Rattle.std.proofs.Common.{◌≡◌, ◌∷◌, ◌++◌, [], ◌<◌, ℕ, List, length, sym, ◌∙◌, ap, subst}
use Rattle.std.specs.Arc.{arc_value}
use Rattle.lx_types.specs.declared.object.Class.{Class}
use Rattle.lx_types.specs.Object.{class_of}
use Rattle.load_model.specs.declared.deeds.Entry.{Entry}
use Rattle.load_model.specs.Modules.{Library, object_at}
use Rattle.load_model.specs.State.{Written}
use Rattle.load_model.specs.declared.commands.Ask.TheVariants.{Write as put}
use Rattle.load_core.specs.BoardState.{BoardState, MayAsk, Adds}
use Rattle.load_core.specs.Kept.{Keeps}
use Rattle.load_core.specs.Inside.{board_state_in}
use Rattle.load_core.specs.Shared.{shared_writes, AreLaid}
use Rattle.load_core.proofs.FoundBySerial.{place_found, module_within}
use Rattle.load_core.proofs.Keeping.{write_entry, keeps_unwritten}
use Rattle.load_core.proofs.Using.{put_attached, keeps_put, adds_put}
use Rattle.load_core.proofs.board.Board.write.Goals as goal

pub place_with-place-requires : goal.place_with-place-requires
place_with-place-requires c =
    let M : BoardState → Type 0 = λ b. MayAsk b c.args.pid (put c.args.serial c.requires.may.0 c.args.object c.args.offset c.args.bytes.now) in
    place_found (board_state_in c.self.inside) c.self.inside.refs c.self.inside.table c.self.inside.keeper.given c.args.pid c.args.serial c.requires.may.0 c.self.invariant
    (put_attached (board_state_in c.self.inside) c.args.pid c.args.serial c.requires.may.0 c.args.object c.args.offset c.args.bytes.now (subst M (sym c.self.view_is) c.requires.may.1))

pub class_at-class-requires : goal.class_at-class-requires
class_at-class-requires c =
    let M : BoardState → Type 0 = λ b. MayAsk b c.args.pid (put c.args.serial c.requires.may.0 c.args.object c.args.offset c.args.bytes.now) in
    let N : ℕ → Type 0 = λ k. k < length (arc_value c.self.inside.lib) in
    let L : Library → Type 0 = λ lib. c.module-module.result < length lib in
    subst L (sym c.deref.ensures)
    (subst N (sym c.module-module.ensures)
    (module_within (board_state_in c.self.inside) c.self.inside.refs c.self.inside.table c.self.inside.keeper.given c.args.pid c.args.serial c.requires.may.0 c.self.invariant
    (put_attached (board_state_in c.self.inside) c.args.pid c.args.serial c.requires.may.0 c.args.object c.args.offset c.args.bytes.now (subst M (sym c.self.view_is) c.requires.may.1))
    c.place_with-place.result c.at.result.now c.place_with-place.ensures (sym c.at.ensures) c.reached_is_fit.ensures.reached))

grown : (c : goal.After-push_reserved) →
    c.push_reserved.new.self.items ≡ c.self.inside.history.items ++ write_entry c.args.pid c.args.serial c.module-module.result
    (record { object = c.args.object; offset = c.args.offset; bytes = c.args.bytes.now }) ∷ []
grown c =
    let E : List ℕ → Entry = λ bytes. write_entry c.args.pid c.args.serial c.module-module.result (record { object = c.args.object; offset = c.args.offset; bytes = bytes }) in
    c.push_reserved.ensures.items ∙ ap (λ (h : List Entry). h ++ E c.into_bytes.result ∷ []) c.reserve.ensures.items
    ∙ ap (λ (bytes : List ℕ). c.self.inside.history.items ++ E bytes ∷ []) (c.into_bytes.ensures ∙ ap (λ (w : Written). w.bytes) c.new-write.ensures ∙ c.in_ok-copied.ensures)

laid : (c : goal.After-push_reserved) →
    AreLaid c.self.inside.table c.put_shared.new.table c.place_with-place.result c.at.result.now
    (shared_writes (class_of (object_at (arc_value c.self.inside.lib) c.module-module.result c.args.object)) (record { object = c.args.object; offset = c.args.offset; bytes = c.args.bytes.now }))
laid c =
    let L : List Written → Type 0 = λ more. AreLaid c.self.inside.table c.put_shared.new.table c.place_with-place.result c.at.result.now more in
    let C : Library → Class = λ lib. class_of (object_at lib c.module-module.result c.args.object) in
    let W : List ℕ → Written = λ bytes. record { object = c.args.object; offset = c.args.offset; bytes = bytes } in
    subst L (ap (λ k. shared_writes k c.new-write.result) (c.class_at-class.ensures ∙ ap C c.deref.ensures) ∙ ap (shared_writes (C (arc_value c.self.inside.lib))) (c.new-write.ensures ∙ ap W c.in_ok-copied.ensures))
    (c.in_ok-put_shared.ensures c.at.result.now (sym c.at.ensures))

-- where there is no memory all is kept
pub invariant_of-self-in_err-put_shared : goal.invariant_of-self-in_err-put_shared
invariant_of-self-in_err-put_shared c =
    let H : List Entry → Type 0 = λ h. Keeps (record (board_state_in c.self.inside) { history = h }) c.self.inside.refs c.put_shared.new.table c.self.inside.keeper.given in
    subst H (sym c.reserve.ensures.items)
    (keeps_unwritten (board_state_in c.self.inside) c.self.inside.refs c.self.inside.table c.put_shared.new.table c.self.inside.keeper.given c.place_with-place.result c.at.result.now c.self.invariant
    (sym c.at.ensures) (c.in_err-put_shared.ensures c.at.result.now (sym c.at.ensures)))

pub invariant_of-self-2 : goal.invariant_of-self-2
invariant_of-self-2 c =
    let M : BoardState → Type 0 = λ b. MayAsk b c.args.pid (put c.args.serial c.requires.may.0 c.args.object c.args.offset c.args.bytes.now) in
    keeps_put (board_state_in c.self.inside) c.self.inside.refs c.self.inside.table c.self.inside.keeper.given c.args.pid c.args.serial c.module-module.result c.self.invariant c.requires.process
    c.place_with-place.result c.at.result.now c.place_with-place.ensures (sym c.at.ensures) c.module-module.ensures c.args.object c.args.offset c.args.bytes.now c.residences_stay.ensures.bases
    c.push_reserved.new.self.items c.put_shared.new.table (c.requires.may.0, subst M (sym c.self.view_is) c.requires.may.1) (grown c) (laid c)

pub returns-clause-entry : goal.returns-clause-entry
returns-clause-entry c k may =
    let M : BoardState → Type 0 = λ b. MayAsk b c.args.pid (put c.args.serial k c.args.object c.args.offset c.args.bytes.now) in
    let A : BoardState → Type 0 = λ b. Adds b (record (board_state_in c.self.inside) { history = c.push_reserved.new.self.items }) c.args.pid (put c.args.serial k c.args.object c.args.offset c.args.bytes.now) in
    subst A c.self.view_is
    (adds_put (board_state_in c.self.inside) c.self.inside.refs c.self.inside.table c.self.inside.keeper.given c.args.pid c.args.serial c.module-module.result c.self.invariant c.requires.process
    c.place_with-place.result c.at.result.now c.place_with-place.ensures (sym c.at.ensures) c.module-module.ensures c.args.object c.args.offset c.args.bytes.now
    c.push_reserved.new.self.items (grown c) k (subst M (sym c.self.view_is) may))
