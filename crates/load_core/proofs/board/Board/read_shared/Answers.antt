-- What is shared is read once its entry stands.
use Rattle.std.proofs.Common.{◌≡◌, ◌∷◌, ◌++◌, [], ℕ, List, length, sym, ◌∙◌, ap, subst}
use Rattle.load_model.specs.declared.deeds.Deed.TheVariants as deeds
use Rattle.load_model.specs.declared.deeds.Entry.{Entry}
use Rattle.load_model.specs.declared.commands.Ask.TheVariants.{Shared as get}
use Rattle.load_model.specs.State.{Written}
use Rattle.write_overlay.specs.Laid.{bytes_under}
use Rattle.write_overlay.specs.Layered.{Lays}
use Rattle.load_core.specs.declared.residence_parts.ResidenceParts.{ResidenceParts}
use Rattle.load_core.specs.BoardState.{BoardState, MayAsk}
use Rattle.load_core.specs.Inside.{board_state_in}
use Rattle.load_core.specs.Told.{IsRead, fixed_run}
use Rattle.load_core.proofs.FoundBySerial.{place_found}
use Rattle.load_core.proofs.Using.{get_attached, keeps_read, reads}
use Rattle.load_core.proofs.board.Board.read_shared.Goals as goal

pub place_with-place-requires : goal.place_with-place-requires
place_with-place-requires c =
    let M : BoardState → Type 0 = λ b. MayAsk b c.args.pid (get c.args.serial c.requires.may.0 c.args.object c.args.offset (length c.args.into.now)) in
    place_found (board_state_in c.self.inside) c.self.inside.refs c.self.inside.table c.self.inside.keeper.given c.args.pid c.args.serial c.requires.may.0 c.self.invariant
    (get_attached (board_state_in c.self.inside) c.args.pid c.args.serial c.requires.may.0 c.args.object c.args.offset (length c.args.into.now) (subst M (sym c.self.view_is) c.requires.may.1))

grown : (c : goal.After-push_reserved) →
    c.push_reserved.new.self.items ≡ c.self.inside.history.items ++ record { pid = c.args.pid; deed = deeds.Shared c.args.serial c.module-module.result c.args.object c.args.offset c.in_ok-read.read.items } ∷ []
grown c =
    let E : List ℕ → Entry = λ bytes. record { pid = c.args.pid; deed = deeds.Shared c.args.serial c.module-module.result c.args.object c.args.offset bytes } in
    c.push_reserved.ensures.items ∙ ap (λ (h : List Entry). h ++ E c.from_vec.result ∷ []) c.reserve.ensures.items
    ∙ ap (λ (bytes : List ℕ). c.self.inside.history.items ++ E bytes ∷ []) c.from_vec.ensures

fixed : (c : goal.After-push_reserved) (k : ℕ) → MayAsk (board_state_in c.self.inside) c.args.pid (get c.args.serial k c.args.object c.args.offset (length c.args.into.now)) →
    c.args.into.now ≡ fixed_run (board_state_in c.self.inside) k c.args.object c.args.offset (length c.args.into.now)
fixed c k may =
    let M : BoardState → Type 0 = λ b. MayAsk b c.args.pid (get c.args.serial k c.args.object c.args.offset (length c.args.into.now)) in
    let F : BoardState → Type 0 = λ b. c.args.into.now ≡ fixed_run b k c.args.object c.args.offset (length c.args.into.now) in
    subst F (sym c.self.view_is) (c.requires.fixed k (subst M c.self.view_is may))

over : (c : goal.After-push_reserved) (writes : List Written) → Lays c.at-row.result.now.1.layers writes → c.in_ok-read.read.items ≡ bytes_under writes c.args.object c.args.offset c.args.into.now
over c =
    let O : ResidenceParts → Type 0 = λ b. (writes : List Written) → Lays b.layers writes → c.in_ok-read.read.items ≡ bytes_under writes c.args.object c.args.offset c.args.into.now in
    subst O c.beside.ensures c.in_ok-read.ensures.bytes

pub invariant_of-self-2 : goal.invariant_of-self-2
invariant_of-self-2 c =
    let M : BoardState → Type 0 = λ b. MayAsk b c.args.pid (get c.args.serial c.requires.may.0 c.args.object c.args.offset (length c.args.into.now)) in
    keeps_read (board_state_in c.self.inside) c.self.inside.refs c.self.inside.table c.self.inside.keeper.given c.args.pid c.args.serial c.module-module.result c.self.invariant c.requires.process
    c.place_with-place.result c.at-row.result.now c.place_with-place.ensures (sym c.at-row.ensures) c.module-module.ensures c.args.object c.args.offset c.args.into.now c.in_ok-read.read.items
    (fixed c) (over c) c.residences_stay.ensures.bases c.push_reserved.new.self.items (c.requires.may.0, subst M (sym c.self.view_is) c.requires.may.1) (grown c)

pub returns-clause-read : goal.returns-clause-read
returns-clause-read c k may =
    let M : BoardState → Type 0 = λ b. MayAsk b c.args.pid (get c.args.serial k c.args.object c.args.offset (length c.args.into.now)) in
    let R : BoardState → Type 0 = λ b. IsRead b (record (board_state_in c.self.inside) { history = c.push_reserved.new.self.items }) c.args.pid c.args.serial k c.args.object c.args.offset
    c.args.into.now c.copy_from_slice.new.self
    in
    subst R c.self.view_is
    (reads (board_state_in c.self.inside) c.self.inside.refs c.self.inside.table c.self.inside.keeper.given c.args.pid c.args.serial c.module-module.result c.self.invariant c.requires.process
    c.place_with-place.result c.at-row.result.now c.place_with-place.ensures (sym c.at-row.ensures) c.module-module.ensures c.args.object c.args.offset c.args.into.now c.in_ok-read.read.items
    (fixed c) (over c) c.push_reserved.new.self.items c.copy_from_slice.new.self (grown c) (c.copy_from_slice.ensures.after ∙ c.deref.ensures.value) k (subst M (sym c.self.view_is) may))
