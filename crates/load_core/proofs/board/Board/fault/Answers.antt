-- The first claim of a page is its fault.
use Rattle.std.proofs.Common.{◌∷◌, ◌++◌, [], List, true, false, is_some, sym, ◌∙◌, ap, subst}
use Rattle.load_model.specs.declared.deeds.Entry.{Entry}
use Rattle.load_model.specs.declared.commands.Ask.TheVariants.{Fault as fault}
use Rattle.load_core.specs.BoardState.{BoardState, MayAsk}
use Rattle.load_core.specs.Inside.{board_state_in}
use Rattle.load_core.specs.Told.{IsGiven, IsTaken}
use Rattle.load_core.proofs.Claiming.{place_found, fault_entry, Claims, keeps_given, is_given, keeps_taken, is_taken}
use Rattle.load_core.proofs.board.Board.fault.Goals as goal

pub place_with-place-requires : goal.place_with-place-requires
place_with-place-requires c =
    let M : BoardState → Type 0 = λ b. MayAsk b c.args.pid (fault c.args.serial c.requires.may.0 c.args.p) in
    place_found (board_state_in c.self.inside) c.self.inside.refs c.self.inside.table c.self.inside.keeper.given c.args.pid c.args.serial c.requires.may.0 c.args.p c.self.invariant
    (subst M (sym c.self.view_is) c.requires.may.1)

given : (c : goal.After-push_reserved) →
    Claims (board_state_in c.self.inside) c.self.inside.refs c.self.inside.table c.take_right.new.table c.self.inside.keeper.given c.args.pid c.args.serial c.module-module.result c.args.p
    c.place_with-place.result c.at.result.now true
given c =
    let M : BoardState → Type 0 = λ b. MayAsk b c.args.pid (fault c.args.serial c.requires.may.0 c.args.p) in
    record {
      kept = c.self.invariant;
      process = c.requires.process;
      may = (c.requires.may.0, subst M (sym c.self.view_is) c.requires.may.1);
      at = c.place_with-place.ensures;
      there = sym c.at.ensures;
      of_module = c.module-module.ensures;
      had = sym (ap is_some c.in-Some.is) ∙ c.take_right.ensures.given c.at.result.now (sym c.at.ensures);
      left = c.take_right.ensures.left c.at.result.now (sym c.at.ensures);
    }

taken : (c : goal.In-None) →
    Claims (board_state_in c.self.inside) c.self.inside.refs c.self.inside.table c.take_right.new.table c.self.inside.keeper.given c.args.pid c.args.serial c.module-module.result c.args.p
    c.place_with-place.result c.at.result.now false
taken c =
    let M : BoardState → Type 0 = λ b. MayAsk b c.args.pid (fault c.args.serial c.requires.may.0 c.args.p) in
    record {
      kept = c.self.invariant;
      process = c.requires.process;
      may = (c.requires.may.0, subst M (sym c.self.view_is) c.requires.may.1);
      at = c.place_with-place.ensures;
      there = sym c.at.ensures;
      of_module = c.module-module.ensures;
      had = sym (ap is_some c.in-None.is) ∙ c.take_right.ensures.given c.at.result.now (sym c.at.ensures);
      left = c.take_right.ensures.left c.at.result.now (sym c.at.ensures);
    }

pub invariant_of-self-in-Some : goal.invariant_of-self-in-Some
invariant_of-self-in-Some c =
    keeps_given c.fixable_pages_are_found.ensures.listed (board_state_in c.self.inside) c.self.inside.refs c.self.inside.table c.take_right.new.table c.self.inside.keeper.given c.args.pid c.args.serial
    c.module-module.result c.args.p c.place_with-place.result c.at.result.now c.residences_stay.ensures.bases c.push_reserved.new.self.items (given c)
    (c.push_reserved.ensures.items ∙ ap (λ (h : List Entry). h ++ fault_entry c.args.pid c.args.serial c.module-module.result c.args.p ∷ []) c.reserve.ensures.items)

pub invariant_of-self-in-None : goal.invariant_of-self-in-None
invariant_of-self-in-None c =
    keeps_taken c.fixable_pages_are_found.ensures.listed (board_state_in c.self.inside) c.self.inside.refs c.self.inside.table c.take_right.new.table c.self.inside.keeper.given c.args.pid c.args.serial
    c.module-module.result c.args.p c.place_with-place.result c.at.result.now c.reserve.new.self.items (taken c) c.reserve.ensures.items

pub returns-in-Some-clause-claim : goal.returns-in-Some-clause-claim
returns-in-Some-clause-claim c =
    let G : BoardState → Type 0 = λ b. IsGiven b (record (board_state_in c.self.inside) { history = c.push_reserved.new.self.items }) c.args.pid c.args.serial c.args.p c.in-Some.right in
    subst G c.self.view_is
    (is_given c.fixable_pages_are_found.ensures.listed (board_state_in c.self.inside) c.self.inside.refs c.self.inside.table c.take_right.new.table c.self.inside.keeper.given c.args.pid c.args.serial
    c.module-module.result c.args.p c.place_with-place.result c.at.result.now c.push_reserved.new.self.items c.in-Some.right (given c)
    (c.push_reserved.ensures.items ∙ ap (λ (h : List Entry). h ++ fault_entry c.args.pid c.args.serial c.module-module.result c.args.p ∷ []) c.reserve.ensures.items)
    (c.in-Some.ensures.right c.at.result.now (sym c.at.ensures)))

pub returns-in-None-clause-claim : goal.returns-in-None-clause-claim
returns-in-None-clause-claim c =
    let T : BoardState → Type 0 = λ b. IsTaken b (record (board_state_in c.self.inside) { history = c.reserve.new.self.items }) c.args.serial c.args.p in
    subst T c.self.view_is
    (is_taken c.fixable_pages_are_found.ensures.listed (board_state_in c.self.inside) c.self.inside.refs c.self.inside.table c.take_right.new.table c.self.inside.keeper.given c.args.pid c.args.serial
    c.module-module.result c.args.p c.place_with-place.result c.at.result.now c.reserve.new.self.items (taken c) c.reserve.ensures.items)
