-- A start or a load is done once its entry stands.
use Rattle.std.proofs.Common.{◌≡◌, ◌∷◌, ◌++◌, [], ℕ, ◌+◌, ◌-◌, ◌<◌, true, List, Option, Some, None, length, map, find, is_some, drop, sym, ◌∙◌, ap, subst, arith}
use Rattle.std.specs.Prelude.{All}
use Rattle.std.specs.List.{AllByRecursion}
use Rattle.std.proofs.lemmas.List.{length-append}
use Rattle.load_model.specs.declared.deeds.Deed.TheVariants as deeds
use Rattle.load_model.specs.declared.deeds.Entry.{Entry}
use Rattle.load_model.specs.Modules.{Library}
use Rattle.load_model.specs.State.{Residence, Eager}
use Rattle.load_model.specs.Initialising.{enter_deed}
use Rattle.load_model.specs.declared.commands.Ask.TheVariants.{Enter as enter}
use Rattle.mod_refs.specs.AllCounts.{AreCountsOfAll}
use Rattle.mod_refs.specs.Changes.{with_entered}
use Rattle.load_core.specs.BoardState.{BoardState, state_of, MayAsk, Adds}
use Rattle.load_core.specs.Kept.{Keeps}
use Rattle.load_core.specs.Enters.{IsArrival, AreNew, AreNumbered, IsAttached, failing_of, kept_from, kept_row, shared_of}
use Rattle.load_core.specs.Told.{IsLoaded}
use Rattle.load_core.specs.Inside.{board_state_in}
use Rattle.load_core.specs.declared.answers.Loaded.TheVariants as loaded
use Rattle.load_core.specs.declared.residence_parts.ResidenceParts.{ResidenceParts}
use Rattle.load_core.proofs.Arriving.{entered_deed, entry_with, adds_so, told_so, module_asked, is_idle, is_few, fresh_in}
use Rattle.load_core.proofs.Beginning.{keeps_entered, all_found, all_shown}
use Rattle.load_core.proofs.KeptFrom.{kept_joined, drop_joined, same_residences, new_residences, have_begun, new_numbers, new_count, attached_kept, handed_modules}
use Rattle.page_frames.specs.Residences.{Keeping, ResidenceFor}
use Rattle.residence_table.specs.Residences.{is_of_module}
use Rattle.load_model.specs.declared.deeds.Fresh.{Fresh}
use Rattle.load_model.specs.Entering.{joined}
use Rattle.load_core.proofs.board.Board.enter.Goals as goal
use Rattle.load_core.proofs.board.Board.enter.Goals.{After-drop-arrival-2}

pub new_residences-requires : goal.new_residences-requires
new_residences-requires c =
    let F : List Fresh → Type 0 = λ fs. All (λ f. f.«module» < length c.args.self.now.library) fs in
    subst F (sym c.as_slice.ensures) (fresh_in c.order_is_reach.ensures.within c.args.self.now c.args.at.pid c.args.at.how c.args.at.«module» c.args.arrival.fresh c.requires.may c.requires.arrival.placed)

pub attach-requires-clause-module : goal.attach-requires-clause-module
attach-requires-clause-module c =
    let M : BoardState → Type 0 = λ a. MayAsk a c.args.at.pid (enter c.args.at.how c.args.at.«module») in
    let L : Library → Type 0 = λ lib. c.args.at.«module» < length lib in
    subst L (sym c.deref-3.ensures) (module_asked (board_state_in c.self.inside) c.args.at.pid c.args.at.how c.args.at.«module» (subst M (sym c.self.view_is) c.requires.may))

pub attach-requires-clause-idle : goal.attach-requires-clause-idle
attach-requires-clause-idle c =
    let M : BoardState → Type 0 = λ a. MayAsk a c.args.at.pid (enter c.args.at.how c.args.at.«module») in
    is_idle (board_state_in c.self.inside) c.self.inside.refs c.args.at.pid c.args.at.how c.args.at.«module» c.self.invariant.reached c.requires.process (subst M (sym c.self.view_is) c.requires.may)

pub attach-requires-clause-few : goal.attach-requires-clause-few
attach-requires-clause-few c =
    let M : BoardState → Type 0 = λ a. MayAsk a c.args.at.pid (enter c.args.at.how c.args.at.«module») in
    is_few (board_state_in c.self.inside) c.self.inside.refs c.args.at.pid c.args.at.how c.args.at.«module» c.self.invariant.reached c.requires.process (subst M (sym c.self.view_is) c.requires.may)

pub all_attached-requires : goal.all_attached-requires
all_attached-requires c =
    let b = board_state_in c.self.inside in
    let new = c.in_ok-new_residences.new_residences.items in
    let A : BoardState → Type 0 = λ a. IsArrival a c.args.at c.args.arrival in
    let it = subst A (sym c.self.view_is) c.requires.arrival in
    let G : BoardState → Type 0 = λ a. AreNew a c.args.arrival.fresh c.args.arrival.fresh new in
    let F : List Fresh → Type 0 = λ fs. AreNew c.args.self.now fs fs new in
    let begun = subst G (sym c.self.view_is) (subst F c.as_slice.ensures c.in_ok-new_residences.ensures) in
    let N : List (Residence × ResidenceParts) → Type 0 = λ ss. All (λ k. is_some (find (is_of_module k) (c.self.inside.table ++ ss)) ≡ true) c.deref-2.result.now in
    let K : List ℕ → Type 0 = λ ks. All (λ k. is_some (find (is_of_module k) (c.self.inside.table ++ new)) ≡ true) ks in
    subst N (sym c.deref.ensures.value)
    (subst K (sym (c.deref-2.ensures.value ∙ it.joined))
    (all_found b c.self.inside.refs c.self.inside.table new c.self.inside.keeper.given c.args.at.pid c.args.at.«module» c.args.arrival.fresh c.self.invariant it.placed
    (new_residences b c.args.arrival.fresh c.args.arrival.fresh new begun)))

pub keep_from-requires-clause-first : goal.keep_from-requires-clause-first
keep_from-requires-clause-first c =
    let new = c.in_ok-new_residences.new_residences.items in
    omega (arith, ap length c.rows-first.ensures, ap length c.in_ok-begin.ensures, length-append c.self.inside.table new)

pub keep_from-requires-clause-numbered : goal.keep_from-requires-clause-numbered
keep_from-requires-clause-numbered c =
    let b = board_state_in c.self.inside in
    let new = c.in_ok-new_residences.new_residences.items in
    let A : BoardState → Type 0 = λ a. IsArrival a c.args.at c.args.arrival in
    let it = subst A (sym c.self.view_is) c.requires.arrival in
    let G : BoardState → Type 0 = λ a. AreNew a c.args.arrival.fresh c.args.arrival.fresh new in
    let F : List Fresh → Type 0 = λ fs. AreNew c.args.self.now fs fs new in
    let begun = subst G (sym c.self.view_is) (subst F c.as_slice.ensures c.in_ok-new_residences.ensures) in
    let given = c.self.inside.keeper.given in
    let N : ℕ → Type 0 = λ n. AreNumbered n new in
    let D : List (Residence × ResidenceParts) → List (Residence × ResidenceParts) → Type 0 = λ rs ts. AreNumbered given (drop (length rs) ts) in
    subst (λ (rs : List (Residence × ResidenceParts)). D rs c.begin.new.self) (sym c.rows-first.ensures)
    (subst (D c.self.inside.table) (sym c.in_ok-begin.ensures)
    (subst (AreNumbered given) (sym (drop_joined c.self.inside.table new))
    (subst N (sym c.self.invariant.given) (new_numbers b c.args.at.pid c.args.at.«module» c.args.arrival.fresh new it.placed begun))))

pub hand_out-requires-clause-attached : goal.hand_out-requires-clause-attached
hand_out-requires-clause-attached c =
    let b = board_state_in c.self.inside in
    let new = c.in_ok-new_residences.new_residences.items in
    let tables : c.keep_from.new.table ≡ c.self.inside.table ++ map (kept_row b.keeper) new =
    c.keep_from.ensures.table ∙ ap (λ (ts : List (Residence × ResidenceParts)). kept_from b.keeper (length ts) c.begin.new.self) c.rows-first.ensures
    ∙ ap (kept_from b.keeper (length c.self.inside.table)) c.in_ok-begin.ensures ∙ kept_joined b.keeper c.self.inside.table new
    in
    let T : List (Residence × ResidenceParts) → Type 0 = λ ts. AllByRecursion (IsAttached ts) c.in_ok-attached.attached.items in
    let N : List (Residence × ResidenceParts) → Type 0 = λ ss. AllByRecursion (IsAttached (c.self.inside.table ++ ss)) c.in_ok-attached.attached.items in
    subst T (sym tables) (attached_kept b.keeper c.self.inside.table new c.in_ok-attached.attached.items (subst N c.deref.ensures.value c.in_ok-attached.ensures.frames))

deed : (c : After-drop-arrival-2) → enter_deed (board_state_in c.self.inside).library (state_of (board_state_in c.self.inside)) c.args.at.pid c.args.at.how c.args.at.«module»
    ≡ deeds.Enter c.args.at.how c.args.at.«module» c.args.arrival.fresh c.args.arrival.calls
deed c =
    let b = board_state_in c.self.inside in
    let A : BoardState → Type 0 = λ a. IsArrival a c.args.at c.args.arrival in
    let N : BoardState → Type 0 = λ a. failing_of a c.args.at c.args.arrival ≡ None in
    let it = subst A (sym c.self.view_is) c.requires.arrival in
    entered_deed b.library (state_of b) c.args.at.pid c.args.at.how c.args.at.«module» c.args.arrival.fresh None it.placed (subst N (sym c.self.view_is) c.requires.fine)
    ∙ ap (deeds.Enter c.args.at.how c.args.at.«module» c.args.arrival.fresh) (sym it.calls)

grown : (c : After-drop-arrival-2) → c.push_reserved.new.self.items
    ≡ c.self.inside.history.items ++ entry_with c.args.at.pid (deeds.Enter c.args.at.how c.args.at.«module» c.args.arrival.fresh c.args.arrival.calls) ∷ []
grown c =
    let x : Entry = entry_with c.args.at.pid (deeds.Enter c.args.at.how c.args.at.«module» c.args.arrival.fresh c.args.arrival.calls) in
    c.push_reserved.ensures.items ∙ ap (λ (h : List Entry). h ++ x ∷ []) c.reserve.ensures.items

pub invariant_of-self-2 : goal.invariant_of-self-2
invariant_of-self-2 c =
    let b = board_state_in c.self.inside in
    let new = c.in_ok-new_residences.new_residences.items in
    let A : BoardState → Type 0 = λ a. IsArrival a c.args.at c.args.arrival in
    let it = subst A (sym c.self.view_is) c.requires.arrival in
    let G : BoardState → Type 0 = λ a. AreNew a c.args.arrival.fresh c.args.arrival.fresh new in
    let F : List Fresh → Type 0 = λ fs. AreNew c.args.self.now fs fs new in
    let begun = subst G (sym c.self.view_is) (subst F c.as_slice.ensures c.in_ok-new_residences.ensures) in
    let tables : c.keep_from.new.table ≡ c.self.inside.table ++ map (kept_row b.keeper) new =
    c.keep_from.ensures.table ∙ ap (λ (ts : List (Residence × ResidenceParts)). kept_from b.keeper (length ts) c.begin.new.self) c.rows-first.ensures
    ∙ ap (kept_from b.keeper (length c.self.inside.table)) c.in_ok-begin.ensures ∙ kept_joined b.keeper c.self.inside.table new
    in
    let M : BoardState → Type 0 = λ a. MayAsk a c.args.at.pid (enter c.args.at.how c.args.at.«module») in
    let R : Library → Type 0 = λ lib. (e : Eager) → AreCountsOfAll lib e c.self.inside.refs → AreCountsOfAll lib (with_entered lib e c.args.at.pid c.args.at.how c.args.at.«module») c.attach.new.refs in
    let x : Entry = entry_with c.args.at.pid (deeds.Enter c.args.at.how c.args.at.«module» c.args.arrival.fresh c.args.arrival.calls) in
    let given = c.self.inside.keeper.given + (length c.begin.new.self - length c.rows-first.result.now) in
    let firsts = ap length c.rows-first.ensures in
    let alls = ap length c.in_ok-begin.ensures in
    let long = length-append c.self.inside.table new in
    let count = new_count b c.args.arrival.fresh c.args.arrival.fresh new begun in
    let was = c.self.invariant.given in
    let gives : given ≡ (state_of b).serials + length c.args.arrival.fresh = omega (arith, firsts, alls, long, count, was) in
    let K : Keeping → Type 0 = λ k. Keeps (record b { history = c.push_reserved.new.self.items; keeper = k.name }) c.attach.new.refs c.keep_from.new.table k.given in
    let H : List Entry → Type 0 = λ h. Keeps (record b { history = h }) c.attach.new.refs c.keep_from.new.table given in
    let S : List (Residence × ResidenceParts) → Type 0 = λ ss. Keeps (record b { history = c.self.inside.history.items ++ x ∷ [] }) c.attach.new.refs ss given in
    subst K (sym c.keep_from.ensures.keeper)
    (subst H (sym (grown c))
    (subst S (sym tables)
    (keeps_entered c.residences_stay.ensures.bases b c.self.inside.refs c.attach.new.refs c.self.inside.table (map (kept_row b.keeper) new) c.self.inside.keeper.given given
    c.args.at.pid c.args.at.how c.args.at.«module» c.args.arrival.fresh c.args.arrival.calls c.self.invariant c.requires.process (subst M (sym c.self.view_is) c.requires.may) (deed c) it.placed
    (have_begun b c.args.arrival.fresh c.args.arrival.fresh new begun) (subst R c.deref-3.ensures c.attach.ensures (state_of b) c.self.invariant.reached) gives)))

pub returns-clause-entry : goal.returns-clause-entry
returns-clause-entry c =
    let b = board_state_in c.self.inside in
    let A : BoardState → Type 0 = λ a. Adds a (record b { history = c.push_reserved.new.self.items }) c.args.at.pid (enter c.args.at.how c.args.at.«module») in
    let N : Keeping → Type 0 = λ k. Adds c.args.self.now (record b { history = c.push_reserved.new.self.items; keeper = k.name }) c.args.at.pid (enter c.args.at.how c.args.at.«module») in
    subst N (sym c.keep_from.ensures.keeper)
    (subst A c.self.view_is
    (adds_so b c.args.at.pid c.args.at.how c.args.at.«module»
    (deeds.Enter c.args.at.how c.args.at.«module» c.args.arrival.fresh c.args.arrival.calls) c.push_reserved.new.self.items (deed c) (grown c)))

pub returns-clause-answer : goal.returns-clause-answer
returns-clause-answer c =
    let b = board_state_in c.self.inside in
    let new = c.in_ok-new_residences.new_residences.items in
    let A : BoardState → Type 0 = λ a. IsArrival a c.args.at c.args.arrival in
    let it = subst A (sym c.self.view_is) c.requires.arrival in
    let G : BoardState → Type 0 = λ a. AreNew a c.args.arrival.fresh c.args.arrival.fresh new in
    let F : List Fresh → Type 0 = λ fs. AreNew c.args.self.now fs fs new in
    let begun = subst G (sym c.self.view_is) (subst F c.as_slice.ensures c.in_ok-new_residences.ensures) in
    let tables : c.keep_from.new.table ≡ c.self.inside.table ++ map (kept_row b.keeper) new =
    c.keep_from.ensures.table ∙ ap (λ (ts : List (Residence × ResidenceParts)). kept_from b.keeper (length ts) c.begin.new.self) c.rows-first.ensures
    ∙ ap (kept_from b.keeper (length c.self.inside.table)) c.in_ok-begin.ensures ∙ kept_joined b.keeper c.self.inside.table new
    in
    let after : BoardState = record b { history = c.push_reserved.new.self.items; keeper = c.keep_from.new.keeper.name } in
    let ks = joined b.library (state_of b) c.args.at.pid c.args.at.«module» in
    let into = c.hand_out.new.into.items in
    let P : List (Residence × ResidenceParts) → Type 0 = λ ts. All (λ k. is_some (find (is_of_module k) ts) ≡ true) ks in
    let found =
    subst P (sym tables)
    (all_found b c.self.inside.refs c.self.inside.table (map (kept_row b.keeper) new) c.self.inside.keeper.given c.args.at.pid c.args.at.«module» c.args.arrival.fresh c.self.invariant it.placed
    (same_residences b.keeper new ∙ new_residences b c.args.arrival.fresh c.args.arrival.fresh new begun))
    in
    let J : List ℕ → List (Option ResidenceFor) = λ js. map (shared_of c.keep_from.new.table) js in
    let same : map Some into ≡ J ks =
    c.hand_out.ensures ∙ handed_modules c.keep_from.new.table c.in_ok-attached.attached.items ∙ ap J (c.in_ok-attached.ensures.modules ∙ c.deref-2.ensures.value ∙ it.joined)
    in
    let L : BoardState → Type 0 = λ a. IsLoaded a after c.args.at.pid c.args.at.how c.args.at.«module» (loaded.Done c.hand_out.new.into) in
    subst L c.self.view_is
    (told_so b after c.args.at.pid c.args.at.how c.args.at.«module» (deeds.Enter c.args.at.how c.args.at.«module» c.args.arrival.fresh c.args.arrival.calls) (loaded.Done c.hand_out.new.into) (deed c)
    (all_shown after c.attach.new.refs c.keep_from.new.table c.keep_from.new.keeper.given into ks (invariant_of-self-2 c) found same))
