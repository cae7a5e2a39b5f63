-- What a turn comes to.
use Rattle.proc_core.proofs.Words.{◌+◌, ◌++◌, [], About, AcceptedMayAsk, ap, Ask, asks_for, AsksFor, at_front, BoardState, call_refusal, Command, Did, drawing, Eager, Entered, entered_by, Entry, entry_of, Failing, failing_in}
use Rattle.proc_core.proofs.Words.{false, FitsPlace, fixed_bytes, front_of, giving, HasCome, Holding, Holds, inr, is_among, IsIdle, IsLegal, Known, length, Library, List, Made, mapped_pages, may_ask, NamesAreKnown, None}
use Rattle.proc_core.proofs.Words.{OneMoreIsLegal, Outcome, Parts, pids, ProcessView, ProcState, refl, refusal_of, RefusedByView, RefusedIsTold, seeing, Some, stands_under, StandsAt, state_after, state_for, state_with, subst, sym}
use Rattle.proc_core.proofs.Words.{touched_after, TouchedIsApart, true, uses_touched, Waited, with_entry, without_room, ℕ, ◌∙◌, ◌∷◌, ◌≡◌}
use Rattle.load_model.specs.declared.commands.Command.TheVariants as commands
use Rattle.load_model.specs.ViewAnswers.{view_refusal}
use Rattle.proc_core.proofs.Others.{own_entries, own_one}

-- the board in the turn of a process
abbrev pub board_state : ProcState → ℕ → List Entry → BoardState
board_state p keeper more = record (front_of p) { history = p.known.seen ++ more; keeper = keeper }

-- the process after a turn
abbrev pub turned : ProcState → List Entry → ProcessView → ProcState
turned p h w = record { lock = p.lock; known = record p.known { seen = h; mine = own_entries p.known.pid h; drawn = p.known.drawn + 1 }; view = w }

-- the pass is idle again
pub idle_again : (k : Known Entry About) (t : ℕ) (h g : List Entry) → k.ticket ≡ None → k.turn ≡ false →
    giving (λ (x : Entry). x.pid) g (seeing h (drawing t k)) ≡ record k { seen = g; mine = own_entries k.pid g; drawn = k.drawn + 1 }
idle_again k t h g ticket turn =
    ap (λ u. record k { seen = g; mine = own_entries k.pid g; drawn = k.drawn + 1; ticket = u; turn = false }) (sym ticket)
    ∙ ap (λ u. record k { seen = g; mine = own_entries k.pid g; drawn = k.drawn + 1; turn = u }) (sym turn)

-- ---- a view with more room

pub roomless : (b : BoardState) (v w : ProcessView) → without_room w ≡ without_room v → StandsAt b v → StandsAt b w
roomless b v w same stands =
    let bare : StandsAt b (without_room v) = record { library = stands.library; residences = stands.residences; stands = stands.stands; shown = stands.shown } in
    let moved : StandsAt b (without_room w) = subst (StandsAt b) (sym same) bare in
    record { library = moved.library; residences = moved.residences; stands = moved.stands; shown = moved.shown }

-- ---- after the turn

-- the process after a turn, where its view stands for what it has seen
pub turned_holds : (p : ProcState) (c : BoardState) (w : ProcessView) → Holds p → w.library ≡ p.view.library → w.holding.pid ≡ p.view.holding.pid → c.library ≡ p.view.library → c.failing ≡ failing_in p.known.subject →
    IsLegal c → StandsAt c w → Holds (turned p c.history w)
turned_holds p c w holds library pid same_library same_failing legal stands =
    let front : front_of (turned p c.history w) ≡ record c { keeper = 0 } =
    ap (λ (l : List Parts). record { library = l; failing = failing_in p.known.subject; history = c.history; keeper = 0 }) (library ∙ sym same_library)
    ∙ ap (λ (f : Failing). record { library = c.library; failing = f; history = c.history; keeper = 0 }) (sym same_failing)
    in
    record {
      process = subst (λ (n : ℕ). is_among pids n ≡ true) (sym pid) holds.process;
      number = pid ∙ holds.number;
      about = holds.about ∙ ap (λ (l : List Parts). Some (record { library = l; failing = failing_in p.known.subject })) (sym library);
      legal = subst IsLegal (sym front) legal;
      own = refl;
      stands = subst (λ (l : BoardState). StandsAt l w) (sym front) (stands_under c 0 w stands);
      apart = holds.apart;
    }

-- ---- nothing was done

pub idle_holds : (p : ProcState) (b c : BoardState) (v w : ProcessView) → Holds p → HasCome p b v → IsIdle b c v w → Holds (turned p c.history w)
idle_holds p b c v w holds come idle =
    let bare : without_room w ≡ without_room (at_front (length b.history) p.view) = idle.1 ∙ ap without_room come.view in
    let at : StandsAt c w = subst (λ (l : BoardState). StandsAt l w) (sym idle.0) (roomless b v w idle.1 come.stands) in
    turned_holds p c w holds (ap (λ (u : ProcessView). u.library) bare) (ap (λ (u : ProcessView). u.holding.pid) bare) (ap (λ (l : BoardState). l.library) (idle.0 ∙ come.is)) (ap (λ (l : BoardState). l.failing) (idle.0 ∙ come.is))
    (subst IsLegal (sym idle.0) come.legal) at

pub idle_waited : (p : ProcState) (b c : BoardState) (v w : ProcessView) → HasCome p b v → IsIdle b c v w → Waited p (turned p c.history w)
idle_waited p b c v w come idle =
    let history : c.history ≡ p.known.seen ++ come.more = ap (λ (l : BoardState). l.history) (idle.0 ∙ come.is) in
    record {
      pass = record { lock = refl; known = refl };
      more = come.more;
      others = come.others;
      seen = history;
      mine = ap (λ (l : BoardState). own_entries p.known.pid l.history) idle.0 ∙ come.mine;
      drawn = inr refl;
      view = idle.1 ∙ (ap without_room come.view ∙ ap (λ (l : BoardState). without_room (at_front (length l.history) p.view)) (sym idle.0));
    }

-- ---- the command was carried out

pub record Laws : Type 0 where
  pub known : NamesAreKnown
  pub refusals : RefusedByView
  pub told : RefusedIsTold
  pub may : AcceptedMayAsk
  pub apart : TouchedIsApart
  pub grows : OneMoreIsLegal

did_here : (p : ProcState) (b c : BoardState) (v w : ProcessView) (command : Command) (outcome : Outcome) → (come : HasCome p b v) → Did b c v w command outcome →
    Did (board_state p b.keeper come.more) c (at_front (length (p.known.seen ++ come.more)) p.view) w command outcome
did_here p b c v w command outcome come did =
    subst (λ (l : BoardState). Did l c (at_front (length l.history) p.view) w command outcome) come.is (subst (λ (u : ProcessView). Did b c u w command outcome) come.view did)

stands_here : (p : ProcState) (b : BoardState) (v : ProcessView) → (come : HasCome p b v) → StandsAt (board_state p b.keeper come.more) (at_front (length (p.known.seen ++ come.more)) p.view)
stands_here p b v come = subst (λ (l : BoardState). StandsAt l (at_front (length l.history) p.view)) come.is (subst (StandsAt b) come.view come.stands)

-- the entry of what was asked
abbrev entry_here : (p : ProcState) (more : List Entry) (ask : Ask) → Entry
entry_here p more ask = entry_of (board_state p 0 more) p.view.holding.pid ask

view_accepts : RefusedByView → (v : ProcessView) (b : BoardState) (command : Command) → view_refusal v.library v.holding command ≡ None → StandsAt b v → v.library ≡ b.library →
    refusal_of b.library (state_for b.library b.failing v.holding b.history) v.holding.pid command ≡ None
view_accepts refusals v b command accepted stands library =
    refusals b.library b.failing (fixed_bytes b.library) v.holding b.history command stands.stands ∙ (ap (λ (l : List Parts). view_refusal l v.holding command) (sym library) ∙ accepted)

-- how many entries it was shown decides no refusal
pub fronts_alike : (lib : Library) (v : Holding) (n : ℕ) (command : Command) → view_refusal lib (record v { front = n }) command ≡ view_refusal lib v command
unfolding view_refusal
fronts_alike lib v n (commands.Start name) = refl
fronts_alike lib v n (commands.Load name) = refl
fronts_alike lib v n (commands.Free name) = refl
fronts_alike lib v n (commands.Touch at) = refl
fronts_alike lib v n (commands.Peek at) = refl
fronts_alike lib v n (commands.Shared at) = refl
fronts_alike lib v n (commands.Write at bytes) = refl
fronts_alike lib v n (commands.Debug at bytes) = refl
fronts_alike lib v n (commands.Query name key) = refl
fronts_alike lib v n (commands.GetRes name ty id) = refl
fronts_alike lib v n commands.Exit = refl

pub did_made : Laws → (p : ProcState) (b c : BoardState) (v w : ProcessView) (command : Command) (outcome : Outcome) → Holds p → (come : HasCome p b v) → FitsPlace command → call_refusal p command ≡ None →
    view_refusal p.view.library p.view.holding command ≡ None → Did b c v w command outcome → Made p (turned p c.history w) command outcome
did_made laws p b c v w command outcome holds come fits accepted seen_fine first =
    let did = did_here p b c v w command outcome come first in
    let stands = stands_here p b v come in
    let lib : Library = p.view.library in
    let h : List Entry = p.known.seen ++ come.more in
    let now : ProcessView = at_front (length h) p.view in
    let pid : ℕ = p.view.holding.pid in
    let f : Eager = state_after lib (failing_in p.known.subject) h in
    let e : Eager = state_with lib (failing_in p.known.subject) h (mapped_pages p.view.holding) in
    let front_fine : view_refusal lib now.holding command ≡ None = fronts_alike lib p.view.holding (length h) command ∙ seen_fine in
    let fine : refusal_of lib e pid command ≡ None = view_accepts laws.refusals now (board_state p b.keeper come.more) command front_fine stands refl in
    let may : may_ask lib f pid did.ask ≡ true =
    sym (laws.apart lib (fixed_bytes lib) f (λ q. mapped_pages p.view.holding) pid did.ask).0 ∙ (laws.may lib (fixed_bytes lib) e pid command did.ask fits fine did.asked).0 in
    let x : Entry = entry_here p come.more did.ask in
    let said : Entered e pid did.ask x.deed = entered_by lib (fixed_bytes lib) e f pid command did.ask fits fine did.asked may in
    let history : c.history ≡ h ++ x ∷ [] = ap (λ (l : BoardState). l.history) did.adds in
    let before : own_entries p.known.pid h ≡ p.known.mine = sym (ap (λ (l : BoardState). own_entries p.known.pid l.history) come.is) ∙ come.mine in
    record {
      pass = record { lock = refl; known = refl };
      accepted = accepted;
      more = come.more;
      entry = x;
      others = come.others;
      seen = history;
      mine = ap (own_entries p.known.pid) history ∙ (own_one p.known.pid h x holds.number ∙ ap (λ (xs : List Entry). xs ++ x ∷ []) before);
      drawn = refl;
      own = holds.number;
      asked = subst (AsksFor lib command) (sym said.again) (asks_for laws.known lib e pid command did.ask fine did.asked);
      command_entry = said.command;
      follows = did.follows;
      uses = subst (λ (n : ℕ). uses_touched e n x.deed ≡ true) holds.number said.uses;
      answered = did.told;
      library = did.library;
      mapped = subst (λ (n : ℕ). mapped_pages w.holding ≡ touched_after lib f n x.deed (λ _. mapped_pages p.view.holding) n) holds.number did.mapped;
    }

pub did_holds : Laws → (p : ProcState) (b c : BoardState) (v w : ProcessView) (command : Command) (outcome : Outcome) → Holds p → (come : HasCome p b v) → Did b c v w command outcome → Holds (turned p c.history w)
did_holds laws p b c v w command outcome holds come did =
    let same : c ≡ with_entry b (entry_of b v.holding.pid did.ask) = did.adds in
    let legal : IsLegal c =
    subst IsLegal (sym same) (laws.grows b.library b.failing (fixed_bytes b.library) b.history (entry_of b v.holding.pid did.ask) come.legal did.follows) in
    turned_holds p c w holds (did.library ∙ ap (λ (u : ProcessView). u.library) come.view) (did.pid ∙ ap (λ (u : ProcessView). u.holding.pid) come.view)
    (ap (λ (l : BoardState). l.library) same ∙ ap (λ (l : BoardState). l.library) come.is) (ap (λ (l : BoardState). l.failing) same ∙ ap (λ (l : BoardState). l.failing) come.is) legal did.stands
