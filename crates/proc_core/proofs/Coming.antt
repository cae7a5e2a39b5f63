-- The board comes to a process.
use Rattle.proc_core.proofs.Words.{◌++◌, About, about_of, ap, AreOthers, at_front, BoardState, Entry, Failing, failing_in, fixed_bytes, HasCome, Holds, IsLegal, IsPrefix, length, Library, List, ProcessView, ProcState, refl}
use Rattle.proc_core.proofs.Words.{residences_reached, same_Some, Some, StandsAt, StandsOn, state_after, subst, sym, ℕ, ◌∙◌, ◌≡◌}
use Rattle.proc_core.proofs.Others.{own_entries, others_after}
use Rattle.proc_core.proofs.ShownOn.{Laws, shown_on}
use Rattle.proc_core.proofs.Made.{board_state}

stands_later : Laws → StandsOn → (p : ProcState) → Holds p → (more : List Entry) → (keeper : ℕ) → IsLegal (board_state p keeper more) → AreOthers p.known.pid more → StandsAt (board_state p keeper more) (at_front (length (p.known.seen ++ more)) p.view)
stands_later laws on p holds more keeper legal others =
    let lib : Library = p.view.library in
    let failing : Failing = failing_in p.known.subject in
    let apart : AreOthers p.view.holding.pid more = subst (λ (n : ℕ). AreOthers n more) (sym holds.number) others in
    let at : StandsAt (record { library = lib; failing = failing; history = p.known.seen; keeper = 0 }) p.view = holds.stands in
    record {
      library = refl;
      residences = at.residences;
      stands = on lib failing (fixed_bytes lib) p.view.holding p.known.seen more holds.process at.stands legal apart;
      shown = shown_on laws lib failing (fixed_bytes lib) p.view.holding.pid p.view.residences more p.known.seen holds.process legal apart
          (residences_reached lib (fixed_bytes lib) p.view.holding (state_after lib failing p.known.seen) p.view.residences at.stands.view at.residences) at.shown;
    }

pub has_come : Laws → StandsOn → (p : ProcState) → Holds p → (b : BoardState) → IsLegal b → IsPrefix p.known.seen b.history → own_entries p.known.pid b.history ≡ p.known.mine →
    p.known.subject ≡ Some (record { library = b.library; failing = b.failing }) → (v : ProcessView) → v ≡ at_front (length b.history) p.view → HasCome p b v
has_come laws on p holds b legal seen mine about v view =
    let more : List Entry = seen.0 in
    let same : record { library = b.library; failing = b.failing } ≡ about_of p = same_Some _ _ (sym about ∙ holds.about) in
    let is : b ≡ board_state p b.keeper more =
    ap (λ (a : About). record { library = a.library; failing = a.failing; history = b.history; keeper = b.keeper }) same
    ∙ ap (λ (h : List Entry). record { library = p.view.library; failing = failing_in p.known.subject; history = h; keeper = b.keeper }) (sym seen.1) in
    let others : AreOthers p.known.pid more = others_after p.known.pid p.known.seen more p.known.mine holds.own (ap (own_entries p.known.pid) seen.1 ∙ mine) in
    let later = stands_later laws on p holds more b.keeper (subst IsLegal is legal) others in
    record {
      more = more;
      others = others;
      mine = mine;
      is = is;
      view = view;
      stands = subst (StandsAt b) (sym view) (subst (λ (l : BoardState). StandsAt l (at_front (length l.history) p.view)) (sym is) later);
      legal = legal;
    }
