-- Views of others stand while the process of one goes on.
use Rattle.std.proofs.Common.{◌≡◌, ℕ, ◌+◌, ◌<◌, ◌≤◌, ◌⊎◌, ◌≢◌, true, List, [], ◌∷◌, ◌++◌, length, get_or, set, inl, inr, refl, sym, ap, ◌∙◌, subst, arith, ne_eqb, length-set, get_or-set_same, get_or-set_other}
use Rattle.std.specs.List.{AllByRecursion}
use Rattle.std.proofs.lemmas.Bool.{cases_eq}
use Rattle.std.proofs.lemmas.List.{length_push}
use Rattle.load_model.specs.declared.deeds.Entry.{Entry}
use Rattle.load_model.specs.Modules.{Library, fixed_bytes}
use Rattle.load_model.specs.State.{pids, is_among}
use Rattle.load_model.specs.Histories.{state_after}
use Rattle.load_model.specs.Laws.{NothingIsLegal}
use Rattle.load_model.specs.ViewLaws.{StandsOn, NewStands}
use Rattle.load_core.specs.BoardState.{BoardState, IsLegal}
use Rattle.process_view.specs.ProcessViews.{ProcessView, at_front, new_view}
use Rattle.proc_core.specs.Calls.{AreOthers}
use Rattle.proc_core.proofs.Beginnings.{among, each_more}
use Rattle.process_view.proofs.Shown.{stands_under}
use Rattle.process_view.proofs.ShownAlike.{residences_reached}
use Rattle.proc_core.proofs.ShownOn.{Laws, shown_on}
use Rattle.stepped_runs.specs.OneThread.{StandsShown, CanGoOn, WentOn, AreViews}

-- ---- another process

others_of : (pid own : ℕ) (more : List Entry) → pid ≢ own → AllByRecursion (λ (x : Entry). x.pid ≡ own) more → AreOthers pid more
others_of pid own [] differ all = tt
others_of pid own (x ∷ more) differ all = (ne_eqb pid x.pid (λ e. differ (e ∙ all.0)), others_of pid own more differ all.1)

stands_after : Laws → StandsOn → (b : BoardState) (v : ProcessView) (more : List Entry) → is_among pids v.holding.pid ≡ true → IsLegal (record b { history = b.history ++ more }) → AreOthers v.holding.pid more → StandsShown b v →
    StandsShown (record b { history = b.history ++ more }) v
stands_after laws on b v more there legal others stands =
    let shown : ProcessView = at_front (length b.history) v in
    let lib : Library = b.library in
    record {
      library = stands.library;
      residences = stands.residences;
      stands = on lib b.failing (fixed_bytes lib) shown.holding b.history more there stands.stands legal others;
      shown = shown_on laws lib b.failing (fixed_bytes lib) v.holding.pid v.residences more b.history there legal others
          (residences_reached lib (fixed_bytes lib) shown.holding (state_after lib b.failing b.history) v.residences stands.stands.view stands.residences) stands.shown;
    }

other_stands : Laws → StandsOn → (b c : BoardState) (v w u : ProcessView) → WentOn b c v w → IsLegal c → is_among pids u.holding.pid ≡ true → u.holding.pid ≢ v.holding.pid → StandsShown b u → StandsShown c u
other_stands laws on b c v w u went legal there differ stands =
    let is : c ≡ record b { history = b.history ++ went.more; keeper = c.keeper } =
    ap (λ l. record { library = l; failing = c.failing; history = c.history; keeper = c.keeper }) went.library
    ∙ (ap (λ f. record { library = b.library; failing = f; history = c.history; keeper = c.keeper }) went.failing ∙ ap (λ (h : List Entry). record { library = b.library; failing = b.failing; history = h; keeper = c.keeper }) went.history)
    in
    subst (λ (l : BoardState). StandsShown l u) (sym is)
    (stands_under (record b { history = b.history ++ went.more }) c.keeper (at_front (length (b.history ++ went.more)) u)
    (stands_after laws on b u went.more there (subst IsLegal is legal) (others_of u.holding.pid v.holding.pid went.more differ went.own) stands))

-- ---- all views

pub can_at : (b : BoardState) (vs : List ProcessView) (k : ℕ) (v : ProcessView) → AreViews b vs → k < length vs → v ≡ get_or vs k v → CanGoOn b v
can_at b vs k v are within at =
    let pid : v.holding.pid ≡ k + 1 = ap (λ (x : ProcessView). x.holding.pid) at ∙ are.numbers k v within in
    let few = are.few in
    record {
      process = subst (λ (n : ℕ). is_among pids n ≡ true) (sym pid) (among (k + 1) (omega arith) (omega arith));
      stands = subst (StandsShown b) (sym at) (are.stand k v within);
    }

pub views_on : Laws → StandsOn → (b c : BoardState) (vs : List ProcessView) (k : ℕ) (v w : ProcessView) → AreViews b vs → k < length vs → v ≡ get_or vs k v → WentOn b c v w → IsLegal c → AreViews c (set vs k w)
views_on laws on b c vs k v w are within at went legal = record {
  few = (let few = are.few in let long = length-set vs k w in omega arith);
  numbers = λ i d inside. number_at i d (omega (arith, inside, length-set vs k w)) (cases_eq i k);
  stand = λ i d inside. stand_at i d (omega (arith, inside, length-set vs k w)) (cases_eq i k);
}
  where
    pid : v.holding.pid ≡ k + 1
    pid = ap (λ (x : ProcessView). x.holding.pid) at ∙ are.numbers k v within

    here : (i : ℕ) (d : ProcessView) → i ≡ k → get_or (set vs k w) i d ≡ w
    here i d e = ap (λ (j : ℕ). get_or (set vs k w) j d) e ∙ get_or-set_same vs k w d within

    number_at : (i : ℕ) (d : ProcessView) → i < length vs → (i ≡ k) ⊎ (i ≢ k) → (get_or (set vs k w) i d).holding.pid ≡ i + 1
    number_at i d inside (inl e) = ap (λ (x : ProcessView). x.holding.pid) (here i d e) ∙ (went.pid ∙ (pid ∙ ap (λ (j : ℕ). j + 1) (sym e)))
    number_at i d inside (inr e) = ap (λ (x : ProcessView). x.holding.pid) (get_or-set_other vs k i w d e) ∙ are.numbers i d inside

    stand_at : (i : ℕ) (d : ProcessView) → i < length vs → (i ≡ k) ⊎ (i ≢ k) → StandsShown c (get_or (set vs k w) i d)
    stand_at i d inside (inl e) = subst (StandsShown c) (sym (here i d e)) went.stands
    stand_at i d inside (inr e) =
        let u : ProcessView = get_or vs i d in
        let own : u.holding.pid ≡ i + 1 = are.numbers i d inside in
        let few = are.few in
        let differ : u.holding.pid ≢ v.holding.pid = λ same. e (let both : i + 1 ≡ k + 1 = sym own ∙ (same ∙ pid) in omega (arith, both)) in
        let there : is_among pids u.holding.pid ≡ true = subst (λ (n : ℕ). is_among pids n ≡ true) (sym own) (among (i + 1) (omega arith) (omega arith)) in
        subst (StandsShown c) (sym (get_or-set_other vs k i w d e)) (other_stands laws on b c v w u went legal there differ (are.stand i d inside))

-- ---- views of processes that have done nothing

pub no_views : (b : BoardState) → AreViews b []
no_views b = record { few = omega arith; numbers = λ k d within. absurd (omega (arith, within)); stand = λ k d within. absurd (omega (arith, within)) }

new_stands : NothingIsLegal → NewStands → (b : BoardState) (pid : ℕ) → b.history ≡ [] → StandsShown b (new_view b.library pid)
new_stands legal stands b pid none =
    subst (λ (h : List Entry). StandsShown (record b { history = h }) (new_view b.library pid)) (sym none)
    (record { library = refl; residences = refl; stands = stands b.library b.failing (fixed_bytes b.library) pid; shown = tt })

pub one_view_more : NothingIsLegal → NewStands → (b : BoardState) (vs : List ProcessView) (pid : ℕ) (v : ProcessView) → b.history ≡ [] → length vs + 1 ≡ pid → pid ≤ 16 → v ≡ new_view b.library pid → AreViews b vs → AreViews b (vs ++ v ∷ [])
one_view_more legal stands b vs pid v none long small is are =
    let P : ℕ → ProcessView → Type 0 = λ k x. (x.holding.pid ≡ k + 1) × StandsShown b x in
    let each = each_more P vs v (length vs) refl (λ k d within. (are.numbers k d within, are.stand k d within))
    (ap (λ (x : ProcessView). x.holding.pid) is ∙ sym long, subst (StandsShown b) (sym is) (new_stands legal stands b pid none)) in
    let count : length (vs ++ v ∷ []) ≡ length vs + 1 = length_push vs v in
    record {
      few = omega (arith, count, long, small);
      numbers = λ k d within. (each k d (omega (arith, within, count))).0;
      stand = λ k d within. (each k d (omega (arith, within, count))).1;
    }
