-- What a call in a turn is answered.
use Rattle.proc_core.proofs.Words.{◌<◌, [], About, Acted, Adds, ap, BoardState, Bool, call_refusal, Command, done, Ended, Entry, entry_of, Err, Fail, failing_in, false, FitsPlace, giving, HasCome, Holds, Idle, in_turn, inl, inr}
use Rattle.proc_core.proofs.Words.{IsActed, IsDone, IsReadLast, IsToldBy, Kept, Known, leb-false, length, List, Made, MatchResult, NoMemory, None, Ok, Option, ◌orelse◌, Outcome, proc_state, ProcessView, ProcState, refl, Refusal}
use Rattle.proc_core.proofs.Words.{Refused, Result, result_err, Said, Seat, Some, subst, sym, told, true, when, Worn, ℕ, ◌∙◌, ◌≡◌}
use Rattle.load_model.specs.ViewAnswers.{view_refusal}
use Rattle.proc_core.proofs.Fronts.{refused_call}
use Rattle.proc_core.proofs.Made.{Laws, turned, idle_again, idle_holds, idle_waited, did_made, did_holds, fronts_alike}
use Rattle.proc_core.proofs.ReadLast.{read_last}

-- ---- refusals

pub seen_refusal : {A : Type 0} {P : A → Type 0} (q o : Option Refusal) (r : Result A Refusal) → ((a : A) → P a → q ≡ None) → MatchResult r P (λ refusal. q ≡ Some refusal) → o ≡ result_err r → o ≡ q
seen_refusal q o (Ok a) fine is same = same ∙ sym (fine a is)
seen_refusal q o (Err refusal) fine is same = same ∙ sym is

view_fine : (x y : Bool) (o : Option Refusal) → (when x Ended orelse when y Worn orelse o) ≡ None → o ≡ None
view_fine true y o is = cc
view_fine false true o is = cc
view_fine false false o is = is

pub fine_view : (p : ProcState) (command : Command) → call_refusal p command ≡ None → view_refusal p.view.library p.view.holding command ≡ None
fine_view p command is = view_fine _ _ _ is

-- ---- the board goes back

pub done_about : (p : ProcState) (b c : BoardState) (v w : ProcessView) (command : Command) (r : Result (List ℕ) (Fail Refusal)) → Holds p → HasCome p b v → IsDone b c v w command r →
    p.known.subject ≡ Some (record { library = c.library; failing = c.failing })
done_about p b c v w command r holds come is =
    let back : (c.library ≡ b.library) × (c.failing ≡ b.failing) = same r is in
    let first : About = record { library = p.view.library; failing = failing_in p.known.subject } in
    let at : record { library = c.library; failing = c.failing } ≡ first =
    ap (λ l. record { library = l; failing = c.failing }) (back.0 ∙ ap (λ (l : BoardState). l.library) come.is)
    ∙ ap (λ f. record { library = p.view.library; failing = f }) (back.1 ∙ ap (λ (l : BoardState). l.failing) come.is) in
    holds.about ∙ ap Some (sym at)
  where
    same : (r : Result (List ℕ) (Fail Refusal)) → IsDone b c v w command r → (c.library ≡ b.library) × (c.failing ≡ b.failing)
    same (Ok bytes) is = (ap (λ (l : BoardState). l.library) is.0.adds, ap (λ (l : BoardState). l.failing) is.0.adds)
    same (Err (Said refusal)) did = (ap (λ (l : BoardState). l.library) did.adds, ap (λ (l : BoardState). l.failing) did.adds)
    same (Err NoMemory) idle = (ap (λ (l : BoardState). l.library) idle.0, ap (λ (l : BoardState). l.failing) idle.0)

pub done_adds : (p : ProcState) (b c : BoardState) (v w : ProcessView) (command : Command) (r : Result (List ℕ) (Fail Refusal)) → Holds p → HasCome p b v → IsDone b c v w command r →
    Adds (λ (x : Entry). x.pid) p.known.pid b.history c.history
done_adds p b c v w command (Ok bytes) holds come is =
    inr (entry_of b v.holding.pid is.0.ask, ap (λ (l : BoardState). l.history) is.0.adds, ap (λ (u : ProcessView). u.holding.pid) come.view ∙ holds.number)
done_adds p b c v w command (Err (Said refusal)) holds come did =
    inr (entry_of b v.holding.pid did.ask, ap (λ (l : BoardState). l.history) did.adds, ap (λ (u : ProcessView). u.holding.pid) come.view ∙ holds.number)
done_adds p b c v w command (Err NoMemory) holds come idle = inl (ap (λ (l : BoardState). l.history) idle.0)

pub is_turned : (p : ProcState) (pass : Seat (Option Kept) (Known Entry About)) (m : Known Entry About) (h g : List Entry) (w : ProcessView) → p.known.ticket ≡ None → p.known.turn ≡ false → pass.table_id ≡ p.lock →
    in_turn p h m → pass.me ≡ (giving (λ (x : Entry). x.pid) g m, []) → proc_state pass w ≡ turned p g w
is_turned p pass m h g w ticket turn lock knows gave =
    let known : pass.me.0 ≡ record p.known { seen = g; mine = (turned p g w).known.mine; drawn = (turned p g w).known.drawn } =
    ap (λ k. k.0) gave ∙ (ap (giving (λ (x : Entry). x.pid) g) knows.1 ∙ idle_again p.known knows.0 h g ticket turn) in
    ap (λ l. record { lock = l; known = pass.me.0; view = w }) lock ∙ ap (λ (k : Known Entry About). record { lock = p.lock; known = k; view = w }) known

-- ---- the answer

pub answered : Laws → (p : ProcState) (b c : BoardState) (v w : ProcessView) (command : Command) (r : Result (List ℕ) (Fail Refusal)) (a : Result Acted (Fail Refusal)) → Holds p → HasCome p b v → FitsPlace command → call_refusal p command ≡ None →
    IsDone b c v w command r → IsToldBy (length c.history) r a → Holds (turned p c.history w) × IsActed p (turned p c.history w) command a
answered laws p b c v w command (Ok bytes) (Ok it) holds come fits fine is say =
    let outcome : Outcome = done (length c.history) in (
      did_holds laws p b c v w command outcome holds come is.0,
      (
        subst (λ (n : ℕ). Made p (turned p c.history w) command (done n)) (sym say.0) (did_made laws p b c v w command outcome holds come fits fine (fine_view p command fine) is.0),
        subst (IsReadLast (turned p c.history w)) (sym say.1) (read_last p b c v w command outcome bytes holds come is.0 is.1),
      ),
    )
answered laws p b c v w command (Ok bytes) (Err other) holds come fits fine is say = absurd say
answered laws p b c v w command (Err fail) (Ok it) holds come fits fine is say = absurd say
answered laws p b c v w command (Err (Said refusal)) (Err other) holds come fits fine is say =
    subst (λ (f : Fail Refusal). Holds (turned p c.history w) × IsActed p (turned p c.history w) command (Err f)) (sym say) (
      did_holds laws p b c v w command (told (Refused refusal)) holds come is,
      inr (did_made laws p b c v w command (told (Refused refusal)) holds come fits fine (fine_view p command fine) is),
    )
answered laws p b c v w command (Err NoMemory) (Err other) holds come fits fine is say =
    subst (λ (f : Fail Refusal). Holds (turned p c.history w) × IsActed p (turned p c.history w) command (Err f)) (sym say)
    (idle_holds p b c v w holds come is, idle_waited p b c v w come is)

-- ---- what a call rests on that is not refused

drawn_below : (x y : Bool) (o : Option Refusal) → (when x Ended orelse when y Worn orelse o) ≡ None → y ≡ false
drawn_below true y o is = cc
drawn_below false true o is = cc
drawn_below false false o is = refl

pub fine_few : (p : ProcState) (command : Command) → call_refusal p command ≡ None → p.known.drawn < 4294901760
fine_few p command is = leb-false 4294901760 p.known.drawn (drawn_below _ _ _ is)

pub fine_here : (p : ProcState) (b : BoardState) (v : ProcessView) (command : Command) → HasCome p b v → call_refusal p command ≡ None → view_refusal v.library v.holding command ≡ None
fine_here p b v command come is =
    subst (λ (u : ProcessView). view_refusal u.library u.holding command ≡ None) (sym come.view)
    (fronts_alike p.view.library p.view.holding (length b.history) command ∙ fine_view p command is)

pub none_at : (o : Option Refusal) → ((r : Refusal) → o ≡ Some r → ⊥) → o ≡ None
none_at None not = refl
none_at (Some r) not = absurd (not r refl)

-- the first refusal is the call's, of the process as its calls see it
pub told_here : (p q : ProcState) (command : Command) (seen o : Option Refusal) → p ≡ q → ((c : Command) → seen ≡ view_refusal q.view.library q.view.holding c → o ≡ call_refusal q c) →
    seen ≡ view_refusal p.view.library p.view.holding command → o ≡ call_refusal p command
told_here p q command seen o same first is = subst (λ (s : ProcState). seen ≡ view_refusal s.view.library s.view.holding command → o ≡ call_refusal s command) (sym same) (first command) is

-- a call that is refused changes nothing
pub refused_now : Laws → (p : ProcState) → Holds p → (command : Command) (refusal : Refusal) (o : Option Refusal) → o ≡ call_refusal p command → o ≡ Some refusal → IsActed p p command (Err (Said refusal))
refused_now laws p holds command refusal o is some = inl (refused_call laws.refusals laws.told p holds command refusal (sym is ∙ some), refl)

-- ---- all of a turn

pub record Taken (p : ProcState) (command : Command) (b c : BoardState) (v w : ProcessView) (before after : Seat (Option Kept) (Known Entry About)) (r : Result (List ℕ) (Fail Refusal)) (a : Result Acted (Fail Refusal)) : Type 0 where
  pub idle : (p.known.ticket ≡ None) × (p.known.turn ≡ false)
  pub holds : Holds p
  pub fits : FitsPlace command
  pub fine : call_refusal p command ≡ None
  pub come : HasCome p b v
  pub knows : in_turn p b.history before.me.0
  pub is : IsDone b c v w command r
  pub lock : after.table_id ≡ p.lock
  pub gave : after.me ≡ (giving (λ (x : Entry). x.pid) c.history before.me.0, [])
  pub say : IsToldBy (length after.me.0.seen) r a

pub taken : Laws → (p : ProcState) (command : Command) (b c : BoardState) (v w : ProcessView) (before after : Seat (Option Kept) (Known Entry About)) (r : Result (List ℕ) (Fail Refusal)) (a : Result Acted (Fail Refusal)) →
    Taken p command b c v w before after r a → Holds (proc_state after w) × IsActed p (proc_state after w) command a
taken laws p command b c v w before after r a t =
    let same : proc_state after w ≡ turned p c.history w = is_turned p after before.me.0 b.history c.history w t.idle.0 t.idle.1 t.lock t.knows t.gave in
    let say : IsToldBy (length c.history) r a = subst (λ (n : ℕ). IsToldBy n r a) (ap (λ k. length k.0.seen) t.gave) t.say in
    let both = answered laws p b c v w command r a t.holds t.come t.fits t.fine t.is say in
    (subst Holds (sym same) both.0, subst (λ (q : ProcState). IsActed p q command a) (sym same) both.1)

pub taken_idle : (c : List Entry) (m : Known Entry About) (after : Seat (Option Kept) (Known Entry About)) → after.me ≡ (giving (λ (x : Entry). x.pid) c m, []) → Idle after.me
taken_idle c m after gave = (ap (λ k. k.0.ticket) gave, ap (λ k. k.0.turn) gave, ap (λ k. k.1) gave)
