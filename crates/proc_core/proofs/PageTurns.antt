-- A page that is claimed in a turn.
use Rattle.proc_core.proofs.Words.{◌++◌, ◌<◌, [], About, Adds, ap, append-nil, append_assoc, at_front, BoardState, Bool, CanMap, Claim, Entry, eq-eqb, Err, failing_in, false, fault_of, fixed_bytes, get_or, get_or_default, giving, nowhere}
use Rattle.proc_core.proofs.Words.{HasCome, Holds, in_turn, inl, inr, is_fault_of, is_there, IsClaim, IsClaimedIn, IsIdle, IsLegal, IsPageOf, IsSharedPage, IsTurn, Kept, Known, length, List, list_any, list_any-append, MatchResult}
use Rattle.proc_core.proofs.Words.{needs_fault, None, Ok, OneMoreIsLegal, Option, page_in, PageId, proc_state, ProcessView, ProcState, refl, residence_at, ResidenceFor, Result, Seat, shown_at, Some, subst, sym, true, Waited}
use Rattle.proc_core.proofs.Words.{without_room, ◌||◌, ℕ, ◌∙◌, ◌∷◌, ◌≡◌}
use Rattle.lx_types.specs.declared.fail.NoMemory.{NoMemory as Want}
use Rattle.load_model.specs.Histories.{has_fault}
use Rattle.load_core.specs.declared.answers.Claim.TheVariants as claims
use Rattle.proc_core.proofs.Made.{turned, turned_holds, idle_holds, idle_waited}
use Rattle.proc_core.proofs.Places.{page_alike}
use Rattle.proc_core.proofs.Turning.{is_turned}

-- ---- the page may be claimed

library_is : (p : ProcState) (k : ℕ) (d : ResidenceFor) → Holds p → k < length p.view.residences → (get_or p.view.residences k d).library ≡ p.view.library
library_is p k d holds within =
    let r : ResidenceFor = get_or p.view.residences k d in
    ap (λ (q : ResidenceFor). q.library) (shown_at p.view.library _ p.view.residences k r holds.stands.shown within (get_or_default p.view.residences k d r within))

pub can_map : (p : ProcState) (k : ℕ) (t : PageId) (d : ResidenceFor) → Holds p → IsPageOf p.view k t → is_there p.view (residence_at p.view k d) t ≡ false → CanMap p.view (residence_at p.view k d) t
can_map p k t d holds is apart = record { object = is.object d; page = is.page d; small = is.small; apart = apart; library = library_is p k d holds is.residence }

pub can_map_on : (v w : ProcessView) (n : ℕ) (r : ResidenceFor) (t : PageId) → w ≡ at_front n v → CanMap v r t → CanMap w r t
can_map_on v w n r t is can = subst (λ (u : ProcessView). CanMap u r t) (sym is) (record { object = can.object; page = can.page; small = can.small; apart = can.apart; library = can.library })

-- ---- the board goes back

module _ (p : ProcState) (b c : BoardState) (v w : ProcessView) (r : ResidenceFor) (t : PageId) (holds : Holds p) (come : HasCome p b v) where
  abbrev IsClaimedHere : Result Claim Want → Type 0
  IsClaimedHere x = MatchResult x (IsClaimedIn b c v w r t) (λ none. IsIdle b c v w)

  board_same : (x : Result Claim Want) → IsClaimedHere x → (c.library ≡ b.library) × (c.failing ≡ b.failing)
  board_same (Ok (claims.Right right)) is = (ap (λ (l : BoardState). l.library) is.1, ap (λ (l : BoardState). l.failing) is.1)
  board_same (Ok claims.Taken) is = (ap (λ (l : BoardState). l.library) is.0, ap (λ (l : BoardState). l.failing) is.0)
  board_same (Err none) is = (ap (λ (l : BoardState). l.library) is.0, ap (λ (l : BoardState). l.failing) is.0)

  pub claimed_about : (x : Result Claim Want) → IsClaimedHere x → p.known.subject ≡ Some (record { library = c.library; failing = c.failing })
  claimed_about x is =
      let back : (c.library ≡ b.library) × (c.failing ≡ b.failing) = board_same x is in
      let first : About = record { library = p.view.library; failing = failing_in p.known.subject } in
      let at : record { library = c.library; failing = c.failing } ≡ first =
      ap (λ l. record { library = l; failing = c.failing }) (back.0 ∙ ap (λ (l : BoardState). l.library) come.is)
      ∙ ap (λ f. record { library = p.view.library; failing = f }) (back.1 ∙ ap (λ (l : BoardState). l.failing) come.is) in
      holds.about ∙ ap Some (sym at)

  own_pid : v.holding.pid ≡ p.known.pid
  own_pid = ap (λ (u : ProcessView). u.holding.pid) come.view ∙ holds.number

  pub claimed_adds : (x : Result Claim Want) → IsClaimedHere x → Adds (λ (e : Entry). e.pid) p.known.pid b.history c.history
  claimed_adds (Ok (claims.Right right)) is = inr (fault_of v r t, ap (λ (l : BoardState). l.history) is.1, own_pid)
  claimed_adds (Ok claims.Taken) is = inl (ap (λ (l : BoardState). l.history) is.0)
  claimed_adds (Err none) is = inl (ap (λ (l : BoardState). l.history) is.0)

  -- ---- after the turn

  same_library : w.library ≡ v.library → w.library ≡ p.view.library
  same_library is = is ∙ ap (λ (u : ProcessView). u.library) come.view

  pub claimed_holds : OneMoreIsLegal → (x : Result Claim Want) → IsClaimedHere x → Holds (turned p c.history w)
  claimed_holds grows (Ok (claims.Right right)) is =
      let legal : IsLegal c = subst IsLegal (sym is.1) (grows b.library b.failing (fixed_bytes b.library) b.history (fault_of v r t) come.legal is.2) in
      turned_holds p c w holds (same_library (ap (λ (u : ProcessView). u.library) is.3)) (ap (λ (u : ProcessView). u.holding.pid) (is.3 ∙ ap (at_front (length c.history)) come.view))
      ((board_same (Ok (claims.Right right)) is).0 ∙ ap (λ (l : BoardState). l.library) come.is) ((board_same (Ok (claims.Right right)) is).1 ∙ ap (λ (l : BoardState). l.failing) come.is) legal is.4
  claimed_holds grows (Ok claims.Taken) is = idle_holds p b c v w holds come (is.0, ap without_room is.1)
  claimed_holds grows (Err none) is = idle_holds p b c v w holds come is

  self_fault : (h : List Entry) (x : Entry) → is_fault_of r.serial t x.deed ≡ true → has_fault (h ++ x ∷ []) r.serial t ≡ true
  unfolding has_fault
  self_fault h x is =
      list_any-append (λ (e : Entry). is_fault_of r.serial t e.deed) h (x ∷ [])
      ∙ (ap (λ (z : Bool). list_any (λ (e : Entry). is_fault_of r.serial t e.deed) h || (z || false)) is ∙ or_true (list_any (λ (e : Entry). is_fault_of r.serial t e.deed) h))
    where
      or_true : (z : Bool) → z || true ≡ true
      or_true true = refl
      or_true false = refl

  own_fault : is_fault_of r.serial t (fault_of v r t).deed ≡ true
  own_fault = rw (eq-eqb r.serial r.serial refl, eq-eqb t.object t.object refl, eq-eqb t.page t.page refl) refl

  pub claimed : (x : Result Claim Want) → IsClaimedHere x → MatchResult x (IsClaim p (turned p c.history w) r t) (λ none. Waited p (turned p c.history w))
  claimed (Ok (claims.Right right)) is =
      let history : c.history ≡ b.history ++ fault_of v r t ∷ [] = ap (λ (l : BoardState). l.history) is.1 in
      let seen : b.history ≡ p.known.seen ++ come.more = ap (λ (l : BoardState). l.history) come.is in
      let entry : fault_of v r t ≡ fault_of p.view r t = ap (λ (u : ProcessView). fault_of u r t) come.view in
      let all : c.history ≡ p.known.seen ++ (come.more ++ fault_of p.view r t ∷ []) =
      history ∙ (ap (λ (h : List Entry). h ++ fault_of v r t ∷ []) seen ∙ (append_assoc p.known.seen come.more (fault_of v r t ∷ []) ∙ ap (λ (e : Entry). p.known.seen ++ (come.more ++ e ∷ [])) entry)) in
      let turn : IsTurn p (turned p c.history w) (fault_of p.view r t ∷ []) = record {
        pass = record { lock = refl; known = refl };
        more = come.more;
        others = come.others;
        seen = all;
        drawn = refl;
        view = is.3 ∙ ap (at_front (length c.history)) come.view;
      } in
      (is.0, turn, ap (λ (h : List Entry). has_fault h r.serial t) history ∙ self_fault b.history (fault_of v r t) own_fault)
  claimed (Ok claims.Taken) is =
      let history : c.history ≡ p.known.seen ++ come.more = ap (λ (l : BoardState). l.history) (is.0 ∙ come.is) in
      let turn : IsTurn p (turned p c.history w) [] = record {
        pass = record { lock = refl; known = refl };
        more = come.more;
        others = come.others;
        seen = history ∙ ap (λ (h : List Entry). p.known.seen ++ h) (sym (append-nil come.more));
        drawn = refl;
        view = is.1 ∙ (come.view ∙ ap (λ (l : BoardState). at_front (length l.history) p.view) (sym is.0));
      } in
      (turn, ap (λ (l : BoardState). has_fault l.history r.serial t) is.0 ∙ is.2)
  claimed (Err none) is = idle_waited p b c v w come is

-- ---- what the claim requires

pub turn_page : (p : ProcState) (b : BoardState) (v : ProcessView) (k : ℕ) (t : PageId) → HasCome p b v → IsPageOf p.view k t → IsPageOf v k t
turn_page p b v k t come is = page_alike p.view v k t (ap (λ (u : ProcessView). u.library) come.view) (ap (λ (u : ProcessView). u.residences) come.view) (ap (λ (u : ProcessView). u.holding.ended) come.view) is

pub turn_can : (p : ProcState) (b : BoardState) (v : ProcessView) (k : ℕ) (t : PageId) → Holds p → HasCome p b v → IsPageOf p.view k t → ((d : ResidenceFor) → is_there p.view (residence_at p.view k d) t ≡ false) →
    (d : ResidenceFor) → CanMap v (residence_at v k d) t
turn_can p b v k t holds come is apart d =
    can_map_on p.view v (length b.history) (residence_at v k d) t come.view
    (subst (λ (rs : List ResidenceFor). CanMap p.view (get_or rs k d) t) (sym (ap (λ (u : ProcessView). u.residences) come.view)) (can_map p k t d holds is (apart d)))

pub turn_shared : (p : ProcState) (b : BoardState) (v : ProcessView) (k : ℕ) (t : PageId) → HasCome p b v → IsPageOf p.view k t →
    ((d : ResidenceFor) → needs_fault p.view.library (residence_at p.view k d).«module» (page_in (residence_at p.view k d) t) ≡ true) → (d : ResidenceFor) → IsSharedPage v (residence_at v k d) t
turn_shared p b v k t come is fault d = subst (λ (u : ProcessView). IsSharedPage u (residence_at u k d) t) (sym come.view) (is.shared d ∙ fault d)

-- ---- the claim, of the residence as the process had it before the turn

pub claim_here : (p : ProcState) (b c : BoardState) (v w : ProcessView) (k : ℕ) (t : PageId) (x : Result Claim Want) → HasCome p b v →
    ((d : ResidenceFor) → MatchResult x (IsClaimedIn b c v w (get_or v.residences k d) t) (λ none. IsIdle b c v w)) → (d : ResidenceFor) → MatchResult x (IsClaimedIn b c v w (residence_at p.view k d) t) (λ none. IsIdle b c v w)
claim_here p b c v w k t x come is d =
    subst (λ (rs : List ResidenceFor). MatchResult x (IsClaimedIn b c v w (get_or rs k d) t) (λ none. IsIdle b c v w)) (ap (λ (u : ProcessView). u.residences) come.view) (is d)

-- all of the turn
pub record ClaimTaken (p : ProcState) (b c : BoardState) (v w : ProcessView) (k : ℕ) (t : PageId) (before after : Seat (Option Kept) (Known Entry About)) (x : Result Claim Want) : Type 0 where
  pub idle : (p.known.ticket ≡ None) × (p.known.turn ≡ false)
  pub holds : Holds p
  pub come : HasCome p b v
  pub knows : in_turn p b.history before.me.0
  pub is : (d : ResidenceFor) → MatchResult x (IsClaimedIn b c v w (get_or v.residences k d) t) (λ none. IsIdle b c v w)
  pub lock : after.table_id ≡ p.lock
  pub gave : after.me ≡ (giving (λ (e : Entry). e.pid) c.history before.me.0, [])

module _ (p : ProcState) (b c : BoardState) (v w : ProcessView) (k : ℕ) (t : PageId) (before after : Seat (Option Kept) (Known Entry About)) (x : Result Claim Want) (turn : ClaimTaken p b c v w k t before after x) where
  after_turn : proc_state after w ≡ turned p c.history w
  after_turn = is_turned p after before.me.0 b.history c.history w turn.idle.0 turn.idle.1 turn.lock turn.knows turn.gave

  pub claim_holds : OneMoreIsLegal → Holds (proc_state after w)
  claim_holds grows =
      subst Holds (sym after_turn) (claimed_holds p b c v w (residence_at p.view k nowhere) t turn.holds turn.come grows x (claim_here p b c v w k t x turn.come turn.is nowhere))

  pub claim_is : (d : ResidenceFor) → MatchResult x (IsClaim p (proc_state after w) (residence_at p.view k d) t) (λ none. Waited p (proc_state after w))
  claim_is d =
      subst (λ (q : ProcState). MatchResult x (IsClaim p q (residence_at p.view k d) t) (λ none. Waited p q)) (sym after_turn)
      (claimed p b c v w (residence_at p.view k d) t turn.holds turn.come x (claim_here p b c v w k t x turn.come turn.is d))
