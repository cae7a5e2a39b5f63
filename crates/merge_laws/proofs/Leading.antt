-- Faults that lead to their touch, or wait for it, with one item more after them.
use Rattle.std.proofs.Common.{◌≡◌, ℕ, Bool, true, false, if◌then◌else◌, List, [], ◌∷◌, ◌++◌, find, Some, None, IsTrue, inl, inr, ⊎_elim, refl, sym, ap, subst, eq-eqb, eqb-true, true≢false}
use Rattle.load_model.specs.declared.commands.Place.{Place}
use Rattle.load_model.specs.declared.deeds.Deed.{Deed}
use Rattle.load_model.specs.declared.deeds.Deed.TheVariants as deeds
use Rattle.lx_types.specs.declared.object.PageId.{PageId}
use Rattle.load_model.specs.Modules.{Library}
use Rattle.load_model.specs.State.{Failing, Eager}
use Rattle.session_model.specs.Merging.{Item, entry, line, is_command_of, is_fault, FaultLeads, fault_leads, some_touches, state_after_items}
use Rattle.merge_laws.specs.Accounts.{Only}
use Rattle.merge_laws.specs.MidTouch.{touch_line, IsFaultFor, LeadsOrWaits}

-- ---- the first command after a fault

-- the first that is there stays the first
lead_more : (lib : Library) (e : Eager) (k serial : ℕ) (p : PageId) (z : Item) (after : List Item) →
    IsTrue (some_touches lib e serial p (find (is_command_of k) after)) →
    IsTrue (some_touches lib e serial p (find (is_command_of k) (after ++ z ∷ [])))
lead_more lib e k serial p z [] h = absurd (true≢false (sym h))
lead_more lib e k serial p z (i ∷ after) h = first (is_command_of k i) h (lead_more lib e k serial p z after)
  where
    first : (b : Bool) → IsTrue (some_touches lib e serial p (if b then Some i else find (is_command_of k) after)) →
        (IsTrue (some_touches lib e serial p (find (is_command_of k) after)) → IsTrue (some_touches lib e serial p (find (is_command_of k) (after ++ z ∷ [])))) →
        IsTrue (some_touches lib e serial p (if b then Some i else find (is_command_of k) (after ++ z ∷ [])))
    first true h on = h
    first false h on = on h

leads_more : (lib : Library) (e : Eager) (k : ℕ) (d : Deed) (z : Item) (after : List Item) → IsTrue (fault_leads lib e k d after) →
    IsTrue (fault_leads lib e k d (after ++ z ∷ []))
leads_more lib e k (deeds.Fault serial m p) z after h = lead_more lib e k serial p z after h
leads_more lib e k d z after h = h

-- where there is none, the item that comes is it
find_last : (k : ℕ) (z : Item) (b : Bool) (after : List Item) → is_command_of k z ≡ b → find (is_command_of k) after ≡ None →
    find (is_command_of k) (after ++ z ∷ []) ≡ (if b then Some z else None)
find_last k z b [] is none = ap (λ c. if c then Some z else None) is
find_last k z b (i ∷ after) is none = first (is_command_of k i) none (find_last k z b after is)
  where
    first : (c : Bool) → (if c then Some i else find (is_command_of k) after) ≡ None →
        (find (is_command_of k) after ≡ None → find (is_command_of k) (after ++ z ∷ []) ≡ (if b then Some z else None)) →
        (if c then Some i else find (is_command_of k) (after ++ z ∷ [])) ≡ (if b then Some z else None)
    first true none on = absurd (cc (none))
    first false none on = on none

-- ---- faults of the process

pub no_fault : (lib : Library) (e : Eager) (k : ℕ) (d : Deed) (after : List Item) → is_fault d ≡ false → IsTrue (fault_leads lib e k d after)
no_fault lib e k (deeds.Fault serial m p) after is = absurd (true≢false is)
no_fault lib e k d after is = refl

pub is_a_fault : (lib : Library) (e : Eager) (k : ℕ) (at : Place) (d : Deed) → IsFaultFor lib e k at d → is_fault d ≡ true
is_a_fault lib e k at (deeds.Fault serial m p) is = refl
is_a_fault lib e k at (deeds.Enter how m fresh calls) is = absurd is
is_a_fault lib e k at (deeds.Full how m of object size) is = absurd is
is_a_fault lib e k at (deeds.Failed how m by fresh calls gone) is = absurd is
is_a_fault lib e k at (deeds.Free m calls gone) is = absurd is
is_a_fault lib e k at (deeds.Exit calls gone) is = absurd is
is_a_fault lib e k at (deeds.Write serial m object offset bytes) is = absurd is
is_a_fault lib e k at (deeds.Debug serial m object offset bytes) is = absurd is
is_a_fault lib e k at (deeds.Shared serial m object offset bytes) is = absurd is

pub still_leads : (lib : Library) (failing : Failing) (k : ℕ) (z : Item) (b : List Item) (i : Item) (bh : List Item) → Only (FaultLeads lib failing) k b i bh →
    Only (FaultLeads lib failing) k b i (bh ++ z ∷ [])
still_leads lib failing k z b (line q l) bh h mine = tt
still_leads lib failing k z b (entry y) bh h mine = leads_more lib (state_after_items lib failing b) y.pid y.deed z bh (h mine)

pub leads_or_waits : (lib : Library) (failing : Failing) (k : ℕ) (at : Place) (b : List Item) (i : Item) (bh : List Item) → Only (FaultLeads lib failing) k b i bh →
    Only (LeadsOrWaits lib failing at) k b i bh
leads_or_waits lib failing k at b (entry y) bh h mine = inl (h mine)
leads_or_waits lib failing k at b (line q l) bh h mine = tt

-- after an item that is no command of the process it leads, or waits, as before
pub still_waits : (lib : Library) (failing : Failing) (k : ℕ) (at : Place) (z : Item) → is_command_of k z ≡ false →
    (b : List Item) (i : Item) (bh : List Item) → Only (LeadsOrWaits lib failing at) k b i bh → Only (LeadsOrWaits lib failing at) k b i (bh ++ z ∷ [])
still_waits lib failing k at z plain b (line q l) bh h mine = tt
still_waits lib failing k at z plain b (entry y) bh h mine =
    ⊎_elim (λ (t : IsTrue (fault_leads lib (state_after_items lib failing b) y.pid y.deed bh)). inl (leads_more lib (state_after_items lib failing b) y.pid y.deed z bh t))
    (λ (t : (find (is_command_of y.pid) bh ≡ None) × IsFaultFor lib (state_after_items lib failing b) y.pid at y.deed).
    inr (find_last y.pid z false bh (subst (λ (q : ℕ). is_command_of q z ≡ false) (sym (eqb-true y.pid k mine)) plain) t.0, t.1))
    (h mine)

-- ---- the touch that they wait for

led : (lib : Library) (e : Eager) (k front : ℕ) (at : Place) (d : Deed) (after : List Item) → find (is_command_of k) after ≡ None → IsFaultFor lib e k at d →
    IsTrue (fault_leads lib e k d (after ++ line k (touch_line front at) ∷ []))
led lib e k front at (deeds.Fault serial m p) after none is =
    subst (λ o. IsTrue (some_touches lib e serial p o)) (sym (find_last k (line k (touch_line front at)) true after (eq-eqb k k refl) none)) is
led lib e k front at (deeds.Enter how m fresh calls) after none is = refl
led lib e k front at (deeds.Full how m of object size) after none is = refl
led lib e k front at (deeds.Failed how m by fresh calls gone) after none is = refl
led lib e k front at (deeds.Free m calls gone) after none is = refl
led lib e k front at (deeds.Exit calls gone) after none is = refl
led lib e k front at (deeds.Write serial m object offset bytes) after none is = refl
led lib e k front at (deeds.Debug serial m object offset bytes) after none is = refl
led lib e k front at (deeds.Shared serial m object offset bytes) after none is = refl

pub now_leads : (lib : Library) (failing : Failing) (k front : ℕ) (at : Place) (b : List Item) (i : Item) (bh : List Item) → Only (LeadsOrWaits lib failing at) k b i bh →
    Only (FaultLeads lib failing) k b i (bh ++ line k (touch_line front at) ∷ [])
now_leads lib failing k front at b (line q m) bh h mine = tt
now_leads lib failing k front at b (entry y) bh h mine =
    let z : Item = line k (touch_line front at) in
    ⊎_elim (λ (t : IsTrue (fault_leads lib (state_after_items lib failing b) y.pid y.deed bh)). leads_more lib (state_after_items lib failing b) y.pid y.deed z bh t)
    (λ (t : (find (is_command_of y.pid) bh ≡ None) × IsFaultFor lib (state_after_items lib failing b) y.pid at y.deed).
    let is = eqb-true y.pid k mine in
    subst (λ (q : ℕ). IsTrue (fault_leads lib (state_after_items lib failing b) q y.deed (bh ++ z ∷ []))) (sym is)
    (led lib (state_after_items lib failing b) k front at y.deed bh (subst (λ (q : ℕ). find (is_command_of q) bh ≡ None) is t.0) (subst (λ (q : ℕ). IsFaultFor lib (state_after_items lib failing b) q at y.deed) is t.1)))
    (h mine)
