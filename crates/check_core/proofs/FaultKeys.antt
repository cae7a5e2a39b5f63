-- Faults by keys.
use Rattle.std.proofs.Common.{◌≡◌, ℕ, ◌||◌, Bool, true, false, cond, List, [], ◌∷◌, ◌++◌, refl, sym, ◌∙◌, ap}
use Rattle.std.specs.HashSet as bag
use Rattle.std.specs.HashSet.{HashSet}
use Rattle.std.proofs.lemmas.List.Folds.{list_any-append}
use Rattle.lx_types.specs.declared.object.PageId.{PageId}
use Rattle.load_model.specs.declared.deeds.Deed.{Deed}
use Rattle.load_model.specs.declared.deeds.Deed.TheVariants as deeds
use Rattle.load_model.specs.declared.deeds.Entry.{Entry}
use Rattle.load_model.specs.Histories.{is_fault_of, has_fault}
use Rattle.check_core.specs.FaultedHistories.{PageKey, same, has_key, AreFaults}

either : (a b : Bool) → (a || (b || false)) ≡ cond b true a
either true true = refl
either true false = refl
either false true = refl
either false false = refl

has_more : (h : List Entry) (x : Entry) (serial : ℕ) (page : PageId) → has_fault (h ++ x ∷ []) serial page ≡ cond (is_fault_of serial page x.deed) true (has_fault h serial page)
unfolding has_fault
has_more h x serial page =
    list_any-append (λ (e : Entry). is_fault_of serial page e.deed) h (x ∷ []) ∙ either (has_fault h serial page) (is_fault_of serial page x.deed)

pub fault_kept : {S : Type 0} (keys now : HashSet PageKey S) (h : List Entry) (x : Entry) (s m : ℕ) (p : PageId) → x.deed ≡ deeds.Fault s m p →
    ((q : PageKey) → bag.contains same now q ≡ cond (same (s, (p.object, p.page)) q) true (bag.contains same keys q)) → AreFaults (has_key keys) h → AreFaults (has_key now) (h ++ x ∷ [])
fault_kept keys now h x s m p is put are serial page =
    put (serial, (page.object, page.page))
    ∙ ap (λ (b : Bool). cond (same (s, (p.object, p.page)) (serial, (page.object, page.page))) true b) (are serial page)
    ∙ sym (has_more h x serial page ∙ ap (λ (d : Deed). cond (is_fault_of serial page d) true (has_fault h serial page)) is)

pub no_fault_kept : (faulted : ℕ → PageId → Bool) (h : List Entry) (x : Entry) → ((serial : ℕ) (page : PageId) → is_fault_of serial page x.deed ≡ false) → AreFaults faulted h → AreFaults faulted (h ++ x ∷ [])
no_fault_kept faulted h x none are serial page =
    are serial page ∙ sym (has_more h x serial page ∙ ap (λ (b : Bool). cond b true (has_fault h serial page)) (none serial page))

pub no_fault : (d : Deed) → ((s m : ℕ) (p : PageId) → d ≡ deeds.Fault s m p → ⊥) → (serial : ℕ) (page : PageId) → is_fault_of serial page d ≡ false
no_fault (deeds.Fault s m p) not serial page = absurd (not s m p refl)
no_fault (deeds.Enter how m fresh calls) not serial page = refl
no_fault (deeds.Full how m of object size) not serial page = refl
no_fault (deeds.Failed how m by fresh calls gone) not serial page = refl
no_fault (deeds.Free m calls gone) not serial page = refl
no_fault (deeds.Exit calls gone) not serial page = refl
no_fault (deeds.Write s m object offset bytes) not serial page = refl
no_fault (deeds.Debug s m object offset bytes) not serial page = refl
no_fault (deeds.Shared s m object offset bytes) not serial page = refl
