-- Legal histories: cut anywhere, and longer by one entry.
use Rattle.std.proofs.Common.{◌≡◌, ℕ, true, false, List, [], ◌∷◌, ◌++◌, map, refl, sym, ◌∙◌, ap, subst, append_assoc}
use Rattle.std.proofs.lemmas.Bool.{eqb-true, not-true}
use Rattle.std.proofs.lemmas.List.{append-nil}
use Rattle.std.proofs.lemmas.List.Sums.{fold-append}
use Rattle.lx_types.specs.declared.object.PageId.{PageId}
use Rattle.load_model.specs.State.{Failing}
use Rattle.load_model.specs.declared.deeds.Deed.{Deed}
use Rattle.load_model.specs.declared.deeds.Deed.TheVariants as deeds
use Rattle.load_model.specs.declared.deeds.Entry.{Entry}
use Rattle.load_model.specs.Modules.{Library, Held}
use Rattle.load_model.specs.declared.commands.Ask.{Ask}
use Rattle.load_model.specs.Asks.{deed_of}
use Rattle.load_model.specs.Memory.{is_page}
use Rattle.load_model.specs.Histories.{state_after, is_fault_of, is_first_fault, has_fault, Follows, AllFollow, Legal}
use Rattle.load_model.proofs.Bools.{and_left, and_right}
use Rattle.load_model.specs.Laws.{ask_of, AsksDecide, PrefixIsLegal, EachFollows, OneMoreIsLegal, NothingIsLegal, OneMoreIsAfter, FaultOnce}

first_follow : (lib : Library) (failing : Failing) (contents : Held) (before h more : List Entry) → AllFollow lib failing contents before (h ++ more) → AllFollow lib failing contents before h
first_follow lib failing contents before [] more all = tt
first_follow lib failing contents before (x ∷ h) more all = (all.0, first_follow lib failing contents (before ++ x ∷ []) h more all.1)

pub prefix_is_legal : PrefixIsLegal
unfolding Legal
prefix_is_legal lib failing contents h more all = first_follow lib failing contents [] h more all

rest_follow : (lib : Library) (failing : Failing) (contents : Held) (before h more : List Entry) → AllFollow lib failing contents before (h ++ more) → AllFollow lib failing contents (before ++ h) more
rest_follow lib failing contents before [] more all = subst (λ b. AllFollow lib failing contents b more) (sym (append-nil before)) all
rest_follow lib failing contents before (x ∷ h) more all =
    subst (λ b. AllFollow lib failing contents b more) (append_assoc before (x ∷ []) h) (rest_follow lib failing contents (before ++ x ∷ []) h more all.1)

pub each_follows : EachFollows
unfolding Legal
each_follows lib failing contents before entry after all = (rest_follow lib failing contents [] before (entry ∷ after) all).0

joined_follow : (lib : Library) (failing : Failing) (contents : Held) (before h more : List Entry) →
    AllFollow lib failing contents before h → AllFollow lib failing contents (before ++ h) more → AllFollow lib failing contents before (h ++ more)
joined_follow lib failing contents before [] more all others = subst (λ b. AllFollow lib failing contents b more) (append-nil before) others
joined_follow lib failing contents before (x ∷ h) more all others =
    (all.0, joined_follow lib failing contents (before ++ x ∷ []) h more all.1 (subst (λ b. AllFollow lib failing contents b more) (sym (append_assoc before (x ∷ []) h)) others))

pub one_more_is_legal : OneMoreIsLegal
unfolding Legal
one_more_is_legal lib failing contents h entry all follows = joined_follow lib failing contents [] h (entry ∷ []) all (follows, tt)

pub nothing_is_legal : NothingIsLegal
unfolding Legal
nothing_is_legal lib failing contents = tt

-- ---- asks decide

same_entry : (lib : Library) (failing : Failing) (contents : Held) (before : List Entry) (x y : Entry) → Follows lib failing contents before x → Follows lib failing contents before y → ask_of x ≡ ask_of y → x ≡ y
same_entry lib failing contents before x y f g same =
    let P : ℕ × Ask → Deed = λ a. deed_of lib contents (state_after lib failing before) a.0 a.1 in
    let pids : x.pid ≡ y.pid = ap (λ a. a.0) same in
    let deeds : x.deed ≡ y.deed = f.done ∙ ap P same ∙ sym g.done in
    let E : ℕ → Deed → Entry = λ pid deed. record { pid = pid; deed = deed } in
    ap (λ pid. E pid x.deed) pids ∙ ap (E y.pid) deeds

all_same : (lib : Library) (failing : Failing) (contents : Held) (before h k : List Entry) → AllFollow lib failing contents before h → AllFollow lib failing contents before k → map ask_of h ≡ map ask_of k → h ≡ k
all_same lib failing contents before [] [] f g same = refl
all_same lib failing contents before [] (y ∷ k) f g same = cc
all_same lib failing contents before (x ∷ h) [] f g same = cc
all_same lib failing contents before (x ∷ h) (y ∷ k) f g same =
    let first : ask_of x ≡ ask_of y = cc in
    let others : map ask_of h ≡ map ask_of k = cc in
    let e : x ≡ y = same_entry lib failing contents before x y f.0 g.0 first in
    let moved : AllFollow lib failing contents (before ++ x ∷ []) k = subst (λ z. AllFollow lib failing contents (before ++ z ∷ []) k) (sym e) g.1 in
    let r : h ≡ k = all_same lib failing contents (before ++ x ∷ []) h k f.1 moved others in
    ap (λ z. z ∷ h) e ∙ ap (λ zs. y ∷ zs) r

pub asks_decide : AsksDecide
unfolding Legal
asks_decide lib failing contents h k f g same = all_same lib failing contents [] h k f g same

pub one_more_is_after : OneMoreIsAfter
unfolding state_after
one_more_is_after lib failing h entry = fold-append _ _ h (entry ∷ [])

-- ---- faults

first_of_page : (h : List Entry) (serial : ℕ) (p : PageId) (d : Deed) → is_fault_of serial p d ≡ true → is_first_fault h d ≡ true → has_fault h serial p ≡ false
first_of_page h serial p (deeds.Fault other m q) is first =
    let same : other ≡ serial = eqb-true _ _ (and_left _ _ is) in
    let page : is_page q p ≡ true = and_right _ _ is in
    let objects : q.object ≡ p.object = eqb-true _ _ (and_left _ _ page) in
    let pages : q.page ≡ p.page = eqb-true _ _ (and_right _ _ page) in
    let E : ℕ → ℕ → PageId = λ o n. record { object = o; page = n } in
    let e : q ≡ p = ap (λ o. E o q.page) objects ∙ ap (E p.object) pages in
    ap (λ s. has_fault h s p) (sym same) ∙ ap (has_fault h other) (sym e) ∙ not-true _ first
first_of_page h serial p (deeds.Enter how m fresh calls) is first = cc
first_of_page h serial p (deeds.Full how m of object size) is first = cc
first_of_page h serial p (deeds.Failed how m by fresh calls gone) is first = cc
first_of_page h serial p (deeds.Free m calls gone) is first = cc
first_of_page h serial p (deeds.Exit calls gone) is first = cc
first_of_page h serial p (deeds.Write s m object offset bytes) is first = cc
first_of_page h serial p (deeds.Debug s m object offset bytes) is first = cc
first_of_page h serial p (deeds.Shared s m object offset bytes) is first = cc

pub fault_once : FaultOnce
fault_once lib failing contents before entry after serial p all is = first_of_page before serial p entry.deed is (each_follows lib failing contents before entry after all).first
