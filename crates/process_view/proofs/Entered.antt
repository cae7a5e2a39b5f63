-- A view after a start or a load.
use Rattle.std.proofs.Common.{◌≡◌, ℕ, ◌==◌, ◌&&◌, ◌||◌, Bool, true, false, cond, not, List, [], ◌∷◌, ◌++◌, map, length, Option, Some, None, option_map, get_or, refl, sym, ap, ◌∙◌}
use Rattle.process_view.proofs.Words.{after_deed, after_entering, All, All-from_get_or, all_joined, AllByRecursion, and_left, and_right, AreCountsOf}
use Rattle.process_view.proofs.Words.{arena_full, ArenaFull, AreShown, at_front, attached_grows, attached_is, attached_is_resident, attached_residence}
use Rattle.process_view.proofs.Words.{attaching, bases_of, bases_seen, BasesSeenStay, BoardState, Call, Command, Deed, deed_of, Did, done, Eager, enter}
use Rattle.process_view.proofs.Words.{enter_deed, enter_refusal, entering_process, entry_of, find, find-append, fixed_bytes, Fresh, fresh_of, fresh_shown}
use Rattle.process_view.proofs.Words.{get_or_default, Gone, has_page, Held, holding, How, init_failed, InitFailed, is_among, is_done, is_none, is_page}
use Rattle.process_view.proofs.Words.{is_reached, is_some, IsLegal, IsMapped, joined, Library, map-append, Mapped, mapped_pages, may_ask, MayAsk, nowhere}
use Rattle.process_view.proofs.Words.{one_more_is_after, one_more_is_legal, one_reaches, order_of, OrderEndsWithItself, PageId, pids, Process, ProcessCounts}
use Rattle.process_view.proofs.Words.{ProcessView, reached_is_resident, reaches, Refused, Residence, residence_is, residence_of, residence_shown, ResidenceFor}
use Rattle.process_view.proofs.Words.{ResidenceStays, same_number, serial_of, serials_are_own, StandsEntered, StandsQuiet, state_of, told, touched_after}
use Rattle.std.proofs.lemmas.Simd.{map-map}
use Rattle.std.specs.Option.{option_or}
use Rattle.load_model.proofs.Kept.{reaches_more}
use Rattle.process_view.proofs.Did.{IsAsked, with_asked, did_quiet}
use Rattle.process_view.proofs.Shown.{attached, all_shown}
use Rattle.mod_refs.proofs.LegalCounts.{own_order}
use Rattle.load_model.proofs.Among.{among_filter}
use Rattle.lx_model.specs.Fixed as fixed
use Rattle.load_model.specs.declared.deeds.Deed.TheVariants as deeds

-- ---- what the entry says

may_enter : (b : BoardState) (pid : ℕ) (how : How) (m : ℕ) → MayAsk b pid (enter how m) → is_none (enter_refusal b.library ((state_of b).processes pid) how (Some m)) ≡ true
unfolding may_ask
may_enter b pid how m may = and_right _ _ may

pub entry_is : (b : BoardState) (pid : ℕ) (how : How) (m : ℕ) → (entry_of b pid (enter how m)).deed ≡ enter_deed b.library (state_of b) pid how m
unfolding deed_of
entry_is b pid how m = refl

-- ---- lists of residences

-- what is found of values that are made of numbers, each with its own
found_map : {X : Type 0} (f : ℕ → X) (of : X → ℕ) (k : ℕ) → ((j : ℕ) → of (f j) ≡ j) → (js : List ℕ) → find (λ x. of x == k) (map f js) ≡ cond (is_among js k) (Some (f k)) None
found_map f of k own [] = refl
found_map f of k own (j ∷ js) = by_test (j == k) refl (found_map f of k own js)
  where
    by_test : (b : Bool) → (j == k) ≡ b → find (λ x. of x == k) (map f js) ≡ cond (is_among js k) (Some (f k)) None →
        cond (of (f j) == k) (Some (f j)) (find (λ x. of x == k) (map f js)) ≡ cond ((j == k) || is_among js k) (Some (f k)) None
    by_test true is later = rw (own j, is) (ap (λ n. Some (f n)) (same_number j k is))
    by_test false is later = rw (own j, is) later

found_new : (lib : Library) (e : Eager) (keeper k : ℕ) (js : List ℕ) →
    find (λ (s : Fresh). s.«module» == k) (map fresh_shown (map (residence_shown lib e keeper) js)) ≡ cond (is_among js k) (Some (fresh_shown (residence_shown lib e keeper k))) None
found_new lib e keeper k js =
    ap (λ (ss : List Fresh). find (λ (s : Fresh). s.«module» == k) ss) (map-map fresh_shown (residence_shown lib e keeper) js)
    ∙ found_map (λ j. fresh_shown (residence_shown lib e keeper j)) (λ s. s.«module») k (λ j. refl) js

seen_own : OrderEndsWithItself → (lib : Library) (e : Eager) (k : ℕ) → fixed.bases_of (find (λ b. b.«module» == k) (bases_seen lib e k).mods) ≡ bases_of (residence_of e k)
unfolding bases_seen
seen_own ends lib e k =
    ap fixed.bases_of (found_map (λ j. record { «module» = j; objects = bases_of (residence_of e j) }) (λ b. b.«module») k (λ j. refl) (order_of lib k))
    ∙ ap (λ c. fixed.bases_of (cond c (Some (record { «module» = k; objects = bases_of (residence_of e k) })) None)) (own_order ends lib k)

-- as it is shown, so it stands
shown_is : OrderEndsWithItself → (lib : Library) (e : Eager) (keeper k : ℕ) (r : Residence) → residence_of e k ≡ Some r → r.«module» ≡ k → fresh_shown (residence_shown lib e keeper k) ≡ fresh_of r
shown_is ends lib e keeper k r is own =
    ap (λ (bs : List ℕ). record { serial = serial_of (residence_of e k); «module» = k; bases = bs }) (seen_own ends lib e k)
    ∙ ap (λ (o : Option Residence). record { serial = serial_of o; «module» = k; bases = bases_of o }) is
    ∙ ap (λ (n : ℕ). record { serial = r.serial; «module» = n; bases = r.bases }) (sym own)

-- ---- the state

-- A start or a load that was done.
pub record IsEntered (b : BoardState) (v : ProcessView) : Type 0 where
  pub command : Command
  pub how : How
  pub m : ℕ
  pub asked : IsAsked b v command (enter how m)
  pub fresh : List Fresh
  pub calls : List Call
  pub deed : (entry_of b v.holding.pid (enter how m)).deed ≡ deeds.Enter how m fresh calls

abbrev pub board_entered : (b : BoardState) (v : ProcessView) → IsEntered b v → BoardState
board_entered b v is = with_asked b v (enter is.how is.m)

abbrev pub modules_joined : (b : BoardState) (v : ProcessView) → IsEntered b v → List ℕ
modules_joined b v is = joined b.library (state_of b) v.holding.pid is.m

-- the residences of these as they are shown then
abbrev pub news_of : (b : BoardState) (v : ProcessView) → IsEntered b v → List ResidenceFor
news_of b v is = map (residence_shown b.library (state_of (board_entered b v is)) b.keeper) (modules_joined b v is)

deed_enters : (lib : Library) (e : Eager) (pid : ℕ) (how : How) (m : ℕ) (fresh : List Fresh) (calls : List Call) → after_deed lib e pid (deeds.Enter how m fresh calls) ≡ after_entering lib e pid how m fresh
unfolding after_deed
deed_enters lib e pid how m fresh calls = refl

state_entered : (b : BoardState) (v : ProcessView) (is : IsEntered b v) → state_of (board_entered b v is) ≡ after_entering b.library (state_of b) v.holding.pid is.how is.m is.fresh
state_entered b v is =
    one_more_is_after b.library b.failing b.history (entry_of b v.holding.pid (enter is.how is.m)) ∙ ap (after_deed b.library (state_of b) v.holding.pid) is.deed
    ∙ deed_enters b.library (state_of b) v.holding.pid is.how is.m is.fresh is.calls

process_entered : (b : BoardState) (v : ProcessView) (is : IsEntered b v) →
    (state_of (board_entered b v is)).processes v.holding.pid ≡ holding is.how is.m (attaching (modules_joined b v is) ((state_of b).processes v.holding.pid))
process_entered b v is = ap (λ (e : Eager). e.processes v.holding.pid) (state_entered b v is) ∙ entering_process b.library (state_of b) v.holding.pid is.how is.m is.fresh

attached_on : (b : BoardState) (v : ProcessView) (is : IsEntered b v) (k : ℕ) (r : Residence) → attached_residence b.library (state_of b) v.holding.pid k ≡ Some r →
    attached_residence b.library (state_of (board_entered b v is)) v.holding.pid k ≡ Some r
attached_on b v is k r e =
    ap (λ (s : Eager). attached_residence b.library s v.holding.pid k) (state_entered b v is)
    ∙ attached_grows b.library (state_of b) v.holding.pid is.how is.m is.fresh k r (may_enter b v.holding.pid is.how is.m is.asked.may) e

reaches_on : (b : BoardState) (v : ProcessView) (is : IsEntered b v) (k : ℕ) →
    reaches b.library ((state_of (board_entered b v is)).processes v.holding.pid) k ≡ is_among (order_of b.library is.m) k || reaches b.library ((state_of b).processes v.holding.pid) k
reaches_on b v is k =
    ap (λ (p : Process). reaches b.library p k) (process_entered b v is)
    ∙ reaches_more b.library ((state_of b).processes v.holding.pid) (modules_joined b v is) is.how is.m k (may_enter b v.holding.pid is.how is.m is.asked.may)

-- its history is legal
pub legal_entered : (b : BoardState) (v : ProcessView) (is : IsEntered b v) → IsLegal (board_entered b v is)
legal_entered b v is = one_more_is_legal b.library b.failing (fixed_bytes b.library) b.history (entry_of b v.holding.pid (enter is.how is.m)) is.asked.legal is.asked.follows

pub joined_is : (lib : Library) (e : Eager) (pid m k : ℕ) → is_among (joined lib e pid m) k ≡ is_among (order_of lib m) k && not (reaches lib (e.processes pid) k)
unfolding joined
joined_is lib e pid m k = among_filter (λ n. not (reaches lib (e.processes pid) n)) (order_of lib m) k

-- ---- the residences

pub found : (o : Option Residence) → is_some o ≡ true → (r : Residence) × (o ≡ Some r)
found None h = absurd cc
found (Some r) h = (r, refl)

pub unreached_is : (lib : Library) (e : Eager) (pid k : ℕ) → reaches lib (e.processes pid) k ≡ false → attached_residence lib e pid k ≡ None
unfolding attached_residence
unreached_is lib e pid k is = ap (λ c. cond c (residence_of e k) None) is

no_stay : (o : Option Residence) → option_map fresh_of o ≡ None → o ≡ None
no_stay None e = refl
no_stay (Some r) e = absurd cc

pub resident_by : (lib : Library) (e : Eager) (pid k : ℕ) → is_some (residence_of e k) ≡ is_reached lib e k → is_among pids pid ≡ true → reaches lib (e.processes pid) k ≡ true → is_some (residence_of e k) ≡ true
resident_by lib e pid k law process reached = law ∙ one_reaches lib e pid k process reached

-- the residence of a module that is attached then
pub record IsNew (b : BoardState) (v : ProcessView) (is : IsEntered b v) (k : ℕ) : Type 0 where
  pub residence : Residence
  pub there : residence_of (state_of (board_entered b v is)) k ≡ Some residence
  pub attached : attached_residence b.library (state_of (board_entered b v is)) v.holding.pid k ≡ Some residence
  pub «module» : residence.«module» ≡ k

pub new_resident : (b : BoardState) (v : ProcessView) (is : IsEntered b v) (k : ℕ) → is_among (modules_joined b v is) k ≡ true → IsNew b v is k
new_resident b v is k new =
    let lib = b.library in
    let pid = v.holding.pid in
    let c = board_entered b v is in
    let reaches_it = reaches lib ((state_of b).processes pid) k in
    let both = sym (joined_is lib (state_of b) pid is.m k) ∙ new in
    let reached : reaches lib ((state_of c).processes pid) k ≡ true = reaches_on b v is k ∙ ap (λ c. c || reaches_it) (and_left (is_among (order_of lib is.m) k) (not reaches_it) both) in
    let it = found (residence_of (state_of c) k) (resident_by lib (state_of c) pid k (reached_is_resident lib b.failing (fixed_bytes lib) c.history (legal_entered b v is) k) is.asked.process reached) in
    let attached = attached_is_resident lib (state_of c) pid k reached ∙ it.1 in
    record { residence = it.0; there = it.1; attached = attached; «module» = (attached_is lib (state_of c) pid k it.0 attached).1 }

stays_entered : OrderEndsWithItself → (b : BoardState) (v : ProcessView) (is : IsEntered b v) (k : ℕ) →
    find (λ (s : Fresh). s.«module» == k) (map fresh_shown (v.residences ++ news_of b v is)) ≡ option_map fresh_of (attached_residence b.library (state_of (board_entered b v is)) v.holding.pid k)
stays_entered ends b v is k = all ∙ by_old (attached_residence lib e pid k) refl
  where
    lib : Library
    lib = b.library

    pid : ℕ
    pid = v.holding.pid

    e : Eager
    e = state_of b

    after : Eager
    after = state_of (board_entered b v is)

    at : Fresh → Bool
    at s = s.«module» == k

    all : find at (map fresh_shown (v.residences ++ news_of b v is)) ≡ option_or (find at v.holding.residences) (find at (map fresh_shown (news_of b v is)))
    all =
        ap (find at) (map-append fresh_shown v.residences (news_of b v is)) ∙ ap (λ ss. find at (ss ++ map fresh_shown (news_of b v is))) (sym is.asked.stands.residences)
        ∙ find-append at v.holding.residences (map fresh_shown (news_of b v is))

    old : (o : Option Residence) → attached_residence lib e pid k ≡ o → find at v.holding.residences ≡ option_map fresh_of o
    old o h = is.asked.stands.stands.view.residences k ∙ ap (option_map fresh_of) h

    by_new : (c : Bool) → is_among (order_of lib is.m) k ≡ c → reaches lib (e.processes pid) k ≡ false → find at (map fresh_shown (news_of b v is)) ≡ option_map fresh_of (attached_residence lib after pid k)
    by_new true h un =
        let there : is_among (joined lib e pid is.m) k ≡ true = joined_is lib e pid is.m k ∙ ap (λ c. c && not (reaches lib (e.processes pid) k)) h ∙ ap not un in
        let it = new_resident b v is k there in
        found_new lib after b.keeper k (joined lib e pid is.m) ∙ ap (λ c. cond c (Some (fresh_shown (residence_shown lib after b.keeper k))) None) there ∙ ap (λ (f : Fresh). Some f) (shown_is ends lib after b.keeper k it.residence it.there it.«module») ∙ sym (ap (option_map fresh_of) it.attached)
    by_new false h un =
        let none : is_among (joined lib e pid is.m) k ≡ false = joined_is lib e pid is.m k ∙ ap (λ c. c && not (reaches lib (e.processes pid) k)) h in
        let unreached : reaches lib (after.processes pid) k ≡ false = reaches_on b v is k ∙ ap (λ c. c || reaches lib (e.processes pid) k) h ∙ un in
        found_new lib after b.keeper k (joined lib e pid is.m) ∙ ap (λ c. cond c (Some (fresh_shown (residence_shown lib after b.keeper k))) None) none ∙ sym (ap (option_map fresh_of) (unreached_is lib after pid k unreached))

    by_reach : (c : Bool) → reaches lib (e.processes pid) k ≡ c → attached_residence lib e pid k ≡ None → c ≡ false
    by_reach false h none = refl
    by_reach true h none =
        let resident = found (residence_of e k) (resident_by lib e pid k (reached_is_resident lib b.failing (fixed_bytes lib) b.history is.asked.legal k) is.asked.process h) in
        absurd (let wrong : Some resident.0 ≡ None = sym (attached_is_resident lib e pid k h ∙ resident.1) ∙ none in cc)

    by_old : (o : Option Residence) → attached_residence lib e pid k ≡ o → option_or (find at v.holding.residences) (find at (map fresh_shown (news_of b v is))) ≡ option_map fresh_of (attached_residence lib after pid k)
    by_old (Some r) h = ap (λ o. option_or o (find at (map fresh_shown (news_of b v is)))) (old (Some r) h) ∙ sym (ap (option_map fresh_of) (attached_on b v is k r h))
    by_old None h = ap (λ o. option_or o (find at (map fresh_shown (news_of b v is)))) (old None h) ∙ by_new (is_among (order_of lib is.m) k) refl (by_reach (reaches lib (e.processes pid) k) refl h)

-- ---- how they are shown

old_shown : ResidenceStays → BasesSeenStay → (b : BoardState) (v : ProcessView) (is : IsEntered b v) → AreShown b.library (state_of (board_entered b v is)) v.residences
old_shown still bases b v is =
    all_shown still bases b v (entry_of b v.holding.pid (enter is.how is.m)) is.asked.legal is.asked.follows is.asked.stands
    (λ i r u here.
    let own = attached b v i r is.asked.stands u here in
    ap (λ (o : Option Residence). is_some o) (residence_is b.library (state_of (board_entered b v is)) v.holding.pid r.«module» own.0 (attached_on b v is r.«module» own.0 own.1.there)))

new_shown : (lib : Library) (e : Eager) (keeper : ℕ) (js : List ℕ) → AreShown lib e (map (residence_shown lib e keeper) js)
new_shown lib e keeper [] = tt
new_shown lib e keeper (j ∷ js) = (refl, new_shown lib e keeper js)

-- ---- the deed

-- the view with residences more
abbrev pub entered_view : ProcessView → ProcessCounts → List ResidenceFor → ℕ → ℕ → ℕ → ProcessView
entered_view v counts news n room more = record {
  library = v.library;
  holding = record v.holding { counts = counts; residences = map fresh_shown (v.residences ++ news); front = n };
  residences = v.residences ++ news;
  page_room = room;
  residence_room = more;
}

pub did_entered : OrderEndsWithItself → ResidenceStays → BasesSeenStay → StandsEntered → (b : BoardState) (v : ProcessView) (is : IsEntered b v) (counts : ProcessCounts) (room more : ℕ) →
    AreCountsOf b.library (holding is.how is.m (attaching (modules_joined b v is) ((state_of b).processes v.holding.pid))) counts →
    Did b (board_entered b v is) v (entered_view v counts (news_of b v is) (length (board_entered b v is).history) room more) is.command (done (length (board_entered b v is).history))
did_entered ends still bases stands_entered b v is counts room more rows =
    let x = entry_of b v.holding.pid (enter is.how is.m) in
    let lib = b.library in
    let after = state_of (board_entered b v is) in
    let n = length (board_entered b v is).history in
    record {
      ask = enter is.how is.m;
      asked = is.asked.asked;
      adds = refl;
      follows = is.asked.follows;
      told = rw is.deed (is_done tt);
      stands = record {
        library = is.asked.stands.library;
        residences = refl;
        stands =
            stands_entered lib b.failing (fixed_bytes lib) v.holding b.history x is.how is.m is.fresh is.calls counts (map fresh_shown (v.residences ++ news_of b v is)) is.asked.legal is.asked.follows refl is.deed
            (rw (process_entered b v is) rows) (stays_entered ends b v is) is.asked.stands.stands;
        shown = all_joined (λ (r : ResidenceFor). r ≡ residence_shown lib after r.keeper r.«module») v.residences (news_of b v is) (old_shown still bases b v is) (new_shown lib after b.keeper (modules_joined b v is));
      };
      library = refl;
      pid = refl;
      mapped = sym (ap (λ (d : Deed). touched_after lib (state_of b) v.holding.pid d (λ _. mapped_pages v.holding) v.holding.pid) is.deed);
    }

-- ---- where it is refused with an entry

pub did_full : ResidenceStays → BasesSeenStay → StandsQuiet → (b : BoardState) (v : ProcessView) (command : Command) (how : How) (m of object size : ℕ) → IsAsked b v command (enter how m) →
    (entry_of b v.holding.pid (enter how m)).deed ≡ deeds.Full how m of object size →
    Did b (with_asked b v (enter how m)) v (at_front (length (with_asked b v (enter how m)).history) v) command (told (Refused (ArenaFull (length (with_asked b v (enter how m)).history) of object size)))
did_full still bases quiet b v command how m of object size is deed =
    let n = length (with_asked b v (enter how m)).history in
    did_quiet still bases quiet b v command (enter how m) _ is (rw deed tt) (rw deed arena_full)
    (sym (ap (λ (d : Deed). touched_after b.library (state_of b) v.holding.pid d (λ _. mapped_pages v.holding) v.holding.pid) deed))

pub did_failed : ResidenceStays → BasesSeenStay → StandsQuiet → (b : BoardState) (v : ProcessView) (command : Command) (how : How) (m by : ℕ) (fresh : List Fresh) (calls : List Call) (gone : List Gone) → IsAsked b v command (enter how m) →
    (entry_of b v.holding.pid (enter how m)).deed ≡ deeds.Failed how m by fresh calls gone →
    Did b (with_asked b v (enter how m)) v (at_front (length (with_asked b v (enter how m)).history) v) command (told (Refused (InitFailed (length (with_asked b v (enter how m)).history) by)))
did_failed still bases quiet b v command how m by fresh calls gone is deed =
    let n = length (with_asked b v (enter how m)).history in
    did_quiet still bases quiet b v command (enter how m) _ is (rw deed tt) (rw deed init_failed)
    (sym (ap (λ (d : Deed). touched_after b.library (state_of b) v.holding.pid d (λ _. mapped_pages v.holding) v.holding.pid) deed))

-- ---- new residences are of their own

-- the serial number of what is new is that of nothing that the is.asked.process reached before
unlike : (b : BoardState) (v : ProcessView) (is : IsEntered b v) (j k : ℕ) (a : Residence) → is_among (modules_joined b v is) k ≡ true → attached_residence b.library (state_of b) v.holding.pid j ≡ Some a →
    a.serial ≡ serial_of (residence_of (state_of (board_entered b v is)) k) → ⊥
unlike b v is j k a new there same =
    let lib = b.library in
    let pid = v.holding.pid in
    let e = state_of b in
    let c = board_entered b v is in
    let it = new_resident b v is k new in
    let one : a ≡ it.residence =
    serials_are_own lib b.failing (fixed_bytes lib) c.history j k a it.residence (legal_entered b v is) (residence_is lib (state_of c) pid j a (attached_on b v is j a there)) it.there (same ∙ ap serial_of it.there)
    in
    let number : j ≡ k = sym (attached_is lib e pid j a there).1 ∙ ap (λ (z : Residence). z.«module») one ∙ it.«module» in
    let before : reaches lib (e.processes pid) k ≡ true = ap (reaches lib (e.processes pid)) (sym number) ∙ (attached_is lib e pid j a there).0 in
    let wrong : not true ≡ true = sym (ap not before) ∙ and_right (is_among (order_of lib is.m) k) (not (reaches lib (e.processes pid) k)) (sym (joined_is lib e pid is.m k) ∙ new) in
    cc

pub new_stay_apart : (b : BoardState) (v : ProcessView) (is : IsEntered b v) (k : ℕ) → is_among (modules_joined b v is) k ≡ true →
    All (λ (r : ResidenceFor). r.serial ≡ serial_of (residence_of (state_of (board_entered b v is)) k) → ⊥) v.residences
new_stay_apart b v is k new =
    All-from_get_or (λ (r : ResidenceFor). r.serial ≡ serial_of (residence_of (state_of (board_entered b v is)) k) → ⊥) v.residences nowhere
    (λ i u same.
    let r = get_or v.residences i nowhere in
    let own = attached b v i r is.asked.stands u (get_or_default v.residences i nowhere r u) in
    unlike b v is r.«module» k own.0 new own.1.there (own.1.serial ∙ same))

none_has : (lib : Library) (contents : Held) (e : Eager) (pid n : ℕ) (q : PageId) → ((j : ℕ) (a : Residence) → attached_residence lib e pid j ≡ Some a → a.serial ≡ n → ⊥) → (ps : List Mapped) → AllByRecursion (IsMapped lib contents e pid) ps →
    has_page (map (λ (p : Mapped). p.of) ps) n q ≡ false
none_has lib contents e pid n q none [] all = refl
none_has lib contents e pid n q none (p ∷ ps) all =
    ap (λ c. (c && is_page p.of.page q) || has_page (map (λ (p : Mapped). p.of) ps) n q) (by_test (p.of.serial == n) refl) ∙ none_has lib contents e pid n q none ps all.1
  where
    by_test : (c : Bool) → (p.of.serial == n) ≡ c → (p.of.serial == n) ≡ false
    by_test false is = is
    by_test true is = absurd (none all.0.residence.«module» all.0.residence all.0.there (sym all.0.serial ∙ same_number p.of.serial n is))

pub new_page_unmapped : (b : BoardState) (v : ProcessView) (is : IsEntered b v) (k : ℕ) → is_among (modules_joined b v is) k ≡ true → (q : PageId) →
    has_page (mapped_pages v.holding) (serial_of (residence_of (state_of (board_entered b v is)) k)) q ≡ false
new_page_unmapped b v is k new q =
    none_has b.library (fixed_bytes b.library) (state_of b) v.holding.pid _ q (λ j a there same. unlike b v is j k a new there same) v.holding.mapped is.asked.stands.stands.view.mapped
