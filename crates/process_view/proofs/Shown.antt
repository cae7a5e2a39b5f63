-- The residences of a view: as they are shown, and as its process has attached them.
use Rattle.std.proofs.Common.{◌≡◌, ℕ, zero, suc, ◌<◌, ◌==◌, Bool, true, false, cond, List, [], ◌∷◌, ◌++◌, map, length, Option, Some, None, get_or, refl, sym, ap, subst, ◌∙◌, arith}
use Rattle.process_view.proofs.Words.{after_entry, All-from_get_or, AreShown, at_front, attached_residence, bases_seen, BasesSeenStay, BoardState, Eager, Entry}
use Rattle.process_view.proofs.Words.{Failing, find, fixed_bytes, Follows, Fresh, fresh_of, fresh_shown, get_or_default, Holding, is_reached, is_some, IsLegal}
use Rattle.process_view.proofs.Words.{IsQuiet, Library, nat_tests, nowhere, one_more_is_after, one_more_is_legal, ProcessView, reached_is_resident}
use Rattle.process_view.proofs.Words.{recursion_from_All, Residence, residence_is, residence_of, residence_shown, ResidenceFor, ResidenceStays, serial_of}
use Rattle.process_view.proofs.Words.{StandsAt, StandsFor, StandsQuiet, state_after, state_of, stay_is, unwritten_of, with_entry}

pub self : (n : ℕ) → (n == n) ≡ true
self n = grind (arith, nat_tests)

pub shown_at : (lib : Library) (e : Eager) (rs : List ResidenceFor) (k : ℕ) (r : ResidenceFor) → AreShown lib e rs → k < length rs → r ≡ get_or rs k r → r ≡ residence_shown lib e r.keeper r.«module»
shown_at lib e [] k r s u at = absurd (omega arith)
shown_at lib e (y ∷ ys) zero r s u at = let P : ResidenceFor → Type 0 = λ q. q ≡ residence_shown lib e q.keeper q.«module» in subst P (sym at) s.0
shown_at lib e (y ∷ ys) (suc k) r s u at = shown_at lib e ys k r s.1 (omega arith) at

-- the first of those that are shown which is of a residence's module is that residence
shown_first : (lib : Library) (e : Eager) (rs : List ResidenceFor) (k : ℕ) (r : ResidenceFor) → AreShown lib e rs → k < length rs → r ≡ get_or rs k r → find (λ (s : Fresh). s.«module» == r.«module») (map fresh_shown rs) ≡ Some (fresh_shown r)
shown_first lib e [] k r shown u at = absurd (omega arith)
shown_first lib e (x ∷ xs) k r shown u at = by_test (x.«module» == r.«module») refl k u at (λ n v w. shown_first lib e xs n r shown.1 v w)
  where
    by_test : (b : Bool) → (x.«module» == r.«module») ≡ b → (k : ℕ) → k < length (x ∷ xs) → r ≡ get_or (x ∷ xs) k r →
        ((n : ℕ) → n < length xs → r ≡ get_or xs n r → find (λ (s : Fresh). s.«module» == r.«module») (map fresh_shown xs) ≡ Some (fresh_shown r)) →
        cond (x.«module» == r.«module») (Some (fresh_shown x)) (find (λ (s : Fresh). s.«module» == r.«module») (map fresh_shown xs)) ≡ Some (fresh_shown r)
    by_test true is k u at later =
        let same : x.«module» ≡ r.«module» = grind (arith, nat_tests) in
        let it : fresh_shown x ≡ fresh_shown r =
        ap fresh_shown shown.0 ∙ ap (λ (m : ℕ). fresh_shown (residence_shown lib e x.keeper m)) same ∙ sym (ap fresh_shown (shown_at lib e (x ∷ xs) k r shown u at))
        in
        ap (λ b. cond b (Some (fresh_shown x)) (find (λ (s : Fresh). s.«module» == r.«module») (map fresh_shown xs))) is ∙ ap (λ (f : Fresh). Some f) it
    by_test false is zero u at later = absurd (let same : (x.«module» == r.«module») ≡ true = (ap (λ (q : ResidenceFor). x.«module» == q.«module») at ∙ self x.«module») in cc)
    by_test false is (suc n) u at later =
        ap (λ b. cond b (Some (fresh_shown x)) (find (λ (s : Fresh). s.«module» == r.«module») (map fresh_shown xs))) is ∙ later n (omega arith) at

-- a view stands for what was done, whoever keeps the residences
pub stands_under : (b : BoardState) (keeper : ℕ) (v : ProcessView) → StandsAt b v → StandsAt (record b { keeper = keeper }) v
stands_under b keeper v stands = record { library = stands.library; residences = stands.residences; stands = stands.stands; shown = stands.shown }

-- ---- attached residences

-- one of those that a view has is attached where the view stands
found_attached : (lib : Library) (failing : Failing) (w : Holding) (h : List Entry) (e : Eager) (rs : List ResidenceFor) (k : ℕ) (r : ResidenceFor) → w.residences ≡ map fresh_shown rs → StandsFor lib failing (fixed_bytes lib) w h → AreShown lib e rs →
    k < length rs → r ≡ get_or rs k r → (a : Residence) × (attached_residence lib (state_after lib failing h) w.pid r.«module» ≡ Some a) × (fresh_of a ≡ fresh_shown r)
found_attached lib failing w h e rs k r is stands shown u at =
    stay_is (attached_residence lib (state_after lib failing h) w.pid r.«module») (fresh_shown r)
    (sym (stands.view.residences r.«module») ∙ ap (λ (ss : List Fresh). find (λ (s : Fresh). s.«module» == r.«module») ss) is ∙ shown_first lib e rs k r shown u at)

-- the residence of the process, as the history has it
pub record IsAttached (b : BoardState) (v : ProcessView) (r : ResidenceFor) (a : Residence) : Type 0 where
  pub there : attached_residence b.library (state_of b) v.holding.pid r.«module» ≡ Some a
  pub serial : a.serial ≡ r.serial
  pub «module» : a.«module» ≡ r.«module»
  pub bases : r.bases ≡ bases_seen b.library (state_of b) r.«module»

pub attached : (b : BoardState) (v : ProcessView) (k : ℕ) (r : ResidenceFor) → StandsAt b v → k < length v.residences → r ≡ get_or v.residences k r → (a : Residence) × IsAttached b v r a
attached b v k r at u is =
    let it = found_attached b.library b.failing v.holding b.history (state_of b) v.residences k r at.residences at.stands at.shown u is in (
      it.0,
      record {
        there = it.1;
        serial = ap (λ (f : Fresh). f.serial) it.2;
        «module» = ap (λ (f : Fresh). f.«module») it.2;
        bases = ap (λ (q : ResidenceFor). q.bases) (shown_at b.library (state_of b) v.residences k r at.shown u is);
      },
    )

-- ---- after an entry

pub serial_stays : (o : Option Residence) → serial_of (unwritten_of o) ≡ serial_of o
serial_stays None = refl
serial_stays (Some r) = refl

-- a residence that stands before and after an entry is shown alike
pub shown_alike : ResidenceStays → BasesSeenStay → (b : BoardState) (x : Entry) (keeper m : ℕ) → IsLegal b → Follows b.library b.failing (fixed_bytes b.library) b.history x →
    is_some (residence_of (state_of b) m) ≡ true → is_some (residence_of (state_after b.library b.failing (b.history ++ x ∷ [])) m) ≡ true →
    residence_shown b.library (state_after b.library b.failing (b.history ++ x ∷ [])) keeper m ≡ residence_shown b.library (state_of b) keeper m
shown_alike still bases b x keeper m legal follows before beyond =
    let lib = b.library in
    let contents = fixed_bytes b.library in
    let next = after_entry lib (state_of b) x in
    let after : state_after lib b.failing (b.history ++ x ∷ []) ≡ next = one_more_is_after lib b.failing b.history x in
    let more = one_more_is_legal lib b.failing contents b.history x legal follows in
    let reached : is_reached lib next m ≡ true = ap (λ (e : Eager). is_reached lib e m) (sym after) ∙ sym (reached_is_resident lib b.failing contents (b.history ++ x ∷ []) more m) ∙ beyond in
    let there : is_some (residence_of next m) ≡ true = ap (λ (e : Eager). is_some (residence_of e m)) (sym after) ∙ beyond in
    let residences = still lib b.failing contents b.history x m legal follows before reached in
    let serial : serial_of (residence_of next m) ≡ serial_of (residence_of (state_of b) m) = sym (serial_stays (residence_of next m)) ∙ ap serial_of residences ∙ serial_stays (residence_of (state_of b) m) in
    let seen = bases lib b.failing contents b.history x m legal follows before there in
    ap (λ (e : Eager). residence_shown lib e keeper m) after
    ∙ ap (λ (n : ℕ). record (residence_shown lib next keeper m) { serial = n }) serial ∙ ap (λ bs. record (residence_shown lib next keeper m) { serial = serial_of (residence_of (state_of b) m); bases = bs }) seen

-- a residence that stands after an entry too is shown as before
pub shown_on : ResidenceStays → BasesSeenStay → (b : BoardState) (v : ProcessView) (x : Entry) (k : ℕ) (r : ResidenceFor) → IsLegal b → Follows b.library b.failing (fixed_bytes b.library) b.history x → StandsAt b v → k < length v.residences →
    r ≡ get_or v.residences k r → is_some (residence_of (state_of (with_entry b x)) r.«module») ≡ true → r ≡ residence_shown b.library (state_of (with_entry b x)) r.keeper r.«module»
shown_on still bases b v x k r legal follows at u is beyond =
    let own = attached b v k r at u is in
    shown_at b.library (state_of b) v.residences k r at.shown u is
    ∙ sym (shown_alike still bases b x r.keeper r.«module» legal follows (ap (λ (o : Option Residence). is_some o) (residence_is b.library (state_of b) v.holding.pid r.«module» own.0 own.1.there)) beyond)

pub all_shown : ResidenceStays → BasesSeenStay → (b : BoardState) (v : ProcessView) (x : Entry) → IsLegal b → Follows b.library b.failing (fixed_bytes b.library) b.history x → StandsAt b v →
    ((k : ℕ) (r : ResidenceFor) → k < length v.residences → r ≡ get_or v.residences k r → is_some (residence_of (state_of (with_entry b x)) r.«module») ≡ true) → AreShown b.library (state_of (with_entry b x)) v.residences
all_shown still bases b v x legal follows at beyond =
    let P : ResidenceFor → Type 0 = λ r. r ≡ residence_shown b.library (state_of (with_entry b x)) r.keeper r.«module» in
    recursion_from_All P v.residences
    (All-from_get_or P v.residences nowhere
    (λ i u.
    let r = get_or v.residences i nowhere in
    let here : r ≡ get_or v.residences i r = get_or_default v.residences i nowhere r u in
    shown_on still bases b v x i r legal follows at u here (beyond i r u here)))

-- a view with the same residences after an entry
pub shown_after : ResidenceStays → BasesSeenStay → (b : BoardState) (x : Entry) (v : ProcessView) (w : Holding) → IsLegal b → Follows b.library b.failing (fixed_bytes b.library) b.history x → StandsAt b v →
    w.residences ≡ map fresh_shown v.residences → StandsFor b.library b.failing (fixed_bytes b.library) w (b.history ++ x ∷ []) → AreShown b.library (state_of (with_entry b x)) v.residences
shown_after still bases b x v w legal follows at e stands =
    all_shown still bases b v x legal follows at
    (λ k r u is.
    let it = found_attached b.library b.failing w (b.history ++ x ∷ []) (state_of b) v.residences k r e stands at.shown u is in
    ap (λ (o : Option Residence). is_some o) (residence_is b.library (state_of (with_entry b x)) w.pid r.«module» it.0 it.1))

-- after an entry that changes nothing in it
pub quiet_after : ResidenceStays → BasesSeenStay → StandsQuiet → (b : BoardState) (x : Entry) (v : ProcessView) → IsLegal b → Follows b.library b.failing (fixed_bytes b.library) b.history x → x.pid ≡ v.holding.pid → IsQuiet b.library x.deed → StandsAt b v →
    StandsAt (with_entry b x) (at_front (length (b.history ++ x ∷ [])) v)
quiet_after still bases quiet b x v legal follows own is at =
    let stands = quiet b.library b.failing (fixed_bytes b.library) v.holding b.history x own is at.stands in
    record { library = at.library; residences = at.residences; stands = stands; shown = shown_after still bases b x v (record v.holding { front = length (b.history ++ x ∷ []) }) legal follows at at.residences stands }
