-- A view with one page more stands for the same history; the claim of a page by a view.
use Rattle.std.proofs.Common.{◌≡◌, ℕ, zero, suc, ◌+◌, ◌-◌, ◌/◌, ◌%◌, ◌<◌, ◌≤◌, ◌==◌, Bool, true, false, cond, List, [], ◌∷◌, ◌++◌, map, length, Option, None, slice_index, reverse, inl, inr, refl, sym, ap, subst, ◌∙◌, arith, ◌*◌, ◌&&◌, ◌||◌, not, filter}
use Rattle.process_view.proofs.Words.{AllByRecursion, and_left, and_right, and_true, at_front, attached_is, attached_residence, Bases, bases_seen}
use Rattle.process_view.proofs.Words.{BasesSeenStay, BoardState, Byte, CanMap, cases_lt, Class, class_of, class_refusal, covers_invalid, deed_of, Eager}
use Rattle.process_view.proofs.Words.{entry_of, fault, fault_of, filter_map, filter_map-append, first_or, Fixed, fixed_bytes, fixed_page, Follows, Fresh}
use Rattle.process_view.proofs.Words.{get_or-map-range_with_len, has_fault, has_page, has_shared_pages, Held, Invalid, is_among, is_attached, is_covered}
use Rattle.process_view.proofs.Words.{is_fixable, is_invalid, is_none, is_outside, is_own, is_page_of, is_serial, IsLegal, IsMapped, IsNumberOf, IsSharedPage}
use Rattle.process_view.proofs.Words.{Library, list_all, list_any, lying_byte, mapped_pages, may_ask, may_fault, MayAsk, module_of, nat_le, nat_lt, nat_tests}
use Rattle.process_view.proofs.Words.{not-true, object_at, object_of, objects_of, OwnWrite, page, page_at, page_with, PageId, PageOf, pages_of, pages_over}
use Rattle.process_view.proofs.Words.{pids, ProcessView, put_at, Range, range_with_len, Refusal, Residence, residence_is, ResidenceFor, ResidenceStays}
use Rattle.process_view.proofs.Words.{reverse-append, serials_are_own, slice_get, slice_get_past, some_bytes, span_refusal, StandsAt, StandsQuiet, state_of}
use Rattle.process_view.proofs.Words.{stay_is, WasFixed, when, with_entry, writes_of_class, writes_seen, Written, ◌orelse◌}
use Rattle.lx_types.specs.declared.object.Class.TheVariants.{Private, Shared}
use Rattle.load_model.proofs.ViewSteps.{stands_mapped}
use Rattle.process_view.specs.PageLaws.{PagesStand}
use Rattle.process_view.proofs.Shown.{attached, IsAttached, self, quiet_after}
use Rattle.lx_types.specs.declared.object.TheConstants.{PAGE_SIZE}
use Rattle.lx_types.specs.declared.object.Class.TheVariants as classes
use Rattle.lx_model.specs.ModuleBytes as bytes
use Rattle.load_model.specs.Refusals as uses

-- ---- a view with one page more stands for the same history

-- ---- writes

all_at : (p : ℕ → Bool) (a n j : ℕ) → list_all p (range_with_len a n) ≡ true → a ≤ j → j < a + n → p j ≡ true
all_at p a zero j e u v = absurd (omega arith)
all_at p a (suc n) j e u v = elim (cases_lt a j) as (λ _. p j ≡ true) [
  | inl later ↦ all_at p (a + 1) n j (and_right (p a) (list_all p (range_with_len (a + 1) n)) e) (omega arith) (omega arith)
  | inr here ↦ let same : j ≡ a = omega arith in ap p same ∙ and_left (p a) (list_all p (range_with_len (a + 1) n)) e
]

pub over_at : (p : ℕ → Bool) (offset len x : ℕ) → list_all p (pages_over offset len) ≡ true → offset ≤ x → x < offset + len → p (x / 4096) ≡ true
over_at p offset zero x e u v = absurd (omega arith)
over_at p offset (suc l) x e u v =
    all_at p (offset / 4096) ((offset + suc l - 1) / 4096 + 1 - offset / 4096) (x / 4096)
    (sym (ap (λ b. list_all p (cond b [] (range_with_len (offset / 4096) ((offset + suc l - 1) / 4096 + 1 - offset / 4096)))) (some_bytes l)) ∙ e) (omega arith) (omega arith)

module _ (pages : List PageOf) (serial object x : ℕ) (apart : has_page pages serial (page object (x / 4096)) ≡ false) where
  is_before : (a b : ℕ) → a ≤ b → nat_le a b ≡ true
  is_before a b u = grind (arith, nat_tests)

  is_after : (a b : ℕ) → b < a → nat_le a b ≡ false
  is_after a b u = grind (arith, nat_tests)

  not_put : (w : OwnWrite) → w.serial ≡ serial → w.write.object ≡ object → is_covered pages w ≡ true → put_at x w.write ≡ None
  not_put w s o covered = elim (cases_lt x w.write.offset) as (λ _. put_at x w.write ≡ None) [
    | inl before ↦ ap (λ b. cond b (slice_get w.write.bytes (x - w.write.offset)) None) (is_after w.write.offset x before)
    | inr after ↦
        ap (λ b. cond b (slice_get w.write.bytes (x - w.write.offset)) None) (is_before w.write.offset x after)
        ∙ elim (cases_lt (x - w.write.offset) (length w.write.bytes)) as (λ _. slice_get w.write.bytes (x - w.write.offset) ≡ None) [
          | inl inside ↦
              let there : has_page pages w.serial (page w.write.object (x / 4096)) ≡ true = over_at (λ n. has_page pages w.serial (page w.write.object n)) w.write.offset (length w.write.bytes) x covered after (omega arith) in
              let same : has_page pages serial (page object (x / 4096)) ≡ true =
              ap (λ (n : ℕ). has_page pages n (page object (x / 4096))) (sym s) ∙ ap (λ (n : ℕ). has_page pages w.serial (page n (x / 4096))) (sym o) ∙ there
              in
              absurd cc
          | inr past ↦ slice_get_past w.write.bytes (x - w.write.offset) past
        ]
  ]

  none_put : (ws : List OwnWrite) → AllByRecursion (λ (w : OwnWrite). is_covered pages w ≡ true) ws →
      AllByRecursion (λ (w : Written). put_at x w ≡ None) (filter (λ (w : Written). w.object == object) (map (λ (w : OwnWrite). w.write) (filter (λ (w : OwnWrite). w.serial == serial) ws)))
  none_put [] h = tt
  none_put (w ∷ ws) h = by_tests (w.serial == serial) (w.write.object == object) refl refl (none_put ws h.1)
    where
      P : List Written → Type 0
      P = AllByRecursion (λ (v : Written). put_at x v ≡ None)

      rest : List Written
      rest = map (λ (v : OwnWrite). v.write) (filter (λ (v : OwnWrite). v.serial == serial) ws)

      by_tests : (a b : Bool) → (w.serial == serial) ≡ a → (w.write.object == object) ≡ b → P (filter (λ (v : Written). v.object == object) rest) →
          P (filter (λ (v : Written). v.object == object) (map (λ (v : OwnWrite). v.write) (cond (w.serial == serial) (w ∷ filter (λ (v : OwnWrite). v.serial == serial) ws) (filter (λ (v : OwnWrite). v.serial == serial) ws))))
      by_tests false b e f later = subst P (sym (ap (λ c. filter (λ (v : Written). v.object == object) (map (λ (v : OwnWrite). v.write) (cond c (w ∷ filter (λ (v : OwnWrite). v.serial == serial) ws) (filter (λ (v : OwnWrite). v.serial == serial) ws)))) e)) later
      by_tests true false e f later =
          subst P
          (sym
          (ap (λ c. filter (λ (v : Written). v.object == object) (map (λ (v : OwnWrite). v.write) (cond c (w ∷ filter (λ (v : OwnWrite). v.serial == serial) ws) (filter (λ (v : OwnWrite). v.serial == serial) ws)))) e
          ∙ ap (λ c. cond c (w.write ∷ filter (λ (v : Written). v.object == object) rest) (filter (λ (v : Written). v.object == object) rest)) f))
          later
      by_tests true true e f later =
          let s : w.serial ≡ serial = grind (arith, nat_tests) in
          let o : w.write.object ≡ object = grind (arith, nat_tests) in
          let both : P (w.write ∷ filter (λ (v : Written). v.object == object) rest) = (not_put w s o h.0, later) in
          subst P
          (sym
          (ap (λ c. filter (λ (v : Written). v.object == object) (map (λ (v : OwnWrite). v.write) (cond c (w ∷ filter (λ (v : OwnWrite). v.serial == serial) ws) (filter (λ (v : OwnWrite). v.serial == serial) ws)))) e
          ∙ ap (λ c. cond c (w.write ∷ filter (λ (v : Written). v.object == object) rest) (filter (λ (v : Written). v.object == object) rest)) f))
          both

nothing_put : (x : ℕ) (ws : List Written) → AllByRecursion (λ (w : Written). put_at x w ≡ None) ws → filter_map (put_at x) (reverse ws) ≡ []
nothing_put x [] h = refl
nothing_put x (w ∷ ws) h =
    ap (filter_map (put_at x)) (reverse-append (w ∷ []) ws) ∙ filter_map-append (put_at x) (reverse ws) (w ∷ [])
    ∙ ap (λ (ys : List ℕ). ys ++ filter_map (put_at x) (w ∷ [])) (nothing_put x ws h.1) ∙ one_none (put_at x) w h.0
  where
    one_none : (f : Written → Option ℕ) (w : Written) → f w ≡ None → filter_map f (w ∷ []) ≡ []
    one_none f w e = rw e refl

-- so what lies there is what the fixups leave
lies_fixed : (c : Class) (lib : Library) (contents : Held) (e : Eager) (pid : ℕ) (r : Residence) (object x : ℕ) (pages : List PageOf) → class_of (object_at lib r.«module» object) ≡ c →
    has_page pages r.serial (page object (x / 4096)) ≡ false → AllByRecursion (λ (w : OwnWrite). is_covered pages w ≡ true) (e.processes pid).writes →
    lying_byte c lib contents e pid r object x ≡ contents r.«module» (bases_seen lib e r.«module») object x
unfolding Byte writes_seen
lies_fixed Shared lib contents e pid r object x pages is apart covered = refl
lies_fixed class lib contents e pid r object x pages is apart covered =
    let P : Class → Type 0 = λ c. AllByRecursion (λ (w : Written). put_at x w ≡ None) (filter (λ (w : Written). w.object == object) (writes_of_class c (e.processes pid) r)) in
    let none : P (class_of (object_at lib r.«module» object)) = subst P (sym is) (none_put pages r.serial object x apart (e.processes pid).writes covered) in
    ap (first_or (contents r.«module» (bases_seen lib e r.«module») object x)) (nothing_put x (filter (λ (w : Written). w.object == object) (writes_of_class (class_of (object_at lib r.«module» object)) (e.processes pid) r)) none)

-- ---- the page

fixed_there : (lib : Library) (m : ℕ) (bases : Bases) (p : PageId) (x : ℕ) → x / 4096 ≡ p.page → slice_index (fixed_page lib m bases p) (x % 4096) ≡ fixed_bytes lib m bases p.object x
unfolding fixed_bytes
fixed_there lib m bases p x e =
    let small : x % 4096 < 4096 = omega arith in
    get_or-map-range_with_len (Fixed lib m bases p) 0 4096 (x % 4096) (x % 4096) 0 small (omega arith) ∙ ap (λ (n : ℕ). Fixed lib m bases (page p.object n) (x % 4096)) (sym e)

pub pages_stand : PagesStand
pages_stand b v k r p legal at u is can had =
    let lib = b.library in
    let e = state_of b in
    let contents = fixed_bytes b.library in
    let it = attached b v k r at u is in
    let a = it.0 in
    let own = it.1 in
    let bytes : fixed_page v.library r.«module» r.bases p ≡ fixed_page lib a.«module» (bases_seen lib e a.«module») p =
    ap (λ (l : Library). fixed_page l r.«module» r.bases p) at.library ∙ ap (λ (bs : Bases). fixed_page lib r.«module» bs p) own.bases
    ∙ ap (λ (m : ℕ). fixed_page lib m (bases_seen lib e m) p) (sym own.«module»)
    in
    let mapped : IsMapped lib contents e v.holding.pid (page_with r p (fixed_page v.library r.«module» r.bases p)) = record {
      residence = a;
      there = ap (λ (m : ℕ). attached_residence lib e v.holding.pid m) own.«module» ∙ own.there;
      serial = sym own.serial;
      bytes = λ x q inside.
          let apart : has_page (mapped_pages v.holding) a.serial (page p.object (x / 4096)) ≡ false =
          ap (λ (n : ℕ). has_page (mapped_pages v.holding) n (page p.object (x / 4096))) own.serial ∙ ap (λ (n : ℕ). has_page (mapped_pages v.holding) r.serial (page p.object n)) q ∙ can.apart
          in
          ap (λ (bs : List ℕ). slice_index bs (x % 4096)) bytes ∙ fixed_there lib a.«module» (bases_seen lib e a.«module») p x q
          ∙ sym (lies_fixed (class_of (object_at lib a.«module» p.object)) lib contents e v.holding.pid a p.object x (mapped_pages v.holding) refl apart at.stands.view.writes);
    } in
    let was : WasFixed lib v.holding b.history (page_with r p (fixed_page v.library r.«module» r.bases p)) = λ m s st ser own-of.
    let other = stay_is (attached_residence lib e v.holding.pid m) s (sym (at.stands.view.residences m) ∙ st) in
    let same : other.0 ≡ a =
    serials_are_own lib b.failing contents b.history m r.«module» other.0 a legal (residence_is lib e v.holding.pid m other.0 other.1) (residence_is lib e v.holding.pid r.«module» a own.there)
    (ap (λ (f : Fresh). f.serial) other.2 ∙ ser ∙ sym own.serial)
    in
    let number : m ≡ r.«module» = sym ((attached_is lib e v.holding.pid m other.0 other.1).1) ∙ ap (λ (q : Residence). q.«module») same ∙ own.«module» in
    had (ap (λ (l : Library). is_own (class_of (object_at l r.«module» p.object))) at.library ∙ ap (λ (n : ℕ). is_own (class_of (object_at lib n p.object))) (sym number) ∙ own-of)
    in
    record {
      library = at.library;
      residences = at.residences;
      stands = stands_mapped lib b.failing contents v.holding b.history (page_with r p (fixed_page v.library r.«module» r.bases p)) mapped was at.stands;
      shown = at.shown;
    }

-- ---- the claim of a page by a view

-- ---- the page may be claimed

one_page : (n : ℕ) → pages_over (n * PAGE_SIZE) 1 ≡ n ∷ []
one_page n = ap (λ k. range_with_len k ((n * PAGE_SIZE + 1 - 1) / PAGE_SIZE + 1 - k)) (quotient n) ∙ ap (range_with_len n) (one n)
  where
    quotient : (n : ℕ) → (n * 4096) / 4096 ≡ n
    quotient n = omega arith

    one : (n : ℕ) → (n * 4096 + 1 - 1) / 4096 + 1 - n ≡ 1
    one n = omega arith

tests_pass : (object count size end : ℕ) → 1 ≤ object → object ≤ count → end ≤ size → (object == 0 || nat_lt count object || nat_lt size end) ≡ false
tests_pass object count size end low high in_it = grind (arith, nat_tests)

within_size : (size n : ℕ) → n < (size + (PAGE_SIZE - 1)) / PAGE_SIZE → n * PAGE_SIZE + 1 ≤ size
within_size size n u = let below : n < (size + 4095) / 4096 = u in let it : n * 4096 + 1 ≤ size = omega (arith, below) in it

none_outside : (lib : Library) (m : ℕ) (p : PageId) → IsNumberOf p.object (length (module_of lib m).objects) → p.page < pages_of (object_of (module_of lib m) p.object) → is_outside lib m p.object (p.page * PAGE_SIZE) 1 ≡ false
unfolding objects_of object_at
none_outside lib m p there inside = tests_pass p.object (length (module_of lib m).objects) (object_of (module_of lib m) p.object).size (p.page * PAGE_SIZE + 1) there.0 there.1 (within_size (object_of (module_of lib m) p.object).size p.page inside)

is_valid : (lib : Library) (m : ℕ) (p : PageId) → is_fixable (module_of lib m) p ≡ true → is_invalid lib m p ≡ false
unfolding is_fixable is_invalid
is_valid lib m p e = not-true (bytes.is_invalid (page_at (module_of lib m) p).kind) (and_right (is_page_of (module_of lib m) p && has_shared_pages (class_of (object_of (module_of lib m) p.object))) _ e)

not_own : (c : Class) → has_shared_pages c ≡ true → not (is_own c) ≡ true
not_own classes.Private h = absurd cc
not_own other h = refl

shared_class : (lib : Library) (m : ℕ) (p : PageId) → is_fixable (module_of lib m) p ≡ true → may_fault lib m p ≡ true
unfolding is_fixable object_at
shared_class lib m p e =
    not_own (class_of (object_of (module_of lib m) p.object)) (and_right (is_page_of (module_of lib m) p) _ (and_left _ (not (bytes.is_invalid (page_at (module_of lib m) p).kind)) e))

no_refusal : (lib : Library) (m : ℕ) (p : PageId) → IsNumberOf p.object (length (module_of lib m).objects) → p.page < pages_of (object_of (module_of lib m) p.object) → is_fixable (module_of lib m) p ≡ true →
    span_refusal lib uses.touch m p.object (p.page * PAGE_SIZE) 1 ≡ None
unfolding span_refusal
no_refusal lib m p there inside fixable =
    let invalid : covers_invalid lib m p.object (p.page * PAGE_SIZE) 1 ≡ false =
    ap (list_any (λ n. is_invalid lib m (page p.object n))) (one_page p.page) ∙ ap (λ b. b || false) (is_valid lib m p fixable)
    in
    ap (λ b. when b Range orelse class_refusal uses.touch (class_of (object_at lib m p.object)) orelse when (covers_invalid lib m p.object (p.page * PAGE_SIZE) 1) Invalid) (none_outside lib m p there inside)
    ∙ ap (λ b. class_refusal uses.touch (class_of (object_at lib m p.object)) orelse when b Invalid) invalid

pub may_claim : (b : BoardState) (v : ProcessView) (r : ResidenceFor) (a : Residence) (p : PageId) → StandsAt b v → v.holding.ended ≡ false → IsAttached b v r a → CanMap v r p → IsSharedPage v r p →
    MayAsk b v.holding.pid (fault r.serial r.«module» p)
unfolding may_ask
may_claim b v r a p at going own can shared =
    let fixable = rw (at.library) at shared in
    let attached : is_attached b.library (state_of b) v.holding.pid r.serial r.«module» ≡ true = ap (is_serial r.serial) own.there ∙ ap (λ n. n == r.serial) own.serial ∙ self r.serial in
    let span : is_none (span_refusal b.library uses.touch r.«module» p.object (p.page * PAGE_SIZE) 1) ≡ true =
    ap (λ (o : Option Refusal). is_none o) (no_refusal b.library r.«module» p (rw (at.library) at can.object) (rw (at.library) at can.page) fixable)
    in
    and_true _ _ (and_true (not ((state_of b).processes v.holding.pid).ended) _ (ap not (sym at.stands.view.ended) ∙ ap not going) (and_true _ _ attached span)) (shared_class b.library r.«module» p fixable)

-- ---- its entry

pub fault_is : (b : BoardState) (v : ProcessView) (r : ResidenceFor) (p : PageId) → entry_of b v.holding.pid (fault r.serial r.«module» p) ≡ fault_of v r p
unfolding deed_of
fault_is b v r p = refl

pub fault_follows : (b : BoardState) (v : ProcessView) (r : ResidenceFor) (p : PageId) → is_among pids v.holding.pid ≡ true → MayAsk b v.holding.pid (fault r.serial r.«module» p) → has_fault b.history r.serial p ≡ false →
    Follows b.library b.failing (fixed_bytes b.library) b.history (fault_of v r p)
unfolding deed_of
fault_follows b v r p process may first = record { process = process; may = may; done = refl; first = ap not first }

pub claim_stands : ResidenceStays → BasesSeenStay → StandsQuiet → (b : BoardState) (v : ProcessView) (r : ResidenceFor) (p : PageId) → IsLegal b → StandsAt b v →
    Follows b.library b.failing (fixed_bytes b.library) b.history (fault_of v r p) → StandsAt (with_entry b (fault_of v r p)) (at_front (length (b.history ++ fault_of v r p ∷ [])) v)
claim_stands still bases quiet b v r p legal at follows = quiet_after still bases quiet b (fault_of v r p) v legal follows refl tt at

-- ---- whether all share it

page_of : (count object size n : ℕ) → 1 ≤ object → object ≤ count → n < size → (nat_lt 0 object && nat_le object count && nat_lt n size) ≡ true
page_of count object size n low high in_it = grind (arith, nat_tests)

-- by the class of its object, and whether it can be reached
pub shared_by : (lib : Library) (m : ℕ) (p : PageId) → IsNumberOf p.object (length (module_of lib m).objects) → p.page < pages_of (object_of (module_of lib m) p.object) →
    is_fixable (module_of lib m) p ≡ has_shared_pages (class_of (object_at lib m p.object)) && not (is_invalid lib m p)
unfolding is_fixable is_invalid object_at
shared_by lib m p there inside =
    ap (λ b. (b && has_shared_pages (class_of (object_of (module_of lib m) p.object))) && not (bytes.is_invalid (page_at (module_of lib m) p).kind))
    (page_of (length (module_of lib m).objects) p.object (pages_of (object_of (module_of lib m) p.object)) p.page there.0 there.1 inside)
