-- A touch goes on by one page.
use Rattle.proc_core.proofs.Words.{◌&&◌, ◌+◌, ◌++◌, ◌<◌, ◌==◌, [], About, all_joined, ap, append-nil, append_assoc, arith, Bool, call_refusal, count_by, Deed, each_more, Entry, entry_steps, false, has_page, Holding, if◌then◌else◌}
use Rattle.proc_core.proofs.Words.{inl, inr, is_among, is_page, IsNewFault, IsPage, IsSamePass, IsSeenForPage, IsSeenInTouch, IsTouched, Known, length, Library, List, list_any-append, map, mapped_pages, mapped_steps, meant}
use Rattle.proc_core.proofs.Words.{needs_fault, newly_mapped, news_of, None, or-true, page, PageId, PageOf, pages_over, Place, ProcessView, ProcState, range_with_len, refl, serial_seen, subst, sum_by-append, sym, take, Touch}
use Rattle.proc_core.proofs.Words.{touched_pages, true, ◌||◌, ℕ, ◌∙◌, ◌∷◌, ◌≡◌, ◌≤◌}
use Rattle.load_model.specs.TouchSteps.{touch_steps}
use Rattle.load_model.specs.declared.deeds.Deed.TheVariants as deeds
use Rattle.proc_core.proofs.TouchedPages.{page_at, pages_from, not_among, taken_pages, one_more, not_among_more, same_page}

-- ---- steps

pub steps_more : (lib : Library) (pid m : ℕ) (a b : List Entry) (s t : List PageOf) → touch_steps lib pid m (a ++ b) (s ++ t) ≡ touch_steps lib pid m a s + touch_steps lib pid m b t
unfolding touch_steps
steps_more lib pid m a b s t =
    let f = sum_by-append (entry_steps lib pid) a b in
    let g = sum_by-append (λ (u : PageOf). mapped_steps lib m u.page) s t in
    omega arith

-- ---- passes

pub pass_on : (p q r : ProcState) → IsSamePass p q → IsSamePass q r → IsSamePass p r
pass_on p q r a b = record {
  lock = b.lock ∙ a.lock;
  known = b.known ∙ ap (λ (k : Known Entry About). record k { seen = r.known.seen; mine = r.known.mine; drawn = r.known.drawn }) a.known;
}

-- ---- entries

-- what is known of a page of a place
pub record IsPlaces (v : ProcessView) (at : Place) (t : PageOf) (m : ℕ) : Type 0 where
  pub serial : t.serial ≡ serial_seen v.library v.holding at
  pub «module» : m ≡ meant v.library at.«module»
  pub object : at.object ≡ t.page.object
  pub among : is_among (pages_over at.offset at.len) t.page.page ≡ true

-- pages that are joined
more_there : (xs ys : List PageOf) (serial : ℕ) (q : PageId) → has_page ys serial q ≡ true → has_page (xs ++ ys) serial q ≡ true
more_there xs ys serial q is =
    list_any-append (λ (t : PageOf). (t.serial == serial) && is_page t.page q) xs ys ∙ (ap (λ (b : Bool). has_page xs serial q || b) is ∙ or-true (has_page xs serial q))

still_there : (xs ys : List PageOf) (serial : ℕ) (q : PageId) → has_page xs serial q ≡ true → has_page (xs ++ ys) serial q ≡ true
still_there xs ys serial q is = list_any-append (λ (t : PageOf). (t.serial == serial) && is_page t.page q) xs ys ∙ ap (λ (b : Bool). b || has_page ys serial q) is

abbrev AreAmong : List PageOf → List PageOf → Type 0
AreAmong xs ys = (serial : ℕ) (q : PageId) → has_page xs serial q ≡ true → has_page ys serial q ≡ true

fault_still : (v : ProcessView) (at : Place) (xs ys : List PageOf) (d : Deed) → AreAmong xs ys → IsNewFault v at xs d → IsNewFault v at ys d
fault_still v at xs ys (deeds.Fault serial m p) more is = (is.0, is.1, is.2, is.3, is.4, more serial p is.5)
fault_still v at xs ys (deeds.Enter how m fresh calls) more is = absurd is
fault_still v at xs ys (deeds.Full how m of object size) more is = absurd is
fault_still v at xs ys (deeds.Failed how m by fresh calls gone) more is = absurd is
fault_still v at xs ys (deeds.Free m calls gone) more is = absurd is
fault_still v at xs ys (deeds.Exit calls gone) more is = absurd is
fault_still v at xs ys (deeds.Write serial m object offset bytes) more is = absurd is
fault_still v at xs ys (deeds.Debug serial m object offset bytes) more is = absurd is
fault_still v at xs ys (deeds.Shared serial m object offset bytes) more is = absurd is

seen_still : (v : ProcessView) (at : Place) (xs ys : List PageOf) (x : Entry) → AreAmong xs ys → IsSeenInTouch v at xs x → IsSeenInTouch v at ys x
seen_still v at xs ys x more (inl other) = inl other
seen_still v at xs ys x more (inr own) = inr (own.0, fault_still v at xs ys x.deed more own.1)

seen_in : (v w : ProcessView) (at : Place) (t : PageOf) (m : ℕ) (news all : List PageOf) (x : Entry) → IsPlaces v at t m → w.holding.pid ≡ v.holding.pid →
    (has_page (mapped_pages w.holding) t.serial t.page ≡ false → has_page (mapped_pages v.holding) t.serial t.page ≡ false) → AreAmong news all → IsSeenForPage w m t news x → IsSeenInTouch v at all x
seen_in v w at t m news all x is pid same more (inl other) = inl (ap (λ (n : ℕ). n == x.pid) (sym pid) ∙ other)
seen_in v w at t m news all x is pid same more (inr own) =
    inr (
      own.0 ∙ pid,
      subst (λ (d : Deed). IsNewFault v at all d) (sym own.1)
          (is.serial, is.«module», is.object, is.among, same own.2, more t.serial t.page own.3),
    )

-- ---- one more page

pub touched_more : (p q r : ProcState) (at : Place) (n k a b c : ℕ) (t : PageOf) (m : ℕ) (news : List PageOf) → IsTouched p q at n a b → IsPage q r t m news b c → IsPlaces p.view at t m →
    newly_mapped p.view at k ≡ newly_mapped p.view at n ++ news →
    (has_page (mapped_pages q.view.holding) t.serial t.page ≡ false → has_page (mapped_pages p.view.holding) t.serial t.page ≡ false) →
    r.known.drawn ≤ p.known.drawn + count_by (needs_fault p.view.library m) (newly_mapped p.view at (length (touched_pages p.view at))) → IsTouched p r at k a c
touched_more p q r at n k a b c t m news before step is pages same drawn =
    let pid : q.view.holding.pid ≡ p.view.holding.pid = ap (λ (h : Holding). h.pid) before.holding in
    let known : q.known.pid ≡ p.known.pid = ap (λ (k : Known Entry About). k.pid) before.pass.known in
    let lib : q.view.library ≡ p.view.library = before.library in
    let seen : r.known.seen ≡ p.known.seen ++ (before.shown ++ step.shown) =
    step.seen ∙ (ap (λ (h : List Entry). h ++ step.shown) before.seen ∙ append_assoc p.known.seen before.shown step.shown) in
    let stepped : c ≡ b + touch_steps p.view.library p.known.pid (meant p.view.library at.«module») step.shown news =
    step.steps ∙ (ap (λ l. b + touch_steps l q.known.pid m step.shown news) lib ∙ (ap (λ k. b + touch_steps p.view.library k m step.shown news) known ∙ ap (λ k. b + touch_steps p.view.library p.known.pid k step.shown news) is.«module»)) in
    let sum = steps_more p.view.library p.known.pid (meant p.view.library at.«module») before.shown step.shown (newly_mapped p.view at n) news in
    let so_far : List PageOf = newly_mapped p.view at n in
    let all : List PageOf = newly_mapped p.view at k in
    let joined : (s : ℕ) (u : PageId) → has_page (so_far ++ news) s u ≡ true → has_page all s u ≡ true = λ s u there. ap (λ (xs : List PageOf). has_page xs s u) pages ∙ there in
    let first = before.steps in
    record {
      pass = pass_on p q r before.pass step.pass;
      accepted = before.accepted;
      shown = before.shown ++ step.shown;
      seen = seen;
      entries = all_joined (IsSeenInTouch p.view at all) before.shown step.shown
          (each_more (IsSeenInTouch p.view at so_far) (IsSeenInTouch p.view at all) before.shown (λ x. seen_still p.view at so_far all x (λ s u there. joined s u (still_there so_far news s u there))) before.entries)
          (each_more (IsSeenForPage q.view m t news) (IsSeenInTouch p.view at all) step.shown (λ x. seen_in p.view q.view at t m news all x is pid same (λ s u there. joined s u (more_there so_far news s u there))) step.entries);
      library = step.library ∙ before.library;
      residences = step.residences ∙ before.residences;
      holding = step.holding ∙ ap (λ (h : Holding). record h { mapped = r.view.holding.mapped; front = length r.known.seen }) before.holding;
      mapped = step.mapped ∙ (ap (λ xs. xs ++ news) before.mapped ∙ (append_assoc (mapped_pages p.view.holding) (newly_mapped p.view at n) news ∙ ap (λ xs. mapped_pages p.view.holding ++ xs) (sym pages)));
      drawn = (omega (arith, before.drawn.0, step.drawn.0), subst (λ k. r.known.drawn ≤ p.known.drawn + count_by (needs_fault p.view.library k) (newly_mapped p.view at (length (touched_pages p.view at)))) is.«module» drawn);
      steps = subst (λ xs. c ≡ a + touch_steps p.view.library p.known.pid (meant p.view.library at.«module») (before.shown ++ step.shown) xs) (sym pages) (omega arith);
    }

-- ---- no page yet

pub touched_none : (p : ProcState) (at : Place) (a : ℕ) → call_refusal p (Touch at) ≡ None → p.view.holding.front ≡ length p.known.seen → IsTouched p p at 0 a a
unfolding touch_steps
touched_none p at a accepted front = record {
  pass = record { lock = refl; known = refl };
  accepted = accepted;
  shown = [];
  seen = sym (append-nil p.known.seen);
  entries = tt;
  library = refl;
  residences = refl;
  holding = ap (λ (n : ℕ). record p.view.holding { front = n }) front;
  mapped = sym (append-nil (mapped_pages p.view.holding));
  drawn = (omega arith, omega arith);
  steps = omega arith;
}

-- ---- the next page of the place

-- the pages of the place are so many, from a number on
abbrev pub AreFrom : Place → ℕ → ℕ → Type 0
AreFrom at first l = pages_over at.offset at.len ≡ range_with_len first l

pub newly_from : (v : ProcessView) (at : Place) (first l n : ℕ) → AreFrom at first l → n ≤ l →
    newly_mapped v at n ≡ not_among (mapped_pages v.holding) (pages_from (serial_seen v.library v.holding at) at.object first n)
newly_from v at first l n from fits =
    let serial : ℕ = serial_seen v.library v.holding at in
    ap (λ (ns : List ℕ). not_among (mapped_pages v.holding) (take n (map (page_at serial at.object) ns))) from
    ∙ ap (not_among (mapped_pages v.holding)) (taken_pages serial at.object first n l fits)

if_same : (b c : Bool) (t : PageOf) → b ≡ c → (if b then [] else t ∷ []) ≡ (if c then [] else t ∷ [])
if_same b c t e = ap (λ (x : Bool). if x then [] else t ∷ []) e

pub mapped_alike : (p q : ProcState) (at : Place) (first l n a b : ℕ) → AreFrom at first l → n ≤ l → IsTouched p q at n a b → (serial : ℕ) → serial ≡ serial_seen p.view.library p.view.holding at →
    has_page (mapped_pages q.view.holding) serial (page at.object (first + n)) ≡ has_page (mapped_pages p.view.holding) serial (page at.object (first + n))
mapped_alike p q at first l n a b from fits before serial is =
    let own : ℕ = serial_seen p.view.library p.view.holding at in
    let mapped : mapped_pages q.view.holding ≡ mapped_pages p.view.holding ++ not_among (mapped_pages p.view.holding) (pages_from own at.object first n) =
    before.mapped ∙ ap (λ xs. mapped_pages p.view.holding ++ xs) (newly_from p.view at first l n from fits) in
    let at_own : has_page (mapped_pages q.view.holding) own (page at.object (first + n)) ≡ has_page (mapped_pages p.view.holding) own (page at.object (first + n)) =
    ap (λ xs. has_page xs own (page at.object (first + n))) mapped ∙ same_page (mapped_pages p.view.holding) own at.object first n in
    subst (λ (k : ℕ). has_page (mapped_pages q.view.holding) k (page at.object (first + n)) ≡ has_page (mapped_pages p.view.holding) k (page at.object (first + n))) (sym is) at_own

newly_step : (v : ProcessView) (at : Place) (first l n : ℕ) → AreFrom at first l → n < l →
    newly_mapped v at (n + 1) ≡ newly_mapped v at n ++ news_of v (page_at (serial_seen v.library v.holding at) at.object (first + n))
newly_step v at first l n from inside =
    let own : ℕ = serial_seen v.library v.holding at in
    let t : PageOf = page_at own at.object (first + n) in
    newly_from v at first l (n + 1) from (omega arith)
    ∙ (ap (not_among (mapped_pages v.holding)) (one_more own at.object first n)
    ∙ (not_among_more (mapped_pages v.holding) (pages_from own at.object first n) t
    ∙ ap (λ xs. xs ++ (if has_page (mapped_pages v.holding) own (page at.object (first + n)) then [] else t ∷ [])) (sym (newly_from v at first l n from (omega arith)))))

pub newly_next : (p q : ProcState) (at : Place) (first l n a b : ℕ) → AreFrom at first l → n < l → IsTouched p q at n a b →
    newly_mapped p.view at (n + 1) ≡ newly_mapped p.view at n ++ news_of q.view (page_at (serial_seen p.view.library p.view.holding at) at.object (first + n))
newly_next p q at first l n a b from inside before =
    let own : ℕ = serial_seen p.view.library p.view.holding at in
    let t : PageOf = page_at own at.object (first + n) in
    newly_step p.view at first l n from inside ∙ ap (λ xs. newly_mapped p.view at n ++ xs) (if_same _ _ t (sym (mapped_alike p q at first l n a b from (omega arith) before own refl)))

pub touched_next : (p q r : ProcState) (at : Place) (first l n a b c m : ℕ) → AreFrom at first l → n < l → IsTouched p q at n a b →
    IsPage q r (page_at (serial_seen p.view.library p.view.holding at) at.object (first + n)) m (news_of q.view (page_at (serial_seen p.view.library p.view.holding at) at.object (first + n))) b c →
    m ≡ meant p.view.library at.«module» → is_among (pages_over at.offset at.len) (first + n) ≡ true →
    r.known.drawn ≤ p.known.drawn + count_by (needs_fault p.view.library m) (newly_mapped p.view at (length (touched_pages p.view at))) → IsTouched p r at (n + 1) a c
touched_next p q r at first l n a b c m from inside before step is among drawn =
    let own : ℕ = serial_seen p.view.library p.view.holding at in
    let t : PageOf = page_at own at.object (first + n) in
    touched_more p q r at n (n + 1) a b c t m (news_of q.view t) before step (record { serial = refl; «module» = is; object = refl; among = among }) (newly_next p q at first l n a b from inside before)
    (λ none. sym (mapped_alike p q at first l n a b from (omega arith) before own refl) ∙ none) drawn

-- where there is no memory for the next page, none more is mapped
pub touched_stop : (p q r : ProcState) (at : Place) (first l n a b c m : ℕ) → AreFrom at first l → n < l → IsTouched p q at n a b →
    IsPage q r (page_at (serial_seen p.view.library p.view.holding at) at.object (first + n)) m [] b c → m ≡ meant p.view.library at.«module» → is_among (pages_over at.offset at.len) (first + n) ≡ true →
    r.known.drawn ≤ p.known.drawn + count_by (needs_fault p.view.library m) (newly_mapped p.view at (length (touched_pages p.view at))) → IsTouched p r at n a c
touched_stop p q r at first l n a b c m from inside before step is among drawn =
    let own : ℕ = serial_seen p.view.library p.view.holding at in
    let t : PageOf = page_at own at.object (first + n) in
    touched_more p q r at n n a b c t m [] before step (record { serial = refl; «module» = is; object = refl; among = among }) (sym (append-nil (newly_mapped p.view at n)))
    (λ none. sym (mapped_alike p q at first l n a b from (omega arith) before own refl) ∙ none) drawn
