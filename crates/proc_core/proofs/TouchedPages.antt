-- The pages of a place, one after the other.
use Rattle.proc_core.proofs.Words.{◌&&◌, ◌+◌, ◌++◌, ◌<◌, ◌==◌, [], add-one, and_from, ap, arith, Bool, eq-eqb, false, filter, filter-append, has_page, if◌then◌else◌, is_page, List, list_all, list_any-append, map, ne_eqb, not}
use Rattle.proc_core.proofs.Words.{or_from, or_left, or_parts, or_right, page, PageId, PageOf, range_with_len, refl, subst, suc, sym, take, true, zero, ◌||◌, ℕ, ◌∙◌, ◌∷◌, ◌≡◌, ◌≢◌, ◌≤◌}

abbrev pub page_at : ℕ → ℕ → ℕ → PageOf
page_at serial object n = record { serial = serial; page = page object n }

abbrev pub pages_from : ℕ → ℕ → ℕ → ℕ → List PageOf
pages_from serial object a n = map (page_at serial object) (range_with_len a n)

-- those of some pages that are not among others
abbrev pub not_among : List PageOf → List PageOf → List PageOf
not_among others ts = filter (λ (t : PageOf). not (has_page others t.serial t.page)) ts

-- ---- the first n of them, and one more

pub taken_pages : (serial object a n l : ℕ) → n ≤ l → take n (pages_from serial object a l) ≡ pages_from serial object a n
taken_pages serial object a zero l fits = refl
taken_pages serial object a (suc n) zero fits = absurd (omega arith)
taken_pages serial object a (suc n) (suc l) fits = ap (λ ts. page_at serial object a ∷ ts) (taken_pages serial object (a + 1) n l (omega arith))

next_more : (serial object a n : ℕ) → pages_from serial object a (suc n) ≡ pages_from serial object a n ++ page_at serial object (a + n) ∷ []
next_more serial object a zero = ap (λ (k : ℕ). page_at serial object k ∷ []) (omega arith)
next_more serial object a (suc n) =
    ap (λ (ts : List PageOf). page_at serial object a ∷ ts) (next_more serial object (a + 1) n ∙ ap (λ (k : ℕ). pages_from serial object (a + 1) n ++ page_at serial object k ∷ []) (omega arith))

pub one_more : (serial object a n : ℕ) → pages_from serial object a (n + 1) ≡ pages_from serial object a n ++ page_at serial object (a + n) ∷ []
one_more serial object a n = ap (pages_from serial object a) (add-one n) ∙ next_more serial object a n

single : (others : List PageOf) (t : PageOf) (b : Bool) → has_page others t.serial t.page ≡ b → not_among others (t ∷ []) ≡ (if b then [] else t ∷ [])
single others t true is = rw is refl
single others t false is = rw is refl

pub not_among_more : (others ts : List PageOf) (t : PageOf) → not_among others (ts ++ t ∷ []) ≡ not_among others ts ++ (if has_page others t.serial t.page then [] else t ∷ [])
not_among_more others ts t =
    filter-append (λ (u : PageOf). not (has_page others u.serial u.page)) ts (t ∷ []) ∙ ap (λ us. not_among others ts ++ us) (single others t (has_page others t.serial t.page) refl)

-- ---- a page after them is not among them

none_step : (others ts : List PageOf) (t : PageOf) (serial : ℕ) (q : PageId) (b : Bool) → has_page others t.serial t.page ≡ b → (t.serial == serial) && is_page t.page q ≡ false → has_page (not_among others ts) serial q ≡ false →
    has_page (not_among others (t ∷ ts)) serial q ≡ false
none_step others ts t serial q true e here later = rw e later
none_step others ts t serial q false e here later = rw e (or_from _ _ here later)

has_none : (others ts : List PageOf) (serial : ℕ) (q : PageId) → has_page ts serial q ≡ false → has_page (not_among others ts) serial q ≡ false
has_none others [] serial q is = refl
has_none others (t ∷ ts) serial q is =
    none_step others ts t serial q (has_page others t.serial t.page) refl (or_parts _ (has_page ts serial q) is).0 (has_none others ts serial q (or_parts ((t.serial == serial) && is_page t.page q) _ is).1)

is_not : (serial object a k : ℕ) → a ≢ k → (serial == serial) && is_page (page object a) (page object k) ≡ false
is_not serial object a k ne = rw (eq-eqb serial serial refl, eq-eqb object object refl, ne_eqb a k ne) refl

pub none_before : (serial object a n k : ℕ) → a + n ≤ k → has_page (pages_from serial object a n) serial (page object k) ≡ false
none_before serial object a zero k far = refl
none_before serial object a (suc n) k far = or_from _ _ (is_not serial object a k (λ e. omega arith)) (none_before serial object (a + 1) n k (omega arith))

-- so it is mapped by then only where it was
pub same_page : (mapped : List PageOf) (serial object a n : ℕ) →
    has_page (mapped ++ not_among mapped (pages_from serial object a n)) serial (page object (a + n)) ≡ has_page mapped serial (page object (a + n))
same_page mapped serial object a n =
    let q : PageId = page object (a + n) in
    let none : has_page (not_among mapped (pages_from serial object a n)) serial q ≡ false =
    has_none mapped (pages_from serial object a n) serial q (none_before serial object a n (a + n) (omega arith)) in
    list_any-append (λ (t : PageOf). (t.serial == serial) && is_page t.page q) mapped (not_among mapped (pages_from serial object a n))
    ∙ (ap (λ (b : Bool). has_page mapped serial q || b) none ∙ right_false (has_page mapped serial q))
  where
    right_false : (b : Bool) → b || false ≡ b
    right_false true = refl
    right_false false = refl

-- ---- all of them

has_more : (xs ys : List PageOf) (s : ℕ) (q : PageId) → has_page xs s q || has_page ys s q ≡ true → has_page (xs ++ ys) s q ≡ true
has_more xs ys s q is = list_any-append (λ (t : PageOf). (t.serial == s) && is_page t.page q) xs ys ∙ is

self_page : (serial object n : ℕ) → (serial == serial) && is_page (page object n) (page object n) ≡ true
self_page serial object n = rw (eq-eqb serial serial refl, eq-eqb object object refl, eq-eqb n n refl) refl

has_head : (ts : List PageOf) (serial object n : ℕ) → has_page (page_at serial object n ∷ ts) serial (page object n) ≡ true
has_head ts serial object n = or_left ((serial == serial) && is_page (page object n) (page object n)) (has_page ts serial (page object n)) (self_page serial object n)

added : (others ts : List PageOf) (t : PageOf) (s : ℕ) (q : PageId) → has_page others t.serial t.page ≡ false → has_page (t ∷ not_among others ts) s q ≡ true → has_page (not_among others (t ∷ ts)) s q ≡ true
added others ts t s q e has = rw e has

or_other : (a b : Bool) → a || b ≡ true → a ≡ false → b ≡ true
or_other true b is absent = cc
or_other false b is absent = is

has_either : (xs ys : List PageOf) (s : ℕ) (q : PageId) → has_page (xs ++ ys) s q ≡ true → has_page xs s q ≡ false → has_page ys s q ≡ true
has_either xs ys s q is absent = or_other (has_page xs s q) (has_page ys s q) (sym (list_any-append (λ (t : PageOf). (t.serial == s) && is_page t.page q) xs ys) ∙ is) absent

wider : (others ts : List PageOf) (t : PageOf) (s : ℕ) (q : PageId) (b : Bool) → has_page others t.serial t.page ≡ b → has_page (not_among others ts) s q ≡ true → has_page (not_among others (t ∷ ts)) s q ≡ true
wider others ts t s q true e has = rw e has
wider others ts t s q false e has = rw e (or_right _ _ has)

-- what is among some pages, and those that are not among them, is so with one page more
widened : (mapped ts : List PageOf) (t : PageOf) (s : ℕ) (q : PageId) (b : Bool) → has_page mapped s q ≡ b → has_page (mapped ++ not_among mapped ts) s q ≡ true → has_page (mapped ++ not_among mapped (t ∷ ts)) s q ≡ true
widened mapped ts t s q true e is = has_more mapped (not_among mapped (t ∷ ts)) s q (or_left _ _ e)
widened mapped ts t s q false e is =
    has_more mapped (not_among mapped (t ∷ ts)) s q (or_right _ _ (wider mapped ts t s q (has_page mapped t.serial t.page) refl (has_either mapped (not_among mapped ts) s q is e)))

first_among : (mapped ts : List PageOf) (serial object a : ℕ) (b : Bool) → has_page mapped serial (page object a) ≡ b → has_page (mapped ++ not_among mapped (page_at serial object a ∷ ts)) serial (page object a) ≡ true
first_among mapped ts serial object a true is = has_more mapped _ serial (page object a) (or_left _ _ is)
first_among mapped ts serial object a false is =
    has_more mapped (not_among mapped (page_at serial object a ∷ ts)) serial (page object a)
    (or_right (has_page mapped serial (page object a)) (has_page (not_among mapped (page_at serial object a ∷ ts)) serial (page object a))
    (added mapped ts (page_at serial object a) serial (page object a) is (has_head (not_among mapped ts) serial object a)))

pub all_mapped : (mapped all : List PageOf) (serial object a n : ℕ) → ((q : PageId) → has_page (mapped ++ not_among mapped (pages_from serial object a n)) serial q ≡ true → has_page all serial q ≡ true) →
    list_all (λ k. has_page all serial (page object k)) (range_with_len a n) ≡ true
all_mapped mapped all serial object a zero sub = refl
all_mapped mapped all serial object a (suc n) sub =
    and_from _ _ (sub (page object a) (first_among mapped (pages_from serial object (a + 1) n) serial object a (has_page mapped serial (page object a)) refl))
    (all_mapped mapped all serial object (a + 1) n
    (λ q is. sub q (widened mapped (pages_from serial object (a + 1) n) (page_at serial object a) serial q (has_page mapped serial q) refl is)))

pub not_all : (mapped : List PageOf) (serial object a n l : ℕ) → n < l → has_page mapped serial (page object (a + n)) ≡ false → list_all (λ k. has_page mapped serial (page object k)) (range_with_len a l) ≡ false
not_all mapped serial object a zero (suc l) inside none = (let none_here : has_page mapped serial (page object a) ≡ false = subst (λ (k : ℕ). has_page mapped serial (page object k) ≡ false) (omega arith) none in rw none_here refl)
not_all mapped serial object a (suc n) (suc l) inside none =
    and_false _ _ (not_all mapped serial object (a + 1) n l (omega arith) (subst (λ (k : ℕ). has_page mapped serial (page object k) ≡ false) (omega arith) none))
  where
    and_false : (x y : Bool) → y ≡ false → x && y ≡ false
    and_false true y e = e
    and_false false y e = refl
not_all mapped serial object a n zero inside none = absurd (omega arith)
