-- A page that is claimed in a turn, and mapped after it.
use Rattle.proc_core.proofs.Words.{◌+◌, ◌++◌, ◌==◌, [], AllByRecursion, ap, append-nil, AreOthers, arith, BoardState, class_of, count_by, Entry, eq-eqb, failing_in, false, FaultCounts, front_of, has_page, Holding, Holds, inl}
use Rattle.proc_core.proofs.Words.{is_among, is_own, IsLegal, IsPage, IsSeenForPage, length, Library, List, map-append, Mapped, mapped_pages, mapped_steps, MappedCounts, nat_tests, needs_fault, OthersCountNothing, page_in}
use Rattle.proc_core.proofs.Words.{page_with, PageId, PageOf, Parts, pids, ProcessView, ProcState, refl, ResidenceFor, Some, source_count, StandsAt, subst, sym, true, with_page, without_room, ℕ, ◌∙◌, ◌∷◌, ◌≡◌}
use Rattle.load_model.specs.declared.deeds.Deed.TheVariants as deeds
use Rattle.load_model.specs.Modules.{object_at}
use Rattle.load_model.specs.TouchSteps.{touch_steps}

-- the laws of steps
pub record Laws : Type 0 where
  pub others : OthersCountNothing
  pub fault : FaultCounts
  pub mapped : MappedCounts

pub no_steps : (lib : Library) (pid m : ℕ) → touch_steps lib pid m [] [] ≡ 0
unfolding touch_steps
no_steps lib pid m = refl

flipped : (pid : ℕ) (xs : List Entry) → AllByRecursion (λ (x : Entry). (pid == x.pid) ≡ false) xs → AllByRecursion (λ (x : Entry). (x.pid == pid) ≡ false) xs
flipped pid [] all = tt
flipped pid (x ∷ xs) all = (turn pid x.pid all.0, flipped pid xs all.1)
  where
    turn : (a b : ℕ) → a == b ≡ false → b == a ≡ false
    turn a b e = grind (arith, nat_tests)

-- what others did counts nothing
pub others_steps : Laws → (lib : Library) (pid m : ℕ) (more : List Entry) → AreOthers pid more → touch_steps lib pid m more [] ≡ 0
others_steps laws lib pid m more others = laws.others lib pid m [] more [] (flipped pid more others) ∙ no_steps lib pid m

-- a page that all share counts nothing, where it was taken
pub taken_steps : Laws → (lib : Library) (pid m : ℕ) (more : List Entry) (t : PageOf) → AreOthers pid more → is_own (class_of (object_at lib m t.page.object)) ≡ false → touch_steps lib pid m more (t ∷ []) ≡ 0
taken_steps laws lib pid m more t others shared =
    let none : mapped_steps lib m t.page ≡ 0 = rw shared refl in
    let base = others_steps laws lib pid m more others in
    laws.mapped lib pid m t more [] ∙ (let sum : touch_steps lib pid m more [] + mapped_steps lib m t.page ≡ 0 = omega arith in sum)

-- and its sources where it was given
pub given_steps : Laws → (lib : Library) (pid m : ℕ) (more : List Entry) (t : PageOf) → AreOthers pid more → is_own (class_of (object_at lib m t.page.object)) ≡ false →
    touch_steps lib pid m (more ++ record { pid = pid; deed = deeds.Fault t.serial m t.page } ∷ []) (t ∷ []) ≡ source_count lib m t.page
given_steps laws lib pid m more t others shared =
    let base = taken_steps laws lib pid m more t others shared in
    laws.fault lib pid m t.serial t.page more (t ∷ []) ∙ (let sum : touch_steps lib pid m more (t ∷ []) + source_count lib m t.page ≡ source_count lib m t.page = omega arith in sum)

pub private_steps : Laws → (lib : Library) (pid m : ℕ) (t : PageOf) → is_own (class_of (object_at lib m t.page.object)) ≡ true → touch_steps lib pid m [] (t ∷ []) ≡ source_count lib m t.page
private_steps laws lib pid m t own =
    let some : mapped_steps lib m t.page ≡ source_count lib m t.page = rw own refl in
    let base = no_steps lib pid m in
    laws.mapped lib pid m t [] [] ∙ (let sum : touch_steps lib pid m [] [] + mapped_steps lib m t.page ≡ source_count lib m t.page = omega arith in sum)

-- ---- entries

pub all_others : (v : ProcessView) (m : ℕ) (t : PageOf) (news : List PageOf) (pid : ℕ) (more : List Entry) → pid ≡ v.holding.pid → AreOthers pid more → AllByRecursion (IsSeenForPage v m t news) more
all_others v m t news pid [] is others = tt
all_others v m t news pid (x ∷ more) is others = (inl (subst (λ (n : ℕ). (n == x.pid) ≡ false) is others.0), all_others v m t news pid more is others.1)

-- a page is one of itself
pub one_page : (serial : ℕ) (p : PageId) → has_page (record { serial = serial; page = p } ∷ []) serial p ≡ true
one_page serial p = rw (eq-eqb serial serial refl, eq-eqb p.object p.object refl, eq-eqb p.page p.page refl) refl

pub all_last : {A : Type 0} (P : A → Type 0) (xs : List A) (x : A) → AllByRecursion P xs → P x → AllByRecursion P (xs ++ x ∷ [])
all_last P [] x all here = (here, tt)
all_last P (y ∷ xs) x all here = (all.0, all_last P xs x all.1 here)

-- ---- the page is mapped

pub mapped_one : (r : ResidenceFor) (q : PageId) (bytes : List ℕ) (v : ProcessView) → mapped_pages (with_page r q bytes v).holding ≡ mapped_pages v.holding ++ page_in r q ∷ []
mapped_one r q bytes v = map-append (λ (x : Mapped). x.of) v.holding.mapped (page_with r q bytes ∷ [])

pub one_fault : (lib : Library) (m : ℕ) (t : PageOf) → is_own (class_of (object_at lib m t.page.object)) ≡ false → count_by (needs_fault lib m) (t ∷ []) ≡ 1
one_fault lib m t shared = rw shared refl

-- ---- a page of the process's own

-- the process with another view
abbrev pub with_view : ProcState → ProcessView → ProcState
with_view p w = record { lock = p.lock; known = p.known; view = w }

pub private_mapped : Laws → (p : ProcState) (r : ResidenceFor) (q : PageId) (bytes : List ℕ) (w : ProcessView) (before after : ℕ) → without_room w ≡ without_room p.view → p.view.holding.front ≡ length p.known.seen →
    is_own (class_of (object_at p.view.library r.«module» q.object)) ≡ true → after ≡ before + source_count p.view.library r.«module» q →
    IsPage p (with_view p (with_page r q bytes w)) (page_in r q) r.«module» (page_in r q ∷ []) before after
private_mapped laws p r q bytes w before after bare front own steps =
    let holding : w.holding ≡ p.view.holding = ap (λ (u : ProcessView). u.holding) bare in
    let shown : p.view.holding ≡ record p.view.holding { front = length p.known.seen } = ap (λ (n : ℕ). record p.view.holding { front = n }) front in
    record {
      pass = record { lock = refl; known = refl };
      shown = [];
      seen = sym (append-nil p.known.seen);
      entries = tt;
      library = ap (λ (u : ProcessView). u.library) bare;
      residences = ap (λ (u : ProcessView). u.residences) bare;
      holding = ap (λ (k : Holding). record k { mapped = w.holding.mapped ++ page_with r q bytes ∷ [] }) (holding ∙ shown);
      mapped = mapped_one r q bytes w ∙ ap (λ (k : Holding). mapped_pages k ++ page_in r q ∷ []) holding;
      drawn = (omega arith, omega arith);
      steps = steps ∙ ap (λ (n : ℕ). before + n) (sym (private_steps laws p.view.library p.known.pid r.«module» (page_in r q) own));
    }

-- where there is no memory nothing is mapped
pub nothing_mapped : (p : ProcState) (t : PageOf) (m : ℕ) (w : ProcessView) (a : ℕ) → without_room w ≡ without_room p.view → p.view.holding.front ≡ length p.known.seen → IsPage p (with_view p w) t m [] a a
nothing_mapped p t m w a bare front =
    let holding : w.holding ≡ p.view.holding = ap (λ (u : ProcessView). u.holding) bare in
    let shown : p.view.holding ≡ record p.view.holding { front = length p.known.seen } = ap (λ (n : ℕ). record p.view.holding { front = n }) front in
    record {
      pass = record { lock = refl; known = refl };
      shown = [];
      seen = sym (append-nil p.known.seen);
      entries = tt;
      library = ap (λ (u : ProcessView). u.library) bare;
      residences = ap (λ (u : ProcessView). u.residences) bare;
      holding = ap (λ (k : Holding). record k { mapped = w.holding.mapped }) (holding ∙ shown);
      mapped = ap mapped_pages holding ∙ sym (append-nil (mapped_pages p.view.holding));
      drawn = (omega arith, omega arith);
      steps = (let none = no_steps p.view.library p.known.pid m in omega arith);
    }

pub view_holds : (p : ProcState) (w : ProcessView) → Holds p → w.library ≡ p.view.library → w.holding.pid ≡ p.view.holding.pid → StandsAt (front_of p) w → Holds (with_view p w)
view_holds p w holds library pid stands =
    let front : front_of (with_view p w) ≡ front_of p = ap (λ (l : List Parts). record { library = l; failing = failing_in p.known.subject; history = p.known.seen; keeper = 0 }) library in
    record {
      process = subst (λ (n : ℕ). is_among pids n ≡ true) (sym pid) holds.process;
      number = pid ∙ holds.number;
      about = holds.about ∙ ap (λ (l : List Parts). Some (record { library = l; failing = failing_in p.known.subject })) (sym library);
      legal = subst IsLegal (sym front) holds.legal;
      own = holds.own;
      stands = subst (λ (l : BoardState). StandsAt l w) (sym front) stands;
      apart = holds.apart;
    }
