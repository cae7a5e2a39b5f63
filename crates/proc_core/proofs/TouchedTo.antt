-- How far a touch has come, with the turns that it took.
use Rattle.proc_core.proofs.Words.{◌+◌, ◌++◌, ◌<◌, [], ap, AreMapped, arith, Bool, call_refusal, count_by, count_by-le-length, drop, Err, false, filter, filter-append, has_page, has_pages, if◌then◌else◌, is_among, IsPage}
use Rattle.proc_core.proofs.Words.{IsTouchAnswered, IsTouched, length, length-map-range_with_len, Library, List, list_all, map, mapped_pages, meant, needs_fault, newly_mapped, news_of, NoMemory, None, not, page, PageOf}
use Rattle.proc_core.proofs.Words.{pages_over, Place, ProcessView, ProcState, refl, serial_seen, subst, sum_by-append, sym, take, take-append-drop, take_all, Touch, touched_pages, true, ℕ, ◌∙◌, ◌∷◌, ◌≡◌, ◌≤◌}
use Rattle.proc_core.proofs.TouchedPages.{page_at, pages_from, not_among, all_mapped, not_all}
use Rattle.proc_core.proofs.Onward.{AreFrom, newly_from, newly_next, mapped_alike, touched_none, touched_next, touched_stop}

abbrev has_turn : ProcessView → Place → PageOf → Bool
has_turn v at = needs_fault v.library (meant v.library at.«module»)

-- The first n pages are mapped, and each that was not took a turn at most.
pub record TouchedTo (p q : ProcState) (at : Place) (n before after : ℕ) : Type 0 where
  pub touched : IsTouched p q at n before after
  pub turns : q.known.drawn ≤ p.known.drawn + count_by (needs_fault p.view.library (meant p.view.library at.«module»)) (newly_mapped p.view at n)
  pub few : q.known.drawn ≤ p.known.drawn + n

pub to_none : (p : ProcState) (at : Place) (a : ℕ) → call_refusal p (Touch at) ≡ None → p.view.holding.front ≡ length p.known.seen → TouchedTo p p at 0 a a
to_none p at a accepted front = record { touched = touched_none p at a accepted front; turns = omega arith; few = omega arith }

-- ---- turns

part_least : (f g : PageOf → Bool) (xs : List PageOf) (n : ℕ) → count_by f (filter g (take n xs)) ≤ count_by f (filter g (take (length xs) xs))
part_least f g xs n =
    let whole : filter g (take (length xs) xs) ≡ filter g (take n xs) ++ filter g (drop n xs) =
    ap (filter g) (take_all (length xs) xs (omega arith) ∙ sym (take-append-drop n xs)) ∙ filter-append g (take n xs) (drop n xs) in
    let sum : count_by f (filter g (take (length xs) xs)) ≡ count_by f (filter g (take n xs)) + count_by f (filter g (drop n xs)) =
    ap (count_by f) whole ∙ sum_by-append _ (filter g (take n xs)) (filter g (drop n xs)) in
    omega arith

at_most_one : (v : ProcessView) (t : PageOf) → length (news_of v t) ≤ 1
at_most_one v t = by_test (has_page (mapped_pages v.holding) t.serial t.page)
  where
    by_test : (b : Bool) → length (if b then [] else t ∷ []) ≤ 1
    by_test true = omega arith
    by_test false = omega arith

module _ (p q r : ProcState) (at : Place) (first l n a b c m : ℕ) (from : AreFrom at first l) (inside : n < l) (to : TouchedTo p q at n a b) (is : m ≡ meant p.view.library at.«module») (among : is_among (pages_over at.offset at.len) (first + n) ≡ true) where
  abbrev next_page : PageOf
  next_page = page_at (serial_seen p.view.library p.view.holding at) at.object (first + n)

  abbrev HasTurns : Type 0
  HasTurns = r.known.drawn ≤ q.known.drawn + count_by (needs_fault q.view.library m) (news_of q.view next_page)

  one_turn : HasTurns → r.known.drawn ≤ q.known.drawn + count_by (has_turn p.view at) (news_of q.view next_page)
  one_turn has =
      subst (λ (k : ℕ). r.known.drawn ≤ q.known.drawn + count_by (needs_fault p.view.library k) (news_of q.view next_page)) is
      (subst (λ (lib : Library). r.known.drawn ≤ q.known.drawn + count_by (needs_fault lib m) (news_of q.view next_page)) to.touched.library has)

  more_turns : HasTurns → r.known.drawn ≤ p.known.drawn + count_by (has_turn p.view at) (newly_mapped p.view at (n + 1))
  more_turns has =
      let one = one_turn has in
      let so_far : q.known.drawn ≤ p.known.drawn + count_by (has_turn p.view at) (newly_mapped p.view at n) = to.turns in
      let sum : count_by (has_turn p.view at) (newly_mapped p.view at (n + 1)) ≡ count_by (has_turn p.view at) (newly_mapped p.view at n) + count_by (has_turn p.view at) (news_of q.view next_page) =
      ap (count_by (has_turn p.view at)) (newly_next p q at first l n a b from inside to.touched) ∙ sum_by-append _ (newly_mapped p.view at n) (news_of q.view next_page) in
      omega arith

  all_turns : HasTurns → r.known.drawn ≤ p.known.drawn + count_by (needs_fault p.view.library m) (newly_mapped p.view at (length (touched_pages p.view at)))
  all_turns has =
      let more = more_turns has in
      let least = part_least (has_turn p.view at) (λ (t : PageOf). not (has_page (mapped_pages p.view.holding) t.serial t.page)) (touched_pages p.view at) (n + 1) in
      subst (λ (k : ℕ). r.known.drawn ≤ p.known.drawn + count_by (needs_fault p.view.library k) (newly_mapped p.view at (length (touched_pages p.view at)))) (sym is) (omega arith)

  pub to_next : IsPage q r next_page m (news_of q.view next_page) b c → HasTurns → TouchedTo p r at (n + 1) a c
  to_next step has =
      let one = one_turn has in
      let few = to.few in
      let short = count_by-le-length (has_turn p.view at) (news_of q.view next_page) in
      let single = at_most_one q.view next_page in
      record {
        touched = touched_next p q r at first l n a b c m from inside to.touched step is among (all_turns has);
        turns = more_turns has;
        few = omega arith;
      }

  long : length (touched_pages p.view at) ≡ l
  long = ap (λ (ns : List ℕ). length (map (page_at (serial_seen p.view.library p.view.holding at) at.object) ns)) from ∙ length-map-range_with_len (page_at (serial_seen p.view.library p.view.holding at) at.object) first l

  -- there was no memory for the next page
  pub to_want : IsPage q r next_page m [] b c → has_page (mapped_pages q.view.holding) next_page.serial next_page.page ≡ false → HasTurns → IsTouchAnswered p r at a c (Err NoMemory)
  to_want step absent has =
      let own : ℕ = serial_seen p.view.library p.view.holding at in
      let count = long in
      let fits : n ≤ length (touched_pages p.view at) = omega arith in
      let was : has_page (mapped_pages p.view.holding) own (page at.object (first + n)) ≡ false = sym (mapped_alike p q at first l n a b from (omega arith) to.touched own refl) ∙ absent in
      let missing : has_pages (mapped_pages p.view.holding) own at ≡ false =
      ap (list_all (λ (k : ℕ). has_page (mapped_pages p.view.holding) own (page at.object k))) from ∙ not_all (mapped_pages p.view.holding) own at.object first n l inside was in
      ((n, fits, touched_stop p q r at first l n a b c m from inside to.touched step is among (all_turns has)), missing)

-- ---- all pages

pub to_end : (p q : ProcState) (at : Place) (first l a b : ℕ) → AreFrom at first l → TouchedTo p q at l a b → IsTouched p q at (length (touched_pages p.view at)) a b × AreMapped p.view q.view at
to_end p q at first l a b from to =
    let own : ℕ = serial_seen p.view.library p.view.holding at in
    let count : length (touched_pages p.view at) ≡ l = ap (λ (ns : List ℕ). length (map (page_at own at.object) ns)) from ∙ length-map-range_with_len (page_at own at.object) first l in
    let mapped : mapped_pages q.view.holding ≡ mapped_pages p.view.holding ++ not_among (mapped_pages p.view.holding) (pages_from own at.object first l) =
    to.touched.mapped ∙ ap (λ xs. mapped_pages p.view.holding ++ xs) (newly_from p.view at first l l from (omega arith)) in
    let all : has_pages (mapped_pages q.view.holding) own at ≡ true =
    ap (list_all (λ (k : ℕ). has_page (mapped_pages q.view.holding) own (page at.object k))) from
    ∙ all_mapped (mapped_pages p.view.holding) (mapped_pages q.view.holding) own at.object first l (λ u has. subst (λ (xs : List PageOf). has_page xs own u ≡ true) (sym mapped) has) in
    (subst (λ (k : ℕ). IsTouched p q at k a b) (sym count) to.touched, all)
