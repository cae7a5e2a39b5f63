-- What a thread carries out of its script.
use Rattle.std.proofs.Common.{◌≡◌, ◌⊎◌, inl, inr, ℕ, ◌+◌, ◌-◌, ◌/◌, ◌<◌, ◌≤◌, ◌==◌, Bool, true, false, not, List, [], ◌∷◌, ◌++◌, length, take, cond, zero, suc, ◌&&◌, ◌||◌, nat_le, ◌^◌, eq-eqb, Option, Some, None, refl, sym, ◌∙◌}
use Rattle.std.proofs.Common.{ap, subst, arith, append-nil, Result, Ok, Err, ◌*◌, length-append}
use Rattle.run_core.proofs.Words.{About, AllByRecursion, AreMapped, Command, Deed, Ended, Enters, Entry, EntryGoesOn, Failing, failing_in, Fine, fixed_bytes, Holds, is_err, is_page, IsCarriedOut, IsCommand, IsFaultOfPlace}
use Rattle.run_core.proofs.Words.{IsNewFault, IsPlace, IsReadLine, IsRefusedLine, IsSamePass, IsSameProcess, IsSeenInTouch, IsTouched, IsTouchLine, Known, Legal, length-map, length-range_with_len, length-take, Library, line_at}
use Rattle.run_core.proofs.Words.{line_if, line_with, Made, mapped_pages, MAX_TICKETS, MAX_TURNS, meant, most_turns, needs_fault, newly_mapped, NoMemory, OnOk, Outcome, page, PageOf, pages_over, Place, ProcessView, ProcState}
use Rattle.run_core.proofs.Words.{range_with_len, Reached, ReadGoesOn, RefusedGoesOn, Reply, StandsFor, state_after, touched_pages, Touches, TouchGoesOn, uses_touched, when, Worn}
use Rattle.std.proofs.lemmas.List.Sums.{count_by-le-length, length-filter}
use Rattle.std.proofs.Math.Bool.{or-true}
use Rattle.load_model.proofs.Bytes.{right_none}
use Rattle.load_model.specs.TouchedPages.{has_page, touched_after}
use Rattle.session_model.specs.declared.sessions.Line.{Line}
use Rattle.merge_laws.specs.PageStates.{pages_at, state_with, serial_seen}
use Rattle.lx_types.proofs.Lists.{all_kept, all_weaker}
use Rattle.load_model.specs.declared.commands.Command.TheVariants as commands
use Rattle.load_model.specs.declared.deeds.Deed.TheVariants as deeds

-- ---- one command further

-- ---- what holds of a process, over the library and the failing pairs of its script

stands_over : (q : ProcState) (lib : Library) (failing : Failing) → q.view.library ≡ lib → failing_in q.known.subject ≡ failing → Holds q →
    StandsFor lib failing (fixed_bytes lib) q.view.holding q.known.seen
stands_over q lib failing library fails holds =
    subst (λ f. StandsFor lib f (fixed_bytes lib) q.view.holding q.known.seen) fails
    (subst (λ l. StandsFor l (failing_in q.known.subject) (fixed_bytes l) q.view.holding q.known.seen) library holds.stands.stands)

legal_over : (q : ProcState) (lib : Library) (failing : Failing) → q.view.library ≡ lib → failing_in q.known.subject ≡ failing → Holds q → Legal lib failing (fixed_bytes lib) q.known.seen
legal_over q lib failing library fails holds =
    subst (λ f. Legal lib f (fixed_bytes lib) q.known.seen) fails (subst (λ l. Legal l (failing_in q.known.subject) (fixed_bytes l) q.known.seen) library holds.legal)

subject_of : (p q : ProcState) → IsSamePass p q → q.known.subject ≡ p.known.subject
subject_of p q same = ap (λ (k : Known Entry About). k.subject) same.known

number_of_pass : (p q : ProcState) → IsSamePass p q → q.known.pid ≡ p.known.pid
number_of_pass p q same = ap (λ (k : Known Entry About). k.pid) same.known

-- ---- a command with an entry

enters_of : (p q : ProcState) (c : Command) (outcome : Outcome) → Holds p → Holds q → (made : Made p q c outcome) →
    Enters p.view.library (failing_in p.known.subject) (fixed_bytes p.view.library) p.view.holding q.view.holding p.known.seen q.known.seen c
enters_of p q c outcome before after made =
    let lib : Library = p.view.library in
    let failing : Failing = failing_in p.known.subject in
    let at : List Entry = p.known.seen ++ made.more in
    let number : p.known.pid ≡ p.view.holding.pid = sym before.number in
    record {
      more = made.more;
      others = subst (λ n. AllByRecursion (λ (x : Entry). (n == x.pid) ≡ false) made.more) number made.others;
      entry = made.entry;
      shown = made.seen;
      own = made.own ∙ number;
      asked = made.asked;
      plain = made.command_entry;
      follows = made.follows;
      uses = subst (λ n. uses_touched (state_with lib failing at (mapped_pages p.view.holding)) n made.entry.deed ≡ true) number made.uses;
      same = after.number ∙ (number_of_pass p q made.pass ∙ number);
      mapped = subst (λ n. mapped_pages q.view.holding ≡ touched_after lib (state_after lib failing at) n made.entry.deed (λ r. mapped_pages p.view.holding) n) number made.mapped;
    }

made_goes_on : EntryGoesOn → (p q : ProcState) (c : Command) (outcome : Outcome) (lines : List Line) (done : List Command) → Holds p → Holds q → Made p q c outcome →
    Reached p.view.library (failing_in p.known.subject) p lines done → Reached p.view.library (failing_in p.known.subject) q lines (done ++ c ∷ [])
made_goes_on goes p q c outcome lines done before after made r =
    let lib : Library = p.view.library in
    let failing : Failing = failing_in p.known.subject in
    let fails : failing_in q.known.subject ≡ failing = ap failing_in (subject_of p q made.pass) in
    record {
      library = made.library;
      fails = fails;
      number = after.number;
      progress =
          goes lib failing (fixed_bytes lib) p.view.holding q.view.holding p.known.seen q.known.seen lines done c (legal_over q lib failing made.library fails after)
          (stands_over q lib failing made.library fails after) (enters_of p q c outcome before after made) r.progress;
    }

-- ---- a touch

is_page_itself : (n m : ℕ) → (n == n) && (m == m) ≡ true
is_page_itself n m = ap (λ b. b && (m == m)) (eq-eqb n n refl) ∙ eq-eqb m m refl

matches_itself : (t : PageOf) → (t.serial == t.serial) && is_page t.page t.page ≡ true
matches_itself t = ap (λ b. b && is_page t.page t.page) (eq-eqb t.serial t.serial refl) ∙ is_page_itself t.page.object t.page.page

all_among : (xs : List PageOf) → AllByRecursion (λ (u : PageOf). has_page xs u.serial u.page ≡ true) xs
all_among [] = tt
all_among (t ∷ xs) = (
  ap (λ b. b || has_page xs t.serial t.page) (matches_itself t),
  all_weaker _ _ (λ u h. ap (λ b. (t.serial == u.serial) && is_page t.page u.page || b) h ∙ or-true ((t.serial == u.serial) && is_page t.page u.page)) xs (all_among xs),
)

taken_among : (P : PageOf → Type 0) (n : ℕ) (xs : List PageOf) → AllByRecursion P xs → AllByRecursion P (take n xs)
taken_among P zero xs all = tt
taken_among P (suc n) [] all = tt
taken_among P (suc n) (t ∷ xs) all = (all.0, taken_among P n xs all.1)

new_of_place : (v : ProcessView) (at : Place) (n : ℕ) →
    AllByRecursion (λ (u : PageOf). has_page (pages_at (serial_seen v.library v.holding at) at) u.serial u.page ≡ true) (newly_mapped v at n)
new_of_place v at n =
    let pages : List PageOf = touched_pages v at in
    all_kept (λ (u : PageOf). has_page pages u.serial u.page ≡ true) (λ (t : PageOf). not (has_page (mapped_pages v.holding) t.serial t.page)) (take n pages)
    (taken_among (λ (u : PageOf). has_page pages u.serial u.page ≡ true) n pages (all_among pages))

fault_of_place : (v : ProcessView) (at : Place) (news : List PageOf) (d : Deed) → IsNewFault v at news d → IsFaultOfPlace v.library v.holding at d
fault_of_place v at news (deeds.Fault serial m p) is = record {
  «module» = m;
  page_is = p;
  is = ap (λ s. deeds.Fault s m p) is.0;
  object = is.2;
  covered = is.3;
  unmapped = subst (λ s. has_page (mapped_pages v.holding) s p ≡ false) is.0 is.4;
}
fault_of_place v at news other is = absurd is

own_faults : (v : ProcessView) (at : Place) (news : List PageOf) (xs : List Entry) → AllByRecursion (IsSeenInTouch v at news) xs →
    AllByRecursion (λ (x : Entry). (v.holding.pid == x.pid) ≡ true → IsFaultOfPlace v.library v.holding at x.deed) xs
own_faults v at news [] all = tt
own_faults v at news (x ∷ xs) all = (one all.0, own_faults v at news xs all.1)
  where
    one : IsSeenInTouch v at news x → (v.holding.pid == x.pid) ≡ true → IsFaultOfPlace v.library v.holding at x.deed
    one (inl other) is = (let wrong : false ≡ true = sym other ∙ is in cc)
    one (inr own) is = fault_of_place v at news x.deed own.1

touch_goes_on : TouchGoesOn → (p q : ProcState) (at : Place) (n before_steps after_steps : ℕ) (lines : List Line) (done : List Command) →
    Holds p → Holds q → IsTouched p q at n before_steps after_steps → AreMapped p.view q.view at → Reached p.view.library (failing_in p.known.subject) p lines done →
    Reached p.view.library (failing_in p.known.subject) q (lines ++ line_at q.known.seen (commands.Touch at) Fine ∷ []) (done ++ commands.Touch at ∷ [])
touch_goes_on goes p q at n before_steps after_steps lines done before after it mapped r =
    let lib : Library = p.view.library in
    let failing : Failing = failing_in p.known.subject in
    let fails : failing_in q.known.subject ≡ failing = ap failing_in (subject_of p q it.pass) in
    let touches : Touches lib p.view.holding q.view.holding p.known.seen q.known.seen at = record {
      more = it.shown;
      shown = it.seen;
      faults = own_faults p.view at (newly_mapped p.view at n) it.shown it.entries;
      accepted = right_none (when (nat_le MAX_TICKETS p.known.drawn) Worn) _ (right_none (when p.view.holding.ended Ended) _ it.accepted);
      view = it.holding;
      news = newly_mapped p.view at n;
      mapped = it.mapped;
      of_place = new_of_place p.view at n;
      all = mapped;
    }
    in
    record {
      library = it.library;
      fails = fails;
      number = after.number;
      progress =
          goes lib failing (fixed_bytes lib) p.view.holding q.view.holding p.known.seen q.known.seen lines done at (legal_over q lib failing it.library fails after)
          (stands_over q lib failing it.library fails after) touches r.progress;
    }

-- ---- a line without an entry

steady_goes_on : RefusedGoesOn → ReadGoesOn → TouchGoesOn → (p q : ProcState) (c : Command) (reply : Reply) (lines : List Line) (done : List Command) → Holds p → Holds q →
    (IsRefusedLine p q c reply ⊎ IsReadLine p q c reply ⊎ IsTouchLine p q c reply) → Reached p.view.library (failing_in p.known.subject) p lines done →
    Reached p.view.library (failing_in p.known.subject) q (lines ++ line_at q.known.seen c reply ∷ []) (done ++ c ∷ [])
steady_goes_on refused read touched p q c reply lines done before after (inl it) r =
    subst (λ s. Reached p.view.library (failing_in p.known.subject) s (lines ++ line_at s.known.seen c reply ∷ []) (done ++ c ∷ [])) (sym it.same)
    (subst (λ t. Reached p.view.library (failing_in p.known.subject) p (lines ++ line_at p.known.seen c t ∷ []) (done ++ c ∷ [])) (sym it.told)
    (record {
      library = r.library;
      fails = r.fails;
      number = r.number;
      progress = refused p.view.library (failing_in p.known.subject) (fixed_bytes p.view.library) p.view.holding p.known.seen lines done c it.refusal it.refused r.progress;
    }))
steady_goes_on refused read touched p q c reply lines done before after (inr (inl it)) r =
    subst (λ s. Reached p.view.library (failing_in p.known.subject) s (lines ++ line_at s.known.seen c reply ∷ []) (done ++ c ∷ [])) (sym it.same)
    (record {
      library = r.library;
      fails = r.fails;
      number = r.number;
      progress =
          read p.view.library (failing_in p.known.subject) (fixed_bytes p.view.library) p.view.holding p.known.seen lines done c reply it.reads it.replied.accepted it.replied.replied r.progress;
    })
steady_goes_on refused read touched p q c reply lines done before after (inr (inr it)) r =
    subst (λ d. Reached p.view.library (failing_in p.known.subject) q (lines ++ line_at q.known.seen d reply ∷ []) (done ++ d ∷ [])) (sym it.is)
    (subst (λ t. Reached p.view.library (failing_in p.known.subject) q (lines ++ line_at q.known.seen (commands.Touch it.at) t ∷ []) (done ++ commands.Touch it.at ∷ [])) (sym it.fine)
    (touch_goes_on touched p q it.at (length (touched_pages p.view it.at)) it.before it.after lines done before after it.touched it.mapped r))

-- ---- all commands

own_goes_on : RefusedGoesOn → ReadGoesOn → EntryGoesOn → TouchGoesOn → (p q : ProcState) (c : Command) (reply : Option Reply) (lines : List Line) (done : List Command) → Holds p → Holds q →
    IsCarriedOut p q c reply → Reached p.view.library (failing_in p.known.subject) p lines done →
    Reached p.view.library (failing_in p.known.subject) q (lines ++ line_if q c reply) (done ++ c ∷ [])
own_goes_on refused read entry touched p q c None lines done before after it r =
    subst (λ ls. Reached p.view.library (failing_in p.known.subject) q ls (done ++ c ∷ [])) (sym (append-nil lines)) (made_goes_on entry p q c it.0 lines done before after it.1 r)
own_goes_on refused read entry touched p q c (Some reply) lines done before after it r = steady_goes_on refused read touched p q c reply lines done before after it r

pub carried_on : RefusedGoesOn → ReadGoesOn → EntryGoesOn → TouchGoesOn → (lib : Library) (failing : Failing) (p q : ProcState) (c : Command) (reply : Option Reply) (lines : List Line)
    (done : List Command) → Holds p → Holds q → IsCarriedOut p q c reply → Reached lib failing p lines done → Reached lib failing q (lines ++ line_if q c reply) (done ++ c ∷ [])
carried_on refused read entry touched lib failing p q c reply lines done before after it r =
    let F : Library → Failing → Type 0 = λ l f. Reached l f p lines done → Reached l f q (lines ++ line_if q c reply) (done ++ c ∷ []) in
    let own : F p.view.library (failing_in p.known.subject) = own_goes_on refused read entry touched p q c reply lines done before after it in
    subst (λ f. F lib f) r.fails (subst (λ l. F l (failing_in p.known.subject)) r.library own) r

-- ---- what stays

pass_same : (p q : ProcState) → IsSamePass p q → q.view.library ≡ p.view.library → IsSameProcess p q
pass_same p q pass library = record {
  lock = pass.lock;
  number = number_of_pass p q pass;
  live = ap (λ (k : Known Entry About). k.live) pass.known;
  subject = subject_of p q pass;
  library = library;
}

itself_same : (p q : ProcState) → q ≡ p → IsSameProcess p q
itself_same p q same = subst (IsSameProcess p) (sym same) (record { lock = refl; number = refl; live = refl; subject = refl; library = refl })

pub carried_same : (p q : ProcState) (c : Command) (reply : Option Reply) → IsCarriedOut p q c reply → IsSameProcess p q
carried_same p q c None it = pass_same p q it.1.pass it.1.library
carried_same p q c (Some reply) (inl it) = itself_same p q it.same
carried_same p q c (Some reply) (inr (inl it)) = itself_same p q it.same
carried_same p q c (Some reply) (inr (inr it)) = pass_same p q it.touched.pass it.touched.library

pub same_through : (p q r : ProcState) → IsSameProcess p q → IsSameProcess q r → IsSameProcess p r
same_through p q r one two = record {
  lock = two.lock ∙ one.lock;
  number = two.number ∙ one.number;
  live = two.live ∙ one.live;
  subject = two.subject ∙ one.subject;
  library = two.library ∙ one.library;
}

-- ---- how many turns it takes

span_pages : (offset len : ℕ) → len < 2 ^ 32 → length (pages_over offset len) ≤ 1048578
span_pages offset len small = step (len == 0) refl
  where
    few : (offset len : ℕ) → len < 2 ^ 32 → (offset + len - 1) / 4096 + 1 - offset / 4096 ≤ 1048578
    few offset len small = omega (arith, small)

    step : (b : Bool) → (len == 0) ≡ b → length (cond b [] (range_with_len (offset / 4096) ((offset + len - 1) / 4096 + 1 - offset / 4096))) ≤ 1048578
    step true is = omega arith
    step false is = subst (λ n. n ≤ 1048578) (sym (length-range_with_len (offset / 4096) ((offset + len - 1) / 4096 + 1 - offset / 4096))) (few offset len small)

few_turns : (v : ProcessView) (at : Place) → at.len < 2 ^ 32 → most_turns v at ≤ MAX_TURNS
few_turns v at small =
    let pages : List PageOf = touched_pages v at in
    let n : ℕ = length pages in
    let first = count_by-le-length (needs_fault v.library (meant v.library at.«module»)) (newly_mapped v at n) in
    let unmapped : PageOf → Bool = λ t. not (has_page (mapped_pages v.holding) t.serial t.page) in
    let kept = length-filter unmapped (take n pages) in
    let second = count_by-le-length unmapped (take n pages) in
    let third = length-take n pages in
    let fourth : length pages ≡ length (pages_over at.offset at.len) =
    length-map (pages_over at.offset at.len) (λ k. record { serial = serial_seen v.library v.holding at; page = page at.object k })
    in
    let fifth = span_pages at.offset at.len small in
    omega (arith, first, kept, second, third, fourth, fifth)

pub carried_turns : (p q : ProcState) (c : Command) (reply : Option Reply) → IsCommand c → IsCarriedOut p q c reply → q.known.drawn ≤ p.known.drawn + MAX_TURNS
carried_turns p q c None is it = (let one = it.1.drawn in omega (arith, one))
carried_turns p q c (Some reply) is (inl it) = (let same : q.known.drawn ≡ p.known.drawn = ap (λ (s : ProcState). s.known.drawn) it.same in omega (arith, same))
carried_turns p q c (Some reply) is (inr (inl it)) = (let same : q.known.drawn ≡ p.known.drawn = ap (λ (s : ProcState). s.known.drawn) it.same in omega (arith, same))
carried_turns p q c (Some reply) is (inr (inr it)) =
    let at_is : IsPlace it.at = subst IsCommand it.is is in
    let turns = few_turns p.view it.at at_is.length in
    let drawn = it.touched.drawn.1 in
    omega (arith, turns, drawn)

-- ---- a command and its line

pub turns_if : (r : Result (Unit {0}) NoMemory) (p q : ProcState) (c : Command) (reply : Option Reply) → IsCommand c → IsCarriedOut p q c reply → OnOk r (q.known.drawn ≤ p.known.drawn + MAX_TURNS)
turns_if (Ok it) p q c reply is carried = carried_turns p q c reply is carried
turns_if (Err why) p q c reply is carried = tt

pub reached_if : RefusedGoesOn → ReadGoesOn → EntryGoesOn → TouchGoesOn → (r : Result (Unit {0}) NoMemory) (p q : ProcState) (c : Command) (reply : Option Reply) (front : ℕ) (lines more : List Line) →
    Holds p → Holds q → front ≡ length q.known.seen → IsCarriedOut p q c reply → OnOk r (more ≡ lines ++ line_with front c reply) →
    OnOk r ((lib : Library) (failing : Failing) (done : List Command) → Reached lib failing p lines done → Reached lib failing q more (done ++ c ∷ []))
reached_if refused read entry touched (Err why) p q c reply front lines more before after at carried is = tt
reached_if refused read entry touched (Ok it) p q c reply front lines more before after at carried is = λ lib failing done reached.
    subst (λ ls. Reached lib failing q ls (done ++ c ∷ [])) (sym (is ∙ ap (λ n. lines ++ line_with n c reply) at))
    (carried_on refused read entry touched lib failing p q c reply lines done before after carried reached)

-- ---- one turn of a script's loop

pub on_ok : {P : Type 0} (r : Result (Unit {0}) NoMemory) → OnOk r P → is_err r ≡ false → P
on_ok (Ok it) h e = h
on_ok (Err why) h e = cc

pub one_longer : (n : ℕ) (cs : List Command) (c : Command) → n ≡ length cs → n + 1 ≡ length (cs ++ c ∷ [])
one_longer n cs c is = omega (arith, is, length-append cs (c ∷ []))

pub one_more_turns : (d e : ℕ) (cs : List Command) (c : Command) → d ≤ MAX_TURNS * length cs → e ≤ d + MAX_TURNS → e ≤ MAX_TURNS * length (cs ++ c ∷ [])
one_more_turns d e cs c low step =
    subst (λ n. e ≤ 1048578 * n) (sym (length-append cs (c ∷ []))) (sum d e (length cs) low step)
  where
    sum : (d e n : ℕ) → d ≤ 1048578 * n → e ≤ d + 1048578 → e ≤ 1048578 * (n + 1)
    sum d e n low step = omega (arith, low, step)

pub reached_ok : (r : Result (Unit {0}) NoMemory) (p q : ProcState) (lines more : List Line) (c : Command) →
    OnOk r ((lib : Library) (failing : Failing) (done : List Command) → Reached lib failing p lines done → Reached lib failing q more (done ++ c ∷ [])) → is_err r ≡ false →
    (lib : Library) (failing : Failing) (done : List Command) → Reached lib failing p lines done → Reached lib failing q more (done ++ c ∷ [])
reached_ok (Ok it) p q lines more c h e lib failing done reached = h lib failing done reached
reached_ok (Err why) p q lines more c h e lib failing done reached = cc
