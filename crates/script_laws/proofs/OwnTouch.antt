-- A touch that the view does not refuse: the process makes the faults that its pages need, one after the other, and maps them.
use Rattle.std.proofs.Common.{◌≡◌, ◌∙◌, ℕ, ◌+◌, ◌*◌, ◌≤◌, ◌<◌, ◌==◌, ◌||◌, Bool, true, false, List, [], ◌∷◌, ◌++◌, length, map, Option, Some, None, is_none, IsTrue, refl, sym, ap, subst, append-nil, append_assoc, arith, zero, suc, if◌then◌else◌}
use Rattle.std.specs.Prelude.{◌/◌, ◌-◌, not, ◌&&◌, nat_lt, option_map}
use Rattle.std.specs.List.{AllByRecursion, list_any, list_all, range_with_len}
use Rattle.std.proofs.lemmas.Bool.{eqb-true, eqb-false, eq-eqb, le-ltb, or_parts}
use Rattle.std.proofs.lemmas.Option.{same_Some}
use Rattle.lx_types.proofs.Lists.{all_joined}
use Rattle.lx_types.specs.Object.{class_of}
use Rattle.lx_types.specs.declared.object.PageId.{PageId}
use Rattle.lx_types.specs.declared.object.TheConstants.{PAGE_SIZE}
use Rattle.load_model.specs.declared.commands.Place.{Place}
use Rattle.load_model.specs.declared.commands.Command.{Command}
use Rattle.load_model.specs.declared.commands.Command.TheVariants as commands
use Rattle.load_model.specs.declared.commands.Refusal.{Refusal}
use Rattle.load_model.specs.declared.commands.Refusal.TheVariants.{Ended, Range, Invalid}
use Rattle.load_model.specs.declared.commands.Reply.TheVariants as replies
use Rattle.load_model.specs.declared.commands.Ask.TheVariants.{Fault as fault}
use Rattle.load_model.specs.declared.deeds.Deed.TheVariants as deeds
use Rattle.load_model.specs.declared.deeds.Entry.{Entry}
use Rattle.load_model.specs.declared.deeds.Fresh.{Fresh}
use Rattle.load_model.specs.Modules.{Library, Held, objects_of, object_at, is_invalid}
use Rattle.load_model.specs.State.{Failing, Eager, PageOf, Residence, is_among, pids, residence_of, attached_residence, serial_of}
use Rattle.load_model.specs.Memory.{page, pages_over, is_page}
use Rattle.load_model.specs.Refusals.{Purpose, touch, when, ◌orelse◌, is_outside, covers_invalid, class_refusal, span_refusal, residence_refusal, residence_named}
use Rattle.load_model.specs.Asks.{deed_of, is_own, may_ask, is_serial, is_attached}
use Rattle.load_model.specs.Histories.{state_after, has_fault, is_fault_of, Follows, Legal}
use Rattle.load_model.specs.Laws.{OneMoreIsLegal, unwritten_of}
use Rattle.load_model.specs.Serials.{SerialsAreOwn}
use Rattle.load_model.specs.TouchedPages.{has_page}
use Rattle.load_model.specs.Views.{Holding, Mapped, mapped_pages, reached_of, fresh_of, IsMapped, WasFixed, StandsFor}
use Rattle.load_model.specs.ViewAnswers.{seen_process, view_refusal, reached_named}
use Rattle.load_model.specs.ViewLaws.{StandsQuiet, StandsMapped}
use Rattle.load_model.proofs.Among.{any_append}
use Rattle.load_model.proofs.Bools.{and_left, and_right, and_true, or_true, or_false}
use Rattle.load_model.proofs.Bytes.{attached_is, left_none, right_none}
use Rattle.load_model.proofs.Holding.{Inside, span_inside, when_none}
use Rattle.load_model.proofs.Views.{named_by_view}
use Rattle.load_model.proofs.ViewReplies.{residence_is, attached_named_is}
use Rattle.load_model.proofs.ViewSteps.{each_more}
use Rattle.session_model.specs.declared.sessions.Line.{Line}
use Rattle.merge_laws.specs.PageStates.{pages_at, serial_seen, has_pages}
use Rattle.script_laws.specs.Progress.{Progress, line_at, IsFaultOfPlace, Touches}
use Rattle.script_laws.specs.Commands.{TouchGoesOn}
use Rattle.script_laws.proofs.Kept.{page_seen, page_is_seen}
use Rattle.script_laws.proofs.OwnEntries.{Next}

pub record TouchLaws : Type 0 where
  pub legal : OneMoreIsLegal
  pub serials : SerialsAreOwn
  pub quiet : StandsQuiet
  pub mapped : StandsMapped
  pub goes : TouchGoesOn

-- ---- one page of a place

one_page : (n : ℕ) → pages_over (n * PAGE_SIZE) 1 ≡ n ∷ []
one_page n = ap (λ k. range_with_len k ((n * PAGE_SIZE + 1 - 1) / PAGE_SIZE + 1 - k)) (quotient n) ∙ ap (range_with_len n) (one n)
  where
    quotient : (n : ℕ) → (n * 4096) / 4096 ≡ n
    quotient n = omega arith

    one : (n : ℕ) → (n * 4096 + 1 - 1) / 4096 + 1 - n ≡ 1
    one n = omega arith

-- a number of a range is below its end
below_end : (a len n : ℕ) → is_among (range_with_len a len) n ≡ true → n < a + len
below_end a zero n is = cc
below_end a (suc len) n is = step (a == n) refl is (below_end (a + 1) len n)
  where
    step : (b : Bool) → (a == n) ≡ b → b || is_among (range_with_len (a + 1) len) n ≡ true → (is_among (range_with_len (a + 1) len) n ≡ true → n < (a + 1) + len) → n < a + suc len
    step true here is later = let same : a ≡ n = eqb-true a n here in omega (arith, same)
    step false here is later = let under = later is in omega (arith, under)

-- a page that a place covers ends with the place or before it
page_below : (offset len n size : ℕ) → is_among (pages_over offset len) n ≡ true → offset + len ≤ size → n * PAGE_SIZE + 1 ≤ size
page_below offset len n size is within = step (len == 0) refl is
  where
    bound : (offset len n size : ℕ) → (len ≡ 0 → ⊥) → n < offset / 4096 + ((offset + len - 1) / 4096 + 1 - offset / 4096) → offset + len ≤ size → n * 4096 + 1 ≤ size
    bound offset len n size some under within = omega (arith, some, under, within)

    step : (b : Bool) → (len == 0) ≡ b →
        is_among (if b then [] else range_with_len (offset / PAGE_SIZE) ((offset + len - 1) / PAGE_SIZE + 1 - offset / PAGE_SIZE)) n ≡ true → n * PAGE_SIZE + 1 ≤ size
    step true none is = cc
    step false none is =
        bound offset len n size (eqb-false len 0 none)
        (below_end (offset / PAGE_SIZE) ((offset + len - 1) / PAGE_SIZE + 1 - offset / PAGE_SIZE) n is) within

one_valid : (f : ℕ → Bool) (ns : List ℕ) (n : ℕ) → is_among ns n ≡ true → list_any f ns ≡ false → f n ≡ false
one_valid f [] n is none = cc
one_valid f (k ∷ ns) n is none = step (k == n) refl is (or_parts (f k) (list_any f ns) none) (one_valid f ns n)
  where
    step : (b : Bool) → (k == n) ≡ b → b || is_among ns n ≡ true → (f k ≡ false) × (list_any f ns ≡ false) →
        (is_among ns n ≡ true → list_any f ns ≡ false → f n ≡ false) → f n ≡ false
    step true here is none later = ap f (sym (eqb-true k n here)) ∙ none.0
    step false here is none later = later is none.1

when_false : (b : Bool) (r : Refusal) → b ≡ false → when b r ≡ None
when_false true r is = cc
when_false false r is = refl

inside_again : (lib : Library) (m object offset len n : ℕ) → is_outside lib m object offset len ≡ false → n * PAGE_SIZE + 1 ≤ (object_at lib m object).size →
    is_outside lib m object (n * PAGE_SIZE) 1 ≡ false
inside_again lib m object offset len n is within =
    ap (λ b. b || nat_lt (object_at lib m object).size (n * PAGE_SIZE + 1)) (or_parts _ (nat_lt (object_at lib m object).size (offset + len)) is).0
    ∙ le-ltb (object_at lib m object).size (n * PAGE_SIZE + 1) within

-- where the place may be touched, so may each page that it covers
page_span : (lib : Library) (m object offset len n : ℕ) → span_refusal lib touch m object offset len ≡ None → is_among (pages_over offset len) n ≡ true →
    span_refusal lib touch m object (n * PAGE_SIZE) 1 ≡ None
unfolding span_refusal
page_span lib m object offset len n fine covers =
    let out : is_outside lib m object offset len ≡ false = when_none _ Range (left_none _ _ fine) in
    let valid : covers_invalid lib m object offset len ≡ false = when_none _ Invalid (right_none (class_refusal touch (class_of (object_at lib m object))) _ (right_none _ _ fine)) in
    let inside = span_inside lib touch m object offset len fine in
    let here : is_outside lib m object (n * PAGE_SIZE) 1 ≡ false = inside_again lib m object offset len n out (page_below offset len n _ covers inside.end) in
    let one : is_invalid lib m (page object n) ≡ false = one_valid (λ k. is_invalid lib m (page object k)) (pages_over offset len) n covers valid in
    let alone : covers_invalid lib m object (n * PAGE_SIZE) 1 ≡ false = ap (list_any (λ k. is_invalid lib m (page object k))) (one_page n) ∙ (or_false (is_invalid lib m (page object n)) ∙ one) in
    ap (λ r. r orelse (class_refusal touch (class_of (object_at lib m object)) orelse when (covers_invalid lib m object (n * PAGE_SIZE) 1) Invalid)) (when_false _ Range here)
    ∙ when_false _ Invalid alone

-- ---- the residence

-- the residence in which the place is, in a state that the view stands for
record Here (lib : Library) (e : Eager) (v : Holding) (at : Place) : Type 0 where
  residence : Residence
  there : attached_residence lib e v.pid residence.«module» ≡ Some residence
  serial : residence.serial ≡ serial_seen lib v at
  span : span_refusal lib touch residence.«module» at.object at.offset at.len ≡ None
  goes : (e.processes v.pid).ended ≡ false

open_view : (lib : Library) (v : Holding) (at : Place) → view_refusal lib v (commands.Touch at) ≡ None →
    (v.ended ≡ false) × (residence_refusal lib (seen_process v) touch at (reached_named lib v at.«module») ≡ None)
unfolding view_refusal
open_view lib v at fine = (when_none v.ended Ended (left_none _ _ fine), right_none (when v.ended Ended) _ fine)

here : (lib : Library) (failing : Failing) (contents : Held) (v : Holding) (at : Place) (ms : List Mapped) (k : List Entry) →
    StandsFor lib failing contents (record v { mapped = ms; front = length k }) k → view_refusal lib v (commands.Touch at) ≡ None → Here lib (state_after lib failing k) v at
here lib failing contents v at ms k stands fine =
    seen_as (residence_named lib (state_after lib failing k) v.pid at.«module») refl
    (named_by_view lib contents (record v { mapped = ms; front = length k }) (state_after lib failing k) at.«module» stands.view) (open_view lib v at fine)
  where
    seen_as : (o : Option Residence) → residence_named lib (state_after lib failing k) v.pid at.«module» ≡ o →
        unwritten_of (residence_named lib (state_after lib failing k) v.pid at.«module») ≡ reached_named lib v at.«module» →
        (v.ended ≡ false) × (residence_refusal lib (seen_process v) touch at (reached_named lib v at.«module») ≡ None) → Here lib (state_after lib failing k) v at
    seen_as None is seen clear =
        let none : residence_refusal lib (seen_process v) touch at None ≡ None =
        subst (λ o. residence_refusal lib (seen_process v) touch at o ≡ None) (sym seen ∙ ap unwritten_of is) clear.1
        in
        cc
    seen_as (Some r) is seen clear =
        let named : reached_named lib v at.«module» ≡ Some (record r { writes = [] }) = sym seen ∙ ap unwritten_of is in
        record {
          residence = r;
          there = attached_named_is lib (state_after lib failing k) v.pid at.«module» r is;
          serial = sym (ap serial_of named);
          span = left_none _ _ (subst (λ o. residence_refusal lib (seen_process v) touch at o ≡ None) named clear.1);
          goes = sym stands.view.ended ∙ clear.0;
        }

-- ---- in the midst of it

-- Some of its pages are mapped.
record Mid (lib : Library) (failing : Failing) (contents : Held) (v : Holding) (h : List Entry) (at : Place) (ns : List ℕ) : Type 0 where
  mapped : List Mapped
  whole : List Entry
  more : List Entry
  is : whole ≡ h ++ more
  legal : Legal lib failing contents whole
  stands : StandsFor lib failing contents (record v { mapped = mapped; front = length whole }) whole
  own : AllByRecursion (λ (x : Entry). x.pid ≡ v.pid) more
  faults : AllByRecursion (λ (x : Entry). (v.pid == x.pid) ≡ true → IsFaultOfPlace lib v at x.deed) more
  news : List PageOf
  pages : map (λ (p : Mapped). p.of) mapped ≡ mapped_pages v ++ news
  of_place : AllByRecursion (λ (t : PageOf). has_page (pages_at (serial_seen lib v at) at) t.serial t.page ≡ true) news
  all : list_all (λ n. has_page (map (λ (p : Mapped). p.of) mapped) (serial_seen lib v at) (page at.object n)) ns ≡ true

page_is : (q : PageId) → is_page q q ≡ true
page_is q = and_true _ _ (eq-eqb q.object q.object refl) (eq-eqb q.page q.page refl)

found_last : (pages : List PageOf) (serial : ℕ) (q : PageId) → has_page (pages ++ record { serial = serial; page = q } ∷ []) serial q ≡ true
found_last pages serial q =
    any_append (λ (t : PageOf). (t.serial == serial) && is_page t.page q) pages (record { serial = serial; page = q } ∷ [])
    ∙ (ap (λ b. has_page pages serial q || (b || false)) (and_true _ _ (eq-eqb serial serial refl) (page_is q)) ∙ or_true (has_page pages serial q))

still_found : (pages more : List PageOf) (serial : ℕ) (q : PageId) → has_page pages serial q ≡ true → has_page (pages ++ more) serial q ≡ true
still_found pages more serial q is =
    any_append (λ (t : PageOf). (t.serial == serial) && is_page t.page q) pages more ∙ ap (λ b. b || has_page more serial q) is

covered_found : (serial object : ℕ) (ns : List ℕ) (n : ℕ) → is_among ns n ≡ true →
    has_page (map (λ k. record { serial = serial; page = page object k }) ns) serial (page object n) ≡ true
covered_found serial object [] n is = cc
covered_found serial object (k ∷ ns) n is = step (k == n) refl is (covered_found serial object ns n)
  where
    step : (b : Bool) → (k == n) ≡ b → b || is_among ns n ≡ true →
        (is_among ns n ≡ true → has_page (map (λ k. record { serial = serial; page = page object k }) ns) serial (page object n) ≡ true) →
        has_page (map (λ k. record { serial = serial; page = page object k }) (k ∷ ns)) serial (page object n) ≡ true
    step true here is later =
        ap (λ b. b || has_page (map (λ k. record { serial = serial; page = page object k }) ns) serial (page object n))
        (and_true _ _ (eq-eqb serial serial refl) (and_true _ _ (eq-eqb object object refl) here))
    step false here is later =
        ap (λ b. ((serial == serial) && is_page (page object k) (page object n)) || b) (later is) ∙ or_true ((serial == serial) && is_page (page object k) (page object n))

pages_more : (ps : List Mapped) (p : Mapped) → map (λ (q : Mapped). q.of) (ps ++ p ∷ []) ≡ map (λ (q : Mapped). q.of) ps ++ p.of ∷ []
pages_more [] p = refl
pages_more (q ∷ ps) p = ap (λ xs. q.of ∷ xs) (pages_more ps p)

-- A residence of the view's with this serial number is this one.
same_module : (laws : TouchLaws) (lib : Library) (failing : Failing) (contents : Held) (v : Holding) (k : List Entry) (r : Residence) (m : ℕ) (s : Fresh) (o : Option Residence) →
    Legal lib failing contents k → attached_residence lib (state_after lib failing k) v.pid r.«module» ≡ Some r →
    attached_residence lib (state_after lib failing k) v.pid m ≡ o → option_map fresh_of o ≡ Some s → s.serial ≡ r.serial → m ≡ r.«module»
same_module laws lib failing contents v k r m s None legal there is seen serial = cc
same_module laws lib failing contents v k r m s (Some a) legal there is seen serial =
    let e : Eager = state_after lib failing k in
    let fresh : fresh_of a ≡ s = same_Some _ _ seen in
    let one : a ≡ r =
    laws.serials lib failing contents k m r.«module» a r legal (residence_is lib e v.pid m a is) (residence_is lib e v.pid r.«module» r there) (ap (λ (f : Fresh). f.serial) fresh ∙ serial)
    in
    sym (attached_is lib e v.pid m a is).1 ∙ ap (λ (x : Residence). x.«module») one

-- a page more, which is a private one or had its fault
with_page : (laws : TouchLaws) (lib : Library) (failing : Failing) (contents : Held) (v : Holding) (h : List Entry) (at : Place) (ns : List ℕ) (n : ℕ) →
    is_among (pages_over at.offset at.len) n ≡ true → (mid : Mid lib failing contents v h at ns) → (it : Here lib (state_after lib failing mid.whole) v at) →
    is_own (class_of (object_at lib it.residence.«module» at.object)) || has_fault mid.whole (serial_seen lib v at) (page at.object n) ≡ true →
    Mid lib failing contents v h at (n ∷ ns)
with_page laws lib failing contents v h at ns n covers mid it fixed =
    let e : Eager = state_after lib failing mid.whole in
    let w : Holding = record v { mapped = mid.mapped; front = length mid.whole } in
    let r : Residence = it.residence in
    let q : PageId = page at.object n in
    let p : Mapped = page_seen lib contents e v.pid r q in
    let serial : ℕ = serial_seen lib v at in
    let old : List PageOf = map (λ (p : Mapped). p.of) mid.mapped in
    let grown : map (λ (p : Mapped). p.of) (mid.mapped ++ p ∷ []) ≡ old ++ record { serial = serial; page = q } ∷ [] =
    pages_more mid.mapped p ∙ ap (λ (s : ℕ). old ++ record { serial = s; page = q } ∷ []) it.serial
    in
    let was : WasFixed lib w mid.whole p = λ m s reached same apart.
    let module_is : m ≡ r.«module» =
    same_module laws lib failing contents v mid.whole r m s (attached_residence lib e v.pid m) mid.legal it.there refl (sym (mid.stands.view.residences m) ∙ reached) same
    in
    let shared : is_own (class_of (object_at lib r.«module» at.object)) ≡ false = subst (λ k. is_own (class_of (object_at lib k at.object)) ≡ false) module_is apart in
    subst (λ s. has_fault mid.whole s q ≡ true) (sym it.serial) (ap (λ b. b || has_fault mid.whole serial q) (sym shared) ∙ fixed)
    in
    record {
      mapped = mid.mapped ++ p ∷ [];
      whole = mid.whole;
      more = mid.more;
      is = mid.is;
      legal = mid.legal;
      stands = laws.mapped lib failing contents w mid.whole p (page_is_seen lib contents e v.pid r q it.there) was mid.stands;
      own = mid.own;
      faults = mid.faults;
      news = mid.news ++ record { serial = serial; page = q } ∷ [];
      pages =
          grown ∙ (ap (λ (l : List PageOf). l ++ record { serial = serial; page = q } ∷ []) mid.pages
          ∙ append_assoc (mapped_pages v) mid.news (record { serial = serial; page = q } ∷ []));
      of_place =
          all_joined (λ (t : PageOf). has_page (pages_at serial at) t.serial t.page ≡ true) mid.news (record { serial = serial; page = q } ∷ []) mid.of_place
          (covered_found serial at.object (pages_over at.offset at.len) n covers, tt);
      all =
          and_true _ _ (ap (λ (l : List PageOf). has_page l serial q) grown ∙ found_last old serial q)
          (each_more (λ k. has_page old serial (page at.object k)) (λ k. has_page (map (λ (p : Mapped). p.of) (mid.mapped ++ p ∷ [])) serial (page at.object k))
          (λ k is. ap (λ (l : List PageOf). has_page l serial (page at.object k)) grown ∙ still_found old (record { serial = serial; page = q } ∷ []) serial (page at.object k) is) ns mid.all);
    }

may_fault_here : (lib : Library) (e : Eager) (v : Holding) (at : Place) (n : ℕ) → (it : Here lib e v at) → is_among (pages_over at.offset at.len) n ≡ true →
    is_own (class_of (object_at lib it.residence.«module» at.object)) ≡ false →
    may_ask lib e v.pid (fault (serial_seen lib v at) it.residence.«module» (page at.object n)) ≡ true
unfolding may_ask
may_fault_here lib e v at n it covers shared =
    let m : ℕ = it.residence.«module» in
    let attached : is_attached lib e v.pid (serial_seen lib v at) m ≡ true =
    ap (is_serial (serial_seen lib v at)) it.there ∙ eq-eqb it.residence.serial (serial_seen lib v at) it.serial
    in
    let span : is_none (span_refusal lib touch m at.object (n * PAGE_SIZE) 1) ≡ true = ap is_none (page_span lib m at.object at.offset at.len n it.span covers) in
    and_true _ _ (and_true _ _ (ap not it.goes) (and_true _ _ attached span)) (ap not shared)

has_it : (k : List Entry) (v : Holding) (serial m : ℕ) (q : PageId) → has_fault (k ++ record { pid = v.pid; deed = deeds.Fault serial m q } ∷ []) serial q ≡ true
unfolding has_fault
has_it k v serial m q =
    any_append (λ (x : Entry). is_fault_of serial q x.deed) k (record { pid = v.pid; deed = deeds.Fault serial m q } ∷ [])
    ∙ (ap (λ b. list_any (λ (x : Entry). is_fault_of serial q x.deed) k || (b || false)) (and_true _ _ (eq-eqb serial serial refl) (page_is q))
    ∙ or_true (list_any (λ (x : Entry). is_fault_of serial q x.deed) k))

-- a fault more
with_fault : (laws : TouchLaws) (lib : Library) (failing : Failing) (contents : Held) (v : Holding) (h : List Entry) (at : Place) (ns : List ℕ) (n : ℕ) →
    is_among pids v.pid ≡ true → view_refusal lib v (commands.Touch at) ≡ None → is_among (pages_over at.offset at.len) n ≡ true →
    (mid : Mid lib failing contents v h at ns) → (it : Here lib (state_after lib failing mid.whole) v at) →
    is_own (class_of (object_at lib it.residence.«module» at.object)) ≡ false → has_fault mid.whole (serial_seen lib v at) (page at.object n) ≡ false →
    has_page (map (λ (p : Mapped). p.of) mid.mapped) (serial_seen lib v at) (page at.object n) ≡ false → Mid lib failing contents v h at (n ∷ ns)
unfolding deed_of
with_fault laws lib failing contents v h at ns n process fine covers mid it shared first unmapped =
    let e : Eager = state_after lib failing mid.whole in
    let m : ℕ = it.residence.«module» in
    let q : PageId = page at.object n in
    let serial : ℕ = serial_seen lib v at in
    let x : Entry = record { pid = v.pid; deed = deeds.Fault serial m q } in
    let follows : Follows lib failing contents mid.whole x = record {
      process = process;
      may = may_fault_here lib e v at n it covers shared;
      done = refl;
      first = ap not first;
    }
    in
    let whole : List Entry = mid.whole ++ x ∷ [] in
    let w : Holding = record v { mapped = mid.mapped; front = length mid.whole } in
    let apart : has_page (mapped_pages v) serial q ≡ false =
    (or_parts _ (has_page mid.news serial q)
    (sym (any_append (λ (t : PageOf). (t.serial == serial) && is_page t.page q) (mapped_pages v) mid.news) ∙ (ap (λ (l : List PageOf). has_page l serial q) (sym mid.pages) ∙ unmapped))).0
    in
    let next : Mid lib failing contents v h at ns = record {
      mapped = mid.mapped;
      whole = whole;
      more = mid.more ++ x ∷ [];
      is = ap (λ (l : List Entry). l ++ x ∷ []) mid.is ∙ append_assoc h mid.more (x ∷ []);
      legal = laws.legal lib failing contents mid.whole x mid.legal follows;
      stands = laws.quiet lib failing contents w mid.whole x refl tt mid.stands;
      own = all_joined (λ (y : Entry). y.pid ≡ v.pid) mid.more (x ∷ []) mid.own (refl, tt);
      faults =
          all_joined (λ (y : Entry). (v.pid == y.pid) ≡ true → IsFaultOfPlace lib v at y.deed) mid.more (x ∷ []) mid.faults
          ((λ _. record { «module» = m; page_is = q; is = refl; object = refl; covered = covers; unmapped = apart }), tt);
      news = mid.news;
      pages = mid.pages;
      of_place = mid.of_place;
      all = mid.all;
    }
    in
    let there = here lib failing contents v at mid.mapped whole next.stands fine in
    with_page laws lib failing contents v h at ns n covers next there
    (ap (λ b. is_own (class_of (object_at lib there.residence.«module» at.object)) || b) (has_it mid.whole v serial m q)
    ∙ or_true (is_own (class_of (object_at lib there.residence.«module» at.object))))

one_more : (laws : TouchLaws) (lib : Library) (failing : Failing) (contents : Held) (v : Holding) (h : List Entry) (at : Place) (ns : List ℕ) (n : ℕ) →
    is_among pids v.pid ≡ true → view_refusal lib v (commands.Touch at) ≡ None → is_among (pages_over at.offset at.len) n ≡ true →
    Mid lib failing contents v h at ns → Mid lib failing contents v h at (n ∷ ns)
one_more laws lib failing contents v h at ns n process fine covers mid =
    seen_as (has_page (map (λ (p : Mapped). p.of) mid.mapped) (serial_seen lib v at) (page at.object n)) refl (here lib failing contents v at mid.mapped mid.whole mid.stands fine)
  where
    seen_as : (b : Bool) → has_page (map (λ (p : Mapped). p.of) mid.mapped) (serial_seen lib v at) (page at.object n) ≡ b → Here lib (state_after lib failing mid.whole) v at →
        Mid lib failing contents v h at (n ∷ ns)
    seen_as true is it = record {
      mapped = mid.mapped;
      whole = mid.whole;
      more = mid.more;
      is = mid.is;
      legal = mid.legal;
      stands = mid.stands;
      own = mid.own;
      faults = mid.faults;
      news = mid.news;
      pages = mid.pages;
      of_place = mid.of_place;
      all = and_true _ _ is mid.all;
    }
    seen_as false is it = fixed (is_own (class_of (object_at lib it.residence.«module» at.object))) refl (has_fault mid.whole (serial_seen lib v at) (page at.object n)) refl
      where
        fixed : (c : Bool) → is_own (class_of (object_at lib it.residence.«module» at.object)) ≡ c → (f : Bool) →
            has_fault mid.whole (serial_seen lib v at) (page at.object n) ≡ f → Mid lib failing contents v h at (n ∷ ns)
        fixed true own f first = with_page laws lib failing contents v h at ns n covers mid it (ap (λ b. b || has_fault mid.whole (serial_seen lib v at) (page at.object n)) own)
        fixed false own true first =
            with_page laws lib failing contents v h at ns n covers mid it
            (ap (λ b. is_own (class_of (object_at lib it.residence.«module» at.object)) || b) first ∙ or_true (is_own (class_of (object_at lib it.residence.«module» at.object))))
        fixed false own false first = with_fault laws lib failing contents v h at ns n process fine covers mid it own first is

-- ---- all of it

among_more : (k : ℕ) (all : List ℕ) (ns : List ℕ) → AllByRecursion (λ n. is_among all n ≡ true) ns → AllByRecursion (λ n. is_among (k ∷ all) n ≡ true) ns
among_more k all [] h = tt
among_more k all (n ∷ ns) h = (ap (λ b. (k == n) || b) h.0 ∙ or_true (k == n), among_more k all ns h.1)

all_among : (ns : List ℕ) → AllByRecursion (λ n. is_among ns n ≡ true) ns
all_among [] = tt
all_among (n ∷ ns) = (ap (λ b. b || is_among ns n) (eq-eqb n n refl), among_more n ns ns (all_among ns))

all_pages : (laws : TouchLaws) (lib : Library) (failing : Failing) (contents : Held) (v : Holding) (h : List Entry) (lines : List Line) (done : List Command) (at : Place) (ns : List ℕ) →
    AllByRecursion (λ n. is_among (pages_over at.offset at.len) n ≡ true) ns → view_refusal lib v (commands.Touch at) ≡ None → Progress lib failing contents v h lines done →
    Mid lib failing contents v h at ns
all_pages laws lib failing contents v h lines done at [] covers fine p = record {
  mapped = v.mapped;
  whole = h;
  more = [];
  is = sym (append-nil h);
  legal = p.legal;
  stands = subst (λ n. StandsFor lib failing contents (record v { front = n }) h) p.stands.front p.stands;
  own = tt;
  faults = tt;
  news = [];
  pages = sym (append-nil (mapped_pages v));
  of_place = tt;
  all = refl;
}
all_pages laws lib failing contents v h lines done at (n ∷ ns) covers fine p =
    one_more laws lib failing contents v h at ns n p.process fine covers.0 (all_pages laws lib failing contents v h lines done at ns covers.1 fine p)

pub by_touch : (laws : TouchLaws) (lib : Library) (failing : Failing) (contents : Held) (v : Holding) (h : List Entry) (lines : List Line) (done : List Command) (at : Place) →
    view_refusal lib v (commands.Touch at) ≡ None → Progress lib failing contents v h lines done → Next lib failing contents v h done (commands.Touch at)
by_touch laws lib failing contents v h lines done at fine p =
    let mid = all_pages laws lib failing contents v h lines done at (pages_over at.offset at.len) (all_among (pages_over at.offset at.len)) fine p in
    let w : Holding = record v { mapped = mid.mapped; front = length mid.whole } in
    let touched : Touches lib v w h mid.whole at = record {
      more = mid.more;
      shown = mid.is;
      faults = mid.faults;
      accepted = fine;
      view = refl;
      news = mid.news;
      mapped = mid.pages;
      of_place = mid.of_place;
      all = mid.all;
    }
    in
    record {
      view = w;
      same = refl;
      whole = mid.whole;
      more = mid.more;
      is = mid.is;
      own = mid.own;
      lines = lines ++ line_at mid.whole (commands.Touch at) replies.Fine ∷ [];
      progress = laws.goes lib failing contents v w h mid.whole lines done at mid.legal mid.stands touched p;
    }
