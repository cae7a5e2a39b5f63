-- The residence and the page of a fault that a process may make.
use Rattle.std.proofs.Common.{◌≡◌, ℕ, ◌+◌, ◌-◌, ◌*◌, ◌/◌, ◌^◌, zero, suc, ◌<◌, ◌≤◌, ◌==◌, ◌&&◌, ◌||◌, not, Bool, true, false, if◌then◌else◌, List, [], ◌∷◌, map, find, length, get_or, Option, Some, None, option_map, refl, sym, ◌∙◌, ap, subst, eqb-true, eq-eqb, ne_eqb, true≢false, arith}
use Rattle.std.specs.Prelude.{nat_lt, nat_le}
use Rattle.std.specs.List.{AllByRecursion, range_with_len}
use Rattle.std.proofs.lemmas.Bool.Decides.{nat_tests}
use Rattle.std.proofs.lemmas.Bool.{not-true}
use Rattle.std.proofs.lemmas.List.{get_or_default}
use Rattle.lx_types.specs.Object.{class_of}
use Rattle.lx_types.specs.Parts.{object_of}
use Rattle.lx_types.specs.Sound.{IsNumberOf}
use Rattle.lx_types.specs.declared.object.PageId.{PageId}
use Rattle.lx_types.specs.declared.object.TheConstants.{PAGE_SIZE}
use Rattle.lx_model.specs.Library.{module_of}
use Rattle.page_fix.specs.Fixable.{is_fixable, IsFixable}
use Rattle.page_fix.proofs.Fixables.{fixable_so}
use Rattle.page_fix.proofs.Pages.{same_page}
use Rattle.page_frames.specs.Residences.{ResidenceFor}
use Rattle.load_model.specs.declared.commands.Ask.TheVariants.{Fault as fault}
use Rattle.load_model.specs.declared.commands.Command.TheVariants as commands
use Rattle.load_model.specs.declared.commands.Place.{Place}
use Rattle.load_model.specs.declared.commands.Refusal.{Refusal}
use Rattle.load_model.specs.declared.commands.Refusal.TheVariants.{Ended, Range, Invalid}
use Rattle.load_model.specs.declared.deeds.Entry.{Entry}
use Rattle.load_model.specs.declared.deeds.Fresh.{Fresh}
use Rattle.load_model.specs.Modules.{Library, fixed_bytes, number_of, object_at, objects_of}
use Rattle.load_model.specs.State.{Residence, residence_of, attached_residence, serial_of, is_among}
use Rattle.load_model.specs.Entering.{residence_from}
use Rattle.load_model.specs.Memory.{is_page, pages_over}
use Rattle.load_model.specs.Refusals.{touch, when, ◌orelse◌, covers_invalid, span_refusal, residence_refusal, residence_named}
use Rattle.load_model.specs.Asks.{is_own, is_serial, is_attached, may_fault, may_use, may_ask}
use Rattle.load_model.specs.Histories.{has_fault}
use Rattle.load_model.specs.Serials.{Rise}
use Rattle.load_model.specs.ResidenceBases.{ResidentsFit}
use Rattle.load_model.specs.TouchedPages.{has_page}
use Rattle.load_model.specs.Views.{Mapped, Holding, mapped_pages, reached_of, fresh_of, WasFixed}
use Rattle.load_model.specs.ViewAnswers.{seen_process, reached_if, reached_named, view_refusal}
use Rattle.load_model.proofs.Bools.{and_left, and_right}
use Rattle.load_model.proofs.Bytes.{attached_is, named_is}
use Rattle.load_model.proofs.ViewReplies.{residence_is, attached_named_is}
use Rattle.load_model.proofs.Serials.{serials_rise}
use Rattle.load_model.proofs.SerialsOwn.{serials_are_own}
use Rattle.load_core.specs.BoardState.{BoardState, state_of, IsLegal}
use Rattle.process_view.specs.Answering.{IsReachedNamed}
use Rattle.process_view.specs.ProcessViews.{ProcessView, fresh_shown}
use Rattle.process_view.specs.Deeds.{CanMap, IsSharedPage}
use Rattle.process_view.proofs.Shown.{shown_at}
use Rattle.play_laws.proofs.Attached.{faults_by_pages}
use Rattle.check_play.specs.Standing.{StandsShown}
use Rattle.check_play.specs.FaultTouches.{covers, HasObject}

-- ---- pages that a place covers

among_span : (a n k : ℕ) → is_among (range_with_len a n) k ≡ nat_le a k && nat_lt k (a + n)
among_span a zero k = grind (arith, nat_tests)
among_span a (suc n) k = ap (λ b. (a == k) || b) (among_span (a + 1) n k) ∙ one_more a n k
  where
    one_more : (a n k : ℕ) → (a == k) || (nat_le (a + 1) k && nat_lt k (a + 1 + n)) ≡ nat_le a k && nat_lt k (a + suc n)
    one_more a n k = grind (arith, nat_tests)

pub covers_apart : (at : Place) (p : PageId) → (at.object ≡ p.object → ⊥) → false ≡ covers at p
covers_apart at p apart = sym (ap (λ b. b && is_among (pages_over at.offset at.len) p.page) (ne_eqb at.object p.object apart))

-- by the first page that is covered, and the one after the last
pub covers_by : (at : Place) (p : PageId) (first end : ℕ) (b : Bool) → at.object ≡ p.object → range_with_len first (end - first) ≡ pages_over at.offset at.len → first ≤ end → nat_le first p.page ≡ b → b && nat_lt p.page end ≡ covers at p
covers_by at p first end b same pages order is =
    let there : (at.object == p.object) ≡ true = eq-eqb at.object p.object same in
    let ends : first + (end - first) ≡ end = omega (arith, order) in
    sym
    (ap (λ c. c && is_among (pages_over at.offset at.len) p.page) there
    ∙ (ap (λ (ns : List ℕ). is_among ns p.page) (sym pages)
    ∙ (among_span first (end - first) p.page
    ∙ (ap (λ (n : ℕ). nat_le first p.page && nat_lt p.page n) ends ∙ ap (λ c. c && nat_lt p.page end) is))))

-- ---- the touch of no bytes

object_tests : (object count size : ℕ) → 1 ≤ object → object ≤ count → (object == 0 || nat_lt count object || nat_lt size 0) ≡ false
object_tests object count size low high = grind (arith, nat_tests)

no_bytes : (lib : Library) (m object : ℕ) → IsNumberOf object (length (objects_of lib m)) → span_refusal lib touch m object 0 0 ≡ None
unfolding span_refusal
no_bytes lib m object there =
    ap (λ b. when b Range orelse None orelse when (covers_invalid lib m object 0 0) Invalid) (object_tests object (length (objects_of lib m)) (object_at lib m object).size there.0 there.1)

pub touch_nothing : (v : ProcessView) (name copy : List ℕ) (object : ℕ) → v.holding.ended ≡ false → HasObject v name object → copy ≡ name →
    view_refusal v.library v.holding (commands.Touch (record { «module» = copy; object = object; offset = 0; len = 0 })) ≡ None
unfolding view_refusal
touch_nothing v name copy object going has same =
    ap (λ b. when b Ended orelse residence_refusal v.library (seen_process v.holding) touch (record { «module» = copy; object = object; offset = 0; len = 0 }) (reached_named v.library v.holding copy)) going
    ∙ (ap (λ o. residence_refusal v.library (seen_process v.holding) touch (record { «module» = copy; object = object; offset = 0; len = 0 }) o) (ap (reached_named v.library v.holding) same ∙ has.reached)
    ∙ ap (λ o. o orelse None) (no_bytes v.library has.residence.«module» object has.there))

pub not_refused : (o : Option Refusal) (refusal : Refusal) → o ≡ None → o ≡ Some refusal → ⊥
not_refused o refusal none some = (let both : None ≡ Some refusal = sym none ∙ some in absurd cc)

-- ---- serial numbers

-- a residence that is found has a number above the low one
found_above : (f : Residence → Bool) (low high : ℕ) (rs : List Residence) (r : Residence) → Rise low (map (λ x. x.serial) rs) high → find f rs ≡ Some r → low < r.serial
found_above f low high [] r rise is = cc
found_above f low high (x ∷ rs) r rise is = step (f x) is (found_above f x.serial high rs r rise.1)
  where
    step : (b : Bool) → (if b then Some x else find f rs) ≡ Some r → (find f rs ≡ Some r → x.serial < r.serial) → low < r.serial
    step true e later = (let same : x ≡ r = cc in let first : low < x.serial = rise.0 in subst (λ (y : Residence). low < y.serial) same first)
    step false e later = (let above : x.serial < r.serial = later e in let first : low < x.serial = rise.0 in omega (arith, above, first))

serial_counts : (b : BoardState) (m : ℕ) (r : Residence) → IsLegal b → residence_of (state_of b) m ≡ Some r → 0 < r.serial
unfolding residence_of
serial_counts b m r legal is =
    found_above (λ (x : Residence). x.«module» == m) 0 (state_of b).serials (state_of b).residences r (serials_rise b.library b.failing (fixed_bytes b.library) b.history legal) is

-- ---- pages that are mapped had their fault

had_fault : (lib : Library) (w : Holding) (h : List Entry) (m serial : ℕ) (p : PageId) (s : Fresh) → reached_of w m ≡ Some s → s.serial ≡ serial → is_own (class_of (object_at lib m p.object)) ≡ false →
    (ms : List Mapped) → AllByRecursion (WasFixed lib w h) ms → has_page (map (λ (x : Mapped). x.of) ms) serial p ≡ true → has_fault h serial p ≡ true
had_fault lib w h m serial p s reached same own [] all has = absurd (true≢false (sym has))
had_fault lib w h m serial p s reached same own (x ∷ ms) all has =
    step ((x.of.serial == serial) && is_page x.of.page p) refl has (had_fault lib w h m serial p s reached same own ms all.1)
  where
    step : (b : Bool) → ((x.of.serial == serial) && is_page x.of.page p) ≡ b → b || has_page (map (λ (y : Mapped). y.of) ms) serial p ≡ true →
        (has_page (map (λ (y : Mapped). y.of) ms) serial p ≡ true → has_fault h serial p ≡ true) → has_fault h serial p ≡ true
    step true is has later =
        let number : x.of.serial ≡ serial = eqb-true x.of.serial serial (and_left (x.of.serial == serial) (is_page x.of.page p) is) in
        let page : x.of.page ≡ p = same_page x.of.page p (and_right (x.of.serial == serial) (is_page x.of.page p) is) in
        sym (ap (λ (n : ℕ). has_fault h n x.of.page) number ∙ ap (has_fault h serial) page)
        ∙ all.0 m s reached (same ∙ sym number) (ap (λ (q : PageId). is_own (class_of (object_at lib m q.object))) page ∙ own)
    step false is has later = later has

false_by : (b : Bool) → (b ≡ true → ⊥) → b ≡ false
false_by true never = absurd (never refl)
false_by false never = refl

some_residence : (serial : ℕ) (o : Option Residence) → is_serial serial o ≡ true → (r : Residence) × (o ≡ Some r) × (r.serial ≡ serial)
some_residence serial None is = absurd (true≢false (sym is))
some_residence serial (Some r) is = (r, refl, eqb-true r.serial serial is)

few_pages : (page size : ℕ) → page < (size + 4095) / 4096 → size ≤ 268435456 → page < 1048576
few_pages page size below small = omega (arith, below, small)

-- ---- a fault that may be made

module _ (b : BoardState) (v : ProcessView) (serial m : ℕ) (p : PageId) (legal : IsLegal b) (shown : StandsShown b v) (may : may_ask b.library (state_of b) v.holding.pid (fault serial m p) ≡ true) where
  abbrev going_test : Bool
  going_test = not ((state_of b).processes v.holding.pid).ended

  abbrev attached_test : Bool
  attached_test = is_attached b.library (state_of b) v.holding.pid serial m

  by_parts : going_test && (attached_test && is_fixable (module_of b.library m) p) ≡ true
  by_parts = sym (faults_by_pages b.library (state_of b) v.holding.pid serial m p) ∙ may

  in_residence : attached_test && is_fixable (module_of b.library m) p ≡ true
  in_residence = and_right going_test (attached_test && is_fixable (module_of b.library m) p) by_parts

  pub going : v.holding.ended ≡ false
  going = shown.stands.view.ended ∙ not-true _ (and_left going_test (attached_test && is_fixable (module_of b.library m) p) by_parts)

  pub fixable : is_fixable (module_of b.library m) p ≡ true
  fixable = and_right attached_test (is_fixable (module_of b.library m) p) in_residence

  fixable_parts : IsFixable (module_of b.library m) p
  fixable_parts = fixable_so (module_of b.library m) p fixable

  pub shared : is_own (class_of (object_at b.library m p.object)) ≡ false
  unfolding may_ask
  shared = not-true _ (and_right (going_test && may_use b.library (state_of b) v.holding.pid touch serial m p.object (p.page * PAGE_SIZE) 1) (may_fault b.library m p) may)

  -- the residence
  pub record IsAttachedHere : Type 0 where
    pub residence : Residence
    pub there : attached_residence b.library (state_of b) v.holding.pid m ≡ Some residence
    pub serial_is : residence.serial ≡ serial
    pub module_is : residence.«module» ≡ m

  pub attached : IsAttachedHere
  attached =
      let it = some_residence serial (attached_residence b.library (state_of b) v.holding.pid m) (and_left attached_test (is_fixable (module_of b.library m) p) in_residence) in
      record { residence = it.0; there = it.1; serial_is = it.2; module_is = (attached_is b.library (state_of b) v.holding.pid m it.0 it.1).1 }

  -- its module has few pages
  small : ResidentsFit → p.page < 2 ^ 20
  unfolding object_at objects_of
  small fit =
      few_pages p.page (object_of (module_of b.library m) p.object).size fixable_parts.page
      (fit b.library b.failing (fixed_bytes b.library) b.history m p.object attached.residence legal (residence_is b.library (state_of b) v.holding.pid m attached.residence attached.there) fixable_parts.object).1

  reached : reached_of v.holding m ≡ Some (fresh_of attached.residence)
  reached = shown.stands.view.residences m ∙ ap (option_map fresh_of) attached.there

  pub unmapped : has_fault b.history serial p ≡ false → has_page (mapped_pages v.holding) serial p ≡ false
  unmapped first =
      false_by (has_page (mapped_pages v.holding) serial p)
      (λ has. true≢false
      (sym (had_fault b.library (record v.holding { front = length b.history }) b.history m serial p (fresh_of attached.residence) reached attached.serial_is shared v.holding.mapped shown.stands.faults has)
      ∙ first))

  -- ---- the residence by a name

  pub named_module : (name : List ℕ) → serial_of (residence_named b.library (state_of b) v.holding.pid name) ≡ serial → number_of b.library name ≡ Some m
  named_module name is = by_residence (residence_named b.library (state_of b) v.holding.pid name) refl is
    where
      here : residence_of (state_of b) m ≡ Some attached.residence
      here = residence_is b.library (state_of b) v.holding.pid m attached.residence attached.there

      by_residence : (o : Option Residence) → residence_named b.library (state_of b) v.holding.pid name ≡ o → serial_of o ≡ serial → number_of b.library name ≡ Some m
      by_residence None e none =
          absurd (let counts : 0 < attached.residence.serial = serial_counts b m attached.residence legal here in let same : attached.residence.serial ≡ serial = attached.serial_is in let zero_is : 0 ≡ serial = none in omega (arith, counts, same, zero_is))
      by_residence (Some r) e same =
          let there : residence_of (state_of b) r.«module» ≡ Some r = residence_is b.library (state_of b) v.holding.pid r.«module» r (attached_named_is b.library (state_of b) v.holding.pid name r e) in
          let one : r ≡ attached.residence =
          serials_are_own b.library b.failing (fixed_bytes b.library) b.history r.«module» m r attached.residence legal there here (same ∙ sym attached.serial_is) in
          (named_is b.library (state_of b) v.holding.pid name r e).1 ∙ ap Some (ap (λ (x : Residence). x.«module») one ∙ attached.module_is)

  module _ (name : List ℕ) (number : number_of b.library name ≡ Some m) where
    named_reached : reached_named v.library v.holding name ≡ Some (residence_from (fresh_of attached.residence))
    named_reached =
        ap (λ (lib : Library). reached_named lib v.holding name) shown.library
        ∙ (ap (reached_if v.holding) number ∙ ap (option_map residence_from) reached)

    pub has_object : HasObject v name p.object
    unfolding objects_of
    has_object = record {
      residence = residence_from (fresh_of attached.residence);
      reached = named_reached;
      there = subst (λ (k : ℕ). IsNumberOf p.object (length (module_of v.library k).objects)) (sym attached.module_is)
          (subst (λ (lib : Library). IsNumberOf p.object (length (module_of lib m).objects)) (sym shown.library) fixable_parts.object);
    }

    module _ (k : ℕ) (named : IsReachedNamed v name k) where
      abbrev at_number : ResidenceFor → ResidenceFor
      at_number d = get_or v.residences k d

      pub number_module : (d : ResidenceFor) → (at_number d).«module» ≡ m
      number_module d =
          let both : Some (at_number d).«module» ≡ Some m = sym (named.named d) ∙ (ap (λ (lib : Library). number_of lib name) shown.library ∙ number) in
          cc

      pub number_serial : (d : ResidenceFor) → (at_number d).serial ≡ serial
      number_serial d =
          let both : Some (residence_from (fresh_shown (at_number d))) ≡ Some (residence_from (fresh_of attached.residence)) = sym (named.residence d) ∙ named_reached in
          ap serial_of both ∙ attached.serial_is

      pub shared_page : (d : ResidenceFor) → IsSharedPage v (at_number d) p
      shared_page d =
          ap (λ (lib : Library). is_fixable (module_of lib (at_number d).«module») p) shown.library
          ∙ (ap (λ (n : ℕ). is_fixable (module_of b.library n) p) (number_module d) ∙ fixable)

      pub can_map : ResidentsFit → has_fault b.history serial p ≡ false → (d : ResidenceFor) → CanMap v (at_number d) p
      can_map fit first d =
          let parts = fixable_so (module_of v.library (at_number d).«module») p (shared_page d) in
          record {
            object = parts.object;
            page = parts.page;
            small = small fit;
            apart = ap (λ (n : ℕ). has_page (mapped_pages v.holding) n p) (number_serial d) ∙ unmapped first;
            library = ap (λ (q : ResidenceFor). q.library)
                (shown_at b.library (state_of b) v.residences k (at_number d) shown.shown named.within (get_or_default v.residences k d (at_number d) named.within))
                ∙ sym shown.library;
          }
