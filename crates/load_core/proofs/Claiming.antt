-- What the claim of a page comes to.
use Rattle.std.proofs.Common.{◌≡◌, ℕ, ◌+◌, ◌-◌, ◌*◌, ◌/◌, ◌<◌, ◌≤◌, ◌==◌, ◌&&◌, ◌||◌, Bool, true, false, not, List, [], ◌∷◌, ◌++◌, filter, length, cond, set, slice_get, position, is_some, Option, Some, None, refl, sym, ◌∙◌, ap, subst, arith}
use Rattle.std.specs.List.{list_any, range_with_len}
use Rattle.std.proofs.Math.Seq.{map-set_same}
use Rattle.std.proofs.lemmas.Option.{get_or_from_slice_get}
use Rattle.std.proofs.lemmas.Bool.{eq-eqb, lt-ltb, le-leb, not_from_false, ne_eqb}
use Rattle.std.proofs.lemmas.List.Elements.{filter_agree}
use Rattle.lx_types.specs.Object.{class_of}
use Rattle.lx_types.specs.Parts.{page_at}
use Rattle.lx_types.specs.declared.object.Class.{Class}
use Rattle.lx_types.specs.declared.object.Class.TheVariants as classes
use Rattle.lx_types.specs.declared.object.PageId.{PageId}
use Rattle.lx_types.specs.declared.object.TheConstants.{PAGE_SIZE}
use Rattle.lx_types.specs.declared.parts.Parts.{Parts}
use Rattle.lx_model.specs.Library.{module_of}
use Rattle.lx_model.specs.ModuleBytes as bytes
use Rattle.page_fix.specs.Rights.{PageRights, PageRight}
use Rattle.page_fix.specs.Fixable.{is_page, has_shared_pages, is_page_of, is_fixable, fixable_pages}
use Rattle.page_fix.proofs.Pages.{same_page, filter_twice}
use Rattle.load_model.specs.declared.commands.Refusal.TheVariants.{Range, Invalid}
use Rattle.load_model.specs.declared.deeds.Deed.TheVariants.{Fault}
use Rattle.load_model.specs.declared.deeds.Entry.{Entry}
use Rattle.load_model.specs.Modules.{Library, fixed_bytes, is_invalid, objects_of, object_at}
use Rattle.load_model.specs.State.{Residence, Eager, pids, is_among}
use Rattle.load_model.specs.Memory.{page, pages_over}
use Rattle.load_model.specs.Refusals.{touch, when, class_refusal, span_refusal, is_outside, covers_invalid}
use Rattle.load_model.specs.declared.commands.Ask.TheVariants.{Fault as fault}
use Rattle.load_model.specs.Asks.{is_own, may_ask, deed_of, after_deed, is_attached}
use Rattle.load_model.specs.Histories.{has_fault}
use Rattle.load_model.proofs.Among.{any_filter, any_same, any_and}
use Rattle.load_model.proofs.Bools.{and_left, and_right, and_true, and_false, or_false}
use Rattle.load_model.proofs.Bytes.{right_none}
use Rattle.load_model.proofs.Holding.{when_none, Inside, span_inside}
use Rattle.load_model.specs.Alike.{BasesSeenStay}
use Rattle.load_model.specs.ProcessCounts.{ProcessCounts}
use Rattle.load_model.proofs.Serials.{serials_rise}
use Rattle.residence_table.specs.Residences.{residences, unwritten, unwritten_residences, has_serial}
use Rattle.load_core.specs.BoardState.{BoardState, state_of, MayAsk, entry_of, with_entry}
use Rattle.load_core.specs.Kept.{Keeps, IsCurrentRow, IsLaid, rights_left, shared_as, shown_by}
use Rattle.load_core.specs.Taken.{without_right}
use Rattle.load_core.specs.declared.residence_parts.ResidenceParts.{ResidenceParts}
use Rattle.load_core.proofs.Keeping.{Stands, IsNoFault, fault_or, all_both, current_same, shared_same, FollowsIn, after, all_standing, rising_kept, keeps_more}
use Rattle.load_core.proofs.FoundBySerial.{IsAsked, asked, asked_there, asked_nowhere, all_set, there_so}
use Rattle.std.proofs.lemmas.List.{set-get_or}
use Rattle.load_core.specs.Told.{IsGiven, IsTaken}
use Rattle.load_core.proofs.Using.{none_is, asked_follows}

-- ---- a page that may be claimed is one whose right there was

-- ---- the page may be fixed

one_page : (n : ℕ) → pages_over (n * PAGE_SIZE) 1 ≡ n ∷ []
one_page n = ap (λ k. range_with_len k ((n * PAGE_SIZE + 1 - 1) / PAGE_SIZE + 1 - k)) (quotient n) ∙ ap (range_with_len n) (one n)
  where
    quotient : (n : ℕ) → (n * 4096) / 4096 ≡ n
    quotient n = omega arith

    one : (n : ℕ) → (n * 4096 + 1 - 1) / 4096 + 1 - n ≡ 1
    one n = omega arith

shared_class : (c : Class) → not (is_own c) ≡ true → has_shared_pages c ≡ true
shared_class classes.Code h = refl
shared_class classes.Private h = cc
shared_class classes.Shared h = refl

there : (lib : Library) (m : ℕ) (p : PageId) → Inside lib m p.object (p.page * PAGE_SIZE) 1 → is_page_of (module_of lib m) p ≡ true
unfolding object_at objects_of
there lib m p inside =
    let low : 0 < p.object = inside.there.0 in
    let high : p.object ≤ length (objects_of lib m) = inside.there.1 in
    let end : p.page * 4096 + 1 ≤ (object_at lib m p.object).size = inside.end in
    let below : p.page < ((object_at lib m p.object).size + 4095) / 4096 = omega arith in
    and_true _ _ (and_true _ _ (lt-ltb 0 p.object low) (le-leb p.object (length (objects_of lib m)) high)) (lt-ltb p.page (((object_at lib m p.object).size + 4095) / 4096) below)

valid : (lib : Library) (m : ℕ) (p : PageId) → span_refusal lib touch m p.object (p.page * PAGE_SIZE) 1 ≡ None → not (bytes.is_invalid (page_at (module_of lib m) p).kind) ≡ true
unfolding span_refusal is_invalid
valid lib m p span =
    let covers : covers_invalid lib m p.object (p.page * PAGE_SIZE) 1 ≡ false =
    when_none (covers_invalid lib m p.object (p.page * PAGE_SIZE) 1) Invalid
    (right_none (class_refusal touch (class_of (object_at lib m p.object))) (when (covers_invalid lib m p.object (p.page * PAGE_SIZE) 1) Invalid)
    (right_none (when (is_outside lib m p.object (p.page * PAGE_SIZE) 1) Range) _ span))
    in
    let alone : is_invalid lib m p || false ≡ false = ap (list_any (λ n. is_invalid lib m (page p.object n))) (sym (one_page p.page)) ∙ covers in
    not_from_false _ (sym (or_false (is_invalid lib m p)) ∙ alone)

pub fixable_asked : (lib : Library) (e : Eager) (pid serial m : ℕ) (p : PageId) → may_ask lib e pid (fault serial m p) ≡ true → is_fixable (module_of lib m) p ≡ true
unfolding may_ask is_fixable object_at
fixable_asked lib e pid serial m p may =
    let used = and_right _ _ (and_left _ _ may) in
    let span : span_refusal lib touch m p.object (p.page * PAGE_SIZE) 1 ≡ None = none_is _ (and_right _ _ used) in
    let shared : has_shared_pages (class_of (object_at lib m p.object)) ≡ true = shared_class _ (and_right _ _ may) in
    and_true _ _ (and_true _ _ (there lib m p (span_inside lib touch m p.object (p.page * PAGE_SIZE) 1 span)) shared) (valid lib m p span)

pub attached_asked : (lib : Library) (e : Eager) (pid serial m : ℕ) (p : PageId) → may_ask lib e pid (fault serial m p) ≡ true → is_attached lib e pid serial m ≡ true
unfolding may_ask
attached_asked lib e pid serial m p may = and_left _ _ (and_right _ _ (and_left _ _ may))

-- ---- its right

-- the first of two tests that tell a page from others
page_and : (g : PageId → Bool) (p q : PageId) (b : Bool) → is_page p q ≡ b → g q && b ≡ b && g p
page_and g p q false is = and_false (g q)
page_and g p q true is = both (g q) (g p) (ap g (sym (same_page p q is)))
  where
    both : (a b : Bool) → a ≡ b → a && true ≡ b
    both true b e = e
    both false b e = e

-- the right of a page is left where the page has no fault
pub left_or_not : (b : BoardState) (r : Residence) (p : PageId) → list_any (is_page p) (rights_left b r).left ≡ list_any (is_page p) (fixable_pages (module_of b.library r.«module»)) && not (has_fault b.history r.serial p)
left_or_not b r p =
    any_filter (is_page p) (λ q. not (has_fault b.history r.serial q)) (fixable_pages (module_of b.library r.«module»))
    ∙ any_same (λ q. not (has_fault b.history r.serial q) && is_page p q) (λ q. is_page p q && not (has_fault b.history r.serial p))
    (λ q. page_and (λ t. not (has_fault b.history r.serial t)) p q (is_page p q) refl) (fixable_pages (module_of b.library r.«module»))
    ∙ any_and (is_page p) (not (has_fault b.history r.serial p)) (fixable_pages (module_of b.library r.«module»))

abbrev pub rights_without : PageId → PageRights → PageRights
rights_without p rights = record rights { left = filter (λ q. not (is_page p q)) rights.left }

abbrev pub fault_entry : ℕ → ℕ → ℕ → PageId → Entry
fault_entry pid serial m p = record { pid = pid; deed = Fault serial m p }

-- after the fault of a page all other rights are left
pub right_taken : (b : BoardState) (pid m : ℕ) (r : Residence) (p : PageId) → rights_without p (rights_left b r) ≡ rights_left (with_entry b (fault_entry pid r.serial m p)) r
right_taken b pid m r p =
    let R : List PageId → PageRights = λ left. record { serial = r.serial; left = left } in
    ap R
    (filter_twice (λ q. not (is_page p q)) (λ q. not (has_fault b.history r.serial q)) (fixable_pages (module_of b.library r.«module»))
    ∙ filter_agree _ (λ q. not (has_fault (b.history ++ fault_entry pid r.serial m p ∷ []) r.serial q)) (λ q. step q) (fixable_pages (module_of b.library r.«module»)))
  where
    negated : (a c own : Bool) → own ≡ true → not a && not c ≡ not (a || (own && c))
    negated true c own h = refl
    negated false c true h = refl
    negated false c false h = cc

    step : (q : PageId) → not (has_fault b.history r.serial q) && not (is_page p q) ≡ not (has_fault (b.history ++ fault_entry pid r.serial m p ∷ []) r.serial q)
    step q =
        negated (has_fault b.history r.serial q) (is_page p q) (r.serial == r.serial) (eq-eqb r.serial r.serial refl)
        ∙ ap not (sym (fault_or b.history (fault_entry pid r.serial m p) r.serial q))

-- where a right is not left, none is taken
pub none_taken : (p : PageId) (beside : ResidenceParts) → list_any (is_page p) beside.rights.left ≡ false → without_right p beside ≡ beside
none_taken p beside none =
    let B : List PageId → ResidenceParts = λ left. record beside { rights = record beside.rights { left = left } } in
    ap B (all_stay beside.rights.left none)
  where
    all_stay : (ps : List PageId) → list_any (is_page p) ps ≡ false → filter (λ q. not (is_page p q)) ps ≡ ps
    all_stay [] none = refl
    all_stay (q ∷ ps) none = step (is_page p q) none (all_stay ps)
      where
        step : (c : Bool) → c || list_any (is_page p) ps ≡ false → (list_any (is_page p) ps ≡ false → filter (λ t. not (is_page p t)) ps ≡ ps) →
            cond (not c) (q ∷ filter (λ t. not (is_page p t)) ps) (filter (λ t. not (is_page p t)) ps) ≡ q ∷ ps
        step true none later = cc
        step false none later = ap (λ ys. q ∷ ys) (later none)

-- ---- the claim

-- every right that a module's pages have is listed
abbrev pub AreListed : Type 0
AreListed = (m : Parts) (p : PageId) → list_any (is_page p) (fixable_pages m) ≡ is_fixable m p

-- A process may claim the page: this residence, which stands at this place, is that of the serial number, and the page's right
-- is left where the page had no fault.
pub record IsFaced (b : BoardState) (table : List (Residence × ResidenceParts)) (pid serial : ℕ) (p : PageId) (s : Residence × ResidenceParts) : Type 0 where
  pub numbered : s.0.serial ≡ serial
  pub of_module : (m : ℕ) → MayAsk b pid (fault serial m p) → s.0.«module» ≡ m
  pub right : s.1.rights.serial ≡ serial
  pub left : list_any (is_page p) s.1.rights.left ≡ not (has_fault b.history serial p)

asked_page : (b : BoardState) (all_counts : List ProcessCounts) (table : List (Residence × ResidenceParts)) (serials pid serial m : ℕ) (p : PageId) → Keeps b all_counts table serials → MayAsk b pid (fault serial m p) →
    IsAsked b.library (state_of b) table pid serial m
asked_page b all_counts table serials pid serial m p kept may =
    asked serials_rise b.library b.failing (fixed_bytes b.library) b.history table pid serial m kept.legal kept.residences_are (attached_asked b.library (state_of b) pid serial m p may)

pub place_found : (b : BoardState) (all_counts : List ProcessCounts) (table : List (Residence × ResidenceParts)) (serials pid serial m : ℕ) (p : PageId) → Keeps b all_counts table serials → MayAsk b pid (fault serial m p) →
    is_some (position (has_serial serial) table) ≡ true
place_found b all_counts table serials pid serial m p kept may = step (position (has_serial serial) table) refl
  where
    step : (o : Option ℕ) → position (has_serial serial) table ≡ o → is_some o ≡ true
    step (Some place) is = refl
    step None is = absurd (asked_nowhere b.library (state_of b) table pid serial m (asked_page b all_counts table serials pid serial m p kept may) is)

pub faced : AreListed → (b : BoardState) (all_counts : List ProcessCounts) (table : List (Residence × ResidenceParts)) (serials pid serial : ℕ) (p : PageId) (place : ℕ) (s : Residence × ResidenceParts) → Keeps b all_counts table serials →
    (m : ℕ) × MayAsk b pid (fault serial m p) → position (has_serial serial) table ≡ Some place → slice_get table place ≡ Some s → IsFaced b table pid serial p s
faced listed b all_counts table serials pid serial p place s kept may at there =
    let one = asked_page b all_counts table serials pid serial may.0 p kept may.1 in
    let same : s.0 ≡ unwritten one.residence = asked_there b.library (state_of b) table pid serial may.0 one place s at there in
    let numbered : s.0.serial ≡ serial = ap (λ (r : Residence). r.serial) same ∙ one.numbered in
    let current : IsCurrentRow b s = there_so (IsCurrentRow b) table place s kept.current there in
    let module_is : s.0.«module» ≡ may.0 = ap (λ (r : Residence). r.«module») same ∙ one.of_module in
    let may_fix : list_any (is_page p) (fixable_pages (module_of b.library s.0.«module»)) ≡ true =
    listed (module_of b.library s.0.«module») p ∙ ap (λ k. is_fixable (module_of b.library k) p) module_is ∙ fixable_asked b.library (state_of b) pid serial may.0 p may.1
    in
    record {
      numbered = numbered;
      of_module = λ m asks.
          let it = asked_page b all_counts table serials pid serial m p kept asks in
          ap (λ (r : Residence). r.«module») (asked_there b.library (state_of b) table pid serial m it place s at there) ∙ it.of_module;
      right = ap (λ (r : PageRights). r.serial) current.left ∙ numbered;
      left =
          ap (λ (r : PageRights). list_any (is_page p) r.left) current.left ∙ left_or_not b s.0 p
          ∙ ap (λ c. c && not (has_fault b.history s.0.serial p)) may_fix ∙ ap (λ n. not (has_fault b.history n p)) numbered;
    }

-- ---- the fault

other_fault : (pid serial m n : ℕ) (p : PageId) → (n == serial) ≡ false → IsNoFault (fault_entry pid serial m p) n
other_fault pid serial m n p other q = ap (λ c. c && is_page p q) (turned n serial other)
  where
    turned : (a c : ℕ) → (a == c) ≡ false → (c == a) ≡ false
    turned a c h = ne_eqb c a (λ same. wrong (a == c) h (eq-eqb a c (sym same)))
      where
        wrong : (t : Bool) → t ≡ false → t ≡ true → ⊥
        wrong t f g = (let e : true ≡ false = sym g ∙ f in cc)

pub keeps_fault : BasesSeenStay → (b : BoardState) (all_counts : List ProcessCounts) (table : List (Residence × ResidenceParts)) (serials pid serial m : ℕ) (p : PageId) (place : ℕ) (s : Residence × ResidenceParts) →
    Keeps b all_counts table serials → FollowsIn b (fault_entry pid serial m p) → slice_get table place ≡ Some s → s.0.serial ≡ serial →
    Keeps (with_entry b (fault_entry pid serial m p)) all_counts (set table place (s.0, without_right p s.1)) serials
unfolding after_deed
keeps_fault stay b all_counts table serials pid serial m p place s kept follows there numbered =
    let x : Entry = fault_entry pid serial m p in
    let c : BoardState = with_entry b x in
    let set_stays : List (Residence × ResidenceParts) = set table place (s.0, without_right p s.1) in
    let still : residences set_stays ≡ residences table =
    map-set_same (λ (t : Residence × ResidenceParts). t.0) table place (s.0, without_right p s.1) s (ap (λ (t : Residence × ResidenceParts). t.0) (sym (get_or_from_slice_get table place s s there)))
    in
    let before = all_standing (state_of b) table kept.residences_are in
    let beyond = all_standing (state_of c) table (kept.residences_are ∙ ap (λ (e : Eager). unwritten_residences e) (sym (after b x))) in
    let both = all_both (λ t. Stands (state_of b) t.0 × Stands (state_of c) t.0) (IsCurrentRow b) table (all_both (λ t. Stands (state_of b) t.0) (λ t. Stands (state_of c) t.0) table before beyond) kept.current in
    let this = there_so (λ t. (Stands (state_of b) t.0 × Stands (state_of c) t.0) × IsCurrentRow b t) table place s both there in
    let taken : record (s.1.rights) { left = filter (λ q. not (is_page p q)) s.1.rights.left } ≡ rights_left c s.0 =
    ap (rights_without p) this.1.left ∙ subst (λ n. rights_without p (rights_left b s.0) ≡ rights_left (with_entry b (fault_entry pid n m p)) s.0) numbered (right_taken b pid m s.0 p)
    in
    let shown : shown_by s.1 ≡ shared_as c s.0 = this.1.shared ∙ sym (shared_same stay b x s.0 kept.legal follows this.0.0 this.0.1) in
    keeps_more b x all_counts set_stays serials kept.legal follows kept.reached (still ∙ kept.residences_are) kept.given
    (all_set (λ t. (Stands (state_of b) t.0 × Stands (state_of c) t.0) × IsCurrentRow b t) (IsCurrentRow c) serial 0 (state_of b).serials table place s (s.0, without_right p s.1)
    (rising_kept b all_counts table serials kept) there numbered
    (λ t other h. current_same stay b x t.0 t.1.rights (shown_by t.1) kept.legal follows (other_fault pid serial m t.0.serial p other) h.0.0 h.0.1 h.1)
    (record { left = taken; shared = shown }) both)
    (all_set (IsLaid (state_of b).residences) (IsLaid (state_of b).residences) serial 0 (state_of b).serials table place s (s.0, without_right p s.1) (rising_kept b all_counts table serials kept) there numbered
    (λ t other h. h) (there_so (IsLaid (state_of b).residences) table place s kept.laid there) kept.laid)

pub fault_adds : (b : BoardState) (pid serial m : ℕ) (p : PageId) → with_entry b (fault_entry pid serial m p) ≡ with_entry b (entry_of b pid (fault serial m p))
unfolding deed_of
fault_adds b pid serial m p = refl

-- ---- what the claim of a page comes to

-- A process claims a page of the residence s, which stands at this place of the table and has a serial number and a module; the table
-- is `after` then, and `taken` says whether a right was.
pub record Claims (b : BoardState) (all_counts : List ProcessCounts) (table after : List (Residence × ResidenceParts)) (serials pid serial m : ℕ) (p : PageId) (place : ℕ) (s : Residence × ResidenceParts) (taken : Bool) : Type 0 where
  pub kept : Keeps b all_counts table serials
  pub process : is_among pids pid ≡ true
  pub may : (k : ℕ) × MayAsk b pid (fault serial k p)
  pub at : position (has_serial serial) table ≡ Some place
  pub there : slice_get table place ≡ Some s
  pub of_module : m ≡ s.0.«module»
  pub had : taken ≡ list_any (is_page p) s.1.rights.left
  pub left : after ≡ set table place (s.0, without_right p s.1)

module _ (listed : AreListed) (b : BoardState) (all_counts : List ProcessCounts) (table after : List (Residence × ResidenceParts)) (serials pid serial m : ℕ) (p : PageId) (place : ℕ) (s : Residence × ResidenceParts) where
  of_fault : (taken : Bool) → Claims b all_counts table after serials pid serial m p place s taken → taken ≡ not (has_fault b.history serial p)
  of_fault taken it = it.had ∙ (faced listed b all_counts table serials pid serial p place s it.kept it.may it.at it.there).left

  turned : (c : Bool) (d : Bool) → c ≡ not d → not c ≡ d
  turned c true h = ap not h
  turned c false h = ap not h

  had_none : Claims b all_counts table after serials pid serial m p place s true → has_fault b.history serial p ≡ false
  had_none it = sym (turned true (has_fault b.history serial p) (of_fault true it))

  had_fault : Claims b all_counts table after serials pid serial m p place s false → has_fault b.history serial p ≡ true
  had_fault it = sym (turned false (has_fault b.history serial p) (of_fault false it))

  -- the module of each ask is the residence's
  pub module_asked : (taken : Bool) → Claims b all_counts table after serials pid serial m p place s taken → (k : ℕ) → MayAsk b pid (fault serial k p) → m ≡ k
  module_asked taken it k may = it.of_module ∙ (faced listed b all_counts table serials pid serial p place s it.kept it.may it.at it.there).of_module k may

  follows : Claims b all_counts table after serials pid serial m p place s true → FollowsIn b (fault_entry pid serial m p)
  unfolding deed_of
  follows it =
      let here : MayAsk b pid (fault serial m p) = subst (λ k. MayAsk b pid (fault serial k p)) (sym (module_asked true it it.may.0 it.may.1)) it.may.1 in
      asked_follows b.library b.failing (fixed_bytes b.library) b.history pid (fault serial m p) it.process here (had_none it)

  pub keeps_given : BasesSeenStay → (h : List Entry) → Claims b all_counts table after serials pid serial m p place s true → h ≡ b.history ++ fault_entry pid serial m p ∷ [] →
      Keeps (record b { history = h }) all_counts after serials
  keeps_given stay h it is =
      let numbered = (faced listed b all_counts table serials pid serial p place s it.kept it.may it.at it.there).numbered in
      let H : List Entry → Type 0 = λ k. Keeps (record b { history = k }) all_counts after serials in
      let S : List (Residence × ResidenceParts) → Type 0 = λ ss. Keeps (with_entry b (fault_entry pid serial m p)) all_counts ss serials in
      subst H (sym is) (subst S (sym it.left) (keeps_fault stay b all_counts table serials pid serial m p place s it.kept (follows it) it.there numbered))

  pub is_given : (h : List Entry) (right : PageRight) → Claims b all_counts table after serials pid serial m p place s true → h ≡ b.history ++ fault_entry pid serial m p ∷ [] →
      (right.serial ≡ s.1.rights.serial) × (right.page ≡ p) → IsGiven b (record b { history = h }) pid serial p right
  is_given h right it is named =
      let H : List Entry → BoardState = λ k. record b { history = k } in
      record {
        named = (named.0 ∙ (faced listed b all_counts table serials pid serial p place s it.kept it.may it.at it.there).right, named.1);
        first = had_none it;
        adds = λ k may. ap H is ∙ ap (λ n. with_entry b (fault_entry pid serial n p)) (module_asked true it k may) ∙ fault_adds b pid serial k p;
      }

  pub keeps_taken : (h : List Entry) → Claims b all_counts table after serials pid serial m p place s false → h ≡ b.history → Keeps (record b { history = h }) all_counts after serials
  keeps_taken h it is =
      let H : List Entry → Type 0 = λ k. Keeps (record b { history = k }) all_counts after serials in
      let S : List (Residence × ResidenceParts) → Type 0 = λ ss. Keeps b all_counts ss serials in
      let own : s ≡ (s.0, without_right p s.1) = ap (λ w. (s.0, w)) (sym (none_taken p s.1 (sym it.had))) in
      let same : after ≡ table = it.left ∙ ap (set table place) (sym own ∙ sym (get_or_from_slice_get table place s s it.there)) ∙ set-get_or table place s in
      subst H (sym is) (subst S (sym same) it.kept)

  pub is_taken : (h : List Entry) → Claims b all_counts table after serials pid serial m p place s false → h ≡ b.history → IsTaken b (record b { history = h }) serial p
  is_taken h it is = (let H : List Entry → BoardState = λ k. record b { history = k } in record { had = had_fault it; same = ap H is })
