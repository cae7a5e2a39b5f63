-- What an entry leaves of what a board keeps.
use Rattle.std.proofs.Common.{◌≡◌, ℕ, ◌==◌, ◌||◌, true, false, not, List, [], ◌∷◌, ◌++◌, refl, sym, ◌∙◌, ap, subst, is_some, Bool, Some, map, slice_get, if◌then◌else◌}
use Rattle.std.specs.List.{list_any, AllByRecursion}
use Rattle.std.proofs.lemmas.Bool.{eq-eqb, eqb-true, both_ways}
use Rattle.std.proofs.lemmas.List.Elements.{filter_agree}
use Rattle.lx_types.proofs.Lists.{all_weaker}
use Rattle.lx_types.specs.declared.bases.Bases.{Bases}
use Rattle.lx_types.specs.declared.object.PageId.{PageId}
use Rattle.lx_model.specs.Library.{module_of}
use Rattle.load_model.specs.declared.deeds.Entry.{Entry}
use Rattle.load_model.specs.Modules.{fixed_bytes, Library, object_at}
use Rattle.load_model.specs.State.{Residence, Eager, residence_of, Written, Failing, nothing_yet, with_process}
use Rattle.load_model.specs.Memory.{bases_seen, writing, with_write}
use Rattle.load_model.specs.Histories.{after_entry, is_fault_of, has_fault, Follows, state_after}
use Rattle.load_model.specs.Alike.{BasesSeenStay}
use Rattle.load_model.proofs.Among.{some_find, any_append}
use Rattle.load_model.proofs.Bools.{or_true, or_false}
use Rattle.load_model.proofs.Growing.{one_more_is_after, nothing_is_legal, one_more_is_legal}
use Rattle.page_fix.specs.Rights.{PageRights}
use Rattle.page_fix.specs.Fixable.{fixable_pages}
use Rattle.page_frames.specs.Residences.{ResidenceFor}
use Rattle.load_core.specs.BoardState.{BoardState, state_of, IsLegal, with_entry}
use Rattle.load_core.specs.Kept.{IsCurrent, rights_left, shared_as, Keeps, IsCurrentRow, IsLaid, shown_by}
use Rattle.std.specs.Prelude.{◌<◌, length, slice_index}
use Rattle.std.proofs.lemmas.List.{append-nil}
use Rattle.std.proofs.Math.Seq.{map-set_same}
use Rattle.std.proofs.lemmas.Option.{get_or_from_slice_get}
use Rattle.lx_types.specs.Object.{class_of}
use Rattle.lx_types.specs.declared.object.Class.{Class}
use Rattle.lx_types.specs.declared.object.Class.TheVariants as classes
use Rattle.load_model.specs.declared.deeds.Deed.TheVariants as deeds
use Rattle.load_model.specs.Asks.{after_write, after_deed}
use Rattle.load_model.specs.ProcessCounts.{ProcessCounts, AreCountsOf, reach_count}
use Rattle.load_model.proofs.Serials.{serials_rise}
use Rattle.mod_refs.specs.AllCounts.{AreCountsOfAll, counts_at}
use Rattle.write_overlay.specs.Layered.{Lays}
use Rattle.residence_table.specs.Residences.{residences, unwritten, unwritten_residences}
use Rattle.load_core.specs.Shared.{shared_writes, AreLaid}
use Rattle.load_core.specs.declared.residence_parts.ResidenceParts.{ResidenceParts}
use Rattle.load_core.proofs.FoundBySerial.{Rising, rising_standing, there_so, all_set}

-- ---- residences that stand before an entry and after it: their rights, and what is shared of them

-- ---- lists

pub all_both : {X : Type 0} (P Q : X → Type 0) (xs : List X) → AllByRecursion P xs → AllByRecursion Q xs → AllByRecursion (λ x. P x × Q x) xs
all_both P Q [] a b = tt
all_both P Q (x ∷ xs) a b = ((a.0, b.0), all_both P Q xs a.1 b.1)

-- ---- faults

pub fault_or : (h : List Entry) (x : Entry) (serial : ℕ) (p : PageId) → has_fault (h ++ x ∷ []) serial p ≡ has_fault h serial p || is_fault_of serial p x.deed
unfolding has_fault
fault_or h x serial p = any_append (λ entry. is_fault_of serial p entry.deed) h (x ∷ []) ∙ ap (λ b. has_fault h serial p || b) (or_false (is_fault_of serial p x.deed))

-- an entry that is no fault of a page of a residence
abbrev pub IsNoFault : Entry → ℕ → Type 0
IsNoFault x serial = (p : PageId) → is_fault_of serial p x.deed ≡ false

pub faults_same : (h : List Entry) (x : Entry) (serial : ℕ) → IsNoFault x serial → (p : PageId) → has_fault (h ++ x ∷ []) serial p ≡ has_fault h serial p
faults_same h x serial none p = fault_or h x serial p ∙ ap (λ b. has_fault h serial p || b) (none p) ∙ or_false (has_fault h serial p)

pub rights_same : (b : BoardState) (x : Entry) (r : Residence) → IsNoFault x r.serial → rights_left (with_entry b x) r ≡ rights_left b r
rights_same b x r none =
    let R : List PageId → PageRights = λ left. record { serial = r.serial; left = left } in
    ap R (filter_agree (λ p. not (has_fault (b.history ++ x ∷ []) r.serial p)) (λ p. not (has_fault b.history r.serial p)) (λ p. ap not (faults_same b.history x r.serial none p))
    (fixable_pages (module_of b.library r.«module»)))

-- ---- what stands

-- the module of a residence is among those that are resident in a state
abbrev pub Stands : Eager → Residence → Type 0
Stands e r = is_some (residence_of e r.«module») ≡ true

pub stands_in : (e : Eager) (r : Residence) → list_any (λ s. s.«module» == r.«module») e.residences ≡ true → Stands e r
unfolding residence_of
stands_in e r h = some_find (λ s. s.«module» == r.«module») e.residences ∙ h

among_all : (rs : List Residence) → AllByRecursion (λ r. list_any (λ s. s.«module» == r.«module») rs ≡ true) rs
among_all [] = tt
among_all (r ∷ rs) =
    let here : list_any (λ s. s.«module» == r.«module») (r ∷ rs) ≡ true = ap (λ b. b || list_any (λ s. s.«module» == r.«module») rs) (eq-eqb r.«module» r.«module» refl) in (
      here,
      all_weaker (λ q. list_any (λ s. s.«module» == q.«module») rs ≡ true) (λ q. list_any (λ s. s.«module» == q.«module») (r ∷ rs) ≡ true)
          (λ q h. ap (λ b. (r.«module» == q.«module») || b) h ∙ or_true (r.«module» == q.«module»)) rs (among_all rs),
    )

pub all_stand : (e : Eager) → AllByRecursion (Stands e) e.residences
all_stand e = all_weaker (λ r. list_any (λ s. s.«module» == r.«module») e.residences ≡ true) (Stands e) (λ r h. stands_in e r h) e.residences (among_all e.residences)

-- ---- after an entry

-- what is shared of a residence that stands before an entry and after it
pub shared_same : BasesSeenStay → (b : BoardState) (x : Entry) (r : Residence) → IsLegal b → Follows b.library b.failing (fixed_bytes b.library) b.history x →
    Stands (state_of b) r → Stands (state_of (with_entry b x)) r → shared_as (with_entry b x) r ≡ shared_as b r
shared_same stay b x r legal follows before after =
    let S : Bases → ResidenceFor = λ bases. record { library = b.library; serial = r.serial; «module» = r.«module»; bases = bases; keeper = b.keeper } in
    let more : state_of (with_entry b x) ≡ after_entry b.library (state_of b) x = one_more_is_after b.library b.failing b.history x in
    let there : is_some (residence_of (after_entry b.library (state_of b) x) r.«module») ≡ true = subst (λ e. Stands e r) more after in
    ap S (ap (λ e. bases_seen b.library e r.«module») more ∙ stay b.library b.failing (fixed_bytes b.library) b.history x r.«module» legal follows before there)

pub current_same : BasesSeenStay → (b : BoardState) (x : Entry) (r : Residence) (rights : PageRights) (shown : ResidenceFor) → IsLegal b →
    Follows b.library b.failing (fixed_bytes b.library) b.history x → IsNoFault x r.serial → Stands (state_of b) r → Stands (state_of (with_entry b x)) r →
    IsCurrent b r rights shown → IsCurrent (with_entry b x) r rights shown
current_same stay b x r rights shown legal follows none before after current = record {
  left = current.left ∙ sym (rights_same b x r none);
  shared = current.shared ∙ sym (shared_same stay b x r legal follows before after);
}

-- ---- lists of residences

pub lifted : (P : Residence → Type 0) (table : List (Residence × ResidenceParts)) → AllByRecursion P (residences table) → AllByRecursion (λ s. P s.0) table
lifted P [] all = tt
lifted P (s ∷ table) all = (all.0, lifted P table all.1)

-- a fact of residences as they stand
as_standing : (P : Residence → Type 0) → ((r : Residence) → P r → P (unwritten r)) → (rs : List Residence) → AllByRecursion P rs → AllByRecursion P (map unwritten rs)
as_standing P still [] all = tt
as_standing P still (r ∷ rs) all = (still r all.0, as_standing P still rs all.1)

pub all_standing : (e : Eager) (table : List (Residence × ResidenceParts)) → residences table ≡ unwritten_residences e → AllByRecursion (λ s. Stands e s.0) table
all_standing e table same = lifted (Stands e) table (subst (AllByRecursion (Stands e)) (sym same) (as_standing (Stands e) (λ r h. h) e.residences (all_stand e)))

-- the serial numbers of residences that are kept rise
pub rising_kept : (b : BoardState) (all_counts : List ProcessCounts) (table : List (Residence × ResidenceParts)) (serials : ℕ) → Keeps b all_counts table serials → Rising 0 (residences table) (state_of b).serials
rising_kept b all_counts table serials kept =
    subst (λ rs. Rising 0 rs (state_of b).serials) (sym kept.residences_are)
    (rising_standing 0 (state_of b).serials (state_of b).residences (serials_rise b.library b.failing (fixed_bytes b.library) b.history kept.legal))

-- ---- an entry

abbrev pub FollowsIn : BoardState → Entry → Type 0
FollowsIn b x = Follows b.library b.failing (fixed_bytes b.library) b.history x

pub after : (b : BoardState) (x : Entry) → state_of (with_entry b x) ≡ after_entry b.library (state_of b) x
after b x = one_more_is_after b.library b.failing b.history x

-- what is kept after an entry, by the state after it
pub keeps_more : (b : BoardState) (x : Entry) (all_counts : List ProcessCounts) (table : List (Residence × ResidenceParts)) (serials : ℕ) → IsLegal b → FollowsIn b x →
    AreCountsOfAll b.library (after_entry b.library (state_of b) x) all_counts → residences table ≡ unwritten_residences (after_entry b.library (state_of b) x) →
    serials ≡ (after_entry b.library (state_of b) x).serials → AllByRecursion (IsCurrentRow (with_entry b x)) table →
    AllByRecursion (IsLaid (after_entry b.library (state_of b) x).residences) table → Keeps (with_entry b x) all_counts table serials
keeps_more b x all_counts table serials legal follows reached residences_are given current laid = record {
  legal = one_more_is_legal b.library b.failing (fixed_bytes b.library) b.history x legal follows;
  reached = subst (λ e. AreCountsOfAll b.library e all_counts) (sym (after b x)) reached;
  residences_are = residences_are ∙ ap (λ (e : Eager). unwritten_residences e) (sym (after b x));
  given = given ∙ ap (λ (e : Eager). e.serials) (sym (after b x));
  current = current;
  laid = subst (λ (e : Eager). AllByRecursion (IsLaid e.residences) table) (sym (after b x)) laid;
}

abbrev pub NoFaults : Entry → Type 0
NoFaults x = (serial : ℕ) → IsNoFault x serial

-- residences that stand before an entry and after it are kept as they were
pub all_current : BasesSeenStay → (b : BoardState) (x : Entry) (table : List (Residence × ResidenceParts)) → IsLegal b → FollowsIn b x → NoFaults x →
    AllByRecursion (λ s. Stands (state_of b) s.0) table → AllByRecursion (λ s. Stands (state_of (with_entry b x)) s.0) table →
    AllByRecursion (IsCurrentRow b) table → AllByRecursion (IsCurrentRow (with_entry b x)) table
all_current stay b x table legal follows none before beyond current =
    all_weaker (λ s. (Stands (state_of b) s.0 × Stands (state_of (with_entry b x)) s.0) × IsCurrentRow b s) (IsCurrentRow (with_entry b x))
    (λ s h. current_same stay b x s.0 s.1.rights (shown_by s.1) legal follows (none s.0.serial) h.0.0 h.0.1 h.1) table
    (all_both (λ s. Stands (state_of b) s.0 × Stands (state_of (with_entry b x)) s.0) (IsCurrentRow b) table
    (all_both (λ s. Stands (state_of b) s.0) (λ s. Stands (state_of (with_entry b x)) s.0) table before beyond) current)

-- an entry after which the same residences stand
pub keeps_still : BasesSeenStay → (b : BoardState) (x : Entry) (all_counts all_counts' : List ProcessCounts) (table : List (Residence × ResidenceParts)) (serials serials' : ℕ) → Keeps b all_counts table serials → FollowsIn b x → NoFaults x →
    AreCountsOfAll b.library (after_entry b.library (state_of b) x) all_counts' → (state_of b).residences ≡ (after_entry b.library (state_of b) x).residences →
    serials' ≡ (after_entry b.library (state_of b) x).serials → Keeps (with_entry b x) all_counts' table serials'
keeps_still stay b x all_counts all_counts' table serials serials' kept follows none reached same given =
    let still : residences table ≡ unwritten_residences (after_entry b.library (state_of b) x) = kept.residences_are ∙ ap (map unwritten) same in
    let beyond : residences table ≡ unwritten_residences (state_of (with_entry b x)) = still ∙ ap (λ (e : Eager). unwritten_residences e) (sym (after b x)) in
    keeps_more b x all_counts' table serials' kept.legal follows reached still given
    (all_current stay b x table kept.legal follows none (all_standing (state_of b) table kept.residences_are) (all_standing (state_of (with_entry b x)) table beyond) kept.current)
    (subst (λ rs. AllByRecursion (IsLaid rs) table) same kept.laid)

-- ---- writes

row_written : (lib : Library) (e : Eager) (pid serial q : ℕ) (w : Written) (counts : ProcessCounts) → AreCountsOf lib (e.processes q) counts → AreCountsOf lib ((with_process e pid (writing serial w (e.processes pid))).processes q) counts
unfolding with_process
row_written lib e pid serial q w counts is = step (q == pid) refl
  where
    own : q ≡ pid → AreCountsOf lib (e.processes pid) counts
    own same = subst (λ k. AreCountsOf lib (e.processes k) counts) same is

    step : (c : Bool) → (q == pid) ≡ c → AreCountsOf lib (if c then writing serial w (e.processes pid) else e.processes q) counts
    step true at =
        let it : AreCountsOf lib (e.processes pid) counts = own (eqb-true q pid at) in
        record { started = it.started; attached = it.attached; loads_are = it.loads_are; loads = it.loads; reached_are = it.reached_are; reached = reach it }
      where
        reach : (it : AreCountsOf lib (e.processes pid) counts) → (m : ℕ) → m < length lib → slice_index counts.reached m ≡ reach_count lib (writing serial w (e.processes pid)) m
        reach it = it.reached
    step false at = is

pub rows_written : (lib : Library) (e : Eager) (pid serial : ℕ) (w : Written) (all_counts : List ProcessCounts) → AreCountsOfAll lib e all_counts → AreCountsOfAll lib (with_process e pid (writing serial w (e.processes pid))) all_counts
rows_written lib e pid serial w all_counts are = record { each = λ q there. row_written lib e pid serial q w (counts_at all_counts q) (are.each q there) }

-- with these writes to the residence of a serial number
abbrev with_writes : ℕ → List Written → Residence → Residence
with_writes serial more r = if r.serial == serial then record r { writes = r.writes ++ more } else r

standing_written : (serial : ℕ) (more : List Written) (rs : List Residence) → map unwritten (map (with_writes serial more) rs) ≡ map unwritten rs
standing_written serial more [] = refl
standing_written serial more (r ∷ rs) = ap (λ q. q ∷ map unwritten (map (with_writes serial more) rs)) (step (r.serial == serial)) ∙ ap (λ qs. unwritten r ∷ qs) (standing_written serial more rs)
  where
    step : (c : Bool) → unwritten (if c then record r { writes = r.writes ++ more } else r) ≡ unwritten r
    step true = refl
    step false = refl

none_written : (serial : ℕ) (rs : List Residence) → map (with_writes serial []) rs ≡ rs
none_written serial [] = refl
none_written serial (r ∷ rs) = ap (λ q. q ∷ map (with_writes serial []) rs) (step (r.serial == serial)) ∙ ap (λ qs. r ∷ qs) (none_written serial rs)
  where
    step : (c : Bool) → (if c then record r { writes = r.writes ++ [] } else r) ≡ r
    step true = ap (λ ws. record r { writes = ws }) (append-nil r.writes)
    step false = refl

-- what is laid beside another residence stays so
others_laid : (serial : ℕ) (more : List Written) (t : Residence × ResidenceParts) (rs : List Residence) → (t.0.serial == serial) ≡ false → IsLaid rs t → IsLaid (map (with_writes serial more) rs) t
others_laid serial more t [] other laid = tt
others_laid serial more t (r ∷ rs) other laid = (step (r.serial == serial) refl laid.0, others_laid serial more t rs other laid.1)
  where
    step : (c : Bool) → (r.serial == serial) ≡ c → (r.serial ≡ t.0.serial → Lays t.1.layers r.writes) →
        (if c then record r { writes = r.writes ++ more } else r).serial ≡ t.0.serial → Lays t.1.layers (if c then record r { writes = r.writes ++ more } else r).writes
    step true is h e = absurd (both_ways (t.0.serial == serial) other (eq-eqb t.0.serial serial (sym e ∙ eqb-true r.serial serial is)))
    step false is h e = h e

-- the writes are laid over those before them
this_laid : (serial : ℕ) (more : List Written) (s t : Residence × ResidenceParts) (rs : List Residence) → s.0.serial ≡ serial → t.0 ≡ s.0 →
    ((writes : List Written) → Lays s.1.layers writes → Lays t.1.layers (writes ++ more)) → IsLaid rs s → IsLaid (map (with_writes serial more) rs) t
this_laid serial more s t [] numbered same over laid = tt
this_laid serial more s t (r ∷ rs) numbered same over laid = (step (r.serial == serial) refl laid.0, this_laid serial more s t rs numbered same over laid.1)
  where
    own : t.0.serial ≡ s.0.serial
    own = ap (λ (q : Residence). q.serial) same

    step : (c : Bool) → (r.serial == serial) ≡ c → (r.serial ≡ s.0.serial → Lays s.1.layers r.writes) →
        (if c then record r { writes = r.writes ++ more } else r).serial ≡ t.0.serial → Lays t.1.layers (if c then record r { writes = r.writes ++ more } else r).writes
    step true is h e = over r.writes (h (e ∙ own))
    step false is h e = absurd (both_ways (r.serial == serial) is (eq-eqb r.serial serial (e ∙ own ∙ numbered)))

-- Residences with these writes over those before them in the one at a place, which has this serial number.
module _ (table after : List (Residence × ResidenceParts)) (place serial high : ℕ) (s : Residence × ResidenceParts) (more : List Written) (rise : Rising 0 (residences table) high)
    (there : slice_get table place ≡ Some s) (numbered : s.0.serial ≡ serial) (laid : AreLaid table after place s more) where
  residences_laid : residences after ≡ residences table
  residences_laid =
      ap (λ (ss : List (Residence × ResidenceParts)). residences ss) laid.stand
      ∙ map-set_same (λ (t : Residence × ResidenceParts). t.0) table place (s.0, record s.1 { layers = laid.layers }) s
      (ap (λ (t : Residence × ResidenceParts). t.0) (sym (get_or_from_slice_get table place s s there)))

  current_laid : (c : BoardState) → AllByRecursion (IsCurrentRow c) table → AllByRecursion (IsCurrentRow c) after
  current_laid c current =
      subst (AllByRecursion (IsCurrentRow c)) (sym laid.stand)
      (all_set (IsCurrentRow c) (IsCurrentRow c) serial 0 high table place s (s.0, record s.1 { layers = laid.layers }) rise there numbered (λ t other h. h)
      (there_so (IsCurrentRow c) table place s current there) current)

  writes_laid : (rs : List Residence) → AllByRecursion (IsLaid rs) table → AllByRecursion (IsLaid (map (with_writes serial more) rs)) after
  writes_laid rs all =
      subst (AllByRecursion (IsLaid (map (with_writes serial more) rs))) (sym laid.stand)
      (all_set (IsLaid rs) (IsLaid (map (with_writes serial more) rs)) serial 0 high table place s (s.0, record s.1 { layers = laid.layers }) rise there numbered
      (λ t other h. others_laid serial more t rs other h)
      (this_laid serial more s (s.0, record s.1 { layers = laid.layers }) rs numbered refl laid.over (there_so (IsLaid rs) table place s all there)) all)

-- where nothing is written all is kept
pub keeps_unwritten : (b : BoardState) (all_counts : List ProcessCounts) (table after : List (Residence × ResidenceParts)) (serials place : ℕ) (s : Residence × ResidenceParts) → Keeps b all_counts table serials →
    slice_get table place ≡ Some s → AreLaid table after place s [] → Keeps b all_counts after serials
keeps_unwritten b all_counts table after serials place s kept there laid =
    let rise = rising_kept b all_counts table serials kept in
    record {
      legal = kept.legal;
      reached = kept.reached;
      residences_are = residences_laid table after place s.0.serial (state_of b).serials s [] rise there refl laid ∙ kept.residences_are;
      given = kept.given;
      current = current_laid table after place s.0.serial (state_of b).serials s [] rise there refl laid b kept.current;
      laid =
          subst (λ rs. AllByRecursion (IsLaid rs) after) (none_written s.0.serial (state_of b).residences)
          (writes_laid table after place s.0.serial (state_of b).serials s [] rise there refl laid (state_of b).residences kept.laid);
    }

abbrev pub write_entry : ℕ → ℕ → ℕ → Written → Entry
write_entry pid serial m w = record { pid = pid; deed = deeds.Write serial m w.object w.offset w.bytes }

no_write_fault : (pid serial m : ℕ) (w : Written) → NoFaults (write_entry pid serial m w)
no_write_fault pid serial m w s p = refl

keeps_class : BasesSeenStay → (b : BoardState) (pid serial m : ℕ) (w : Written) (c : Class) (all_counts : List ProcessCounts) (table beyond : List (Residence × ResidenceParts)) (serials place : ℕ) (s : Residence × ResidenceParts) →
    Keeps b all_counts table serials → FollowsIn b (write_entry pid serial m w) → after_entry b.library (state_of b) (write_entry pid serial m w) ≡ after_write (state_of b) pid serial w c →
    slice_get table place ≡ Some s → s.0.serial ≡ serial → AreLaid table beyond place s (shared_writes c w) → Keeps (with_entry b (write_entry pid serial m w)) all_counts beyond serials
unfolding with_process
keeps_class stay b pid serial m w classes.Code all_counts table beyond serials place s kept follows same there numbered laid =
    let still = keeps_unwritten b all_counts table beyond serials place s kept there laid in
    keeps_still stay b (write_entry pid serial m w) all_counts all_counts beyond serials serials still follows (no_write_fault pid serial m w)
    (subst (λ e. AreCountsOfAll b.library e all_counts) (sym same) kept.reached) (ap (λ (e : Eager). e.residences) (sym same)) (kept.given ∙ ap (λ (e : Eager). e.serials) (sym same))
keeps_class stay b pid serial m w classes.Private all_counts table beyond serials place s kept follows same there numbered laid =
    let still = keeps_unwritten b all_counts table beyond serials place s kept there laid in
    keeps_still stay b (write_entry pid serial m w) all_counts all_counts beyond serials serials still follows (no_write_fault pid serial m w)
    (subst (λ e. AreCountsOfAll b.library e all_counts) (sym same) (rows_written b.library (state_of b) pid serial w all_counts kept.reached))
    (ap (λ (e : Eager). e.residences) (sym same)) (kept.given ∙ ap (λ (e : Eager). e.serials) (sym same))
keeps_class stay b pid serial m w classes.Shared all_counts table beyond serials place s kept follows same there numbered laid =
    let x : Entry = write_entry pid serial m w in
    let rise = rising_kept b all_counts table serials kept in
    let stood : residences table ≡ unwritten_residences (after_entry b.library (state_of b) x) =
    kept.residences_are ∙ sym (standing_written serial (w ∷ []) (state_of b).residences) ∙ ap (λ (e : Eager). unwritten_residences e) (sym same)
    in
    let now : residences table ≡ unwritten_residences (state_of (with_entry b x)) = stood ∙ ap (λ (e : Eager). unwritten_residences e) (sym (after b x)) in
    keeps_more b x all_counts beyond serials kept.legal follows (subst (λ e. AreCountsOfAll b.library e all_counts) (sym same) (rows_shared b.library (state_of b) serial w all_counts kept.reached))
    (residences_laid table beyond place serial (state_of b).serials s (w ∷ []) rise there numbered laid ∙ stood)
    (kept.given ∙ ap (λ (e : Eager). e.serials) (sym same))
    (current_laid table beyond place serial (state_of b).serials s (w ∷ []) rise there numbered laid (with_entry b x)
    (all_current stay b x table kept.legal follows (no_write_fault pid serial m w) (all_standing (state_of b) table kept.residences_are) (all_standing (state_of (with_entry b x)) table now) kept.current))
    (subst (λ (e : Eager). AllByRecursion (IsLaid e.residences) beyond) (sym same)
    (writes_laid table beyond place serial (state_of b).serials s (w ∷ []) rise there numbered laid (state_of b).residences kept.laid))
  where
    rows_shared : (lib : Library) (e : Eager) (serial : ℕ) (w : Written) (all_counts : List ProcessCounts) → AreCountsOfAll lib e all_counts → AreCountsOfAll lib (record e { residences = map (with_write serial w) e.residences }) all_counts
    rows_shared lib e serial w all_counts are = record { each = are.each }

pub keeps_written : BasesSeenStay → (b : BoardState) (pid serial m : ℕ) (w : Written) (all_counts : List ProcessCounts) (table beyond : List (Residence × ResidenceParts)) (serials place : ℕ) (s : Residence × ResidenceParts) →
    Keeps b all_counts table serials → FollowsIn b (write_entry pid serial m w) → slice_get table place ≡ Some s → s.0.serial ≡ serial →
    AreLaid table beyond place s (shared_writes (class_of (object_at b.library m w.object)) w) → Keeps (with_entry b (write_entry pid serial m w)) all_counts beyond serials
unfolding after_deed
keeps_written stay b pid serial m w all_counts table beyond serials place s kept follows there numbered laid =
    keeps_class stay b pid serial m w (class_of (object_at b.library m w.object)) all_counts table beyond serials place s kept follows refl there numbered laid

-- ---- a new board

pub nothing_keeps : (lib : Library) (failing : Failing) (keeper : ℕ) (all_counts : List ProcessCounts) → AreCountsOfAll lib (nothing_yet failing) all_counts →
    Keeps (record { library = lib; failing = failing; history = []; keeper = keeper }) all_counts [] 0
unfolding state_after
nothing_keeps lib failing keeper all_counts are = record {
  legal = nothing_is_legal lib failing (fixed_bytes lib);
  reached = are;
  residences_are = refl;
  given = refl;
  current = tt;
  laid = tt;
}

pub nothing_keeps_so : (lib : Library) (failing : Failing) (h : List Entry) (keeper given : ℕ) (all_counts : List ProcessCounts) (table : List (Residence × ResidenceParts)) → h ≡ [] → table ≡ [] → given ≡ 0 →
    AreCountsOfAll lib (nothing_yet failing) all_counts → Keeps (record { library = lib; failing = failing; history = h; keeper = keeper }) all_counts table given
nothing_keeps_so lib failing h keeper given all_counts table empty none zeroth are =
    let H : List Entry → Type 0 = λ k. Keeps (record { library = lib; failing = failing; history = k; keeper = keeper }) all_counts table given in
    let S : List (Residence × ResidenceParts) → Type 0 = λ ss. Keeps (record { library = lib; failing = failing; history = []; keeper = keeper }) all_counts ss given in
    let G : ℕ → Type 0 = λ n. Keeps (record { library = lib; failing = failing; history = []; keeper = keeper }) all_counts [] n in
    subst H (sym empty) (subst S (sym none) (subst G (sym zeroth) (nothing_keeps lib failing keeper all_counts are)))
