-- What a touch comes to.
use Rattle.std.specs.Prelude.{◌≡◌, ℕ, ◌+◌, ◌≤◌, ◌⊎◌, ◌==◌, not, Bool, List, [], ◌∷◌, if◌then◌else◌, ◌++◌, take, length, slice_index_or, ◌<◌, ◌^◌, filter, count_by, true, false, None, Result, Ok, Err}
use Rattle.std.specs.List.{AllByRecursion}
use Rattle.lx_types.specs.Object.{class_of, pages_of}
use Rattle.lx_types.specs.Parts.{object_of}
use Rattle.lx_types.specs.Sound.{IsNumberOf}
use Rattle.lx_model.specs.Library.{module_of}
use Rattle.page_fix.specs.Fixable.{is_fixable}
use Rattle.lx_types.specs.declared.object.PageId.{PageId}
use Rattle.lx_types.specs.declared.fail.NoMemory.{NoMemory as Want}
use Rattle.lx_types.specs.declared.fail.Fail.{Fail}
use Rattle.lx_types.specs.declared.fail.Fail.TheVariants.{Said, NoMemory}
use Rattle.load_model.specs.declared.commands.Place.{Place}
use Rattle.load_model.specs.declared.commands.Command.TheVariants.{Touch}
use Rattle.load_model.specs.declared.commands.Refusal.{Refusal}
use Rattle.load_model.specs.declared.deeds.Deed.{Deed}
use Rattle.load_model.specs.declared.deeds.Deed.TheVariants as deeds
use Rattle.load_model.specs.declared.deeds.Entry.{Entry}
use Rattle.load_model.specs.Modules.{Library, object_at}
use Rattle.load_model.specs.State.{PageOf, is_among}
use Rattle.load_model.specs.Memory.{pages_over}
use Rattle.load_model.specs.Asks.{is_own}
use Rattle.load_model.specs.Step.{meant}
use Rattle.load_model.specs.Views.{mapped_pages}
use Rattle.load_model.specs.TouchedPages.{has_page}
use Rattle.load_model.specs.TouchSteps.{touch_steps}
use Rattle.merge_laws.specs.PageStates.{pages_at}
use Rattle.merge_laws.specs.PageStates.{serial_seen, has_pages}
use Rattle.page_frames.specs.Residences.{ResidenceFor}
use Rattle.process_view.specs.ProcessViews.{ProcessView}
use Rattle.proc_core.specs.Procs.{ProcState}
use Rattle.proc_core.specs.Calls.{IsSamePass, IsRefusedCall, call_refusal}

-- ---- pages

-- the pages of a place, in ascending order
abbrev pub touched_pages : ProcessView → Place → List PageOf
touched_pages v at = pages_at (serial_seen v.library v.holding at) at

-- those of the first n of them that are not mapped
abbrev pub newly_mapped : ProcessView → Place → ℕ → List PageOf
newly_mapped v at n = filter (λ (t : PageOf). not (has_page (mapped_pages v.holding) t.serial t.page)) (take n (touched_pages v at))

-- a page of code, or of a shared object, has its fault before it is mapped
abbrev pub needs_fault : Library → ℕ → PageOf → Bool
needs_fault lib m t = not (is_own (class_of (object_at lib m t.page.object)))

-- how many turns a touch may take
abbrev pub most_turns : ProcessView → Place → ℕ
most_turns v at = count_by (needs_fault v.library (meant v.library at.«module»)) (newly_mapped v at (length (touched_pages v at)))

-- ---- entries

-- the fault of a page of the place that was not mapped, and is one of those that are now
abbrev pub IsNewFault : ProcessView → Place → List PageOf → Deed → Type 0
IsNewFault v at news (deeds.Fault serial m p) =
    (serial ≡ serial_seen v.library v.holding at) × (m ≡ meant v.library at.«module») × (at.object ≡ p.object)
    × (is_among (pages_over at.offset at.len) p.page ≡ true)
    × (has_page (mapped_pages v.holding) serial p ≡ false)
    × (has_page news serial p ≡ true)
IsNewFault v at news deed = ⊥

-- an entry of another process, or such a fault
abbrev pub IsSeenInTouch : ProcessView → Place → List PageOf → Entry → Type 0
IsSeenInTouch v at news x = ((v.holding.pid == x.pid) ≡ false) ⊎ ((x.pid ≡ v.holding.pid) × IsNewFault v at news x.deed)

-- ---- the touch

-- The first n pages of the place are mapped, and nothing else was: of its own the process made faults alone, of pages that
-- are newly mapped. The count has risen by the sources of the pages whose faults it made, and of the
-- private pages that it mapped.
pub record IsTouched (p q : ProcState) (at : Place) (n before after : ℕ) : Type 0 where
  pub pass : IsSamePass p q
  pub accepted : call_refusal p (Touch at) ≡ None
  pub shown : List Entry
  pub seen : q.known.seen ≡ p.known.seen ++ shown
  pub entries : AllByRecursion (IsSeenInTouch p.view at (newly_mapped p.view at n)) shown
  pub library : q.view.library ≡ p.view.library
  pub residences : q.view.residences ≡ p.view.residences
  pub holding : q.view.holding ≡ record p.view.holding { mapped = q.view.holding.mapped; front = length q.known.seen }
  pub mapped : mapped_pages q.view.holding ≡ mapped_pages p.view.holding ++ newly_mapped p.view at n
  pub drawn : (p.known.drawn ≤ q.known.drawn) × (q.known.drawn ≤ p.known.drawn + most_turns p.view at)
  pub steps : after ≡ before + touch_steps p.view.library p.known.pid (meant p.view.library at.«module») shown (newly_mapped p.view at n)

-- the pages of the place are mapped
abbrev pub AreMapped : ProcessView → ProcessView → Place → Type 0
AreMapped v w at = has_pages (mapped_pages w.holding) (serial_seen v.library v.holding at) at ≡ true

abbrev pub IsTouchAnswered : ProcState → ProcState → Place → ℕ → ℕ → Result Unit (Fail Refusal) → Type 0
IsTouchAnswered p q at before after (Ok _) = IsTouched p q at (length (touched_pages p.view at)) before after × AreMapped p.view q.view at
IsTouchAnswered p q at before after (Err (Said refusal)) = IsRefusedCall p (Touch at) refusal × (q ≡ p) × (after ≡ before)
IsTouchAnswered p q at before after (Err NoMemory) =
    ((n : ℕ) × (n ≤ length (touched_pages p.view at)) × IsTouched p q at n before after)
    × (has_pages (mapped_pages p.view.holding) (serial_seen p.view.library p.view.holding at) at ≡ false)

-- ---- one page of it

abbrev pub page_in : ResidenceFor → PageId → PageOf
page_in r p = record { serial = r.serial; page = p }

-- an entry of another process, or the fault of a page that was not mapped, and is one of these now
abbrev pub IsSeenForPage : ProcessView → ℕ → PageOf → List PageOf → Entry → Type 0
IsSeenForPage v m t news x =
    ((v.holding.pid == x.pid) ≡ false) ⊎ ((x.pid ≡ v.holding.pid) × (x.deed ≡ deeds.Fault t.serial m t.page)
    × (has_page (mapped_pages v.holding) t.serial t.page ≡ false) × (has_page news t.serial t.page ≡ true))

-- Of a page t of a residence of a module these pages were newly mapped, the page itself or none, and nothing else was.
pub record IsPage (p q : ProcState) (t : PageOf) (m : ℕ) (news : List PageOf) (before after : ℕ) : Type 0 where
  pub pass : IsSamePass p q
  pub shown : List Entry
  pub seen : q.known.seen ≡ p.known.seen ++ shown
  pub entries : AllByRecursion (IsSeenForPage p.view m t news) shown
  pub library : q.view.library ≡ p.view.library
  pub residences : q.view.residences ≡ p.view.residences
  pub holding : q.view.holding ≡ record p.view.holding { mapped = q.view.holding.mapped; front = length q.known.seen }
  pub mapped : mapped_pages q.view.holding ≡ mapped_pages p.view.holding ++ news
  pub drawn : (p.known.drawn ≤ q.known.drawn) × (q.known.drawn ≤ p.known.drawn + count_by (needs_fault p.view.library m) (t ∷ []))
  pub steps : after ≡ before + touch_steps p.view.library p.known.pid m shown news

-- the page, where it is not mapped
abbrev pub news_of : ProcessView → PageOf → List PageOf
news_of v t = if has_page (mapped_pages v.holding) t.serial t.page then [] else t ∷ []

-- It is mapped after the call; without memory it is not, and was not.
abbrev pub IsPageAnswered : ProcState → ProcState → PageOf → ℕ → ℕ → ℕ → Result Unit Want → Type 0
IsPageAnswered p q t m before after (Ok _) = IsPage p q t m (news_of p.view t) before after
IsPageAnswered p q t m before after (Err none) = IsPage p q t m [] before after × (has_page (mapped_pages p.view.holding) t.serial t.page ≡ false)

-- A page of a residence that the process reaches, which may be touched: the module has it; and it is fixed by a right where
-- it is no private one.
pub record IsPageOf (v : ProcessView) (k : ℕ) (p : PageId) : Type 0 where
  pub residence : k < length v.residences
  pub going : v.holding.ended ≡ false
  pub object : (d : ResidenceFor) → IsNumberOf p.object (length (module_of v.library (slice_index_or v.residences k d).«module»).objects)
  pub page : (d : ResidenceFor) → p.page < pages_of (object_of (module_of v.library (slice_index_or v.residences k d).«module») p.object)
  pub small : p.page < 2 ^ 20
  pub shared : (d : ResidenceFor) → is_fixable (module_of v.library (slice_index_or v.residences k d).«module») p
      ≡ needs_fault v.library (slice_index_or v.residences k d).«module» (page_in (slice_index_or v.residences k d) p)
