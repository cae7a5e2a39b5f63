-- One page of a residence, which is claimed in a turn or is the process's own.
use Rattle.std.specs.Prelude.{◌≡◌, ℕ, ◌+◌, ◌≤◌, count_by, Bool, true, List, [], ◌∷◌, ◌++◌, length, slice_index_or, Result, Ok, Err}
use Rattle.lx_types.specs.declared.object.PageId.{PageId}
use Rattle.lx_types.specs.declared.fail.NoMemory.{NoMemory as Want}
use Rattle.page_frames.specs.Residences.{ResidenceFor}
use Rattle.load_model.specs.declared.deeds.Entry.{Entry}
use Rattle.load_model.specs.Histories.{has_fault}
use Rattle.load_model.specs.Views.{mapped_pages}
use Rattle.load_model.specs.TouchedPages.{has_page}
use Rattle.load_core.specs.declared.answers.Claim.{Claim}
use Rattle.load_core.specs.declared.answers.Claim.TheVariants as claims
use Rattle.process_view.specs.ProcessViews.{ProcessView, at_front}
use Rattle.process_view.specs.Deeds.{fault_of}
use Rattle.proc_core.specs.Procs.{ProcState}
use Rattle.proc_core.specs.Calls.{IsSamePass, AreOthers}
use Rattle.proc_core.specs.Touches.{IsPage, page_in, needs_fault, news_of}

-- the k-th residence that a view reaches
abbrev pub residence_at : ProcessView → ℕ → ResidenceFor → ResidenceFor
residence_at v k d = slice_index_or v.residences k d

-- whether a page of a residence is mapped
abbrev pub is_there : ProcessView → ResidenceFor → PageId → Bool
is_there v r p = has_page (mapped_pages v.holding) r.serial p

-- A turn was taken: others did more, and the process made these entries; nothing else of its view has changed.
pub record IsTurn (p q : ProcState) (own : List Entry) : Type 0 where
  pub pass : IsSamePass p q
  pub more : List Entry
  pub others : AreOthers p.known.pid more
  pub seen : q.known.seen ≡ p.known.seen ++ (more ++ own)
  pub drawn : q.known.drawn ≡ p.known.drawn + 1
  pub view : q.view ≡ at_front (length q.known.seen) p.view

-- What a claim in a turn comes to: the right to fix the page, whose fault has its entry; or another process has the right.
abbrev pub IsClaim : ProcState → ProcState → ResidenceFor → PageId → Claim → Type 0
IsClaim p q r t (claims.Right right) =
    (right ≡ record { serial = r.serial; page = t }) × IsTurn p q (fault_of p.view r t ∷ []) × (has_fault q.known.seen r.serial t ≡ true)
IsClaim p q r t claims.Taken = IsTurn p q [] × (has_fault q.known.seen r.serial t ≡ true)

-- a page that was not mapped: it is now, or there was no memory
abbrev pub IsOnePage : ProcState → ProcState → ResidenceFor → PageId → ℕ → ℕ → Result Unit Want → Type 0
IsOnePage p q r t before after (Ok _) = IsPage p q (page_in r t) r.«module» (page_in r t ∷ []) before after
IsOnePage p q r t before after (Err none) = IsPage p q (page_in r t) r.«module» [] before after

-- a turn at most, and none for a page that is mapped or is the process's own
abbrev pub HasFewTurns : ProcState → ProcState → ResidenceFor → PageId → Type 0
HasFewTurns p q r t = q.known.drawn ≤ p.known.drawn + count_by (needs_fault p.view.library r.«module») (news_of p.view (page_in r t))
