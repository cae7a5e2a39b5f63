-- Processes as their loader makes them, and as it closes over them.
use Rattle.std.specs.Prelude.{◌≡◌, ℕ, ◌+◌, ◌<◌, ◌≤◌, List, [], ◌++◌, length, Some, None, false, slice_index_or}
use Rattle.std.specs.List.{AllByRecursion}
use Rattle.atomic_table.specs.Seated.{TableId}
use Rattle.turn_lock.specs.Passes.{live_of}
use Rattle.turn_lock.specs.Turns.{by_pid}
use Rattle.load_model.specs.declared.deeds.Entry.{Entry}
use Rattle.load_core.specs.BoardState.{IsLegal}
use Rattle.process_view.specs.ProcessViews.{new_view}
use Rattle.proc_core.specs.declared.kept.About.{About}
use Rattle.proc_core.specs.Procs.{ProcState, about_of, IsOf}
use Rattle.proc_core.specs.Calls.{AreOthers}

-- the k-th process of so many, from 0, that has done nothing
abbrev pub IsNew : TableId → About → ℕ → ℕ → ProcState → Type 0
IsNew loader about n k p =
    (p.lock ≡ loader)
    × (p.known ≡ record {
      pid = k + 1;
      subject = Some about;
      seen = [];
      mine = [];
      drawn = 0;
      ticket = None;
      turn = false;
      live = live_of k n;
      ended = [];
      before = [];
      other = [];
    })
    × (p.view ≡ new_view about.library (k + 1))

pub record AreMade (loader : TableId) (about : About) (n : ℕ) (ps : List ProcState) : Type 0 where
  pub count : length ps ≡ n
  pub each : (k : ℕ) (d : ProcState) → k < n → IsNew loader about n k (slice_index_or ps k d)

-- All processes of a loader, in order: the k-th has the number k + 1, and there are as many as the first one knows.
pub record AreAll (ps : List ProcState) : Type 0 where
  pub some : 0 < length ps
  pub numbers : (k : ℕ) (d : ProcState) → k < length ps → (slice_index_or ps k d).known.pid ≡ k + 1
  pub live : (d : ProcState) → (slice_index_or ps 0 d).known.live ≡ length ps

-- They are of one loader.
abbrev pub AreOf : TableId → List ProcState → Type 0
AreOf loader ps = (k : ℕ) (d : ProcState) → k < length ps → IsOf loader (slice_index_or ps k d)

-- The history goes on from what a process has seen without it, and its own list is the filter of it.
pub record GoesOn (h : List Entry) (p : ProcState) : Type 0 where
  pub more : List Entry
  pub seen : h ≡ p.known.seen ++ more
  pub others : AreOthers p.known.pid more
  pub own : by_pid (λ (x : Entry). x.pid) p.known.pid h ≡ p.known.mine

-- The history of a loader of these processes: legal, of nobody else, and of each what it has seen and made.
pub record IsHistoryOf (ps : List ProcState) (h : List Entry) : Type 0 where
  pub legal : (d : ProcState) → IsLegal (record
      { library = (about_of (slice_index_or ps 0 d)).library; failing = (about_of (slice_index_or ps 0 d)).failing; history = h; keeper = 0 })
  pub each : (k : ℕ) (d : ProcState) → k < length ps → GoesOn h (slice_index_or ps k d)
  pub nobody : AllByRecursion (λ (x : Entry). (1 ≤ x.pid) × (x.pid ≤ length ps)) h
