-- Passes that are joined again, as a loader closes over its processes.
use Rattle.std.specs.Prelude.{◌≡◌, ℕ, ◌+◌, ◌<◌, ◌≤◌, ◌⊎◌, [], List, length, slice_index_or}
use mathlib.Core.List.{IsPrefix}
use Rattle.atomic_table.specs.Seated.{TableId}
use Rattle.turn_lock.specs.declared.known.Known.{Known}
use Rattle.turn_lock.specs.Turns.{by_pid, ended_of}
use Rattle.load_model.specs.declared.deeds.Entry.{Entry}
use Rattle.proc_core.specs.declared.kept.About.{About}
use Rattle.proc_core.specs.Procs.{ProcState}

-- what the first process of a list knows, beside the others
pub record Owns (lock : TableId) (first : ProcState) (rest : List ProcState) : Type 0 where
  pub lock_is : first.lock ≡ lock
  pub pid : first.known.pid ≡ 1
  pub live : first.known.live ≡ length rest + 1
  pub others : (k : ℕ) (d : ProcState) → k < length rest → ((slice_index_or rest k d).lock ≡ lock) × ((slice_index_or rest k d).known.pid ≡ k + 2)

-- what a process has seen begins what a pass has seen, and its own list is the filter of it
pub record Begins (p : ProcState) (v : Known Entry About) : Type 0 where
  pub seen : IsPrefix p.known.seen v.seen
  pub own : by_pid (λ (x : Entry). x.pid) p.known.pid p.known.seen ≡ p.known.mine

-- as far as the passes of the last processes of the list are joined into that of the first, so that n of them are left
pub record Joined (first : ProcState) (rest : List ProcState) (n : ℕ) (v : Known Entry About) : Type 0 where
  pub pid : v.pid ≡ 1
  pub live : v.live ≡ n + 1
  pub about : v.subject ≡ first.known.subject
  pub mine : v.mine ≡ first.known.mine
  pub first_begins : Begins first v
  pub ended : (k : ℕ) (d : ProcState) → n ≤ k → k < length rest → ended_of (k + 2) v.ended ≡ (slice_index_or rest k d).known.mine
  pub begins : (k : ℕ) (d : ProcState) → n ≤ k → k < length rest → Begins (slice_index_or rest k d) v
  pub none : (p : ℕ) → (p < 2) ⊎ (length rest + 1 < p) → ended_of p v.ended ≡ []
