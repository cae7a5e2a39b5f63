-- What is kept of a process by module: counts in place of lists, in no order.
use Rattle.std.specs.Prelude.{◌≡◌, ℕ, ◌<◌, List, [], map, length, Option, None, filter, not, count_by, slice_index}
use Rattle.load_model.specs.Modules.{Library, order_of}
use Rattle.load_model.specs.State.{Process, is_among, roots, count_of, reaches}

-- The program that was started. By module, how many loads of it the process holds, and how many of its roots
-- (its program, and each load) reach it. And the modules that it has attached, in the order in which it did.
pub record ProcessCounts : Type 0 where
  pub started : Option ℕ
  pub loads : List ℕ
  pub reached : List ℕ
  pub attached : List ℕ

-- how many roots of a process reach a module
abbrev pub reach_count : Library → Process → ℕ → ℕ
reach_count lib p k = count_by (λ root. is_among (order_of lib root) k) (roots p)

-- The counts are those of the process.
pub record AreCountsOf (lib : Library) (p : Process) (counts : ProcessCounts) : Type 0 where
  pub started : counts.started ≡ p.started
  pub attached : counts.attached ≡ p.attached
  pub loads_are : length counts.loads ≡ length lib
  pub loads : (m : ℕ) → m < length lib → slice_index counts.loads m ≡ count_of p m
  pub reached_are : length counts.reached ≡ length lib
  pub reached : (m : ℕ) → m < length lib → slice_index counts.reached m ≡ reach_count lib p m

-- those of some modules that a process does not reach
abbrev pub unreached : Library → Process → List ℕ → List ℕ
unreached lib p order = filter (λ k. not (reaches lib p k)) order

-- nothing is counted
abbrev pub new_counts : Library → ProcessCounts
new_counts lib = record { started = None; loads = map (λ m. 0) lib; reached = map (λ m. 0) lib; attached = [] }
