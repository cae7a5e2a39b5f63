-- What holds of the counts of any process.
use Rattle.std.specs.Prelude.{◌<◌, ◌≤◌, ◌-◌, ◌^◌, ℕ, All, length, slice_index}
use Rattle.lx_types.specs.declared.limits.TheConstants.{MAX_LOADS, MAX_MODULES}
use Rattle.load_model.specs.Modules.{Library, order_of}
use Rattle.load_model.specs.State.{Process}
use Rattle.load_model.specs.ProcessCounts.{ProcessCounts, AreCountsOf}

-- A module of which the process holds a load: each module of its order has a count.
abbrev pub HeldIsCounted : Type 0
HeldIsCounted =
    (lib : Library) (p : Process) (counts : ProcessCounts) (m : ℕ) → AreCountsOf lib p counts → 0 < slice_index counts.loads m →
    All (λ k. k < length lib) (order_of lib m) →
    All (λ k. 0 < slice_index counts.reached k) (order_of lib m)

-- Of at most 65,535 loads of each of 64 modules one more can be counted in 32 bits.
abbrev pub CountsHaveRoom : Type 0
CountsHaveRoom =
    (lib : Library) (p : Process) (counts : ProcessCounts) → AreCountsOf lib p counts → length lib ≤ MAX_MODULES →
    All (λ m. m < length lib) p.loads → All (λ n. n ≤ MAX_LOADS) counts.loads →
    (k : ℕ) → slice_index counts.reached k < 2 ^ 32 - 1
