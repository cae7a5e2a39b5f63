-- Counts of calls and of faults. A count stands still at the end of its type.
use Rattle.std.specs.Prelude.{ℕ, ◌+◌, ◌-◌, ◌^◌, ◌≤◌, min}

abbrev pub next : ℕ → ℕ
next count = min (count + 1) (2 ^ 64 - 1)

-- A count has gone up between two moments. One that stands at the end of its type counts as risen.
abbrev pub Rose : ℕ → ℕ → Type 0
Rose before now = next before ≤ now
