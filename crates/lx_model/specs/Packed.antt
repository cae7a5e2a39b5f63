-- Iterated data as it is written: what of a page is written, and in which groups.
-- "32-bit Linear eXecutable Module Format": "Iterated Data Pages".
use Rattle.std.specs.Prelude.{ℕ, zero, suc, ◌+◌, ◌-◌, ◌/◌, ◌%◌, ◌==◌, ◌&&◌, Bool, List, [], ◌∷◌, ◌++◌, length, take, replicate, find, Option, Some, None, nat_lt, bytes_eq, if◌then◌else◌}
use Rattle.std.specs.List.{repeat}
use Rattle.lx_types.specs.declared.object.TheConstants.{PAGE_SIZE}
use Rattle.lx_model.specs.Iterated.{Group, groups_spelling}
use Rattle.lx_model.specs.declared.limits.TheConstants.{LONG_RUN}

-- ---- the data of a page

-- a page that begins with these bytes: zeros follow them
abbrev pub filled : List ℕ → List ℕ
filled bytes = bytes ++ replicate (PAGE_SIZE - length bytes) 0

-- a byte before others of which the last is not 0: a zero before none is left out
abbrev pub before_data : ℕ → List ℕ → List ℕ
before_data zero [] = []
before_data zero (c ∷ others) = 0 ∷ c ∷ others
before_data (suc b) others = suc b ∷ others

-- a page's bytes up to the last one that is not 0
abbrev pub data_of : List ℕ → List ℕ
data_of [] = []
data_of (b ∷ others) = before_data b (data_of others)

-- ---- bytes that repeat

-- the lengths of the patterns that are looked for
abbrev pub periods : List ℕ
periods = 1 ∷ 2 ∷ 4 ∷ 8 ∷ 16 ∷ []

-- the bytes are the first p of them, again and again
abbrev pub repeats : List ℕ → ℕ → Bool
repeats bytes p = (length bytes % p == 0) && bytes_eq (repeat (length bytes / p) (take p bytes)) bytes

-- ---- runs of equal bytes

-- a byte, and how many times it stands there
pub record Run : Type 0 where
  pub byte : ℕ
  pub times : ℕ

abbrev pub before_runs : ℕ → List Run → List Run
before_runs b [] = record { byte = b; times = 1 } ∷ []
before_runs b (r ∷ others) = if r.byte == b then record { byte = b; times = r.times + 1 } ∷ others else record { byte = b; times = 1 } ∷ r ∷ others

-- the runs of equal bytes, each as long as it can be
abbrev pub runs_of : List ℕ → List Run
runs_of [] = []
runs_of (b ∷ others) = before_runs b (runs_of others)

abbrev pub once : List ℕ → Group
once bytes = record { times = 1; bytes = bytes }

-- Bytes that stand once, before the groups of what follows them: they are joined with those that stand once
-- there.
abbrev pub before_groups : List ℕ → List Group → List Group
before_groups [] gs = gs
before_groups (b ∷ bytes) [] = once (b ∷ bytes) ∷ []
before_groups (b ∷ bytes) (g ∷ gs) = if g.times == 1 then once (b ∷ bytes ++ g.bytes) ∷ gs else once (b ∷ bytes) ∷ g ∷ gs

-- a run of many bytes is a group of one byte; others stand once
abbrev pub before_rest : Run → List Group → List Group
before_rest r gs = if nat_lt r.times LONG_RUN then before_groups (replicate r.times r.byte) gs else record { times = r.times; bytes = r.byte ∷ [] } ∷ gs

abbrev pub groups_of_runs : List Run → List Group
groups_of_runs [] = []
groups_of_runs (r ∷ others) = before_rest r (groups_of_runs others)

-- ---- what is written

-- one group of the least pattern that repeats, or else the runs and what is between them
abbrev pub groups_with : List ℕ → Option ℕ → List Group
groups_with bytes (Some p) = record { times = length bytes / p; bytes = take p bytes } ∷ []
groups_with bytes None = groups_of_runs (runs_of bytes)

abbrev pub groups_of : List ℕ → List Group
groups_of bytes = groups_with bytes (find (repeats bytes) periods)

-- iterated data in place of bytes, where it is shorter
abbrev pub shorter_than : List ℕ → List ℕ → Option (List ℕ)
shorter_than bytes packed = if nat_lt (length packed) (length bytes) then Some packed else None

-- The iterated data of a page, where a page is written so. A page without data never is, since nothing is
-- shorter than nothing.
abbrev pub packed : List ℕ → Option (List ℕ)
packed page = shorter_than (data_of page) (groups_spelling (groups_of (data_of page)))
