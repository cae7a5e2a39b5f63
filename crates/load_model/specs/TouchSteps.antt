-- The steps of a touch: how many sources of fixups the call itself put.
use Rattle.std.specs.Prelude.{◌≡◌, ℕ, ◌+◌, ◌==◌, false, List, [], ◌∷◌, ◌++◌, sum_by, if◌then◌else◌}
use Rattle.std.specs.List.{AllByRecursion}
use Rattle.lx_types.specs.declared.object.PageId.{PageId}
use Rattle.lx_types.specs.Object.{class_of}
use Rattle.load_model.specs.declared.deeds.Deed.{Deed}
use Rattle.load_model.specs.declared.deeds.Deed.TheVariants as deeds
use Rattle.load_model.specs.declared.deeds.Entry.{Entry}
use Rattle.load_model.specs.Modules.{Library, object_at, source_count}
use Rattle.load_model.specs.State.{PageOf}
use Rattle.load_model.specs.Asks.{is_own}

-- Who makes the fault of a page fixes it.
abbrev pub fault_steps : Library → Deed → ℕ
fault_steps lib (deeds.Fault serial m p) = source_count lib m p
fault_steps lib deed = 0

abbrev pub entry_steps : Library → ℕ → Entry → ℕ
entry_steps lib pid x = if x.pid == pid then fault_steps lib x.deed else 0

-- A page of a private object is fixed by each process that maps it. Another one that it maps was fixed with its fault.
abbrev pub mapped_steps : Library → ℕ → PageId → ℕ
mapped_steps lib m p = if is_own (class_of (object_at lib m p.object)) then source_count lib m p else 0

-- The steps of a call of a process that was shown these entries, its own among them, and newly mapped these pages of a
-- residence of the module.
unfoldable pub touch_steps : Library → ℕ → ℕ → List Entry → List PageOf → ℕ
touch_steps lib pid m shown mapped = sum_by (entry_steps lib pid) shown + sum_by (λ (t : PageOf). mapped_steps lib m t.page) mapped

-- ---- one step further

-- Entries of other processes count nothing.
abbrev pub OthersCountNothing : Type 0
OthersCountNothing =
    (lib : Library) (pid m : ℕ) (shown more : List Entry) (mapped : List PageOf) → AllByRecursion (λ (x : Entry). (x.pid == pid) ≡ false) more →
    touch_steps lib pid m (shown ++ more) mapped ≡ touch_steps lib pid m shown mapped

-- A fault counts the sources of its page.
abbrev pub FaultCounts : Type 0
FaultCounts =
    (lib : Library) (pid m serial : ℕ) (p : PageId) (shown : List Entry) (mapped : List PageOf) →
    touch_steps lib pid m (shown ++ record { pid = pid; deed = deeds.Fault serial m p } ∷ []) mapped ≡ touch_steps lib pid m shown mapped + source_count lib m p

-- A page that is mapped counts its sources where it is private, and otherwise nothing.
abbrev pub MappedCounts : Type 0
MappedCounts =
    (lib : Library) (pid m : ℕ) (t : PageOf) (shown : List Entry) (mapped : List PageOf) →
    touch_steps lib pid m shown (mapped ++ t ∷ []) ≡ touch_steps lib pid m shown mapped + mapped_steps lib m t.page
