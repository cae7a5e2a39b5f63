-- The pages that processes have touched, and those that they keep.
use Rattle.std.specs.Prelude.{ℕ, ◌==◌, ◌&&◌, Bool, not, List, filter, if◌then◌else◌}
use Rattle.std.specs.List.{list_any}
use Rattle.lx_types.specs.declared.object.PageId.{PageId}
use Rattle.load_model.specs.declared.deeds.Deed.{Deed}
use Rattle.load_model.specs.declared.deeds.Deed.TheVariants as deeds
use Rattle.load_model.specs.Modules.{Library}
use Rattle.load_model.specs.State.{PageOf, Process, Eager, is_among}
use Rattle.load_model.specs.Leaving.{freeing, exiting, left_serials}
use Rattle.load_model.specs.Memory.{is_page}

-- a page of a residence is one of these
abbrev pub has_page : List PageOf → ℕ → PageId → Bool
has_page touched serial q = list_any (λ t. (t.serial == serial) && is_page t.page q) touched

-- the touched pages that a process keeps that would be this one afterwards
abbrev pub pages_kept : Library → Eager → Process → List PageOf → List PageOf
pages_kept lib e p touched = filter (λ t. not (is_among (left_serials lib e p) t.serial)) touched

-- what is touched after an entry: a process that leaves residences leaves their pages
abbrev pub touched_after : Library → Eager → ℕ → Deed → (ℕ → List PageOf) → ℕ → List PageOf
touched_after lib e pid (deeds.Free m calls gone) touched q = if q == pid then pages_kept lib e (freeing m (e.processes pid)) (touched q) else touched q
touched_after lib e pid (deeds.Exit calls gone) touched q = if q == pid then pages_kept lib e (exiting (e.processes pid)) (touched q) else touched q
touched_after lib e pid deed touched q = touched q
