-- Which faults may be asked.
use Rattle.std.specs.Prelude.{◌≡◌, ℕ, ◌&&◌, not}
use Rattle.lx_types.specs.declared.object.PageId.{PageId}
use Rattle.lx_model.specs.Library.{module_of}
use Rattle.page_fix.specs.Fixable.{is_fixable}
use Rattle.load_model.specs.declared.commands.Ask.TheVariants.{Fault as fault}
use Rattle.load_model.specs.Modules.{Library}
use Rattle.load_model.specs.State.{Eager}
use Rattle.load_model.specs.Asks.{may_ask, is_attached}

-- A process may ask for the fault of a page exactly where it has not ended, reaches the residence, and the page is one that all
-- processes share.
abbrev pub FaultsByPages : Type 0
FaultsByPages =
    (lib : Library) (e : Eager) (pid serial m : ℕ) (p : PageId) →
    may_ask lib e pid (fault serial m p) ≡ not (e.processes pid).ended && (is_attached lib e pid serial m && is_fixable (module_of lib m) p)
