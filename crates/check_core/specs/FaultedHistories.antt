-- Which pages had their fault, by keys.
use Rattle.std.specs.Prelude.{◌≡◌, ℕ, ◌==◌, ◌&&◌, Bool, List}
use Rattle.std.specs.HashSet as bag
use Rattle.std.specs.HashSet.{HashSet}
use Rattle.lx_types.specs.declared.object.PageId.{PageId}
use Rattle.load_model.specs.declared.deeds.Entry.{Entry}
use Rattle.load_model.specs.Histories.{has_fault}
use Rattle.check_core.specs.declared.faulted.FaultedPages.{FaultedPages}

-- a serial number, and the numbers of an object and of a page
abbrev pub PageKey : Type 0
PageKey = ℕ × (ℕ × ℕ)

abbrev pub same : PageKey → PageKey → Bool
same a b = (a.0 == b.0) && ((a.1.0 == b.1.0) && (a.1.1 == b.1.1))

abbrev pub has_key : {S : Type 0} → HashSet PageKey S → ℕ → PageId → Bool
has_key keys serial page = bag.contains same keys (serial, (page.object, page.page))

-- page by page, these had their fault in a history
abbrev pub AreFaults : (ℕ → PageId → Bool) → List Entry → Type 0
AreFaults faulted h = (serial : ℕ) (page : PageId) → faulted serial page ≡ has_fault h serial page

abbrev pub AreFaultsOf : FaultedPages → List Entry → Type 0
AreFaultsOf f h = AreFaults (has_key f.keys) h
