-- What a merge has to do with its history.
use Rattle.std.specs.Prelude.{◌≡◌, ℕ, ◌≤◌, List, ◌++◌, length, filter_map, Option, Some, None}
use Rattle.lx_types.specs.declared.limits.TheConstants.{MAX_PROCESSES}
use Rattle.load_model.specs.declared.deeds.Deed.{Deed}
use Rattle.load_model.specs.declared.deeds.Entry.{Entry}
use Rattle.load_model.specs.Modules.{Library, Held}
use Rattle.load_model.specs.State.{PageOf, Failing, Eager}
use Rattle.load_model.specs.Histories.{state_after}
use Rattle.load_model.specs.Accepted.{retouched}
use Rattle.load_model.specs.Touched.{SamePages}
use Rattle.load_model.specs.Laws.{AgreeAt}
use Rattle.session_model.specs.declared.sessions.Script.{Script}
use Rattle.session_model.specs.declared.sessions.ScriptLines.{ScriptLines}
use Rattle.session_model.specs.Merging.{Item, entry, line, merge_of, state_after_items, uses_touched, Merge}

abbrev pub entry_in : Item → Option Entry
entry_in (entry x) = Some x
entry_in (line pid l) = None

-- the entries of some items, in their order
abbrev pub entries_in : List Item → List Entry
entries_in items = filter_map entry_in items

-- The entries of a merge are its history.
abbrev pub MergeHasHistory : Type 0
MergeHasHistory = (h : List Entry) (s : List ScriptLines) → entries_in (merge_of h s) ≡ h

-- what each process touched in a state
abbrev pub touched_in : Eager → ℕ → List PageOf
touched_in e pid = (e.processes pid).touched

-- The state after some items is the state after their entries, but for touched pages.
abbrev pub StatesAreTheHistorys : Type 0
StatesAreTheHistorys =
    (lib : Library) (failing : Failing) (items : List Item) →
    state_after_items lib failing items ≡ retouched (touched_in (state_after_items lib failing items)) (state_after lib failing (entries_in items))

-- Where two ways to say what objects hold agree along a history, the same lines merge with it by both. There
-- are no more scripts than processes.
abbrev pub HeldMergesAlike : Type 0
HeldMergesAlike =
    (lib : Library) (failing : Failing) (a b : Held) (h : List Entry) (s : List ScriptLines) (scripts : List Script) → length scripts ≤ MAX_PROCESSES →
    ((before after : List Entry) → h ≡ before ++ after → AgreeAt lib a b (state_after lib failing before)) → Merge lib failing a h s scripts →
    Merge lib failing b h s scripts

-- Of touched pages an entry uses which pages its process touched, and nothing else.
abbrev pub UsesByPages : Type 0
UsesByPages =
    (e : Eager) (a b : ℕ → List PageOf) (pid : ℕ) (deed : Deed) → SamePages (a pid) (b pid) →
    uses_touched (retouched a e) pid deed ≡ uses_touched (retouched b e) pid deed
