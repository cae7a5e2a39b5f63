-- The laws of views.
use Rattle.std.specs.Prelude.{◌≡◌, ℕ, ◌==◌, find, option_map, map, ◌++◌, ◌∷◌, true, false, List, [], length, Some, None}
use Rattle.std.specs.List.{AllByRecursion}
use Rattle.lx_types.specs.Object.{class_of}
use Rattle.lx_types.specs.declared.object.Class.TheVariants as classes
use Rattle.load_model.specs.declared.commands.Command.{Command}
use Rattle.load_model.specs.declared.commands.Reply.{Reply}
use Rattle.load_model.specs.declared.deeds.Deed.{Deed}
use Rattle.load_model.specs.declared.deeds.Deed.TheVariants as deeds
use Rattle.load_model.specs.declared.deeds.Entry.{Entry}
use Rattle.load_model.specs.Modules.{Library, Held, object_at}
use Rattle.load_model.specs.State.{Written, Failing, pids, is_among, attached_residence}
use Rattle.load_model.specs.ProcessCounts.{ProcessCounts, AreCountsOf}
use Rattle.load_model.specs.declared.deeds.How.{How}
use Rattle.load_model.specs.declared.deeds.Call.{Call}
use Rattle.load_model.specs.declared.deeds.Fresh.{Fresh}
use Rattle.load_model.specs.Refusals.{refusal_of}
use Rattle.load_model.specs.Step.{steady, answer_of}
use Rattle.load_model.specs.Histories.{state_after, Follows, Legal}
use Rattle.load_model.specs.Views.{Mapped, Holding, new_holding, fresh_of, mapped_pages, is_covered, IsMapped, WasFixed, StandsFor, state_for}
use Rattle.load_model.specs.ViewAnswers.{view_refusal, view_reply}
use Rattle.load_model.specs.WrittenPages.{written_over}

-- A new view stands for the history in which nothing was done.
abbrev pub NewStands : Type 0
NewStands = (lib : Library) (failing : Failing) (contents : Held) (pid : ℕ) → StandsFor lib failing contents (new_holding lib pid) []

-- What a view stands for goes on through entries of other processes.
abbrev pub StandsOn : Type 0
StandsOn =
    (lib : Library) (failing : Failing) (contents : Held) (v : Holding) (h more : List Entry) → is_among pids v.pid ≡ true →
    StandsFor lib failing contents v h →
    Legal lib failing contents (h ++ more) → AllByRecursion (λ (x : Entry). (v.pid == x.pid) ≡ false) more →
    StandsFor lib failing contents (record v { front = length (h ++ more) }) (h ++ more)

-- A view's refusals are the loader's.
abbrev pub RefusedByView : Type 0
RefusedByView =
    (lib : Library) (failing : Failing) (contents : Held) (v : Holding) (h : List Entry) (command : Command) → StandsFor lib failing contents v h →
    refusal_of lib (state_for lib failing v h) v.pid command ≡ view_refusal lib v command

-- Where a view refuses nothing, its reply is the loader's, for each command that has no entry.
abbrev pub AnsweredByView : Type 0
AnsweredByView =
    (lib : Library) (failing : Failing) (contents : Held) (v : Holding) (h : List Entry) (command : Command) (reply : Reply) → Legal lib failing contents h →
    StandsFor lib failing contents v h → view_refusal lib v command ≡ None → view_reply lib v command ≡ Some reply →
    answer_of lib contents (state_for lib failing v h) v.pid command ≡ steady reply

-- ---- entries of the process itself, and pages

-- an entry that changes nothing which a view has: it fails, reads or writes what is shared, or is a fault
abbrev pub IsQuiet : Library → Deed → Type 0
IsQuiet lib (deeds.Write serial m object offset bytes) = class_of (object_at lib m object) ≡ classes.Shared
IsQuiet lib (deeds.Enter how m fresh calls) = ⊥
IsQuiet lib (deeds.Free m calls gone) = ⊥
IsQuiet lib (deeds.Exit calls gone) = ⊥
IsQuiet lib (deeds.Debug serial m object offset bytes) = ⊥
IsQuiet lib deed = Unit {0}

-- After such an entry of its own a view stands as it was, and was shown one entry more.
abbrev pub StandsQuiet : Type 0
StandsQuiet =
    (lib : Library) (failing : Failing) (contents : Held) (v : Holding) (h : List Entry) (x : Entry) → x.pid ≡ v.pid → IsQuiet lib x.deed →
    StandsFor lib failing contents v h → StandsFor lib failing contents (record v { front = length (h ++ x ∷ []) }) (h ++ x ∷ [])

-- A page more that is mapped: its bytes are those that lie there, and where it is no private one it had its fault.
abbrev pub StandsMapped : Type 0
StandsMapped =
    (lib : Library) (failing : Failing) (contents : Held) (v : Holding) (h : List Entry) (p : Mapped) →
    IsMapped lib contents (state_after lib failing h) v.pid p →
    WasFixed lib v h p → StandsFor lib failing contents v h → StandsFor lib failing contents (record v { mapped = v.mapped ++ p ∷ [] }) h

-- ---- what the process writes for itself

-- an entry writes to a private object, or to code, of a residence of a module
abbrev pub WritesOwn : Library → Deed → ℕ → ℕ → Written → Type 0
WritesOwn lib (deeds.Write serial m object offset bytes) s k w =
    (class_of (object_at lib m object) ≡ classes.Private) × (s ≡ serial) × (k ≡ m) × (w ≡ record { object = object; offset = offset; bytes = bytes })
WritesOwn lib (deeds.Debug serial m object offset bytes) s k w =
    (class_of (object_at lib m object) ≡ classes.Code) × (s ≡ serial) × (k ≡ m) × (w ≡ record { object = object; offset = offset; bytes = bytes })
WritesOwn lib deed s k w = ⊥

-- After such an entry of its own a view stands with the bytes put into its pages, where all of those are mapped.
abbrev pub StandsWritten : Type 0
StandsWritten =
    (lib : Library) (failing : Failing) (contents : Held) (v : Holding) (h : List Entry) (x : Entry) (serial m : ℕ) (w : Written) →
    Legal lib failing contents h →
    Follows lib failing contents h x → x.pid ≡ v.pid → WritesOwn lib x.deed serial m w →
    is_covered (mapped_pages v) (record { serial = serial; write = w }) ≡ true →
    StandsFor lib failing contents v h →
    StandsFor lib failing contents (record v { mapped = map (written_over serial w) v.mapped; front = length (h ++ x ∷ []) }) (h ++ x ∷ [])

-- ---- what the process loads

-- After a start or a load of its own a view stands with the counts and the residences that the process has then:
-- the pages that were mapped stand as they were.
abbrev pub StandsEntered : Type 0
StandsEntered =
    (lib : Library) (failing : Failing) (contents : Held) (v : Holding) (h : List Entry) (x : Entry) (how : How) (m : ℕ) (fresh : List Fresh)
    (calls : List Call)
    (counts : ProcessCounts) (residences : List Fresh) → Legal lib failing contents h → Follows lib failing contents h x → x.pid ≡ v.pid →
    x.deed ≡ deeds.Enter how m fresh calls →
    AreCountsOf lib ((state_after lib failing (h ++ x ∷ [])).processes v.pid) counts →
    ((k : ℕ) → find (λ s. s.«module» == k) residences ≡ option_map fresh_of (attached_residence lib (state_after lib failing (h ++ x ∷ [])) v.pid k)) →
    StandsFor lib failing contents v h →
    StandsFor lib failing contents (record v { counts = counts; residences = residences; front = length (h ++ x ∷ []) }) (h ++ x ∷ [])
