-- What the definitions say together, entry by entry.
use Rattle.std.specs.Prelude.{◌≡◌, ◌<◌, length, ℕ, List, [], ◌∷◌, ◌++◌, map, true, false, not, ◌&&◌, ◌==◌, is_some, Option, Some, None, nat_lt, count_by}
use Rattle.lx_types.specs.declared.object.PageId.{PageId}
use Rattle.load_model.specs.declared.deeds.Gone.{Gone}
use Rattle.load_model.specs.declared.deeds.Deed.{Deed}
use Rattle.load_model.specs.declared.deeds.Deed.TheVariants as deeds
use Rattle.load_model.specs.declared.deeds.Entry.{Entry}
use Rattle.load_model.specs.declared.commands.Command.{Command}
use Rattle.load_model.specs.declared.commands.Command.TheVariants as commands
use Rattle.lx_types.specs.Object.{class_of}
use Rattle.lx_types.specs.declared.object.Class.TheVariants as classes
use Rattle.lx_types.specs.Sound.{IsNumberOf}
use Rattle.load_model.specs.Modules.{Library, Held, order_of, objects_of, object_at}
use Rattle.load_model.specs.Memory.{bases_seen, Byte}
use Rattle.load_model.specs.State.{PageOf, Failing, Eager, Residence, pids, is_among, reaches, is_reached, residence_of, attached_residence}
use Rattle.load_model.specs.Refusals.{refusal_of}
use Rattle.load_model.specs.Step.{answer_of}
use Rattle.load_model.specs.Accepted.{retouched}
use Rattle.load_model.specs.declared.commands.Ask.{Ask}
use Rattle.load_model.specs.Asks.{ask_in}
use Rattle.load_model.specs.Histories.{after_entry, state_after, is_fault_of, has_fault, Follows, Legal}

-- ---- histories

-- the process of an entry, and what it asks
abbrev pub ask_of : Entry → ℕ × Ask
ask_of entry = (entry.pid, ask_in entry.deed)

-- Two legal histories whose entries ask the same, place by place, are the same.
abbrev pub AsksDecide : Type 0
AsksDecide = (lib : Library) (failing : Failing) (contents : Held) (h k : List Entry) → Legal lib failing contents h → Legal lib failing contents k →
    map ask_of h ≡ map ask_of k → h ≡ k

-- What a legal history begins with is legal.
abbrev pub PrefixIsLegal : Type 0
PrefixIsLegal =
    (lib : Library) (failing : Failing) (contents : Held) (h more : List Entry) → Legal lib failing contents (h ++ more) → Legal lib failing contents h

-- Each entry of a legal history follows those before it.
abbrev pub EachFollows : Type 0
EachFollows =
    (lib : Library) (failing : Failing) (contents : Held) (before : List Entry) (entry : Entry) (later : List Entry) →
    Legal lib failing contents (before ++ entry ∷ later) →
    Follows lib failing contents before entry

-- A legal history and an entry that follows it are legal.
abbrev pub OneMoreIsLegal : Type 0
OneMoreIsLegal =
    (lib : Library) (failing : Failing) (contents : Held) (h : List Entry) (entry : Entry) → Legal lib failing contents h →
    Follows lib failing contents h entry → Legal lib failing contents (h ++ entry ∷ [])

-- the empty history is
abbrev pub NothingIsLegal : Type 0
NothingIsLegal = (lib : Library) (failing : Failing) (contents : Held) → Legal lib failing contents []

-- One more entry takes the state one step on.
abbrev pub OneMoreIsAfter : Type 0
OneMoreIsAfter = (lib : Library) (failing : Failing) (h : List Entry) (entry : Entry) →
    state_after lib failing (h ++ entry ∷ []) ≡ after_entry lib (state_after lib failing h) entry

-- A page of a residence has its fault once.
abbrev pub FaultOnce : Type 0
FaultOnce =
    (lib : Library) (failing : Failing) (contents : Held) (before : List Entry) (entry : Entry) (later : List Entry) (serial : ℕ) (p : PageId) →
    Legal lib failing contents (before ++ entry ∷ later) → is_fault_of serial p entry.deed ≡ true → has_fault before serial p ≡ false

-- ---- residences

-- A module is resident exactly while some process reaches it.
abbrev pub ReachedIsResident : Type 0
ReachedIsResident =
    (lib : Library) (failing : Failing) (contents : Held) (h : List Entry) → Legal lib failing contents h → (m : ℕ) →
    is_some (residence_of (state_after lib failing h) m) ≡ is_reached lib (state_after lib failing h) m

-- A process has attached exactly what it reaches.
abbrev pub AttachedIsReached : Type 0
AttachedIsReached =
    (lib : Library) (failing : Failing) (contents : Held) (h : List Entry) → Legal lib failing contents h → (pid m : ℕ) →
    is_among ((state_after lib failing h).processes pid).attached m ≡ reaches lib ((state_after lib failing h).processes pid) m

-- What an entry says is gone of the residences that stood before it. What a failed load makes ends with its own entry.
abbrev pub gone_in : Deed → List Gone
gone_in (deeds.Free m calls gone) = gone
gone_in (deeds.Exit calls gone) = gone
gone_in deed = []

-- What is gone with an entry is what was resident and no process reaches after it.
abbrev pub GoneIsUnreached : Type 0
GoneIsUnreached =
    (lib : Library) (failing : Failing) (contents : Held) (h : List Entry) (entry : Entry) (m : ℕ) → Legal lib failing contents h →
    Follows lib failing contents h entry →
    is_among (map (λ g. g.«module») (gone_in entry.deed)) m ≡
    is_some (residence_of (state_after lib failing h) m) && not (is_reached lib (after_entry lib (state_after lib failing h) entry) m)

-- a residence without the writes that are shared
abbrev pub unwritten_of : Option Residence → Option Residence
unwritten_of None = None
unwritten_of (Some r) = Some (record r { writes = [] })

-- A residence whose module is still reached after an entry stands as it was.
abbrev pub ResidenceStays : Type 0
ResidenceStays =
    (lib : Library) (failing : Failing) (contents : Held) (h : List Entry) (entry : Entry) (m : ℕ) → Legal lib failing contents h →
    Follows lib failing contents h entry →
    is_some (residence_of (state_after lib failing h) m) ≡ true → is_reached lib (after_entry lib (state_after lib failing h) entry) m ≡ true →
    unwritten_of (residence_of (after_entry lib (state_after lib failing h) entry) m) ≡ unwritten_of (residence_of (state_after lib failing h) m)

-- While a residence stands, each module that its module reaches is resident, and keeps its residence.
abbrev pub ReachStays : Type 0
ReachStays =
    (lib : Library) (failing : Failing) (contents : Held) (h : List Entry) (entry : Entry) (m k : ℕ) → Legal lib failing contents h →
    Follows lib failing contents h entry →
    is_some (residence_of (state_after lib failing h) m) ≡ true → is_some (residence_of (after_entry lib (state_after lib failing h) entry) m) ≡ true →
    is_among (order_of lib m) k ≡ true →
    (is_some (residence_of (state_after lib failing h) k) ≡ true)
    × (unwritten_of (residence_of (after_entry lib (state_after lib failing h) entry) k) ≡ unwritten_of (residence_of (state_after lib failing h) k))

-- ---- other processes

-- a command that is answered without an entry: a touch, a peek, a query, or the search for a resource
abbrev pub IsSteady : Command → Type 0
IsSteady (commands.Touch place) = Unit {0}
IsSteady (commands.Peek place) = Unit {0}
IsSteady (commands.Query name key) = Unit {0}
IsSteady (commands.GetRes name ty id) = Unit {0}
IsSteady (commands.Start name) = ⊥
IsSteady (commands.Load name) = ⊥
IsSteady (commands.Free name) = ⊥
IsSteady (commands.Shared place) = ⊥
IsSteady (commands.Write place bytes) = ⊥
IsSteady (commands.Debug place bytes) = ⊥
IsSteady commands.Exit = ⊥

-- An entry of another process changes no refusal of a process, and no answer of a touch, a peek, a query or
-- the search for a resource,
-- whatever was touched so far.
abbrev pub OthersRefuseAlike : Type 0
OthersRefuseAlike =
    (lib : Library) (failing : Failing) (contents : Held) (h : List Entry) (entry : Entry) (touched : ℕ → List PageOf) (pid : ℕ) (command : Command) →
    Legal lib failing contents h →
    Follows lib failing contents h entry → is_among pids pid ≡ true → (pid == entry.pid) ≡ false →
    refusal_of lib (retouched touched (after_entry lib (state_after lib failing h) entry)) pid command
    ≡ refusal_of lib (retouched touched (state_after lib failing h)) pid command

abbrev pub OthersAnswerAlike : Type 0
OthersAnswerAlike =
    (lib : Library) (failing : Failing) (contents : Held) (h : List Entry) (entry : Entry) (touched : ℕ → List PageOf) (pid : ℕ) (command : Command) →
    Legal lib failing contents h →
    Follows lib failing contents h entry → is_among pids pid ≡ true → (pid == entry.pid) ≡ false → IsSteady command →
    answer_of lib contents (retouched touched (after_entry lib (state_after lib failing h) entry)) pid command ≡
    answer_of lib contents (retouched touched (state_after lib failing h)) pid command

-- Nor does it change a byte of code, or of the process's own data, in a residence that the process reaches.
abbrev pub OthersBytesAlike : Type 0
OthersBytesAlike =
    (lib : Library) (failing : Failing) (contents : Held) (h : List Entry) (entry : Entry) (pid m object x : ℕ) (before after : Residence) →
    Legal lib failing contents h →
    Follows lib failing contents h entry → is_among pids pid ≡ true → (pid == entry.pid) ≡ false → (class_of (object_at lib m object) ≡ classes.Shared → ⊥) →
    attached_residence lib (state_after lib failing h) pid m ≡ Some before →
    attached_residence lib (after_entry lib (state_after lib failing h) entry) pid m ≡ Some after →
    Byte lib contents (after_entry lib (state_after lib failing h) entry) pid after object x ≡ Byte lib contents (state_after lib failing h) pid before object x

-- ---- what objects hold

-- Two ways to say what objects hold agree on what a process can see in a state: each byte of an object of a
-- module that is reached, at the bases of its residence and of those that it reaches.
abbrev pub AgreeAt : Library → Held → Held → Eager → Type 0
AgreeAt lib a b e =
    (m object x : ℕ) → is_reached lib e m ≡ true → IsNumberOf object (length (objects_of lib m)) → x < (object_at lib m object).size →
    a m (bases_seen lib e m) object x ≡ b m (bases_seen lib e m) object x

-- Where they agree, each command has one answer.
abbrev pub HeldAnswersAlike : Type 0
HeldAnswersAlike =
    (lib : Library) (a b : Held) (e : Eager) (pid : ℕ) (command : Command) → is_among pids pid ≡ true → AgreeAt lib a b e →
    answer_of lib a e pid command ≡ answer_of lib b e pid command

-- Where they agree in each state along a history, it is legal by both.
abbrev pub HeldHistoriesAlike : Type 0
HeldHistoriesAlike =
    (lib : Library) (failing : Failing) (a b : Held) (h : List Entry) →
    ((before later : List Entry) → h ≡ before ++ later → AgreeAt lib a b (state_after lib failing before)) →
    Legal lib failing a h → Legal lib failing b h

-- ---- counts

-- How many processes reach a module says whether it is resident.
abbrev pub CountsAreResidence : Type 0
CountsAreResidence =
    (lib : Library) (failing : Failing) (contents : Held) (h : List Entry) → Legal lib failing contents h → (m : ℕ) →
    is_some (residence_of (state_after lib failing h) m) ≡ nat_lt 0 (count_by (λ pid. reaches lib ((state_after lib failing h).processes pid) m) pids)
