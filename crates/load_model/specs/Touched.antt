-- What the touched pages of processes decide, and what becomes of them.
use Rattle.std.specs.Prelude.{◌≡◌, ℕ, List}
use Rattle.lx_types.specs.declared.object.PageId.{PageId}
use Rattle.load_model.specs.declared.commands.Command.{Command}
use Rattle.load_model.specs.declared.deeds.Deed.{Deed}
use Rattle.load_model.specs.Modules.{Library, Held}
use Rattle.load_model.specs.State.{PageOf, Eager}
use Rattle.load_model.specs.Refusals.{refusal_of}
use Rattle.load_model.specs.Asks.{after_deed}
use Rattle.load_model.specs.Step.{answer_of}
use Rattle.load_model.specs.TouchedPages.{has_page, touched_after}
use Rattle.load_model.specs.Accepted.{retouched}

-- ---- answers

-- the same pages, in whatever order and however often
abbrev pub SamePages : List PageOf → List PageOf → Type 0
SamePages a b = (serial : ℕ) (q : PageId) → has_page a serial q ≡ has_page b serial q

-- Of what was touched it counts for a process which pages it touched itself, and nothing else.
abbrev pub AnsweredByPages : Type 0
AnsweredByPages =
    (lib : Library) (contents : Held) (e : Eager) (a b : ℕ → List PageOf) (pid : ℕ) (command : Command) → SamePages (a pid) (b pid) →
    (refusal_of lib (retouched a e) pid command ≡ refusal_of lib (retouched b e) pid command)
    × (answer_of lib contents (retouched a e) pid command ≡ answer_of lib contents (retouched b e) pid command)

-- ---- entries

-- Whatever was touched, an entry changes all else in one way, and touches nothing.
abbrev pub EntriesMoveTouched : Type 0
EntriesMoveTouched =
    (lib : Library) (e : Eager) (touched : ℕ → List PageOf) (pid : ℕ) (deed : Deed) →
    after_deed lib (retouched touched e) pid deed ≡ retouched (touched_after lib e pid deed touched) (after_deed lib e pid deed)
