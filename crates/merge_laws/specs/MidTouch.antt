-- A process in the midst of a touch: the faults that it made for it wait for the line, with entries of others between.
use Rattle.std.specs.Prelude.{◌≡◌, ◌⊎◌, ℕ, List, find, None, IsTrue}
use Rattle.load_model.specs.declared.commands.Place.{Place}
use Rattle.load_model.specs.declared.commands.Command.{Command}
use Rattle.load_model.specs.declared.commands.Command.TheVariants as commands
use Rattle.load_model.specs.declared.commands.Reply.TheVariants as replies
use Rattle.load_model.specs.declared.deeds.Deed.{Deed}
use Rattle.load_model.specs.declared.deeds.Deed.TheVariants as deeds
use Rattle.load_model.specs.declared.deeds.Entry.{Entry}
use Rattle.load_model.specs.Modules.{Library, Held}
use Rattle.load_model.specs.State.{Failing, Eager}
use Rattle.session_model.specs.declared.sessions.Line.{Line}
use Rattle.session_model.specs.Merging.{entry, line, is_command_of, fault_leads, is_first_touch, state_after_items}
use Rattle.merge_laws.specs.Accounts.{Claim, AccountBy}

-- the line of an accepted touch
abbrev pub touch_line : ℕ → Place → Line
touch_line front at = record { front = front; command = commands.Touch at; reply = replies.Fine }

-- the deed is the fault of a page that the touch of this place would cover for the first time
abbrev pub IsFaultFor : Library → Eager → ℕ → Place → Deed → Type 0
IsFaultFor lib e pid at (deeds.Fault serial m p) = IsTrue (is_first_touch lib e pid serial p (commands.Touch at) replies.Fine)
IsFaultFor lib e pid at deed = ⊥

-- a fault leads to its touch, or is one for the touch of this place, with no command of the process after it
abbrev pub LeadsOrWaits : Library → Failing → Place → Claim
LeadsOrWaits lib failing at before (entry x) after =
    IsTrue (fault_leads lib (state_after_items lib failing before) x.pid x.deed after)
    ⊎ ((find (is_command_of x.pid) after ≡ None) × IsFaultFor lib (state_after_items lib failing before) x.pid at x.deed)
LeadsOrWaits lib failing at before (line pid l) after = Unit {0}

-- The account of a process that is touching a place: that of before, but for faults that wait.
abbrev pub AccountInTouch : Library → Failing → Held → ℕ → Place → List Entry → List Line → List Command → Type 0
AccountInTouch lib failing contents pid at h lines done = AccountBy (LeadsOrWaits lib failing at) lib failing contents pid h lines done
