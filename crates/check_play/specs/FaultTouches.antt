-- The touch for which a process makes a fault, and what the fault comes to.
use Rattle.std.specs.Prelude.{◌≡◌, ℕ, ◌==◌, ◌&&◌, Bool, List, [], ◌∷◌, ◌++◌, length, Option, Some, None, if◌then◌else◌}
use Rattle.lx_types.specs.declared.object.PageId.{PageId}
use Rattle.lx_types.specs.Sound.{IsNumberOf}
use Rattle.load_model.specs.declared.commands.Place.{Place}
use Rattle.load_model.specs.declared.commands.Command.{Command}
use Rattle.load_model.specs.declared.commands.Command.TheVariants as commands
use Rattle.load_model.specs.declared.commands.Reply.{Reply}
use Rattle.load_model.specs.declared.commands.Reply.TheVariants as replies
use Rattle.load_model.specs.declared.deeds.Deed.TheVariants as deeds
use Rattle.load_model.specs.declared.deeds.Entry.{Entry}
use Rattle.load_model.specs.Modules.{Library, objects_of}
use Rattle.load_model.specs.State.{Residence, Eager, is_among}
use Rattle.load_model.specs.Memory.{pages_over}
use Rattle.load_model.specs.Step.{serial_named}
use Rattle.load_model.specs.Views.{mapped_pages}
use Rattle.load_model.specs.ViewAnswers.{reached_named}
use Rattle.load_core.specs.BoardState.{IsLegal, with_entry}
use Rattle.session_model.specs.Merging.{Item, entry, line}
use Rattle.process_view.specs.ProcessViews.{ProcessView}
use Rattle.check_play.specs.declared.standing.Standing.{Standing}
use Rattle.check_play.specs.declared.faults.ResidencePage.{ResidencePage}
use Rattle.check_play.specs.Standing.{IsStanding, StandsShown}

-- ---- the touch

-- the place covers a page of its object
abbrev pub covers : Place → PageId → Bool
covers at p = (at.object == p.object) && is_among (pages_over at.offset at.len) p.page

-- the place covers a page of the residence of this serial number, which a process reaches
abbrev pub covers_in : Library → Eager → ℕ → ℕ → PageId → Place → Bool
covers_in lib e pid serial p at = (serial_named lib e pid at == serial) && covers at p

-- the place of an accepted touch that covers the page, whether or not the process had touched it
abbrev pub touch_in : Library → Eager → ℕ → ℕ → PageId → Command → Reply → Option Place
touch_in lib e pid serial p (commands.Touch at) replies.Fine = if covers_in lib e pid serial p at then Some at else None
touch_in lib e pid serial p command reply = None

-- the same of what the process does next
abbrev pub next_touch : Library → Eager → ℕ → ℕ → PageId → Option Item → Option Place
next_touch lib e pid serial p None = None
next_touch lib e pid serial p (Some (entry x)) = None
next_touch lib e pid serial p (Some (line other l)) = touch_in lib e pid serial p l.command l.reply

-- ---- the residence

-- A view reaches the residence of the module that a name means, and the module has the object.
pub record HasObject (v : ProcessView) (name : List ℕ) (object : ℕ) : Type 0 where
  pub residence : Residence
  pub reached : reached_named v.library v.holding name ≡ Some residence
  pub there : IsNumberOf object (length (objects_of v.library residence.«module»))

-- ---- the fault

-- the entry of a fault that the process of a view makes
abbrev pub residence_fault : ProcessView → ResidencePage → Entry
residence_fault v at = record { pid = v.holding.pid; deed = deeds.Fault at.residence.serial at.residence.«module» at.page }

-- The fault has its entry now, and the view, which has mapped the page, stands for all that was done.
pub record IsFaultMade (s t : Standing) (v w : ProcessView) (at : ResidencePage) : Type 0 where
  pub board : t.board ≡ with_entry s.board (residence_fault v at)
  pub legal : IsLegal t.board
  pub kept : IsStanding t
  pub number : w.holding.pid ≡ v.holding.pid
  pub stands : StandsShown t.board w
  pub mapped : mapped_pages w.holding ≡ mapped_pages v.holding ++ record { serial = at.residence.serial; page = at.page } ∷ []
