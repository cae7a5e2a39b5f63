-- States in which given pages were touched, and the pages of a place.
use Rattle.std.specs.Prelude.{ℕ, Bool, List, map}
use Rattle.std.specs.List.{list_all}
use Rattle.load_model.specs.declared.commands.Place.{Place}
use Rattle.load_model.specs.declared.deeds.Entry.{Entry}
use Rattle.load_model.specs.Modules.{Library}
use Rattle.load_model.specs.State.{PageOf, Failing, Eager, serial_of}
use Rattle.load_model.specs.Memory.{page, pages_over}
use Rattle.load_model.specs.Histories.{state_after}
use Rattle.load_model.specs.Accepted.{retouched}
use Rattle.load_model.specs.TouchedPages.{has_page}
use Rattle.load_model.specs.Views.{Holding}
use Rattle.load_model.specs.ViewAnswers.{reached_named}

-- the pages of a place in a residence
abbrev pub pages_at : ℕ → Place → List PageOf
pages_at serial at = map (λ n. record { serial = serial; page = page at.object n }) (pages_over at.offset at.len)

-- the history's state, in which these were touched
abbrev pub state_with : Library → Failing → List Entry → List PageOf → Eager
state_with lib failing h pages = retouched (λ q. pages) (state_after lib failing h)

-- the serial number of the residence in which a place is, as the view has it
abbrev pub serial_seen : Library → Holding → Place → ℕ
serial_seen lib v at = serial_of (reached_named lib v at.«module»)

-- all pages of a place in a residence are among these
abbrev pub has_pages : List PageOf → ℕ → Place → Bool
has_pages pages serial at = list_all (λ n. has_page pages serial (page at.object n)) (pages_over at.offset at.len)
