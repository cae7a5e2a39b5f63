-- Worked values: what a process's own view answers, before and after a write of its own, and the pages that it keeps
-- after a free.
use Rattle.std.specs.Prelude.{◌≡◌, [], ◌∷◌, map, codes, None, Some}
use Rattle.load_model.specs.declared.commands.Command.TheVariants.{Load, Free, Peek}
use Rattle.load_model.specs.declared.commands.Reply.TheVariants.{Bytes}
use Rattle.load_model.specs.declared.commands.Refusal.TheVariants as why
use Rattle.load_model.specs.Memory.{page}
use Rattle.load_model.specs.State.{Eager, nothing_yet}
use Rattle.load_model.specs.Leaving.{freeing}
use Rattle.load_model.specs.Samples.{Commands, state_from, place, fresh}
use Rattle.load_model.specs.Views.{Mapped, Holding, new_holding}
use Rattle.load_model.specs.ViewAnswers.{view_refusal, view_reply}
use Rattle.load_model.specs.WrittenPages.{written_over}
use Rattle.load_model.specs.ViewLeaving.{mapped_kept}
use Rattle.load_model.specs.WorkedBytes.{store}

-- one load of S, and nothing mapped
abbrev loaded : Holding
loaded = record (new_holding store 1) {
  counts = record { started = None; loads = 1 ∷ []; reached = 1 ∷ []; attached = 0 ∷ [] };
  residences = fresh 1 0 (0x10000000 ∷ 0x10010000 ∷ 0x10020000 ∷ []) ∷ [];
  front = 1;
}

-- the page of the private object, with its first bytes
abbrev own_page : Mapped
own_page = record { of = record { serial = 1; page = page 3 0 }; bytes = 7 ∷ 8 ∷ 9 ∷ [] }

abbrev touched : Holding
touched = record loaded { mapped = own_page ∷ [] }

-- after a write of one byte at the second
abbrev written : Holding
written = record touched { mapped = map (written_over 1 (record { object = 3; offset = 1; bytes = 0xAA ∷ [] })) touched.mapped; front = 2 }

-- after loads of S
abbrev after : Commands → Eager
after loads = state_from store (nothing_yet []) loads

abbrev one_load : Commands
one_load = (1, Load (codes "S")) ∷ []

pub record WorkedViews : Type 0 where
  pub nothing : view_refusal store (new_holding store 1) (Peek (place (codes "S") 3 0 1)) ≡ Some why.NotAttached
  pub not_held : view_refusal store (new_holding store 1) (Free (codes "S")) ≡ Some why.NotHeld
  pub held : view_refusal store loaded (Free (codes "S")) ≡ None
  pub untouched : view_refusal store loaded (Peek (place (codes "S") 3 0 1)) ≡ Some (why.NotTouched 0)
  pub shared : view_refusal store touched (Peek (place (codes "S") 2 0 1)) ≡ Some why.IsShared
  pub past : view_refusal store touched (Peek (place (codes "S") 3 15 2)) ≡ Some why.Range
  pub fine : view_refusal store touched (Peek (place (codes "S") 3 0 3)) ≡ None
  pub read : view_reply store touched (Peek (place (codes "S") 3 0 3)) ≡ Some (Bytes (7 ∷ 8 ∷ 9 ∷ []))
  pub read_again : view_reply store written (Peek (place (codes "S") 3 0 3)) ≡ Some (Bytes (7 ∷ 0xAA ∷ 9 ∷ []))
  -- with one load given up the process leaves the residence; with one of two it does not
  pub gone : mapped_kept store (after one_load) (freeing 0 ((after one_load).processes 1)) (own_page ∷ []) ≡ []
  pub kept :
      mapped_kept store (after ((1, Load (codes "S")) ∷ one_load)) (freeing 0 ((after ((1, Load (codes "S")) ∷ one_load)).processes 1)) (own_page ∷ [])
      ≡ own_page ∷ []
