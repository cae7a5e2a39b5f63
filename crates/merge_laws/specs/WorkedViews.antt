-- Worked values: the views of a process after its load, and at the end of a touch, and what they give it to account for.
use Rattle.std.specs.Prelude.{◌≡◌, ℕ, false, List, [], ◌∷◌, ◌++◌, None, codes}
use Rattle.load_model.specs.declared.commands.Command.TheVariants as commands
use Rattle.load_model.specs.declared.commands.Refusal.TheVariants as why
use Rattle.load_model.specs.declared.commands.Reply.TheVariants as replies
use Rattle.load_model.specs.declared.deeds.Deed.TheVariants.{Free}
use Rattle.load_model.specs.declared.deeds.Entry.{Entry}
use Rattle.load_model.specs.Memory.{page}
use Rattle.load_model.specs.Samples.{zeros, fresh}
use Rattle.load_model.specs.Step.{steady, answer_of}
use Rattle.load_model.specs.Views.{Mapped, Holding, mapped_pages, StandsFor}
use Rattle.session_model.specs.declared.sessions.Line.{Line}
use Rattle.session_model.specs.WorkedRuns.{entry_of, line_at}
use Rattle.merge_laws.specs.Accounts.{own_state, Account}
use Rattle.merge_laws.specs.OwnStates.{HasTouched}
use Rattle.merge_laws.specs.WorkedAccounts.{E, at_E, load_new, load_again, fault_by, whole, loads, in_touch, touched_whole, touched_commands}

-- it holds one load of the library, and has mapped nothing
abbrev pub after_load : Holding
after_load = record {
  pid = 1;
  ended = false;
  counts = record { started = None; loads = 1 ∷ []; reached = 1 ∷ []; attached = 0 ∷ [] };
  residences = fresh 1 0 (0x10000000 ∷ []) ∷ [];
  mapped = [];
  front = 2;
}

-- a page of zeros
abbrev pub mapped_at : ℕ → Mapped
mapped_at n = record { of = record { serial = 1; page = page 1 n }; bytes = [] }

-- and at the end of its touch the three pages
abbrev pub at_end : Holding
at_end = record after_load { mapped = mapped_at 0 ∷ mapped_at 1 ∷ mapped_at 2 ∷ []; front = 5 }

-- the process frees the library
abbrev pub and_leaves : List Entry
and_leaves = load_new ∷ load_again ∷ fault_by 1 0 ∷ fault_by 2 1 ∷ fault_by 1 2 ∷ entry_of 1 (Free 0 [] []) ∷ []

-- it peeks after its touch
abbrev pub peek_line : Line
peek_line = line_at 5 (commands.Peek (at_E 0 2)) (replies.Bytes (0 ∷ 0 ∷ []))

pub record WorkedViews : Type 0 where
  pub loaded : StandsFor E [] zeros after_load loads
  pub untouched : HasTouched E [] 1 loads [] (mapped_pages after_load)
  pub refused : answer_of E zeros (own_state E [] 1 loads []) 1 (commands.Peek (at_E 0 2)) ≡ steady (replies.Refused (why.NotTouched 0))
  pub started : answer_of E zeros (own_state E [] 1 loads []) 1 (commands.Start (codes "E")) ≡ steady (replies.Refused why.NotProgram)
  pub stands : StandsFor E [] zeros at_end in_touch
  pub accepted : answer_of E zeros (own_state E [] 1 in_touch []) 1 (commands.Touch whole) ≡ steady replies.Fine
  pub told : Account E [] zeros 1 in_touch touched_whole touched_commands
  pub touched : HasTouched E [] 1 in_touch touched_whole (mapped_pages at_end)
  pub peeked : answer_of E zeros (own_state E [] 1 in_touch touched_whole) 1 (commands.Peek (at_E 0 2)) ≡ steady (replies.Bytes (0 ∷ 0 ∷ []))
  pub and_told : Account E [] zeros 1 in_touch (touched_whole ++ peek_line ∷ []) (touched_commands ++ commands.Peek (at_E 0 2) ∷ [])
  -- with its residence go its pages
  pub left : HasTouched E [] 1 and_leaves touched_whole []
