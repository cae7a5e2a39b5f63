-- What was refused, and what is said.
use Rattle.std.specs.Prelude.{◌≡◌, ◌||◌, Bool, true, Option, MatchOption, nat_eq}
use Rattle.answer_model.specs.declared.said.Said.{Said}
use Rattle.refusal_text.specs.declared.refused.Refused.{Refused}
use Rattle.refusal_text.specs.Refusals.{said_of}

-- It is no refusal: all was done, or the words are no command.
abbrev pub is_plain : Said → Bool
is_plain said = nat_eq said.status 0 || nat_eq said.status 2

-- What is said is the text of what was refused, with its status. Where nothing was refused, it is no refusal.
abbrev pub TellsOf : Option Refused → Said → Type 0
TellsOf refused said = MatchOption refused (is_plain said ≡ true) (λ own. said ≡ said_of own)
