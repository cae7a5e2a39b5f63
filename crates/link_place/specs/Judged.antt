-- Fixups that are judged in order, and what is left of those that are not refused.
use Rattle.std.specs.Prelude.{◌≡◌, List, ◌++◌, Option, None, map}
use Rattle.link_model.specs.declared.refusals.FixRefusal.{FixRefusal}
use Rattle.link_model.specs.Words.{first_of}
use Rattle.link_model.specs.Fixups as rules
use Rattle.link_fix.specs.declared.fixup.Fixup.{Fixup}
use Rattle.link_fix.specs.Bare.{bare}
use Rattle.link_fix.specs.Shown.{shown}

-- The refusal of the first of these that has one.
abbrev pub first_refusal : List rules.Fixup → Option FixRefusal
first_refusal qs = first_of (map rules.fix_refusal qs)

-- None of these is refused, and what is left of them stands after those that were there.
abbrev pub Adds : List rules.Fixup → List Fixup → List Fixup → Type 0
Adds qs old new = (first_refusal qs ≡ None) × (map shown new ≡ map shown old ++ map bare qs)
