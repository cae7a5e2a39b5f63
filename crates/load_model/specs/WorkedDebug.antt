-- Worked values: writes to a process's own copy of code.
use Rattle.std.specs.Prelude.{◌≡◌, ℕ, [], ◌∷◌, ◌++◌, codes}
use Rattle.load_model.specs.declared.commands.Command.TheVariants.{Load, Free, Peek, Write, Debug}
use Rattle.load_model.specs.declared.commands.Reply.TheVariants.{Bytes}
use Rattle.load_model.specs.declared.commands.Refusal.TheVariants as why
use Rattle.load_model.specs.declared.deeds.Deed.TheVariants as deeds
use Rattle.load_model.specs.Step.{entry, steady, Answer}
use Rattle.load_model.specs.Samples.{Commands, answer_after, place, refused}
use Rattle.load_model.specs.WorkedBytes.{store, touch_S}

-- both load S and touch its code, and the first sets a break in it
abbrev break_set : Commands
break_set =
    (1, Load (codes "S")) ∷ (2, Load (codes "S")) ∷ (1, touch_S 1) ∷ (2, touch_S 1) ∷ (1, Debug (place (codes "S") 1 0 1) (0xCC ∷ [])) ∷ []

abbrev peeked : Commands → ℕ → Answer
peeked before pid = answer_after store before pid (Peek (place (codes "S") 1 0 2))

pub record WorkedDebug : Type 0 where
  pub debug : answer_after store break_set 1 (Debug (place (codes "S") 1 4 1) (0xCC ∷ [])) ≡ entry (deeds.Debug 1 0 1 4 (0xCC ∷ []))
  -- the process sees it, and no other does
  pub own : peeked break_set 1 ≡ steady (Bytes (0xCC ∷ 0 ∷ []))
  pub others : peeked break_set 2 ≡ steady (Bytes (0 ∷ 0 ∷ []))
  -- the last write counts
  pub again : peeked (break_set ++ (1, Debug (place (codes "S") 1 0 2) (0x90 ∷ 0x90 ∷ [])) ∷ []) 1 ≡ steady (Bytes (0x90 ∷ 0x90 ∷ []))
  -- it ends as the process frees the library, also where the residence stands
  pub freed : peeked (break_set ++ (1, Free (codes "S")) ∷ (1, Load (codes "S")) ∷ (1, touch_S 1) ∷ []) 1 ≡ steady (Bytes (0 ∷ 0 ∷ []))
  pub shared : answer_after store break_set 1 (Debug (place (codes "S") 2 0 1) (1 ∷ [])) ≡ refused why.NotCode
  pub private : answer_after store break_set 1 (Debug (place (codes "S") 3 0 1) (1 ∷ [])) ≡ refused why.NotCode
  pub not_touched : answer_after store ((1, Load (codes "S")) ∷ []) 1 (Debug (place (codes "S") 1 0 1) (0xCC ∷ [])) ≡ refused (why.NotTouched 0)
  -- a plain write to code is refused as before
  pub read_only : answer_after store break_set 1 (Write (place (codes "S") 1 0 1) (1 ∷ [])) ≡ refused why.ReadOnly
