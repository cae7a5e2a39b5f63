-- Worked values: shared and private writes of two processes, touches, addresses, and each refusal.
use Rattle.std.specs.Prelude.{◌≡◌, ℕ, [], ◌∷◌, ◌++◌, codes}
use Rattle.load_model.specs.declared.commands.Command.{Command}
use Rattle.load_model.specs.declared.commands.Command.TheVariants as commands
use Rattle.load_model.specs.declared.commands.Command.TheVariants.{Start, Load, Free, Touch, Peek, Write, Query, Exit}
use Rattle.load_model.specs.declared.commands.Reply.TheVariants.{Bytes}
use Rattle.load_model.specs.declared.commands.Refusal.TheVariants as why
use Rattle.load_model.specs.declared.deeds.Deed.TheVariants as deeds
use Rattle.load_model.specs.Modules.{Library}
use Rattle.load_model.specs.Step.{entry, steady}
use Rattle.load_model.specs.Samples.{Commands, code, own_data, shared_data, object, library, answer_after, place, refused}

-- ---- two processes, and a library with code, a shared object and a private one

abbrev pub store : Library
store = library (codes "S") (object code 16 0x10000000 ∷ object shared_data 16 0x10010000 ∷ object own_data 16 0x10020000 ∷ []) ∷ []

abbrev pub touch_S : ℕ → Command
touch_S n = Touch (place (codes "S") n 0 16)

-- both load S and touch it, and the first writes AA into each
abbrev pub both_write : Commands
both_write =
    (1, Load (codes "S")) ∷ (2, Load (codes "S")) ∷ (1, touch_S 2) ∷ (1, touch_S 3) ∷ (2, touch_S 2) ∷ (2, touch_S 3)
    ∷ (1, Write (place (codes "S") 2 0 1) (0xAA ∷ [])) ∷ (1, Write (place (codes "S") 3 0 1) (0xAA ∷ [])) ∷ []

pub record WorkedWrites : Type 0 where
  pub write : answer_after store both_write 1 (Write (place (codes "S") 3 1 2) (1 ∷ 2 ∷ [])) ≡ entry (deeds.Write 1 0 3 1 (1 ∷ 2 ∷ []))
  -- the other sees the shared write, and not the private one
  pub shared : answer_after store both_write 2 (commands.Shared (place (codes "S") 2 0 2)) ≡ entry (deeds.Shared 1 0 2 0 (0xAA ∷ 0 ∷ []))
  pub others : answer_after store both_write 2 (Peek (place (codes "S") 3 0 2)) ≡ steady (Bytes (0 ∷ 0 ∷ []))
  pub own : answer_after store both_write 1 (Peek (place (codes "S") 3 0 2)) ≡ steady (Bytes (0xAA ∷ 0 ∷ []))
  -- the last write counts
  pub last :
      answer_after store (both_write ++ (1, Write (place (codes "S") 3 0 2) (0xBB ∷ 0xCC ∷ [])) ∷ []) 1 (Peek (place (codes "S") 3 0 3)) ≡
      steady (Bytes (0xBB ∷ 0xCC ∷ 0 ∷ []))
  -- own writes and touches end as the process frees it, also where the residence stands
  pub untouched :
      answer_after store (both_write ++ (1, Free (codes "S")) ∷ (1, Load (codes "S")) ∷ []) 1 (Peek (place (codes "S") 3 0 1)) ≡ refused (why.NotTouched 0)
  pub private_ends :
      answer_after store (both_write ++ (1, Free (codes "S")) ∷ (1, Load (codes "S")) ∷ (1, touch_S 3) ∷ []) 1 (Peek (place (codes "S") 3 0 1)) ≡
      steady (Bytes (0 ∷ []))
  -- shared writes end with the residence
  pub shared_stays :
      answer_after store (both_write ++ (1, Free (codes "S")) ∷ (1, Load (codes "S")) ∷ (1, touch_S 2) ∷ []) 1 (commands.Shared (place (codes "S") 2 0 1)) ≡
      entry (deeds.Shared 1 0 2 0 (0xAA ∷ []))
  pub shared_ends :
      answer_after store (both_write ++ (1, Exit) ∷ (2, Free (codes "S")) ∷ (2, Load (codes "S")) ∷ (2, touch_S 2) ∷ []) 2
      (commands.Shared (place (codes "S") 2 0 1)) ≡
      entry (deeds.Shared 2 0 2 0 (0 ∷ []))
