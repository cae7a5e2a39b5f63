-- Tests that pass and fail.
use Rattle.std.proofs.Common.{◌≡◌, Bool, true, false, refl, sym, Some, None, ℕ, cond, is_some}

-- two tests of which each passes where the other does
pub same_test : (a b : Bool) → (a ≡ true → b ≡ true) → (b ≡ true → a ≡ true) → a ≡ b
same_test true b f g = sym (f refl)
same_test false true f g = g refl
same_test false false f g = refl

-- an item that is there where a test passes
pub some_by : (b : Bool) (k : ℕ) → is_some (cond b (Some k) None) ≡ b
some_by true k = refl
some_by false k = refl
