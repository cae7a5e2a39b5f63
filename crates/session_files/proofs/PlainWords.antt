-- The words of a session are texts.
use Rattle.std.proofs.Common.{ℕ, ◌<◌, ◌≤◌, List, [], ◌∷◌, arith}
use Rattle.std.specs.List.{AllByRecursion}
use Rattle.std.specs.Str.{IsUtf8}
use Rattle.std.proofs.lemmas.List.Elements.{All-from_recursion}
use Rattle.std.proofs.lemmas.Str.{IsUtf8-from_ascii}
use Rattle.std.proofs.lemmas.Str.Ascii.{IsAscii-from_all}
use Rattle.session_text.specs.Writable.{IsPlain, IsVisible}

visible_low : (bytes : List ℕ) → AllByRecursion IsVisible bytes → AllByRecursion (λ b. b < 128) bytes
visible_low [] all = tt
visible_low (b ∷ bytes) all = (low b all.0.1, visible_low bytes all.1)
  where
    low : (b : ℕ) → b ≤ 0x7E → b < 128
    low b most = omega (arith, most)

pub plain_is_utf8 : (name : List ℕ) → IsPlain name → IsUtf8 name
plain_is_utf8 name plain = IsUtf8-from_ascii name (IsAscii-from_all name (All-from_recursion (λ b. b < 128) name (visible_low name plain.visible)))
