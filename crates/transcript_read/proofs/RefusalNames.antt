-- Refusals without fields, by their names.
use Rattle.std.proofs.Common.{◌≡◌, ℕ, false, List, Option, Some, None, ap}
use Rattle.std.specs.Prelude.{MatchOption}
use Rattle.std.proofs.lemmas.Bool.{both_ways}
use Rattle.load_model.specs.declared.commands.Refusal.{Refusal}
use Rattle.load_model.specs.declared.commands.Refusal.TheVariants as why
use Rattle.dump_model.specs.Words.{Tells}
use Rattle.transcript_read.specs.Refusals.{is_plain_name, plain_name, IsPlainRefusal}

none_plain : (w : List ℕ) → is_plain_name w ≡ false → (r : Refusal) → IsPlainRefusal r → w ≡ plain_name r → ⊥
none_plain w h (why.ArenaFull number of object size) hr is = absurd hr
none_plain w h (why.InitFailed number by) hr is = absurd hr
none_plain w h (why.NotTouched p) hr is = absurd hr
none_plain w h r hr is = both_ways (is_plain_name w) h (ap is_plain_name is)

pub plain_told : (told : Option Refusal) (w : List ℕ) → MatchOption told (is_plain_name w ≡ false) (λ r. IsPlainRefusal r × (w ≡ plain_name r))
    → Tells plain_name IsPlainRefusal told w
plain_told (Some r) w h = h
plain_told None w h = none_plain w h
