-- Refusals by their names, and their fields.
use Rattle.std.specs.Prelude.{ℕ, Bool, ◌||◌, List, [], ◌∷◌, codes, decimal, bytes_eq}
use Rattle.load_model.specs.declared.commands.Refusal.{Refusal}
use Rattle.load_model.specs.declared.commands.Refusal.TheVariants as why
use Rattle.check_model.specs.Told.{Has32, Has64}
use Rattle.transcript_read.specs.declared.refusals.FullBy.{FullBy}
use Rattle.transcript_read.specs.declared.refusals.FailedAt.{FailedAt}
use Rattle.transcript_read.specs.Words.{Row}

abbrev pub is_word : List ℕ → List ℕ → Bool
is_word a b = bytes_eq a b

-- the names of refusals that have no fields
abbrev pub is_plain_name : List ℕ → Bool
is_plain_name w =
    is_word w (codes "Ended") || is_word w (codes "Worn") || is_word w (codes "Started") || is_word w (codes "NoModule") || is_word w (codes "NotLibrary")
    || is_word w (codes "NotProgram") || is_word w (codes "NoEntry") || is_word w (codes "ForwardLoop") || is_word w (codes "Gate286")
    || is_word w (codes "CountFull") || is_word w (codes "NotHeld") || is_word w (codes "NotAttached") || is_word w (codes "Range")
    || is_word w (codes "ReadOnly") || is_word w (codes "IsShared") || is_word w (codes "NotShared") || is_word w (codes "NotCode")
    || is_word w (codes "Invalid") || is_word w (codes "NoResource")

abbrev pub plain_name : Refusal → List ℕ
plain_name why.Ended = codes "Ended"
plain_name why.Worn = codes "Worn"
plain_name why.Started = codes "Started"
plain_name why.NoModule = codes "NoModule"
plain_name why.NotLibrary = codes "NotLibrary"
plain_name why.NotProgram = codes "NotProgram"
plain_name why.NoEntry = codes "NoEntry"
plain_name why.ForwardLoop = codes "ForwardLoop"
plain_name why.Gate286 = codes "Gate286"
plain_name why.CountFull = codes "CountFull"
plain_name (why.ArenaFull number of object size) = []
plain_name (why.InitFailed number by) = []
plain_name why.NotHeld = codes "NotHeld"
plain_name why.NotAttached = codes "NotAttached"
plain_name why.Range = codes "Range"
plain_name why.ReadOnly = codes "ReadOnly"
plain_name why.IsShared = codes "IsShared"
plain_name why.NotShared = codes "NotShared"
plain_name why.NotCode = codes "NotCode"
plain_name why.Invalid = codes "Invalid"
plain_name (why.NotTouched p) = []
plain_name why.NoResource = codes "NoResource"

abbrev pub IsPlainRefusal : Refusal → Type 0
IsPlainRefusal (why.ArenaFull number of object size) = ⊥
IsPlainRefusal (why.InitFailed number by) = ⊥
IsPlainRefusal (why.NotTouched p) = ⊥
IsPlainRefusal refusal = Unit {0}

-- ---- those with fields

abbrev pub IsFullBy : FullBy → Type 0
IsFullBy x = Has64 x.number × Has32 x.of × Has32 x.object × Has32 x.size

abbrev pub full_words : FullBy → Row
full_words x = codes "ArenaFull" ∷ decimal x.number ∷ decimal x.of ∷ decimal x.object ∷ decimal x.size ∷ []

abbrev pub IsFailedAt : FailedAt → Type 0
IsFailedAt x = Has64 x.number × Has32 x.by

abbrev pub failed_words : FailedAt → Row
failed_words x = codes "InitFailed" ∷ decimal x.number ∷ decimal x.by ∷ []

abbrev pub touched_words : ℕ → Row
touched_words page = codes "NotTouched" ∷ decimal page ∷ []

abbrev pub plain_words : Refusal → Row
plain_words r = plain_name r ∷ []
