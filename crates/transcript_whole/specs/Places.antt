-- Where a reader has come to in a transcript. The processes that entries name are those of its history.
use Rattle.std.specs.Prelude.{◌≡◌, ℕ, ◌+◌, Bool, List, [], ◌∷◌, length, Option, option_map}
use Rattle.std.specs.List.{list_any}
use Rattle.load_model.specs.declared.deeds.Entry.{Entry}
use Rattle.transcript_lines.specs.declared.lines.TranscriptLine.{TranscriptLine}
use Rattle.transcript_lines.specs.declared.lines.TranscriptLine.TheVariants as lines
use Rattle.transcript_lines.specs.Following.{Place, Start, Entries, Scripts, End, next}
use Rattle.transcript_lines.specs.Following as following
use Rattle.transcript_whole.specs.declared.following.Below.{Below}
use Rattle.transcript_whole.specs.declared.following.At.{At}
use Rattle.transcript_whole.specs.declared.following.At.TheVariants as at

abbrev pub below_seen : Below → following.Below
below_seen b = record { news = b.news; calls = b.calls; gone = b.gone }

-- after so many entries, which name these processes
abbrev pub place_at : At → ℕ → List ℕ → Place
place_at at.Start n named = Start
place_at (at.Entries below) n named = Entries n (below_seen below) named
place_at (at.Scripts last) n named = Scripts last named
place_at at.End n named = End

-- The processes that are named are those of these entries: a test holds of one of the first where it holds of one of the others.
abbrev pub AreNamed : List ℕ → List Entry → Type 0
AreNamed named history = (f : ℕ → Bool) → list_any f named ≡ list_any (λ x. f x.pid) history

abbrev pub count_after : ℕ → TranscriptLine → ℕ
count_after n (lines.Entry number process deed) = n + 1
count_after n line = n

abbrev pub named_after : List ℕ → TranscriptLine → List ℕ
named_after named (lines.Entry number process deed) = process ∷ named
named_after named line = named

-- before the first line there is no entry
abbrev pub IsEmptyAtStart : At → List Entry → Type 0
IsEmptyAtStart at.Start history = history ≡ []
IsEmptyAtStart here history = Unit {0}

-- After these entries a line may stand at a place, and this is where the reader is then; or it may not.
abbrev pub IsNext : At → List Entry → TranscriptLine → Option At → Type 0
IsNext here history line there =
    (named : List ℕ) → AreNamed named history → IsEmptyAtStart here history →
    next (place_at here (length history) named) line ≡ option_map (λ a. place_at a (count_after (length history) line) (named_after named line)) there
