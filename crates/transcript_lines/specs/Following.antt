-- Which lines may follow each other in a transcript, whatever its modules.
use Rattle.std.specs.Prelude.{◌≡◌, ℕ, ◌+◌, ◌<◌, ◌^◌, ◌==◌, ◌&&◌, not, Bool, true, false, if◌then◌else◌, List, [], ◌∷◌, ◌++◌, length, nat_lt, option_and_then, Option, Some, None}
use Rattle.std.specs.List.{AllByRecursion, list_any}
use Rattle.lx_types.specs.declared.limits.TheConstants.{MAX_PROCESSES}
use Rattle.load_model.specs.declared.deeds.Deed.{Deed}
use Rattle.load_model.specs.declared.deeds.Deed.TheVariants as deeds
use Rattle.load_model.specs.Modules.{Library}
use Rattle.check_model.specs.Told.{Told, IsTold}
use Rattle.transcript_lines.specs.declared.lines.TranscriptLine.{TranscriptLine}
use Rattle.transcript_lines.specs.declared.lines.TranscriptLine.TheVariants as lines
use Rattle.transcript_lines.specs.Lines.{IsLineOf}
use Rattle.transcript_lines.specs.LinesOf.{lines_of}

-- which of the lines that are part of an entry may stand next
pub record Below : Type 0 where
  pub news : Bool
  pub calls : Bool
  pub gone : Bool

abbrev pub below_of : Deed → Below
below_of (deeds.Enter how m fresh calls) = record { news = true; calls = true; gone = false }
below_of (deeds.Failed how m by fresh calls gone) = record { news = true; calls = true; gone = true }
below_of (deeds.Free m calls gone) = record { news = false; calls = true; gone = true }
below_of (deeds.Exit calls gone) = record { news = false; calls = true; gone = true }
below_of deed = record { news = false; calls = false; gone = false }

-- Where a transcript has come to: nothing of it is there; so many entries, with the processes that they name; the steady lines of a
-- process, with the processes that entries name; its end.
pub data Place : Type 0 where
  Start : Place
  Entries : ℕ → Below → List ℕ → Place
  Scripts : ℕ → List ℕ → Place
  End : Place

-- no process that is named is left out between two numbers
abbrev pub is_none_between : List ℕ → ℕ → ℕ → Bool
is_none_between named low high = not (list_any (λ p. nat_lt low p && nat_lt p high) named)

-- the process of a heading: above the last one, and none that is named is left out
abbrev pub may_head : List ℕ → ℕ → ℕ → Bool
may_head named last p = nat_lt last p && is_none_between named last p

-- the last line: all processes that are named have a heading
abbrev pub may_end : List ℕ → ℕ → Bool
may_end named last = is_none_between named last (MAX_PROCESSES + 1)

abbrev pub when : Bool → Place → Option Place
when b s = if b then Some s else None

-- a line that may stand there, and where the transcript has come to with it
abbrev pub next : Place → TranscriptLine → Option Place
next Start lines.History = Some (Entries 0 (record { news = false; calls = false; gone = false }) [])
next (Entries n b named) (lines.Entry k p d) = when (k == n + 1) (Entries (n + 1) (below_of d) (p ∷ named))
next (Entries n b named) (lines.New f) = when b.news (Entries n b named)
next (Entries n b named) (lines.Call c) = when b.calls (Entries n (record { news = false; calls = b.calls; gone = b.gone }) named)
next (Entries n b named) (lines.Gone g) = when b.gone (Entries n (record { news = false; calls = false; gone = b.gone }) named)
next (Entries n b named) (lines.Process p) = when (may_head named 0 p) (Scripts p named)
next (Entries n b named) (lines.Summary c) = when (may_end named 0) End
next (Scripts last named) (lines.Process p) = when (may_head named last p) (Scripts p named)
next (Scripts last named) (lines.Steady l) = Some (Scripts last named)
next (Scripts last named) (lines.Summary c) = when (may_end named last) End
next place line = None

abbrev pub place_after : Place → List TranscriptLine → Option Place
place_after s [] = Some s
place_after s (l ∷ ls) = option_and_then (λ there. place_after there ls) (next s l)

-- What a transcript tells are lines that follow each other to its end, and lines in range that do so tell a transcript.
pub record LinesFollow : Type 0 where
  pub whole : (lib : Library) (t : Told) → IsTold lib t → place_after Start (lines_of t) ≡ Some End
  pub told : (lib : Library) (ls : List TranscriptLine) → length ls < 2 ^ 64 → AllByRecursion (IsLineOf lib) ls → place_after Start ls ≡ Some End →
      (t : Told) × IsTold lib t × (lines_of t ≡ ls)

-- Of a transcript that is told, these are the first lines.
pub record Goes (lib : Library) (ls more : List TranscriptLine) : Type 0 where
  pub told : Told
  pub is_told : IsTold lib told
  pub lines : lines_of told ≡ ls ++ more

-- A transcript begins with lines in range exactly where they follow each other; at the end it has no more.
pub record LinesBegin : Type 0 where
  pub on : (lib : Library) (ls : List TranscriptLine) (s : Place) → length ls + 18 < 2 ^ 64 → AllByRecursion (IsLineOf lib) ls →
      place_after Start ls ≡ Some s → (more : List TranscriptLine) × Goes lib ls more × (s ≡ End → more ≡ [])
  pub none : (lib : Library) (ls more : List TranscriptLine) → Goes lib ls more → place_after Start ls ≡ None → ⊥
  pub ended : (lib : Library) (ls more : List TranscriptLine) → Goes lib ls more → place_after Start ls ≡ Some End → more ≡ []
