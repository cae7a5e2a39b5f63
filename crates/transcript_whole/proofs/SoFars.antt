-- A text that is read line by line.
use Rattle.std.proofs.Common.{◌≡◌, ℕ, ◌+◌, Bool, true, false, List, [], ◌∷◌, ◌++◌, length, Option, Some, None, Result, Ok, Err, refl, sym, ◌∙◌, ap, subst, arith, append-nil}
use Rattle.std.specs.Prelude.{◌↔◌, ◌==◌, IfOk, IsTrue}
use Rattle.lx_types.specs.declared.fail.NoMemory.{NoMemory}
use Rattle.load_model.specs.Modules.{Library}
use Rattle.check_model.specs.declared.kinds.CheckKind.TheVariants as kinds
use Rattle.check_model.specs.TextFault.{TextFault}
use Rattle.transcript_lines.specs.declared.lines.TranscriptLine.{TranscriptLine}
use Rattle.transcript_lines.specs.Following.{End}
use Rattle.transcript_read.specs.TellsLine.{TellsLine}
use Rattle.transcript_whole.specs.declared.following.At.{At}
use Rattle.transcript_whole.specs.declared.following.At.TheVariants as at
use Rattle.transcript_whole.specs.declared.reading.Reading.{Reading}
use Rattle.transcript_whole.specs.Cutting.{HasNoEnd, IsFirstLine}
use Rattle.transcript_whole.specs.Places.{place_at}
use Rattle.transcript_whole.specs.Readings.{IsReadingOf, TakesLine, TakesText, SoFar, AreAll, IsTextFault}
use Rattle.transcript_whole.proofs.Texts.{AreApart, text_of}
use Rattle.transcript_whole.proofs.Faults.{HasRoom, few_lines, nothing_first, one_more, refused_line, refused_end}

-- ---- one line

pub no_text : (lib : Library) (old : Reading) (line : List ℕ) → TellsLine lib None line → TakesText lib old line None
no_text lib old line none l is ls r = absurd (none l is.range is.text)

pub takes_text : (lib : Library) → AreApart lib → (old : Reading) (l : TranscriptLine) (line : List ℕ) (taken : Option Reading) → TellsLine lib (Some l) line → TakesLine old l taken
    → TakesText lib old line taken
takes_text lib apart old l line (Some new) told takes = (l, record { range = told.0; text = told.1 }, takes)
takes_text lib apart old l line None told takes = λ m is.
    subst (λ (x : TranscriptLine). TakesLine old x None) (apart.one l m told.0 is.range (sym told.1 ∙ is.text)) takes

pub if_takes : (lib : Library) → AreApart lib → (old : Reading) (l : TranscriptLine) (line : List ℕ) (result : Result (Option Reading) NoMemory) → TellsLine lib (Some l) line
    → IfOk result (λ taken. TakesLine old l taken) → IfOk result (λ taken. TakesText lib old line taken)
if_takes lib apart old l line (Ok taken) told h = takes_text lib apart old l line taken told h
if_takes lib apart old l line (Err none) told h = tt

-- ---- tests

pub not_ended : (b : Bool) (P : Type 0) → IsTrue b ↔ P → b ≡ false → P → ⊥
not_ended b P h is p = let t : b ≡ true = h.1 p in cc (t, is)

pub not_empty : (b : Bool) (left : List ℕ) → b ≡ (length left == 0) → b ≡ false → left ≡ [] → ⊥
not_empty b left h is none = let t : b ≡ true = h ∙ ap (λ (l : List ℕ). length l == 0) none in cc (t, is)

-- ---- all lines

pub starts : (lib : Library) (bytes : List ℕ) (r : Reading) → IsReadingOf [] r → SoFar lib bytes bytes 1 r
starts lib bytes r reading = record { lines = []; count = 0; number_is = refl; first = nothing_first lib bytes; reading = reading }

pub goes : (lib : Library) (bytes left line after : List ℕ) (number : ℕ) (old new : Reading) → SoFar lib bytes left number old → IsFirstLine left line after → TakesText lib old line (Some new)
    → SoFar lib bytes after (number + 1) new
goes lib bytes left line after number old new s cut takes = record {
  lines = s.lines ++ takes.0 ∷ [];
  count = s.count + 1;
  number_is = ap (λ n. n + 1) s.number_is;
  first = one_more lib bytes left line after s.count s.lines takes.0 s.first cut takes.1;
  reading = takes.2 s.lines s.reading;
}

pub stops : (lib : Library) → AreApart lib → (bytes left line after : List ℕ) (number : ℕ) (old : Reading) → HasRoom bytes → SoFar lib bytes left number old → IsFirstLine left line after
    → TakesText lib old line None → IsTextFault lib bytes (record { line = number; kind = kinds.Text })
stops lib apart bytes left line after number old room s cut takes = record {
  kind = refl;
  line =
      subst (λ (n : ℕ). TextFault lib bytes n) (sym s.number_is)
      (refused_line lib apart bytes left line after s.count s.lines (place_at old.at (length old.draft.history) s.reading.named) room s.first s.reading.place cut
      (λ l is. takes l is s.lines s.reading));
}

at_end : (a : At) (n : ℕ) (named : List ℕ) → place_at a n named ≡ End → a ≡ at.End
at_end at.Start n named is = absurd (cc (is))
at_end (at.Entries below) n named is = absurd (cc (is))
at_end (at.Scripts last) n named is = absurd (cc (is))
at_end at.End n named is = refl

pub wants_more : (lib : Library) → AreApart lib → (bytes left : List ℕ) (number : ℕ) (old : Reading) → HasRoom bytes → SoFar lib bytes left number old → HasNoEnd left
    → (left ≡ [] → old.at ≡ at.End → ⊥) → IsTextFault lib bytes (record { line = number; kind = kinds.Text })
wants_more lib apart bytes left number old room s unended more = record {
  kind = refl;
  line =
      subst (λ (n : ℕ). TextFault lib bytes n) (sym s.number_is)
      (refused_end lib apart bytes left s.count s.lines (place_at old.at (length old.draft.history) s.reading.named) room s.first s.reading.place unended
      (λ none end. more none (at_end old.at (length old.draft.history) s.reading.named end)));
}

pub are_all : (lib : Library) (bytes left : List ℕ) (number : ℕ) (old : Reading) → HasRoom bytes → SoFar lib bytes left number old → left ≡ [] → old.at ≡ at.End → AreAll lib bytes old
are_all lib bytes left number old room s none end = record {
  lines = s.lines;
  all = s.first.all ∙ ap (λ x. text_of lib s.lines ++ x) none ∙ append-nil (text_of lib s.lines);
  range = s.first.range;
  few = let few = few_lines lib bytes left s.count s.lines s.first in omega (arith, few, room, s.first.many);
  whole = s.reading.place ∙ ap (λ (a : At). Some (place_at a (length old.draft.history) s.reading.named)) end;
  reading = s.reading;
}
