-- A line is the words that it has.
use Rattle.std.proofs.Common.{◌≡◌, ℕ, ◌<◌, ◌^◌, List, [], ◌∷◌, ◌++◌, length, Option, Some, None, refl, sym, ◌∙◌, ap, arith}
use Rattle.std.specs.List.{AllByRecursion}
use Rattle.load_model.specs.declared.deeds.How.TheVariants as ways
use Rattle.load_model.specs.declared.deeds.Deed.TheVariants as deeds
use Rattle.load_model.specs.Modules.{Library}
use Rattle.session_model.specs.Text.{words, line_of}
use Rattle.session_model.specs.Transcript.{line_text}
use Rattle.check_model.specs.Told.{IsFresh, IsCall, IsGone, IsLine, AreCounts, count_words}
use Rattle.dump_model.specs.Words.{IsWord}
use Rattle.dump_model.proofs.NumberLaws.{count-word}
use Rattle.transcript_laws.proofs.DeedRows.{deed_are_words, deed_are_rows}
use Rattle.transcript_laws.proofs.LineRows.{line_is_row}
use Rattle.transcript_lines.specs.declared.lines.TranscriptLine.{TranscriptLine}
use Rattle.transcript_lines.specs.declared.lines.TranscriptLine.TheVariants as lines
use Rattle.transcript_read.specs.Words.{Row, split}
use Rattle.transcript_read.specs.Taken.{Tells}
use Rattle.transcript_lines.specs.Lines.{IsProcess, process_words, entry_words, told_line, IsLineOf}
use Rattle.transcript_read.specs.TellsLine.{TellsLine}
use Rattle.transcript_read.specs.Ranges.{IsBareEntry}
use Rattle.transcript_read.specs.Rows.{Any, new_row, call_row, gone_row, steady_row, history_row, entry_row}
use Rattle.transcript_read.proofs.Splits.{words_split, split_words, same_front}
use Rattle.transcript_read.proofs.CommandLaws.{words_inside}

-- the words of a line
abbrev pub row_of : Library → TranscriptLine → Row
row_of lib lines.History = history_row tt
row_of lib (lines.Entry number process deed) = entry_words lib number process deed
row_of lib (lines.New fresh) = new_row lib fresh
row_of lib (lines.Call call) = call_row lib call
row_of lib (lines.Gone gone) = gone_row lib gone
row_of lib (lines.Process pid) = process_words pid
row_of lib (lines.Steady line) = steady_row line
row_of lib (lines.Summary counts) = count_words counts

pub line_is : (lib : Library) (l : TranscriptLine) → told_line lib l ≡ line_of (row_of lib l)
unfolding line_text
line_is lib lines.History = refl
line_is lib (lines.Entry number process deed) = refl
line_is lib (lines.New fresh) = refl
line_is lib (lines.Call call) = refl
line_is lib (lines.Gone gone) = refl
line_is lib (lines.Process pid) = refl
line_is lib (lines.Steady line) = refl
line_is lib (lines.Summary counts) = refl

-- one word at least, without breaks
abbrev pub AreWords : Row → Type 0
AreWords ws = (0 < length ws) × AllByRecursion IsWord ws

process_small : (n : ℕ) → IsProcess n → n < 2 ^ 64
process_small n h = omega (arith, h.1)

pub are_words : (lib : Library) (l : TranscriptLine) → IsLineOf lib l → AreWords (row_of lib l)
are_words lib lines.History h = (omega arith, (refl, tt))
are_words lib (lines.Entry number process deed) h =
    (omega arith, (count-word number h.0, (count-word process (process_small process h.1), deed_are_words lib deed h.2)))
are_words lib (lines.New fresh) h = (deed_are_rows lib (deeds.Enter ways.Load fresh.«module» (fresh ∷ []) []) (h.0.1, (h, tt), tt)).0
are_words lib (lines.Call call) h = (deed_are_rows lib (deeds.Exit (call ∷ []) []) ((h, tt), tt)).0
are_words lib (lines.Gone gone) h = (deed_are_rows lib (deeds.Exit [] (gone ∷ [])) (tt, (h, tt))).0
are_words lib (lines.Process pid) h = (omega arith, (refl, (count-word pid (process_small pid h), tt)))
are_words lib (lines.Steady line) h = line_is_row line h
are_words lib (lines.Summary c) h =
    (omega arith, (refl, (refl, (count-word c.processes h.processes, (refl, (count-word c.entries h.entries, (refl, (count-word c.faults h.faults, tt))))))))

-- ---- lines without their ends

splits : (ws : Row) → AreWords ws → split (words ws) ≡ ws
splits [] h = absurd (let some : 0 < 0 = h.0 in let none : ⊥ = omega arith in none)
splits (w ∷ ws) h = split_words w ws (words_inside (w ∷ ws) h.1)

pub line_row : (lib : Library) (l : TranscriptLine) (line : List ℕ) → IsLineOf lib l → line ++ 0x0A ∷ [] ≡ told_line lib l → split line ≡ row_of lib l
line_row lib l line h is =
    let same : line ≡ words (row_of lib l) = same_front line (words (row_of lib l)) 0x0A (is ∙ line_is lib l) in
    ap split same ∙ splits (row_of lib l) (are_words lib l h)

pub row_line : (lib : Library) (l : TranscriptLine) (line : List ℕ) → split line ≡ row_of lib l → line ++ 0x0A ∷ [] ≡ told_line lib l
row_line lib l line is =
    ap (λ bytes. bytes ++ 0x0A ∷ []) (sym (words_split line) ∙ ap words is) ∙ sym (line_is lib l)

-- ---- what is told of a line

-- a part that is told makes a line
pub told_as : {A : Type 0} {part : A → Row} {Part : A → Type 0} {told : Option A} {s : Option Row} → Tells part Part told s → (a : A) → told ≡ Some a
    → (lib : Library) (line : List ℕ) → s ≡ Some (split line) → (l : TranscriptLine) → (Part a → IsLineOf lib l) → row_of lib l ≡ part a → TellsLine lib (Some l) line
told_as {A} {part} {Part} {told} {s} it a is lib line whole l range row =
    let found = it.some a is in
    let same : split line ≡ part a = cc (whole, found.1) in
    (range found.0, row_line lib l line (same ∙ sym row))

pub no_line : (lib : Library) (line : List ℕ) (s : Option Row) → s ≡ Some (split line) → Tells (entry_row lib) (IsBareEntry lib) None s → Tells steady_row IsLine None s
    → Tells (call_row lib) (IsCall lib) None s → Tells (new_row lib) (IsFresh lib) None s → Tells (gone_row lib) (IsGone lib) None s → Tells process_words IsProcess None s
    → Tells count_words AreCounts None s → Tells history_row Any None s → TellsLine lib None line
no_line lib line s whole entry steady call fresh gone process summary history l h is = by l h (whole ∙ ap (λ r. Some r) (line_row lib l line h is))
  where
    by : (l : TranscriptLine) → IsLineOf lib l → s ≡ Some (row_of lib l) → ⊥
    by lines.History h there = history.none refl tt tt there
    by (lines.Entry number p deed) h there = entry.none refl (record { number = number; process = p; deed = deed }) (h.0, h.1, (h.2, h.3)) there
    by (lines.New x) h there = fresh.none refl x h there
    by (lines.Call x) h there = call.none refl x h there
    by (lines.Gone x) h there = gone.none refl x h there
    by (lines.Process pid) h there = process.none refl pid h there
    by (lines.Steady x) h there = steady.none refl x h there
    by (lines.Summary x) h there = summary.none refl x h there
