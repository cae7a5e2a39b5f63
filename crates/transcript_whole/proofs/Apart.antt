-- Lines of a transcript have texts of their own.
use Rattle.std.proofs.Common.{◌≡◌, ℕ, ◌+◌, ◌<◌, ◌^◌, Bool, true, false, cond, List, [], ◌∷◌, ◌++◌, length, drop, get_or, refl, sym, ◌∙◌, ap, arith}
use Rattle.std.specs.Prelude.{◌==◌, not, codes, decimal, count_by}
use Rattle.std.specs.List.{AllByRecursion}
use Rattle.std.proofs.lemmas.Bool.{and_parts}
use Rattle.load_model.specs.declared.deeds.Call.{Call}
use Rattle.load_model.specs.declared.deeds.Deed.{Deed}
use Rattle.load_model.specs.declared.deeds.Deed.TheVariants as deeds
use Rattle.load_model.specs.declared.deeds.Fresh.{Fresh}
use Rattle.load_model.specs.declared.deeds.Gone.{Gone}
use Rattle.load_model.specs.declared.deeds.How.TheVariants as ways
use Rattle.load_model.specs.Modules.{Library}
use Rattle.session_model.specs.Text.{words}
use Rattle.session_model.specs.Transcript.{module_text, deed_words}
use Rattle.dump_model.specs.Words.{is_in_word, no_break, IsWord}
use Rattle.dump_model.proofs.WordLaws.{same-head}
use Rattle.check_model.specs.declared.kinds.Counts.{Counts}
use Rattle.check_model.specs.TextFault.{is_line_end}
use Rattle.check_model.specs.Told.{IsFresh, IsCall, IsGone, IsDeed, AreCounts, count_words}
use Rattle.transcript_laws.specs.TellsOne.{HasNames}
use Rattle.transcript_laws.proofs.RowKinds.{kind}
use Rattle.transcript_laws.proofs.ValueWords.{number_one, number_kind}
use Rattle.transcript_laws.proofs.DeedRows.{new_row, call_row, gone_row, deed_rows, deed_one}
use Rattle.transcript_laws.proofs.LineRows.{line_one}
use Rattle.transcript_lines.specs.declared.lines.TranscriptLine.{TranscriptLine}
use Rattle.transcript_lines.specs.declared.lines.TranscriptLine.TheVariants as lines
use Rattle.transcript_lines.specs.Lines.{IsProcess, IsBare, told_line, IsLineOf}
use Rattle.transcript_read.specs.Words.{Row}
use Rattle.transcript_read.proofs.LineLaws.{row_of, line_is, are_words, line_row}
use Rattle.transcript_whole.specs.Cutting.{HasNoEnd}
use Rattle.transcript_whole.proofs.LineCuts.{ends_front, ends_joined}
use Rattle.transcript_whole.proofs.Texts.{AreApart}

-- ---- no line ends within words

word_inside : (w : List ℕ) → IsWord w → HasNoEnd w
word_inside [] h = refl
word_inside (b ∷ w) h =
    let parts = and_parts (is_in_word b) (no_break w) h in
    let rest = word_inside w parts.1 in
    ends_front b w ∙ by (b == 0x0A) (and_parts (not (b == 0x20)) (not (b == 0x0A)) parts.0).1 rest
  where
    by : (t : Bool) → not t ≡ true → HasNoEnd w → cond t 1 0 + count_by is_line_end w ≡ 0
    by true is rest = absurd (cc (is))
    by false is rest = omega (arith, rest)

words_inside : (ws : Row) → AllByRecursion IsWord ws → HasNoEnd (words ws)
words_inside [] h = refl
words_inside (w ∷ []) h = word_inside w h.0
words_inside (w ∷ v ∷ ws) h =
    let rest = words_inside (v ∷ ws) h.1 in
    let first = word_inside w h.0 in
    omega (arith, ends_joined w (0x20 ∷ words (v ∷ ws)), ends_front 0x20 (words (v ∷ ws)), rest, first)

-- ---- rows tell lines

abbrev tag : TranscriptLine → ℕ
tag lines.History = 6
tag (lines.Entry number process deed) = 4
tag (lines.New fresh) = 0
tag (lines.Call call) = 1
tag (lines.Gone gone) = 2
tag (lines.Process pid) = 5
tag (lines.Steady line) = 3
tag (lines.Summary counts) = 6

tagged : (lib : Library) (l : TranscriptLine) → IsLineOf lib l → kind (row_of lib l) ≡ tag l
tagged lib lines.History h = refl
tagged lib (lines.Entry number process deed) h = number_kind number ((codes "P" ++ decimal process) ∷ deed_words lib deed) h.0
tagged lib (lines.New fresh) h = refl
tagged lib (lines.Call call) h = refl
tagged lib (lines.Gone gone) h = refl
tagged lib (lines.Process pid) h = refl
tagged lib (lines.Steady line) h = refl
tagged lib (lines.Summary counts) h = refl

no_rows : (lib : Library) (d : Deed) → IsBare d → deed_rows lib d ≡ []
no_rows lib (deeds.Enter how m fresh calls) h = λ i. deed_rows lib (deeds.Enter how m (h.0 i) (h.1 i))
no_rows lib (deeds.Failed how m by fresh calls gone) h = λ i. deed_rows lib (deeds.Failed how m by (h.0 i) (h.1 i) (h.2 i))
no_rows lib (deeds.Free m calls gone) h = λ i. deed_rows lib (deeds.Free m (h.0 i) (h.1 i))
no_rows lib (deeds.Exit calls gone) h = λ i. deed_rows lib (deeds.Exit (h.0 i) (h.1 i))
no_rows lib (deeds.Full how m of object size) h = refl
no_rows lib (deeds.Fault serial m p) h = refl
no_rows lib (deeds.Write serial m object offset bytes) h = refl
no_rows lib (deeds.Debug serial m object offset bytes) h = refl
no_rows lib (deeds.Shared serial m object offset bytes) h = refl

bare_one : (lib : Library) → HasNames lib → (d e : Deed) → IsDeed lib d → IsDeed lib e → IsBare d → IsBare e → deed_words lib d ≡ deed_words lib e → d ≡ e
bare_one lib names d e hd he bd be is =
    (deed_one lib names d e [] [] hd he (tt, tt, tt) (tt, tt, tt) is (ap (λ (rows : List Row). rows ++ []) (no_rows lib d bd ∙ sym (no_rows lib e be)))).0

fresh_one : (lib : Library) → HasNames lib → (a b : Fresh) → IsFresh lib a → IsFresh lib b → new_row lib a ≡ new_row lib b → a ≡ b
fresh_one lib names a b ha hb is =
    let module_is : module_text lib a.«module» ≡ module_text lib b.«module» = ap (λ (ws : Row). get_or ws 4 []) is in
    let one : deeds.Enter ways.Load a.«module» (a ∷ []) [] ≡ deeds.Enter ways.Load b.«module» (b ∷ []) [] =
    (deed_one lib names (deeds.Enter ways.Load a.«module» (a ∷ []) []) (deeds.Enter ways.Load b.«module» (b ∷ []) []) [] [] (ha.0.1, (ha, tt), tt) (hb.0.1, (hb, tt), tt) (tt, tt, tt) (tt, tt, tt)
    (ap (λ w. codes "load" ∷ w ∷ []) module_is) (ap (λ (w : Row). w ∷ []) is)).0 in
    cc (one)

call_one : (lib : Library) → HasNames lib → (a b : Call) → IsCall lib a → IsCall lib b → call_row lib a ≡ call_row lib b → a ≡ b
call_one lib names a b ha hb is =
    let one : deeds.Exit (a ∷ []) [] ≡ deeds.Exit (b ∷ []) [] =
    (deed_one lib names (deeds.Exit (a ∷ []) []) (deeds.Exit (b ∷ []) []) [] [] ((ha, tt), tt) ((hb, tt), tt) (tt, tt, tt) (tt, tt, tt) refl (ap (λ (w : Row). w ∷ []) is)).0 in
    cc (one)

gone_one : (lib : Library) → HasNames lib → (a b : Gone) → IsGone lib a → IsGone lib b → gone_row lib a ≡ gone_row lib b → a ≡ b
gone_one lib names a b ha hb is =
    let one : deeds.Exit [] (a ∷ []) ≡ deeds.Exit [] (b ∷ []) =
    (deed_one lib names (deeds.Exit [] (a ∷ [])) (deeds.Exit [] (b ∷ [])) [] [] (tt, (ha, tt)) (tt, (hb, tt)) (tt, tt, tt) (tt, tt, tt) refl (ap (λ (w : Row). w ∷ []) is)).0 in
    cc (one)

small : (n : ℕ) → IsProcess n → n < 2 ^ 64
small n h = omega (arith, h.1)

counts_one : (c d : Counts) → AreCounts c → AreCounts d → count_words c ≡ count_words d → c ≡ d
counts_one c d hc hd is =
    let p = number_one c.processes d.processes hc.processes hd.processes (ap (λ (ws : Row). get_or ws 2 []) is) in
    let e = number_one c.entries d.entries hc.entries hd.entries (ap (λ (ws : Row). get_or ws 4 []) is) in
    let f = number_one c.faults d.faults hc.faults hd.faults (ap (λ (ws : Row). get_or ws 6 []) is) in
    λ i. record { processes = p i; entries = e i; faults = f i }

rows_one : (lib : Library) → HasNames lib → (l m : TranscriptLine) → IsLineOf lib l → IsLineOf lib m → row_of lib l ≡ row_of lib m → tag l ≡ tag m → l ≡ m
rows_one lib names lines.History lines.History hl hm is same = refl
rows_one lib names lines.History (lines.Summary c) hl hm is same =
    absurd (let long : length (row_of lib lines.History) ≡ length (row_of lib (lines.Summary c)) = ap length is in let none : ⊥ = omega (arith, long) in none)
rows_one lib names (lines.Summary c) lines.History hl hm is same =
    absurd (let long : length (row_of lib (lines.Summary c)) ≡ length (row_of lib lines.History) = ap length is in let none : ⊥ = omega (arith, long) in none)
rows_one lib names (lines.Entry k p d) (lines.Entry j q e) hl hm is same =
    let number = number_one k j hl.0 hm.0 (ap (λ (ws : Row). get_or ws 0 []) is) in
    let who : codes "P" ++ decimal p ≡ codes "P" ++ decimal q = ap (λ (ws : Row). get_or ws 1 []) is in
    let process = number_one p q (small p hl.1) (small q hm.1) (same-head 0x50 0x50 (decimal p) (decimal q) who).1 in
    let deed = bare_one lib names d e hl.2 hm.2 hl.3 hm.3 (ap (λ (ws : Row). drop 2 ws) is) in
    λ i. lines.Entry (number i) (process i) (deed i)
rows_one lib names (lines.New a) (lines.New b) hl hm is same = ap lines.New (fresh_one lib names a b hl hm is)
rows_one lib names (lines.Call a) (lines.Call b) hl hm is same = ap lines.Call (call_one lib names a b hl hm is)
rows_one lib names (lines.Gone a) (lines.Gone b) hl hm is same = ap lines.Gone (gone_one lib names a b hl hm is)
rows_one lib names (lines.Process p) (lines.Process q) hl hm is same = ap lines.Process (number_one p q (small p hl) (small q hm) (ap (λ (ws : Row). get_or ws 1 []) is))
rows_one lib names (lines.Steady a) (lines.Steady b) hl hm is same = ap lines.Steady (line_one a b hl hm is)
rows_one lib names (lines.Summary c) (lines.Summary d) hl hm is same = ap lines.Summary (counts_one c d hl hm is)
rows_one lib names l m hl hm is same = absurd (let none : ⊥ = omega (arith, same) in none)

-- ---- each line

pub lines_apart : (lib : Library) → HasNames lib → AreApart lib
lines_apart lib names = record {
  cut = λ l h. (words (row_of lib l), sym (line_is lib l), words_inside (row_of lib l) (are_words lib l h).1);
  one = λ l m hl hm is.
      let line : List ℕ = words (row_of lib l) in
      let first : line ++ 0x0A ∷ [] ≡ told_line lib l = sym (line_is lib l) in
      let rows : row_of lib l ≡ row_of lib m = sym (line_row lib l line hl first) ∙ line_row lib m line hm (first ∙ is) in
      rows_one lib names l m hl hm rows (sym (tagged lib l hl) ∙ ap kind rows ∙ tagged lib m hm);
}
