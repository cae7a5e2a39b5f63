-- A text in the form of a transcript tells one thing.
use Rattle.std.proofs.Common.{◌≡◌, ℕ, zero, suc, ◌+◌, ◌-◌, ◌<◌, ◌≤◌, ◌^◌, List, [], ◌∷◌, ◌++◌, length, map, flat_map, get_or, slice_index, refl, sym, ◌∙◌, ap, subst, arith, append_assoc, append-nil}
use Rattle.std.specs.Prelude.{codes, decimal}
use Rattle.std.specs.List.{AllByRecursion, enumerate_from}
use Rattle.std.proofs.lemmas.List.{length-map}
use Rattle.lx_types.proofs.Lists.{all_joined}
use Rattle.load_model.specs.declared.deeds.Entry.{Entry}
use Rattle.load_model.specs.Modules.{Library}
use Rattle.load_model.specs.Serials.{Rise}
use Rattle.session_model.specs.declared.sessions.Line.{Line}
use Rattle.session_model.specs.declared.sessions.ScriptLines.{ScriptLines}
use Rattle.session_model.specs.Merging.{numbers_of}
use Rattle.session_model.specs.Runs.{Run, run_text}
use Rattle.session_model.specs.Text.{line_of}
use Rattle.session_model.specs.Transcript.{process_text, deed_words, entry_text, line_text, script_text, Transcript}
use Rattle.dump_model.specs.Words.{IsWord}
use Rattle.dump_model.proofs.WordLaws.{same-head}
use Rattle.dump_model.proofs.NumberLaws.{count-word}
use Rattle.check_model.specs.declared.kinds.Counts.{Counts}
use Rattle.check_model.specs.Told.{Has64, IsEntry, IsDeed, IsLine, AreLinesOf, AreCounts, Told, IsTold, counts_of, count_words, told_text}
use Rattle.transcript_laws.specs.TellsOne.{HasNames, TextsTellOne, TranscriptsTellOneRun}
use Rattle.transcript_laws.proofs.TextRows.{Row, IsRow, text_of, texts_one, text-append, text-map, text-flat_map}
use Rattle.transcript_laws.proofs.RowKinds.{inner, kind, OfKind, BeginsOther, split_kind, map_kind, map_one}
use Rattle.transcript_laws.proofs.ValueWords.{number_one, number_kind}
use Rattle.transcript_laws.proofs.DeedRows.{deed_rows, deed_text, deed_are_words, deed_are_rows, BeginsLater, deed_one}
use Rattle.transcript_laws.proofs.LineRows.{at_row, line_one, line_is_row}

-- ---- the lines of it

abbrev entry_rows : Library → List ℕ → ℕ × Entry → List Row
entry_rows lib numbers x = (decimal x.0 ∷ process_text numbers x.1.pid ∷ deed_words lib x.1.deed) ∷ deed_rows lib x.1.deed

abbrev script_rows : ScriptLines → List Row
script_rows s = (codes "process" ∷ decimal s.pid ∷ []) ∷ map at_row s.lines

abbrev all_entries : Library → List ℕ → ℕ → List Entry → List Row
all_entries lib numbers n h = flat_map (entry_rows lib numbers) (enumerate_from n h)

abbrev all_scripts : List ScriptLines → List Row
all_scripts s = flat_map script_rows s

abbrev last_rows : Counts → List Row
last_rows c = count_words c ∷ []

abbrev rows_of : Library → Told → List Row
rows_of lib t = (codes "history" ∷ []) ∷ (all_entries lib (numbers_of t.run.steady) 1 t.run.history ++ (all_scripts t.run.steady ++ last_rows t.counts))

entry_lines : (lib : Library) (numbers : List ℕ) (x : ℕ × Entry) → text_of (entry_rows lib numbers x) ≡ entry_text lib numbers x
unfolding entry_text
entry_lines lib numbers x = ap (λ l. line_of (decimal x.0 ∷ process_text numbers x.1.pid ∷ deed_words lib x.1.deed) ++ l) (deed_text lib x.1.deed)

at_line : (l : Line) → line_of (at_row l) ≡ line_text l
unfolding line_text
at_line l = refl

script_lines : (s : ScriptLines) → text_of (script_rows s) ≡ script_text s
script_lines s = ap (λ l. line_of (codes "process" ∷ decimal s.pid ∷ []) ++ l) (text-map at_row line_text at_line s.lines)

told_rows : (lib : Library) (t : Told) → text_of (rows_of lib t) ≡ told_text lib t
unfolding told_text
told_rows lib t =
    let numbers = numbers_of t.run.steady in
    let e : text_of (all_entries lib numbers 1 t.run.history) ≡ flat_map (entry_text lib numbers) (enumerate_from 1 t.run.history) =
    text-flat_map (entry_rows lib numbers) (entry_text lib numbers) (entry_lines lib numbers) (enumerate_from 1 t.run.history) in
    let s : text_of (all_scripts t.run.steady) ≡ flat_map script_text t.run.steady = text-flat_map script_rows script_text script_lines t.run.steady in
    let first : List ℕ = line_of (codes "history" ∷ []) in
    let entries : List ℕ = flat_map (entry_text lib numbers) (enumerate_from 1 t.run.history) in
    let scripts : List ℕ = flat_map script_text t.run.steady in
    let last : List ℕ = line_of (count_words t.counts) in
    let end : text_of (last_rows t.counts) ≡ last = append-nil (line_of (count_words t.counts)) in
    ap (λ l. first ++ l)
    (text-append (all_entries lib numbers 1 t.run.history) (all_scripts t.run.steady ++ last_rows t.counts)
    ∙ (λ i. e i ++ (text-append (all_scripts t.run.steady) (last_rows t.counts) ∙ (λ k. s k ++ end k)) i))
    ∙ (sym (append_assoc first entries (scripts ++ last)) ∙ sym (append_assoc (first ++ entries) scripts last))

-- ---- they have no breaks

small_at : (ns : List ℕ) (k : ℕ) → AllByRecursion Has64 ns → Has64 (slice_index ns k)
small_at [] k h = omega arith
small_at (n ∷ ns) zero h = h.0
small_at (n ∷ ns) (suc k) h = small_at ns k h.1

rise_small : (low high : ℕ) (ns : List ℕ) → high ≤ 16 → Rise low ns high → AllByRecursion Has64 ns
rise_small low high [] few r = tt
rise_small low high (n ∷ ns) few r = let top = below n ns r.1 in (omega (arith, top, few), rise_small n high ns few r.1)
  where
    below : (low : ℕ) (ns : List ℕ) → Rise low ns high → low ≤ high
    below low [] r = r
    below low (n ∷ ns) r = let more = below n ns r.1 in omega (arith, more, r.0)

process_word : (ns : List ℕ) (pid : ℕ) → AllByRecursion Has64 ns → IsWord (process_text ns pid)
process_word ns zero h = count-word 0 (omega arith)
process_word ns (suc k) h = count-word (slice_index ns k) (small_at ns k h)

entries_are_rows : (lib : Library) (ns : List ℕ) (processes n : ℕ) (h : List Entry) → AllByRecursion Has64 ns → n + length h ≤ 2 ^ 64 → AllByRecursion (IsEntry lib processes) h →
    AllByRecursion IsRow (all_entries lib ns n h)
entries_are_rows lib ns processes n [] small few all = tt
entries_are_rows lib ns processes n (x ∷ h) small few all =
    all_joined IsRow (entry_rows lib ns (n, x)) (all_entries lib ns (n + 1) h)
    ((omega arith, (count-word n (omega (arith, few)), (process_word ns x.pid small, deed_are_words lib x.deed all.0.2))), deed_are_rows lib x.deed all.0.2)
    (entries_are_rows lib ns processes (n + 1) h small (omega (arith, few)) all.1)

lines_are_rows : (ls : List Line) → AllByRecursion IsLine ls → AllByRecursion IsRow (map at_row ls)
lines_are_rows [] all = tt
lines_are_rows (l ∷ ls) all = (line_is_row l all.0, lines_are_rows ls all.1)

scripts_are_rows : (s : List ScriptLines) → AllByRecursion Has64 (numbers_of s) → AllByRecursion AreLinesOf s → AllByRecursion IsRow (all_scripts s)
scripts_are_rows [] small all = tt
scripts_are_rows (x ∷ s) small all =
    all_joined IsRow (script_rows x) (all_scripts s) ((omega arith, (refl, (count-word x.pid small.0, tt))), lines_are_rows x.lines all.0) (scripts_are_rows s small.1 all.1)

told_are_rows : (lib : Library) (t : Told) → IsTold lib t → AllByRecursion IsRow (rows_of lib t)
told_are_rows lib t h =
    let small = rise_small 0 16 (numbers_of t.run.steady) (omega arith) h.rising in
    let c : Counts = t.counts in (
      (omega arith, (refl, tt)),
      all_joined IsRow (all_entries lib (numbers_of t.run.steady) 1 t.run.history) (all_scripts t.run.steady ++ last_rows t.counts)
          (entries_are_rows lib (numbers_of t.run.steady) (length t.run.steady) 1 t.run.history small (omega (arith, h.few)) h.entries)
          (all_joined IsRow (all_scripts t.run.steady) (last_rows t.counts) (scripts_are_rows t.run.steady small h.lines)
          ((omega arith, (refl, (refl, (count-word c.processes h.counts.processes, (refl, (count-word c.entries h.counts.entries, (refl, (count-word c.faults h.counts.faults, tt)))))))), tt)),
    )

-- ---- entries, up to who made them

-- they do the same, and their processes have the same words
abbrev SameEntries : List ℕ → List ℕ → List Entry → List Entry → Type 0
SameEntries ns ms [] [] = Unit {0}
SameEntries ns ms (x ∷ h) (y ∷ k) = ((x.deed ≡ y.deed) × (process_text ns x.pid ≡ process_text ms y.pid)) × SameEntries ns ms h k
SameEntries ns ms h k = ⊥

-- what stands after entries begins with the first of more entries, or with a line of another kind
abbrev AfterEntries : List Row → Type 0
AfterEntries rows = BeginsLater rows × BeginsOther 4 rows

later_entries : (lib : Library) (ns : List ℕ) (n : ℕ) (h : List Entry) (r : List Row) → n + length h ≤ 2 ^ 64 → BeginsLater r → BeginsLater (all_entries lib ns n h ++ r)
later_entries lib ns n [] r few l = l
later_entries lib ns n (x ∷ h) r few l =
    let is : kind (decimal n ∷ process_text ns x.pid ∷ deed_words lib x.deed) ≡ 4 = number_kind n (process_text ns x.pid ∷ deed_words lib x.deed) (omega (arith, few)) in
    ((λ z. omega (arith, is, z)), (λ z. omega (arith, is, z)), (λ z. omega (arith, is, z)))

entries_one : (lib : Library) → HasNames lib → (ns ms : List ℕ) (p o n : ℕ) (h k : List Entry) (r q : List Row) → n + length h ≤ 2 ^ 64 → n + length k ≤ 2 ^ 64 →
    AllByRecursion (IsEntry lib p) h → AllByRecursion (IsEntry lib o) k → AfterEntries r → AfterEntries q →
    all_entries lib ns n h ++ r ≡ all_entries lib ms n k ++ q → SameEntries ns ms h k × (r ≡ q)
entries_one lib names ns ms p o n [] [] r q fh fk hh hk ar aq is = (tt, is)
entries_one lib names ns ms p o n [] (y ∷ k) r q fh fk hh hk ar aq is =
    let w : Row = decimal n ∷ process_text ms y.pid ∷ deed_words lib y.deed in
    let four : kind w ≡ 4 = number_kind n (process_text ms y.pid ∷ deed_words lib y.deed) (omega (arith, fk)) in
    let no : BeginsOther 4 (all_entries lib ms n (y ∷ k) ++ q) = subst (BeginsOther 4) is ar.1 in
    absurd (no four)
entries_one lib names ns ms p o n (x ∷ h) [] r q fh fk hh hk ar aq is =
    let w : Row = decimal n ∷ process_text ns x.pid ∷ deed_words lib x.deed in
    let four : kind w ≡ 4 = number_kind n (process_text ns x.pid ∷ deed_words lib x.deed) (omega (arith, fh)) in
    let no : BeginsOther 4 (all_entries lib ns n (x ∷ h) ++ r) = subst (BeginsOther 4) (sym is) aq.1 in
    absurd (no four)
entries_one lib names ns ms p o n (x ∷ h) (y ∷ k) r q fh fk hh hk ar aq is =
    let left : List Row = all_entries lib ns (n + 1) h ++ r in
    let other : List Row = all_entries lib ms (n + 1) k ++ q in
    let whole : (decimal n ∷ process_text ns x.pid ∷ deed_words lib x.deed) ∷ (deed_rows lib x.deed ++ left) ≡ (decimal n ∷ process_text ms y.pid ∷ deed_words lib y.deed) ∷ (deed_rows lib y.deed ++ other) =
    sym (append_assoc (entry_rows lib ns (n, x)) (all_entries lib ns (n + 1) h) r) ∙ is ∙ append_assoc (entry_rows lib ms (n, y)) (all_entries lib ms (n + 1) k) q in
    let words : deed_words lib x.deed ≡ deed_words lib y.deed = cc (whole) in
    let who : process_text ns x.pid ≡ process_text ms y.pid = cc (whole) in
    let more : deed_rows lib x.deed ++ left ≡ deed_rows lib y.deed ++ other = cc (whole) in
    let one = deed_one lib names x.deed y.deed left other hh.0.2 hk.0.2 (later_entries lib ns (n + 1) h r (omega (arith, fh)) ar.0) (later_entries lib ms (n + 1) k q (omega (arith, fk)) aq.0) words more in
    let rest = entries_one lib names ns ms p o (n + 1) h k r q (omega (arith, fh)) (omega (arith, fk)) hh.1 hk.1 ar aq one.1 in
    (((one.0, who), rest.0), rest.1)

-- ---- scripts

-- what stands after lines: the next script, or the last line
after_lines : (s : List ScriptLines) (c : Counts) → BeginsOther 3 (all_scripts s ++ last_rows c)
after_lines [] c = λ z. omega (arith, z)
after_lines (x ∷ s) c = λ z. omega (arith, z)

scripts_one : (s u : List ScriptLines) (c d : Counts) → AllByRecursion Has64 (numbers_of s) → AllByRecursion Has64 (numbers_of u) → AllByRecursion AreLinesOf s → AllByRecursion AreLinesOf u →
    all_scripts s ++ last_rows c ≡ all_scripts u ++ last_rows d → (s ≡ u) × (count_words c ≡ count_words d)
scripts_one [] [] c d ss su hs hu is = (refl, ap (λ (rows : List Row). get_or rows 0 []) is)
scripts_one [] (y ∷ u) c d ss su hs hu is =
    absurd (let no : 6 ≡ 5 = ap (λ (rows : List Row). kind (get_or rows 0 [])) is in let none : ⊥ = omega arith in none)
scripts_one (x ∷ s) [] c d ss su hs hu is =
    absurd (let no : 5 ≡ 6 = ap (λ (rows : List Row). kind (get_or rows 0 [])) is in let none : ⊥ = omega arith in none)
scripts_one (x ∷ s) (y ∷ u) c d ss su hs hu is =
    let left : List Row = all_scripts s ++ last_rows c in
    let other : List Row = all_scripts u ++ last_rows d in
    let whole : (codes "process" ∷ decimal x.pid ∷ []) ∷ (map at_row x.lines ++ left) ≡ (codes "process" ∷ decimal y.pid ∷ []) ∷ (map at_row y.lines ++ other) =
    sym (append_assoc (script_rows x) (all_scripts s) (last_rows c)) ∙ is ∙ append_assoc (script_rows y) (all_scripts u) (last_rows d) in
    let who : decimal x.pid ≡ decimal y.pid = ap (λ (rows : List Row). get_or (get_or rows 0 []) 1 []) whole in
    let more : map at_row x.lines ++ left ≡ map at_row y.lines ++ other = cc (whole) in
    let split = split_kind 3 (map at_row x.lines) (map at_row y.lines) left other (map_kind 3 at_row (λ l. refl) x.lines) (map_kind 3 at_row (λ l. refl) y.lines) (after_lines s c) (after_lines u d) more in
    let lines : x.lines ≡ y.lines = map_one at_row IsLine line_one x.lines y.lines hs.0 hu.0 split.0 in
    let pid : x.pid ≡ y.pid = number_one x.pid y.pid ss.0 su.0 who in
    let rest = scripts_one s u c d ss.1 su.1 hs.1 hu.1 split.1 in
    ((λ i. record { pid = pid i; lines = lines i } ∷ rest.0 i), rest.1)

-- ---- who made the entries

rise_above : (low high : ℕ) (ns : List ℕ) (k : ℕ) → Rise low ns high → k < length ns → low < slice_index ns k
rise_above low high [] k r below = absurd (let none : ⊥ = omega arith in none)
rise_above low high (n ∷ ns) zero r below = r.0
rise_above low high (n ∷ ns) (suc k) r below = let more = rise_above n high ns k r.1 (omega arith) in omega (arith, more, r.0)

places_one : (low high : ℕ) (ns : List ℕ) (k m : ℕ) → Rise low ns high → k < length ns → m < length ns → slice_index ns k ≡ slice_index ns m → k ≡ m
places_one low high [] k m r bk bm is = absurd (let none : ⊥ = omega arith in none)
places_one low high (n ∷ ns) zero zero r bk bm is = refl
places_one low high (n ∷ ns) zero (suc m) r bk bm is = let more = rise_above n high ns m r.1 (omega arith) in absurd (let none : ⊥ = omega (arith, more, is) in none)
places_one low high (n ∷ ns) (suc k) zero r bk bm is = let more = rise_above n high ns k r.1 (omega arith) in absurd (let none : ⊥ = omega (arith, more, is) in none)
places_one low high (n ∷ ns) (suc k) (suc m) r bk bm is = ap suc (places_one n high ns k m r.1 (omega arith) (omega arith) is)

pids_one : (ns : List ℕ) (p q : ℕ) → Rise 0 ns 16 → 1 ≤ p → 1 ≤ q → p ≤ length ns → q ≤ length ns → process_text ns p ≡ process_text ns q → p ≡ q
pids_one ns zero q r lp lq hp hq is = absurd (let none : ⊥ = omega arith in none)
pids_one ns (suc k) zero r lp lq hp hq is = absurd (let none : ⊥ = omega arith in none)
pids_one ns (suc k) (suc m) r lp lq hp hq is =
    let small = rise_small 0 16 ns (omega arith) r in
    let words : decimal (slice_index ns k) ≡ decimal (slice_index ns m) = (same-head 0x50 0x50 (decimal (slice_index ns k)) (decimal (slice_index ns m)) is).1 in
    ap suc (places_one 0 16 ns k m r (omega arith) (omega arith) (number_one (slice_index ns k) (slice_index ns m) (small_at ns k small) (small_at ns m small) words))

histories_one : (lib : Library) (ns : List ℕ) (h k : List Entry) → Rise 0 ns 16 → AllByRecursion (IsEntry lib (length ns)) h → AllByRecursion (IsEntry lib (length ns)) k → SameEntries ns ns h k → h ≡ k
histories_one lib ns [] [] r hh hk is = refl
histories_one lib ns [] (y ∷ k) r hh hk is = absurd is
histories_one lib ns (x ∷ h) [] r hh hk is = absurd is
histories_one lib ns (x ∷ h) (y ∷ k) r hh hk is =
    let pid = pids_one ns x.pid y.pid r hh.0.0 hk.0.0 hh.0.1 hk.0.1 is.0.1 in
    let deed = is.0.0 in
    let rest = histories_one lib ns h k r hh.1 hk.1 is.1 in
    λ i. record { pid = pid i; deed = deed i } ∷ rest i

-- ---- all of it

after_history : (s : List ScriptLines) (c : Counts) → AfterEntries (all_scripts s ++ last_rows c)
after_history [] c = (((λ z. omega (arith, z)), (λ z. omega (arith, z)), (λ z. omega (arith, z))), λ z. omega (arith, z))
after_history (x ∷ s) c = (((λ z. omega (arith, z)), (λ z. omega (arith, z)), (λ z. omega (arith, z))), λ z. omega (arith, z))

counts_one : (c d : Counts) → AreCounts c → AreCounts d → count_words c ≡ count_words d → c ≡ d
counts_one c d hc hd is =
    let p = number_one c.processes d.processes hc.processes hd.processes (ap (λ (ws : Row). get_or ws 2 []) is) in
    let e = number_one c.entries d.entries hc.entries hd.entries (ap (λ (ws : Row). get_or ws 4 []) is) in
    let f = number_one c.faults d.faults hc.faults hd.faults (ap (λ (ws : Row). get_or ws 6 []) is) in
    λ i. record { processes = p i; entries = e i; faults = f i }

-- an entry of as many processes as there are numbers
counted : (lib : Library) (s : List ScriptLines) (h : List Entry) → AllByRecursion (IsEntry lib (length s)) h → AllByRecursion (IsEntry lib (length (numbers_of s))) h
counted lib s h all = subst (λ (n : ℕ). AllByRecursion (IsEntry lib n) h) (sym (length-map s (λ (lines : ScriptLines). lines.pid))) all

pub texts_tell_one : TextsTellOne
texts_tell_one lib t u names ht hu is =
    let rows : rows_of lib t ≡ rows_of lib u = texts_one (rows_of lib t) (rows_of lib u) (told_are_rows lib t ht) (told_are_rows lib u hu) (told_rows lib t ∙ is ∙ sym (told_rows lib u)) in
    let ns = numbers_of t.run.steady in
    let ms = numbers_of u.run.steady in
    let later : all_entries lib ns 1 t.run.history ++ (all_scripts t.run.steady ++ last_rows t.counts) ≡ all_entries lib ms 1 u.run.history ++ (all_scripts u.run.steady ++ last_rows u.counts) = cc (rows) in
    let entries = entries_one lib names ns ms (length t.run.steady) (length u.run.steady) 1 t.run.history u.run.history (all_scripts t.run.steady ++ last_rows t.counts) (all_scripts u.run.steady ++ last_rows u.counts)
    (omega (arith, ht.few)) (omega (arith, hu.few)) ht.entries hu.entries (after_history t.run.steady t.counts) (after_history u.run.steady u.counts) later in
    let scripts = scripts_one t.run.steady u.run.steady t.counts u.counts (rise_small 0 16 ns (omega arith) ht.rising) (rise_small 0 16 ms (omega arith) hu.rising) ht.lines hu.lines entries.1 in
    let steady = scripts.0 in
    let counts = counts_one t.counts u.counts ht.counts hu.counts scripts.1 in
    let same : SameEntries ns ns t.run.history u.run.history = subst (λ (s : List ScriptLines). SameEntries ns (numbers_of s) t.run.history u.run.history) (sym steady) entries.0 in
    let others : AllByRecursion (IsEntry lib (length ns)) u.run.history =
    subst (λ (s : List ScriptLines). AllByRecursion (IsEntry lib (length (numbers_of s))) u.run.history) (sym steady) (counted lib u.run.steady u.run.history hu.entries) in
    let history = histories_one lib ns t.run.history u.run.history ht.rising (counted lib t.run.steady t.run.history ht.entries) others same in
    λ i. record { run = record { history = history i; steady = steady i }; counts = counts i }

pub transcripts_tell_one_run : TranscriptsTellOneRun
unfolding told_text Transcript
transcripts_tell_one_run lib run other names hr ho is =
    let one = texts_tell_one lib (record { run = run; counts = counts_of run }) (record { run = other; counts = counts_of other }) names hr ho is in
    ap (λ (t : Told). t.run) one
