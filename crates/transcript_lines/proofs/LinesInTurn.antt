-- A transcript is its lines in turn.
use Rattle.std.proofs.Common.{◌≡◌, ℕ, zero, suc, ◌+◌, ◌<◌, ◌≤◌, ◌^◌, List, [], ◌∷◌, ◌++◌, length, map, flat_map, slice_index, refl, sym, ◌∙◌, ap, subst, arith, append_assoc, append-nil}
use Rattle.std.specs.Prelude.{codes, decimal}
use Rattle.std.specs.List.{AllByRecursion, enumerate_from}
use Rattle.lx_types.proofs.Lists.{all_joined}
use Rattle.load_model.specs.declared.deeds.Call.{Call}
use Rattle.load_model.specs.declared.deeds.Fresh.{Fresh}
use Rattle.load_model.specs.declared.deeds.Gone.{Gone}
use Rattle.load_model.specs.declared.deeds.Deed.{Deed}
use Rattle.load_model.specs.declared.deeds.Deed.TheVariants as deeds
use Rattle.load_model.specs.declared.deeds.Entry.{Entry}
use Rattle.load_model.specs.Modules.{Library}
use Rattle.load_model.specs.Serials.{Rise}
use Rattle.session_model.specs.declared.sessions.ScriptLines.{ScriptLines}
use Rattle.session_model.specs.Merging.{numbers_of}
use Rattle.session_model.specs.Text.{line_of}
use Rattle.session_model.specs.Transcript.{new_line, call_line, gone_line, process_text, deed_words, deed_lines, entry_text, line_text, script_text}
use Rattle.check_model.specs.Told.{IsFresh, IsCall, IsGone, IsDeed, IsEntry, IsLine, AreLinesOf, Told, told_text, IsTold, count_words}
use Rattle.transcript_lines.specs.declared.lines.TranscriptLine.{TranscriptLine}
use Rattle.transcript_lines.specs.declared.lines.TranscriptLine.TheVariants as lines
use Rattle.transcript_lines.specs.Lines.{IsProcess, told_line, IsBare, IsLineOf}
use Rattle.transcript_lines.specs.LinesOf.{bare, lines_below, script_number, entry_lines, script_lines, lines_of, TextsAreLines}

abbrev text_of : Library → List TranscriptLine → List ℕ
text_of lib ls = flat_map (told_line lib) ls

text_joined : (lib : Library) (a b : List TranscriptLine) → text_of lib (a ++ b) ≡ text_of lib a ++ text_of lib b
text_joined lib [] b = refl
text_joined lib (l ∷ a) b = ap (λ x. told_line lib l ++ x) (text_joined lib a b) ∙ sym (append_assoc (told_line lib l) (text_of lib a) (text_of lib b))

text_mapped : {A : Type 0} (lib : Library) (line : A → TranscriptLine) (text : A → List ℕ) → ((a : A) → told_line lib (line a) ≡ text a) → (xs : List A)
    → text_of lib (map line xs) ≡ flat_map text xs
text_mapped lib line text same [] = refl
text_mapped lib line text same (x ∷ xs) = λ i. same x i ++ text_mapped lib line text same xs i

text_flat : {A : Type 0} (lib : Library) (line : A → List TranscriptLine) (text : A → List ℕ) → ((a : A) → text_of lib (line a) ≡ text a) → (xs : List A)
    → text_of lib (flat_map line xs) ≡ flat_map text xs
text_flat lib line text same [] = refl
text_flat lib line text same (x ∷ xs) = text_joined lib (line x) (flat_map line xs) ∙ (λ i. same x i ++ text_flat lib line text same xs i)

-- ---- entries

words_bare : (lib : Library) (d : Deed) → deed_words lib (bare d) ≡ deed_words lib d
words_bare lib (deeds.Enter how m fresh calls) = refl
words_bare lib (deeds.Failed how m by fresh calls gone) = refl
words_bare lib (deeds.Free m calls gone) = refl
words_bare lib (deeds.Exit calls gone) = refl
words_bare lib (deeds.Full how m of object size) = refl
words_bare lib (deeds.Fault serial m p) = refl
words_bare lib (deeds.Write serial m object offset bytes) = refl
words_bare lib (deeds.Debug serial m object offset bytes) = refl
words_bare lib (deeds.Shared serial m object offset bytes) = refl

news : (lib : Library) (xs : List Fresh) → text_of lib (map lines.New xs) ≡ flat_map (new_line lib) xs
news lib xs = text_mapped lib lines.New (new_line lib) (λ a. refl) xs

its_calls : (lib : Library) (xs : List Call) → text_of lib (map lines.Call xs) ≡ flat_map (call_line lib) xs
its_calls lib xs = text_mapped lib lines.Call (call_line lib) (λ a. refl) xs

leavers : (lib : Library) (xs : List Gone) → text_of lib (map lines.Gone xs) ≡ flat_map (gone_line lib) xs
leavers lib xs = text_mapped lib lines.Gone (gone_line lib) (λ a. refl) xs

calls_and_gone : (lib : Library) (calls : List Call) (gone : List Gone) →
    text_of lib (map lines.Call calls ++ map lines.Gone gone) ≡ flat_map (call_line lib) calls ++ flat_map (gone_line lib) gone
calls_and_gone lib calls gone = text_joined lib (map lines.Call calls) (map lines.Gone gone) ∙ (λ i. its_calls lib calls i ++ leavers lib gone i)

below_text : (lib : Library) (d : Deed) → text_of lib (lines_below d) ≡ deed_lines lib d
below_text lib (deeds.Enter how m fresh calls) = text_joined lib (map lines.New fresh) (map lines.Call calls) ∙ (λ i. news lib fresh i ++ its_calls lib calls i)
below_text lib (deeds.Failed how m by fresh calls gone) =
    text_joined lib (map lines.New fresh) (map lines.Call calls ++ map lines.Gone gone) ∙ (λ i. news lib fresh i ++ calls_and_gone lib calls gone i)
    ∙ sym (append_assoc (flat_map (new_line lib) fresh) (flat_map (call_line lib) calls) (flat_map (gone_line lib) gone))
below_text lib (deeds.Free m calls gone) = calls_and_gone lib calls gone
below_text lib (deeds.Exit calls gone) = calls_and_gone lib calls gone
below_text lib (deeds.Full how m of object size) = refl
below_text lib (deeds.Fault serial m p) = refl
below_text lib (deeds.Write serial m object offset bytes) = refl
below_text lib (deeds.Debug serial m object offset bytes) = refl
below_text lib (deeds.Shared serial m object offset bytes) = refl

process_is : (numbers : List ℕ) (pid : ℕ) → codes "P" ++ decimal (script_number numbers pid) ≡ process_text numbers pid
process_is numbers zero = refl
process_is numbers (suc k) = refl

entry_is : (lib : Library) (numbers : List ℕ) (x : ℕ × Entry) → text_of lib (entry_lines numbers x) ≡ entry_text lib numbers x
unfolding entry_text
entry_is lib numbers x =
    λ i. line_of (decimal x.0 ∷ process_is numbers x.1.pid i ∷ words_bare lib x.1.deed i) ++ below_text lib x.1.deed i

-- ---- steady lines, and all of it

script_is : (lib : Library) (s : ScriptLines) → text_of lib (script_lines s) ≡ script_text s
script_is lib s = ap (λ x. line_of (codes "process" ∷ decimal s.pid ∷ []) ++ x) (text_mapped lib lines.Steady line_text (λ a. refl) s.lines)

text_is : (lib : Library) (t : Told) → told_text lib t ≡ text_of lib (lines_of t)
unfolding told_text lines_of
text_is lib t =
    let numbers = numbers_of t.run.steady in
    let first : List ℕ = line_of (codes "history" ∷ []) in
    let entries : List ℕ = flat_map (entry_text lib numbers) (enumerate_from 1 t.run.history) in
    let scripts : List ℕ = flat_map script_text t.run.steady in
    let last : List ℕ = line_of (count_words t.counts) in
    let e : text_of lib (flat_map (entry_lines numbers) (enumerate_from 1 t.run.history)) ≡ entries =
    text_flat lib (entry_lines numbers) (entry_text lib numbers) (entry_is lib numbers) (enumerate_from 1 t.run.history) in
    let s : text_of lib (flat_map script_lines t.run.steady) ≡ scripts = text_flat lib script_lines script_text (script_is lib) t.run.steady in
    let rest : text_of lib (flat_map script_lines t.run.steady ++ lines.Summary t.counts ∷ []) ≡ scripts ++ last =
    text_joined lib (flat_map script_lines t.run.steady) (lines.Summary t.counts ∷ []) ∙ (λ i. s i ++ append-nil last i) in
    append_assoc (first ++ entries) scripts last ∙ append_assoc first entries (scripts ++ last)
    ∙ sym (ap (λ x. first ++ x) (text_joined lib (flat_map (entry_lines numbers) (enumerate_from 1 t.run.history)) (flat_map script_lines t.run.steady ++ lines.Summary t.counts ∷ [])
    ∙ (λ i. e i ++ rest i)))

-- ---- each is a line

all_mapped : {A : Type 0} (lib : Library) (line : A → TranscriptLine) (Range : A → Type 0) → ((a : A) → Range a → IsLineOf lib (line a)) → (xs : List A) → AllByRecursion Range xs
    → AllByRecursion (IsLineOf lib) (map line xs)
all_mapped lib line Range each [] h = tt
all_mapped lib line Range each (x ∷ xs) h = (each x h.0, all_mapped lib line Range each xs h.1)

abbrev All : Library → List TranscriptLine → Type 0
All lib ls = AllByRecursion (IsLineOf lib) ls

all_news : (lib : Library) (xs : List Fresh) → AllByRecursion (IsFresh lib) xs → All lib (map lines.New xs)
all_news lib xs h = all_mapped lib lines.New (IsFresh lib) (λ a h. h) xs h

all_calls : (lib : Library) (xs : List Call) → AllByRecursion (IsCall lib) xs → All lib (map lines.Call xs)
all_calls lib xs h = all_mapped lib lines.Call (IsCall lib) (λ a h. h) xs h

all_gone : (lib : Library) (xs : List Gone) → AllByRecursion (IsGone lib) xs → All lib (map lines.Gone xs)
all_gone lib xs h = all_mapped lib lines.Gone (IsGone lib) (λ a h. h) xs h

calls_gone : (lib : Library) (calls : List Call) (gone : List Gone) → AllByRecursion (IsCall lib) calls → AllByRecursion (IsGone lib) gone →
    All lib (map lines.Call calls ++ map lines.Gone gone)
calls_gone lib calls gone hc hg = all_joined (IsLineOf lib) (map lines.Call calls) (map lines.Gone gone) (all_calls lib calls hc) (all_gone lib gone hg)

below_range : (lib : Library) (d : Deed) → IsDeed lib d → All lib (lines_below d)
below_range lib (deeds.Enter how m fresh calls) h = all_joined (IsLineOf lib) (map lines.New fresh) (map lines.Call calls) (all_news lib fresh h.1) (all_calls lib calls h.2)
below_range lib (deeds.Failed how m by fresh calls gone) h =
    all_joined (IsLineOf lib) (map lines.New fresh) (map lines.Call calls ++ map lines.Gone gone) (all_news lib fresh h.2) (calls_gone lib calls gone h.3 h.4)
below_range lib (deeds.Free m calls gone) h = calls_gone lib calls gone h.1 h.2
below_range lib (deeds.Exit calls gone) h = calls_gone lib calls gone h.0 h.1
below_range lib (deeds.Full how m of object size) h = tt
below_range lib (deeds.Fault serial m p) h = tt
below_range lib (deeds.Write serial m object offset bytes) h = tt
below_range lib (deeds.Debug serial m object offset bytes) h = tt
below_range lib (deeds.Shared serial m object offset bytes) h = tt

bare_range : (lib : Library) (d : Deed) → IsDeed lib d → IsDeed lib (bare d) × IsBare (bare d)
bare_range lib (deeds.Enter how m fresh calls) h = ((h.0, tt, tt), (refl, refl))
bare_range lib (deeds.Failed how m by fresh calls gone) h = ((h.0, h.1, tt, tt, tt), (refl, refl, refl))
bare_range lib (deeds.Free m calls gone) h = ((h.0, tt, tt), (refl, refl))
bare_range lib (deeds.Exit calls gone) h = ((tt, tt), (refl, refl))
bare_range lib (deeds.Full how m of object size) h = (h, tt)
bare_range lib (deeds.Fault serial m p) h = (h, tt)
bare_range lib (deeds.Write serial m object offset bytes) h = (h, tt)
bare_range lib (deeds.Debug serial m object offset bytes) h = (h, tt)
bare_range lib (deeds.Shared serial m object offset bytes) h = (h, tt)

-- numbers that rise are those of processes
above : (low : ℕ) (ns : List ℕ) (high : ℕ) → Rise low ns high → low ≤ high
above low [] high r = r
above low (n ∷ ns) high r = let more = above n ns high r.1 in omega (arith, more, r.0)

rising_at : (low : ℕ) (ns : List ℕ) (k : ℕ) → Rise low ns 16 → k < length ns → IsProcess (slice_index ns k)
rising_at low [] k r lt = absurd (let none : ⊥ = omega arith in none)
rising_at low (n ∷ ns) zero r lt = let top = above n ns 16 r.1 in (omega (arith, r.0), top)
rising_at low (n ∷ ns) (suc k) r lt = rising_at n ns k r.1 (omega arith)

number_range : (ns : List ℕ) (pid : ℕ) → Rise 0 ns 16 → 1 ≤ pid → pid ≤ length ns → IsProcess (script_number ns pid)
number_range ns zero r least most = absurd (let none : ⊥ = omega arith in none)
number_range ns (suc k) r least most = rising_at 0 ns k r (omega arith)

entries_range : (lib : Library) (ns : List ℕ) (n : ℕ) (h : List Entry) → Rise 0 ns 16 → n + length h ≤ 2 ^ 64 → AllByRecursion (IsEntry lib (length ns)) h
    → All lib (flat_map (entry_lines ns) (enumerate_from n h))
entries_range lib ns n [] r few all = tt
entries_range lib ns n (x ∷ h) r few all =
    let b = bare_range lib x.deed all.0.2 in
    all_joined (IsLineOf lib) (entry_lines ns (n, x)) (flat_map (entry_lines ns) (enumerate_from (n + 1) h))
    (((omega (arith, few), number_range ns x.pid r all.0.0 all.0.1, b.0, b.1), below_range lib x.deed all.0.2))
    (entries_range lib ns (n + 1) h r (omega (arith, few)) all.1)

scripts_range : (lib : Library) (low : ℕ) (s : List ScriptLines) → Rise low (numbers_of s) 16 → AllByRecursion AreLinesOf s → All lib (flat_map script_lines s)
scripts_range lib low [] r all = tt
scripts_range lib low (x ∷ s) r all =
    let top = above x.pid (numbers_of s) 16 r.1 in
    all_joined (IsLineOf lib) (script_lines x) (flat_map script_lines s)
    ((omega (arith, r.0), top), all_mapped lib lines.Steady IsLine (λ a h. h) x.lines all.0)
    (scripts_range lib x.pid s r.1 all.1)

many : (s : List ScriptLines) → length (numbers_of s) ≡ length s
many [] = refl
many (x ∷ s) = ap suc (many s)

range_is : (lib : Library) (t : Told) → IsTold lib t → All lib (lines_of t)
unfolding lines_of
range_is lib t h =
    let numbers = numbers_of t.run.steady in
    let entries : AllByRecursion (IsEntry lib (length numbers)) t.run.history =
    subst (λ (n : ℕ). AllByRecursion (IsEntry lib n) t.run.history) (sym (many t.run.steady)) h.entries in (
      tt,
      all_joined (IsLineOf lib) (flat_map (entry_lines numbers) (enumerate_from 1 t.run.history)) (flat_map script_lines t.run.steady ++ lines.Summary t.counts ∷ [])
          (entries_range lib numbers 1 t.run.history h.rising (omega (arith, h.few)) entries)
          (all_joined (IsLineOf lib) (flat_map script_lines t.run.steady) (lines.Summary t.counts ∷ []) (scripts_range lib 0 t.run.steady h.rising h.lines) (h.counts, tt)),
    )

pub texts_are_lines : TextsAreLines
texts_are_lines = record { text = text_is; range = range_is }
