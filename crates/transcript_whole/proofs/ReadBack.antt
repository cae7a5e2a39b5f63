-- A draft that has the lines of a transcript tells it.
use Rattle.std.proofs.Common.{◌≡◌, ℕ, zero, suc, ◌+◌, ◌<◌, ◌≤◌, Bool, cond, List, [], ◌∷◌, ◌++◌, length, map, flat_map, slice_index, refl, sym, ◌∙◌, ap, arith, append_assoc, append-nil}
use Rattle.std.specs.Prelude.{◌==◌, not}
use Rattle.std.specs.List.{AllByRecursion, enumerate_from, prefix_len}
use Rattle.std.proofs.lemmas.Bool.{eq-eqb, ne_eqb}
use Rattle.load_model.specs.declared.deeds.Call.{Call}
use Rattle.load_model.specs.declared.deeds.Fresh.{Fresh}
use Rattle.load_model.specs.declared.deeds.Gone.{Gone}
use Rattle.load_model.specs.declared.deeds.Deed.{Deed}
use Rattle.load_model.specs.declared.deeds.Deed.TheVariants as deeds
use Rattle.load_model.specs.declared.deeds.Entry.{Entry}
use Rattle.load_model.specs.Modules.{Library}
use Rattle.load_model.specs.Serials.{Rise}
use Rattle.session_model.specs.declared.sessions.Line.{Line}
use Rattle.session_model.specs.declared.sessions.ScriptLines.{ScriptLines}
use Rattle.session_model.specs.Merging.{numbers_of}
use Rattle.check_model.specs.Told.{IsEntry, Told, IsTold}
use Rattle.transcript_lines.specs.declared.lines.TranscriptLine.{TranscriptLine}
use Rattle.transcript_lines.specs.declared.lines.TranscriptLine.TheVariants as lines
use Rattle.transcript_lines.specs.LinesOf.{bare, lines_below, script_number, entry_lines, script_lines, lines_of}
use Rattle.transcript_whole.specs.declared.draft.Draft.{Draft}
use Rattle.transcript_whole.specs.Drafts.{nothing_read, with_lines, with_steady, history_in, steady_in, after_lines, place_among, with_place, told_in}
use Rattle.transcript_whole.proofs.Closings.{closed_entry, closed_script}

-- ---- lists that are read line by line

news_read : (d : Draft) (xs : List Fresh) (ls : List TranscriptLine) → after_lines d (map lines.New xs ++ ls) ≡ after_lines (record d { fresh = d.fresh ++ xs }) ls
news_read d [] ls = ap (λ (l : List Fresh). after_lines (record d { fresh = l }) ls) (sym (append-nil d.fresh))
news_read d (x ∷ xs) ls =
    news_read (record d { fresh = d.fresh ++ x ∷ [] }) xs ls ∙ ap (λ (l : List Fresh). after_lines (record d { fresh = l }) ls) (append_assoc d.fresh (x ∷ []) xs)

calls_read : (d : Draft) (xs : List Call) (ls : List TranscriptLine) → after_lines d (map lines.Call xs ++ ls) ≡ after_lines (record d { calls = d.calls ++ xs }) ls
calls_read d [] ls = ap (λ (l : List Call). after_lines (record d { calls = l }) ls) (sym (append-nil d.calls))
calls_read d (x ∷ xs) ls =
    calls_read (record d { calls = d.calls ++ x ∷ [] }) xs ls ∙ ap (λ (l : List Call). after_lines (record d { calls = l }) ls) (append_assoc d.calls (x ∷ []) xs)

gone_read : (d : Draft) (xs : List Gone) (ls : List TranscriptLine) → after_lines d (map lines.Gone xs ++ ls) ≡ after_lines (record d { gone = d.gone ++ xs }) ls
gone_read d [] ls = ap (λ (l : List Gone). after_lines (record d { gone = l }) ls) (sym (append-nil d.gone))
gone_read d (x ∷ xs) ls =
    gone_read (record d { gone = d.gone ++ x ∷ [] }) xs ls ∙ ap (λ (l : List Gone). after_lines (record d { gone = l }) ls) (append_assoc d.gone (x ∷ []) xs)

steady_read : (d : Draft) (xs : List Line) (ls : List TranscriptLine) → after_lines d (map lines.Steady xs ++ ls) ≡ after_lines (record d { lines = d.lines ++ xs }) ls
steady_read d [] ls = ap (λ (l : List Line). after_lines (record d { lines = l }) ls) (sym (append-nil d.lines))
steady_read d (x ∷ xs) ls =
    steady_read (record d { lines = d.lines ++ x ∷ [] }) xs ls ∙ ap (λ (l : List Line). after_lines (record d { lines = l }) ls) (append_assoc d.lines (x ∷ []) xs)

-- ---- an entry

abbrev all_below : List Fresh → List Call → List Gone → List TranscriptLine
all_below fresh calls gone = map lines.New fresh ++ (map lines.Call calls ++ map lines.Gone gone)

below_read : (d : Draft) (fresh : List Fresh) (calls : List Call) (gone : List Gone) (ls : List TranscriptLine)
    → after_lines d (all_below fresh calls gone ++ ls) ≡ after_lines (record d { fresh = d.fresh ++ fresh; calls = d.calls ++ calls; gone = d.gone ++ gone }) ls
below_read d fresh calls gone ls =
    ap (after_lines d) (append_assoc (map lines.New fresh) (map lines.Call calls ++ map lines.Gone gone) ls)
    ∙ news_read d fresh ((map lines.Call calls ++ map lines.Gone gone) ++ ls)
    ∙ ap (after_lines (record d { fresh = d.fresh ++ fresh })) (append_assoc (map lines.Call calls) (map lines.Gone gone) ls)
    ∙ calls_read (record d { fresh = d.fresh ++ fresh }) calls (map lines.Gone gone ++ ls)
    ∙ gone_read (record d { fresh = d.fresh ++ fresh; calls = d.calls ++ calls }) gone ls

-- the lists of what was done
pub record Lists (d : Deed) : Type 0 where
  pub fresh : List Fresh
  pub calls : List Call
  pub gone : List Gone
  pub below : lines_below d ≡ all_below fresh calls gone
  pub whole : with_lines (bare d) fresh calls gone ≡ d

lists_of : (d : Deed) → Lists d
lists_of (deeds.Enter how m fresh calls) =
    record { fresh = fresh; calls = calls; gone = []; below = ap (λ l. map lines.New fresh ++ l) (sym (append-nil (map lines.Call calls))); whole = refl }
lists_of (deeds.Failed how m by fresh calls gone) = record { fresh = fresh; calls = calls; gone = gone; below = refl; whole = refl }
lists_of (deeds.Free m calls gone) = record { fresh = []; calls = calls; gone = gone; below = refl; whole = refl }
lists_of (deeds.Exit calls gone) = record { fresh = []; calls = calls; gone = gone; below = refl; whole = refl }
lists_of (deeds.Full how m of object size) = record { fresh = []; calls = []; gone = []; below = refl; whole = refl }
lists_of (deeds.Fault serial m p) = record { fresh = []; calls = []; gone = []; below = refl; whole = refl }
lists_of (deeds.Write serial m object offset bytes) = record { fresh = []; calls = []; gone = []; below = refl; whole = refl }
lists_of (deeds.Debug serial m object offset bytes) = record { fresh = []; calls = []; gone = []; below = refl; whole = refl }
lists_of (deeds.Shared serial m object offset bytes) = record { fresh = []; calls = []; gone = []; below = refl; whole = refl }

-- lines that are those of entries
pub record Entered (d : Draft) (h : List Entry) (first ls : List TranscriptLine) : Type 0 where
  pub there : Draft
  pub follow : after_lines d (first ++ ls) ≡ after_lines there ls
  pub history : history_in there ≡ history_in d ++ h
  pub steady : there.steady ≡ d.steady
  pub lines : there.lines ≡ d.lines

entry_read : (d : Draft) (k p : ℕ) (deed : Deed) (ls : List TranscriptLine)
    → Entered d (record { pid = p; deed = deed } ∷ []) (lines.Entry k p (bare deed) ∷ lines_below deed) ls
entry_read d k p deed ls =
    let it = lists_of deed in
    let open_entry : Entry = record { pid = p; deed = bare deed } in
    let opened : Draft = record d { history = history_in d ++ open_entry ∷ []; fresh = []; calls = []; gone = [] } in
    record {
      there = record opened { fresh = it.fresh; calls = it.calls; gone = it.gone };
      follow = ap (λ l. after_lines opened (l ++ ls)) it.below ∙ below_read opened it.fresh it.calls it.gone ls;
      history =
          closed_entry (history_in d) open_entry it.fresh it.calls it.gone
          ∙ ap (λ (x : Deed). history_in d ++ record { pid = p; deed = x } ∷ []) it.whole;
      steady = refl;
      lines = refl;
    }

-- as entries stand in lines, with the numbers of scripts
abbrev numbered : List ℕ → Entry → Entry
numbered ns x = record { pid = script_number ns x.pid; deed = x.deed }

entries_read : (ns : List ℕ) (d : Draft) (n : ℕ) (h : List Entry) (ls : List TranscriptLine) → Entered d (map (numbered ns) h) (flat_map (entry_lines ns) (enumerate_from n h)) ls
entries_read ns d n [] ls = record { there = d; follow = refl; history = sym (append-nil (history_in d)); steady = refl; lines = refl }
entries_read ns d n (x ∷ h) ls =
    let rest : List TranscriptLine = flat_map (entry_lines ns) (enumerate_from (n + 1) h) in
    let first = entry_read d n (script_number ns x.pid) x.deed (rest ++ ls) in
    let more = entries_read ns first.there (n + 1) h ls in
    record {
      there = more.there;
      follow = ap (after_lines d) (append_assoc (entry_lines ns (n, x)) rest ls) ∙ first.follow ∙ more.follow;
      history =
          more.history ∙ ap (λ (l : List Entry). l ++ map (numbered ns) h) first.history ∙ append_assoc (history_in d) (numbered ns x ∷ []) (map (numbered ns) h);
      steady = more.steady ∙ first.steady;
      lines = more.lines ∙ first.lines;
    }

-- ---- scripts

pub record Scripted (d : Draft) (s : List ScriptLines) (ls : List TranscriptLine) : Type 0 where
  pub there : Draft
  pub follow : after_lines d (flat_map script_lines s ++ ls) ≡ after_lines there ls
  pub steady : steady_in there ≡ steady_in d ++ s
  pub history : history_in there ≡ history_in d

scripts_read : (d : Draft) (s : List ScriptLines) (ls : List TranscriptLine) → Scripted d s ls
scripts_read d [] ls = record { there = d; follow = refl; steady = sym (append-nil (steady_in d)); history = refl }
scripts_read d (x ∷ s) ls =
    let rest : List TranscriptLine = flat_map script_lines s in
    let open_script : ScriptLines = record { pid = x.pid; lines = [] } in
    let opened : Draft = record d { steady = steady_in d ++ open_script ∷ []; lines = [] } in
    let first : Draft = record opened { lines = x.lines } in
    let more = scripts_read first s ls in
    let one : steady_in first ≡ steady_in d ++ x ∷ [] = closed_script (steady_in d) open_script x.lines in
    record {
      there = more.there;
      follow =
          ap (after_lines opened) (append_assoc (map lines.Steady x.lines) rest ls) ∙ steady_read opened x.lines (rest ++ ls) ∙ more.follow;
      steady = more.steady ∙ ap (λ (l : List ScriptLines). l ++ s) one ∙ append_assoc (steady_in d) (x ∷ []) s;
      history = more.history;
    }

-- ---- processes by their places

above_at : (low : ℕ) (ns : List ℕ) (k : ℕ) → Rise low ns 16 → k < length ns → low < slice_index ns k
above_at low [] k r within = absurd (let none : ⊥ = omega arith in none)
above_at low (n ∷ ns) zero r within = r.0
above_at low (n ∷ ns) (suc k) r within = let more = above_at n ns k r.1 (omega arith) in omega (arith, more, r.0)

many : (s : List ScriptLines) → length (numbers_of s) ≡ length s
many [] = refl
many (x ∷ s) = ap suc (many s)

place_is : (low : ℕ) (s : List ScriptLines) (k : ℕ) → Rise low (numbers_of s) 16 → k < length s → prefix_len (λ x. not (x.pid == slice_index (numbers_of s) k)) s ≡ k
place_is low [] k r within = absurd (let none : ⊥ = omega arith in none)
place_is low (x ∷ s) zero r within =
    ap (λ (t : Bool). cond (not t) (1 + prefix_len (λ y. not (y.pid == x.pid)) s) 0) (eq-eqb x.pid x.pid refl)
place_is low (x ∷ s) (suc k) r within =
    let number = slice_index (numbers_of s) k in
    let later : x.pid < number = above_at x.pid (numbers_of s) k r.1 (omega (arith, many s)) in
    ap (λ (t : Bool). cond (not t) (1 + prefix_len (λ y. not (y.pid == number)) s) 0) (ne_eqb x.pid number (λ e. omega (arith, e, later)))
    ∙ (let rest = place_is x.pid s k r.1 (omega arith) in omega (arith, rest))

process_back : (s : List ScriptLines) (pid : ℕ) → Rise 0 (numbers_of s) 16 → 1 ≤ pid → pid ≤ length s → place_among s (script_number (numbers_of s) pid) ≡ pid
process_back s zero r least most = absurd (let none : ⊥ = omega arith in none)
process_back s (suc k) r least most = let it = place_is 0 s k r (omega arith) in omega (arith, it)

history_back : (lib : Library) (s : List ScriptLines) (h : List Entry) → Rise 0 (numbers_of s) 16 → AllByRecursion (IsEntry lib (length s)) h
    → map (with_place s) (map (numbered (numbers_of s)) h) ≡ h
history_back lib s [] r all = refl
history_back lib s (x ∷ h) r all =
    let rest = history_back lib s h r all.1 in
    let pid = process_back s x.pid r all.0.0 all.0.1 in
    λ i. record { pid = pid i; deed = x.deed } ∷ rest i

-- ---- all of it

pub told_back : (lib : Library) (t : Told) → IsTold lib t → told_in (after_lines nothing_read (lines_of t)) ≡ t
unfolding lines_of
told_back lib t h =
    let ns = numbers_of t.run.steady in
    let last : List TranscriptLine = lines.Summary t.counts ∷ [] in
    let entries = entries_read ns nothing_read 1 t.run.history (flat_map script_lines t.run.steady ++ last) in
    let scripts = scripts_read entries.there t.run.steady last in
    let whole : after_lines nothing_read (lines_of t) ≡ record scripts.there { counts = t.counts } = entries.follow ∙ scripts.follow in
    let none : steady_in entries.there ≡ [] = λ i. with_steady (entries.steady i) (entries.lines i) in
    let steady : steady_in scripts.there ≡ t.run.steady = scripts.steady ∙ ap (λ (s : List ScriptLines). s ++ t.run.steady) none in
    let history : history_in scripts.there ≡ map (numbered ns) t.run.history = scripts.history ∙ entries.history in
    ap told_in whole
    ∙ (λ i. record { run = record { history = map (with_place (steady i)) (history i); steady = steady i }; counts = t.counts })
    ∙ ap (λ (l : List Entry). record { run = record { history = l; steady = t.run.steady }; counts = t.counts }) (history_back lib t.run.steady t.run.history h.rising h.entries)
