-- What a whole transcript tells.
use Rattle.std.proofs.Common.{◌≡◌, ℕ, ◌+◌, ◌≤◌, List, [], ◌∷◌, ◌++◌, length, map, flat_map, refl, sym, ◌∙◌, ap, subst, arith, append-nil}
use Rattle.std.specs.List.{AllByRecursion, enumerate_from}
use Rattle.std.proofs.lemmas.List.{length-append, length-map}
use Rattle.lx_types.specs.declared.limits.TheConstants.{MAX_PROCESSES}
use Rattle.load_model.specs.declared.deeds.Deed.{Deed}
use Rattle.load_model.specs.declared.deeds.Deed.TheVariants as deeds
use Rattle.load_model.specs.declared.deeds.Entry.{Entry}
use Rattle.load_model.specs.declared.deeds.Call.{Call}
use Rattle.load_model.specs.declared.deeds.Gone.{Gone}
use Rattle.load_model.specs.Modules.{Library}
use Rattle.load_model.specs.Serials.{Rise}
use Rattle.session_model.specs.declared.sessions.ScriptLines.{ScriptLines}
use Rattle.session_model.specs.Merging.{numbers_of}
use Rattle.check_model.specs.Told.{IsEntry, Told, told_text, IsTold}
use Rattle.check_model.specs.Places.{deed_height, after_entries, after_scripts, last_line}
use Rattle.transcript_lines.specs.declared.lines.TranscriptLine.{TranscriptLine}
use Rattle.transcript_lines.specs.declared.lines.TranscriptLine.TheVariants as lines
use Rattle.transcript_lines.specs.LinesOf.{lines_below, entry_lines, script_lines, lines_of}
use Rattle.transcript_lines.proofs.LinesInTurn.{texts_are_lines}
use Rattle.transcript_lines.proofs.Endings.{lines_follow}
use Rattle.transcript_whole.specs.declared.reading.Reading.{Reading}
use Rattle.transcript_whole.specs.declared.draft.Draft.{Draft}
use Rattle.transcript_whole.specs.Cutting.{HasNoEnd}
use Rattle.transcript_whole.specs.Drafts.{nothing_read, after_lines, told_in}
use Rattle.transcript_whole.specs.Readings.{AreAll}
use Rattle.transcript_whole.specs.Whole.{CanBeJudged, Tells}
use Rattle.transcript_whole.proofs.ReadBack.{told_back}
use Rattle.transcript_whole.proofs.Texts.{AreApart, text_of, goes_on, none_left}

-- ---- how many lines stand in a transcript

two_long : (calls : List Call) (gone : List Gone) → length (map lines.Call calls ++ map lines.Gone gone) ≡ length calls + length gone
two_long calls gone = length-append (map lines.Call calls) (map lines.Gone gone) ∙ (λ i. length-map calls lines.Call i + length-map gone lines.Gone i)

deed_long : (d : Deed) → 1 + length (lines_below d) ≡ deed_height d
deed_long (deeds.Enter how m fresh calls) =
    omega (arith, length-append (map lines.New fresh) (map lines.Call calls), length-map fresh lines.New, length-map calls lines.Call)
deed_long (deeds.Failed how m by fresh calls gone) =
    omega (arith, length-append (map lines.New fresh) (map lines.Call calls ++ map lines.Gone gone), length-map fresh lines.New, two_long calls gone)
deed_long (deeds.Free m calls gone) = omega (arith, two_long calls gone)
deed_long (deeds.Exit calls gone) = omega (arith, two_long calls gone)
deed_long (deeds.Full how m of object size) = refl
deed_long (deeds.Fault serial m p) = refl
deed_long (deeds.Write serial m object offset bytes) = refl
deed_long (deeds.Debug serial m object offset bytes) = refl
deed_long (deeds.Shared serial m object offset bytes) = refl

entries_long : (ns : List ℕ) (k n : ℕ) (h : List Entry) → after_entries n h ≡ n + length (flat_map (entry_lines ns) (enumerate_from k h))
entries_long ns k n [] = omega arith
entries_long ns k n (x ∷ h) =
    let rest = entries_long ns (k + 1) (n + deed_height x.deed) h in
    let one = deed_long x.deed in
    let both : length (flat_map (entry_lines ns) (enumerate_from k (x ∷ h))) ≡ 1 + length (lines_below x.deed) + length (flat_map (entry_lines ns) (enumerate_from (k + 1) h)) =
    length-append (entry_lines ns (k, x)) (flat_map (entry_lines ns) (enumerate_from (k + 1) h)) ∙ (let it : length (entry_lines ns (k, x)) ≡ 1 + length (lines_below x.deed) = omega arith in omega (arith, it)) in
    omega (arith, rest, one, both)

scripts_long : (n : ℕ) (s : List ScriptLines) → after_scripts n s ≡ n + length (flat_map script_lines s)
scripts_long n [] = omega arith
scripts_long n (x ∷ s) =
    let rest = scripts_long (n + 1 + length x.lines) s in
    let both = length-append (script_lines x) (flat_map script_lines s) in
    let one = length-map x.lines lines.Steady in
    omega (arith, rest, both, one)

lines_long : (t : Told) → last_line t.run ≡ length (lines_of t)
unfolding lines_of
lines_long t =
    let ns = numbers_of t.run.steady in
    let entries : List TranscriptLine = flat_map (entry_lines ns) (enumerate_from 1 t.run.history) in
    let scripts : List TranscriptLine = flat_map script_lines t.run.steady in
    let e = entries_long ns 1 2 t.run.history in
    let s = scripts_long (after_entries 2 t.run.history) t.run.steady in
    let all = length-append entries (scripts ++ lines.Summary t.counts ∷ []) in
    let last = length-append scripts (lines.Summary t.counts ∷ []) in
    omega (arith, e, s, all, last)

-- ---- what is asked of it

pub rise_many : (low : ℕ) (ns : List ℕ) (high : ℕ) → Rise low ns high → low + length ns ≤ high
rise_many low [] high r = omega (arith, r)
rise_many low (n ∷ ns) high r = let rest = rise_many n ns high r.1 in omega (arith, rest, r.0)

pub steady_few : (lib : Library) (t : Told) → IsTold lib t → length t.run.steady ≤ MAX_PROCESSES
steady_few lib t h = let rest = rise_many 0 (numbers_of t.run.steady) 16 h.rising in omega (arith, rest, length-map t.run.steady (λ (s : ScriptLines). s.pid))

processes_are : (lib : Library) (n : ℕ) (h : List Entry) → AllByRecursion (IsEntry lib n) h → AllByRecursion (λ x. (1 ≤ x.pid) × (x.pid ≤ n)) h
processes_are lib n [] all = tt
processes_are lib n (x ∷ h) all = ((all.0.0, all.0.1), processes_are lib n h all.1)

-- ---- a reading to the end

pub record WholeRead (lib : Library) (bytes : List ℕ) (d : Draft) : Type 0 where
  pub it : Told
  pub is : told_in d ≡ it
  pub tells : Tells lib bytes it
  pub judged : CanBeJudged it

pub whole_read : (lib : Library) → AreApart lib → (bytes : List ℕ) (r : Reading) → AreAll lib bytes r → WholeRead lib bytes r.draft
whole_read lib apart bytes r a =
    let t = lines_follow.told lib a.lines a.few a.range a.whole in
    let again : (u : Told) → IsTold lib u → lines_of u ≡ a.lines → told_in r.draft ≡ u =
    λ u told same. ap told_in (a.reading.draft ∙ ap (after_lines nothing_read) (sym same)) ∙ told_back lib u told in
    let text : bytes ≡ told_text lib t.0 = a.all ∙ ap (text_of lib) (sym t.2) ∙ sym (texts_are_lines.text lib t.0) in
    record {
      it = t.0;
      is = again t.0 t.1 t.2;
      tells = record {
        told = t.1;
        text = text;
        only = λ u told same.
            let goes = goes_on lib apart a.lines (lines_of u) [] a.range (texts_are_lines.range lib u told) (append-nil (text_of lib a.lines) ∙ sym a.all ∙ same ∙ texts_are_lines.text lib u) in
            let no_more : goes.more ≡ [] = none_left lib apart goes.more goes.range (subst HasNoEnd goes.left refl) in
            sym (again u told (goes.lines ∙ ap (λ (m : List TranscriptLine). a.lines ++ m) no_more ∙ append-nil a.lines)) ∙ again t.0 t.1 t.2;
      };
      judged = record {
        room = omega (arith, lines_long t.0, ap length t.2, a.few);
        few = steady_few lib t.0 t.1;
        processes = processes_are lib (length t.0.run.steady) t.0.run.history t.1.entries;
      };
    }
