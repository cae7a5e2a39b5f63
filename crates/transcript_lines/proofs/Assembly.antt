-- Lines that follow each other to an end are those of a transcript.
use Rattle.std.proofs.Common.{◌≡◌, ℕ, zero, suc, ◌+◌, ◌<◌, ◌≤◌, ◌^◌, ◌⊎◌, inl, inr, Bool, true, false, List, [], ◌∷◌, ◌++◌, length, map, flat_map, Option, Some, refl, sym, ◌∙◌, ap, subst, arith, append_assoc}
use Rattle.std.specs.Prelude.{◌==◌, ◌&&◌, nat_lt, cond, option_and_then}
use Rattle.std.specs.List.{AllByRecursion, enumerate_from, list_any}
use Rattle.std.proofs.lemmas.Bool.{eqb-true, eq-eqb, ltb-true, and_parts, or_parts, not-true, and_from, lt-ltb, ltb-false, both_ways, cases_Bool}
use Rattle.std.proofs.lemmas.List.{append-nil}
use Rattle.load_model.specs.declared.deeds.Call.{Call}
use Rattle.load_model.specs.declared.deeds.Fresh.{Fresh}
use Rattle.load_model.specs.declared.deeds.Gone.{Gone}
use Rattle.load_model.specs.declared.deeds.Deed.{Deed}
use Rattle.load_model.specs.declared.deeds.Deed.TheVariants as deeds
use Rattle.load_model.specs.declared.deeds.Entry.{Entry}
use Rattle.load_model.specs.Modules.{Library}
use Rattle.load_model.specs.Serials.{Rise}
use Rattle.session_model.specs.declared.sessions.Line.{Line}
use Rattle.session_model.specs.declared.sessions.ScriptLines.{ScriptLines}
use Rattle.session_model.specs.Merging.{numbers_of}
use Rattle.check_model.specs.declared.kinds.Counts.{Counts}
use Rattle.check_model.specs.Told.{IsFresh, IsCall, IsGone, IsDeed, IsEntry, IsLine, AreLinesOf, AreCounts, Told, IsTold}
use Rattle.transcript_lines.specs.declared.lines.TranscriptLine.{TranscriptLine}
use Rattle.transcript_lines.specs.declared.lines.TranscriptLine.TheVariants as lines
use Rattle.transcript_lines.specs.Lines.{IsProcess, IsBare, IsLineOf}
use Rattle.transcript_lines.specs.LinesOf.{bare, lines_below, script_number, entry_lines, script_lines, lines_of}
use Rattle.transcript_lines.specs.Following.{Below, below_of, Place, Start, Entries, Scripts, End, is_none_between, may_head, may_end, when, place_after}
use Rattle.transcript_lines.proofs.Followers.{IsOf}

-- ---- a line that follows

abbrev after_when : Bool → Place → List TranscriptLine → Option Place
after_when b s ls = option_and_then (λ there. place_after there ls) (when b s)

when_some : (b : Bool) (s : Place) (ls : List TranscriptLine) → after_when b s ls ≡ Some End → (b ≡ true) × (place_after s ls ≡ Some End)
when_some true s ls h = (refl, h)
when_some false s ls h = absurd (cc (h))

pub nothing_after : (ls : List TranscriptLine) → place_after End ls ≡ Some End → ls ≡ []
nothing_after [] h = refl
nothing_after (l ∷ ls) h = absurd (cc (h))

-- ---- headings

not_between : (named : List ℕ) (low high q : ℕ) → is_none_between named low high ≡ true → IsOf named q → low < q → q < high → ⊥
not_between named low high q h is lt less = by named (not-true (list_any (λ p. nat_lt low p && nat_lt p high) named) h) is
  where
    by : (ns : List ℕ) → list_any (λ p. nat_lt low p && nat_lt p high) ns ≡ false → IsOf ns q → ⊥
    by [] h is = is
    by (n ∷ ns) h (inl same) =
        let here : nat_lt low q && nat_lt q high ≡ true = and_from (nat_lt low q) (nat_lt q high) (lt-ltb low q lt) (lt-ltb q high less) in
        both_ways (nat_lt low n && nat_lt n high) (or_parts (nat_lt low n && nat_lt n high) (list_any (λ p. nat_lt low p && nat_lt p high) ns) h).0
        (ap (λ p. nat_lt low p && nat_lt p high) (sym same) ∙ here)
    by (n ∷ ns) h (inr more) = by ns (or_parts (nat_lt low n && nat_lt n high) (list_any (λ p. nat_lt low p && nat_lt p high) ns) h).1 more

pub apart_or : (p q : ℕ) → (q < p) ⊎ ((q ≡ p) ⊎ (p < q))
apart_or p q = by (cases_Bool (nat_lt q p)) (cases_Bool (nat_lt p q))
  where
    by : (nat_lt q p ≡ true) ⊎ (nat_lt q p ≡ false) → (nat_lt p q ≡ true) ⊎ (nat_lt p q ≡ false) → (q < p) ⊎ ((q ≡ p) ⊎ (p < q))
    by (inl lt) o = inl (ltb-true q p lt)
    by (inr ge) (inl lt) = inr (inr (ltb-true p q lt))
    by (inr ge) (inr le) = let a = ltb-false q p ge in let b = ltb-false p q le in inr (inl (omega (arith, a, b)))

-- ---- from the first heading on

pub record Scripted (lib : Library) (last : ℕ) (named : List ℕ) (ls : List TranscriptLine) : Type 0 where
  pub steady : List Line
  pub scripts : List ScriptLines
  pub counts : Counts
  pub same : ls ≡ map lines.Steady steady ++ (flat_map script_lines scripts ++ lines.Summary counts ∷ [])
  pub each : AllByRecursion IsLine steady
  pub rising : Rise last (numbers_of scripts) 16
  pub all : AllByRecursion AreLinesOf scripts
  pub numbers : AreCounts counts
  pub headed : (q : ℕ) → IsOf named q → last < q → q ≤ 16 → IsOf (numbers_of scripts) q

scripted : (lib : Library) (last : ℕ) (named : List ℕ) (ls : List TranscriptLine) → last ≤ 16 → AllByRecursion (IsLineOf lib) ls → place_after (Scripts last named) ls ≡ Some End
    → Scripted lib last named ls
scripted lib last named [] le all h = absurd (cc (h))
scripted lib last named (lines.Process p ∷ ls) le all h =
    let step = when_some (may_head named last p) (Scripts p named) ls h in
    let test = and_parts (nat_lt last p) (is_none_between named last p) step.0 in
    let rest = scripted lib p named ls all.0.1 all.1 step.1 in
    record {
      steady = [];
      scripts = record { pid = p; lines = rest.steady } ∷ rest.scripts;
      counts = rest.counts;
      same = ap (λ r. lines.Process p ∷ r) (rest.same ∙ sym (append_assoc (map lines.Steady rest.steady) (flat_map script_lines rest.scripts) (lines.Summary rest.counts ∷ [])));
      each = tt;
      rising = (ltb-true last p test.0, rest.rising);
      all = (rest.each, rest.all);
      numbers = rest.numbers;
      headed = λ q is lt few. by (numbers_of rest.scripts) q is lt few (apart_or p q) test.1 rest.headed;
    }
  where
    by : (ns : List ℕ) (q : ℕ) → IsOf named q → last < q → q ≤ 16 → (q < p) ⊎ ((q ≡ p) ⊎ (p < q)) → is_none_between named last p ≡ true
        → ((q : ℕ) → IsOf named q → p < q → q ≤ 16 → IsOf ns q) → (q ≡ p) ⊎ IsOf ns q
    by ns q is lt few (inl less) none later = absurd (not_between named last p q none is lt less)
    by ns q is lt few (inr (inl same)) none later = inl same
    by ns q is lt few (inr (inr more)) none later = inr (later q is more few)
scripted lib last named (lines.Steady l ∷ ls) le all h =
    let rest = scripted lib last named ls le all.1 h in
    record {
      steady = l ∷ rest.steady;
      scripts = rest.scripts;
      counts = rest.counts;
      same = ap (λ r. lines.Steady l ∷ r) rest.same;
      each = (all.0, rest.each);
      rising = rest.rising;
      all = rest.all;
      numbers = rest.numbers;
      headed = rest.headed;
    }
scripted lib last named (lines.Summary c ∷ ls) le all h =
    let step = when_some (may_end named last) End ls h in
    record {
      steady = [];
      scripts = [];
      counts = c;
      same = ap (λ r. lines.Summary c ∷ r) (nothing_after ls step.1);
      each = tt;
      rising = le;
      all = tt;
      numbers = all.0;
      headed = λ q is lt few. absurd (not_between named last 17 q step.0 is lt (omega (arith, few)));
    }
scripted lib last named (l ∷ ls) le all h = absurd (cc (h))

-- ---- entries

-- the lines of entries whose processes are told by the numbers of scripts
abbrev numbered : ℕ → List Entry → List TranscriptLine
numbered n h = flat_map (λ (x : ℕ × Entry). lines.Entry x.0 x.1.pid (bare x.1.deed) ∷ lines_below x.1.deed) (enumerate_from n h)

-- what was done, with the lines below it
abbrev with_lines : Deed → List Fresh → List Call → List Gone → Deed
with_lines (deeds.Enter how m f c) fresh calls gone = deeds.Enter how m fresh calls
with_lines (deeds.Failed how m by f c g) fresh calls gone = deeds.Failed how m by fresh calls gone
with_lines (deeds.Free m c g) fresh calls gone = deeds.Free m calls gone
with_lines (deeds.Exit c g) fresh calls gone = deeds.Exit calls gone
with_lines d fresh calls gone = d

abbrev all_below : List Fresh → List Call → List Gone → List TranscriptLine
all_below fresh calls gone = map lines.New fresh ++ (map lines.Call calls ++ map lines.Gone gone)

-- only lines that may stand there
pub record Allowed (b : Below) (fresh : List Fresh) (calls : List Call) (gone : List Gone) : Type 0 where
  pub news : b.news ≡ false → fresh ≡ []
  pub called : b.calls ≡ false → calls ≡ []
  pub left : b.gone ≡ false → gone ≡ []

bare_is : (lib : Library) (d : Deed) (fresh : List Fresh) (calls : List Call) (gone : List Gone) → IsBare d → bare (with_lines d fresh calls gone) ≡ d
bare_is lib (deeds.Enter how m f c) fresh calls gone h = λ i. deeds.Enter how m (sym h.0 i) (sym h.1 i)
bare_is lib (deeds.Failed how m by f c g) fresh calls gone h = λ i. deeds.Failed how m by (sym h.0 i) (sym h.1 i) (sym h.2 i)
bare_is lib (deeds.Free m c g) fresh calls gone h = λ i. deeds.Free m (sym h.0 i) (sym h.1 i)
bare_is lib (deeds.Exit c g) fresh calls gone h = λ i. deeds.Exit (sym h.0 i) (sym h.1 i)
bare_is lib (deeds.Full how m of object size) fresh calls gone h = refl
bare_is lib (deeds.Fault serial m p) fresh calls gone h = refl
bare_is lib (deeds.Write serial m object offset bytes) fresh calls gone h = refl
bare_is lib (deeds.Debug serial m object offset bytes) fresh calls gone h = refl
bare_is lib (deeds.Shared serial m object offset bytes) fresh calls gone h = refl

no_lines : (fresh : List Fresh) (calls : List Call) (gone : List Gone) → fresh ≡ [] → calls ≡ [] → gone ≡ [] → [] ≡ all_below fresh calls gone
no_lines fresh calls gone f c g = λ i. all_below (sym f i) (sym c i) (sym g i)

below_is : (d : Deed) (fresh : List Fresh) (calls : List Call) (gone : List Gone) → Allowed (below_of d) fresh calls gone → lines_below (with_lines d fresh calls gone) ≡ all_below fresh calls gone
below_is (deeds.Enter how m f c) fresh calls gone a =
    ap (λ l. map lines.New fresh ++ l) (sym (append-nil (map lines.Call calls)) ∙ ap (λ (g : List Gone). map lines.Call calls ++ map lines.Gone g) (sym (a.left refl)))
below_is (deeds.Failed how m by f c g) fresh calls gone a = refl
below_is (deeds.Free m c g) fresh calls gone a = ap (λ (f : List Fresh). map lines.New f ++ (map lines.Call calls ++ map lines.Gone gone)) (sym (a.news refl))
below_is (deeds.Exit c g) fresh calls gone a = ap (λ (f : List Fresh). map lines.New f ++ (map lines.Call calls ++ map lines.Gone gone)) (sym (a.news refl))
below_is (deeds.Full how m of object size) fresh calls gone a = no_lines fresh calls gone (a.news refl) (a.called refl) (a.left refl)
below_is (deeds.Fault serial m p) fresh calls gone a = no_lines fresh calls gone (a.news refl) (a.called refl) (a.left refl)
below_is (deeds.Write serial m object offset bytes) fresh calls gone a = no_lines fresh calls gone (a.news refl) (a.called refl) (a.left refl)
below_is (deeds.Debug serial m object offset bytes) fresh calls gone a = no_lines fresh calls gone (a.news refl) (a.called refl) (a.left refl)
below_is (deeds.Shared serial m object offset bytes) fresh calls gone a = no_lines fresh calls gone (a.news refl) (a.called refl) (a.left refl)

pub record AreBelow (lib : Library) (fresh : List Fresh) (calls : List Call) (gone : List Gone) : Type 0 where
  pub news : AllByRecursion (IsFresh lib) fresh
  pub called : AllByRecursion (IsCall lib) calls
  pub left : AllByRecursion (IsGone lib) gone

deed_range : (lib : Library) (d : Deed) (fresh : List Fresh) (calls : List Call) (gone : List Gone) → IsDeed lib d → AreBelow lib fresh calls gone → IsDeed lib (with_lines d fresh calls gone)
deed_range lib (deeds.Enter how m f c) fresh calls gone h a = (h.0, a.news, a.called)
deed_range lib (deeds.Failed how m by f c g) fresh calls gone h a = (h.0, h.1, a.news, a.called, a.left)
deed_range lib (deeds.Free m c g) fresh calls gone h a = (h.0, a.called, a.left)
deed_range lib (deeds.Exit c g) fresh calls gone h a = (a.called, a.left)
deed_range lib (deeds.Full how m of object size) fresh calls gone h a = h
deed_range lib (deeds.Fault serial m p) fresh calls gone h a = h
deed_range lib (deeds.Write serial m object offset bytes) fresh calls gone h a = h
deed_range lib (deeds.Debug serial m object offset bytes) fresh calls gone h a = h
deed_range lib (deeds.Shared serial m object offset bytes) fresh calls gone h a = h

abbrev IsNumbered : Library → Entry → Type 0
IsNumbered lib x = IsProcess x.pid × IsDeed lib x.deed

abbrev pids : List Entry → List ℕ
pids h = map (λ x. x.pid) h

-- what stands after so many entries
pub record Entered (lib : Library) (n : ℕ) (b : Below) (named : List ℕ) (ls : List TranscriptLine) : Type 0 where
  pub fresh : List Fresh
  pub calls : List Call
  pub gone : List Gone
  pub history : List Entry
  pub scripts : List ScriptLines
  pub counts : Counts
  pub same : ls ≡ all_below fresh calls gone ++ (numbered (n + 1) history ++ (flat_map script_lines scripts ++ lines.Summary counts ∷ []))
  pub allowed : Allowed b fresh calls gone
  pub below : AreBelow lib fresh calls gone
  pub entries : AllByRecursion (IsNumbered lib) history
  pub rising : Rise 0 (numbers_of scripts) 16
  pub all : AllByRecursion AreLinesOf scripts
  pub numbers : AreCounts counts
  pub known : (q : ℕ) → IsOf named q → 0 < q → q ≤ 16 → IsOf (numbers_of scripts) q
  pub known_too : (q : ℕ) → IsOf (pids history) q → 0 < q → q ≤ 16 → IsOf (numbers_of scripts) q
  pub few : length history ≤ length ls

none_below : (b : Below) → Allowed b [] [] []
none_below b = record { news = λ _. refl; called = λ _. refl; left = λ _. refl }

of_scripts : (lib : Library) (n : ℕ) (b : Below) (named : List ℕ) (ls : List TranscriptLine) (it : Scripted lib 0 named ls) → it.steady ≡ [] → Entered lib n b named ls
of_scripts lib n b named ls it none = record {
  fresh = [];
  calls = [];
  gone = [];
  history = [];
  scripts = it.scripts;
  counts = it.counts;
  same = it.same ∙ ap (λ (l : List Line). map lines.Steady l ++ (flat_map script_lines it.scripts ++ lines.Summary it.counts ∷ [])) none;
  allowed = none_below b;
  below = record { news = tt; called = tt; left = tt };
  entries = tt;
  rising = it.rising;
  all = it.all;
  numbers = it.numbers;
  known = it.headed;
  known_too = λ q is _ _. absurd is;
  few = omega arith;
}

entered : (lib : Library) (n : ℕ) (b : Below) (named : List ℕ) (ls : List TranscriptLine) → AllByRecursion (IsLineOf lib) ls → place_after (Entries n b named) ls ≡ Some End → Entered lib n b named ls
entered lib n b named [] all h = absurd (cc (h))
entered lib n b named (lines.Entry k p d ∷ ls) all h =
    let step = when_some (k == n + 1) (Entries (n + 1) (below_of d) (p ∷ named)) ls h in
    let rest = entered lib (n + 1) (below_of d) (p ∷ named) ls all.1 step.1 in
    let deed = with_lines d rest.fresh rest.calls rest.gone in
    let later : List TranscriptLine = numbered (n + 1 + 1) rest.history in
    let others : List TranscriptLine = flat_map script_lines rest.scripts ++ lines.Summary rest.counts ∷ [] in
    let number : k ≡ n + 1 = eqb-true k (n + 1) step.0 in
    let is : d ≡ bare deed = sym (bare_is lib d rest.fresh rest.calls rest.gone all.0.3) in
    let inner : all_below rest.fresh rest.calls rest.gone ≡ lines_below deed = sym (below_is d rest.fresh rest.calls rest.gone rest.allowed) in
    record {
      fresh = [];
      calls = [];
      gone = [];
      history = record { pid = p; deed = deed } ∷ rest.history;
      scripts = rest.scripts;
      counts = rest.counts;
      same =
          (λ i. lines.Entry (number i) p (is i) ∷ rest.same i) ∙ ap (λ l. lines.Entry (n + 1) p (bare deed) ∷ (l ++ (later ++ others))) inner
          ∙ ap (λ l. lines.Entry (n + 1) p (bare deed) ∷ l) (sym (append_assoc (lines_below deed) later others));
      allowed = none_below b;
      below = record { news = tt; called = tt; left = tt };
      entries = ((all.0.1, deed_range lib d rest.fresh rest.calls rest.gone all.0.2 rest.below), rest.entries);
      rising = rest.rising;
      all = rest.all;
      numbers = rest.numbers;
      known = λ q is some few. rest.known q (inr is) some few;
      known_too = λ q is some few. by rest.history (numbers_of rest.scripts) q is some few rest.known rest.known_too;
      few = omega (arith, rest.few);
    }
  where
    by : (h : List Entry) (ns : List ℕ) (q : ℕ) → (q ≡ p) ⊎ IsOf (pids h) q → 0 < q → q ≤ 16 → ((q : ℕ) → IsOf (p ∷ named) q → 0 < q → q ≤ 16 → IsOf ns q)
        → ((q : ℕ) → IsOf (pids h) q → 0 < q → q ≤ 16 → IsOf ns q) → IsOf ns q
    by h ns q (inl same) some few known too = known q (inl same) some few
    by h ns q (inr more) some few known too = too q more some few
entered lib n b named (lines.New f ∷ ls) all h =
    let step = when_some b.news (Entries n b named) ls h in
    let rest = entered lib n b named ls all.1 step.1 in
    record {
      fresh = f ∷ rest.fresh;
      calls = rest.calls;
      gone = rest.gone;
      history = rest.history;
      scripts = rest.scripts;
      counts = rest.counts;
      same = ap (λ r. lines.New f ∷ r) rest.same;
      allowed = record { news = λ no. absurd (both_ways b.news no step.0); called = rest.allowed.called; left = rest.allowed.left };
      below = record { news = (all.0, rest.below.news); called = rest.below.called; left = rest.below.left };
      entries = rest.entries;
      rising = rest.rising;
      all = rest.all;
      numbers = rest.numbers;
      known = rest.known;
      known_too = rest.known_too;
      few = omega (arith, rest.few);
    }
entered lib n b named (lines.Call c ∷ ls) all h =
    let late : Below = record { news = false; calls = b.calls; gone = b.gone } in
    let step = when_some b.calls (Entries n late named) ls h in
    let rest = entered lib n late named ls all.1 step.1 in
    let others : List TranscriptLine = numbered (n + 1) rest.history ++ (flat_map script_lines rest.scripts ++ lines.Summary rest.counts ∷ []) in
    record {
      fresh = [];
      calls = c ∷ rest.calls;
      gone = rest.gone;
      history = rest.history;
      scripts = rest.scripts;
      counts = rest.counts;
      same = ap (λ r. lines.Call c ∷ r) (rest.same ∙ ap (λ (f : List Fresh). all_below f rest.calls rest.gone ++ others) (rest.allowed.news refl));
      allowed = record { news = λ _. refl; called = λ no. absurd (both_ways b.calls no step.0); left = rest.allowed.left };
      below = record { news = tt; called = (all.0, rest.below.called); left = rest.below.left };
      entries = rest.entries;
      rising = rest.rising;
      all = rest.all;
      numbers = rest.numbers;
      known = rest.known;
      known_too = rest.known_too;
      few = omega (arith, rest.few);
    }
entered lib n b named (lines.Gone g ∷ ls) all h =
    let late : Below = record { news = false; calls = false; gone = b.gone } in
    let step = when_some b.gone (Entries n late named) ls h in
    let rest = entered lib n late named ls all.1 step.1 in
    let others : List TranscriptLine = numbered (n + 1) rest.history ++ (flat_map script_lines rest.scripts ++ lines.Summary rest.counts ∷ []) in
    record {
      fresh = [];
      calls = [];
      gone = g ∷ rest.gone;
      history = rest.history;
      scripts = rest.scripts;
      counts = rest.counts;
      same = ap (λ r. lines.Gone g ∷ r) (rest.same ∙ (λ i. all_below (rest.allowed.news refl i) (rest.allowed.called refl i) rest.gone ++ others));
      allowed = record { news = λ _. refl; called = λ _. refl; left = λ no. absurd (both_ways b.gone no step.0) };
      below = record { news = tt; called = tt; left = (all.0, rest.below.left) };
      entries = rest.entries;
      rising = rest.rising;
      all = rest.all;
      numbers = rest.numbers;
      known = rest.known;
      known_too = rest.known_too;
      few = omega (arith, rest.few);
    }
entered lib n b named (lines.Process p ∷ ls) all h =
    let first : place_after (Scripts 0 named) (lines.Process p ∷ ls) ≡ Some End = h in
    let it = scripted lib 0 named (lines.Process p ∷ ls) (omega arith) all first in
    of_scripts lib n b named (lines.Process p ∷ ls) it (no_steady p ls it.steady it.scripts it.counts it.same)
  where
    no_steady : (p : ℕ) (ls : List TranscriptLine) (steady : List Line) (scripts : List ScriptLines) (c : Counts)
        → lines.Process p ∷ ls ≡ map lines.Steady steady ++ (flat_map script_lines scripts ++ lines.Summary c ∷ []) → steady ≡ []
    no_steady p ls [] scripts c is = refl
    no_steady p ls (l ∷ steady) scripts c is = absurd (cc (is))
entered lib n b named (lines.Summary c ∷ ls) all h =
    let first : place_after (Scripts 0 named) (lines.Summary c ∷ ls) ≡ Some End = h in
    let it = scripted lib 0 named (lines.Summary c ∷ ls) (omega arith) all first in
    of_scripts lib n b named (lines.Summary c ∷ ls) it (no_steady c ls it.steady it.scripts it.counts it.same)
  where
    no_steady : (d : Counts) (ls : List TranscriptLine) (steady : List Line) (scripts : List ScriptLines) (c : Counts)
        → lines.Summary d ∷ ls ≡ map lines.Steady steady ++ (flat_map script_lines scripts ++ lines.Summary c ∷ []) → steady ≡ []
    no_steady d ls [] scripts c is = refl
    no_steady d ls (l ∷ steady) scripts c is = absurd (cc (is))
entered lib n b named (l ∷ ls) all h = absurd (cc (h))

-- ---- processes by the numbers of their scripts

abbrev place_of : List ℕ → ℕ → ℕ
place_of [] q = 0
place_of (n ∷ ns) q = cond (q == n) 1 (suc (place_of ns q))

pub record Placed (ns : List ℕ) (q : ℕ) : Type 0 where
  pub least : 1 ≤ place_of ns q
  pub most : place_of ns q ≤ length ns
  pub number : script_number ns (place_of ns q) ≡ q

placed : (ns : List ℕ) (q : ℕ) → IsOf ns q → Placed ns q
placed [] q is = absurd is
placed (n ∷ ns) q is = by (cases_Bool (q == n)) is (placed ns q)
  where
    later : (k : ℕ) → 1 ≤ k → script_number ns k ≡ script_number (n ∷ ns) (suc k)
    later zero h = absurd (let none : ⊥ = omega arith in none)
    later (suc k) h = refl

    by : (q == n ≡ true) ⊎ (q == n ≡ false) → (q ≡ n) ⊎ IsOf ns q → (IsOf ns q → Placed ns q) → Placed (n ∷ ns) q
    by (inl same) is rest =
        let place : place_of (n ∷ ns) q ≡ 1 = ap (λ t. cond t 1 (suc (place_of ns q))) same in
        record { least = omega (arith, place); most = omega (arith, place); number = ap (script_number (n ∷ ns)) place ∙ sym (eqb-true q n same) }
    by (inr apart) (inl same) rest = absurd (both_ways (q == n) apart (eq-eqb q n same))
    by (inr apart) (inr more) rest =
        let it = rest more in
        let place : place_of (n ∷ ns) q ≡ suc (place_of ns q) = ap (λ t. cond t 1 (suc (place_of ns q))) apart in
        record {
          least = omega (arith, place);
          most = omega (arith, place, it.most);
          number = ap (script_number (n ∷ ns)) place ∙ sym (later (place_of ns q) it.least) ∙ it.number;
        }

abbrev with_place : List ℕ → Entry → Entry
with_place ns x = record { pid = place_of ns x.pid; deed = x.deed }

entries_placed : (ns : List ℕ) (n : ℕ) (h : List Entry) → ((q : ℕ) → IsOf (pids h) q → Placed ns q) → flat_map (entry_lines ns) (enumerate_from n (map (with_place ns) h)) ≡ numbered n h
entries_placed ns n [] all = refl
entries_placed ns n (x ∷ h) all =
    λ i. (lines.Entry n ((all x.pid (inl refl)).number i) (bare x.deed) ∷ lines_below x.deed) ++ entries_placed ns (n + 1) h (λ q is. all q (inr is)) i

placed_range : (lib : Library) (ns : List ℕ) (h : List Entry) → ((q : ℕ) → IsOf (pids h) q → Placed ns q) → AllByRecursion (IsNumbered lib) h
    → AllByRecursion (IsEntry lib (length ns)) (map (with_place ns) h)
placed_range lib ns [] all range = tt
placed_range lib ns (x ∷ h) all range =
    let here = all x.pid (inl refl) in
    ((here.least, here.most, range.0.1), placed_range lib ns h (λ q is. all q (inr is)) range.1)

pids_range : (lib : Library) (h : List Entry) (q : ℕ) → AllByRecursion (IsNumbered lib) h → IsOf (pids h) q → IsProcess q
pids_range lib [] q all is = absurd is
pids_range lib (x ∷ h) q all (inl same) = subst IsProcess (sym same) all.0.0
pids_range lib (x ∷ h) q all (inr more) = pids_range lib h q all.1 more

many : (s : List ScriptLines) → length (numbers_of s) ≡ length s
many [] = refl
many (x ∷ s) = ap suc (many s)

map_many : (ns : List ℕ) (h : List Entry) → length (map (with_place ns) h) ≡ length h
map_many ns [] = refl
map_many ns (x ∷ h) = ap suc (map_many ns h)

-- lines that follow each other from the first to the end tell a transcript
pub told_lines : (lib : Library) (ls : List TranscriptLine) → length ls < 2 ^ 64 → AllByRecursion (IsLineOf lib) ls → place_after Start ls ≡ Some End → (t : Told) × IsTold lib t × (lines_of t ≡ ls)
unfolding lines_of
told_lines lib [] few all h = absurd (cc (h))
told_lines lib (lines.History ∷ ls) few all h =
    let b : Below = record { news = false; calls = false; gone = false } in
    let it = entered lib 0 b [] ls all.1 h in
    let ns = numbers_of it.scripts in
    let places : (q : ℕ) → IsOf (pids it.history) q → Placed ns q =
    λ q is. let range = pids_range lib it.history q it.entries is in placed ns q (it.known_too q is (omega (arith, range.0)) range.1) in
    let history : List Entry = map (with_place ns) it.history in
    let t : Told = record { run = record { history = history; steady = it.scripts }; counts = it.counts } in
    let others : List TranscriptLine = flat_map script_lines it.scripts ++ lines.Summary it.counts ∷ [] in
    let none : [] ≡ all_below it.fresh it.calls it.gone = no_lines it.fresh it.calls it.gone (it.allowed.news refl) (it.allowed.called refl) (it.allowed.left refl) in
    let same : lines_of t ≡ lines.History ∷ ls =
    ap (λ l. lines.History ∷ (l ++ others)) (entries_placed ns 1 it.history places)
    ∙ ap (λ l. lines.History ∷ (l ++ (numbered 1 it.history ++ others))) none ∙ ap (λ l. lines.History ∷ l) (sym it.same) in
    let entries : AllByRecursion (IsEntry lib (length it.scripts)) history =
    subst (λ (n : ℕ). AllByRecursion (IsEntry lib n) history) (many it.scripts) (placed_range lib ns it.history places it.entries) in
    let told : IsTold lib t = record {
      few = omega (arith, map_many ns it.history, it.few, few);
      rising = it.rising;
      entries = entries;
      lines = it.all;
      counts = it.numbers;
    } in
    (t, told, same)
told_lines lib (l ∷ ls) few all h = absurd (cc (h))
