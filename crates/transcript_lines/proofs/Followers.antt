-- The lines of a transcript follow each other to its end.
use Rattle.std.proofs.Common.{◌≡◌, ℕ, zero, suc, ◌+◌, ◌<◌, ◌≤◌, ◌⊎◌, inl, inr, Bool, true, false, List, [], ◌∷◌, ◌++◌, length, map, flat_map, slice_index, Option, Some, refl, sym, ◌∙◌, ap, subst, arith, append_assoc}
use Rattle.std.specs.Prelude.{◌==◌, ◌&&◌, not, nat_lt, option_and_then}
use Rattle.std.specs.List.{AllByRecursion, enumerate_from, list_any}
use Rattle.std.proofs.lemmas.Bool.{eq-eqb, lt-ltb, le-ltb, and_from, and_left, or_from}
use Rattle.lx_types.specs.declared.limits.TheConstants.{MAX_PROCESSES}
use Rattle.load_model.specs.declared.deeds.Call.{Call}
use Rattle.load_model.specs.declared.deeds.Fresh.{Fresh}
use Rattle.load_model.specs.declared.deeds.Gone.{Gone}
use Rattle.load_model.specs.declared.deeds.Deed.{Deed}
use Rattle.load_model.specs.declared.deeds.Deed.TheVariants as deeds
use Rattle.load_model.specs.declared.deeds.Entry.{Entry}
use Rattle.load_model.specs.Modules.{Library}
use Rattle.load_model.specs.Serials.{Rise}
use Rattle.session_model.specs.declared.sessions.Line.{Line}
use Rattle.session_model.specs.declared.sessions.ScriptLines.{ScriptLines}
use Rattle.session_model.specs.Merging.{numbers_of}
use Rattle.check_model.specs.declared.kinds.Counts.{Counts}
use Rattle.check_model.specs.Told.{IsEntry, Told, IsTold}
use Rattle.transcript_lines.specs.declared.lines.TranscriptLine.{TranscriptLine}
use Rattle.transcript_lines.specs.declared.lines.TranscriptLine.TheVariants as lines
use Rattle.transcript_lines.specs.LinesOf.{bare, lines_below, script_number, entry_lines, script_lines, lines_of}
use Rattle.transcript_lines.specs.Following.{Below, below_of, Place, Start, Entries, Scripts, End, is_none_between, may_head, may_end, when, place_after}

-- ---- lines below an entry

abbrev At : ℕ → Below → List ℕ → List TranscriptLine → Option Place
At n b named ls = place_after (Entries n b named) ls

abbrev late : Below → Below
late b = record { news = false; calls = b.calls; gone = b.gone }

when_true : (b : Bool) (s : Place) (ls : List TranscriptLine) → b ≡ true → option_and_then (λ there. place_after there ls) (when b s) ≡ place_after s ls
when_true b s ls h = ap (λ t. option_and_then (λ there. place_after there ls) (when t s)) h

news_follow : (n : ℕ) (b : Below) (named : List ℕ) (xs : List Fresh) (ls : List TranscriptLine) → b.news ≡ true → At n b named (map lines.New xs ++ ls) ≡ At n b named ls
news_follow n b named [] ls h = refl
news_follow n b named (x ∷ xs) ls h = when_true b.news (Entries n b named) (map lines.New xs ++ ls) h ∙ news_follow n b named xs ls h

-- where lines below an entry have come to
pub record Inside (n : ℕ) (b : Below) (named : List ℕ) (first ls : List TranscriptLine) : Type 0 where
  pub there : Below
  pub calls : b.calls ≡ true → there.calls ≡ true
  pub gone : there.gone ≡ b.gone
  pub follow : At n b named (first ++ ls) ≡ At n there named ls

calls_follow : (n : ℕ) (b : Below) (named : List ℕ) (xs : List Call) (ls : List TranscriptLine) → b.calls ≡ true → Inside n b named (map lines.Call xs) ls
calls_follow n b named [] ls h = record { there = b; calls = λ c. c; gone = refl; follow = refl }
calls_follow n b named (x ∷ xs) ls h =
    let rest = calls_follow n (late b) named xs ls h in
    record { there = rest.there; calls = rest.calls; gone = rest.gone; follow = when_true b.calls (Entries n (late b) named) (map lines.Call xs ++ ls) h ∙ rest.follow }

gone_follow : (n : ℕ) (b : Below) (named : List ℕ) (xs : List Gone) (ls : List TranscriptLine) → b.gone ≡ true → (there : Below) × (At n b named (map lines.Gone xs ++ ls) ≡ At n there named ls)
gone_follow n b named [] ls h = (b, refl)
gone_follow n b named (x ∷ xs) ls h =
    let ended : Below = record { news = false; calls = false; gone = b.gone } in
    let rest = gone_follow n ended named xs ls h in
    (rest.0, when_true b.gone (Entries n ended named) (map lines.Gone xs ++ ls) h ∙ rest.1)

calls_and_gone : (n : ℕ) (b : Below) (named : List ℕ) (calls : List Call) (gone : List Gone) (ls : List TranscriptLine) → b.calls ≡ true → b.gone ≡ true
    → (there : Below) × (At n b named ((map lines.Call calls ++ map lines.Gone gone) ++ ls) ≡ At n there named ls)
calls_and_gone n b named calls gone ls hc hg =
    let first = calls_follow n b named calls (map lines.Gone gone ++ ls) hc in
    let second = gone_follow n first.there named gone ls (first.gone ∙ hg) in
    (second.0, ap (At n b named) (append_assoc (map lines.Call calls) (map lines.Gone gone) ls) ∙ first.follow ∙ second.1)

below_follow : (n : ℕ) (named : List ℕ) (d : Deed) (ls : List TranscriptLine) → (there : Below) × (At n (below_of (bare d)) named (lines_below d ++ ls) ≡ At n there named ls)
below_follow n named (deeds.Enter how m fresh calls) ls =
    let b : Below = record { news = true; calls = true; gone = false } in
    let first = calls_follow n b named calls ls refl in
    (first.there, ap (At n b named) (append_assoc (map lines.New fresh) (map lines.Call calls) ls) ∙ news_follow n b named fresh (map lines.Call calls ++ ls) refl ∙ first.follow)
below_follow n named (deeds.Failed how m by fresh calls gone) ls =
    let b : Below = record { news = true; calls = true; gone = true } in
    let rest = calls_and_gone n b named calls gone ls refl refl in (
      rest.0,
      ap (At n b named) (append_assoc (map lines.New fresh) (map lines.Call calls ++ map lines.Gone gone) ls)
          ∙ news_follow n b named fresh ((map lines.Call calls ++ map lines.Gone gone) ++ ls) refl ∙ rest.1,
    )
below_follow n named (deeds.Free m calls gone) ls = calls_and_gone n (record { news = false; calls = true; gone = true }) named calls gone ls refl refl
below_follow n named (deeds.Exit calls gone) ls = calls_and_gone n (record { news = false; calls = true; gone = true }) named calls gone ls refl refl
below_follow n named (deeds.Full how m of object size) ls = (record { news = false; calls = false; gone = false }, refl)
below_follow n named (deeds.Fault serial m p) ls = (record { news = false; calls = false; gone = false }, refl)
below_follow n named (deeds.Write serial m object offset bytes) ls = (record { news = false; calls = false; gone = false }, refl)
below_follow n named (deeds.Debug serial m object offset bytes) ls = (record { news = false; calls = false; gone = false }, refl)
below_follow n named (deeds.Shared serial m object offset bytes) ls = (record { news = false; calls = false; gone = false }, refl)

-- ---- entries

-- a number is one of others
abbrev pub IsOf : List ℕ → ℕ → Type 0
IsOf [] p = ⊥
IsOf (n ∷ ns) p = (p ≡ n) ⊎ IsOf ns p

at_of : (ns : List ℕ) (k : ℕ) → k < length ns → IsOf ns (slice_index ns k)
at_of [] k lt = absurd (let none : ⊥ = omega arith in none)
at_of (n ∷ ns) zero lt = inl refl
at_of (n ∷ ns) (suc k) lt = inr (at_of ns k (omega arith))

number_of : (ns : List ℕ) (pid : ℕ) → 1 ≤ pid → pid ≤ length ns → IsOf ns (script_number ns pid)
number_of ns zero least most = absurd (let none : ⊥ = omega arith in none)
number_of ns (suc k) least most = at_of ns k (omega arith)

pub record AfterEntries (ns : List ℕ) (n : ℕ) (b : Below) (named : List ℕ) (first ls : List TranscriptLine) : Type 0 where
  pub count : ℕ
  pub there : Below
  pub all : List ℕ
  pub known : AllByRecursion (IsOf ns) all
  pub follow : At n b named (first ++ ls) ≡ At count there all ls

entries_follow : (lib : Library) (ns : List ℕ) (n : ℕ) (b : Below) (named : List ℕ) (h : List Entry) (ls : List TranscriptLine) → AllByRecursion (IsOf ns) named
    → AllByRecursion (IsEntry lib (length ns)) h → AfterEntries ns n b named (flat_map (entry_lines ns) (enumerate_from (n + 1) h)) ls
entries_follow lib ns n b named [] ls known all = record { count = n; there = b; all = named; known = known; follow = refl }
entries_follow lib ns n b named (x ∷ h) ls known all =
    let p = script_number ns x.pid in
    let rest : List TranscriptLine = flat_map (entry_lines ns) (enumerate_from (n + 1 + 1) h) in
    let inside = below_follow (n + 1) (p ∷ named) x.deed (rest ++ ls) in
    let more = entries_follow lib ns (n + 1) inside.0 (p ∷ named) h ls (number_of ns x.pid all.0.0 all.0.1, known) all.1 in
    record {
      count = more.count;
      there = more.there;
      all = more.all;
      known = more.known;
      follow =
          when_true (n + 1 == n + 1) (Entries (n + 1) (below_of (bare x.deed)) (p ∷ named)) ((lines_below x.deed ++ rest) ++ ls) (eq-eqb (n + 1) (n + 1) refl)
          ∙ ap (At (n + 1) (below_of (bare x.deed)) (p ∷ named)) (append_assoc (lines_below x.deed) rest ls) ∙ inside.1 ∙ more.follow;
    }

-- ---- headings

-- numbers up to one, or among those that come
abbrev IsHeaded : ℕ → List ℕ → ℕ → Type 0
IsHeaded last ns p = (p ≤ last) ⊎ IsOf ns p

above_all : (low : ℕ) (ns : List ℕ) (high p : ℕ) → Rise low ns high → IsOf ns p → low < p
above_all low [] high p r h = absurd h
above_all low (n ∷ ns) high p r (inl is) = omega (arith, r.0, is)
above_all low (n ∷ ns) high p r (inr h) = let more = above_all n ns high p r.1 h in omega (arith, more, r.0)

pub none_between : (named : List ℕ) (low high : ℕ) → ((p : ℕ) → IsOf named p → (p ≤ low) ⊎ (high ≤ p)) → is_none_between named low high ≡ true
none_between named low high h = ap not (by named h)
  where
    one : (p : ℕ) → (p ≤ low) ⊎ (high ≤ p) → nat_lt low p && nat_lt p high ≡ false
    one p (inl le) = and_left (nat_lt low p) (nat_lt p high) (le-ltb low p le)
    one p (inr le) = by_right (nat_lt low p) (nat_lt p high) (le-ltb p high le)
      where
        by_right : (a b : Bool) → b ≡ false → a && b ≡ false
        by_right true b h = h
        by_right false b h = refl

    by : (ns : List ℕ) → ((p : ℕ) → IsOf ns p → (p ≤ low) ⊎ (high ≤ p)) → list_any (λ p. nat_lt low p && nat_lt p high) ns ≡ false
    by [] h = refl
    by (n ∷ ns) h = or_from (nat_lt low n && nat_lt n high) _ (one n (h n (inl refl))) (by ns (λ p is. h p (inr is)))

of_all : (P : ℕ → Type 0) (ns : List ℕ) (p : ℕ) → AllByRecursion P ns → IsOf ns p → P p
of_all P [] p all is = absurd is
of_all P (n ∷ ns) p all (inl is) = subst P (sym is) all.0
of_all P (n ∷ ns) p all (inr is) = of_all P ns p all.1 is

heading : (named : List ℕ) (last n : ℕ) (ns : List ℕ) → AllByRecursion (IsHeaded last (n ∷ ns)) named → last < n → Rise n ns 16 → may_head named last n ≡ true
heading named last n ns headed lt r = and_from (nat_lt last n) (is_none_between named last n) (lt-ltb last n lt) (none_between named last n (λ p is. by p (of_all (IsHeaded last (n ∷ ns)) named p headed is)))
  where
    by : (p : ℕ) → IsHeaded last (n ∷ ns) p → (p ≤ last) ⊎ (n ≤ p)
    by p (inl le) = inl le
    by p (inr (inl is)) = inr (omega (arith, is))
    by p (inr (inr is)) = let more = above_all n ns 16 p r is in inr (omega (arith, more))

ending : (named : List ℕ) (last : ℕ) → AllByRecursion (IsHeaded last []) named → may_end named last ≡ true
ending named last headed = none_between named last (MAX_PROCESSES + 1) (λ p is. by p (of_all (IsHeaded last []) named p headed is))
  where
    by : (p : ℕ) → IsHeaded last [] p → (p ≤ last) ⊎ (MAX_PROCESSES + 1 ≤ p)
    by p (inl le) = inl le
    by p (inr is) = absurd is

headed_on : (named : List ℕ) (last n : ℕ) (ns : List ℕ) → last < n → AllByRecursion (IsHeaded last (n ∷ ns)) named → AllByRecursion (IsHeaded n ns) named
headed_on [] last n ns lt all = tt
headed_on (p ∷ named) last n ns lt all = (by all.0, headed_on named last n ns lt all.1)
  where
    by : IsHeaded last (n ∷ ns) p → IsHeaded n ns p
    by (inl le) = inl (omega (arith, le, lt))
    by (inr (inl is)) = inl (omega (arith, is))
    by (inr (inr is)) = inr is

lines_follow : (last : ℕ) (named : List ℕ) (xs : List Line) (ls : List TranscriptLine) → place_after (Scripts last named) (map lines.Steady xs ++ ls) ≡ place_after (Scripts last named) ls
lines_follow last named [] ls = refl
lines_follow last named (x ∷ xs) ls = lines_follow last named xs ls

-- the headings that come, from either place
scripts_follow : (last : ℕ) (named : List ℕ) (s : List ScriptLines) (c : Counts) → Rise last (numbers_of s) 16 → AllByRecursion (IsHeaded last (numbers_of s)) named
    → place_after (Scripts last named) (flat_map script_lines s ++ lines.Summary c ∷ []) ≡ Some End
scripts_follow last named [] c r headed = when_true (may_end named last) End [] (ending named last headed)
scripts_follow last named (x ∷ s) c r headed =
    when_true (may_head named last x.pid) (Scripts x.pid named) ((map lines.Steady x.lines ++ flat_map script_lines s) ++ lines.Summary c ∷ []) (heading named last x.pid (numbers_of s) headed r.0 r.1)
    ∙ ap (place_after (Scripts x.pid named)) (append_assoc (map lines.Steady x.lines) (flat_map script_lines s) (lines.Summary c ∷ []))
    ∙ lines_follow x.pid named x.lines (flat_map script_lines s ++ lines.Summary c ∷ [])
    ∙ scripts_follow x.pid named s c r.1 (headed_on named last x.pid (numbers_of s) r.0 headed)

first_script : (n : ℕ) (b : Below) (named : List ℕ) (s : List ScriptLines) (c : Counts) → At n b named (flat_map script_lines s ++ lines.Summary c ∷ [])
    ≡ place_after (Scripts 0 named) (flat_map script_lines s ++ lines.Summary c ∷ [])
first_script n b named [] c = refl
first_script n b named (x ∷ s) c = refl

many : (s : List ScriptLines) → length (numbers_of s) ≡ length s
many [] = refl
many (x ∷ s) = ap suc (many s)

all_headed : (ns named : List ℕ) → AllByRecursion (IsOf ns) named → AllByRecursion (IsHeaded 0 ns) named
all_headed ns [] all = tt
all_headed ns (p ∷ named) all = (inr all.0, all_headed ns named all.1)

pub whole_follows : (lib : Library) (t : Told) → IsTold lib t → place_after Start (lines_of t) ≡ Some End
unfolding lines_of
whole_follows lib t h =
    let ns = numbers_of t.run.steady in
    let rest : List TranscriptLine = flat_map script_lines t.run.steady ++ lines.Summary t.counts ∷ [] in
    let entries : AllByRecursion (IsEntry lib (length ns)) t.run.history =
    subst (λ (n : ℕ). AllByRecursion (IsEntry lib n) t.run.history) (sym (many t.run.steady)) h.entries in
    let after = entries_follow lib ns 0 (record { news = false; calls = false; gone = false }) [] t.run.history rest tt entries in
    after.follow ∙ first_script after.count after.there after.all t.run.steady t.counts
    ∙ scripts_follow 0 after.all t.run.steady t.counts h.rising (all_headed ns after.all after.known)
