-- Lines that follow each other go on to an end.
use Rattle.std.proofs.Common.{◌≡◌, ℕ, zero, suc, ◌+◌, ◌-◌, ◌<◌, ◌≤◌, ◌^◌, ◌⊎◌, inl, inr, Bool, true, false, List, [], ◌∷◌, ◌++◌, length, Option, Some, None, refl, sym, ◌∙◌, ap, subst, arith}
use Rattle.std.specs.Prelude.{nat_lt, option_and_then}
use Rattle.std.specs.List.{AllByRecursion}
use Rattle.std.proofs.lemmas.Bool.{and_from, lt-ltb}
use Rattle.std.proofs.lemmas.List.{length-append}
use Rattle.lx_types.proofs.Lists.{all_joined}
use Rattle.load_model.specs.Modules.{Library}
use Rattle.check_model.specs.declared.kinds.Counts.{Counts}
use Rattle.transcript_lines.specs.declared.lines.TranscriptLine.{TranscriptLine}
use Rattle.transcript_lines.specs.declared.lines.TranscriptLine.TheVariants as lines
use Rattle.transcript_lines.specs.Lines.{IsLineOf}
use Rattle.transcript_lines.specs.Following.{Below, below_of, Place, Start, Entries, Scripts, End, is_none_between, may_head, may_end, when, next, place_after, LinesFollow, Goes, LinesBegin}
use Rattle.transcript_lines.proofs.Followers.{none_between, whole_follows}
use Rattle.transcript_lines.proofs.Assembly.{apart_or, nothing_after, told_lines}

-- ---- lines in front

joined : (s e : Place) (ls more : List TranscriptLine) → place_after s ls ≡ Some e → place_after s (ls ++ more) ≡ place_after e more
joined s e [] more h = let same : s ≡ e = cc (h) in ap (λ p. place_after p more) same
joined s e (l ∷ ls) more h = by (next s l) h (λ p h. joined p e ls more h)
  where
    by : (o : Option Place) → option_and_then (λ there. place_after there ls) o ≡ Some e → ((p : Place) → place_after p ls ≡ Some e → place_after p (ls ++ more) ≡ place_after e more)
        → option_and_then (λ there. place_after there (ls ++ more)) o ≡ place_after e more
    by None h again = absurd (cc (h))
    by (Some p) h again = again p h

none_joined : (s : Place) (ls more : List TranscriptLine) → place_after s ls ≡ None → place_after s (ls ++ more) ≡ None
none_joined s [] more h = absurd (cc (h))
none_joined s (l ∷ ls) more h = by (next s l) h (λ p h. none_joined p ls more h)
  where
    by : (o : Option Place) → option_and_then (λ there. place_after there ls) o ≡ None → ((p : Place) → place_after p ls ≡ None → place_after p (ls ++ more) ≡ None)
        → option_and_then (λ there. place_after there (ls ++ more)) o ≡ None
    by None h again = refl
    by (Some p) h again = again p h

-- ---- places that lines in range come to

abbrev IsInRange : Place → Type 0
IsInRange Start = Unit {0}
IsInRange (Entries n b named) = Unit {0}
IsInRange (Scripts last named) = last ≤ 16
IsInRange End = Unit {0}

abbrev IfThere : Option Place → Type 0
IfThere None = Unit {0}
IfThere (Some s) = IsInRange s

if_when : (b : Bool) (s : Place) → IsInRange s → IfThere (when b s)
if_when true s h = h
if_when false s h = tt

next_range : (lib : Library) (s : Place) (l : TranscriptLine) → IsInRange s → IsLineOf lib l → IfThere (next s l)
next_range lib Start lines.History h r = tt
next_range lib (Entries n b named) (lines.Process p) h r = if_when (may_head named 0 p) (Scripts p named) r.1
next_range lib (Entries n b named) (lines.Entry k p d) h r = if_when _ (Entries (n + 1) (below_of d) (p ∷ named)) tt
next_range lib (Entries n b named) (lines.New f) h r = if_when b.news (Entries n b named) tt
next_range lib (Entries n b named) (lines.Call c) h r = if_when b.calls (Entries n (record { news = false; calls = b.calls; gone = b.gone }) named) tt
next_range lib (Entries n b named) (lines.Gone g) h r = if_when b.gone (Entries n (record { news = false; calls = false; gone = b.gone }) named) tt
next_range lib (Entries n b named) (lines.Summary c) h r = if_when (may_end named 0) End tt
next_range lib (Scripts last named) (lines.Process p) h r = if_when (may_head named last p) (Scripts p named) r.1
next_range lib (Scripts last named) (lines.Steady l) h r = h
next_range lib (Scripts last named) (lines.Summary c) h r = if_when (may_end named last) End tt
next_range lib s l h r = tt

after_range : (lib : Library) (s e : Place) (ls : List TranscriptLine) → IsInRange s → AllByRecursion (IsLineOf lib) ls → place_after s ls ≡ Some e → IsInRange e
after_range lib s e [] h all is = let same : s ≡ e = cc (is) in subst IsInRange same h
after_range lib s e (l ∷ ls) h all is = by (next s l) (next_range lib s l h all.0) is (λ p r is. after_range lib p e ls r all.1 is)
  where
    by : (o : Option Place) → IfThere o → option_and_then (λ there. place_after there ls) o ≡ Some e → ((p : Place) → IsInRange p → place_after p ls ≡ Some e → IsInRange e) → IsInRange e
    by None r is again = absurd (cc (is))
    by (Some p) r is again = again p r is

-- ---- an end from each place

nothing_counted : Counts
nothing_counted = record { processes = 0; entries = 0; faults = 0 }

headings : ℕ → ℕ → List TranscriptLine
headings zero last = lines.Summary nothing_counted ∷ []
headings (suc k) last = lines.Process (last + 1) ∷ headings k (last + 1)

when_true : (b : Bool) (s : Place) (ls : List TranscriptLine) → b ≡ true → option_and_then (λ there. place_after there ls) (when b s) ≡ place_after s ls
when_true b s ls h = ap (λ t. option_and_then (λ there. place_after there ls) (when t s)) h

next_number : (named : List ℕ) (last : ℕ) → is_none_between named last (last + 1) ≡ true
next_number named last = none_between named last (last + 1) (λ p is. by p (apart_or p last))
  where
    by : (p : ℕ) → (last < p) ⊎ ((last ≡ p) ⊎ (p < last)) → (p ≤ last) ⊎ (last + 1 ≤ p)
    by p (inl lt) = inr (omega arith)
    by p (inr (inl same)) = inl (omega (arith, same))
    by p (inr (inr lt)) = inl (omega arith)

headings_end : (k last : ℕ) (named : List ℕ) → last + k ≡ 16 → place_after (Scripts last named) (headings k last) ≡ Some End
unfolding headings
headings_end zero last named is =
    let sixteen : last ≡ 16 = omega (arith, is) in
    when_true (may_end named last) End [] (ap (λ n. may_end named n) sixteen ∙ next_number named 16)
headings_end (suc k) last named is =
    when_true (may_head named last (last + 1)) (Scripts (last + 1) named) (headings k (last + 1))
    (and_from (nat_lt last (last + 1)) (is_none_between named last (last + 1)) (lt-ltb last (last + 1) (omega arith)) (next_number named last))
    ∙ headings_end k (last + 1) named (omega (arith, is))

headings_range : (lib : Library) (k last : ℕ) → last + k ≡ 16 → AllByRecursion (IsLineOf lib) (headings k last)
unfolding headings nothing_counted
headings_range lib zero last is = (record { processes = omega arith; entries = omega arith; faults = omega arith }, tt)
headings_range lib (suc k) last is = ((omega arith, omega (arith, is)), headings_range lib k (last + 1) (omega (arith, is)))

headings_few : (k last : ℕ) → length (headings k last) ≡ k + 1
unfolding headings
headings_few zero last = refl
headings_few (suc k) last = let rest = headings_few k (last + 1) in omega (arith, rest)

pub record Ending (lib : Library) (s : Place) : Type 0 where
  pub more : List TranscriptLine
  pub range : AllByRecursion (IsLineOf lib) more
  pub few : length more ≤ 18
  pub there : place_after s more ≡ Some End
  pub none : s ≡ End → more ≡ []

from_entries : (named : List ℕ) (n : ℕ) (b : Below) → place_after (Entries n b named) (headings 16 0) ≡ Some End
unfolding headings
from_entries named n b = headings_end 16 0 named refl

ending : (lib : Library) (s : Place) → IsInRange s → Ending lib s
ending lib Start h = record {
  more = lines.History ∷ headings 16 0;
  range = (tt, headings_range lib 16 0 refl);
  few = omega (arith, headings_few 16 0);
  there = from_entries [] 0 (record { news = false; calls = false; gone = false });
  none = λ is. absurd (cc (is));
}
ending lib (Entries n b named) h = record {
  more = headings 16 0;
  range = headings_range lib 16 0 refl;
  few = omega (arith, headings_few 16 0);
  there = from_entries named n b;
  none = λ is. absurd (cc (is));
}
ending lib (Scripts last named) h =
    let left : (k : ℕ) × (last + k ≡ 16) × (k ≤ 16) = (16 - last, omega (arith, h), omega arith) in
    record {
      more = headings left.0 last;
      range = headings_range lib left.0 last left.1;
      few = omega (arith, headings_few left.0 last, left.2);
      there = headings_end left.0 last named left.1;
      none = λ is. absurd (cc (is));
    }
ending lib End h = record { more = []; range = tt; few = omega arith; there = refl; none = λ _. refl }

-- ---- the laws

pub lines_follow : LinesFollow
lines_follow = record { whole = whole_follows; told = told_lines }

goes_on : (lib : Library) (ls : List TranscriptLine) (s : Place) → length ls + 18 < 2 ^ 64 → AllByRecursion (IsLineOf lib) ls → place_after Start ls ≡ Some s
    → (more : List TranscriptLine) × Goes lib ls more × (s ≡ End → more ≡ [])
goes_on lib ls s few all is =
    let e = ending lib s (after_range lib Start s ls tt all is) in
    let whole = joined Start s ls e.more is ∙ e.there in
    let t = told_lines lib (ls ++ e.more) (omega (arith, length-append ls e.more, e.few, few)) (all_joined (IsLineOf lib) ls e.more all e.range) whole in
    (e.more, record { told = t.0; is_told = t.1; lines = t.2 }, e.none)

no_way : (lib : Library) (ls more : List TranscriptLine) → Goes lib ls more → place_after Start ls ≡ None → ⊥
no_way lib ls more g none =
    let whole : place_after Start (ls ++ more) ≡ Some End = ap (place_after Start) (sym g.lines) ∙ whole_follows lib g.told g.is_told in
    let gone : place_after Start (ls ++ more) ≡ None = none_joined Start ls more none in
    cc (whole, gone)

at_end : (lib : Library) (ls more : List TranscriptLine) → Goes lib ls more → place_after Start ls ≡ Some End → more ≡ []
at_end lib ls more g is =
    nothing_after more (sym (joined Start End ls more is) ∙ ap (place_after Start) (sym g.lines) ∙ whole_follows lib g.told g.is_told)

pub lines_begin : LinesBegin
lines_begin = record { on = goes_on; none = no_way; ended = at_end }
