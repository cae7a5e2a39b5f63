-- Where a transcript has come to, by the place of a reader and its history.
use Rattle.std.proofs.Common.{◌≡◌, ℕ, suc, ◌+◌, Bool, true, false, List, [], ◌∷◌, ◌++◌, length, Option, Some, None, refl, sym, ◌∙◌, ap, subst}
use Rattle.std.specs.Prelude.{◌||◌, option_map, option_and_then}
use Rattle.std.specs.List.{list_any}
use Rattle.std.proofs.lemmas.List.{length-append}
use Rattle.std.proofs.lemmas.List.Folds.{list_any-append}
use Rattle.load_model.specs.declared.deeds.Call.{Call}
use Rattle.load_model.specs.declared.deeds.Fresh.{Fresh}
use Rattle.load_model.specs.declared.deeds.Gone.{Gone}
use Rattle.load_model.specs.declared.deeds.Entry.{Entry}
use Rattle.transcript_lines.specs.declared.lines.TranscriptLine.{TranscriptLine}
use Rattle.transcript_lines.specs.declared.lines.TranscriptLine.TheVariants as lines
use Rattle.transcript_lines.specs.Following.{Place, Start, Entries, Scripts, End, when, next, place_after}
use Rattle.transcript_whole.specs.declared.following.At.{At}
use Rattle.transcript_whole.specs.declared.following.At.TheVariants as at
use Rattle.transcript_whole.specs.declared.draft.Draft.{Draft}
use Rattle.transcript_whole.specs.Places.{place_at, AreNamed, IsEmptyAtStart, count_after, named_after, IsNext}
use Rattle.transcript_whole.specs.Drafts.{nothing_read, with_below, history_in, with_line, after_lines}
use Rattle.transcript_whole.specs.Readings.{IsReadingOf, TakesLine}
use Rattle.transcript_whole.specs.declared.reading.Reading.{Reading}

-- ---- one line

-- the line that is looked at is this one
pub seen_as : (here : At) (n : ℕ) (named : List ℕ) (l m : TranscriptLine) (there : Option At) → l ≡ m
    → option_map (λ a. place_at a (count_after n m) (named_after named m)) there ≡ next (place_at here n named) m
    → next (place_at here n named) l ≡ option_map (λ a. place_at a (count_after n l) (named_after named l)) there
seen_as here n named l m there is same =
    subst (λ (x : TranscriptLine). next (place_at here n named) x ≡ option_map (λ a. place_at a (count_after n x) (named_after named x)) there) (sym is) (sym same)

-- no process is named where there is no entry
none_named : (named : List ℕ) (history : List Entry) → AreNamed named history → history ≡ [] → named ≡ []
none_named [] history are empty = refl
none_named (p ∷ named) history are empty =
    let no_entry : true || list_any (λ _. true) named ≡ false = are (λ _. true) ∙ ap (λ (h : List Entry). list_any (λ _. true) h) empty in
    absurd (cc (no_entry))

pub begun : (l : TranscriptLine) (named : List ℕ) (history : List Entry) → l ≡ lines.History → AreNamed named history → history ≡ []
    → next Start l ≡ Some (Entries (count_after (length history) l) (record { news = false; calls = false; gone = false }) (named_after named l))
begun l named history is are empty =
    subst (λ (x : TranscriptLine). next Start x ≡ Some (Entries (count_after (length history) x) (record { news = false; calls = false; gone = false }) (named_after named x))) (sym is)
    (λ i. Some (Entries (sym (ap length empty) i) (record { news = false; calls = false; gone = false }) (sym (none_named named history are empty) i)))

-- ---- lines in turn, and one more

after_one : (s : Place) (ls : List TranscriptLine) (l : TranscriptLine) → place_after s (ls ++ l ∷ []) ≡ option_and_then (λ p. next p l) (place_after s ls)
after_one s [] l = by (next s l)
  where
    by : (o : Option Place) → option_and_then (λ p. Some p) o ≡ o
    by None = refl
    by (Some p) = refl
after_one s (m ∷ ls) l = by (next s m) (λ p. after_one p ls l)
  where
    by : (o : Option Place) → ((p : Place) → place_after p (ls ++ l ∷ []) ≡ option_and_then (λ p. next p l) (place_after p ls))
        → option_and_then (λ there. place_after there (ls ++ l ∷ [])) o ≡ option_and_then (λ p. next p l) (option_and_then (λ there. place_after there ls) o)
    by None again = refl
    by (Some p) again = again p

lines_one : (d : Draft) (ls : List TranscriptLine) (l : TranscriptLine) → after_lines d (ls ++ l ∷ []) ≡ with_line (after_lines d ls) l
lines_one d [] l = refl
lines_one d (m ∷ ls) l = lines_one (with_line d m) ls l

-- a line that may stand somewhere does not lead to the start
not_when : (b : Bool) (s : Place) → (s ≡ Start → ⊥) → when b s ≡ Some Start → ⊥
not_when true s other is = other (cc (is))
not_when false s other is = cc (is)

never_start : (s : Place) (l : TranscriptLine) → next s l ≡ Some Start → ⊥
never_start Start lines.History is = cc (is)
never_start (Entries n b named) (lines.Entry k p d) is = not_when _ _ (λ e. cc (e)) is
never_start (Entries n b named) (lines.New f) is = not_when b.news _ (λ e. cc (e)) is
never_start (Entries n b named) (lines.Call c) is = not_when b.calls _ (λ e. cc (e)) is
never_start (Entries n b named) (lines.Gone g) is = not_when b.gone _ (λ e. cc (e)) is
never_start (Entries n b named) (lines.Process p) is = not_when _ (Scripts p named) (λ e. cc (e)) is
never_start (Entries n b named) (lines.Summary c) is = not_when _ End (λ e. cc (e)) is
never_start (Scripts last named) (lines.Process p) is = not_when _ (Scripts p named) (λ e. cc (e)) is
never_start (Scripts last named) (lines.Steady l) is = cc (is)
never_start (Scripts last named) (lines.Summary c) is = not_when _ End (λ e. cc (e)) is
never_start s l is = cc (is)

-- ---- the history with a line more

below_any : (f : ℕ → Bool) (h : List Entry) (fresh : List Fresh) (calls : List Call) (gone : List Gone) → list_any (λ x. f x.pid) (with_below h fresh calls gone) ≡ list_any (λ x. f x.pid) h
below_any f [] fresh calls gone = refl
below_any f (x ∷ []) fresh calls gone = refl
below_any f (x ∷ y ∷ h) fresh calls gone = ap (λ b. f x.pid || b) (below_any f (y ∷ h) fresh calls gone)

below_many : (h : List Entry) (fresh : List Fresh) (calls : List Call) (gone : List Gone) → length (with_below h fresh calls gone) ≡ length h
below_many [] fresh calls gone = refl
below_many (x ∷ []) fresh calls gone = refl
below_many (x ∷ y ∷ h) fresh calls gone = ap suc (below_many (y ∷ h) fresh calls gone)

counted : (d : Draft) (l : TranscriptLine) → length (with_line d l).history ≡ count_after (length d.history) l
counted d (lines.Entry k p deed) =
    length-append (history_in d) (record { pid = p; deed = deed } ∷ []) ∙ ap (λ n. n + 1) (below_many d.history d.fresh d.calls d.gone)
counted d lines.History = refl
counted d (lines.New f) = refl
counted d (lines.Call c) = refl
counted d (lines.Gone g) = refl
counted d (lines.Process p) = refl
counted d (lines.Steady l) = refl
counted d (lines.Summary c) = refl

at_end : (a b : Bool) → b || a ≡ a || (b || false)
at_end true true = refl
at_end true false = refl
at_end false true = refl
at_end false false = refl

named_too : (d : Draft) (l : TranscriptLine) (named : List ℕ) → AreNamed named d.history → AreNamed (named_after named l) (with_line d l).history
named_too d (lines.Entry k p deed) named are = λ f.
    at_end (list_any f named) (f p)
    ∙ ap (λ b. b || (f p || false)) (are f ∙ sym (below_any f d.history d.fresh d.calls d.gone))
    ∙ sym (list_any-append (λ (x : Entry). f x.pid) (history_in d) (record { pid = p; deed = deed } ∷ []))
named_too d lines.History named are = are
named_too d (lines.New f) named are = are
named_too d (lines.Call c) named are = are
named_too d (lines.Gone g) named are = are
named_too d (lines.Process p) named are = are
named_too d (lines.Steady l) named are = are
named_too d (lines.Summary c) named are = are

-- ---- a reader with a line more

pub begins : (d : Draft) → d ≡ nothing_read → IsReadingOf [] (record { at = at.Start; draft = d })
begins d is = record {
  named = [];
  place = refl;
  are_named = λ f. ap (λ (x : Draft). list_any (λ e. f e.pid) x.history) (sym is);
  empty = ap (λ (x : Draft). x.history) is;
  draft = is;
}

pub may_not : (old : Reading) (l : TranscriptLine) (there : Option At) → IsNext old.at old.draft.history l there → there ≡ None → TakesLine old l None
may_not old l there follows none ls r =
    after_one Start ls l ∙ ap (option_and_then (λ p. next p l)) r.place ∙ follows r.named r.are_named r.empty
    ∙ ap (option_map (λ a. place_at a (count_after (length old.draft.history) l) (named_after r.named l))) none

pub takes : (old : Reading) (l : TranscriptLine) (there : Option At) (a : At) (d : Draft) → IsNext old.at old.draft.history l there → there ≡ Some a → d ≡ with_line old.draft l
    → TakesLine old l (Some (record { at = a; draft = d }))
takes old l there a d follows some is ls r =
    let named = named_after r.named l in
    let here : next (place_at old.at (length old.draft.history) r.named) l ≡ Some (place_at a (count_after (length old.draft.history) l) named) =
    follows r.named r.are_named r.empty ∙ ap (option_map (λ a. place_at a (count_after (length old.draft.history) l) named)) some in
    record {
      named = named;
      place =
          after_one Start ls l ∙ ap (option_and_then (λ p. next p l)) r.place ∙ here
          ∙ ap (λ n. Some (place_at a n named)) (sym (counted old.draft l) ∙ ap (λ (x : Draft). length x.history) (sym is));
      are_named = subst (λ (x : Draft). AreNamed named x.history) (sym is) (named_too old.draft l r.named r.are_named);
      empty = by a here;
      draft = is ∙ ap (λ (x : Draft). with_line x l) r.draft ∙ sym (lines_one nothing_read ls l);
    }
  where
    by : (a : At) → next (place_at old.at (length old.draft.history) r.named) l ≡ Some (place_at a (count_after (length old.draft.history) l) (named_after r.named l))
        → IsEmptyAtStart a d.history
    by at.Start here = absurd (never_start (place_at old.at (length old.draft.history) r.named) l here)
    by (at.Entries below) here = tt
    by (at.Scripts last) here = tt
    by at.End here = tt
