-- Serial numbers by module, from one entry to the next.
use Rattle.std.proofs.Common.{◌≡◌, ℕ, ◌<◌, ◌==◌, Bool, true, false, cond, not, ◌||◌, List, [], ◌∷◌, ◌++◌, length, map, filter, find, Option, Some, None, is_some, is_none, refl, sym, ◌∙◌, ap, subst}
use Rattle.std.specs.Prelude.{slice_index, slice_set}
use Rattle.std.specs.Option.{option_or}
use Rattle.std.proofs.lemmas.Bool.{true≢false, eqb-true, eq-eqb}
use Rattle.std.proofs.lemmas.List.{get_or-set_same, get_or-set_other, length-set}
use Rattle.std.proofs.lemmas.List.Folds.{find-append}
use Rattle.lx_types.specs.declared.object.Class.TheVariants as classes
use Rattle.load_model.specs.declared.deeds.Fresh.{Fresh}
use Rattle.load_model.specs.declared.deeds.How.{How}
use Rattle.load_model.specs.declared.deeds.Call.{Call}
use Rattle.load_model.specs.declared.deeds.Deed.{Deed}
use Rattle.load_model.specs.declared.deeds.Deed.TheVariants as deeds
use Rattle.load_model.specs.declared.deeds.Entry.{Entry}
use Rattle.load_model.specs.Modules.{Library, Held}
use Rattle.load_model.specs.State.{Failing, Residence, Process, Eager, with_process, is_among, residence_of, nothing_yet}
use Rattle.load_model.specs.Entering.{after_entering, residence_from, newcomers, joined}
use Rattle.load_model.specs.Initialising.{enter_deed}
use Rattle.load_model.specs.Leaving.{gone_modules, after_leaving}
use Rattle.load_model.specs.Asks.{ask_in, deed_of, after_deed}
use Rattle.load_model.specs.Histories.{state_after, Follows}
use Rattle.load_model.specs.Laws.{unwritten_of}
use Rattle.load_model.proofs.Growing.{one_more_is_after}
use Rattle.load_model.proofs.Kept.{modules_of, fresh_are_new}
use Rattle.load_model.proofs.Stays.{entered_stays, written_stays}
use Rattle.standing_serials.specs.Standing.{AreSerialsOf, serials_with, serials_after}

-- ---- numbers that are put by module

pub count_with : (fresh : List Fresh) (last : List ℕ) → length (serials_with fresh last) ≡ length last
count_with [] last = refl
count_with (f ∷ fs) last = length-set (serials_with fs last) f.«module» f.serial ∙ count_with fs last

put_there : (last : List ℕ) (m k n : ℕ) → k < length last → (m == k) ≡ true → slice_index (slice_set last m n) k ≡ n
put_there last m k n within e =
    let same : m ≡ k = eqb-true m k e in
    let here : m < length last = subst (λ (i : ℕ). i < length last) (sym same) within in
    subst (λ (i : ℕ). slice_index (slice_set last m n) i ≡ n) same (get_or-set_same last m n 0 here)

put_apart : (last : List ℕ) (m k n : ℕ) → (m == k) ≡ false → slice_index (slice_set last m n) k ≡ slice_index last k
put_apart last m k n e = get_or-set_other last m k n 0 (λ same. true≢false (sym (eq-eqb m k (sym same)) ∙ e))

-- of a module that does not begin
none_begin : (fresh : List Fresh) (last : List ℕ) (k : ℕ) → is_among (modules_of fresh) k ≡ false → slice_index (serials_with fresh last) k ≡ slice_index last k
none_begin [] last k e = refl
none_begin (f ∷ fs) last k e = step (f.«module» == k) refl e (none_begin fs last k)
  where
    step : (b : Bool) → (f.«module» == k) ≡ b → is_among (modules_of (f ∷ fs)) k ≡ false →
        (is_among (modules_of fs) k ≡ false → slice_index (serials_with fs last) k ≡ slice_index last k) → slice_index (serials_with (f ∷ fs) last) k ≡ slice_index last k
    step true is none later = absurd (true≢false (sym (ap (λ c. c || is_among (modules_of fs) k) is) ∙ none))
    step false is none later =
        put_apart (serials_with fs last) f.«module» k f.serial is
        ∙ later (sym (ap (λ c. c || is_among (modules_of fs) k) is) ∙ none)

-- of one that does
one_begins : (fresh : List Fresh) (last : List ℕ) (k : ℕ) (r : Residence) → k < length last →
    find (λ (x : Residence). x.«module» == k) (map residence_from fresh) ≡ Some r → slice_index (serials_with fresh last) k ≡ r.serial
one_begins [] last k r within is = cc
one_begins (f ∷ fs) last k r within is = step (f.«module» == k) refl is (one_begins fs last k r within)
  where
    long : k < length (serials_with fs last)
    long = subst (λ (n : ℕ). k < n) (sym (count_with fs last)) within

    step : (b : Bool) → (f.«module» == k) ≡ b → cond b (Some (residence_from f)) (find (λ (x : Residence). x.«module» == k) (map residence_from fs)) ≡ Some r →
        (find (λ (x : Residence). x.«module» == k) (map residence_from fs) ≡ Some r → slice_index (serials_with fs last) k ≡ r.serial) →
        slice_index (slice_set (serials_with fs last) f.«module» f.serial) k ≡ r.serial
    step true e found later = put_there (serials_with fs last) f.«module» k f.serial long e ∙ (let same : residence_from f ≡ r = cc in ap (λ (x : Residence). x.serial) same)
    step false e found later = put_apart (serials_with fs last) f.«module» k f.serial e ∙ later found

-- ---- a start or a load

not_new : (test : ℕ → Bool) (ks : List ℕ) (k : ℕ) → test k ≡ false → is_among (filter test ks) k ≡ false
not_new test [] k e = refl
not_new test (x ∷ ks) k e = step (test x) refl (x == k) refl (not_new test ks k e)
  where
    step : (b : Bool) → test x ≡ b → (c : Bool) → (x == k) ≡ c → is_among (filter test ks) k ≡ false → is_among (cond b (x ∷ filter test ks) (filter test ks)) k ≡ false
    step false is c same later = later
    step true is true same later = absurd (true≢false (sym is ∙ (ap test (eqb-true x k same) ∙ e)))
    step true is false same later = ap (λ z. z || is_among (filter test ks) k) same ∙ later

not_newcomer : (lib : Library) (e : Eager) (pid m k : ℕ) (r : Residence) → residence_of e k ≡ Some r → is_among (newcomers lib e pid m) k ≡ false
unfolding newcomers
not_newcomer lib e pid m k r is = not_new (λ x. is_none (residence_of e x)) (joined lib e pid m) k (ap (λ (o : Option Residence). is_none o) is)

found_after : (lib : Library) (e : Eager) (pid : ℕ) (how : How) (m : ℕ) (fresh : List Fresh) (k : ℕ) (r : Residence) → residence_of e k ≡ None →
    residence_of (after_entering lib e pid how m fresh) k ≡ Some r → find (λ (x : Residence). x.«module» == k) (map residence_from fresh) ≡ Some r
unfolding after_entering with_process residence_of
found_after lib e pid how m fresh k r none found =
    sym (find-append (λ (x : Residence). x.«module» == k) e.residences (map residence_from fresh)
    ∙ ap (λ (o : Option Residence). option_or o (find (λ (x : Residence). x.«module» == k) (map residence_from fresh))) none) ∙ found

entered_serials : (lib : Library) (e : Eager) (pid : ℕ) (how : How) (m : ℕ) (fresh : List Fresh) (calls : List Call) (last : List ℕ) →
    deeds.Enter how m fresh calls ≡ enter_deed lib e pid how m → AreSerialsOf lib e last → AreSerialsOf lib (after_entering lib e pid how m fresh) (serials_with fresh last)
entered_serials lib e pid how m fresh calls last is are = record {
  count = count_with fresh last ∙ are.count;
  stand = λ k r within found. one k r within found (residence_of e k) refl;
}
  where
    one : (k : ℕ) (r : Residence) → k < length lib → residence_of (after_entering lib e pid how m fresh) k ≡ Some r → (o : Option Residence) → residence_of e k ≡ o →
        slice_index (serials_with fresh last) k ≡ r.serial
    one k r within found None none =
        one_begins fresh last k r (subst (λ (n : ℕ). k < n) (sym are.count) within) (found_after lib e pid how m fresh k r none found)
    one k r within found (Some s) some =
        let stays = entered_stays lib e pid how m fresh k (ap (λ (o : Option Residence). is_some o) some) in
        let same : s ≡ r = (let both : Some s ≡ Some r = sym some ∙ (sym stays ∙ found) in cc) in
        none_begin fresh last k (ap (λ (ms : List ℕ). is_among ms k) (fresh_are_new lib e pid how m fresh calls is) ∙ not_newcomer lib e pid m k s some)
        ∙ (are.stand k s within some ∙ ap (λ (x : Residence). x.serial) same)

-- ---- what leaves

-- what is found among those that stay was found among all
none_kept : (g : ℕ → Bool) (k : ℕ) (rs : List Residence) (r : Residence) → g k ≡ false →
    find (λ (x : Residence). x.«module» == k) (filter (λ (x : Residence). g x.«module») rs) ≡ Some r → ⊥
none_kept g k [] r e found = cc
none_kept g k (y ∷ ys) r e found = each (g y.«module») refl (y.«module» == k) refl found (none_kept g k ys r e)
  where
    kept : List Residence
    kept = filter (λ (z : Residence). g z.«module») ys

    each : (b : Bool) → g y.«module» ≡ b → (c : Bool) → (y.«module» == k) ≡ c → find (λ (z : Residence). z.«module» == k) (cond b (y ∷ kept) kept) ≡ Some r →
        (find (λ (z : Residence). z.«module» == k) kept ≡ Some r → ⊥) → ⊥
    each false f c h there later = later there
    each true f true h there later = true≢false (sym f ∙ (ap g (eqb-true y.«module» k h) ∙ e))
    each true f false h there later = later (sym (ap (λ z. cond z (Some y) (find (λ (w : Residence). w.«module» == k) kept)) h) ∙ there)

found_before : (g : ℕ → Bool) (k : ℕ) (rs : List Residence) (r : Residence) →
    find (λ (x : Residence). x.«module» == k) (filter (λ (x : Residence). g x.«module») rs) ≡ Some r → find (λ (x : Residence). x.«module» == k) rs ≡ Some r
found_before g k [] r is = is
found_before g k (x ∷ rs) r is = step (g x.«module») refl (x.«module» == k) refl is (found_before g k rs r)
  where
    kept : List Residence
    kept = filter (λ (y : Residence). g y.«module») rs

    step : (b : Bool) → g x.«module» ≡ b → (c : Bool) → (x.«module» == k) ≡ c → find (λ (y : Residence). y.«module» == k) (cond b (x ∷ kept) kept) ≡ Some r →
        (find (λ (y : Residence). y.«module» == k) kept ≡ Some r → find (λ (y : Residence). y.«module» == k) rs ≡ Some r) →
        cond (x.«module» == k) (Some x) (find (λ (y : Residence). y.«module» == k) rs) ≡ Some r
    step true f true h there later =
        ap (λ z. cond z (Some x) (find (λ (w : Residence). w.«module» == k) rs)) h ∙ (sym (ap (λ z. cond z (Some x) (find (λ (w : Residence). w.«module» == k) kept)) h) ∙ there)
    step true f false h there later =
        ap (λ z. cond z (Some x) (find (λ (w : Residence). w.«module» == k) rs)) h ∙ later (sym (ap (λ z. cond z (Some x) (find (λ (w : Residence). w.«module» == k) kept)) h) ∙ there)
    step false f true h there later = absurd (none_kept g k rs r (ap g (sym (eqb-true x.«module» k h)) ∙ f) there)
    step false f false h there later = ap (λ z. cond z (Some x) (find (λ (w : Residence). w.«module» == k) rs)) h ∙ later there

left_before : (lib : Library) (e : Eager) (pid : ℕ) (p : Process) (k : ℕ) (r : Residence) → residence_of (after_leaving lib e pid p) k ≡ Some r → residence_of e k ≡ Some r
unfolding after_leaving residence_of
left_before lib e pid p k r found = found_before (λ m. not (is_among (gone_modules lib e pid p) m)) k e.residences r found

left_serials : (lib : Library) (e : Eager) (pid : ℕ) (p : Process) (last : List ℕ) → AreSerialsOf lib e last → AreSerialsOf lib (after_leaving lib e pid p) last
left_serials lib e pid p last are = record { count = are.count; stand = λ k r within found. are.stand k r within (left_before lib e pid p k r found) }

-- ---- what is written

same_serial : (a b : Option Residence) (r : Residence) → unwritten_of a ≡ unwritten_of b → a ≡ Some r → (s : Residence) × (b ≡ Some s) × (s.serial ≡ r.serial)
same_serial None b r e is = cc
same_serial (Some x) None r e is = cc
same_serial (Some x) (Some y) r e is =
    let bare : Some (record x { writes = [] }) ≡ Some (record y { writes = [] }) = e in
    let inner : record x { writes = [] } ≡ record y { writes = [] } = cc in
    let same : x ≡ r = cc in
    (y, refl, sym (ap (λ (z : Residence). z.serial) inner) ∙ ap (λ (z : Residence). z.serial) same)

unwritten_serials : (lib : Library) (e f : Eager) (last : List ℕ) → ((k : ℕ) → unwritten_of (residence_of f k) ≡ unwritten_of (residence_of e k)) → AreSerialsOf lib e last → AreSerialsOf lib f last
unwritten_serials lib e f last alike are = record {
  count = are.count;
  stand = λ k r within found.
      let was = same_serial (residence_of f k) (residence_of e k) r (alike k) found in
      are.stand k was.0 within was.1 ∙ was.2;
}

-- ---- each entry

failed_serials : (lib : Library) (e : Eager) (more : ℕ) (last : List ℕ) → AreSerialsOf lib e last → AreSerialsOf lib (record e { serials = more }) last
unfolding residence_of
failed_serials lib e more last are = record { count = are.count; stand = λ m r within found. are.stand m r within found }

deed_serials : (lib : Library) (contents : Held) (e : Eager) (pid : ℕ) (d : Deed) (last : List ℕ) → d ≡ deed_of lib contents e pid (ask_in d) → AreSerialsOf lib e last →
    AreSerialsOf lib (after_deed lib e pid d) (serials_after d last)
unfolding after_deed deed_of
deed_serials lib contents e pid (deeds.Enter how m fresh calls) last is are = entered_serials lib e pid how m fresh calls last is are
deed_serials lib contents e pid (deeds.Full how m of object size) last is are = are
deed_serials lib contents e pid (deeds.Failed how m by fresh calls gone) last is are = failed_serials lib e _ last are
deed_serials lib contents e pid (deeds.Free m calls gone) last is are = left_serials lib e pid _ last are
deed_serials lib contents e pid (deeds.Exit calls gone) last is are = left_serials lib e pid _ last are
deed_serials lib contents e pid (deeds.Fault serial m p) last is are = are
deed_serials lib contents e pid (deeds.Write serial m object offset bytes) last is are = unwritten_serials lib e _ last (λ k. written_stays e pid serial _ _ k) are
deed_serials lib contents e pid (deeds.Debug serial m object offset bytes) last is are = unwritten_serials lib e _ last (λ k. written_stays e pid serial _ classes.Private k) are
deed_serials lib contents e pid (deeds.Shared serial m object offset bytes) last is are = are

pub serials_follow : (lib : Library) (failing : Failing) (contents : Held) (h : List Entry) (x : Entry) (last : List ℕ) → Follows lib failing contents h x →
    AreSerialsOf lib (state_after lib failing h) last → AreSerialsOf lib (state_after lib failing (h ++ x ∷ [])) (serials_after x.deed last)
serials_follow lib failing contents h x last follows are =
    subst (λ (e : Eager). AreSerialsOf lib e (serials_after x.deed last)) (sym (one_more_is_after lib failing h x))
    (deed_serials lib contents (state_after lib failing h) x.pid x.deed last follows.done are)

-- ---- at first

nothing_stands : (failing : Failing) (m : ℕ) (r : Residence) → residence_of (nothing_yet failing) m ≡ Some r → ⊥
unfolding residence_of
nothing_stands failing m r found = cc

pub none_stand : (lib : Library) (failing : Failing) (last : List ℕ) → length last ≡ length lib → AreSerialsOf lib (state_after lib failing []) last
unfolding state_after
none_stand lib failing last long = record { count = long; stand = λ m r within found. absurd (nothing_stands failing m r found) }
