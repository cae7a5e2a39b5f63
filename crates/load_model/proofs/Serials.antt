-- Serial numbers rise.
use Rattle.std.proofs.Common.{◌≡◌, ℕ, suc, ◌+◌, ◌≤◌, ◌<◌, ◌==◌, Bool, true, false, cond, if◌then◌else◌, List, [], ◌∷◌, ◌++◌, map, filter, length, Result, Ok, Err, refl, sym, ◌∙◌, ap, subst, append_assoc, arith}
use Rattle.std.proofs.lemmas.List.{append-nil, map-append}
use Rattle.lx_types.specs.declared.object.Class.{Class}
use Rattle.lx_types.specs.declared.object.Class.TheVariants as classes
use Rattle.load_model.specs.declared.deeds.Fresh.{Fresh}
use Rattle.load_model.specs.declared.deeds.How.{How}
use Rattle.load_model.specs.declared.deeds.Deed.{Deed}
use Rattle.load_model.specs.declared.deeds.Deed.TheVariants as deeds
use Rattle.load_model.specs.declared.deeds.Entry.{Entry}
use Rattle.load_model.specs.Modules.{bases_for, Library, Held}
use Rattle.base_pick.specs.declared.occupied.AddressRange.{AddressRange}
use Rattle.base_pick.specs.declared.picking.ArenaFull.{ArenaFull}
use Rattle.load_model.specs.State.{Failing, Residence, Process, Eager, Written, with_process}
use Rattle.load_model.specs.Entering.{NoRoom, ranges_of, placing, placed_from, with_fresh, residence_from, after_entering, newcomers}
use Rattle.load_model.specs.Initialising.{enter_deed}
use Rattle.load_model.specs.Leaving.{after_leaving}
use Rattle.load_model.specs.Memory.{with_write}
use Rattle.load_model.specs.Asks.{after_write, ask_in, deed_of, after_deed}
use Rattle.load_model.specs.Histories.{state_after, AllFollow, Legal}
use Rattle.load_model.specs.Serials.{Rise, SerialsRise}
use Rattle.load_model.proofs.Growing.{one_more_is_after}
use Rattle.load_model.proofs.Kept.{enter_step}

-- ---- numbers that rise

pub rise_higher : (low mid : ℕ) (ns : List ℕ) (high : ℕ) → low ≤ mid → Rise mid ns high → Rise low ns high
rise_higher low mid [] high h r = omega arith
rise_higher low mid (n ∷ ns) high h r = (let first : mid < n = r.0 in let less : low < n = omega arith in (less, r.1))

rise_join : (low : ℕ) (ns : List ℕ) (mid : ℕ) (ms : List ℕ) (high : ℕ) → Rise low ns mid → Rise mid ms high → Rise low (ns ++ ms) high
rise_join low [] mid ms high a b = rise_higher low mid ms high a b
rise_join low (n ∷ ns) mid ms high a b = (a.0, rise_join n ns mid ms high a.1 b)

serials_of : List Residence → List ℕ
serials_of rs = map (λ r. r.serial) rs

pub rise_filter : (f : Residence → Bool) (low : ℕ) (rs : List Residence) (high : ℕ) → Rise low (map (λ r. r.serial) rs) high → Rise low (map (λ r. r.serial) (filter f rs)) high
rise_filter f low [] high h = h
rise_filter f low (r ∷ rs) high h = step (f r) (rise_filter f r.serial rs high h.1)
  where
    step : (b : Bool) → Rise r.serial (map (λ x. x.serial) (filter f rs)) high → Rise low (map (λ x. x.serial) (cond b (r ∷ filter f rs) (filter f rs))) high
    step true later = (h.0, later)
    step false later =
        let first : low < r.serial = h.0 in
        let less : low ≤ r.serial = omega arith in
        rise_higher low r.serial (map (λ x. x.serial) (filter f rs)) high less later

-- ---- the serials that a load gives

fresh_rise : (f : Fresh) (serials : ℕ) (r : Result (List Fresh) NoRoom) (fresh : List Fresh) → f.serial ≡ suc serials →
    ((xs : List Fresh) → r ≡ Ok xs → Rise (suc serials) (map (λ x. x.serial) xs) (suc serials + length xs)) → with_fresh f r ≡ Ok fresh →
    Rise serials (map (λ x. x.serial) fresh) (serials + length fresh)
fresh_rise f serials (Ok xs) fresh is each e =
    let same : f ∷ xs ≡ fresh = cc in
    let later : Rise (suc serials) (map (λ x. x.serial) xs) (suc serials + length xs) = each xs refl in
    let moved : Rise f.serial (map (λ x. x.serial) xs) (serials + length (f ∷ xs)) =
    subst (λ n. Rise n (map (λ x. x.serial) xs) (serials + length (f ∷ xs))) (sym is)
    (subst (Rise (suc serials) (map (λ x. x.serial) xs)) (sums serials (length xs)) later)
    in
    let first : serials < f.serial = omega arith in
    subst (λ ys. Rise serials (map (λ x. x.serial) ys) (serials + length ys)) same (first, moved)
  where
    sums : (a b : ℕ) → suc a + b ≡ a + suc b
    sums a b = omega arith
fresh_rise f serials (Err x) fresh is each e = cc

placed_rise : (lib : Library) (ms : List ℕ) (serials : ℕ) (spans : List AddressRange) (fresh : List Fresh) → placed_from lib serials spans ms ≡ Ok fresh →
    Rise serials (map (λ x. x.serial) fresh) (serials + length fresh)
unfolding placed_from
placed_rise lib [] serials spans fresh e =
    let same : [] ≡ fresh = cc in
    let residences : serials ≤ serials + 0 = omega arith in
    subst (λ ys. Rise serials (map (λ x. x.serial) ys) (serials + length ys)) same residences
placed_rise lib (m ∷ ms) serials spans fresh e = step (bases_for lib spans m) e (λ bases xs h. placed_rise lib ms (suc serials) (spans ++ ranges_of lib m bases) xs h)
  where
    step : (r : Result (List ℕ) ArenaFull) →
        elim r as (λ _. Result (List Fresh) NoRoom) [
          | Err x ↦ Err (record { of = m; object = x })
          | Ok bases ↦ with_fresh (record { serial = suc serials; «module» = m; bases = bases }) (placed_from lib (suc serials) (spans ++ ranges_of lib m bases) ms)
        ] ≡ Ok fresh →
        ((bases : List ℕ) (xs : List Fresh) → placed_from lib (suc serials) (spans ++ ranges_of lib m bases) ms ≡ Ok xs →
        Rise (suc serials) (map (λ x. x.serial) xs) (suc serials + length xs)) →
        Rise serials (map (λ x. x.serial) fresh) (serials + length fresh)
    step (Err x) e each = cc
    step (Ok bases) e each = fresh_rise _ serials _ fresh refl (each bases) e

fresh_serials : (fresh : List Fresh) → map (λ r. r.serial) (map residence_from fresh) ≡ map (λ f. f.serial) fresh
fresh_serials [] = refl
fresh_serials (f ∷ fs) = ap (λ ns. f.serial ∷ ns) (fresh_serials fs)

-- ---- each entry

abbrev Rising : Eager → Type 0
Rising e = Rise 0 (map (λ r. r.serial) e.residences) e.serials

written_serials : (serial : ℕ) (w : Written) (rs : List Residence) → map (λ r. r.serial) (map (with_write serial w) rs) ≡ map (λ r. r.serial) rs
written_serials serial w [] = refl
written_serials serial w (r ∷ rs) = ap (λ n. n ∷ map (λ x. x.serial) (map (with_write serial w) rs)) (step (r.serial == serial)) ∙ ap (λ ns. r.serial ∷ ns) (written_serials serial w rs)
  where
    step : (b : Bool) → (if b then record r { writes = r.writes ++ w ∷ [] } else r).serial ≡ r.serial
    step true = refl
    step false = refl

written_rises : (e : Eager) (pid serial : ℕ) (w : Written) (class : Class) → Rising e → Rising (after_write e pid serial w class)
unfolding with_process
written_rises e pid serial w classes.Code h = h
written_rises e pid serial w classes.Private h = h
written_rises e pid serial w classes.Shared h = subst (λ ns. Rise 0 ns e.serials) (sym (written_serials serial w e.residences)) h

entered_rises : (lib : Library) (e : Eager) (pid : ℕ) (how : How) (m : ℕ) (fresh : List Fresh) → placing lib e pid m ≡ Ok fresh → Rising e → Rising (after_entering lib e pid how m fresh)
unfolding after_entering with_process placing
entered_rises lib e pid how m fresh is h =
    subst (λ ns. Rise 0 ns (e.serials + length fresh)) (sym (map-append (λ r. r.serial) e.residences (map residence_from fresh) ∙ ap (λ ns. map (λ r. r.serial) e.residences ++ ns) (fresh_serials fresh)))
    (rise_join 0 (map (λ r. r.serial) e.residences) e.serials (map (λ f. f.serial) fresh) (e.serials + length fresh) h
    (placed_rise lib (newcomers lib e pid m) e.serials _ fresh is))

left_rises : (lib : Library) (e : Eager) (pid : ℕ) (p : Process) → Rising e → Rising (after_leaving lib e pid p)
unfolding after_leaving with_process
left_rises lib e pid p h = rise_filter _ 0 e.residences e.serials h

rise_further : (low : ℕ) (ns : List ℕ) (high more : ℕ) → Rise low ns high → Rise low ns (high + more)
rise_further low [] high more h = omega arith
rise_further low (n ∷ ns) high more h = (h.0, rise_further n ns high more h.1)

deed_rises : (lib : Library) (contents : Held) (e : Eager) (pid : ℕ) (d : Deed) → d ≡ deed_of lib contents e pid (ask_in d) → Rising e → Rising (after_deed lib e pid d)
unfolding after_deed deed_of enter_deed
deed_rises lib contents e pid (deeds.Enter how m fresh calls) is h =
    entered_rises lib e pid how m fresh (enter_step lib e pid how m (placing lib e pid m) fresh calls is) h
deed_rises lib contents e pid (deeds.Full how m of object size) is h = h
deed_rises lib contents e pid (deeds.Failed how m by fresh calls gone) is h = rise_further 0 (map (λ r. r.serial) e.residences) e.serials (length fresh) h
deed_rises lib contents e pid (deeds.Free m calls gone) is h = left_rises lib e pid _ h
deed_rises lib contents e pid (deeds.Exit calls gone) is h = left_rises lib e pid _ h
deed_rises lib contents e pid (deeds.Fault serial m p) is h = h
deed_rises lib contents e pid (deeds.Write serial m object offset bytes) is h = written_rises e pid serial _ _ h
deed_rises lib contents e pid (deeds.Debug serial m object offset bytes) is h = written_rises e pid serial _ classes.Private h
deed_rises lib contents e pid (deeds.Shared serial m object offset bytes) is h = h

all_rise : (lib : Library) (failing : Failing) (contents : Held) (before h : List Entry) →
    AllFollow lib failing contents before h → Rising (state_after lib failing before) → Rising (state_after lib failing (before ++ h))
all_rise lib failing contents before [] all r = subst (λ b. Rising (state_after lib failing b)) (sym (append-nil before)) r
all_rise lib failing contents before (x ∷ h) all r =
    let next : Rising (state_after lib failing (before ++ x ∷ [])) =
    subst Rising (sym (one_more_is_after lib failing before x)) (deed_rises lib contents (state_after lib failing before) x.pid x.deed all.0.done r)
    in
    subst (λ b. Rising (state_after lib failing b)) (append_assoc before (x ∷ []) h) (all_rise lib failing contents (before ++ x ∷ []) h all.1 next)

pub serials_rise : SerialsRise
unfolding Legal state_after
serials_rise lib failing contents h all = all_rise lib failing contents [] h all (none 0)
  where
    none : (n : ℕ) → n ≤ n
    none n = omega arith
