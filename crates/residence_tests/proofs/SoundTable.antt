-- What is resident goes on.
use Rattle.std.proofs.Common.{◌≡◌, ℕ, suc, ◌+◌, ◌<◌, ◌≤◌, Bool, true, false, not, cond, List, [], ◌∷◌, ◌++◌, length, get_or, map, filter, take, Result, Ok, Err, refl, sym, ◌∙◌, ap, subst, arith}
use Rattle.std.specs.Prelude.{All, IfOk}
use Rattle.std.proofs.lemmas.List.{map-append, take_more}
use Rattle.std.proofs.lemmas.List.Elements.{All-nil, All-cons, All-head, All-tail, All-append, All-filter, recursion_from_All}
use Rattle.lx_types.specs.Answers.{Answers}
use Rattle.lx_types.specs.declared.fail.Fail.{Fail}
use Rattle.lx_types.specs.declared.fail.Fail.TheVariants.{Said, NoMemory}
use Rattle.base_pick.specs.declared.occupied.AddressRange.{AddressRange}
use Rattle.base_pick.specs.declared.picking.ArenaFull.{ArenaFull}
use Rattle.load_model.specs.declared.deeds.Fresh.{Fresh}
use Rattle.load_model.specs.Modules.{Library, bases_for}
use Rattle.load_model.specs.State.{Residence, is_among}
use Rattle.load_model.specs.Entering.{NoRoom, residence_from, ranges_of, with_fresh, placed_from}
use Rattle.load_model.specs.ResidenceBases.{Stands}
use Rattle.load_model.specs.Serials.{Rise}
use Rattle.load_model.proofs.Serials.{rise_higher, rise_filter}
use Rattle.residence_table.specs.Residences.{residences, unwritten}
use Rattle.residence_table.specs.Placing.{AreResidencesOf}
use Rattle.residence_table.proofs.Placed.{module_stands}
use Rattle.residence_table.proofs.LegalResidences.{rise_apart}
use Rattle.residence_tests.specs.Sound.{AllSound, FreshSound}

-- ---- numbers that rise

rise_low : (low : ℕ) (ns : List ℕ) (high : ℕ) → Rise low ns high → low ≤ high
rise_low low [] high rise = rise
rise_low low (n ∷ ns) high rise = (let rest = rise_low n ns high rise.1 in omega (arith, rise.0, rest))

rise_to : (low : ℕ) (ns : List ℕ) (high higher : ℕ) → high ≤ higher → Rise low ns high → Rise low ns higher
rise_to low [] high higher above rise = omega (arith, above, rise)
rise_to low (n ∷ ns) high higher above rise = (rise.0, rise_to n ns high higher above rise.1)

rise_append : (low : ℕ) (ns ms : List ℕ) (mid high : ℕ) → Rise low ns mid → Rise mid ms high → Rise low (ns ++ ms) high
rise_append low [] ms mid high first second = rise_higher low mid ms high first second
rise_append low (n ∷ ns) ms mid high first second = (first.0, rise_append n ns ms mid high first.1 second)

-- ---- what stands

pub no_sound : (lib : Library) → AllSound lib [] 0 0
no_sound lib = record { within = All-nil (λ (r : Residence). r.«module» < length lib); bases = All-nil (λ (r : Residence). Stands lib r.«module» r.bases); unwritten = All-nil (λ (r : Residence). r.writes ≡ []); rise = omega arith }

pub are_residences : (lib : Library) (rs : List Residence) (high : ℕ) → AllSound lib rs 0 high → AreResidencesOf lib rs
are_residences lib rs high sound = record {
  within = sound.within;
  bases = recursion_from_All (λ (r : Residence). Stands lib r.«module» r.bases) rs sound.bases;
  own = λ i j d before below. rise_apart 0 high rs sound.rise i j d before below;
}

pub both_sound : (lib : Library) (rs more : List Residence) (low mid high : ℕ) → AllSound lib rs low mid → AllSound lib more mid high → AllSound lib (rs ++ more) low high
both_sound lib rs more low mid high first second = record {
  within = All-append (λ (r : Residence). r.«module» < length lib) rs more first.within second.within;
  bases = All-append (λ (r : Residence). Stands lib r.«module» r.bases) rs more first.bases second.bases;
  unwritten = All-append (λ (r : Residence). r.writes ≡ []) rs more first.unwritten second.unwritten;
  rise = subst (λ ns. Rise low ns high) (sym (map-append (λ (r : Residence). r.serial) rs more))
      (rise_append low (map (λ (r : Residence). r.serial) rs) (map (λ (r : Residence). r.serial) more) mid high first.rise second.rise);
}

pub passed_sound : (lib : Library) (rs : List Residence) (high more : ℕ) → AllSound lib rs 0 high → AllSound lib rs 0 (high + more)
passed_sound lib rs high more sound = record { within = sound.within; bases = sound.bases; unwritten = sound.unwritten; rise = rise_to 0 (map (λ (r : Residence). r.serial) rs) high (high + more) (omega arith) sound.rise }

kept_residences : {T : Type 0} (p : Residence → Bool) (table : List (Residence × T)) → residences (filter (λ s. p s.0) table) ≡ filter p (residences table)
kept_residences p [] = refl
kept_residences {T} p (s ∷ table) = by_test (p s.0) (kept_residences p table)
  where
    by_test : (b : Bool) → residences (filter (λ (x : Residence × T). p x.0) table) ≡ filter p (residences table) →
        residences (cond b (s ∷ filter (λ (x : Residence × T). p x.0) table) (filter (λ (x : Residence × T). p x.0) table)) ≡ cond b (s.0 ∷ filter p (residences table)) (filter p (residences table))
    by_test true rest = ap (λ rs. s.0 ∷ rs) rest
    by_test false rest = rest

pub ended_sound : {T : Type 0} (lib : Library) (table : List (Residence × T)) (gone : List ℕ) (high : ℕ) → AllSound lib (residences table) 0 high →
    AllSound lib (residences (filter (λ s. not (is_among gone s.0.«module»)) table)) 0 high
ended_sound {T} lib table gone high sound =
    let p : Residence → Bool = λ r. not (is_among gone r.«module») in
    subst (λ rs. AllSound lib rs 0 high) (sym (kept_residences p table)) (record {
      within = All-filter p (λ (r : Residence). r.«module» < length lib) (residences table) sound.within;
      bases = All-filter p (λ (r : Residence). Stands lib r.«module» r.bases) (residences table) sound.bases;
      unwritten = All-filter p (λ (r : Residence). r.writes ≡ []) (residences table) sound.unwritten;
      rise = rise_filter p 0 (residences table) high sound.rise;
    })

without_writes : (r : Residence) → r.writes ≡ [] → unwritten r ≡ r
without_writes r none = ap (λ ws. record r { writes = ws }) (sym none)

-- They are those of a state in which they stand.
pub standing_again : (rs : List Residence) → All (λ (r : Residence). r.writes ≡ []) rs → map unwritten rs ≡ rs
standing_again [] none = refl
standing_again (r ∷ rs) none =
    ap (λ x. x ∷ map unwritten rs) (without_writes r (All-head (λ (q : Residence). q.writes ≡ []) r rs none))
    ∙ ap (λ xs. r ∷ xs) (standing_again rs (All-tail (λ (q : Residence). q.writes ≡ []) r rs none))

-- ---- what begins

one_fresh_sound : (lib : Library) (m serials : ℕ) (bases : List ℕ) (r : Result (List Fresh) NoRoom) (fresh : List Fresh) → m < length lib → Stands lib m bases →
    ((xs : List Fresh) → r ≡ Ok xs → FreshSound lib (suc serials) xs) → with_fresh (record { serial = suc serials; «module» = m; bases = bases }) r ≡ Ok fresh → FreshSound lib serials fresh
one_fresh_sound lib m serials bases (Ok xs) fresh within stands each e =
    let first : Fresh = record { serial = suc serials; «module» = m; bases = bases } in
    let same : first ∷ xs ≡ fresh = cc in
    let rest = each xs refl in
    subst (FreshSound lib serials) same (record {
      within = All-cons (λ (r : Residence). r.«module» < length lib) (residence_from first) (map residence_from xs) within rest.within;
      bases = All-cons (λ (r : Residence). Stands lib r.«module» r.bases) (residence_from first) (map residence_from xs) stands rest.bases;
      unwritten = All-cons (λ (r : Residence). r.writes ≡ []) (residence_from first) (map residence_from xs) refl rest.unwritten;
      rise = (omega arith, rise_to (suc serials) (map (λ (r : Residence). r.serial) (map residence_from xs)) (suc serials + length xs) (serials + suc (length xs)) (omega arith) rest.rise);
    })
one_fresh_sound lib m serials bases (Err none) fresh within stands each e = cc

pub fresh_sound : (lib : Library) (ms : List ℕ) (serials : ℕ) (occupied : List AddressRange) (fresh : List Fresh) → All (λ m. m < length lib) ms →
    placed_from lib serials occupied ms ≡ Ok fresh → FreshSound lib serials fresh
unfolding placed_from
fresh_sound lib [] serials occupied fresh within e =
    let same : [] ≡ fresh = cc in
    subst (FreshSound lib serials) same (record {
      within = All-nil (λ (r : Residence). r.«module» < length lib);
      bases = All-nil (λ (r : Residence). Stands lib r.«module» r.bases);
      unwritten = All-nil (λ (r : Residence). r.writes ≡ []);
      rise = omega arith;
    })
fresh_sound lib (m ∷ ms) serials occupied fresh within e =
    step (bases_for lib occupied m) refl e (λ occ xs h. fresh_sound lib ms (suc serials) occ xs (All-tail (λ k. k < length lib) m ms within) h)
  where
    step : (r : Result (List ℕ) ArenaFull) → bases_for lib occupied m ≡ r →
        elim r as (λ _. Result (List Fresh) NoRoom) [
          | Err x ↦ Err (record { of = m; object = x })
          | Ok bases ↦ with_fresh (record { serial = suc serials; «module» = m; bases = bases }) (placed_from lib (suc serials) (occupied ++ ranges_of lib m bases) ms)
        ] ≡ Ok fresh →
        ((occ : List AddressRange) (xs : List Fresh) → placed_from lib (suc serials) occ ms ≡ Ok xs → FreshSound lib (suc serials) xs) → FreshSound lib serials fresh
    step (Err x) is e each = cc
    step (Ok bases) is e each =
        one_fresh_sound lib m serials bases (placed_from lib (suc serials) (occupied ++ ranges_of lib m bases) ms) fresh (All-head (λ k. k < length lib) m ms within)
        (module_stands lib occupied m bases is) (each (occupied ++ ranges_of lib m bases)) e

pub ok_answers : {A R : Type 0} (r : Result A (Fail R)) (P : A → Type 0) (Q : R → Type 0) → Answers r P Q → IfOk r P
ok_answers (Ok x) P Q said = said
ok_answers (Err (Said e)) P Q said = _
ok_answers (Err NoMemory) P Q said = _

-- one residence more that begins
pub rows_more : {T : Type 0} (table new : List (Residence × T)) (fresh : List Fresh) (i : ℕ) (f : Fresh) (row : Residence × T) → i < length fresh → f ≡ get_or fresh i f → row.0 ≡ residence_from f →
    new ≡ table ++ row ∷ [] → residences table ≡ map residence_from (take i fresh) → residences new ≡ map residence_from (take (i + 1) fresh)
rows_more {T} table new fresh i f row below f_is stay_is new_is so_far =
    ap (λ xs. residences xs) new_is ∙ map-append (λ (x : Residence × T). x.0) table (row ∷ []) ∙ ap (λ rs. rs ++ row.0 ∷ []) so_far
    ∙ ap (λ r. map residence_from (take i fresh) ++ r ∷ []) (stay_is ∙ ap residence_from f_is)
    ∙ sym (ap (map residence_from) (take_more fresh i f below) ∙ map-append residence_from (take i fresh) (get_or fresh i f ∷ []))

pub begun_sound : {T : Type 0} (lib : Library) (table new_residences now : List (Residence × T)) (fresh : List Fresh) (serials given : ℕ) → AllSound lib (residences table) 0 serials →
    FreshSound lib serials fresh → residences new_residences ≡ map residence_from fresh → now ≡ table ++ new_residences → given ≡ serials + length fresh → AllSound lib (residences now) 0 given
begun_sound {T} lib table new_residences now fresh serials given sound fresh_is begun now_is given_is =
    let all = both_sound lib (residences table) (map residence_from fresh) 0 serials (serials + length fresh) sound fresh_is in
    let are : residences now ≡ residences table ++ map residence_from fresh =
    ap (λ xs. residences xs) now_is ∙ map-append (λ (x : Residence × T). x.0) table new_residences ∙ ap (λ rs. residences table ++ rs) begun
    in
    subst (λ rs. AllSound lib rs 0 given) (sym are) (subst (AllSound lib (residences table ++ map residence_from fresh) 0) (sym given_is) all)
