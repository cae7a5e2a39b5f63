-- In every legal history what is reached is fit, and its objects stand at places of their arena.
use Rattle.std.proofs.Common.{◌≡◌, ℕ, ◌+◌, ◌-◌, ◌%◌, ◌<◌, ◌≤◌, ◌==◌, Bool, true, false, cond, ◌&&◌, ◌||◌, List, [], ◌∷◌, ◌++◌, length, map, find, Option, Some, None, is_some, slice_index, refl, sym, ◌∙◌, ap, subst, arith, nat_le}
use Rattle.std.specs.List.{list_any}
use Rattle.std.proofs.lemmas.Bool.{eqb-true, leb-true}
use Rattle.lx_types.specs.Addresses.{room}
use Rattle.lx_types.specs.declared.limits.TheConstants.{BASE_UNIT, SHARED_END}
use Rattle.lx_types.specs.declared.bases.ModBases.{ModBases}
use Rattle.lx_model.specs.Fixed.{base_of, bases_of}
use Rattle.lx_model.specs.Reach.{IsFit}
use Rattle.lx_model.specs.Laws.{OrderEndsWithItself}
use Rattle.base_pick.specs.declared.occupied.AddressRange.{AddressRange}
use Rattle.base_pick.specs.Places.{is_in_arena, private_arena, shared_arena}
use Rattle.load_model.specs.declared.deeds.Entry.{Entry}
use Rattle.load_model.specs.Modules.{Library, Held, is_library, object_at, order_of, Order}
use Rattle.load_model.specs.State as state
use Rattle.load_model.specs.State.{Failing, Eager, Residence, pids, reaches, is_reached, residence_of}
use Rattle.load_model.specs.Memory.{bases_seen}
use Rattle.load_model.specs.Histories.{state_after, Legal}
use Rattle.load_model.specs.Fitness.{ReachedIsFit}
use Rattle.load_model.specs.Laws.{ReachedIsResident}
use Rattle.load_model.specs.ResidenceBases.{arena_of, ResidentsFit}
use Rattle.load_model.proofs.Bools.{and_left, and_right}
use Rattle.load_model.proofs.ResidenceBases.{room_holds}
use Rattle.run_model.specs.Standing.{ObjectsStand, ReachedStand}

-- ---- a place of an arena

at_unit : (arena : AddressRange) (size base : ℕ) → is_in_arena arena size base ≡ true → base % BASE_UNIT ≡ 0
at_unit arena size base is =
    eqb-true (base % BASE_UNIT) 0 (and_left
    (base % BASE_UNIT == 0) (nat_le arena.from base) (and_left ((base % BASE_UNIT == 0) && nat_le arena.from base) (nat_le (base + room size) arena.to) is))

ends_by : (arena : AddressRange) (size base : ℕ) → arena.to ≤ SHARED_END → is_in_arena arena size base ≡ true → base + size ≤ SHARED_END
ends_by arena size base high is =
    let fits : base + room size ≤ arena.to = leb-true (base + room size) arena.to (and_right ((base % BASE_UNIT == 0) && nat_le arena.from base) (nat_le (base + room size) arena.to) is) in
    sum_below base size (room size) arena.to SHARED_END (room_holds size) fits high
  where
    sum_below : (b s r t e : ℕ) → s ≤ r → b + r ≤ t → t ≤ e → b + s ≤ e
    sum_below b s r t e h k l = omega arith

arena_ends : (lib : Library) (m : ℕ) → (arena_of lib m).to ≤ SHARED_END
arena_ends lib m = step (is_library lib m)
  where
    step : (b : Bool) → (cond b shared_arena private_arena).to ≤ SHARED_END
    step true = omega arith
    step false = omega arith

-- ---- the bases that are seen

one_bases : Eager → ℕ → ModBases
one_bases e k = record { «module» = k; objects = state.bases_of (residence_of e k) }

-- the bases of a module that is among them
found : (e : Eager) (m : ℕ) (before : List ℕ) → bases_of (find (λ b. b.«module» == m)
    (map (λ k. record { «module» = k; objects = state.bases_of (residence_of e k) }) (before ++ m ∷ []))) ≡ state.bases_of (residence_of e m)
found e m [] = last (m == m) (same m)
  where
    same : (n : ℕ) → (n == n) ≡ true
    same n = grind arith

    last : (b : Bool) → b ≡ true → bases_of (cond b (Some (record { «module» = m; objects = state.bases_of (residence_of e m) })) None) ≡ state.bases_of (residence_of e m)
    last true is = refl
    last false is = cc
found e m (k ∷ before) = step (k == m) refl (found e m before)
  where
    step : (b : Bool) → (k == m) ≡ b →
        bases_of (find (λ b. b.«module» == m) (map (λ k. record { «module» = k; objects = state.bases_of (residence_of e k) }) (before ++ m ∷ []))) ≡ state.bases_of (residence_of e m) →
        bases_of (cond b (Some (record { «module» = k; objects = state.bases_of (residence_of e k) }))
        (find (λ b. b.«module» == m) (map (λ k. record { «module» = k; objects = state.bases_of (residence_of e k) }) (before ++ m ∷ []))))
        ≡ state.bases_of (residence_of e m)
    step true is later = ap (λ n. state.bases_of (residence_of e n)) (eqb-true k m is)
    step false is later = later

seen_is : OrderEndsWithItself → (lib : Library) (e : Eager) (m object : ℕ) → base_of (bases_seen lib e m) m object ≡ slice_index (state.bases_of (residence_of e m)) (object - 1)
unfolding bases_seen order_of
seen_is ends lib e m object =
    let at : Order lib m ≡ (ends lib m).0 ++ m ∷ [] = (ends lib m).1 in
    ap (λ order. slice_index (bases_of (find (λ b. b.«module» == m) (map (λ k. record { «module» = k; objects = state.bases_of (residence_of e k) }) order))) (object - 1)) at
    ∙ ap (λ bases. slice_index bases (object - 1)) (found e m (ends lib m).0)

-- ---- what is reached

pub record Reacher (lib : Library) (e : Eager) (m : ℕ) : Type 0 where
  pub pid : ℕ
  pub reaches_it : reaches lib (e.processes pid) m ≡ true

reacher_among : (lib : Library) (e : Eager) (m : ℕ) (ps : List ℕ) → list_any (λ pid. reaches lib (e.processes pid) m) ps ≡ true → Reacher lib e m
reacher_among lib e m [] is = cc
reacher_among lib e m (p ∷ ps) is = step (reaches lib (e.processes p) m) refl is (reacher_among lib e m ps)
  where
    step : (b : Bool) → reaches lib (e.processes p) m ≡ b → b || list_any (λ pid. reaches lib (e.processes pid) m) ps ≡ true →
        (list_any (λ pid. reaches lib (e.processes pid) m) ps ≡ true → Reacher lib e m) → Reacher lib e m
    step true at is later = record { pid = p; reaches_it = at }
    step false at is later = later is

reacher : (lib : Library) (e : Eager) (m : ℕ) → is_reached lib e m ≡ true → Reacher lib e m
unfolding is_reached
reacher lib e m is = reacher_among lib e m pids is

objects_stand : OrderEndsWithItself → ResidentsFit → (lib : Library) (failing : Failing) (contents : Held) (h : List Entry) (m : ℕ) (r : Residence) → Legal lib failing contents h →
    residence_of (state_after lib failing h) m ≡ Some r → ObjectsStand lib (bases_seen lib (state_after lib failing h) m) m
objects_stand ends fit lib failing contents h m r legal there object number =
    let e : Eager = state_after lib failing h in
    let base : ℕ = slice_index r.bases (object - 1) in
    let at : base_of (bases_seen lib e m) m object ≡ base = seen_is ends lib e m object ∙ ap (λ o. slice_index (state.bases_of o) (object - 1)) there in
    let inside : is_in_arena (arena_of lib m) (object_at lib m object).size base ≡ true = (fit lib failing contents h m object r legal there number).0 in (
      ap (λ x. x % BASE_UNIT) at ∙ at_unit (arena_of lib m) (object_at lib m object).size base inside,
      subst (λ x. x + (object_at lib m object).size ≤ SHARED_END) (sym at) (ends_by (arena_of lib m) (object_at lib m object).size base (arena_ends lib m) inside),
    )

pub reached_stand : OrderEndsWithItself → ReachedIsFit → ReachedIsResident → ResidentsFit → ReachedStand
reached_stand ends fit resident residents lib failing contents h m legal is =
    let e : Eager = state_after lib failing h in
    let by : Reacher lib e m = reacher lib e m is in
    let is_fit : (m < length lib) × IsFit lib m = fit lib failing contents h legal by.pid m by.reaches_it in
    record {
      there = is_fit.0;
      fit = is_fit.1;
      objects = step (residence_of e m) refl;
    }
  where
    step : (o : Option Residence) → residence_of (state_after lib failing h) m ≡ o → ObjectsStand lib (bases_seen lib (state_after lib failing h) m) m
    step (Some r) there = objects_stand ends residents lib failing contents h m r legal there
    step None there =
        let none : Option Residence = None in
        let wrong : is_some none ≡ true = ap is_some (sym there) ∙ (resident lib failing contents h legal m ∙ is) in
        cc
