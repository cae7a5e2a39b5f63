-- What each entry keeps: a process has attached what it reaches, and what some process reaches is resident.
use Rattle.std.proofs.Common.{◌≡◌, ℕ, suc, ◌==◌, Bool, true, false, if◌then◌else◌, not, ◌&&◌, ◌||◌, List, [], ◌∷◌, ◌++◌, map, Option, Some, None, Result, Ok, Err, is_some, is_none, option_to_list, refl, sym, ◌∙◌, ap}
use Rattle.std.specs.List.{list_any}
use Rattle.std.proofs.lemmas.Bool.{eq-eqb}
use Rattle.lx_types.proofs.Lists.{any_map}
use Rattle.load_model.specs.declared.commands.Refusal.{Refusal}
use Rattle.load_model.specs.declared.commands.Refusal.TheVariants.{Ended, Started}
use Rattle.load_model.specs.declared.deeds.How.{How}
use Rattle.load_model.specs.declared.deeds.How.TheVariants.{Start, Load}
use Rattle.load_model.specs.declared.deeds.Fresh.{Fresh}
use Rattle.load_model.specs.declared.deeds.Deed.TheVariants as deeds
use Rattle.load_model.specs.Modules.{bases_for, Library, order_of}
use Rattle.base_pick.specs.declared.occupied.AddressRange.{AddressRange}
use Rattle.base_pick.specs.declared.picking.ArenaFull.{ArenaFull}
use Rattle.load_model.specs.State.{Process, Eager, with_process, is_among, pids, reaches, is_reached, residence_of}
use Rattle.load_model.specs.declared.deeds.Call.{Call}
use Rattle.load_model.specs.Entering.{NoRoom, ranges_of, with_fresh_residences, joined, newcomers, placing, placed_from, with_fresh, holding, attaching, residence_from, after_entering}
use Rattle.load_model.specs.Initialising.{failing_module, entered, enter_by, enter_deed}
use Rattle.load_model.specs.Refusals.{when, ◌orelse◌, enter_refusal}
use Rattle.load_model.proofs.Bools.{or_swap}
use Rattle.load_model.proofs.Among.{any_append, any_same, among_append, among_filter, some_find, any_split}

-- ---- processes

-- what is reached by other processes than one
abbrev pub others : Library → Eager → ℕ → ℕ → Bool
others lib e pid m = list_any (λ q. not (q == pid) && reaches lib (e.processes q) m) pids

pub process_at : (e : Eager) (pid : ℕ) (p : Process) → (with_process e pid p).processes pid ≡ p
unfolding with_process
process_at e pid p = ap (λ b. if b then p else e.processes pid) (eq-eqb pid pid refl)

pub process_apart : (e : Eager) (pid : ℕ) (p : Process) (q : ℕ) → (q == pid) ≡ false → (with_process e pid p).processes q ≡ e.processes q
unfolding with_process
process_apart e pid p q h = ap (λ b. if b then p else e.processes q) h

pub reached_apart : (lib : Library) (e : Eager) (pid m : ℕ) → is_among pids pid ≡ true → is_reached lib e m ≡ reaches lib (e.processes pid) m || others lib e pid m
unfolding is_reached
reached_apart lib e pid m there = any_split (λ q. reaches lib (e.processes q) m) pid pids there

others_same : (lib : Library) (e : Eager) (pid : ℕ) (p : Process) (m : ℕ) → others lib (with_process e pid p) pid m ≡ others lib e pid m
others_same lib e pid p m = any_same _ _ (λ q. step q (q == pid) refl) pids
  where
    step : (q : ℕ) (b : Bool) → (q == pid) ≡ b → not b && reaches lib ((with_process e pid p).processes q) m ≡ not b && reaches lib (e.processes q) m
    step q true h = refl
    step q false h = ap (λ x. reaches lib x m) (process_apart e pid p q h)

pub reached_with : (lib : Library) (e : Eager) (pid : ℕ) (p : Process) (m : ℕ) → is_among pids pid ≡ true →
    is_reached lib (with_process e pid p) m ≡ reaches lib p m || others lib e pid m
reached_with lib e pid p m there =
    reached_apart lib (with_process e pid p) pid m there
    ∙ ap (λ x. reaches lib x m || others lib (with_process e pid p) pid m) (process_at e pid p)
    ∙ ap (λ b. reaches lib p m || b) (others_same lib e pid p m)

-- ---- what is kept

pub record Kept (lib : Library) (e : Eager) : Type 0 where
  pub attached : (pid m : ℕ) → is_among (e.processes pid).attached m ≡ reaches lib (e.processes pid) m
  pub resident : (m : ℕ) → list_any (λ r. r.«module» == m) e.residences ≡ is_reached lib e m

pub is_resident : (e : Eager) (m : ℕ) → is_some (residence_of e m) ≡ list_any (λ r. r.«module» == m) e.residences
unfolding residence_of
is_resident e m = some_find (λ r. r.«module» == m) e.residences

-- ---- entering

-- the residences that begin are those of the newcomers
abbrev pub modules_of : List Fresh → List ℕ
modules_of fresh = map (λ f. f.«module») fresh

fresh_step : (f : Fresh) (r : Result (List Fresh) NoRoom) (fresh : List Fresh) (ms : List ℕ) →
    ((xs : List Fresh) → r ≡ Ok xs → modules_of xs ≡ ms) → with_fresh f r ≡ Ok fresh → modules_of fresh ≡ f.«module» ∷ ms
fresh_step f (Ok xs) fresh ms each e =
    let same : f ∷ xs ≡ fresh = cc in
    ap modules_of (sym same) ∙ ap (λ ks. f.«module» ∷ ks) (each xs refl)
fresh_step f (Err x) fresh ms each e = cc

placed_step : (m : ℕ) (ms : List ℕ) (make : List ℕ → Fresh) (rest : List ℕ → Result (List Fresh) NoRoom) (r : Result (List ℕ) ArenaFull) (fresh : List Fresh) →
    ((bases : List ℕ) (xs : List Fresh) → rest bases ≡ Ok xs → modules_of xs ≡ ms) → ((bases : List ℕ) → (make bases).«module» ≡ m) →
    elim r as (λ _. Result (List Fresh) NoRoom) [ Err e ↦ Err (record { of = m; object = e }) | Ok bases ↦ with_fresh (make bases) (rest bases) ] ≡ Ok fresh →
    modules_of fresh ≡ m ∷ ms
placed_step m ms make rest (Ok bases) fresh each is e =
    fresh_step (make bases) (rest bases) fresh ms (each bases) e ∙ ap (λ k. k ∷ ms) (is bases)
placed_step m ms make rest (Err x) fresh each is e = cc

pub fresh_modules : (lib : Library) (ms : List ℕ) (serials : ℕ) (spans : List AddressRange) (fresh : List Fresh) → placed_from lib serials spans ms ≡ Ok fresh → modules_of fresh ≡ ms
unfolding placed_from
fresh_modules lib [] serials spans fresh e = (let same : fresh ≡ [] = cc in ap modules_of same)
fresh_modules lib (m ∷ ms) serials spans fresh e =
    placed_step m ms (λ bases. record { serial = suc serials; «module» = m; bases = bases })
    (λ bases. placed_from lib (suc serials) (spans ++ ranges_of lib m bases) ms) (bases_for lib spans m) fresh
    (λ bases xs h. fresh_modules lib ms (suc serials) (spans ++ ranges_of lib m bases) xs h) (λ bases. refl) e

-- an entry that enters was placed
never_failed : (lib : Library) (e : Eager) (pid : ℕ) (how : How) (m : ℕ) (xs fresh : List Fresh) (made : List Call) (o : Option ℕ) →
    deeds.Enter how m fresh made ≡ entered lib e pid how m xs o → fresh ≡ xs
never_failed lib e pid how m xs fresh made None is = cc
never_failed lib e pid how m xs fresh made (Some by) is = cc

pub enter_step : (lib : Library) (e : Eager) (pid : ℕ) (how : How) (m : ℕ) (r : Result (List Fresh) NoRoom) (fresh : List Fresh) (made : List Call) →
    deeds.Enter how m fresh made ≡ enter_by lib e pid how m r → r ≡ Ok fresh
enter_step lib e pid how m (Ok xs) fresh made is = ap Ok (sym (never_failed lib e pid how m xs fresh made (failing_module lib e pid how m xs) is))
enter_step lib e pid how m (Err none) fresh made is = cc

pub fresh_are_new : (lib : Library) (e : Eager) (pid : ℕ) (how : How) (m : ℕ) (fresh : List Fresh) (made : List Call) →
    deeds.Enter how m fresh made ≡ enter_deed lib e pid how m → modules_of fresh ≡ newcomers lib e pid m
unfolding enter_deed placing
fresh_are_new lib e pid how m fresh made is =
    fresh_modules lib (newcomers lib e pid m) e.serials _ fresh (enter_step lib e pid how m (placing lib e pid m) fresh made is)

-- ---- what a process reaches with one root more

any_loads : (f : ℕ → Bool) (s : Option ℕ) (m : ℕ) (xs : List ℕ) → list_any f (option_to_list s ++ (m ∷ xs)) ≡ f m || list_any f (option_to_list s ++ xs)
any_loads f None m xs = refl
any_loads f (Some k) m xs = or_swap (f k) (f m) (list_any f xs)

-- who enters a program has started none
not_started : (b : Bool) (s : Option ℕ) (r : Option Refusal) → is_none (when b Ended orelse when (is_some s) Started orelse r) ≡ true → s ≡ None
not_started true s r e = cc
not_started false (Some k) r e = cc
not_started false None r e = refl

any_started : (f : ℕ → Bool) (s : Option ℕ) (m : ℕ) (xs : List ℕ) → s ≡ None → list_any f (option_to_list (Some m) ++ xs) ≡ f m || list_any f (option_to_list s ++ xs)
any_started f None m xs e = refl
any_started f (Some k) m xs e = cc

pub reaches_more : (lib : Library) (p : Process) (js : List ℕ) (how : How) (m k : ℕ) → is_none (enter_refusal lib p how (Some m)) ≡ true →
    reaches lib (holding how m (attaching js p)) k ≡ is_among (order_of lib m) k || reaches lib p k
unfolding reaches enter_refusal
reaches_more lib p js Start m k h = any_started (λ root. is_among (order_of lib root) k) p.started m p.loads (not_started p.ended p.started _ h)
reaches_more lib p js Load m k h = any_loads (λ root. is_among (order_of lib root) k) p.started m p.loads

-- ---- an entry that enters keeps it

enter_attached : (o r : Bool) → r || (o && not r) ≡ o || r
enter_attached true true = refl
enter_attached true false = refl
enter_attached false true = refl
enter_attached false false = refl

attached_more : (lib : Library) (e : Eager) (pid m k : ℕ) → Kept lib e →
    is_among ((e.processes pid).attached ++ joined lib e pid m) k ≡ is_among (order_of lib m) k || reaches lib (e.processes pid) k
unfolding joined
attached_more lib e pid m k kept =
    among_append (e.processes pid).attached _ k
    ∙ ap (λ b. is_among (e.processes pid).attached k || b) (among_filter (λ x. not (reaches lib (e.processes pid) x)) (order_of lib m) k)
    ∙ ap (λ b. b || (is_among (order_of lib m) k && not (reaches lib (e.processes pid) k))) (kept.attached pid k)
    ∙ enter_attached (is_among (order_of lib m) k) (reaches lib (e.processes pid) k)

-- what is new: a member of the order that the process does not reach and nobody does
enter_resident : (o p s : Bool) → (p || s) || ((o && not p) && not (p || s)) ≡ (o || p) || s
enter_resident true true s = refl
enter_resident true false true = refl
enter_resident true false false = refl
enter_resident false true s = refl
enter_resident false false true = refl
enter_resident false false false = refl

none_some : {X : Type 0} (x : Option X) → is_none x ≡ not (is_some x)
none_some None = refl
none_some (Some y) = refl

new_among : (lib : Library) (e : Eager) (pid m k : ℕ) → Kept lib e →
    is_among (newcomers lib e pid m) k ≡ (is_among (order_of lib m) k && not (reaches lib (e.processes pid) k)) && not (is_reached lib e k)
unfolding newcomers joined
new_among lib e pid m k kept =
    among_filter (λ x. is_none (residence_of e x)) _ k
    ∙ ap (λ b. b && is_none (residence_of e k)) (among_filter (λ x. not (reaches lib (e.processes pid) x)) (order_of lib m) k)
    ∙ ap (λ b. (is_among (order_of lib m) k && not (reaches lib (e.processes pid) k)) && b) (none_some (residence_of e k) ∙ ap not (is_resident e k ∙ kept.resident k))

resident_more : (lib : Library) (e : Eager) (pid m k : ℕ) (fresh : List Fresh) → is_among pids pid ≡ true → Kept lib e → modules_of fresh ≡ newcomers lib e pid m →
    list_any (λ r. r.«module» == k) (e.residences ++ map residence_from fresh) ≡
    (is_among (order_of lib m) k || reaches lib (e.processes pid) k) || others lib e pid k
resident_more lib e pid m k fresh there kept new =
    any_append (λ r. r.«module» == k) e.residences (map residence_from fresh)
    ∙ ap (λ b. b || list_any (λ r. r.«module» == k) (map residence_from fresh)) (kept.resident k)
    ∙ ap (λ b. is_reached lib e k || b)
    (any_map (λ r. r.«module» == k) residence_from fresh ∙ sym (any_map (λ x. x == k) (λ f. f.«module») fresh) ∙ ap (λ ms. is_among ms k) new ∙ new_among lib e pid m k kept)
    ∙ ap (λ b. b || ((is_among (order_of lib m) k && not (reaches lib (e.processes pid) k)) && not b)) (reached_apart lib e pid k there)
    ∙ enter_resident (is_among (order_of lib m) k) (reaches lib (e.processes pid) k) (others lib e pid k)

pub attached_elsewhere : (lib : Library) (e : Eager) (pid : ℕ) (p : Process) → ((k : ℕ) → is_among p.attached k ≡ reaches lib p k) →
    ((other k : ℕ) → is_among (e.processes other).attached k ≡ reaches lib (e.processes other) k) →
    (other k : ℕ) → is_among ((with_process e pid p).processes other).attached k ≡ reaches lib ((with_process e pid p).processes other) k
unfolding with_process
attached_elsewhere lib e pid p own apart other k = step (other == pid)
  where
    step : (b : Bool) → is_among (if b then p else e.processes other).attached k ≡ reaches lib (if b then p else e.processes other) k
    step true = own k
    step false = apart other k

holding_attached : (how : How) (m : ℕ) (p : Process) → (holding how m p).attached ≡ p.attached
holding_attached Start m p = refl
holding_attached Load m p = refl

pub entered_kept : (lib : Library) (e : Eager) (pid : ℕ) (how : How) (m : ℕ) (fresh : List Fresh) → is_among pids pid ≡ true →
    is_none (enter_refusal lib (e.processes pid) how (Some m)) ≡ true → modules_of fresh ≡ newcomers lib e pid m → Kept lib e → Kept lib (after_entering lib e pid how m fresh)
unfolding after_entering with_process
entered_kept lib e pid how m fresh there may new kept =
    let p : Process = e.processes pid in
    let js : List ℕ = joined lib e pid m in
    record {
      attached =
          attached_elsewhere lib (with_fresh_residences e fresh) pid (holding how m (attaching js p))
          (λ k.
          ap (λ xs. is_among xs k) (holding_attached how m (attaching js p)) ∙ attached_more lib e pid m k kept ∙ sym (reaches_more lib p js how m k may))
          kept.attached;
      resident = λ k.
          resident_more lib e pid m k fresh there kept new
          ∙ sym (reached_with lib (with_fresh_residences e fresh) pid (holding how m (attaching js p)) k there ∙ ap (λ b. b || others lib e pid k) (reaches_more lib p js how m k may));
    }

-- what is reached by an entry that enters
pub entered_reached : (lib : Library) (e : Eager) (pid : ℕ) (how : How) (m : ℕ) (fresh : List Fresh) (k : ℕ) → is_among pids pid ≡ true →
    is_none (enter_refusal lib (e.processes pid) how (Some m)) ≡ true →
    is_reached lib (after_entering lib e pid how m fresh) k ≡ (is_among (order_of lib m) k || reaches lib (e.processes pid) k) || others lib e pid k
unfolding after_entering
entered_reached lib e pid how m fresh k there may =
    reached_with lib (with_fresh_residences e fresh) pid (holding how m (attaching (joined lib e pid m) (e.processes pid))) k there
    ∙ ap (λ b. b || others lib e pid k) (reaches_more lib (e.processes pid) (joined lib e pid m) how m k may)
