-- Libraries whose modules are alike have the same orders, and what is fit in one is fit in the other.
use Rattle.std.proofs.Common.{◌≡◌, ℕ, zero, suc, ◌+◌, ◌||◌, Bool, false, cond, not, ltb, List, [], ◌∷◌, ◌++◌, map, length, Option, Some, None, Result, Ok, refl, sym, subst, ap, ◌∙◌}
use Rattle.std.specs.Prelude.{unwrap_or, position, option_map, is_none, filter_map}
use Rattle.std.specs.List.{list_any, fold, prefix_len, cons_option, AllByRecursion as Each}
use Rattle.std.proofs.lemmas.Bool.{or_parts}
use Rattle.lx_types.specs.declared.fix.FixTarget.{FixTarget}
use Rattle.lx_types.specs.declared.parts.Parts.{Parts}
use Rattle.lx_model.specs.declared.library.EntryFault.{EntryFault}
use Rattle.lx_model.specs.declared.library.EntryFault.TheVariants as faults
use Rattle.lx_model.specs.declared.library.Health.{Health}
use Rattle.lx_model.specs.declared.library.Health.TheVariants.{Fit, NoModule, NoEntry, ForwardLoop, Gate286}
use Rattle.lx_model.specs.declared.library.Spot.{Spot}
use Rattle.lx_model.specs.Reading.{first, ◌then◌}
use Rattle.lx_model.specs.Library.{module_of, library_named}
use Rattle.lx_model.specs.Entries.{target_spot}
use Rattle.lx_model.specs.Reach.{imports_of, Visits, is_among, visit, Order, lost_import, ends_in, target_of_fault, HealthOf, IsFit}
use Rattle.lx_model.proofs.Each.{each_first, each_more}
use Rattle.lx_model.proofs.FitModules.{spot_of, if_none, unfit_first, unfit_lost, unfit_if, not_first, not_last}
use Rattle.res_laws.proofs.HeaderFaults.{none_first}
use Rattle.res_laws.proofs.Eaches.{each_both}
use Rattle.res_laws.proofs.Alike.{TargetStands, Alike, target_leads}

-- ---- orders

names_same : (lib other : List Parts) (names : List (List ℕ)) → Alike lib other → filter_map (library_named other) names ≡ filter_map (library_named lib) names
names_same lib other [] alike = refl
names_same lib other (name ∷ names) alike =
    ap (λ (o : Option ℕ). cons_option o (filter_map (library_named other) names)) (alike.libraries name) ∙ ap (cons_option (library_named lib name)) (names_same lib other names alike)

imports_same : (lib other : List Parts) (m : ℕ) → Alike lib other → imports_of other m ≡ imports_of lib m
imports_same lib other m alike = ap (filter_map (library_named other)) (alike.imports m) ∙ names_same lib other (module_of lib m).imports alike

fold_same : {A B : Type 0} (f g : B → A → B) (b : B) (xs : List A) → ((b : B) (a : A) → f b a ≡ g b a) → fold f b xs ≡ fold g b xs
fold_same f g b [] same = refl
fold_same f g b (x ∷ xs) same = ap (λ c. fold f c xs) (same b x) ∙ fold_same f g (g b x) xs same

abbrev visited_by : Visits → ℕ → Visits → Visits
visited_by before m after = cond (is_among before.visited m) before (record { visited = after.visited; order = after.order ++ m ∷ [] })

visit_same : (lib other : List Parts) → Alike lib other → (n : ℕ) (before : Visits) (m : ℕ) → visit n other before m ≡ visit n lib before m
unfolding visit
visit_same lib other alike zero before m = refl
visit_same lib other alike (suc n) before m =
    let marked : Visits = record { visited = m ∷ before.visited; order = before.order } in
    ap (λ (ms : List ℕ). visited_by before m (fold (visit n other) marked ms)) (imports_same lib other m alike)
    ∙ ap (visited_by before m) (fold_same (visit n other) (visit n lib) marked (imports_of lib m) (visit_same lib other alike n))

pub order_same : (lib other : List Parts) (m : ℕ) → Alike lib other → length other ≡ length lib → Order other m ≡ Order lib m
unfolding Order
order_same lib other m alike long =
    let none : Visits = record { visited = []; order = [] } in
    ap (λ (n : ℕ). (visit (suc n) other none m).order) long ∙ ap (λ (v : Visits). v.order) (visit_same lib other alike (suc (length lib)) none m)

-- ---- health

prefix_same : (p q : List ℕ → Bool) (names : List (List ℕ)) → ((name : List ℕ) → p name ≡ q name) → prefix_len p names ≡ prefix_len q names
prefix_same p q [] same = refl
prefix_same p q (name ∷ names) same = ap (λ (b : Bool). cond b (1 + prefix_len p names) 0) (same name) ∙ ap (λ (n : ℕ). cond (q name) (1 + n) 0) (prefix_same p q names same)

lost_same : (lib other : List Parts) (m : ℕ) → Alike lib other → lost_import other m ≡ lost_import lib m
lost_same lib other m alike =
    let names = (module_of lib m).imports in
    ap (λ (ns : List (List ℕ)). option_map (λ (k : ℕ). NoModule m (k + 1)) (position (λ name. is_none (library_named other name)) ns)) (alike.imports m)
    ∙ ap (λ (n : ℕ). option_map (λ (k : ℕ). NoModule m (k + 1)) (cond (ltb n (length names)) (Some n) None))
    (prefix_same (λ name. not (is_none (library_named other name))) (λ name. not (is_none (library_named lib name))) names (λ name. ap (λ (o : Option ℕ). not (is_none o)) (alike.libraries name)))

-- what is looked for in each module
abbrev entry_fault : List Parts → ℕ → Option Health
entry_fault lib by = target_of_fault faults.NoEntry (NoEntry by) lib by

abbrev loop_fault : List Parts → ℕ → Option Health
loop_fault lib by = target_of_fault faults.ForwardLoop (ForwardLoop by) lib by

abbrev gate_fault : List Parts → ℕ → Option Health
gate_fault lib by = target_of_fault faults.Gate286 (Gate286 by) lib by

abbrev pub IsSound : List Parts → ℕ → Type 0
IsSound lib by = ((lost_import lib by ≡ None) × (entry_fault lib by ≡ None)) × ((loop_fault lib by ≡ None) × (gate_fault lib by ≡ None))

members_sound : (lib : List Parts) (m : ℕ) → HealthOf lib m ≡ Fit → Each (IsSound lib) (Order lib m)
unfolding HealthOf
members_sound lib m e =
    let ms = Order lib m in
    let c = first (map (entry_fault lib) ms) in
    let d = first (map (loop_fault lib) ms) in
    let g = first (map (gate_fault lib) ms) in
    let two = not_first (first (map (lost_import lib) ms)) (c then d then g) (unfit_first (lost_import lib) (unfit_lost lib) ms) e in
    let three = not_first c (d then g) (unfit_first (entry_fault lib) (λ by. unfit_if (list_any (λ t. ends_in faults.NoEntry (target_spot lib by t)) (module_of lib by).refs) (NoEntry by) (λ (x : NoEntry by ≡ Fit). absurd cc)) ms) two.1 in
    let four = not_first d g (unfit_first (loop_fault lib) (λ by. unfit_if (list_any (λ t. ends_in faults.ForwardLoop (target_spot lib by t)) (module_of lib by).refs) (ForwardLoop by) (λ (x : ForwardLoop by ≡ Fit). absurd cc)) ms) three.1 in
    let five = not_last g (unfit_first (gate_fault lib) (λ by. unfit_if (list_any (λ t. ends_in faults.Gate286 (target_spot lib by t)) (module_of lib by).refs) (Gate286 by) (λ (x : Gate286 by ≡ Fit). absurd cc)) ms) four.1 in
    each_both (λ by. (lost_import lib by ≡ None) × (entry_fault lib by ≡ None)) (λ by. (loop_fault lib by ≡ None) × (gate_fault lib by ≡ None)) ms
    (each_both (λ by. lost_import lib by ≡ None) (λ by. entry_fault lib by ≡ None) ms (each_first (lost_import lib) ms two.0) (each_first (entry_fault lib) ms three.0))
    (each_both (λ by. loop_fault lib by ≡ None) (λ by. gate_fault lib by ≡ None) ms (each_first (loop_fault lib) ms four.0) (each_first (gate_fault lib) ms five))

members_fit : (lib : List Parts) (m : ℕ) → Each (IsSound lib) (Order lib m) → HealthOf lib m ≡ Fit
unfolding HealthOf
members_fit lib m h =
    let ms = Order lib m in
    let a = none_first (lost_import lib) ms (each_more (IsSound lib) (λ by. lost_import lib by ≡ None) ms (λ by s. s.0.0) h) in
    let c = none_first (entry_fault lib) ms (each_more (IsSound lib) (λ by. entry_fault lib by ≡ None) ms (λ by s. s.0.1) h) in
    let d = none_first (loop_fault lib) ms (each_more (IsSound lib) (λ by. loop_fault lib by ≡ None) ms (λ by s. s.1.0) h) in
    let g = none_first (gate_fault lib) ms (each_more (IsSound lib) (λ by. gate_fault lib by ≡ None) ms (λ by s. s.1.1) h) in
    none_of a c d g
  where
    none_of : {a c d g : Option Health} → a ≡ None → c ≡ None → d ≡ None → g ≡ None → unwrap_or (a then c then d then g) Fit ≡ Fit
    none_of p q r s = rw (p, q, r, s) refl

-- ---- references

none_if : (b : Bool) (kind : Health) → b ≡ false → cond b (Some kind) None ≡ None
none_if b kind e = rw e refl

abbrev HasSpot : List Parts → ℕ → FixTarget → Type 0
HasSpot lib by t = (s : Spot) × (target_spot lib by t ≡ Ok s)

abbrev ends_here : EntryFault → List Parts → ℕ → FixTarget → Bool
ends_here e lib by t = ends_in e (target_spot lib by t)

each_spot : (lib : List Parts) (by : ℕ) (ts : List FixTarget) → list_any (ends_here faults.NoEntry lib by) ts ≡ false → list_any (ends_here faults.ForwardLoop lib by) ts ≡ false → list_any (ends_here faults.Gate286 lib by) ts ≡ false → Each (HasSpot lib by) ts
each_spot lib by [] a b c = tt
each_spot lib by (t ∷ ts) a b c =
    let p = or_parts (ends_here faults.NoEntry lib by t) (list_any (ends_here faults.NoEntry lib by) ts) a in
    let q = or_parts (ends_here faults.ForwardLoop lib by t) (list_any (ends_here faults.ForwardLoop lib by) ts) b in
    let r = or_parts (ends_here faults.Gate286 lib by t) (list_any (ends_here faults.Gate286 lib by) ts) c in
    (spot_of (target_spot lib by t) p.0 q.0 r.0, each_spot lib by ts p.1 q.1 r.1)

no_end : (e : EntryFault) (lib : List Parts) (by : ℕ) (ts : List FixTarget) → Each (HasSpot lib by) ts → list_any (ends_here e lib by) ts ≡ false
no_end e lib by [] h = refl
no_end e lib by (t ∷ ts) h = ap (λ (r : Result Spot EntryFault). ends_in e r || list_any (ends_here e lib by) ts) h.0.1 ∙ no_end e lib by ts h.1

-- the references of a module, where its targets stand
abbrev pub RefsStand : List Parts → List Parts → ℕ → Type 0
RefsStand lib other by = ((module_of other by).refs ≡ (module_of lib by).refs) × Each (TargetStands lib other by) (module_of lib by).refs

still_sound : (lib other : List Parts) (by : ℕ) → Alike lib other → RefsStand lib other by → IsSound lib by → IsSound other by
still_sound lib other by alike stand s =
    let ts = (module_of lib by).refs in
    let old = each_spot lib by ts (if_none (list_any (ends_here faults.NoEntry lib by) ts) (NoEntry by) s.0.1) (if_none (list_any (ends_here faults.ForwardLoop lib by) ts) (ForwardLoop by) s.1.0) (if_none (list_any (ends_here faults.Gate286 lib by) ts) (Gate286 by) s.1.1) in
    let new = each_more (λ t. TargetStands lib other by t × HasSpot lib by t) (HasSpot other by) ts (λ t h. (h.1.0, (target_leads lib other by t h.1.0 alike h.0 h.1.1).0)) (each_both (TargetStands lib other by) (HasSpot lib by) ts stand.1 old) in
    let refs : Each (HasSpot other by) (module_of other by).refs = subst (Each (HasSpot other by)) (sym stand.0) new in
    let us = (module_of other by).refs in (
      (lost_same lib other by alike ∙ s.0.0, none_if (list_any (ends_here faults.NoEntry other by) us) (NoEntry by) (no_end faults.NoEntry other by us refs)),
      (none_if (list_any (ends_here faults.ForwardLoop other by) us) (ForwardLoop by) (no_end faults.ForwardLoop other by us refs), none_if (list_any (ends_here faults.Gate286 other by) us) (Gate286 by) (no_end faults.Gate286 other by us refs)),
    )

pub still_fit : (lib other : List Parts) (m : ℕ) → Alike lib other → length other ≡ length lib → ((by : ℕ) → RefsStand lib other by) → IsFit lib m → IsFit other m
still_fit lib other m alike long stand fit =
    members_fit other m (subst (Each (IsSound other)) (sym (order_same lib other m alike long))
    (each_more (IsSound lib) (IsSound other) (Order lib m) (λ by s. still_sound lib other by alike (stand by) s) (members_sound lib m fit)))
