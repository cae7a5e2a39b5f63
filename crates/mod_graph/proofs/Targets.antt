-- The faults of one target more.
use Rattle.std.proofs.Common.{◌≡◌, ℕ, ◌<◌, ◌+◌, ◌||◌, ◌∙◌, Bool, true, false, List, [], ◌∷◌, ◌++◌, length, take, get_or, refl, sym, ap}
use Rattle.std.proofs.lemmas.List.{take_more}
use Rattle.std.specs.List.{list_any}
use Rattle.lx_types.specs.declared.fix.FixTarget.{FixTarget}
use Rattle.lx_types.specs.declared.parts.Parts.{Parts}
use Rattle.lx_model.specs.declared.library.EntryFault.{EntryFault}
use Rattle.lx_model.specs.declared.library.EntryFault.TheVariants as entries
use Rattle.lx_model.specs.Entries.{target_spot}
use Rattle.lx_model.specs.Reach.{ends_in}
use Rattle.mod_graph.specs.declared.health.Met.{Met}
use Rattle.mod_graph.specs.Faults.{met_by, met_with}

or_swap : (a b c : Bool) → (b || (a || c)) ≡ (a || (b || c))
or_swap true true c = refl
or_swap true false c = refl
or_swap false true c = refl
or_swap false false c = refl

any_push : {A : Type 0} (f : A → Bool) (xs : List A) (x : A) → list_any f (xs ++ x ∷ []) ≡ (f x || list_any f xs)
any_push f [] x = refl
any_push f (y ∷ xs) x = ap (λ b. f y || b) (any_push f xs x) ∙ or_swap (f x) (f y) (list_any f xs)

met_same : (a b c x y z : Bool) → a ≡ x → b ≡ y → c ≡ z →
    (let one : Met = record { no_entry = a; forward_loop = b; gate286 = c } in one) ≡ (let other : Met = record { no_entry = x; forward_loop = y; gate286 = z } in other)
met_same a b c x y z f g h =
    ap (λ w. record { no_entry = w; forward_loop = b; gate286 = c }) f
    ∙ ap (λ w. record { no_entry = x; forward_loop = w; gate286 = c }) g
    ∙ ap (λ w. record { no_entry = x; forward_loop = y; gate286 = w }) h

met_push : (lib : List Parts) (m : ℕ) (ts : List FixTarget) (t : FixTarget) → met_with (target_spot lib m t) (met_by lib m ts) ≡ met_by lib m (ts ++ t ∷ [])
met_push lib m ts t =
    let of : EntryFault → FixTarget → Bool = λ e u. ends_in e (target_spot lib m u) in
    met_same _ _ _ _ _ _
    (sym (any_push (of entries.NoEntry) ts t)) (sym (any_push (of entries.ForwardLoop) ts t)) (sym (any_push (of entries.Gate286) ts t))

pub met_more : (lib : List Parts) (m : ℕ) (targets : List FixTarget) (i : ℕ) (d : FixTarget) (met : Met) → i < length targets → met ≡ met_by lib m (take i targets) →
    met_with (target_spot lib m (get_or targets i d)) met ≡ met_by lib m (take (i + 1) targets)
met_more lib m targets i d met there is =
    ap (met_with (target_spot lib m (get_or targets i d))) is ∙ met_push lib m (take i targets) (get_or targets i d)
    ∙ ap (met_by lib m) (sym (take_more targets i d there))
