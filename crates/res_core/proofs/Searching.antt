-- The first of a row of entries that counts.
use Rattle.std.proofs.Common.{◌≡◌, ℕ, zero, suc, ◌+◌, ◌*◌, ◌<◌, Bool, true, false, cond, map, Some, None, option_map, refl, sym, ap, ◌∙◌, arith}
use Rattle.std.specs.List.{find, range_with_len}
use Rattle.std.proofs.Common.{◌≤◌, ◌&&◌, length, nat_le}
use Rattle.std.proofs.lemmas.Bool.Decides.{nat_tests}
use Rattle.lx_types.specs.declared.parts.Parts.{Parts}
use Rattle.lx_types.specs.declared.resource.ResSpot.{ResSpot}
use Rattle.lx_model.specs.declared.lengths.TheConstants.{RESOURCE_ENTRY_LEN}
use Rattle.lx_model.specs.Resources.{Resource, Res, resources_of, resource_at, resource_table, resource_count, has_key, is_in_object, is_whole}
use Rattle.res_core.specs.Found.{found_at}

module _ {X : Type 0} (p : X → Bool) (f : ℕ → X) where
  pub none_counts : (a n : ℕ) → ((j : ℕ) → j < n → p (f (a + j)) ≡ false) → find p (map f (range_with_len a n)) ≡ None
  none_counts a zero h = refl
  none_counts a (suc n) h =
      let here : p (f a) ≡ false = ap (λ (k : ℕ). p (f k)) (omega arith) ∙ h 0 (omega arith) in
      ap (λ c. cond c (Some (f a)) (find p (map f (range_with_len (a + 1) n)))) here
      ∙ none_counts (a + 1) n (λ j u. ap (λ (k : ℕ). p (f k)) (omega arith) ∙ h (suc j) (omega arith))

  pub first_counts : (a n k : ℕ) → k < n → ((j : ℕ) → j < k → p (f (a + j)) ≡ false) → p (f (a + k)) ≡ true → find p (map f (range_with_len a n)) ≡ Some (f (a + k))
  first_counts a zero k u h e = absurd (omega arith)
  first_counts a (suc n) zero u h e =
      let here : p (f a) ≡ true = ap (λ (k : ℕ). p (f k)) (omega arith) ∙ e in
      ap (λ c. cond c (Some (f a)) (find p (map f (range_with_len (a + 1) n)))) here ∙ ap (λ (k : ℕ). Some (f k)) (omega arith)
  first_counts a (suc n) (suc k) u h e =
      let here : p (f a) ≡ false = ap (λ (k : ℕ). p (f k)) (omega arith) ∙ h 0 (omega arith) in
      let shift : a + 1 + k ≡ a + suc k = omega arith in
      ap (λ c. cond c (Some (f a)) (find p (map f (range_with_len (a + 1) n)))) here
      ∙ first_counts (a + 1) n k (omega arith) (λ j v. ap (λ (k : ℕ). p (f k)) (omega arith) ∙ h (suc j) (omega arith)) (ap (λ (i : ℕ). p (f i)) shift ∙ e)
      ∙ ap (λ (i : ℕ). Some (f i)) shift

  pub none_from_start : (n : ℕ) → ((j : ℕ) → j < n → p (f j) ≡ false) → find p (map f (range_with_len 0 n)) ≡ None
  none_from_start n h = none_counts 0 n (λ j u. ap (λ (k : ℕ). p (f k)) (omega arith) ∙ h j u)

  pub first_from_start : (n k : ℕ) → k < n → ((j : ℕ) → j < k → p (f j) ≡ false) → p (f k) ≡ true → find p (map f (range_with_len 0 n)) ≡ Some (f k)
  first_from_start n k u h e =
      first_counts 0 n k u (λ j v. ap (λ (k : ℕ). p (f k)) (omega arith) ∙ h j v) (ap (λ (k : ℕ). p (f k)) (omega arith) ∙ e) ∙ ap (λ (k : ℕ). Some (f k)) (omega arith)

-- ---- one entry

abbrev pub counts : Parts → ℕ → ℕ → Resource → Bool
counts m ty id r = has_key ty id r && is_whole m r

no_spot_by : (k w : Bool) (o i : Bool) {A : Type 0} (x : A) → cond (k && i) (Some x) None ≡ None → (k && (o && i)) ≡ false
no_spot_by true w o true x e = absurd cc
no_spot_by true w true false x e = refl
no_spot_by true w false false x e = refl
no_spot_by false w o i x e = refl

pub not_found : (m : Parts) (ty id : ℕ) (r : Resource) → found_at m ty id r ≡ None → counts m ty id r ≡ false
not_found m ty id r e = no_spot_by (has_key ty id r) true (nat_le (r.at + 14) (length m.file)) (is_in_object m r.spot) r.spot e

a_spot_by : (k o i : Bool) {A : Type 0} (x y : A) → o ≡ true → cond (k && i) (Some x) None ≡ Some y → ((k && (o && i)) ≡ true) × (x ≡ y)
a_spot_by true true true x y u e = (refl, cc)
a_spot_by true false true x y u e = absurd cc
a_spot_by true o false x y u e = absurd cc
a_spot_by false o i x y u e = absurd cc

pub is_found : (m : Parts) (ty id : ℕ) (r : Resource) (spot : ResSpot) → r.at + 14 ≤ length m.file → found_at m ty id r ≡ Some spot → (counts m ty id r ≡ true) × (r.spot ≡ spot)
is_found m ty id r spot u e = a_spot_by (has_key ty id r) (nat_le (r.at + 14) (length m.file)) (is_in_object m r.spot) r.spot spot (grind (arith, nat_tests)) e

pub past_end : (m : Parts) (ty id : ℕ) (r : Resource) → length m.file < r.at + 14 → counts m ty id r ≡ false
past_end m ty id r e = grind (arith, nat_tests)

-- ---- all entries

-- entry k of a table
abbrev pub entry_at : Parts → ℕ → ℕ → Resource
entry_at m table k = resource_at m.file (table + RESOURCE_ENTRY_LEN * k)

pub no_resource : (m : Parts) (ty id table count : ℕ) → table ≡ resource_table m.file → count ≡ resource_count m.file → ((j : ℕ) → j < count → counts m ty id (entry_at m table j) ≡ false) →
    None ≡ Res m ty id
unfolding Res resources_of
no_resource m ty id table count e f h =
    sym
    (ap (λ (t : ℕ). option_map (λ r. r.spot) (find (counts m ty id) (map (entry_at m t) (range_with_len 0 (resource_count m.file))))) (sym e)
    ∙ ap (λ (n : ℕ). option_map (λ r. r.spot) (find (counts m ty id) (map (entry_at m table) (range_with_len 0 n)))) (sym f)
    ∙ ap (option_map (λ r. r.spot)) (none_from_start (counts m ty id) (entry_at m table) count h))

pub a_resource :
    (m : Parts) (ty id table count k : ℕ) (spot : ResSpot) → table ≡ resource_table m.file → count ≡ resource_count m.file → k < count → table + RESOURCE_ENTRY_LEN * k + 14 ≤ length m.file →
    ((j : ℕ) → j < k → counts m ty id (entry_at m table j) ≡ false) → found_at m ty id (entry_at m table k) ≡ Some spot → Some spot ≡ Res m ty id
unfolding Res resources_of
a_resource m ty id table count k spot e f u v h found =
    let it = is_found m ty id (entry_at m table k) spot v found in
    sym
    (ap (λ (t : ℕ). option_map (λ r. r.spot) (find (counts m ty id) (map (entry_at m t) (range_with_len 0 (resource_count m.file))))) (sym e)
    ∙ ap (λ (n : ℕ). option_map (λ r. r.spot) (find (counts m ty id) (map (entry_at m table) (range_with_len 0 n)))) (sym f)
    ∙ ap (option_map (λ r. r.spot)) (first_from_start (counts m ty id) (entry_at m table) count k u h it.0)
    ∙ ap Some it.1)
