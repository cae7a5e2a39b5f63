-- Items of lists: one form each, and indices of what is there.
use Rattle.std.proofs.Common.{ℕ, zero, suc, ◌≤◌, List, [], ◌∷◌, length, refl, arith}
use Rattle.std.specs.Prelude.{IsSomeAnd}
use Rattle.std.specs.List.{AllByRecursion, flat_map, slice_get}
use Rattle.obj_types.specs.Items.{item, IsIndex}
use Rattle.omf_fields.specs.Forms.{Form, each}
use Rattle.omf_write.proofs.ImportRead.{both}

pub each_spelled : {A : Type 0} (form : A → Form) (bytes : A → List ℕ) (P : A → Type 0) → ((x : A) → P x → form x (bytes x)) → (xs : List A) → AllByRecursion P xs → each form xs (flat_map bytes xs)
each_spelled form bytes P one [] all = refl
each_spelled form bytes P one (x ∷ xs) all = both (form x) (each form xs) (bytes x) (flat_map bytes xs) (one x all.0) (each_spelled form bytes P one xs all.1)

below_length : {A : Type 0} (P : A → Type 0) (xs : List A) (i : ℕ) → IsSomeAnd (slice_get xs i) P → suc i ≤ length xs
below_length P [] i is = absurd is
below_length P (x ∷ xs) zero is = omega arith
below_length P (x ∷ xs) (suc i) is = let rest = below_length P xs i is in omega (arith, rest)

pub index_there : {A : Type 0} (P : A → Type 0) (xs : List A) (i : ℕ) → IsSomeAnd (item xs i) P → IsIndex xs i
index_there P xs zero is = absurd is
index_there P xs (suc i) is = let below = below_length P xs i is in (omega arith, omega (arith, below))
