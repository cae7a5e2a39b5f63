-- What rows that pass no limit have, and the highest base of a link.
use Rattle.std.specs.Prelude.{◌≡◌, ℕ, ◌+◌, ◌≤◌, Bool, true, false, ◌||◌, nat_lt, List, [], ◌∷◌, Option, Some, None, IfSome, length, take, find, unwrap_or, refl}
use Rattle.std.specs.List.{enumerate_from, AllByRecursion, All}
use Rattle.std.proofs.Common.{arith, subst, true≢false}
use Rattle.std.proofs.lemmas.Bool.{ltb-false}
use Rattle.std.proofs.lemmas.List.{take_all}
use Rattle.std.proofs.lemmas.List.Elements.{All-from_recursion}
use Rattle.lx_types.specs.declared.limits.TheConstants.{MAX_OBJECTS}
use Rattle.obj_types.specs.declared.definition.ModKind.{ModKind}
use Rattle.obj_types.specs.declared.definition.ModKind.TheVariants.{Program, Library}
use Rattle.obj_types.specs.Definition.{IsBase}
use Rattle.link_model.specs.declared.limits.TheConstants.{MAX_MEMORY}
use Rattle.link_model.specs.declared.refusals.LayRefusal.TheVariants.{TooLarge}
use Rattle.link_model.specs.Words.{first_of}
use Rattle.link_model.specs.Link.{Link}
use Rattle.link_model.specs.Rows.{Row}
use Rattle.link_model.specs.Layout.{usual_base}
use Rattle.link_model.specs.LayoutRefusals.{lay_refusal, absolute, use_mixed, group_split, too_large, too_large_in, passes_limits, object_limit, size_of_rows}
use Rattle.link_model.proofs.ExternalsMean.{neither, not_mapped, none_passes}

record Within (earlier : List Row) (r : Row) : Type 0 where
  memory : size_of_rows earlier ≤ MAX_MEMORY
  object : r.object ≤ MAX_OBJECTS

neither_of : (a b c : Bool) → (a || b || c) ≡ false → (b ≡ false) × (c ≡ false)
neither_of true b c e = absurd (true≢false e)
neither_of false true c e = absurd (true≢false e)
neither_of false false true e = absurd (true≢false e)
neither_of false false false e = (refl, refl)

within : (earlier : List Row) (r : Row) → passes_limits earlier r ≡ false → Within earlier r
within earlier r e =
    let two = neither_of (nat_lt (object_limit r.segment) r.end) (nat_lt MAX_MEMORY (size_of_rows earlier)) (nat_lt MAX_OBJECTS r.object) e in
    record { memory = ltb-false MAX_MEMORY (size_of_rows earlier) two.0; object = ltb-false MAX_OBJECTS r.object two.1 }

-- Each row passes no limit after the rows up to it.
Each : List Row → ℕ → List Row → Type 0
Each all n rs = AllByRecursion (λ q. passes_limits (take q.0 all) q.1 ≡ false) (enumerate_from n rs)

each_of : (rs : List Row) → too_large_in rs ≡ None → Each rs 1 rs
unfolding Each
each_of rs e =
    none_passes (λ q. passes_limits (take q.0 rs) q.1) (enumerate_from 1 rs)
    (not_mapped (λ q. TooLarge q.1.segment.name) (find (λ q. passes_limits (take q.0 rs) q.1) (enumerate_from 1 rs)) e)

-- The rows up to the last one are all rows.
size_at_last : (all : List Row) (n : ℕ) (r : Row) (rs : List Row) → Each all n (r ∷ rs) → length all ≡ n + length rs → size_of_rows all ≤ MAX_MEMORY
unfolding Each
size_at_last all n r [] each long =
    subst (λ (t : List Row). size_of_rows t ≤ MAX_MEMORY) (take_all n all (omega (arith, long))) (within (take n all) r each.0).memory
size_at_last all n r (q ∷ rs) each long = size_at_last all (n + 1) q rs each.1 (omega (arith, long))

-- All objects together are at most 16 MiB long.
pub size-within : (rs : List Row) → too_large_in rs ≡ None → size_of_rows rs ≤ MAX_MEMORY
size-within [] e = omega arith
size-within (r ∷ rs) e = size_at_last (r ∷ rs) 1 r rs (each_of (r ∷ rs) e) (omega arith)

objects_by : (all : List Row) (n : ℕ) (rs : List Row) → Each all n rs → AllByRecursion (λ r. r.object ≤ MAX_OBJECTS) rs
unfolding Each
objects_by all n [] each = tt
objects_by all n (r ∷ rs) each = ((within (take n all) r each.0).object, objects_by all (n + 1) rs each.1)

-- No row is of an object past the last that there may be.
pub objects-within : (rs : List Row) → too_large_in rs ≡ None → All (λ r. r.object ≤ MAX_OBJECTS) rs
objects-within rs e = All-from_recursion (λ r. r.object ≤ MAX_OBJECTS) rs (objects_by rs 1 rs (each_of rs e))

-- So it is where the layout is not refused.
pub not-too-large : (l : Link) → lay_refusal l ≡ None → too_large l ≡ None
unfolding lay_refusal
not-too-large l e =
    let first = (neither (absolute l) (first_of (use_mixed l ∷ group_split l ∷ too_large l ∷ [])) e).1 in
    let second = (neither (use_mixed l) (first_of (group_split l ∷ too_large l ∷ [])) first).1 in
    let third = (neither (group_split l) (first_of (too_large l ∷ [])) second).1 in
    (neither (too_large l) (first_of []) third).0

pub base-within : (base : Option ℕ) (kind : ModKind) → IfSome base IsBase → unwrap_or base (usual_base kind) ≤ 0x1FFF0000
base-within None Program e = omega arith
base-within None Library e = omega arith
base-within (Some b) kind e = e.2
