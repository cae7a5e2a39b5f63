-- One source more over a byte, and sources as they are left.
use Rattle.std.proofs.Common.{◌≡◌, ℕ, ℤ, List, [], ◌∷◌, ◌++◌, map, reverse, Option, Some, None, refl, ◌∙◌, ap}
use Rattle.std.specs.Prelude.{unwrap_or, pos, negsuc, nat_le, Bool, true, false, ◌-◌, if◌then◌else◌}
use Rattle.std.proofs.lemmas.List.{reverse-append, map-append}
use Rattle.lx_model.specs.Reading.{first}
use Rattle.lx_model.specs.Fixed.{Patch, patched, byte_if}
use Rattle.page_fix.specs.Laid.{laid}

first_after : (os : List (Option ℕ)) (o : Option ℕ) (d : ℕ) → unwrap_or (first (os ++ o ∷ [])) d ≡ unwrap_or (first os) (unwrap_or o d)
first_after [] None d = refl
first_after [] (Some x) d = refl
first_after (None ∷ os) o d = first_after os o d
first_after (Some x ∷ os) o d = refl

-- the first patch goes under the others
pub laid_cons : (q : Patch) (qs : List Patch) (i raw : ℕ) → laid (q ∷ qs) i raw ≡ laid qs i (unwrap_or (patched q i) raw)
laid_cons q qs i raw =
    ap (λ (ps : List Patch). unwrap_or (first (map (λ p. patched p i) ps)) raw) (reverse-append (q ∷ []) qs)
    ∙ ap (λ (os : List (Option ℕ)). unwrap_or (first os) raw) (map-append (λ (p : Patch). patched p i) (reverse qs) (q ∷ []))
    ∙ first_after (map (λ p. patched p i) (reverse qs)) (patched q i) raw

-- no bytes cover none
pub nothing_put : (offset : ℤ) (i : ℕ) → patched (record { offset = offset; bytes = [] }) i ≡ None
nothing_put (pos n) i = at (nat_le n i)
  where
    at : (b : Bool) → byte_if [] (if b then Some (i - n) else None) ≡ None
    at true = refl
    at false = refl
nothing_put (negsuc n) i = refl
