-- Ends of parts grow, and what passes 16 MiB once stays past it.
use Rattle.std.specs.Prelude.{◌≡◌, ℕ, ◌+◌, ◌<◌, ◌≤◌, Bool, true, false, cond, List, [], ◌∷◌, Some, None, map, length, take, drop, nat_lt, refl}
use Rattle.std.proofs.Common.{ap, sym, ◌∙◌, arith}
use Rattle.std.proofs.Math.ListN.{get_or}
use Rattle.std.proofs.lemmas.Bool.Decides.{nat_tests}
use Rattle.std.proofs.lemmas.List.{map-append, take-append-drop}
use Rattle.std.proofs.lemmas.List.Sums.{fold-append}
use Rattle.link_types.proofs.Lists.{map-more}
use Rattle.link_model.specs.declared.limits.TheConstants.{MAX_MEMORY}
use Rattle.link_model.specs.Parts as rules
use Rattle.link_model.specs.Rows.{aligned, end_of_parts}
use Rattle.seg_parts.specs.declared.parts.Part.{Part}
use Rattle.seg_parts.specs.Parts.{shown}
use Rattle.seg_parts.specs.Offsets.{limited}

pub end_from : (at : ℕ) (ps : List rules.Part) → at ≤ end_of_parts at ps
end_from at [] = omega arith
end_from at (p ∷ ps) = let rest = end_from (aligned at p + p.len) ps in omega (arith, rest)

past_by : (a : ℕ) (b : Bool) → None ≡ cond b None (Some a) → b ≡ true
past_by a true e = refl
past_by a false e = cc

none_by : (a : ℕ) (b : Bool) → b ≡ true → None ≡ cond b None (Some a)
none_by a true e = refl
none_by a false e = cc

further : (m a b : ℕ) → nat_lt m a ≡ true → a ≤ b → nat_lt m b ≡ true
further m a b e h = grind (arith, nat_tests)

pub stays_past : (a b : ℕ) → None ≡ limited a → a ≤ b → None ≡ limited b
stays_past a b e h = none_by b (nat_lt MAX_MEMORY b) (further MAX_MEMORY a b (past_by a (nat_lt MAX_MEMORY a) e) h)

pub past_all : (at e : ℕ) (xs : List Part) (i : ℕ) (x : Part) → i < length xs → x ≡ get_or xs i x → e ≡ end_of_parts at (map shown (take i xs)) →
    None ≡ limited (aligned e (shown x) + x.len) → None ≡ limited (end_of_parts at (map shown xs))
past_all at e xs i x there is end past =
    let step : ℕ → rules.Part → ℕ = λ n p. aligned n p + p.len in
    let front : end_of_parts at (map shown (take (i + 1) xs)) ≡ aligned e (shown x) + x.len =
    ap (end_of_parts at) (map-more shown xs i x there is) ∙ fold-append step at (map shown (take i xs)) (shown x ∷ [])
    ∙ ap (λ (n : ℕ). aligned n (shown x) + x.len) (sym end) in
    let all : end_of_parts at (map shown xs) ≡ end_of_parts (aligned e (shown x) + x.len) (map shown (drop (i + 1) xs)) =
    ap (λ (t : List Part). end_of_parts at (map shown t)) (sym (take-append-drop (i + 1) xs))
    ∙ ap (end_of_parts at) (map-append shown (take (i + 1) xs) (drop (i + 1) xs))
    ∙ fold-append step at (map shown (take (i + 1) xs)) (map shown (drop (i + 1) xs))
    ∙ ap (λ (n : ℕ). end_of_parts n (map shown (drop (i + 1) xs))) front in
    stays_past (aligned e (shown x) + x.len) (end_of_parts at (map shown xs)) past
    (let rest = end_from (aligned e (shown x) + x.len) (map shown (drop (i + 1) xs)) in omega (arith, rest, all))
