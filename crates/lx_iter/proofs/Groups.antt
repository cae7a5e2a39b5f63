-- One group after another, and the page that they give.
use Rattle.std.proofs.Common.{◌≡◌, ℕ, ◌-◌, ◌≤◌, ◌<◌, List, [], ◌∷◌, ◌++◌, length, take, drop, replicate, Some, None, Result, Ok, Err, refl, sym, ap, subst, ◌∙◌, append_assoc, append-nil, arith, length-drop}
use Rattle.std.specs.Prelude.{IsErrAnd}
use Rattle.std.proofs.lemmas.List.{drop_all, length-take-le}
use borrow.Rule.Slice.PartMut.{put_mid}
use Rattle.lx_bytes.specs.Cursor.{Cursor}
use Rattle.lx_types.specs.declared.refusal.LxRefusal.{LxRefusal}
use Rattle.lx_types.specs.declared.object.TheConstants.{PAGE_SIZE}
use Rattle.lx_model.specs.Reading.{◌>>=◌, Many, many}
use Rattle.lx_model.specs.Iterated.{Group, group_data, groups_data, group_at, expansion}
use Rattle.lx_model.specs.Packed.{filled}
use Rattle.lx_model.proofs.Many.{many_ends, many_more, many_fails}
use Rattle.lx_model.proofs.Shortening.{group_shortens}
use Rattle.lx_iter.specs.Expansion.{refusal, after_given, Expands}
use Rattle.lx_iter.specs.declared.refusal.IterRefusal.{IterRefusal}

pub given_none : (n : ℕ) (c d : Cursor) (before : List ℕ) (all : Result (List ℕ) LxRefusal) → group_at n c ≡ Ok (None, d) → after_given before (many group_at n c) ≡ all → all ≡ Ok before
given_none n c d before all e kept = sym kept ∙ ap (after_given before) (many_ends group_at n c d e) ∙ ap (λ (xs : List ℕ). Ok xs) (append-nil before)

pub given_wrong : (n : ℕ) (c : Cursor) (e : LxRefusal) (before : List ℕ) (all : Result (List ℕ) LxRefusal) → group_at n c ≡ Err e → after_given before (many group_at n c) ≡ all → all ≡ Err e
given_wrong n c e before all is kept = sym kept ∙ ap (after_given before) (many_fails group_at n c e is)

given_front : (before : List ℕ) (g : Group) (rest : Many Group) → after_given (before ++ group_data g) rest ≡ after_given before (record { items = g ∷ rest.items; end = rest.end })
given_front before g rest = by_end rest.end
  where
    by_end : (end : Result Cursor LxRefusal) → after_given (before ++ group_data g) (record { items = rest.items; end = end }) ≡ after_given before (record { items = g ∷ rest.items; end = end })
    by_end (Ok d) = ap (λ (xs : List ℕ). Ok xs) (append_assoc before (group_data g) (groups_data rest.items))
    by_end (Err e) = refl

pub given_more : (n m : ℕ) (c d : Cursor) (g : Group) (before : List ℕ) (all : Result (List ℕ) LxRefusal) → group_at n c ≡ Ok (Some (g, m), d) → after_given before (many group_at n c) ≡ all →
    after_given (before ++ group_data g) (many group_at m d) ≡ all
given_more n m c d g before all e kept =
    given_front before g (many group_at m d) ∙ sym (ap (after_given before) (many_more group_at group_shortens n c d (g, m) e)) ∙ kept

pub shorter : (n m : ℕ) (c d : Cursor) (g : Group) → group_at n c ≡ Ok (Some (g, m), d) → length d.left < length c.left
shorter n m c d g e = group_shortens n c d (g, m) e

pub said : (answer : Result (Unit {0}) IterRefusal) (bytes page : List ℕ) (r : IterRefusal) → IsErrAnd answer (λ e. e ≡ r) → expansion bytes ≡ Err (refusal r) → Expands answer bytes page
said (Ok x) bytes page r is e = absurd is
said (Err f) bytes page r is e = subst (λ (g : IterRefusal). Expands (Err g) bytes page) (sym is) e

-- zeros after what is given
pub full : (given k : ℕ) (into ys bytes : List ℕ) → length into ≡ PAGE_SIZE → given ≤ PAGE_SIZE → length into - given ≤ k → ys ≡ replicate (PAGE_SIZE - given) 0 → expansion bytes ≡ Ok (take given into) →
    (expansion bytes >>= λ given. Ok (filled given)) ≡ Ok (put_mid given k into ys)
full given k into ys bytes page room rest zeros e =
    let size : length (take given into) ≡ given = length-take-le given into (omega arith) in
    let nothing : drop k (drop given into) ≡ [] = drop_all k (drop given into) (omega (arith, length-drop given into)) in
    let end : ys ++ drop k (drop given into) ≡ replicate (PAGE_SIZE - given) 0 = ap (λ (xs : List ℕ). ys ++ xs) nothing ∙ append-nil ys ∙ zeros in
    ap (λ (r : Result (List ℕ) LxRefusal). r >>= λ given. Ok (filled given)) e
    ∙ ap (λ (n : ℕ). Ok (take given into ++ replicate (PAGE_SIZE - n) 0)) size
    ∙ ap (λ (xs : List ℕ). Ok (take given into ++ xs)) (sym end)
