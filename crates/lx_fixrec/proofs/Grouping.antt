-- The record that a source begins, from the offsets of the sources that share what it has.
use Rattle.std.proofs.Common.{◌≡◌, ℕ, zero, suc, Bool, true, false, cond, eqb, ◌&&◌, not, List, [], ◌∷◌, ◌++◌, map, take, refl, sym, ap, ◌∙◌}
use Rattle.std.proofs.lemmas.List.{length-map}
use Rattle.std.specs.Prelude.{filter, nat_lt}
use Rattle.std.proofs.lemmas.List.Elements.{filter_agree}
use Rattle.std.proofs.Math.Bool.{and-false}
use Rattle.std.proofs.lemmas.Bool.{and_left}
use Rattle.lx_types.specs.declared.fix.Fix.{Fix}
use Rattle.lx_model.specs.Module.{same_target}
use Rattle.lx_model.specs.Sources.{code_of}
use Rattle.lx_model.specs.RecordSpelling.{record_spelling}
use Rattle.lx_model.specs.JoinedRecords.{crosses, same_alias, joins, begins, Listed, listed_after, record_of}
use Rattle.lx_fixrec.specs.Lists.{shared_of, is_with, offsets_with}
use Rattle.lx_fixrec.specs.Writes.{record_with, spelled, begun}

grouped : (a b c d e g : Bool) → e ≡ true → (a && b && c && d && e && g) ≡ ((a && (b && (c && d))) && g)
grouped false b c d e g h = refl
grouped true false c d e g h = refl
grouped true true false d e g h = refl
grouped true true true false e g h = refl
grouped true true true true e g h = rw h refl

-- a source within its page joins those that share what it has
pub joins_with : (f g : Fix) → crosses f ≡ false → joins f g ≡ is_with (shared_of f) g
joins_with f g within =
    grouped (eqb (code_of f.source) (code_of g.source)) (same_alias f.alias g.alias) (same_target f.target g.target) (eqb f.additive g.additive) (not (crosses f)) (not (crosses g)) (ap not within)

-- one that crosses an end of its page joins none
pub joins_none : (f g : Fix) → crosses f ≡ true → joins f g ≡ false
joins_none f g crossing =
    let four = eqb (code_of f.source) (code_of g.source) && same_alias f.alias g.alias && same_target f.target g.target && eqb f.additive g.additive in
    and_left (four && not (crosses f)) (not (crosses g)) (ap (λ (b : Bool). four && not b) crossing ∙ and-false four)

filter_none : {X : Type 0} (p : X → Bool) → ((x : X) → p x ≡ false) → (xs : List X) → filter p xs ≡ []
filter_none p none [] = refl
filter_none p none (x ∷ xs) = rw (none x) (filter_none p none xs)

pub joined_offsets : (f : Fix) (fs : List Fix) → crosses f ≡ false → map (λ g. g.offset) (filter (joins f) fs) ≡ offsets_with (shared_of f) fs
joined_offsets f fs within = ap (map (λ g. g.offset)) (filter_agree (joins f) (is_with (shared_of f)) (λ g. joins_with f g within) fs)

pub joined_none : (f : Fix) (fs : List Fix) → crosses f ≡ true → filter (joins f) fs ≡ []
joined_none f fs crossing = filter_none (joins f) (λ g. joins_none f g crossing) fs

-- ---- the offsets of a record are all of a list's records

pub take_map : {X Y : Type 0} (f : X → Y) (n : ℕ) (xs : List X) → map f (take n xs) ≡ take n (map f xs)
take_map f zero xs = refl
take_map f (suc n) [] = refl
take_map f (suc n) (x ∷ xs) = ap (λ ys. f x ∷ ys) (take_map f n xs)

pub record_is : (f : Fix) (gs : List Fix) → record_of (record { first = f; others = gs }) ≡ record_with f (map (λ g. g.offset) gs)
record_is f gs = ap (λ n. record {
  kind = record { source = f.source; alias = f.alias; listed = nat_lt 0 n };
  sizes = (record_with f []).sizes;
  target = f.target;
  additive = f.additive;
  offsets = f.offset ∷ map (λ g. g.offset) gs;
}) (sym (length-map gs (λ g. g.offset)))

-- ---- one source more

pub spelled_more : (earlier : List Fix) (f : Fix) (others : List Fix) → spelled (listed_after earlier (f ∷ others)) ≡ begun earlier f others ++ spelled (listed_after (earlier ++ f ∷ []) others)
spelled_more earlier f others = by (begins earlier f)
  where
    rest : List Listed
    rest = listed_after (earlier ++ f ∷ []) others

    one : Listed
    one = record { first = f; others = take 254 (filter (joins f) others) }

    by : (b : Bool) → spelled (cond b (one ∷ rest) rest) ≡ cond b (record_spelling (record_of one)) [] ++ spelled rest
    by true = refl
    by false = refl
