-- Whether the COMDAT of a name has begun.
use Rattle.std.proofs.Common.{◌≡◌, ℕ, suc, ◌+◌, Bool, List, [], ◌∷◌, length, refl, sym, ap, ◌∙◌, arith, inl, inr}
use Rattle.std.specs.Prelude.{bytes_eq, nat_lt}
use Rattle.std.specs.List.{list_any, position_or_len}
use Rattle.std.proofs.lemmas.Bool.{cases_lt, lt-ltb, le-ltb}
use Rattle.std.proofs.lemmas.List.{length-map}
use Rattle.obj_types.specs.declared.parts.BegunComdat.{BegunComdat}
use Rattle.obj_types.specs.declared.parts.ObjParts.{ObjParts}
use Rattle.obj_types.specs.declared.parts.TheConstants.{COMDAT_BASE}
use Rattle.omf_model.specs.Comdat.{ComDat}
use Rattle.omf_model.specs.Items.{begun_names, name_with}
use Rattle.omf_model.proofs.DataLaws.{bool_cases}
use Rattle.omf_comdat.specs.declared.record.Turn.{Turn}
use Rattle.omf_comdat.specs.Turns.{IsTurn}

is_there : {X : Type 0} (test : X → Bool) (xs : List X) → list_any test xs ≡ nat_lt (position_or_len test xs) (length xs)
is_there test [] = refl
is_there test (x ∷ xs) =
    elim (bool_cases (test x)) [
      | inl is ↦ rw (is, lt-ltb 0 (suc (length xs)) (omega arith)) refl
      | inr isnt ↦ rw isnt (is_there test xs ∙ one_more (position_or_len test xs) (length xs))
    ]
  where
    one_more : (m n : ℕ) → nat_lt m n ≡ nat_lt (1 + m) (suc n)
    one_more m n =
        elim (cases_lt m n) [
          | inl lt ↦ rw (lt-ltb m n lt, lt-ltb (1 + m) (suc n) (omega (arith, lt))) refl
          | inr le ↦ rw (le-ltb m n le, le-ltb (1 + m) (suc n) (omega (arith, le))) refl
        ]

pub turn_is : (p : ObjParts) (d : ComDat) (turn : Turn) (place : ℕ) → place ≡ position_or_len (bytes_eq (name_with p.names d.name)) (begun_names p.comdats) → turn.number ≡ COMDAT_BASE + 1 + place → turn.has_begun ≡ nat_lt place (length p.comdats) → IsTurn p d turn
turn_is p d turn place at number begun =
    let test : List ℕ → Bool = bytes_eq (name_with p.names d.name) in
    record {
      number = number ∙ ap (λ (n : ℕ). COMDAT_BASE + 1 + n) at;
      begun =
          begun
          ∙ (λ i. nat_lt (at i) (sym (length-map p.comdats (λ (b : BegunComdat). b.name)) i))
          ∙ sym (is_there test (begun_names p.comdats));
    }
