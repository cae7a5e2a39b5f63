-- An input has a link.
use Rattle.std.proofs.Common.{◌≡◌, ℕ, zero, suc, ◌<◌, List, [], ◌∷◌, ◌++◌, refl, arith}
use Rattle.std.specs.Prelude.{Option, None, Some}
use Rattle.obj_types.specs.declared.input.LinkInput.{LinkInput}
use Rattle.link_model.specs.declared.symbols.Pick.{Pick}
use Rattle.link_model.specs.Choosing.{Chosen, next_pick, object_picks}
use Rattle.link_model.specs.Kept.{Kept}
use Rattle.link_model.specs.Link.{Link, IsLinkOf, kept_link}
use Rattle.link_model.proofs.Growing.{IsBegun, begun, grown, fewer, unpicked}

pub record AreChosen (input : LinkInput) : Type 0 where
  pub picks : List Pick
  pub chosen : Chosen input picks

ended : (input : LinkInput) (picks : List Pick) → IsBegun input picks → next_pick input picks ≡ None → AreChosen input
ended input picks h is = record { picks = picks; chosen = record { begins = h.begins; grows = h.grows; ends = is } }

goes_on : (n : ℕ) (input : LinkInput) (picks : List Pick) (next : Option Pick) → IsBegun input picks → unpicked input picks < suc n → next_pick input picks ≡ next
    → ((more : List Pick) → IsBegun input more → unpicked input more < n → AreChosen input) → AreChosen input
goes_on n input picks None h left is rest = ended input picks h is
goes_on n input picks (Some pick) h left is rest =
    let less = fewer input picks pick is in
    rest (picks ++ pick ∷ []) (grown input picks pick h is) (omega (arith, less, left))

chosen_from : (n : ℕ) (input : LinkInput) (picks : List Pick) → IsBegun input picks → unpicked input picks < n → AreChosen input
chosen_from zero input picks h left = absurd (omega (arith, left))
chosen_from (suc n) input picks h left = goes_on n input picks (next_pick input picks) h left refl (λ more k less. chosen_from n input more k less)

chosen : (input : LinkInput) → AreChosen input
chosen input = chosen_from (suc (unpicked input (object_picks input))) input (object_picks input) (begun input (object_picks input) refl) (omega arith)

pub record HasLink (input : LinkInput) : Type 0 where
  pub link : Link
  pub of_input : IsLinkOf input link

pub some_link : (input : LinkInput) → HasLink input
some_link input =
    let found = chosen (Kept input) in
    record { link = kept_link input found.picks; of_input = record { picks = found.picks; chosen = found.chosen; same = refl } }
