-- One more item is written.
use Rattle.std.proofs.Common.{◌≡◌, ℕ, ◌+◌, ◌<◌, List, [], ◌∷◌, ◌++◌, length, map, take, get_or, ap, sym, subst, ◌∙◌}
use Rattle.std.specs.List.{All}
use Rattle.std.proofs.lemmas.List.{take_more, map-append, flat_map_more}
use Rattle.def_model.specs.Lexemes.{Lexeme}
use Rattle.def_write.specs.Writing.{item_text, items_text}
use Rattle.def_file.proofs.WholeLaws.{all_pushed}

one-more : {X : Type 0} (xs : List X) (i : ℕ) (x : X) → i < length xs → x ≡ get_or xs i x → take (i + 1) xs ≡ take i xs ++ x ∷ []
one-more xs i x within is = take_more xs i x within ∙ ap (λ y. take i xs ++ y ∷ []) (sym is)

pub written_more : {X : Type 0} (f : X → List Lexeme) (first out next : List ℕ) (xs : List X) (i : ℕ) (x : X) → i < length xs → x ≡ get_or xs i x
    → out ≡ first ++ items_text (map f (take i xs)) → next ≡ out ++ item_text (f x) → next ≡ first ++ items_text (map f (take (i + 1) xs))
written_more f first out next xs i x within is before added =
    added
    ∙ ap (λ bs. bs ++ item_text (f x)) before
    ∙ flat_map_more item_text first (map f (take i xs)) (f x)
    ∙ ap (λ items. first ++ items_text items) (sym (map-append f (take i xs) (x ∷ [])) ∙ ap (λ ys. map f ys) (sym (one-more xs i x within is)))

pub all_more : {X : Type 0} (P : X → Type 0) (xs : List X) (i : ℕ) (x : X) → i < length xs → x ≡ get_or xs i x → All P (take i xs) → P x → All P (take (i + 1) xs)
all_more P xs i x within is each here = subst (All P) (sym (one-more xs i x within is)) (all_pushed P (take i xs) x each here)
