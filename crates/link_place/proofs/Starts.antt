-- The first start address, and its place.
use Rattle.std.specs.Prelude.{◌≡◌, ℕ, ◌+◌, ◌<◌, ◌≤◌, List, ◌∷◌, Option, Some, None, map, drop, length, is_some}
use Rattle.std.specs.Option.{option_map, option_and_then, option_or}
use Rattle.std.specs.List.{enumerate_from}
use Rattle.std.specs.Borrow.{Bor}
use Rattle.std.proofs.Common.{ap, sym, ◌∙◌, arith, get_or, cond}
use Rattle.std.proofs.lemmas.List.{drop_more, drop_all}
use Rattle.obj_types.specs.declared.object.ObjModule.{ObjModule}
use Rattle.obj_types.specs.declared.object.StartAt.{StartAt}
use Rattle.link_model.specs.declared.refusals.FixRefusal.TheVariants.{StartOutside}
use Rattle.link_model.specs.Words.{first_of}
use Rattle.link_model.specs.Link.{Link}
use Rattle.link_model.specs.Goals.{Target}
use Rattle.link_model.specs.Start as rules
use Rattle.link_types.specs.Symbols.{SymbolTable}
use Rattle.link_types.specs.declared.places.Places.{Places}
use Rattle.link_types.specs.Places.{ArePlaces}
use Rattle.link_place.specs.Meanings.{HasMeanings}
use Rattle.link_place.specs.Fixed.{target_at}
use Rattle.link_place.proofs.Located.{target_is}

-- The first start address from place i on.
abbrev pub first_from : List (Bor ObjModule) → ℕ → Option (ℕ × StartAt)
first_from ms i = first_of (map rules.start_of (enumerate_from (1 + i) (map (λ m. m.now) (drop i ms))))

begins : (ms : List (Bor ObjModule)) (i : ℕ) (x : Bor ObjModule) → i < length ms → x ≡ get_or ms i x → first_from ms i ≡ option_or (option_map (λ s. (1 + i, s)) x.now.start) (first_from ms (i + 1))
begins ms i x h is =
    let front : drop i ms ≡ x ∷ drop (i + 1) ms = drop_more ms i x h ∙ ap (λ (y : Bor ObjModule). y ∷ drop (i + 1) ms) (sym is) in
    let next : 1 + i + 1 ≡ 1 + (i + 1) = omega arith in
    ap (λ (xs : List (Bor ObjModule)). first_of (map rules.start_of (enumerate_from (1 + i) (map (λ m. m.now) xs)))) front
    ∙ ap (λ (k : ℕ). option_or (option_map (λ s. (1 + i, s)) x.now.start) (first_of (map rules.start_of (enumerate_from k (map (λ m. m.now) (drop (i + 1) ms)))))) next

pub starts-more : (ms : List (Bor ObjModule)) (i : ℕ) (x : Bor ObjModule) (r : Option (ℕ × StartAt)) → i < length ms → x ≡ get_or ms i x → first_from ms i ≡ r → x.now.start ≡ None → first_from ms (i + 1) ≡ r
starts-more ms i x r h is was none =
    sym (begins ms i x h is ∙ ap (λ (o : Option StartAt). option_or (option_map (λ s. (1 + i, s)) o) (first_from ms (i + 1))) none) ∙ was

pub starts-here : (ms : List (Bor ObjModule)) (i k : ℕ) (x : Bor ObjModule) (s : StartAt) (r : Option (ℕ × StartAt)) → i < length ms → x ≡ get_or ms i x → first_from ms i ≡ r → x.now.start ≡ Some s → k ≡ i + 1 → Some (k, s) ≡ r
starts-here ms i k x s r h is was some counted =
    let place : k ≡ 1 + i = omega (arith, counted) in
    ap (λ (n : ℕ). Some (n, s)) place
    ∙ sym (begins ms i x h is ∙ ap (λ (o : Option StartAt). option_or (option_map (λ t. (1 + i, t)) o) (first_from ms (i + 1))) some) ∙ was

pub starts-none : (ms : List (Bor ObjModule)) (i : ℕ) (r : Option (ℕ × StartAt)) → length ms ≤ i → first_from ms i ≡ r → None ≡ r
starts-none ms i r h was =
    sym (ap (λ (xs : List (Bor ObjModule)). first_of (map rules.start_of (enumerate_from (1 + i) (map (λ m. m.now) xs)))) (drop_all i ms h)) ∙ was

-- ---- its place

pub place-is : (l : Link) (p : Places) (s : SymbolTable) (n : ℕ) (start : StartAt) (o : Option Target) → ArePlaces l p → HasMeanings l s → o ≡ target_at p s n start.goal → option_and_then (rules.start_place l start) o ≡ rules.place_of_start l (n, start)
place-is l p s n start o are means is = ap (option_and_then (rules.start_place l start)) (is ∙ target_is l p s n start.goal are means)

pub told-none : (l : Link) (first : Option (ℕ × StartAt)) → first ≡ rules.first_start l → first ≡ None → (None ≡ rules.Start l) × (rules.start_outside l ≡ None)
unfolding rules.Start rules.start_outside
told-none l first is none =
    let e : rules.first_start l ≡ None = sym is ∙ none in
    (sym (ap (option_and_then (rules.place_of_start l)) e), ap (option_and_then (λ q. cond (is_some (rules.place_of_start l q)) None (Some (StartOutside q.0)))) e)

pub told-place : (l : Link) (first : Option (ℕ × StartAt)) (q : ℕ × StartAt) (place : ℕ × ℕ) → first ≡ rules.first_start l → first ≡ Some q → Some place ≡ rules.place_of_start l q → (Some place ≡ rules.Start l) × (rules.start_outside l ≡ None)
unfolding rules.Start rules.start_outside
told-place l first q place is some at =
    let e : rules.first_start l ≡ Some q = sym is ∙ some in (
      at ∙ sym (ap (option_and_then (rules.place_of_start l)) e),
      ap (option_and_then (λ q. cond (is_some (rules.place_of_start l q)) None (Some (StartOutside q.0)))) e ∙ ap (λ (o : Option (ℕ × ℕ)). cond (is_some o) None (Some (StartOutside q.0))) (sym at),
    )

pub told-outside : (l : Link) (first : Option (ℕ × StartAt)) (q : ℕ × StartAt) → first ≡ rules.first_start l → first ≡ Some q → None ≡ rules.place_of_start l q → rules.start_outside l ≡ Some (StartOutside q.0)
unfolding rules.start_outside
told-outside l first q is some at =
    let e : rules.first_start l ≡ Some q = sym is ∙ some in
    ap (option_and_then (λ q. cond (is_some (rules.place_of_start l q)) None (Some (StartOutside q.0)))) e ∙ ap (λ (o : Option (ℕ × ℕ)). cond (is_some o) None (Some (StartOutside q.0))) (sym at)
