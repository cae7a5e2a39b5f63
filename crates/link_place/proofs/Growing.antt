-- One more fixup of a module, and one more module.
use Rattle.std.specs.Prelude.{◌≡◌, ℕ, ◌+◌, ◌<◌, List, [], ◌∷◌, ◌++◌, Option, map, take, length, option_to_list, refl}
use Rattle.std.specs.List.{filter_map, flat_map, enumerate_from}
use Rattle.std.specs.Borrow.{Bor}
use Rattle.std.proofs.Common.{ap, sym, ◌∙◌, arith, get_or, append_assoc}
use Rattle.std.proofs.lemmas.List.{take_more, map-append, length-map, length-take-le}
use Rattle.std.proofs.lemmas.List.Elements.{filter_map-append}
use Rattle.link_types.proofs.Lists.{numbered-push}
use Rattle.link_fix.proofs.PagedFixes.{one_option}
use Rattle.obj_types.specs.declared.object.FixAt.{FixAt}
use Rattle.obj_types.specs.declared.object.ObjModule.{ObjModule}
use Rattle.link_model.specs.Fixups.{Fixup}
use Rattle.link_fix.specs.Bare.{bare}

-- What is left of one more fixup of a module.
pub fix-more :
    (F : FixAt → Option Fixup) (xs : List FixAt) (i : ℕ) (d : FixAt) (start before new : List Fixup) → i < length xs
    → before ≡ start ++ map bare (filter_map F (take i xs)) → new ≡ before ++ map bare (option_to_list (F (get_or xs i d)))
    → new ≡ start ++ map bare (filter_map F (take (i + 1) xs))
fix-more F xs i d start before new h was made =
    let f : FixAt = get_or xs i d in
    let more : filter_map F (take i xs) ++ option_to_list (F f) ≡ filter_map F (take (i + 1) xs) =
    ap (λ (qs : List Fixup). filter_map F (take i xs) ++ qs) (sym (one_option (F f))) ∙ sym (filter_map-append F (take i xs) (f ∷ [])) ∙ ap (filter_map F) (sym (take_more xs i d h)) in
    made
    ∙ ap (λ (qs : List Fixup). qs ++ map bare (option_to_list (F f))) was
    ∙ append_assoc start (map bare (filter_map F (take i xs))) (map bare (option_to_list (F f)))
    ∙ ap (λ (qs : List Fixup). start ++ qs) (sym (map-append bare (filter_map F (take i xs)) (option_to_list (F f))) ∙ ap (map bare) more)

pub module-more :
    {Y : Type 0} (G : ℕ → ObjModule → List Y) (ms : List (Bor ObjModule)) (i k : ℕ) (x : Bor ObjModule) (before new : List Y) → i < length ms → x ≡ get_or ms i x → k ≡ i + 1
    → before ≡ flat_map (λ q. G q.0 q.1) (enumerate_from 1 (map (λ m. m.now) (take i ms))) → new ≡ before ++ G k x.now
    → new ≡ flat_map (λ q. G q.0 q.1) (enumerate_from 1 (map (λ m. m.now) (take (i + 1) ms)))
module-more {Y} G ms i k x before new h is counted was made =
    let now : Bor ObjModule → ObjModule = λ b. b.now in
    let len : length (map now (take i ms)) ≡ i = length-map (take i ms) now ∙ length-take-le i ms (omega arith) in
    let number : k ≡ 1 + length (map now (take i ms)) = omega (arith, len, counted) in
    let more : map now (take i ms) ++ x.now ∷ [] ≡ map now (take (i + 1) ms) = sym (map-append now (take i ms) (x ∷ [])) ∙ ap (map now) (ap (λ (b : Bor ObjModule). take i ms ++ b ∷ []) is ∙ sym (take_more ms i x h)) in
    made
    ∙ ap (λ (qs : List Y). qs ++ G k x.now) was
    ∙ ap (λ (n : ℕ). flat_map (λ q. G q.0 q.1) (enumerate_from 1 (map now (take i ms))) ++ G n x.now) number
    ∙ sym (numbered-push G 1 (map now (take i ms)) x.now)
    ∙ ap (λ (xs : List ObjModule). flat_map (λ q. G q.0 q.1) (enumerate_from 1 xs)) more

-- What a function gives of the items of a list, with one more.
pub picked-more : {X Y : Type 0} (f : X → Option Y) (base before new : List Y) (xs : List X) (i : ℕ) (x : X) → i < length xs → x ≡ get_or xs i x → before ≡ base ++ filter_map f (take i xs) → new ≡ before ++ option_to_list (f x)
    → new ≡ base ++ filter_map f (take (i + 1) xs)
picked-more {X} {Y} f base before new xs i x h is was made =
    let more : take i xs ++ x ∷ [] ≡ take (i + 1) xs = ap (λ (y : X). take i xs ++ y ∷ []) is ∙ sym (take_more xs i x h) in
    made
    ∙ ap (λ (ys : List Y). ys ++ option_to_list (f x)) was
    ∙ append_assoc base (filter_map f (take i xs)) (option_to_list (f x))
    ∙ ap (λ (ys : List Y). base ++ ys) (ap (λ (ys : List Y). filter_map f (take i xs) ++ ys) (sym (one_option (f x))) ∙ sym (filter_map-append f (take i xs) (x ∷ [])) ∙ ap (filter_map f) more)

pub flat-mapped : {X Y Z : Type 0} (g : Y → Z) (f : X → List Y) (xs : List X) → flat_map (λ x. map g (f x)) xs ≡ map g (flat_map f xs)
flat-mapped g f [] = refl
flat-mapped {X} {Y} {Z} g f (x ∷ xs) =
    ap (λ (zs : List Z). map g (f x) ++ zs) (flat-mapped g f xs) ∙ sym (map-append g (f x) (flat_map f xs))
