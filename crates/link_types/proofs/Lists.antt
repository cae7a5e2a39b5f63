-- Lists that grow by one item, and their first items by a key.
use Rattle.std.specs.Prelude.{◌≡◌, ℕ, ◌+◌, ◌<◌, Bool, true, false, cond, List, [], ◌∷◌, ◌++◌, Option, Some, None, map, length, take, drop, filter, find, is_none, refl}
use Rattle.std.specs.Option.{option_or}
use Rattle.std.proofs.lemmas.List.{take-append-drop}
use Rattle.std.proofs.lemmas.List.Folds.{find-append}
use Rattle.std.specs.List.{enumerate_from, flat_map}
use Rattle.std.proofs.Common.{ap, sym, ◌∙◌, arith, append_assoc}
use Rattle.std.specs.Borrow.{Bor}
use Rattle.std.proofs.lemmas.List.{append-nil, take_more, map-append, length-map}
use Rattle.std.proofs.Math.ListN.{get_or}
use Rattle.std.proofs.lemmas.List.{length-take-le}
use Rattle.obj_types.specs.declared.object.ObjModule.{ObjModule}
use Rattle.obj_types.specs.declared.input.LinkInput.{LinkInput}
use Rattle.link_model.specs.Link.{of_modules}
use Rattle.std.specs.Prelude.{not, bytes_eq}
use Rattle.link_model.specs.Appearance.{firsts}
use Rattle.link_types.specs.Links.{link_with}

-- What a function gives of each numbered item, with one more.
pub numbered-push : {X A : Type 0} (f : ℕ → X → List A) (s : ℕ) (xs : List X) (x : X) → flat_map (λ q. f q.0 q.1) (enumerate_from s (xs ++ x ∷ [])) ≡ flat_map (λ q. f q.0 q.1) (enumerate_from s xs) ++ f (s + length xs) x
numbered-push f s [] x = append-nil (f s x) ∙ ap (λ (n : ℕ). f n x) (omega arith)
numbered-push {X} {A} f s (y ∷ ys) x =
    ap (λ (t : List A). f s y ++ t) (numbered-push f (s + 1) ys x)
    ∙ sym (append_assoc (f s y) (flat_map (λ q. f q.0 q.1) (enumerate_from (s + 1) ys)) (f (s + 1 + length ys) x))
    ∙ ap (λ (n : ℕ). (f s y ++ flat_map (λ q. f q.0 q.1) (enumerate_from (s + 1) ys)) ++ f n x) (omega arith)

-- What a function gives of each of the first modules, with one more.
pub modules-push : {A : Type 0} (f : ℕ → ObjModule → List A) (input : LinkInput) (mods : List (Bor ObjModule)) (i : ℕ) (m : Bor ObjModule) → i < length mods → m ≡ get_or mods i m →
    of_modules (link_with input (take (i + 1) mods)) f ≡ of_modules (link_with input (take i mods)) f ++ f (i + 1) m.now
modules-push {A} f input mods i m there is =
    let now : Bor ObjModule → ObjModule = λ b. b.now in
    let len : length (map now (take i mods)) ≡ i = length-map (take i mods) now ∙ length-take-le i mods (omega arith) in
    ap (λ (ms : List (Bor ObjModule)). flat_map (λ q. f q.0 q.1) (enumerate_from 1 (map now ms))) (take_more mods i m there ∙ ap (λ (b : Bor ObjModule). take i mods ++ b ∷ []) (sym is))
    ∙ ap (λ (ms : List ObjModule). flat_map (λ q. f q.0 q.1) (enumerate_from 1 ms)) (map-append now (take i mods) (m ∷ []))
    ∙ numbered-push f 1 (map now (take i mods)) m.now
    ∙ ap (λ (n : ℕ). flat_map (λ q. f q.0 q.1) (enumerate_from 1 (map now (take i mods))) ++ f n m.now) (omega arith)

-- ---- keys

map-filter : {X Y : Type 0} (f : X → Y) (p : Y → Bool) (xs : List X) → map f (filter (λ x. p (f x)) xs) ≡ filter p (map f xs)
map-filter f p [] = refl
map-filter {X} {Y} f p (x ∷ xs) = kept (p (f x)) (filter (λ z. p (f z)) xs) ∙ ap (λ (t : List Y). cond (p (f x)) (f x ∷ t) t) (map-filter f p xs)
  where
    kept : (b : Bool) (t : List X) → map f (cond b (x ∷ t) t) ≡ cond b (f x ∷ map f t) (map f t)
    kept true t = refl
    kept false t = refl

pub firsts-keys : {X Y : Type 0} (f : X → Y) (same : Y → Y → Bool) (xs : List X) → map f (firsts (λ a b. same (f a) (f b)) xs) ≡ firsts same (map f xs)
firsts-keys f same [] = refl
firsts-keys {X} {Y} f same (x ∷ xs) =
    ap (λ (t : List Y). f x ∷ t) (map-filter f (λ y. not (same (f x) y)) (firsts (λ a b. same (f a) (f b)) xs)
    ∙ ap (filter (λ y. not (same (f x) y))) (firsts-keys f same xs))

-- ---- one more item of a loop

pub map-more : {X Y : Type 0} (f : X → Y) (xs : List X) (i : ℕ) (x : X) → i < length xs → x ≡ get_or xs i x → map f (take (i + 1) xs) ≡ map f (take i xs) ++ f x ∷ []
map-more {X} {Y} f xs i x there is =
    ap (map f) (take_more xs i x there ∙ ap (λ (y : X). take i xs ++ y ∷ []) (sym is)) ∙ map-append f (take i xs) (x ∷ [])
