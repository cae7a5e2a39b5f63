-- What is asked of each numbered module, in order: one more module, the first answer, and the externals of all.
use Rattle.std.specs.Prelude.{◌≡◌, ℕ, ◌+◌, ◌<◌, List, [], ◌∷◌, ◌++◌, Option, Some, None, map, length, take, drop, refl}
use Rattle.std.specs.Borrow.{Bor}
use Rattle.std.specs.List.{enumerate_from}
use Rattle.std.specs.Option.{option_or}
use Rattle.std.proofs.Common.{ap, sym, ◌∙◌, arith}
use Rattle.std.proofs.Math.ListN.{get_or}
use Rattle.std.proofs.lemmas.List.{length-map, length-take-le, map-append, take_more, take-append-drop}
use Rattle.obj_types.specs.declared.object.ObjModule.{ObjModule}
use Rattle.link_model.specs.Words.{first_of}

-- ---- lists with numbers

now_of : Bor ObjModule → ObjModule
now_of m = m.now

map-numbered : {X A : Type 0} (f : (ℕ × X) → A) (s : ℕ) (xs ys : List X) → map f (enumerate_from s (xs ++ ys)) ≡ map f (enumerate_from s xs) ++ map f (enumerate_from (s + length xs) ys)
map-numbered f s [] ys = ap (λ (n : ℕ). map f (enumerate_from n ys)) (omega arith)
map-numbered {X} {A} f s (x ∷ xs) ys =
    ap (λ (t : List A). f (s, x) ∷ t) (map-numbered f (s + 1) xs ys)
    ∙ ap (λ (n : ℕ). f (s, x) ∷ (map f (enumerate_from (s + 1) xs) ++ map f (enumerate_from n ys))) (omega arith)

-- One more module.
pub asked-more : {A : Type 0} (f : (ℕ × ObjModule) → A) (mods : List (Bor ObjModule)) (i : ℕ) (m : Bor ObjModule) → i < length mods → m ≡ get_or mods i m →
    map f (enumerate_from 1 (map (λ b. b.now) (take (i + 1) mods))) ≡ map f (enumerate_from 1 (map (λ b. b.now) (take i mods))) ++ f (i + 1, m.now) ∷ []
asked-more {A} f mods i m below is =
    let now : Bor ObjModule → ObjModule = λ b. b.now in
    let before : List ObjModule = map now (take i mods) in
    let len : length before ≡ i = length-map (take i mods) now ∙ length-take-le i mods (omega arith) in
    ap (λ (ms : List (Bor ObjModule)). map f (enumerate_from 1 (map now ms))) (take_more mods i m below ∙ ap (λ (b : Bor ObjModule). take i mods ++ b ∷ []) (sym is))
    ∙ ap (λ (ms : List ObjModule). map f (enumerate_from 1 ms)) (map-append now (take i mods) (m ∷ []))
    ∙ map-numbered f 1 before (m.now ∷ [])
    ∙ ap (λ (n : ℕ). map f (enumerate_from 1 before) ++ f (n, m.now) ∷ []) (omega (arith, len))

-- ---- the first answer

first-append : {A : Type 0} (xs ys : List (Option A)) → first_of (xs ++ ys) ≡ option_or (first_of xs) (first_of ys)
first-append [] ys = refl
first-append {A} (x ∷ xs) ys = ap (λ (o : Option A). option_or x o) (first-append xs ys) ∙ joined x (first_of xs) (first_of ys)
  where
    joined : (a b c : Option A) → option_or a (option_or b c) ≡ option_or (option_or a b) c
    joined None b c = refl
    joined (Some x) b c = refl

-- One more module that answers nothing.
pub none-more : {A : Type 0} (f : (ℕ × ObjModule) → Option A) (mods : List (Bor ObjModule)) (i : ℕ) (m : Bor ObjModule) → i < length mods → m ≡ get_or mods i m →
    first_of (map f (enumerate_from 1 (map (λ b. b.now) (take i mods)))) ≡ None → f (i + 1, m.now) ≡ None → first_of (map f (enumerate_from 1 (map (λ b. b.now) (take (i + 1) mods)))) ≡ None
none-more {A} f mods i m below is none answer =
    ap first_of (asked-more f mods i m below is)
    ∙ first-append (map f (enumerate_from 1 (map (λ b. b.now) (take i mods)))) (f (i + 1, m.now) ∷ [])
    ∙ ap (λ (o : Option A). option_or o (option_or (f (i + 1, m.now)) None)) none
    ∙ ap (λ (o : Option A). option_or o None) answer

-- The first module that answers.
pub first-here : {A : Type 0} (f : (ℕ × ObjModule) → Option A) (mods : List (Bor ObjModule)) (i : ℕ) (m : Bor ObjModule) (a : A) → i < length mods → m ≡ get_or mods i m →
    first_of (map f (enumerate_from 1 (map (λ b. b.now) (take i mods)))) ≡ None → f (i + 1, m.now) ≡ Some a → first_of (map f (enumerate_from 1 (map (λ b. b.now) mods))) ≡ Some a
first-here {A} f mods i m a below is none answer =
    let now : Bor ObjModule → ObjModule = λ b. b.now in
    let front : List ObjModule = map now (take (i + 1) mods) in
    let rest : List ObjModule = map now (drop (i + 1) mods) in
    let whole : front ++ rest ≡ map now mods = sym (map-append now (take (i + 1) mods) (drop (i + 1) mods)) ∙ ap (map now) (take-append-drop (i + 1) mods) in
    let later : Option A = first_of (map f (enumerate_from (1 + length front) rest)) in
    ap (λ (ms : List ObjModule). first_of (map f (enumerate_from 1 ms))) (sym whole)
    ∙ ap first_of (map-numbered f 1 front rest)
    ∙ first-append (map f (enumerate_from 1 front)) (map f (enumerate_from (1 + length front) rest))
    ∙ ap (λ (o : Option A). option_or o later) (ap first_of (asked-more f mods i m below is)
    ∙ first-append (map f (enumerate_from 1 (map now (take i mods)))) (f (i + 1, m.now) ∷ [])
    ∙ ap (λ (o : Option A). option_or o (option_or (f (i + 1, m.now)) None)) none
    ∙ ap (λ (o : Option A). option_or o None) answer)
