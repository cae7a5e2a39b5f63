-- Of which kind a line is, by its first words; lines of one kind in front of others; and lists whose items have each a line of their own.
use Rattle.std.proofs.Common.{◌≡◌, ℕ, ◌==◌, Bool, true, false, if◌then◌else◌, bytes_eq, List, [], ◌∷◌, ◌++◌, map, refl, sym, ◌∙◌, ap, subst}
use Rattle.std.specs.Prelude.{codes}
use Rattle.std.specs.List.{AllByRecursion}
use Rattle.session_model.specs.Lines.{is_digit}
use Rattle.transcript_laws.proofs.TextRows.{Row}

-- a line that is part of the one above
abbrev pub inner : Row → Row
inner ws = [] ∷ [] ∷ ws

abbrev pub kind_named : List ℕ → ℕ
kind_named w = if bytes_eq w (codes "new") then 0 else if bytes_eq w (codes "call") then 1 else if bytes_eq w (codes "gone") then 2 else 3

abbrev pub inner_kind : Row → ℕ
inner_kind [] = 9
inner_kind (v ∷ []) = 9
inner_kind (v ∷ x ∷ ws) = kind_named x

-- 0 to 3 for lines that are part of others; 4 for one that begins with a digit, as an entry's; 5 for `process`; 6 for all others
abbrev pub kind : Row → ℕ
kind [] = 9
kind ([] ∷ ws) = inner_kind ws
kind ((b ∷ w) ∷ ws) = if is_digit b then 4 else if b == 0x70 then 5 else 6

abbrev pub OfKind : ℕ → Row → Type 0
OfKind k row = kind row ≡ k

abbrev pub BeginsOther : ℕ → List Row → Type 0
BeginsOther k [] = Unit {0}
BeginsOther k (row ∷ rows) = kind row ≡ k → ⊥

pub split_kind : (k : ℕ) (fs bs r q : List Row) → AllByRecursion (OfKind k) fs → AllByRecursion (OfKind k) bs → BeginsOther k r → BeginsOther k q → fs ++ r ≡ bs ++ q → (fs ≡ bs) × (r ≡ q)
split_kind k [] [] r q ha hb hr hq is = (refl, is)
split_kind k [] (b ∷ bs) r q ha hb hr hq is = absurd (let no : BeginsOther k (b ∷ (bs ++ q)) = subst (BeginsOther k) is hr in no hb.0)
split_kind k (a ∷ fs) [] r q ha hb hr hq is = absurd (let no : BeginsOther k (a ∷ (fs ++ r)) = subst (BeginsOther k) (sym is) hq in no ha.0)
split_kind k (a ∷ fs) (b ∷ bs) r q ha hb hr hq is =
    let one : a ≡ b = cc (is) in
    let more : fs ++ r ≡ bs ++ q = cc (is) in
    let rest = split_kind k fs bs r q ha.1 hb.1 hr hq more in
    (ap (λ (x : Row). x ∷ fs) one ∙ ap (λ (xs : List Row). b ∷ xs) rest.0, rest.1)

pub map_kind : {A : Type 0} (k : ℕ) (row : A → Row) → ((a : A) → kind (row a) ≡ k) → (xs : List A) → AllByRecursion (OfKind k) (map row xs)
map_kind k row same [] = tt
map_kind k row same (x ∷ xs) = (same x, map_kind k row same xs)

-- where each item tells itself, so does the list
pub map_one : {A B : Type 0} (f : A → B) (P : A → Type 0) → ((a b : A) → P a → P b → f a ≡ f b → a ≡ b) → (xs ys : List A) → AllByRecursion P xs → AllByRecursion P ys → map f xs ≡ map f ys → xs ≡ ys
map_one f P one [] [] hx hy is = refl
map_one f P one [] (y ∷ ys) hx hy is = absurd (cc (is))
map_one f P one (x ∷ xs) [] hx hy is = absurd (cc (is))
map_one {A} {B} f P one (x ∷ xs) (y ∷ ys) hx hy is =
    let first : f x ≡ f y = cc (is) in
    let more : map f xs ≡ map f ys = cc (is) in
    ap (λ (a : A). a ∷ xs) (one x y hx.0 hy.0 first) ∙ ap (λ (fs : List A). y ∷ fs) (map_one f P one xs ys hx.1 hy.1 more)
