-- The bytes of an object, page by page, and the objects one after the other.
use Rattle.std.specs.Prelude.{◌≡◌, ℕ, zero, suc, ◌+◌, ◌-◌, ◌*◌, ◌/◌, ◌%◌, ◌<◌, ◌≤◌, List, [], ◌∷◌, ◌++◌, length, map, take, refl}
use Rattle.std.specs.List.{enumerate_from, range_with_len}
use Rattle.std.proofs.Common.{ap, sym, ◌∙◌, arith, get_or, inl, inr}
use Rattle.std.proofs.lemmas.Bool.{cases_lt}
use Rattle.std.proofs.lemmas.List.{take_all}
use Rattle.std.proofs.lemmas.List.FromFn.{length-map-range_with_len, take-map-range_with_len}
use Rattle.lx_types.specs.declared.bases.Bases.{Bases}
use Rattle.lx_types.specs.declared.object.ObjHead.{ObjHead}
use Rattle.lx_types.specs.declared.parts.Parts.{Parts}
use Rattle.link_model.specs.declared.symbols.LaidObject.{LaidObject}
use Rattle.lx_model.specs.Fixed.{Fixed}
use Rattle.lx_model.specs.ModuleBytes.{FixedByte, fixed_page}
use Rattle.image_model.specs.LinkLaws.{laid}
use Rattle.link_fix.proofs.NumberedLists.{numbered-more}

-- ---- ranges

range_append : (F : ℕ → ℕ) (a n m : ℕ) → map F (range_with_len a n) ++ map F (range_with_len (a + n) m) ≡ map F (range_with_len a (n + m))
range_append F a zero m =
    let same : a + 0 ≡ a = omega arith in
    let all : m ≡ 0 + m = omega arith in
    ap (λ (b : ℕ). map F (range_with_len b m)) same ∙ ap (λ (n : ℕ). map F (range_with_len a n)) all
range_append F a (suc n) m =
    let same : a + suc n ≡ a + 1 + n = omega arith in
    let all : suc (n + m) ≡ suc n + m = omega arith in
    ap (λ (b : ℕ). F a ∷ map F (range_with_len (a + 1) n) ++ map F (range_with_len b m)) same
    ∙ ap (λ (xs : List ℕ). F a ∷ xs) (range_append F (a + 1) n m)
    ∙ ap (λ (k : ℕ). map F (range_with_len a k)) all

range_shift : (P F : ℕ → ℕ) (b a n : ℕ) → ((i : ℕ) → i < a + n → P i ≡ F (b + i)) → map P (range_with_len a n) ≡ map F (range_with_len (b + a) n)
range_shift P F b a zero same = refl
range_shift P F b a (suc n) same =
    let next : b + (a + 1) ≡ b + a + 1 = omega arith in
    ap (λ (x : ℕ). x ∷ map P (range_with_len (a + 1) n)) (same a (omega arith))
    ∙ ap (λ (xs : List ℕ). F (b + a) ∷ xs) (range_shift P F b (a + 1) n (λ i h. same i (omega (arith, h))))
    ∙ ap (λ (c : ℕ). F (b + a) ∷ map F (range_with_len c n)) next

-- ---- one page more

short_page : (F P : ℕ → ℕ) (size k : ℕ) → 4096 * k ≤ size → size - 4096 * k < 4096 → ((i : ℕ) → i < 4096 → P i ≡ F (4096 * k + i))
    → map F (range_with_len 0 (4096 * k)) ++ take (size - 4096 * k) (map P (range_with_len 0 4096)) ≡ map F (range_with_len 0 size)
short_page F P size k h left same =
    let begin : 4096 * k + 0 ≡ 0 + 4096 * k = omega arith in
    let end : 4096 * k + (size - 4096 * k) ≡ size = omega (arith, h) in
    ap (λ (xs : List ℕ). map F (range_with_len 0 (4096 * k)) ++ xs) (
    take-map-range_with_len P 0 4096 (size - 4096 * k) (omega (arith, left))
    ∙ range_shift P F (4096 * k) 0 (size - 4096 * k) (λ i below. same i (omega (arith, below, left)))
    ∙ ap (λ (b : ℕ). map F (range_with_len b (size - 4096 * k))) begin)
    ∙ range_append F 0 (4096 * k) (size - 4096 * k)
    ∙ ap (λ (n : ℕ). map F (range_with_len 0 n)) end

whole_page : (F P : ℕ → ℕ) (size k : ℕ) → 4096 ≤ size - 4096 * k → ((i : ℕ) → i < 4096 → P i ≡ F (4096 * k + i))
    → map F (range_with_len 0 (4096 * k)) ++ take (size - 4096 * k) (map P (range_with_len 0 4096)) ≡ map F (range_with_len 0 (4096 * (k + 1)))
whole_page F P size k left same =
    let begin : 4096 * k + 0 ≡ 0 + 4096 * k = omega arith in
    let end : 4096 * k + 4096 ≡ 4096 * (k + 1) = omega arith in
    let long = length-map-range_with_len P 0 4096 in
    ap (λ (xs : List ℕ). map F (range_with_len 0 (4096 * k)) ++ xs) (
    take_all (size - 4096 * k) (map P (range_with_len 0 4096)) (omega (arith, long, left))
    ∙ range_shift P F (4096 * k) 0 4096 (λ i below. same i (omega (arith, below)))
    ∙ ap (λ (b : ℕ). map F (range_with_len b 4096)) begin)
    ∙ range_append F 0 (4096 * k) 4096
    ∙ ap (λ (n : ℕ). map F (range_with_len 0 n)) end

row_more : (F P : ℕ → ℕ) (size k : ℕ) → 4096 * k ≤ size → ((i : ℕ) → i < 4096 → P i ≡ F (4096 * k + i))
    → take (4096 * k) (map F (range_with_len 0 size)) ++ take (size - 4096 * k) (map P (range_with_len 0 4096)) ≡ take (4096 * (k + 1)) (map F (range_with_len 0 size))
row_more F P size k h same =
    let before = take-map-range_with_len F 0 size (4096 * k) h in
    ap (λ (xs : List ℕ). xs ++ take (size - 4096 * k) (map P (range_with_len 0 4096))) before
    ∙ elim (cases_lt (size - 4096 * k) 4096) as (λ s. map F (range_with_len 0 (4096 * k)) ++ take (size - 4096 * k) (map P (range_with_len 0 4096)) ≡ take (4096 * (k + 1)) (map F (range_with_len 0 size))) [
      | inl lt ↦ short_page F P size k h lt same ∙ sym (take_all (4096 * (k + 1)) (map F (range_with_len 0 size)) (let long = length-map-range_with_len F 0 size in omega (arith, long, lt, h)))
      | inr ge ↦ whole_page F P size k ge same ∙ sym (take-map-range_with_len F 0 size (4096 * (k + 1)) (omega (arith, ge, h)))
    ]

-- The byte of a page is that of the object.
byte_of_page : (lib : List Parts) (m : ℕ) (bases : Bases) (object k i : ℕ) → i < 4096 → Fixed lib m bases (record { object = object; page = k }) i ≡ FixedByte lib m bases object (4096 * k + i)
byte_of_page lib m bases object k i h =
    let page : (4096 * k + i) / 4096 ≡ k = omega (arith, h) in
    let rest : (4096 * k + i) % 4096 ≡ i = omega (arith, h) in
    ap (λ (n : ℕ). Fixed lib m bases (record { object = object; page = n }) i) (sym page)
    ∙ ap (λ (n : ℕ). Fixed lib m bases (record { object = object; page = (4096 * k + i) / 4096 }) n) (sym rest)

-- So far the row has the bytes of the first pages.
abbrev pub row_till : List Parts → ℕ → Bases → ℕ → ℕ → ℕ → List ℕ
row_till lib m bases object size k = take (4096 * k) (map (FixedByte lib m bases object) (range_with_len 0 size))

pub page_added : (lib : List Parts) (m : ℕ) (bases : Bases) (object size k : ℕ) → 4096 * k ≤ size
    → row_till lib m bases object size k ++ take (size - 4096 * k) (fixed_page lib m bases (record { object = object; page = k })) ≡ row_till lib m bases object size (k + 1)
page_added lib m bases object size k h =
    row_more (FixedByte lib m bases object) (Fixed lib m bases (record { object = object; page = k })) size k h (byte_of_page lib m bases object k)

-- A page is fixed, and the bytes that the object has of it are added.
pub page_pushed : (lib : List Parts) (m : ℕ) (bases : Bases) (object size k left : ℕ) (old new page : List ℕ) → k * 4096 ≤ size → left ≡ size - k * 4096
    → old ≡ row_till lib m bases object size k → page ≡ fixed_page lib m bases (record { object = object; page = k }) → new ≡ old ++ take left page → new ≡ row_till lib m bases object size (k + 1)
page_pushed lib m bases object size k left old new page h is before fixed made =
    let same : left ≡ size - 4096 * k = omega (arith, is) in
    made
    ∙ ap (λ (n : ℕ). old ++ take n page) same
    ∙ ap (λ (xs : List ℕ). xs ++ take (size - 4096 * k) page) before
    ∙ ap (λ (xs : List ℕ). row_till lib m bases object size k ++ take (size - 4096 * k) xs) fixed
    ∙ page_added lib m bases object size k (omega (arith, h))

pub row_done : (lib : List Parts) (m : ℕ) (bases : Bases) (object size k : ℕ) → size ≤ 4096 * k → row_till lib m bases object size k ≡ map (FixedByte lib m bases object) (range_with_len 0 size)
row_done lib m bases object size k h =
    take_all (4096 * k) (map (FixedByte lib m bases object) (range_with_len 0 size)) (let long = length-map-range_with_len (FixedByte lib m bases object) 0 size in omega (arith, long, h))

-- ---- one object more

abbrev pub row_at : List Parts → Bases → ℕ × ObjHead → LaidObject × List ℕ
row_at lib bases q = (laid q.1, map (FixedByte lib 0 bases q.0) (range_with_len 0 q.1.size))

abbrev pub rows_till : List Parts → Bases → List ObjHead → ℕ → List (LaidObject × List ℕ)
rows_till lib bases objects i = map (row_at lib bases) (enumerate_from 1 (take i objects))

pub row_added : (lib : List Parts) (bases : Bases) (objects : List ObjHead) (i number : ℕ) (o : ObjHead) (row : List ℕ) → i < length objects → o ≡ get_or objects i o → number ≡ i + 1
    → row ≡ map (FixedByte lib 0 bases number) (range_with_len 0 o.size) → rows_till lib bases objects i ++ (laid o, row) ∷ [] ≡ rows_till lib bases objects (i + 1)
row_added lib bases objects i number o row h is counted here =
    let place : number ≡ 1 + i = omega (arith, counted) in
    ap (λ (bs : List ℕ). rows_till lib bases objects i ++ (laid o, bs) ∷ []) (here ∙ ap (λ (n : ℕ). map (FixedByte lib 0 bases n) (range_with_len 0 o.size)) place)
    ∙ ap (λ (x : ObjHead). rows_till lib bases objects i ++ row_at lib bases (1 + i, x) ∷ []) is
    ∙ sym (numbered-more (row_at lib bases) 1 i objects o h)

-- The object's row is made, and pushed.
pub row_pushed : (lib : List Parts) (bases : Bases) (os objects : List ObjHead) (i number : ℕ) (o : ObjHead) (row : List ℕ) (head : LaidObject) (old new : List (LaidObject × List ℕ)) → objects ≡ os → i < length objects → o ≡ get_or objects i o
    → number ≡ i + 1 → row ≡ map (FixedByte lib 0 bases number) (range_with_len 0 o.size) → head ≡ laid o → old ≡ rows_till lib bases os i → new ≡ old ++ (head, row) ∷ [] → new ≡ rows_till lib bases os (i + 1)
row_pushed lib bases os objects i number o row head old new same h is counted here of before made =
    made
    ∙ ap (λ (x : LaidObject). old ++ (x, row) ∷ []) of
    ∙ ap (λ (rs : List (LaidObject × List ℕ)). rs ++ (laid o, row) ∷ []) (before ∙ ap (λ (hs : List ObjHead). rows_till lib bases hs i) (sym same))
    ∙ row_added lib bases objects i number o row h is counted here
    ∙ ap (λ (hs : List ObjHead). rows_till lib bases hs (i + 1)) same
