-- The copies of an offset, found without expanding the blocks, and when two locations on blocks meet.
use Rattle.std.proofs.Common.{◌≡◌, ℕ, zero, suc, ◌+◌, ◌-◌, ◌*◌, ◌<◌, ◌≤◌, Bool, cond, List, [], ◌++◌, length, map, get_or, Ok, refl, ap, subst, ◌∙◌, arith, inl, inr, length-append}
use Rattle.std.specs.List.{AllByRecursion, Contains, repeat, range_with_len}
use Rattle.std.proofs.Math.Nat.{suc-mul}
use Rattle.std.proofs.lemmas.Bool.{cases_lt}
use Rattle.std.proofs.lemmas.List.{length-map, nil_from_length}
use Rattle.std.proofs.lemmas.List.FromFn.{length-range_with_len}
use Rattle.lx_bytes.specs.Cursor.{Cursor}
use Rattle.lx_bytes.specs.LittleEndian.{AreBytes}
use Rattle.obj_types.specs.declared.limits.TheConstants.{MAX_DATA, MAX_DEPTH}
use Rattle.omf_fields.specs.Fields.{width}
use Rattle.omf_model.specs.Blocks.{Blocks, none, bytes, nested, block_bytes, expanded, expanded_len, depth_of, origins, contents}
use Rattle.omf_model.specs.Fixups.{places_of}
use Rattle.omf_model.specs.ReadBlocks.{blocks_at}
use Rattle.omf_model.specs.ReadData.{counted_len}
use Rattle.omf_model.specs.Copies.{repeated, is_inside, place_in, block_copies, copy_count, capped, capped_len, IsInBlock, ShareByte, HasCopy, CopiesMeet}
use Rattle.omf_model.proofs.DataLaws.{bool_cases}
use Rattle.omf_model.proofs.BlockLaws.{blocks_sound}
use Rattle.omf_model.proofs.CopyLaws.{Runs, length-repeat, length-expanded, length-origins, origins-run}
use Rattle.omf_model.proofs.PairLaws.{all-at, IsPlace, places-are}
use Rattle.omf_model.proofs.PlaceLaws.{places-append, places-repeat, places-range, has-place, length-repeated}

-- ---- without expanding

pub copies-found : (wide : Bool) (at : ℕ) (b : Blocks) (o : ℕ) → places_of o (origins wide at b) ≡ block_copies wide at b o
copies-found wide at none o = refl
copies-found wide at (bytes times content rest) o =
    let first : ℕ = at + width wide + 3 in
    let unit : List ℕ = range_with_len first (length content) in
    let long : length unit ≡ length content = length-range_with_len first (length content) in
    let whole : length (repeat times unit) ≡ times * length content = length-repeat times unit ∙ ap (λ (n : ℕ). times * n) long in
    places-append o (repeat times unit) (origins wide (first + length content) rest)
    ∙ (λ i. (places-repeat o times unit ∙ (λ j. repeated times (long j) (places-range o first (length content) j))) i ++ map (λ k. whole i + k) (copies-found wide (first + length content) rest o i))
copies-found wide at (nested times inner rest) o =
    let first : ℕ = at + width wide + 2 in
    let past : ℕ = first + length (block_bytes wide inner) in
    let unit : List ℕ = origins wide first inner in
    let long : length unit ≡ expanded_len inner = length-origins wide first inner in
    let whole : length (repeat times unit) ≡ times * expanded_len inner = length-repeat times unit ∙ ap (λ (n : ℕ). times * n) long in
    places-append o (repeat times unit) (origins wide past rest)
    ∙ (λ i. (places-repeat o times unit ∙ (λ j. repeated times (long j) (copies-found wide first inner o j))) i ++ map (λ k. whole i + k) (copies-found wide past rest o i))

length-place_in : (first len o : ℕ) → length (place_in first len o) ≡ cond (is_inside first len o) 1 0
length-place_in first len o =
    elim (bool_cases (is_inside first len o)) [
      | inl h ↦ rw h refl
      | inr h ↦ rw h refl
    ]

pub copies-counted : (wide : Bool) (at : ℕ) (b : Blocks) (o : ℕ) → length (block_copies wide at b o) ≡ copy_count wide at b o
copies-counted wide at none o = refl
copies-counted wide at (bytes times content rest) o =
    let first : ℕ = at + width wide + 3 in
    let own : List ℕ = place_in first (length content) o in
    let later : List ℕ = block_copies wide (first + length content) rest o in
    length-append (repeated times (length content) own) (map (λ x. times * length content + x) later)
    ∙ (λ i. (length-repeated times (length content) own ∙ ap (λ (n : ℕ). times * n) (length-place_in first (length content) o)) i
    + (length-map later (λ x. times * length content + x) ∙ copies-counted wide (first + length content) rest o) i)
copies-counted wide at (nested times inner rest) o =
    let first : ℕ = at + width wide + 2 in
    let past : ℕ = first + length (block_bytes wide inner) in
    let own : List ℕ = block_copies wide first inner o in
    let later : List ℕ = block_copies wide past rest o in
    length-append (repeated times (expanded_len inner) own) (map (λ x. times * expanded_len inner + x) later)
    ∙ (λ i. (length-repeated times (expanded_len inner) own ∙ ap (λ (n : ℕ). times * n) (copies-counted wide first inner o)) i
    + (length-map later (λ x. times * expanded_len inner + x) ∙ copies-counted wide past rest o) i)

-- blocks that hold nothing expand to nothing, however often they repeat
pub nothing-expands : (b : Blocks) → expanded_len b ≡ 0 → expanded b ≡ []
nothing-expands b empty = nil_from_length (expanded b) (length-expanded b ∙ empty)

pub depth-read : (wide : Bool) (c : Cursor) (b : Blocks) → AreBytes c.left → blocks_at wide c ≡ Ok b → depth_of b ≤ MAX_DEPTH
depth-read wide c b fit e = (blocks_sound wide c b fit e).1.depth

-- ---- lengths with a cap

cap-sum : (x y : ℕ) → capped (x + capped y) ≡ capped (x + y)
cap-sum x y = omega arith

cap-product : (t x y : ℕ) → capped (t * capped x + y) ≡ capped (t * x + y)
cap-product t x y =
    elim (cases_lt x (MAX_DATA + 1)) [
      | inl small ↦ ap (λ (n : ℕ). capped (t * n + y)) (let e : capped x ≡ x = omega (arith, small) in e)
      | inr large ↦ by large t
    ]
  where
    by : MAX_DATA + 1 ≤ x → (t : ℕ) → capped (t * capped x + y) ≡ capped (t * x + y)
    by large zero = omega arith
    by large (suc n) = omega (arith, large, suc-mul n (capped x), suc-mul n x)

pub length-capped : (b : Blocks) → capped_len b ≡ counted_len b
length-capped none = refl
length-capped (bytes times content rest) = ap (λ (n : ℕ). capped (times * length content + n)) (length-capped rest) ∙ cap-sum (times * length content) (expanded_len rest)
length-capped (nested times inner rest) =
    (λ i. capped (times * length-capped inner i + length-capped rest i))
    ∙ cap-sum (times * capped (expanded_len inner)) (expanded_len rest)
    ∙ cap-product times (expanded_len inner) (expanded_len rest)

-- ---- two locations

contained : {A : Type 0} (P : A → Type 0) (xs : List A) (x : A) → AllByRecursion P xs → Contains xs x → P x
contained P xs x all c = subst P c.2 (all-at P xs all c.0 x c.1)

place-of : (o : ℕ) (xs : List ℕ) (x : ℕ) → Contains (places_of o xs) x → IsPlace o xs x
place-of o xs x c = contained (IsPlace o xs) (places_of o xs) x (places-are o xs) c

module _ (wide : Bool) (b : Blocks) where
  abbrev xs : List ℕ
  xs = origins wide 0 b

  runs-in : (o len : ℕ) → (h : IsInBlock wide b o len) → Runs xs h.first h.past
  runs-in o len h = contained (λ (c : ℕ × ℕ). Runs xs c.0 c.1) (contents wide 0 b) (h.first, h.past) (origins-run wide 0 b) h.block

  -- a byte of the first's copy is the first of the second's copy
  after : (o la p x : ℕ) → IsInBlock wide b o la → IsPlace o xs x → o ≤ p → p < o + la → Contains (places_of p xs) (x + (p - o))
  after o la p x h at_x low high =
      let g = runs-in o la h x (p - o) at_x.0 (omega (arith, at_x.1, h.low)) (omega (arith, at_x.1, h.high, low, high)) in
      has-place p xs (x + (p - o)) g.there (g.is ∙ (let e : get_or xs x 0 + (p - o) ≡ p = omega (arith, at_x.1, low) in e))

  pub copies-meet : (o la p lb : ℕ) → 1 ≤ la → 1 ≤ lb → IsInBlock wide b o la → IsInBlock wide b p lb → ShareByte o la p lb → HasCopy wide b o → HasCopy wide b p → CopiesMeet wide b o la p lb
  copies-meet o la p lb some_a some_b in_a in_b share copy_a copy_b =
      elim (cases_lt p o) [
        | inr low ↦
            let x = copy_a.0 in
            (x, x + (p - o), copy_a.1, after o la p x in_a (place-of o xs x copy_a.1) low share.1, (omega (arith, some_b), omega (arith, low, share.1)))
        | inl high ↦
            let y = copy_b.0 in
            (y + (o - p), y, after p lb o y in_b (place-of p xs y copy_b.1) (omega (arith, high)) share.0, copy_b.1, (omega (arith, high, share.0), omega (arith, some_a)))
      ]

  same-byte : (o la p x y : ℕ) → IsInBlock wide b o la → IsPlace o xs x → IsPlace p xs y → x ≤ y → y < x + la → p ≡ o + (y - x)
  same-byte o la p x y h at_x at_y low near =
      let g = runs-in o la h x (y - x) at_x.0 (omega (arith, at_x.1, h.low)) (omega (arith, at_x.1, h.high, low, near)) in
      let same : get_or xs (x + (y - x)) 0 ≡ get_or xs y 0 = ap (λ (n : ℕ). get_or xs n 0) (let e : x + (y - x) ≡ y = omega (arith, low) in e) in
      omega (arith, g.is, same, at_x.1, at_y.1)

  pub meeting-share : (o la p lb : ℕ) → 1 ≤ la → 1 ≤ lb → IsInBlock wide b o la → IsInBlock wide b p lb → CopiesMeet wide b o la p lb → ShareByte o la p lb
  meeting-share o la p lb some_a some_b in_a in_b m =
      let x = m.0 in
      let y = m.1 in
      let at_x = place-of o xs x m.2 in
      let at_y = place-of p xs y m.3 in
      elim (cases_lt y x) [
        | inr low ↦ let e = same-byte o la p x y in_a at_x at_y low m.4.1 in (omega (arith, e, some_b), omega (arith, e, low, m.4.1))
        | inl high ↦ let e = same-byte p lb o y x in_b at_y at_x (omega (arith, high)) m.4.0 in (omega (arith, e, high, m.4.0), omega (arith, e, some_a))
      ]
