-- What a page is packed to gives the page.
use Rattle.std.proofs.Common.{◌≡◌, ℕ, zero, suc, ◌+◌, ◌*◌, ◌/◌, ◌%◌, ◌-◌, ◌≤◌, ◌<◌, Bool, true, false, cond, eqb, ltb, List, [], ◌∷◌, ◌++◌, length, take, replicate, Option, Some, None, Result, Ok, refl, sym, ap, subst, ◌∙◌, append_assoc, append-nil, arith, length-append, length-take}
use Rattle.std.proofs.Math.Nat.{div-le_self}
use Rattle.std.specs.Prelude.{bytes_eq, find}
use Rattle.std.specs.List.{repeat, AllByRecursion}
use Rattle.std.proofs.lemmas.Bool.{and_parts, eqb-true}
use Rattle.std.proofs.lemmas.Slice.Eq.{bytes_eq-Decides}
use Rattle.lx_types.specs.declared.refusal.LxRefusal.{LxRefusal}
use Rattle.lx_types.specs.declared.object.TheConstants.{PAGE_SIZE}
use Rattle.lx_model.specs.Reading.{◌>>=◌}
use Rattle.lx_model.specs.Iterated.{Group, GroupFits, group_data, groups_data, groups_spelling, expansion}
use Rattle.lx_model.specs.Packed.{before_data, data_of, filled, repeats, periods, Run, before_runs, runs_of, once, before_groups, before_rest, groups_of_runs, groups_with, groups_of, shorter_than, packed}
use Rattle.lx_model.specs.declared.limits.TheConstants.{LONG_RUN}
use Rattle.lx_model.proofs.PagesRead.{groups_again}
use Rattle.lx_iter.proofs.Runs.{run}
use Rattle.lx_iter.proofs.Repeats.{length-repeat}
use Rattle.lx_iter.specs.Expansion.{PackedExpands}

-- ---- the groups give the bytes

abbrev runs_data : List Run → List ℕ
runs_data [] = []
runs_data (r ∷ others) = replicate r.times r.byte ++ runs_data others

before_runs_data : (b : ℕ) (rs : List Run) → runs_data (before_runs b rs) ≡ b ∷ runs_data rs
before_runs_data b [] = refl
before_runs_data b (r ∷ others) = by_test (eqb r.byte b) refl
  where
    more : (n c : ℕ) → c ≡ b → replicate (n + 1) b ++ runs_data others ≡ b ∷ replicate n c ++ runs_data others
    more n c same = let next : n + 1 ≡ suc n = omega arith in ap (λ (k : ℕ). replicate k b ++ runs_data others) next ∙ ap (λ (d : ℕ). b ∷ replicate n d ++ runs_data others) (sym same)

    by_test : (t : Bool) → eqb r.byte b ≡ t → runs_data (cond t (run b (r.times + 1) ∷ others) (run b 1 ∷ r ∷ others)) ≡ b ∷ runs_data (r ∷ others)
    by_test true e = more r.times r.byte (eqb-true r.byte b e)
    by_test false e = refl

runs_give : (bytes : List ℕ) → runs_data (runs_of bytes) ≡ bytes
runs_give [] = refl
runs_give (b ∷ others) = before_runs_data b (runs_of others) ∙ ap (λ (xs : List ℕ). b ∷ xs) (runs_give others)

once_data : (xs ys : List ℕ) → (xs ++ []) ++ ys ≡ xs ++ ys
once_data xs ys = ap (λ (zs : List ℕ). zs ++ ys) (append-nil xs)

before_groups_data : (xs : List ℕ) (gs : List Group) → groups_data (before_groups xs gs) ≡ xs ++ groups_data gs
before_groups_data [] gs = refl
before_groups_data (x ∷ xs) [] = once_data (x ∷ xs) []
before_groups_data (x ∷ xs) (g ∷ gs) = by_test (eqb g.times 1) refl
  where
    by_test : (t : Bool) → eqb g.times 1 ≡ t → groups_data (cond t (once (x ∷ xs ++ g.bytes) ∷ gs) (once (x ∷ xs) ∷ g ∷ gs)) ≡ x ∷ xs ++ groups_data (g ∷ gs)
    by_test true e =
        let one : repeat g.times g.bytes ≡ g.bytes = ap (λ (n : ℕ). repeat n g.bytes) (eqb-true g.times 1 e) ∙ append-nil g.bytes in
        once_data (x ∷ xs ++ g.bytes) (groups_data gs) ∙ append_assoc (x ∷ xs) g.bytes (groups_data gs) ∙ ap (λ (ys : List ℕ). x ∷ xs ++ (ys ++ groups_data gs)) (sym one)
    by_test false e = once_data (x ∷ xs) (groups_data (g ∷ gs))

repeat_byte : (n b : ℕ) → repeat n (b ∷ []) ≡ replicate n b
repeat_byte zero b = refl
repeat_byte (suc n) b = ap (λ (xs : List ℕ). b ∷ xs) (repeat_byte n b)

rest_data : (r : Run) (gs : List Group) → groups_data (before_rest r gs) ≡ replicate r.times r.byte ++ groups_data gs
rest_data r gs = by_test (ltb r.times LONG_RUN)
  where
    by_test : (t : Bool) → groups_data (cond t (before_groups (replicate r.times r.byte) gs) (record { times = r.times; bytes = r.byte ∷ [] } ∷ gs)) ≡ replicate r.times r.byte ++ groups_data gs
    by_test true = before_groups_data (replicate r.times r.byte) gs
    by_test false = ap (λ (xs : List ℕ). xs ++ groups_data gs) (repeat_byte r.times r.byte)

runs_groups_data : (rs : List Run) → groups_data (groups_of_runs rs) ≡ runs_data rs
runs_groups_data [] = refl
runs_groups_data (r ∷ others) = rest_data r (groups_of_runs others) ∙ ap (λ (xs : List ℕ). replicate r.times r.byte ++ xs) (runs_groups_data others)

-- a pattern that was found repeats
found : (test : ℕ → Bool) (ps : List ℕ) (p : ℕ) → find test ps ≡ Some p → test p ≡ true
found test [] p e = absurd cc
found test (q ∷ qs) p e = by_test (λ is. found test qs p is) (test q) refl e
  where
    by_test : (find test qs ≡ Some p → test p ≡ true) → (t : Bool) → test q ≡ t → cond t (Some q) (find test qs) ≡ Some p → test p ≡ true
    by_test later true is e = let same : q ≡ p = cc in subst (λ (n : ℕ). test n ≡ true) same is
    by_test later false is e = later e

with_data : (bytes : List ℕ) (o : Option ℕ) → find (repeats bytes) periods ≡ o → groups_data (groups_with bytes o) ≡ bytes
with_data bytes None e = runs_groups_data (runs_of bytes) ∙ runs_give bytes
with_data bytes (Some p) e =
    let tests = and_parts (eqb (length bytes % p) 0) (bytes_eq (repeat (length bytes / p) (take p bytes)) bytes) (found (repeats bytes) periods p e) in
    append-nil (repeat (length bytes / p) (take p bytes)) ∙ (bytes_eq-Decides (repeat (length bytes / p) (take p bytes)) bytes).0 tests.1

pub groups_give : (bytes : List ℕ) → groups_data (groups_of bytes) ≡ bytes
groups_give bytes = with_data bytes (find (repeats bytes) periods) refl

-- ---- the groups have spellings

-- a group that gives bytes
record Gives (g : Group) : Type 0 where
  times : 0 < g.times
  bytes : 0 < length g.bytes

once_gives : (x : ℕ) (xs : List ℕ) → Gives (once (x ∷ xs))
once_gives x xs = record { times = omega arith; bytes = omega arith }

before_groups_give : (xs : List ℕ) (gs : List Group) → AllByRecursion Gives gs → AllByRecursion Gives (before_groups xs gs)
before_groups_give [] gs each = each
before_groups_give (x ∷ xs) [] each = (once_gives x xs, tt)
before_groups_give (x ∷ xs) (g ∷ gs) each = by_test (eqb g.times 1)
  where
    by_test : (t : Bool) → AllByRecursion Gives (cond t (once (x ∷ xs ++ g.bytes) ∷ gs) (once (x ∷ xs) ∷ g ∷ gs))
    by_test true = (once_gives x (xs ++ g.bytes), each.1)
    by_test false = (once_gives x xs, each)

rest_gives : (r : Run) (gs : List Group) → 0 < r.times → AllByRecursion Gives gs → AllByRecursion Gives (before_rest r gs)
rest_gives r gs some each = by_test (ltb r.times LONG_RUN)
  where
    by_test : (t : Bool) → AllByRecursion Gives (cond t (before_groups (replicate r.times r.byte) gs) (record { times = r.times; bytes = r.byte ∷ [] } ∷ gs))
    by_test true = before_groups_give (replicate r.times r.byte) gs each
    by_test false = (record { times = some; bytes = omega arith }, each)

abbrev AreSome : List Run → Type 0
AreSome rs = AllByRecursion (λ r. 0 < r.times) rs

before_runs_some : (b : ℕ) (rs : List Run) → AreSome rs → AreSome (before_runs b rs)
before_runs_some b [] each = (omega arith, tt)
before_runs_some b (r ∷ others) each = by_test (eqb r.byte b)
  where
    by_test : (t : Bool) → AreSome (cond t (run b (r.times + 1) ∷ others) (run b 1 ∷ r ∷ others))
    by_test true = (omega arith, each.1)
    by_test false = (omega arith, each)

runs_some : (bytes : List ℕ) → AreSome (runs_of bytes)
runs_some [] = tt
runs_some (b ∷ others) = before_runs_some b (runs_of others) (runs_some others)

runs_groups_give : (rs : List Run) → AreSome rs → AllByRecursion Gives (groups_of_runs rs)
runs_groups_give [] each = tt
runs_groups_give (r ∷ others) each = rest_gives r (groups_of_runs others) each.0 (runs_groups_give others each.1)

factor : (n k : ℕ) → 0 < k → n ≤ n * k
factor n (suc k) some = omega arith
factor n zero some = absurd (omega (arith, some))

give_fits : (gs : List Group) → AllByRecursion Gives gs → length (groups_data gs) ≤ PAGE_SIZE → AllByRecursion GroupFits gs
give_fits [] each few = tt
give_fits (g ∷ gs) each few =
    let sum = length-append (group_data g) (groups_data gs) in
    let size = length-repeat g.times g.bytes in
    let times = factor g.times (length g.bytes) each.0.bytes in
    let bytes : length g.bytes ≤ g.times * length g.bytes = (let f = factor (length g.bytes) g.times each.0.times in omega (arith, f)) in
    (record { times = omega (arith, sum, size, times, few); bytes = omega (arith, sum, size, bytes, few) }, give_fits gs each.1 (omega (arith, sum, few)))

pub with_fits : (bytes : List ℕ) (o : Option ℕ) → length bytes ≤ PAGE_SIZE → AllByRecursion GroupFits (groups_with bytes o)
with_fits bytes None few =
    give_fits (groups_of_runs (runs_of bytes)) (runs_groups_give (runs_of bytes) (runs_some bytes)) (let size = ap length (runs_groups_data (runs_of bytes) ∙ runs_give bytes) in omega (arith, size, few))
with_fits bytes (Some p) few =
    let times : length bytes / p ≤ length bytes = div-le_self (length bytes) p in
    (record { times = omega (arith, times, few); bytes = omega (arith, length-take p bytes, few) }, tt)

-- ---- the page

filled_more : (b : ℕ) (xs ds : List ℕ) → length ds ≤ length xs → ds ++ replicate (length xs - length ds) 0 ≡ xs → before_data b ds ++ replicate (suc (length xs) - length (before_data b ds)) 0 ≡ b ∷ xs
filled_more zero xs [] few same =
    let all : suc (length xs) - 0 ≡ suc (length xs) = omega arith in
    let less : length xs ≡ length xs - 0 = omega arith in
    ap (λ (n : ℕ). replicate n 0) all ∙ ap (λ (n : ℕ). 0 ∷ replicate n 0) less ∙ ap (λ (ys : List ℕ). 0 ∷ ys) same
filled_more zero xs (d ∷ ds) few same =
    let less : suc (length xs) - length (0 ∷ d ∷ ds) ≡ length xs - length (d ∷ ds) = omega arith in
    ap (λ (n : ℕ). 0 ∷ d ∷ ds ++ replicate n 0) less ∙ ap (λ (ys : List ℕ). 0 ∷ ys) same
filled_more (suc b) xs ds few same =
    let less : suc (length xs) - length (suc b ∷ ds) ≡ length xs - length ds = omega arith in
    ap (λ (n : ℕ). suc b ∷ ds ++ replicate n 0) less ∙ ap (λ (ys : List ℕ). suc b ∷ ys) same

before_few : (b : ℕ) (xs ds : List ℕ) → length ds ≤ length xs → length (before_data b ds) ≤ suc (length xs)
before_few zero xs [] few = omega arith
before_few zero xs (d ∷ ds) few = omega (arith, few)
before_few (suc b) xs ds few = omega (arith, few)

pub data_few : (page : List ℕ) → length (data_of page) ≤ length page
data_few [] = omega arith
data_few (b ∷ others) = before_few b others (data_of others) (data_few others)

pub data_filled : (page : List ℕ) → data_of page ++ replicate (length page - length (data_of page)) 0 ≡ page
data_filled [] = refl
data_filled (b ∷ others) = filled_more b others (data_of others) (data_few others) (data_filled others)

page_filled : (page : List ℕ) → length page ≡ PAGE_SIZE → filled (data_of page) ≡ page
page_filled page size = ap (λ (n : ℕ). data_of page ++ replicate (n - length (data_of page)) 0) (sym size) ∙ data_filled page

spelling_of : (bytes «data» packed : List ℕ) → shorter_than «data» packed ≡ Some bytes → packed ≡ bytes
spelling_of bytes «data» packed e = by_test (ltb (length packed) (length «data»)) e
  where
    by_test : (t : Bool) → cond t (Some packed) None ≡ Some bytes → packed ≡ bytes
    by_test true is = cc
    by_test false is = absurd cc

pub packed_expands : PackedExpands
packed_expands page bytes size is =
    let d = data_of page in
    let gs = groups_of d in
    let few : length d ≤ PAGE_SIZE = (let less = data_few page in omega (arith, less, size)) in
    let give = groups_give d in
    let again = groups_again gs (with_fits d (find (repeats d) periods) few) (let same = ap length give in omega (arith, same, few)) in
    let read : expansion bytes ≡ Ok d = ap expansion (sym (spelling_of bytes d (groups_spelling gs) is)) ∙ again ∙ ap (λ (xs : List ℕ). Ok xs) give in
    ap (λ (r : Result (List ℕ) LxRefusal). r >>= λ given. Ok (filled given)) read ∙ ap (λ (xs : List ℕ). Ok xs) (page_filled page size)
