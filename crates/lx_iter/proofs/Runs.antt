-- Runs of equal bytes, and the groups that they make.
use Rattle.std.proofs.Common.{◌≡◌, ℕ, zero, suc, ◌+◌, ◌-◌, ◌≤◌, ◌<◌, Bool, true, false, cond, eqb, ltb, List, [], ◌∷◌, ◌++◌, length, take, drop, get_or, replicate, refl, sym, ap, subst, ◌∙◌, append_assoc, append-nil, arith}
use Rattle.std.specs.List.{between}
use Rattle.std.proofs.lemmas.Bool.{ne_eqb, eq-eqb, lt-ltb, le-ltb}
use Rattle.std.proofs.lemmas.List.{take-append-drop, drop_more, drop_all, drop-drop}
use Rattle.std.proofs.lemmas.List.Edits.{between_none, between_more}
use Rattle.std.proofs.Math.Seq.{take-add}
use Rattle.lx_model.specs.Iterated.{Group, group_spelling, groups_spelling}
use Rattle.lx_model.specs.Packed.{Run, before_runs, runs_of, before_groups, before_rest, groups_of_runs, once}
use Rattle.lx_model.specs.declared.limits.TheConstants.{LONG_RUN}

abbrev pub run : ℕ → ℕ → Run
run b n = record { byte = b; times = n }

-- what follows does not begin with the byte
abbrev pub BeginsApart : ℕ → List ℕ → Type 0
BeginsApart b [] = Unit {0}
BeginsApart b (c ∷ others) = c ≡ b → ⊥

pub apart_at : (bytes : List ℕ) (n b : ℕ) → n < length bytes → (get_or bytes n 0 ≡ b → ⊥) → BeginsApart b (drop n bytes)
apart_at bytes n b lt ne = subst (BeginsApart b) (sym (drop_more bytes n 0 lt)) ne

pub apart_end : (bytes : List ℕ) (n b : ℕ) → length bytes ≤ n → BeginsApart b (drop n bytes)
apart_end bytes n b le = subst (BeginsApart b) (sym (drop_all n bytes le)) tt

-- runs begin with a run of the first byte
record Begins (b : ℕ) (rs : List Run) : Type 0 where
  times : ℕ
  others : List Run
  is : rs ≡ run b times ∷ others

begins : (b : ℕ) (rs : List Run) → Begins b (before_runs b rs)
begins b [] = record { times = 1; others = []; is = refl }
begins b (r ∷ others) = by_test (eqb r.byte b)
  where
    by_test : (t : Bool) → Begins b (cond t (run b (r.times + 1) ∷ others) (run b 1 ∷ r ∷ others))
    by_test true = record { times = r.times + 1; others = others; is = refl }
    by_test false = record { times = 1; others = r ∷ others; is = refl }

before_apart : (b : ℕ) (rest : List ℕ) → BeginsApart b rest → before_runs b (runs_of rest) ≡ run b 1 ∷ runs_of rest
before_apart b [] apart = refl
before_apart b (c ∷ others) apart =
    let g = begins c (runs_of others) in
    let test : eqb c b ≡ false = ne_eqb c b apart in
    ap (before_runs b) g.is ∙ ap (λ (t : Bool). cond t (run b (g.times + 1) ∷ g.others) (run b 1 ∷ run c g.times ∷ g.others)) test ∙ ap (λ (rs : List Run). run b 1 ∷ rs) (sym g.is)

before_same : (b n : ℕ) (rs : List Run) → before_runs b (run b n ∷ rs) ≡ run b (n + 1) ∷ rs
before_same b n rs = let test : eqb b b ≡ true = eq-eqb b b refl in ap (λ (t : Bool). cond t (run b (n + 1) ∷ rs) (run b 1 ∷ run b n ∷ rs)) test

whole_run : (n b : ℕ) (rest : List ℕ) → BeginsApart b rest → runs_of (replicate (suc n) b ++ rest) ≡ run b (suc n) ∷ runs_of rest
whole_run zero b rest apart = before_apart b rest apart
whole_run (suc n) b rest apart =
    let next : suc n + 1 ≡ suc (suc n) = omega arith in
    ap (before_runs b) (whole_run n b rest apart) ∙ before_same b (suc n) (runs_of rest) ∙ ap (λ (k : ℕ). run b k ∷ runs_of rest) next

pub longest : (bytes : List ℕ) (n b : ℕ) → 0 < n → take n bytes ≡ replicate n b → BeginsApart b (drop n bytes) → runs_of bytes ≡ run b n ∷ runs_of (drop n bytes)
longest bytes zero b some same apart = absurd (omega (arith, some))
longest bytes (suc n) b some same apart =
    ap runs_of (sym (take-append-drop (suc n) bytes)) ∙ ap (λ (xs : List ℕ). runs_of (xs ++ drop (suc n) bytes)) same ∙ whole_run n b (drop (suc n) bytes) apart

-- ---- the groups that they make

-- bytes that stand once before others that stand once
pub before_before : (xs ys : List ℕ) (gs : List Group) → before_groups (xs ++ ys) gs ≡ before_groups xs (before_groups ys gs)
before_before [] ys gs = refl
before_before (x ∷ xs) [] gs = ap (λ (zs : List ℕ). before_groups zs gs) (append-nil (x ∷ xs))
before_before (x ∷ xs) (y ∷ ys) [] = refl
before_before (x ∷ xs) (y ∷ ys) (g ∷ gs) = by_test (eqb g.times 1)
  where
    by_test : (t : Bool) → cond t (once ((x ∷ xs ++ y ∷ ys) ++ g.bytes) ∷ gs) (once (x ∷ xs ++ y ∷ ys) ∷ g ∷ gs) ≡ before_groups (x ∷ xs) (cond t (once (y ∷ ys ++ g.bytes) ∷ gs) (once (y ∷ ys) ∷ g ∷ gs))
    by_test true = ap (λ (zs : List ℕ). once zs ∷ gs) (append_assoc (x ∷ xs) (y ∷ ys) g.bytes)
    by_test false = refl

-- bytes that stand once before a group that stands many times
before_many : (xs : List ℕ) (g : Group) (gs : List Group) → (g.times ≡ 1 → ⊥) → groups_spelling (before_groups xs (g ∷ gs)) ≡ groups_spelling (before_groups xs []) ++ groups_spelling (g ∷ gs)
before_many [] g gs many = refl
before_many (x ∷ xs) g gs many =
    let test : eqb g.times 1 ≡ false = ne_eqb g.times 1 many in
    let one = once (x ∷ xs) in
    ap (λ (t : Bool). groups_spelling (cond t (once (x ∷ xs ++ g.bytes) ∷ gs) (one ∷ g ∷ gs))) test ∙ ap (λ (zs : List ℕ). zs ++ groups_spelling (g ∷ gs)) (sym (append-nil (group_spelling one)))

abbrev many : ℕ → ℕ → Group
many n b = record { times = n; bytes = b ∷ [] }

-- what is written, with the groups of the bytes that are left, is all
abbrev pub Kept : List ℕ → List ℕ → ℕ → ℕ → List ℕ → Type 0
Kept written bytes from at all = written ++ groups_spelling (before_groups (between from at bytes) (groups_of_runs (runs_of (drop at bytes)))) ≡ all

pub kept_all : (written bytes all : List ℕ) (from at : ℕ) → from ≤ at → length bytes ≤ at → Kept written bytes from at all → written ++ groups_spelling (before_groups (between from at bytes) []) ≡ all
kept_all written bytes all from at le past kept = subst (λ (xs : List ℕ). written ++ groups_spelling (before_groups (between from at bytes) (groups_of_runs (runs_of xs))) ≡ all) (drop_all at bytes past) kept

after_run : (bytes : List ℕ) (at n b : ℕ) → runs_of (drop at bytes) ≡ run b n ∷ runs_of (drop n (drop at bytes)) → groups_of_runs (runs_of (drop at bytes)) ≡ before_rest (run b n) (groups_of_runs (runs_of (drop (at + n) bytes)))
after_run bytes at n b is = ap groups_of_runs is ∙ ap (λ (xs : List ℕ). before_rest (run b n) (groups_of_runs (runs_of xs))) (drop-drop n at bytes)

-- a run that stands once with what is before it
pub kept_short : (written bytes all : List ℕ) (from at n b : ℕ) → from ≤ at → n < LONG_RUN → runs_of (drop at bytes) ≡ run b n ∷ runs_of (drop n (drop at bytes)) → take n (drop at bytes) ≡ replicate n b → Kept written bytes from at all →
    Kept written bytes from (at + n) all
kept_short written bytes all from at n b le short is same kept =
    let gs = groups_of_runs (runs_of (drop (at + n) bytes)) in
    let test : ltb n LONG_RUN ≡ true = lt-ltb n LONG_RUN short in
    let run_first : groups_of_runs (runs_of (drop at bytes)) ≡ before_groups (replicate n b) gs = after_run bytes at n b is ∙ ap (λ (t : Bool). cond t (before_groups (replicate n b) gs) (many n b ∷ gs)) test in
    let sum : at + n - from ≡ at - from + n = omega (arith, le) in
    let place : from + (at - from) ≡ at = omega (arith, le) in
    let after : drop (at - from) (drop from bytes) ≡ drop at bytes = drop-drop (at - from) from bytes ∙ ap (λ (k : ℕ). drop k bytes) place in
    let joined : between from (at + n) bytes ≡ between from at bytes ++ replicate n b
    = ap (λ (k : ℕ). take k (drop from bytes)) sum ∙ take-add (at - from) n (drop from bytes) ∙ ap (λ (xs : List ℕ). between from at bytes ++ take n xs) after ∙ ap (λ (xs : List ℕ). between from at bytes ++ xs) same in
    ap (λ (xs : List ℕ). written ++ groups_spelling (before_groups xs gs)) joined
    ∙ ap (λ (hs : List Group). written ++ groups_spelling hs) (before_before (between from at bytes) (replicate n b) gs ∙ ap (before_groups (between from at bytes)) (sym run_first))
    ∙ kept

-- a run that has a group of its own, after what is before it
pub kept_long : (written bytes all one : List ℕ) (from at n b : ℕ) → from ≤ at → LONG_RUN ≤ n → runs_of (drop at bytes) ≡ run b n ∷ runs_of (drop n (drop at bytes)) → one ≡ b ∷ [] → Kept written bytes from at all →
    Kept (written ++ groups_spelling (before_groups (between from at bytes) []) ++ group_spelling (record { times = n; bytes = one })) bytes (at + n) (at + n) all
kept_long written bytes all one from at n b le long is byte kept =
    let gs = groups_of_runs (runs_of (drop (at + n) bytes)) in
    let xs = between from at bytes in
    let g = many n b in
    let test : ltb n LONG_RUN ≡ false = le-ltb n LONG_RUN long in
    let run_first : groups_of_runs (runs_of (drop at bytes)) ≡ g ∷ gs = after_run bytes at n b is ∙ ap (λ (t : Bool). cond t (before_groups (replicate n b) gs) (g ∷ gs)) test in
    let split : written ++ (groups_spelling (before_groups xs []) ++ groups_spelling (g ∷ gs)) ≡ all
    = ap (λ (ys : List ℕ). written ++ ys) (sym (before_many xs g gs (λ e. omega (arith, long, e)))) ∙ ap (λ (hs : List Group). written ++ groups_spelling (before_groups xs hs)) (sym run_first) ∙ kept in
    ap (λ (ys : List ℕ). (written ++ groups_spelling (before_groups xs []) ++ group_spelling (record { times = n; bytes = ys })) ++ groups_spelling (before_groups (between (at + n) (at + n) bytes) gs)) byte
    ∙ ap (λ (ys : List ℕ). (written ++ groups_spelling (before_groups xs []) ++ group_spelling g) ++ groups_spelling (before_groups ys gs)) (between_none bytes (at + n))
    ∙ append_assoc (written ++ groups_spelling (before_groups xs [])) (group_spelling g) (groups_spelling gs)
    ∙ append_assoc written (groups_spelling (before_groups xs [])) (group_spelling g ++ groups_spelling gs)
    ∙ split

-- the byte at a place
pub byte_at : (bytes : List ℕ) (at : ℕ) → at < length bytes → between at (at + 1) bytes ≡ get_or (drop at bytes) 0 0 ∷ []
byte_at bytes at lt =
    between_more bytes at at 0 (omega arith) lt ∙ ap (λ (xs : List ℕ). xs ++ get_or bytes at 0 ∷ []) (between_none bytes at) ∙ ap (λ (b : ℕ). b ∷ []) (sym (ap (λ (xs : List ℕ). get_or xs 0 0) (drop_more bytes at 0 lt)))
