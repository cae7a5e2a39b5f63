-- Objects that are placed one after another, and the ranges that are taken in between.
use Rattle.std.proofs.Common.{Vec, Global, ◌≡◌, ℕ, suc, ◌+◌, ◌<◌, ◌≤◌, ◌∙◌, ◌&&◌, Bool, true, false, List, [], ◌∷◌, ◌++◌, length, drop, find, cond, Option, Some, None, Result, Ok, Err, get_or, arith, sym, ap, refl, append_assoc, length-append}
use Rattle.std.proofs.Math.Seq.{drop-cons}
use Rattle.std.proofs.lemmas.List.{drop_all, append-nil}
use Rattle.std.proofs.lemmas.Bool.{both_ways}
use Rattle.std.proofs.lemmas.List.Sums.{AllPass-from_list_all, list_all-from_AllPass}
use Rattle.std.proofs.lemmas.List.Sorted.{All-permutation, IsPermutation-sym, IsPermutation-trans, IsPermutation-append_left, IsPermutation-refl}
use Rattle.std.specs.Prelude.{IfSome}
use Rattle.std.specs.List.{list_all}
use Rattle.std.specs.List.Sorted.{IsPermutation}
use Rattle.lx_types.specs.declared.fail.Fail.{Fail}
use Rattle.lx_types.specs.declared.fail.Fail.TheVariants.{Said, NoMemory}
use Rattle.lx_types.specs.Answers.{Answers, if_said}
use Rattle.lx_types.specs.declared.object.ObjHead.{ObjHead}
use Rattle.base_pick.specs.declared.occupied.AddressRange.{AddressRange}
use Rattle.base_pick.specs.declared.picking.ArenaFull.{ArenaFull}
use Rattle.base_pick.specs.Places.{is_in_arena, is_place, are_apart, range_at, bases_in, place_of, places_from, with_base}

-- ---- the order of the ranges does not matter

list_all-moved : (p : AddressRange → Bool) (xs ys : List AddressRange) → IsPermutation xs ys → (b c : Bool) → list_all p xs ≡ b → list_all p ys ≡ c → b ≡ c
list_all-moved p xs ys moved true true e f = refl
list_all-moved p xs ys moved false false e f = refl
list_all-moved p xs ys moved true false e f =
    absurd (both_ways (list_all p ys) f (list_all-from_AllPass p ys (All-permutation (λ x. p x ≡ true) xs ys moved (AllPass-from_list_all p xs e))))
list_all-moved p xs ys moved false true e f =
    absurd (both_ways (list_all p xs) e (list_all-from_AllPass p xs (All-permutation (λ x. p x ≡ true) ys xs (IsPermutation-sym xs ys moved) (AllPass-from_list_all p ys f))))

pub find-same : (p q : ℕ → Bool) → ((x : ℕ) → p x ≡ q x) → (xs : List ℕ) → find p xs ≡ find q xs
find-same p q same [] = refl
find-same p q same (x ∷ xs) = ap (λ b. cond b (Some x) (find p xs)) (same x) ∙ ap (λ o. cond (q x) (Some x) o) (find-same p q same xs)

pub place_of-moved : (arena : AddressRange) (xs ys : List AddressRange) (o : ObjHead) → IsPermutation xs ys → place_of arena xs o ≡ place_of arena ys o
place_of-moved arena xs ys o moved =
    find-same (is_place arena xs o.size) (is_place arena ys o.size)
    (λ base. ap (λ b. is_in_arena arena o.size base && b) (list_all-moved (are_apart (range_at base o.size)) xs ys moved _ _ refl refl))
    (o.base ∷ bases_in arena)

-- ---- one object more

-- what was placed, in front of what follows
abbrev pub after : List ℕ → Result (List ℕ) ArenaFull → Result (List ℕ) ArenaFull
after bases (Ok more) = Ok (bases ++ more)
after bases (Err full) = Err full

after-with_base : (bases : List ℕ) (base : ℕ) (r : Result (List ℕ) ArenaFull) → after bases (with_base base r) ≡ after (bases ++ base ∷ []) r
after-with_base bases base (Ok more) = ap Ok (sym (append_assoc bases (base ∷ []) more))
after-with_base bases base (Err full) = refl

-- The first n objects are placed: what is taken now, in any order, and what is left to do.
pub record IsPlaced (arena : AddressRange) (occupied : List AddressRange) (objects : List ObjHead) (n : ℕ) (ranges : List AddressRange) (bases : List ℕ) : Type 0 where
  pub taken : List AddressRange
  pub moved : IsPermutation taken ranges
  pub count : length bases ≡ n
  pub rest : places_from arena occupied 1 objects ≡ after bases (places_from arena taken (1 + n) (drop n objects))

after-nothing : (r : Result (List ℕ) ArenaFull) → after [] r ≡ r
after-nothing (Ok more) = refl
after-nothing (Err full) = refl

pub IsPlaced-first : (arena : AddressRange) (occupied : List AddressRange) (objects : List ObjHead) → IsPlaced arena occupied objects 0 occupied []
IsPlaced-first arena occupied objects = record {
  taken = occupied;
  moved = IsPermutation-refl occupied;
  count = refl;
  rest = sym (after-nothing (places_from arena occupied 1 objects));
}

-- the first object is placed, or has no place
placed_by : AddressRange → List AddressRange → ℕ → ObjHead → List ObjHead → Option ℕ → Result (List ℕ) ArenaFull
placed_by arena taken number o others (Some base) = with_base base (places_from arena (taken ++ range_at base o.size ∷ []) (number + 1) others)
placed_by arena taken number o others None = Err (record { object = number; size = o.size })

places_from-cons : (arena : AddressRange) (taken : List AddressRange) (number : ℕ) (o : ObjHead) (others : List ObjHead) (place : Option ℕ) → place_of arena taken o ≡ place →
    places_from arena taken number (o ∷ others) ≡ placed_by arena taken number o others place
unfolding places_from placed_by
places_from-cons arena taken number o others (Some base) is = rw (places_from, is) refl
places_from-cons arena taken number o others None is = rw (places_from, is) refl

next_is : (arena : AddressRange) (objects : List ObjHead) (n : ℕ) (taken sorted : List AddressRange) (d : ObjHead) (place : Option ℕ) → n < length objects →
    IsPermutation taken sorted → place_of arena sorted (get_or objects n d) ≡ place →
    places_from arena taken (1 + n) (drop n objects) ≡ placed_by arena taken (1 + n) (get_or objects n d) (drop (suc n) objects) place
next_is arena objects n taken sorted d place in_list order is =
    ap (places_from arena taken (1 + n)) (drop-cons objects n d in_list)
    ∙ places_from-cons arena taken (1 + n) (get_or objects n d) (drop (suc n) objects) place (place_of-moved arena taken sorted (get_or objects n d) order ∙ is)

pub IsPlaced-more : (arena : AddressRange) (occupied : List AddressRange) (objects : List ObjHead) (n : ℕ) (ranges sorted : List AddressRange) (bases : List ℕ) (base : ℕ) (d : ObjHead) →
    IsPlaced arena occupied objects n ranges bases → n < length objects → IsPermutation ranges sorted → place_of arena sorted (get_or objects n d) ≡ Some base →
    IsPlaced arena occupied objects (n + 1) (sorted ++ range_at base (get_or objects n d).size ∷ []) (bases ++ base ∷ [])
unfolding placed_by
IsPlaced-more arena occupied objects n ranges sorted bases base d placed in_list order place =
    let range : List AddressRange = range_at base (get_or objects n d).size ∷ [] in
    let both : IsPermutation placed.taken sorted = IsPermutation-trans placed.taken ranges sorted placed.moved order in
    let number : (1 + n) + 1 ≡ 1 + (n + 1) = omega arith in
    let count : suc n ≡ n + 1 = omega arith in
    record {
      taken = placed.taken ++ range;
      moved = IsPermutation-append_left range placed.taken sorted both;
      count = length-append bases (base ∷ []) ∙ ap (λ k. k + 1) placed.count;
      rest = placed.rest ∙ ap (after bases) (next_is arena objects n placed.taken sorted d (Some base) in_list both place)
          ∙ after-with_base bases base (places_from arena (placed.taken ++ range) ((1 + n) + 1) (drop (suc n) objects))
          ∙ ap (λ k. after (bases ++ base ∷ []) (places_from arena (placed.taken ++ range) k (drop (suc n) objects))) number
          ∙ ap (λ k. after (bases ++ base ∷ []) (places_from arena (placed.taken ++ range) (1 + (n + 1)) (drop k objects))) count;
    }

pub IsPlaced-full : (arena : AddressRange) (occupied : List AddressRange) (objects : List ObjHead) (n : ℕ) (ranges sorted : List AddressRange) (bases : List ℕ) (d : ObjHead) →
    IsPlaced arena occupied objects n ranges bases → n < length objects → IsPermutation ranges sorted → place_of arena sorted (get_or objects n d) ≡ None →
    places_from arena occupied 1 objects ≡ Err (record { object = length bases + 1; size = (get_or objects n d).size })
unfolding placed_by
IsPlaced-full arena occupied objects n ranges sorted bases d placed in_list order place =
    let both : IsPermutation placed.taken sorted = IsPermutation-trans placed.taken ranges sorted placed.moved order in
    let number : 1 + n ≡ length bases + 1 = omega (arith, placed.count) in
    let full : ℕ → Result (List ℕ) ArenaFull = λ k. Err (record { object = k; size = (get_or objects n d).size }) in
    placed.rest ∙ ap (after bases) (next_is arena objects n placed.taken sorted d None in_list both place) ∙ ap full number

pub IsPlaced-all : (arena : AddressRange) (occupied : List AddressRange) (objects : List ObjHead) (n : ℕ) (ranges : List AddressRange) (bases : List ℕ) →
    IsPlaced arena occupied objects n ranges bases → length objects ≤ n → places_from arena occupied 1 objects ≡ Ok bases
unfolding places_from
IsPlaced-all arena occupied objects n ranges bases placed all =
    placed.rest ∙ ap (λ os. after bases (places_from arena placed.taken (1 + n) os)) (drop_all n objects all) ∙ ap Ok (append-nil bases)

-- ---- an object without a place is told

pub refused : (f : Fail ArenaFull) (bases : Result (List ℕ) ArenaFull) (full : ArenaFull) → bases ≡ Err full → IfSome (if_said f) (λ told. told ≡ full) →
    Answers {A = Vec ℕ Global} (Err f) (λ all. bases ≡ Ok all.items) (λ told. bases ≡ Err told)
refused (Said told) bases full is same = is ∙ ap (λ (x : ArenaFull). Err x) (sym same)
refused NoMemory bases full is same = tt

-- ---- one object alone

pub only-placed : (arena : AddressRange) (occupied : List AddressRange) (o : ObjHead) (base : ℕ) → place_of arena occupied o ≡ Some base →
    places_from arena occupied 1 (o ∷ []) ≡ Ok (base ∷ [])
unfolding placed_by places_from
only-placed arena occupied o base place = places_from-cons arena occupied 1 o [] (Some base) place

pub only-full : (arena : AddressRange) (occupied : List AddressRange) (o : ObjHead) → place_of arena occupied o ≡ None →
    places_from arena occupied 1 (o ∷ []) ≡ Err (record { object = 1; size = o.size })
unfolding placed_by places_from
only-full arena occupied o place = places_from-cons arena occupied 1 o [] None place
