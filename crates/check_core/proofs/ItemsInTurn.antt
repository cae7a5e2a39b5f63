-- Items judged one after another.
use Rattle.std.proofs.Common.{◌≡◌, ℕ, ◌+◌, ◌≤◌, ◌<◌, inl, List, [], ◌∷◌, ◌++◌, length, map, take, drop, get_or, Option, Some, None, option_map, refl, sym, ◌∙◌, ap, subst, arith}
use Rattle.std.specs.List.{slice_get}
use Rattle.std.proofs.lemmas.List.{drop_more, drop_all, take_more, take_all, get_or-map, length-map, drop-map}
use Rattle.std.proofs.lemmas.Option.{slice_get-map}
use Rattle.session_model.specs.Merging.{Item}
use Rattle.check_model.specs.declared.kinds.CheckKind.{CheckKind}
use Rattle.check_model.specs.declared.kinds.CheckFault.{CheckFault}
use Rattle.check_model.specs.Told.{Told}
use Rattle.check_model.specs.Places.{Numbered, at_item, item_places}
use Rattle.check_model.specs.Checks.{Judge, process_of}
use Rattle.check_core.specs.declared.items.ToldItem.{ToldItem}
use Rattle.check_core.specs.Judged.{IsJudged}
use Rattle.check_core.specs.ToldItems.{item_of, item_shown, AreNext}
use Rattle.check_core.specs.NextCommands.{AreDone}
use Rattle.check_core.specs.PlayedItems.{IsJudgedItem, IsOneOf, IsOfScript, StandsBefore, next_after}
use Rattle.check_core.proofs.Judged.{judged_more}

-- ---- an item in front of others

abbrev items_in : List Numbered → List Item
items_in xs = map (λ (x : Numbered). x.item) xs

pub item_wrong : (j : Judge) (t : Told) (before : List Item) (x : Numbered) (others : List Numbered) (kind : CheckKind) → IsJudgedItem j t x.low before x.item (items_in others) (Some kind) →
    IsJudged j t (item_places before (x ∷ others)) (Some (record { line = x.number; kind = kind }))
item_wrong j t before x others kind is = inl (record { number_is = refl; kind_is = is })

pub item_right : (j : Judge) (t : Told) (before : List Item) (x : Numbered) (others : List Numbered) (answer : Option CheckFault) → IsJudgedItem j t x.low before x.item (items_in others) None →
    IsJudged j t (item_places (before ++ x.item ∷ []) others) answer → IsJudged j t (item_places before (x ∷ others)) answer
item_right j t before x others answer fine later =
    judged_more j t (record { number = x.number; what = at_item x.low before x.item (items_in others) }) (item_places (before ++ x.item ∷ []) others) answer fine later

-- ---- at a place of all

-- A player stands before the item at a place, and what is said of the items from there on is said of all.
pub record GoesOn (Stands : Judge → List Item → List Item → Type 0) (j : Judge) (t : Told) (items : List Item) (shown : List Numbered) (place : ℕ) (done : List ℕ) : Type 0 where
  pub stands : StandsBefore Stands j (take place items) (drop place items) done
  pub said : (answer : Option CheckFault) → IsJudged j t (item_places (take place items) (drop place shown)) answer → IsJudged j t (item_places [] shown) answer

pub first_goes : (Stands : Judge → List Item → List Item → Type 0) (j : Judge) (t : Told) (items : List Item) (shown : List Numbered) (done : List ℕ) → StandsBefore Stands j [] items done →
    GoesOn Stands j t items shown 0 done
first_goes Stands j t items shown done stands = record { stands = stands; said = λ answer is. is }

-- the items as they are
pub items_shown : (xs : List ToldItem) → items_in (map item_shown xs) ≡ map item_of xs
items_shown [] = refl
items_shown (x ∷ xs) = ap (λ (t : List Item). item_of x ∷ t) (items_shown xs)

cut_items : (xs : List ToldItem) (place : ℕ) (x : ToldItem) → place < length xs → x ≡ get_or xs place x → drop place (map item_of xs) ≡ item_of x ∷ drop (place + 1) (map item_of xs)
cut_items xs place x below at =
    let inside : place < length (map item_of xs) = omega (arith, below, length-map xs item_of) in
    drop_more (map item_of xs) place (item_of x) inside
    ∙ ap (λ (y : Item). y ∷ drop (place + 1) (map item_of xs)) (get_or-map item_of xs place x (item_of x) below ∙ sym (ap item_of at))

cut_shown : (xs : List ToldItem) (place : ℕ) (x : ToldItem) → place < length xs → x ≡ get_or xs place x → drop place (map item_shown xs) ≡ item_shown x ∷ drop (place + 1) (map item_shown xs)
cut_shown xs place x below at =
    let inside : place < length (map item_shown xs) = omega (arith, below, length-map xs item_shown) in
    drop_more (map item_shown xs) place (item_shown x) inside
    ∙ ap (λ (y : Numbered). y ∷ drop (place + 1) (map item_shown xs)) (get_or-map item_shown xs place x (item_shown x) below ∙ sym (ap item_shown at))

later_items : (xs : List ToldItem) (n : ℕ) → items_in (drop n (map item_shown xs)) ≡ drop n (map item_of xs)
later_items xs n = sym (drop-map (λ (x : Numbered). x.item) n (map item_shown xs)) ∙ ap (drop n) (items_shown xs)

grown : (xs : List ToldItem) (place : ℕ) (x : ToldItem) → place < length xs → x ≡ get_or xs place x → take place (map item_of xs) ++ item_of x ∷ [] ≡ take (place + 1) (map item_of xs)
grown xs place x below at =
    let inside : place < length (map item_of xs) = omega (arith, below, length-map xs item_of) in
    sym (take_more (map item_of xs) place (item_of x) inside
    ∙ ap (λ (y : Item). take place (map item_of xs) ++ y ∷ []) (get_or-map item_of xs place x (item_of x) below ∙ sym (ap item_of at)))

pub stands_there : (Stands : Judge → List Item → List Item → Type 0) (j : Judge) (t : Told) (xs : List ToldItem) (place : ℕ) (x : ToldItem) (done : List ℕ) → place < length xs → x ≡ get_or xs place x →
    GoesOn Stands j t (map item_of xs) (map item_shown xs) place done → StandsBefore Stands j (take place (map item_of xs)) (item_of x ∷ drop (place + 1) (map item_of xs)) done
stands_there Stands j t xs place x done below at goes =
    subst (λ (after : List Item). StandsBefore Stands j (take place (map item_of xs)) after done) (cut_items xs place x below at) goes.stands

pub wrong_there : (Stands : Judge → List Item → List Item → Type 0) (j : Judge) (t : Told) (xs : List ToldItem) (place : ℕ) (x : ToldItem) (done : List ℕ) (kind : CheckKind) → place < length xs → x ≡ get_or xs place x →
    GoesOn Stands j t (map item_of xs) (map item_shown xs) place done →
    IsJudgedItem j t (item_shown x).low (take place (map item_of xs)) (item_of x) (drop (place + 1) (map item_of xs)) (Some kind) →
    IsJudged j t (item_places [] (map item_shown xs)) (Some (record { line = (item_shown x).number; kind = kind }))
wrong_there Stands j t xs place x done kind below at goes is =
    goes.said (Some (record { line = (item_shown x).number; kind = kind }))
    (subst (λ (ys : List Numbered). IsJudged j t (item_places (take place (map item_of xs)) ys) (Some (record { line = (item_shown x).number; kind = kind }))) (sym (cut_shown xs place x below at))
    (item_wrong j t (take place (map item_of xs)) (item_shown x) (drop (place + 1) (map item_shown xs)) kind
    (subst (λ (after : List Item). IsJudgedItem j t (item_shown x).low (take place (map item_of xs)) (item_of x) after (Some kind)) (sym (later_items xs (place + 1))) is)))

pub goes_further : (Stands More : Judge → List Item → List Item → Type 0) (j : Judge) (t : Told) (xs : List ToldItem) (place : ℕ) (x : ToldItem) (done more : List ℕ) → place < length xs → x ≡ get_or xs place x →
    GoesOn Stands j t (map item_of xs) (map item_shown xs) place done →
    IsJudgedItem j t (item_shown x).low (take place (map item_of xs)) (item_of x) (drop (place + 1) (map item_of xs)) None →
    StandsBefore More j (take place (map item_of xs) ++ item_of x ∷ []) (drop (place + 1) (map item_of xs)) more →
    GoesOn More j t (map item_of xs) (map item_shown xs) (place + 1) more
goes_further Stands More j t xs place x done more below at goes fine stands = record {
  stands = subst (λ (before : List Item). StandsBefore More j before (drop (place + 1) (map item_of xs)) more) (grown xs place x below at) stands;
  said = λ answer is.
      goes.said answer
      (subst (λ (ys : List Numbered). IsJudged j t (item_places (take place (map item_of xs)) ys) answer) (sym (cut_shown xs place x below at))
      (item_right j t (take place (map item_of xs)) (item_shown x) (drop (place + 1) (map item_shown xs)) answer
      (subst (λ (after : List Item). IsJudgedItem j t (item_shown x).low (take place (map item_of xs)) (item_of x) after None) (sym (later_items xs (place + 1))) fine)
      (subst (λ (before : List Item). IsJudged j t (item_places before (drop (place + 1) (map item_shown xs))) answer) (sym (grown xs place x below at)) is)));
}

-- ---- at the end

pub nothing_left : (Stands : Judge → List Item → List Item → Type 0) (j : Judge) (t : Told) (items : List Item) (shown : List Numbered) (place : ℕ) (done : List ℕ) → length shown ≤ place →
    GoesOn Stands j t items shown place done → IsJudged j t (item_places [] shown) None
nothing_left Stands j t items shown place done all goes =
    goes.said None (subst (λ (ys : List Numbered). IsJudged j t (item_places (take place items) ys) None) (sym (drop_all place shown all)) tt)

pub all_counted : (Stands : Judge → List Item → List Item → Type 0) (j : Judge) (t : Told) (items : List Item) (shown : List Numbered) (place : ℕ) (done : List ℕ) → length items ≤ place →
    GoesOn Stands j t items shown place done → AreDone j items done
all_counted Stands j t items shown place done all goes = subst (λ (ys : List Item). AreDone j ys done) (take_all place items all) goes.stands.counted

-- ---- whose the item is, and what that does next

pub of_script : (j : Judge) (xs : List ToldItem) (next : List ℕ) (place : ℕ) (x : ToldItem) (later : Option ToldItem) (scripts : ℕ) → place < length xs → x ≡ get_or xs place x →
    IsOneOf scripts (process_of (item_of x)) → scripts ≡ length j.scripts → AreNext (map item_of xs) next → later ≡ slice_get xs (get_or next place 0) →
    IsOfScript j (item_of x) (drop (place + 1) (map item_of xs)) (option_map item_of later)
of_script j xs next place x later scripts below at one same are found =
    let inside : place < length (map item_of xs) = omega (arith, below, length-map xs item_of) in
    let here : get_or (map item_of xs) place (item_of x) ≡ item_of x = get_or-map item_of xs place x (item_of x) below ∙ sym (ap item_of at) in
    record {
      least = one.0;
      most = subst (λ (n : ℕ). process_of (item_of x) ≤ n) same one.1;
      next_is =
          ap (option_map item_of) found ∙ sym (slice_get-map item_of xs (get_or next place 0)) ∙ are.next_is place (item_of x) inside
          ∙ ap (λ (y : Item). next_after y (drop (place + 1) (map item_of xs))) here;
    }
