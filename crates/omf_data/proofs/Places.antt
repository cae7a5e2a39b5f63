-- Where names stand among COMDATs, by a table of the first place of each name.
use Rattle.std.proofs.Common.{◌≡◌, ℕ, suc, ◌+◌, ◌<◌, ◌≤◌, Bool, true, false, cond, eqb, List, [], ◌∷◌, ◌++◌, Option, Some, None, length, take, get_or, position, refl, sym, ap, ◌∙◌, arith, inl, inr, true≢false, length-append}
use Rattle.std.specs.Prelude.{not, ◌||◌, bytes_eq, nat_lt, is_some, find}
use Rattle.std.specs.List.{list_any, position_or_len}
use Rattle.std.specs.Option.{option_map, option_or}
use Rattle.std.proofs.lemmas.Bool.{cases_lt, lt-ltb, le-ltb, eq-eqb, ne_eqb}
use Rattle.std.proofs.lemmas.List.{take_more, take-append-le, length-map, map-append, length-take-le}
use Rattle.std.proofs.lemmas.List.Folds.{find-append, position_or_len_push}
use Rattle.std.proofs.Math.Seq.{take-length}
use Rattle.std.proofs.lemmas.Slice.Eq.{bytes_eq-Decides}
use Rattle.obj_types.specs.declared.parts.BegunComdat.{BegunComdat}
use Rattle.omf_model.specs.Items.{begun_names}
use Rattle.name_table.specs.Entries.{is_named, value_named, with_entry}
use Rattle.omf_data.specs.declared.begun.BegunPlaces.{BegunPlaces}
use Rattle.omf_data.specs.Begun.{HavePlaces}

-- ---- one more name in a table

abbrev when : Bool → ℕ → Option ℕ
when test value = cond test (Some value) None

has_value : (name : List ℕ) (es : List (List ℕ × ℕ)) → list_any (is_named name) es ≡ is_some (value_named name es)
has_value name [] = refl
has_value name (e ∷ es) = by (is_named name e) (find (is_named name) es) (list_any (is_named name) es) (has_value name es)
  where
    by : (b : Bool) (o : Option (List ℕ × ℕ)) (c : Bool) → c ≡ is_some (option_map (λ (x : List ℕ × ℕ). x.1) o) → (b || c) ≡ is_some (option_map (λ (x : List ℕ × ℕ). x.1) (cond b (Some e) o))
    by true o c h = refl
    by false o c h = h

or_self : (o : Option ℕ) (b : Bool) (v : ℕ) → (b ≡ true → is_some o ≡ true) → o ≡ option_or o (when b v)
or_self (Some x) b v h = refl
or_self None true v h = absurd (true≢false (sym (h refl)))
or_self None false v h = refl

value_or : (name n : List ℕ) (v : ℕ) (b : Bool) (o : Option (List ℕ × ℕ)) → option_map (λ (x : List ℕ × ℕ). x.1) (option_or o (cond b (Some (n, v)) None)) ≡ option_or (option_map (λ (x : List ℕ × ℕ). x.1) o) (when b v)
value_or name n v b (Some x) = refl
value_or name n v true None = refl
value_or name n v false None = refl

entry_by : (name n : List ℕ) (v : ℕ) (es : List (List ℕ × ℕ)) (b : Bool) → list_any (is_named n) es ≡ b → value_named name (cond b es (es ++ (n, v) ∷ [])) ≡ option_or (value_named name es) (when (bytes_eq name n) v)
entry_by name n v es true e =
    or_self (value_named name es) (bytes_eq name n) v
    (λ is. ap (λ (m : List ℕ). is_some (value_named m es)) ((bytes_eq-Decides name n).0 is) ∙ (sym (has_value n es) ∙ e))
entry_by name n v es false e =
    ap (option_map (λ (x : List ℕ × ℕ). x.1)) (find-append (is_named name) es ((n, v) ∷ []))
    ∙ value_or name n v (bytes_eq name n) (find (is_named name) es)

more_entry : (name n : List ℕ) (v : ℕ) (es : List (List ℕ × ℕ)) → value_named name (with_entry es n v) ≡ option_or (value_named name es) (when (bytes_eq name n) v)
more_entry name n v es = entry_by name n v es (list_any (is_named n) es) refl

-- ---- one more name in a list

pub not_past : {X : Type 0} (p : X → Bool) (xs : List X) → position_or_len p xs ≤ length xs
not_past p [] = omega arith
not_past p (x ∷ xs) = by (p x) (position_or_len p xs) (length xs) (not_past p xs)
  where
    by : (b : Bool) (k n : ℕ) → k ≤ n → cond (not b) (1 + k) 0 ≤ suc n
    by true k n h = omega arith
    by false k n h = omega (arith, h)

place_of : ℕ → ℕ → Option ℕ
place_of k n = cond (nat_lt k n) (Some k) None

push_by : (k n : ℕ) (b : Bool) → k ≤ n → place_of (cond (eqb k n) (n + cond b 0 1) k) (n + 1) ≡ option_or (place_of k n) (when b n)
unfolding place_of
push_by k n b le =
    elim (cases_lt k n) [
      | inl lt ↦ rw (ne_eqb k n (λ same. omega (arith, lt, same)), lt-ltb k n lt, lt-ltb k (n + 1) (omega (arith, lt))) refl
      | inr ge ↦
          let same : k ≡ n = omega (arith, le, ge) in
          rw (eq-eqb k n same, le-ltb k n ge) (last b)
    ]
  where
    last : (t : Bool) → cond (nat_lt (n + cond t 0 1) (n + 1)) (Some (n + cond t 0 1)) None ≡ when t n
    last true = let here : n + 0 ≡ n = omega arith in rw (here, lt-ltb n (n + 1) (omega arith)) refl
    last false = rw (le-ltb (n + 1) (n + 1) (omega arith)) refl

position-push : {X : Type 0} (p : X → Bool) (xs : List X) (y : X) → position p (xs ++ y ∷ []) ≡ option_or (position p xs) (when (p y) (length xs))
unfolding place_of
position-push p xs y =
    (λ i. place_of (position_or_len_push p xs y i) (length-append xs (y ∷ []) i))
    ∙ push_by (position_or_len p xs) (length xs) (p y) (not_past p xs)

-- ---- COMDATs

pub places-more : (b : BegunPlaces) (xs ys : List BegunComdat) → HavePlaces b xs → HavePlaces b (xs ++ ys)
places-more b xs ys have = record {
  seen = omega (arith, have.seen, length-append xs ys);
  places = λ name. have.places name ∙ ap (λ (zs : List BegunComdat). position (bytes_eq name) (begun_names zs)) (sym (take-append-le b.seen xs ys have.seen));
}

-- one more
pub place-seen : (b : BegunPlaces) (begun : List BegunComdat) (own : BegunComdat) (places : List (List ℕ × ℕ)) → b.seen < length begun → own ≡ get_or begun b.seen own → HavePlaces b begun
    → places ≡ with_entry b.places own.name b.seen → HavePlaces (record b { seen = b.seen + 1; places = places }) begun
place-seen b begun own places lt is have more =
    let names : List (List ℕ) = begun_names (take b.seen begun) in
    let count : length names ≡ b.seen = length-map (take b.seen begun) (λ (c : BegunComdat). c.name) ∙ length-take-le b.seen begun have.seen in
    let one : take (b.seen + 1) begun ≡ take b.seen begun ++ own ∷ [] = take_more begun b.seen own lt ∙ ap (λ (c : BegunComdat). take b.seen begun ++ c ∷ []) (sym is) in
    let named : begun_names (take (b.seen + 1) begun) ≡ names ++ own.name ∷ [] = ap begun_names one ∙ map-append (λ (c : BegunComdat). c.name) (take b.seen begun) (own ∷ []) in
    record {
      seen = omega (arith, lt);
      places = λ name.
          ap (value_named name) more ∙ more_entry name own.name b.seen b.places
          ∙ (λ i. option_or (have.places name i) (when (bytes_eq name own.name) (sym count i)))
          ∙ sym (position-push (bytes_eq name) names own.name)
          ∙ ap (position (bytes_eq name)) (sym named);
    }

-- all were seen

place_is : (k n place : ℕ) → Some place ≡ place_of k n → place ≡ k
unfolding place_of
place_is k n place e =
    elim (cases_lt k n) [
      | inl lt ↦ let here : Some place ≡ Some k = e ∙ ap (λ (b : Bool). cond b (Some k) None) (lt-ltb k n lt) in cc
      | inr ge ↦ let none : Some place ≡ None = e ∙ ap (λ (b : Bool). cond b (Some k) None) (le-ltb k n ge) in absurd cc
    ]

none_is : (k n : ℕ) → k ≤ n → None ≡ place_of k n → n ≡ k
unfolding place_of
none_is k n le e =
    elim (cases_lt k n) [
      | inl lt ↦ let here : None ≡ Some k = e ∙ ap (λ (b : Bool). cond b (Some k) None) (lt-ltb k n lt) in absurd cc
      | inr ge ↦ omega (arith, le, ge)
    ]

module _ (b : BegunPlaces) (begun : List BegunComdat) (have : HavePlaces b begun) (all : b.seen ≡ length begun) (name : List ℕ) where
  value-is : value_named name b.places ≡ position (bytes_eq name) (begun_names begun)
  value-is = have.places name ∙ ap (λ (zs : List BegunComdat). position (bytes_eq name) (begun_names zs)) (ap (λ (n : ℕ). take n begun) all ∙ take-length begun)

  pub place-found : (place : ℕ) → value_named name b.places ≡ Some place → place ≡ position_or_len (bytes_eq name) (begun_names begun)
  unfolding place_of
  place-found place e = place_is _ (length (begun_names begun)) place (sym e ∙ value-is)

  pub place-after : value_named name b.places ≡ None → b.seen ≡ position_or_len (bytes_eq name) (begun_names begun)
  unfolding place_of
  place-after e =
      all ∙ sym (length-map begun (λ (c : BegunComdat). c.name))
      ∙ none_is _ (length (begun_names begun)) (not_past (bytes_eq name) (begun_names begun)) (sym e ∙ value-is)
