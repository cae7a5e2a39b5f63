-- Tables by first appearance that hold keys of the program in place of those of the rules.
use Rattle.std.specs.Prelude.{◌≡◌, ℕ, ◌+◌, ◌<◌, Bool, true, false, cond, not, ◌||◌, List, [], ◌∷◌, ◌++◌, Some, None, nat_lt, map, length, position, refl}
use Rattle.std.specs.List.{list_any, position_or_len, All}
use Rattle.std.proofs.lemmas.List.Elements.{All-cons}
use Rattle.name_table.proofs.Shown.{any-place}
use Rattle.std.specs.Cmp.{IsEquivalence}
use Rattle.std.proofs.Common.{ap, sym, ◌∙◌, arith}
use Rattle.std.proofs.lemmas.List.{map-append, length-map}
use Rattle.link_model.specs.Appearance.{firsts, firsts_by}
use Rattle.link_model.proofs.Tables.{firsts-push, any-firsts, place_kept}
use Rattle.link_types.proofs.Lists.{firsts-keys}
use Rattle.std.proofs.lemmas.Bool.{or_right, ltb-true}
use Rattle.link_model.specs.declared.keys.SegmentKey.{SegmentKey}
use Rattle.link_model.specs.Parts as rules
use Rattle.link_model.proofs.KeyTests.{equivalence, segment_keys, joining}
use Rattle.seg_parts.specs.declared.parts.Part.{Part}
use Rattle.seg_parts.specs.declared.logical_segments.SegmentName.{SegmentName}
use Rattle.seg_parts.specs.Parts.{shown}
use Rattle.seg_parts.specs.LogicalSegments.{name_shown, places, heads_of, numbers_of, AreSegmentsOf}

-- A test of the program's keys is one of the rules' keys.
abbrev pub Shows : {N K : Type 0} → (N → N → Bool) → (K → K → Bool) → (N → K) → Type 0
Shows {N} {K} eq same f = (a b : N) → eq a b ≡ same (f a) (f b)

pub any-shown : {N K : Type 0} (eq : N → N → Bool) (same : K → K → Bool) (f : N → K) → Shows eq same f → (k : N) (ns : List N) → list_any (eq k) ns ≡ list_any (same (f k)) (map f ns)
any-shown eq same f h k [] = refl
any-shown eq same f h k (n ∷ ns) =
    ap (λ (b : Bool). b || list_any (eq k) ns) (h k n) ∙ ap (λ (b : Bool). same (f k) (f n) || b) (any-shown eq same f h k ns)

pub place-shown : {N K : Type 0} (eq : N → N → Bool) (same : K → K → Bool) (f : N → K) → Shows eq same f → (k : N) (ns : List N) → position_or_len (eq k) ns ≡ position_or_len (same (f k)) (map f ns)
place-shown eq same f h k [] = refl
place-shown eq same f h k (n ∷ ns) =
    ap (λ (b : Bool). cond (not b) (1 + position_or_len (eq k) ns) 0) (h k n)
    ∙ ap (λ (m : ℕ). cond (not (same (f k) (f n))) (1 + m) 0) (place-shown eq same f h k ns)

mapped_cond : {N K : Type 0} (f : N → K) (ns : List N) (k : N) (b : Bool) → map f (cond b ns (ns ++ k ∷ [])) ≡ cond b (map f ns) (map f ns ++ f k ∷ [])
mapped_cond f ns k true = refl
mapped_cond f ns k false = map-append f ns (k ∷ [])

-- One more key.
pub keys-push : {N K : Type 0} (eq : N → N → Bool) (same : K → K → Bool) (f : N → K) → Shows eq same f → IsEquivalence same → (ns : List N) (ks : List K) (k : N) → map f ns ≡ firsts same ks →
    map f (cond (list_any (eq k) ns) ns (ns ++ k ∷ [])) ≡ firsts same (ks ++ f k ∷ [])
keys-push {N} {K} eq same f h eqv ns ks k e =
    mapped_cond f ns k (list_any (eq k) ns)
    ∙ ap (λ (b : Bool). cond b (map f ns) (map f ns ++ f k ∷ [])) (any-shown eq same f h k ns)
    ∙ ap (λ (t : List K). cond (list_any (same (f k)) t) t (t ++ f k ∷ [])) e
    ∙ sym (firsts-push eqv ks (f k))

-- ---- the first items of keys

pub any-keys : {X K : Type 0} (same : K → K → Bool) (key : X → K) (k : K) (xs : List X) → list_any (λ y. same k (key y)) xs ≡ list_any (same k) (map key xs)
any-keys same key k [] = refl
any-keys same key k (x ∷ xs) = ap (λ (b : Bool). same k (key x) || b) (any-keys same key k xs)

pub heads-push : {X K : Type 0} (same : K → K → Bool) (key : X → K) → IsEquivalence (λ a b. same (key a) (key b)) → (xs : List X) (x : X) →
    firsts_by same key (xs ++ x ∷ []) ≡ cond (list_any (same (key x)) (firsts same (map key xs))) (firsts_by same key xs) (firsts_by same key xs ++ x ∷ [])
heads-push {X} {K} same key eqv xs x =
    firsts-push eqv xs x
    ∙ ap (λ (b : Bool). cond b (firsts_by same key xs) (firsts_by same key xs ++ x ∷ []))
    (any-keys same key (key x) (firsts_by same key xs) ∙ ap (list_any (same (key x))) (firsts-keys key same xs))

-- ---- places

place_by : {X : Type 0} (test : X → Bool) (ys : List X) (x : X) (b : Bool) → list_any test ys ≡ true → position_or_len test (cond b ys (ys ++ x ∷ [])) ≡ position_or_len test ys
place_by test ys x true e = refl
place_by test ys x false e = place_kept test ys (x ∷ []) e

-- A key that is among these keeps its place when one more comes.
pub place-stays : {K : Type 0} (same : K → K → Bool) → IsEquivalence same → (ks : List K) (k j : K) → list_any (same j) ks ≡ true → position_or_len (same j) (firsts same (ks ++ k ∷ [])) ≡ position_or_len (same j) (firsts same ks)
place-stays {K} same eqv ks k j e =
    ap (position_or_len (same j)) (firsts-push eqv ks k)
    ∙ place_by (same j) (firsts same ks) k (list_any (same k) (firsts same ks)) (any-firsts eqv j ks ∙ e)

after_by : {X : Type 0} (test : X → Bool) (m n : ℕ) (b : Bool) (rest : Bool) → (b || rest) ≡ false → (rest ≡ false → m ≡ n) → cond (not b) (1 + m) 0 ≡ cond (not b) (1 + n) 0
after_by test m n true rest e h = refl
after_by test m n false rest e h = ap (λ (k : ℕ). 1 + k) (h e)

pub place-last : {X : Type 0} (test : X → Bool) (ys : List X) (x : X) → list_any test ys ≡ false → test x ≡ true → position_or_len test (ys ++ x ∷ []) ≡ position_or_len test ys
place-last test [] x e is = ap (λ (b : Bool). cond (not b) (1 + 0) 0) is
place-last test (y ∷ ys) x e is =
    after_by test (position_or_len test (ys ++ x ∷ [])) (position_or_len test ys) (test y) (list_any test ys) e (λ f. place-last test ys x f is)

new_by : {X : Type 0} (test : X → Bool) (ys : List X) (x : X) (b : Bool) → list_any test ys ≡ b → test x ≡ true → position_or_len test (cond b ys (ys ++ x ∷ [])) ≡ position_or_len test ys
new_by test ys x true e is = refl
new_by test ys x false e is = place-last test ys x e is

-- One more key stands where it was, or after the table.
pub place-push : {K : Type 0} (same : K → K → Bool) → IsEquivalence same → (ks : List K) (k : K) → position_or_len (same k) (firsts same (ks ++ k ∷ [])) ≡ position_or_len (same k) (firsts same ks)
place-push {K} same eqv ks k =
    ap (position_or_len (same k)) (firsts-push eqv ks k) ∙ new_by (same k) (firsts same ks) k (list_any (same k) (firsts same ks)) refl (eqv.refl k)

same_places : {K : Type 0} (same : K → K → Bool) → IsEquivalence same → (all : List K) (k : K) (ks : List K) → ((j : K) → list_any (same j) ks ≡ true → list_any (same j) all ≡ true) →
    map (λ j. position_or_len (same j) (firsts same (all ++ k ∷ []))) ks ≡ map (λ j. position_or_len (same j) (firsts same all)) ks
same_places same eqv all k [] within = refl
same_places {K} same eqv all k (j ∷ ks) within =
    ap (λ (n : ℕ). n ∷ map (λ i. position_or_len (same i) (firsts same (all ++ k ∷ []))) ks)
    (place-stays same eqv all k j (within j (ap (λ (b : Bool). b || list_any (same j) ks) (eqv.refl j))))
    ∙ ap (λ (t : List ℕ). position_or_len (same j) (firsts same all) ∷ t)
    (same_places same eqv all k ks (λ i e. within i (or_right (same i j) (list_any (same i) ks) e)))

-- One more key has its place, and those before it keep theirs.
pub places-push : {K : Type 0} (same : K → K → Bool) → IsEquivalence same → (ks : List K) (k : K) →
    places same (ks ++ k ∷ []) ≡ places same ks ++ position_or_len (same k) (firsts same ks) ∷ []
places-push {K} same eqv ks k =
    map-append (λ (j : K). position_or_len (same j) (firsts same (ks ++ k ∷ []))) ks (k ∷ [])
    ∙ ap (λ (n : ℕ). map (λ (j : K). position_or_len (same j) (firsts same (ks ++ k ∷ []))) ks ++ n ∷ []) (place-push same eqv ks k)
    ∙ ap (λ (t : List ℕ). t ++ position_or_len (same k) (firsts same ks) ∷ []) (same_places same eqv ks k ks (λ j e. e))

-- ---- parts

pub segments_equal : IsEquivalence rules.same_segment
segments_equal = equivalence segment_keys (λ (k : SegmentKey). k)

-- One more part: the names of logical segments, their heads, and the number of each part's.
pub parts-push : (eq : SegmentName → SegmentName → Bool) → Shows eq rules.same_segment name_shown → (names : List SegmentName) (ps hs : List Part) (ns : List ℕ) (p : Part) (k : SegmentName) →
    AreSegmentsOf names ps hs ns → name_shown k ≡ rules.segment_key (shown p) →
    AreSegmentsOf (cond (list_any (eq k) names) names (names ++ k ∷ [])) (ps ++ p ∷ []) (cond (list_any (eq k) names) hs (hs ++ p ∷ [])) (ns ++ position_or_len (eq k) names ∷ [])
parts-push eq h names ps hs ns p k old is =
    let keys : List SegmentKey = map rules.segment_key (map shown ps) in
    let key : SegmentKey = rules.segment_key (shown p) in
    let one : map shown (ps ++ p ∷ []) ≡ map shown ps ++ shown p ∷ [] = map-append shown ps (p ∷ []) in
    let all : map rules.segment_key (map shown (ps ++ p ∷ [])) ≡ keys ++ key ∷ [] =
    ap (map rules.segment_key) one ∙ map-append rules.segment_key (map shown ps) (shown p ∷ []) in
    let there : list_any (eq k) names ≡ list_any (rules.same_segment key) (firsts rules.same_segment keys) =
    any-shown eq rules.same_segment name_shown h k names ∙ ap (λ (t : List SegmentKey). list_any (rules.same_segment (name_shown k)) t) old.names_are
    ∙ ap (λ (j : SegmentKey). list_any (rules.same_segment j) (firsts rules.same_segment keys)) is in
    let at : position_or_len (eq k) names ≡ position_or_len (rules.same_segment key) (firsts rules.same_segment keys) =
    place-shown eq rules.same_segment name_shown h k names ∙ ap (λ (t : List SegmentKey). position_or_len (rules.same_segment (name_shown k)) t) old.names_are
    ∙ ap (λ (j : SegmentKey). position_or_len (rules.same_segment j) (firsts rules.same_segment keys)) is in
    record {
      names_are =
          keys-push eq rules.same_segment name_shown h segments_equal names keys k old.names_are
          ∙ ap (λ (j : SegmentKey). firsts rules.same_segment (keys ++ j ∷ [])) is ∙ ap (firsts rules.same_segment) (sym all);
      heads_are =
          mapped_choice shown hs p (list_any (eq k) names)
          ∙ ap (λ (t : List rules.Part). cond (list_any (eq k) names) t (t ++ shown p ∷ [])) old.heads_are
          ∙ ap (λ (b : Bool). cond b (heads_of (map shown ps)) (heads_of (map shown ps) ++ shown p ∷ [])) there
          ∙ sym (heads-push rules.same_segment rules.segment_key joining (map shown ps) (shown p))
          ∙ ap heads_of (sym one);
      numbers_are =
          ap (λ (t : List ℕ). t ++ position_or_len (eq k) names ∷ []) old.numbers_are
          ∙ ap (λ (n : ℕ). numbers_of (map shown ps) ++ n ∷ []) at
          ∙ sym (places-push rules.same_segment segments_equal keys key)
          ∙ ap (places rules.same_segment) (sym all);
    }
  where
    mapped_choice : {X Y : Type 0} (f : X → Y) (xs : List X) (x : X) (b : Bool) → map f (cond b xs (xs ++ x ∷ [])) ≡ cond b (map f xs) (map f xs ++ f x ∷ [])
    mapped_choice f xs x true = refl
    mapped_choice f xs x false = map-append f xs (x ∷ [])

pub moved : (names names2 : List SegmentName) (ps ps2 hs hs2 : List Part) (ns ns2 : List ℕ) → names2 ≡ names → ps2 ≡ ps → hs2 ≡ hs → ns2 ≡ ns → AreSegmentsOf names ps hs ns → AreSegmentsOf names2 ps2 hs2 ns2
moved names names2 ps ps2 hs hs2 ns ns2 e f g h old =
    record {
      names_are = ap (map name_shown) e ∙ old.names_are ∙ ap (λ (t : List Part). firsts rules.same_segment (map rules.segment_key (map shown t))) (sym f);
      heads_are = ap (map shown) g ∙ old.heads_are ∙ ap (λ (t : List Part). heads_of (map shown t)) (sym f);
      numbers_are = h ∙ old.numbers_are ∙ ap (λ (t : List Part). numbers_of (map shown t)) (sym f);
    }

pub position-shown : {N K : Type 0} (eq : N → N → Bool) (same : K → K → Bool) (f : N → K) → Shows eq same f → (k : N) (ns : List N) → position (eq k) ns ≡ position (same (f k)) (map f ns)
position-shown {N} {K} eq same f h k ns =
    ap (λ (n : ℕ). cond (nat_lt n (length ns)) (Some n) None) (place-shown eq same f h k ns)
    ∙ ap (λ (n : ℕ). cond (nat_lt (position_or_len (same (f k)) (map f ns)) n) (Some (position_or_len (same (f k)) (map f ns))) None) (sym (length-map ns f))

places_below : {K : Type 0} (same : K → K → Bool) → (all : List K) (ks : List K) → ((j : K) → list_any (same j) ks ≡ true → list_any (same j) (firsts same all) ≡ true) → IsEquivalence same →
    All (λ n. n < length (firsts same all)) (map (λ j. position_or_len (same j) (firsts same all)) ks)
places_below same all [] within eqv = λ k d lt. absurd (omega arith)
places_below {K} same all (j ∷ ks) within eqv =
    All-cons (λ n. n < length (firsts same all)) (position_or_len (same j) (firsts same all)) (map (λ i. position_or_len (same i) (firsts same all)) ks)
    (ltb-true (position_or_len (same j) (firsts same all)) (length (firsts same all))
    (sym (any-place (same j) (firsts same all)) ∙ within j (ap (λ (b : Bool). b || list_any (same j) ks) (eqv.refl j))))
    (places_below same all ks (λ i e. within i (or_right (same i j) (list_any (same i) ks) e)) eqv)

-- Each place is below the table's length.
pub places-below : {K : Type 0} (same : K → K → Bool) → IsEquivalence same → (ks : List K) → All (λ n. n < length (firsts same ks)) (places same ks)
places-below same eqv ks = places_below same ks ks (λ j e. any-firsts eqv j ks ∙ e) eqv
