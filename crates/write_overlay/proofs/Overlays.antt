-- One write more.
use Rattle.std.proofs.Common.{◌≡◌, ℕ, ◌+◌, ◌-◌, ◌<◌, ◌==◌, cond, List, [], ◌∷◌, ◌++◌, length, get_or, reverse, take, Option, Some, None, refl, sym, ◌∙◌, ap, arith}
use Rattle.std.specs.Prelude.{◌≤◌, ◌⊎◌, ◌&&◌, min, drop, slice_range, nat_le, nat_lt, slice_get, unwrap_or}
use Rattle.std.proofs.Common.{inl, inr}
use Rattle.std.specs.List.{filter_map, cons_option}
use Rattle.std.proofs.lemmas.Bool.{cases_lt, eq-eqb, ne_eqb, le-leb, lt-leb, le-ltb, lt-ltb}
use Rattle.std.proofs.lemmas.Option.{slice_get-get_or, slice_get_past}
use Rattle.std.proofs.lemmas.List.{reverse-append, ext_get_or, append-nil, length-drop, length-take-le, get_or-take, get_or-drop}
use Rattle.std.proofs.lemmas.List.Elements.{filter_more}
use Rattle.std.proofs.lemmas.List.FromFn.{length-map-range_with_len, get_or-map-range_with_len}
use Rattle.load_model.specs.State.{Written}
use Rattle.load_model.specs.Memory.{last_put, put_at, first_or}
use Rattle.write_overlay.specs.Laid.{writes_to, bytes_under, byte_under, replaced}

first_cons : (b : ℕ) (o : Option ℕ) (ys : List ℕ) → first_or b (cons_option o ys) ≡ unwrap_or o (first_or b ys)
first_cons b (Some y) ys = refl
first_cons b None ys = refl

-- the last write puts its bytes over those of the others
last_more : (ws : List Written) (w : Written) (x b : ℕ) → last_put (ws ++ w ∷ []) x b ≡ unwrap_or (put_at x w) (last_put ws x b)
last_more ws w x b = ap (λ ys. first_or b (filter_map (put_at x) ys)) (reverse-append ws (w ∷ [])) ∙ first_cons b (put_at x w) (filter_map (put_at x) (reverse ws))

-- a write to this object
pub one_more : (ws : List Written) (object i : ℕ) (w : Written) (x b : ℕ) → i < length ws → (get_or ws i w).object ≡ object →
    last_put (writes_to object (take (i + 1) ws)) x b ≡ unwrap_or (put_at x (get_or ws i w)) (last_put (writes_to object (take i ws)) x b)
one_more ws object i w x b h is =
    ap (λ vs. last_put vs x b) (filter_more (λ (v : Written). v.object == object) ws i w h
    ∙ ap (λ t. writes_to object (take i ws) ++ cond t (get_or ws i w ∷ []) []) (eq-eqb (get_or ws i w).object object is))
    ∙ last_more (writes_to object (take i ws)) (get_or ws i w) x b

-- a write to another
pub none_more : (ws : List Written) (object i : ℕ) (w : Written) (x b : ℕ) → i < length ws → ((get_or ws i w).object ≡ object → ⊥) →
    last_put (writes_to object (take (i + 1) ws)) x b ≡ last_put (writes_to object (take i ws)) x b
none_more ws object i w x b h other =
    ap (λ vs. last_put vs x b) (filter_more (λ (v : Written). v.object == object) ws i w h
    ∙ ap (λ t. writes_to object (take i ws) ++ cond t (get_or ws i w ∷ []) []) (ne_eqb (get_or ws i w).object object other)
    ∙ append-nil (writes_to object (take i ws)))

-- bytes that are right one by one
pub all_under : (ws : List Written) (object offset : ℕ) (before after : List ℕ) → length after ≡ length before →
    ((k : ℕ) → k < length before → get_or after k 0 ≡ last_put (writes_to object ws) (offset + k) (get_or before k 0)) →
    after ≡ bytes_under ws object offset before
all_under ws object offset before after len each =
    let f : ℕ → ℕ = λ x. last_put (writes_to object ws) x (get_or before (x - offset) 0) in
    ext_get_or 0 after (bytes_under ws object offset before) (len ∙ sym (length-map-range_with_len f offset (length before)))
    (λ k h.
    let below : k < length before = omega (arith, len, h) in
    let place : offset + k - offset ≡ k = omega arith in
    each k below ∙ ap (λ y. last_put (writes_to object ws) (offset + k) (get_or before y 0)) (sym place)
    ∙ sym (get_or-map-range_with_len f offset (length before) k (offset + k) 0 below refl))

-- ---- one write, byte by byte

-- a write that has bytes there: `piece` is what of its run stands over those that are asked for
pub laid_in : (at offset n k skipped place : ℕ) (run piece : List ℕ) (b : ℕ) → skipped ≡ offset - at → place ≡ at - offset → k < n → length piece ≤ length run - skipped → length piece ≤ n - place →
    (length piece ≡ length run - skipped) ⊎ (length piece ≡ n - place) → skipped < length run → place < n →
    ((j : ℕ) → j < length piece → get_or piece j 0 ≡ get_or run (skipped + j) 0) →
    cond (nat_le place k && nat_lt k (place + length piece)) (get_or piece (k - place) 0) b ≡ unwrap_or (cond (nat_le at (offset + k)) (slice_get run (offset + k - at)) None) b
laid_in at offset n k skipped place run piece b skips stands h short fits full some room is = elim (cases_lt (offset + k) at) [
  | inl before ↦
      let none = lt-leb place k (omega (arith, skips, stands, before)) in
      ap (λ t. cond (t && nat_lt k (place + length piece)) (get_or piece (k - place) 0) b) none
      ∙ sym (ap (λ t. unwrap_or (cond t (slice_get run (offset + k - at)) None) b) (lt-leb at (offset + k) before))
  | inr from ↦
      let begun = le-leb place k (omega (arith, skips, stands, from)) in
      let right : unwrap_or (cond (nat_le at (offset + k)) (slice_get run (offset + k - at)) None) b ≡ unwrap_or (slice_get run (offset + k - at)) b =
      ap (λ t. unwrap_or (cond t (slice_get run (offset + k - at)) None) b) (le-leb at (offset + k) from)
      in
      let left : cond (nat_le place k && nat_lt k (place + length piece)) (get_or piece (k - place) 0) b ≡ cond (nat_lt k (place + length piece)) (get_or piece (k - place) 0) b =
      ap (λ t. cond (t && nat_lt k (place + length piece)) (get_or piece (k - place) 0) b) begun
      in
      left ∙ elim (cases_lt (offset + k - at) (length run)) [
        | inl within ↦
            let there : k < place + length piece = elim full [
              | inl e ↦ omega (arith, skips, stands, e, within, from)
              | inr e ↦ omega (arith, skips, stands, e, h, room)
            ]
            in
            let here : skipped + (k - place) ≡ offset + k - at = omega (arith, skips, stands, from) in
            ap (λ t. cond t (get_or piece (k - place) 0) b) (lt-ltb k (place + length piece) there)
            ∙ is (k - place) (omega (arith, skips, stands, there, from)) ∙ ap (λ j. get_or run j 0) here
            ∙ sym (right ∙ ap (λ o. unwrap_or o b) (slice_get-get_or run (offset + k - at) 0 within))
        | inr past ↦
            ap (λ t. cond t (get_or piece (k - place) 0) b) (le-ltb k (place + length piece) (omega (arith, skips, stands, past, from, short)))
            ∙ sym (right ∙ ap (λ o. unwrap_or o b) (slice_get_past run (offset + k - at) past))
      ]
]

-- a write that has none there
pub laid_out : (at offset n k : ℕ) (run : List ℕ) (b : ℕ) → k < n → (length run ≤ offset - at) ⊎ (n ≤ at - offset) →
    b ≡ unwrap_or (cond (nat_le at (offset + k)) (slice_get run (offset + k - at)) None) b
laid_out at offset n k run b h none = elim (cases_lt (offset + k) at) [
  | inl before ↦ sym (ap (λ t. unwrap_or (cond t (slice_get run (offset + k - at)) None) b) (lt-leb at (offset + k) before))
  | inr from ↦
      let past : length run ≤ offset + k - at = elim none [
        | inl e ↦ omega (arith, e)
        | inr e ↦ absurd (omega (arith, e, h, from))
      ]
      in
      sym (ap (λ t. unwrap_or (cond t (slice_get run (offset + k - at)) None) b) (le-leb at (offset + k) from) ∙ ap (λ o. unwrap_or o b) (slice_get_past run (offset + k - at) past))
]

-- what is cut out of a run
pub cut : (run : List ℕ) (skipped len : ℕ) → len ≤ length run - skipped → skipped < length run →
    (length (slice_range run skipped (skipped + len)) ≡ len) × ((j : ℕ) → j < len → get_or (slice_range run skipped (skipped + len)) j 0 ≡ get_or run (skipped + j) 0)
cut run skipped len short some =
    let rest = length-drop skipped run in
    let same : skipped + len - skipped ≡ len = omega arith in (
      ap (λ n. length (take n (drop skipped run))) same ∙ length-take-le len (drop skipped run) (omega (arith, rest, short)),
      λ j h. ap (λ n. get_or (take n (drop skipped run)) j 0) same ∙ get_or-take len (drop skipped run) j 0 h ∙ get_or-drop skipped run j 0,
    )

pub laid_over : (w : Written) (offset k skipped place len : ℕ) (run into new : List ℕ) → run ≡ w.bytes → skipped ≡ offset - w.offset → place ≡ w.offset - offset →
    len ≡ min (length run - skipped) (length into - place) → skipped < length run → place < length into → k < length into →
    get_or new k 0 ≡ replaced place (slice_range run skipped (skipped + len)) into k → get_or new k 0 ≡ byte_under w offset k (get_or into k 0)
laid_over w offset k skipped place len run into new bytes skips stands least some room h is =
    let short : len ≤ length run - skipped = omega (arith, least) in
    let fits : len ≤ length into - place = omega (arith, least) in
    let full : (len ≡ length run - skipped) ⊎ (len ≡ length into - place) = elim (cases_lt (length run - skipped) (length into - place)) [
      | inl less ↦ inl (omega (arith, least, less))
      | inr more ↦ inr (omega (arith, least, more))
    ]
    in
    let piece = slice_range run skipped (skipped + len) in
    let parts = cut run skipped len short some in
    let long : length (slice_range run skipped (skipped + len)) ≡ len = parts.0 in
    is
    ∙ laid_in w.offset offset (length into) k skipped place run (slice_range run skipped (skipped + len)) (get_or into k 0) skips stands h (omega (arith, long, short)) (omega (arith, long, fits))
    (elim full [ inl e ↦ inl (long ∙ e) | inr e ↦ inr (long ∙ e) ]) some room (λ j below. parts.1 j (omega (arith, long, below)))
    ∙ ap (λ bs. unwrap_or (cond (nat_le w.offset (offset + k)) (slice_get bs (offset + k - w.offset)) None) (get_or into k 0)) bytes
