-- Runs that are put into pages, and pages that are laid over bytes.
use Rattle.std.proofs.Common.{◌≡◌, ℕ, ◌+◌, ◌-◌, ◌/◌, ◌%◌, ◌<◌, ◌≤◌, ◌==◌, ◌&&◌, Bool, true, false, cond, inl, inr, List, [], ◌∷◌, ◌++◌, length, get_or, reverse, replicate, Option, Some, None, is_some, refl, sym, ◌∙◌, ap, subst, arith}
use Rattle.std.specs.Prelude.{nat_le, nat_lt, slice_get, filter_map, unwrap_or}
use Rattle.std.specs.List.{cons_option}
use Rattle.std.specs.Map.{lookup, set_value}
use Rattle.std.specs.Cmp.{IsEquivalence, nat_eq_equiv}
use Rattle.std.proofs.lemmas.Map.{lookup-set_value}
use Rattle.std.proofs.lemmas.Bool.{cases_eq, cases_lt, eq-eqb, eqb-true, ne_eqb, le-leb, lt-leb, lt-ltb, le-ltb}
use Rattle.std.proofs.lemmas.List.{reverse-append, get_or-replicate, get_or_past, append-nil}
use Rattle.std.proofs.lemmas.List.Elements.{filter-append}
use Rattle.std.proofs.lemmas.Option.{slice_get-get_or, slice_get_past}
use Rattle.load_model.specs.State.{Written}
use Rattle.load_model.specs.Memory.{put_at, first_or}
use Rattle.write_overlay.specs.Laid.{writes_to, bytes_under}
use Rattle.write_overlay.specs.Layered.{Pages, Lays, IsMade, AreMade, is_page_at, byte_in, byte_laid, byte_over, put_under, laid_under, run_under, first_of, last_written}
use Rattle.write_overlay.proofs.Overlays.{all_under}

-- ---- spans

pub in_span : (a n k : ℕ) → a ≤ k → k < n → nat_le a k && nat_lt k n ≡ true
in_span a n k from to = ap (λ t. t && nat_lt k n) (le-leb a k from) ∙ lt-ltb k n to

pub before_span : (a n k : ℕ) → k < a → nat_le a k && nat_lt k n ≡ false
before_span a n k before = ap (λ t. t && nat_lt k n) (lt-leb a k before)

pub after_span : (a n k : ℕ) → n ≤ k → nat_le a k && nat_lt k n ≡ false
after_span a n k beyond = elim (cases_lt k a) [
  | inl before ↦ before_span a n k before
  | inr from ↦ ap (λ t. t && nat_lt k n) (le-leb a k from) ∙ le-ltb k n beyond
]

-- ---- a page

-- nothing was written to a new page
pub none_in_new : (k : ℕ) → get_or (replicate {A = Option ℕ} 4096 None) k None ≡ None
none_in_new k = elim (cases_lt k 4096) [
  | inl within ↦ get_or-replicate 4096 k None None within
  | inr past ↦ get_or_past (replicate {A = Option ℕ} 4096 None) k None (omega (arith, past))
]

-- where only none passes
pub only_none : (P : Option ℕ → Type 0) → ((b : ℕ) → P (Some b) → ⊥) → (y : Option ℕ) → P y → y ≡ None
only_none P others None h = refl
only_none P others (Some b) h = absurd (others b h)

-- ---- pages

pub in_page : (at j : ℕ) → at % 4096 + j < 4096 → ((at + j) / 4096 ≡ at / 4096) × ((at + j) % 4096 ≡ at % 4096 + j)
in_page at j u = (omega arith, omega arith)

-- the page of a key is that of an object and a number, or another
same_page : (object n q p : ℕ) → is_page_at (object, n) (q, p) ≡ true → (object ≡ q) × (n ≡ p)
same_page object n q p h = (eqb-true object q (left (object == q) (n == p) h), eqb-true n p (right (object == q) (n == p) h))
  where
    left : (a b : Bool) → a && b ≡ true → a ≡ true
    left true b e = refl
    left false b e = e

    right : (a b : Bool) → a && b ≡ true → b ≡ true
    right true b e = e
    right false b e = (let wrong : false ≡ true = e in cc)

own_page : (object n : ℕ) → is_page_at (object, n) (object, n) ≡ true
own_page object n = ap (λ t. t && (n == n)) (eq-eqb object object refl) ∙ eq-eqb n n refl

other_object : (object n q p : ℕ) → (object ≡ q → ⊥) → is_page_at (object, n) (q, p) ≡ false
other_object object n q p other = ap (λ t. t && (n == p)) (ne_eqb object q other)

other_number : (object n q p : ℕ) → (n ≡ p → ⊥) → is_page_at (object, n) (q, p) ≡ false
other_number object n q p other = ap (λ t. (object == q) && t) (ne_eqb n p other) ∙ none (object == q)
  where
    none : (a : Bool) → a && false ≡ false
    none true = refl
    none false = refl

page_equiv : IsEquivalence is_page_at
page_equiv = record {
  refl = λ x. own_page x.0 x.1;
  symm = λ x y. ap (λ t. t && (x.1 == y.1)) (nat_eq_equiv.symm x.0 y.0) ∙ ap (λ t. (y.0 == x.0) && t) (nat_eq_equiv.symm x.1 y.1);
  congr = λ x y z h.
      let same = same_page x.0 x.1 y.0 y.1 h in
      ap (λ k. (k == z.0) && (x.1 == z.1)) same.0 ∙ ap (λ k. (y.0 == z.0) && (k == z.1)) same.1;
}

-- pages with one in the place of what stood there
abbrev pub HaveAt : Pages → Pages → ℕ → ℕ → List (Option ℕ) → Type 0
HaveAt before after object n bytes =
    (q p : ℕ) → lookup (is_page_at (q, p)) after ≡ cond (is_page_at (object, n) (q, p)) (Some bytes) (lookup (is_page_at (q, p)) before)

pub one_set : (pages : Pages) (object n : ℕ) (old new : List (Option ℕ)) → lookup (is_page_at (object, n)) pages ≡ Some old → HaveAt pages (set_value (is_page_at (object, n)) pages new) object n new
one_set pages object n old new there = λ q p.
    lookup-set_value page_equiv (is_page_at (object, n)) (λ x y. page_equiv.congr (object, n) x y) (q, p) new pages (ap is_some there)

pub found_made : (pages : Pages) (object n : ℕ) → IsMade pages object n → (old : List (Option ℕ)) × (lookup (is_page_at (object, n)) pages ≡ Some old)
found_made pages object n made = step (lookup (is_page_at (object, n)) pages) refl made
  where
    step : (o : Option (List (Option ℕ))) → lookup (is_page_at (object, n)) pages ≡ o → is_some o ≡ true → (old : List (Option ℕ)) × (lookup (is_page_at (object, n)) pages ≡ Some old)
    step None is h = cc
    step (Some old) is h = (old, is)

pub not_there : {X : Type 0} (o : Option X) (found : Bool) → found ≡ is_some o → found ≡ false → o ≡ None
not_there None found is h = refl
not_there (Some x) found is h = (let wrong : true ≡ false = sym is ∙ h in cc)

module _ (before after : Pages) (object n : ℕ) (bytes : List (Option ℕ)) (have : HaveAt before after object n bytes) where
  pub made_here : IsMade after object n
  made_here = ap is_some (have object n ∙ ap (λ t. cond t (Some bytes) (lookup (is_page_at (object, n)) before)) (own_page object n))

  pub made_still : (q p : ℕ) → IsMade before q p → IsMade after q p
  made_still q p made = ap is_some (have q p) ∙ step (is_page_at (object, n) (q, p)) made
    where
      step : (t : Bool) → is_some (lookup (is_page_at (q, p)) before) ≡ true → is_some (cond t (Some bytes) (lookup (is_page_at (q, p)) before)) ≡ true
      step true h = refl
      step false h = h

  -- a new page changes no byte
  pub new_page : lookup (is_page_at (object, n)) before ≡ None → bytes ≡ replicate 4096 None → (q x : ℕ) → byte_laid after q x ≡ byte_laid before q x
  new_page none new q x = ap (λ o. byte_in o (x % 4096)) (have q (x / 4096)) ∙ step (is_page_at (object, n) (q, x / 4096)) refl
    where
      step : (t : Bool) → is_page_at (object, n) (q, x / 4096) ≡ t →
          byte_in (cond t (Some bytes) (lookup (is_page_at (q, x / 4096)) before)) (x % 4096) ≡ byte_in (lookup (is_page_at (q, x / 4096)) before) (x % 4096)
      step false h = refl
      step true h =
          let here = same_page object n q (x / 4096) h in
          let nothing : lookup (is_page_at (q, x / 4096)) before ≡ None = ap (λ p. lookup (is_page_at (q, p)) before) (sym here.1) ∙ ap (λ p. lookup (is_page_at (p, n)) before) (sym here.0) ∙ none in
          ap (λ bs. get_or bs (x % 4096) None) new ∙ none_in_new (x % 4096) ∙ sym (ap (λ o. byte_in o (x % 4096)) nothing)

-- a run within a page, byte by byte of its object
run_in_page : (at x : ℕ) (run : List ℕ) (old : Option ℕ) → at % 4096 + length run ≤ 4096 → at / 4096 ≡ x / 4096 → put_under (at % 4096) run (x % 4096) old ≡ put_under at run x old
run_in_page at x run old fits same = elim (cases_lt x at) [
  | inl before ↦
      ap (λ t. cond t (Some (get_or run (x % 4096 - at % 4096) 0)) old) (before_span (at % 4096) (at % 4096 + length run) (x % 4096) (omega (arith, before, same)))
      ∙ sym (ap (λ t. cond t (Some (get_or run (x - at) 0)) old) (before_span at (at + length run) x before))
  | inr from ↦ elim (cases_lt x (at + length run)) [
    | inl within ↦
        let there : x % 4096 - at % 4096 ≡ x - at = omega (arith, from, same) in
        ap (λ t. cond t (Some (get_or run (x % 4096 - at % 4096) 0)) old) (in_span (at % 4096) (at % 4096 + length run) (x % 4096) (omega (arith, from, same)) (omega (arith, within, from, same)))
        ∙ ap (λ j. Some (get_or run j 0)) there ∙ sym (ap (λ t. cond t (Some (get_or run (x - at) 0)) old) (in_span at (at + length run) x from within))
    | inr beyond ↦
        ap (λ t. cond t (Some (get_or run (x % 4096 - at % 4096) 0)) old) (after_span (at % 4096) (at % 4096 + length run) (x % 4096) (omega (arith, beyond, same)))
        ∙ sym (ap (λ t. cond t (Some (get_or run (x - at) 0)) old) (after_span at (at + length run) x beyond))
  ]
]

run_off_page : (at x : ℕ) (run : List ℕ) (old : Option ℕ) → at % 4096 + length run ≤ 4096 → (at / 4096 ≡ x / 4096 → ⊥) → put_under at run x old ≡ old
run_off_page at x run old fits other = elim (cases_lt x at) [
  | inl before ↦ ap (λ t. cond t (Some (get_or run (x - at) 0)) old) (before_span at (at + length run) x before)
  | inr from ↦ elim (cases_lt x (at + length run)) [
    | inl within ↦
        let same = in_page at (x - at) (omega (arith, fits, from, within)) in
        let there : at + (x - at) ≡ x = omega (arith, from) in
        absurd (other (sym same.0 ∙ ap (λ y. y / 4096) there))
    | inr beyond ↦ ap (λ t. cond t (Some (get_or run (x - at) 0)) old) (after_span at (at + length run) x beyond)
  ]
]

-- a run that was put into a page
pub run_put : (before after : Pages) (object at : ℕ) (run : List ℕ) (old new : List (Option ℕ)) → at % 4096 + length run ≤ 4096 → lookup (is_page_at (object, at / 4096)) before ≡ Some old →
    HaveAt before after object (at / 4096) new → ((k : ℕ) → get_or new k None ≡ put_under (at % 4096) run k (get_or old k None)) →
    (q x : ℕ) → byte_laid after q x ≡ run_under object at run q x (byte_laid before q x)
run_put before after object at run old new fits there have put q x = ap (λ o. byte_in o (x % 4096)) (have q (x / 4096)) ∙ elim (cases_eq q object) [
  | inl same ↦ elim (cases_eq (at / 4096) (x / 4096)) [
    | inl page ↦
        let own : is_page_at (object, at / 4096) (q, x / 4096) ≡ true = ap (λ k. is_page_at (object, at / 4096) (k, x / 4096)) same ∙ ap (λ k. is_page_at (object, at / 4096) (object, k)) (sym page) ∙ own_page object (at / 4096) in
        let stood : lookup (is_page_at (q, x / 4096)) before ≡ Some old = ap (λ k. lookup (is_page_at (k, x / 4096)) before) same ∙ ap (λ k. lookup (is_page_at (object, k)) before) (sym page) ∙ there in
        ap (λ t. byte_in (cond t (Some new) (lookup (is_page_at (q, x / 4096)) before)) (x % 4096)) own ∙ put (x % 4096)
        ∙ run_in_page at x run (get_or old (x % 4096) None) fits page ∙ ap (λ o. put_under at run x (byte_in o (x % 4096))) (sym stood)
        ∙ sym (ap (λ t. cond t (put_under at run x (byte_laid before q x)) (byte_laid before q x)) (eq-eqb q object same))
    | inr other ↦
        ap (λ t. byte_in (cond t (Some new) (lookup (is_page_at (q, x / 4096)) before)) (x % 4096)) (other_number object (at / 4096) q (x / 4096) other)
        ∙ sym (run_off_page at x run (byte_laid before q x) fits other)
        ∙ sym (ap (λ t. cond t (put_under at run x (byte_laid before q x)) (byte_laid before q x)) (eq-eqb q object same))
  ]
  | inr apart ↦
      ap (λ t. byte_in (cond t (Some new) (lookup (is_page_at (q, x / 4096)) before)) (x % 4096)) (other_object object (at / 4096) q (x / 4096) (λ e. apart (sym e)))
      ∙ sym (ap (λ t. cond t (put_under at run x (byte_laid before q x)) (byte_laid before q x)) (ne_eqb q object apart))
]

-- ---- page by page

-- the pages of one run more are made
pub made_more : (pages now : Pages) (object offset done len : ℕ) → (offset + done) % 4096 + len ≤ 4096 → AreMade pages object offset done → ((q p : ℕ) → IsMade pages q p → IsMade now q p) →
    IsMade now object ((offset + done) / 4096) → AreMade now object offset (done + len)
made_more pages now object offset done len fits so_far still here x from to = elim (cases_lt x (offset + done)) [
  | inl earlier ↦ still object (x / 4096) (so_far x from earlier)
  | inr later ↦
      let same = in_page (offset + done) (x - (offset + done)) (omega (arith, fits, later, to)) in
      let there : offset + done + (x - (offset + done)) ≡ x = omega (arith, later) in
      subst (IsMade now object) (sym same.0 ∙ ap (λ y. y / 4096) there) here
]

-- byte x of an object, where so much of a run was put at an offset
abbrev pub put_so_far : List ℕ → ℕ → ℕ → ℕ → Option ℕ → Option ℕ
put_so_far bytes offset done x old = cond (nat_le offset x && nat_lt x (offset + done)) (Some (get_or bytes (x - offset) 0)) old

-- one run more is put
pub put_on : (bytes run : List ℕ) (offset done len x : ℕ) (old : Option ℕ) → length run ≡ len → ((j : ℕ) → j < len → get_or run j 0 ≡ get_or bytes (done + j) 0) →
    put_under (offset + done) run x (put_so_far bytes offset done x old) ≡ put_so_far bytes offset (done + len) x old
put_on bytes run offset done len x old long cut =
    let so_far = put_so_far bytes offset done x old in
    elim (cases_lt x (offset + done)) [
      | inl earlier ↦
          ap (λ t. cond t (Some (get_or run (x - (offset + done)) 0)) (put_so_far bytes offset done x old)) (before_span (offset + done) (offset + done + length run) x earlier)
          ∙ elim (cases_lt x offset) [
            | inl before ↦
                ap (λ t. cond t (Some (get_or bytes (x - offset) 0)) old) (before_span offset (offset + done) x before)
                ∙ sym (ap (λ t. cond t (Some (get_or bytes (x - offset) 0)) old) (before_span offset (offset + (done + len)) x before))
            | inr from ↦
                ap (λ t. cond t (Some (get_or bytes (x - offset) 0)) old) (in_span offset (offset + done) x from earlier)
                ∙ sym (ap (λ t. cond t (Some (get_or bytes (x - offset) 0)) old) (in_span offset (offset + (done + len)) x from (omega (arith, earlier))))
          ]
      | inr later ↦ elim (cases_lt x (offset + done + length run)) [
        | inl within ↦
            let place : done + (x - (offset + done)) ≡ x - offset = omega (arith, later) in
            ap (λ t. cond t (Some (get_or run (x - (offset + done)) 0)) (put_so_far bytes offset done x old)) (in_span (offset + done) (offset + done + length run) x later within)
            ∙ ap Some (cut (x - (offset + done)) (omega (arith, later, within, long)) ∙ ap (λ j. get_or bytes j 0) place)
            ∙ sym (ap (λ t. cond t (Some (get_or bytes (x - offset) 0)) old) (in_span offset (offset + (done + len)) x (omega (arith, later)) (omega (arith, within, long))))
        | inr beyond ↦
            ap (λ t. cond t (Some (get_or run (x - (offset + done)) 0)) (put_so_far bytes offset done x old)) (after_span (offset + done) (offset + done + length run) x beyond)
            ∙ ap (λ t. cond t (Some (get_or bytes (x - offset) 0)) old) (after_span offset (offset + done) x later)
            ∙ sym (ap (λ t. cond t (Some (get_or bytes (x - offset) 0)) old) (after_span offset (offset + (done + len)) x (omega (arith, beyond, long))))
      ]
    ]

pub none_put : (bytes : List ℕ) (offset x : ℕ) (old : Option ℕ) → put_so_far bytes offset 0 x old ≡ old
none_put bytes offset x old = elim (cases_lt x offset) [
  | inl before ↦ ap (λ t. cond t (Some (get_or bytes (x - offset) 0)) old) (before_span offset (offset + 0) x before)
  | inr from ↦ ap (λ t. cond t (Some (get_or bytes (x - offset) 0)) old) (after_span offset (offset + 0) x (omega (arith, from)))
]

-- the same of one object among others
abbrev pub put_in_so_far : ℕ → List ℕ → ℕ → ℕ → ℕ → ℕ → Option ℕ → Option ℕ
put_in_so_far object bytes offset done q x old = cond (q == object) (put_so_far bytes offset done x old) old

pub none_put_in : (object : ℕ) (bytes : List ℕ) (offset q x : ℕ) (old : Option ℕ) → old ≡ put_in_so_far object bytes offset 0 q x old
none_put_in object bytes offset q x old = sym (step (q == object))
  where
    step : (t : Bool) → cond t (put_so_far bytes offset 0 x old) old ≡ old
    step true = none_put bytes offset x old
    step false = refl

pub put_in_on : (object : ℕ) (bytes run : List ℕ) (offset done len q x : ℕ) (now old : Option ℕ) → length run ≡ len → ((j : ℕ) → j < len → get_or run j 0 ≡ get_or bytes (done + j) 0) →
    now ≡ put_in_so_far object bytes offset done q x old → run_under object (offset + done) run q x now ≡ put_in_so_far object bytes offset (done + len) q x old
put_in_on object bytes run offset done len q x now old long cut is = step (q == object) is
  where
    step : (t : Bool) → now ≡ cond t (put_so_far bytes offset done x old) old → cond t (put_under (offset + done) run x now) now ≡ cond t (put_so_far bytes offset (done + len) x old) old
    step true h = ap (put_under (offset + done) run x) h ∙ put_on bytes run offset done len x old long cut
    step false h = h

-- ---- bytes under what was written

-- byte k of others, where what was written was laid over so many of them
abbrev pub over_so_far : Pages → ℕ → ℕ → ℕ → ℕ → ℕ → ℕ
over_so_far pages object offset done k old = cond (nat_lt k done) (byte_over pages object (offset + k) old) old

module _ (pages : Pages) (object offset done len k now old : ℕ) (fits : (offset + done) % 4096 + len ≤ 4096) (so_far : now ≡ over_so_far pages object offset done k old) where
  at_page : done ≤ k → k < done + len → byte_laid pages object (offset + k) ≡ byte_in (lookup (is_page_at (object, (offset + done) / 4096)) pages) ((offset + done) % 4096 + (k - done))
  at_page from to =
      let same = in_page (offset + done) (k - done) (omega (arith, fits, from, to)) in
      let there : offset + k ≡ offset + done + (k - done) = omega (arith, from) in
      ap (byte_laid pages object) there ∙ ap (λ n. byte_in (lookup (is_page_at (object, n)) pages) ((offset + done + (k - done)) % 4096)) same.0
      ∙ ap (byte_in (lookup (is_page_at (object, (offset + done) / 4096)) pages)) same.1

  earlier_over : k < done → now ≡ over_so_far pages object offset (done + len) k old
  earlier_over h =
      so_far ∙ ap (λ t. cond t (byte_over pages object (offset + k) old) old) (lt-ltb k done h)
      ∙ sym (ap (λ t. cond t (byte_over pages object (offset + k) old) old) (lt-ltb k (done + len) (omega (arith, h))))

  not_yet : done ≤ k → now ≡ old
  not_yet h = so_far ∙ ap (λ t. cond t (byte_over pages object (offset + k) old) old) (le-ltb k done h)

  later_over : done + len ≤ k → now ≡ over_so_far pages object offset (done + len) k old
  later_over h = not_yet (omega (arith, h)) ∙ sym (ap (λ t. cond t (byte_over pages object (offset + k) old) old) (le-ltb k (done + len) h))

  here_over : (o : Option ℕ) (after : ℕ) → done ≤ k → k < done + len → o ≡ byte_in (lookup (is_page_at (object, (offset + done) / 4096)) pages) ((offset + done) % 4096 + (k - done)) →
      after ≡ unwrap_or o now → after ≡ over_so_far pages object offset (done + len) k old
  here_over o after from to is laid =
      laid ∙ ap (unwrap_or o) (not_yet from) ∙ ap (λ b. unwrap_or b old) (is ∙ sym (at_page from to))
      ∙ sym (ap (λ t. cond t (byte_over pages object (offset + k) old) old) (lt-ltb k (done + len) to))

  -- over a page that was not written
  pub over_none : lookup (is_page_at (object, (offset + done) / 4096)) pages ≡ None → now ≡ over_so_far pages object offset (done + len) k old
  over_none none = elim (cases_lt k done) [
    | inl earlier ↦ earlier_over earlier
    | inr from ↦ elim (cases_lt k (done + len)) [
      | inl to ↦ here_over None now from to (sym (ap (λ o. byte_in o ((offset + done) % 4096 + (k - done))) none)) refl
      | inr later ↦ later_over later
    ]
  ]

  -- over a page that was
  pub over_page : (bytes : List (Option ℕ)) (after : ℕ) → lookup (is_page_at (object, (offset + done) / 4096)) pages ≡ Some bytes →
      after ≡ laid_under bytes ((offset + done) % 4096) done len k now → after ≡ over_so_far pages object offset (done + len) k old
  over_page bytes after some laid = elim (cases_lt k done) [
    | inl earlier ↦ laid ∙ ap (λ t. cond t (unwrap_or (get_or bytes ((offset + done) % 4096 + (k - done)) None) now) now) (before_span done (done + len) k earlier) ∙ earlier_over earlier
    | inr from ↦ elim (cases_lt k (done + len)) [
      | inl to ↦
          here_over (get_or bytes ((offset + done) % 4096 + (k - done)) None) after from to (sym (ap (λ o. byte_in o ((offset + done) % 4096 + (k - done))) some))
          (laid ∙ ap (λ t. cond t (unwrap_or (get_or bytes ((offset + done) % 4096 + (k - done)) None) now) now) (in_span done (done + len) k from to))
      | inr later ↦ laid ∙ ap (λ t. cond t (unwrap_or (get_or bytes ((offset + done) % 4096 + (k - done)) None) now) now) (after_span done (done + len) k later) ∙ later_over later
    ]
  ]

-- ---- writes

first_unwrap : (ys : List ℕ) (b : ℕ) → unwrap_or (first_of ys) b ≡ first_or b ys
first_unwrap [] b = refl
first_unwrap (y ∷ ys) b = refl

-- what is laid over bytes is what the writes put there
pub laid_is : (pages : Pages) (writes : List Written) (object offset : ℕ) (before after : List ℕ) → Lays pages writes → length after ≡ length before →
    ((k : ℕ) → k < length before → get_or after k 0 ≡ byte_over pages object (offset + k) (get_or before k 0)) → after ≡ bytes_under writes object offset before
laid_is pages writes object offset before after lays long each =
    all_under writes object offset before after long
    (λ k h.
    each k h ∙ ap (λ o. unwrap_or o (get_or before k 0)) (lays.bytes object (offset + k))
    ∙ first_unwrap (filter_map (put_at (offset + k)) (reverse (writes_to object writes))) (get_or before k 0))

-- a write that is put over others
one_more : (ws : List Written) (w : Written) (x : ℕ) → last_written (ws ++ w ∷ []) x ≡ put_under w.offset w.bytes x (last_written ws x)
one_more ws w x = ap (λ vs. first_of (filter_map (put_at x) vs)) (reverse-append ws (w ∷ [])) ∙ elim (cases_lt x w.offset) [
  | inl before ↦
      ap (λ t. first_of (cons_option (cond t (slice_get w.bytes (x - w.offset)) None) (filter_map (put_at x) (reverse ws)))) (lt-leb w.offset x before)
      ∙ sym (ap (λ t. cond t (Some (get_or w.bytes (x - w.offset) 0)) (last_written ws x)) (before_span w.offset (w.offset + length w.bytes) x before))
  | inr from ↦
      ap (λ t. first_of (cons_option (cond t (slice_get w.bytes (x - w.offset)) None) (filter_map (put_at x) (reverse ws)))) (le-leb w.offset x from)
      ∙ elim (cases_lt (x - w.offset) (length w.bytes)) [
        | inl within ↦
            ap (λ o. first_of (cons_option o (filter_map (put_at x) (reverse ws)))) (slice_get-get_or w.bytes (x - w.offset) 0 within)
            ∙ sym (ap (λ t. cond t (Some (get_or w.bytes (x - w.offset) 0)) (last_written ws x)) (in_span w.offset (w.offset + length w.bytes) x from (omega (arith, from, within))))
        | inr past ↦
            ap (λ o. first_of (cons_option o (filter_map (put_at x) (reverse ws)))) (slice_get_past w.bytes (x - w.offset) past)
            ∙ sym (ap (λ t. cond t (Some (get_or w.bytes (x - w.offset) 0)) (last_written ws x)) (after_span w.offset (w.offset + length w.bytes) x (omega (arith, from, past))))
      ]
]

written_more : (ws : List Written) (w : Written) (q x : ℕ) → last_written (writes_to q (ws ++ w ∷ [])) x ≡ run_under w.object w.offset w.bytes q x (last_written (writes_to q ws) x)
written_more ws w q x = ap (λ vs. last_written vs x) (filter-append (λ (v : Written). v.object == q) ws (w ∷ [])) ∙ elim (cases_eq q w.object) [
  | inl same ↦
      ap (λ t. last_written (writes_to q ws ++ cond t (w ∷ []) []) x) (eq-eqb w.object q (sym same)) ∙ one_more (writes_to q ws) w x
      ∙ sym (ap (λ t. cond t (put_under w.offset w.bytes x (last_written (writes_to q ws) x)) (last_written (writes_to q ws) x)) (eq-eqb q w.object same))
  | inr other ↦
      ap (λ t. last_written (writes_to q ws ++ cond t (w ∷ []) []) x) (ne_eqb w.object q (λ e. other (sym e)))
      ∙ ap (λ vs. last_written vs x) (append-nil (writes_to q ws))
      ∙ sym (ap (λ t. cond t (put_under w.offset w.bytes x (last_written (writes_to q ws) x)) (last_written (writes_to q ws) x)) (ne_eqb q w.object other))
]

pub lays_more : (before after : Pages) (w : Written) (ws : List Written) → ((q x : ℕ) → byte_laid after q x ≡ run_under w.object w.offset w.bytes q x (byte_laid before q x)) →
    Lays before ws → Lays after (ws ++ w ∷ [])
lays_more before after w ws put lays = record { bytes = λ q x. put q x ∙ ap (run_under w.object w.offset w.bytes q x) (lays.bytes q x) ∙ sym (written_more ws w q x) }

pub lays_same : (before after : Pages) (ws : List Written) → ((q x : ℕ) → byte_laid after q x ≡ byte_laid before q x) → Lays before ws → Lays after ws
lays_same before after ws same lays = record { bytes = λ q x. same q x ∙ lays.bytes q x }
