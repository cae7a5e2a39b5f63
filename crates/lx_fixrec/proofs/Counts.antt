-- The places of sources in their lists, counted source by source.
use Rattle.std.proofs.Common.{◌≡◌, ◌≢◌, ℕ, ◌+◌, ◌<◌, ◌≤◌, ◌%◌, ◌⊎◌, inl, inr, Bool, true, false, true≢false, cond, replicate, slice_index, List, length, take, drop, get_or, Some, slice_get, refl, sym, subst, ap, ◌∙◌, arith, length-append, take-append-drop}
use Rattle.std.specs.Prelude.{filter}
use Rattle.std.proofs.Math.Nat.{mod-add-mod}
use Rattle.std.proofs.lemmas.Bool.{cases_order}
use Rattle.std.proofs.lemmas.List.{take-take, length-replicate, get_or-replicate}
use Rattle.std.proofs.lemmas.List.Elements.{filter-append}
use Rattle.std.proofs.lemmas.List.Filters.{length-filter_more}
use Rattle.std.proofs.lemmas.Option.{slice_get_within, get_or_from_slice_get, slice_get-get_or}
use Rattle.lx_types.specs.declared.fix.Fix.{Fix}
use Rattle.lx_model.specs.JoinedRecords.{joins}
use Rattle.lx_fixrec.specs.Links.{HeadPasses, LeadsTo, IsNext, AreCounted, joined_before}
use Rattle.lx_fixrec.proofs.Joined.{joined, joins_alike, joined_alike}
use Rattle.lx_fixrec.proofs.Linked.{front}

-- ---- sources that join each other

pub turned : (f g : Fix) → joins f g ≡ true → joins g f ≡ true
turned f g h = let j = joined f g h in sym (joins_alike f g f j) ∙ joined_alike f g f j ∙ h

not_turned : (g f : Fix) → joins f g ≡ false → joins g f ≡ false
not_turned g f h = by (joins g f) refl
  where
    by : (b : Bool) → joins g f ≡ b → joins g f ≡ false
    by false e = e
    by true e = absurd (true≢false (sym (turned g f e) ∙ h))

pub test_alike : (f g : Fix) → joins f g ≡ true → joins f ≡ joins g
test_alike f g h = λ i x. joins_alike f g x (joined f g h) i

-- ---- how many pass

module _ (p : Fix → Bool) (s : List Fix) where
  abbrev passed : ℕ → ℕ
  passed i = length (filter p (take i s))

  passed_more : (i : ℕ) (f : Fix) (b : Bool) → slice_get s i ≡ Some f → p f ≡ b → passed (i + 1) ≡ passed i + cond b 1 0
  passed_more i f b at is =
      length-filter_more p s i f (slice_get_within s i f at) ∙ ap (λ (g : Fix). passed i + cond (p g) 1 0) (get_or_from_slice_get s i f f at) ∙ ap (λ (c : Bool). passed i + cond c 1 0) is

  passed_rises : (i j : ℕ) → i ≤ j → passed i ≤ passed j
  passed_rises i j le =
      let parts : passed j ≡ length (filter p (take i (take j s))) + length (filter p (drop i (take j s))) =
      ap (λ (fs : List Fix). length (filter p fs)) (sym (take-append-drop i (take j s))) ∙ ap length (filter-append p (take i (take j s)) (drop i (take j s)))
      ∙ length-append (filter p (take i (take j s))) (filter p (drop i (take j s))) in
      let first : length (filter p (take i (take j s))) ≡ passed i = ap (λ (fs : List Fix). length (filter p fs)) (take-take i j s le) in
      omega (arith, parts, first)

  passed_all : (i : ℕ) → passed i + length (filter p (drop i s)) ≡ length (filter p s)
  passed_all i =
      sym (length-append (filter p (take i s)) (filter p (drop i s))) ∙ ap length (sym (filter-append p (take i s) (drop i s))) ∙ ap (λ (fs : List Fix). length (filter p fs)) (take-append-drop i s)

  none_between : (i next : ℕ) → LeadsTo p (drop i s) (drop next s) → passed i ≡ passed next
  none_between i next leads = let same = ap length leads.same in omega (arith, same, passed_all i, passed_all next)

  -- the source to which it leads is the first that passes, and none but it has as many before it
  led_to : (i next j : ℕ) (g : Fix) → i ≤ j → LeadsTo p (drop i s) (drop next s) → slice_get s j ≡ Some g → p g ≡ true → passed j ≡ passed i → j ≡ next
  led_to i next j g le leads at holds same = by (cases_order j next)
    where
      within : j < length s
      within = slice_get_within s j g at

      after : passed (j + 1) ≡ passed j + 1
      after = passed_more j g true at holds

      level : passed i ≡ passed next
      level = none_between i next leads

      not_before : j < next → ⊥
      not_before lt = let up = passed_rises (j + 1) next (omega arith) in omega (arith, up, after, level, same)

      not_after : next < j → ⊥
      not_after lt =
          let d : Fix = g in
          let h = get_or s next d in
          let there : slice_get s next ≡ Some h = slice_get-get_or s next d (omega (arith, within)) in
          let head : p h ≡ true = subst (HeadPasses p) (front s next h there) leads.head in
          let up = passed_rises (next + 1) j (omega arith) in
          let one = passed_more next h true there head in
          omega (arith, up, one, level, same)

      by : (j ≡ next) ⊎ ((j < next) ⊎ (next < j)) → j ≡ next
      by (inl e) = e
      by (inr (inl lt)) = absurd (not_before lt)
      by (inr (inr lt)) = absurd (not_after lt)

-- ---- one source more

-- a place in a list goes on by one, and a new record begins after 255 sources
pub goes_on : (a b : ℕ) → b ≡ a % 255 → b + 1 < 255 → b + 1 ≡ (a + 1) % 255
goes_on a b is lt = let small : (b + 1) % 255 ≡ b + 1 = omega arith in sym small ∙ ap (λ n. (n + 1) % 255) is ∙ mod-add-mod a 255 1

pub begins_anew : (a b : ℕ) → b ≡ a % 255 → 255 ≤ b + 1 → 0 ≡ (a + 1) % 255
begins_anew a b is le = let full : b + 1 ≡ 255 = omega arith in sym (ap (λ n. n % 255) full) ∙ ap (λ n. (n + 1) % 255) is ∙ mod-add-mod a 255 1

-- what a call does to the counts: the next source has the count after that of this one, and the others stay
pub record Counts (place next : ℕ) (old new : List ℕ) : Type 0 where
  pub many : length new ≡ length old
  pub others : (i : ℕ) → i ≢ next → slice_index new i ≡ slice_index old i
  pub next_is : (a : ℕ) → next < length old → slice_index old place ≡ a % 255 → slice_index new next ≡ (a + 1) % 255

module _ (s : List Fix) (place next : ℕ) (f : Fix) (old new : List ℕ) (at : slice_get s place ≡ Some f) (is : IsNext s f place next) (had : AreCounted s place old) (counts : Counts place next old new) where
  own : slice_index old place ≡ joined_before s f place % 255
  own = had.each place f (omega arith) at refl

  self : (g : Fix) → joins f g ≡ true → joins f f ≡ true
  self g h = joined_alike f g f (joined f g h) ∙ h

  of_list : (i : ℕ) (g : Fix) → place + 1 ≤ i → slice_get s i ≡ Some g → joins f g ≡ true → joined_before s g i ≡ joined_before s g (place + 1) → slice_index new i ≡ joined_before s g (place + 1) % 255
  of_list i g beyond there joins_it same =
      let alike : (x : ℕ) → joined_before s f x ≡ joined_before s g x = λ x. ap (λ (t : Fix → Bool). length (filter t (take x s))) (test_alike f g joins_it) in
      let level : joined_before s f i ≡ joined_before s f (place + 1) = alike i ∙ same ∙ sym (alike (place + 1)) in
      let i_is : i ≡ next = led_to (joins f) s (place + 1) next i g beyond is.leads there joins_it level in
      let within : i < length s = slice_get_within s i g there in
      let many = had.many in
      let here : next < length old = omega (arith, within, many, i_is) in
      let up : joined_before s f (place + 1) ≡ joined_before s f place + 1 = passed_more (joins f) s place f true at (self g joins_it) in
      ap (slice_index new) i_is ∙ counts.next_is (joined_before s f place) here own ∙ ap (λ n. n % 255) (sym up ∙ alike (place + 1))

  of_others : (i : ℕ) (g : Fix) → place + 1 ≤ i → slice_get s i ≡ Some g → joins f g ≡ false → joined_before s g i ≡ joined_before s g (place + 1) → slice_index new i ≡ joined_before s g (place + 1) % 255
  of_others i g beyond there apart same =
      let g_apart : joins g f ≡ false = not_turned g f apart in
      let more : joined_before s g (place + 1) ≡ joined_before s g place + 0 = passed_more (joins g) s place f false at g_apart in
      let stays : joined_before s g (place + 1) ≡ joined_before s g place = omega arith in
      let other : i ≢ next = λ e. true≢false (sym (subst (HeadPasses (joins f)) (ap (λ n. drop n s) (sym e) ∙ front s i g there) is.leads.head) ∙ apart) in
      counts.others i other ∙ had.each i g (omega arith) there (same ∙ stays) ∙ ap (λ n. n % 255) (sym stays)

  pub counted_on : AreCounted s (place + 1) new
  counted_on = record { many = counts.many ∙ had.many; each = λ i g beyond there same. by i g beyond there same (joins f g) refl }
    where
      by : (i : ℕ) (g : Fix) → place + 1 ≤ i → slice_get s i ≡ Some g → joined_before s g i ≡ joined_before s g (place + 1) → (b : Bool) → joins f g ≡ b → slice_index new i ≡ joined_before s g (place + 1) % 255
      by i g beyond there same true e = of_list i g beyond there e same
      by i g beyond there same false e = of_others i g beyond there e same

-- before the first source there is none
pub none_counted : (s : List Fix) (counts : List ℕ) → counts ≡ replicate (length s) 0 → AreCounted s 0 counts
none_counted s counts are = record {
  many = ap length are ∙ length-replicate (length s) 0;
  each = λ i f _ at _. ap (λ (ns : List ℕ). slice_index ns i) are ∙ get_or-replicate (length s) i 0 0 (slice_get_within s i f at);
}
