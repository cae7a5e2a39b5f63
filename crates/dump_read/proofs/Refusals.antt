-- At which line bytes are no dump.
use Rattle.std.proofs.Common.{◌≡◌, ℕ, suc, ◌+◌, ◌-◌, ◌<◌, ◌≤◌, ◌^◌, Bool, true, false, List, [], ◌∷◌, ◌++◌, length, take, refl, sym, subst, ap, ◌∙◌, append_assoc, append-nil, arith, inl, inr, ◌⊎◌}
use Rattle.std.specs.Prelude.{codes, ◌&&◌}
use Rattle.std.proofs.lemmas.List.{length-append}
use Rattle.std.proofs.lemmas.Bool.{cases_Bool, both_ways, and_parts}
use Rattle.dump_model.specs.declared.listing.Listing.{Listing}
use Rattle.dump_model.specs.Bounds.{IsListing}
use Rattle.dump_model.specs.Dumps.{Dump, IsDump, BeginsDump, first_lines, RefusesAt}
use Rattle.dump_model.specs.Words.{IsWord}
use Rattle.dump_read.specs.Taken.{line_left, State, Outcome, Reads, shut}
use Rattle.dump_read.specs.Ends.{ends, ends_open, beginning, NotDump}
use Rattle.dump_read.proofs.Fronts.{whole-line}
use Rattle.dump_read.proofs.Steps.{line-of-word}
use Rattle.dump_read.proofs.WholeForms.{code-dump, dump-front}
use Rattle.dump_read.proofs.EndLaws.{lines-after, lines-front, lines-short, lines-whole, lines-open, ends-append, word-ends, fewer-ends}

-- Where a reader stands in bytes that are no dump.
pub record Place (bytes : List ℕ) (s : State) : Type 0 where
  pub used : List ℕ
  pub is : bytes ≡ used ++ s.left
  pub viable : BeginsDump used
  pub part : s.begun ≡ true → (l : Listing) × (b : ℕ) × (rest : List ℕ) × IsListing l × IsWord s.left × (Dump l ≡ used ++ (s.left ++ b ∷ rest))
  pub none : s.begun ≡ false → (l : Listing) (r : List ℕ) → IsListing l → used ++ (line_left s.left ++ r) ≡ Dump l → ⊥

some-line : (xs r : List ℕ) → 0 < length xs → line_left xs ++ r ≡ [] → ⊥
some-line [] r some is = omega arith
some-line (b ∷ xs) r some is = omega (arith, ap length is)

pub place-of : (bytes : List ℕ) (s : State) → NotDump bytes s → Place bytes s
place-of bytes s not-dump = by s.stopped refl not-dump.reads not-dump.some
  where
    by : (t : Bool) → s.stopped ≡ t → Outcome false t Dump IsListing shut not-dump.listing (beginning bytes) s → (s.stopped ≡ true) ⊎ (0 < length s.left) → Place bytes s
    by true is stops some = record {
      used = stops.used;
      is = stops.is;
      viable = let v = stops.viable in record { listing = v.0; rest = v.1; dump = record { bounds = v.2; text = sym v.3 } };
      part = λ begun. stops.begun (sym stops.flag ∙ begun);
      none = λ begun l r range at. stops.other (sym stops.flag ∙ begun) l r [] range tt (at ∙ sym (append-nil (Dump l)));
    }
    by false is took (inl halted) = absurd (both_ways s.stopped is halted)
    by false is took (inr some) = record {
      used = Dump not-dump.listing;
      is = took.is;
      viable = record { listing = not-dump.listing; rest = []; dump = record { bounds = took.range; text = append-nil (Dump not-dump.listing) } };
      part = λ begun. absurd (both_ways s.begun took.flag begun);
      none = λ begun l r range at.
          some-line s.left r some (code-dump.one not-dump.listing l (line_left s.left ++ r) [] took.range range (at ∙ sym (append-nil (Dump l)))).1;
    }

-- no dump is all of the bytes
pub no-dump : (bytes : List ℕ) (s : State) → Place bytes s → (l : Listing) → IsDump bytes l → ⊥
no-dump bytes s place l dump = by (cases_Bool s.begun)
  where
    by : (s.begun ≡ true) ⊎ (s.begun ≡ false) → ⊥
    by (inl begun) =
        let v = place.part begun in
        let same = code-dump.one v.0 l [] (v.1 ∷ v.2) v.3 dump.bounds
        (append-nil (Dump v.0) ∙ v.5 ∙ sym (append_assoc place.used s.left (v.1 ∷ v.2)) ∙ ap (λ x. x ++ v.1 ∷ v.2) (sym place.is ∙ dump.text)) in
        omega (arith, ap length same.1)
    by (inr begun) =
        let line = whole-line s.left in
        place.none begun l line.0 dump.bounds (ap (λ x. place.used ++ x) (sym line.1) ∙ sym place.is ∙ dump.text)

begins-front : (bytes : List ℕ) (s : State) (place : Place bytes s) → BeginsDump (first_lines (ends place.used) bytes)
begins-front bytes s place =
    let front = lines-front place.used s.left in
    let v = place.viable in
    let lines = first_lines (ends place.used) (place.used ++ s.left) in
    subst (λ xs. BeginsDump (first_lines (ends place.used) xs)) (sym place.is)
    (record {
      listing = v.listing;
      rest = front.0 ++ v.rest;
      dump = record { bounds = v.dump.bounds; text = sym (append_assoc lines front.0 v.rest) ∙ ap (λ x. x ++ v.rest) (sym front.1) ∙ v.dump.text };
    })

ends-within : (bytes : List ℕ) (s : State) (place : Place bytes s) → ends place.used ≤ ends bytes
ends-within bytes s place = omega (arith, ap ends place.is, ends-append place.used s.left)

-- the line in which the reader stands
pub refuses-here : (bytes : List ℕ) (s : State) (n : ℕ) → (not-dump : NotDump bytes s) → s.begun && ends_open bytes ≡ false → n ≡ ends (place-of bytes s not-dump).used
    → RefusesAt bytes (n + 1)
refuses-here bytes s n not-dump flag count =
    let place = place-of bytes s not-dump in
    let here : (n + 1) - 1 ≡ ends place.used = omega (arith, count) in
    record {
      none = no-dump bytes s place;
      from_one = omega arith;
      before = subst (λ m. BeginsDump (first_lines m bytes)) (sym here) (begins-front bytes s place);
      first = by place count (cases_Bool s.begun);
      some = λ two.
          let before : (n + 1) - 2 ≡ ends place.used - 1 = omega (arith, count) in
          subst (λ m. length (first_lines m bytes) < length bytes) (sym before)
          (lines-short bytes (ends place.used - 1) (omega (arith, two, count, ends-within bytes s place)));
    }
  where
    by : (place : Place bytes s) → n ≡ ends place.used → (s.begun ≡ true) ⊎ (s.begun ≡ false)
        → (first_lines ((n + 1) - 1) bytes ≡ bytes) ⊎ (BeginsDump (first_lines (n + 1) bytes) → ⊥)
    by place count (inl begun) =
        let closed : ends_open bytes ≡ false = ap (λ t. t && ends_open bytes) (sym begun) ∙ flag in
        let v = place.part begun in
        let all : (n + 1) - 1 ≡ ends bytes = omega (arith, count, ap ends place.is, ends-append place.used s.left, word-ends s.left v.4) in
        inl (ap (λ m. first_lines m bytes) all ∙ lines-whole bytes closed)
    by place count (inr begun) = inr (λ b.
        let next : n + 1 ≡ suc (ends place.used) = omega (arith, count) in
        let lines : first_lines (n + 1) bytes ≡ place.used ++ line_left s.left =
        ap (λ m. first_lines m bytes) next ∙ ap (first_lines (suc (ends place.used))) place.is ∙ lines-after place.used s.left in
        place.none begun b.listing b.rest b.dump.bounds
        (sym (append_assoc place.used (line_left s.left) b.rest) ∙ ap (λ x. x ++ b.rest) (sym lines) ∙ b.dump.text))

-- the line after the last, where a dump begins with all of the bytes, which end within a line
pub refuses-after : (bytes : List ℕ) (s : State) (n : ℕ) → (not-dump : NotDump bytes s) → s.begun && ends_open bytes ≡ true → n ≡ ends (place-of bytes s not-dump).used
    → RefusesAt bytes (n + 2)
refuses-after bytes s n not-dump flag count =
    let place = place-of bytes s not-dump in
    let parts = and_parts s.begun (ends_open bytes) flag in
    let v = place.part parts.0 in
    let all : ends bytes ≡ ends place.used = omega (arith, ap ends place.is, ends-append place.used s.left, word-ends s.left v.4) in
    let next : (n + 2) - 1 ≡ suc (ends place.used) = omega (arith, count) in
    let lines : first_lines ((n + 2) - 1) bytes ≡ bytes =
    ap (λ m. first_lines m bytes) next ∙ ap (first_lines (suc (ends place.used))) place.is ∙ lines-after place.used s.left
    ∙ ap (λ x. place.used ++ x) (line-of-word s.left v.4) ∙ sym place.is in
    record {
      none = no-dump bytes s place;
      from_one = omega arith;
      before = subst BeginsDump (sym lines) (record {
        listing = v.0;
        rest = v.1 ∷ v.2;
        dump = record { bounds = v.3; text = ap (λ x. x ++ v.1 ∷ v.2) place.is ∙ append_assoc place.used s.left (v.1 ∷ v.2) ∙ sym v.5 };
      });
      first = inl lines;
      some = λ _.
          let before : (n + 2) - 2 ≡ ends bytes = omega (arith, count, all) in
          subst (λ m. length (first_lines m bytes) < length bytes) (sym before) (lines-open bytes parts.1);
    }

-- ---- numbers

m-and-o : (z : List ℕ) → codes "module " ++ z ≡ 109 ∷ 111 ∷ (100 ∷ 117 ∷ 108 ∷ 101 ∷ 32 ∷ z)
m-and-o z = refl

-- the line's number has 32 bits, as the count of bytes has
pub few-lines : (bytes : List ℕ) (s : State) (n : ℕ) (not-dump : NotDump bytes s) → length bytes < 2 ^ 32 → n ≡ ends (place-of bytes s not-dump).used → n + 2 < 2 ^ 32
few-lines bytes s n not-dump short count =
    let place = place-of bytes s not-dump in
    let v = place.viable in
    let front = dump-front v.listing in
    by place count
    (fewer-ends place.used v.rest (100 ∷ 117 ∷ 108 ∷ 101 ∷ 32 ∷ front.0) 109 111 refl refl (sym (m-and-o front.0) ∙ sym front.1 ∙ sym v.dump.text))
  where
    by : (place : Place bytes s) → n ≡ ends place.used → (ends place.used + 2 ≤ length place.used) ⊎ (ends place.used ≡ 0) → n + 2 < 2 ^ 32
    by place count (inl fewer) = omega (arith, fewer, count, short, ap length place.is, length-append place.used s.left)
    by place count (inr none) = omega (arith, none, count)

take-front : (u v : List ℕ) (n : ℕ) → n ≡ length u → take n (u ++ v) ≡ u
take-front u v n is = ap (λ m. take m (u ++ v)) is ∙ by u
  where
    by : (u : List ℕ) → take (length u) (u ++ v) ≡ u
    by [] = refl
    by (b ∷ u) = ap (λ x. b ∷ x) (by u)

-- what was taken
pub taken-front : (bytes : List ℕ) (s : State) (not-dump : NotDump bytes s) → take (length bytes - length s.left) bytes ≡ (place-of bytes s not-dump).used
taken-front bytes s not-dump =
    let place = place-of bytes s not-dump in
    let count : length bytes - length s.left ≡ length place.used = omega (arith, ap length place.is, length-append place.used s.left) in
    ap (λ xs. take (length bytes - length s.left) xs) place.is ∙ take-front place.used s.left (length bytes - length s.left) count

pub left-within : (bytes : List ℕ) (s : State) (not-dump : NotDump bytes s) → length s.left ≤ length bytes
left-within bytes s not-dump =
    let place = place-of bytes s not-dump in omega (arith, ap length place.is, length-append place.used s.left)

-- ---- a dump that was read whole

pub dump-read : (bytes : List ℕ) (s : State) (l : Listing) → Reads Dump IsListing shut l (beginning bytes) s → s.stopped ≡ false → length s.left ≡ 0 → IsDump bytes l
dump-read bytes s l reads going none = by s.stopped going reads
  where
    empty : (xs : List ℕ) → length xs ≡ 0 → xs ≡ []
    empty [] h = refl
    empty (x ∷ xs) h = absurd (omega (arith, h))

    by : (t : Bool) → t ≡ false → Outcome false t Dump IsListing shut l (beginning bytes) s → IsDump bytes l
    by true is stops = absurd cc
    by false is took = record { bounds = took.range; text = took.is ∙ ap (λ x. Dump l ++ x) (empty s.left none) ∙ append-nil (Dump l) }

pub one-dump : (bytes : List ℕ) (l m : Listing) → IsDump bytes l → IsDump bytes m → m ≡ l
one-dump bytes l m dump other =
    (code-dump.one m l [] [] other.bounds dump.bounds (ap (λ x. x ++ []) (sym other.text ∙ dump.text))).0
