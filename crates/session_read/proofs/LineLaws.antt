-- The first line of bytes.
use Rattle.std.proofs.Common.{◌≡◌, ◌≢◌, ℕ, zero, suc, ◌+◌, ◌-◌, ◌<◌, Bool, true, false, List, [], ◌∷◌, length, take, drop, get_or, refl, sym, ap, ◌∙◌, arith, add-one}
use Rattle.std.specs.Prelude.{◌==◌, Option}
use Rattle.std.specs.List.{filter_map}
use Rattle.std.proofs.lemmas.List.{take_rest}
use Rattle.std.proofs.lemmas.Bool.{ne_eqb, cond-false, cond-true, and_from, and_left, and_right}
use Rattle.session_model.specs.Lines.{with_byte, is_cut, lines_in}
use Rattle.session_read.specs.Cutting.{without_cr}

-- a line that an LF begins is empty
pub line_end : (b : ℕ) (bytes : List ℕ) → b ≡ 10 → lines_in (b ∷ bytes) ≡ [] ∷ lines_in bytes
unfolding lines_in
line_end b [] h = rw h refl
line_end b (c ∷ bytes) h = rw h refl

-- a byte that neither is an LF nor belongs to one
pub line_byte : (b : ℕ) (bytes : List ℕ) → is_cut b bytes ≡ false → b ≢ 10 → lines_in (b ∷ bytes) ≡ with_byte b (lines_in bytes)
unfolding lines_in
line_byte b bytes uncut other = cond-false _ _ _ uncut ∙ cond-false _ _ _ (ne_eqb b 10 other)

-- a byte right before the LF
before_end : (b c : ℕ) (bytes : List ℕ) → c ≡ 10 → b ≢ 10 → lines_in (b ∷ c ∷ bytes) ≡ without_cr (b ∷ []) ∷ lines_in bytes
unfolding lines_in
before_end b c bytes end other = step (b == 13) refl
  where
    step : (t : Bool) → (b == 13) ≡ t → lines_in (b ∷ c ∷ bytes) ≡ without_cr (b ∷ []) ∷ lines_in bytes
    step true h =
        cond-true _ _ _ (and_from (b == 13) (c == 10) h (rw end refl)) ∙ line_end c bytes end
        ∙ ap (λ line. line ∷ lines_in bytes) (sym (cond-true (b == 13) [] (b ∷ []) h))
    step false h =
        line_byte b (c ∷ bytes) (and_left (b == 13) (c == 10) h) other ∙ ap (with_byte b) (line_end c bytes end)
        ∙ ap (λ line. line ∷ lines_in bytes) (sym (cond-false (b == 13) [] (b ∷ []) h))

-- the line up to the first LF
pub lines_cut :
    (bytes : List ℕ) (k : ℕ) → k < length bytes → get_or bytes k 0 ≡ 10 → ((j : ℕ) → j < k → get_or bytes j 0 ≢ 10)
    → lines_in bytes ≡ without_cr (take k bytes) ∷ lines_in (drop (suc k) bytes)
lines_cut [] k within end none = absurd (omega arith)
lines_cut (b ∷ bytes) zero within end none = line_end b bytes end
lines_cut (b ∷ []) (suc k) within end none = absurd (omega arith)
lines_cut (b ∷ c ∷ bytes) (suc zero) within end none = before_end b c bytes end (none 0 (omega arith))
lines_cut (b ∷ c ∷ bytes) (suc (suc k)) within end none =
    line_byte b (c ∷ bytes) (and_right (b == 13) (c == 10) (ne_eqb c 10 (none 1 (omega arith)))) (none 0 (omega arith))
    ∙ ap (with_byte b) (lines_cut (c ∷ bytes) (suc k) (omega arith) end (λ j h. none (suc j) (omega arith)))

-- the last line, where no LF stands
pub lines_last : (bytes : List ℕ) → 0 < length bytes → ((j : ℕ) → j < length bytes → get_or bytes j 0 ≢ 10) → lines_in bytes ≡ bytes ∷ []
unfolding lines_in
lines_last [] some none = absurd (omega arith)
lines_last (b ∷ []) some none = line_byte b [] refl (none 0 (omega arith))
lines_last (b ∷ c ∷ bytes) some none =
    line_byte b (c ∷ bytes) (and_right (b == 13) (c == 10) (ne_eqb c 10 (none 1 (omega arith)))) (none 0 (omega arith))
    ∙ ap (with_byte b) (lines_last (c ∷ bytes) (omega arith) (λ j h. none (suc j) (omega arith)))

-- ---- the CR before it

pub cr_cut : (line : List ℕ) (k : ℕ) → suc k ≡ length line → get_or line k 0 ≡ 13 → take k line ≡ without_cr line
cr_cut [] k all end = absurd (omega arith)
cr_cut (b ∷ []) zero all end = sym (cond-true (b == 13) [] (b ∷ []) (rw end refl))
cr_cut (b ∷ []) (suc k) all end = absurd (omega arith)
cr_cut (b ∷ c ∷ line) zero all end = absurd (omega arith)
cr_cut (b ∷ c ∷ line) (suc k) all end = ap (λ bytes. b ∷ bytes) (cr_cut (c ∷ line) k (omega arith) end)

pub cr_none : (line : List ℕ) (k : ℕ) → suc k ≡ length line → get_or line k 0 ≢ 13 → line ≡ without_cr line
cr_none [] k all other = refl
cr_none (b ∷ []) zero all other = sym (cond-false (b == 13) [] (b ∷ []) (ne_eqb b 13 other))
cr_none (b ∷ []) (suc k) all other = absurd (omega arith)
cr_none (b ∷ c ∷ line) zero all other = absurd (omega arith)
cr_none (b ∷ c ∷ line) (suc k) all other = ap (λ bytes. b ∷ bytes) (cr_none (c ∷ line) k (omega arith) other)

pub cr_empty : (line : List ℕ) → length line ≡ 0 → line ≡ without_cr line
cr_empty [] none = refl
cr_empty (b ∷ line) none = absurd (omega arith)

-- ---- as the code cuts it

pub lines_cut_at :
    (bytes : List ℕ) (k : ℕ) (line : List ℕ) → k < length bytes → get_or bytes k 0 ≡ 10 → ((j : ℕ) → j < k → (get_or bytes j 0 == 10) ≡ true → ⊥)
    → line ≡ without_cr (take k bytes) → lines_in bytes ≡ line ∷ lines_in (take (length bytes - (k + 1)) (drop (k + 1) bytes))
lines_cut_at bytes k line within end none is =
    lines_cut bytes k within end (λ j h e. none j h (rw e refl))
    ∙ ap (λ n. without_cr (take k bytes) ∷ lines_in (drop n bytes)) (sym (add-one k))
    ∙ ap (λ front. front ∷ lines_in (drop (k + 1) bytes)) (sym is)
    ∙ ap (λ after. line ∷ lines_in after) (sym (take_rest bytes (k + 1)))

pub lines_last_at : (bytes : List ℕ) → 0 < length bytes → ((j : ℕ) → j < length bytes → (get_or bytes j 0 == 10) ≡ true → ⊥) → lines_in bytes ≡ bytes ∷ lines_in []
unfolding lines_in
lines_last_at bytes some none = lines_last bytes some (λ j h e. none j h (rw e refl))

-- no bytes have no lines, and nothing is said
pub none-said : {A : Type 0} (f : List ℕ → Option A) (bytes : List ℕ) → length bytes ≡ 0 → filter_map f (lines_in bytes) ≡ []
unfolding lines_in
none-said f [] none = refl
none-said f (b ∷ bytes) none = absurd (omega (arith, none))
