-- What a line says, by its words.
use Rattle.std.proofs.Common.{◌≡◌, ℕ, Bool, true, false, not, if◌then◌else◌, List, [], ◌∷◌, length, get_or, Result, Err, refl, sym, ap, subst, ◌∙◌, arith, ◌<◌}
use Rattle.std.specs.List.{list_all}
use Rattle.std.proofs.lemmas.Bool.{not_from_true, not_from_false, ne_eqb, cond-false, cond-true}
use Rattle.lx_types.specs.declared.fail.Fail.{Fail}
use Rattle.lx_types.specs.declared.fail.Fail.TheVariants.{Said, NoMemory}
use Rattle.lx_types.specs.Answers.{Answers}
use Rattle.session_model.specs.declared.sessions.SessionKind.{SessionKind}
use Rattle.session_model.specs.declared.sessions.SessionKind.TheVariants as kinds
use Rattle.session_model.specs.Lines.{is_allowed, words_in}
use Rattle.session_model.specs.Kept.{IsOneLine}
use Rattle.session_model.specs.Statements.{Statement, Reading, nothing, says, wrong, word_count, by_count, is_comment, of_words, reading_of}
use Rattle.session_read.specs.declared.said.Said as said
use Rattle.session_read.specs.Told.{Says}

pub says-along : (r s : Reading) (result : Result said.Said (Fail SessionKind)) → r ≡ s → Says s result → Says r result
says-along r s result same h = subst (λ r. Says r result) (sym same) h

pub reading-bytes : (line : List ℕ) → false ≡ list_all (λ b. is_allowed b) line → reading_of line ≡ wrong kinds.Byte
unfolding reading_of
reading-bytes line h = cond-true _ _ _ (not_from_false (list_all is_allowed line) (sym h))

pub reading-words : (line : List ℕ) (ws : List (List ℕ)) → true ≡ list_all (λ b. is_allowed b) line → words_in line ≡ ws → reading_of line ≡ of_words ws
unfolding reading_of
reading-words line ws h is = cond-false _ _ _ (not_from_true (list_all is_allowed line) (sym h)) ∙ ap of_words is

comment-is : (w : List ℕ) → 0 < length w → get_or w 0 0 ≡ 0x23 → is_comment w ≡ true
comment-is [] some h = absurd (omega arith)
comment-is (b ∷ w) some h = rw h refl

comment-not : (w : List ℕ) → 0 < length w → (get_or w 0 0 ≡ 0x23 → ⊥) → is_comment w ≡ false
comment-not [] some h = absurd (omega arith)
comment-not (b ∷ w) some h = ne_eqb b 0x23 h

-- a line that a comment begins
pub reading-comment : (line w : List ℕ) (ws : List (List ℕ)) → true ≡ list_all (λ b. is_allowed b) line → words_in line ≡ w ∷ ws
    → 0 < length w → get_or w 0 0 ≡ 0x23 → reading_of line ≡ nothing
reading-comment line w ws allowed is some h = reading-words line (w ∷ ws) allowed is ∙ cond-true _ _ _ (comment-is w some h)

-- another line
pub reading-counted : (line w : List ℕ) (ws : List (List ℕ)) → true ≡ list_all (λ b. is_allowed b) line → words_in line ≡ w ∷ ws
    → 0 < length w → (get_or w 0 0 ≡ 0x23 → ⊥) → reading_of line ≡ by_count (word_count w) (w ∷ ws)
reading-counted line w ws allowed is some h = reading-words line (w ∷ ws) allowed is ∙ cond-false _ _ _ (comment-not w some h)

-- what is wrong is told of another reading that is the same
pub err-along : {A B : Type 0} (fail : Fail SessionKind) (P : A → Type 0) (Q : B → Type 0) (r s : Reading) → r ≡ s
    → Answers (Err fail) P (λ kind. s ≡ wrong kind) → Answers (Err fail) Q (λ kind. r ≡ wrong kind)
err-along (Said kind) P Q r s same h = same ∙ h
err-along NoMemory P Q r s same h = tt

-- ---- a line that says something has allowed bytes alone

pub said-allowed : (line : List ℕ) (s : Statement) → reading_of line ≡ says s → IsOneLine line
unfolding reading_of
said-allowed line s h = step (list_all is_allowed line) refl h
  where
    step : (t : Bool) → list_all is_allowed line ≡ t → (if not t then wrong kinds.Byte else of_words (words_in line)) ≡ says s → list_all is_allowed line ≡ true
    step true is h = is
    step false is h = absurd (let no : ⊥ = cc in no)
