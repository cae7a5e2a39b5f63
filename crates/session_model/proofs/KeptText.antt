-- Lines after lines.
use Rattle.std.proofs.Common.{◌≡◌, ℕ, ◌<◌, Bool, true, false, List, [], ◌∷◌, ◌++◌, length, refl, ap, ◌∙◌, arith}
use Rattle.std.specs.Prelude.{◌==◌, if◌then◌else◌, option_to_list, Option, Some, None}
use Rattle.std.specs.List.{cons_option, filter_map, list_all}
use Rattle.std.proofs.lemmas.List.Elements.{filter_map-append}
use Rattle.std.proofs.lemmas.Bool.Decides.{nat_tests}
use Rattle.std.proofs.lemmas.Bool.{and_parts}
use Rattle.session_model.specs.Lines.{is_allowed, is_cut, with_byte, lines_in}
use Rattle.session_model.specs.Kept.{AreLines, IsOneLine}

-- ---- whole lines, and others after them

choose : {A : Type 0} (b : Bool) (x y z : A) → (x ≡ z) → (y ≡ z) → (if b then x else y) ≡ z
choose true x y z h k = h
choose false x y z h k = k

pub lines-some : (b : ℕ) (text : List ℕ) → AreLines (b ∷ text) → lines_in (b ∷ text) ≡ [] → ⊥
unfolding lines_in
lines-some b text whole none = some (lines_in (b ∷ text)) (has b text whole) none
  where
    some : (lines : List (List ℕ)) → 0 < length lines → lines ≡ [] → ⊥
    some [] h e = omega (arith, h)
    some (l ∷ lines) h e = (let no : ⊥ = cc in no)

    fronted : (b : ℕ) (lines : List (List ℕ)) → 0 < length (with_byte b lines)
    fronted b [] = omega arith
    fronted b (l ∷ lines) = omega arith

    chosen : (t : Bool) (xs ys : List (List ℕ)) → 0 < length xs → 0 < length ys → 0 < length (if t then xs else ys)
    chosen true xs ys h k = h
    chosen false xs ys h k = k

    has : (b : ℕ) (text : List ℕ) → AreLines (b ∷ text) → 0 < length (lines_in (b ∷ text))
    has b [] whole = chosen (b == 10) ([] ∷ lines_in []) (with_byte b (lines_in [])) (omega arith) (fronted b (lines_in []))
    has b (c ∷ text) whole =
        chosen (is_cut b (c ∷ text)) (lines_in (c ∷ text)) (if b == 10 then [] ∷ lines_in (c ∷ text) else with_byte b (lines_in (c ∷ text)))
        (has c text whole)
        (chosen (b == 10) ([] ∷ lines_in (c ∷ text)) (with_byte b (lines_in (c ∷ text))) (omega arith) (fronted b (lines_in (c ∷ text))))

fronted-append : (b : ℕ) (xs ys : List (List ℕ)) → (xs ≡ [] → ⊥) → with_byte b (xs ++ ys) ≡ with_byte b xs ++ ys
fronted-append b [] ys some = absurd (some refl)
fronted-append b (x ∷ xs) ys some = refl

pub lines-append : (text more : List ℕ) → AreLines text → lines_in (text ++ more) ≡ lines_in text ++ lines_in more
unfolding lines_in
lines-append [] more whole = refl
lines-append (b ∷ []) more whole = rw whole (ended more)
  where
    ended : (more : List ℕ) → lines_in (10 ∷ more) ≡ [] ∷ lines_in more
    ended [] = refl
    ended (c ∷ more) = refl
lines-append (b ∷ c ∷ text) more whole = step (is_cut b (c ∷ text)) (b == 10) (lines-append (c ∷ text) more whole)
  where
    step : (cut end : Bool) → lines_in (c ∷ text ++ more) ≡ lines_in (c ∷ text) ++ lines_in more
        → (if cut then lines_in (c ∷ text ++ more) else if end then [] ∷ lines_in (c ∷ text ++ more) else with_byte b (lines_in (c ∷ text ++ more)))
        ≡ (if cut then lines_in (c ∷ text) else if end then [] ∷ lines_in (c ∷ text) else with_byte b (lines_in (c ∷ text))) ++ lines_in more
    step true end h = h
    step false true h = ap (λ lines. [] ∷ lines) h
    step false false h = ap (with_byte b) h ∙ fronted-append b (lines_in (c ∷ text)) (lines_in more) (lines-some c text whole)

pub lines_longer : (text line : List ℕ) → AreLines (text ++ (line ++ 0x0A ∷ []))
lines_longer [] [] = refl
lines_longer [] (b ∷ []) = refl
lines_longer [] (b ∷ c ∷ line) = lines_longer [] (c ∷ line)
lines_longer (b ∷ []) [] = refl
lines_longer (b ∷ []) (c ∷ line) = lines_longer [] (c ∷ line)
lines_longer (b ∷ c ∷ text) line = lines_longer (c ∷ text) line

-- ---- one line

second : {A : Type 0} (t : Bool) (x y : A) → t ≡ false → (if t then x else y) ≡ y
second t x y h = rw h refl

not_end : (b : ℕ) → is_allowed b ≡ true → (b == 10) ≡ false
not_end b h = grind (arith, nat_tests)

not_cr : (b : ℕ) → is_allowed b ≡ true → (b == 13) ≡ false
not_cr b h = grind (arith, nat_tests)

pub uncut : (b : ℕ) (text : List ℕ) → (b == 13) ≡ false → is_cut b text ≡ false
uncut b [] h = refl
uncut b (c ∷ text) h = rw h refl

line-alone : (line : List ℕ) → IsOneLine line → lines_in (line ++ 0x0A ∷ []) ≡ line ∷ []
unfolding lines_in
line-alone [] h = refl
line-alone (b ∷ line) h =
    let good = (and_parts (is_allowed b) (list_all is_allowed line) h).0 in
    second _ _ _ (uncut b (line ++ 0x0A ∷ []) (not_cr b good)) ∙ second _ _ _ (not_end b good)
    ∙ ap (with_byte b) (line-alone line (and_parts (is_allowed b) (list_all is_allowed line) h).1)

one-listed : {A : Type 0} (f : List ℕ → Option A) (line : List ℕ) → filter_map f (line ∷ []) ≡ option_to_list (f line)
one-listed {A} f line = by_case (f line)
  where
    by_case : (o : Option A) → cons_option o [] ≡ option_to_list o
    by_case None = refl
    by_case (Some x) = refl

pub line_kept : {A : Type 0} (f : List ℕ → Option A) (text line longer : List ℕ) → AreLines text → IsOneLine line → longer ≡ text ++ (line ++ 0x0A ∷ [])
    → filter_map f (lines_in longer) ≡ filter_map f (lines_in text) ++ option_to_list (f line)
line_kept f text line longer whole one is =
    ap (λ text. filter_map f (lines_in text)) is
    ∙ ap (filter_map f) (lines-append text (line ++ 0x0A ∷ []) whole ∙ ap (λ lines. lines_in text ++ lines) (line-alone line one))
    ∙ filter_map-append f (lines_in text) (line ∷ [])
    ∙ ap (λ last. filter_map f (lines_in text) ++ last) (one-listed f line)
