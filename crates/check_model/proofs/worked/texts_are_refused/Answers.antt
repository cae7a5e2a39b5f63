use Rattle.std.proofs.Common.{◌≡◌, ℕ, ◌+◌, ◌≤◌, List, [], ◌∷◌, ◌++◌, get_or, refl, sym, ◌∙◌, ap, arith}
use Rattle.std.specs.Prelude.{codes}
use Rattle.std.specs.Fmt.{digits}
use Rattle.std.specs.List.{flat_map, enumerate_from}
use Rattle.session_model.specs.Kept.{AreLines}
use Rattle.session_model.specs.Merging.{numbers_of}
use Rattle.session_model.specs.Text.{words, line_of}
use Rattle.session_model.specs.Transcript.{entry_text, script_text}
use Rattle.session_model.specs.WorkedRuns.{D}
use Rattle.session_model.specs.WorkedSessions.{ln}
use Rattle.check_model.specs.Told.{Told, IsTold, told_text, count_words}
use Rattle.check_model.specs.Worked.{misspelled}
use Rattle.check_model.proofs.FaultLines.{ends, ends-append}
use Rattle.check_model.proofs.worked.texts_are_refused.Goals as goal

-- what is told of nothing
abbrev nothing : Told
nothing = record { run = record { history = []; steady = [] }; counts = record { processes = 0; entries = 0; faults = 0 } }

is_nothing : IsTold D nothing
is_nothing = record { few = omega arith; rising = omega arith; entries = tt; lines = tt; counts = record { processes = omega arith; entries = omega arith; faults = omega arith } }

abbrev later : Told → List ℕ
later t = flat_map (entry_text D (numbers_of t.run.steady)) (enumerate_from 1 t.run.history) ++ flat_map script_text t.run.steady ++ line_of (count_words t.counts)

first_is : (t : Told) → told_text D t ≡ ln (codes "history") ++ later t
unfolding told_text
first_is t = refl

not_begun : (lines rest after : List ℕ) → misspelled ≡ lines ++ rest → AreLines lines → ends lines ≡ 1 → (x : List ℕ) → ln (codes "history") ++ x ≡ lines ++ after → ⊥
not_begun [] rest after is whole count x same = absurd (let none : ⊥ = omega (arith, count) in none)
not_begun (a ∷ []) rest after is whole count x same = absurd (let one : 104 ≡ a = ap (λ (l : List ℕ). get_or l 0 0) is in let none : ⊥ = omega (arith, one, whole) in none)
not_begun (a ∷ b ∷ []) rest after is whole count x same = absurd (let one : 105 ≡ b = ap (λ (l : List ℕ). get_or l 1 0) is in let none : ⊥ = omega (arith, one, whole) in none)
not_begun (a ∷ b ∷ c ∷ []) rest after is whole count x same = absurd (let one : 115 ≡ c = ap (λ (l : List ℕ). get_or l 2 0) is in let none : ⊥ = omega (arith, one, whole) in none)
not_begun (a ∷ b ∷ c ∷ d ∷ []) rest after is whole count x same = absurd (let one : 116 ≡ d = ap (λ (l : List ℕ). get_or l 3 0) is in let none : ⊥ = omega (arith, one, whole) in none)
not_begun (a ∷ b ∷ c ∷ d ∷ e ∷ lines) rest after is whole count x same =
    let one : 0x65 ≡ e = ap (λ (l : List ℕ). get_or l 4 0) is in
    let other : 0x6F ≡ e = ap (λ (l : List ℕ). get_or l 4 0) same in
    omega (arith, one, other)

-- one line is no two
not_two : (bytes lines rest : List ℕ) → ends bytes ≡ 1 → bytes ≡ lines ++ rest → ends lines ≡ 2 → ⊥
not_two bytes lines rest one is two =
    let all : ends bytes ≡ ends lines + ends rest = ap ends is ∙ ends-append lines rest in
    omega (arith, one, two, all)

-- what is told has two lines at least
two_ends : (t : Told) → 2 ≤ ends (told_text D t)
two_ends t =
    let line_ends : (ws : List (List ℕ)) → 1 ≤ ends (line_of ws) = λ ws. (let all = ends-append (words ws) (0x0A ∷ []) in let one : ends (0x0A ∷ []) ≡ 1 = refl in omega (arith, all, one)) in
    let es : List ℕ = flat_map (entry_text D (numbers_of t.run.steady)) (enumerate_from 1 t.run.history) in
    let ss : List ℕ = flat_map script_text t.run.steady in
    let last : List ℕ = line_of (count_words t.counts) in
    let whole = ap ends (first_is t) in
    let first = ends-append (ln (codes "history")) (later t) in
    let one = ends-append (es ++ ss) last in
    let end = line_ends (count_words t.counts) in
    let h : ends (ln (codes "history")) ≡ 1 = refl in
    omega (arith, whole, first, one, end, h)

pub returns : goal.returns
unfolding told_text digits
returns c = record {
  first_line = record {
    none = λ t told is. (let one : 0x65 ≡ 0x6F = ap (λ (l : List ℕ). get_or l 4 0) (is ∙ first_is t) in omega (arith, one));
    from_one = omega arith;
    above = record { lines = []; first = record { rest = misspelled; all = refl; whole = tt; count = refl }; told = nothing; is_told = is_nothing; after = told_text D nothing; text = refl };
    first = λ b. not_begun b.lines b.first.rest b.after b.first.all b.first.whole b.first.count (later b.told) (sym (first_is b.told) ∙ b.text);
  };
  more_lines = record {
    none = λ t told is. (let few : ends (ln (codes "history")) ≡ ends (told_text D t) = ap ends is in let one : ends (ln (codes "history")) ≡ 1 = refl in let two = two_ends t in omega (arith, few, one, two));
    from_one = omega arith;
    above = record { lines = ln (codes "history"); first = record { rest = []; all = refl; whole = refl; count = refl }; told = nothing; is_told = is_nothing; after = ln (codes "summary processes 0 entries 0 faults 0"); text = refl };
    first = λ b. not_two (ln (codes "history")) b.lines b.first.rest refl b.first.all b.first.count;
  };
  no_end = record {
    none = λ t told is. (let few : ends (ln (codes "history") ++ codes "summary") ≡ ends (told_text D t) = ap ends is in let one : ends (ln (codes "history") ++ codes "summary") ≡ 1 = refl in let two = two_ends t in omega (arith, few, one, two));
    from_one = omega arith;
    above = record { lines = ln (codes "history"); first = record { rest = codes "summary"; all = refl; whole = refl; count = refl }; told = nothing; is_told = is_nothing; after = ln (codes "summary processes 0 entries 0 faults 0"); text = refl };
    first = λ b. not_two (ln (codes "history") ++ codes "summary") b.lines b.first.rest refl b.first.all b.first.count;
  };
}
