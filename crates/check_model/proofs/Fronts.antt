-- Fronts rise exactly where each line's fits at its place, and none is beyond all entries.
use Rattle.std.proofs.Common.{◌≡◌, ℕ, zero, suc, ◌+◌, ◌≤◌, ◌<◌, ◌==◌, Bool, true, false, cond, nat_lt, List, [], ◌∷◌, length, map, filter, flat_map, refl, sym, subst, arith, eqb-true, eq-eqb}
use Rattle.std.specs.List.{AllByRecursion}
use Rattle.std.proofs.lemmas.Bool.{eqb-false, ltb-true, ltb-false}
use Rattle.lx_types.proofs.Lists.{all_joined, all_front, all_back, all_kept}
use Rattle.load_model.specs.declared.deeds.Entry.{Entry}
use Rattle.session_model.specs.declared.sessions.Line.{Line}
use Rattle.session_model.specs.declared.sessions.ScriptLines.{ScriptLines}
use Rattle.session_model.specs.Merging.{FrontsFrom}
use Rattle.check_model.specs.Told.{Told}
use Rattle.check_model.specs.Places.{deed_height, NumberedLine, numbered_lines, numbered_scripts, Numbered, numbered_line, numbered_at, all_numbered_at, numbered_from, numbered_merge, beyond_place, lines_beyond}
use Rattle.check_model.specs.Checks.{Judge, IsFront, FrontFits, IsFine}
use Rattle.check_model.proofs.NumberedItems.{with_front}

abbrev pub LineFits : ℕ → NumberedLine → Type 0
LineFits high l = IsFront l.low high l.line.front

abbrev pub ScriptFits : ℕ → ℕ × List NumberedLine → Type 0
ScriptFits high s = AllByRecursion (LineFits high) s.1

abbrev pub Fits : ℕ → Numbered → Type 0
Fits high x = FrontFits x.low high x.item

-- ---- lines in their scripts

lines_fit : (high n low : ℕ) (ls : List Line) → FrontsFrom low high ls → AllByRecursion (LineFits high) (numbered_lines n low ls)
lines_fit high n low [] f = tt
lines_fit high n low (l ∷ ls) f = ((f.0, f.1), lines_fit high (n + 1) l.front ls f.2)

fronts_from : (high n low : ℕ) (ls : List Line) → AllByRecursion (LineFits high) (numbered_lines n low ls) → FrontsFrom low high ls
fronts_from high n low [] a = tt
fronts_from high n low (l ∷ ls) a = (a.0.0, a.0.1, fronts_from high (n + 1) l.front ls a.1)

pub scripts_fit : (high pid n : ℕ) (s : List ScriptLines) → AllByRecursion (λ (x : ScriptLines). FrontsFrom 0 high x.lines) s →
    AllByRecursion (ScriptFits high) (numbered_scripts pid n s)
scripts_fit high pid n [] f = tt
scripts_fit high pid n (x ∷ s) f = (lines_fit high (n + 1) 0 x.lines f.0, scripts_fit high (pid + 1) (n + 1 + length x.lines) s f.1)

pub fronts_rise : (high pid n : ℕ) (s : List ScriptLines) → AllByRecursion (ScriptFits high) (numbered_scripts pid n s) →
    AllByRecursion (λ (x : ScriptLines). FrontsFrom 0 high x.lines) s
fronts_rise high pid n [] a = tt
fronts_rise high pid n (x ∷ s) a = (fronts_from high (n + 1) 0 x.lines a.0, fronts_rise high (pid + 1) (n + 1 + length x.lines) s a.1)

-- ---- from the scripts to the merge

mapped_fit : (high pid : ℕ) (ls : List NumberedLine) → AllByRecursion (LineFits high) ls → AllByRecursion (Fits high) (map (numbered_line pid) ls)
mapped_fit high pid [] a = tt
mapped_fit high pid (l ∷ ls) a = (a.0, mapped_fit high pid ls a.1)

at_fit : (high front : ℕ) (ns : List (ℕ × List NumberedLine)) → AllByRecursion (ScriptFits high) ns → AllByRecursion (Fits high) (all_numbered_at ns front)
at_fit high front [] a = tt
at_fit high front (s ∷ ns) a =
    all_joined (Fits high) (numbered_at front s) (all_numbered_at ns front)
    (mapped_fit high s.0 (with_front front s.1) (all_kept (LineFits high) (λ (l : NumberedLine). l.line.front == front) s.1 a.0)) (at_fit high front ns a.1)

from_fit : (high : ℕ) (ns : List (ℕ × List NumberedLine)) → AllByRecursion (ScriptFits high) ns → (k n : ℕ) (h : List Entry) →
    AllByRecursion (Fits high) (numbered_from ns k n h)
from_fit high ns a k n [] = tt
from_fit high ns a k n (x ∷ h) =
    (tt, all_joined (Fits high) (all_numbered_at ns k) (numbered_from ns (k + 1) (n + deed_height x.deed) h) (at_fit high k ns a) (from_fit high ns a (k + 1) (n + deed_height x.deed) h))

pub merge_fits : (high : ℕ) (ns : List (ℕ × List NumberedLine)) (h : List Entry) → AllByRecursion (ScriptFits high) ns → AllByRecursion (Fits high) (numbered_merge ns h)
merge_fits high ns h a = all_joined (Fits high) (all_numbered_at ns 0) (numbered_from ns 1 2 h) (at_fit high 0 ns a) (from_fit high ns a 1 2 h)

beyond_fine : (j : Judge) (t : Told) (ls : List NumberedLine) → AllByRecursion (LineFits (length t.run.history)) ls → AllByRecursion (IsFine j t) (map beyond_place ls)
beyond_fine j t [] a = tt
beyond_fine j t (l ∷ ls) a = ((tt, (a.0.1, (tt, (tt, (tt, (tt, (tt, (tt, (tt, tt))))))))), beyond_fine j t ls a.1)

pub all_beyond_fine : (j : Judge) (t : Told) (ns : List (ℕ × List NumberedLine)) → AllByRecursion (ScriptFits (length t.run.history)) ns →
    AllByRecursion (IsFine j t) (flat_map (lines_beyond (length t.run.history)) ns)
all_beyond_fine j t [] a = tt
all_beyond_fine j t (s ∷ ns) a =
    let high : ℕ = length t.run.history in
    all_joined (IsFine j t) (lines_beyond high s) (flat_map (lines_beyond high) ns)
    (beyond_fine j t (filter (λ (l : NumberedLine). nat_lt high l.line.front) s.1) (all_kept (LineFits high) (λ (l : NumberedLine). nat_lt high l.line.front) s.1 a.0))
    (all_beyond_fine j t ns a.1)

-- ---- and back

after_entry_fit : (high : ℕ) (ns : List (ℕ × List NumberedLine)) (k n : ℕ) (h : List Entry) → AllByRecursion (Fits high) (numbered_from ns k n h) → (f : ℕ) → k ≤ f → f < k + length h →
    AllByRecursion (Fits high) (all_numbered_at ns f)
after_entry_fit high ns k n [] all f low below = absurd (let none : ⊥ = omega arith in none)
after_entry_fit high ns k n (x ∷ h) all f low below =
    step (f == k) refl
    (after_entry_fit high ns (k + 1) (n + deed_height x.deed) h (all_back (Fits high) (all_numbered_at ns k) (numbered_from ns (k + 1) (n + deed_height x.deed) h) all.1) f)
  where
    step : (b : Bool) → (f == k) ≡ b → (k + 1 ≤ f → f < (k + 1) + length h → AllByRecursion (Fits high) (all_numbered_at ns f)) → AllByRecursion (Fits high) (all_numbered_at ns f)
    step true is later =
        subst (λ (q : ℕ). AllByRecursion (Fits high) (all_numbered_at ns q)) (sym (eqb-true f k is))
        (all_front (Fits high) (all_numbered_at ns k) (numbered_from ns (k + 1) (n + deed_height x.deed) h) all.1)
    step false is later =
        let apart : f ≡ k → ⊥ = eqb-false f k is in
        later (omega arith) (omega arith)

front_fit : (high : ℕ) (ns : List (ℕ × List NumberedLine)) (h : List Entry) → AllByRecursion (Fits high) (numbered_merge ns h) → (f : ℕ) → f ≤ length h →
    AllByRecursion (Fits high) (all_numbered_at ns f)
front_fit high ns h all zero below = all_front (Fits high) (all_numbered_at ns 0) (numbered_from ns 1 2 h) all
front_fit high ns h all (suc f) below =
    after_entry_fit high ns 1 2 h (all_back (Fits high) (all_numbered_at ns 0) (numbered_from ns 1 2 h) all) (suc f) (omega arith) (omega arith)

rest_fits : (high pid : ℕ) (b : Bool) (l : NumberedLine) (ls : List NumberedLine) → AllByRecursion (Fits high) (map (numbered_line pid) (cond b (l ∷ ls) ls)) →
    AllByRecursion (Fits high) (map (numbered_line pid) ls)
rest_fits high pid true l ls a = a.1
rest_fits high pid false l ls a = a

first_fits : (high pid : ℕ) (b : Bool) (l : NumberedLine) (ls : List NumberedLine) → b ≡ true → AllByRecursion (Fits high) (map (numbered_line pid) (cond b (l ∷ ls) ls)) → LineFits high l
first_fits high pid true l ls is a = a.0
first_fits high pid false l ls is a = absurd (cc (is))

abbrev lines_over : ℕ → List NumberedLine → List NumberedLine
lines_over high ls = filter (λ (l : NumberedLine). nat_lt high l.line.front) ls

script_back : (j : Judge) (t : Told) (pid : ℕ) (ls : List NumberedLine) →
    ((f : ℕ) → f ≤ length t.run.history → AllByRecursion (Fits (length t.run.history)) (map (numbered_line pid) (with_front f ls))) →
    AllByRecursion (IsFine j t) (map beyond_place (lines_over (length t.run.history) ls)) → AllByRecursion (LineFits (length t.run.history)) ls
script_back j t pid [] fits all = tt
script_back j t pid (l ∷ ls) fits all =
    step (nat_lt (length t.run.history) l.line.front) refl
    (script_back j t pid ls (λ f below. rest_fits (length t.run.history) pid (l.line.front == f) l (with_front f ls) (fits f below))) all
  where
    step : (b : Bool) → nat_lt (length t.run.history) l.line.front ≡ b →
        (AllByRecursion (IsFine j t) (map beyond_place (lines_over (length t.run.history) ls)) → AllByRecursion (LineFits (length t.run.history)) ls) →
        AllByRecursion (IsFine j t) (map beyond_place (cond b (l ∷ lines_over (length t.run.history) ls) (lines_over (length t.run.history) ls))) →
        AllByRecursion (LineFits (length t.run.history)) (l ∷ ls)
    step true is later fine =
        let more : length t.run.history < l.line.front = ltb-true (length t.run.history) l.line.front is in
        let few : l.line.front ≤ length t.run.history = fine.0.1.0 in
        absurd (let none : ⊥ = omega arith in none)
    step false is later fine =
        let few : l.line.front ≤ length t.run.history = ltb-false (length t.run.history) l.line.front is in (
          first_fits (length t.run.history) pid (l.line.front == l.line.front) l (with_front l.line.front ls) (eq-eqb l.line.front l.line.front refl) (fits l.line.front few),
          later fine,
        )

scripts_back : (j : Judge) (t : Told) (ns : List (ℕ × List NumberedLine)) →
    ((f : ℕ) → f ≤ length t.run.history → AllByRecursion (Fits (length t.run.history)) (all_numbered_at ns f)) →
    AllByRecursion (IsFine j t) (flat_map (lines_beyond (length t.run.history)) ns) → AllByRecursion (ScriptFits (length t.run.history)) ns
scripts_back j t [] fits all = tt
scripts_back j t (s ∷ ns) fits all =
    let high : ℕ = length t.run.history in (
      script_back j t s.0 s.1 (λ f below. all_front (Fits high) (numbered_at f s) (all_numbered_at ns f) (fits f below)) (all_front (IsFine j t) (lines_beyond high s) (flat_map (lines_beyond high) ns) all),
      scripts_back j t ns (λ f below. all_back (Fits high) (numbered_at f s) (all_numbered_at ns f) (fits f below)) (all_back (IsFine j t) (lines_beyond high s) (flat_map (lines_beyond high) ns) all),
    )

pub fits_back : (j : Judge) (t : Told) (ns : List (ℕ × List NumberedLine)) → AllByRecursion (Fits (length t.run.history)) (numbered_merge ns t.run.history) →
    AllByRecursion (IsFine j t) (flat_map (lines_beyond (length t.run.history)) ns) → AllByRecursion (ScriptFits (length t.run.history)) ns
fits_back j t ns fits all = scripts_back j t ns (λ f below. front_fit (length t.run.history) ns t.run.history fits f below) all
