-- The items that have numbers are those of the merge.
use Rattle.std.proofs.Common.{◌≡◌, ℕ, ◌+◌, ◌==◌, Bool, true, false, cond, List, [], ◌∷◌, ◌++◌, length, map, filter, flat_map, refl, ◌∙◌, ap}
use Rattle.std.specs.List.{enumerate_from}
use Rattle.load_model.specs.declared.deeds.Entry.{Entry}
use Rattle.session_model.specs.declared.sessions.Line.{Line}
use Rattle.session_model.specs.declared.sessions.ScriptLines.{ScriptLines}
use Rattle.session_model.specs.Merging.{Item, entry, line, lines_of, lines_at, merge_of}
use Rattle.check_model.specs.Places.{deed_height, NumberedLine, numbered_lines, numbered_scripts, Numbered, numbered_line, numbered_at, all_numbered_at, numbered_from, numbered_merge}

abbrev pub items_in : List Numbered → List Item
items_in xs = map (λ (x : Numbered). x.item) xs

-- the lines with a front
abbrev pub with_front : ℕ → List NumberedLine → List NumberedLine
with_front front ls = filter (λ (l : NumberedLine). l.line.front == front) ls

abbrev lines_with : ℕ → List Line → List Line
lines_with front ls = filter (λ (l : Line). l.front == front) ls

items_append : (a b : List Numbered) → items_in (a ++ b) ≡ items_in a ++ items_in b
items_append [] b = refl
items_append (x ∷ a) b = ap (λ xs. x.item ∷ xs) (items_append a b)

kept_items : (pid front n low : ℕ) (ls : List Line) → items_in (map (numbered_line pid) (with_front front (numbered_lines n low ls))) ≡ map (line pid) (lines_with front ls)
kept_items pid front n low [] = refl
kept_items pid front n low (l ∷ ls) = step (l.front == front) (kept_items pid front (n + 1) l.front ls)
  where
    step : (b : Bool) → items_in (map (numbered_line pid) (with_front front (numbered_lines (n + 1) l.front ls))) ≡ map (line pid) (lines_with front ls) →
        items_in (map (numbered_line pid) (cond b (record { number = n; low = low; line = l } ∷ with_front front (numbered_lines (n + 1) l.front ls)) (with_front front (numbered_lines (n + 1) l.front ls))))
        ≡ map (line pid) (cond b (l ∷ lines_with front ls) (lines_with front ls))
    step true e = ap (λ xs. line pid l ∷ xs) e
    step false e = e

at_items : (front pid n : ℕ) (s : List ScriptLines) → items_in (all_numbered_at (numbered_scripts pid n s) front) ≡ flat_map (lines_of front) (enumerate_from pid s)
at_items front pid n [] = refl
at_items front pid n (x ∷ s) =
    items_append (numbered_at front (pid, numbered_lines (n + 1) 0 x.lines)) (all_numbered_at (numbered_scripts (pid + 1) (n + 1 + length x.lines) s) front)
    ∙ (ap (λ xs. xs ++ items_in (all_numbered_at (numbered_scripts (pid + 1) (n + 1 + length x.lines) s) front)) (kept_items pid front (n + 1) 0 x.lines)
    ∙ ap (λ xs. lines_of front (pid, x) ++ xs) (at_items front (pid + 1) (n + 1 + length x.lines) s))

from_items : (ns : List (ℕ × List NumberedLine)) (s : List ScriptLines) → ((front : ℕ) → items_in (all_numbered_at ns front) ≡ lines_at s front) → (k n : ℕ) (h : List Entry) →
    items_in (numbered_from ns k n h) ≡ flat_map (λ (e : ℕ × Entry). entry e.1 ∷ lines_at s e.0) (enumerate_from k h)
from_items ns s same k n [] = refl
from_items ns s same k n (x ∷ h) =
    ap (λ xs. entry x ∷ xs)
    (items_append (all_numbered_at ns k) (numbered_from ns (k + 1) (n + deed_height x.deed) h)
    ∙ (ap (λ xs. xs ++ items_in (numbered_from ns (k + 1) (n + deed_height x.deed) h)) (same k)
    ∙ ap (λ xs. lines_at s k ++ xs) (from_items ns s same (k + 1) (n + deed_height x.deed) h)))

pub merge_items : (h : List Entry) (s : List ScriptLines) (n : ℕ) → items_in (numbered_merge (numbered_scripts 1 n s) h) ≡ merge_of h s
unfolding merge_of
merge_items h s n =
    let ns : List (ℕ × List NumberedLine) = numbered_scripts 1 n s in
    items_append (all_numbered_at ns 0) (numbered_from ns 1 2 h)
    ∙ (ap (λ xs. xs ++ items_in (numbered_from ns 1 2 h)) (at_items 0 1 n s) ∙ ap (λ xs. lines_at s 0 ++ xs) (from_items ns s (λ front. at_items front 1 n s) 1 2 h))
