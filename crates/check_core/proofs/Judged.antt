-- Places part by part.
use Rattle.std.proofs.Common.{◌≡◌, ℕ, ◌+◌, ◌≤◌, ◌<◌, nat_lt, inl, inr, List, [], ◌∷◌, ◌++◌, length, filter, map, flat_map, drop, get_or, Bool, true, false, cond, Option, Some, None, refl, sym, ◌∙◌, ap, subst, arith}
use Rattle.std.proofs.lemmas.Bool.{lt-ltb}
use Rattle.std.proofs.lemmas.List.{drop_more, drop_all}
use Rattle.std.specs.List.{AllByRecursion}
use Rattle.lx_types.proofs.Lists.{all_joined}
use Rattle.load_model.specs.declared.deeds.Entry.{Entry}
use Rattle.session_model.specs.declared.sessions.Line.{Line}
use Rattle.session_model.specs.declared.sessions.Script.{Script}
use Rattle.session_model.specs.declared.sessions.ScriptLines.{ScriptLines}
use Rattle.check_model.specs.declared.kinds.CheckKind.{CheckKind}
use Rattle.check_model.specs.declared.kinds.CheckKind.TheVariants as kinds
use Rattle.check_model.specs.declared.kinds.CheckFault.{CheckFault}
use Rattle.check_model.specs.Told.{Told}
use Rattle.check_model.specs.Places.{Place, heading, headings, later, after_scripts, deed_height, after_entries, numbered_lines, numbered_scripts, NumberedLine, beyond, beyond_place, lines_beyond}
use Rattle.check_model.specs.Checks.{Judge, IsFine, FirstWrongIn}
use Rattle.check_core.specs.Judged.{IsJudged, JudgedInTurn}

wrong_here : (j : Judge) (t : Told) (first more : List Place) (n : ℕ) (k : CheckKind) → FirstWrongIn j t first n k → FirstWrongIn j t (first ++ more) n k
wrong_here j t [] more n k w = absurd w
wrong_here j t (p ∷ first) more n k (inl w) = inl w
wrong_here j t (p ∷ first) more n k (inr w) = inr (w.0, wrong_here j t first more n k w.1)

wrong_later : (j : Judge) (t : Told) (first more : List Place) (n : ℕ) (k : CheckKind) → AllByRecursion (IsFine j t) first → FirstWrongIn j t more n k → FirstWrongIn j t (first ++ more) n k
wrong_later j t [] more n k all w = w
wrong_later j t (p ∷ first) more n k all w = inr (all.0, wrong_later j t first more n k all.1 w)

judged_later : (j : Judge) (t : Told) (first more : List Place) (answer : Option CheckFault) → AllByRecursion (IsFine j t) first → IsJudged j t more answer → IsJudged j t (first ++ more) answer
judged_later j t first more None all is = all_joined (IsFine j t) first more all is
judged_later j t first more (Some fault) all is = wrong_later j t first more fault.line fault.kind all is

pub judged_in_turn : JudgedInTurn
judged_in_turn = record {
  here = λ j t first more fault w. wrong_here j t first more fault.line fault.kind w;
  later = judged_later;
}

-- ---- a place more in front

pub judged_more : (j : Judge) (t : Told) (p : Place) (more : List Place) (answer : Option CheckFault) → IsFine j t p → IsJudged j t more answer → IsJudged j t (p ∷ more) answer
judged_more j t p more None fine is = (fine, is)
judged_more j t p more (Some fault) fine is = inr (fine, is)

-- ---- headings

same_heading : (j : Judge) (t : Told) (n : ℕ) (told asked : Option ℕ) → told ≡ asked → IsFine j t (record { number = n; what = heading told asked })
same_heading j t n told asked is = (is, (tt, (tt, (tt, (tt, (tt, (tt, (tt, (tt, tt)))))))))

other_heading : (j : Judge) (t : Told) (n : ℕ) (told asked : Option ℕ) (more : List Place) → (told ≡ asked → ⊥) →
    FirstWrongIn j t (record { number = n; what = heading told asked } ∷ more) n kinds.Scripts
other_heading j t n told asked more not = inl (record { number_is = refl; kind_is = inl (refl, not) })

pub headings_end : (j : Judge) (t : Told) (n : ℕ) → IsJudged j t (headings n [] []) None
headings_end j t n = (same_heading j t n None None refl, tt)

pub heading_wanting : (j : Judge) (t : Told) (n : ℕ) (script : Script) (scripts : List Script) →
    IsJudged j t (headings n [] (script ∷ scripts)) (Some (record { line = n; kind = kinds.Scripts }))
heading_wanting j t n script scripts = other_heading j t n None (Some script.pid) [] (λ e. cc (e))

pub heading_too_many : (j : Judge) (t : Told) (n : ℕ) (s : ScriptLines) (steady : List ScriptLines) →
    IsJudged j t (headings n (s ∷ steady) []) (Some (record { line = n; kind = kinds.Scripts }))
heading_too_many j t n s steady = other_heading j t n (Some s.pid) None (headings (n + 1 + length s.lines) steady []) (λ e. cc (e))

pub heading_differs : (j : Judge) (t : Told) (n : ℕ) (s : ScriptLines) (steady : List ScriptLines) (script : Script) (scripts : List Script) → (s.pid ≡ script.pid → ⊥) →
    IsJudged j t (headings n (s ∷ steady) (script ∷ scripts)) (Some (record { line = n; kind = kinds.Scripts }))
heading_differs j t n s steady script scripts not =
    other_heading j t n (Some s.pid) (Some script.pid) (headings (n + 1 + length s.lines) steady scripts) (λ e. not (let is : s.pid ≡ script.pid = cc (e) in is))

pub heading_goes_on : (j : Judge) (t : Told) (n : ℕ) (s : ScriptLines) (steady : List ScriptLines) (script : Script) (scripts : List Script) (answer : Option CheckFault) → s.pid ≡ script.pid →
    IsJudged j t (headings (n + 1 + length s.lines) steady scripts) answer → IsJudged j t (headings n (s ∷ steady) (script ∷ scripts)) answer
heading_goes_on j t n s steady script scripts answer e is =
    judged_more j t (record { number = n; what = heading (Some s.pid) (Some script.pid) }) (headings (n + 1 + length s.lines) steady scripts) answer
    (same_heading j t n (Some s.pid) (Some script.pid) (ap (λ (k : ℕ). Some k) e)) is

pub scripts_rise : (n : ℕ) (s : List ScriptLines) → n ≤ after_scripts n s
scripts_rise n [] = omega arith
scripts_rise n (x ∷ s) = let r : n + 1 + length x.lines ≤ after_scripts (n + 1 + length x.lines) s = scripts_rise (n + 1 + length x.lines) s in omega (arith, r)

pub heading_step : (j : Judge) (t : Told) (n : ℕ) (steady : List ScriptLines) (scripts : List Script) (s : ScriptLines) (more : List ScriptLines) (script : Script)
    (later : List Script) (answer : Option CheckFault) → steady ≡ s ∷ more → scripts ≡ script ∷ later → s.pid ≡ script.pid → (ls : List Line) → ls ≡ s.lines →
    IsJudged j t (headings (n + 1 + length ls) more later) answer → IsJudged j t (headings n steady scripts) answer
heading_step j t n steady scripts s more script later answer first asked same ls lines is =
    subst (λ (xs : List ScriptLines). IsJudged j t (headings n xs scripts) answer) (sym first)
    (subst (λ (cs : List Script). IsJudged j t (headings n (s ∷ more) cs) answer) (sym asked)
    (heading_goes_on j t n s more script later answer same (subst (λ (l : List Line). IsJudged j t (headings (n + 1 + length l) more later) answer) lines is)))

pub heading_room : (n : ℕ) (steady : List ScriptLines) (s : ScriptLines) (more : List ScriptLines) → steady ≡ s ∷ more → n + 1 + length s.lines ≤ after_scripts n steady
heading_room n steady s more first =
    subst (λ (xs : List ScriptLines). n + 1 + length s.lines ≤ after_scripts n xs) (sym first) (scripts_rise (n + 1 + length s.lines) more)

-- ---- lines beyond all entries

fits_beyond : (j : Judge) (t : Told) (n : ℕ) (l : Line) → l.front ≤ length t.run.history → IsFine j t (record { number = n; what = beyond l })
fits_beyond j t n l few = (tt, (few, (tt, (tt, (tt, (tt, (tt, (tt, (tt, tt)))))))))

pub line_beyond : (j : Judge) (t : Told) (pid n low : ℕ) (l : Line) (ls : List Line) → length t.run.history < l.front →
    IsJudged j t (lines_beyond (length t.run.history) (pid, numbered_lines n low (l ∷ ls))) (Some (record { line = n; kind = kinds.Front }))
line_beyond j t pid n low l ls more = step (nat_lt (length t.run.history) l.front) (lt-ltb (length t.run.history) l.front more)
  where
    rest : List NumberedLine
    rest = filter (λ (x : NumberedLine). nat_lt (length t.run.history) x.line.front) (numbered_lines (n + 1) l.front ls)

    step : (b : Bool) → b ≡ true →
        IsJudged j t (map beyond_place (cond b (record { number = n; low = low; line = l } ∷ rest) rest)) (Some (record { line = n; kind = kinds.Front }))
    step true e = inl (record { number_is = refl; kind_is = inr (tt, inl (refl, λ few. omega (arith, more, few))) })
    step false e = absurd (cc (e))

pub line_within : (j : Judge) (t : Told) (pid n low : ℕ) (l : Line) (ls : List Line) (answer : Option CheckFault) → l.front ≤ length t.run.history →
    IsJudged j t (lines_beyond (length t.run.history) (pid, numbered_lines (n + 1) l.front ls)) answer →
    IsJudged j t (lines_beyond (length t.run.history) (pid, numbered_lines n low (l ∷ ls))) answer
line_within j t pid n low l ls answer few is = step (nat_lt (length t.run.history) l.front)
  where
    rest : List NumberedLine
    rest = filter (λ (x : NumberedLine). nat_lt (length t.run.history) x.line.front) (numbered_lines (n + 1) l.front ls)

    step : (b : Bool) → IsJudged j t (map beyond_place (cond b (record { number = n; low = low; line = l } ∷ rest) rest)) answer
    step true = judged_more j t (record { number = n; what = beyond l }) (map beyond_place rest) answer (fits_beyond j t n l few) is
    step false = is

-- ---- lines by their places

pub lines_from_first : (j : Judge) (t : Told) (pid first low most : ℕ) (ls : List Line) (answer : Option CheckFault) →
    ((under : ℕ) → IsJudged j t (lines_beyond most (pid, numbered_lines (first + 0) under ls)) answer) →
    IsJudged j t (lines_beyond most (pid, numbered_lines first low ls)) answer
lines_from_first j t pid first low most ls answer h =
    let e : first + 0 ≡ first = omega arith in subst (λ (n : ℕ). IsJudged j t (lines_beyond most (pid, numbered_lines n low ls)) answer) e (h low)

pub line_beyond_at : (j : Judge) (t : Told) (pid first under most place : ℕ) (l : Line) (ls : List Line) → length t.run.history ≡ most → place < length ls →
    l ≡ get_or ls place l → most < l.front →
    IsJudged j t (lines_beyond most (pid, numbered_lines (first + place) under (drop place ls))) (Some (record { line = first + place; kind = kinds.Front }))
line_beyond_at j t pid first under most place l ls is below at more =
    let rest : List Line = drop (place + 1) ls in
    let whole : l ∷ rest ≡ drop place ls = ap (λ (x : Line). x ∷ rest) at ∙ sym (drop_more ls place l below) in
    let over : length t.run.history < l.front = omega (arith, is, more) in
    subst (λ (ms : List Line). IsJudged j t (lines_beyond most (pid, numbered_lines (first + place) under ms)) (Some (record { line = first + place; kind = kinds.Front }))) whole
    (subst (λ (m : ℕ). IsJudged j t (lines_beyond m (pid, numbered_lines (first + place) under (l ∷ rest))) (Some (record { line = first + place; kind = kinds.Front }))) is
    (line_beyond j t pid (first + place) under l rest over))

pub line_within_at : (j : Judge) (t : Told) (pid first under most place : ℕ) (l : Line) (ls : List Line) (answer : Option CheckFault) → length t.run.history ≡ most → place < length ls →
    l ≡ get_or ls place l → l.front ≤ most →
    ((below : ℕ) → IsJudged j t (lines_beyond most (pid, numbered_lines (first + (place + 1)) below (drop (place + 1) ls))) answer) →
    IsJudged j t (lines_beyond most (pid, numbered_lines (first + place) under (drop place ls))) answer
line_within_at j t pid first under most place l ls answer is within at few h =
    let rest : List Line = drop (place + 1) ls in
    let whole : l ∷ rest ≡ drop place ls = ap (λ (x : Line). x ∷ rest) at ∙ sym (drop_more ls place l within) in
    let fits : l.front ≤ length t.run.history = omega (arith, is, few) in
    let next : first + (place + 1) ≡ first + place + 1 = omega arith in
    let later : IsJudged j t (lines_beyond (length t.run.history) (pid, numbered_lines (first + place + 1) l.front rest)) answer =
    subst (λ (m : ℕ). IsJudged j t (lines_beyond m (pid, numbered_lines (first + place + 1) l.front rest)) answer) (sym is)
    (subst (λ (n : ℕ). IsJudged j t (lines_beyond most (pid, numbered_lines n l.front rest)) answer) next (h l.front)) in
    subst (λ (ms : List Line). IsJudged j t (lines_beyond most (pid, numbered_lines (first + place) under ms)) answer) whole
    (subst (λ (m : ℕ). IsJudged j t (lines_beyond m (pid, numbered_lines (first + place) under (l ∷ rest))) answer) is
    (line_within j t pid (first + place) under l rest answer fits later))

pub none_left : (j : Judge) (t : Told) (pid first under most place : ℕ) (ls : List Line) → length ls ≤ place →
    IsJudged j t (lines_beyond most (pid, numbered_lines (first + place) under (drop place ls))) None
none_left j t pid first under most place ls all =
    subst (λ (ms : List Line). IsJudged j t (lines_beyond most (pid, numbered_lines (first + place) under ms)) None) (sym (drop_all place ls all)) tt

-- ---- lines of entries

entries_rise : (n : ℕ) (h : List Entry) → n ≤ after_entries n h
entries_rise n [] = omega arith
entries_rise n (x ∷ h) = let r : n + deed_height x.deed ≤ after_entries (n + deed_height x.deed) h = entries_rise (n + deed_height x.deed) h in omega (arith, r)

pub entry_fits : (line place total : ℕ) (x : Entry) (h : List Entry) → place < length h → x ≡ get_or h place x → after_entries line (drop place h) ≡ total →
    line + deed_height x.deed ≤ total
entry_fits line place total x h below at is =
    let whole : drop place h ≡ x ∷ drop (place + 1) h = drop_more h place x below ∙ ap (λ (y : Entry). y ∷ drop (place + 1) h) (sym at) in
    let sum : after_entries (line + deed_height x.deed) (drop (place + 1) h) ≡ total = sym (ap (after_entries line) whole) ∙ is in
    let r : line + deed_height x.deed ≤ after_entries (line + deed_height x.deed) (drop (place + 1) h) = entries_rise (line + deed_height x.deed) (drop (place + 1) h) in
    omega (arith, r, sum)

-- ---- the same, process by process

pub beyond_here : (j : Judge) (t : Told) (pid n most : ℕ) (steady : List ScriptLines) (s : ScriptLines) (more : List ScriptLines) (fault : CheckFault) → steady ≡ s ∷ more →
    (ls : List Line) → ls ≡ s.lines → ((under : ℕ) → IsJudged j t (lines_beyond most (pid, numbered_lines (n + 1) under ls)) (Some fault)) →
    IsJudged j t (flat_map (lines_beyond most) (numbered_scripts pid n steady)) (Some fault)
beyond_here j t pid n most steady s more fault first ls lines is =
    subst (λ (xs : List ScriptLines). IsJudged j t (flat_map (lines_beyond most) (numbered_scripts pid n xs)) (Some fault)) (sym first)
    (wrong_here j t (lines_beyond most (pid, numbered_lines (n + 1) 0 s.lines)) (flat_map (lines_beyond most) (numbered_scripts (pid + 1) (n + 1 + length s.lines) more)) fault.line fault.kind
    (subst (λ (l : List Line). IsJudged j t (lines_beyond most (pid, numbered_lines (n + 1) 0 l)) (Some fault)) lines (is 0)))

pub beyond_later : (j : Judge) (t : Told) (pid n most : ℕ) (steady : List ScriptLines) (s : ScriptLines) (more : List ScriptLines) (answer : Option CheckFault) → steady ≡ s ∷ more →
    (ls : List Line) → ls ≡ s.lines → ((under : ℕ) → IsJudged j t (lines_beyond most (pid, numbered_lines (n + 1) under ls)) None) →
    IsJudged j t (flat_map (lines_beyond most) (numbered_scripts (pid + 1) (n + 1 + length ls) more)) answer →
    IsJudged j t (flat_map (lines_beyond most) (numbered_scripts pid n steady)) answer
beyond_later j t pid n most steady s more answer first ls lines fine is =
    subst (λ (xs : List ScriptLines). IsJudged j t (flat_map (lines_beyond most) (numbered_scripts pid n xs)) answer) (sym first)
    (judged_later j t (lines_beyond most (pid, numbered_lines (n + 1) 0 s.lines)) (flat_map (lines_beyond most) (numbered_scripts (pid + 1) (n + 1 + length s.lines) more)) answer
    (subst (λ (l : List Line). IsJudged j t (lines_beyond most (pid, numbered_lines (n + 1) 0 l)) None) lines (fine 0))
    (subst (λ (l : List Line). IsJudged j t (flat_map (lines_beyond most) (numbered_scripts (pid + 1) (n + 1 + length l) more)) answer) lines is))
