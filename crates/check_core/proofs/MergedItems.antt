-- Items in the order in which they are judged.
use Rattle.std.proofs.Common.{◌≡◌, ℕ, ◌+◌, ◌≤◌, ◌<◌, ◌==◌, ◌&&◌, Bool, true, false, cond, List, [], ◌∷◌, ◌++◌, length, map, filter, take, drop, get_or, set, refl, sym, ◌∙◌, ap, subst, arith, eq-eqb, eqb-true}
use Rattle.std.proofs.lemmas.Bool.{ne_eqb, eqb-false}
use Rattle.std.proofs.lemmas.List.{append-nil, append_assoc, drop_more, take_more, get_or-map, get_or-set_same, get_or-set_other, length-map, map-set, map-append}
use Rattle.std.proofs.lemmas.List.Elements.{filter-append}
use Rattle.load_model.specs.declared.deeds.Entry.{Entry}
use Rattle.session_model.specs.declared.sessions.Line.{Line}
use Rattle.session_model.specs.declared.sessions.ScriptLines.{ScriptLines}
use Rattle.session_model.specs.Merging.{entry, line}
use Rattle.check_model.specs.Places.{deed_height, after_entries, after_scripts, NumberedLine, numbered_lines, Numbered, numbered_line, numbered_at, all_numbered_at, numbered_from}
use Rattle.check_core.specs.ToldItems.{all_lines, is_line_at, AreByFront}
use Rattle.check_core.proofs.Judged.{scripts_rise}

pub own_command : (pid : ℕ) (b : Bool) → (pid == pid) && b ≡ b
own_command pid b = ap (λ c. c && b) (eq-eqb pid pid refl)

-- ---- the lines of a process

abbrev pub lines_from : ℕ → ℕ → ℕ → List Line → List Numbered
lines_from pid n low ls = map (numbered_line pid) (numbered_lines n low ls)

-- ---- the lines of all processes

pub script_fits : (n place total : ℕ) (s : ScriptLines) (ss : List ScriptLines) (ls : List Line) → place < length ss → s ≡ get_or ss place s → ls ≡ s.lines →
    after_scripts n (drop place ss) ≡ total → n + 1 + length ls ≤ total
script_fits n place total s ss ls below at lines is =
    let rest : List ScriptLines = drop (place + 1) ss in
    let cut : drop place ss ≡ s ∷ rest = drop_more ss place s below ∙ ap (λ (y : ScriptLines). y ∷ rest) (sym at) in
    let sum : after_scripts (n + 1 + length s.lines) rest ≡ total = sym (ap (after_scripts n) cut) ∙ is in
    let r : n + 1 + length s.lines ≤ after_scripts (n + 1 + length s.lines) rest = scripts_rise (n + 1 + length s.lines) rest in
    let same : length ls ≡ length s.lines = ap length lines in
    omega (arith, r, sum, same)

-- ---- lines by their fronts

front_of_script : (front pid : ℕ) (ls : List NumberedLine) → filter (is_line_at front) (map (numbered_line pid) ls) ≡ map (numbered_line pid) (filter (λ (l : NumberedLine). l.line.front == front) ls)
front_of_script front pid [] = refl
front_of_script front pid (l ∷ ls) = step (l.line.front == front) (front_of_script front pid ls)
  where
    kept : List NumberedLine
    kept = filter (λ (x : NumberedLine). x.line.front == front) ls

    step : (b : Bool) → filter (is_line_at front) (map (numbered_line pid) ls) ≡ map (numbered_line pid) kept →
        cond b (numbered_line pid l ∷ filter (is_line_at front) (map (numbered_line pid) ls)) (filter (is_line_at front) (map (numbered_line pid) ls))
        ≡ map (numbered_line pid) (cond b (l ∷ kept) kept)
    step true e = ap (λ (t : List Numbered). numbered_line pid l ∷ t) e
    step false e = e

pub front_of_all : (front : ℕ) (s : List (ℕ × List NumberedLine)) → filter (is_line_at front) (all_lines s) ≡ all_numbered_at s front
front_of_all front [] = refl
front_of_all front (x ∷ s) =
    filter-append (is_line_at front) (map (numbered_line x.0) x.1) (all_lines s)
    ∙ (ap (λ (t : List Numbered). t ++ filter (is_line_at front) (all_lines s)) (front_of_script front x.0 x.1) ∙ ap (λ (t : List Numbered). numbered_at front x ++ t) (front_of_all front s))

-- ---- one line more

one_more : (front : ℕ) (xs : List Numbered) (x : Numbered) (b : Bool) → is_line_at front x ≡ b → filter (is_line_at front) (xs ++ x ∷ []) ≡ filter (is_line_at front) xs ++ cond b (x ∷ []) []
one_more front xs x b is = filter-append (is_line_at front) xs (x ∷ []) ∙ ap (λ (c : Bool). filter (is_line_at front) xs ++ cond c (x ∷ []) []) is

front_step : (lists : List (List Numbered)) (count pid number low : ℕ) (xs : List Numbered) (l : Line) (old : List Numbered) → length lists ≡ count → l.front < count →
    old ≡ get_or lists l.front [] → AreByFront lists count xs →
    AreByFront (set lists l.front (old ++ record { number = number; low = low; item = line pid l } ∷ [])) count (xs ++ record { number = number; low = low; item = line pid l } ∷ [])
front_step lists count pid number low xs l old long few was all front below = each (front == l.front) refl
  where
    x : Numbered
    x = record { number = number; low = low; item = line pid l }

    each : (b : Bool) → (front == l.front) ≡ b → get_or (set lists l.front (old ++ x ∷ [])) front [] ≡ filter (is_line_at front) (xs ++ x ∷ [])
    each true e =
        let at : front ≡ l.front = eqb-true front l.front e in
        let inside : l.front < length lists = omega (arith, long, few) in
        ap (λ (k : ℕ). get_or (set lists l.front (old ++ x ∷ [])) k []) at
        ∙ get_or-set_same lists l.front (old ++ x ∷ []) [] inside
        ∙ ap (λ (t : List Numbered). t ++ x ∷ []) (was ∙ ap (λ (k : ℕ). get_or lists k []) (sym at) ∙ all front below)
        ∙ sym (one_more front xs x true (eq-eqb l.front front (sym at)))
    each false e =
        let apart : front ≡ l.front → ⊥ = eqb-false front l.front e in
        get_or-set_other lists l.front front (old ++ x ∷ []) [] apart
        ∙ all front below
        ∙ sym (one_more front xs x false (ne_eqb l.front front (λ same. apart (sym same))) ∙ append-nil (filter (is_line_at front) xs))

pub filed : {V X : Type 0} (items : V → List X) (show : X → Numbered) (vs : List V) (count pid number low : ℕ) (xs : List Numbered) (l : Line) (x : X) (old new : V) → length vs ≡ count → l.front < count →
    show x ≡ record { number = number; low = low; item = line pid l } → old ≡ get_or vs l.front old → items new ≡ items old ++ x ∷ [] → AreByFront (map (λ v. map show (items v)) vs) count xs →
    AreByFront (map (λ v. map show (items v)) (set vs l.front new)) count (xs ++ show x ∷ [])
filed {V} {X} items show vs count pid number low xs l x old new long few shown was grown all =
    let view : V → List Numbered = λ v. map show (items v) in
    let it : Numbered = record { number = number; low = low; item = line pid l } in
    let inside : l.front < length vs = omega (arith, long, few) in
    let more : view new ≡ view old ++ it ∷ [] = ap (map show) grown ∙ map-append show (items old) (x ∷ []) ∙ ap (λ (t : Numbered). view old ++ t ∷ []) shown in
    let at : view old ≡ get_or (map view vs) l.front [] = ap view was ∙ sym (get_or-map view vs l.front old [] inside) in
    let next : AreByFront (set (map view vs) l.front (view old ++ it ∷ [])) count (xs ++ it ∷ []) =
    front_step (map view vs) count pid number low xs l (view old) (length-map vs view ∙ long) few at all in
    subst (λ (t : List (List Numbered)). AreByFront t count (xs ++ show x ∷ [])) (sym (map-set view vs l.front new ∙ ap (set (map view vs) l.front) more))
    (subst (λ (y : Numbered). AreByFront (set (map view vs) l.front (view old ++ it ∷ [])) count (xs ++ y ∷ [])) (sym shown) next)

pub front_more : {X : Type 0} (show : X → Numbered) (lists new : List (List Numbered)) (old count i : ℕ) (xs : List X) (x : X) → i < length xs → x ≡ get_or xs i x → old ≡ count →
    AreByFront lists count (map show (take i xs)) → ((ys : List Numbered) → AreByFront lists old ys → AreByFront new old (ys ++ show x ∷ [])) → AreByFront new count (map show (take (i + 1) xs))
front_more {X} show lists new old count i xs x below at same all step =
    let more : map show (take i xs) ++ show x ∷ [] ≡ map show (take (i + 1) xs) =
    sym (ap (map show) (take_more xs i x below ∙ ap (λ (y : X). take i xs ++ y ∷ []) (sym at)) ∙ map-append show (take i xs) (x ∷ [])) in
    let was : AreByFront lists old (map show (take i xs)) = subst (λ (n : ℕ). AreByFront lists n (map show (take i xs))) (sym same) all in
    subst (λ (n : ℕ). AreByFront new n (map show (take (i + 1) xs))) same (subst (λ (ys : List Numbered). AreByFront new old ys) more (step (map show (take i xs)) was))

-- ---- the merge

pub merge_step : (s : List (ℕ × List NumberedLine)) (place n high : ℕ) (told more all here : List Numbered) (x : Entry) (h : List Entry) → place < length h → x ≡ get_or h place x → here ≡ all_numbered_at s (place + 1) →
    more ≡ (told ++ record { number = n; low = 0; item = entry x } ∷ []) ++ here → high ≡ deed_height x.deed → told ++ numbered_from s (place + 1) n (drop place h) ≡ all →
    more ++ numbered_from s (place + 1 + 1) (n + high) (drop (place + 1) h) ≡ all
merge_step s place n high told more all here x h below at lines pushed is whole =
    let rest : List Entry = drop (place + 1) h in
    let it : Numbered = record { number = n; low = 0; item = entry x } in
    let cut : drop place h ≡ x ∷ rest = drop_more h place x below ∙ ap (λ (y : Entry). y ∷ rest) (sym at) in
    let later : List Numbered = numbered_from s (place + 1 + 1) (n + deed_height x.deed) rest in
    ap (λ (k : ℕ). more ++ numbered_from s (place + 1 + 1) (n + k) rest) is
    ∙ ap (λ (t : List Numbered). t ++ later) pushed
    ∙ append_assoc (told ++ it ∷ []) here later
    ∙ append_assoc told (it ∷ []) (here ++ later)
    ∙ ap (λ (t : List Numbered). told ++ it ∷ (t ++ later)) lines
    ∙ ap (λ (t : List Entry). told ++ numbered_from s (place + 1) n t) (sym cut)
    ∙ whole

pub entries_step : (n place high total : ℕ) (x : Entry) (h : List Entry) → place < length h → x ≡ get_or h place x → high ≡ deed_height x.deed → after_entries n (drop place h) ≡ total →
    after_entries (n + high) (drop (place + 1) h) ≡ total
entries_step n place high total x h below at is whole =
    let cut : drop place h ≡ x ∷ drop (place + 1) h = drop_more h place x below ∙ ap (λ (y : Entry). y ∷ drop (place + 1) h) (sym at) in
    ap (λ (k : ℕ). after_entries (n + k) (drop (place + 1) h)) is ∙ sym (ap (after_entries n) cut) ∙ whole

-- the lines with a front, found by it
pub lines_found : {V : Type 0} (view : V → List Numbered) (lists : List V) (count place : ℕ) (xs here : List Numbered) (s : List (ℕ × List NumberedLine)) (v : V) → length lists ≡ count → place < count →
    v ≡ get_or lists place v → here ≡ view v → xs ≡ all_lines s → AreByFront (map view lists) count xs → here ≡ all_numbered_at s place
lines_found view lists count place xs here s v long few at shown all is =
    let inside : place < length lists = omega (arith, long, few) in
    shown ∙ ap view at ∙ sym (get_or-map view lists place v [] inside) ∙ is place few ∙ ap (filter (is_line_at place)) all ∙ front_of_all place s
