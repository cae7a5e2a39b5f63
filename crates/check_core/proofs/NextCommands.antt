-- Commands by count.
use Rattle.std.proofs.Common.{◌≡◌, ◌↔◌, IsTrue, ℕ, zero, suc, ◌+◌, ◌-◌, ◌<◌, ◌≤◌, ◌==◌, Bool, true, false, cond, ◌&&◌, not, List, [], ◌∷◌, ◌++◌, length, map, filter, slice_get, refl, sym, ◌∙◌, ap, subst, append-nil, length-append, arith}
use Rattle.std.specs.Prelude.{slice_index, slice_set}
use Rattle.std.specs.List.{AllByRecursion, enumerate_from}
use Rattle.std.proofs.lemmas.Bool.{true≢false, eqb-true, eq-eqb, and_parts}
use Rattle.std.proofs.lemmas.List.{get_or-set_same, get_or-set_other, length-set}
use Rattle.std.proofs.lemmas.List.Elements.{filter-append}
use Rattle.load_model.specs.declared.commands.Command.{Command}
use Rattle.load_model.specs.declared.deeds.Entry.{Entry}
use Rattle.load_model.specs.Modules.{Library}
use Rattle.session_model.specs.declared.sessions.Line.{Line}
use Rattle.session_model.specs.declared.sessions.Script.{Script}
use Rattle.check_model.specs.Told.{commands_at}
use Rattle.session_model.specs.Merging.{Item, entry, line, is_command_of, is_fault, IsFor, AreFor, CommandsOf}
use Rattle.check_model.specs.Checks.{Judge, AreForFirst, commands_of, process_of, CommandIsNext}
use Rattle.check_core.specs.NextCommands.{done_of, next_command, IsForNext, AreDone, with_one_more}
use Rattle.check_core.specs.NextLaws.{NothingDone, NextIsByCount, OneMoreDone, command_count, AllAreDone}

-- ---- items for the first of some commands, by recursion

abbrev AreFront : Library → List Item → List Command → Type 0
AreFront lib [] cs = Unit {0}
AreFront lib (x ∷ xs) [] = ⊥
AreFront lib (x ∷ xs) (c ∷ cs) = IsFor lib x c × AreFront lib xs cs

front_of : (lib : Library) (xs : List Item) (first left : List Command) → AreFor lib xs first → AreFront lib xs (first ++ left)
front_of lib [] first left a = tt
front_of lib (x ∷ xs) [] left a = absurd a
front_of lib (x ∷ xs) (c ∷ first) left a = (a.0, front_of lib xs first left a.1)

as_front : (lib : Library) (xs : List Item) (cs : List Command) → AreForFirst lib xs cs → AreFront lib xs cs
as_front lib xs cs r = subst (AreFront lib xs) (sym r.all) (front_of lib xs r.first r.left r.are)

as_first : (lib : Library) (xs : List Item) (cs : List Command) → AreFront lib xs cs → AreForFirst lib xs cs
as_first lib [] cs a = record { first = []; left = cs; all = refl; are = tt }
as_first lib (x ∷ xs) [] a = absurd a
as_first lib (x ∷ xs) (c ∷ cs) a =
    let r : AreForFirst lib xs cs = as_first lib xs cs a.1 in
    record { first = c ∷ r.first; left = r.left; all = ap (λ l. c ∷ l) r.all; are = (a.0, r.are) }

front_more : (lib : Library) (xs : List Item) (item : Item) (cs : List Command) → AreFront lib xs cs → IsForNext lib (slice_get cs (length xs)) item → AreFront lib (xs ++ item ∷ []) cs
front_more lib [] item [] a h = absurd h
front_more lib [] item (c ∷ cs) a h = (h, tt)
front_more lib (x ∷ xs) item [] a h = absurd a
front_more lib (x ∷ xs) item (c ∷ cs) a h = (a.0, front_more lib xs item cs a.1 h)

front_last : (lib : Library) (xs : List Item) (item : Item) (cs : List Command) → AreFront lib (xs ++ item ∷ []) cs → IsForNext lib (slice_get cs (length xs)) item
front_last lib [] item [] a = absurd a
front_last lib [] item (c ∷ cs) a = a.0
front_last lib (x ∷ xs) item [] a = absurd a
front_last lib (x ∷ xs) item (c ∷ cs) a = front_last lib xs item cs a.1

front_whole : (lib : Library) (xs : List Item) (cs : List Command) → AreFront lib xs cs → length xs ≡ length cs → AreFor lib xs cs
front_whole lib [] [] a e = tt
front_whole lib [] (c ∷ cs) a e = absurd (let none : ⊥ = omega (arith, e) in none)
front_whole lib (x ∷ xs) [] a e = absurd a
front_whole lib (x ∷ xs) (c ∷ cs) a e = (a.0, front_whole lib xs cs a.1 (omega (arith, e)))

whole_length : (lib : Library) (xs : List Item) (cs : List Command) → AreFor lib xs cs → length xs ≡ length cs
whole_length lib [] [] a = refl
whole_length lib [] (c ∷ cs) a = absurd a
whole_length lib (x ∷ xs) [] a = absurd a
whole_length lib (x ∷ xs) (c ∷ cs) a = ap suc (whole_length lib xs cs a.1)

-- ---- one item more

one_kept : (pid : ℕ) (before : List Item) (item : Item) → filter (is_command_of pid) (before ++ item ∷ []) ≡ filter (is_command_of pid) before ++ cond (is_command_of pid item) (item ∷ []) []
one_kept pid before item = filter-append (is_command_of pid) before (item ∷ [])

kept_item : (pid : ℕ) (before : List Item) (item : Item) → is_command_of pid item ≡ true → filter (is_command_of pid) (before ++ item ∷ []) ≡ filter (is_command_of pid) before ++ item ∷ []
kept_item pid before item e = one_kept pid before item ∙ ap (λ b. filter (is_command_of pid) before ++ cond b (item ∷ []) []) e

pub next_is_by_count : NextIsByCount
next_is_by_count j before done item d =
    let pid : ℕ = process_of item in
    let cs : List Command = commands_of j.scripts pid in
    let xs : List Item = filter (is_command_of pid) before in (
      λ next e.
          subst (λ n. IsForNext j.lib (slice_get cs n) item) (d.count pid)
          (front_last j.lib xs item cs (as_front j.lib (xs ++ item ∷ []) cs (subst (λ l. AreForFirst j.lib l cs) (kept_item pid before item e) (next e)))),
      λ is e.
          subst (λ l. AreForFirst j.lib l cs) (sym (kept_item pid before item e))
          (as_first j.lib (xs ++ item ∷ []) cs
          (front_more j.lib xs item cs (as_front j.lib xs cs (d.first pid)) (subst (λ n. IsForNext j.lib (slice_get cs n) item) (sym (d.count pid)) (is e)))),
    )

-- ---- at the beginning

none_done : (scripts : List Script) (k : ℕ) → 0 ≡ slice_index (map (λ (script : Script). 0) scripts) k
none_done [] k = refl
none_done (c ∷ scripts) zero = refl
none_done (c ∷ scripts) (suc k) = none_done scripts k

none_done_of : (scripts : List Script) (pid : ℕ) → 0 ≡ done_of (map (λ (script : Script). 0) scripts) pid
none_done_of scripts zero = refl
none_done_of scripts (suc k) = none_done scripts k

zeros_length : (scripts : List Script) → length {A = ℕ} (map (λ (script : Script). 0) scripts) ≡ length scripts
zeros_length [] = refl
zeros_length (c ∷ scripts) = ap suc (zeros_length scripts)

pub nothing_done : NothingDone
nothing_done j = record {
  scripts = zeros_length j.scripts;
  first = λ pid. record { first = []; left = commands_of j.scripts pid; all = refl; are = tt };
  count = λ pid. none_done_of j.scripts pid;
}

-- ---- at the end

scripts_done : (lib : Library) (items : List Item) (done : List ℕ) (n : ℕ) (scripts : List Script) → length done ≡ length scripts →
    ((k : ℕ) → AreForFirst lib (filter (is_command_of (n + k)) items) (commands_of scripts (suc k))) →
    ((k : ℕ) → length (filter (is_command_of (n + k)) items) ≡ slice_index done k) →
    (AllByRecursion (CommandsOf lib items) (enumerate_from n scripts) → done ≡ map command_count scripts)
    × (done ≡ map command_count scripts → AllByRecursion (CommandsOf lib items) (enumerate_from n scripts))
scripts_done lib items [] n [] len first count = (λ all. refl, λ e. tt)
scripts_done lib items (x ∷ done) n [] len first count = absurd (let none : ⊥ = omega (arith, len) in none)
scripts_done lib items [] n (c ∷ scripts) len first count = absurd (let none : ⊥ = omega (arith, len) in none)
scripts_done lib items (x ∷ done) n (c ∷ scripts) len first count =
    let later = scripts_done lib items done (n + 1) scripts (omega (arith, len))
    (λ k. subst (λ (m : ℕ). AreForFirst lib (filter (is_command_of m) items) (commands_of scripts (suc k))) (let e : n + suc k ≡ n + 1 + k = omega arith in e) (first (suc k)))
    (λ k. subst (λ (m : ℕ). length (filter (is_command_of m) items) ≡ slice_index done k) (let e : n + suc k ≡ n + 1 + k = omega arith in e) (count (suc k))) in
    let here : length (filter (is_command_of n) items) ≡ x = subst (λ (m : ℕ). length (filter (is_command_of m) items) ≡ x) (let e : n + 0 ≡ n = omega arith in e) (count 0) in
    let front : AreForFirst lib (filter (is_command_of n) items) c.commands = subst (λ (m : ℕ). AreForFirst lib (filter (is_command_of m) items) c.commands) (let e : n + 0 ≡ n = omega arith in e) (first 0) in (
      λ all. ap (λ (m : ℕ). m ∷ done) (sym here ∙ whole_length lib (filter (is_command_of n) items) c.commands all.0) ∙ ap (λ (ds : List ℕ). length c.commands ∷ ds) (later.0 all.1),
      λ e.
          let head : x ≡ length c.commands = cc (e) in
          let tail : done ≡ map command_count scripts = cc (e) in
          (front_whole lib (filter (is_command_of n) items) c.commands (as_front lib (filter (is_command_of n) items) c.commands front) (here ∙ head), later.1 tail),
    )

pub all_are_done : AllAreDone
all_are_done j items done d =
    scripts_done j.lib items done 1 j.scripts d.scripts
    (λ k. subst (λ (m : ℕ). AreForFirst j.lib (filter (is_command_of m) items) (commands_of j.scripts (suc k))) (let e : suc k ≡ 1 + k = omega arith in e) (d.first (suc k)))
    (λ k. subst (λ (m : ℕ). length (filter (is_command_of m) items) ≡ slice_index done k) (let e : suc k ≡ 1 + k = omega arith in e) (d.count (suc k)))

-- ---- one command more

none_next : (lib : Library) (n : ℕ) (item : Item) → IsForNext lib (slice_get [] n) item → ⊥
none_next lib zero item h = h
none_next lib (suc n) item h = h

has_script : (lib : Library) (scripts : List Script) (k n : ℕ) (item : Item) → IsForNext lib (slice_get (commands_of scripts (suc k)) n) item → k < length scripts
has_script lib [] zero n item h = absurd (none_next lib n item h)
has_script lib [] (suc k) n item h = absurd (none_next lib n item h)
has_script lib (c ∷ scripts) zero n item h = omega arith
has_script lib (c ∷ scripts) (suc k) n item h = let r : k < length scripts = has_script lib scripts k n item h in omega (arith, r)

-- an item that is for a command of a process is of that process
of_process : (q : ℕ) (item : Item) → is_command_of q item ≡ true → process_of item ≡ q
of_process q (entry x) e = eqb-true x.pid q (and_parts (x.pid == q) (not (is_fault x.deed)) e).0
of_process q (line p l) e = eqb-true p q e

set_more : (done : List ℕ) (k q : ℕ) → k < length done → slice_index (slice_set done k (slice_index done k + 1)) q ≡ slice_index done q + cond (k == q) 1 0
set_more done k q below = step (k == q) refl
  where
    step : (b : Bool) → (k == q) ≡ b → slice_index (slice_set done k (slice_index done k + 1)) q ≡ slice_index done q + cond b 1 0
    step true e =
        let same : k ≡ q = eqb-true k q e in
        subst (λ (m : ℕ). slice_index (slice_set done k (slice_index done k + 1)) m ≡ slice_index done m + 1) same (get_or-set_same done k (slice_index done k + 1) 0 below)
    step false e =
        let apart : q ≡ k → ⊥ = (λ same. true≢false (sym (eq-eqb k q (sym same)) ∙ e)) in
        get_or-set_other done k q (slice_index done k + 1) 0 apart ∙ omega arith

not_zero : (k : ℕ) (b : Bool) → (suc k == 0) ≡ b → 0 ≡ 0 + cond b 1 0
not_zero k true e = absurd (let z : suc k ≡ 0 = eqb-true (suc k) 0 e in let none : ⊥ = omega (arith, z) in none)
not_zero k false e = omega arith

same_suc : (k q : ℕ) (a b : Bool) → (suc k == suc q) ≡ a → (k == q) ≡ b → a ≡ b
same_suc k q true true e f = refl
same_suc k q false false e f = refl
same_suc k q true false e f = let z : suc k ≡ suc q = eqb-true (suc k) (suc q) e in let w : k ≡ q = omega (arith, z) in sym (eq-eqb k q w) ∙ f
same_suc k q false true e f = let z : k ≡ q = eqb-true k q f in sym (sym (eq-eqb (suc k) (suc q) (ap suc z)) ∙ e)

one_more_of : (done : List ℕ) (pid q : ℕ) → (pid ≡ 0 → ⊥) → ((k : ℕ) → pid ≡ suc k → k < length done) → done_of (with_one_more done pid) q ≡ done_of done q + cond (pid == q) 1 0
one_more_of done zero q some below = absurd (some refl)
one_more_of done (suc k) zero some below = not_zero k (suc k == 0) refl
one_more_of done (suc k) (suc q) some below =
    set_more done k q (below k refl) ∙ ap (λ b. slice_index done q + cond b 1 0) (sym (same_suc k q (suc k == suc q) (k == q) refl refl))

length_more : (done : List ℕ) (pid : ℕ) → length (with_one_more done pid) ≡ length done
length_more done zero = refl
length_more done (suc k) = length-set done k (slice_index done k + 1)

kept_length : (q : ℕ) (before : List Item) (item : Item) → length (filter (is_command_of q) (before ++ item ∷ [])) ≡ length (filter (is_command_of q) before) + cond (is_command_of q item) 1 0
kept_length q before item = ap length (one_kept q before item) ∙ step (is_command_of q item) (filter (is_command_of q) before)
  where
    step : (b : Bool) (xs : List Item) → length (xs ++ cond b (item ∷ []) []) ≡ length xs + cond b 1 0
    step true xs = length-append xs (item ∷ [])
    step false xs = length-append xs []

-- of which process an item is, is what tells for whose commands it is
is_by_process : (q : ℕ) (item : Item) → is_command_of (process_of item) item ≡ true → is_command_of q item ≡ (process_of item == q)
is_by_process q (entry x) e = step (x.pid == q) (not (is_fault x.deed)) (and_parts (x.pid == x.pid) (not (is_fault x.deed)) e).1
  where
    step : (a b : Bool) → b ≡ true → (a && b) ≡ a
    step true b h = h
    step false b h = refl
is_by_process q (line p l) e = refl

not_by_other : (q : ℕ) (item : Item) → is_command_of (process_of item) item ≡ false → is_command_of q item ≡ false
not_by_other q item e = step (is_command_of q item) refl
  where
    step : (b : Bool) → is_command_of q item ≡ b → b ≡ false
    step false h = refl
    step true h = sym (subst (λ (p : ℕ). is_command_of p item ≡ true) (sym (of_process q item h)) h) ∙ e

nonzero : (lib : Library) (scripts : List Script) (pid n : ℕ) (item : Item) → IsForNext lib (slice_get (commands_of scripts pid) n) item → pid ≡ 0 → ⊥
nonzero lib scripts zero n item h e = none_next lib n item h
nonzero lib scripts (suc k) n item h e = omega (arith, e)

below_all : (lib : Library) (scripts : List Script) (done : List ℕ) (pid n : ℕ) (item : Item) → length done ≡ length scripts →
    IsForNext lib (slice_get (commands_of scripts pid) n) item → (k : ℕ) → pid ≡ suc k → k < length done
below_all lib scripts done pid n item len h k e =
    let r : k < length scripts = has_script lib scripts k n item (subst (λ (p : ℕ). IsForNext lib (slice_get (commands_of scripts p) n) item) e h) in
    omega (arith, r, len)

first_more : (j : Judge) (before : List Item) (item : Item) (q : ℕ) → CommandIsNext j before item → AreForFirst j.lib (filter (is_command_of q) before) (commands_of j.scripts q) →
    AreForFirst j.lib (filter (is_command_of q) (before ++ item ∷ [])) (commands_of j.scripts q)
first_more j before item q next first = step (is_command_of q item) refl
  where
    step : (b : Bool) → is_command_of q item ≡ b → AreForFirst j.lib (filter (is_command_of q) (before ++ item ∷ [])) (commands_of j.scripts q)
    step true e =
        let same : process_of item ≡ q = of_process q item e in
        subst (λ (p : ℕ). AreForFirst j.lib (filter (is_command_of p) (before ++ item ∷ [])) (commands_of j.scripts p)) same
        (next (subst (λ (p : ℕ). is_command_of p item ≡ true) (sym same) e))
    step false e =
        subst (λ l. AreForFirst j.lib l (commands_of j.scripts q))
        (sym (one_kept q before item ∙ (ap (λ b. filter (is_command_of q) before ++ cond b (item ∷ []) []) e ∙ append-nil (filter (is_command_of q) before)))) first

pub one_more_done : OneMoreDone
one_more_done j before done item d next = step (is_command_of (process_of item) item) refl
  where
    step : (b : Bool) → is_command_of (process_of item) item ≡ b → AreDone j (before ++ item ∷ []) (cond b (with_one_more done (process_of item)) done)
    step true e =
        let is : IsForNext j.lib (next_command j.scripts done (process_of item)) item = (next_is_by_count j before done item d).0 next e in
        record {
          scripts = length_more done (process_of item) ∙ d.scripts;
          first = λ q. first_more j before item q next (d.first q);
          count = λ q.
              kept_length q before item
              ∙ (ap (λ b. length (filter (is_command_of q) before) + cond b 1 0) (is_by_process q item e)
              ∙ (ap (λ (n : ℕ). n + cond (process_of item == q) 1 0) (d.count q)
              ∙ sym (one_more_of done (process_of item) q (nonzero j.lib j.scripts (process_of item) (done_of done (process_of item)) item is)
              (below_all j.lib j.scripts done (process_of item) (done_of done (process_of item)) item d.scripts is))));
        }
    step false e = record {
      scripts = d.scripts;
      first = λ q. first_more j before item q next (d.first q);
      count = λ q.
          kept_length q before item
          ∙ (ap (λ b. length (filter (is_command_of q) before) + cond b 1 0) (not_by_other q item e) ∙ (let z : length (filter (is_command_of q) before) + 0 ≡ length (filter (is_command_of q) before) = omega arith in z) ∙ d.count q);
    }

-- ---- as code finds it

pub next_at : (scripts : List Script) (done : List ℕ) (pid : ℕ) → 1 ≤ pid →
    next_command scripts done pid ≡ slice_get (commands_at (slice_get scripts (pid - 1))) (slice_index done (pid - 1))
next_at scripts done zero some = absurd (let none : ⊥ = omega (arith, some) in none)
next_at scripts done (suc k) some =
    let e : k ≡ suc k - 1 = omega arith in
    subst (λ (m : ℕ). next_command scripts done (suc k) ≡ slice_get (commands_at (slice_get scripts m)) (slice_index done m)) e refl

pub done_at : (done : List ℕ) (pid : ℕ) → 1 ≤ pid → done_of done pid ≡ slice_index done (pid - 1)
done_at done zero some = absurd (let none : ⊥ = omega (arith, some) in none)
done_at done (suc k) some =
    let e : k ≡ suc k - 1 = omega arith in subst (λ (m : ℕ). done_of done (suc k) ≡ slice_index done m) e refl

pub one_more_at : (done : List ℕ) (pid : ℕ) → 1 ≤ pid → with_one_more done pid ≡ slice_set done (pid - 1) (slice_index done (pid - 1) + 1)
one_more_at done zero some = absurd (let none : ⊥ = omega (arith, some) in none)
one_more_at done (suc k) some =
    let e : k ≡ suc k - 1 = omega arith in
    subst (λ (m : ℕ). with_one_more done (suc k) ≡ slice_set done m (slice_index done m + 1)) e refl

pub entry_answer : (r : Bool) (lib : Library) (scripts : List Script) (done : List ℕ) (x : Entry) →
    (IsTrue r ↔ (is_command_of x.pid (entry x) ≡ true → IsForNext lib (next_command scripts done x.pid) (entry x))) →
    (j : Judge) (before : List Item) → j.lib ≡ lib → j.scripts ≡ scripts → AreDone j before done → (IsTrue r ↔ CommandIsNext j before (entry x))
entry_answer r lib scripts done x h j before el es d =
    let n = next_is_by_count j before done (entry x) d in
    let at_scripts = subst (λ s. IsTrue r ↔ (is_command_of x.pid (entry x) ≡ true → IsForNext lib (next_command s done x.pid) (entry x))) (sym es) h in
    let here = subst (λ l. IsTrue r ↔ (is_command_of x.pid (entry x) ≡ true → IsForNext l (next_command j.scripts done x.pid) (entry x))) (sym el) at_scripts in
    (λ t. n.1 (here.0 t), λ w. here.1 (n.0 w))

pub line_answer : (r : Bool) (scripts : List Script) (done : List ℕ) (pid : ℕ) (l : Line) →
    ((lib : Library) → (IsTrue r ↔ IsForNext lib (next_command scripts done pid) (line pid l))) →
    (j : Judge) (before : List Item) → j.scripts ≡ scripts → AreDone j before done → (IsTrue r ↔ CommandIsNext j before (line pid l))
line_answer r scripts done pid l h j before es d =
    let n = next_is_by_count j before done (line pid l) d in
    let here = subst (λ s. IsTrue r ↔ IsForNext j.lib (next_command s done pid) (line pid l)) (sym es) (h j.lib) in
    (λ t. n.1 (λ e. here.0 t), λ w. here.1 (n.0 w (eq-eqb pid pid refl)))
