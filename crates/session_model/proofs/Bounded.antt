-- What bytes say is within bounds: line by line, and the statements together.
use Rattle.std.proofs.Common.{◌≡◌, ℕ, suc, ◌+◌, ◌≤◌, ◌<◌, Bool, true, false, if◌then◌else◌, List, [], ◌∷◌, ◌++◌, length, map, filter_map, Option, Some, None, refl, sym, ◌∙◌, ap, subst, arith}
use Rattle.std.specs.Prelude.{unwrap_or, nat_lt}
use Rattle.std.specs.List.{AllByRecursion, cons_option}
use Rattle.std.proofs.lemmas.Bool.{ltb-true, leb-true, and_parts}
use Rattle.std.proofs.lemmas.List.{append-nil}
use Rattle.std.proofs.lemmas.List.Elements.{filter_map-append}
use Rattle.std.proofs.lemmas.List.Sums.{fold-append}
use Rattle.load_model.specs.Serials.{Rise}
use Rattle.session_model.specs.declared.sessions.Script.{Script}
use Rattle.session_model.specs.declared.sessions.SessionKind.{SessionKind}
use Rattle.session_model.specs.declared.sessions.SessionKind.TheVariants as kinds
use Rattle.session_model.specs.declared.sessions.SessionRefusal.{SessionRefusal}
use Rattle.session_model.specs.Lines.{lines_in}
use Rattle.session_model.specs.Statements.{Statement, gives, fails, process, command, Reading, nothing, says, wrong, reading_of}
use Rattle.lx_types.specs.declared.limits.TheConstants.{MAX_PROCESSES}
use Rattle.session_model.specs.Sessions.{module_of, failing_in, commands_of, scripts_of, session_of, statement_in, statements_of, number_or, count_or, last_number, commands_so_far, rises, fault_among, fault_later, line_fault}
use Rattle.session_model.proofs.LinesAbove.{or_next, fault_from, ses_fault_is}
use Rattle.session_model.specs.declared.limits.TheConstants.{MAX_COMMANDS}
use Rattle.session_model.specs.Bounds.{IsCommand, IsModLine, IsFailingLine, IsScript, IsSession, SessionsAreBounded}
use Rattle.session_model.proofs.Readings.{IsStatement, read_good}

-- statements that may stand after a script's number and so many of its commands
abbrev Fine : Option ℕ → ℕ → List Statement → Type 0
Fine last n [] = Unit {0}
Fine last n (st ∷ others) = (fault_among last n st ≡ None) × IsStatement st × Fine (number_or last st) (count_or n st) others

-- ---- lines

none_some : {A : Type 0} (x : A) → Some x ≡ None → ⊥
none_some x h = cc

-- what stands before one more line
statements_more : (before : List (List ℕ)) (line : List ℕ) (r : Reading) → reading_of line ≡ r →
    statements_of (before ++ line ∷ []) ≡ statements_of before ++ cons_option (statement_in r) []
statements_more before line r is =
    filter_map-append (λ l. statement_in (reading_of l)) before (line ∷ []) ∙ ap (λ x. statements_of before ++ cons_option (statement_in x) []) is

abbrev FineAfter : List Statement → List Statement → Type 0
FineAfter before others = Fine (last_number before) (commands_so_far before) others

after_more : (before : List Statement) (st : Statement) (others : List Statement) → FineAfter (before ++ st ∷ []) others →
    Fine (number_or (last_number before) st) (count_or (commands_so_far before) st) others
after_more before st others fine =
    let last : last_number (before ++ st ∷ []) ≡ number_or (last_number before) st = fold-append number_or None before (st ∷ []) in
    let count : commands_so_far (before ++ st ∷ []) ≡ count_or (commands_so_far before) st = fold-append count_or 0 before (st ∷ []) in
    let F : Option ℕ → Type 0 = λ l. Fine l (commands_so_far (before ++ st ∷ [])) others in
    let G : ℕ → Type 0 = λ n. Fine (number_or (last_number before) st) n others in
    subst G count (subst F last fine)

fine_lines : (before lines : List (List ℕ)) → fault_from before lines ≡ None → FineAfter (statements_of before) (statements_of lines)
unfolding line_fault
fine_lines before [] h = tt
fine_lines before (line ∷ lines) h = by_reading (reading_of line) refl (fine_lines (before ++ line ∷ []) lines)
  where
    later : (k : Option SessionKind) → line_fault before line ≡ k → or_next before k (fault_from (before ++ line ∷ []) lines) ≡ None →
        (k ≡ None) × (fault_from (before ++ line ∷ []) lines ≡ None)
    later None is e = (refl, e)
    later (Some kind) is e = (let it : SessionRefusal = record { line = length before + 1; kind = kind } in absurd (none_some it e))

    both : (line_fault before line ≡ None) × (fault_from (before ++ line ∷ []) lines ≡ None)
    both = let it = later (line_fault before line) refl h in it

    by_reading : (r : Reading) → reading_of line ≡ r → (fault_from (before ++ line ∷ []) lines ≡ None → FineAfter (statements_of (before ++ line ∷ [])) (statements_of lines)) →
        FineAfter (statements_of before) (cons_option (statement_in r) (statements_of lines))
    by_reading nothing is again =
        let same : statements_of (before ++ line ∷ []) ≡ statements_of before = statements_more before line nothing is ∙ append-nil (statements_of before) in
        subst (λ b. FineAfter b (statements_of lines)) same (again both.1)
    by_reading (wrong kind) is again =
        absurd (none_some kind (sym (ap (fault_later (statements_of before)) is) ∙ both.0))
    by_reading (says st) is again =
        let more : FineAfter (statements_of before ++ st ∷ []) (statements_of lines) = subst (λ b. FineAfter b (statements_of lines)) (statements_more before line (says st) is) (again both.1) in
        (sym (ap (fault_later (statements_of before)) is) ∙ both.0, read_good line st is, after_more (statements_of before) st (statements_of lines) more)

-- ---- parts

modules_good : (last : Option ℕ) (n : ℕ) (sts : List Statement) → Fine last n sts → AllByRecursion IsModLine (filter_map module_of sts)
modules_good last n [] fine = tt
modules_good last n (gives m ∷ sts) fine = (fine.1, modules_good last n sts fine.2)
modules_good last n (fails f ∷ sts) fine = modules_good last n sts fine.2
modules_good last n (process k ∷ sts) fine = modules_good (Some k) 0 sts fine.2
modules_good last n (command c ∷ sts) fine = modules_good last (n + 1) sts fine.2

failing_good : (last : Option ℕ) (n : ℕ) (sts : List Statement) → Fine last n sts → AllByRecursion IsFailingLine (filter_map failing_in sts)
failing_good last n [] fine = tt
failing_good last n (gives m ∷ sts) fine = failing_good last n sts fine.2
failing_good last n (fails f ∷ sts) fine = (fine.1, failing_good last n sts fine.2)
failing_good last n (process k ∷ sts) fine = failing_good (Some k) 0 sts fine.2
failing_good last n (command c ∷ sts) fine = failing_good last (n + 1) sts fine.2

commands_good : (last : Option ℕ) (n : ℕ) (sts : List Statement) → Fine last n sts → AllByRecursion IsCommand (commands_of sts)
commands_good last n [] fine = tt
commands_good last n (gives m ∷ sts) fine = tt
commands_good last n (fails f ∷ sts) fine = tt
commands_good last n (process k ∷ sts) fine = tt
commands_good last n (command c ∷ sts) fine = (fine.1, commands_good last (n + 1) sts fine.2)

if_none : (b : Bool) (kind : SessionKind) → (if b then None else Some kind) ≡ None → b ≡ true
if_none true kind h = refl
if_none false kind h = absurd (none_some kind h)

commands_few : (k n : ℕ) (sts : List Statement) → n ≤ MAX_COMMANDS → Fine (Some k) n sts → n + length (commands_of sts) ≤ MAX_COMMANDS
commands_few k n [] few fine = omega arith
commands_few k n (gives m ∷ sts) few fine = omega arith
commands_few k n (fails f ∷ sts) few fine = omega arith
commands_few k n (process q ∷ sts) few fine = omega arith
commands_few k n (command c ∷ sts) few fine =
    let below : n < MAX_COMMANDS = ltb-true n MAX_COMMANDS (if_none (nat_lt n MAX_COMMANDS) kinds.TooMany fine.0) in
    let more : n + 1 ≤ MAX_COMMANDS = omega arith in
    let rest : (n + 1) + length (commands_of sts) ≤ MAX_COMMANDS = commands_few k (n + 1) sts more fine.2 in
    omega arith

scripts_good : (last : Option ℕ) (n : ℕ) (sts : List Statement) → Fine last n sts → AllByRecursion IsScript (scripts_of sts)
scripts_good last n [] fine = tt
scripts_good last n (gives m ∷ sts) fine = scripts_good last n sts fine.2
scripts_good last n (fails f ∷ sts) fine = scripts_good last n sts fine.2
scripts_good last n (command c ∷ sts) fine = scripts_good last (n + 1) sts fine.2
scripts_good last n (process k ∷ sts) fine =
    (record { few = from_zero (length (commands_of sts)) (commands_few k 0 sts (omega arith) fine.2); commands = commands_good (Some k) 0 sts fine.2 }, scripts_good (Some k) 0 sts fine.2)
  where
    from_zero : (n : ℕ) → 0 + n ≤ MAX_COMMANDS → n ≤ MAX_COMMANDS
    from_zero n h = omega arith

-- ---- numbers

rises_above : (last : Option ℕ) (n k : ℕ) → fault_among last n (process k) ≡ None → (unwrap_or last 0 < k) × (k ≤ MAX_PROCESSES)
rises_above None n k h =
    let it = if_none (rises None k) kinds.Order h in
    let one : 1 ≤ k = leb-true 1 k (and_parts _ _ it).0 in
    (omega arith, leb-true k MAX_PROCESSES (and_parts _ _ it).1)
rises_above (Some l) n k h =
    let it = if_none (rises (Some l) k) kinds.Order h in
    (ltb-true l k (and_parts _ _ it).0, leb-true k MAX_PROCESSES (and_parts _ _ it).1)

numbers_rise : (last : Option ℕ) (n : ℕ) (sts : List Statement) → unwrap_or last 0 ≤ MAX_PROCESSES → Fine last n sts → Rise (unwrap_or last 0) (map (λ s. s.pid) (scripts_of sts)) MAX_PROCESSES
numbers_rise last n [] low fine = low
numbers_rise last n (gives m ∷ sts) low fine = numbers_rise last n sts low fine.2
numbers_rise last n (fails f ∷ sts) low fine = numbers_rise last n sts low fine.2
numbers_rise last n (command c ∷ sts) low fine = numbers_rise last (n + 1) sts low fine.2
numbers_rise last n (process k ∷ sts) low fine =
    let it = rises_above last n k fine.0 in (it.0, numbers_rise (Some k) 0 sts it.1 fine.2)

rise_count : (low : ℕ) (ns : List ℕ) (high : ℕ) → Rise low ns high → low + length ns ≤ high
rise_count low [] high h = omega arith
rise_count low (n ∷ ns) high h =
    let first : low < n = h.0 in
    let rest : n + length ns ≤ high = rise_count n ns high h.1 in
    omega arith

map_count : (scripts : List Script) → length (map (λ s. s.pid) scripts) ≡ length scripts
map_count [] = refl
map_count (s ∷ scripts) = ap suc (map_count scripts)

session_good : (sts : List Statement) → Fine None 0 sts → IsSession (session_of sts)
unfolding session_of
session_good sts fine =
    let rising : Rise 0 (map (λ s. s.pid) (scripts_of sts)) MAX_PROCESSES = numbers_rise None 0 sts (omega arith) fine in
    let count : 0 + length (map (λ s. s.pid) (scripts_of sts)) ≤ MAX_PROCESSES = rise_count 0 (map (λ s. s.pid) (scripts_of sts)) MAX_PROCESSES rising in
    let same : length (map (λ s. s.pid) (scripts_of sts)) ≡ length (scripts_of sts) = map_count (scripts_of sts) in
    record {
      modules = modules_good None 0 sts fine;
      failing = failing_good None 0 sts fine;
      scripts = scripts_good None 0 sts fine;
      rising = rising;
      few = omega arith;
    }

pub sessions_are_bounded : SessionsAreBounded
sessions_are_bounded bytes s ses =
    subst IsSession (sym ses.says) (session_good (statements_of (lines_in bytes)) (fine_lines [] (lines_in bytes) (sym (ses_fault_is bytes) ∙ ses.good)))
