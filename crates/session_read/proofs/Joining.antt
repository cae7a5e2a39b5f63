-- Sessions one after the other.
use Rattle.std.proofs.Common.{◌≡◌, ℕ, zero, suc, ◌+◌, ◌<◌, length, take, drop, get_or, arith, true, List, [], ◌∷◌, ◌++◌, Option, Some, None, refl, sym, ap, subst, ◌∙◌, append_assoc, append-nil}
use Rattle.std.specs.Prelude.{◌==◌, fold, filter_map, slice_range, IfSome}
use Rattle.std.specs.List.{cons_option}
use Rattle.std.proofs.lemmas.List.Elements.{filter_map-append}
use Rattle.std.proofs.lemmas.List.Sums.{fold-append}
use Rattle.std.proofs.lemmas.Bool.{cond-true, eqb-true}
use Rattle.std.proofs.lemmas.List.{length-drop, get_or-drop, take_rest, take-append-drop}
use Rattle.load_model.specs.declared.commands.Command.{Command}
use Rattle.session_model.specs.declared.sessions.Script.{Script}
use Rattle.session_model.specs.declared.sessions.Session.{Session}
use Rattle.session_model.specs.declared.sessions.SessionKind.{SessionKind}
use Rattle.session_model.specs.declared.sessions.SessionRefusal.{SessionRefusal}
use Rattle.session_model.specs.Kept.{AreLines, said_in}
use Rattle.session_model.specs.Lines.{lines_in}
use Rattle.session_model.specs.Statements.{Statement, gives, fails, process, command, Reading, nothing, says, wrong, reading_of}
use Rattle.session_model.specs.Sessions.{module_of, failing_in, commands_of, scripts_of, session_of, statement_in, statements_of, number_or, count_or, last_number, commands_so_far, rises, fault_among, fault_later, line_fault, SesFault, Ses}
use Rattle.session_model.proofs.KeptText.{lines-append}
use Rattle.session_model.proofs.LinesAbove.{or_next, fault_from, ses_fault_is}
use Rattle.session_read.specs.Joining.{last_pid, GoesOn, ComesAfter, with_scripts, SessionsJoin}

-- ---- lines after lines

first-none : (before : List (List ℕ)) (k : Option SessionKind) (later : Option SessionRefusal) → or_next before k later ≡ None → k ≡ None
first-none before None later h = refl
first-none before (Some kind) later h = absurd (let no : ⊥ = cc in no)

later-none : (before : List (List ℕ)) (k : Option SessionKind) (later : Option SessionRefusal) → or_next before k later ≡ None → later ≡ None
later-none before None later h = h
later-none before (Some kind) later h = absurd (let no : ⊥ = cc in no)

both-none : (before : List (List ℕ)) (k : Option SessionKind) (later : Option SessionRefusal) → k ≡ None → later ≡ None → or_next before k later ≡ None
both-none before None later h l = l
both-none before (Some kind) later h l = absurd (let no : ⊥ = cc in no)

-- Where neither some lines are wrong nor those after them, none is.
none-of-both : (before ls more : List (List ℕ)) → fault_from before ls ≡ None → fault_from (before ++ ls) more ≡ None → fault_from before (ls ++ more) ≡ None
none-of-both before [] more h later = subst (λ bs. fault_from bs more ≡ None) (append-nil before) later
none-of-both before (line ∷ ls) more h later =
    both-none before (line_fault before line) (fault_from (before ++ line ∷ []) (ls ++ more))
    (first-none before (line_fault before line) (fault_from (before ++ line ∷ []) ls) h)
    (none-of-both (before ++ line ∷ []) ls more
    (later-none before (line_fault before line) (fault_from (before ++ line ∷ []) ls) h)
    (subst (λ bs. fault_from bs more ≡ None) (sym (append_assoc before (line ∷ []) ls)) later))

-- what stands above, after a line more
number-more : (before : List (List ℕ)) (line : List ℕ) → last_number (statements_of (before ++ line ∷ []))
    ≡ fold number_or (last_number (statements_of before)) (cons_option (statement_in (reading_of line)) [])
number-more before line =
    ap last_number (filter_map-append (λ l. statement_in (reading_of l)) before (line ∷ []))
    ∙ fold-append number_or None (statements_of before) (cons_option (statement_in (reading_of line)) [])

count-more : (before : List (List ℕ)) (line : List ℕ) → commands_so_far (statements_of (before ++ line ∷ []))
    ≡ fold count_or 0 (statements_of before ++ cons_option (statement_in (reading_of line)) [])
count-more before line = ap commands_so_far (filter_map-append (λ l. statement_in (reading_of l)) before (line ∷ []))

count-on : (before : List (List ℕ)) (line : List ℕ) → commands_so_far (statements_of (before ++ line ∷ []))
    ≡ fold count_or (commands_so_far (statements_of before)) (cons_option (statement_in (reading_of line)) [])
count-on before line = count-more before line ∙ fold-append count_or 0 (statements_of before) (cons_option (statement_in (reading_of line)) [])

-- ---- lines below the same

fault-same : (bs cs : List (List ℕ)) (line : List ℕ) → last_number (statements_of bs) ≡ last_number (statements_of cs)
    → commands_so_far (statements_of bs) ≡ commands_so_far (statements_of cs) → line_fault bs line ≡ line_fault cs line
unfolding line_fault
fault-same bs cs line last count = by_reading (reading_of line)
  where
    by_reading : (r : Reading) → fault_later (statements_of bs) r ≡ fault_later (statements_of cs) r
    by_reading nothing = refl
    by_reading (wrong kind) = refl
    by_reading (says s) = ap (λ l. fault_among l (commands_so_far (statements_of bs)) s) last ∙ ap (λ n. fault_among (last_number (statements_of cs)) n s) count

-- Lines are right below any lines above which as much stands.
right-below : (bs cs ls : List (List ℕ)) → last_number (statements_of bs) ≡ last_number (statements_of cs)
    → commands_so_far (statements_of bs) ≡ commands_so_far (statements_of cs) → fault_from bs ls ≡ None → fault_from cs ls ≡ None
right-below bs cs [] last count h = refl
right-below bs cs (line ∷ ls) last count h =
    let more : List Statement = cons_option (statement_in (reading_of line)) [] in
    both-none cs (line_fault cs line) (fault_from (cs ++ line ∷ []) ls)
    (sym (fault-same bs cs line last count) ∙ first-none bs (line_fault bs line) (fault_from (bs ++ line ∷ []) ls) h)
    (right-below (bs ++ line ∷ []) (cs ++ line ∷ []) ls
    (number-more bs line ∙ ap (λ l. fold number_or l more) last ∙ sym (number-more cs line))
    (count-on bs line ∙ ap (λ n. fold count_or n more) count ∙ sym (count-on cs line))
    (later-none bs (line_fault bs line) (fault_from (bs ++ line ∷ []) ls) h))

-- ---- scripts after others

-- what a line comes to, below some lines and below others
fault-of : (bs : List (List ℕ)) (line : List ℕ) (r : Reading) → reading_of line ≡ r → line_fault bs line ≡ fault_later (statements_of bs) r
unfolding line_fault
fault-of bs line r is = ap (fault_later (statements_of bs)) is

-- a line that begins no script, where none is begun yet
quiet : (bs : List (List ℕ)) (line : List ℕ) → statement_in (reading_of line) ≡ None → last_number (statements_of (bs ++ line ∷ [])) ≡ last_number (statements_of bs)
quiet bs line none = number-more bs line ∙ ap (λ s. fold number_or (last_number (statements_of bs)) (cons_option s [])) none

-- Scripts that are right by themselves are right below others with whose numbers theirs go on.
scripts-below : (bs cs ls : List (List ℕ)) → last_number (statements_of bs) ≡ None → filter_map module_of (statements_of ls) ≡ []
    → filter_map failing_in (statements_of ls) ≡ [] → GoesOn (last_number (statements_of cs)) (scripts_of (statements_of ls))
    → fault_from bs ls ≡ None → fault_from cs ls ≡ None
scripts-below bs cs [] none modules failing on h = refl
scripts-below bs cs (line ∷ ls) none modules failing on h = by_reading (scripts-below (bs ++ line ∷ []) (cs ++ line ∷ []) ls) (reading_of line) refl
  where
    ss : List Statement
    ss = statements_of ls

    right : line_fault bs line ≡ None
    right = first-none bs (line_fault bs line) (fault_from (bs ++ line ∷ []) ls) h

    rest : fault_from (bs ++ line ∷ []) ls ≡ None
    rest = later-none bs (line_fault bs line) (fault_from (bs ++ line ∷ []) ls) h

    -- all that is said of the statements, by what the line says
    modules-by : (o : Option Statement) → statement_in (reading_of line) ≡ o → filter_map module_of (cons_option o ss) ≡ []
    modules-by o is = subst (λ o. filter_map module_of (cons_option o ss) ≡ []) is modules

    failing-by : (o : Option Statement) → statement_in (reading_of line) ≡ o → filter_map failing_in (cons_option o ss) ≡ []
    failing-by o is = subst (λ o. filter_map failing_in (cons_option o ss) ≡ []) is failing

    on-by : (o : Option Statement) → statement_in (reading_of line) ≡ o → GoesOn (last_number (statements_of cs)) (scripts_of (cons_option o ss))
    on-by o is = subst (λ o. GoesOn (last_number (statements_of cs)) (scripts_of (cons_option o ss))) is on

    -- the same of the lines below this one
    Again : Type 0
    Again = last_number (statements_of (bs ++ line ∷ [])) ≡ None → filter_map module_of ss ≡ [] → filter_map failing_in ss ≡ []
        → GoesOn (last_number (statements_of (cs ++ line ∷ []))) (scripts_of ss) → fault_from (bs ++ line ∷ []) ls ≡ None → fault_from (cs ++ line ∷ []) ls ≡ None

    silent : Again → statement_in (reading_of line) ≡ None → line_fault cs line ≡ None → fault_from cs (line ∷ ls) ≡ None
    silent again is good =
        both-none cs (line_fault cs line) (fault_from (cs ++ line ∷ []) ls) good
        (again (quiet bs line is ∙ none) (modules-by None is) (failing-by None is)
        (subst (λ l. GoesOn l (scripts_of ss)) (sym (quiet cs line is)) (on-by None is)) rest)

    begun : (n : ℕ) → statement_in (reading_of line) ≡ Some (process n) → line_fault cs line ≡ None → fault_from cs (line ∷ ls) ≡ None
    begun n is good =
        both-none cs (line_fault cs line) (fault_from (cs ++ line ∷ []) ls) good
        (right-below (bs ++ line ∷ []) (cs ++ line ∷ []) ls
        (number-more bs line ∙ numbers bs is ∙ sym (number-more cs line ∙ numbers cs is))
        (count-on bs line ∙ counts bs is ∙ sym (count-on cs line ∙ counts cs is)) rest)
      where
        numbers : (xs : List (List ℕ)) → statement_in (reading_of line) ≡ Some (process n)
            → fold number_or (last_number (statements_of xs)) (cons_option (statement_in (reading_of line)) []) ≡ Some n
        numbers xs is = ap (λ o. fold number_or (last_number (statements_of xs)) (cons_option o [])) is

        counts : (xs : List (List ℕ)) → statement_in (reading_of line) ≡ Some (process n)
            → fold count_or (commands_so_far (statements_of xs)) (cons_option (statement_in (reading_of line)) []) ≡ 0
        counts xs is = ap (λ o. fold count_or (commands_so_far (statements_of xs)) (cons_option o [])) is

    -- where no script is begun, only a script may begin
    order : (last : Option ℕ) (n : ℕ) (c : Command) → last ≡ None → fault_among last n (command c) ≡ None → ⊥
    order None n c none good = (let no : ⊥ = cc in no)
    order (Some l) n c none good = (let no : ⊥ = cc in no)

    risen : (last : Option ℕ) (n k : ℕ) → rises last n ≡ true → fault_among last k (process n) ≡ None
    risen None n k r = cond-true _ _ _ r
    risen (Some l) n k r = cond-true _ _ _ r

    by_reading : Again → (r : Reading) → reading_of line ≡ r → fault_from cs (line ∷ ls) ≡ None
    by_reading again nothing is = silent again (ap statement_in is) (fault-of cs line nothing is)
    by_reading again (wrong kind) is = absurd (let e : None ≡ Some kind = sym right ∙ fault-of bs line (wrong kind) is in let no : ⊥ = cc in no)
    by_reading again (says (gives m)) is = absurd (let e = modules-by (Some (gives m)) (ap statement_in is) in let no : ⊥ = cc in no)
    by_reading again (says (fails f)) is = absurd (let e = failing-by (Some (fails f)) (ap statement_in is) in let no : ⊥ = cc in no)
    by_reading again (says (command c)) is =
        absurd (order (last_number (statements_of bs)) (commands_so_far (statements_of bs)) c none (sym (fault-of bs line (says (command c)) is) ∙ right))
    by_reading again (says (process n)) is =
        begun n (ap statement_in is)
        (fault-of cs line (says (process n)) is
        ∙ risen (last_number (statements_of cs)) n (commands_so_far (statements_of cs)) (on-by (Some (process n)) (ap statement_in is)))

-- ---- what both say

-- No command stands before the first script.
no-command : (bs ls : List (List ℕ)) → last_number (statements_of bs) ≡ None → fault_from bs ls ≡ None → commands_of (statements_of ls) ≡ []
no-command bs [] none h = refl
no-command bs (line ∷ ls) none h = by_reading (no-command (bs ++ line ∷ []) ls) (reading_of line) refl
  where
    right : line_fault bs line ≡ None
    right = first-none bs (line_fault bs line) (fault_from (bs ++ line ∷ []) ls) h

    -- the same of the lines below this one
    Again : Type 0
    Again = last_number (statements_of (bs ++ line ∷ [])) ≡ None → fault_from (bs ++ line ∷ []) ls ≡ None → commands_of (statements_of ls) ≡ []

    silent : Again → statement_in (reading_of line) ≡ None → commands_of (statements_of (line ∷ ls)) ≡ []
    silent again is =
        ap (λ o. commands_of (cons_option o (statements_of ls))) is
        ∙ again (quiet bs line is ∙ none) (later-none bs (line_fault bs line) (fault_from (bs ++ line ∷ []) ls) h)

    order : (last : Option ℕ) (n : ℕ) (c : Command) → last ≡ None → fault_among last n (command c) ≡ None → ⊥
    order None n c none good = (let no : ⊥ = cc in no)
    order (Some l) n c none good = (let no : ⊥ = cc in no)

    by_reading : Again → (r : Reading) → reading_of line ≡ r → commands_of (statements_of (line ∷ ls)) ≡ []
    by_reading again nothing is = silent again (ap statement_in is)
    by_reading again (wrong kind) is = silent again (ap statement_in is)
    by_reading again (says (gives m)) is = ap (λ r. commands_of (cons_option (statement_in r) (statements_of ls))) is
    by_reading again (says (fails f)) is = ap (λ r. commands_of (cons_option (statement_in r) (statements_of ls))) is
    by_reading again (says (process n)) is = ap (λ r. commands_of (cons_option (statement_in r) (statements_of ls))) is
    by_reading again (says (command c)) is =
        absurd (order (last_number (statements_of bs)) (commands_so_far (statements_of bs)) c none (sym (fault-of bs line (says (command c)) is) ∙ right))

commands-of-both : (xs ys : List Statement) → commands_of ys ≡ [] → commands_of (xs ++ ys) ≡ commands_of xs
commands-of-both [] ys none = none
commands-of-both (command c ∷ xs) ys none = ap (λ cs. c ∷ cs) (commands-of-both xs ys none)
commands-of-both (process n ∷ xs) ys none = refl
commands-of-both (gives m ∷ xs) ys none = refl
commands-of-both (fails f ∷ xs) ys none = refl

scripts-of-both : (xs ys : List Statement) → commands_of ys ≡ [] → scripts_of (xs ++ ys) ≡ scripts_of xs ++ scripts_of ys
scripts-of-both [] ys none = refl
scripts-of-both (command c ∷ xs) ys none = scripts-of-both xs ys none
scripts-of-both (gives m ∷ xs) ys none = scripts-of-both xs ys none
scripts-of-both (fails f ∷ xs) ys none = scripts-of-both xs ys none
scripts-of-both (process n ∷ xs) ys none = (λ i. record { pid = n; commands = commands-of-both xs ys none i } ∷ scripts-of-both xs ys none i)

-- the number of the last script is that of the last statement that begins one
last-is : (o : Option ℕ) (ss : List Statement) → fold number_or o ss ≡ fold (λ so_far script. Some script.pid) o (scripts_of ss)
last-is o [] = refl
last-is o (process n ∷ ss) = last-is (Some n) ss
last-is o (command c ∷ ss) = last-is o ss
last-is o (gives m ∷ ss) = last-is o ss
last-is o (fails f ∷ ss) = last-is o ss

same-session : (ms ms' : List _) (fs fs' : List _) (cs cs' : List Script) → ms ≡ ms' → fs ≡ fs' → cs ≡ cs'
    → ◌≡◌ {A = Session} (record { modules = ms; failing = fs; scripts = cs }) (record { modules = ms'; failing = fs'; scripts = cs' })
same-session ms ms' fs fs' cs cs' p q r = (λ i. record { modules = p i; failing = q i; scripts = r i })

-- the session of statements, and the scripts of others
said-by-both : (xs ys : List Statement) (s t : Session) → s ≡ session_of xs → t ≡ session_of ys → t.modules ≡ [] → t.failing ≡ []
    → commands_of ys ≡ [] → with_scripts s t.scripts ≡ session_of (xs ++ ys)
unfolding session_of
said-by-both xs ys s t xs-say ys-say modules failing none =
    same-session s.modules _ s.failing _ (s.scripts ++ t.scripts) _
    (ap (λ s. s.modules) xs-say ∙ sym (append-nil (filter_map module_of xs))
    ∙ ap (λ ms. filter_map module_of xs ++ ms) (sym modules ∙ ap (λ t. t.modules) ys-say) ∙ sym (filter_map-append module_of xs ys))
    (ap (λ s. s.failing) xs-say ∙ sym (append-nil (filter_map failing_in xs))
    ∙ ap (λ fs. filter_map failing_in xs ++ fs) (sym failing ∙ ap (λ t. t.failing) ys-say) ∙ sym (filter_map-append failing_in xs ys))
    ((λ i. (ap (λ s. s.scripts) xs-say) i ++ (ap (λ t. t.scripts) ys-say) i) ∙ sym (scripts-of-both xs ys none))

-- ---- the sessions

right-of : (bytes : List ℕ) → SesFault bytes ≡ None → fault_from [] (lines_in bytes) ≡ None
right-of bytes good = sym (ses_fault_is bytes) ∙ good

numbers-of : (xs ys : List Statement) (s t : Session) → s ≡ session_of xs → t ≡ session_of ys → GoesOn (last_pid s.scripts) t.scripts
    → GoesOn (last_number xs) (scripts_of ys)
unfolding session_of
numbers-of xs ys s t xs-say ys-say on =
    subst (λ l. GoesOn l (scripts_of ys)) (ap (λ (s : Session). last_pid s.scripts) xs-say ∙ sym (last-is None xs))
    (subst (λ scripts. GoesOn (last_pid s.scripts) scripts) (ap (λ (t : Session). t.scripts) ys-say) on)

modules-none : (ys : List Statement) (t : Session) → t ≡ session_of ys → t.modules ≡ [] → filter_map module_of ys ≡ []
unfolding session_of
modules-none ys t say none = sym (ap (λ (t : Session). t.modules) say) ∙ none

failing-none : (ys : List Statement) (t : Session) → t ≡ session_of ys → t.failing ≡ [] → filter_map failing_in ys ≡ []
unfolding session_of
failing-none ys t say none = sym (ap (λ (t : Session). t.failing) say) ∙ none

pub sessions_join : SessionsJoin
sessions_join a b s t whole front back after =
    let la : List (List ℕ) = lines_in a in
    let lb : List (List ℕ) = lines_in b in
    let xs : List Statement = statements_of la in
    let ys : List Statement = statements_of lb in
    let lines : lines_in (a ++ b) ≡ la ++ lb = lines-append a b whole in
    let all : statements_of (lines_in (a ++ b)) ≡ xs ++ ys =
    ap statements_of lines ∙ filter_map-append (λ line. statement_in (reading_of line)) la lb in
    let right : fault_from la lb ≡ None =
    scripts-below [] la lb refl (modules-none ys t back.says after.modules) (failing-none ys t back.says after.failing)
    (numbers-of xs ys s t front.says back.says after.numbers) (right-of b back.good) in
    record {
      good = ses_fault_is (a ++ b) ∙ ap (fault_from []) lines ∙ none-of-both [] la lb (right-of a front.good) right;
      says =
          said-by-both xs ys s t front.says back.says after.modules after.failing (no-command [] lb refl (right-of b back.good))
          ∙ ap session_of (sym all);
    }

-- the session of bytes, from those of both parts, where both are read and the second comes after the first
pub session_of_parts : (bytes : List ℕ) (at : ℕ) (front back : List ℕ) (a b all : Option Session) (s t : Session)
    → front ≡ take at bytes → back ≡ drop at bytes → AreLines (take at bytes) → a ≡ Some s → b ≡ Some t
    → IfSome a (λ session. Ses front session) → IfSome b (λ session. Ses back session)
    → IfSome all (λ both. ComesAfter s t × (both ≡ with_scripts s t.scripts)) → IfSome all (λ session. Ses bytes session)
session_of_parts bytes at front back a b None s t front-is back-is whole a-is b-is sf sb both = tt
session_of_parts bytes at front back a b (Some all) s t front-is back-is whole a-is b-is sf sb both =
    let first : Ses front s = subst (λ a. IfSome a (λ session. Ses front session)) a-is sf in
    let second : Ses back t = subst (λ b. IfSome b (λ session. Ses back session)) b-is sb in
    let lines : AreLines front = subst AreLines (sym front-is) whole in
    let same : front ++ back ≡ bytes = (λ i. front-is i ++ back-is i) ∙ take-append-drop at bytes in
    subst (λ bytes. Ses bytes all) same (subst (λ all. Ses (front ++ back) all) (sym both.1) (sessions_join front back s t lines first second both.0))

-- ---- texts

-- no text says nothing
pub said_none : {A : Type 0} (in_line : List ℕ → Option A) (text : List ℕ) → length text ≡ 0 → said_in in_line text ≡ []
unfolding lines_in
said_none in_line [] none = refl
said_none in_line (b ∷ text) none = absurd (omega (arith, none))

-- bytes up to an LF are whole lines
pub lines_through : (bytes : List ℕ) (k : ℕ) → k < length bytes → get_or bytes k 0 ≡ 10 → AreLines (take (suc k) bytes)
lines_through [] k within end = absurd (omega arith)
lines_through (b ∷ bytes) zero within end = end
lines_through (b ∷ []) (suc k) within end = absurd (omega arith)
lines_through (b ∷ c ∷ bytes) (suc k) within end = lines_through (c ∷ bytes) k (omega arith) end

-- the same, where the LF stands so many bytes after a place
pub lines_to : (bytes : List ℕ) (at end : ℕ) → end < length (slice_range bytes at (length bytes)) → (get_or (slice_range bytes at (length bytes)) end 0 == 10) ≡ true
    → AreLines (take (at + (end + 1)) bytes)
lines_to bytes at end within is =
    let all : slice_range bytes at (length bytes) ≡ drop at bytes = take_rest bytes at in
    let here : at + end < length bytes = omega (arith, length-drop at bytes, ap length all, within) in
    let byte : get_or bytes (at + end) 0 ≡ 10 =
    sym (get_or-drop at bytes end 0) ∙ ap (λ hay. get_or hay end 0) (sym all) ∙ eqb-true (get_or (slice_range bytes at (length bytes)) end 0) 10 is
    in
    let next : suc (at + end) ≡ at + (end + 1) = omega arith in
    subst (λ (k : ℕ). AreLines (take k bytes)) next (lines_through bytes (at + end) here byte)
