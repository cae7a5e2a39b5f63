-- The text of a session is read as the session.
use Rattle.std.proofs.Common.{◌≡◌, ℕ, ◌+◌, ◌<◌, ◌≤◌, true, List, [], ◌∷◌, ◌++◌, length, map, Option, Some, None, refl, sym, ap, subst, ◌∙◌, arith, append_assoc, append-nil}
use Rattle.std.specs.Prelude.{◌&&◌, nat_lt, nat_le}
use Rattle.std.specs.List.{AllByRecursion, flat_map, filter_map, cons_option}
use Rattle.std.proofs.lemmas.Bool.Decides.{nat_tests}
use Rattle.std.proofs.lemmas.List.Concat.{flat_map-append}
use Rattle.std.proofs.lemmas.List.Elements.{filter_map-append}
use Rattle.std.proofs.lemmas.Bool.{lt-ltb, cond-true}
use Rattle.std.proofs.lemmas.List.Folds.{flat_map-map}
use Rattle.load_model.specs.declared.commands.Command.{Command}
use Rattle.load_model.specs.Serials.{Rise}
use Rattle.session_model.specs.declared.sessions.FailingLine.{FailingLine}
use Rattle.session_model.specs.declared.sessions.ModLine.{ModLine}
use Rattle.session_model.specs.declared.sessions.Script.{Script}
use Rattle.session_model.specs.declared.sessions.Session.{Session}
use Rattle.session_model.specs.Lines.{lines_in}
use Rattle.session_model.specs.Statements.{Statement, gives, fails, process, command, reading_of}
use Rattle.lx_types.specs.declared.limits.TheConstants.{MAX_PROCESSES}
use Rattle.session_model.specs.Sessions.{module_of, failing_in, commands_of, scripts_of, session_of, statement_in, statements_of, number_or, count_or, last_number, commands_so_far, rises, fault_among, fault_later, line_fault, Ses}
use Rattle.session_model.proofs.LinesAbove.{or_next, fault_from, ses_fault_is}
use Rattle.session_model.specs.declared.limits.TheConstants.{MAX_COMMANDS}
use Rattle.session_model.specs.Bounds.{IsCommand, IsModLine, IsFailingLine, IsScript}
use Rattle.session_model.specs.Text.{words, line_of}
use Rattle.session_read.proofs.DraftLaws.{numbers-more, counts-more, session-same}
use Rattle.session_model.specs.Spelling.{module_line, failing_line, command_line, process_words, script_lines, session_bytes}
use Rattle.session_text.specs.Writable.{IsPlainCommand, IsPlainModule, IsPlainFailing, IsPlainScript, IsWritable}
use Rattle.session_text.proofs.PlainWords.{words-allowed, line-written}
use Rattle.session_text.proofs.StatementTexts.{statement_words, IsSayable, statement-plain, statement-read}

-- ---- the statements of a session, in the order in which they are written

abbrev script_statements : Script → List Statement
script_statements s = process s.pid ∷ map command s.commands

abbrev scripts_said : List Script → List Statement
scripts_said scs = flat_map script_statements scs

abbrev said : Session → List Statement
said s = map gives s.modules ++ (map fails s.failing ++ scripts_said s.scripts)

abbrev text_of : Statement → List ℕ
text_of st = words (statement_words st)

abbrev written : Statement → List ℕ
written st = line_of (statement_words st)

scripts-written : (scs : List Script) → flat_map written (scripts_said scs) ≡ flat_map script_lines scs
scripts-written [] = refl
scripts-written (s ∷ scs) =
    flat_map-append written (script_statements s) (scripts_said scs)
    ∙ ap (λ bytes. (line_of (process_words s.pid) ++ bytes) ++ flat_map written (scripts_said scs)) (flat_map-map written command s.commands)
    ∙ ap (λ bytes. (line_of (process_words s.pid) ++ flat_map command_line s.commands) ++ bytes) (scripts-written scs)

session-written : (s : Session) → session_bytes s ≡ flat_map written (said s)
unfolding session_bytes
session-written s = sym (
    flat_map-append written (map gives s.modules) (map fails s.failing ++ scripts_said s.scripts)
    ∙ ap (λ bytes. bytes ++ flat_map written (map fails s.failing ++ scripts_said s.scripts)) (flat_map-map written gives s.modules)
    ∙ ap (λ bytes. flat_map module_line s.modules ++ bytes)
    (flat_map-append written (map fails s.failing) (scripts_said s.scripts)
    ∙ ap (λ bytes. bytes ++ flat_map written (scripts_said s.scripts)) (flat_map-map written fails s.failing)
    ∙ ap (λ bytes. flat_map failing_line s.failing ++ bytes) (scripts-written s.scripts)))

-- ---- each is sayable

all-append : (P : Statement → Type 0) (xs ys : List Statement) → AllByRecursion P xs → AllByRecursion P ys → AllByRecursion P (xs ++ ys)
all-append P [] ys h k = k
all-append P (x ∷ xs) ys h k = (h.0, all-append P xs ys h.1 k)

modules-sayable : (ms : List ModLine) → AllByRecursion IsModLine ms → AllByRecursion IsPlainModule ms → AllByRecursion IsSayable (map gives ms)
modules-sayable [] h p = tt
modules-sayable (m ∷ ms) h p = ((h.0, p.0), modules-sayable ms h.1 p.1)

failing-sayable : (fs : List FailingLine) → AllByRecursion IsFailingLine fs → AllByRecursion IsPlainFailing fs → AllByRecursion IsSayable (map fails fs)
failing-sayable [] h p = tt
failing-sayable (f ∷ fs) h p = ((h.0, p.0), failing-sayable fs h.1 p.1)

commands-sayable : (cs : List Command) → AllByRecursion IsCommand cs → AllByRecursion IsPlainCommand cs → AllByRecursion IsSayable (map command cs)
commands-sayable [] h p = tt
commands-sayable (c ∷ cs) h p = ((h.0, p.0), commands-sayable cs h.1 p.1)

rise-most : (low : ℕ) (ns : List ℕ) → Rise low ns MAX_PROCESSES → low ≤ MAX_PROCESSES
rise-most low [] h = h
rise-most low (n ∷ ns) h = (let more = rise-most n ns h.1 in omega (arith, h.0, more))

scripts-sayable : (low : ℕ) (scs : List Script) → Rise low (map (λ s. s.pid) scs) MAX_PROCESSES → AllByRecursion IsScript scs → AllByRecursion IsPlainScript scs
    → AllByRecursion IsSayable (scripts_said scs)
scripts-sayable low [] rise h p = tt
scripts-sayable low (s ∷ scs) rise h p =
    let most = rise-most s.pid (map (λ s. s.pid) scs) rise.1 in
    (omega (arith, most), all-append IsSayable (map command s.commands) (scripts_said scs) (commands-sayable s.commands h.0.commands p.0) (scripts-sayable s.pid scs rise.1 h.1 p.1))

said-sayable : (s : Session) → IsWritable s → AllByRecursion IsSayable (said s)
said-sayable s w =
    all-append IsSayable (map gives s.modules) (map fails s.failing ++ scripts_said s.scripts) (modules-sayable s.modules w.bounds.modules w.modules)
    (all-append IsSayable (map fails s.failing) (scripts_said s.scripts) (failing-sayable s.failing w.bounds.failing w.failing)
    (scripts-sayable 0 s.scripts w.bounds.rising w.bounds.scripts w.scripts))

-- ---- their lines

lines-said : (sts : List Statement) → AllByRecursion IsSayable sts → lines_in (flat_map written sts) ≡ map text_of sts
unfolding lines_in
lines-said [] h = refl
lines-said (st ∷ sts) h =
    ap lines_in (append_assoc (text_of st) (0x0A ∷ []) (flat_map written sts))
    ∙ line-written (text_of st) (flat_map written sts) (words-allowed (statement_words st) (statement-plain st h.0))
    ∙ ap (λ lines. text_of st ∷ lines) (lines-said sts h.1)

statements-said : (sts : List Statement) → AllByRecursion IsSayable sts → statements_of (map text_of sts) ≡ sts
statements-said [] h = refl
statements-said (st ∷ sts) h =
    ap (λ r. cons_option (statement_in r) (statements_of (map text_of sts))) (statement-read st h.0) ∙ ap (λ sts. st ∷ sts) (statements-said sts h.1)

-- ---- none is wrong among the others

-- nothing is wrong with statements after a script's number and so many commands
Good : Option ℕ → ℕ → List Statement → Type 0
Good last n [] = Unit {0}
Good last n (st ∷ sts) = (fault_among last n st ≡ None) × Good (number_or last st) (count_or n st) sts

good-along : (last last' : Option ℕ) (n n' : ℕ) (sts : List Statement) → last ≡ last' → n ≡ n' → Good last n sts → Good last' n' sts
good-along last last' n n' sts p q h = subst (λ last. Good last n' sts) p (subst (λ n. Good last n sts) q h)

fault-none : (before : List (List ℕ)) (sts : List Statement) → AllByRecursion IsSayable sts → Good (last_number (statements_of before)) (commands_so_far (statements_of before)) sts
    → fault_from before (map text_of sts) ≡ None
unfolding line_fault Good
fault-none before [] h good = refl
fault-none before (st ∷ sts) h good =
    let said : statements_of (before ++ text_of st ∷ []) ≡ statements_of before ++ st ∷ [] =
    filter_map-append (λ line. statement_in (reading_of line)) before (text_of st ∷ [])
    ∙ ap (λ r. statements_of before ++ cons_option (statement_in r) []) (statement-read st h.0) in
    ap (λ o. or_next before o (fault_from (before ++ text_of st ∷ []) (map text_of sts)))
    (ap (fault_later (statements_of before)) (statement-read st h.0) ∙ good.0)
    ∙ fault-none (before ++ text_of st ∷ []) sts h.1
    (good-along (number_or (last_number (statements_of before)) st) (last_number (statements_of (before ++ text_of st ∷ [])))
    (count_or (commands_so_far (statements_of before)) st) (commands_so_far (statements_of (before ++ text_of st ∷ []))) sts
    (numbers-more (statements_of before) st ∙ ap last_number (sym said)) (counts-more (statements_of before) st ∙ ap commands_so_far (sym said)) good.1)

good-modules : (ms : List ModLine) (sts : List Statement) → Good None 0 sts → Good None 0 (map gives ms ++ sts)
unfolding Good
good-modules [] sts h = h
good-modules (m ∷ ms) sts h = (refl, good-modules ms sts h)

good-failing : (fs : List FailingLine) (sts : List Statement) → Good None 0 sts → Good None 0 (map fails fs ++ sts)
unfolding Good
good-failing [] sts h = h
good-failing (f ∷ fs) sts h = (refl, good-failing fs sts h)

good-commands : (pid n : ℕ) (cs : List Command) (sts : List Statement) → n + length cs ≤ MAX_COMMANDS → ((n : ℕ) → Good (Some pid) n sts) → Good (Some pid) n (map command cs ++ sts)
unfolding Good
good-commands pid n [] sts few h = h n
good-commands pid n (c ∷ cs) sts few h =
    (cond-true (nat_lt n MAX_COMMANDS) _ _ (lt-ltb n MAX_COMMANDS (omega (arith, few))), good-commands pid (n + 1) cs sts (omega (arith, few)) h)

-- the last number is this one, or none where it is 0
abbrev IsLast : Option ℕ → ℕ → Type 0
IsLast None low = low ≡ 0
IsLast (Some last) low = last ≡ low

rises-so : (last : Option ℕ) (low n : ℕ) → IsLast last low → low < n → n ≤ MAX_PROCESSES → rises last n ≡ true
rises-so None low n is above most = both n (omega (arith, is, above)) most
  where
    both : (n : ℕ) → 1 ≤ n → n ≤ MAX_PROCESSES → nat_le 1 n && nat_le n MAX_PROCESSES ≡ true
    both n some few = grind (arith, nat_tests)
rises-so (Some last) low n is above most = both last n (omega (arith, is, above)) most
  where
    both : (last n : ℕ) → last < n → n ≤ MAX_PROCESSES → nat_lt last n && nat_le n MAX_PROCESSES ≡ true
    both last n some few = grind (arith, nat_tests)

good-scripts : (last : Option ℕ) (low n : ℕ) (scs : List Script) → IsLast last low → Rise low (map (λ s. s.pid) scs) MAX_PROCESSES → AllByRecursion IsScript scs
    → Good last n (scripts_said scs)
unfolding Good
good-scripts last low n [] is rise h = tt
good-scripts last low n (s ∷ scs) is rise h =
    let most = rise-most s.pid (map (λ s. s.pid) scs) rise.1 in (
      cond-true (rises last s.pid) None _ (rises-so last low s.pid is rise.0 most),
      good-commands s.pid 0 s.commands (scripts_said scs) (omega (arith, h.0.few)) (λ n. good-scripts (Some s.pid) s.pid n scs refl rise.1 h.1),
    )

-- ---- what they say together

modules-of : (ms : List ModLine) (sts : List Statement) → filter_map module_of (map gives ms ++ sts) ≡ ms ++ filter_map module_of sts
modules-of [] sts = refl
modules-of (m ∷ ms) sts = ap (λ ms. m ∷ ms) (modules-of ms sts)

no-modules-failing : (fs : List FailingLine) (sts : List Statement) → filter_map module_of (map fails fs ++ sts) ≡ filter_map module_of sts
no-modules-failing [] sts = refl
no-modules-failing (f ∷ fs) sts = no-modules-failing fs sts

no-modules-commands : (cs : List Command) (sts : List Statement) → filter_map module_of (map command cs ++ sts) ≡ filter_map module_of sts
no-modules-commands [] sts = refl
no-modules-commands (c ∷ cs) sts = no-modules-commands cs sts

no-modules : (scs : List Script) → filter_map module_of (scripts_said scs) ≡ []
no-modules [] = refl
no-modules (s ∷ scs) = no-modules-commands s.commands (scripts_said scs) ∙ no-modules scs

no-failing-modules : (ms : List ModLine) (sts : List Statement) → filter_map failing_in (map gives ms ++ sts) ≡ filter_map failing_in sts
no-failing-modules [] sts = refl
no-failing-modules (m ∷ ms) sts = no-failing-modules ms sts

failing-of : (fs : List FailingLine) (sts : List Statement) → filter_map failing_in (map fails fs ++ sts) ≡ fs ++ filter_map failing_in sts
failing-of [] sts = refl
failing-of (f ∷ fs) sts = ap (λ fs. f ∷ fs) (failing-of fs sts)

no-failing-commands : (cs : List Command) (sts : List Statement) → filter_map failing_in (map command cs ++ sts) ≡ filter_map failing_in sts
no-failing-commands [] sts = refl
no-failing-commands (c ∷ cs) sts = no-failing-commands cs sts

no-failing : (scs : List Script) → filter_map failing_in (scripts_said scs) ≡ []
no-failing [] = refl
no-failing (s ∷ scs) = no-failing-commands s.commands (scripts_said scs) ∙ no-failing scs

scripts-after_modules : (ms : List ModLine) (sts : List Statement) → scripts_of (map gives ms ++ sts) ≡ scripts_of sts
scripts-after_modules [] sts = refl
scripts-after_modules (m ∷ ms) sts = scripts-after_modules ms sts

scripts-after_failing : (fs : List FailingLine) (sts : List Statement) → scripts_of (map fails fs ++ sts) ≡ scripts_of sts
scripts-after_failing [] sts = refl
scripts-after_failing (f ∷ fs) sts = scripts-after_failing fs sts

scripts-after_commands : (cs : List Command) (sts : List Statement) → scripts_of (map command cs ++ sts) ≡ scripts_of sts
scripts-after_commands [] sts = refl
scripts-after_commands (c ∷ cs) sts = scripts-after_commands cs sts

commands-said : (cs : List Command) (scs : List Script) → commands_of (map command cs ++ scripts_said scs) ≡ cs
commands-said [] [] = refl
commands-said [] (s ∷ scs) = refl
commands-said (c ∷ cs) scs = ap (λ cs. c ∷ cs) (commands-said cs scs)

script-same : (s : Script) (cs : List Command) → cs ≡ s.commands → ◌≡◌ {A = Script} (record { pid = s.pid; commands = cs }) s
script-same s cs h = ap (λ cs. record { pid = s.pid; commands = cs }) h

scripts-same : (scs : List Script) → scripts_of (scripts_said scs) ≡ scs
scripts-same [] = refl
scripts-same (s ∷ scs) =
    ap (λ script. script ∷ scripts_of (map command s.commands ++ scripts_said scs)) (script-same s _ (commands-said s.commands scs))
    ∙ ap (λ scs. s ∷ scs) (scripts-after_commands s.commands (scripts_said scs) ∙ scripts-same scs)

session-said : (s : Session) → session_of (said s) ≡ s
unfolding session_of
session-said s =
    session-same _ _ _ _ _ _
    (modules-of s.modules (map fails s.failing ++ scripts_said s.scripts)
    ∙ ap (λ ms. s.modules ++ ms) (no-modules-failing s.failing (scripts_said s.scripts) ∙ no-modules s.scripts) ∙ append-nil s.modules)
    (no-failing-modules s.modules (map fails s.failing ++ scripts_said s.scripts)
    ∙ failing-of s.failing (scripts_said s.scripts) ∙ ap (λ fs. s.failing ++ fs) (no-failing s.scripts) ∙ append-nil s.failing)
    (scripts-after_modules s.modules (map fails s.failing ++ scripts_said s.scripts)
    ∙ scripts-after_failing s.failing (scripts_said s.scripts) ∙ scripts-same s.scripts)

-- What is written of a session that can be written says it.
pub written-read : (s : Session) → IsWritable s → Ses (session_bytes s) s
written-read s w =
    let sayable = said-sayable s w in
    let lines : lines_in (session_bytes s) ≡ map text_of (said s) = ap lines_in (session-written s) ∙ lines-said (said s) sayable in
    record {
      good =
          ses_fault_is (session_bytes s) ∙ ap (fault_from []) lines
          ∙ fault-none [] (said s) sayable
          (good-modules s.modules (map fails s.failing ++ scripts_said s.scripts)
          (good-failing s.failing (scripts_said s.scripts) (good-scripts None 0 0 s.scripts refl w.bounds.rising w.bounds.scripts)));
      says = sym (ap (λ lines. session_of (statements_of lines)) lines ∙ ap session_of (statements-said (said s) sayable) ∙ session-said s);
    }
