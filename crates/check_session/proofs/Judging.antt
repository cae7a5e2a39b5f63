-- What a transcript of a session is judged by.
use Rattle.std.proofs.Common.{◌≡◌, ℕ, List, [], ◌∷◌, length, Option, refl, sym, ap, ◌∙◌, subst}
use Rattle.std.specs.List.{AllByRecursion}
use Rattle.load_model.specs.declared.commands.Command.{Command}
use Rattle.load_model.specs.declared.commands.Command.TheVariants as commands
use Rattle.load_model.specs.declared.deeds.Entry.{Entry}
use Rattle.load_model.specs.Modules.{Library}
use Rattle.load_model.specs.State.{Failing}
use Rattle.load_model.specs.Step.{FitsPlace}
use Rattle.session_model.specs.declared.sessions.Script.{Script}
use Rattle.session_model.specs.declared.sessions.ScriptLines.{ScriptLines}
use Rattle.session_model.specs.declared.sessions.Session.{Session}
use Rattle.session_model.specs.Merging.{Item, merge_of}
use Rattle.session_model.specs.Bounds.{IsCommand, IsScript, IsSession}
use Rattle.session_model.specs.FailingPairs.{failing_pairs}
use Rattle.check_model.specs.declared.kinds.CheckFault.{CheckFault}
use Rattle.check_model.specs.declared.kinds.Counts.{Counts}
use Rattle.check_model.specs.Told.{Told}
use Rattle.check_model.specs.Places.{places}
use Rattle.check_model.specs.Checks.{Judge}
use Rattle.check_core.specs.Judged.{IsJudged}
use Rattle.check_core.specs.PlayedItems.{IsJudgeOf}
use Rattle.check_play.specs.Playing.{ScriptsFit, IsJudgeOver}
use Rattle.transcript_whole.specs.declared.whole.ReadRun.{ReadRun}
use Rattle.transcript_whole.specs.Whole.{told_of}
use Rattle.check_session.specs.Checked.{judge_of}

abbrev pub told_with : List Entry → List ScriptLines → Counts → Told
told_with h s counts = record { run = record { history = h; steady = s }; counts = counts }

-- ---- a session's scripts fit

fits_place : (c : Command) → IsCommand c → FitsPlace c
fits_place (commands.Write at bytes) is = is.fit
fits_place (commands.Debug at bytes) is = is.fit
fits_place other is = tt

commands_fit : (cs : List Command) → AllByRecursion IsCommand cs → AllByRecursion FitsPlace cs
commands_fit [] all = tt
commands_fit (c ∷ cs) all = (fits_place c all.0, commands_fit cs all.1)

scripts_fit : (scripts : List Script) → AllByRecursion IsScript scripts → ScriptsFit scripts
scripts_fit [] all = tt
scripts_fit (s ∷ scripts) all = (commands_fit s.commands all.0.commands, scripts_fit scripts all.1)

pub judge_over : (lib : Library) (s : Session) (failing : Failing) (n : ℕ) → IsSession s → failing ≡ failing_pairs lib s → length s.scripts ≡ n → IsJudgeOver lib failing n (judge_of lib s)
judge_over lib s failing n is pairs count = record {
  lib_is = refl;
  failing_is = sym pairs;
  contents = refl;
  scripts = count;
  few = is.few;
  fit = scripts_fit s.scripts is.scripts;
}

-- ---- what is judged is what was read

pub told_same : (read : ReadRun) (h : List Entry) (s : List ScriptLines) → h ≡ read.history → s ≡ read.steady → told_with h s read.counts ≡ told_of read
told_same read h s history steady = ap (λ (g : List Entry). told_with g s read.counts) history ∙ ap (λ (l : List ScriptLines). told_with read.history l read.counts) steady

pub judged_read : (answer : Option CheckFault) (Stands : Judge → List Item → List Item → Type 0) (j : Judge) (t u : Told) (lib : Library) (scripts : List Script) (most : ℕ) → t ≡ u →
    IsJudgeOf j t lib scripts most → Stands j [] (merge_of t.run.history t.run.steady) →
    ((k : Judge) → IsJudgeOf k t lib scripts most → Stands k [] (merge_of t.run.history t.run.steady) → IsJudged k t (places t.run k.scripts) answer) →
    IsJudged j u (places u.run j.scripts) answer
judged_read answer Stands j t u lib scripts most same by stands judged = subst (λ (told : Told). IsJudged j told (places told.run j.scripts) answer) same (judged j by stands)
