-- What is said of scripts that ran, and of modules that are no library.
use Rattle.std.proofs.Common.{◌≡◌, ℕ, List, codes, Some, None, Ok, Err, ◌∙◌, ap, sym, subst, inr}
use Rattle.lx_types.specs.declared.fail.Fail.{Fail}
use Rattle.lx_types.specs.declared.fail.Fail.TheVariants as fail
use Rattle.lx_types.specs.declared.parts.Parts.{Parts}
use Rattle.lx_model.specs.declared.library.LibraryRefusal.{LibraryRefusal}
use Rattle.lx_model.specs.Gathering.{IsLibrary, LibraryFault}
use Rattle.mod_graph.specs.Gathering.{IsRefused}
use Rattle.load_model.specs.Modules.{fixed_bytes}
use Rattle.lx_ports.specs.Calls.{Call}
use Rattle.session_model.specs.FailingPairs.{failing_pairs}
use Rattle.session_model.specs.Runs.{IsRunOf, run_text}
use Rattle.answer_model.specs.SessionRefusals.{library_text}
use Rattle.run_model.specs.Sources.{library_of}
use Rattle.run_laws.specs.Bridge.{RunsByLinks}
use Rattle.run_laws.specs.BuiltModules.{BuiltAreOfLinks}
use Rattle.run_core.specs.declared.session.Ran.{Ran}
use Rattle.run_core.specs.Sessions.{IsRanOf, run_in}
use Rattle.session_files.specs.declared.reading.SessionFiles.{SessionFiles}
use Rattle.session_files.specs.SessionFiles.{AnswersSession, AreSessionFiles}
use Rattle.answer_model.specs.declared.said.Said.{Said}
use Rattle.refusal_text.specs.declared.refused.Refused.{Refused}
use Rattle.answer_model.specs.RunAnswer.{SaysRun}
use Rattle.lx_tool.specs.declared.run.SessionEnd.TheVariants as end
use Rattle.file_commands.specs.declared.told.Told.{Told}
use Rattle.file_commands.specs.Refusals.{Gives, RefusesBy}
use Rattle.lx_tool.specs.Running.{RanOver, SaysEnd}

module _ (file : List ℕ) (calls : List Call) (it : SessionFiles) (is : AreSessionFiles file calls it) where
  -- By the bytes of the files, with their fixups, it is a run; so it is one by what the links mean.
  pub ran_over : RunsByLinks → BuiltAreOfLinks → (lib : List Parts) → lib ≡ it.modules.items → IsLibrary lib → (ran : Ran) → IsRanOf lib (failing_pairs lib it.session) it.session.scripts ran → RanOver file calls ran
  ran_over by_links of_links lib gathered library ran over =
      let same : lib ≡ library_of is.sources = gathered ∙ is.modules in
      let Over : List Parts → Type 0 = λ l. IsRunOf l (failing_pairs l it.session) (fixed_bytes l) it.session.scripts (run_in ran) in
      let whole : IsLibrary (library_of is.sources) = subst IsLibrary same library in
      record {
        through = record {
          session_is = it.session;
          first = is.first;
          read = is.read;
          others = is.others;
          says = record {
            sources = is.sources;
            given = is.given;
            fine = whole.faultless;
            runs = by_links is.sources (failing_pairs (library_of is.sources) it.session) it.session.scripts (run_in ran) is.sound whole is.bounded.few (subst Over same over.runs);
            told = ap (λ (text : List ℕ). record { status = 0; text = text }) (over.text ∙ ap (λ (l : List Parts). run_text l (run_in ran)) same);
          };
          calls_are = is.calls_are;
        };
        links = of_links is.sources is.sound;
      }

  pub ungathered_says : (why : Fail LibraryRefusal) (own : Told) → IsRefused why (LibraryFault it.modules.items) → RefusesBy library_text (codes "session") why (Ok own.said) → SaysEnd file calls (end.Refused own)
  ungathered_says (fail.Said refusal) own refused told = inr (record {
    session_is = it.session;
    first = is.first;
    read = is.read;
    others = is.others;
    says = inr (record {
      sources = is.sources;
      given = is.given;
      why = refusal;
      fault = subst (λ (l : List Parts). LibraryFault l ≡ Some refusal) is.modules refused;
      told = told;
    });
    calls_are = is.calls_are;
  })
  ungathered_says fail.NoMemory own refused told = absurd told

-- A session that was not read says what is said of it.
pub unread_says : (file : List ℕ) (calls : List Call) (why : Fail Refused) (told : Told) → AnswersSession file calls (Err why) → Gives why (Ok told.said) → SaysEnd file calls (end.Refused told)
unread_says file calls (fail.Said own) told answer gives = subst (λ (s : Said). SaysRun file calls s None) (sym gives) answer
unread_says file calls fail.NoMemory told answer gives = absurd gives
