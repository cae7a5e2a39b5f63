-- `run FILE` has an answer, whatever bytes files have.
use Rattle.std.proofs.Common.{◌≡◌, ◌⊎◌, ◌∙◌, ℕ, Bool, true, false, cond, List, [], ◌∷◌, ◌++◌, length, Option, Some, None, inl, inr, refl, sym, ap, subst, append_assoc}
use Rattle.std.specs.Prelude.{Result, Ok, Err, codes, option_map}
use Rattle.std.specs.List.{AllByRecursion}
use Rattle.std.specs.Prelude.{nat_le}
use Rattle.lx_types.proofs.Lists.{all_weaker}
use Rattle.lx_types.specs.declared.parts.Parts.{Parts}
use Rattle.lx_ports.specs.Calls.{Call, load, save}
use Rattle.lx_ports.specs.Files.{Contents}
use Rattle.lx_ports.specs.declared.files.LoadFault.{LoadFault}
use Rattle.lx_ports.specs.declared.files.LoadFault.TheVariants as fault
use Rattle.link_model.specs.declared.refusals.LinkRefusal.{LinkRefusal}
use Rattle.link_model.specs.Refusal.{link_refusal}
use Rattle.lx_model.specs.declared.library.LibraryRefusal.{LibraryRefusal}
use Rattle.lx_model.specs.Gathering.{LibraryFault}
use Rattle.load_model.specs.declared.commands.Command.{Command}
use Rattle.load_model.specs.declared.commands.Command.TheVariants as commands
use Rattle.load_model.specs.Step.{FitsPlace}
use Rattle.session_model.specs.declared.sessions.ModLine.{ModLine}
use Rattle.session_model.specs.declared.sessions.ModLine.TheVariants.{Take, Build}
use Rattle.session_model.specs.declared.sessions.Script.{Script}
use Rattle.session_model.specs.declared.sessions.Session.{Session}
use Rattle.session_model.specs.Bounds.{IsCommand, IsScript, IsSession, SessionsAreBounded}
use Rattle.session_model.specs.FailingPairs.{failing_pairs}
use Rattle.session_model.specs.Runs.{Run, run_text}
use Rattle.run_model.specs.Sources.{Source, taken, built, held, library_of}
use Rattle.script_laws.specs.Ends.{ScriptsHaveARun}
use Rattle.answer_model.specs.Answer.{IsSound, loaded}
use Rattle.answer_model.specs.AskedFiles.{Asked}
use Rattle.answer_model.specs.FileLine.{file_line}
use Rattle.answer_model.specs.Items.{Item, linked, session, module_file}
use Rattle.answer_model.specs.LinkAnswer.{input_with, link_text}
use Rattle.answer_model.specs.Loading.{AreRead, IsRead, IsRefused, IsStopped, ReadsAnswer, RefusesAnswer, file_limit}
use Rattle.answer_model.specs.RunAnswer.{AreDone, IsDoneLine, IsFailedLine, IsStoppedLine, SaysSession, asked_session, together}
use Rattle.answer_model.specs.RunLines.{asked_line}
use Rattle.answer_model.specs.SessionRefusals.{library_text}
use Rattle.answer_model.specs.declared.said.Said.{Said}
use Rattle.answer_laws.specs.AnswerLaws.{HasBytes}
use Rattle.answer_laws.specs.RunLaws.{RunHasAnAnswer, RunIsAnswered}
use Rattle.answer_laws.proofs.Links.{HasLink, some_link}
use Rattle.answer_laws.proofs.Loads.{AreSound, IsLoaded, reads, stopped, all_loaded, sound_back, sound_both}

-- ---- a file that is refused has status 1, where its load tells what it has

by_length : (a : Asked) (bytes : List ℕ) (said : Said) (b : Bool) → RefusesAnswer a (cond b (Ok bytes) (Err fault.TooLong)) said → said.status ≡ 1
by_length a bytes said true h = ap (λ (s : Said). s.status) h.line
by_length a bytes said false h = ap (λ (s : Said). s.status) h

by_contents : (a : Asked) (has : Option (List ℕ)) (said : Said) → RefusesAnswer a (loaded has) said → said.status ≡ 1
by_contents a None said h = ap (λ (s : Said). s.status) h
by_contents a (Some bytes) said h = by_length a bytes said (nat_le (length bytes) file_limit) h

refused_status : (contents : Contents) (a : Asked) (call : Call) (said : Said) → IsSound contents call → IsRefused a call said → said.status ≡ 1
refused_status contents a (load name answer) said sound h = by_contents a (contents name) said (subst (λ r. RefusesAnswer a r said) sound h.1)
refused_status contents a (save name bytes answer) said sound h = absurd h

stopped_status : (contents : Contents) (asked : List Asked) (calls : List Call) (said : Said) → AreSound contents calls → IsStopped asked calls said → said.status ≡ 1
stopped_status contents asked calls said sound h =
    refused_status contents h.here h.call said (sound_back contents h.earlier (h.call ∷ []) (subst (AreSound contents) h.calls_are sound)).0 h.refused

-- ---- one module line

-- with calls that tell what files have, the line is done, or stopped, with status 1
data LineEnds (contents : Contents) (line : ModLine) : Type 0 where
  done : (calls : List Call) (source : Source) → AreSound contents calls → IsDoneLine line calls source → LineEnds contents line
  ends : (calls : List Call) (said : Said) → AreSound contents calls → said.status ≡ 1 → IsStopped (asked_line line) calls said ⊎ IsFailedLine line calls said → LineEnds contents line

module_is : (a : Asked) (file : List ℕ) (r : Result (List ℕ) LoadFault) (i : Item) → a ≡ record { kind = module_file; name = file } → ReadsAnswer a r i → (m : Parts) × (i ≡ linked m)
module_is a file (Ok bytes) (linked m) is h = (m, refl)
module_is a file (Ok bytes) i is h = absurd (subst (λ x. ReadsAnswer x (Ok bytes) i) is h).1
module_is a file (Err f) i is h = absurd h

load_read : (a : Asked) (call : Call) (i : Item) → IsRead a call i → (r : Result (List ℕ) LoadFault) × ReadsAnswer a r i
load_read a (load name answer) i h = (answer, h.1)
load_read a (save name bytes answer) i h = absurd h

taken_line : (contents : Contents) (file : List ℕ) (calls : List Call) (items : List Item) → AreSound contents calls → AreRead (asked_line (Take file)) calls items → LineEnds contents (Take file)
taken_line contents file (c ∷ []) (i ∷ []) sound h =
    let answer = load_read (record { kind = module_file; name = file }) c i h.0 in
    let m = module_is (record { kind = module_file; name = file }) file answer.0 i refl answer.1 in
    done (c ∷ []) (taken m.0) sound (record {
      items = linked m.0 ∷ [];
      read = subst (λ (x : Item). AreRead (asked_line (Take file)) (c ∷ []) (x ∷ [])) m.1 h;
      gives = refl;
    })
taken_line contents file (c ∷ d ∷ calls) (i ∷ []) sound h = absurd h.1
taken_line contents file (c ∷ []) (i ∷ j ∷ items) sound h = absurd h.1
taken_line contents file (c ∷ d ∷ calls) (i ∷ j ∷ items) sound h = absurd h.1
taken_line contents file [] items sound h = absurd h
taken_line contents file (c ∷ calls) [] sound h = absurd h

built_line : (contents : Contents) (stem def : List ℕ) (files : List (List ℕ)) (calls : List Call) (items : List Item) → AreSound contents calls →
    AreRead (asked_line (Build stem def files)) calls items → LineEnds contents (Build stem def files)
built_line contents stem def files calls items sound read = step (link_refusal found.link) refl
  where
    found : HasLink (input_with stem items)
    found = some_link (input_with stem items)

    step : (o : Option LinkRefusal) → link_refusal found.link ≡ o → LineEnds contents (Build stem def files)
    step None is = done calls (built found.link) sound (record { items = items; read = read; gives = (found.of_input, is) })
    step (Some why) is =
        ends calls (record { status = 1; text = file_line stem (link_text why) }) sound refl (inr (record {
          items = items;
          read = read;
          fails = record { link = found.link; of_input = found.of_input; text = link_text why; refused = ap (option_map link_text) is; told = refl };
        }))

line_read : (contents : Contents) (line : ModLine) (calls : List Call) (items : List Item) → AreSound contents calls → AreRead (asked_line line) calls items → LineEnds contents line
line_read contents (Take file) calls items sound read = taken_line contents file calls items sound read
line_read contents (Build stem def files) calls items sound read = built_line contents stem def files calls items sound read

line_ends : (contents : Contents) → HasBytes contents → (line : ModLine) → LineEnds contents line
line_ends contents h line = step (all_loaded contents h (asked_line line))
  where
    step : IsLoaded contents (asked_line line) → LineEnds contents line
    step (reads calls items sound read) = line_read contents line calls items sound read
    step (stopped calls said sound stop) = ends calls said sound (stopped_status contents (asked_line line) calls said sound stop) (inl stop)

-- ---- all module lines

data LinesEnd (contents : Contents) (lines : List ModLine) : Type 0 where
  given : (each : List (List Call)) (sources : List Source) → AreSound contents (together each) → AreDone lines each sources → LinesEnd contents lines
  halts : (calls : List Call) (said : Said) → AreSound contents calls → said.status ≡ 1 → IsStoppedLine lines calls said → LinesEnd contents lines

lines_end : (contents : Contents) → HasBytes contents → (lines : List ModLine) → LinesEnd contents lines
lines_end contents h [] = given [] [] tt tt
lines_end contents h (line ∷ lines) = step (line_ends contents h line) (lines_end contents h lines)
  where
    step : LineEnds contents line → LinesEnd contents lines → LinesEnd contents (line ∷ lines)
    step (ends calls said sound status stop) rest =
        halts calls said sound status (record {
          before = [];
          here = line;
          after = lines;
          are = refl;
          earlier = [];
          sources = [];
          done = tt;
          own = calls;
          stopped = stop;
          calls_are = refl;
        })
    step (done calls source sound it) (given each sources others all) =
        given (calls ∷ each) (source ∷ sources) (sound_both contents calls (together each) sound others) (it, all)
    step (done calls source sound it) (halts later said others status stop) =
        halts (calls ++ later) said (sound_both contents calls later sound others) status (record {
          before = line ∷ stop.before;
          here = stop.here;
          after = stop.after;
          are = ap (λ ls. line ∷ ls) stop.are;
          earlier = calls ∷ stop.earlier;
          sources = source ∷ stop.sources;
          done = (it, stop.done);
          own = stop.own;
          stopped = stop.stopped;
          calls_are = ap (λ cs. calls ++ cs) stop.calls_are ∙ sym (append_assoc calls (together stop.earlier) stop.own);
        })

-- ---- the session

fits_place : (c : Command) → IsCommand c → FitsPlace c
fits_place (commands.Write at bytes) h = h.fit
fits_place (commands.Debug at bytes) h = h.fit
fits_place (commands.Start name) h = tt
fits_place (commands.Load name) h = tt
fits_place (commands.Free name) h = tt
fits_place (commands.Touch at) h = tt
fits_place (commands.Peek at) h = tt
fits_place (commands.Shared at) h = tt
fits_place (commands.Query name key) h = tt
fits_place (commands.GetRes name ty id) h = tt
fits_place commands.Exit h = tt

record SessionEnds (contents : Contents) (s : Session) : Type 0 where
  calls : List Call
  sound : AreSound contents calls
  said : Said
  ran : Option Run
  says : SaysSession s calls said ran
  status : (said.status ≡ 0) ⊎ (said.status ≡ 1)

session_ends : ScriptsHaveARun → (contents : Contents) → HasBytes contents → (s : Session) → IsSession s → SessionEnds contents s
session_ends have contents h s bounded = step (lines_end contents h s.modules)
  where
    gathered : (each : List (List Call)) (sources : List Source) → AreSound contents (together each) → AreDone s.modules each sources →
        (o : Option LibraryRefusal) → LibraryFault (library_of sources) ≡ o → SessionEnds contents s
    gathered each sources sound all (Some why) is = record {
      calls = together each;
      sound = sound;
      said = record { status = 1; text = file_line (codes "session") (library_text why) };
      ran = None;
      says = inr (record { sources = sources; given = record { each = each; done = all; calls_are = refl }; why = why; fault = is; told = refl });
      status = inr refl;
    }
    gathered each sources sound all None is =
        let run = have (library_of sources) (failing_pairs (library_of sources) s) (held sources) s.scripts bounded.few
        (all_weaker IsScript (λ (x : Script). AllByRecursion FitsPlace x.commands) (λ x it. all_weaker IsCommand FitsPlace fits_place x.commands it.commands) s.scripts bounded.scripts)
        in
        record {
          calls = together each;
          sound = sound;
          said = record { status = 0; text = run_text (library_of sources) run.0 };
          ran = Some run.0;
          says = record { sources = sources; given = record { each = each; done = all; calls_are = refl }; fine = is; runs = run.1; told = refl };
          status = inl refl;
        }

    step : LinesEnd contents s.modules → SessionEnds contents s
    step (given each sources sound all) = gathered each sources sound all (LibraryFault (library_of sources)) refl
    step (halts calls said sound status stop) = record { calls = calls; sound = sound; said = said; ran = None; says = inl stop; status = inr status }

-- ---- the whole command

record SessionRead (i : Item) : Type 0 where
  session_is : Session
  item : i ≡ session session_is
  bounded : IsSession session_is

session_read : SessionsAreBounded → (a : Asked) (file : List ℕ) (r : Result (List ℕ) LoadFault) (i : Item) → a ≡ asked_session file → ReadsAnswer a r i → SessionRead i
session_read bounds a file (Ok bytes) (session s) is h =
    let read : ReadsAnswer (asked_session file) (Ok bytes) (session s) = subst (λ x. ReadsAnswer x (Ok bytes) (session s)) is h in
    record { session_is = s; item = refl; bounded = bounds bytes s read.1 }
session_read bounds a file (Ok bytes) i is h = absurd (subst (λ x. ReadsAnswer x (Ok bytes) i) is h).1
session_read bounds a file (Err f) i is h = absurd h

one_session : ScriptsHaveARun → SessionsAreBounded → (contents : Contents) → HasBytes contents → (file : List ℕ) (calls : List Call) (items : List Item) → AreSound contents calls →
    AreRead (asked_session file ∷ []) calls items → RunIsAnswered file contents
one_session have bounds contents h file (c ∷ []) (i ∷ []) sound read =
    let answer = load_read (asked_session file) c i read.0 in
    let s = session_read bounds (asked_session file) file answer.0 i refl answer.1 in
    let it = session_ends have contents h s.session_is s.bounded in
    record {
      calls = c ∷ it.calls;
      sound = (sound.0, it.sound);
      said = it.said;
      ran = it.ran;
      says = inr (record {
        session_is = s.session_is;
        first = c;
        read = subst (λ (x : Item). IsRead (asked_session file) c x) s.item read.0;
        others = it.calls;
        says = it.says;
        calls_are = refl;
      });
      status = it.status;
    }
one_session have bounds contents h file (c ∷ d ∷ calls) (i ∷ []) sound read = absurd read.1
one_session have bounds contents h file (c ∷ []) (i ∷ j ∷ items) sound read = absurd read.1
one_session have bounds contents h file (c ∷ d ∷ calls) (i ∷ j ∷ items) sound read = absurd read.1
one_session have bounds contents h file [] items sound read = absurd read
one_session have bounds contents h file (c ∷ calls) [] sound read = absurd read

pub run_has_an_answer : ScriptsHaveARun → SessionsAreBounded → RunHasAnAnswer
run_has_an_answer have bounds file contents h = step (all_loaded contents h (asked_session file ∷ []))
  where
    step : IsLoaded contents (asked_session file ∷ []) → RunIsAnswered file contents
    step (reads calls items sound read) = one_session have bounds contents h file calls items sound read
    step (stopped calls said sound stop) = record {
      calls = calls;
      sound = sound;
      said = said;
      ran = None;
      says = inl (refl, stop);
      status = inr (stopped_status contents (asked_session file ∷ []) calls said sound stop);
    }
