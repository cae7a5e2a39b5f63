-- What is said of a session and a transcript, from what the steps answer.
use Rattle.std.proofs.Common.{◌≡◌, inl, inr, ℕ, List, [], ◌∷◌, ◌++◌, codes, Result, Ok, Err, refl, sym, ◌∙◌, ap, subst, append-nil}
use Rattle.std.specs.Prelude.{IfOk, IsErrAnd}
use Rattle.lx_types.specs.declared.fail.Fail.{Fail}
use Rattle.lx_types.specs.declared.fail.Fail.TheVariants as fail
use Rattle.lx_types.specs.declared.fail.NoMemory.{NoMemory}
use Rattle.lx_types.specs.declared.parts.Parts.{Parts}
use Rattle.lx_ports.specs.Calls.{Call, load, save}
use Rattle.lx_ports.specs.Files.{FilesState}
use Rattle.lx_ports.specs.declared.files.LoadFault.{LoadFault}
use Rattle.lx_model.specs.declared.library.LibraryRefusal.{LibraryRefusal}
use Rattle.lx_model.specs.Gathering.{IsLibrary, LibraryFault}
use Rattle.mod_graph.specs.Gathering as gathering
use Rattle.session_model.specs.declared.sessions.ModLine.{ModLine}
use Rattle.session_model.specs.declared.sessions.Session.{Session}
use Rattle.session_model.specs.FailingPairs.{failing_pairs}
use Rattle.run_model.specs.Sources.{Source, library_of}
use Rattle.check_model.specs.declared.kinds.CheckFault.{CheckFault}
use Rattle.check_model.specs.declared.kinds.Counts.{Counts}
use Rattle.check_model.specs.Checks.{Judge, IsRefused as IsWrong}
use Rattle.check_laws.specs.ChecksByLinks.{ChecksByLinks, JudgeAlike}
use Rattle.check_session.specs.Checked as checked
use Rattle.answer_model.specs.AskedFiles.{Asked}
use Rattle.answer_model.specs.CheckAnswer.{CheckWords, SaysCheck, asked_transcript, check_text, judge_of, ok_line}
use Rattle.answer_model.specs.CheckEnds.{AreCallsOfCheck}
use Rattle.answer_model.specs.FileLine.{file_line}
use Rattle.answer_model.specs.Items.{Item, raw, session}
use Rattle.answer_model.specs.Loading.{AreBegun, AreRead, IsLoadWith, IsRead, ReadsAnswer, RefusesAnswer}
use Rattle.answer_model.specs.RunAnswer.{AreDone, AreGiven, asked_lines, asked_session, together}
use Rattle.answer_model.specs.RunEnds.{AreCallsOfRun}
use Rattle.answer_model.specs.RunLines.{asked_line}
use Rattle.answer_model.specs.SessionRefusals.{library_text}
use Rattle.answer_model.specs.declared.said.Said.{Said}
use Rattle.refusal_text.specs.declared.refused.Refused.{Refused}
use Rattle.tool_read.specs.Readings.{RefusedSo}
use Rattle.tool_read.proofs.Walk.{begun_joined, begun_wider, loads_joined, no_loads, one_load, read_joined}
use Rattle.session_files.specs.declared.reading.SessionFiles.{SessionFiles}
use Rattle.session_files.specs.SessionFiles.{AreSessionFiles, ReadsSession}
use Rattle.file_commands.specs.declared.told.Told.{Told}
use Rattle.lx_tool.specs.Checking.{DoesCheck, JudgesAs, JudgesFile, JudgesLoad, JudgesRest}
use Rattle.file_commands.specs.Refusals.{Gives, RefusesBy, said_in}
use Rattle.lx_tool.proofs.Sessions.{ungathered_says, unread_says}

-- ---- what is said of a transcript

-- Nothing is wrong.
pub accepts : (j : Judge) (name bytes lent line : List ℕ) (counts : Counts) (said : Said) → lent ≡ bytes → checked.IsAcceptedWith j lent counts → line ≡ ok_line counts →
    said ≡ record { status = 0; text = line } → JudgesAs j name bytes said
accepts j name bytes lent line counts said same is line_is told =
    let of : checked.IsAcceptedWith j bytes counts = subst (λ (own : List ℕ). checked.IsAcceptedWith j own counts) same is in
    inl (record {
      told = of.it;
      accepted = of.accepted;
      line = told ∙ ap (λ (text : List ℕ). record { status = 0; text = text }) (line_is ∙ ap ok_line of.counts_are);
    })

-- This is wrong first.
pub refuses : (j : Judge) (name bytes lent : List ℕ) (fault : CheckFault) (said : Said) → lent ≡ bytes → IsWrong j lent fault.line fault.kind →
    said ≡ record { status = 1; text = file_line name (check_text fault) } → JudgesAs j name bytes said
refuses j name bytes lent fault said same is told =
    inr (record { fault = fault; wrong = subst (λ (own : List ℕ). IsWrong j own fault.line fault.kind) same is; told = told })

-- The transcript was loaded.
pub if_judged : (j : Judge) (name bytes : List ℕ) (answer : Result (List ℕ) LoadFault) (r : Result Told NoMemory) → ReadsAnswer (asked_transcript name) answer (raw bytes) →
    IfOk r (λ told. JudgesAs j name bytes told.said) → IfOk r (λ told. JudgesLoad j name (load name answer) told.said)
if_judged j name bytes answer (Ok told) reads is = inr (record { bytes = bytes; read = (refl, reads); judged = is })
if_judged j name bytes answer (Err why) reads is = tt

-- It was not.
pub if_unloaded : (j : Judge) (name : List ℕ) (answer : Result (List ℕ) LoadFault) (why : Fail Refused) (r : Result Told NoMemory) →
    RefusedSo (RefusesAnswer (asked_transcript name) answer) why → Gives why (said_in r) → IfOk r (λ told. JudgesLoad j name (load name answer) told.said)
if_unloaded j name answer (fail.Said own) (Ok told) is same = inl (refl, subst (RefusesAnswer (asked_transcript name) answer) (sym same) is)
if_unloaded j name answer fail.NoMemory (Ok told) is same = absurd same
if_unloaded j name answer why (Err none) is same = tt

-- ---- from the bytes of the files to those of the links

carried : (a b : Judge) (name : List ℕ) (call : Call) (said : Said) → JudgeAlike a b → JudgesLoad a name call said → JudgesLoad b name call said
carried a b name call said alike (inl refused) = inl refused
carried a b name call said alike (inr is) = inr (record { bytes = is.bytes; read = is.read; judged = by is.judged })
  where
    by : JudgesAs a name is.bytes said → JudgesAs b name is.bytes said
    by (inl well) = inl (record { told = well.told; accepted = (alike.accepted is.bytes well.told).0 well.accepted; line = well.line })
    by (inr ill) = inr (record { fault = ill.fault; wrong = (alike.refused is.bytes ill.fault.line ill.fault.kind).0 ill.wrong; told = ill.told })

-- ---- the calls

done_read : (lines : List ModLine) (each : List (List Call)) (sources : List Source) → AreDone lines each sources → (items : List Item) × AreRead (asked_lines lines) (together each) items
done_read [] [] [] are = ([], tt)
done_read [] [] (s ∷ sources) are = absurd are
done_read [] (own ∷ each) sources are = absurd are
done_read (line ∷ lines) [] sources are = absurd are
done_read (line ∷ lines) (own ∷ each) [] are = absurd are
done_read (line ∷ lines) (own ∷ each) (s ∷ sources) are =
    let more = done_read lines each sources are.1 in
    (are.0.items ++ more.0, read_joined (asked_line line) (asked_lines lines) own (together each) are.0.items more.0 are.0.read more.1)

given_read : (lines : List ModLine) (calls : List Call) (sources : List Source) → AreGiven lines calls sources → (items : List Item) × AreRead (asked_lines lines) calls items
given_read lines calls sources is =
    let all = done_read lines is.each sources is.done in
    (all.0, subst (λ (cs : List Call). AreRead (asked_lines lines) cs all.0) (sym is.calls_are) all.1)

just_loaded : (a : Asked) (call : Call) (item : Item) → IsRead a call item → IsLoadWith a call (λ answer. Unit {0})
just_loaded a (load name answer) item is = (is.0, tt)
just_loaded a (save name bytes answer) item is = absurd is

abbrev words_of : List ℕ → List ℕ → CheckWords
words_of file name = record { session = file; transcript = name }

named_all : (file name : List ℕ) (s : Session) (first : Call) (calls : List Call) → IsRead (asked_session file) first (session s) →
    AreBegun (asked_lines s.modules ++ asked_transcript name ∷ []) calls → AreCallsOfCheck (words_of file name) (first ∷ calls)
named_all file name s first [] read begun = just_loaded (asked_session file) first (session s) read
named_all file name s first (next ∷ calls) read begun = (s, read, begun)

named_run : (file name : List ℕ) (calls : List Call) → AreCallsOfRun file calls → AreCallsOfCheck (words_of file name) calls
named_run file name [] named = tt
named_run file name (call ∷ []) named = named
named_run file name (call ∷ next ∷ calls) named = (named.0, named.1, begun_wider (asked_lines named.0.modules) (asked_transcript name ∷ []) (next ∷ calls) named.2)

-- ---- a session that was read

module _ (file name : List ℕ) (calls : List Call) (it : SessionFiles) (is : AreSessionFiles file calls it) where
  named_more : (more : List Call) → AreBegun (asked_transcript name ∷ []) more → AreCallsOfCheck (words_of file name) (calls ++ more)
  named_more more begun =
      let read = given_read it.session.modules is.others is.sources is.given in
      subst (λ (cs : List Call). AreCallsOfCheck (words_of file name) (cs ++ more)) (sym is.calls_are)
      (named_all file name it.session is.first (is.others ++ more) is.read
      (begun_joined (asked_lines it.session.modules) (asked_transcript name ∷ []) is.others more read.0 read.1 begun))

  -- Its modules are a library, and the transcript was loaded.
  rest_says : ChecksByLinks → (lib : List Parts) → lib ≡ it.modules.items → IsLibrary lib → (call : Call) (said : Said) → JudgesLoad (checked.judge_of lib it.session) name call said →
      SaysCheck (words_of file name) (calls ++ call ∷ []) said
  rest_says by_links lib gathered library call said judged =
      let same : lib ≡ library_of is.sources = gathered ∙ is.modules in
      let whole : IsLibrary (library_of is.sources) = subst IsLibrary same library in
      let by_files : JudgesLoad (checked.judge_of (library_of is.sources) it.session) name call said =
      subst (λ (l : List Parts). JudgesLoad (checked.judge_of l it.session) name call said) same judged in
      let alike : JudgeAlike (checked.judge_of (library_of is.sources) it.session) (judge_of it.session is.sources) =
      by_links is.sources (failing_pairs (library_of is.sources) it.session) it.session.scripts is.sound whole in
      inr (record {
        session_is = it.session;
        first = is.first;
        read = is.read;
        others = is.others;
        sources = is.sources;
        given = is.given;
        fine = whole.faultless;
        last = call;
        says = carried (checked.judge_of (library_of is.sources) it.session) (judge_of it.session is.sources) name call said alike by_files;
        calls_are = ap (λ (cs : List Call). cs ++ call ∷ []) is.calls_are;
      })

  pub judged_rest : ChecksByLinks → (lib : List Parts) → lib ≡ it.modules.items → IsLibrary lib → (before now : FilesState) (r : Result Told NoMemory) →
      JudgesFile (checked.judge_of lib it.session) name before now r → JudgesRest file name calls before now r
  judged_rest by_links lib gathered library before now r judges = record {
    calls = load name judges.answer ∷ [];
    loads = one_load name judges.answer before now judges.one;
    named = named_more (load name judges.answer ∷ []) (refl, tt);
    says = by r judges.says;
  }
    where
      by : (q : Result Told NoMemory) → IfOk q (λ told. JudgesLoad (checked.judge_of lib it.session) name (load name judges.answer) told.said) →
          IfOk q (λ told. SaysCheck (words_of file name) (calls ++ load name judges.answer ∷ []) told.said)
      by (Ok told) says = rest_says by_links lib gathered library (load name judges.answer) told.said says
      by (Err why) says = tt

  -- There was no load after the session's.
  unloaded_rest : (state : FilesState) (r : Result Told NoMemory) → IfOk r (λ told. SaysCheck (words_of file name) calls told.said) → JudgesRest file name calls state state r
  unloaded_rest state r says = record { calls = []; loads = no_loads state; named = named_more [] tt; says = by r says }
    where
      by : (q : Result Told NoMemory) → IfOk q (λ told. SaysCheck (words_of file name) calls told.said) → IfOk q (λ told. SaysCheck (words_of file name) (calls ++ []) told.said)
      by (Ok told) of = subst (λ (cs : List Call). SaysCheck (words_of file name) cs told.said) (sym (append-nil calls)) of
      by (Err why) of = tt

  pub ungathered_rest : (state : FilesState) (why : Fail LibraryRefusal) (r : Result Told NoMemory) → gathering.IsRefused why (LibraryFault it.modules.items) →
      RefusesBy library_text (codes "session") why (said_in r) → JudgesRest file name calls state state r
  ungathered_rest state why r refused told = unloaded_rest state r (by r told)
    where
      by : (q : Result Told NoMemory) → RefusesBy library_text (codes "session") why (said_in q) → IfOk q (λ own. SaysCheck (words_of file name) calls own.said)
      by (Ok own) of = inl (ungathered_says file calls it is why own refused of)
      by (Err none) of = tt

  pub no_room_rest : (state : FilesState) (r : Result Told NoMemory) (P : NoMemory → Type 0) → IsErrAnd r P → JudgesRest file name calls state state r
  no_room_rest state (Ok told) P is = absurd is
  no_room_rest state (Err why) P is = unloaded_rest state (Err why) tt

-- ---- the whole command

pub does_rest : (words : CheckWords) (before between now : FilesState) (it : SessionFiles) (read : ReadsSession words.session before between (Ok it)) (r : Result Told NoMemory) →
    JudgesRest words.session words.transcript read.calls between now r → DoesCheck words before now r
does_rest words before between now it read r rest = record {
  calls = read.calls ++ rest.calls;
  loads = loads_joined read.calls rest.calls before between now read.loads rest.loads;
  named = rest.named;
  says = rest.says;
}

pub does_unread : (words : CheckWords) (before now : FilesState) (why : Fail Refused) (r : Result Told NoMemory) → ReadsSession words.session before now (Err why) → Gives why (said_in r) →
    DoesCheck words before now r
does_unread words before now why r read gives = record {
  calls = read.calls;
  loads = read.loads;
  named = named_run words.session words.transcript read.calls read.named;
  says = by r gives;
}
  where
    by : (q : Result Told NoMemory) → Gives why (said_in q) → IfOk q (λ told. SaysCheck words read.calls told.said)
    by (Ok told) of = inl (unread_says words.session read.calls why told read.answer of)
    by (Err none) of = tt
