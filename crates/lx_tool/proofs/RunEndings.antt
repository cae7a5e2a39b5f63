-- How a call with `run FILE` ends, from what was done, what was said and what was put.
use Rattle.std.proofs.Common.{◌≡◌, ℕ, true, ◌<◌, ◌≤◌, ◌⊎◌, List, [], ◌∷◌, Option, Some, None, Result, Ok, Err, ◌∙◌, sym, refl, subst, inl, inr, arith}
use Rattle.std.specs.Prelude.{IfSome, OnErr, OnOk}
use Rattle.std.specs.List.{AllByRecursion}
use Rattle.std.specs.Global.{Global}
use Rattle.std.specs.Option.{option_map}
use Rattle.std.specs.Io.KnownBytes.{Appends}
use Rattle.std.specs.declared.sync.Arc.{Arc}
use Rattle.lx_types.specs.declared.fail.NoMemory.{NoMemory}
use Rattle.lx_types.specs.declared.parts.Parts.{Parts}
use Rattle.lx_ports.specs.Calls.{Call, load, save, load_faults}
use Rattle.lx_ports.specs.Counts.{Rose}
use Rattle.lx_ports.specs.Files.{Contents, FilesState}
use Rattle.lx_ports.specs.Sinks.{SinkState}
use Rattle.lx_ports.specs.declared.sink.SinkFailed.{SinkFailed}
use Rattle.session_model.specs.Runs.{Run}
use Rattle.run_core.specs.declared.session.Ran.{Ran}
use Rattle.run_core.specs.Sessions.{run_in}
use Rattle.answer_model.specs.declared.said.Said.{Said}
use Rattle.refusal_text.specs.declared.refused.Refused.{Refused}
use Rattle.answer_model.specs.Answer.{IsSound}
use Rattle.answer_model.specs.Ends.{AppendsPart, IsTold, save_faults}
use Rattle.answer_model.specs.RunAnswer.{SaysRun, asked_lines, asked_session, run_of}
use Rattle.answer_model.specs.RunEnds.{AreCallsOfRun, EndsBy, IsPutByRun, MainEnds, RunEnds}
use Rattle.tool_read.specs.Steps.{AreLoads}
use Rattle.lx_tool.specs.declared.main_call.Ended.{Ended}
use Rattle.lx_tool.specs.declared.run.SessionEnd.{SessionEnd}
use Rattle.file_commands.specs.declared.told.Told.{Told}
use Rattle.file_commands.specs.Telling.{TellsOf, is_plain}
use Rattle.std.proofs.lemmas.Bool.Decides.{eqb_tells}
use Rattle.lx_tool.specs.declared.run.SessionEnd.TheVariants as end
use Rattle.lx_tool.specs.Running.{DoesRun, IsPutInPart, IsPutWhole, Puts, PutsEnd, SaysEnd, ShowsRun, ShowsSession, Tells, ran_of, end_said}
use Rattle.file_commands.proofs.Begun.{IsPlain, IsLoad, begun_loads, load_of}
use Rattle.lx_tool.proofs.SessionSays.{SessionSays, session_says}
use Rattle.lx_tool.proofs.Sound.{sound_all}

-- ---- the calls are loads

calls_are_loads : (file : List ℕ) (calls : List Call) → AreCallsOfRun file calls → AllByRecursion IsLoad calls
calls_are_loads file [] named = tt
calls_are_loads file (call ∷ []) named = (load_of (asked_session file) call _ named, tt)
calls_are_loads file (call ∷ next ∷ calls) named = (load_of (asked_session file) call _ named.1, begun_loads (asked_lines named.0.modules) (next ∷ calls) named.2)

no_save_fails : (calls : List Call) → AllByRecursion IsLoad calls → save_faults calls ≡ 0
no_save_fails [] are = refl
no_save_fails (load name answer ∷ calls) are = no_save_fails calls are.1
no_save_fails (save name bytes answer ∷ calls) are = absurd are.0

-- ---- over told files

sound_if : (told : Option Contents) (file : List ℕ) (calls : List Call) (out out_now : SinkState) (status : ℕ) (ran : Option Run) → IfSome told (λ contents. AllByRecursion (IsTold contents) calls)
    → AreCallsOfRun file calls → AllByRecursion IsPlain calls → load_faults calls ≡ 0 → IsPutByRun file calls out out_now status ran
    → IfSome told (λ contents. (status ≡ 8) ⊎ AllByRecursion (IsSound contents) calls × IsPutByRun file calls out out_now status ran)
sound_if None file calls out out_now status ran are named plain loads put = tt
sound_if (Some contents) file calls out out_now status ran are named plain loads put =
    inr (sound_all contents calls are plain loads (no_save_fails calls (calls_are_loads file calls named)), put)

no_memory_told : (told : Option Contents) (file : List ℕ) (calls : List Call) (out out_now : SinkState)
    → IfSome told (λ contents. (◌≡◌ {A = ℕ} 8 8) ⊎ AllByRecursion (IsSound contents) calls × IsPutByRun file calls out out_now 8 None)
no_memory_told None file calls out out_now = tt
no_memory_told (Some contents) file calls out out_now = inl refl

-- ---- the end

not_two : (calls : List Call) (said : Said) (ran : Option Run) → SessionSays calls said ran → (said.status ≤ 3) × (said.status ≡ 2 → ⊥)
not_two calls said ran is =
    elim is.status [
      | inl zero ↦ let n = zero.0 in (omega (arith, n), λ two. omega (arith, n, two))
      | inr low ↦ elim low.0 [
        | inl n ↦ (omega (arith, n), λ two. omega (arith, n, two))
        | inr three ↦ let n = three.0 in (omega (arith, n), λ two. omega (arith, n, two))
      ]
    ]

three_faults : (calls : List Call) (said : Said) (ran : Option Run) → SessionSays calls said ran → said.status ≡ 3 → 0 < load_faults calls
three_faults calls said ran is same =
    elim is.status [
      | inl zero ↦ let n = zero.0 in absurd (omega (arith, n, same))
      | inr low ↦ elim low.0 [ inl n ↦ absurd (omega (arith, n, same)) | inr three ↦ three.1 ]
    ]

module _ (file : List ℕ) (files files_now : FilesState) (out out_now : SinkState) (calls : List Call) (loads : AreLoads calls files files_now) (named : AreCallsOfRun file calls) where
  pub whole_ends : (said : Said) (ran : Option Run) → SaysRun file calls said ran → Appends out.contents out_now.contents said.text → RunEnds file files files_now out out_now said.status ran
  whole_ends said ran says put =
      let facts = session_says file calls said ran says in
      let low = not_two calls said ran facts in
      let few = low.0 in
      let whole : IsPutByRun file calls out out_now said.status ran = record { text = said.text; says = says; put = put } in
      record {
        known = inl (omega (arith, few));
        usage = low.1;
        calls = calls;
        had = loads.files;
        named = named;
        told = loads.told;
        whole = λ _. whole;
        read_failed = three_faults calls said ran facts;
        write_failed = λ four. absurd (omega (arith, four, few));
        nothing = λ eight. absurd (omega (arith, eight, few));
        complete = λ none well. sound_if files.contents file calls out out_now said.status ran loads.told named facts.plain none whole;
      }

  pub part_ends : (said : Said) (ran : Option Run) → SaysRun file calls said ran → AppendsPart out.contents out_now.contents said.text → Rose out.faults out_now.faults
      → RunEnds file files files_now out out_now 4 ran
  part_ends said ran says part rose = record {
    known = inl (omega arith);
    usage = λ is. omega (arith, is);
    calls = calls;
    had = loads.files;
    named = named;
    told = loads.told;
    whole = λ is. absurd (omega (arith, is));
    read_failed = λ is. absurd (omega (arith, is));
    write_failed = λ _. record { said = said; says = says; part = part; failed = rose };
    nothing = λ is. absurd (omega (arith, is));
    complete = λ none well. absurd (well rose);
  }

  pub unended : out_now.contents ≡ out.contents → RunEnds file files files_now out out_now 8 None
  unended same = record {
    known = inr refl;
    usage = λ is. omega (arith, is);
    calls = calls;
    had = loads.files;
    named = named;
    told = loads.told;
    whole = λ is. absurd (omega (arith, is));
    read_failed = λ is. absurd (omega (arith, is));
    write_failed = λ is. absurd (omega (arith, is));
    nothing = λ _. (same, refl);
    complete = λ none well. no_memory_told files.contents file calls out out_now;
  }

-- ---- what it comes to

says_end : (file : List ℕ) (calls : List Call) (it : SessionEnd) → SaysEnd file calls it → SaysRun file calls (end_said it) (option_map run_in (ran_of it))
says_end file calls (end.Refused told) says = says
says_end file calls (end.Ran ran library) says = inr says.through

pub ends_by : (file : List ℕ) (files files_now : FilesState) (out out_now : SinkState) (it : SessionEnd) (ended : Ended) → DoesRun file files files_now (Ok it) → PutsEnd it out out_now ended
    → RunEnds file files files_now out out_now ended.status (option_map run_in ended.ran)
ends_by file files files_now out out_now it ended does puts =
    let says = says_end file does.calls it does.says in
    let P : Option Ran → Type 0 = λ ran. RunEnds file files files_now out out_now ended.status (option_map run_in ran) in
    let Q : ℕ → Type 0 = λ status. RunEnds file files files_now out out_now status (option_map run_in (ran_of it)) in
    subst P (sym puts.ran_is) (elim puts.put [
      | inl whole ↦ subst Q (sym whole.status_is) (whole_ends file files files_now out out_now does.calls does.loads does.named (end_said it) _ says whole.put)
      | inr part ↦ subst Q (sym part.status_is) (part_ends file files files_now out out_now does.calls does.loads does.named (end_said it) _ says part.part part.failed)
    ])

pub ends_unrun : (file : List ℕ) (files files_now : FilesState) (out : SinkState) (why : NoMemory) → DoesRun file files files_now (Err why) → RunEnds file files files_now out out 8 None
ends_unrun file files files_now out why does = unended file files files_now out out does.calls does.loads does.named refl

-- ---- what is shown

low_status : (calls : List Call) (said : Said) (ran : Option Run) → SessionSays calls said ran → ran ≡ None → said.status ≡ 0 → ⊥
low_status calls said ran is none zero =
    elim is.status [
      | inl some ↦ some.1 none
      | inr low ↦ elim low.0 [ inl n ↦ omega (arith, n, zero) | inr three ↦ let n = three.0 in omega (arith, n, zero) ]
    ]

shows_refused : (file : List ℕ) (calls : List Call) (said : Said) (out out_now : SinkState) (ended : Ended) → SaysRun file calls said None
    → IsPutWhole said out out_now ended.status ⊎ IsPutInPart said out out_now ended.status → ShowsSession out out_now (record ended { ran = None })
shows_refused file calls said out out_now ended says put = record {
  whole = λ zero. elim put [
    | inl whole ↦ low_status calls said None (session_says file calls said None says) refl (sym whole.status_is ∙ zero)
    | inr part ↦ let four = part.status_is in absurd (omega (arith, four, zero))
  ];
  part = λ four. tt;
  nothing = λ one two. refl;
}

shows_ran : (ran : Ran) (out out_now : SinkState) (ended : Ended) → IsPutWhole (record { status = 0; text = ran.text }) out out_now ended.status ⊎ IsPutInPart (record { status = 0; text = ran.text }) out out_now ended.status
    → ShowsSession out out_now (record ended { ran = Some ran })
shows_ran ran out out_now ended (inl whole) = record {
  whole = λ zero. whole.put;
  part = λ four. let zero = whole.status_is in absurd (omega (arith, four, zero));
  nothing = λ one two. absurd (one whole.status_is);
}
shows_ran ran out out_now ended (inr part) = record {
  whole = λ zero. let four = part.status_is in absurd (omega (arith, four, zero));
  part = λ four. part.part;
  nothing = λ one two. absurd (two part.status_is);
}

shows_end : (file : List ℕ) (calls : List Call) (it : SessionEnd) (out out_now : SinkState) (ended : Ended) → SaysEnd file calls it
    → IsPutWhole (end_said it) out out_now ended.status ⊎ IsPutInPart (end_said it) out out_now ended.status → ShowsSession out out_now (record ended { ran = ran_of it })
shows_end file calls (end.Refused told) out out_now ended says put = shows_refused file calls told.said out out_now ended says put
shows_end file calls (end.Ran ran library) out out_now ended says put = shows_ran ran out out_now ended put

pub shows_by : (file : List ℕ) (files files_now : FilesState) (out out_now : SinkState) (it : SessionEnd) (ended : Ended) → DoesRun file files files_now (Ok it) → PutsEnd it out out_now ended
    → ShowsSession out out_now ended
shows_by file files files_now out out_now it ended does puts =
    let P : Option Ran → Type 0 = λ ran. ShowsSession out out_now (record ended { ran = ran }) in
    subst P (sym puts.ran_is) (shows_end file does.calls it out out_now ended does.says puts.put)

pub shows_unrun : (out : SinkState) → ShowsSession out out (record { status = 8; refused = None; mapped = None; ran = None; library = None })
shows_unrun out = record {
  whole = λ is. absurd (omega (arith, is));
  part = λ is. tt;
  nothing = λ one two. refl;
}

-- ---- what is put

pub puts : (said : Said) (out out_now : SinkState) (put : Result (Unit {0}) SinkFailed) (status : ℕ) → OnOk put (status ≡ said.status) → OnErr put (status ≡ 4)
    → OnOk put (Appends out.contents out_now.contents said.text) → OnErr put (AppendsPart out.contents out_now.contents said.text) → OnErr put (Rose out.faults out_now.faults)
    → Puts said out out_now status
puts said out out_now (Ok done) status well four whole part rose = inl (record { status_is = well; put = whole })
puts said out out_now (Err why) status well four whole part rose = inr (record { status_is = four; part = part; failed = rose })

-- What is no refusal has the status 0 or 2.
plain_status : (said : Said) → is_plain said ≡ true → (said.status ≡ 0) ⊎ (said.status ≡ 2)
plain_status said is = elim (eqb_tells said.status 0) [
  | inl zero ↦ inl zero.1
  | inr some ↦ elim (eqb_tells said.status 2) [
    | inl two ↦ inr two.1
    | inr other ↦ let a = some.0 in let b = other.0 in absurd (grind (arith, is, a, b))
  ]
]

put_plain : (said : Said) (out out_now : SinkState) (status : ℕ) → (said.status ≡ 0) ⊎ (said.status ≡ 2) → Puts said out out_now status → Tells None out out_now status
put_plain said out out_now status (inl zero) (inl whole) = let n = whole.status_is in inl (n ∙ zero)
put_plain said out out_now status (inr two) (inl whole) = let n = whole.status_is in inr (inl (n ∙ two))
put_plain said out out_now status is (inr part) = inr (inr (inl part.status_is))

-- What was said is the text of what was refused.
pub tells_of : (refused : Option Refused) (said : Said) (out out_now : SinkState) (status : ℕ) → TellsOf refused said → Puts said out out_now status → Tells refused out out_now status
tells_of (Some refused) said out out_now status is put = subst (λ (s : Said). Puts s out out_now status) is put
tells_of None said out out_now status is put = put_plain said out out_now status (plain_status said is) put

pub puts_refused : (it : SessionEnd) (told : Told) (out out_now : SinkState) (status : ℕ) (refused : Option Refused) → it ≡ end.Refused told → Puts told.said out out_now status
    → PutsEnd it out out_now (record { status = status; refused = refused; mapped = None; ran = None; library = None })
puts_refused it told out out_now status refused is put =
    let P : SessionEnd → Type 0 = λ e. PutsEnd e out out_now (record { status = status; refused = refused; mapped = None; ran = None; library = None }) in
    subst P (sym is) (record { ran_is = refl; put = put })

pub puts_ran : (it : SessionEnd) (ran : Ran) (library : Arc (List Parts) Global) (out out_now : SinkState) (text : List ℕ) (status : ℕ) → it ≡ end.Ran ran library → text ≡ ran.text → Puts (record { status = 0; text = text }) out out_now status
    → PutsEnd it out out_now (record { status = status; refused = None; mapped = None; ran = Some ran; library = Some library })
puts_ran it ran library out out_now text status is same put =
    let P : SessionEnd → Type 0 = λ e. PutsEnd e out out_now (record { status = status; refused = None; mapped = None; ran = Some ran; library = Some library }) in
    subst P (sym is) (record { ran_is = refl; put = subst (λ (t : List ℕ). Puts (record { status = 0; text = t }) out out_now status) same put })

-- ---- the words

pub main_ends : (words : List (List ℕ)) (file : List ℕ) (files files_now : FilesState) (out out_now : SinkState) (status : ℕ) (ran : Option Run) → Some file ≡ run_of words
    → RunEnds file files files_now out out_now status ran → MainEnds words files files_now out out_now status ran
main_ends words file files files_now out out_now status ran named ends =
    let P : Option (List ℕ) → Type 0 = λ n. EndsBy n words files files_now out out_now status ran in
    subst P named ends

pub main_shows : (words : List (List ℕ)) (file : List ℕ) (out out_now : SinkState) (ended : Ended) → Some file ≡ run_of words → ShowsSession out out_now ended → ShowsRun (run_of words) out out_now ended
main_shows words file out out_now ended named shows =
    let P : Option (List ℕ) → Type 0 = λ n. ShowsRun n out out_now ended in
    subst P named shows
