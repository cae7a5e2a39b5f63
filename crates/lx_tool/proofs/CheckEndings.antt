-- How a call with `check FILE TRANSCRIPT` ends, from what was done, what was said and what was put.
use Rattle.std.proofs.Common.{◌≡◌, ◌⊎◌, inl, inr, ℕ, ◌<◌, ◌≤◌, List, [], ◌∷◌, ◌++◌, Option, Some, None, Ok, Err, refl, sym, ap, subst, arith}
use Rattle.std.specs.Prelude.{IfSome}
use Rattle.std.specs.List.{AllByRecursion}
use Rattle.std.specs.Io.KnownBytes.{Appends}
use Rattle.lx_types.specs.declared.fail.NoMemory.{NoMemory}
use Rattle.lx_ports.specs.Calls.{Call, load, save, load_faults}
use Rattle.lx_ports.specs.Counts.{Rose}
use Rattle.lx_ports.specs.Files.{Contents, FilesState}
use Rattle.lx_ports.specs.Sinks.{SinkState}
use Rattle.answer_model.specs.Answer.{IsSound}
use Rattle.check_model.specs.Checks.{Judge}
use Rattle.answer_model.specs.CheckAnswer.{Accepts, CheckWords, IsCheck, IsJudged, Refuses, SaysCheck, asked_transcript, check_of, judge_of}
use Rattle.answer_model.specs.CheckEnds.{AreCallsOfCheck, CheckEnds, IsPutByCheck}
use Rattle.answer_model.specs.Ends.{AppendsPart, IsTold, save_faults}
use Rattle.answer_model.specs.Items.{raw, session}
use Rattle.answer_model.specs.Loading.{IsRefused}
use Rattle.answer_model.specs.RunAnswer.{asked_lines, asked_session}
use Rattle.answer_model.specs.RunEnds.{EndsUnrun}
use Rattle.answer_model.specs.declared.said.Said.{Said}
use Rattle.tool_read.specs.Steps.{AreLoads}
use Rattle.file_commands.specs.declared.told.Told.{Told}
use Rattle.lx_tool.specs.Checking.{DoesCheck}
use Rattle.lx_tool.specs.Running.{Puts}
use Rattle.file_commands.proofs.Begun.{IsLoad, IsPlain, begun_loads, load_of, one_plain, plain_joined, plain_refused}
use Rattle.lx_tool.proofs.SessionSays.{IsLow, after, given_plain, refused_says}
use Rattle.lx_tool.proofs.Sound.{sound_all}
use Rattle.lx_tool.proofs.Statuses.{one_failed}

-- ---- the calls are loads

calls_are_loads : (words : CheckWords) (calls : List Call) → AreCallsOfCheck words calls → AllByRecursion IsLoad calls
calls_are_loads words [] named = tt
calls_are_loads words (call ∷ []) named = (load_of (asked_session words.session) call _ named, tt)
calls_are_loads words (call ∷ next ∷ calls) named =
    (load_of (asked_session words.session) call _ named.1, begun_loads (asked_lines named.0.modules ++ asked_transcript words.transcript ∷ []) (next ∷ calls) named.2)

no_save_fails : (calls : List Call) → AllByRecursion IsLoad calls → save_faults calls ≡ 0
no_save_fails [] are = refl
no_save_fails (load name answer ∷ calls) are = no_save_fails calls are.1
no_save_fails (save name bytes answer ∷ calls) are = absurd are.0

-- ---- what the statuses say

-- It is said with 0, with 1, or with 3 where a load has failed, and no load found no memory.
record CheckSays (calls : List Call) (said : Said) : Type 0 where
  status : (said.status ≡ 0) ⊎ IsLow calls said
  plain : AllByRecursion IsPlain calls

abbrev SaysLast : CheckWords → Judge → Call → Said → Type 0
SaysLast words j last said = IsRefused (asked_transcript words.transcript) last said ⊎ IsJudged j words.transcript last said

last_says : (words : CheckWords) (j : Judge) (last : Call) (said : Said) → SaysLast words j last said → CheckSays (last ∷ []) said
last_says words j last said (inl refused) =
    record { status = inr (one_failed (asked_transcript words.transcript) last said refused); plain = (plain_refused (asked_transcript words.transcript) last said refused, tt) }
last_says words j last said (inr is) = record { status = by is.judged; plain = (one_plain (asked_transcript words.transcript) last (raw is.bytes) is.read, tt) }
  where
    by : Accepts j is.bytes said ⊎ Refuses j words.transcript is.bytes said → (said.status ≡ 0) ⊎ IsLow (last ∷ []) said
    by (inl well) = inl (ap (λ (s : Said). s.status) well.line)
    by (inr ill) = inr (inl (ap (λ (s : Said). s.status) ill.told))

judged_says : (words : CheckWords) (calls : List Call) (said : Said) → IsCheck words calls said → CheckSays calls said
judged_says words calls said is =
    let last = last_says words (judge_of is.session_is is.sources) is.last said is.says in
    let earlier : AllByRecursion IsPlain (is.first ∷ is.others) =
    (one_plain (asked_session words.session) is.first (session is.session_is) is.read, given_plain is.session_is.modules is.others is.sources is.given) in
    subst (λ (cs : List Call). CheckSays cs said) (sym is.calls_are)
    (record {
      status = elim last.status [ inl zero ↦ inl zero | inr low ↦ inr (after (is.first ∷ is.others) (is.last ∷ []) said low) ];
      plain = plain_joined (is.first ∷ is.others) (is.last ∷ []) earlier last.plain;
    })

check_says : (words : CheckWords) (calls : List Call) (said : Said) → SaysCheck words calls said → CheckSays calls said
check_says words calls said (inl refused) = let is = refused_says words.session calls said refused in record { status = inr is.low; plain = is.plain }
check_says words calls said (inr is) = judged_says words calls said is

low_status : (calls : List Call) (said : Said) → CheckSays calls said → (said.status ≤ 3) × (said.status ≡ 2 → ⊥)
low_status calls said is =
    elim is.status [
      | inl zero ↦ (omega (arith, zero), λ two. omega (arith, zero, two))
      | inr low ↦ elim low [
        | inl n ↦ (omega (arith, n), λ two. omega (arith, n, two))
        | inr three ↦ let n = three.0 in (omega (arith, n), λ two. omega (arith, n, two))
      ]
    ]

three_faults : (calls : List Call) (said : Said) → CheckSays calls said → said.status ≡ 3 → 0 < load_faults calls
three_faults calls said is same =
    elim is.status [
      | inl zero ↦ absurd (omega (arith, zero, same))
      | inr low ↦ elim low [ inl n ↦ absurd (omega (arith, n, same)) | inr three ↦ three.1 ]
    ]

-- ---- over told files

sound_if : (told : Option Contents) (words : CheckWords) (calls : List Call) (out out_now : SinkState) (status : ℕ) → IfSome told (λ contents. AllByRecursion (IsTold contents) calls)
    → AreCallsOfCheck words calls → AllByRecursion IsPlain calls → load_faults calls ≡ 0 → IsPutByCheck words calls out out_now status
    → IfSome told (λ contents. (status ≡ 8) ⊎ AllByRecursion (IsSound contents) calls × IsPutByCheck words calls out out_now status)
sound_if None words calls out out_now status are named plain loads put = tt
sound_if (Some contents) words calls out out_now status are named plain loads put =
    inr (sound_all contents calls are plain loads (no_save_fails calls (calls_are_loads words calls named)), put)

no_memory_told : (told : Option Contents) (words : CheckWords) (calls : List Call) (out out_now : SinkState)
    → IfSome told (λ contents. (◌≡◌ {A = ℕ} 8 8) ⊎ AllByRecursion (IsSound contents) calls × IsPutByCheck words calls out out_now 8)
no_memory_told None words calls out out_now = tt
no_memory_told (Some contents) words calls out out_now = inl refl

-- ---- the end

module _ (words : CheckWords) (files files_now : FilesState) (out out_now : SinkState) (calls : List Call) (loads : AreLoads calls files files_now) (named : AreCallsOfCheck words calls) where
  whole_ends : (said : Said) → SaysCheck words calls said → Appends out.contents out_now.contents said.text → CheckEnds words files files_now out out_now said.status
  whole_ends said says put =
      let facts = check_says words calls said says in
      let low = low_status calls said facts in
      let few = low.0 in
      let whole : IsPutByCheck words calls out out_now said.status = record { text = said.text; says = says; put = put } in
      record {
        known = inl (omega (arith, few));
        usage = low.1;
        calls = calls;
        had = loads.files;
        named = named;
        told = loads.told;
        whole = λ _. whole;
        read_failed = three_faults calls said facts;
        write_failed = λ four. absurd (omega (arith, four, few));
        nothing = λ eight. absurd (omega (arith, eight, few));
        complete = λ none well. sound_if files.contents words calls out out_now said.status loads.told named facts.plain none whole;
      }

  part_ends : (said : Said) → SaysCheck words calls said → AppendsPart out.contents out_now.contents said.text → Rose out.faults out_now.faults → CheckEnds words files files_now out out_now 4
  part_ends said says part rose = record {
    known = inl (omega arith);
    usage = λ is. omega (arith, is);
    calls = calls;
    had = loads.files;
    named = named;
    told = loads.told;
    whole = λ is. absurd (omega (arith, is));
    read_failed = λ is. absurd (omega (arith, is));
    write_failed = λ _. record { said = said; says = says; part = part; failed = rose };
    nothing = λ is. absurd (omega (arith, is));
    complete = λ none well. absurd (well rose);
  }

  unended : out_now.contents ≡ out.contents → CheckEnds words files files_now out out_now 8
  unended same = record {
    known = inr refl;
    usage = λ is. omega (arith, is);
    calls = calls;
    had = loads.files;
    named = named;
    told = loads.told;
    whole = λ is. absurd (omega (arith, is));
    read_failed = λ is. absurd (omega (arith, is));
    write_failed = λ is. absurd (omega (arith, is));
    nothing = λ _. same;
    complete = λ none well. no_memory_told files.contents words calls out out_now;
  }

-- ---- what it comes to

ends_check : (words : CheckWords) (files files_now : FilesState) (out out_now : SinkState) (told : Told) (status : ℕ) → DoesCheck words files files_now (Ok told) → Puts told.said out out_now status →
    CheckEnds words files files_now out out_now status
ends_check words files files_now out out_now told status does (inl whole) =
    subst (λ (n : ℕ). CheckEnds words files files_now out out_now n) (sym whole.status_is)
    (whole_ends words files files_now out out_now does.calls does.loads does.named told.said does.says whole.put)
ends_check words files files_now out out_now told status does (inr part) =
    subst (λ (n : ℕ). CheckEnds words files files_now out out_now n) (sym part.status_is)
    (part_ends words files files_now out out_now does.calls does.loads does.named told.said does.says part.part part.failed)

-- ---- the words

module _ (all : List (List ℕ)) (words : CheckWords) (files files_now : FilesState) (out : SinkState) (named : Some words ≡ check_of all) where
  pub unrun_ends : (out_now : SinkState) (told : Told) (status : ℕ) → DoesCheck words files files_now (Ok told) → Puts told.said out out_now status →
      EndsUnrun (check_of all) all files files_now out out_now status
  unrun_ends out_now told status does puts =
      subst (λ (o : Option CheckWords). EndsUnrun o all files files_now out out_now status) named (ends_check words files files_now out out_now told status does puts)

  pub unrun_unended : (why : NoMemory) → DoesCheck words files files_now (Err why) → EndsUnrun (check_of all) all files files_now out out 8
  unrun_unended why does =
      subst (λ (o : Option CheckWords). EndsUnrun o all files files_now out out 8) named (unended words files files_now out out does.calls does.loads does.named refl)
