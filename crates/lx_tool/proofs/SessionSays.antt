-- What the statuses of `run FILE` say of its calls.
use Rattle.std.proofs.Common.{◌≡◌, ℕ, ◌+◌, ◌<◌, ◌⊎◌, List, [], ◌∷◌, ◌++◌, Option, Some, None, ap, sym, subst, refl, inl, inr, arith}
use Rattle.std.specs.List.{AllByRecursion}
use Rattle.lx_ports.specs.Calls.{Call, load_faults, is_failed_load}
use Rattle.run_model.specs.Sources.{Source}
use Rattle.session_model.specs.declared.sessions.ModLine.{ModLine}
use Rattle.session_model.specs.declared.sessions.Session.{Session}
use Rattle.session_model.specs.Runs.{Run}
use Rattle.answer_model.specs.declared.said.Said.{Said}
use Rattle.answer_model.specs.Loading.{IsStopped}
use Rattle.answer_model.specs.AskedFiles.{Asked}
use Rattle.answer_model.specs.Items.{session}
use Rattle.answer_model.specs.RunAnswer.{AreDone, AreGiven, Fails, IsFailedLine, IsStoppedLine, IsThrough, IsUngathered, SaysRun, SaysSession, asked_session, together}
use Rattle.answer_model.specs.RunLines.{asked_line}
use Rattle.session_model.specs.declared.sessions.ModLine.TheVariants.{Take, Build}
use Rattle.lx_tool.proofs.Counts.{count-append}
use Rattle.file_commands.proofs.Begun.{IsPlain, plain_joined, read_plain, stopped_plain, one_plain}
use Rattle.lx_tool.proofs.Statuses.{one_failed}

-- ---- what is said of a session whose scripts do not run

-- 1, or 3 where a load has failed.
abbrev pub IsLow : List Call → Said → Type 0
IsLow calls said = (said.status ≡ 1) ⊎ ((said.status ≡ 3) × (0 < load_faults calls))

-- It is of a refused step, and no load found no memory.
pub record IsRefusal (calls : List Call) (said : Said) : Type 0 where
  pub low : IsLow calls said
  pub plain : AllByRecursion IsPlain calls

status_of : (one two : Said) → one ≡ two → one.status ≡ two.status
status_of one two same = ap (λ (s : Said). s.status) same

-- A load that has failed has failed also with calls before it.
pub after : (xs ys : List Call) (said : Said) → IsLow ys said → IsLow (xs ++ ys) said
after xs ys said (inl one) = inl one
after xs ys said (inr three) =
    let counted : load_faults (xs ++ ys) ≡ load_faults xs + load_faults ys = count-append is_failed_load xs ys in
    let some = three.1 in
    inr (three.0, omega (arith, counted, some))

stopped_low : (asked : List Asked) (calls : List Call) (said : Said) → IsStopped asked calls said → IsLow calls said
stopped_low asked calls said is =
    let P : List Call → Type 0 = λ cs. IsLow cs said in
    subst P (sym is.calls_are) (after is.earlier (is.call ∷ []) said (one_failed is.here is.call said is.refused))

fails_one : (line : ModLine) (items : List _) (said : Said) → Fails line items said → said.status ≡ 1
fails_one (Take file) items said is = absurd is
fails_one (Build stem def files) items said is = status_of _ _ is.told

done_plain : (lines : List ModLine) (each : List (List Call)) (sources : List Source) → AreDone lines each sources → AllByRecursion IsPlain (together each)
done_plain [] [] [] are = tt
done_plain [] [] (s ∷ ss) are = absurd are
done_plain [] (c ∷ cs) ss are = absurd are
done_plain (l ∷ ls) [] ss are = absurd are
done_plain (l ∷ ls) (c ∷ cs) [] are = absurd are
done_plain (l ∷ ls) (c ∷ cs) (s ∷ ss) are = plain_joined c (together cs) (read_plain (asked_line l) c are.0.items are.0.read) (done_plain ls cs ss are.1)

pub given_plain : (lines : List ModLine) (calls : List Call) (sources : List Source) → AreGiven lines calls sources → AllByRecursion IsPlain calls
given_plain lines calls sources is =
    let P : List Call → Type 0 = λ cs. AllByRecursion IsPlain cs in
    subst P (sym is.calls_are) (done_plain lines is.each sources is.done)

line_refused : (line : ModLine) (own : List Call) (said : Said) → IsStopped (asked_line line) own said ⊎ IsFailedLine line own said → IsRefusal own said
line_refused line own said (inl stopped) = record { low = stopped_low (asked_line line) own said stopped; plain = stopped_plain (asked_line line) own said stopped }
line_refused line own said (inr failed) = record { low = inl (fails_one line failed.items said failed.fails); plain = read_plain (asked_line line) own failed.items failed.read }

lines_refused : (lines : List ModLine) (calls : List Call) (said : Said) → IsStoppedLine lines calls said → IsRefusal calls said
lines_refused lines calls said is =
    let here = line_refused is.here is.own said is.stopped in
    let P : List Call → Type 0 = λ cs. IsRefusal cs said in
    subst P (sym is.calls_are)
    (record {
      low = after (together is.earlier) is.own said here.low;
      plain = plain_joined (together is.earlier) is.own (done_plain is.before is.earlier is.sources is.done) here.plain;
    })

ungathered_refused : (s : Session) (calls : List Call) (said : Said) → IsUngathered s calls said → IsRefusal calls said
ungathered_refused s calls said is = record { low = inl (status_of _ _ is.told); plain = given_plain s.modules calls is.sources is.given }

session_refused : (s : Session) (calls : List Call) (said : Said) → SaysSession s calls said None → IsRefusal calls said
session_refused s calls said (inl stopped) = lines_refused s.modules calls said stopped
session_refused s calls said (inr ungathered) = ungathered_refused s calls said ungathered

through_refused : (file : List ℕ) (calls : List Call) (said : Said) → IsThrough file calls said None → IsRefusal calls said
through_refused file calls said is =
    let rest = session_refused is.session_is is.others said is.says in
    let P : List Call → Type 0 = λ cs. IsRefusal cs said in
    subst P (sym is.calls_are)
    (record {
      low = after (is.first ∷ []) is.others said rest.low;
      plain = (one_plain (asked_session file) is.first (session is.session_is) is.read, rest.plain);
    })

pub refused_says : (file : List ℕ) (calls : List Call) (said : Said) → SaysRun file calls said None → IsRefusal calls said
refused_says file calls said (inl stopped) = record { low = stopped_low _ calls said stopped.1; plain = stopped_plain _ calls said stopped.1 }
refused_says file calls said (inr through) = through_refused file calls said through

-- ---- what is said of scripts that ran

-- It is said with 0, and no load found no memory.
pub record IsRanWell (calls : List Call) (said : Said) : Type 0 where
  pub well : said.status ≡ 0
  pub plain : AllByRecursion IsPlain calls

through_ran : (file : List ℕ) (calls : List Call) (said : Said) (run : Run) → IsThrough file calls said (Some run) → IsRanWell calls said
through_ran file calls said run is =
    let P : List Call → Type 0 = λ cs. AllByRecursion IsPlain cs in
    let ran = is.says in
    record {
      well = status_of _ _ ran.told;
      plain = subst P (sym is.calls_are) (one_plain (asked_session file) is.first (session is.session_is) is.read, given_plain is.session_is.modules is.others ran.sources ran.given);
    }

some_none : (run : Run) → Some run ≡ None → ⊥
some_none run same = cc

pub ran_says : (file : List ℕ) (calls : List Call) (said : Said) (run : Run) → SaysRun file calls said (Some run) → IsRanWell calls said
ran_says file calls said run (inl stopped) = absurd (some_none run stopped.0)
ran_says file calls said run (inr through) = through_ran file calls said run through

-- ---- both

-- Nothing ran with another status than 0.
pub record SessionSays (calls : List Call) (said : Said) (ran : Option Run) : Type 0 where
  pub status : ((said.status ≡ 0) × (ran ≡ None → ⊥)) ⊎ (IsLow calls said × (ran ≡ None))
  pub plain : AllByRecursion IsPlain calls

pub session_says : (file : List ℕ) (calls : List Call) (said : Said) (ran : Option Run) → SaysRun file calls said ran → SessionSays calls said ran
session_says file calls said None says =
    let is = refused_says file calls said says in
    record { status = inr (is.low, refl); plain = is.plain }
session_says file calls said (Some run) says =
    let is = ran_says file calls said run says in
    record { status = inl (is.well, some_none run); plain = is.plain }
