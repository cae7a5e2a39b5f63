-- How a call ends, from what was done, what was said and what was put.
use Rattle.std.proofs.Common.{◌≡◌, ℕ, ◌⊎◌, List, Option, Some, None, Ok, Err, refl, subst, sym, inl, inr, arith}
use Rattle.std.specs.Prelude.{IfSome}
use Rattle.std.specs.List.{AllByRecursion}
use Rattle.std.specs.Io.KnownBytes.{Appends}
use Rattle.lx_types.specs.declared.fail.NoMemory.{NoMemory}
use Rattle.lx_ports.specs.Calls.{Call, load_faults}
use Rattle.lx_ports.specs.Counts.{Rose}
use Rattle.lx_ports.specs.Files.{Contents, FilesState}
use Rattle.lx_ports.specs.Sinks.{SinkState}
use Rattle.answer_model.specs.declared.said.Said.{Said}
use Rattle.answer_model.specs.Ends.{AppendsPart, Ends, IsAnswered, IsPut, IsTold, save_faults}
use Rattle.answer_model.specs.Says.{Says}
use Rattle.answer_model.specs.Words.{command_of}
use Rattle.file_commands.specs.Doing.{DoesWords}
use Rattle.lx_tool.specs.Running.{Puts}
use Rattle.lx_tool.proofs.Sound.{sound_all}
use Rattle.lx_tool.proofs.Statuses.{StatusSays, status_says}

answered : (told : Option Contents) (words : List (List ℕ)) (calls : List Call) (out out_now : SinkState) (said : Said) → Says words calls said → StatusSays (command_of words ≡ None) calls said
    → IfSome told (λ contents. AllByRecursion (IsTold contents) calls) → load_faults calls ≡ 0 → save_faults calls ≡ 0 → Appends out.contents out_now.contents said.text
    → IfSome told (λ contents. (said.status ≡ 8) ⊎ IsAnswered words contents calls out out_now said.status)
answered None words calls out out_now said says facts are loads saves put = tt
answered (Some contents) words calls out out_now said says facts are loads saves put = inr (record {
  text = said.text;
  answer = record { calls = calls; sound = sound_all contents calls are facts.plain loads saves; says = says; saves_are = refl };
  put = put;
})

no_memory_told : (told : Option Contents) (words : List (List ℕ)) (calls : List Call) (out out_now : SinkState)
    → IfSome told (λ contents. (◌≡◌ {A = ℕ} 8 8) ⊎ IsAnswered words contents calls out out_now 8)
no_memory_told None words calls out out_now = tt
no_memory_told (Some contents) words calls out out_now = inl refl

module _ (words : List (List ℕ)) (files files_now : FilesState) (out out_now : SinkState) where
  pub ends_whole : (said : Said) → DoesWords (command_of words) files files_now (Ok said) → Appends out.contents out_now.contents said.text → Ends words files files_now out out_now said.status
  ends_whole said does put =
      let facts = status_says (command_of words) does.calls said does.says in
      let whole : IsPut words does.calls out out_now said.status = record { text = said.text; says = does.says; put = put } in
      record {
        known = inl facts.low;
        calls = does.calls;
        had = does.runs.had;
        named = does.runs.named;
        told = does.runs.told;
        held = does.runs.held;
        whole = λ _. whole;
        usage = facts.usage;
        read_failed = facts.read_failed;
        write_failed = λ four. inl (facts.write_failed four, by_status (λ n. IsPut words does.calls out out_now n) four whole);
        unsaved = λ either. elim either [
          | inl few ↦ facts.unsaved few.0 few.1
          | inr eight ↦ let low = facts.low in absurd (omega (arith, low, eight))
        ];
        nothing = λ eight. let low = facts.low in absurd (omega (arith, low, eight));
        complete = λ loads saves well. answered files.contents words does.calls out out_now said does.says facts does.runs.told loads saves put;
      }
    where
      by_status : (P : ℕ → Type 0) → said.status ≡ 4 → P said.status → P 4
      by_status P four is = subst P four is

  pub ends_in_part : (said : Said) → DoesWords (command_of words) files files_now (Ok said) → AppendsPart out.contents out_now.contents said.text → Rose out.faults out_now.faults
      → Ends words files files_now out out_now 4
  ends_in_part said does part rose = record {
    known = inl (omega arith);
    calls = does.calls;
    had = does.runs.had;
    named = does.runs.named;
    told = does.runs.told;
    held = does.runs.held;
    whole = λ is. absurd (omega (arith, is));
    usage = λ is. absurd (omega (arith, is));
    read_failed = λ is. absurd (omega (arith, is));
    write_failed = λ _. inr (record { said = said; says = does.says; part = part; failed = rose });
    unsaved = λ either. elim either [
      | inl few ↦ let four = few.1 in absurd (omega (arith, four))
      | inr eight ↦ absurd (omega (arith, eight))
    ];
    nothing = λ is. absurd (omega (arith, is));
    complete = λ loads saves well. absurd (well rose);
  }

  pub ends_as_put : (said : Said) (status : ℕ) → DoesWords (command_of words) files files_now (Ok said) → Puts said out out_now status → Ends words files files_now out out_now status
  ends_as_put said status does (inl whole) =
      let P : ℕ → Type 0 = λ n. Ends words files files_now out out_now n in
      subst P (sym whole.status_is) (ends_whole said does whole.put)
  ends_as_put said status does (inr part) =
      let P : ℕ → Type 0 = λ n. Ends words files files_now out out_now n in
      subst P (sym part.status_is) (ends_in_part said does part.part part.failed)

  pub ends_without_memory : (why : NoMemory) → DoesWords (command_of words) files files_now (Err why) → out_now.contents ≡ out.contents → Ends words files files_now out out_now 8
  ends_without_memory why does same = record {
    known = inr refl;
    calls = does.calls;
    had = does.runs.had;
    named = does.runs.named;
    told = does.runs.told;
    held = does.runs.held;
    whole = λ is. absurd (omega (arith, is));
    usage = λ is. absurd (omega (arith, is));
    read_failed = λ is. absurd (omega (arith, is));
    write_failed = λ is. absurd (omega (arith, is));
    unsaved = λ _. does.says;
    nothing = λ _. same;
    complete = λ loads saves well. no_memory_told files.contents words does.calls out out_now;
  }
