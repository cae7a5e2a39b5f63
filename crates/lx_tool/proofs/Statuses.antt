-- What the statuses of a command say of its calls.
use Rattle.std.proofs.Common.{◌≡◌, ℕ, ◌+◌, ◌<◌, ◌≤◌, ◌⊎◌, Bool, true, false, List, [], ◌∷◌, ◌++◌, Option, Some, None, Result, Ok, Err, ◌∙◌, ap, sym, subst, refl, inl, inr, arith}
use Rattle.std.specs.Prelude.{codes, if◌then◌else◌, option_map}
use Rattle.std.specs.List.{AllByRecursion, flat_map}
use Rattle.link_model.specs.Link.{Link}
use Rattle.link_model.specs.Refusal.{link_refusal}
use Rattle.lx_model.specs.Gathering.{LibraryFault}
use Rattle.lx_model.specs.declared.library.LibraryRefusal.{LibraryRefusal}
use Rattle.load_model.specs.Modules.{Library}
use Rattle.show_model.specs.declared.fault.ShowFault.{ShowFault}
use Rattle.lx_ports.specs.Calls.{Call, load, save, load_faults, is_failed_load}
use Rattle.lx_ports.specs.declared.files.LoadFault.TheVariants as fault
use Rattle.lx_ports.specs.declared.files.SaveFault.{SaveFault}
use Rattle.answer_model.specs.declared.said.Said.{Said}
use Rattle.answer_model.specs.Answer.{saves_in}
use Rattle.answer_model.specs.Ends.{is_failed_save, save_faults}
use Rattle.answer_model.specs.BindAnswer.{BindAnswer}
use Rattle.answer_model.specs.DumpAnswer.{DumpAnswer}
use Rattle.answer_model.specs.GenAnswer.{GenWords, SaysGen}
use Rattle.answer_model.specs.ImageAnswer.{ImageAnswer, image_refusal, memory_text, NAME}
use Rattle.answer_model.specs.LinkAnswer.{counts_of, link_text}
use Rattle.answer_model.specs.MapAnswer.{ShowsMap}
use Rattle.answer_model.specs.MemoryAnswer.{ShowsModules, first_name, modules_in}
use Rattle.answer_model.specs.ShowAnswer.{ShowAnswer, shown_said}
use Rattle.answer_model.specs.Loading.{IsRefused, IsStopped}
use Rattle.answer_model.specs.AskedFiles.{Asked}
use Rattle.answer_model.specs.Outcome.{Outcome, Saved, shown, kept, refused, refused_or, says_only}
use Rattle.answer_model.specs.Items.{Item, object, library, definition, linked, session, resources, raw}
use Rattle.answer_model.specs.Says.{ComesTo, Finishes, IsDone, SaysCommand, asked_files, said_after}
use Rattle.answer_model.specs.Words.{Command, image, link, implib, bind, gen, dump, link_map, memory, show}
use Rattle.session_files.proofs.Lines.{stopped_begun}
use Rattle.tool_read.proofs.Walk.{read_begun}
use Rattle.lx_tool.proofs.Counts.{count-append}
use Rattle.lx_tool.proofs.Generated.{saves_say}
use Rattle.file_commands.proofs.Begun.{IsPlain, begun_loads, no_saves, plain_joined, read_plain, stopped_plain}

-- ---- outcomes

-- A refusal saves nothing.
abbrev pub IsOutcome : Outcome → Type 0
IsOutcome o = (o.said.status ≡ 0) ⊎ ((o.said.status ≡ 1) × (o.saved ≡ None))

or_refused : (name : List ℕ) (refusal : Option (List ℕ)) (o : Outcome) → o.said.status ≡ 0 → IsOutcome (refused_or name refusal o)
or_refused name None o is = inl is
or_refused name (Some text) o is = inr (refl, refl)

image_is : (base : ℕ) (items : List Item) (o : Outcome) → ImageAnswer base items o → IsOutcome o
image_is base [] o is = absurd is
image_is base (object m ∷ []) o is = subst IsOutcome (sym is.comes_to) (or_refused NAME (image_refusal is.link) (shown (memory_text is.link)) refl)
image_is base (object m ∷ i ∷ items) o is = absurd is
image_is base (library m ∷ items) o is = absurd is
image_is base (definition m ∷ items) o is = absurd is
image_is base (linked m ∷ items) o is = absurd is
image_is base (session s ∷ items) o is = absurd is
image_is base (resources xs ∷ items) o is = absurd is
image_is base (raw own ∷ items) o is = absurd is

if_kept : (b : Bool) (one two : Outcome) → one.said.status ≡ 0 → two.said.status ≡ 1 → two.saved ≡ None → IsOutcome (if b then one else two)
if_kept true one two zero one_ none = inl zero
if_kept false one two zero one_ none = inr (one_, none)

bind_is : (out : List ℕ) (items : List Item) (o : Outcome) → BindAnswer out items o → IsOutcome o
bind_is out (linked m ∷ resources xs ∷ []) o is = subst IsOutcome (sym is) (or_refused out _ (kept out _ _) refl)
bind_is out items o is = absurd is

dump_is : (items : List Item) (o : Outcome) → DumpAnswer items o → IsOutcome o
dump_is (linked m ∷ []) o is = inl (ap (λ (p : Outcome). p.said.status) is)
dump_is items o is = absurd is

map_is : (l : Link) (why : Option (List ℕ)) (o : Outcome) → ShowsMap l why o → IsOutcome o
map_is l None o is = inl (ap (λ (p : Outcome). p.said.status) is.2)
map_is l (Some why) o is = inr (ap (λ (p : Outcome). p.said.status) is, ap (λ (p : Outcome). p.saved) is)

memory_is : (name : List ℕ) (lib : Library) (fault : Option LibraryRefusal) (o : Outcome) → ShowsModules name lib fault o → IsOutcome o
memory_is name lib (Some why) o is = inr (ap (λ (p : Outcome). p.said.status) is, ap (λ (p : Outcome). p.saved) is)
memory_is name lib None o (inl shows) = inl (ap (λ (p : Outcome). p.said.status) shows.told)
memory_is name lib None o (inr refuses) = inr (ap (λ (p : Outcome). p.said.status) refuses.told, ap (λ (p : Outcome). p.saved) refuses.told)

of_fault : (name text : List ℕ) (fault : Option ShowFault) → IsOutcome (says_only (shown_said name text fault))
of_fault name text None = inl refl
of_fault name text (Some why) = inr (refl, refl)

show_is : (name : List ℕ) (items : List Item) (o : Outcome) → ShowAnswer name items o → IsOutcome o
show_is name (raw bytes ∷ []) o is = subst IsOutcome (sym is.told) (of_fault name is.text is.fault)
show_is name items o is = absurd is

come_to_is : (command : Command) (items : List Item) (o : Outcome) → ComesTo command items o → IsOutcome o
come_to_is (image name base) items o is = image_is base items o is
come_to_is (link out d names) items o is = subst IsOutcome (sym is.comes_to) (or_refused out _ (kept out _ (counts_of is.link)) refl)
come_to_is (implib out names) items o is = subst IsOutcome (sym is) (if_kept _ (kept out _ _) (refused out (codes "LibraryLong")) refl refl refl)
come_to_is (bind out target file) items o is = bind_is out items o is
come_to_is (gen count prefix) items o is = absurd is
come_to_is (dump file) items o is = dump_is items o is
come_to_is (link_map d names) items o is = map_is is.link (option_map link_text (link_refusal is.link)) o is.shows
come_to_is (memory names) items o is = memory_is (first_name names) (flat_map modules_in items) (LibraryFault (flat_map modules_in items)) o is
come_to_is (show file) items o is = show_is file items o is

-- ---- what a status says

pub record StatusSays (none : Type 0) (calls : List Call) (said : Said) : Type 0 where
  pub low : said.status ≤ 4
  pub usage : said.status ≡ 2 → none
  pub read_failed : said.status ≡ 3 → 0 < load_faults calls
  pub write_failed : said.status ≡ 4 → 0 < save_faults calls
  pub unsaved : 1 ≤ said.status → said.status ≤ 3 → saves_in calls ≡ []
  pub plain : AllByRecursion IsPlain calls

-- a refused file

pub one_failed : (a : Asked) (call : Call) (said : Said) → IsRefused a call said → (said.status ≡ 1) ⊎ ((said.status ≡ 3) × (0 < load_faults (call ∷ [])))
one_failed a (load name (Ok bytes)) said is = inl (ap (λ (s : Said). s.status) is.1.line)
one_failed a (load name (Err fault.Absent)) said is = inl (ap (λ (s : Said). s.status) is.1)
one_failed a (load name (Err fault.TooLong)) said is = inl (ap (λ (s : Said). s.status) is.1)
one_failed a (load name (Err fault.Failed)) said is = inr (ap (λ (s : Said). s.status) is.1, omega arith)
one_failed a (load name (Err fault.NoMemory)) said is = absurd is.1
one_failed a (save name bytes answer) said is = absurd is

stopped_says : (none : Type 0) (asked : List Asked) (calls : List Call) (said : Said) → IsStopped asked calls said → StatusSays none calls said
stopped_says none asked calls said is =
    let by = one_failed is.here is.call said is.refused in
    let nil : saves_in calls ≡ [] =
    let P : List Call → Type 0 = λ cs. saves_in cs ≡ [] in
    subst P (nothing calls) (no_saves calls [] (begun_loads asked calls (stopped_begun asked calls said is))) in
    let counted : load_faults calls ≡ load_faults is.earlier + load_faults (is.call ∷ []) =
    ap (λ (cs : List Call). load_faults cs) is.calls_are ∙ count-append is_failed_load is.earlier (is.call ∷ []) in
    record {
      low = elim by [ inl one ↦ omega (arith, one) | inr three ↦ omega (arith, three.0) ];
      usage = λ two. elim by [ inl one ↦ absurd (omega (arith, one, two)) | inr three ↦ absurd (omega (arith, three.0, two)) ];
      read_failed = λ same. elim by [ inl one ↦ absurd (omega (arith, one, same)) | inr three ↦ omega (arith, counted, three.1) ];
      write_failed = λ four. elim by [ inl one ↦ absurd (omega (arith, one, four)) | inr three ↦ absurd (omega (arith, three.0, four)) ];
      unsaved = λ _ _. nil;
      plain = stopped_plain asked calls said is;
    }
  where
    nothing : (cs : List Call) → cs ++ [] ≡ cs
    nothing [] = refl
    nothing (c ∷ cs) = ap (λ (t : List Call). c ∷ t) (nothing cs)

-- a finished command

record Finished (saves : List Call) (said : Said) : Type 0 where
  low : (said.status ≤ 1) ⊎ ((said.status ≡ 4) × (0 < save_faults saves))
  unsaved : said.status ≡ 1 → saves_in saves ≡ []
  plain : AllByRecursion IsPlain saves

none_finished : (outcome : Outcome) (saves : List Call) (said : Said) → IsOutcome outcome → saves ≡ [] → said ≡ outcome.said → Finished saves said
none_finished outcome saves said is none same =
    let status : said.status ≡ outcome.said.status = ap (λ (s : Said). s.status) same in
    let P : List Call → Type 0 = λ cs. AllByRecursion IsPlain cs in
    record {
      low = inl (elim is [ inl zero ↦ omega (arith, status, zero) | inr one ↦ omega (arith, status, one.0) ]);
      unsaved = λ _. ap (λ (cs : List Call). saves_in cs) none;
      plain = subst P (sym none) tt;
    }

save_said : (outcome : Outcome) (saved : Saved) (answer : Result (Unit {0}) SaveFault) (said : Said) → outcome.said.status ≡ 0 → said ≡ said_after outcome saved.name answer
    → Finished (save saved.name saved.bytes answer ∷ []) said
save_said outcome saved (Ok u) said zero same =
    let status : said.status ≡ outcome.said.status = ap (λ (s : Said). s.status) same in
    record {
      low = inl (omega (arith, status, zero));
      unsaved = λ one. absurd (omega (arith, status, zero, one));
      plain = (tt, tt);
    }
save_said outcome saved (Err why) said zero same =
    let status : said.status ≡ 4 = ap (λ (s : Said). s.status) same in
    record {
      low = inr (status, omega arith);
      unsaved = λ one. absurd (omega (arith, status, one));
      plain = (tt, tt);
    }

zero_status : (outcome : Outcome) (saved : Saved) → IsOutcome outcome → outcome.saved ≡ Some saved → outcome.said.status ≡ 0
zero_status outcome saved (inl zero) some = zero
zero_status outcome saved (inr one) some = let none : None ≡ Some saved = sym one.1 ∙ some in absurd cc

save_finished : (outcome : Outcome) (saved : Saved) (saves : List Call) (said : Said) → IsOutcome outcome → outcome.saved ≡ Some saved → Finishes (Some saved) outcome saves said → Finished saves said
save_finished outcome saved saves said is some finished =
    let P : List Call → Type 0 = λ cs. Finished cs said in
    subst P (sym finished.calls_are) (save_said outcome saved finished.answer said (zero_status outcome saved is some) finished.is_said)

finish : (saved : Option Saved) (outcome : Outcome) (saves : List Call) (said : Said) → IsOutcome outcome → outcome.saved ≡ saved → Finishes saved outcome saves said → Finished saves said
finish None outcome saves said is same finished = none_finished outcome saves said is finished.0 finished.1
finish (Some saved) outcome saves said is same finished = save_finished outcome saved saves said is same finished

done_says : (none : Type 0) (command : Command) (calls : List Call) (said : Said) → IsDone command calls said → StatusSays none calls said
done_says none command calls said is =
    let fin = finish is.outcome.saved is.outcome is.saves said (come_to_is command is.items is.outcome is.comes_to) refl is.finished in
    let nil : saves_in calls ≡ saves_in is.saves =
    ap (λ (cs : List Call). saves_in cs) is.calls_are ∙ no_saves is.loads is.saves (begun_loads (asked_files command) is.loads (read_begun (asked_files command) is.loads is.items is.read)) in
    let counted : save_faults calls ≡ save_faults is.loads + save_faults is.saves =
    ap (λ (cs : List Call). save_faults cs) is.calls_are ∙ count-append is_failed_save is.loads is.saves in
    let P : List Call → Type 0 = λ cs. AllByRecursion IsPlain cs in
    record {
      low = elim fin.low [ inl one ↦ omega (arith, one) | inr four ↦ omega (arith, four.0) ];
      usage = λ two. elim fin.low [ inl one ↦ absurd (omega (arith, one, two)) | inr four ↦ absurd (omega (arith, four.0, two)) ];
      read_failed = λ three. elim fin.low [ inl one ↦ absurd (omega (arith, one, three)) | inr four ↦ absurd (omega (arith, four.0, three)) ];
      write_failed = λ same. elim fin.low [ inl one ↦ absurd (omega (arith, one, same)) | inr four ↦ omega (arith, counted, four.1) ];
      unsaved = λ some few. elim fin.low [ inl one ↦ nil ∙ fin.unsaved (omega (arith, one, some)) | inr four ↦ absurd (omega (arith, four.0, few)) ];
      plain = subst P (sym is.calls_are) (plain_joined is.loads is.saves (read_plain (asked_files command) is.loads is.items is.read) fin.plain);
    }

no_command_says : (calls : List Call) (said : Said) → SaysCommand None calls said → StatusSays (let none : Option Command = None in none ≡ None) calls said
no_command_says calls said says =
    let status : said.status ≡ 2 = ap (λ (s : Said). s.status) says.1 in
    let P : List Call → Type 0 = λ cs. AllByRecursion IsPlain cs in
    record {
      low = omega (arith, status);
      usage = λ _. refl;
      read_failed = λ three. absurd (omega (arith, status, three));
      write_failed = λ four. absurd (omega (arith, status, four));
      unsaved = λ _ _. ap (λ (cs : List Call). saves_in cs) says.0;
      plain = subst P (sym says.0) tt;
    }

read_says : (none : Type 0) (command : Command) (calls : List Call) (said : Said) → IsStopped (asked_files command) calls said ⊎ IsDone command calls said → StatusSays none calls said
read_says none command calls said (inl stopped) = stopped_says none (asked_files command) calls said stopped
read_says none command calls said (inr done) = done_says none command calls said done

-- `gen` saves its files in turn.
gen_says : (none : Type 0) (words : GenWords) (calls : List Call) (said : Said) → SaysGen words calls said → StatusSays none calls said
gen_says none words calls said says =
    let turn = saves_say says.files says.text calls said says.saves in
    record {
      low = elim turn.low [ inl zero ↦ omega (arith, zero) | inr four ↦ let is = four.0 in omega (arith, is) ];
      usage = λ two. elim turn.low [ inl zero ↦ absurd (omega (arith, zero, two)) | inr four ↦ absurd (let is = four.0 in omega (arith, is, two)) ];
      read_failed = λ three. elim turn.low [ inl zero ↦ absurd (omega (arith, zero, three)) | inr four ↦ absurd (let is = four.0 in omega (arith, is, three)) ];
      write_failed = λ same. elim turn.low [ inl zero ↦ absurd (omega (arith, zero, same)) | inr four ↦ four.1 ];
      unsaved = λ some few. elim turn.low [ inl zero ↦ absurd (omega (arith, zero, some)) | inr four ↦ absurd (let is = four.0 in omega (arith, is, few)) ];
      plain = turn.plain;
    }

command_says : (none : Type 0) (command : Command) (calls : List Call) (said : Said) → SaysCommand (Some command) calls said → StatusSays none calls said
command_says none (image file base) calls said says = read_says none (image file base) calls said says
command_says none (link out d names) calls said says = read_says none (link out d names) calls said says
command_says none (implib out names) calls said says = read_says none (implib out names) calls said says
command_says none (bind out target file) calls said says = read_says none (bind out target file) calls said says
command_says none (dump file) calls said says = read_says none (dump file) calls said says
command_says none (link_map d names) calls said says = read_says none (link_map d names) calls said says
command_says none (memory names) calls said says = read_says none (memory names) calls said says
command_says none (show file) calls said says = read_says none (show file) calls said says
command_says none (gen count prefix) calls said says = gen_says none (record { count = count; prefix = prefix }) calls said says

pub status_says : (command : Option Command) (calls : List Call) (said : Said) → SaysCommand command calls said → StatusSays (command ≡ None) calls said
status_says None calls said says = no_command_says calls said says
status_says (Some command) calls said says = command_says _ command calls said says
