-- From what calls answered to what the files have.
use Rattle.std.proofs.Common.{◌≡◌, ℕ, List, [], ◌∷◌, ◌++◌, Bool, true, false, Option, Some, None, Ok, Err, ◌∙◌, ap, sym, subst}
use Rattle.std.specs.Prelude.{IfSome, if◌then◌else◌}
use Rattle.std.specs.List.{AllByRecursion}
use Rattle.lx_ports.specs.Calls.{Call, load, save}
use Rattle.lx_ports.specs.Files.{Contents, FilesState}
use Rattle.session_model.specs.declared.sessions.ModLine.{ModLine}
use Rattle.session_model.specs.declared.sessions.ModLine.TheVariants.{Take, Build}
use Rattle.run_model.specs.Sources.{Source}
use Rattle.run_core.specs.declared.session.Ran.{Ran}
use Rattle.answer_model.specs.declared.said.Said.{Said}
use Rattle.answer_model.specs.Ends.{IsTold}
use Rattle.answer_model.specs.Loading.{AreRead, IsRead}
use Rattle.answer_model.specs.AskedFiles.{Asked, asked_definition, asked_inputs}
use Rattle.answer_model.specs.Items.{Form, object_form, library_form, definition_form, module_form, session_form, resource_form, raw_form, Item, session, IsLinkItem, form_of, is_library}
use Rattle.answer_model.specs.Reading.{IsItem}
use Rattle.answer_model.specs.Words.{definition_of}
use Rattle.answer_model.specs.RunAnswer.{AreDone, asked_session, run_of, together}
use Rattle.answer_model.specs.RunLines.{asked_line}
use Rattle.lx_tool.specs.declared.run.SessionEnd.{SessionEnd}
use Rattle.lx_tool.specs.declared.run.SessionEnd.TheVariants as end
use Rattle.lx_tool.specs.Headline.{Headline, MakeAll, MeanAll, Means, RanAsOne}
use Rattle.lx_tool.specs.Running.{DoesRun, RanByLoads, RanOver, SaysEnd, ran_of}

-- ---- told calls

told_front : (P : Call → Type 0) (xs ys : List Call) → AllByRecursion P (xs ++ ys) → AllByRecursion P xs
told_front P [] ys all = tt
told_front P (x ∷ xs) ys all = (all.0, told_front P xs ys all.1)

told_rest : (P : Call → Type 0) (xs ys : List Call) → AllByRecursion P (xs ++ ys) → AllByRecursion P ys
told_rest P [] ys all = all
told_rest P (x ∷ xs) ys all = told_rest P xs ys all.1

-- ---- files

-- a file that a session asks for is no resource file, and is not taken as its bytes alone
abbrev IsLinkForm : Form → Type 0
IsLinkForm resource_form = ⊥
IsLinkForm raw_form = ⊥
IsLinkForm form = Unit {0}

abbrev IsLinkFile : Asked → Type 0
IsLinkFile a = (bytes : List ℕ) → IsLinkForm (form_of a.kind bytes)

either_form : (b : Bool) (one other : Form) → IsLinkForm one → IsLinkForm other → IsLinkForm (if b then one else other)
either_form true one other h k = h
either_form false one other h k = k

link_item : (form : Form) (bytes : List ℕ) (item : Item) → IsLinkForm form → IsItem form bytes item → IsLinkItem form bytes item
link_item object_form bytes item fine means = means
link_item library_form bytes item fine means = means
link_item definition_form bytes item fine means = means
link_item module_form bytes item fine means = means
link_item session_form bytes item fine means = means
link_item resource_form bytes item fine means = absurd fine
link_item raw_form bytes item fine means = absurd fine

both_link : (xs ys : List Asked) → AllByRecursion IsLinkFile xs → AllByRecursion IsLinkFile ys → AllByRecursion IsLinkFile (xs ++ ys)
both_link [] ys h k = k
both_link (x ∷ xs) ys h k = (h.0, both_link xs ys h.1 k)

definition_links : (name : Option (List ℕ)) → AllByRecursion IsLinkFile (asked_definition name)
definition_links None = tt
definition_links (Some name) = ((λ bytes. tt), tt)

inputs_link : (names : List (List ℕ)) → AllByRecursion IsLinkFile (asked_inputs names)
inputs_link [] = tt
inputs_link (name ∷ names) = ((λ bytes. either_form (is_library bytes) library_form object_form tt tt), inputs_link names)

line_links : (line : ModLine) → AllByRecursion IsLinkFile (asked_line line)
line_links (Take file) = ((λ bytes. tt), tt)
line_links (Build stem def files) =
    both_link (asked_definition (definition_of def)) (asked_inputs files) (definition_links (definition_of def)) (inputs_link files)

one_means : (contents : Contents) (a : Asked) (call : Call) (item : Item) → IsLinkFile a → IsTold contents call → IsRead a call item → Means contents a item
one_means contents a (load name (Ok bytes)) item links told read = record {
  bytes = bytes;
  has = ap (λ (n : List ℕ). contents n) (sym read.0) ∙ told.0;
  means = link_item (form_of a.kind bytes) bytes item (links bytes) read.1.1;
}
one_means contents a (load name (Err why)) item links told read = absurd read.1
one_means contents a (save name bytes answer) item links told read = absurd read

all_mean : (contents : Contents) (asked : List Asked) (calls : List Call) (items : List Item) → AllByRecursion IsLinkFile asked → AllByRecursion (IsTold contents) calls → AreRead asked calls items
    → MeanAll contents asked items
all_mean contents [] [] [] links told are = tt
all_mean contents [] [] (i ∷ is) links told are = absurd are
all_mean contents [] (c ∷ cs) is links told are = absurd are
all_mean contents (a ∷ more) [] is links told are = absurd are
all_mean contents (a ∷ more) (c ∷ cs) [] links told are = absurd are
all_mean contents (a ∷ more) (c ∷ cs) (i ∷ is) links told are = (one_means contents a c i links.0 told.0 are.0, all_mean contents more cs is links.1 told.1 are.1)

all_made : (contents : Contents) (lines : List ModLine) (each : List (List Call)) (sources : List Source) → AllByRecursion (IsTold contents) (together each) → AreDone lines each sources
    → MakeAll contents lines sources
all_made contents [] [] [] told are = tt
all_made contents [] [] (s ∷ ss) told are = absurd are
all_made contents [] (c ∷ cs) ss told are = absurd are
all_made contents (l ∷ ls) [] ss told are = absurd are
all_made contents (l ∷ ls) (c ∷ cs) [] told are = absurd are
all_made contents (l ∷ ls) (c ∷ cs) (s ∷ ss) told are = (
  record { items = are.0.items; mean = all_mean contents (asked_line l) c are.0.items (line_links l) (told_front (IsTold contents) c (together cs) told) are.0.read; gives = are.0.gives },
  all_made contents ls cs ss (told_rest (IsTold contents) c (together cs) told) are.1,
)

-- ---- the run

ran_as_one : (contents : Contents) (file : List ℕ) (calls : List Call) (ran : Ran) → AllByRecursion (IsTold contents) calls → RanOver file calls ran → RanAsOne contents file ran
ran_as_one contents file calls ran told over =
    let is = over.through in
    let P : List Call → Type 0 = λ cs. AllByRecursion (IsTold contents) cs in
    let all = subst P is.calls_are told in
    let run = is.says in
    let given = run.given in
    let means = one_means contents (asked_session file) is.first (session is.session_is) (λ bytes. tt) all.0 is.read in
    record {
      session_bytes = means.bytes;
      has = means.has;
      session_is = is.session_is;
      says = means.means;
      sources = run.sources;
      makes = all_made contents is.session_is.modules given.each run.sources (subst P given.calls_are all.1) given.done;
      library = run.fine;
      links = over.links;
      legal = run.runs.legal;
      merge = run.runs.merge;
      text = ap (λ (s : Said). s.text) run.told;
    }

by_end : (contents : Contents) (file : List ℕ) (calls : List Call) (it : SessionEnd) → AllByRecursion (IsTold contents) calls → SaysEnd file calls it → IfSome (ran_of it) (RanAsOne contents file)
by_end contents file calls (end.Refused own) told says = tt
by_end contents file calls (end.Ran ran library) told says = ran_as_one contents file calls ran told says

told_end : (told : Option Contents) (file : List ℕ) (calls : List Call) (it : SessionEnd) → IfSome told (λ contents. AllByRecursion (IsTold contents) calls) → SaysEnd file calls it
    → Headline (Some file) told (ran_of it)
told_end None file calls it are says = tt
told_end (Some contents) file calls it are says = by_end contents file calls it are says

pub headline_by : (file : List ℕ) (files files_now : FilesState) (it : SessionEnd) (ran : Option Ran) → DoesRun file files files_now (Ok it) → ran ≡ ran_of it → Headline (Some file) files.contents ran
headline_by file files files_now it ran does same =
    let P : Option Ran → Type 0 = λ r. Headline (Some file) files.contents r in
    subst P (sym same) (told_end files.contents file does.calls it does.loads.told does.says)

pub headline_unrun : (file : Option (List ℕ)) (told : Option Contents) → Headline file told None
headline_unrun None told = tt
headline_unrun (Some file) None = tt
headline_unrun (Some file) (Some contents) = tt

-- ---- the loads

loads_end : (file : List ℕ) (before now : FilesState) (calls : List Call) (it : SessionEnd) → now ≡ record { contents = before.contents; calls = before.calls ++ calls } → SaysEnd file calls it
    → RanByLoads (Some file) before now (ran_of it)
loads_end file before now calls (end.Refused own) had says = tt
loads_end file before now calls (end.Ran ran library) had says = record { calls = calls; had = had; over = says }

pub loads_by : (file : List ℕ) (before now : FilesState) (it : SessionEnd) (ran : Option Ran) → DoesRun file before now (Ok it) → ran ≡ ran_of it → RanByLoads (Some file) before now ran
loads_by file before now it ran does same =
    let P : Option Ran → Type 0 = λ r. RanByLoads (Some file) before now r in
    subst P (sym same) (loads_end file before now does.calls it does.loads.files does.says)

pub loads_unrun : (file : Option (List ℕ)) (before now : FilesState) → RanByLoads file before now None
loads_unrun None before now = tt
loads_unrun (Some file) before now = tt

-- ---- the words

pub main_loads : (words : List (List ℕ)) (file : List ℕ) (before now : FilesState) (ran : Option Ran) → Some file ≡ run_of words → RanByLoads (Some file) before now ran → RanByLoads (run_of words) before now ran
main_loads words file before now ran named holds =
    let P : Option (List ℕ) → Type 0 = λ n. RanByLoads n before now ran in
    subst P named holds

pub main_headline : (words : List (List ℕ)) (file : List ℕ) (told : Option Contents) (ran : Option Ran) → Some file ≡ run_of words → Headline (Some file) told ran → Headline (run_of words) told ran
main_headline words file told ran named holds =
    let P : Option (List ℕ) → Type 0 = λ n. Headline n told ran in
    subst P named holds
