-- From what modules hold in memory, or a refusal, to what `memory` does.
use Rattle.std.proofs.Common.{◌≡◌, ℕ, suc, ◌+◌, ◌*◌, ◌<◌, List, [], ◌∷◌, ◌++◌, length, map, drop, get_or, append_assoc, drop-cons, Option, Some, None, Result, Ok, Err, Vec, ◌∙◌, ap, sym, subst, refl, inl, inr, arith}
use Rattle.std.specs.Prelude.{IfOk}
use Rattle.std.specs.Global.{Global}
use Rattle.std.specs.List.{enumerate_from, flat_map}
use Rattle.lx_types.specs.Answers.{Answers}
use Rattle.lx_types.specs.declared.fail.Fail.{Fail}
use Rattle.lx_types.specs.declared.fail.Fail.TheVariants as fail
use Rattle.lx_types.specs.declared.fail.NoMemory.{NoMemory}
use Rattle.lx_types.specs.declared.parts.Parts.{Parts}
use Rattle.lx_model.specs.Gathering.{LibraryFault}
use Rattle.lx_model.specs.declared.library.LibraryRefusal.{LibraryRefusal}
use Rattle.load_model.specs.Modules.{Library}
use Rattle.mod_graph.specs.Gathering.{IsRefused}
use Rattle.memory_model.specs.Memory.{IsMemory}
use Rattle.memory_model.specs.declared.held.ModuleMemory.{ModuleMemory}
use Rattle.memory_model.specs.declared.held.PageMemory.{PageMemory}
use Rattle.memory_core.specs.Brought.{IsUnloaded}
use Rattle.memory_core.specs.declared.brought.Unloaded.{Unloaded}
use Rattle.lx_ports.specs.Calls.{Call}
use Rattle.lx_ports.specs.Files.{FilesState}
use Rattle.answer_model.specs.declared.said.Said.{Said}
use Rattle.answer_model.specs.Items.{Item, linked}
use Rattle.answer_model.specs.MemoryAnswer.{ShowsModules, first_name, memory_text, modules_in, numbered_page_text, page_text, unloaded_text}
use Rattle.answer_model.specs.Outcome.{says_only, shown}
use Rattle.answer_model.specs.Says.{asked_files}
use Rattle.answer_model.specs.SessionRefusals.{library_text}
use Rattle.answer_model.specs.Words.{memory}
use Rattle.tool_read.specs.Steps.{AreLoads, GivesAll}
use Rattle.file_commands.specs.Doing.{Does}
use Rattle.file_commands.specs.Refusals.{RefusesBy}
use Rattle.file_commands.proofs.Commands.{shown_done}

-- ---- pages

-- The text of one page more, of those that an object has from a page on.
pub pages_more : (base at k : ℕ) (pages : List PageMemory) (page : PageMemory) (text new all : List ℕ) → k < length pages → page ≡ get_or pages k page → at ≡ base + k * 4096 → new ≡ text ++ page_text at page
    → text ++ flat_map (numbered_page_text base) (enumerate_from k (drop k pages)) ≡ all → new ++ flat_map (numbered_page_text base) (enumerate_from (k + 1) (drop (k + 1) pages)) ≡ all
pages_more base at k pages page text new all below is at_is new_is before =
    let rest : List ℕ = flat_map (numbered_page_text base) (enumerate_from (k + 1) (drop (suc k) pages)) in
    let further : k + 1 ≡ suc k = omega arith in
    let split : drop k pages ≡ page ∷ drop (suc k) pages = drop-cons pages k page below ∙ ap (λ (p : PageMemory). p ∷ drop (suc k) pages) (sym is) in
    ap (λ (n : ℕ). new ++ flat_map (numbered_page_text base) (enumerate_from (k + 1) (drop n pages))) further
    ∙ ap (λ (t : List ℕ). t ++ rest) new_is
    ∙ append_assoc text (page_text at page) rest
    ∙ ap (λ (a : ℕ). text ++ (page_text a page ++ rest)) at_is
    ∙ ap (λ (ps : List PageMemory). text ++ flat_map (numbered_page_text base) (enumerate_from k ps)) (sym split)
    ∙ before

-- ---- a library

pub held_shown : (name : List ℕ) (lib : Library) (found : List ModuleMemory) (text : List ℕ) → LibraryFault lib ≡ None → IsMemory lib found → text ≡ memory_text found
    → ShowsModules name lib (LibraryFault lib) (says_only (record { status = 0; text = text }))
held_shown name lib found text fine is same =
    let P : Option LibraryRefusal → Type 0 = λ fault. ShowsModules name lib fault (shown text) in
    subst P (sym fine) (inl (record { found = found; is = is; told = ap (λ t. shown t) same }))

pub load_refused : {A : Type 0} (P : A → Type 0) (name : List ℕ) (lib : Library) (why : Fail Unloaded) (r : Result Said NoMemory) → LibraryFault lib ≡ None
    → Answers {A = A} (Err why) P (IsUnloaded lib) → RefusesBy (λ own. unloaded_text own.why) name why r → IfOk r (λ said. ShowsModules name lib (LibraryFault lib) (says_only said))
load_refused P name lib (fail.Said own) (Ok said) fine by same =
    let Q : Option LibraryRefusal → Type 0 = λ fault. ShowsModules name lib fault (says_only said) in
    subst Q (sym fine) (inr (record { why = own.why; refuses = by.refused; told = ap (λ s. says_only s) same }))
load_refused P name lib fail.NoMemory (Ok said) fine by same = absurd same
load_refused P name lib why (Err none) fine by same = tt

-- ---- modules

pub gather_refused : (name : List ℕ) (mods : List Parts) (why : Fail LibraryRefusal) (r : Result Said NoMemory) → IsRefused why (LibraryFault mods) → RefusesBy library_text name why r
    → IfOk r (λ said. ShowsModules name mods (LibraryFault mods) (says_only said))
gather_refused name mods (fail.Said refusal) (Ok said) is same =
    let Q : Option LibraryRefusal → Type 0 = λ fault. ShowsModules name mods fault (says_only said) in
    subst Q (sym is) (ap (λ s. says_only s) same)
gather_refused name mods fail.NoMemory (Ok said) is same = absurd same
gather_refused name mods why (Err none) is same = tt

-- ---- files

are_modules : (mods : List Parts) → flat_map modules_in (map linked mods) ≡ mods
are_modules [] = refl
are_modules (m ∷ mods) = ap (λ (ms : List Parts). m ∷ ms) (are_modules mods)

abbrev pub GivesModules : Vec Parts Global → List Item → Type 0
GivesModules read items = items ≡ map linked read.items

pub memory_done : (names : List (List ℕ)) (read : Vec Parts Global) (calls : List Call) (before now : FilesState) (r : Result Said NoMemory) → AreLoads calls before now
    → GivesAll GivesModules (asked_files (memory names)) calls read → IfOk r (λ said. ShowsModules (first_name names) read.items (LibraryFault read.items) (says_only said))
    → Does (memory names) before now r
memory_done names read calls before now r loads all shows =
    let P : List Parts → Type 0 = λ lib. IfOk r (λ said. ShowsModules (first_name names) lib (LibraryFault lib) (says_only said)) in
    let same : flat_map modules_in all.items ≡ read.items = ap (λ (items : List Item). flat_map modules_in items) all.given ∙ are_modules read.items in
    shown_done (memory names) calls all.items before now r loads all.read (subst P (sym same) shows)
