-- What each command does, from what its steps answer.
use Rattle.std.proofs.Common.{◌≡◌, ℕ, Bool, true, false, List, [], ◌∷◌, length, Option, Some, None, Result, Ok, Err, ◌∙◌, ap, sym, subst, refl, codes, nat_le, Vec}
use Rattle.std.specs.Prelude.{IfOk, option_map, if◌then◌else◌}
use Rattle.std.specs.Global.{Global}
use Rattle.std.proofs.lemmas.List.{append-nil}
use Rattle.std.proofs.lemmas.Bool.{lt-leb, le-leb}
use Rattle.lx_types.specs.Answers.{Answers}
use Rattle.lx_types.specs.declared.fail.Fail.{Fail}
use Rattle.lx_types.specs.declared.fail.Fail.TheVariants as fail
use Rattle.lx_types.specs.declared.fail.NoMemory.{NoMemory}
use Rattle.lx_types.specs.declared.parts.Parts.{Parts}
use Rattle.obj_types.specs.declared.input.LinkInput.{LinkInput}
use Rattle.refusal_text.specs.declared.refused.LinkFiles.{LinkFiles}
use Rattle.obj_types.specs.declared.object.ObjModule.{ObjModule}
use Rattle.obj_types.specs.declared.symbol.Imp.{Imp}
use Rattle.implib_model.specs.Library.{library_bytes, library_len}
use Rattle.omf_write.specs.declared.libraries.LibraryLong.{LibraryLong}
use Rattle.implib_model.specs.Imports.{modules_of}
use Rattle.link_model.specs.Link.{IsLinkOf}
use Rattle.dump_model.specs.Dumps.{Dump}
use Rattle.dump_model.specs.Listings.{listing_of}
use Rattle.answer_model.specs.ResourceRefusals.{bind_text}
use Rattle.res_model.specs.declared.item.ResItem.{ResItem}
use Rattle.res_model.specs.Bound.{bound_file}
use Rattle.res_model.specs.Refusal.{bind_refusal}
use Rattle.res_model.specs.declared.refusal.BindRefusal.{BindRefusal}
use Rattle.lx_ports.specs.Calls.{Call}
use Rattle.lx_ports.specs.Files.{FilesState}
use Rattle.answer_model.specs.declared.said.Said.{Said}
use Rattle.refusal_text.specs.declared.refused.Refused.{Refused}
use Rattle.refusal_text.specs.Refusals.{said_of}
use Rattle.answer_model.specs.BindAnswer.{bind_outcome, counts_of}
use Rattle.answer_model.specs.ImageAnswer.{ShowsObject}
use Rattle.answer_model.specs.ImplibAnswer.{exports_line, implib_outcome}
use Rattle.answer_model.specs.LinkAnswer.{input_of, link_outcome}
use Rattle.answer_model.specs.Loading.{AreRead, IsStopped, file_limit}
use Rattle.answer_model.specs.Outcome.{Outcome, kept, refused, refused_or, says_only, shown}
use Rattle.answer_model.specs.Items.{Item, object, linked, raw, resources}
use Rattle.answer_model.specs.Says.{ComesTo, asked_files}
use Rattle.answer_model.specs.ShowAnswer.{ShowsFile}
use Rattle.answer_model.specs.Words.{Command, image, link, implib, bind, dump, show}
use Rattle.tool_read.specs.Steps.{AreLoads, GivesAll, ReadsAll}
use Rattle.tool_read.specs.declared.bind_files.Binding.{Binding}
use Rattle.tool_read.proofs.Walk.{read_begun}
use Rattle.session_files.proofs.Lines.{stopped_begun}
use Rattle.implib_core.specs.declared.imports.ImportLibrary.{ImportLibrary}
use Rattle.file_commands.specs.Doing.{Does, DoesLink, DoesOutcome, Keeps}
use Rattle.file_commands.specs.ImportLibraries.{IsLibraryOf, IsTooLong}
use Rattle.file_commands.specs.Refusals.{Gives, RefusesBy, RefusesLibrary}
use Rattle.file_commands.proofs.Done.{SavesAs, done_begun, done_kept, done_stopped}

-- ---- files that were not all read

pub not_read : {T : Type 0} (P : T → List Item → Type 0) (command : Command) (calls : List Call) (before now : FilesState) (why : Fail Refused) (r : Result Said NoMemory) → AreLoads calls before now
    → ReadsAll P (asked_files command) calls (Err why) → Gives why r → Does command before now r
not_read P command calls before now (fail.Said own) (Ok said) loads stopped same =
    let Q : Said → Type 0 = λ s. IsStopped (asked_files command) calls s in
    done_stopped command calls before now said loads (subst Q (sym same) stopped)
not_read P command calls before now (fail.Said own) (Err none) loads stopped same =
    done_begun command calls before now none loads (stopped_begun (asked_files command) calls (said_of own) stopped)
not_read P command calls before now fail.NoMemory (Ok said) loads begun same = absurd same
not_read P command calls before now fail.NoMemory (Err none) loads begun same = done_begun command calls before now none loads begun

-- ---- something is said, and nothing saved

pub says_alone : (said : Said) (state : FilesState) → Keeps (says_only said) state state said
says_alone said state = record { saves = []; finished = (refl, refl); had = sym (append-nil state.calls); held = refl }

pub shown_done : (command : Command) (calls : List Call) (items : List Item) (before now : FilesState) (r : Result Said NoMemory) → AreLoads calls before now
    → AreRead (asked_files command) calls items → IfOk r (λ said. ComesTo command items (says_only said)) → Does command before now r
shown_done command calls items before now (Ok said) loads read shows = done_kept command calls items (says_only said) before now loads read shows tt now (Ok said) (says_alone said now)
shown_done command calls items before now (Err none) loads read shows = done_begun command calls before now none loads (read_begun (asked_files command) calls items read)

-- ---- `image`

pub image_done : (name : List ℕ) (base : ℕ) (m : ObjModule) (calls : List Call) (before now : FilesState) (r : Result Said NoMemory) → AreLoads calls before now
    → GivesAll (λ v items. items ≡ object v ∷ []) (asked_files (image name base)) calls m → IfOk r (λ said. ShowsObject base m (says_only said)) → Does (image name base) before now r
image_done name base m calls before now r loads all shows =
    let P : List Item → Type 0 = λ items. IfOk r (λ said. ComesTo (image name base) items (says_only said)) in
    shown_done (image name base) calls all.items before now r loads all.read (subst P (sym all.given) shows)

-- ---- `dump`

said_shown : (text : List ℕ) (r : Result Said NoMemory) → IfOk r (λ said. said ≡ record { status = 0; text = text }) → IfOk r (λ said. says_only said ≡ shown text)
said_shown text (Ok said) is = ap (λ s. says_only s) is
said_shown text (Err none) is = tt

pub dump_done : (name : List ℕ) (m : Parts) (calls : List Call) (before now : FilesState) (r : Result Said NoMemory) → AreLoads calls before now
    → GivesAll (λ v items. items ≡ linked v ∷ []) (asked_files (dump name)) calls m → IfOk r (λ said. said ≡ record { status = 0; text = Dump (listing_of m) }) → Does (dump name) before now r
dump_done name m calls before now r loads all is =
    let P : List Item → Type 0 = λ items. IfOk r (λ said. ComesTo (dump name) items (says_only said)) in
    shown_done (dump name) calls all.items before now r loads all.read (subst P (sym all.given) (said_shown (Dump (listing_of m)) r is))

-- ---- `show`

pub show_done : (name : List ℕ) (bytes : Vec ℕ Global) (calls : List Call) (before now : FilesState) (r : Result Said NoMemory) → AreLoads calls before now
    → GivesAll (λ v items. items ≡ raw v.items ∷ []) (asked_files (show name)) calls bytes → IfOk r (λ said. ShowsFile name bytes.items (says_only said)) → Does (show name) before now r
show_done name bytes calls before now r loads all shows =
    let P : List Item → Type 0 = λ items. IfOk r (λ said. ComesTo (show name) items (says_only said)) in
    shown_done (show name) calls all.items before now r loads all.read (subst P (sym all.given) shows)

-- ---- `link`

saves_or : (name : List ℕ) (refusal : Option (List ℕ)) (bytes text : List ℕ) → SavesAs (name ∷ []) (refused_or name refusal (kept name bytes text)).saved
saves_or name None bytes text = refl
saves_or name (Some why) bytes text = tt

pub link_done : (out : List ℕ) (definition : Option (List ℕ)) (names : List (List ℕ)) (files : LinkFiles) (calls : List Call) (before between now : FilesState) (r : Result Said NoMemory)
    → AreLoads calls before between → GivesAll (λ v items. v.input ≡ input_of out items) (asked_files (link out definition names)) calls files → DoesLink out files.input between now r
    → Does (link out definition names) before now r
link_done out definition names files calls before between now (Ok said) loads all does =
    let P : LinkInput → Type 0 = λ i. IsLinkOf i does.link in
    done_kept (link out definition names) calls all.items (link_outcome out does.link) before between loads all.read
    (record { link = does.link; of_input = subst P all.given does.of_input; comes_to = refl })
    (saves_or out _ _ _) now (Ok said) does.kept
link_done out definition names files calls before between now (Err none) loads all does =
    let P : FilesState → Type 0 = λ s. AreLoads calls before s in
    done_begun (link out definition names) calls before now none (subst P (sym does) loads) (read_begun (asked_files (link out definition names)) calls all.items all.read)

-- ---- `implib`

saves_if : (b : Bool) (name bytes text why : List ℕ) → SavesAs (name ∷ []) (if b then kept name bytes text else refused name why).saved
saves_if true name bytes text why = refl
saves_if false name bytes text why = tt

pub implib_done : (out : List ℕ) (names : List (List ℕ)) (imports : List Imp) (calls : List Call) (items : List Item) (before between now : FilesState) (r : Result Said NoMemory)
    → AreLoads calls before between → (read : AreRead (asked_files (implib out names)) calls items) → ComesTo (implib out names) items (implib_outcome out imports) → DoesOutcome (implib_outcome out imports) between now r
    → Does (implib out names) before now r
implib_done out names imports calls items before between now r loads read comes_to does =
    done_kept (implib out names) calls items (implib_outcome out imports) before between loads read comes_to
    (saves_if (nat_le (library_len (modules_of imports)) file_limit) out (library_bytes (modules_of imports)) (exports_line (length imports)) (codes "LibraryLong")) now r does

pub library_kept : (out : List ℕ) (imports : List Imp) (library : ImportLibrary) (line : List ℕ) (before now : FilesState) (r : Result Said NoMemory) → IsLibraryOf library imports → line ≡ exports_line library.imports
    → DoesOutcome (kept out library.bytes.items line) before now r → DoesOutcome (implib_outcome out imports) before now r
library_kept out imports library line before now r is line_is does =
    let P : Outcome → Type 0 = λ o. DoesOutcome o before now r in
    let same : kept out library.bytes.items line ≡ implib_outcome out imports =
    (λ k. kept out (is.written.bytes_are k) ((line_is ∙ ap (λ n. exports_line n) is.count) k))
    ∙ sym (ap (λ b. if b then kept out (library_bytes (modules_of imports)) (exports_line (length imports)) else refused out (codes "LibraryLong"))
    (le-leb (library_len (modules_of imports)) file_limit is.written.short)) in
    subst P same does

pub library_refused : (out : List ℕ) (imports : List Imp) (why : Fail LibraryLong) (state : FilesState) (r : Result Said NoMemory) → ((refusal : LibraryLong) → why ≡ fail.Said refusal → IsTooLong imports)
    → RefusesLibrary out why r → DoesOutcome (implib_outcome out imports) state state r
library_refused out imports (fail.Said refusal) state (Ok said) long same =
    let P : Outcome → Type 0 = λ o. Keeps o state state said in
    let at : says_only said ≡ implib_outcome out imports =
    ap (λ s. says_only s) same
    ∙ sym (ap (λ b. if b then kept out (library_bytes (modules_of imports)) (exports_line (length imports)) else refused out (codes "LibraryLong"))
    (lt-leb (library_len (modules_of imports)) file_limit (long refusal refl))) in
    subst P at (says_alone said state)
library_refused out imports (fail.Said refusal) state (Err none) long same = refl
library_refused out imports fail.NoMemory state (Ok said) long same = absurd same
library_refused out imports fail.NoMemory state (Err none) long same = refl

-- ---- `bind`

abbrev pub GivesBinding : Binding → List Item → Type 0
GivesBinding b items = items ≡ linked b.target ∷ resources b.items ∷ []

pub bind_done : (out target file : List ℕ) (b : Binding) (calls : List Call) (before between now : FilesState) (r : Result Said NoMemory)
    → AreLoads calls before between → GivesAll GivesBinding (asked_files (bind out target file)) calls b → DoesOutcome (bind_outcome out b.target.file b.items) between now r
    → Does (bind out target file) before now r
bind_done out target file b calls before between now r loads all does =
    let o = bind_outcome out b.target.file b.items in
    let P : List Item → Type 0 = λ items. ComesTo (bind out target file) items o in
    done_kept (bind out target file) calls all.items o before between loads all.read (subst P (sym all.given) refl)
    (saves_or out (option_map bind_text (bind_refusal b.target.file b.items)) (bound_file b.target.file b.items) (counts_of b.items)) now r does

pub bound_kept : (out file : List ℕ) (items : List ResItem) (bytes line : List ℕ) (before now : FilesState) (r : Result Said NoMemory)
    → bind_refusal file items ≡ None → bytes ≡ bound_file file items → line ≡ counts_of items → DoesOutcome (kept out bytes line) before now r → DoesOutcome (bind_outcome out file items) before now r
bound_kept out file items bytes line before now r none bytes_are line_is does =
    let P : Outcome → Type 0 = λ o. DoesOutcome o before now r in
    let same : kept out bytes line ≡ bind_outcome out file items =
    (λ k. kept out (bytes_are k) (line_is k))
    ∙ sym (ap (λ refusal. refused_or out (option_map bind_text refusal) (kept out (bound_file file items) (counts_of items))) none) in
    subst P same does

pub not_bound : {A : Type 0} (P : A → Type 0) (out file : List ℕ) (items : List ResItem) (why : Fail BindRefusal) (state : FilesState) (r : Result Said NoMemory)
    → Answers {A = A} (Err why) P (λ refusal. bind_refusal file items ≡ Some refusal) → RefusesBy bind_text out why r → DoesOutcome (bind_outcome out file items) state state r
not_bound P out file items (fail.Said refusal) state (Ok said) first same =
    let Q : Outcome → Type 0 = λ o. Keeps o state state said in
    let at : says_only said ≡ bind_outcome out file items =
    ap (λ s. says_only s) same
    ∙ sym (ap (λ refusal. refused_or out (option_map bind_text refusal) (kept out (bound_file file items) (counts_of items))) first) in
    subst Q at (says_alone said state)
not_bound P out file items (fail.Said refusal) state (Err none) first same = refl
not_bound P out file items fail.NoMemory state (Ok said) first same = absurd same
not_bound P out file items fail.NoMemory state (Err none) first same = refl
