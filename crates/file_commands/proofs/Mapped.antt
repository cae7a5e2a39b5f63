-- From the map of a link, or its refusal, to what `map` does.
use Rattle.std.proofs.Common.{◌≡◌, ℕ, List, Option, Result, Ok, Err, ap, sym, subst}
use Rattle.std.specs.Prelude.{IfOk, option_map}
use Rattle.lx_types.specs.Answers.{Answers}
use Rattle.lx_types.specs.declared.fail.Fail.{Fail}
use Rattle.lx_types.specs.declared.fail.Fail.TheVariants as fail
use Rattle.lx_types.specs.declared.fail.NoMemory.{NoMemory}
use Rattle.obj_types.specs.declared.input.LinkInput.{LinkInput}
use Rattle.refusal_text.specs.declared.refused.LinkFiles.{LinkFiles}
use Rattle.link_model.specs.declared.refusals.LinkRefusal.{LinkRefusal}
use Rattle.link_core.specs.Links.{RefusesLink}
use Rattle.map_core.specs.Mapped.{IsMapped}
use Rattle.lx_ports.specs.Calls.{Call}
use Rattle.lx_ports.specs.Files.{FilesState}
use Rattle.answer_model.specs.declared.said.Said.{Said}
use Rattle.answer_model.specs.LinkAnswer.{input_with, link_text}
use Rattle.answer_model.specs.MapAnswer.{NAME, MapsInput, ShowsMap}
use Rattle.answer_model.specs.Outcome.{says_only, shown}
use Rattle.answer_model.specs.Says.{asked_files}
use Rattle.answer_model.specs.Words.{link_map}
use Rattle.tool_read.specs.Steps.{AreLoads, GivesAll}
use Rattle.file_commands.specs.Doing.{Does}
use Rattle.file_commands.specs.Refusals.{RefusesAs}
use Rattle.file_commands.proofs.Commands.{shown_done}

pub map_shown : (input : LinkInput) (text put : List ℕ) → IsMapped input text → put ≡ text → MapsInput input (says_only (record { status = 0; text = put }))
map_shown input text put is same =
    let P : Option (List ℕ) → Type 0 = λ why. ShowsMap is.link why (shown put) in
    record { link = is.link; of_input = is.of_input; shows = subst P (sym (ap (option_map link_text) is.accepted)) (text, is.map, ap (λ t. shown t) same) }

map_refusal : (input : LinkInput) (refusal : LinkRefusal) (said : Said) → RefusesLink input refusal → RefusesAs NAME (fail.Said refusal) (Ok said) → MapsInput input (says_only said)
map_refusal input refusal said is same =
    let P : Option (List ℕ) → Type 0 = λ why. ShowsMap is.link why (says_only said) in
    record { link = is.link; of_input = is.of_input; shows = subst P (sym (ap (option_map link_text) is.refused)) (ap (λ s. says_only s) same) }

pub map_refused : {A : Type 0} (P : A → Type 0) (input : LinkInput) (why : Fail LinkRefusal) (r : Result Said NoMemory) → Answers {A = A} (Err why) P (λ refusal. RefusesLink input refusal)
    → RefusesAs NAME why r → IfOk r (λ said. MapsInput input (says_only said))
map_refused P input (fail.Said refusal) (Ok said) by same = map_refusal input refusal said by same
map_refused P input fail.NoMemory (Ok said) by same = absurd same
map_refused P input why (Err none) by same = tt

pub map_done : (definition : Option (List ℕ)) (names : List (List ℕ)) (files : LinkFiles) (calls : List Call) (before now : FilesState) (r : Result Said NoMemory)
    → AreLoads calls before now → GivesAll (λ v items. v.input ≡ input_with NAME items) (asked_files (link_map definition names)) calls files
    → IfOk r (λ said. MapsInput files.input (says_only said)) → Does (link_map definition names) before now r
map_done definition names files calls before now r loads all shows =
    let P : LinkInput → Type 0 = λ i. IfOk r (λ said. MapsInput i (says_only said)) in
    shown_done (link_map definition names) calls all.items before now r loads all.read (subst P all.given shows)
