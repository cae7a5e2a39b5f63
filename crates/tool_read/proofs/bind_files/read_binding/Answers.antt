use Rattle.std.proofs.Common.{◌≡◌, ℕ, List, [], ◌∷◌, ◌++◌, Result, Ok, Err}
use Rattle.lx_types.specs.declared.parts.Parts.{Parts}
use Rattle.res_model.specs.declared.item.ResItem.{ResItem}
use Rattle.answer_model.specs.Items.{Item, linked, module_file, resources, resource_file}
use Rattle.tool_read.specs.Readings.{asked}
use Rattle.tool_read.specs.declared.bind_files.Binding.{Binding}
use Rattle.tool_read.proofs.Walk.{both_read, in_turn, stopped_first, stopped_second}
use Rattle.tool_read.proofs.bind_files.read_binding.Goals as goal

abbrev IsTarget : Parts → List Item → Type 0
IsTarget m items = items ≡ linked m ∷ []

abbrev AreItems : List ResItem → List Item → Type 0
AreItems xs items = items ≡ resources xs ∷ []

abbrev IsBinding : Binding → List Item → Type 0
IsBinding b items = items ≡ linked b.target ∷ resources b.items ∷ []

pub returns-in-Ok-read_resources-clause-read : goal.returns-in-Ok-read_resources-clause-read
returns-in-Ok-read_resources-clause-read g c =
    let one = c.in-Ok.ensures.read in
    let two = c.in-Ok-read_resources.ensures.read in
    let m = c.in-Ok.target in
    let xs = c.in-Ok-read_resources.items in
    both_read IsTarget AreItems IsBinding (asked module_file c.args.name.now ∷ []) (asked resource_file c.args.file.now ∷ []) _ _ _ m xs (record { target = m; items = xs })
    (in_turn linked module_file c.args.name.now one.0 _ _ (Ok m) one.1 one.2)
    (in_turn resources resource_file c.args.file.now two.0 _ _ (Ok xs) two.1 two.2)
    (λ calls is js target read items. (λ k. target k ++ items k))

pub returns-in-Err-read_resources-clause-read : goal.returns-in-Err-read_resources-clause-read
returns-in-Err-read_resources-clause-read g c =
    let one = c.in-Ok.ensures.read in
    let two = c.in-Err-read_resources.ensures.read in
    let m = c.in-Ok.target in
    let why = c.in-Err-read_resources.why in
    stopped_second IsTarget AreItems IsBinding (asked module_file c.args.name.now ∷ []) (asked resource_file c.args.file.now ∷ []) _ _ _ m why
    (in_turn linked module_file c.args.name.now one.0 _ _ (Ok m) one.1 one.2)
    (in_turn resources resource_file c.args.file.now two.0 _ _ (Err why) two.1 two.2)

pub returns-in-Err-clause-read : goal.returns-in-Err-clause-read
returns-in-Err-clause-read g c =
    let one = c.in-Err.ensures.read in
    let why = c.in-Err.why in
    stopped_first IsTarget IsBinding (asked module_file c.args.name.now ∷ []) (asked resource_file c.args.file.now ∷ []) _ _ why
    (in_turn linked module_file c.args.name.now one.0 _ _ (Err why) one.1 one.2)
