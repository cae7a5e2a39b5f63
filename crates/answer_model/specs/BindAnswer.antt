-- What `bind OUT MODULE RES` comes to: the module's file with the items of the resource file, and a line of counts, or why they
-- are not bound.
use Rattle.std.specs.Prelude.{◌≡◌, ℕ, List, [], ◌∷◌, ◌++◌, codes, length, option_map, sum_by}
use Rattle.std.specs.Fmt.{decimal}
use Rattle.answer_model.specs.ResourceRefusals.{bind_text}
use Rattle.res_model.specs.declared.item.ResItem.{ResItem}
use Rattle.res_model.specs.Bound.{bound_file}
use Rattle.res_model.specs.Refusal.{bind_refusal}
use Rattle.answer_model.specs.Outcome.{Outcome, kept, refused_or}
use Rattle.answer_model.specs.Items.{Item, linked, resources}

-- `resources N bytes B`: the bytes of all items together
abbrev pub resources_line : ℕ → ℕ → List ℕ
resources_line count bytes = codes "resources " ++ (decimal count ++ (codes " bytes " ++ (decimal bytes ++ 10 ∷ [])))

abbrev pub counts_of : List ResItem → List ℕ
counts_of items = resources_line (length items) (sum_by (λ i. length i.bytes) items)

abbrev pub bind_outcome : List ℕ → List ℕ → List ResItem → Outcome
bind_outcome out file items = refused_or out (option_map bind_text (bind_refusal file items)) (kept out (bound_file file items) (counts_of items))

abbrev pub BindAnswer : List ℕ → List Item → Outcome → Type 0
BindAnswer out (linked m ∷ resources items ∷ []) outcome = outcome ≡ bind_outcome out m.file items
BindAnswer out _ outcome = ⊥
