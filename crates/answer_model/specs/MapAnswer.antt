-- What `map DEF IN ..` comes to: the map of what the files link to, or the link's refusal. Nothing is saved.
use Rattle.std.specs.Prelude.{◌≡◌, ℕ, List, codes, Option, Some, None, option_map}
use Rattle.obj_types.specs.declared.input.LinkInput.{LinkInput}
use Rattle.link_model.specs.Link.{Link, IsLinkOf}
use Rattle.link_model.specs.Refusal.{link_refusal}
use Rattle.image_model.specs.Linked.{called}
use Rattle.map_model.specs.Maps.{IsMap}
use Rattle.answer_model.specs.LinkAnswer.{input_with, link_text}
use Rattle.answer_model.specs.Outcome.{Outcome, shown, refused}
use Rattle.answer_model.specs.Items.{Item}

-- The stem of the module's name, and the name of its refusals.
abbrev pub NAME : List ℕ
NAME = codes "MAP"

-- The map under the module's name, where the link has no refusal.
abbrev pub ShowsMap : Link → Option (List ℕ) → Outcome → Type 0
ShowsMap l (Some why) outcome = outcome ≡ refused NAME why
ShowsMap l None outcome = (text : List ℕ) × IsMap (called l) l text × (outcome ≡ shown text)

pub record MapsInput (input : LinkInput) (outcome : Outcome) : Type 0 where
  pub link : Link
  pub of_input : IsLinkOf input link
  pub shows : ShowsMap link (option_map link_text (link_refusal link)) outcome

abbrev pub MapAnswer : List Item → Outcome → Type 0
MapAnswer items outcome = MapsInput (input_with NAME items) outcome
