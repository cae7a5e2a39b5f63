-- What a view finds by its arrays.
use Rattle.std.specs.Prelude.{◌≡◌, ℕ, ◌<◌, ◌==◌, List, length, find, Option, Some, None, option_map, is_none, slice_index_or}
use Rattle.page_frames.specs.Residences.{ResidenceFor}
use Rattle.load_model.specs.declared.commands.Command.{Command}
use Rattle.load_model.specs.declared.commands.Command.TheVariants as commands
use Rattle.load_model.specs.declared.commands.Place.{Place}
use Rattle.load_model.specs.declared.commands.Refusal.{Refusal}
use Rattle.load_model.specs.declared.commands.Refusal.TheVariants.{NotTouched}
use Rattle.load_model.specs.declared.deeds.How.{How}
use Rattle.load_model.specs.declared.deeds.How.TheVariants as ways
use Rattle.lx_model.specs.Fixed.{base_of}
use Rattle.load_model.specs.Modules.{Spot, number_of}
use Rattle.load_model.specs.Memory.{page, pages_over}
use Rattle.load_model.specs.Entering.{residence_from}
use Rattle.load_model.specs.ViewAnswers.{reached_named}
use Rattle.process_view.specs.declared.purposes.Purpose.{Purpose}
use Rattle.process_view.specs.declared.purposes.Purpose.TheVariants as purposes
use Rattle.process_pages.specs.PageRows.{PagePlaces, place_in}
use Rattle.process_pages.specs.ReachedResidences.{residence_in, IsPlaced}
use Rattle.process_pages.specs.declared.reached_residences.ReachedResidence.{ReachedResidence}
use Rattle.process_view.specs.ProcessViews.{ProcessView, fresh_shown}

-- a start or a load, by name
abbrev pub enter_command : How → List ℕ → Command
enter_command ways.Start name = commands.Start name
enter_command ways.Load name = commands.Load name

-- The k-th residence that the process reaches is that of the module which a name means.
pub record IsReachedNamed (v : ProcessView) (name : List ℕ) (k : ℕ) : Type 0 where
  pub within : k < length v.residences
  pub named : (d : ResidenceFor) → number_of v.library name ≡ Some (slice_index_or v.residences k d).«module»
  pub residence : (d : ResidenceFor) → reached_named v.library v.holding name ≡ Some (residence_from (fresh_shown (slice_index_or v.residences k d)))

-- The k-th residence that the process reaches is kept so, each of its pages with its place among those that are mapped.
pub record IsReachedAt (v : ProcessView) (k : ℕ) (s : ReachedResidence) : Type 0 where
  pub is : (d : ResidenceFor) → slice_index_or v.residences k d ≡ residence_in s
  pub placed : IsPlaced v.library v.holding.mapped s

-- the residence of a module, among those of a process
abbrev pub residence_with : List ResidenceFor → ℕ → Option ResidenceFor
residence_with rs m = find (λ r. r.«module» == m) rs

-- the base of the object of a spot, in its module's residence
abbrev pub base_if : Spot → Option ResidenceFor → ℕ
base_if spot None = 0
base_if spot (Some r) = base_of r.bases r.«module» spot.object

-- ---- pages by their places

-- the refusal of a place whose pages have these places
abbrev pub unmapped_refusal : PagePlaces → Place → Option Refusal
unmapped_refusal rows at = option_map NotTouched (find (λ n. is_none (place_in rows (page at.object n))) (pages_over at.offset at.len))

abbrev pub touch_refusal_by : Purpose → PagePlaces → Place → Option Refusal
touch_refusal_by purposes.Touch rows at = None
touch_refusal_by purposes.Write rows at = unmapped_refusal rows at
touch_refusal_by purposes.Share rows at = unmapped_refusal rows at
touch_refusal_by purposes.Peek rows at = unmapped_refusal rows at
touch_refusal_by purposes.Debug rows at = unmapped_refusal rows at
