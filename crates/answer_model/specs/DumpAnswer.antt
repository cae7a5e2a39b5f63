-- What `dump FILE` comes to: the text of the module's lists. Nothing is saved.
use Rattle.std.specs.Prelude.{◌≡◌, List, [], ◌∷◌}
use Rattle.dump_model.specs.Dumps.{Dump}
use Rattle.dump_model.specs.Listings.{listing_of}
use Rattle.answer_model.specs.Outcome.{Outcome, shown}
use Rattle.answer_model.specs.Items.{Item, linked}

abbrev pub DumpAnswer : List Item → Outcome → Type 0
DumpAnswer (linked m ∷ []) outcome = outcome ≡ shown (Dump (listing_of m))
DumpAnswer _ outcome = ⊥
