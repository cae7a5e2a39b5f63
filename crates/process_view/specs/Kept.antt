-- What the fields of a view stand for, and what they keep among themselves.
use Rattle.std.specs.Prelude.{◌≡◌, ◌-◌, map, length, true, All, vec_capacity, vec_len}
use Rattle.load_model.specs.State.{pids, is_among}
use Rattle.process_view.specs.ProcessViews.{ProcessView, fresh_shown}
use Rattle.process_pages.specs.ReachedResidences.{residences_in, IsPlaced, AreApart, ArePagesOf}
use Rattle.process_pages.specs.ResidenceFinders.{AreRight}
use Rattle.process_view.specs.declared.view.View.TheInside.{Inside}

abbrev pub view_of : Inside → ProcessView
view_of v = record {
  library = v.lib;
  holding =
      record {
        pid = v.pid;
        ended = v.ended;
        counts = v.counts;
        residences = map fresh_shown (residences_in v.residences.items);
        mapped = v.pages.items;
        front = v.front;
      };
  residences = residences_in v.residences.items;
  page_room = vec_capacity v.pages - vec_len v.pages;
  residence_room = vec_capacity v.residences - vec_len v.residences;
}

-- The process is one of 16, both counts are by module, all its residences are placed, they are found where they stand, and
-- what is mapped are pages of theirs, each once.
pub record Keeps (v : Inside) : Type 0 where
  pub process : is_among pids v.pid ≡ true
  pub loads : length v.counts.loads ≡ length v.lib
  pub reached : length v.counts.reached ≡ length v.lib
  pub placed : All (IsPlaced v.lib v.pages.items) v.residences.items
  pub apart : AreApart (residences_in v.residences.items)
  pub found : AreRight v.finder (residences_in v.residences.items)
  pub mapped : ArePagesOf (residences_in v.residences.items) v.pages.items
