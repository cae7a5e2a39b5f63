use Rattle.link_model.proofs.FixupsStay.{fixups_stay}
use Rattle.link_model.proofs.laws.no_fixup_is_dropped.Goals as goal

pub returns : goal.returns
returns c = fixups_stay
