use Rattle.std.proofs.Common.{sym}
use Rattle.omf_data.proofs.Places.{place-after}
use Rattle.omf_data.proofs.begun.BegunPlaces.place_of.Goals as goal

pub returns-in-None : goal.returns-in-None
returns-in-None c = λ begun have all. place-after c.args.self.now begun have all c.args.name.now (sym c.in-None.ensures)
