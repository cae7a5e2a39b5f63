use Rattle.gen_laws.proofs.FirstFit.{first_fit}
use Rattle.gen_laws.proofs.FirstGather.{first_gather}
use Rattle.gen_laws.proofs.FirstPlaces.{first_places}
use Rattle.gen_laws.proofs.laws.modules_load.Goals as goal

pub returns : goal.returns
returns c = record {
  gather = first_gather c.inputs_are_whole.ensures;
  fit = first_fit c.inputs_are_whole.ensures;
  places = first_places c.inputs_are_whole.ensures;
}
