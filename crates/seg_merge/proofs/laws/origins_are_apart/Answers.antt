use Rattle.link_model.specs.Communals.{parts}
use Rattle.seg_merge.proofs.OriginsOfParts.{parts-distinct, earlier-other}
use Rattle.seg_merge.proofs.laws.origins_are_apart.Goals as goal

pub returns : goal.returns
returns c = λ l i j d lt below. earlier-other (parts l) (parts-distinct l) i j d lt below
