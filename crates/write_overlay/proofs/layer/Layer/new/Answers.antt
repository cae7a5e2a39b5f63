-- A copy of none is none.
use Rattle.write_overlay.proofs.Layering.{only_none}
use Rattle.write_overlay.proofs.layer.Layer.new.Goals as goal

pub returns : goal.returns
returns c = c.in_ok-bytes.ensures.items_if_clones_equal (only_none _ (λ b h. h))
