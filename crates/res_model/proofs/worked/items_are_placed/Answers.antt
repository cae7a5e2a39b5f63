use Rattle.std.proofs.Common.{refl}
use Rattle.res_model.proofs.worked.items_are_placed.Goals as goal

pub returns : goal.returns
returns c = record { size = refl; bytes = refl; padded = refl; empty = refl; no_page = refl; entry = refl; base = refl; even_base = refl; first_base = refl; last_base = refl; no_base = refl; far_base = refl }
