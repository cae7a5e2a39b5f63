use Rattle.std.proofs.Common.{refl, arith}
use Rattle.lx_model.proofs.worked.exports_written.Goals as goal

pub returns : goal.returns
returns c = record {
  resident = refl;
  others = refl;
  description = refl;
  bundles = record { each = refl; some = (omega arith, tt); most = (omega arith, tt); joined = tt };
  entries = refl;
  kinds = record {
    each = refl;
    some = (omega arith, (omega arith, (omega arith, tt)));
    most = (omega arith, (omega arith, (omega arith, tt)));
    joined = (λ same. absurd cc, (λ same. absurd cc, tt));
  };
  others_entries = refl;
}
