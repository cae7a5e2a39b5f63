use Rattle.lx_model.proofs.ExportsRead.{exports_again}
use Rattle.lx_model.proofs.OneList.{bundles_one}
use Rattle.lx_model.proofs.laws.exports_are_read.Goals as goal

pub returns-clause-read : goal.returns-clause-read
returns-clause-read c = exports_again

pub returns-clause-one : goal.returns-clause-one
returns-clause-one c = bundles_one
