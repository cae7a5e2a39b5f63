use Rattle.std.proofs.Common.{refl, Ok, Err}
use Rattle.std.specs.Fmt.{digits}
use Rattle.lx_ports.specs.declared.files.SaveFault.TheVariants.{Failed}
use Rattle.answer_model.proofs.worked.gen_saves_are_said.Goals as goal

pub returns : goal.returns
unfolding digits
returns c =
    record {
      order = refl;
      named = refl;
      all = (Ok tt, refl, (Ok tt, refl, (refl, refl)));
      second = (Ok tt, refl, (Err Failed, refl, (refl, refl)));
      first = (Err Failed, refl, (refl, refl));
    }
