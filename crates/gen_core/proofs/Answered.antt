-- What a call answered that was refused.
use Rattle.std.specs.Prelude.{◌≡◌, Err}
use Rattle.std.proofs.Common.{subst}
use Rattle.lx_types.specs.Answers.{Answers}
use Rattle.lx_types.specs.declared.fail.Fail.{Fail}
use Rattle.lx_types.specs.declared.fail.Fail.TheVariants.{Said}

pub refused_with : {A R : Type 0} (P : A → Type 0) (Q : R → Type 0) (fail : Fail R) (refusal : R) → fail ≡ Said refusal → Answers (Err fail) P Q → Q refusal
refused_with P Q fail refusal is answers = subst (λ f. Answers (Err f) P Q) is answers
