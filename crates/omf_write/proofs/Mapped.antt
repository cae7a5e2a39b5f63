-- What follows from what a call answers.
use Rattle.std.proofs.Common.{Result, Ok, Err}
use Rattle.std.specs.Prelude.{IfOk}
use Rattle.lx_types.specs.Answers.{Answers}
use Rattle.lx_types.specs.declared.fail.Fail.{Fail}
use Rattle.lx_types.specs.declared.fail.Fail.TheVariants.{Said, NoMemory}

pub answer_follows : {A R : Type 0} (P Q : A → Type 0) (W : R → Type 0) (r : Result A (Fail R)) → ((a : A) → P a → Q a) → Answers r P W → IfOk r Q
answer_follows P Q W (Ok a) f h = f a h
answer_follows P Q W (Err (Said e)) f h = tt
answer_follows P Q W (Err NoMemory) f h = tt

pub both_follow : {A E : Type 0} (P R Q : A → Type 0) (r : Result A E) → ((a : A) → P a → R a → Q a) → IfOk r P → IfOk r R → IfOk r Q
both_follow P R Q (Ok a) f h k = f a h k
both_follow P R Q (Err e) f h k = h
