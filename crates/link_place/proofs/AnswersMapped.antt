-- Clauses on answers, one from another.
use Rattle.std.specs.Prelude.{◌≡◌, Result, Ok, Err, IfOk, MatchResult}
use Rattle.std.proofs.Common.{subst}
use Rattle.lx_types.specs.declared.fail.Fail.{Fail}
use Rattle.lx_types.specs.declared.fail.Fail.TheVariants.{Said, NoMemory}
use Rattle.lx_types.specs.Answers.{Answers}

pub answers-map : {A R : Type 0} (r : Result A (Fail R)) (P P' : A → Type 0) (Q Q' : R → Type 0) → ((a : A) → P a → P' a) → ((e : R) → Q e → Q' e) → Answers r P Q → Answers r P' Q'
answers-map (Ok a) P P' Q Q' f g h = f a h
answers-map (Err (Said e)) P P' Q Q' f g h = g e h
answers-map (Err NoMemory) P P' Q Q' f g h = tt

pub failed_by : {A B R : Type 0} (fail : Fail R) (P : A → Type 0) (P' : B → Type 0) (Q Q' : R → Type 0) → ((e : R) → Q e → Q' e) → Answers {A = A} (Err fail) P Q → Answers {A = B} (Err fail) P' Q'
failed_by (Said e) P P' Q Q' g h = g e h
failed_by NoMemory P P' Q Q' g h = tt

-- A failure that is passed on.
pub answers-failed : {A B R : Type 0} (r : Result A (Fail R)) (fail : Fail R) (P : A → Type 0) (P' : B → Type 0) (Q Q' : R → Type 0) → r ≡ Err fail → ((e : R) → Q e → Q' e) → Answers r P Q → Answers {A = B} (Err fail) P' Q'
answers-failed {A} {B} {R} r fail P P' Q Q' is g h =
    failed_by fail P P' Q Q' g (subst (λ (x : Result A (Fail R)). Answers x P Q) is h)

pub matched-err : {A E : Type 0} (r : Result A E) (e : E) (P : A → Type 0) (Q : E → Type 0) → r ≡ Err e → MatchResult r P Q → Q e
matched-err {A} {E} r e P Q is h = subst (λ (x : Result A E). MatchResult x P Q) is h

pub matched-ok : {A E : Type 0} (r : Result A E) (a : A) (P : A → Type 0) (Q : E → Type 0) → r ≡ Ok a → MatchResult r P Q → P a
matched-ok {A} {E} r a P Q is h = subst (λ (x : Result A E). MatchResult x P Q) is h

-- What holds of the value.
pub answers-value : {A R : Type 0} (r : Result A (Fail R)) (a : A) (P : A → Type 0) (Q : R → Type 0) → r ≡ Ok a → Answers r P Q → P a
answers-value {A} {R} r a P Q is h = subst (λ (x : Result A (Fail R)). Answers x P Q) is h

pub answers-ok : {A R : Type 0} (r : Result A (Fail R)) (P P' : A → Type 0) (Q : R → Type 0) → ((a : A) → P a → P' a) → Answers r P Q → IfOk r P'
answers-ok (Ok a) P P' Q f h = f a h
answers-ok (Err (Said e)) P P' Q f h = tt
answers-ok (Err NoMemory) P P' Q f h = tt
