-- Optional items, and what is made of them; what holds of an answer that is no error.
use Rattle.std.proofs.Common.{◌≡◌, Option, Some, None, option_map, IsSome, IsSomeAnd, Result, Ok, Err, IfOk, refl}
use Rattle.std.specs.Option.{option_or}

pub mapped_some : {X Y : Type 0} (f : X → Y) (o : Option X) → IsSome o → IsSome (option_map f o)
mapped_some f None h = h
mapped_some f (Some x) h = refl

pub mapped_none : {X Y : Type 0} (f : X → Y) (o : Option X) → option_map f o ≡ None → o ≡ None
mapped_none f None h = refl
mapped_none f (Some x) h = absurd cc

pub some_and : {X : Type 0} (o : Option X) (P : X → Type 0) → IsSomeAnd o P → IsSome o
some_and None P h = absurd h
some_and (Some x) P h = refl

pub or_none : {A : Type 0} (o : Option A) → option_or o None ≡ o
or_none None = refl
or_none (Some x) = refl

pub ok_weaker : {A E : Type 0} (P Q : A → Type 0) (r : Result A E) → ((a : A) → P a → Q a) → IfOk r P → IfOk r Q
ok_weaker P Q (Ok a) f h = f a h
ok_weaker P Q (Err e) f h = h
