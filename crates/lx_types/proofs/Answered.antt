-- What follows from what a call answered.
use Rattle.std.proofs.Common.{◌≡◌, Option, Result, Ok, Err, sym, subst, ◌∙◌}
use Rattle.lx_types.specs.declared.fail.Fail.{Fail}
use Rattle.lx_types.specs.declared.fail.Fail.TheVariants.{Said, NoMemory}
use Rattle.lx_types.specs.Answers.{as_is, if_said, Tells, Reads, Yields, as_said}

-- what is told of a reading is told of another that ends with it
pub tells-on : {A B F : Type 0} (e : Fail F) (read : Result A F) (other : Result B F) → ((f : F) → read ≡ Err f → other ≡ Err f) → Tells (if_said e) read → Tells (if_said e) other
tells-on (Said f) read other on h = on f h
tells-on NoMemory read other on h = tt

pub yields-reads : {A B C E F : Type 0} (view : A → B) (told : E → Option F) (r : Result A E) (read : C → Result (B × C) F) (old new : C) → Yields view told r read old new → Reads view told r read old new
yields-reads view told (Ok x) read old new h = h
yields-reads view told (Err e) read old new h = h.0

-- ---- a call that is refused for a fault, within one that takes memory

-- what it read
pub said-reads : {A B C F : Type 0} (view : A → B) (r : Result A F) (x : A) (read : C → Result (B × C) F) (old new : C) → Reads view as_is r read old new → Ok x ≡ as_said r → read old ≡ Ok (view x, new)
said-reads view (Ok y) x read old new h is = let same : y ≡ x = cc in h ∙ (λ i. Ok (view (same i), new))
said-reads {A} {B} {C} {F} view (Err f) x read old new h is = absurd (let yes : Result A (Fail F) = Ok x in let no : yes ≡ Err (Said f) = is in cc)

pub said-yields : {A B C F : Type 0} (view : A → B) (r : Result A F) (x : A) (read : C → Result (B × C) F) (old new : C) → Yields view as_is r read old new → Ok x ≡ as_said r → read old ≡ Ok (view x, new)
said-yields view (Ok y) x read old new h is = let same : y ≡ x = cc in h ∙ (λ i. Ok (view (same i), new))
said-yields {A} {B} {C} {F} view (Err f) x read old new h is = absurd (let yes : Result A (Fail F) = Ok x in let no : yes ≡ Err (Said f) = is in cc)

-- what it was refused for
pub said-tells : {A B C F : Type 0} (view : A → B) (r : Result A F) (e : Fail F) (read : C → Result (B × C) F) (old new : C) → Reads view as_is r read old new → Err e ≡ as_said r → Tells (if_said e) (read old)
said-tells {A} {B} {C} {F} view (Ok x) e read old new h is = absurd (let no : Result A (Fail F) = Err e in let yes : no ≡ Ok x = is in cc)
said-tells {A} {B} {C} {F} view (Err f) e read old new h is =
    let same : e ≡ Said f = cc in
    subst (λ (e : Fail F). Tells (if_said e) (read old)) (sym same) h
