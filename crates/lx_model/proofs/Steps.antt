-- Readings one after the other: what succeeds, and what a test decides.
use Rattle.std.proofs.Common.{◌≡◌, Bool, true, false, cond, Option, Some, None, Result, Ok, Err, refl, ap, subst}
use Rattle.lx_bytes.specs.Cursor.{Cursor}
use Rattle.lx_types.specs.declared.refusal.LxRefusal.{LxRefusal}
use Rattle.lx_model.specs.Reading.{◌>>=◌, Read}

pub bind_ok : {A B : Type 0} (r : Result A LxRefusal) (f : A → Result B LxRefusal) (y : B) → (r >>= f) ≡ Ok y → (x : A) × (r ≡ Ok x) × (f x ≡ Ok y)
bind_ok (Ok x) f y e = (x, refl, e)
bind_ok (Err d) f y e = absurd cc

abbrev pub done : {A : Type 0} → A → Result A LxRefusal
done x = Ok x

pub guard_ok : {A : Type 0} (b : Bool) (e : LxRefusal) (r : Result A LxRefusal) (y : A) → cond b (Err e) r ≡ Ok y → (b ≡ false) × (r ≡ Ok y)
guard_ok true e r y h = absurd cc
guard_ok false e r y h = (refl, h)

pub then_ok : {A B : Type 0} (r : Result A LxRefusal) (f : A → Result B LxRefusal) (x : A) (y : Result B LxRefusal) → r ≡ Ok x → f x ≡ y → (r >>= f) ≡ y
then_ok r f x y is next = rw is next

pub chosen : {A : Type 0} (b : Bool) (r s : Result A LxRefusal) → b ≡ true → cond b r s ≡ r
chosen true r s h = refl
chosen false r s h = absurd cc

pub other : {A : Type 0} (b : Bool) (r s : Result A LxRefusal) → b ≡ false → cond b r s ≡ s
other true r s h = absurd cc
other false r s h = refl

-- a step that ends gives no item
pub never : {X : Type 0} (c d : Cursor) (x : X) (r : Read (Option X)) → r ≡ Ok (None, c) → r ≡ Ok (Some x, d) → ⊥
never {X} c d x r p q =
    let pair : (None, c) ≡ (Some x, d) = cc in
    let option : None ≡ Some x = ap (λ (y : Option X × Cursor). y.0) pair in
    absurd cc

-- what holds of the item that a step gives
pub at_item : {X : Type 0} (P : X → Cursor → Type 0) (a x : X) (c d : Cursor) → done {A = Option X × Cursor} (Some a, c) ≡ Ok (Some x, d) → P a c → P x d
at_item {X} P a x c d e h =
    let pair : (Some a, c) ≡ (Some x, d) = cc in
    let option : Some a ≡ Some x = ap (λ (y : Option X × Cursor). y.0) pair in
    let end : c ≡ d = ap (λ (y : Option X × Cursor). y.1) pair in
    let value : a ≡ x = cc in
    subst (λ (y : Cursor). P x y) end (subst (λ (y : X). P y c) value h)
