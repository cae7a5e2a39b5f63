-- Where fields one after the other fail.
use Rattle.std.proofs.Common.{◌≡◌, ℕ, ◌≤◌, ◌⊎◌, Bool, true, false, cond, ltb, List, [], ◌∷◌, length, take, not, Result, Ok, Err, refl, sym, ap, inl, inr}
use Rattle.std.proofs.lemmas.Bool.{ltb-false, ltb-true, le-ltb, lt-ltb}
use Rattle.lx_bytes.specs.Cursor.{Cursor, advance}
use Rattle.lx_bytes.specs.LittleEndian.{little}
use Rattle.lx_types.specs.declared.refusal.LxRefusal.{LxRefusal}
use Rattle.lx_types.specs.declared.refusal.LxKind.TheVariants.{Short}
use Rattle.lx_model.specs.Reading.{fault, text, number, Read, ◌>>=◌}
use Rattle.lx_model.specs.Faults.{IsCut, FieldThen, IsCutAmong}
use Rattle.lx_model.proofs.Steps.{done}

abbrev pub refused : {A : Type 0} → LxRefusal → Result A LxRefusal
refused e = Err e

-- where a test decides between a refusal and the rest
pub guard_err : {A : Type 0} (b : Bool) (r e : LxRefusal) (rest : Result A LxRefusal) → cond b (Err r) rest ≡ Err e → ((b ≡ true) × (e ≡ r)) ⊎ ((b ≡ false) × (rest ≡ Err e))
guard_err true r e rest is = inl (refl, (let same : r ≡ e = cc in sym same))
guard_err false r e rest is = inr (refl, is)

by_left : {X A : Type 0} (n : ℕ) (c : Cursor) (value : X) (f : X × Cursor → Result A LxRefusal) (e : LxRefusal) (short : Bool) → ltb (length c.left) n ≡ short →
    (cond short (Err (fault Short c.at)) (Ok (value, advance n c)) >>= f) ≡ Err e → IsCut n c e ⊎ ((n ≤ length c.left) × (f (value, advance n c) ≡ Err e))
by_left n c value f e true is fails = inl (ltb-true _ _ is, (let same : fault Short c.at ≡ e = cc in sym same))
by_left n c value f e false is fails = inr (ltb-false _ _ is, fails)

pub number_err : {A : Type 0} (n : ℕ) (c : Cursor) (f : ℕ × Cursor → Result A LxRefusal) (e : LxRefusal) →
    (number n c >>= f) ≡ Err e → IsCut n c e ⊎ ((n ≤ length c.left) × (f (little (take n c.left), advance n c) ≡ Err e))
number_err n c f e fails = by_left n c (little (take n c.left)) f e (ltb (length c.left) n) refl fails

pub text_err : {A : Type 0} (n : ℕ) (c : Cursor) (f : List ℕ × Cursor → Result A LxRefusal) (e : LxRefusal) → (text n c >>= f) ≡ Err e → IsCut n c e ⊎ ((n ≤ length c.left) × (f (take n c.left, advance n c) ≡ Err e))
text_err n c f e fails = by_left n c (take n c.left) f e (ltb (length c.left) n) refl fails

-- the other way round
pub number_cut : {A : Type 0} (n : ℕ) (c : Cursor) (f : ℕ × Cursor → Result A LxRefusal) (e : LxRefusal) → IsCut n c e → (number n c >>= f) ≡ Err e
number_cut n c f e cut = let there = lt-ltb _ _ cut.0 in let same = cut.1 in rw (there, same) refl

pub number_there : {A : Type 0} (n : ℕ) (c : Cursor) (f : ℕ × Cursor → Result A LxRefusal) (r : Result A LxRefusal) → n ≤ length c.left → f (little (take n c.left), advance n c) ≡ r → (number n c >>= f) ≡ r
number_there n c f r le is = let there = le-ltb _ _ le in rw there is

pub text_cut : {A : Type 0} (n : ℕ) (c : Cursor) (f : List ℕ × Cursor → Result A LxRefusal) (e : LxRefusal) → IsCut n c e → (text n c >>= f) ≡ Err e
text_cut n c f e cut = let there = lt-ltb _ _ cut.0 in let same = cut.1 in rw (there, same) refl

pub text_there : {A : Type 0} (n : ℕ) (c : Cursor) (f : List ℕ × Cursor → Result A LxRefusal) (r : Result A LxRefusal) → n ≤ length c.left → f (take n c.left, advance n c) ≡ r → (text n c >>= f) ≡ r
text_there n c f r le is = let there = le-ltb _ _ le in rw there is

-- readings one after the other, grouped in either way
pub regroup : {A B C : Type 0} (r : Result A LxRefusal) (f : A → Result B LxRefusal) (g : B → Result C LxRefusal) → ((r >>= f) >>= g) ≡ (r >>= λ x. f x >>= g)
regroup (Ok x) f g = refl
regroup (Err e) f g = refl

-- ---- a reading that fails exactly so

-- the reading of a step at a cursor fails exactly where this is wrong
pub record Faults {A : Type 0} (read : Cursor → Read A) (Wrong : Cursor → LxRefusal → Type 0) : Type 0 where
  pub fails : (c : Cursor) (e : LxRefusal) → read c ≡ Err e → Wrong c e
  pub failed : (c : Cursor) (e : LxRefusal) → Wrong c e → read c ≡ Err e

pub good_ends : {A : Type 0} (x : A) (e : LxRefusal) → done x ≡ Err e → ⊥
good_ends x e is = absurd cc

-- one field, and then what is read by its value
pub field_faults : {A : Type 0} (n : ℕ) (f : Cursor → ℕ → Cursor → Read A) (After : Cursor → LxRefusal → ℕ → Cursor → Type 0) →
    ((c : Cursor) (x : ℕ) (e : LxRefusal) (d : Cursor) → f c x d ≡ Err e → After c e x d) → ((c : Cursor) (x : ℕ) (e : LxRefusal) (d : Cursor) → After c e x d → f c x d ≡ Err e) →
    Faults (λ c. number n c >>= λ x. f c x.0 x.1) (λ c e. FieldThen n c e (After c e))
field_faults n f After to from = record {
  fails = λ c e is. elim (number_err n c (λ x. f c x.0 x.1) e is) [
    | inl cut ↦ inl cut
    | inr there ↦ inr (there.0, to c (little (take n c.left)) e (advance n c) there.1)
  ];
  failed = λ c e wrong. elim wrong [
    | inl cut ↦ number_cut n c (λ x. f c x.0 x.1) e cut
    | inr there ↦ number_there n c (λ x. f c x.0 x.1) (Err e) there.0 (from c (little (take n c.left)) e (advance n c) there.1)
  ];
}

-- the last field, and one before others
pub last_field : {A : Type 0} (n : ℕ) (f : ℕ → Cursor → A × Cursor) → Faults (λ c. number n c >>= λ x. done (f x.0 x.1)) (IsCutAmong (n ∷ []))
last_field n f = field_faults n (λ c x d. done (f x d)) (λ c e x d. ⊥) (λ c x e d is. good_ends (f x d) e is) (λ c x e d wrong. absurd wrong)

pub next_field : {A : Type 0} (n : ℕ) (f : ℕ → Cursor → Read A) (ns : List ℕ) → ((x : ℕ) → Faults (f x) (IsCutAmong ns)) → Faults (λ c. number n c >>= λ x. f x.0 x.1) (IsCutAmong (n ∷ ns))
next_field n f ns others = field_faults n (λ c x d. f x d) (λ c e x d. IsCutAmong ns d e) (λ c x e d is. (others x).fails d e is) (λ c x e d wrong. (others x).failed d e wrong)

-- a value that has to be allowed
pub allowed_to : {A : Type 0} (b : Bool) (r : LxRefusal) (rest : Result A LxRefusal) (e : LxRefusal) (W : Type 0) → (rest ≡ Err e → W) → cond (not b) (Err r) rest ≡ Err e → ((b ≡ false) × (e ≡ r)) ⊎ ((b ≡ true) × W)
allowed_to true r rest e W h is = inr (refl, h is)
allowed_to false r rest e W h is = inl (refl, (let same : r ≡ e = cc in sym same))

pub allowed_from : {A : Type 0} (b : Bool) (r : LxRefusal) (rest : Result A LxRefusal) (e : LxRefusal) (W : Type 0) → (W → rest ≡ Err e) → ((b ≡ false) × (e ≡ r)) ⊎ ((b ≡ true) × W) → cond (not b) (Err r) rest ≡ Err e
allowed_from b r rest e W h (inl wrong) = let no_ = wrong.0 in let same = wrong.1 in rw (no_, same) refl
allowed_from b r rest e W h (inr right) = let yes_ = right.0 in rw yes_ (h right.1)

-- a refusal is the one that a reading hands on
pub fails_as : {A B : Type 0} (f : A → Result B LxRefusal) (x e : LxRefusal) → (refused {A = A} x >>= f) ≡ Err e → refused {A = A} x ≡ Err e
fails_as f x e is = let same : x ≡ e = cc in ap (λ (y : LxRefusal). refused y) same
