-- What follows from answers, and how names, texts and numbers are answered.
use Rattle.std.proofs.Common.{◌≡◌, ◌≢◌, ℕ, ◌≤◌, ◌%◌, List, [], length, Result, Ok, Err, refl, arith, ap, sym, ◌∙◌, cond, Bool, true, false, nat_lt, ◌&&◌, nat_le}
use Rattle.std.specs.Prelude.{◌==◌, Option, Some, None}
use Rattle.std.proofs.lemmas.Bool.Decides.{nat_tests}
use Rattle.std.proofs.lemmas.Bool.{both_ways}
use Rattle.obj_types.specs.Definition.{IsBase}
use Rattle.def_tokens.proofs.TokenLaws.{if-first}
use Rattle.lx_types.specs.Answers.{◌>>=◌}
use Rattle.def_model.specs.declared.refusal.DefKind.{DefKind}
use Rattle.def_model.specs.declared.refusal.DefKind.TheVariants as kinds
use Rattle.def_model.specs.declared.draft.Reading.{Reading}
use Rattle.def_model.specs.TokenMeaning.{name_of, text_of, within, base_of, with_name}
use Rattle.def_file.proofs.SaysLaws.{name-is, within-is}
use Rattle.def_grammar.specs.Statements.{Written, identifier, quoted, name_token}
use Rattle.def_grammar.specs.Rules.{IsName, IsText, bytes_of}

pub bound : {A B E : Type 0} (answer : Result A E) (x : A) (go : A → Result B E) → answer ≡ Ok x → (answer >>= go) ≡ go x
bound answer x go h = ap (λ a. a >>= go) h

pub bound_either : {A B E : Type 0} (b : Bool) (e : E) (x : A) (go : A → Result B E) → (cond b (Err e) (Ok x) >>= go) ≡ cond b (Err e) (go x)
bound_either true e x go = refl
bound_either false e x go = refl

-- Where a name may stand, a name is taken.
pub name_taken : {A : Type 0} (name : Written) (go : List ℕ → Result A DefKind) (other : Result A DefKind) → IsName name → with_name (name_token name) go other ≡ go (bytes_of name)
name_taken (identifier bytes) go other h = bound (name_of bytes) bytes go (name-is bytes h.some h.short)
name_taken (quoted bytes) go other h = bound (name_of bytes) bytes go (name-is bytes h.some h.short)

pub base_taken : (n : ℕ) → IsBase n → base_of (Some n) ≡ Ok n
base_taken n h =
    bound (within 0x10000 0x1FFF0000 (Some n)) n (λ m. cond (m % 65536 == 0) (Ok m) (Err kinds.Number)) (within-is 0x10000 0x1FFF0000 n h.1 h.2)
    ∙ if-first (n % 65536 == 0) _ _ (ap (λ m. m == 0) h.0)

-- ---- what was answered well

abbrev pub good : Reading → Result Reading DefKind
good r = Ok r

abbrev pub refusal : DefKind → Result Reading DefKind
refusal k = Err k

pub good_is : (x y : Reading) → good x ≡ Ok y → x ≡ y
good_is x y h = cc

pub not_good : (k : DefKind) (y : Reading) → refusal k ≡ Ok y → ⊥
not_good k y h = cc

pub record Taken {A : Type 0} (Fits : Type 0) (x : A) (go : A → Result Reading DefKind) (r : Reading) : Type 0 where
  pub fits : Fits
  pub goes : go x ≡ Ok r

-- One of two, where the other is a refusal.
pub unless_refused : {A : Type 0} (b : Bool) (k : DefKind) (x : A) (go : A → Result Reading DefKind) (r : Reading)
    → (cond b (Err k) (Ok x) >>= go) ≡ Ok r → Taken (b ≡ false) x go r
unless_refused true k x go r h = absurd (not_good k r h)
unless_refused false k x go r h = record { fits = refl; goes = h }

text_by : (bytes : List ℕ) (go : List ℕ → Result Reading DefKind) (r : Reading) (c : Bool) → nat_lt 255 (length bytes) ≡ c
    → (cond c (Err kinds.TooLong) (Ok bytes) >>= go) ≡ Ok r → Taken (IsText bytes) bytes go r
text_by bytes go r true is h = absurd (not_good kinds.TooLong r h)
text_by bytes go r false is h = record { fits = grind (arith, nat_tests); goes = h }

pub text_said : (bytes : List ℕ) (go : List ℕ → Result Reading DefKind) (r : Reading) → (text_of bytes >>= go) ≡ Ok r → Taken (IsText bytes) bytes go r
text_said bytes go r h = text_by bytes go r (nat_lt 255 (length bytes)) refl h

name_by : (bytes : List ℕ) (go : List ℕ → Result Reading DefKind) (r : Reading) (b : Bool) → (length bytes == 0) ≡ b
    → (cond b (Err kinds.Expected) (text_of bytes) >>= go) ≡ Ok r → Taken ((bytes ≢ []) × IsText bytes) bytes go r
name_by bytes go r true is h = absurd (not_good kinds.Expected r h)
name_by bytes go r false is h =
    let said = text_said bytes go r h in
    record { fits = (λ none. both_ways (length bytes == 0) is (ap (λ (x : List ℕ). length x == 0) none), said.fits); goes = said.goes }

pub name_said : (bytes : List ℕ) (go : List ℕ → Result Reading DefKind) (r : Reading) → (name_of bytes >>= go) ≡ Ok r → Taken ((bytes ≢ []) × IsText bytes) bytes go r
name_said bytes go r h = name_by bytes go r (length bytes == 0) refl h

-- A number in a range was given.
pub record Given (low high : ℕ) (value : Option ℕ) (go : ℕ → Result Reading DefKind) (r : Reading) : Type 0 where
  pub n : ℕ
  pub is : value ≡ Some n
  pub above : low ≤ n
  pub below : n ≤ high
  pub goes : go n ≡ Ok r

given_by : (low high n : ℕ) (go : ℕ → Result Reading DefKind) (r : Reading) (b : Bool) → (nat_le low n && nat_le n high) ≡ b
    → (cond b (Ok n) (Err kinds.Number) >>= go) ≡ Ok r → Given low high (Some n) go r
given_by low high n go r true is h = record { n = n; is = refl; above = grind (arith, nat_tests, is); below = grind (arith, nat_tests, is); goes = h }
given_by low high n go r false is h = absurd (not_good kinds.Number r h)

pub number_given : (low high : ℕ) (value : Option ℕ) (go : ℕ → Result Reading DefKind) (r : Reading) → (within low high value >>= go) ≡ Ok r → Given low high value go r
number_given low high None go r h = absurd (not_good kinds.Number r h)
number_given low high (Some n) go r h = given_by low high n go r (nat_le low n && nat_le n high) refl h

multiple_by : (n : ℕ) (go : ℕ → Result Reading DefKind) (r : Reading) (b : Bool) → (n % 65536 == 0) ≡ b
    → (cond b (Ok n) (Err kinds.Number) >>= go) ≡ Ok r → Taken (n % 65536 ≡ 0) n go r
multiple_by n go r true is h = record { fits = grind (arith, nat_tests, is); goes = h }
multiple_by n go r false is h = absurd (not_good kinds.Number r h)

abbrev pub if_multiple : ℕ → Result ℕ DefKind
if_multiple n = cond (n % 65536 == 0) (Ok n) (Err kinds.Number)

then_then : {A B C E : Type 0} (a : Result A E) (f : A → Result B E) (g : B → Result C E) → ((a >>= f) >>= g) ≡ (a >>= (λ x. f x >>= g))
then_then (Ok x) f g = refl
then_then (Err e) f g = refl

pub record GivenBase (value : Option ℕ) (go : ℕ → Result Reading DefKind) (r : Reading) : Type 0 where
  pub n : ℕ
  pub is : value ≡ Some n
  pub fits : IsBase n
  pub goes : go n ≡ Ok r

pub base_given : (value : Option ℕ) (go : ℕ → Result Reading DefKind) (r : Reading) → (base_of value >>= go) ≡ Ok r → GivenBase value go r
base_given value go r h =
    let split : (within 0x10000 0x1FFF0000 value >>= (λ n. if_multiple n >>= go)) ≡ Ok r = sym (then_then (within 0x10000 0x1FFF0000 value) if_multiple go) ∙ h in
    let ranged = number_given 0x10000 0x1FFF0000 value (λ n. if_multiple n >>= go) r split in
    let whole = multiple_by ranged.n go r (ranged.n % 65536 == 0) refl ranged.goes in
    record { n = ranged.n; is = ranged.is; fits = (whole.fits, ranged.above, ranged.below); goes = whole.goes }

-- The same of an answer that is known to be one of two.
pub taken_unless : {A : Type 0} (answer : Result A DefKind) (b : Bool) (k : DefKind) (x : A) (go : A → Result Reading DefKind) (r : Reading)
    → answer ≡ cond b (Err k) (Ok x) → (answer >>= go) ≡ Ok r → Taken (b ≡ false) x go r
taken_unless answer b k x go r is h = unless_refused b k x go r (ap (λ a. a >>= go) (sym is) ∙ h)
