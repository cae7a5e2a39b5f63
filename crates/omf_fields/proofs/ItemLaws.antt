-- A list is its first item, and then the list of what is after it.
use Rattle.std.proofs.Common.{◌≡◌, ◌≢◌, ℕ, suc, ◌+◌, ◌≤◌, Bool, true, false, cond, eqb, List, [], ◌∷◌, ◌++◌, length, Result, Ok, Err, refl, sym, ap, ◌∙◌, arith, append_assoc, length-append}
use Rattle.std.proofs.lemmas.Bool.{ne_eqb}
use Rattle.std.proofs.lemmas.List.{nil_from_length, append-nil}
use Rattle.lx_bytes.specs.Cursor.{Cursor}
use Rattle.lx_bytes.specs.LittleEndian.{AreBytes}
use Rattle.obj_types.specs.declared.refusal.OmfRefusal.{OmfRefusal}
use Rattle.omf_fields.specs.Within.{within, through, Shortens, EndsSo}
use Rattle.omf_fields.specs.Forms.{Form, name}
use Rattle.lx_types.specs.Answers.{◌>>=◌}
use Rattle.omf_fields.specs.Fields.{Reading, name_at, item_and_others, list_turn, no_items, list_within, list_at}
use Rattle.omf_fields.specs.Taking.{TakesBytes}
use Rattle.omf_fields.specs.Onto.{onto}
use Rattle.omf_fields.specs.Spans.{Free}
use Rattle.omf_fields.proofs.Turns.{enough, one_turn}
use Rattle.omf_fields.proofs.SpanLaws.{bytes_after, Sound}
use Rattle.omf_fields.proofs.FieldLaws.{name_sound}
use Rattle.omf_fields.proofs.ListLaws.{OneByte}

abbrev HasBytes : Cursor → Type 0
HasBytes c = AreBytes c.left

abbrev left_at : Cursor → ℕ
left_at c = length c.left

-- what follows a step that may have failed is the same where it is the same after each value
pub bind-same : {A B : Type 0} (r : Result A OmfRefusal) (f g : A → Result B OmfRefusal) → ((x : A) → r ≡ Ok x → f x ≡ g x) → (r >>= f) ≡ (r >>= g)
bind-same (Ok x) f g same = same x refl
bind-same (Err e) f g same = refl

-- a choice between what a test gives and what is the same where it does not hold
pub cond-same : {A : Type 0} (b : Bool) (x y z : A) → (b ≡ false → y ≡ z) → cond b x y ≡ cond b x z
cond-same true x y z h = refl
cond-same false x y z h = h refl

list_shortens : {A : Type 0} (one : Cursor → Reading A) → TakesBytes one → Shortens HasBytes left_at (list_turn one)
list_shortens {A} one spans f g c bytes same =
    cond-same (eqb (length c.left) 0) (Ok []) _ _ λ some.
    bind-same (one c) _ _ λ first e.
    let shorter = spans c first.0 first.1 bytes e in
    ap (λ (r : Result (List A) OmfRefusal). r >>= λ others. Ok (first.0 ∷ others)) (same first.1 shorter.1 shorter.0)

list_ends : {A : Type 0} (one : Cursor → Reading A) → EndsSo left_at (list_turn one) no_items
list_ends one f c none = rw none refl

list_through : {A : Type 0} (one : Cursor → Reading A) (c : Cursor) → list_at one c ≡ through left_at (list_turn one) no_items c
unfolding list_within through
list_through one c = refl

-- Items are there in any case where nothing is left.
pub list-none : {A : Type 0} (one : Cursor → Reading A) (c : Cursor) → c.left ≡ [] → list_at one c ≡ Ok []
unfolding list_within within
list-none one c none = rw none refl

pub list-enough : {A : Type 0} (one : Cursor → Reading A) → TakesBytes one → (most : ℕ) (c : Cursor) → AreBytes c.left → length c.left ≤ most → list_within one most c ≡ list_at one c
unfolding list_within
list-enough one spans most c bytes long = enough HasBytes left_at (list_turn one) no_items (list_shortens one spans) (list_ends one) most c bytes long ∙ sym (list_through one c)

pub list-first : {A : Type 0} (one : Cursor → Reading A) → TakesBytes one → (c : Cursor) → AreBytes c.left → list_at one c ≡ list_turn one (list_at one) c
list-first {A} one spans c bytes =
    list_through one c
    ∙ one_turn HasBytes left_at (list_turn one) no_items (list_shortens one spans) (list_ends one) c bytes
    ∙ ap (λ (f : Cursor → Result (List A) OmfRefusal). list_turn one f c) (λ i d. sym (list_through one d) i)

pub not-empty : (xs : List ℕ) → xs ≢ [] → eqb (length xs) 0 ≡ false
not-empty xs some = ne_eqb (length xs) 0 (λ none. some (nil_from_length xs none))

-- A list with something left is its first item, and then the others.
pub list-next : {A : Type 0} (one : Cursor → Reading A) → TakesBytes one → (c : Cursor) → AreBytes c.left → c.left ≢ []
    → list_at one c ≡ item_and_others one (list_at one) c
list-next one takes c bytes some = list-first one takes c bytes ∙ rw (not-empty c.left some) refl

-- ---- item after item

onto-cons : {A : Type 0} (items : List A) (x : A) (r : Result (List A) OmfRefusal) → onto items (r >>= λ others. Ok (x ∷ others)) ≡ onto (items ++ x ∷ []) r
onto-cons {A} items x (Ok xs) = ap (λ (ys : List A). Ok ys) (sym (append_assoc items (x ∷ []) xs))
onto-cons items x (Err e) = refl

pub onto-item : {A : Type 0} (one : Cursor → Reading A) → TakesBytes one → (items : List A) (c : Cursor) (x : A) (d : Cursor) → AreBytes c.left → c.left ≢ [] → one c ≡ Ok (x, d) → onto items (list_at one c) ≡ onto (items ++ x ∷ []) (list_at one d)
onto-item {A} one takes items c x d bytes some e =
    ap (λ (r : Result (List A) OmfRefusal). onto items r) (list-next one takes c bytes some ∙ rw e refl) ∙ onto-cons items x (list_at one d)

pub onto-refused : {A : Type 0} (one : Cursor → Reading A) → TakesBytes one → (items : List A) (c : Cursor) (refusal : OmfRefusal) → AreBytes c.left → c.left ≢ [] → one c ≡ Err refusal → onto items (list_at one c) ≡ Err refusal
onto-refused {A} one takes items c refusal bytes some e =
    let failed : Result (List A) OmfRefusal = Err refusal in
    let there : list_at one c ≡ failed = list-next one takes c bytes some ∙ rw e refl in
    ap (λ (r : Result (List A) OmfRefusal). onto items r) there

pub onto-done : {A : Type 0} (one : Cursor → Reading A) (items : List A) (c : Cursor) → c.left ≡ [] → onto items (list_at one c) ≡ Ok items
onto-done {A} one items c none = ap (λ (r : Result (List A) OmfRefusal). onto items r) (list-none one c none) ∙ ap (λ (ys : List A). Ok ys) (append-nil items)

-- ---- what takes a byte at least

-- A reading takes bytes where its forms have some.
pub takes-form : {A : Type 0} (read : Cursor → Reading A) (form : A → Form) (P : A → Type 0) → Sound read form P → OneByte form → TakesBytes read
takes-form read form P sound one c x d bytes e =
    let t = (sound c x d bytes e).0 in
    let long : length c.left ≡ length t.front + length d.left = ap (λ (ys : List ℕ). length ys) t.joined ∙ length-append t.front d.left in
    (omega (arith, long, one x t.front t.so), bytes_after (form x) c d t bytes)

pub name-one : OneByte name
name-one x bytes h = let long : length bytes ≡ suc (length x) = ap (λ (ys : List ℕ). length ys) h.1 in omega (arith, long)

pub names-take : TakesBytes name_at
names-take = takes-form name_at name Free name_sound name-one
