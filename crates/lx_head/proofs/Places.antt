-- Where the header stands.
use Rattle.std.proofs.Common.{◌≡◌, ℕ, ◌+◌, ◌<◌, ◌≤◌, ◌*◌, true, false, Some, None, List, [], ◌∷◌, length, take, drop, refl, sym, ap, ◌∙◌, get_or, ltb, eqb, length-drop, arith}
use Rattle.std.proofs.lemmas.List.{get_or-drop}
use Rattle.std.proofs.lemmas.Bool.Decides.{nat_tests}
use Rattle.lx_bytes.specs.LittleEndian.{little}
use Rattle.lx_types.specs.declared.refusal.LxKind.TheVariants.{Signature}
use Rattle.lx_model.specs.declared.header_fields.TheConstants.{LX_SIGNATURE, HEADER_PLACE}
use Rattle.lx_model.specs.Reading.{fault, number_at}
use Rattle.lx_model.specs.Header.{is_lx_at, header_place, place_fault, header_fault}
use Rattle.lx_types.specs.declared.refusal.LxRefusal.{LxRefusal}
use Rattle.std.specs.Prelude.{Result, Ok, Err, IsErrAnd}
use Rattle.lx_head.specs.declared.head.Head.{Head}
use Rattle.lx_head.specs.Reading.{ReadsHead}
use Rattle.lx_head.specs.Rows.{fields_fault}

pub place_first : (file : List ℕ) → is_lx_at file 0 ≡ true → header_place file ≡ 0
unfolding header_place
place_first file is = rw is refl

pub place_told : (file : List ℕ) → is_lx_at file 0 ≡ false → header_place file ≡ number_at 4 file HEADER_PLACE
unfolding header_place
place_told file is = rw is refl

pub no_signature : (file : List ℕ) (place : ℕ) → is_lx_at file 0 ≡ false → HEADER_PLACE + 4 ≤ length file → place ≡ number_at 4 file HEADER_PLACE → is_lx_at file place ≡ false → place_fault file ≡ Some (fault Signature place)
no_signature file place is long told other =
    let at : header_place file ≡ place = place_told file is ∙ sym told in
    let room : ltb (length file) (HEADER_PLACE + 4) ≡ false = grind (arith, nat_tests) in
    rw (is, room, at, other) refl

pub found : (file : List ℕ) (place : ℕ) → is_lx_at file 0 ≡ false → HEADER_PLACE + 4 ≤ length file → place ≡ number_at 4 file HEADER_PLACE → is_lx_at file place ≡ true → place_fault file ≡ None
found file place is long told other =
    let at : header_place file ≡ place = place_told file is ∙ sym told in
    let room : ltb (length file) (HEADER_PLACE + 4) ≡ false = grind (arith, nat_tests) in
    rw (is, room, at, other) refl

-- fewer than two bytes are not `LX`
small : (left : List ℕ) → length left < 2 → ((i : ℕ) → get_or left i 0 < 256) → eqb (little (take 2 left)) LX_SIGNATURE ≡ false
small [] few bytes = refl
small (b ∷ []) few bytes =
    let byte : b < 256 = bytes 0 in
    let other : b + 256 * 0 < LX_SIGNATURE = omega (arith, byte) in
    grind (arith, nat_tests)
small (a ∷ b ∷ left) few bytes = absurd (omega (arith, few))

pub cut_off : (file : List ℕ) (at : ℕ) → ((i : ℕ) → get_or file i 0 < 256) → length file < at + 2 → is_lx_at file at ≡ false
cut_off file at bytes short = small (drop at file) (omega (arith, short, length-drop at file)) (λ i. let same = get_or-drop at file i 0 in let byte = bytes (at + i) in omega (arith, same, byte))

-- ---- the place and the fields

pub misplaced : (file : List ℕ) (e : LxRefusal) → place_fault file ≡ Some e → header_fault file ≡ Some e
unfolding header_fault
misplaced file e is = rw is refl

pub at_its_place : (file : List ℕ) (place : ℕ) → place_fault file ≡ None → place ≡ header_place file → header_fault file ≡ fields_fault file place
unfolding header_fault fields_fault
at_its_place file place none at = rw (none, at) refl

-- a refusal that is handed on
pub refused : (answer : Result Head LxRefusal) (file : List ℕ) (e : LxRefusal) → IsErrAnd answer (λ x. x ≡ e) → header_fault file ≡ Some e → ReadsHead answer file
refused (Ok head) file e is wrong = absurd is
refused (Err x) file e is wrong = wrong ∙ ap Some (sym is)
