-- Values that no base changes.
use Rattle.std.specs.Prelude.{◌≡◌, ℕ, zero, suc, ◌+◌, ◌<◌, ◌≤◌, ◌/◌, Bool, true, false, cond, ◌&&◌, ◌==◌, List, ◌++◌, Some, None, unwrap_or, refl}
use Rattle.std.proofs.Common.{ap, ◌∙◌, arith, get_or, true≢false}
use Rattle.std.proofs.lemmas.Bool.{eqb-true, and_parts}
use Rattle.std.proofs.lemmas.Bool.Decides.{nat_tests}
use Rattle.lx_bytes.specs.LittleEndian.{little_bytes}
use Rattle.obj_types.specs.Items.{item}
use Rattle.obj_types.specs.Location.{location_len, has_selector}
use Rattle.link_model.specs.Words.{wrapped, difference}
use Rattle.link_model.specs.Link.{Link}
use Rattle.link_model.specs.Goals.{Target, Internal, Constant}
use Rattle.link_model.specs.declared.refusals.FixRefusal.{FixRefusal}
use Rattle.link_model.specs.Fixups.{Fixup, fix_refusal, is_far_self, is_frame_apart, is_const_selector}
use Rattle.link_model.specs.Value.{World, place_address, relative_to_self, relative_to_segment, value_bytes, target_number, sum_number, target_flags}
use Rattle.link_model.specs.Patches.{is_patched, linked_world}

-- The first bytes of a number are those of it in more bytes.
pub first_of_bytes : (n m v k : ℕ) (rest : List ℕ) → k < n → n ≤ m → get_or (little_bytes n v) k 0 ≡ get_or (little_bytes m v ++ rest) k 0
first_of_bytes zero m v k rest below le = absurd (omega arith)
first_of_bytes (suc n) zero v k rest below le = absurd (omega arith)
first_of_bytes (suc n) (suc m) v zero rest below le = refl
first_of_bytes (suc n) (suc m) v (suc k) rest below le = first_of_bytes n m (v / 256) k rest (omega arith) (omega arith)

-- A base that both addresses have cancels.
base_cancels : (b x d s y n : ℕ) → difference (wrapped (wrapped (wrapped (b + x) + d) + s)) (wrapped (b + y) + n) ≡ difference (x + (d + s)) (y + n)
base_cancels b x d s y n = omega arith

constant_sum : (v d s : ℕ) → wrapped (wrapped (v + d) + s) ≡ wrapped (v + (d + s))
constant_sum v d s = omega arith

-- The fixup with another target.
abbrev pub with_target : Fixup → Target → Fixup
with_target q t = record q { target = t }

abbrev base_in : Link → ℕ → ℕ
base_in l o = unwrap_or (item (linked_world l).bases o) 0

pub internal_value : (l : Link) (q : Fixup) (o x : ℕ) → is_patched (with_target q (Internal o x)) ≡ true →
    value_bytes l (linked_world l) (with_target q (Internal o x)) ≡ little_bytes (location_len q.fix.loc) (difference (x + (q.fix.disp + q.standing)) (q.offset + location_len q.fix.loc))
unfolding value_bytes
internal_value l q o x e =
    let w : World = linked_world l in
    let r : Fixup = with_target q (Internal o x) in
    let n : ℕ = location_len q.fix.loc in
    let two : (q.fix.selfrel ≡ true) × ((o == q.object) ≡ true) = and_parts q.fix.selfrel (o == q.object) e in
    let same : o ≡ q.object = eqb-true o q.object two.1 in
    let at : ℕ → ℕ = λ k. difference (wrapped (wrapped (wrapped (base_in l k + x) + q.fix.disp) + q.standing)) (wrapped (base_in l q.object + q.offset) + n) in
    ap (λ (s : Bool). cond s (relative_to_self q.fix.loc (place_address w q.object q.offset) (sum_number l w r)) (relative_to_segment q.fix.loc (target_number l w r) (sum_number l w r) (target_flags l w r.target) q.narrow)) two.0
    ∙ ap (λ (k : ℕ). little_bytes n (at k)) same
    ∙ ap (little_bytes n) (base_cancels (base_in l q.object) x q.fix.disp q.standing q.offset n)

none_of : (a b c : Bool) (x y z : FixRefusal) → cond a (Some x) (cond b (Some y) (cond c (Some z) None)) ≡ None → (a ≡ false) × (c ≡ false)
none_of true b c x y z e = absurd cc
none_of false true c x y z e = absurd cc
none_of false false true x y z e = absurd cc
none_of false false false x y z e = (refl, refl)

not_both : (a : Bool) → (a && true) ≡ false → a ≡ false
not_both true e = absurd (true≢false e)
not_both false e = refl

plain_value : (t v flags loc : ℕ) (narrow : Bool) → 0 < location_len loc → has_selector loc ≡ false → relative_to_segment loc t v flags narrow ≡ little_bytes (location_len loc) v
plain_value t v flags loc narrow h none = grind (arith, nat_tests)

pub constant_value : (l : Link) (q : Fixup) (v : ℕ) → fix_refusal (with_target q (Constant v)) ≡ None → 0 < location_len q.fix.loc →
    value_bytes l (linked_world l) (with_target q (Constant v)) ≡ little_bytes (location_len q.fix.loc) (wrapped (v + (q.fix.disp + q.standing)))
unfolding value_bytes fix_refusal
constant_value l q v accepted h =
    let w : World = linked_world l in
    let r : Fixup = with_target q (Constant v) in
    let none = none_of (is_far_self r) (is_frame_apart r) (is_const_selector r) _ _ _ accepted in
    let straight : q.fix.selfrel ≡ false = not_both q.fix.selfrel none.0 in
    let bare : has_selector q.fix.loc ≡ false = not_both (has_selector q.fix.loc) none.1 in
    ap (λ (s : Bool). cond s (relative_to_self q.fix.loc (place_address w q.object q.offset) (sum_number l w r)) (relative_to_segment q.fix.loc (target_number l w r) (sum_number l w r) (target_flags l w r.target) q.narrow)) straight
    ∙ plain_value (target_number l w r) (sum_number l w r) (target_flags l w r.target) q.fix.loc q.narrow h bare
    ∙ ap (little_bytes (location_len q.fix.loc)) (constant_sum v q.fix.disp q.standing)
