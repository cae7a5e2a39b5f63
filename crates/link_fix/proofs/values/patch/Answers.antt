use Rattle.std.proofs.Common.{◌≡◌, ◌+◌, ◌%◌, ap, ◌∙◌, arith, sym, subst, ℕ, true}
use Rattle.lx_bytes.specs.LittleEndian.{little_bytes}
use Rattle.obj_types.specs.Location.{location_len}
use Rattle.link_model.specs.Words.{wrapped, difference}
use Rattle.link_model.specs.Fixups.{fix_refusal}
use Rattle.link_model.specs.Value.{value_bytes}
use Rattle.link_model.specs.Patches.{is_patched, linked_world}
use Rattle.std.specs.Prelude.{None}
use Rattle.link_fix.specs.declared.fixup.Target.{Target}
use Rattle.link_fix.specs.Shown.{shown, target_shown}
use Rattle.link_fix.proofs.PatchValues.{with_target, internal_value, constant_value}
use Rattle.link_fix.proofs.values.patch.Goals as goal

pub returns-in-Internal : goal.returns-in-Internal
returns-in-Internal c = λ l.
    let q = c.args.q.now in
    let n : ℕ = location_len q.loc in
    let value : c.difference.result ≡ difference (c.in-Internal.offset + (q.added + 0)) (q.offset + n) = grind arith in
    let P : Target → Type 0 = λ t. is_patched (with_target (shown q) (target_shown t)) ≡ true → value_bytes l (linked_world l) (with_target (shown q) (target_shown t)) ≡ little_bytes n c.difference.result in
    subst P (sym c.in-Internal.is) (λ e. internal_value l (shown q) c.in-Internal.object c.in-Internal.offset e ∙ ap (little_bytes n) (sym value)) c.requires.patched

pub returns-in-Constant : goal.returns-in-Constant
returns-in-Constant c = λ l.
    let q = c.args.q.now in
    let n : ℕ = location_len q.loc in
    let r : ℕ = (c.from-in-Constant.result + c.from-added.result) % 4294967296 in
    let value : r ≡ wrapped (c.in-Constant.value + (q.added + 0)) = grind arith in
    let P : Target → Type 0 = λ t. fix_refusal (with_target (shown q) (target_shown t)) ≡ None → value_bytes l (linked_world l) (with_target (shown q) (target_shown t)) ≡ little_bytes n r in
    subst P (sym c.in-Constant.is) (λ e. constant_value l (shown q) c.in-Constant.value e c.requires.location ∙ ap (little_bytes n) (sym value)) c.requires.accepted
