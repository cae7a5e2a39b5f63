-- Where a link leaves nothing to other modules, its bytes are the same in any two worlds with the same bases.
use Rattle.std.specs.Prelude.{◌≡◌, ℕ, ◌+◌, ◌-◌, Bool, true, false, cond, not, List, Option, Some, None, [], is_some, slice_get, slice_index, unwrap_or, refl}
use Rattle.std.specs.Option.{option_and_then, option_map, option_map_or}
use Rattle.std.proofs.Common.{ap, sym, ◌∙◌}
use Rattle.obj_types.specs.Items.{item}
use Rattle.lx_types.specs.Addresses.{address}
use Rattle.obj_types.specs.declared.symbol.Imp.{Imp}
use Rattle.link_model.specs.Fixups.{Fixup, fix_refusal}
use Rattle.link_model.specs.Goals.{Target, Internal, Constant, Entry}
use Rattle.link_model.specs.ImportTables.{pair_used}
use Rattle.link_model.specs.Link.{Link}
use Rattle.link_model.specs.Mean.{live_fixups, fixup_covers, live_at, data_at, value_at, Mean}
use Rattle.link_model.specs.Patches.{is_patched, recorded}
use Rattle.link_model.specs.Symbols.{imports}
use Rattle.link_model.specs.Value.{World, Far, entry_point, far_of, place_address, target_address, target_flags, relative_to_segment, relative_to_self, value_bytes, Value}
use Rattle.link_model.specs.Words.{wrapped}
use Rattle.link_model.proofs.LiveFixups.{patches_stand}
use Rattle.link_model.proofs.Members.{In, in_filter, found_as}
use Rattle.image_model.specs.Linked.{link_modules}
use Rattle.image_pages.proofs.Unused.{no_import}

-- ---- a target

abbrev nowhere : Far
nowhere = record { address = 0; flags = 0 }

far_none : (l : Link) (w : World) (slot : ℕ) → slice_get (imports l) slot ≡ None → far_of l w slot ≡ nowhere
far_none l w slot none = ap (λ (o : Option Imp). option_map_or (entry_point w) o nowhere) none

address_same : (l : Link) (w v : World) (t : Target) → w.bases ≡ v.bases → pair_used l t ≡ None → target_address l w t ≡ target_address l v t
address_same l w v (Internal o offset) same none = ap (λ (bs : List ℕ). address (unwrap_or (item bs o) 0) offset) same
address_same l w v (Constant value) same none = refl
address_same l w v (Entry slot) same none = ap (λ (f : Far). f.address) (far_none l w slot none ∙ sym (far_none l v slot none))

flags_same : (l : Link) (w v : World) (t : Target) → pair_used l t ≡ None → target_flags l w t ≡ target_flags l v t
flags_same l w v (Internal o offset) none = refl
flags_same l w v (Constant value) none = refl
flags_same l w v (Entry slot) none = ap (λ (f : Far). f.flags) (far_none l w slot none ∙ sym (far_none l v slot none))

-- ---- a value

abbrev bytes_with : Fixup → ℕ → ℕ → ℕ → List ℕ
bytes_with q at target flags =
    let t = wrapped (target + q.fix.disp) in
    let sum = wrapped (t + q.standing) in
    cond q.fix.selfrel (relative_to_self q.fix.loc at sum) (relative_to_segment q.fix.loc t sum flags q.narrow)

bytes_are : (l : Link) (w : World) (q : Fixup) → value_bytes l w q ≡ bytes_with q (place_address w q.object q.offset) (target_address l w q.target) (target_flags l w q.target)
unfolding value_bytes
bytes_are l w q = refl

bytes_same : (l : Link) (w v : World) (q : Fixup) → w.bases ≡ v.bases → pair_used l q.target ≡ None → value_bytes l w q ≡ value_bytes l v q
bytes_same l w v q same none =
    bytes_are l w q
    ∙ ap (λ (bs : List ℕ). bytes_with q (address (unwrap_or (item bs q.object) 0) q.offset) (target_address l w q.target) (target_flags l w q.target)) same
    ∙ ap (λ (a : ℕ). bytes_with q (place_address v q.object q.offset) a (target_flags l w q.target)) (address_same l w v q.target same none)
    ∙ ap (λ (f : ℕ). bytes_with q (place_address v q.object q.offset) (target_address l v q.target) f) (flags_same l w v q.target none)
    ∙ sym (bytes_are l v q)

left_same : (l : Link) (w v : World) (q : Fixup) → w.bases ≡ v.bases → pair_used l q.target ≡ None → Value l w q ≡ Value l v q
unfolding Value
left_same l w v q same none = ap (λ (bytes : List ℕ). cond (is_some (fix_refusal q)) None (Some bytes)) (bytes_same l w v q same none)

value_by : (b : Bool) (l : Link) (w v : World) (q : Fixup) → is_patched q ≡ b → w.bases ≡ v.bases → link_modules l ≡ [] → In q (live_fixups l) → Value l w q ≡ Value l v q
unfolding recorded
value_by true l w v q is same none i = patches_stand l w v q is
value_by false l w v q is same none i =
    left_same l w v q same (no_import l q none (in_filter (λ (t : Fixup). not (is_patched t)) i (ap not is)))

-- ---- bytes

mean_by : (l : Link) (w v : World) (n x : ℕ) (o : Option Fixup) → live_at l n x ≡ o → w.bases ≡ v.bases → link_modules l ≡ []
    → unwrap_or (option_and_then (value_at l w x) o) (data_at l n x) ≡ unwrap_or (option_and_then (value_at l v x) o) (data_at l n x)
mean_by l w v n x None at same none = refl
mean_by l w v n x (Some q) at same none =
    let inside = (found_as (fixup_covers n x) (live_fixups l) q at).inside in
    ap (λ (o : Option (List ℕ)). unwrap_or (option_map (λ bytes. slice_index bytes (x - q.offset)) o) (data_at l n x)) (value_by (is_patched q) l w v q refl same none inside)

pub mean_same : (l : Link) (w v : World) (n x : ℕ) → w.bases ≡ v.bases → link_modules l ≡ [] → Mean l w n x ≡ Mean l v n x
unfolding Mean
mean_same l w v n x same none = mean_by l w v n x (live_at l n x) refl same none
