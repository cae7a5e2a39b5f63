-- The start, the stack, the automatic data and the module flags of a link fit their fields.
use Rattle.std.specs.Prelude.{◌≡◌, ℕ, ◌+◌, ◌<◌, ◌≤◌, ◌^◌, ◌==◌, Bool, true, false, cond, not, Option, Some, None, IfSome, length, is_some, unwrap_or, refl}
use Rattle.std.specs.Option.{option_map}
use Rattle.std.proofs.Common.{ap, sym, arith, subst, true≢false}
use Rattle.std.proofs.lemmas.Bool.{eq-eqb}
use Rattle.std.proofs.lemmas.Option.{same_Some}
use Rattle.lx_types.specs.Sound.{IsNumberOf}
use Rattle.lx_types.specs.declared.parts.TheConstants.{MODULE_LIBRARY, MODULE_INIT_EACH, MODULE_TERM_EACH}
use Rattle.obj_types.specs.declared.definition.DefFile.{DefFile}
use Rattle.obj_types.specs.declared.object.StartAt.{StartAt}
use Rattle.link_model.specs.declared.limits.TheConstants.{MAX_MEMORY}
use Rattle.link_model.specs.Link.{Link}
use Rattle.link_model.specs.Order.{is_program}
use Rattle.link_model.specs.Groups.{DGROUP}
use Rattle.link_model.specs.Rows.{Row, end_in, rows, has_stack, stack_row}
use Rattle.link_model.specs.Layout.{objects, stack_top}
use Rattle.link_model.specs.LayoutRefusals.{lay_refusal}
use Rattle.link_model.specs.Goals.{Target, Internal, Constant, Entry, shifted, object_of_group, target_of}
use Rattle.link_model.specs.Start.{first_start, in_object, start_place, place_of_start, Start}
use Rattle.link_model.specs.Header.{auto_data}
use Rattle.link_model.proofs.Members.{In, in_filter, found_as}
use Rattle.link_model.proofs.RowsStand.{max_in}
use Rattle.image_model.specs.Linked.{module_flags}
use Rattle.image_model.specs.ReadBack.{PlaceFits}
use Rattle.link_model.proofs.RowEnds.{end-in-sum}
use Rattle.link_model.proofs.RowLimits.{size-within, not-too-large}
use Rattle.image_model.proofs.ObjectsThere.{row_there}
use Rattle.image_model.proofs.TargetsThere.{through, group_there, start_there}
use Rattle.layer_laws.proofs.Known.{wrapped-small}
use Rattle.layer_laws.proofs.Objects.{flag_small}

-- ---- the start

chosen_small : (b : Bool) (q p : ℕ × ℕ) → q.1 < 2 ^ 32 → cond b (Some q) None ≡ Some p → p.1 < 2 ^ 32
chosen_small true q p small e = subst (λ (t : ℕ × ℕ). t.1 < 2 ^ 32) (same_Some q p e) small
chosen_small false q p small e = absurd (true≢false (sym (ap is_some e)))

start_small : (l : Link) (s : StartAt) (t : Target) (p : ℕ × ℕ) → start_place l s t ≡ Some p → p.1 < 2 ^ 32
start_small l s (Internal o offset) p e =
    let q = shifted s.disp (o, offset) in chosen_small (in_object l q) q p (wrapped-small (offset + s.disp)) e
start_small l s (Constant value) p e = absurd (true≢false (sym (ap is_some e)))
start_small l s (Entry slot) p e = absurd (true≢false (sym (ap is_some e)))

offset_small : (l : Link) (p : ℕ × ℕ) → Start l ≡ Some p → p.1 < 2 ^ 32
unfolding Start
offset_small l p e =
    let s = through (place_of_start l) (first_start l) p e in
    let t = through (start_place l s.item.1) (target_of l s.item.0 s.item.1.goal) p s.gives in
    start_small l s.item.1 t.item p t.gives

abbrev StartFits : Link → ℕ × ℕ → Type 0
StartFits l place = IsNumberOf place.0 (length (objects l)) × (place.1 < 2 ^ 32)

start_by : (l : Link) (o : Option (ℕ × ℕ)) → Start l ≡ o → IfSome o (StartFits l)
start_by l None e = tt
start_by l (Some p) e = (start_there l p e, offset_small l p e)

pub start-fits : (l : Link) → IfSome (Start l) (StartFits l)
start-fits l = start_by l (Start l) refl

-- ---- the stack

end_small : (l : Link) (r : Row) → lay_refusal l ≡ None → In r (rows l) → r.end ≤ MAX_MEMORY
end_small l r none i =
    let inside : r.end ≤ end_in r.object (rows l) = max_in 0 (in_filter (λ (q : Row). q.object == r.object) i (eq-eqb r.object r.object refl)) in
    let all = end-in-sum r.object (rows l) in
    let most = size-within (rows l) (not-too-large l none) in
    omega (arith, inside, all, most)

stack_by : (l : Link) (o : Option Row) → lay_refusal l ≡ None → stack_row l ≡ o → IfSome (option_map (λ r. (r.object, r.end)) o) PlaceFits
stack_by l None none e = tt
stack_by l (Some r) none e =
    let i = (found_as (λ (r : Row). has_stack l r.segment) (rows l) r e).inside in
    let small = (row_there l r none i).small in
    let end = end_small l r none i in
    (omega (arith, small), omega (arith, end))

pub stack-fits : (l : Link) → lay_refusal l ≡ None → IfSome (stack_top l) PlaceFits
unfolding stack_top
stack-fits l none = stack_by l (stack_row l) none refl

-- ---- automatic data and module flags

auto_by : (l : Link) (o : Option ℕ) → lay_refusal l ≡ None → object_of_group l DGROUP ≡ o → unwrap_or o 0 < 2 ^ 32
auto_by l None none e = omega arith
auto_by l (Some o) none e = let small = (group_there l DGROUP o none e).small in omega (arith, small)

pub auto-fits : (l : Link) → lay_refusal l ≡ None → auto_data l < 2 ^ 32
unfolding auto_data
auto-fits l none = auto_by l (object_of_group l DGROUP) none refl

pub flags-fit : (d : DefFile) → module_flags d < 2 ^ 32
flags-fit d =
    let kind = flag_small (not (is_program d.kind)) MODULE_LIBRARY in
    let init = flag_small d.init_each MODULE_INIT_EACH in
    let term = flag_small d.term_each MODULE_TERM_EACH in
    omega (arith, kind, init, term)
