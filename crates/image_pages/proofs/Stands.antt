-- The objects of a link stand well at their linked bases, where each ends in the arenas.
use Rattle.std.specs.Prelude.{◌≡◌, ℕ, zero, suc, ◌+◌, ◌-◌, ◌/◌, ◌%◌, ◌≤◌, Bool, true, false, List, [], ◌∷◌, Option, Some, None, IfSome, if◌then◌else◌, find, is_some, map, max, nat_lt, slice_get, slice_index, unwrap_or, refl}
use Rattle.std.specs.List.{AllByRecursion, enumerate_from}
use Rattle.std.specs.Option.{option_map}
use Rattle.std.proofs.Common.{ap, sym, ◌∙◌, arith, true≢false}
use Rattle.std.proofs.Math.Nat.{add-mul-mod_self_right}
use Rattle.std.proofs.lemmas.Bool.{ltb-false}
use Rattle.lx_types.specs.Addresses.{room}
use Rattle.lx_types.specs.declared.limits.TheConstants.{BASE_UNIT, SHARED_END}
use Rattle.lx_types.specs.declared.object.ObjHead.{ObjHead}
use Rattle.obj_types.specs.Definition.{IsBase, WholeDef}
use Rattle.obj_types.specs.Items.{item}
use Rattle.obj_types.specs.declared.definition.ModKind.{ModKind}
use Rattle.obj_types.specs.declared.definition.ModKind.TheVariants.{Program, Library}
use Rattle.link_model.specs.declared.symbols.LaidObject.{LaidObject}
use Rattle.link_model.specs.Flags.{flags_of}
use Rattle.link_model.specs.Layout.{placed_from, usual_base, first_base, objects}
use Rattle.link_model.specs.Link.{Link}
use Rattle.link_model.specs.Order.{object_heads}
use Rattle.link_model.specs.Rows.{end_in, rows}
use Rattle.link_model.proofs.Members.{each_in, in_item}
use Rattle.lx_model.specs.Fixed.{base_of}
use Rattle.image_model.specs.LinkLaws.{laid}
use Rattle.layer_laws.specs.LoadedBytes.{StandsWell}
use Rattle.image_pages.specs.Alone.{linked_bases}
use Rattle.image_pages.specs.Memory.{arena_full, full_from}
use Rattle.image_pages.specs.declared.refusals.ImageRefusal.{ImageRefusal}
use Rattle.image_pages.specs.declared.refusals.ImageRefusal.TheVariants.{ArenaFull}

-- ---- bases

abbrev AtUnit : LaidObject → Type 0
AtUnit o = o.base % BASE_UNIT ≡ 0

next_unit : (base size : ℕ) → base % BASE_UNIT ≡ 0 → (base + room size) % BASE_UNIT ≡ 0
next_unit base size is = add-mul-mod_self_right base ((max 1 size + (BASE_UNIT - 1)) / BASE_UNIT) BASE_UNIT ∙ is

placed_at_units : (base : ℕ) (qs : List (ℕ × ℕ)) → base % BASE_UNIT ≡ 0 → AllByRecursion AtUnit (placed_from base qs)
placed_at_units base [] is = tt
placed_at_units base (q ∷ qs) is = (is, placed_at_units (base + room q.0) qs (next_unit base q.0 is))

first_by : (o : Option ℕ) (kind : ModKind) → IfSome o IsBase → unwrap_or o (usual_base kind) % BASE_UNIT ≡ 0
first_by (Some b) kind is = is.0
first_by None Program is = refl
first_by None Library is = refl

at_units : (l : Link) → WholeDef l.def → AllByRecursion AtUnit (objects l)
unfolding objects
at_units l def =
    placed_at_units (first_base l) (map (λ q. (end_in q.0 (rows l), flags_of l q.1)) (enumerate_from 1 (object_heads l))) (first_by l.def.base l.def.kind def.base)

-- ---- ends

abbrev EndsWell : LaidObject → Type 0
EndsWell o = o.base + o.size ≤ SHARED_END

abbrev past : ℕ × LaidObject → Bool
past q = nat_lt SHARED_END (q.1.base + q.1.size)

abbrev told : ℕ × LaidObject → ImageRefusal
told q = ArenaFull q.0 q.1.size

-- The first is not past, and none after it.
none_first : (b : Bool) (q : ℕ × LaidObject) (rest : Option (ℕ × LaidObject)) → option_map told (if b then Some q else rest) ≡ None → (b ≡ false) × (option_map told rest ≡ None)
none_first true q rest e = absurd (true≢false (ap is_some e))
none_first false q rest e = (refl, e)

none_past : (n : ℕ) (os : List LaidObject) → full_from n os ≡ None → AllByRecursion EndsWell os
none_past n [] e = tt
none_past n (o ∷ os) e =
    let both = none_first (past (n, o)) (n, o) (find past (enumerate_from (n + 1) os)) e in
    (ltb-false SHARED_END (o.base + o.size) both.0, none_past (n + 1) os both.1)

-- ---- each object at its base

base_at : (hs : List ObjHead) (k : ℕ) (o : LaidObject) → slice_get (map laid hs) k ≡ Some o → slice_index (map (λ h. h.base) hs) k ≡ o.base
base_at [] k o e = absurd (true≢false (sym (ap is_some e)))
base_at (h ∷ hs) zero o e = ap (λ (x : Option LaidObject). (unwrap_or x o).base) e
base_at (h ∷ hs) (suc k) o e = base_at hs k o e

base_is : (hs : List ObjHead) (object : ℕ) (o : LaidObject) → item (map laid hs) object ≡ Some o → base_of (linked_bases hs) 0 object ≡ o.base
base_is hs zero o e = absurd (true≢false (sym (ap is_some e)))
base_is hs (suc k) o e =
    let place : suc k - 1 ≡ k = omega arith in ap (λ (n : ℕ). slice_index (map (λ h. h.base) hs) n) place ∙ base_at hs k o e

pub stands_well : (l : Link) (hs : List ObjHead) → WholeDef l.def → map laid hs ≡ objects l → arena_full l ≡ None → StandsWell l (linked_bases hs) 0
stands_well l hs def same none object o is =
    let inside = in_item (objects l) object o is in
    let at = base_is hs object o (ap (λ (os : List LaidObject). item os object) same ∙ is) in (
      ap (λ (b : ℕ). b % BASE_UNIT) at ∙ each_in AtUnit (objects l) (at_units l def) inside,
      let end = each_in EndsWell (objects l) (none_past 1 (objects l) none) inside in omega (arith, at, end),
    )
