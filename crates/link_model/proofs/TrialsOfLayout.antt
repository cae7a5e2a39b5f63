-- Layout, tried on small inputs: each line is a value that the rules give by hand.
use Rattle.std.specs.Prelude.{◌≡◌, ℕ, Bool, true, false, List, [], ◌∷◌, Some, None, refl, codes}
use Rattle.obj_types.specs.declared.object.Seg.{Seg}
use Rattle.obj_types.specs.declared.object.Group.{Group}
use Rattle.obj_types.specs.declared.object.ObjModule.{ObjModule}
use Rattle.obj_types.specs.declared.definition.DefFile.{DefFile}
use Rattle.obj_types.specs.declared.definition.ModKind.TheVariants.{Program, Library}
use Rattle.obj_types.specs.Fresh.{empty_module}
use Rattle.link_model.specs.declared.symbols.LaidObject.{LaidObject}
use Rattle.link_model.specs.declared.refusals.LayRefusal.TheVariants.{AbsoluteSeg, UseMixed, GroupSplit, TooLarge}
use Rattle.link_model.specs.Link.{Link}
use Rattle.link_model.specs.Layout.{objects, spot, common_spot, stack_top}
use Rattle.link_model.specs.LayoutRefusals.{lay_refusal}
use Rattle.link_model.specs.Header.{auto_data}
use Rattle.obj_types.specs.Defaults.{code_attrs, default_def}
use Rattle.link_model.proofs.Rules.{rules}
use Rattle.link_model.proofs.Samples.{seg, with_segs, linked, comdef, code32, data32, code16, common32}

abbrev library : List ObjModule → Link
library modules = linked (default_def Library None) modules

abbrev program : List ObjModule → Link
program modules = linked (default_def Program None) modules

abbrev object : ℕ → ℕ → ℕ → LaidObject
object size base flags = record { size = size; base = base; flags = flags }

-- ---- objects

-- Wide segments of classes CODE and DATA, lengths 8 and 4, are two objects on 64 KiB of their own each.
abbrev code_and_data : Link
code_and_data = library (with_segs (code32 8 ∷ data32 4 ∷ []) ∷ [])

two_objects : objects code_and_data ≡ object 8 0x10000000 0x2005 ∷ object 4 0x10010000 0x2003 ∷ []
unfolding rules
two_objects = refl

data_spot : spot code_and_data 1 2 ≡ Some (2, 0)
unfolding rules
data_spot = refl

is_laid_out : lay_refusal code_and_data ≡ None
unfolding rules
is_laid_out = refl

-- Classes stand by first appearance, whatever the order of the contributions.
abbrev mixed_classes : Link
mixed_classes = library (with_segs (code32 8 ∷ data32 4 ∷ seg (codes "MORE") (codes "CODE") 1 2 true 3 ∷ []) ∷ [])

code_together : objects mixed_classes ≡ object 11 0x10000000 0x2005 ∷ object 4 0x10010000 0x2003 ∷ []
unfolding rules
code_together = refl

-- 16-bit segments in no group are an object each, with the 16:16 alias.
abbrev two_narrow : Link
two_narrow =
    linked (default_def Library (Some 0x12340000)) (with_segs (code16 (codes "A") 5 ∷ code16 (codes "B") 0 ∷ code16 (codes "C") 7 ∷ []) ∷ [])

narrow_objects : objects two_narrow ≡ object 5 0x12340000 0x1005 ∷ object 0 0x12350000 0x1005 ∷ object 7 0x12360000 0x1005 ∷ []
unfolding rules
narrow_objects = refl

-- ---- offsets

-- Public contributions of lengths 1, 2 and 3 with alignments 1, 2 and 5.
abbrev three_joined : Link
three_joined =
    library
    (with_segs (seg (codes "S") (codes "CODE") 1 2 true 1 ∷ []) ∷ with_segs (seg (codes "S") (codes "CODE") 2 2 true 2 ∷ []) ∷ with_segs (seg (codes "S") (codes "CODE") 5 2 true 3 ∷ []) ∷ [])

first_spot : spot three_joined 1 1 ≡ Some (1, 0)
unfolding rules
first_spot = refl

second_spot : spot three_joined 2 1 ≡ Some (1, 2)
unfolding rules
second_spot = refl

third_spot : spot three_joined 3 1 ≡ Some (1, 4)
unfolding rules
third_spot = refl

size_7 : objects three_joined ≡ object 7 0x10000000 0x2005 ∷ []
unfolding rules
size_7 = refl

-- Common contributions share one start; what follows stands after the longest.
abbrev common_and_more : Link
common_and_more =
    library
    (with_segs (seg (codes "A") (codes "DATA") 1 2 true 1 ∷ common32 4 ∷ seg (codes "Z") (codes "DATA") 1 2 true 1 ∷ []) ∷ with_segs (common32 10 ∷ []) ∷ [])

common_spot_1 : spot common_and_more 1 2 ≡ Some (1, 4)
unfolding rules
common_spot_1 = refl

common_spot_2 : spot common_and_more 2 1 ≡ Some (1, 4)
unfolding rules
common_spot_2 = refl

after_longest : spot common_and_more 1 3 ≡ Some (1, 14)
unfolding rules
after_longest = refl

-- ---- groups and communals

abbrev group : List ℕ → List ℕ → Group
group name members = record { name = name; members = members }

abbrev grouped : List Seg → List Group → ObjModule
grouped segs groups = record empty_module { segs = segs; groups = groups }

-- A near communal stands in DGROUP after its data, and is 16-bit there as the group is.
abbrev dgroup : Link
dgroup =
    library
    (record (grouped (code16 (codes "C") 2 ∷ seg (codes "D") (codes "DATA") 2 2 false 5 ∷ []) (group (codes "DGROUP") (2 ∷ []) ∷ [])) { exts = comdef (codes "c") false 12 ∷ comdef (codes "f") true 3 ∷ [] } ∷ [])

dgroup_objects : objects dgroup ≡ object 2 0x10000000 0x1005 ∷ object 20 0x10010000 0x1003 ∷ object 3 0x10020000 0x2003 ∷ []
unfolding rules
dgroup_objects = refl

near_place : common_spot dgroup 0 ≡ Some (2, 8)
unfolding rules
near_place = refl

far_place : common_spot dgroup 1 ≡ Some (3, 0)
unfolding rules
far_place = refl

dgroup_is_laid_out : lay_refusal dgroup ≡ None
unfolding rules
dgroup_is_laid_out = refl

-- The automatic data object is that of DGROUP.
dgroup_is_automatic : auto_data dgroup ≡ 2
unfolding rules
dgroup_is_automatic = refl

-- Where no module declares DGROUP there is none, near communals or not.
abbrev no_dgroup : Link
no_dgroup = library (record (with_segs (code32 4 ∷ [])) { exts = comdef (codes "c") false 12 ∷ [] } ∷ [])

none_is_automatic : auto_data no_dgroup ≡ 0
unfolding rules
none_is_automatic = refl

near_alone : objects no_dgroup ≡ object 4 0x10000000 0x2005 ∷ object 12 0x10010000 0x2003 ∷ []
unfolding rules
near_alone = refl

-- Where DGROUP lists the segment of the far communals, they follow its first other member too.
abbrev far_in_dgroup : List Seg → Link
far_in_dgroup segs =
    library (record (grouped segs (group (codes "DGROUP") (1 ∷ 2 ∷ []) ∷ [])) { exts = comdef (codes "f") true 3 ∷ [] } ∷ [])

abbrev far_bss : Bool → Seg
far_bss wide = seg (codes "FAR_BSS") (codes "FAR_BSS") 2 2 wide 2

far_follows : objects (far_in_dgroup (seg (codes "D") (codes "DATA") 2 2 false 5 ∷ far_bss false ∷ [])) ≡ object 11 0x10000000 0x1003 ∷ []
unfolding rules
far_follows = refl

far_is_laid_out : lay_refusal (far_in_dgroup (seg (codes "D") (codes "DATA") 2 2 false 5 ∷ far_bss false ∷ [])) ≡ None
unfolding rules
far_is_laid_out = refl

far_place_there : common_spot (far_in_dgroup (seg (codes "D") (codes "DATA") 2 2 false 5 ∷ far_bss false ∷ [])) 0 ≡ Some (1, 8)
unfolding rules
far_place_there = refl

far_is_mixed : lay_refusal (far_in_dgroup (seg (codes "D") (codes "DATA") 2 2 true 5 ∷ far_bss false ∷ [])) ≡ Some (UseMixed (codes "FAR_BSS"))
unfolding rules
far_is_mixed = refl

-- ---- the stack

abbrev with_stack : ℕ → DefFile
with_stack n = record (default_def Program None) { stack = n }

-- A program gets a stack of its own, after its data, on a paragraph.
abbrev own : Link
own = linked (with_stack 100) (with_segs (data32 4 ∷ []) ∷ [])

own_objects : objects own ≡ object 116 0x10000 0x2003 ∷ []
unfolding rules
own_objects = refl

own_top : stack_top own ≡ Some (1, 116)
unfolding rules
own_top = refl

-- STACKSIZE lengthens a stack segment, and what follows stands after it.
abbrev given : Link
given =
    linked (with_stack 100)
    (with_segs (seg (codes "STACK") (codes "DATA") 3 5 true 16 ∷ data32 4 ∷ []) ∷ [])

given_objects : objects given ≡ object 104 0x10000 0x2003 ∷ []
unfolding rules
given_objects = refl

given_top : stack_top given ≡ Some (1, 100)
unfolding rules
given_top = refl

no_top : stack_top code_and_data ≡ None
unfolding rules
no_top = refl

-- ---- attributes

-- An item of SEGMENTS overrides CODE and DATA, and parts objects.
abbrev with_item : Link
with_item =
    linked (record (default_def Library None) { segs = record { name = codes "DATA32"; class = None; attrs = record code_attrs { shared = true } } ∷ [] })
    (with_segs (data32 4 ∷ seg (codes "OTHER") (codes "code") 1 2 true 1 ∷ []) ∷ [])

item_flags : objects with_item ≡ object 4 0x10000000 0x2025 ∷ object 1 0x10010000 0x2005 ∷ []
unfolding rules
item_flags = refl

-- ---- refusals

absolute : lay_refusal (library (with_segs (code32 1 ∷ seg (codes "AT") (codes "X") 0 0 true 1 ∷ []) ∷ [])) ≡ Some (AbsoluteSeg (codes "AT"))
unfolding rules
absolute = refl

mixed : lay_refusal (library (with_segs (code32 1 ∷ []) ∷ with_segs (seg (codes "CODE32") (codes "CODE") 1 2 false 1 ∷ []) ∷ [])) ≡ Some (UseMixed (codes "CODE32"))
unfolding rules
mixed = refl

mixed_in_group : lay_refusal (library (grouped (code32 1 ∷ code16 (codes "A") 1 ∷ []) (group (codes "G") (1 ∷ 2 ∷ []) ∷ []) ∷ [])) ≡ Some (UseMixed (codes "A"))
unfolding rules
mixed_in_group = refl

two_groups : lay_refusal (library (grouped (code32 1 ∷ []) (group (codes "G") (1 ∷ []) ∷ group (codes "H") (1 ∷ []) ∷ []) ∷ [])) ≡ Some (GroupSplit (codes "H"))
unfolding rules
two_groups = refl

two_flags : lay_refusal (library (grouped (code32 1 ∷ data32 1 ∷ []) (group (codes "G") (1 ∷ 2 ∷ []) ∷ []) ∷ [])) ≡ Some (GroupSplit (codes "G"))
unfolding rules
two_flags = refl

-- 64 KiB fit in a 16-bit object, and one byte more does not.
full : lay_refusal (library (with_segs (code16 (codes "A") 65536 ∷ []) ∷ [])) ≡ None
unfolding rules
full = refl

past_64_kib : lay_refusal (library (with_segs (code16 (codes "A") 65537 ∷ []) ∷ [])) ≡ Some (TooLarge (codes "A"))
unfolding rules
past_64_kib = refl

past_16_mib : lay_refusal (library (with_segs (code32 16777216 ∷ data32 1 ∷ []) ∷ [])) ≡ Some (TooLarge (codes "DATA32"))
unfolding rules
past_16_mib = refl

stack_too_large : lay_refusal (linked (with_stack 16777216) (with_segs (code32 1 ∷ []) ∷ [])) ≡ Some (TooLarge (codes "STACK"))
unfolding rules
stack_too_large = refl
