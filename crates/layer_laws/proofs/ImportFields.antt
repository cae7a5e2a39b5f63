-- A fixup record that leads to an entry point of another module puts there what the fixup means.
use Rattle.std.specs.Prelude.{◌≡◌, ℕ, suc, ◌+◌, ◌%◌, ◌^◌, ◌==◌, true, List, Option, Some, None, Ok, bytes_eq, slice_get, refl}
use Rattle.std.specs.List.{position}
use Rattle.std.specs.Option.{option_map, option_map_or, option_and_then}
use Rattle.std.proofs.Common.{ap, sym, ◌∙◌, arith}
use Rattle.std.proofs.Math.Nat.{add-mod-mod}
use Rattle.std.proofs.lemmas.Option.{same_Some}
use Rattle.lx_types.specs.Addresses.{address, tiled_selector}
use Rattle.lx_types.specs.Names.{uppercase}
use Rattle.lx_types.specs.declared.bases.Bases.{Bases}
use Rattle.lx_types.specs.declared.entry.EntryKey.{EntryKey}
use Rattle.lx_types.specs.declared.entry.EntryKey.TheVariants as entry_keys
use Rattle.lx_types.specs.declared.entry.FwdKey.TheVariants as keys
use Rattle.lx_types.specs.declared.fix.FixTarget.{FixTarget}
use Rattle.lx_types.specs.declared.fix.FixTarget.TheVariants as leads
use Rattle.lx_types.specs.declared.object.PageId.{PageId}
use Rattle.lx_types.specs.declared.parts.Parts.{Parts}
use Rattle.obj_types.specs.declared.symbol.Imp.{Imp}
use Rattle.link_model.specs.Words.{wrapped}
use Rattle.link_model.specs.Link.{Link}
use Rattle.link_model.specs.Symbols.{imports}
use Rattle.link_model.specs.Fixups.{Fixup}
use Rattle.link_model.specs.Goals.{Entry}
use Rattle.link_model.specs.ImportTables.{used_pairs, link_pairs, modules_in, procs_in, entry_target, import_target, name_offset, with_offset}
use Rattle.link_model.specs.Records.{target_and_additive}
use Rattle.link_model.specs.Value.{Far, entry_point, far_of, target_address, target_flags, target_number, value_bytes}
use Rattle.lx_model.specs.Entries.{key_place, entry_or_none, target_spot}
use Rattle.lx_model.specs.Fixed.{spot_address, end_address, bytes_if}
use Rattle.lx_model.specs.Library.{library_named}
use Rattle.lx_model.specs.ModuleBytes.{spot_flags}
use Rattle.lx_model.specs.declared.library.Spot.{Spot}
use Rattle.image_model.specs.Linked.{fix_in_file}
use Rattle.image_model.specs.World.{far_at, entry_in, world_of}
use Rattle.image_model.proofs.TargetsThere.{through, mapped}
use Rattle.layer_laws.proofs.RecordBytes.{record-with, bytes-of}
use Rattle.layer_laws.proofs.LoadedPages.{Loaded}
use Rattle.layer_laws.proofs.FieldsAgree.{mod-first}
use Rattle.layer_laws.proofs.SelfFields.{SelfWide, FieldOf, field-means, self-ends}
use Rattle.layer_laws.proofs.ImportNames.{import-named, proc-named}
use Rattle.layer_laws.proofs.ForwardersNamed.{by_name}

-- ---- where the record leads

ordinal_spot : (lib : List Parts) (m n : ℕ) (other : Option ℕ) → entry_or_none lib (option_and_then (key_place lib m (keys.Ordinal n)) other) ≡ entry_in lib other (entry_keys.Ordinal n)
ordinal_spot lib m n None = refl
ordinal_spot lib m n (Some o) = refl

-- The entry point that the record names is that of the pair.
key_spot : (l : Link) (lib : List Parts) (m : ℕ) → Loaded l lib m → (name : List ℕ) (k : ℕ) (entry : EntryKey) (t : FixTarget) → position (λ n. bytes_eq name n) (modules_in (used_pairs l)) ≡ Some k → entry_target (used_pairs l) (k + 1) entry ≡ Some t
    → target_spot lib m (with_offset (procs_in (link_pairs l)) t) ≡ entry_in lib (library_named lib name) entry
key_spot l lib m loaded name k (entry_keys.Ordinal n) t at e =
    ap (λ (u : FixTarget). target_spot lib m (with_offset (procs_in (link_pairs l)) u)) (sym (same_Some (leads.Ordinal (k + 1) n) t e))
    ∙ ap (λ (o : Option ℕ). entry_or_none lib (option_and_then (key_place lib m (keys.Ordinal n)) o)) (import-named l lib m loaded name k at)
    ∙ ordinal_spot lib m n (library_named lib name)
key_spot l lib m loaded name k (entry_keys.Named proc) t at e =
    let r = mapped (λ (j : ℕ). leads.Named (k + 1) j) (position (λ n. bytes_eq proc n) (procs_in (used_pairs l))) t e in
    let place = name_offset (procs_in (link_pairs l)) r.item in
    ap (λ (u : FixTarget). target_spot lib m (with_offset (procs_in (link_pairs l)) u)) (sym r.gives)
    ∙ ap (λ (o : Option ℕ). entry_or_none lib (option_and_then (key_place lib m (keys.NameAt place)) o)) (import-named l lib m loaded name k at)
    ∙ by_name lib m place proc (library_named lib name) (proc-named l lib m loaded proc r.item r.is)

pair_spot : (l : Link) (lib : List Parts) (m : ℕ) → Loaded l lib m → (pair : Imp) (t : FixTarget) → import_target (used_pairs l) pair ≡ Some t → target_spot lib m (with_offset (procs_in (link_pairs l)) t) ≡ entry_in lib (library_named lib (uppercase pair.module)) pair.entry
pair_spot l lib m loaded pair t e =
    let k = through (λ k. entry_target (used_pairs l) (k + 1) pair.entry) (position (λ n. bytes_eq (uppercase pair.module) n) (modules_in (used_pairs l))) t e in
    key_spot l lib m loaded (uppercase pair.module) k.item pair.entry t k.is k.gives

-- ---- where the link means it to lead

far_is : (l : Link) (lib : List Parts) (m : ℕ) (bases : Bases) (slot : ℕ) (pair : Imp) (s : Spot) → slice_get (imports l) slot ≡ Some pair → entry_in lib (library_named lib (uppercase pair.module)) pair.entry ≡ Ok s
    → far_of l (world_of lib m bases) slot ≡ record { address = spot_address bases s; flags = spot_flags lib s }
unfolding world_of
far_is l lib m bases slot pair s at is =
    ap (λ (o : Option Imp). option_map_or (entry_point (world_of lib m bases)) o (record { address = 0; flags = 0 })) at ∙ ap (far_at lib bases) is

-- ---- numbers

sum_of : (place disp standing : ℕ) → address place (wrapped (disp + standing)) ≡ wrapped (wrapped (place + disp) + standing)
sum_of place disp standing =
    add-mod-mod place (disp + standing) (2 ^ 32) ∙ ap (λ (n : ℕ). n % 2 ^ 32) (let e : place + (disp + standing) ≡ place + disp + standing = omega arith in e) ∙ sym (mod-first (place + disp) standing (2 ^ 32))

alone_of : (place disp standing : ℕ) → standing ≡ 0 → address place (wrapped (disp + standing)) ≡ wrapped (place + disp)
alone_of place disp standing none =
    add-mod-mod place (disp + standing) (2 ^ 32) ∙ ap (λ (n : ℕ). n % 2 ^ 32) (let e : place + (disp + standing) ≡ place + disp = omega (arith, none) in e)

-- ---- the record of a fixup to an entry point

import_by : (l : Link) (lib : List Parts) (m : ℕ) → Loaded l lib m → (bases : Bases) (i k : ℕ) (q : Fixup) (slot : ℕ) (pair : Imp) (t : FixTarget) (s : Spot) → q.object ≡ suc i → (q.fix.selfrel ≡ true → SelfWide q) → (q.fix.loc == 2 ≡ true → q.standing ≡ 0) → q.target ≡ Entry slot
    → slice_get (imports l) slot ≡ Some pair → import_target (used_pairs l) pair ≡ Some t → target_spot lib m (with_offset (procs_in (link_pairs l)) t) ≡ Ok s
    → bytes-of lib m bases (record { object = suc i; page = k }) (fix_in_file l (record-with k q (t, wrapped (q.fix.disp + q.standing)))) ≡ value_bytes l (world_of lib m bases) q
import_by l lib m loaded bases i k q slot pair t s same wide alone is at leads_to spot =
    let w = world_of lib m bases in
    let p : PageId = record { object = suc i; page = k } in
    let f = fix_in_file l (record-with k q (t, wrapped (q.fix.disp + q.standing))) in
    let place = spot_address bases s in
    let u = address place (wrapped (q.fix.disp + q.standing)) in
    let far = far_is l lib m bases slot pair s at (sym (pair_spot l lib m loaded pair t leads_to) ∙ spot) in
    let there : place ≡ target_address l w q.target = sym (ap (λ (x : Far). x.address) far) ∙ ap (target_address l w) (sym is) in
    let target : wrapped (place + q.fix.disp) ≡ target_number l w q = ap (λ (n : ℕ). wrapped (n + q.fix.disp)) there in
    let of : FieldOf l w q (spot_flags lib s) u (end_address bases m p f) = record {
      flags_same = sym (ap (λ (x : Far). x.flags) far) ∙ ap (target_flags l w) (sym is);
      address_same = λ other. sum_of place q.fix.disp q.standing ∙ ap (λ (n : ℕ). wrapped (n + q.standing)) target;
      tile_same = λ sel. ap tiled_selector (alone_of place q.fix.disp q.standing (alone sel) ∙ target);
      self_wide = wide;
      ends = λ self. self-ends lib m bases q i k same (wide self);
    } in
    ap (bytes_if lib m bases p f) spot ∙ field-means l w q (spot_flags lib s) u (end_address bases m p f) of

pub import-means : (l : Link) (lib : List Parts) (m : ℕ) → Loaded l lib m → (bases : Bases) (i k : ℕ) (q : Fixup) (slot : ℕ) (t : FixTarget × ℕ) (s : Spot) → q.object ≡ suc i → (q.fix.selfrel ≡ true → SelfWide q) → (q.fix.loc == 2 ≡ true → q.standing ≡ 0) → q.target ≡ Entry slot
    → target_and_additive l q q.target ≡ Some t → target_spot lib m (with_offset (procs_in (link_pairs l)) t.0) ≡ Ok s
    → bytes-of lib m bases (record { object = suc i; page = k }) (fix_in_file l (record-with k q t)) ≡ value_bytes l (world_of lib m bases) q
import-means l lib m loaded bases i k q slot t s same wide alone is led spot =
    let opened : option_map (λ target. (target, wrapped (q.fix.disp + q.standing))) (option_and_then (import_target (used_pairs l)) (slice_get (imports l) slot)) ≡ Some t = sym (ap (target_and_additive l q) is) ∙ led in
    let r = mapped (λ (target : FixTarget). (target, wrapped (q.fix.disp + q.standing))) (option_and_then (import_target (used_pairs l)) (slice_get (imports l) slot)) t opened in
    let pair = through (import_target (used_pairs l)) (slice_get (imports l) slot) r.item r.is in
    let spot_there : target_spot lib m (with_offset (procs_in (link_pairs l)) r.item) ≡ Ok s = ap (λ (x : FixTarget × ℕ). target_spot lib m (with_offset (procs_in (link_pairs l)) x.0)) r.gives ∙ spot in
    sym (ap (λ (x : FixTarget × ℕ). bytes-of lib m bases (record { object = suc i; page = k }) (fix_in_file l (record-with k q x))) r.gives)
    ∙ import_by l lib m loaded bases i k q slot pair.item r.item s same wide alone is pair.is pair.gives spot_there
