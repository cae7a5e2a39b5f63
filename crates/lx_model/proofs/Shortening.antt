-- Each step of a table takes bytes.
use Rattle.std.proofs.Common.{◌≡◌, ℕ, zero, suc, ◌+◌, ◌*◌, ◌<◌, ◌%◌, not, Bool, true, false, cond, eqb, ltb, length, Option, Some, None, Ok, Err, refl, arith}
use Rattle.lx_bytes.specs.Cursor.{Cursor}
use Rattle.lx_types.specs.declared.refusal.LxKind.TheVariants as kinds
use Rattle.lx_types.specs.declared.entry.EntryHead.{EntryHead}
use Rattle.lx_model.specs.Reading.{fault, text, number, Read, ◌>>=◌, ends, Shortens}
use Rattle.lx_model.specs.NameTables.{name_entry, import_name, import_entry}
use Rattle.lx_model.specs.EntryTable.{names_one_of, at_entry, gate_entry, forward_entry, bundle_entries, object_entries, bundle_of_type, bundle_at}
use Rattle.lx_model.specs.declared.limits.TheConstants.{MAX_ORDINAL}
use Rattle.lx_types.specs.declared.object.TheConstants.{PAGE_SIZE}
use Rattle.lx_types.specs.declared.fix.Source.{Source}
use Rattle.lx_types.specs.declared.fix.Source.TheVariants.{Byte, Sel, Far16, Off16, Far32, Off32, Self32}
use Rattle.lx_model.specs.Iterated.{Group, group_fields, fault_at, group_at}
use Rattle.lx_model.specs.Sources.{SourceKind, source_of_byte}
use Rattle.lx_model.specs.RecordFields.{has, number_width, target_width, ordinal_width, additive_width, internal_at, target_of_kind, target_at, additive_at, reaches_page, offset_at, offsets_at}
use Rattle.lx_model.specs.declared.record_fields.TheConstants.{ADDITIVE, CHAIN}
use Rattle.lx_model.specs.Records.{Record, single_at, list_at, after_source, record_at, next_record}
use Rattle.lx_model.proofs.Steps.{done, never}
use Rattle.lx_model.proofs.Many.{Leaves, number_leaves, text_leaves, number_takes_some, bind_leaves, done_leaves, err_leaves, cond_leaves}

-- ---- names

pub name_shortens : Shortens name_entry
unfolding name_entry
name_shortens known c d x e =
    bind_leaves (length c.left) (number 1 c) _ (number_takes_some 1 c (omega arith)) (λ len at lt.
    cond_leaves _ (eqb len 0) _ _ (done_leaves _ _ _ lt)
    (bind_leaves _ (text len at) _ (text_leaves len _ at lt) (λ name at lt.
    bind_leaves _ (number 2 at) _ (number_leaves 2 _ at lt) (λ ordinal at lt. done_leaves _ _ at lt)))) (Some x) d e

name_leaves : (c : Cursor) → Leaves (length c.left) (import_name c)
unfolding import_name
name_leaves c =
    bind_leaves (length c.left) (number 1 c) _ (number_takes_some 1 c (omega arith)) (λ len at lt.
    cond_leaves _ (eqb len 0) _ _ (err_leaves _ _) (text_leaves len _ at lt))

pub import_shortens : Shortens import_entry
unfolding import_entry
import_shortens zero c d x e = absurd (never c d x (ends c) refl e)
import_shortens (suc n) c d x e = bind_leaves (length c.left) (import_name c) _ (name_leaves c) (λ name at lt. done_leaves _ _ at lt) (Some x) d e

-- ---- entries

at_leaves : (width object m : ℕ) (c : Cursor) → length c.left < m → Leaves m (at_entry width object c)
unfolding at_entry
at_leaves width object m c lt =
    bind_leaves m (number 1 c) _ (number_leaves 1 m c lt) (λ flags at lt.
    bind_leaves m (number width at) _ (number_leaves width m at lt) (λ offset at lt. done_leaves m _ at lt))

gate_leaves : (object m : ℕ) (c : Cursor) → length c.left < m → Leaves m (gate_entry object c)
unfolding gate_entry
gate_leaves object m c lt =
    bind_leaves m (number 1 c) _ (number_leaves 1 m c lt) (λ flags at lt.
    bind_leaves m (number 2 at) _ (number_leaves 2 m at lt) (λ offset at lt.
    bind_leaves m (number 2 at) _ (number_leaves 2 m at lt) (λ gate at lt. done_leaves m _ at lt)))

forward_leaves : (imports m : ℕ) (c : Cursor) → length c.left < m → Leaves m (forward_entry imports c)
unfolding forward_entry
forward_leaves imports m c lt =
    bind_leaves m (number 1 c) _ (number_leaves 1 m c lt) (λ flags at lt.
    bind_leaves m (number 2 at) _ (number_leaves 2 m at lt) (λ import at lt.
    cond_leaves m (not (names_one_of imports import)) _ _ (err_leaves m _)
    (bind_leaves m (number 4 at) _ (number_leaves 4 m at lt) (λ key at lt. done_leaves m _ at lt))))

abbrev EachLeaves : ℕ → (Cursor → Read EntryHead) → Type 0
EachLeaves m read = (c : Cursor) → length c.left < m → Leaves m (read c)

entries_leave : (n ordinal m : ℕ) (read : Cursor → Read EntryHead) → EachLeaves m read → (c : Cursor) → length c.left < m → Leaves m (bundle_entries n ordinal read c)
unfolding bundle_entries
entries_leave zero ordinal m read each c lt = done_leaves m _ c lt
entries_leave (suc n) ordinal m read each c lt =
    bind_leaves m (read c) _ (each c lt) (λ head at lt.
    bind_leaves m (bundle_entries n (ordinal + 1) read at) _ (entries_leave n (ordinal + 1) m read each at lt) (λ others at lt. done_leaves m _ at lt))

object_leaves : (objects bundle n ordinal m : ℕ) (read : ℕ → Cursor → Read EntryHead) →
    ((object : ℕ) → EachLeaves m (read object)) → (c : Cursor) → length c.left < m → Leaves m (object_entries objects bundle n ordinal read c)
unfolding object_entries
object_leaves objects bundle n ordinal m read each c lt =
    bind_leaves m (number 2 c) _ (number_leaves 2 m c lt) (λ object at lt.
    cond_leaves m (not (names_one_of objects object)) _ _ (err_leaves m _) (entries_leave n ordinal m (read object) (each object) at lt))

bundle_leaves : (kind objects imports bundle n ordinal m : ℕ) (c : Cursor) → length c.left < m → Leaves m (bundle_of_type kind objects imports bundle n ordinal c)
unfolding bundle_of_type
bundle_leaves zero objects imports bundle n ordinal m c lt = done_leaves m _ c lt
bundle_leaves (suc zero) objects imports bundle n ordinal m c lt = object_leaves objects bundle n ordinal m (at_entry 2) (λ object. at_leaves 2 object m) c lt
bundle_leaves (suc (suc zero)) objects imports bundle n ordinal m c lt = object_leaves objects bundle n ordinal m gate_entry (λ object. gate_leaves object m) c lt
bundle_leaves (suc (suc (suc zero))) objects imports bundle n ordinal m c lt = object_leaves objects bundle n ordinal m (at_entry 4) (λ object. at_leaves 4 object m) c lt
bundle_leaves (suc (suc (suc (suc zero)))) objects imports bundle n ordinal m c lt =
    bind_leaves m (number 2 c) _ (number_leaves 2 m c lt) (λ reserved at lt. entries_leave n ordinal m (forward_entry imports) (forward_leaves imports m) at lt)
bundle_leaves (suc (suc (suc (suc (suc k))))) objects imports bundle n ordinal m c lt = err_leaves m _

pub bundle_shortens : (objects imports : ℕ) → Shortens (bundle_at objects imports)
unfolding bundle_at
bundle_shortens objects imports last c d x e =
    let m = length c.left in
    bind_leaves m (number 1 c) _ (number_takes_some 1 c (omega arith)) (λ count at lt.
    cond_leaves m (eqb count 0) _ _ (done_leaves m _ at lt)
    (cond_leaves m (ltb MAX_ORDINAL (last + count)) _ _ (err_leaves m _)
    (bind_leaves m (number 1 at) _ (number_leaves 1 m at lt) (λ kind at lt.
    bind_leaves m (bundle_of_type kind objects imports c.at count (last + 1) at) _ (bundle_leaves kind objects imports c.at count (last + 1) m at lt) (λ entries at lt. done_leaves m _ at lt))))) (Some x) d e

-- ---- groups

fault_at_leaves : {A : Type 0} (m at : ℕ) (r : Read A) → Leaves m r → Leaves m (fault_at at r)
fault_at_leaves m at (Ok x) h = h
fault_at_leaves m at (Err e) h = err_leaves m _

group_fields_leave : (c : Cursor) → Leaves (length c.left) (group_fields c)
unfolding group_fields
group_fields_leave c =
    let m = length c.left in
    bind_leaves m (number 2 c) _ (number_takes_some 2 c (omega arith)) (λ times at lt.
    bind_leaves m (number 2 at) _ (number_leaves 2 m at lt) (λ len at lt.
    bind_leaves m (text len at) _ (text_leaves len m at lt) (λ bytes at lt. done_leaves m _ at lt)))

group_after : (before at : ℕ) (c : Cursor) (none : Bool) (x : Group × ℕ) (d : Cursor) →
    cond none (ends c) (fault_at at (group_fields c) >>= λ group. cond (ltb PAGE_SIZE (before + group.0.times * length group.0.bytes))
    (Err (fault kinds.TooLong at)) (done (Some (group.0, before + group.0.times * length group.0.bytes), group.1))) ≡ Ok (Some x, d) →
    length d.left < length c.left
group_after before at c true x d e = absurd (never c d x (ends c) refl e)
group_after before at c false x d e =
    let m = length c.left in
    bind_leaves m (fault_at at (group_fields c)) _ (fault_at_leaves m at (group_fields c) (group_fields_leave c)) (λ group at' lt.
    cond_leaves m (ltb PAGE_SIZE (before + group.times * length group.bytes)) _ _ (err_leaves m _) (done_leaves m _ at' lt)) (Some x) d e

pub group_shortens : Shortens group_at
unfolding group_at
group_shortens before c d x e = group_after before c.at c (eqb (length c.left) 0) x d e

-- ---- records

internal_leaves : (source : Source) (flags m : ℕ) (c : Cursor) → length c.left < m → Leaves m (internal_at source flags c)
unfolding internal_at
internal_leaves Byte flags m c lt =
    bind_leaves m (number (number_width flags) c) _ (number_leaves (number_width flags) m c lt) (λ object at lt.
    bind_leaves m (number (target_width flags) at) _ (number_leaves (target_width flags) m at lt) (λ offset at lt. done_leaves m _ at lt))
internal_leaves Sel flags m c lt = bind_leaves m (number (number_width flags) c) _ (number_leaves (number_width flags) m c lt) (λ object at lt. done_leaves m _ at lt)
internal_leaves Far16 flags m c lt =
    bind_leaves m (number (number_width flags) c) _ (number_leaves (number_width flags) m c lt) (λ object at lt.
    bind_leaves m (number (target_width flags) at) _ (number_leaves (target_width flags) m at lt) (λ offset at lt. done_leaves m _ at lt))
internal_leaves Off16 flags m c lt =
    bind_leaves m (number (number_width flags) c) _ (number_leaves (number_width flags) m c lt) (λ object at lt.
    bind_leaves m (number (target_width flags) at) _ (number_leaves (target_width flags) m at lt) (λ offset at lt. done_leaves m _ at lt))
internal_leaves Far32 flags m c lt =
    bind_leaves m (number (number_width flags) c) _ (number_leaves (number_width flags) m c lt) (λ object at lt.
    bind_leaves m (number (target_width flags) at) _ (number_leaves (target_width flags) m at lt) (λ offset at lt. done_leaves m _ at lt))
internal_leaves Off32 flags m c lt =
    bind_leaves m (number (number_width flags) c) _ (number_leaves (number_width flags) m c lt) (λ object at lt.
    bind_leaves m (number (target_width flags) at) _ (number_leaves (target_width flags) m at lt) (λ offset at lt. done_leaves m _ at lt))
internal_leaves Self32 flags m c lt =
    bind_leaves m (number (number_width flags) c) _ (number_leaves (number_width flags) m c lt) (λ object at lt.
    bind_leaves m (number (target_width flags) at) _ (number_leaves (target_width flags) m at lt) (λ offset at lt. done_leaves m _ at lt))

target_leaves : (kind : ℕ) (source : Source) (flags m : ℕ) (c : Cursor) → length c.left < m → Leaves m (target_of_kind kind source flags c)
unfolding target_of_kind
target_leaves zero source flags m c lt = internal_leaves source flags m c lt
target_leaves (suc zero) source flags m c lt =
    bind_leaves m (number (number_width flags) c) _ (number_leaves (number_width flags) m c lt) (λ import at lt.
    bind_leaves m (number (ordinal_width flags) at) _ (number_leaves (ordinal_width flags) m at lt) (λ ordinal at lt. done_leaves m _ at lt))
target_leaves (suc (suc zero)) source flags m c lt =
    bind_leaves m (number (number_width flags) c) _ (number_leaves (number_width flags) m c lt) (λ import at lt.
    bind_leaves m (number (target_width flags) at) _ (number_leaves (target_width flags) m at lt) (λ name at lt. done_leaves m _ at lt))
target_leaves (suc (suc (suc k))) source flags m c lt = bind_leaves m (number (number_width flags) c) _ (number_leaves (number_width flags) m c lt) (λ ordinal at lt. done_leaves m _ at lt)

additive_leaves : (flags m : ℕ) (c : Cursor) → length c.left < m → Leaves m (additive_at flags c)
unfolding additive_at
additive_leaves flags m c lt = cond_leaves m (has ADDITIVE flags) _ _ (number_leaves (additive_width flags) m c lt) (done_leaves m _ c lt)

offset_leaves : (source : Source) (m : ℕ) (c : Cursor) → length c.left < m → Leaves m (offset_at source c)
offset_leaves source m c lt =
    bind_leaves m (number 2 c) _ (number_leaves 2 m c lt) (λ word at lt. cond_leaves m (reaches_page source word) _ _ (done_leaves m _ at lt) (err_leaves m _))

offsets_leave : (n : ℕ) (source : Source) (m : ℕ) (c : Cursor) → length c.left < m → Leaves m (offsets_at n source c)
unfolding offsets_at
offsets_leave zero source m c lt = done_leaves m _ c lt
offsets_leave (suc n) source m c lt =
    bind_leaves m (offset_at source c) _ (offset_leaves source m c lt) (λ offset at lt.
    bind_leaves m (offsets_at n source at) _ (offsets_leave n source m at lt) (λ others at lt. done_leaves m _ at lt))

single_leaves : (kind : SourceKind) (flags m : ℕ) (c : Cursor) → length c.left < m → Leaves m (single_at kind flags c)
unfolding single_at
single_leaves kind flags m c lt =
    bind_leaves m (offset_at kind.source c) _ (offset_leaves kind.source m c lt) (λ offset at lt.
    bind_leaves m (target_at kind.source flags at) _ (target_leaves (flags % 4) kind.source flags m at lt) (λ target at lt.
    bind_leaves m (additive_at flags at) _ (additive_leaves flags m at lt) (λ additive at lt. done_leaves m _ at lt)))

list_leaves : (kind : SourceKind) (flags m : ℕ) (c : Cursor) → length c.left < m → Leaves m (list_at kind flags c)
unfolding list_at
list_leaves kind flags m c lt =
    bind_leaves m (number 1 c) _ (number_leaves 1 m c lt) (λ count at lt.
    bind_leaves m (target_at kind.source flags at) _ (target_leaves (flags % 4) kind.source flags m at lt) (λ target at lt.
    bind_leaves m (additive_at flags at) _ (additive_leaves flags m at lt) (λ additive at lt.
    bind_leaves m (offsets_at count kind.source at) _ (offsets_leave count kind.source m at lt) (λ offsets at lt. done_leaves m _ at lt))))

source_leaves : (at m : ℕ) (kind : Option SourceKind) (c : Cursor) → length c.left < m → Leaves m (after_source at kind c)
source_leaves at m None c lt = err_leaves m _
source_leaves at m (Some kind) c lt =
    bind_leaves m (number 1 c) _ (number_leaves 1 m c lt) (λ flags at lt.
    cond_leaves m (has CHAIN flags) _ _ (err_leaves m _)
    (cond_leaves m kind.listed _ _ (list_leaves kind flags m at lt) (single_leaves kind flags m at lt)))

pub record_leaves : (c : Cursor) → Leaves (length c.left) (record_at c)
unfolding record_at
record_leaves c =
    bind_leaves (length c.left) (number 1 c) _ (number_takes_some 1 c (omega arith)) (λ source at lt. source_leaves c.at (length c.left) (source_of_byte source) at lt)

record_after : (c : Cursor) (none : Bool) (x : Record × Unit {0}) (d : Cursor) →
    cond none (ends c) (record_at c >>= λ fixes. done (Some (record { at = c.at; fixes = fixes.0 }, tt), fixes.1)) ≡ Ok (Some x, d) → length d.left < length c.left
record_after c true x d e = absurd (never c d x (ends c) refl e)
record_after c false x d e = bind_leaves (length c.left) (record_at c) _ (record_leaves c) (λ fixes at lt. done_leaves _ _ at lt) (Some x) d e

pub record_shortens : Shortens next_record
unfolding next_record
record_shortens known c d x e = record_after c (eqb (length c.left) 0) x d e
