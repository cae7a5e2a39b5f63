-- What a process sees: a byte of a residence, under its own writes or those that all share.
use Rattle.std.specs.Prelude.{ℕ, ◌+◌, ◌-◌, ◌/◌, ◌==◌, ◌&&◌, Bool, not, List, [], ◌∷◌, ◌++◌, map, filter, reverse, find, filter_map, Option, None, slice_get, nat_le, if◌then◌else◌}
use Rattle.std.specs.List.{list_any, range_with_len}
use Rattle.lx_types.specs.Object.{class_of}
use Rattle.lx_types.specs.declared.bases.Bases.{Bases}
use Rattle.lx_types.specs.declared.object.Class.{Class}
use Rattle.lx_types.specs.declared.object.Class.TheVariants.{Code, Private, Shared}
use Rattle.lx_types.specs.declared.object.PageId.{PageId}
use Rattle.lx_types.specs.declared.object.TheConstants.{PAGE_SIZE}
use Rattle.load_model.specs.Modules.{Library, Held, order_of, object_at}
use Rattle.load_model.specs.State.{Written, Residence, Process, Eager, residence_of, bases_of}

-- ---- bases

-- where the objects of each module stand that a module reaches
unfoldable pub bases_seen : Library → Eager → ℕ → Bases
bases_seen lib e m = record { mods = map (λ k. record { «module» = k; objects = bases_of (residence_of e k) }) (order_of lib m) }

-- ---- writes

-- the byte that a write put at an offset
abbrev pub put_at : ℕ → Written → Option ℕ
put_at x w = if nat_le w.offset x then slice_get w.bytes (x - w.offset) else None

abbrev pub writes_of_class : Class → Process → Residence → List Written
writes_of_class Code p r = map (λ w. w.write) (filter (λ w. w.serial == r.serial) p.writes)
writes_of_class Private p r = map (λ w. w.write) (filter (λ w. w.serial == r.serial) p.writes)
writes_of_class Shared p r = r.writes

-- The writes to an object that a process sees: its own to private objects and, by a debugger, to code; or those of all.
unfoldable pub writes_seen : Library → Process → Residence → ℕ → List Written
writes_seen lib p r object = filter (λ w. w.object == object) (writes_of_class (class_of (object_at lib r.«module» object)) p r)

abbrev pub first_or : ℕ → List ℕ → ℕ
first_or other [] = other
first_or other (x ∷ xs) = x

-- what the last write there put, or else the byte itself
abbrev pub last_put : List Written → ℕ → ℕ → ℕ
last_put writes x byte = first_or byte (filter_map (put_at x) (reverse writes))

-- ---- bytes

-- Byte x of an object of a residence, as a process sees it. Nobody asks for it on an invalid page.
unfoldable pub Byte : Library → Held → Eager → ℕ → Residence → ℕ → ℕ → ℕ
Byte lib contents e pid r object x =
    last_put (writes_seen lib (e.processes pid) r object) x (contents r.«module» (bases_seen lib e r.«module») object x)

unfoldable pub Bytes : Library → Held → Eager → ℕ → Residence → ℕ → ℕ → ℕ → List ℕ
Bytes lib contents e pid r object offset len = map (Byte lib contents e pid r object) (range_with_len offset len)

-- ---- pages

-- the pages that so many bytes cover; no bytes cover none
abbrev pub pages_over : ℕ → ℕ → List ℕ
pages_over offset len =
    if len == 0 then [] else range_with_len (offset / PAGE_SIZE) ((offset + len - 1) / PAGE_SIZE + 1 - offset / PAGE_SIZE)

abbrev pub page : ℕ → ℕ → PageId
page object n = record { object = object; page = n }

abbrev pub is_page : PageId → PageId → Bool
is_page a b = (a.object == b.object) && (a.page == b.page)

abbrev pub is_touched : Process → ℕ → PageId → Bool
is_touched p serial q = list_any (λ t. (t.serial == serial) && is_page t.page q) p.touched

-- the first page of a place that a process has not touched
abbrev pub first_untouched : Process → ℕ → ℕ → ℕ → ℕ → Option ℕ
first_untouched p serial object offset len = find (λ n. not (is_touched p serial (page object n))) (pages_over offset len)

-- ---- the state after a touch, and after a write

abbrev pub touching : ℕ → ℕ → ℕ → ℕ → Process → Process
touching serial object offset len p =
    record p { touched = p.touched ++ map (λ n. record { serial = serial; page = page object n }) (pages_over offset len) }

abbrev pub writing : ℕ → Written → Process → Process
writing serial w p = record p { writes = p.writes ++ record { serial = serial; write = w } ∷ [] }

abbrev pub with_write : ℕ → Written → Residence → Residence
with_write serial w r = if r.serial == serial then record r { writes = r.writes ++ w ∷ [] } else r
