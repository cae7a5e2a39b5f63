-- The exports of a linked module, and which of them are refused.
use Rattle.std.specs.Prelude.{ℕ, ◌+◌, Bool, true, false, not, ◌||◌, List, [], ◌∷◌, Option, Some, None, map, length, take, if◌then◌else◌, nat_lt, ◌==◌, bytes_eq, filter, find, is_none, unwrap_or, slice_get, slice_index}
use Rattle.std.specs.List.{list_any, filter_map, zip, enumerate_from, range_with_len}
use Rattle.std.specs.Option.{option_map, option_and_then, option_map_or}
use Rattle.lx_types.specs.Addresses.{is_big}
use Rattle.lx_types.specs.declared.limits.TheConstants.{BASE_UNIT}
use Rattle.obj_types.specs.declared.symbol.Exp.{Exp}
use Rattle.obj_types.specs.declared.symbol.Imp.{Imp}
use Rattle.link_model.specs.declared.limits.TheConstants.{MAX_NUMBER}
use Rattle.link_model.specs.declared.refusals.EntryRefusal.{EntryRefusal}
use Rattle.link_model.specs.declared.refusals.EntryRefusal.TheVariants.{Ordinal, NameTwice}
use Rattle.link_model.specs.Words.{first_of, first_conflict}
use Rattle.link_model.specs.Link.{Link, exports}
use Rattle.link_model.specs.Symbols.{imports, global}
use Rattle.link_model.specs.Layout.{object_flags}
use Rattle.link_model.specs.Goals.{Target, Internal, Constant, Entry, of_symbol}

-- ---- ordinals, from those that exports give

abbrev pub given : List (Option ℕ) → List ℕ
given os = filter_map (λ o. o) os

-- The numbers from 1 on that no export has: so many at least as there are exports.
abbrev pub free_ordinals : List (Option ℕ) → List ℕ
free_ordinals os =
    filter (λ n. not (list_any (λ g. g == n) (given os))) (range_with_len 1 (length (given os) + length os))

-- The k-th export without ordinal takes the k-th number that no export has.
abbrev pub ordinal_at : List (Option ℕ) → ℕ → Option ℕ → ℕ
ordinal_at os k o = unwrap_or o (slice_index (free_ordinals os) (length (filter is_none (take k os))))

abbrev pub ordinals : List (Option ℕ) → List ℕ
ordinals os = map (λ q. ordinal_at os q.0 q.1) (enumerate_from 0 os)

-- ---- exports

-- Where an export leads: a place in an object, or an entry point of another module.
pub data ExportTarget : Type 0 where
  At : (object offset : ℕ) → ExportTarget
  Forward : (pair : Imp) → ExportTarget

pub record Export : Type 0 where
  pub ordinal : ℕ
  pub name : List ℕ
  pub resident : Bool
  pub words : ℕ  -- parameter words
  pub wide : Bool  -- whether its offset has 32 bits in the entry table
  pub target : ExportTarget

abbrev pub export_target : Link → Target → Option ExportTarget
export_target l (Internal o offset) = Some (At o offset)
export_target l (Constant value) = None
export_target l (Entry slot) = option_map Forward (slice_get (imports l) slot)

-- The name of an export without ordinal is resident, and one with an ordinal where it says so.
abbrev pub is_resident : Exp → Bool
is_resident x = option_map_or (λ n. x.resident) x.ordinal true

-- An entry of a big object, and one at 64 KiB or past it, has an offset of 32 bits.
abbrev pub is_wide : Link → ExportTarget → Bool
is_wide l (At o offset) = is_big (object_flags l o) || not (nat_lt offset BASE_UNIT)
is_wide l (Forward pair) = false

abbrev pub export_of : Link → ℕ → Exp → Option Export
export_of l ordinal x =
    option_map (λ target. record {
      ordinal = ordinal;
      name = x.name;
      resident = is_resident x;
      words = x.words;
      wide = is_wide l target;
      target = target;
    })
    (option_and_then (export_target l) (option_and_then (of_symbol l) (global l x.internal)))

abbrev pub asked_ordinals : Link → List (Option ℕ)
asked_ordinals l = map (λ x. x.ordinal) (exports l)

-- The exports in order: EXPDEF records in chosen order, then EXPORTS.
unfoldable pub Out : Link → List Export
Out l = filter_map (λ q. export_of l q.0 q.1) (zip (ordinals (asked_ordinals l)) (exports l))

-- ---- refusals

-- `Ordinal`: the first ordinal, in order of exports, that is 0 or that an earlier export gives.
abbrev pub wrong_ordinal : List (Option ℕ) → Option EntryRefusal
wrong_ordinal os =
    option_map (λ q. Ordinal q.1)
    (find (λ q. q.1 == 0 || list_any (λ g. g == q.1) (take q.0 (given os))) (enumerate_from 0 (given os)))

-- Else `Ordinal` of the number after the greatest, where some export would get one past it.
abbrev pub ordinal_past : ℕ → List (Option ℕ) → Option EntryRefusal
ordinal_past most os = if list_any (nat_lt most) (ordinals os) then Some (Ordinal (most + 1)) else None

-- `NameTwice`: the first name, in order of exports, that an earlier export has.
abbrev pub name_twice : List (List ℕ) → Option EntryRefusal
name_twice names = option_map NameTwice (first_conflict bytes_eq [] names)

-- The refusal, in this order.
unfoldable pub entry_refusal : Link → Option EntryRefusal
entry_refusal l =
    first_of
    (wrong_ordinal (asked_ordinals l) ∷ ordinal_past MAX_NUMBER (asked_ordinals l)
    ∷ name_twice (map (λ x. x.name) (exports l)) ∷ [])
