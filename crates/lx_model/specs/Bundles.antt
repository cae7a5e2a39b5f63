-- How the entry table is written: bundles, each with the entries of one type.
-- "32-bit Linear eXecutable Module Format": "Entry Table".
use Rattle.std.specs.Prelude.{ℕ, ◌+◌, ◌<◌, ◌^◌, List, [], ◌∷◌, ◌++◌, length, map}
use Rattle.std.specs.List.{flat_map, enumerate_from, AllByRecursion}
use Rattle.lx_bytes.specs.LittleEndian.{little_bytes}
use Rattle.lx_types.specs.declared.entry.EntryHead.{EntryHead}
use Rattle.lx_types.specs.declared.entry.EntryHead.TheVariants.{At, Gate286, Forward}
use Rattle.lx_types.specs.Sound.{IsNumberOf}
use Rattle.lx_model.specs.EntryTable.{Numbered, forward_key}

-- ---- entries

-- a flags byte and an offset
pub record AtEntry : Type 0 where
  pub flags : ℕ
  pub offset : ℕ

pub record GateEntry : Type 0 where
  pub flags : ℕ
  pub offset : ℕ
  pub gate : ℕ

-- a flags byte, a module's number, and an ordinal or a name's offset
pub record ForwardEntry : Type 0 where
  pub flags : ℕ
  pub import : ℕ
  pub key : ℕ

abbrev pub at_spelling : ℕ → AtEntry → List ℕ
at_spelling width e = e.flags ∷ little_bytes width e.offset

abbrev pub gate_spelling : GateEntry → List ℕ
gate_spelling e = e.flags ∷ little_bytes 2 e.offset ++ little_bytes 2 e.gate

abbrev pub forward_spelling : ForwardEntry → List ℕ
forward_spelling e = e.flags ∷ little_bytes 2 e.import ++ little_bytes 4 e.key

-- ---- bundles

-- so many unused ordinals; entries of one object, with offsets of 16 bits, as gates, or with offsets of 32
-- bits; a word that is reserved, and forwarders
pub data Bundle : Type 0 where
  unused : ℕ → Bundle
  narrow : ℕ → List AtEntry → Bundle
  gates : ℕ → List GateEntry → Bundle
  wide : ℕ → List AtEntry → Bundle
  forwarders : ℕ → List ForwardEntry → Bundle

-- how many ordinals a bundle has
abbrev pub ordinal_count : Bundle → ℕ
ordinal_count (unused n) = n
ordinal_count (narrow object es) = length es
ordinal_count (gates object es) = length es
ordinal_count (wide object es) = length es
ordinal_count (forwarders reserved es) = length es

-- how many ordinals bundles have together
abbrev pub ordinals_together : List Bundle → ℕ
ordinals_together [] = 0
ordinals_together (b ∷ bs) = ordinal_count b + ordinals_together bs

abbrev pub body_spelling : Bundle → List ℕ
body_spelling (unused n) = []
body_spelling (narrow object es) = little_bytes 2 object ++ flat_map (at_spelling 2) es
body_spelling (gates object es) = little_bytes 2 object ++ flat_map gate_spelling es
body_spelling (wide object es) = little_bytes 2 object ++ flat_map (at_spelling 4) es
body_spelling (forwarders reserved es) = little_bytes 2 reserved ++ flat_map forward_spelling es

abbrev pub type_of : Bundle → ℕ
type_of (unused n) = 0
type_of (narrow object es) = 1
type_of (gates object es) = 2
type_of (wide object es) = 3
type_of (forwarders reserved es) = 4

abbrev pub bundle_spelling : Bundle → List ℕ
bundle_spelling b = ordinal_count b ∷ type_of b ∷ body_spelling b

-- a count of 0 ends the table
abbrev pub table_spelling : List Bundle → List ℕ
table_spelling bs = flat_map bundle_spelling bs ++ 0 ∷ []

-- what the ordinals of a bundle stand for
abbrev pub heads_of : Bundle → List EntryHead
heads_of (unused n) = []
heads_of (narrow object es) = map (λ e. At object e.offset) es
heads_of (gates object es) = map (λ e. Gate286 object e.offset) es
heads_of (wide object es) = map (λ e. At object e.offset) es
heads_of (forwarders reserved es) = map (λ e. Forward e.import (forward_key e.flags e.key)) es

-- the entries of bundles that follow an ordinal
abbrev pub entries_after : ℕ → List Bundle → List Numbered
entries_after last [] = []
entries_after last (b ∷ bs) = enumerate_from (last + 1) (heads_of b) ++ entries_after (last + ordinal_count b) bs

-- ---- which bundles can be written

pub record AtFits (bound : ℕ) (e : AtEntry) : Type 0 where
  pub flags : e.flags < 256
  pub offset : e.offset < bound

pub record GateFits (e : GateEntry) : Type 0 where
  pub flags : e.flags < 256
  pub offset : e.offset < 2 ^ 16
  pub gate : e.gate < 2 ^ 16

pub record ForwardFits (imports : ℕ) (e : ForwardEntry) : Type 0 where
  pub flags : e.flags < 256
  pub there : IsNumberOf e.import imports
  pub import : e.import < 2 ^ 16
  pub key : e.key < 2 ^ 32

-- an object that is there, and whose number is a word
abbrev pub ObjectFits : ℕ → ℕ → Type 0
ObjectFits objects object = IsNumberOf object objects × (object < 2 ^ 16)

abbrev pub BodyFits : ℕ → ℕ → Bundle → Type 0
BodyFits objects imports (unused n) = Unit {0}
BodyFits objects imports (narrow object es) = ObjectFits objects object × AllByRecursion (AtFits (2 ^ 16)) es
BodyFits objects imports (gates object es) = ObjectFits objects object × AllByRecursion GateFits es
BodyFits objects imports (wide object es) = ObjectFits objects object × AllByRecursion (AtFits (2 ^ 32)) es
BodyFits objects imports (forwarders reserved es) = (reserved < 2 ^ 16) × AllByRecursion (ForwardFits imports) es

pub record BundleFits (objects imports : ℕ) (b : Bundle) : Type 0 where
  pub some : 0 < ordinal_count b
  pub few : ordinal_count b < 256
  pub body : BodyFits objects imports b
