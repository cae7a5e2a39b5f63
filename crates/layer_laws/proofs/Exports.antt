-- The exports of a link fit the name tables and the entry table.
use Rattle.std.specs.Prelude.{◌≡◌, ◌≢◌, ℕ, ◌+◌, ◌<◌, ◌≤◌, ◌^◌, Bool, true, false, not, ◌||◌, nat_lt, List, [], ◌∷◌, Some, length, slice_get, is_some, bytes_eq, refl}
use Rattle.std.specs.List.{AllByRecursion, zip, position}
use Rattle.std.specs.Option.{option_and_then}
use Rattle.std.proofs.Common.{ap, sym, ◌∙◌, arith, subst, true≢false}
use Rattle.std.proofs.lemmas.Bool.Decides.{nat_tests}
use Rattle.std.proofs.lemmas.Option.{same_Some}
use Rattle.lx_types.specs.Addresses.{is_big}
use Rattle.lx_types.specs.declared.limits.TheConstants.{BASE_UNIT}
use Rattle.lx_types.specs.Names.{IsName, uppercase}
use Rattle.lx_types.specs.Sound.{IsNumberOf}
use Rattle.lx_types.specs.declared.entry.EntryKey.{EntryKey}
use Rattle.lx_types.specs.declared.entry.EntryKey.TheVariants as entry_keys
use Rattle.lx_types.specs.declared.entry.EntryHead.{EntryHead}
use Rattle.lx_types.specs.declared.entry.EntryHead.TheVariants as heads
use Rattle.lx_types.specs.declared.entry.FwdKey.{FwdKey}
use Rattle.lx_types.specs.declared.entry.FwdKey.TheVariants as keys
use Rattle.lx_types.specs.declared.fix.FixTarget.{FixTarget}
use Rattle.lx_types.specs.declared.fix.FixTarget.TheVariants as leads
use Rattle.obj_types.specs.declared.symbol.Exp.{Exp}
use Rattle.obj_types.specs.declared.symbol.Imp.{Imp}
use Rattle.link_model.specs.declared.limits.TheConstants.{MAX_NUMBER}
use Rattle.link_model.specs.Link.{Link, exports}
use Rattle.link_model.specs.Symbols.{imports, global}
use Rattle.link_model.specs.Layout.{object_flags}
use Rattle.link_model.specs.Goals.{Target, Internal, Constant, Entry, of_symbol}
use Rattle.link_model.specs.Exports.{ExportTarget, At, Forward, Export, export_target, is_wide, export_of, ordinals, asked_ordinals, Out}
use Rattle.link_model.specs.ImportTables.{link_pairs, modules_in, procs_in, entry_target, import_target, name_table, name_offset, with_offset}
use Rattle.link_model.proofs.Members.{In, here, there, in_at}
use Rattle.link_model.proofs.FixupsStay.{global_there}
use Rattle.lx_model.specs.ExportTables.{Exported}
use Rattle.image_model.specs.Exported.{forwarder_to, head_of, exported, exported_of}
use Rattle.image_model.proofs.ObjectsThere.{IsThere}
use Rattle.image_model.proofs.TargetsThere.{LeadsThere, through, mapped, from_filter_map, symbol_there}
use Rattle.image_model.proofs.FewImports.{export_with}
use Rattle.image_model.proofs.RecordsFit.{AmongPairs, import-among}
use Rattle.layer_laws.specs.Ranges.{KeyInRange}
use Rattle.layer_laws.proofs.Lists.{each-of}
use Rattle.layer_laws.proofs.Given.{Given}
use Rattle.layer_laws.proofs.Known.{known-export, known-import, small-ordinal, OffsetSmall, symbol-offset}
use Rattle.layer_laws.proofs.NameOffsets.{offset-small}

-- ---- targets by ordinal

-- An ordinal of another module has 32 bits.
abbrev pub OrdinalSmall : FixTarget → Type 0
OrdinalSmall (leads.Internal o offset) = Unit {0}
OrdinalSmall (leads.Ordinal import n) = n < 2 ^ 32
OrdinalSmall (leads.Named import k) = Unit {0}
OrdinalSmall (leads.Own n) = Unit {0}

entry_small : (pairs : List Imp) (number : ℕ) (entry : EntryKey) (t : FixTarget) → KeyInRange entry → entry_target pairs number entry ≡ Some t → OrdinalSmall t
entry_small pairs number (entry_keys.Ordinal n) t small e = subst OrdinalSmall (same_Some (leads.Ordinal number n) t e) small
entry_small pairs number (entry_keys.Named name) t small e =
    let r = mapped (λ (k : ℕ). leads.Named number k) (position (λ x. bytes_eq name x) (procs_in pairs)) t e in subst OrdinalSmall r.gives tt

pub import-small : (pairs : List Imp) (pair : Imp) (t : FixTarget) → KeyInRange pair.entry → import_target pairs pair ≡ Some t → OrdinalSmall t
import-small pairs pair t small e =
    let k = through (λ k. entry_target pairs (k + 1) pair.entry) (position (λ x. bytes_eq (uppercase pair.module) x) (modules_in pairs)) t e in
    entry_small pairs (k.item + 1) pair.entry t small k.gives

-- ---- heads of entries

abbrev pub KeySmall : FwdKey → Type 0
KeySmall (keys.Ordinal n) = n < 2 ^ 32
KeySmall (keys.NameAt at) = at < 2 ^ 32

-- An entry is in an object that is there, with an offset of 16 bits unless it is wide; or in an import module that is there.
abbrev pub HeadFits : Link → Bool → EntryHead → Type 0
HeadFits l wide (heads.At object offset) = IsThere l object × (offset < 2 ^ 32) × (wide ≡ false → offset < 2 ^ 16)
HeadFits l wide (heads.Gate286 object offset) = ⊥
HeadFits l wide (heads.Forward import key) = IsNumberOf import (length (modules_in (link_pairs l))) × KeySmall key

pub record ExportFits (l : Link) (x : Exported) : Type 0 where
  pub named : x.name ≢ []
  pub short : IsName x.name
  pub ordinal : x.ordinal ≤ MAX_NUMBER
  pub words : x.words ≤ 31
  pub head : HeadFits l x.wide x.head

narrow_offset : (big : Bool) (offset : ℕ) → (big || not (nat_lt offset BASE_UNIT)) ≡ false → offset < 2 ^ 16
narrow_offset true offset e = absurd (true≢false e)
narrow_offset false offset e = by (nat_lt offset BASE_UNIT) refl e
  where
    by : (b : Bool) → nat_lt offset BASE_UNIT ≡ b → not b ≡ false → offset < 2 ^ 16
    by true is e = grind (arith, nat_tests)
    by false is e = absurd (true≢false e)

forward_fits : (l : Link) (wide : Bool) (t : FixTarget) (h : EntryHead) → length (name_table (procs_in (link_pairs l))) < 2 ^ 32 → AmongPairs (link_pairs l) t → OrdinalSmall t
    → forwarder_to (with_offset (procs_in (link_pairs l)) t) ≡ Some h → HeadFits l wide h
forward_fits l wide (leads.Internal o offset) h short among small e = absurd among
forward_fits l wide (leads.Ordinal import n) h short among small e =
    subst (HeadFits l wide) (same_Some (heads.Forward import (keys.Ordinal n)) h e) (among, small)
forward_fits l wide (leads.Named import k) h short among small e =
    subst (HeadFits l wide) (same_Some (heads.Forward import (keys.NameAt (name_offset (procs_in (link_pairs l)) k))) h e) (among.0, offset-small (procs_in (link_pairs l)) k short)
forward_fits l wide (leads.Own n) h short among small e = absurd among

-- What an export leads to, by the target of its name.
head_by : (l : Link) → Given l → length (name_table (procs_in (link_pairs l))) < 2 ^ 32 → (t : Target) (x : ExportTarget) (h : EntryHead) → LeadsThere l t → OffsetSmall t → export_target l t ≡ Some x → head_of l x ≡ Some h → HeadFits l (is_wide l x) h
head_by l g short (Internal o offset) x h led small e f =
    let same = same_Some (At o offset) x e in
    let head = same_Some (heads.At o offset) h (ap (head_of l) same ∙ f) in
    subst (λ (y : ExportTarget). HeadFits l (is_wide l y) h) same (subst (HeadFits l (is_wide l (At o offset))) head (led, small, narrow_offset (is_big (object_flags l o)) offset))
head_by l g short (Constant value) x h led small e f = absurd (true≢false (sym (ap is_some e)))
head_by l g short (Entry slot) x h led small e f =
    let pair = mapped Forward (slice_get (imports l) slot) x e in
    let opened : option_and_then (λ target. forwarder_to (with_offset (procs_in (link_pairs l)) target)) (import_target (link_pairs l) pair.item) ≡ Some h = ap (head_of l) pair.gives ∙ f in
    let t = through (λ target. forwarder_to (with_offset (procs_in (link_pairs l)) target)) (import_target (link_pairs l) pair.item) h opened in
    let known = known-import l g pair.item (in_at (imports l) slot pair.item pair.is) in
    forward_fits l (is_wide l x) t.item h short (import-among (link_pairs l) pair.item t.item t.is) (import-small (link_pairs l) pair.item t.item known.range.entry t.is) t.gives

-- ---- one export

record Zipped {X Y : Type 0} (xs : List X) (ys : List Y) (q : X × Y) : Type 0 where
  one : In q.0 xs
  other : In q.1 ys

from_zip : {X Y : Type 0} (xs : List X) (ys : List Y) {q : X × Y} → In q (zip xs ys) → Zipped xs ys q
from_zip [] ys i = elim i [ ]
from_zip (x ∷ xs) [] i = elim i [ ]
from_zip (x ∷ xs) (y ∷ ys) here = record { one = here; other = here }
from_zip (x ∷ xs) (y ∷ ys) (there i) = let r = from_zip xs ys i in record { one = there r.one; other = there r.other }

abbrev exported_with : Export → EntryHead → Exported
exported_with x head = record { name = x.name; ordinal = x.ordinal; resident = x.resident; words = x.words; head = head; wide = x.wide }

one_fits : (l : Link) → Given l → length (name_table (procs_in (link_pairs l))) < 2 ^ 32 → (n : ℕ) (x : Exp) (out : Export) (h : EntryHead) → In n (ordinals (asked_ordinals l)) → In x (exports l) → export_of l n x ≡ Some out → head_of l out.target ≡ Some h
    → ExportFits l (exported_with out h)
one_fits l g short n x out h numbered inside e f =
    let r = mapped (export_with l n x) (option_and_then (export_target l) (option_and_then (of_symbol l) (global l x.internal))) out e in
    let t = through (export_target l) (option_and_then (of_symbol l) (global l x.internal)) r.item r.is in
    let d = through (of_symbol l) (global l x.internal) t.item t.is in
    let led = symbol_there l d.item t.item g.lay_none d.gives in
    let small = symbol-offset l d.item t.item g.lay_none (global_there l x.internal d.item g.whole d.is) d.gives in
    let head : HeadFits l (is_wide l r.item) h = head_by l g short t.item r.item h led small t.gives (ap (λ (o : Export). head_of l o.target) r.gives ∙ f) in
    let known = known-export l g x inside in
    let one : ExportFits l (exported_with (export_with l n x r.item) h) = record { named = known.named; short = known.range; ordinal = small-ordinal l g.entry_none n numbered; words = known.words; head = head } in
    subst (λ (o : Export). ExportFits l (exported_with o h)) r.gives one

export_fits : (l : Link) → Given l → length (name_table (procs_in (link_pairs l))) < 2 ^ 32 → (x : Exported) → In x (exported_of l) → ExportFits l x
unfolding exported_of Out
export_fits l g short x i =
    let out = from_filter_map (exported l) (Out l) i in
    let q = from_filter_map (λ (q : ℕ × Exp). export_of l q.0 q.1) (zip (ordinals (asked_ordinals l)) (exports l)) out.inside in
    let z = from_zip (ordinals (asked_ordinals l)) (exports l) q.inside in
    let h = mapped (exported_with out.item) (head_of l out.item.target) x out.gives in
    subst (ExportFits l) h.gives (one_fits l g short q.item.0 q.item.1 out.item h.item z.one z.other q.gives h.is)

pub exports-fit : (l : Link) → Given l → length (name_table (procs_in (link_pairs l))) < 2 ^ 32 → AllByRecursion (ExportFits l) (exported_of l)
exports-fit l g short = each-of (ExportFits l) (exported_of l) (export_fits l g short)
