-- Libraries whose modules have the same names, imports and entries: what leads to a spot in one leads there in the other.
use Rattle.std.proofs.Common.{◌≡◌, ℕ, zero, suc, ◌-◌, List, [], ◌∷◌, map, Option, Some, None, Result, Ok, Err, refl, sym, subst, ap, ◌∙◌}
use Rattle.std.specs.Prelude.{option_map, option_and_then, slice_get, reverse, unwrap_or}
use Rattle.std.specs.List.{AllByRecursion as Each}
use Rattle.lx_types.specs.Addresses.{address}
use Rattle.lx_types.specs.Parts.{object_of, proc_name_of, entry_of, ordinal_named}
use Rattle.lx_types.specs.declared.bases.Bases.{Bases}
use Rattle.lx_types.specs.declared.entry.EntryHead.{EntryHead}
use Rattle.lx_types.specs.declared.entry.EntryHead.TheVariants.{At, Gate286, Forward}
use Rattle.lx_types.specs.declared.entry.FwdKey.{FwdKey}
use Rattle.lx_types.specs.declared.entry.FwdKey.TheVariants as keys
use Rattle.lx_types.specs.declared.fix.Fix.{Fix}
use Rattle.lx_types.specs.declared.fix.FixTarget.{FixTarget}
use Rattle.lx_types.specs.declared.fix.FixTarget.TheVariants as targets
use Rattle.lx_types.specs.declared.object.ObjHead.{ObjHead}
use Rattle.lx_types.specs.declared.object.PageId.{PageId}
use Rattle.lx_types.specs.declared.parts.Parts.{Parts}
use Rattle.lx_model.specs.declared.library.Spot.{Spot}
use Rattle.lx_model.specs.declared.library.EntryFault.{EntryFault}
use Rattle.lx_model.specs.Reading.{first}
use Rattle.lx_model.specs.Library.{module_of, library_named, import_of}
use Rattle.lx_model.specs.Entries.{OrdinalOf, place_named, key_place, import_place, Stands, spot, fails, forwards, place_or_none, head_at, stands_at, followed, entry_count, Entry, entry_or_none, target_spot}
use Rattle.lx_model.specs.Fixed.{Raw, field_bytes, end_address, spot_address, Patch, patched, bytes_for, bytes_if, patch_of, sources_of, patches_of, Fixed}
use Rattle.lx_model.specs.ModuleLaws.{HasSpot}

-- ---- what of a module counts

-- an object is the same
abbrev pub SameObject : List Parts → List Parts → ℕ → ℕ → Type 0
SameObject lib other m object = object_of (module_of other m) object ≡ object_of (module_of lib m) object

-- a name that a key asks for stands
abbrev pub KeyStands : List Parts → List Parts → ℕ → FwdKey → Type 0
KeyStands lib other m (keys.Ordinal ordinal) = Unit {0}
KeyStands lib other m (keys.NameAt at) = (name : List ℕ) → proc_name_of (module_of lib m) at ≡ Some name → proc_name_of (module_of other m) at ≡ Some name

abbrev pub HeadStands : List Parts → List Parts → ℕ → EntryHead → Type 0
HeadStands lib other m (At object offset) = SameObject lib other m object
HeadStands lib other m (Gate286 object offset) = Unit {0}
HeadStands lib other m (Forward import key) = KeyStands lib other m key

abbrev pub TargetStands : List Parts → List Parts → ℕ → FixTarget → Type 0
TargetStands lib other m (targets.Internal object offset) = SameObject lib other m object
TargetStands lib other m (targets.Ordinal import ordinal) = Unit {0}
TargetStands lib other m (targets.Named import at) = KeyStands lib other m (keys.NameAt at)
TargetStands lib other m (targets.Own ordinal) = Unit {0}

pub record Alike (lib other : List Parts) : Type 0 where
  pub libraries : (name : List ℕ) → library_named other name ≡ library_named lib name
  pub imports : (m : ℕ) → (module_of other m).imports ≡ (module_of lib m).imports
  pub entries : (m : ℕ) → (module_of other m).entries ≡ (module_of lib m).entries
  pub names : (m : ℕ) → (module_of other m).names ≡ (module_of lib m).names
  pub count : entry_count other ≡ entry_count lib
  pub heads : (m ordinal : ℕ) (head : EntryHead) → entry_of (module_of lib m).entries ordinal ≡ Some head → HeadStands lib other m head

-- ---- from place to place

import_is : (lib other : List Parts) (m import : ℕ) → Alike lib other → import_of other m import ≡ import_of lib m import
import_is lib other m import alike =
    ap (λ (names : List (List ℕ)). option_and_then (library_named other) (slice_get names (import - 1))) (alike.imports m)
    ∙ by_name (slice_get (module_of lib m).imports (import - 1))
  where
    by_name : (o : Option (List ℕ)) → option_and_then (library_named other) o ≡ option_and_then (library_named lib) o
    by_name None = refl
    by_name (Some name) = alike.libraries name

key_is : (lib other : List Parts) (m to : ℕ) (key : FwdKey) (place : OrdinalOf) → Alike lib other → KeyStands lib other m key → key_place lib m key to ≡ Some place → key_place other m key to ≡ Some place
key_is lib other m to (keys.Ordinal ordinal) place alike stands e = e
key_is lib other m to (keys.NameAt at) place alike stands e = by_name (proc_name_of (module_of lib m) at) refl e
  where
    by_name : (o : Option (List ℕ)) → proc_name_of (module_of lib m) at ≡ o → option_and_then (place_named lib to) o ≡ Some place → option_and_then (place_named other to) (proc_name_of (module_of other m) at) ≡ Some place
    by_name None is h = absurd cc
    by_name (Some name) is h = ap (option_and_then (place_named other to)) (stands name is) ∙ ap (λ (ns : List (List ℕ × ℕ)). option_map (λ (ordinal : ℕ). (to, ordinal)) (ordinal_named ns name)) (alike.names to) ∙ h

import_leads : (lib other : List Parts) (m import : ℕ) (key : FwdKey) (place : OrdinalOf) → Alike lib other → KeyStands lib other m key → import_place lib m import key ≡ Some place → import_place other m import key ≡ Some place
import_leads lib other m import key place alike stands e = ap (option_and_then (key_place other m key)) (import_is lib other m import alike) ∙ by_module (import_of lib m import) e
  where
    by_module : (o : Option ℕ) → option_and_then (key_place lib m key) o ≡ Some place → option_and_then (key_place other m key) o ≡ Some place
    by_module None h = absurd cc
    by_module (Some to) h = key_is lib other m to key place alike stands h

-- it leads to the spot, whose object is the same
abbrev pub Leads : List Parts → List Parts → Result Spot EntryFault → Spot → Type 0
Leads lib other r s = (r ≡ Ok s) × SameObject lib other s.«module» s.object

abbrev answer : Spot → Result Spot EntryFault
answer s = Ok s

leads_here : (lib other : List Parts) (a s : Spot) → SameObject lib other a.«module» a.object → answer a ≡ Ok s → Leads lib other (answer a) s
leads_here lib other a s same e = let is : a ≡ s = cc in (e, subst (λ (x : Spot). SameObject lib other x.«module» x.object) is same)

-- what follows what stands at a place
after : Stands → ℕ → List Parts → Result Spot EntryFault
unfolding followed
after st n lib = elim st [ spot a ↦ Ok a | fails e ↦ Err e | forwards q ↦ followed n lib q ]

abbrev FollowsAt : List Parts → List Parts → ℕ → Type 0
FollowsAt lib other n = (place : OrdinalOf) (s : Spot) → followed n lib place ≡ Ok s → Leads lib other (followed n other place) s

by_place : (lib other : List Parts) (n : ℕ) (o o' : Option OrdinalOf) (s : Spot) → FollowsAt lib other n → ((place : OrdinalOf) → o ≡ Some place → o' ≡ Some place) → after (place_or_none o) n lib ≡ Ok s → Leads lib other (after (place_or_none o') n other) s
unfolding after
by_place lib other n None o' s again same e = absurd cc
by_place lib other n (Some next) o' s again same e = rw (same next refl) (again next s e)

by_head : (lib other : List Parts) (n m : ℕ) (o : Option EntryHead) (s : Spot) → Alike lib other → FollowsAt lib other n → ((head : EntryHead) → o ≡ Some head → HeadStands lib other m head) → after (head_at lib m o) n lib ≡ Ok s → Leads lib other (after (head_at other m o) n other) s
unfolding after
by_head lib other n m None s alike again stands e = absurd cc
by_head lib other n m (Some (At object offset)) s alike again stands e = leads_here lib other (record { «module» = m; object = object; offset = offset }) s (stands (At object offset) refl) e
by_head lib other n m (Some (Gate286 object offset)) s alike again stands e = absurd cc
by_head lib other n m (Some (Forward import key)) s alike again stands e =
    by_place lib other n (import_place lib m import key) (import_place other m import key) s again (λ place is. import_leads lib other m import key place alike (stands (Forward import key) refl) is) e

follows : (lib other : List Parts) → Alike lib other → (n : ℕ) → FollowsAt lib other n
unfolding followed after
follows lib other alike zero place s e = absurd cc
follows lib other alike (suc n) place s e =
    let m = place.0 in
    let found = entry_of (module_of lib m).entries place.1 in
    let leads = by_head lib other n m found s alike (follows lib other alike n) (λ head is. alike.heads m place.1 head is) e in
    let same : stands_at other place ≡ head_at other m found = ap (λ (es : List (ℕ × EntryHead)). head_at other m (entry_of es place.1)) (alike.entries m) in
    subst (λ (st : Stands). Leads lib other (after st n other) s) (sym same) leads

pub entry_leads : (lib other : List Parts) (place : OrdinalOf) (s : Spot) → Alike lib other → Entry lib place ≡ Ok s → Leads lib other (Entry other place) s
unfolding Entry
entry_leads lib other place s alike e = subst (λ (n : ℕ). Leads lib other (followed (suc n) other place) s) (sym alike.count) (follows lib other alike (suc (entry_count lib)) place s e)

place_leads : (lib other : List Parts) (o o' : Option OrdinalOf) (s : Spot) → Alike lib other → ((place : OrdinalOf) → o ≡ Some place → o' ≡ Some place) → entry_or_none lib o ≡ Ok s → Leads lib other (entry_or_none other o') s
place_leads lib other None o' s alike same e = absurd cc
place_leads lib other (Some place) o' s alike same e = rw (same place refl) (entry_leads lib other place s alike e)

pub target_leads : (lib other : List Parts) (m : ℕ) (t : FixTarget) (s : Spot) → Alike lib other → TargetStands lib other m t → target_spot lib m t ≡ Ok s → Leads lib other (target_spot other m t) s
target_leads lib other m (targets.Internal object offset) s alike stands e = leads_here lib other (record { «module» = m; object = object; offset = offset }) s stands e
target_leads lib other m (targets.Ordinal import ordinal) s alike stands e =
    place_leads lib other (import_place lib m import (keys.Ordinal ordinal)) (import_place other m import (keys.Ordinal ordinal)) s alike (λ place is. import_leads lib other m import (keys.Ordinal ordinal) place alike tt is) e
target_leads lib other m (targets.Named import at) s alike stands e =
    place_leads lib other (import_place lib m import (keys.NameAt at)) (import_place other m import (keys.NameAt at)) s alike (λ place is. import_leads lib other m import (keys.NameAt at) place alike stands is) e
target_leads lib other m (targets.Own ordinal) s alike stands e = entry_leads lib other (m, ordinal) s alike e

-- ---- fixups

patch_stands : (lib other : List Parts) (m : ℕ) (bases : Bases) (p : PageId) (f : Fix) → Alike lib other → TargetStands lib other m f.target → HasSpot lib m f → patch_of other m bases p f ≡ patch_of lib m bases p f
unfolding patch_of
patch_stands lib other m bases p f alike stands has =
    let s = has.0 in
    let leads = target_leads lib other m f.target s alike stands has.1 in
    let old : bytes_if lib m bases p f (target_spot lib m f.target) ≡ bytes_for lib m bases p f s = ap (bytes_if lib m bases p f) has.1 in
    let new : bytes_if other m bases p f (target_spot other m f.target) ≡ bytes_for other m bases p f s = ap (bytes_if other m bases p f) leads.0 in
    let same : bytes_for other m bases p f s ≡ bytes_for lib m bases p f s =
    ap (λ (o : ObjHead). field_bytes f.source f.alias o.flags (address (spot_address bases s) f.additive) (end_address bases m p f)) leads.1 in
    ap (λ (bytes : List ℕ). record { offset = f.offset; bytes = bytes }) (new ∙ same ∙ sym old)

patches_stand : (lib other : List Parts) (m : ℕ) (bases : Bases) (p : PageId) (fs : List Fix) → Alike lib other → Each (λ f. TargetStands lib other m f.target × HasSpot lib m f) fs → map (patch_of other m bases p) fs ≡ map (patch_of lib m bases p) fs
patches_stand lib other m bases p [] alike h = refl
patches_stand lib other m bases p (f ∷ fs) alike h =
    ap (λ (q : Patch). q ∷ map (patch_of other m bases p) fs) (patch_stands lib other m bases p f alike h.0.0 h.0.1)
    ∙ ap (λ (qs : List Patch). patch_of lib m bases p f ∷ qs) (patches_stand lib other m bases p fs alike h.1)

pub fixed_stands : (lib other : List Parts) (m : ℕ) (bases : Bases) (p : PageId) (i : ℕ) → Alike lib other → sources_of (module_of other m) p ≡ sources_of (module_of lib m) p → Raw (module_of other m) p i ≡ Raw (module_of lib m) p i →
    Each (λ f. TargetStands lib other m f.target × HasSpot lib m f) (sources_of (module_of lib m) p) → Fixed other m bases p i ≡ Fixed lib m bases p i
unfolding Fixed
fixed_stands lib other m bases p i alike sources raw h =
    let patches : patches_of other m bases p ≡ patches_of lib m bases p = ap (map (patch_of other m bases p)) sources ∙ patches_stand lib other m bases p (sources_of (module_of lib m) p) alike h in
    ap (λ (qs : List Patch). unwrap_or (first (map (λ q. patched q i) (reverse qs))) (Raw (module_of other m) p i)) patches
    ∙ ap (unwrap_or (first (map (λ q. patched q i) (reverse (patches_of lib m bases p))))) raw
