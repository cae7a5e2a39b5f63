-- A forwarder's entry names the entry point of its pair, in the library of the pair's module name.
use Rattle.std.specs.Prelude.{◌≡◌, ℕ, ◌+◌, ◌-◌, List, [], ◌∷◌, Option, Some, None, bytes_eq, slice_get, get_or, position, refl, ◌&&◌}
use Rattle.std.specs.Option.{option_and_then}
use Rattle.std.specs.Char.{to_ascii_uppercase}
use Rattle.std.proofs.Common.{ap, sym, ◌∙◌, arith}
use Rattle.std.proofs.lemmas.List.Quantifiers.{position-Some}
use Rattle.std.proofs.lemmas.Option.{slice_get-get_or, same_Some}
use Rattle.std.proofs.lemmas.Slice.Eq.{bytes_eq-Decides}
use Rattle.std.proofs.lemmas.Str.Ascii.{uppercase-uppercase}
use Rattle.lx_types.specs.Names.{uppercase}
use Rattle.lx_types.specs.Parts.{proc_name_of, is_library_of}
use Rattle.lx_types.specs.declared.entry.EntryHead.{EntryHead}
use Rattle.lx_types.specs.declared.entry.EntryHead.TheVariants as heads
use Rattle.lx_types.specs.declared.entry.EntryKey.{EntryKey}
use Rattle.lx_types.specs.declared.entry.EntryKey.TheVariants as entry_keys
use Rattle.lx_types.specs.declared.entry.FwdKey.TheVariants as keys
use Rattle.lx_types.specs.declared.fix.FixTarget.{FixTarget}
use Rattle.lx_types.specs.declared.fix.FixTarget.TheVariants as leads
use Rattle.lx_types.specs.declared.parts.Parts.{Parts}
use Rattle.obj_types.specs.declared.symbol.Imp.{Imp}
use Rattle.link_model.specs.Link.{Link}
use Rattle.link_model.specs.Exports.{Forward}
use Rattle.link_model.specs.ImportTables.{link_pairs, modules_in, procs_in, entry_target, import_target, name_offset, with_offset}
use Rattle.lx_model.specs.Entries.{OrdinalOf, place_or_none, head_at, import_place, key_place, place_named, entry_or_none}
use Rattle.lx_model.specs.Library.{module_of, library_named, import_of}
use Rattle.image_model.specs.Exported.{forwarder_to, head_of}
use Rattle.image_model.specs.Linked.{image_of}
use Rattle.image_model.specs.ReadBack.{parts_of_image}
use Rattle.image_model.specs.World.{entry_in}
use Rattle.image_model.proofs.TargetsThere.{through, mapped}
use Rattle.layer_laws.proofs.LoadedPages.{Loaded}
use Rattle.layer_laws.proofs.Targets.{proc-stands}

-- ---- the tables of a loaded module

pub item_at_place : (names : List (List ℕ)) (name : List ℕ) (k : ℕ) → position (λ n. bytes_eq name n) names ≡ Some k → slice_get names k ≡ Some name
item_at_place names name k e =
    let r = position-Some (λ n. bytes_eq name n) names k name e in
    slice_get-get_or names k name r.0 ∙ ap (λ (n : List ℕ). Some n) (sym ((bytes_eq-Decides name (get_or names k name)).0 r.1))

imports_are : (l : Link) → (parts_of_image (image_of l)).imports ≡ modules_in (link_pairs l)
unfolding parts_of_image image_of
imports_are l = refl

module_is : (l : Link) (lib : List Parts) (m : ℕ) → Loaded l lib m → (name : List ℕ) (k : ℕ) → position (λ n. bytes_eq name n) (modules_in (link_pairs l)) ≡ Some k → import_of lib m (k + 1) ≡ library_named lib name
module_is l lib m loaded name k e =
    let place : k + 1 - 1 ≡ k = omega arith in
    ap (λ (ns : List (List ℕ)). option_and_then (library_named lib) (slice_get ns (k + 1 - 1))) (ap (λ (p : Parts). p.imports) loaded.is ∙ imports_are l)
    ∙ ap (λ (n : ℕ). option_and_then (library_named lib) (slice_get (modules_in (link_pairs l)) n)) place ∙ ap (option_and_then (library_named lib)) (item_at_place (modules_in (link_pairs l)) name k e)

pub proc_in_parts : (l : Link) (k : ℕ) (name : List ℕ) → slice_get (procs_in (link_pairs l)) k ≡ Some name → proc_name_of (parts_of_image (image_of l)) (name_offset (procs_in (link_pairs l)) k) ≡ Some name
unfolding parts_of_image
proc_in_parts l k name e = proc-stands l k name e

name_is : (l : Link) (lib : List Parts) (m : ℕ) → Loaded l lib m → (name : List ℕ) (k : ℕ) → position (λ n. bytes_eq name n) (procs_in (link_pairs l)) ≡ Some k → proc_name_of (module_of lib m) (name_offset (procs_in (link_pairs l)) k) ≡ Some name
name_is l lib m loaded name k e =
    ap (λ (p : Parts). proc_name_of p (name_offset (procs_in (link_pairs l)) k)) loaded.is ∙ proc_in_parts l k name (item_at_place (procs_in (link_pairs l)) name k e)

-- ---- the place that a forwarder names

-- What stands at a forwarder's ordinal, and the entry of the place that it names.
pub record Names (lib : List Parts) (m : ℕ) (h : EntryHead) (module_name : List ℕ) (entry : EntryKey) : Type 0 where
  pub next : Option OrdinalOf
  pub stands : head_at lib m (Some h) ≡ place_or_none next
  pub leads : entry_or_none lib next ≡ entry_in lib (library_named lib module_name) entry

by_ordinal : (lib : List Parts) (n : ℕ) (other : Option ℕ) → entry_or_none lib (option_and_then (λ (o : ℕ). Some (o, n)) other) ≡ entry_in lib other (entry_keys.Ordinal n)
by_ordinal lib n None = refl
by_ordinal lib n (Some o) = refl

pub by_name : (lib : List Parts) (m at : ℕ) (name : List ℕ) (other : Option ℕ) → proc_name_of (module_of lib m) at ≡ Some name → entry_or_none lib (option_and_then (key_place lib m (keys.NameAt at)) other) ≡ entry_in lib other (entry_keys.Named name)
by_name lib m at name None is = refl
by_name lib m at name (Some o) is = ap (λ (x : Option (List ℕ)). entry_or_none lib (option_and_then (place_named lib o) x)) is

of_key : (l : Link) (lib : List Parts) (m : ℕ) → Loaded l lib m → (name : List ℕ) (k : ℕ) (entry : EntryKey) (t : FixTarget) (h : EntryHead) → position (λ n. bytes_eq name n) (modules_in (link_pairs l)) ≡ Some k
    → entry_target (link_pairs l) (k + 1) entry ≡ Some t → forwarder_to (with_offset (procs_in (link_pairs l)) t) ≡ Some h → Names lib m h name entry
of_key l lib m loaded name k (entry_keys.Ordinal n) t h at e f =
    let target = same_Some (leads.Ordinal (k + 1) n) t e in
    let head : heads.Forward (k + 1) (keys.Ordinal n) ≡ h = same_Some (heads.Forward (k + 1) (keys.Ordinal n)) h (ap (λ (u : FixTarget). forwarder_to (with_offset (procs_in (link_pairs l)) u)) target ∙ f) in
    record {
      next = import_place lib m (k + 1) (keys.Ordinal n);
      stands = ap (λ (g : EntryHead). head_at lib m (Some g)) (sym head);
      leads = ap (λ (o : Option ℕ). entry_or_none lib (option_and_then (key_place lib m (keys.Ordinal n)) o)) (module_is l lib m loaded name k at) ∙ by_ordinal lib n (library_named lib name);
    }
of_key l lib m loaded name k (entry_keys.Named proc) t h at e f =
    let r = mapped (λ (j : ℕ). leads.Named (k + 1) j) (position (λ n. bytes_eq proc n) (procs_in (link_pairs l))) t e in
    let place = name_offset (procs_in (link_pairs l)) r.item in
    let head : heads.Forward (k + 1) (keys.NameAt place) ≡ h = same_Some (heads.Forward (k + 1) (keys.NameAt place)) h (ap (λ (u : FixTarget). forwarder_to (with_offset (procs_in (link_pairs l)) u)) r.gives ∙ f) in
    record {
      next = import_place lib m (k + 1) (keys.NameAt place);
      stands = ap (λ (g : EntryHead). head_at lib m (Some g)) (sym head);
      leads = ap (λ (o : Option ℕ). entry_or_none lib (option_and_then (key_place lib m (keys.NameAt place)) o)) (module_is l lib m loaded name k at) ∙ by_name lib m place proc (library_named lib name) (name_is l lib m loaded proc r.item r.is);
    }

-- ---- names in upper case

pub uppercase-twice : (name : List ℕ) → uppercase (uppercase name) ≡ uppercase name
uppercase-twice [] = refl
uppercase-twice (c ∷ cs) = ap (λ (d : ℕ). d ∷ uppercase (uppercase cs)) (uppercase-uppercase c) ∙ ap (λ (ds : List ℕ). to_ascii_uppercase c ∷ ds) (uppercase-twice cs)

-- A module's name is the same in upper case.
any_case : (lib : List Parts) (name : List ℕ) → library_named lib (uppercase name) ≡ library_named lib name
any_case lib name = ap (λ (n : List ℕ). position (λ (m : Parts). is_library_of m && bytes_eq (uppercase m.name) n) lib) (uppercase-twice name)

-- ---- an export that is forwarded

pub forwarder-named : (l : Link) (lib : List Parts) (m : ℕ) → Loaded l lib m → (pair : Imp) (h : EntryHead) → head_of l (Forward pair) ≡ Some h → Names lib m h pair.module pair.entry
forwarder-named l lib m loaded pair h e =
    let t = through (λ target. forwarder_to (with_offset (procs_in (link_pairs l)) target)) (import_target (link_pairs l) pair) h e in
    let k = through (λ k. entry_target (link_pairs l) (k + 1) pair.entry) (position (λ n. bytes_eq (uppercase pair.module) n) (modules_in (link_pairs l))) t.item t.is in
    let r = of_key l lib m loaded (uppercase pair.module) k.item pair.entry t.item h k.is k.gives t.gives in
    record { next = r.next; stands = r.stands; leads = r.leads ∙ ap (λ (o : Option ℕ). entry_in lib o pair.entry) (any_case lib pair.module) }
