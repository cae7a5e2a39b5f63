-- What a bound file means, all together.
use Rattle.std.proofs.Common.{◌≡◌, ℕ, ◌+◌, ◌*◌, ◌&&◌, Bool, true, false, cond, not, eqb, List, [], ◌∷◌, ◌++◌, map, length, Some, None, refl, sym, subst, ap, ◌∙◌, append-nil, arith}
use Rattle.std.specs.Prelude.{find, option_map}
use Rattle.std.specs.List.{range_with_len}
use Rattle.std.proofs.lemmas.List.Elements.{All-nil}
use Rattle.std.proofs.lemmas.Bool.{eqb-true}
use Rattle.lx_types.specs.declared.parts.Parts.{Parts}
use Rattle.lx_model.specs.declared.lengths.TheConstants.{RESOURCE_ENTRY_LEN}
use Rattle.lx_model.specs.declared.header_fields.TheConstants.{RESOURCE_COUNT}
use Rattle.lx_model.specs.Header.{field}
use Rattle.lx_model.specs.Module.{IsRead, parts_of}
use Rattle.lx_model.specs.Library.{module_of}
use Rattle.lx_model.specs.Fixed.{Fixed}
use Rattle.lx_model.specs.Resources.{Resource, resource_at, resource_table, is_whole, Res, resources_of}
use Rattle.lx_model.specs.Resources as resources
use Rattle.res_model.specs.ResFile.{AreApart}
use Rattle.res_model.specs.declared.item.ResItem.{ResItem}
use Rattle.res_model.specs.Bound.{new_object, bound_file}
use Rattle.res_model.specs.declared.refusal.BindRefusal.TheVariants.{HasResources}
use Rattle.res_model.specs.Refusal.{bind_refusal, items_refusal}
use Rattle.res_laws.specs.Binding.{with_module, IsFound, CanBind, Binds, BoundFilesMean}
use Rattle.res_laws.proofs.Lists.{map_range}
use Rattle.res_laws.proofs.Standing.{extended}
use Rattle.res_laws.proofs.Layouts.{CanExtend, small, stands}
use Rattle.res_laws.proofs.Faultless.{faultless}
use Rattle.res_laws.proofs.PartsNow.{name_now, flags_now, start_now, all_objects, imports_now, entries_now, names_now, heads_go_on, spans_go_on, page_stands, raw_stands, records_stand}
use Rattle.res_laws.proofs.FixedNow.{lib_is, fixed_now}
use Rattle.res_laws.proofs.FoundNow.{found_now, others_now}

-- ---- without items

pub same_library : (lib : List Parts) (k : ℕ) (m : Parts) → module_of lib k ≡ m → with_module lib k m ≡ lib
same_library lib k m is =
    map_range (λ j. cond (eqb j k) m (module_of lib j)) (module_of lib) 0 0 (length lib) (λ j lt. by_test (0 + j) (eqb (0 + j) k) refl) ∙ sym (lib_is lib)
  where
    by_test : (j : ℕ) (b : Bool) → eqb j k ≡ b → cond b m (module_of lib j) ≡ module_of lib j
    by_test j true e = sym is ∙ ap (module_of lib) (sym (eqb-true j k e))
    by_test j false e = refl

no_resources : (file : List ℕ) (items : List ResItem) → bind_refusal file items ≡ None → (field file RESOURCE_COUNT ≡ 0) × (items_refusal file items ≡ None)
unfolding bind_refusal
no_resources file items e = by_test (eqb (field file RESOURCE_COUNT) 0) refl e
  where
    by_test : (b : Bool) → eqb (field file RESOURCE_COUNT) 0 ≡ b → cond (not b) (Some HasResources) (items_refusal file items) ≡ None → (field file RESOURCE_COUNT ≡ 0) × (items_refusal file items ≡ None)
    by_test true is h = (eqb-true (field file RESOURCE_COUNT) 0 is, h)
    by_test false is h = absurd cc

none_found : (m : Parts) (ty id : ℕ) → field m.file RESOURCE_COUNT ≡ 0 → Res m ty id ≡ None
unfolding Res resources_of
none_found m ty id none =
    ap (λ (n : ℕ). option_map (λ (r : Resource). r.spot) (find (λ r. resources.has_key ty id r && is_whole m r) (map (λ k. resource_at m.file (resource_table m.file + RESOURCE_ENTRY_LEN * k)) (range_with_len 0 n)))) none

unchanged : (m : Parts) → CanBind m [] → Binds m [] m
unchanged m can = record {
  read = can.read;
  name = refl;
  flags = refl;
  start = refl;
  objects = refl;
  imports = refl;
  entries = refl;
  names = refl;
  pages = λ p old. refl;
  raw = λ p i old. refl;
  records = λ p old. refl;
  heads = ([], sym (append-nil m.pages));
  spans = ([], sym (append-nil m.fix_spans));
  fixed = λ lib k j bases p i library lt is below fit old. ap (λ (l : List Parts). Fixed l j bases p i) (same_library lib k m is);
  found = All-nil (IsFound m);
  others = λ ty id none. none_found m ty id (no_resources m.file [] can.allowed).0;
}

-- ---- with items

pub can_extend : (m : Parts) (i : ResItem) (items : List ResItem) → CanBind m (i ∷ items) → CanExtend m.file (i ∷ items)
can_extend m i items can = record {
  short = can.read.short;
  bytes = can.bytes;
  faultless = can.read.means.faultless;
  fit = can.fit;
  allowed = (no_resources m.file (i ∷ items) can.allowed).1;
  clear = can.clear;
}

pub read_now : (file : List ℕ) (items : List ResItem) → CanExtend file items → IsRead (parts_of (extended file items))
unfolding parts_of
read_now file items can =
    let long = (stands file items can).long in
    let few = (small file items can).whole in
    record { short = omega (arith, long, few); means = record { faultless = faultless file items can; parts = refl } }

objects_of_file : (file : List ℕ) (all : List ResItem) → CanExtend file all → (parts_of (extended file all)).objects ≡ (parts_of file).objects ++ new_object (parts_of file).file all ∷ []
unfolding parts_of
objects_of_file file all can = all_objects file all can

extended_binds : (file : List ℕ) (i : ResItem) (items : List ResItem) → CanExtend file (i ∷ items) → AreApart (i ∷ items) → IsRead (parts_of file) → Binds (parts_of file) (i ∷ items) (parts_of (extended file (i ∷ items)))
extended_binds file i items can apart read =
    let all = i ∷ items in
    record {
      read = read_now file all can;
      name = name_now file all can;
      flags = flags_now file all can;
      start = start_now file all can;
      objects = objects_of_file file all can;
      imports = imports_now file all can;
      entries = entries_now file all can;
      names = names_now file all can;
      pages = λ p old. page_stands file all p can old;
      raw = λ p i old. raw_stands file all p i can old;
      heads = heads_go_on file all can;
      spans = spans_go_on file all can;
      records = λ p old. records_stand file all p can old;
      fixed = fixed_now file all can read;
      found = found_now file all can apart;
      others = λ ty id none. others_now file all ty id can none;
    }

pub bound_files_mean : BoundFilesMean
bound_files_mean m [] can = subst (Binds m []) can.read.means.parts (unchanged m can)
bound_files_mean m (i ∷ items) can =
    let same = can.read.means.parts in
    subst (λ (x : Parts). Binds x (i ∷ items) (parts_of (bound_file m.file (i ∷ items)))) (sym same)
    (extended_binds m.file i items (can_extend m i items can) can.apart (subst IsRead same can.read))
