-- Each byte of a module that was linked is, wherever it is loaded, the one that the link means there.
use Rattle.std.specs.Prelude.{◌≡◌, ℕ, zero, suc, ◌/◌, ◌<◌, ◌==◌, ◌&&◌, ◌||◌, Bool, true, false, cond, not, List, [], ◌∷◌, Option, Some, None, filter, length, slice_get, is_some, IsSome, refl}
use Rattle.std.specs.List.{list_any, enumerate_from, filter_map, cons_option}
use Rattle.std.specs.Option.{option_map}
use Rattle.std.proofs.Common.{ap, sym, ◌∙◌, arith, subst, true≢false}
use Rattle.std.proofs.lemmas.Bool.{eqb-true, not-true}
use Rattle.std.proofs.lemmas.List.{length-map}
use Rattle.std.proofs.lemmas.List.Sorted.{All-permutation, IsPermutation-sym}
use Rattle.lx_bytes.specs.LittleEndian.{little}
use Rattle.lx_types.specs.declared.bases.Bases.{Bases}
use Rattle.lx_types.specs.declared.fix.Fix.{Fix}
use Rattle.lx_types.specs.declared.fix.FixTarget.{FixTarget}
use Rattle.lx_types.specs.declared.object.TheConstants.{PAGE_SIZE}
use Rattle.lx_types.specs.declared.parts.Parts.{Parts}
use Rattle.lx_types.proofs.Lists.{length-filter_map}
use Rattle.obj_types.specs.Items.{item}
use Rattle.obj_types.specs.Whole.{WholeFix}
use Rattle.obj_types.specs.declared.object.FixAt.{FixAt}
use Rattle.obj_types.specs.declared.object.ObjModule.{ObjModule}
use Rattle.link_model.specs.declared.symbols.LaidObject.{LaidObject}
use Rattle.link_model.specs.Data.{data_bytes}
use Rattle.link_model.specs.Link.{Link}
use Rattle.link_model.specs.Fixups.{Fixup, offset_width, signed_byte, standing_in, fixup_at, fixup_of, is_constant, stays_in_object, fixups}
use Rattle.link_model.specs.Goals.{Target, Internal, Constant, Entry, target_of, location}
use Rattle.link_model.specs.Layout.{objects}
use Rattle.link_model.specs.Mean.{live_fixups, fixup_covers, Mean}
use Rattle.link_model.specs.NothingDropped.{WholeLink}
use Rattle.link_model.specs.Patches.{is_patched, recorded}
use Rattle.link_model.specs.Records.{target_and_additive, offset_on, record_on, stands_on, page_records}
use Rattle.link_model.specs.Value.{value_bytes}
use Rattle.link_model.proofs.FixupsStay.{module_whole, numbered_module}
use Rattle.link_model.proofs.Members.{In, here, there, all_in, in_filter, found, from_flat_map, value_is}
use Rattle.link_model.proofs.RecordsStay.{records_stay}
use Rattle.lx_model.specs.Fixed.{sources_of}
use Rattle.lx_model.specs.Gathering.{IsLibrary}
use Rattle.lx_model.specs.Library.{module_of}
use Rattle.lx_model.specs.ModuleBytes.{page_with, FixedByte}
use Rattle.lx_model.specs.ModuleLaws.{HasSpot}
use Rattle.lx_model.specs.Reach.{IsFit}
use Rattle.lx_model.proofs.FitModules.{fit_has_spots}
use Rattle.image_model.specs.Linked.{fix_in_file, image_of}
use Rattle.image_model.specs.World.{world_of}
use Rattle.image_model.proofs.PartsRead.{parts_read}
use Rattle.image_model.proofs.RecordsFit as core
use Rattle.image_model.proofs.TargetsThere.{LeadsThere, fixup_there, through, mapped, from_filter_map}
use Rattle.layer_laws.specs.LoadedBytes.{StandsWell, LinkedBytesLoaded}
use Rattle.layer_laws.proofs.Given.{Given, given}
use Rattle.layer_laws.proofs.ImagesFit.{images_fit}
use Rattle.layer_laws.proofs.MeanBytes.{accepted}
use Rattle.layer_laws.proofs.RecordBytes.{record-with, passes, bytes-of}
use Rattle.layer_laws.proofs.LoadedPages.{Loaded, page-fixes, sources-moved, location-some, stands-there, plain-byte}
use Rattle.layer_laws.proofs.LoadedFields.{recorded-live, stands-here, record-here, covered-byte}
use Rattle.layer_laws.proofs.SelfFields.{SelfWide, self-wide}
use Rattle.layer_laws.proofs.InsideFields.{inside-means}
use Rattle.layer_laws.proofs.ImportFields.{import-means}

-- ---- a fixup is one of a whole module

record OfModule (q : Fixup) : Type 0 where
  owner : ObjModule
  whole : WholeFix owner q.fix
  standing : q.standing ≡ standing_in owner q.fix

of_module : (l : Link) (q : Fixup) → WholeLink l → In q (fixups l) → OfModule q
unfolding fixups
of_module l q whole i =
    let m = from_flat_map (λ (p : ℕ × ObjModule). filter_map (fixup_of l p.0 p.1) p.1.fixes) (enumerate_from 1 l.modules) i in
    let f = from_filter_map (fixup_of l m.item.0 m.item.1) m.item.1.fixes m.gives in
    let t = through (λ t. option_map (fixup_at l m.item.0 m.item.1 f.item t) (location l m.item.0 f.item)) (target_of l m.item.0 f.item.goal) q f.gives in
    let p = mapped (fixup_at l m.item.0 m.item.1 f.item t.item) (location l m.item.0 f.item) q t.gives in
    let is = module_whole l m.item.0 m.item.1 whole (numbered_module l m.item m.inside) in
    let one : OfModule (fixup_at l m.item.0 m.item.1 f.item t.item p.item) = record { owner = m.item.1; whole = all_in (WholeFix m.item.1) m.item.1.fixes is.fixes f.inside; standing = refl } in
    subst OfModule p.gives one

-- In the location of a selector alone no number stands.
none_stands : (m : ObjModule) (f : FixAt) → f.loc == 2 ≡ true → standing_in m f ≡ 0
none_stands m f is = by (eqb-true f.loc 2 is)
  where
    first : (b : Bool) → cond (b && false) (signed_byte (little [])) (little []) ≡ 0
    first true = refl
    first false = refl

    by : f.loc ≡ 2 → standing_in m f ≡ 0
    by two =
        ap (λ (loc : ℕ). cond (f.selfrel && loc == 0) (signed_byte (little (data_bytes m f.seg f.offset (offset_width loc)))) (little (data_bytes m f.seg f.offset (offset_width loc)))) two ∙ first f.selfrel

-- ---- its record

one_some : {X Y : Type 0} (h : X → Option Y) (x : X) (xs : List X) → length (filter_map h (x ∷ xs)) ≡ length (x ∷ xs) → IsSome (h x) × (length (filter_map h xs) ≡ length xs)
one_some {X} {Y} h x xs e = by (h x) refl e
  where
    by : (o : Option Y) → h x ≡ o → length (cons_option o (filter_map h xs)) ≡ suc (length xs) → IsSome (h x) × (length (filter_map h xs) ≡ length xs)
    by None is f = let few = length-filter_map h xs in absurd (omega (arith, f, few))
    by (Some y) is f = (ap is_some is, omega (arith, f))

all_some : {X Y : Type 0} (h : X → Option Y) (xs : List X) {x : X} → length (filter_map h xs) ≡ length xs → In x xs → IsSome (h x)
all_some h [] e i = elim i [ ]
all_some h (y ∷ xs) e here = (one_some h y xs e).0
all_some h (y ∷ xs) e (there i) = all_some h xs (one_some h y xs e).1 i

record Led (l : Link) (q : Fixup) : Type 0 where
  target : FixTarget × ℕ
  is : target_and_additive l q q.target ≡ Some target

led_there : (l : Link) (n x : ℕ) (q : Fixup) → Given l → In q (recorded l) → fixup_covers n x q ≡ true → Led l q
unfolding page_records
led_there l n x q g i covers =
    let k = x / PAGE_SIZE in
    let on : List Fixup = filter (stands_on n k) (recorded l) in
    let stay = records_stay l n k g.whole g.sym_none in
    let long : length (filter_map (record_on l k) on) ≡ length on =
    sym (length-map (filter_map (record_on l k) on) (λ (r : Fix). r.offset)) ∙ ap length stay ∙ length-map on (offset_on k) in
    let f = value_is (record_on l k q) (all_some (record_on l k) on long (in_filter (stands_on n k) i (stands-here n x q covers))) in
    let t = mapped (record-with k q) (target_and_additive l q q.target) f.item f.is in
    record { target = t.item; is = t.is }

-- ---- a place that a fixup left to the loader covers

not_patched : (l : Link) (q : Fixup) → In q (recorded l) → is_patched q ≡ false
unfolding recorded
not_patched l q i = not-true (is_patched q) (passes (λ (t : Fixup). not (is_patched t)) (live_fixups l) i)

-- A record of the page has a spot in a library in which the module is fit.
has_spot : (l : Link) (lib : List Parts) (m : ℕ) → Loaded l lib m → IsLibrary lib → m < length lib → IsFit lib m → (i x : ℕ) (o : LaidObject) → slice_get (objects l) i ≡ Some o → x < o.size → (f : Fix) → In f (page-fixes l (suc i) (x / PAGE_SIZE)) → HasSpot lib m f
has_spot l lib m loaded library below fit i x o e inside f k =
    let p = page_with (suc i) x in
    let fs = page-fixes l (suc i) (x / PAGE_SIZE) in
    let sources = sources_of (module_of lib m) p in
    let all = All-permutation (HasSpot lib m) sources fs (IsPermutation-sym fs sources (sources-moved l lib m loaded i x o e inside)) (fit_has_spots lib m p library below fit) in
    all_in (HasSpot lib m) fs all k

constant_patched : (q : Fixup) (v : ℕ) → q.target ≡ Constant v → is_patched q ≡ true
constant_patched q v is = ap (λ (t : Target). is_constant t || q.fix.selfrel && stays_in_object q) is

covered : (l : Link) (lib : List Parts) (m : ℕ) → Loaded l lib m → IsLibrary lib → m < length lib → IsFit lib m → (bases : Bases) → StandsWell l bases m → (i x : ℕ) (o : LaidObject) → slice_get (objects l) i ≡ Some o → x < o.size → (q : Fixup) → In q (recorded l) → fixup_covers (suc i) x q ≡ true
    → FixedByte lib m bases (suc i) x ≡ Mean l (world_of lib m bases) (suc i) x
covered l lib m loaded library within fit bases well i x o e below q inside covers =
    covered-byte l lib m loaded bases (world_of lib m bases) i x o e below q t.target inside covers t.is (by_target q.target refl)
  where
    g : Given l
    g = loaded.known

    t : Led l q
    t = led_there l (suc i) x q g inside covers

    of : OfModule q
    of = of_module l q g.whole (core.recorded_in l q inside)

    left : is_patched q ≡ false
    left = not_patched l q inside

    there_is : q.object ≡ suc i
    there_is = stands-there (suc i) (x / PAGE_SIZE) q (stands-here (suc i) x q covers)

    wide : q.fix.selfrel ≡ true → SelfWide q
    wide is = self-wide q (location-some l q g inside) of.whole.relative (accepted l q g.place_none (recorded-live l q inside)) left is

    alone : q.fix.loc == 2 ≡ true → q.standing ≡ 0
    alone is = of.standing ∙ none_stands of.owner q.fix is

    by_target : (target : Target) → q.target ≡ target → bytes-of lib m bases (page_with (suc i) x) (fix_in_file l (record-with (x / PAGE_SIZE) q t.target)) ≡ value_bytes l (world_of lib m bases) q
    by_target (Internal object offset) is =
        inside-means l lib m loaded bases well i (x / PAGE_SIZE) q object offset t.target (subst (LeadsThere l) is (fixup_there l q g.lay_none (core.recorded_in l q inside))) there_is wide is t.is
    by_target (Constant v) is = absurd (true≢false (sym (constant_patched q v is) ∙ left))
    by_target (Entry slot) is =
        let spot = has_spot l lib m loaded library within fit i x o e below (fix_in_file l (record-with (x / PAGE_SIZE) q t.target)) (record-here l (suc i) x q t.target inside covers t.is) in
        import-means l lib m loaded bases i (x / PAGE_SIZE) q slot t.target spot.0 there_is wide alone is t.is spot.1

-- ---- every place

each_byte : (l : Link) (lib : List Parts) (m : ℕ) → Loaded l lib m → IsLibrary lib → m < length lib → IsFit lib m → (bases : Bases) → StandsWell l bases m → (n x : ℕ) (o : LaidObject) → item (objects l) n ≡ Some o → x < o.size → FixedByte lib m bases n x ≡ Mean l (world_of lib m bases) n x
each_byte l lib m loaded library within fit bases well zero x o e below = absurd (true≢false (sym (ap is_some e)))
each_byte l lib m loaded library within fit bases well (suc i) x o e below = by (list_any (fixup_covers (suc i) x) (recorded l)) refl
  where
    by : (b : Bool) → list_any (fixup_covers (suc i) x) (recorded l) ≡ b → FixedByte lib m bases (suc i) x ≡ Mean l (world_of lib m bases) (suc i) x
    by true is =
        let q = found (fixup_covers (suc i) x) (recorded l) is in
        covered l lib m loaded library within fit bases well i x o e below q.item q.inside q.passes
    by false is = plain-byte l lib m loaded bases (world_of lib m bases) i x o e below is

pub linked_loaded : LinkedBytesLoaded
linked_loaded input l links short lib m bases holds library within fit well n x o e below =
    let fits = images_fit input l links short in
    let loaded : Loaded l lib m = record { known = given input l links; fits = fits; is = holds ∙ parts_read (image_of l) fits } in
    each_byte l lib m loaded library within fit bases well n x o e below
