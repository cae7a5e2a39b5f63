-- The bytes of a page under the bases of a load: where no fixup is left to the loader, and where one is.
use Rattle.std.specs.Prelude.{◌≡◌, ℕ, zero, suc, ◌+◌, ◌*◌, ◌/◌, ◌%◌, ◌<◌, ◌==◌, ◌&&◌, nat_lt, Bool, true, false, List, Some, None, map, slice_get, is_some, refl}
use Rattle.std.specs.List.{list_any}
use Rattle.std.specs.List.Sorted.{IsPermutation}
use Rattle.std.proofs.Common.{ap, sym, ◌∙◌, arith, subst, true≢false}
use Rattle.std.proofs.Math.Nat.{div-add-mod}
use Rattle.std.proofs.lemmas.Bool.{eqb-true, and_parts}
use Rattle.lx_types.specs.declared.bases.Bases.{Bases}
use Rattle.lx_types.specs.declared.fix.Fix.{Fix}
use Rattle.lx_types.specs.declared.object.TheConstants.{PAGE_SIZE}
use Rattle.lx_types.specs.declared.parts.Parts.{Parts}
use Rattle.obj_types.specs.Items.{item}
use Rattle.obj_types.specs.Location.{location_len}
use Rattle.link_model.specs.declared.symbols.LaidObject.{LaidObject}
use Rattle.link_model.specs.Link.{Link}
use Rattle.link_model.specs.Fixups.{Fixup}
use Rattle.link_model.specs.Layout.{objects}
use Rattle.link_model.specs.Mean.{fixup_end, fixup_covers, Mean}
use Rattle.link_model.specs.Patches.{recorded}
use Rattle.link_model.specs.Records.{page_records, stands_on}
use Rattle.link_model.specs.Value.{World}
use Rattle.link_model.proofs.Members.{In, any_in}
use Rattle.lx_model.specs.Fixed.{Raw, sources_of}
use Rattle.lx_model.specs.Library.{module_of}
use Rattle.lx_model.specs.ModuleBytes.{page_with, FixedByte}
use Rattle.lx_fixrec.proofs.Permuted.{records_keep_fixes}
use Rattle.image_model.specs.Linked.{fix_in_file, image_of}
use Rattle.image_model.specs.ReadBack.{ImageFits, parts_of_image}
use Rattle.image_model.specs.World.{world_of}
use Rattle.image_model.proofs.PartsRead.{parts_read}
use Rattle.image_model.proofs.RecordsFit as core
use Rattle.layer_laws.specs.LoadedBytes.{PlainBytesLoaded}
use Rattle.layer_laws.proofs.Lists.{each-of}
use Rattle.layer_laws.proofs.Given.{Given, given}
use Rattle.layer_laws.proofs.ImagesFit.{images_fit}
use Rattle.layer_laws.proofs.RawBytes.{raw-byte, pages-cover}
use Rattle.layer_laws.proofs.PageSources.{sources-for, sources-are}
use Rattle.layer_laws.proofs.MeanBytes.{NoneLeft, mean-before}
use Rattle.layer_laws.proofs.FixedBytes.{put, fixed-raw}
use Rattle.layer_laws.proofs.RecordBytes.{of-fixup, put-outside}

-- ---- what is loaded

-- A link whose image fits, and a module of a library that its file means.
pub record Loaded (l : Link) (lib : List Parts) (m : ℕ) : Type 0 where
  pub known : Given l
  pub fits : ImageFits (image_of l)
  pub is : module_of lib m ≡ parts_of_image (image_of l)

pub stands-there : (n k : ℕ) (q : Fixup) → stands_on n k q ≡ true → q.object ≡ n
stands-there n k q e =
    let last = and_parts (q.object == n && nat_lt (k * PAGE_SIZE) (fixup_end q)) (nat_lt q.offset (k * PAGE_SIZE + PAGE_SIZE)) e in
    let first = and_parts (q.object == n) (nat_lt (k * PAGE_SIZE) (fixup_end q)) last.0 in
    eqb-true q.object n first.0

-- The records of a page, and that the sources of the page are these.
abbrev pub page-fixes : Link → ℕ → ℕ → List Fix
page-fixes l n k = map (fix_in_file l) (page_records l n k)

pub sources-moved : (l : Link) (lib : List Parts) (m : ℕ) → Loaded l lib m → (i x : ℕ) (o : LaidObject) → slice_get (objects l) i ≡ Some o → x < o.size
    → IsPermutation (page-fixes l (suc i) (x / PAGE_SIZE)) (sources_of (module_of lib m) (page_with (suc i) x))
sources-moved l lib m loaded i x o e below =
    let k = x / PAGE_SIZE in
    let fs = page-fixes l (suc i) k in
    let sources : sources_of (module_of lib m) (page_with (suc i) x) ≡ sources-for l (page_records l (suc i) k) =
    ap (λ (p : Parts). sources_of p (page_with (suc i) x)) loaded.is ∙ sources-are l loaded.fits i k o e (pages-cover x o.size below) in
    subst (IsPermutation fs) (sym sources) (records_keep_fixes fs)

pub in-page : (x : ℕ) → x / PAGE_SIZE * PAGE_SIZE + x % PAGE_SIZE ≡ x
in-page x = let split = div-add-mod x PAGE_SIZE in omega (arith, split)

pub location-some : (l : Link) (q : Fixup) → Given l → In q (recorded l) → 0 < location_len q.fix.loc
location-some l q g i = core.fixup_location l q g.whole (core.recorded_in l q i)

-- ---- no fixup is left to the loader

none_covers : (test : Fixup → Bool) (qs : List Fixup) (q : Fixup) → list_any test qs ≡ false → In q qs → test q ≡ false
none_covers test qs q none i = by (test q) refl
  where
    by : (b : Bool) → test q ≡ b → test q ≡ false
    by true is = absurd (true≢false (sym (any_in test i is) ∙ none))
    by false is = is

nothing_put : (l : Link) (lib : List Parts) (m : ℕ) → Loaded l lib m → (bases : Bases) (n x : ℕ) → NoneLeft l n x → (f : Fix) → In f (page-fixes l n (x / PAGE_SIZE)) → put lib m bases (page_with n x) (x % PAGE_SIZE) f ≡ None
nothing_put l lib m loaded bases n x none f i =
    let k = x / PAGE_SIZE in
    let r = of-fixup l n k f i in
    let q = r.fixup in
    ap (put lib m bases (page_with n x) (x % PAGE_SIZE)) r.is
    ∙ put-outside lib m bases (page_with n x) n x k (x % PAGE_SIZE) l q r.target (location-some l q loaded.known r.inside) (in-page x) (stands-there n k q r.stands) (none_covers (fixup_covers n x) (recorded l) q none r.inside)

pub plain-byte : (l : Link) (lib : List Parts) (m : ℕ) → Loaded l lib m → (bases : Bases) (w : World) (i x : ℕ) (o : LaidObject) → slice_get (objects l) i ≡ Some o → x < o.size → NoneLeft l (suc i) x → FixedByte lib m bases (suc i) x ≡ Mean l w (suc i) x
plain-byte l lib m loaded bases w i x o e below none =
    let p = page_with (suc i) x in
    let r = x % PAGE_SIZE in
    let fs = page-fixes l (suc i) (x / PAGE_SIZE) in
    let each = each-of (λ f. put lib m bases p r f ≡ None) fs (nothing_put l lib m loaded bases (suc i) x none) in
    fixed-raw lib m bases p r fs (sources-moved l lib m loaded i x o e below) each
    ∙ ap (λ (parts : Parts). Raw parts p r) loaded.is
    ∙ raw-byte l loaded.fits i x o e below
    ∙ mean-before l w (suc i) x loaded.known.place_none none

by_number : (l : Link) (lib : List Parts) (m : ℕ) → Loaded l lib m → (bases : Bases) (w : World) (n x : ℕ) (o : LaidObject) → item (objects l) n ≡ Some o → x < o.size → NoneLeft l n x → FixedByte lib m bases n x ≡ Mean l w n x
by_number l lib m loaded bases w zero x o e below none = absurd (true≢false (sym (ap is_some e)))
by_number l lib m loaded bases w (suc i) x o e below none = plain-byte l lib m loaded bases w i x o e below none

pub plain_loaded : PlainBytesLoaded
plain_loaded input l links short lib m bases holds n x o e below none =
    let fits = images_fit input l links short in
    let loaded : Loaded l lib m = record { known = given input l links; fits = fits; is = holds ∙ parts_read (image_of l) fits } in
    by_number l lib m loaded bases (world_of lib m bases) n x o e below none
