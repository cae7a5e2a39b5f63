-- What is loaded alone is what the link means, and which refusals are due.
use Rattle.std.specs.Prelude.{◌≡◌, ℕ, zero, suc, ◌+◌, ◌<◌, ◌^◌, ◌==◌, cond, List, [], ◌∷◌, Option, Some, None, is_some, length, map, slice_get, refl}
use Rattle.std.specs.List.{enumerate_from, range_with_len}
use Rattle.std.specs.Option.{option_map}
use Rattle.std.proofs.Common.{ap, sym, ◌∙◌, arith, subst, true≢false}
use Rattle.std.proofs.lemmas.List.Elements.{All-from_recursion}
use Rattle.lx_types.specs.declared.object.ObjHead.{ObjHead}
use Rattle.lx_types.specs.declared.parts.Parts.{Parts}
use Rattle.obj_types.specs.Items.{item}
use Rattle.obj_types.specs.Input.{WholeInput}
use Rattle.obj_types.specs.declared.input.LinkInput.{LinkInput}
use Rattle.link_model.specs.declared.symbols.LaidObject.{LaidObject}
use Rattle.link_model.specs.declared.refusals.LinkRefusal.{LinkRefusal}
use Rattle.link_model.specs.Layout.{objects}
use Rattle.link_model.specs.Link.{Link}
use Rattle.link_model.specs.Mean.{Mean}
use Rattle.link_model.specs.Patches.{linked_world}
use Rattle.link_model.specs.Refusal.{link_refusal}
use Rattle.link_model.specs.Words.{first_of}
use Rattle.link_model.proofs.ExternalsMean.{neither}
use Rattle.lx_model.specs.Gathering.{IsLibrary}
use Rattle.lx_model.specs.Module.{IsRead, parts_of}
use Rattle.lx_model.specs.ModuleBytes.{FixedByte}
use Rattle.image_model.specs.File.{file_of}
use Rattle.image_model.specs.LinkLaws.{laid}
use Rattle.image_model.specs.Linked.{image_of, link_modules}
use Rattle.image_model.specs.World.{world_of}
use Rattle.image_model.specs.LinkedFile.{IsLinkedFile}
use Rattle.link_core.specs.Links.{RefusesLink}
use Rattle.layer_laws.specs.LinkedImages.{Links, LinkedFilesRead}
use Rattle.layer_laws.specs.LoadedBytes.{LinkedBytesLoaded}
use Rattle.layer_laws.specs.Ranges.{InputInRange}
use Rattle.image_pages.specs.Alone.{linked_bases, rows_alone, loading_refusal, IsLoadedAlone, LinkedModulesLoadAlone}
use Rattle.image_pages.specs.Memory.{no_module, arena_full, full_from, image_refusal, memory, IsMemory, RefusesMemory}
use Rattle.image_pages.specs.declared.refusals.ImageRefusal.{ImageRefusal}
use Rattle.image_pages.specs.declared.refusals.ImageRefusal.TheVariants.{Link as NotLinked, NoModule}
use Rattle.image_pages.proofs.Loads.{none_imported}
use Rattle.image_pages.proofs.OneWorld.{mean_same}

-- ---- rows

maps_same : (F G : ℕ → ℕ) (a n : ℕ) → ((x : ℕ) → x < a + n → F x ≡ G x) → map F (range_with_len a n) ≡ map G (range_with_len a n)
maps_same F G a zero same = refl
maps_same F G a (suc n) same =
    ap (λ (x : ℕ). x ∷ map F (range_with_len (a + 1) n)) (same a (omega arith))
    ∙ ap (λ (xs : List ℕ). G a ∷ xs) (maps_same F G (a + 1) n (λ x h. same x (omega (arith, h))))

-- Byte by byte the objects are the same, each with its number.
abbrev EachByte : (ℕ → ℕ → ℕ) → (ℕ → ℕ → ℕ) → ℕ → List ObjHead → Type 0
EachByte F G b hs = (i : ℕ) (h : ObjHead) → slice_get hs i ≡ Some h → (x : ℕ) → x < h.size → F (b + i) x ≡ G (b + i) x

abbrev head_row : (ℕ → ℕ → ℕ) → ℕ × ObjHead → LaidObject × List ℕ
head_row F q = (laid q.1, map (F q.0) (range_with_len 0 q.1.size))

abbrev laid_row : (ℕ → ℕ → ℕ) → ℕ × LaidObject → LaidObject × List ℕ
laid_row G q = (q.1, map (G q.0) (range_with_len 0 q.1.size))

rows_same : (F G : ℕ → ℕ → ℕ) (b : ℕ) (hs : List ObjHead) → EachByte F G b hs → map (head_row F) (enumerate_from b hs) ≡ map (laid_row G) (enumerate_from b (map laid hs))
rows_same F G b [] same = refl
rows_same F G b (h ∷ hs) same =
    let here : b + 0 ≡ b = omega arith in
    let bytes = maps_same (F b) (G b) 0 h.size (λ x below. subst (λ (n : ℕ). F n x ≡ G n x) here (same 0 h refl x (omega (arith, below)))) in
    ap (λ (bs : List ℕ). (laid h, bs) ∷ map (head_row F) (enumerate_from (b + 1) hs)) bytes
    ∙ ap (λ (rows : List (LaidObject × List ℕ)). laid_row G (b, laid h) ∷ rows)
    (rows_same F G (b + 1) hs (λ i o is x below. let next : b + suc i ≡ b + 1 + i = omega arith in subst (λ (n : ℕ). F n x ≡ G n x) next (same (suc i) o is x below)))

-- ---- the bytes of a link

laid_at : (hs : List ObjHead) (i : ℕ) (h : ObjHead) → slice_get hs i ≡ Some h → slice_get (map laid hs) i ≡ Some (laid h)
laid_at [] i h e = absurd (true≢false (sym (ap is_some e)))
laid_at (g ∷ hs) zero h e = ap (option_map laid) e
laid_at (g ∷ hs) (suc i) h e = laid_at hs i h e

bases_laid : (hs : List ObjHead) → map (λ h. h.base) hs ≡ map (λ o. o.base) (map laid hs)
bases_laid [] = refl
bases_laid (h ∷ hs) = ap (λ (bs : List ℕ). h.base ∷ bs) (bases_laid hs)

worlds_same : (l : Link) (m : Parts) → map laid m.objects ≡ objects l → (world_of (m ∷ []) 0 (linked_bases m.objects)).bases ≡ (linked_world l).bases
unfolding world_of
worlds_same l m same = bases_laid m.objects ∙ ap (map (λ (o : LaidObject). o.base)) same

abbrev file_parts : Link → Parts
file_parts l = parts_of (file_of (image_of l))

-- ---- refusals

refusals_same : (l : Link) (m : Parts) → link_refusal l ≡ None → m.imports ≡ link_modules l → map laid m.objects ≡ objects l → image_refusal l ≡ loading_refusal m
refusals_same l m accepted imports same =
    ap (λ (o : Option LinkRefusal). first_of (option_map NotLinked o ∷ no_module l ∷ arena_full l ∷ [])) accepted
    ∙ ap (λ (names : List (List ℕ)). first_of (cond (length names == 0) None (Some NoModule) ∷ arena_full l ∷ [])) (sym imports)
    ∙ ap (λ (os : List LaidObject). first_of (cond (length m.imports == 0) None (Some NoModule) ∷ full_from 1 os ∷ [])) (sym same)

record Unrefused (l : Link) : Type 0 where
  modules : no_module l ≡ None
  arenas : arena_full l ≡ None

unrefused : (l : Link) → image_refusal l ≡ None → Unrefused l
unrefused l none =
    let first = neither (option_map NotLinked (link_refusal l)) (first_of (no_module l ∷ arena_full l ∷ [])) none in
    let second = neither (no_module l) (first_of (arena_full l ∷ [])) first.1 in
    let third = neither (arena_full l) (first_of []) second.1 in
    record { modules = second.0; arenas = third.0 }

-- ---- the file of an input that links

-- What is known of it.
record Written (input : LinkInput) (l : Link) : Type 0 where
  links : Links input l
  short : length (file_of (image_of l)) < 2 ^ 32
  read : IsRead (file_parts l)

byte_is : LinkedBytesLoaded → LinkedFilesRead → LinkedModulesLoadAlone → (input : LinkInput) (l : Link) → Written input l → Unrefused l → (i : ℕ) (h : ObjHead) → slice_get (file_parts l).objects i ≡ Some h → (x : ℕ) → x < h.size
    → FixedByte (file_parts l ∷ []) 0 (linked_bases (file_parts l).objects) (1 + i) x ≡ Mean l (linked_world l) (1 + i) x
byte_is bytes reads loads input l written none i h is x below =
    let m = file_parts l in
    let bases = linked_bases m.objects in
    let alone = loads input l written.links written.short none.modules none.arenas in
    let same = (reads input l written.links written.short).linked.objects in
    let library : IsLibrary (m ∷ []) = record { faultless = alone.gathers; read = All-from_recursion IsRead (m ∷ []) (written.read, tt) } in
    let number : suc i ≡ 1 + i = omega arith in
    let at : item (objects l) (1 + i) ≡ Some (laid h) = subst (λ (n : ℕ). item (objects l) n ≡ Some (laid h)) number (ap (λ (os : List LaidObject). slice_get os i) (sym same) ∙ laid_at m.objects i h is) in
    bytes input l written.links written.short (m ∷ []) 0 bases refl library (omega arith) alone.fit alone.stands (1 + i) x (laid h) at below
    ∙ mean_same l (world_of (m ∷ []) 0 bases) (linked_world l) (1 + i) x (worlds_same l m same) (none_imported l none.modules)

rows_mean : LinkedBytesLoaded → LinkedFilesRead → LinkedModulesLoadAlone → (input : LinkInput) (l : Link) → Written input l → Unrefused l → rows_alone (file_parts l) ≡ memory l
rows_mean bytes reads loads input l written none =
    let m = file_parts l in
    rows_same (FixedByte (m ∷ []) 0 (linked_bases m.objects)) (Mean l (linked_world l)) 1 m.objects (byte_is bytes reads loads input l written none)
    ∙ ap (λ (os : List LaidObject). map (laid_row (Mean l (linked_world l))) (enumerate_from 1 os)) (reads input l written.links written.short).linked.objects

-- ---- answers

-- The input is linked to a file, and a module was read from it.
pub record FromFile (input : LinkInput) (m : Parts) : Type 0 where
  pub link : Link
  pub links : Links input link
  pub short : length (file_of (image_of link)) < 2 ^ 32
  pub is : m ≡ parts_of (file_of (image_of link))
  pub read : IsRead m

pub from_file : (input : LinkInput) (file : List ℕ) (m : Parts) → WholeInput input → InputInRange input → IsLinkedFile input file → length file < 2 ^ 32 → m ≡ parts_of file → IsRead m → FromFile input m
from_file input file m whole range linked short is read = record {
  link = linked.link;
  links = record { whole = whole; range = range; of_input = linked.of_input; accepted = linked.accepted };
  short = subst (λ (f : List ℕ). length f < 2 ^ 32) linked.file short;
  is = is ∙ ap parts_of linked.file;
  read = read;
}

same_refusal : LinkedFilesRead → (input : LinkInput) (m : Parts) → (from : FromFile input m) → image_refusal from.link ≡ loading_refusal m
same_refusal reads input m from =
    let l = from.link in
    let linked = (reads input l from.links from.short).linked in
    refusals_same l (file_parts l) from.links.accepted linked.imports linked.objects ∙ ap loading_refusal (sym from.is)

pub is_memory : LinkedBytesLoaded → LinkedFilesRead → LinkedModulesLoadAlone → (input : LinkInput) (m : Parts) (rows : List (LaidObject × List ℕ)) → FromFile input m → IsLoadedAlone m rows → IsMemory input rows
is_memory bytes reads loads input m rows from loaded =
    let l = from.link in
    let accepted : image_refusal l ≡ None = same_refusal reads input m from ∙ loaded.accepted in
    let written : Written input l = record { links = from.links; short = from.short; read = subst IsRead from.is from.read } in
    record {
      link = l;
      of_input = from.links.of_input;
      accepted = accepted;
      rows = loaded.is ∙ ap rows_alone from.is ∙ rows_mean bytes reads loads input l written (unrefused l accepted);
    }

pub refuses_memory : LinkedFilesRead → (input : LinkInput) (m : Parts) (refusal : ImageRefusal) → FromFile input m → loading_refusal m ≡ Some refusal → RefusesMemory input refusal
refuses_memory reads input m refusal from is = record {
  link = from.link;
  of_input = from.links.of_input;
  refused = same_refusal reads input m from ∙ is;
}

-- ---- a link that is refused

pub link_refused : (input : LinkInput) (r : LinkRefusal) → RefusesLink input r → RefusesMemory input (NotLinked r)
link_refused input r h = record {
  link = h.link;
  of_input = h.of_input;
  refused = ap (λ (o : Option LinkRefusal). first_of (option_map NotLinked o ∷ no_module h.link ∷ arena_full h.link ∷ [])) h.refused;
}
