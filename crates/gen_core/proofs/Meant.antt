-- The words of the pages that are fixed are those that the links mean.
use Rattle.std.specs.Prelude.{◌≡◌, ℕ, zero, suc, ◌+◌, ◌/◌, ◌%◌, ◌<◌, ◌≤◌, ◌==◌, Bool, true, false, List, [], ◌∷◌, ◌++◌, Option, Some, Result, Ok, Err, find, length, map, slice_get, slice_index, slice_index_or, refl}
use Rattle.std.specs.List.{enumerate_from, flat_map, range_with_len}
use Rattle.std.proofs.Common.{ap, sym, ◌∙◌, arith, subst}
use Rattle.std.proofs.lemmas.Bool.Decides.{nat_tests}
use Rattle.lx_types.specs.declared.limits.TheConstants.{BASE_UNIT, SHARED_END}
use Rattle.lx_types.specs.Object.{pages_of}
use Rattle.lx_types.specs.Parts.{object_of, no_object}
use Rattle.lx_types.specs.declared.bases.Bases.{Bases}
use Rattle.lx_types.specs.declared.bases.ModBases.{ModBases}
use Rattle.lx_types.specs.declared.object.ObjHead.{ObjHead}
use Rattle.lx_types.specs.declared.parts.Parts.{Parts}
use Rattle.obj_types.specs.Items.{item}
use Rattle.link_model.specs.declared.symbols.LaidObject.{LaidObject}
use Rattle.link_model.specs.Layout.{objects}
use Rattle.link_model.specs.Link.{Link}
use Rattle.link_model.specs.Mean.{Mean}
use Rattle.link_model.specs.Value.{World}
use Rattle.load_model.specs.declared.deeds.Fresh.{Fresh}
use Rattle.load_model.specs.Entering.{NoRoom}
use Rattle.lx_model.specs.Fixed.{base_of, bases_of}
use Rattle.lx_model.specs.Library.{module_of}
use Rattle.lx_model.specs.ModuleBytes.{FixedByte}
use Rattle.image_model.specs.World.{world_of}
use Rattle.layer_laws.specs.LoadedBytes.{LinkedBytesLoaded, StandsWell}
use Rattle.gen_model.specs.Modules.{gen_input}
use Rattle.gen_model.specs.Sums as sums
use Rattle.gen_model.specs.Sums.{all_words, library_of, link_words, words_of}
use Rattle.gen_laws.specs.Laws.{AreFirst, FirstAreFit, InputsAreWhole}
use Rattle.gen_laws.proofs.FirstFit.{first_library}
use Rattle.gen_laws.proofs.FirstGather.{stands}
use Rattle.gen_laws.proofs.FirstKnown.{Known, at, library_holds, library_long}
use Rattle.gen_laws.proofs.FirstPlaces.{One, fresh_at, only_one, place, places_are}
use Rattle.gen_laws.proofs.FirstShape.{its_objects, the_object}
use Rattle.gen_core.specs.Fixing.{front_words, library_words, module_words, object_words}
use Rattle.gen_core.specs.Linking.{AreFirstBases}
use Rattle.gen_core.specs.Meant.{WordsAreMeant}
use Rattle.gen_core.proofs.Ranges.{words_same}

-- ---- where a module stands

abbrev stand_of : Fresh → ModBases
stand_of f = record { «module» = f.«module»; objects = f.bases }

abbrev stands_there : ℕ → ModBases
stands_there m = stand_of (fresh_at m)

found_there : (m a n : ℕ) → a ≤ m → m < a + n → find (λ (b : ModBases). b.«module» == m) (map stand_of (map fresh_at (range_with_len a n))) ≡ Some (stands_there m)
found_there m a zero low high = absurd (omega (arith, low, high))
found_there m a (suc n) low high = by (a == m) refl (λ more. found_there m (a + 1) n more (omega (arith, high)))
  where
    rest : List ModBases
    rest = map stand_of (map fresh_at (range_with_len (a + 1) n))

    by : (b : Bool) → (a == m) ≡ b → (a + 1 ≤ m → find (λ (b : ModBases). b.«module» == m) rest ≡ Some (stands_there m)) → find (λ (b : ModBases). b.«module» == m) (stands_there a ∷ rest) ≡ Some (stands_there m)
    by true same later =
        let is : a ≡ m = grind (arith, nat_tests) in
        rw same (ap (λ (k : ℕ). Some (stands_there k)) is)
    by false apart later =
        let more : a + 1 ≤ m = grind (arith, nat_tests) in
        rw apart (later more)

abbrev fresh_in : Result (List Fresh) NoRoom → List Fresh
fresh_in (Ok fresh) = fresh
fresh_in (Err e) = []

base_is : (lib : List Parts) (bases : Bases) (n m : ℕ) → bases ≡ sums.bases_of (map fresh_at (range_with_len 0 n)) → m < n → base_of bases m 1 ≡ place m
base_is lib bases n m is lt =
    ap (λ (b : Bases). base_of b m 1) is ∙ ap (λ (o : Option ModBases). slice_index (bases_of o) 0) (found_there m 0 n (omega arith) (omega (arith, lt)))

-- ---- its object

record Only (object : ℕ) (o : LaidObject) : Type 0 where
  number : object ≡ 1
  is : o ≡ the_object

only_item : (object : ℕ) (o : LaidObject) → item (the_object ∷ []) object ≡ Some o → Only object o
only_item zero o e = cc
only_item (suc zero) o e = let same : the_object ≡ o = cc in record { number = refl; is = sym same }
only_item (suc (suc i)) o e = cc

place_is_even : (m : ℕ) → place m % BASE_UNIT ≡ 0
place_is_even m = omega arith

place_is_low : (m : ℕ) → m < 64 → place m + 8192 ≤ SHARED_END
place_is_low m h = omega (arith, h)

stands_well : (l : Link) (bases : Bases) (m : ℕ) → objects l ≡ the_object ∷ [] → m < 64 → base_of bases m 1 ≡ place m → StandsWell l bases m
stands_well l bases m one few base object o e =
    let only = only_item object o (ap (λ (os : List LaidObject). item os object) (sym one) ∙ e) in
    let at : base_of bases m object ≡ place m = ap (base_of bases m) only.number ∙ base in
    let size : o.size ≡ 8192 = ap (λ (x : LaidObject). x.size) only.is in
    (ap (λ (n : ℕ). n % BASE_UNIT) at ∙ place_is_even m, (let low = place_is_low m few in omega (arith, at, size, low)))

-- ---- its words

same_words : (f g : ℕ → ℕ) (p q : ℕ) → p ≡ q → q ≤ 2 → ((x : ℕ) → x < 8192 → f x ≡ g x) → words_of f p ≡ words_of g q
same_words f g p q is few same =
    ap (words_of f) is ∙ words_same f g q (λ x lt. same x (omega (arith, few, lt)))

one_object : (lib : List Parts) (bases : Bases) (m : ℕ) (objects : List ObjHead) → (module_of lib m).objects ≡ objects → length objects ≡ 1 → module_words lib bases m ≡ object_words lib bases m 1 ++ []
unfolding module_words
one_object lib bases m objects is one =
    ap (λ (n : ℕ). flat_map (object_words lib bases m) (range_with_len 1 n)) (ap length is ∙ one)

its_pages : (lib : List Parts) (m : ℕ) → (one : One (module_of lib m).objects) → pages_of (object_of (module_of lib m) 1) ≡ sums.pages_of the_object
its_pages lib m one =
    ap (λ (os : List ObjHead). pages_of (slice_index_or os 0 no_object)) one.is ∙ ap (λ (n : ℕ). (n + 4095) / 4096) one.size

link_has : (l : Link) (w : World) → objects l ≡ the_object ∷ [] → link_words l w ≡ words_of (Mean l w 1) (sums.pages_of the_object) ++ []
unfolding link_words
link_has l w one = ap (λ (os : List LaidObject). flat_map (sums.object_words l w) (enumerate_from 1 os)) one

words_are : (lib : List Parts) (bases : Bases) (m : ℕ) (l : Link) (w : World) → One (module_of lib m).objects → objects l ≡ the_object ∷ [] → ((x : ℕ) → x < 8192 → FixedByte lib m bases 1 x ≡ Mean l w 1 x) → module_words lib bases m ≡ link_words l w
unfolding front_words
words_are lib bases m l w one linked same =
    one_object lib bases m (one.object ∷ []) one.is refl
    ∙ ap (λ (ws : List ℕ). ws ++ []) (same_words (FixedByte lib m bases 1) (Mean l w 1) (pages_of (object_of (module_of lib m) 1)) (sums.pages_of the_object) (its_pages lib m one) (omega arith) same)
    ∙ sym (link_has l w linked)

-- ---- all modules

all_same : (lib : List Parts) (bases : Bases) (a : ℕ) (links : List Link) → ((j : ℕ) (l : Link) → slice_get links j ≡ Some l → module_words lib bases (a + j) ≡ link_words l (world_of lib (a + j) bases))
    → flat_map (module_words lib bases) (range_with_len a (length links)) ≡ flat_map (λ q. link_words q.1 (world_of lib q.0 bases)) (enumerate_from a links)
all_same lib bases a [] each = refl
all_same lib bases a (l ∷ links) each =
    let here : a + 0 ≡ a = omega arith in
    let first = subst (λ (m : ℕ). module_words lib bases m ≡ link_words l (world_of lib m bases)) here (each 0 l refl) in
    let rest = all_same lib bases (a + 1) links (λ j k is. subst (λ (m : ℕ). module_words lib bases m ≡ link_words k (world_of lib m bases)) (further j) (each (suc j) k is)) in
    ap (λ (ws : List ℕ). ws ++ flat_map (module_words lib bases) (range_with_len (a + 1) (length links))) first ∙ ap (λ (ws : List ℕ). link_words l (world_of lib a bases) ++ ws) rest
  where
    further : (j : ℕ) → a + suc j ≡ a + 1 + j
    further j = omega arith

within : (links : List Link) (i : ℕ) (l : Link) → slice_get links i ≡ Some l → i < length links
within [] i l e = cc
within (x ∷ links) zero l e = omega arith
within (x ∷ links) (suc i) l e = let r = within links i l e in omega (arith, r)

bases_are : (whole : InputsAreWhole) (links : List Link) (bases : Bases) → AreFirst links → AreFirstBases (library_of links) bases → bases ≡ sums.bases_of (map fresh_at (range_with_len 0 (length (library_of links))))
bases_are whole links bases first stand =
    stand.are ∙ ap (λ (r : Result (List Fresh) NoRoom). sums.bases_of (fresh_in r)) (sym stand.placed ∙ places_are whole links first)

one_module : (whole : InputsAreWhole) (fit : FirstAreFit) (loaded : LinkedBytesLoaded) (links : List Link) (bases : Bases) → AreFirst links → AreFirstBases (library_of links) bases → (i : ℕ) (l : Link) → slice_get links i ≡ Some l
    → module_words (library_of links) bases i ≡ link_words l (world_of (library_of links) i bases)
one_module whole fit loaded links bases first stand i l is =
    let lib = library_of links in
    let few = first.few in
    let lt = within links i l is in
    let own = at whole links i first lt in
    let same : own.link ≡ l = linked_same own.link l (sym own.is ∙ is) in
    let known = subst (λ (x : Link). Known (1 + i) x) same own.known in
    let long = library_long links in
    let inside : i < length lib = omega (arith, lt, long) in
    let one = only_one (module_of lib i).objects (stands links i (1 + i) (omega (arith, lt, few)) own).objects in
    let objects_are : objects l ≡ the_object ∷ [] = ap objects known.is ∙ its_objects (1 + i) in
    let well = stands_well l bases i objects_are (omega (arith, lt, few)) (base_is lib bases (length lib) i (bases_are whole links bases first stand) inside) in
    words_are lib bases i l (world_of lib i bases) one objects_are
    (λ x below. loaded (gen_input (1 + i)) l known.links known.short lib i bases (library_holds links i l is) (first_library whole links first) inside (fit links i first lt) well 1 x the_object (ap (λ (os : List LaidObject). item os 1) objects_are) below)
  where
    linked_same : (x y : Link) → Some x ≡ Some y → x ≡ y
    linked_same x y e = cc

pub words_meant : InputsAreWhole → FirstAreFit → LinkedBytesLoaded → WordsAreMeant
unfolding library_words all_words
words_meant whole fit loaded links bases first stand =
    ap (λ (n : ℕ). flat_map (module_words (library_of links) bases) (range_with_len 0 n)) (library_long links)
    ∙ all_same (library_of links) bases 0 links (λ j l is. subst (λ (m : ℕ). module_words (library_of links) bases m ≡ link_words l (world_of (library_of links) m bases)) (sym (from_zero j)) (one_module whole fit loaded links bases first stand j l is))
  where
    from_zero : (j : ℕ) → 0 + j ≡ j
    from_zero j = omega arith
