-- The bytes of what was built are those of its link, in every state of a legal history.
use Rattle.std.proofs.Common.{◌≡◌, ℕ, zero, suc, ◌-◌, ◌+◌, ◌<◌, ◌≤◌, List, ◌++◌, length, map, Option, Some, None, option_map, slice_get, refl, sym, ◌∙◌, ap, subst, arith, slice_index_or}
use Rattle.std.specs.List.{AllByRecursion}
use Rattle.std.proofs.lemmas.Option.{slice_get-map, slice_get_within, slice_get-get_or, get_or_from_slice_get}
use Rattle.lx_types.specs.declared.limits.TheConstants.{SHARED_END}
use Rattle.lx_types.specs.Parts.{object_of, no_object}
use Rattle.lx_types.specs.Sound.{IsNumberOf}
use Rattle.lx_types.specs.declared.object.ObjHead.{ObjHead}
use Rattle.lx_types.specs.declared.parts.Parts.{Parts}
use Rattle.lx_types.specs.declared.bases.Bases.{Bases}
use Rattle.obj_types.specs.Items.{item}
use Rattle.link_model.specs.declared.symbols.LaidObject.{LaidObject}
use Rattle.link_model.specs.Link.{Link}
use Rattle.link_model.specs.Layout.{objects}
use Rattle.lx_model.specs.Fixed.{base_of}
use Rattle.lx_model.specs.Gathering.{IsLibrary}
use Rattle.lx_model.specs.Library.{module_of, no_module}
use Rattle.lx_model.specs.Module.{parts_of}
use Rattle.image_model.specs.File.{file_of}
use Rattle.image_model.specs.Linked.{image_of}
use Rattle.image_model.specs.LinkLaws.{laid, ReadAsLinked}
use Rattle.image_model.specs.World.{world_of}
use Rattle.link_model.specs.Mean.{Mean}
use Rattle.layer_laws.specs.LinkedImages.{LinkedFilesRead}
use Rattle.layer_laws.specs.LoadedBytes.{Holds, StandsWell, LinkedBytesLoaded}
use Rattle.load_model.specs.declared.deeds.Entry.{Entry}
use Rattle.load_model.specs.Modules.{Library, Held, fixed_bytes, objects_of, object_at}
use Rattle.load_model.specs.State.{Failing}
use Rattle.load_model.specs.Memory.{bases_seen}
use Rattle.load_model.specs.Histories.{state_after, Legal}
use Rattle.load_model.specs.Laws.{PrefixIsLegal, AgreeAt, HeldHistoriesAlike}
use Rattle.session_model.specs.MergeLaws.{HeldMergesAlike}
use Rattle.run_model.specs.Sources.{Source, taken, built, module_from, library_of, held, held_by}
use Rattle.run_model.specs.Standing.{StandsIn, ObjectsStand, ReachedStand}
use Rattle.run_laws.specs.Bridge.{HeldAsLinked, IsBuiltWell, IsSound, RunsByLinks}
use Rattle.run_laws.proofs.BuiltModules.{sound_at}

-- ---- sources

-- the library holds the module that the link's file means
holds_it : (sources : List Source) (m : ℕ) (l : Link) → slice_get sources m ≡ Some (built l) → Holds (library_of sources) m l
holds_it sources m l there =
    get_or_from_slice_get (map module_from sources) m (module_from (built l)) no_module (slice_get-map module_from sources m ∙ ap (option_map module_from) there)

-- ---- objects

head_of : (p : Parts) (k : ℕ) → object_of p (suc k) ≡ slice_index_or p.objects k no_object
head_of p k = ap (λ i. slice_index_or p.objects i no_object) (less k)
  where
    less : (k : ℕ) → suc k - 1 ≡ k
    less k = omega arith

-- an object of the link is one of the module, with its size
pub record IsObject (p : Parts) (object : ℕ) (o : LaidObject) : Type 0 where
  pub number : IsNumberOf object (length p.objects)
  pub size : (object_of p object).size ≡ o.size

head_at : (heads : List ObjHead) (k : ℕ) (o : LaidObject) → slice_get (map laid heads) k ≡ Some o → (k < length heads) × ((slice_index_or heads k no_object).size ≡ o.size)
head_at heads k o there = step (slice_get heads k) refl
  where
    same : (h : ObjHead) → Some (laid h) ≡ Some o → h.size ≡ o.size
    same h is = grind arith

    step : (found : Option ObjHead) → slice_get heads k ≡ found → (k < length heads) × ((slice_index_or heads k no_object).size ≡ o.size)
    step None is =
        let none : Option LaidObject = None in
        let wrong : none ≡ Some o = sym (slice_get-map laid heads k ∙ ap (option_map laid) is) ∙ there in
        cc
    step (Some h) is =
        let at : Some (laid h) ≡ Some o = sym (slice_get-map laid heads k ∙ ap (option_map laid) is) ∙ there in
        (slice_get_within heads k h is, ap (λ (x : ObjHead). x.size) (get_or_from_slice_get heads k h no_object is) ∙ same h at)

object_is : (l : Link) (p : Parts) → ReadAsLinked l p → (object : ℕ) (o : LaidObject) → item (objects l) object ≡ Some o → IsObject p object o
object_is l p read zero o there = cc
object_is l p read (suc k) o there =
    let at : (k < length p.objects) × ((slice_index_or p.objects k no_object).size ≡ o.size) = head_at p.objects k o (ap (λ xs. slice_get xs k) read.objects ∙ there) in
    record { number = number k (length p.objects) at.0; size = ap (λ (h : ObjHead). h.size) (head_of p k) ∙ at.1 }
  where
    number : (k n : ℕ) → k < n → IsNumberOf (suc k) n
    number k n is = (omega arith, omega arith)

-- an object of the module is one of the link, with its size
pub record IsLaid (l : Link) (p : Parts) (object : ℕ) : Type 0 where
  pub laid_as : LaidObject
  pub there : item (objects l) object ≡ Some laid_as
  pub size : (object_of p object).size ≡ laid_as.size

laid_is : (l : Link) (p : Parts) → ReadAsLinked l p → (object : ℕ) → IsNumberOf object (length p.objects) → IsLaid l p object
laid_is l p read zero number = absurd (none number.0)
  where
    none : 1 ≤ 0 → ⊥
    none is = omega arith
laid_is l p read (suc k) number = record {
  laid_as = laid (slice_index_or p.objects k no_object);
  there =
      sym (ap (λ xs. slice_get xs k) read.objects) ∙ slice_get-map laid p.objects k
      ∙ ap (option_map laid) (slice_get-get_or p.objects k no_object (within k (length p.objects) number.1));
  size = ap (λ (h : ObjHead). h.size) (head_of p k);
}
  where
    within : (k n : ℕ) → suc k ≤ n → k < n
    within k n is = omega arith

-- ---- one byte

module _ (loaded : LinkedBytesLoaded) (reads : LinkedFilesRead) (sources : List Source) (is_library : IsLibrary (library_of sources)) where
  stands_well : (m : ℕ) (l : Link) (p : Parts) (bases : Bases) → module_of (library_of sources) m ≡ p → ReadAsLinked l p → ObjectsStand (library_of sources) bases m → StandsWell l bases m
  unfolding objects_of object_at
  stands_well m l p bases at read stand object o there =
      let is : IsObject p object o = object_is l p read object o there in
      let number : IsNumberOf object (length (module_of (library_of sources) m).objects) = subst (λ q. IsNumberOf object (length q.objects)) (sym at) is.number in
      let size : (object_of (module_of (library_of sources) m) object).size ≡ o.size = ap (λ q. (object_of q object).size) at ∙ is.size in
      ((stand object number).0, subst (λ n. base_of bases m object + n ≤ SHARED_END) size (stand object number).1)

  byte_of_built :
      (m object x : ℕ) (l : Link) (bases : Bases) → slice_get sources m ≡ Some (built l) → IsBuiltWell l → StandsIn (library_of sources) bases m →
      IsNumberOf object (length (objects_of (library_of sources) m)) → x < (object_at (library_of sources) m object).size →
      fixed_bytes (library_of sources) m bases object x ≡ Mean l (world_of (library_of sources) m bases) object x
  unfolding fixed_bytes objects_of object_at
  byte_of_built m object x l bases there well stands number inside =
      let p : Parts = parts_of (file_of (image_of l)) in
      let at : module_of (library_of sources) m ≡ p = holds_it sources m l there in
      let read : ReadAsLinked l p = (reads well.input l well.links well.short).linked in
      let it : IsLaid l p object = laid_is l p read object (subst (λ q. IsNumberOf object (length q.objects)) at number) in
      let size : (object_of (module_of (library_of sources) m) object).size ≡ it.laid_as.size = ap (λ q. (object_of q object).size) at ∙ it.size in
      loaded well.input l well.links well.short (library_of sources) m bases at is_library stands.there stands.fit (stands_well m l p bases at read stands.objects) object x it.laid_as it.there
      (subst (λ n. x < n) size inside)

  agree_at : AllByRecursion IsSound sources → ReachedStand → (failing : Failing) (contents : Held) (h : List Entry) → Legal (library_of sources) failing contents h →
      AgreeAt (library_of sources) (fixed_bytes (library_of sources)) (held sources) (state_after (library_of sources) failing h)
  unfolding held
  agree_at sound stand failing contents h legal m object x reached number inside = step (slice_get sources m) refl
    where
      lib : Library
      lib = library_of sources

      bases : Bases
      bases = bases_seen lib (state_after lib failing h) m

      step : (s : Option Source) → slice_get sources m ≡ s → fixed_bytes lib m bases object x ≡ held_by (slice_get sources m) lib m bases object x
      step None is = sym (ap (λ (s : Option Source). held_by s lib m bases object x) is)
      step (Some (taken p)) is = sym (ap (λ (s : Option Source). held_by s lib m bases object x) is)
      step (Some (built l)) is =
          byte_of_built m object x l bases is (sound_at sources m (built l) sound is) (stand lib failing contents h m legal reached) number inside
          ∙ sym (ap (λ (s : Option Source). held_by s lib m bases object x) is)

pub held_as_linked : LinkedBytesLoaded → LinkedFilesRead → ReachedStand → HeldAsLinked
held_as_linked loaded reads stand sources failing contents h sound is_library legal = agree_at loaded reads sources is_library sound stand failing contents h legal

-- ---- the run

pub runs_by_links : LinkedBytesLoaded → LinkedFilesRead → ReachedStand → PrefixIsLegal → HeldHistoriesAlike → HeldMergesAlike → RunsByLinks
runs_by_links loaded reads stand prefix histories merges sources failing scripts run sound is_library few is = record {
  legal = histories lib failing (fixed_bytes lib) (held sources) run.history agree is.legal;
  merge = merges lib failing (fixed_bytes lib) (held sources) run.history run.steady scripts few agree is.merge;
}
  where
    lib : Library
    lib = library_of sources

    agree : (before after : List Entry) → run.history ≡ before ++ after → AgreeAt lib (fixed_bytes lib) (held sources) (state_after lib failing before)
    agree before after at =
        agree_at loaded reads sources is_library sound stand failing (fixed_bytes lib) before (prefix lib failing (fixed_bytes lib) before after (subst (Legal lib failing (fixed_bytes lib)) at is.legal))
