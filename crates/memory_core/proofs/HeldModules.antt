-- What modules hold after the entry is what their pages hold at the bases of the residences that began.
use Rattle.std.specs.Prelude.{◌≡◌, ℕ, ◌*◌, ◌==◌, Bool, true, false, List, [], ◌∷◌, filter_map, length, map, AllPairs, slice_index, slice_index_or, take, if◌then◌else◌, refl}
use Rattle.std.specs.List.{range_with_len}
use Rattle.std.proofs.Common.{ap, sym, ◌∙◌, arith, subst}
use Rattle.std.proofs.lemmas.Bool.{eqb-true, eq-eqb}
use Rattle.std.proofs.lemmas.Map.Made.{IsDistinct-from_AllPairs}
use Rattle.lx_types.specs.Object.{pages_of}
use Rattle.lx_types.specs.Parts.{object_of, page_at}
use Rattle.lx_types.specs.declared.object.TheConstants.{PAGE_SIZE}
use Rattle.lx_model.specs.Laws.{OrderHasEachOnce}
use Rattle.lx_model.specs.Library.{module_of}
use Rattle.lx_model.specs.ModuleBytes as bytes
use Rattle.lx_model.specs.ModuleBytes.{fixed_page}
use Rattle.load_model.specs.declared.deeds.Fresh.{Fresh}
use Rattle.load_model.specs.declared.deeds.How.{How}
use Rattle.load_model.specs.declared.deeds.How.TheVariants.{Start, Load}
use Rattle.load_model.specs.Entering.{after_entering, joined, residence_from}
use Rattle.load_model.specs.Memory.{Bytes, bases_seen, page}
use Rattle.load_model.specs.Modules.{Library, fixed_bytes, is_library, is_invalid, name_of, objects_of, object_at, order_of}
use Rattle.load_model.specs.State.{Eager, Residence, residence_of, with_process}
use Rattle.memory_model.specs.declared.held.ModuleMemory.{ModuleMemory}
use Rattle.memory_model.specs.declared.held.ObjectMemory.{ObjectMemory}
use Rattle.memory_model.specs.declared.held.PageMemory.{PageMemory}
use Rattle.memory_model.specs.declared.held.PageMemory.TheVariants.{Invalid, Held}
use Rattle.memory_model.specs.Memory as memory
use Rattle.memory_model.specs.Memory.{IsMemory, bytes_in, page_memory, object_memory, module_memory, memory_after}
use Rattle.module_pages.specs.Placed.{PlacedModule}
use Rattle.memory_core.specs.Brought.{HasBrought, how_of, memory_of, standing}
use Rattle.memory_core.specs.Objects.{page_held, pages_held, object_held, objects_held}
use Rattle.memory_core.proofs.FirstEntry.{all_joined, fresh_loader}
use Rattle.memory_core.proofs.HeldBytes.{bytes_unwritten, few_in, front_of_page}
use Rattle.memory_core.proofs.Residences.{each_found, is_of, modules_of}

map_alike : {X Y : Type 0} (f g : X → Y) (xs : List X) → ((x : X) → f x ≡ g x) → map f xs ≡ map g xs
map_alike f g [] same = refl
map_alike {X} {Y} f g (x ∷ xs) same = ap (λ (y : Y). y ∷ map f xs) (same x) ∙ ap (λ (ys : List Y). g x ∷ ys) (map_alike f g xs same)

map_both : {X Y Z : Type 0} (g : Y → Z) (f : X → Y) (xs : List X) → map g (map f xs) ≡ map (λ x. g (f x)) xs
map_both g f [] = refl
map_both {X} {Y} {Z} g f (x ∷ xs) = ap (λ (zs : List Z). g (f x) ∷ zs) (map_both g f xs)

-- ---- a module

-- a module where it stands among these
abbrev pub placed : Library → List Fresh → Fresh → PlacedModule
placed lib fresh f = record { library = lib; «module» = f.«module»; bases = bases_seen lib (standing fresh) f.«module» }

page_is : (lib : Library) (fresh : List Fresh) (f : Fresh) (object p : ℕ) → page_memory lib (standing fresh) (residence_from f) object p ≡ page_held (placed lib fresh f) (page object p)
unfolding is_invalid object_at
page_is lib fresh f object p =
    let at = placed lib fresh f in
    let o = object_of (module_of lib f.«module») object in
    ap (λ (held : List ℕ). if bytes.is_invalid (page_at (module_of lib f.«module») (page object p)).kind then Invalid else Held held)
    (bytes_unwritten lib (standing fresh) (residence_from f) object (p * PAGE_SIZE) (bytes_in o p) refl refl
    ∙ sym (front_of_page lib f.«module» at.bases object p (bytes_in o p) (few_in o p)))

object_is : (lib : Library) (fresh : List Fresh) (f : Fresh) (number : ℕ) → object_memory lib (standing fresh) (residence_from f) number ≡ object_held (placed lib fresh f) f.bases number
unfolding object_at
object_is lib fresh f number =
    ap (λ (pages : List PageMemory). record (object_held (placed lib fresh f) f.bases number) { pages = pages })
    (map_alike (page_memory lib (standing fresh) (residence_from f) number) (λ p. page_held (placed lib fresh f) (page number p)) (range_with_len 0 (pages_of (object_of (module_of lib f.«module») number)))
    (page_is lib fresh f number))

pub module_is : (lib : Library) (fresh : List Fresh) (f : Fresh) → module_memory lib (standing fresh) (residence_from f) ≡ record { name = name_of lib f.«module»; objects = objects_held (placed lib fresh f) f.bases }
unfolding objects_of
module_is lib fresh f =
    ap (λ (objects : List ObjectMemory). record { name = name_of lib f.«module»; objects = objects })
    (map_alike (object_memory lib (standing fresh) (residence_from f)) (object_held (placed lib fresh f) f.bases) (range_with_len 1 (length (module_of lib f.«module»).objects)) (object_is lib fresh f))

-- ---- after the entry

abbrev after : Library → How → List Fresh → Eager
after lib how fresh = after_entering lib fresh_loader 1 how 0 fresh

own_writes : (lib : Library) (how : How) (fresh : List Fresh) → ((after lib how fresh).processes 1).writes ≡ []
unfolding after_entering with_process
own_writes lib Start fresh = refl
own_writes lib Load fresh = refl

bases_alike : (lib : Library) (how : How) (fresh : List Fresh) (m : ℕ) → bases_seen lib (after lib how fresh) m ≡ bases_seen lib (standing fresh) m
unfolding after_entering with_process bases_seen residence_of
bases_alike lib how fresh m = refl

page_alike : (lib : Library) (how : How) (fresh : List Fresh) (f : Fresh) (object p : ℕ) → page_memory lib (after lib how fresh) (residence_from f) object p ≡ page_memory lib (standing fresh) (residence_from f) object p
page_alike lib how fresh f object p =
    let at = p * PAGE_SIZE in
    let len = bytes_in (object_at lib f.«module» object) p in
    ap (λ (bytes : List ℕ). if is_invalid lib f.«module» (page object p) then Invalid else Held bytes)
    (bytes_unwritten lib (after lib how fresh) (residence_from f) object at len (own_writes lib how fresh) refl
    ∙ ap (λ bases. map (fixed_bytes lib f.«module» bases object) (range_with_len at len)) (bases_alike lib how fresh f.«module»)
    ∙ sym (bytes_unwritten lib (standing fresh) (residence_from f) object at len refl refl))

object_alike : (lib : Library) (how : How) (fresh : List Fresh) (f : Fresh) (object : ℕ) → object_memory lib (after lib how fresh) (residence_from f) object ≡ object_memory lib (standing fresh) (residence_from f) object
object_alike lib how fresh f object =
    ap (λ (pages : List PageMemory). record (object_memory lib (standing fresh) (residence_from f) object) { pages = pages })
    (map_alike (page_memory lib (after lib how fresh) (residence_from f) object) (page_memory lib (standing fresh) (residence_from f) object) (range_with_len 0 (pages_of (object_at lib f.«module» object))) (page_alike lib how fresh f object))

module_alike : (lib : Library) (how : How) (fresh : List Fresh) (f : Fresh) → module_memory lib (after lib how fresh) (residence_from f) ≡ module_memory lib (standing fresh) (residence_from f)
module_alike lib how fresh f =
    ap (λ (objects : List ObjectMemory). record { name = name_of lib f.«module»; objects = objects })
    (map_alike (object_memory lib (after lib how fresh) (residence_from f)) (object_memory lib (standing fresh) (residence_from f)) (range_with_len 1 (length (objects_of lib f.«module»))) (object_alike lib how fresh f))

attached_are : (lib : Library) (how : How) (fresh : List Fresh) → ((after lib how fresh).processes 1).attached ≡ order_of lib 0
unfolding after_entering with_process
attached_are lib Start fresh = all_joined lib
attached_are lib Load fresh = all_joined lib

residences_are : (lib : Library) (how : How) (fresh : List Fresh) → OrderHasEachOnce → modules_of fresh ≡ order_of lib 0
    → filter_map (residence_of (after lib how fresh)) ((after lib how fresh).processes 1).attached ≡ map residence_from fresh
unfolding after_entering with_process residence_of order_of
residences_are lib how fresh once of_order =
    let distinct = IsDistinct-from_AllPairs (λ a b. (eqb-true a b, eq-eqb a b)) (modules_of fresh) (subst (λ (ms : List ℕ). AllPairs (λ a b. a ≡ b → ⊥) ms) (sym of_order) (once lib 0)) in
    ap (filter_map (λ k. residence_of (after lib how fresh) k)) (attached_are lib how fresh ∙ sym of_order) ∙ each_found fresh distinct

-- ---- all

pub memory_is : (lib : Library) (fresh : List Fresh) → OrderHasEachOnce → HasBrought lib fresh → IsMemory lib (memory_of lib fresh)
memory_is lib fresh once brought = record { brought = brought.brought; is = sym same }
  where
    e : Eager
    e = after lib (how_of lib) fresh

    same : memory_after lib (memory.entered lib).0 ≡ memory_of lib fresh
    same =
        ap (memory_after lib) brought.state
        ∙ ap (map (module_memory lib e)) (residences_are lib (how_of lib) fresh once brought.«modules»)
        ∙ map_both (module_memory lib e) residence_from fresh
        ∙ map_alike (λ f. module_memory lib e (residence_from f)) (λ f. module_memory lib (standing fresh) (residence_from f)) fresh (module_alike lib (how_of lib) fresh)
