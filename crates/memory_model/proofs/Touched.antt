-- Touches change nothing of what objects hold.
use Rattle.std.specs.Prelude.{◌≡◌, ℕ, ◌*◌, List, [], ◌∷◌, Some, map, length, if◌then◌else◌, refl}
use Rattle.std.specs.List.{range_with_len}
use Rattle.std.proofs.Common.{ap, ◌∙◌}
use Rattle.lx_types.specs.Object.{pages_of}
use Rattle.lx_types.specs.declared.object.TheConstants.{PAGE_SIZE}
use Rattle.load_model.specs.Accepted.{retouched}
use Rattle.load_model.specs.Memory.{page}
use Rattle.load_model.specs.Modules.{Library, name_of, objects_of, object_at, is_invalid, fixed_bytes}
use Rattle.load_model.specs.State.{Eager, PageOf, Residence, residence_of}
use Rattle.load_model.proofs.Retouched.{bytes_same}
use Rattle.memory_model.specs.declared.held.PageMemory.{PageMemory}
use Rattle.memory_model.specs.declared.held.PageMemory.TheVariants.{Invalid, Held}
use Rattle.memory_model.specs.declared.held.ObjectMemory.{ObjectMemory}
use Rattle.memory_model.specs.Memory.{bytes_in, page_memory, object_memory, module_memory, memory_after}

map_alike : {X Y : Type 0} (f g : X → Y) (xs : List X) → ((x : X) → f x ≡ g x) → map f xs ≡ map g xs
map_alike f g [] same = refl
map_alike {X} {Y} f g (x ∷ xs) same = ap (λ (y : Y). y ∷ map f xs) (same x) ∙ ap (λ (ys : List Y). g x ∷ ys) (map_alike f g xs same)

page_alike : (lib : Library) (e : Eager) (touched : ℕ → List PageOf) (r : Residence) (object p : ℕ) → page_memory lib (retouched touched e) r object p ≡ page_memory lib e r object p
page_alike lib e touched r object p =
    ap (λ (bytes : List ℕ). if is_invalid lib r.«module» (page object p) then Invalid else Held bytes)
    (bytes_same lib (fixed_bytes lib) e touched 1 object (p * PAGE_SIZE) (bytes_in (object_at lib r.«module» object) p) (Some r))

object_alike : (lib : Library) (e : Eager) (touched : ℕ → List PageOf) (r : Residence) (object : ℕ) → object_memory lib (retouched touched e) r object ≡ object_memory lib e r object
object_alike lib e touched r object =
    ap (λ (pages : List PageMemory). record (object_memory lib e r object) { pages = pages })
    (map_alike (page_memory lib (retouched touched e) r object) (page_memory lib e r object) (range_with_len 0 (pages_of (object_at lib r.«module» object))) (page_alike lib e touched r object))

module_alike : (lib : Library) (e : Eager) (touched : ℕ → List PageOf) (r : Residence) → module_memory lib (retouched touched e) r ≡ module_memory lib e r
module_alike lib e touched r =
    ap (λ (objects : List ObjectMemory). record { name = name_of lib r.«module»; objects = objects })
    (map_alike (object_memory lib (retouched touched e) r) (object_memory lib e r) (range_with_len 1 (length (objects_of lib r.«module»))) (object_alike lib e touched r))

pub memory_alike : (lib : Library) (e : Eager) (touched : ℕ → List PageOf) → memory_after lib (retouched touched e) ≡ memory_after lib e
unfolding residence_of
memory_alike lib e touched = map_alike (module_memory lib (retouched touched e)) (module_memory lib e) _ (module_alike lib e touched)
