-- The import modules and procedure names of a link's records stand in the tables of its file.
use Rattle.std.specs.Prelude.{◌≡◌, ℕ, ◌+◌, ◌-◌, Bool, not, List, [], ◌∷◌, ◌++◌, Some, map, filter, slice_get, bytes_eq, refl}
use Rattle.std.specs.List.{filter_map, position}
use Rattle.std.specs.Option.{option_and_then}
use Rattle.std.proofs.Common.{ap, ◌∙◌, arith}
use Rattle.std.proofs.lemmas.List.{map-append}
use Rattle.std.proofs.lemmas.List.Elements.{filter-append, filter_map-append}
use Rattle.link_model.proofs.Members.{at_left}
use Rattle.lx_types.specs.Names.{uppercase}
use Rattle.lx_types.specs.declared.parts.Parts.{Parts}
use Rattle.obj_types.specs.declared.symbol.Imp.{Imp}
use Rattle.link_model.specs.Appearance.{firsts}
use Rattle.link_model.specs.Exports.{Out}
use Rattle.link_model.specs.Link.{Link}
use Rattle.link_model.specs.ImportTables.{used_pairs, forwarded, link_pairs, proc_name, modules_in, procs_in, name_offset}
use Rattle.lx_types.specs.Parts.{proc_name_of}
use Rattle.lx_model.specs.Library.{module_of, library_named, import_of}
use Rattle.image_model.specs.Linked.{image_of}
use Rattle.image_model.specs.ReadBack.{parts_of_image}
use Rattle.layer_laws.proofs.LoadedPages.{Loaded}
use Rattle.layer_laws.proofs.ForwardersNamed.{item_at_place, proc_in_parts}

-- ---- a table by first appearance of more items begins with that of fewer

record Begins {X : Type 0} (xs ys : List X) : Type 0 where
  others : List X
  is : ys ≡ xs ++ others

more_items : {X : Type 0} (same : X → X → Bool) (xs ys : List X) → Begins (firsts same xs) (firsts same (xs ++ ys))
more_items same [] ys = record { others = firsts same ys; is = refl }
more_items {X} same (x ∷ xs) ys =
    let r = more_items same xs ys in
    let keep : X → Bool = λ y. not (same x y) in
    record {
      others = filter keep r.others;
      is = ap (λ (zs : List X). x ∷ filter keep zs) r.is ∙ ap (λ (zs : List X). x ∷ zs) (filter-append keep (firsts same xs) r.others);
    }

-- An item keeps its place.
item_stays : (xs ys : List (List ℕ)) (k : ℕ) (x : List ℕ) → slice_get (firsts bytes_eq xs) k ≡ Some x → slice_get (firsts bytes_eq (xs ++ ys)) k ≡ Some x
item_stays xs ys k x e =
    let r = more_items bytes_eq xs ys in
    ap (λ (zs : List (List ℕ)). slice_get zs k) r.is ∙ at_left (firsts bytes_eq xs) r.others k x e

-- ---- modules

modules_grow : (l : Link) (k : ℕ) (name : List ℕ) → slice_get (modules_in (used_pairs l)) k ≡ Some name → slice_get (modules_in (link_pairs l)) k ≡ Some name
unfolding link_pairs
modules_grow l k name e =
    let more = filter_map (λ x. forwarded x.target) (Out l) in
    ap (λ (ns : List (List ℕ)). slice_get (firsts bytes_eq ns) k) (map-append (λ (p : Imp). uppercase p.module) (used_pairs l) more) ∙ item_stays (map (λ p. uppercase p.module) (used_pairs l)) (map (λ p. uppercase p.module) more) k name e

procs_grow : (l : Link) (k : ℕ) (name : List ℕ) → slice_get (procs_in (used_pairs l)) k ≡ Some name → slice_get (procs_in (link_pairs l)) k ≡ Some name
unfolding link_pairs
procs_grow l k name e =
    let more = filter_map (λ x. forwarded x.target) (Out l) in
    ap (λ (ns : List (List ℕ)). slice_get (firsts bytes_eq ns) k) (filter_map-append (λ (p : Imp). proc_name p.entry) (used_pairs l) more)
    ∙ item_stays (filter_map (λ p. proc_name p.entry) (used_pairs l)) (filter_map (λ p. proc_name p.entry) more) k name e

imports_are : (l : Link) → (parts_of_image (image_of l)).imports ≡ modules_in (link_pairs l)
unfolding parts_of_image image_of
imports_are l = refl

-- The library of an import module of a record is that of its name.
pub import-named : (l : Link) (lib : List Parts) (m : ℕ) → Loaded l lib m → (name : List ℕ) (k : ℕ) → position (λ n. bytes_eq name n) (modules_in (used_pairs l)) ≡ Some k → import_of lib m (k + 1) ≡ library_named lib name
import-named l lib m loaded name k e =
    let at : slice_get (modules_in (link_pairs l)) k ≡ Some name = modules_grow l k name (item_at_place (modules_in (used_pairs l)) name k e) in
    let place : k + 1 - 1 ≡ k = omega arith in
    ap (λ (ns : List (List ℕ)). option_and_then (library_named lib) (slice_get ns (k + 1 - 1))) (ap (λ (p : Parts). p.imports) loaded.is ∙ imports_are l)
    ∙ ap (λ (n : ℕ). option_and_then (library_named lib) (slice_get (modules_in (link_pairs l)) n)) place ∙ ap (option_and_then (library_named lib)) at

-- ---- procedure names

-- At its offset in the file's table stands the name of a record.
pub proc-named : (l : Link) (lib : List Parts) (m : ℕ) → Loaded l lib m → (name : List ℕ) (k : ℕ) → position (λ n. bytes_eq name n) (procs_in (used_pairs l)) ≡ Some k → proc_name_of (module_of lib m) (name_offset (procs_in (link_pairs l)) k) ≡ Some name
proc-named l lib m loaded name k e =
    ap (λ (p : Parts). proc_name_of p (name_offset (procs_in (link_pairs l)) k)) loaded.is ∙ proc_in_parts l k name (procs_grow l k name (item_at_place (procs_in (used_pairs l)) name k e))
