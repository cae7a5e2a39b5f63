-- A name that only an import library defines means an import pair of that library.
use Rattle.std.specs.Prelude.{◌≡◌, ◌≢◌, ℕ, ◌&&◌, ◌||◌, Bool, true, false, not, List, [], ◌∷◌, Option, Some, None, map, filter, bytes_eq, Contains, refl}
use Rattle.std.specs.List.{list_any, flat_map, enumerate_from}
use Rattle.std.proofs.Common.{ap, sym, ◌∙◌, subst, true≢false, inl, inr}
use Rattle.std.proofs.lemmas.Slice.Eq.{bytes_eq-Decides}
use Rattle.std.proofs.lemmas.Bool.{or_right, or_left}
use Rattle.image_model.proofs.RecordsFit.{passing}
use Rattle.obj_types.specs.declared.definition.DefFile.{DefFile}
use Rattle.obj_types.specs.declared.input.LinkInput.{LinkInput}
use Rattle.obj_types.specs.declared.object.ObjModule.{ObjModule}
use Rattle.obj_types.specs.declared.symbol.Exp.{Exp}
use Rattle.obj_types.specs.declared.symbol.Imp.{Imp}
use Rattle.obj_types.specs.declared.symbol.Pub.{Pub}
use Rattle.link_model.specs.declared.refusals.ComdatRefusal.{ComdatRefusal}
use Rattle.link_model.specs.declared.symbols.Pick.{Pick}
use Rattle.link_model.specs.Choosing.{wanted, defines, next_pick, modules_of}
use Rattle.link_model.specs.Link.{Link, link_of}
use Rattle.link_model.specs.Symbols.{Meaning, Imported, Definition, of_public, of_import, definitions_in, definitions, definition_of}
use Rattle.link_model.proofs.Members.{In, here, there, in_left, in_map, in_flat_map, in_contained, in_either, any_in, found, from_map, from_filter, from_flat_map, from_numbered, finds, found_as, in_at, all_in, each_in}
use Rattle.implib_model.specs.ImportModule.{import_meant, import_object}
use Rattle.implib_model.specs.Imports.{name_or, import_for, imports_in, objects_of}
use Rattle.layer_laws.specs.ImportLaws.{OnlyImported}
use Rattle.layer_laws.proofs.ImportsDefined.{Gives, wanted-is-defined, chosen-gives, placed}

-- The link of these modules, whatever clashes.
abbrev pub link_with : LinkInput → List Pick → Option ComdatRefusal → Link
link_with input picks clash = record (link_of input picks) { clash = clash }

-- ---- the definition of the name

same_name : (a b : List ℕ) → a ≡ b → bytes_eq a b ≡ true
same_name a b e = (bytes_eq-Decides a b).1 e

-- A definition of a module shows that the module defines its name.
shows : (n : ℕ) (m : ObjModule) (d : Definition) → In d (definitions_in n m) → defines m d.name ≡ true
shows n m d i = elim (in_either (map (of_public n) (filter (λ p. not p.local) m.pubs)) (map (of_import n) m.imports) i) as (λ s. defines m d.name ≡ true) [
  | inl j ↦
      let r = from_map (of_public n) (filter (λ p. not p.local) m.pubs) j in
      let named : r.item.name ≡ d.name = ap (λ (x : Definition). x.name) r.is in
      or_left (list_any (λ p. not p.local && bytes_eq p.name d.name) m.pubs) (list_any (λ i. bytes_eq i.name d.name) m.imports)
      (any_in (λ (p : Pub). not p.local && bytes_eq p.name d.name) (from_filter (λ p. not p.local) m.pubs r.inside) (both (not r.item.local) (bytes_eq r.item.name d.name) (each_in (λ (p : Pub). not p.local ≡ true) (filter (λ p. not p.local) m.pubs) (passing (λ p. not p.local) m.pubs) r.inside) (same_name r.item.name d.name named)))
  | inr j ↦
      let r = from_map (of_import n) m.imports j in
      let named : r.item.name ≡ d.name = ap (λ (x : Definition). x.name) r.is in
      or_right (list_any (λ p. not p.local && bytes_eq p.name d.name) m.pubs) (list_any (λ i. bytes_eq i.name d.name) m.imports)
      (any_in (λ (i : Imp). bytes_eq i.name d.name) r.inside (same_name r.item.name d.name named))
]
  where
    both : (a b : Bool) → a ≡ true → b ≡ true → (a && b) ≡ true
    both true b e f = f
    both false b e f = absurd (true≢false (sym e))

-- A name's definition is the import of an export of that name.
pub record Defined (d : DefFile) (stem name : List ℕ) (meaning : Meaning) : Type 0 where
  pub export : Exp
  pub exported : In export d.exports
  pub named : export.name ≡ name
  pub is : meaning ≡ Imported (import_meant (import_for (name_or d.name stem) export))

one_import : (n : ℕ) (i : Imp) (d : Definition) → In d (definitions_in n (import_object i)) → d.meaning ≡ Imported (import_meant i)
one_import n i d here = refl
one_import n i d (there j) = elim j [ ]

by_module : (d : DefFile) (stem name : List ℕ) (n : ℕ) (m : ObjModule) (df : Definition) → Gives d stem name m → In df (definitions_in n m) → Defined d stem name df.meaning
by_module d stem name n m df gives i =
    record {
      export = gives.export;
      exported = gives.exported;
      named = gives.named;
      is = one_import n (import_for (name_or d.name stem) gives.export) df (subst (λ (o : ObjModule). In df (definitions_in n o)) (sym gives.is) i);
    }

numbered_inside : {X : Type 0} (xs : List X) {q : ℕ × X} → In q (enumerate_from 1 xs) → In q.1 xs
numbered_inside xs {q} i = let r = from_numbered 1 xs i in in_at xs r.place q.1 r.is

each_definition : (input : LinkInput) (picks : List Pick) (clash : Option ComdatRefusal) (d : DefFile) (stem name : List ℕ) → OnlyImported input d stem name → (df : Definition) → In df (definitions (link_with input picks clash)) → df.name ≡ name → Defined d stem name df.meaning
each_definition input picks clash d stem name only df i same =
    elim (in_either (flat_map (λ q. definitions_in q.0 q.1) (enumerate_from 1 (modules_of input picks))) (map (of_import 0) input.def.imports) i) as (λ s. Defined d stem name df.meaning) [
      | inl j ↦
          let r = from_flat_map (λ (q : ℕ × ObjModule). definitions_in q.0 q.1) (enumerate_from 1 (modules_of input picks)) j in
          let inside = numbered_inside (modules_of input picks) r.inside in
          by_module d stem name r.item.0 r.item.1 df (chosen-gives input picks d stem name only r.item.1 inside (ap (defines r.item.1) (sym same) ∙ shows r.item.0 r.item.1 df r.gives)) r.gives
      | inr j ↦
          let r = from_map (of_import 0) input.def.imports j in
          absurd (all_in (λ (i : Imp). i.name ≢ name) input.def.imports only.items r.inside (ap (λ (x : Definition). x.name) r.is ∙ same))
    ]

-- ---- there is one

first_true : (a b : Bool) → (a || b) ≡ true → b ≡ false → a ≡ true
first_true true b e none = refl
first_true false b e none = absurd (true≢false (sym e ∙ none))

no_items : (is : List Imp) (name : List ℕ) → ((i : Imp) → In i is → i.name ≢ name) → list_any (λ i. bytes_eq i.name name) is ≡ false
no_items [] name none = refl
no_items (i ∷ is) name none = by (bytes_eq i.name name) refl (no_items is name (λ j k. none j (there k)))
  where
    by : (b : Bool) → bytes_eq i.name name ≡ b → list_any (λ i. bytes_eq i.name name) is ≡ false → list_any (λ i. bytes_eq i.name name) (i ∷ is) ≡ false
    by true e rest = absurd (none i here ((bytes_eq-Decides i.name name).0 e))
    by false e rest = ap (λ (b : Bool). b || list_any (λ i. bytes_eq i.name name) is) e ∙ rest

pub record Definer (l : Link) (d : DefFile) (stem name : List ℕ) : Type 0 where
  pub definition : Definition
  pub is : definition_of l name ≡ Some definition
  pub of : Defined d stem name definition.meaning

gives_definition : (input : LinkInput) (picks : List Pick) (clash : Option ComdatRefusal) (d : DefFile) (stem name : List ℕ) (m : ObjModule) → In m (modules_of input picks) → Gives d stem name m → list_any (λ d. bytes_eq d.name name) (definitions (link_with input picks clash)) ≡ true
gives_definition input picks clash d stem name m i gives =
    let modules = modules_of input picks in
    let p = placed 1 modules i in
    let x = import_meant (import_for (name_or d.name stem) gives.export) in
    let own : In (of_import p.number x) (definitions_in p.number m) = subst (λ (o : ObjModule). In (of_import p.number x) (definitions_in p.number o)) gives.is here in
    let inside = in_left (map (of_import 0) input.def.imports) (in_flat_map (λ (q : ℕ × ObjModule). definitions_in q.0 q.1) p.inside own) in
    any_in (λ (d : Definition). bytes_eq d.name name) inside (same_name gives.export.name name gives.named)

definer_by : (input : LinkInput) (picks : List Pick) (clash : Option ComdatRefusal) (d : DefFile) (stem name : List ℕ) → OnlyImported input d stem name → list_any (λ d. bytes_eq d.name name) (definitions (link_with input picks clash)) ≡ true → Definer (link_with input picks clash) d stem name
unfolding definition_of
definer_by input picks clash d stem name only any =
    let l = link_with input picks clash in
    let f = finds (λ (d : Definition). bytes_eq d.name name) (definitions l) any in
    let shown = found_as (λ (d : Definition). bytes_eq d.name name) (definitions l) f.item f.is in
    record { definition = f.item; is = f.is; of = each_definition input picks clash d stem name only f.item shown.inside ((bytes_eq-Decides f.item.name name).0 shown.passes) }

-- A name that the chosen modules want has a definition: that of the import library.
pub name-defined : (input : LinkInput) (picks : List Pick) (clash : Option ComdatRefusal) → next_pick input picks ≡ None → (d : DefFile) (stem : List ℕ) (x : Exp) → In x d.exports → OnlyImported input d stem x.name → In x.name (flat_map wanted (modules_of input picks)) → Definer (link_with input picks clash) d stem x.name
name-defined input picks clash ends d stem x i only asked =
    let item = import_for (name_or d.name stem) x in
    let listed : In (import_object item) (objects_of (imports_in d stem)) = in_map import_object (in_map (import_for (name_or d.name stem)) i) in
    let inside = in_contained input.libs (import_object item) (all_in (Contains input.libs) (objects_of (imports_in d stem)) only.there listed) in
    let own : defines (import_object item) x.name ≡ true = or_left (bytes_eq x.name x.name) false (same_name x.name x.name refl) in
    let all = wanted-is-defined input picks ends (import_object item) x.name inside own asked in
    let none = no_items input.def.imports x.name (λ j k. all_in (λ (i : Imp). i.name ≢ x.name) input.def.imports only.items k) in
    let some = first_true (list_any (λ m. defines m x.name) (modules_of input picks)) (list_any (λ i. bytes_eq i.name x.name) input.def.imports) all none in
    let f = found (λ (m : ObjModule). defines m x.name) (modules_of input picks) some in
    definer_by input picks clash d stem x.name only (gives_definition input picks clash d stem x.name f.item f.inside (chosen-gives input picks d stem x.name only f.item f.inside f.passes))
