-- The pair of an export leads where the export leads, in every library that holds its module.
use Rattle.std.specs.Prelude.{◌≡◌, ℕ, suc, ◌+◌, ◌<◌, List, [], ◌∷◌, Option, Some, None, length, map, Contains, refl}
use Rattle.std.specs.List.{zip, enumerate_from, flat_map}
use Rattle.std.proofs.Common.{ap, sym, ◌∙◌, arith, subst}
use Rattle.lx_types.specs.declared.entry.EntryKey.TheVariants as entry_keys
use Rattle.lx_types.specs.declared.parts.Parts.{Parts}
use Rattle.obj_types.specs.declared.definition.DefFile.{DefFile}
use Rattle.obj_types.specs.declared.definition.ModKind.TheVariants.{Library}
use Rattle.obj_types.specs.declared.symbol.Exp.{Exp}
use Rattle.obj_types.specs.declared.symbol.Imp.{Imp}
use Rattle.obj_types.specs.declared.object.ObjModule.{ObjModule}
use Rattle.link_model.specs.Kept.{Kept}
use Rattle.link_model.specs.Link.{Link, exports}
use Rattle.link_model.specs.Exports.{Export, Out, ordinal_at, ordinals, asked_ordinals}
use Rattle.link_model.proofs.Members.{In, here, there, in_right, in_contained}
use Rattle.link_model.proofs.ExportsStay.{exports_stay}
use Rattle.lx_model.specs.Entries.{EntryOf}
use Rattle.image_model.proofs.PartsRead.{parts_read}
use Rattle.image_model.specs.Linked.{image_of}
use Rattle.lx_model.specs.Gathering.{IsLibrary}
use Rattle.lx_model.specs.Library.{library_named}
use Rattle.image_model.specs.World.{entry_in}
use Rattle.implib_model.specs.Imports.{key_of}
use Rattle.layer_laws.specs.EntryLaws.{leads_to, AreEntries}
use Rattle.layer_laws.specs.ImportLaws.{IsPairOf, PairsReach}
use Rattle.layer_laws.proofs.EntriesAreOut.{entries-are-out}
use Rattle.layer_laws.proofs.Given.{Given, given}
use Rattle.layer_laws.proofs.ImagesFit.{images_fit}
use Rattle.layer_laws.proofs.LoadedPages.{Loaded}
use Rattle.layer_laws.proofs.ModuleHeld.{module-held}
use Rattle.layer_laws.proofs.OutApart.{one-of-name}

-- ---- the ordinal of an export that gives one

-- An export of the link has the name of this one, and its ordinal where it gives one.
record OutOf (l : Link) (x : Exp) : Type 0 where
  out : Export
  inside : In out (Out l)
  name : out.name ≡ x.name
  ordinal : (n : ℕ) → x.ordinal ≡ Some n → out.ordinal ≡ n

-- Lists one item of which goes with one of the other.
record Together (os : List ℕ) (xs : List Exp) (outs : List Export) (x : Exp) : Type 0 where
  out : Export
  number : ℕ
  inside : In out outs
  name : out.name ≡ x.name
  ordinal : out.ordinal ≡ number
  of : In (number, x) (zip os xs)

together : (os : List ℕ) (xs : List Exp) (outs : List Export) {x : Exp} → map (λ (o : Export). o.name) outs ≡ map (λ (x : Exp). x.name) xs → map (λ (o : Export). o.ordinal) outs ≡ os → In x xs → Together os xs outs x
together os [] outs names numbers i = elim i [ ]
together os (x ∷ xs) [] names numbers i = absurd (none_some (ap length names))
  where
    none_some : 0 ≡ suc (length (map (λ (x : Exp). x.name) xs)) → ⊥
    none_some e = omega (arith, e)
together [] (x ∷ xs) (o ∷ outs) names numbers i = absurd (some_none (ap length numbers))
  where
    some_none : suc (length (map (λ (o : Export). o.ordinal) outs)) ≡ 0 → ⊥
    some_none e = omega (arith, e)
together (n ∷ os) (x ∷ xs) (o ∷ outs) names numbers here =
    record {
      out = o;
      number = n;
      inside = here;
      name = ap (λ (ns : List (List ℕ)). first_name ns) names;
      ordinal = ap (λ (ns : List ℕ). first_number ns) numbers;
      of = here;
    }
  where
    first_name : List (List ℕ) → List ℕ
    first_name [] = []
    first_name (n ∷ ns) = n

    first_number : List ℕ → ℕ
    first_number [] = 0
    first_number (n ∷ ns) = n
together (n ∷ os) (x ∷ xs) (o ∷ outs) names numbers (there i) =
    let r = together os xs outs (ap (λ (ns : List (List ℕ)). other_names ns) names) (ap (λ (ns : List ℕ). other_numbers ns) numbers) i in
    record { out = r.out; number = r.number; inside = there r.inside; name = r.name; ordinal = r.ordinal; of = there r.of }
  where
    other_names : List (List ℕ) → List (List ℕ)
    other_names [] = []
    other_names (n ∷ ns) = ns

    other_numbers : List ℕ → List ℕ
    other_numbers [] = []
    other_numbers (n ∷ ns) = ns

-- An export that gives an ordinal has it.
own_ordinal : (os : List (Option ℕ)) (k : ℕ) (xs : List Exp) (x : Exp) (n m : ℕ) → x.ordinal ≡ Some n → In (m, x) (zip (map (λ q. ordinal_at os q.0 q.1) (enumerate_from k (map (λ (x : Exp). x.ordinal) xs))) xs) → m ≡ n
own_ordinal os k [] x n m e i = elim i [ ]
own_ordinal os k (y ∷ xs) x n m e here = ap (ordinal_at os k) e
own_ordinal os k (y ∷ xs) x n m e (there i) = own_ordinal os (k + 1) xs x n m e i

out_of : (l : Link) → Given l → (x : Exp) → In x (exports l) → OutOf l x
out_of l g x i =
    let stay = exports_stay l g.whole g.sym_none in
    let r = together (ordinals (asked_ordinals l)) (exports l) (Out l) stay.names stay.ordinals i in
    record { out = r.out; inside = r.inside; name = r.name; ordinal = λ n e. r.ordinal ∙ own_ordinal (asked_ordinals l) 0 (exports l) x n r.number e r.of }

-- ---- the entry of the key

key_entry : (l : Link) (lib : List Parts) (m : ℕ) → Given l → AreEntries l lib m → (x : Exp) (out : Export) → In x (exports l) → In out (Out l) → Contains (Out l) out → out.name ≡ x.name → (o : Option ℕ) → x.ordinal ≡ o → EntryOf lib m (key_of x.name o) ≡ leads_to lib m out.target
key_entry l lib m g are x out i j held same None e = ap (λ (name : List ℕ). EntryOf lib m (entry_keys.Named name)) (sym same) ∙ are.by_name out held
key_entry l lib m g are x out i j held same (Some n) e =
    let r = out_of l g x i in
    let one : r.out ≡ out = one-of-name l g r.out out r.inside j (r.name ∙ sym same) in
    let number : out.ordinal ≡ n = sym (ap (λ (o : Export). o.ordinal) one) ∙ r.ordinal n e in
    ap (λ (k : ℕ). EntryOf lib m (entry_keys.Ordinal k)) (sym number) ∙ are.by_ordinal out held

pub pair-entry : (l : Link) (lib : List Parts) (m : ℕ) → Given l → AreEntries l lib m → (x : Exp) (out : Export) → In x l.def.exports → Contains (Out l) out → out.name ≡ x.name → EntryOf lib m (key_of x.name x.ordinal) ≡ leads_to lib m out.target
pair-entry l lib m g are x out i held same =
    key_entry l lib m g are x out (in_right (flat_map (λ (m : ObjModule). m.exports) l.modules) i) (in_contained (Out l) out held) held same x.ordinal refl

-- ---- in a library

by_pair : (l : Link) (lib : List Parts) (m : ℕ) → Loaded l lib m → l.def.kind ≡ Library → IsLibrary lib → m < length lib → (x : Exp) (pair : Imp) → In x l.def.exports → IsPairOf l.def l.stem x pair → (out : Export) → Contains (Out l) out → out.name ≡ x.name
    → entry_in lib (library_named lib pair.module) pair.entry ≡ leads_to lib m out.target
by_pair l lib m loaded kind is lt x pair i of out held same =
    ap (λ (o : Option ℕ). entry_in lib o pair.entry) (module-held l lib m loaded kind is lt pair.module of.module)
    ∙ ap (EntryOf lib m) of.entry
    ∙ pair-entry l lib m loaded.known (entries-are-out l lib m loaded) x out i held same

pub pairs_reach : PairsReach
unfolding Kept
pairs_reach input l links short kind lib m is lt holds x pair i of out held same =
    let fits = images_fit input l links short in
    let loaded : Loaded l lib m = record { known = given input l links; fits = fits; is = holds ∙ parts_read (image_of l) fits } in
    let def : input.def ≡ l.def = ap (λ (k : Link). k.def) (sym links.of_input.same) in
    let stem : input.stem ≡ l.stem = ap (λ (k : Link). k.stem) (sym links.of_input.same) in
    by_pair l lib m loaded (ap (λ (d : DefFile). d.kind) (sym def) ∙ kind) is lt x pair
    (subst (λ (d : DefFile). In x d.exports) def (in_contained input.def.exports x i))
    (subst (λ (s : List ℕ). IsPairOf l.def s x pair) stem (subst (λ (d : DefFile). IsPairOf d input.stem x pair) def of))
    out held same
