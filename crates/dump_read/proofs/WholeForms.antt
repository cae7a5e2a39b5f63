-- A whole dump, as it is read.
use Rattle.std.proofs.Common.{◌≡◌, ℕ, ◌+◌, true, false, List, [], ◌∷◌, ◌++◌, refl, sym, subst, ap, ◌∙◌, append_assoc, append-nil}
use Rattle.std.specs.Prelude.{codes}
use Rattle.std.specs.List.{AllByRecursion, flat_map}
use Rattle.lx_types.specs.declared.entry.EntryHead.{EntryHead}
use Rattle.dump_model.specs.declared.listing.ListedObject.{ListedObject}
use Rattle.dump_model.specs.declared.listing.Listing.{Listing}
use Rattle.dump_model.specs.Bounds.{IsObject, IsListedName, IsEntry, IsNamed, IsListing}
use Rattle.dump_model.specs.Lines.{module_line, entry_line, name_line, end_line}
use Rattle.dump_model.specs.Dumps.{object_lines, numbered_import_line, Dump}
use Rattle.dump_read.specs.declared.head.ModuleHead.{ModuleHead}
use Rattle.dump_read.specs.Taken.{IsPiece, AllApart, State, Reads, shut, Takes}
use Rattle.dump_read.specs.Settled.{is_among}
use Rattle.dump_read.specs.Sequences.{list_text, AllIn}
use Rattle.dump_read.specs.Parts.{IsModuleHead, module_head_line}
use Rattle.dump_read.specs.Lists.{numbered_entry, numbered_name, object_opens, objects_open, imports_open, entries_open, names_open}
use Rattle.dump_read.proofs.Forms.{IsCode, IsView, code-piece, code-pair, code-as, read-pair, read-as}
use Rattle.dump_read.proofs.Lists.{star-form}
use Rattle.dump_read.proofs.Runs.{code-list, list-reads, other-apart, opens-among}
use Rattle.dump_read.proofs.Steps.{piece-test}
use Rattle.dump_read.proofs.EntryForms.{import-front, entry-front, name-front}
use Rattle.dump_read.proofs.HeadForms.{code-module, module-front}
use Rattle.dump_read.proofs.Elements.{import-element, entry-element, name-element, object-element, objects-known, flat-list}

abbrev pub end_text : List ℕ
end_text = codes "end" ++ 0x0A ∷ []

-- ---- what begins with other pieces

-- the text begins with a piece that is none of these
abbrev BeginsOther : List (List ℕ) → List ℕ → Type 0
BeginsOther known bytes = (piece : List ℕ) × (rest : List ℕ) × IsPiece piece × (is_among piece known ≡ false) × (bytes ≡ piece ++ rest)

apart-of : (known pieces : List (List ℕ)) (bytes s : List ℕ) → AllByRecursion IsPiece pieces → AllByRecursion (λ v. is_among v known ≡ true) pieces
    → BeginsOther known bytes → AllApart pieces (bytes ++ s)
apart-of known pieces bytes s ps all b =
    subst (AllApart pieces) (sym (ap (λ x. x ++ s) b.4 ∙ append_assoc b.0 b.1 s)) (other-apart known pieces b.0 (b.1 ++ s) ps all b.2 b.3)

module _ {X : Type 0} (text : ℕ × X → List ℕ) (first : List ℕ) (fronts : (k : ℕ) (x : X) → (rest : List ℕ) × (text (k, x) ≡ first ++ rest)) where
  -- a list and what is after it
  begins-list : (known : List (List ℕ)) (k : ℕ) (xs : List X) (bytes : List ℕ) → IsPiece first → is_among first known ≡ false → BeginsOther known bytes
      → BeginsOther known (list_text text k xs ++ bytes)
  begins-list known k [] bytes p other b = b
  begins-list known k (x ∷ xs) bytes p other b =
      let front = fronts k x in
      (first, (front.0 ++ list_text text (k + 1) xs) ++ bytes, p, other, ap (λ y. (y ++ list_text text (k + 1) xs) ++ bytes) front.1 ∙ regroup first front.0 (list_text text (k + 1) xs) bytes)
    where
      regroup : (a b c d : List ℕ) → ((a ++ b) ++ c) ++ d ≡ a ++ ((b ++ c) ++ d)
      regroup a b c d = simp append_assoc

end-piece : IsPiece end_text
end-piece = piece-test end_text refl

begins-end : (known : List (List ℕ)) → is_among end_text known ≡ false → BeginsOther known end_text
begins-end known other = (end_text, [], end-piece, other, sym (append-nil end_text))

-- ---- from the end on

abbrev W4 : Type 0
W4 = List (List ℕ × ℕ) × Unit {0}

abbrev W3 : Type 0
W3 = List (ℕ × EntryHead) × W4

abbrev W2 : Type 0
W2 = List (List ℕ) × W3

abbrev W1 : Type 0
W1 = List ListedObject × W2

abbrev W0 : Type 0
W0 = ModuleHead × W1

abbrev text5 : Unit {0} → List ℕ
text5 u = end_text

abbrev text4 : W4 → List ℕ
text4 p = list_text numbered_name 1 p.0 ++ text5 p.1

abbrev text3 : W3 → List ℕ
text3 p = list_text numbered_entry 1 p.0 ++ text4 p.1

abbrev text2 : W2 → List ℕ
text2 p = list_text numbered_import_line 1 p.0 ++ text3 p.1

abbrev text1 : W1 → List ℕ
text1 p = list_text object_lines 1 p.0 ++ text2 p.1

abbrev text0 : W0 → List ℕ
text0 p = module_head_line p.0 ++ text1 p.1

abbrev In5 : Unit {0} → Type 0
In5 u = Unit {0}

abbrev In4 : W4 → Type 0
In4 p = AllIn IsNamed p.0 × Unit {0}

abbrev In3 : W3 → Type 0
In3 p = AllIn IsEntry p.0 × In4 p.1

abbrev In2 : W2 → Type 0
In2 p = AllIn IsListedName p.0 × In3 p.1

abbrev In1 : W1 → Type 0
In1 p = AllIn IsObject p.0 × In2 p.1

abbrev In0 : W0 → Type 0
In0 p = IsModuleHead p.0 × In1 p.1

begins4 : (known : List (List ℕ)) → is_among end_text known ≡ false → is_among (codes "name ") known ≡ false → (p : W4) → BeginsOther known (text4 p)
begins4 known e n p =
    begins-list numbered_name (codes "name ") (λ _ x. name-front x) known 1 p.0 end_text name-element.piece n (begins-end known e)

begins3 : (known : List (List ℕ)) → is_among end_text known ≡ false → is_among (codes "name ") known ≡ false → is_among (codes "entry ") known ≡ false
    → (p : W3) → BeginsOther known (text3 p)
begins3 known e n t p =
    begins-list numbered_entry (codes "entry ") (λ _ x. entry-front x) known 1 p.0 (text4 p.1) entry-element.piece t (begins4 known e n p.1)

begins2 : (known : List (List ℕ)) → is_among end_text known ≡ false → is_among (codes "name ") known ≡ false → is_among (codes "entry ") known ≡ false
    → is_among (codes "import ") known ≡ false → (p : W2) → BeginsOther known (text2 p)
begins2 known e n t i p =
    begins-list numbered_import_line (codes "import ") import-front known 1 p.0 (text3 p.1) import-element.piece i (begins3 known e n t p.1)

code5 : IsCode text5 In5
code5 = code-piece end_text refl

apart4 : (xs : List (List ℕ × ℕ)) (u : Unit {0}) (s : List ℕ) → AllIn IsNamed xs → In5 u → AllApart (names_open xs) (text5 u ++ s)
apart4 xs u s hx hu =
    apart-of (codes "name " ∷ []) (names_open xs) end_text s ((star-form numbered_name IsNamed shut (codes "name ") name-element 1).pieces xs hx)
    (opens-among (codes "name " ∷ []) (codes "name " ∷ []) shut IsNamed (λ _ _. tt) (refl, tt) xs hx) (begins-end (codes "name " ∷ []) refl)

code4 : IsCode text4 In4
code4 = code-list numbered_name IsNamed shut (codes "name ") name-element text5 In5 code5 1 apart4

apart3 : (xs : List (ℕ × EntryHead)) (p : W4) (s : List ℕ) → AllIn IsEntry xs → In4 p → AllApart (entries_open xs) (text4 p ++ s)
apart3 xs p s hx hp =
    apart-of (codes "entry " ∷ []) (entries_open xs) (text4 p) s ((star-form numbered_entry IsEntry shut (codes "entry ") entry-element 1).pieces xs hx)
    (opens-among (codes "entry " ∷ []) (codes "entry " ∷ []) shut IsEntry (λ _ _. tt) (refl, tt) xs hx) (begins4 (codes "entry " ∷ []) refl refl p)

code3 : IsCode text3 In3
code3 = code-list numbered_entry IsEntry shut (codes "entry ") entry-element text4 In4 code4 1 apart3

apart2 : (xs : List (List ℕ)) (p : W3) (s : List ℕ) → AllIn IsListedName xs → In3 p → AllApart (imports_open xs) (text3 p ++ s)
apart2 xs p s hx hp =
    apart-of (codes "import " ∷ []) (imports_open xs) (text3 p) s ((star-form numbered_import_line IsListedName shut (codes "import ") import-element 1).pieces xs hx)
    (opens-among (codes "import " ∷ []) (codes "import " ∷ []) shut IsListedName (λ _ _. tt) (refl, tt) xs hx) (begins3 (codes "import " ∷ []) refl refl refl p)

code2 : IsCode text2 In2
code2 = code-list numbered_import_line IsListedName shut (codes "import ") import-element text3 In3 code3 1 apart2

apart1 : (xs : List ListedObject) (p : W2) (s : List ℕ) → AllIn IsObject xs → In2 p → AllApart (objects_open xs) (text2 p ++ s)
apart1 xs p s hx hp =
    apart-of (codes "fix " ∷ codes "object " ∷ []) (objects_open xs) (text2 p) s ((star-form object_lines IsObject object_opens (codes "object ") object-element 1).pieces xs hx)
    (opens-among (codes "fix " ∷ codes "object " ∷ []) (codes "object " ∷ []) object_opens IsObject objects-known (refl, tt) xs hx)
    (begins2 (codes "fix " ∷ codes "object " ∷ []) refl refl refl refl p)

code1 : IsCode text1 In1
code1 = code-list object_lines IsObject object_opens (codes "object ") object-element text2 In2 code2 1 apart1

code0 : IsCode text0 In0
code0 = code-pair module_head_line IsModuleHead text1 In1 code-module code1

abbrev listing_of : W0 → Listing
listing_of p = record {
  name = p.0.name;
  library = p.0.library;
  flags = p.0.flags;
  start = p.0.start;
  objects = p.1.0;
  imports = p.1.1.0;
  entries = p.1.1.1.0;
  names = p.1.1.1.1.0;
}

dump-text : (p : W0) → Dump (listing_of p) ≡ text0 p
unfolding Dump module_line
dump-text p =
    let l = listing_of p in
    ap (λ x. module_head_line p.0 ++ (list_text object_lines 1 l.objects ++ (list_text numbered_import_line 1 l.imports ++ (x ++ (flat_map name_line l.names ++ end_line)))))
    (flat-list entry_line 1 l.entries)
    ∙ ap (λ x. module_head_line p.0 ++ (list_text object_lines 1 l.objects ++ (list_text numbered_import_line 1 l.imports ++ (list_text numbered_entry 1 l.entries ++ (x ++ end_line)))))
    (flat-list name_line 1 l.names)

dump-view : IsView text0 In0 Dump IsListing listing_of
dump-view = record {
  into = λ p h. record {
    name = h.0.name;
    flags = h.0.flags;
    start = h.0.start;
    objects = h.1.0;
    imports = h.1.1.0;
    entries = h.1.1.1.0;
    names = h.1.1.1.1.0;
  };
  text = λ p h. dump-text p;
  back = λ l h. (
    (record { name = l.name; library = l.library; flags = l.flags; start = l.start }, (l.objects, (l.imports, (l.entries, (l.names, tt))))),
    (record { name = h.name; flags = h.flags; start = h.start }, (h.objects, (h.imports, (h.entries, (h.names, tt))))),
    refl,
  );
}

-- one listing a dump
pub code-dump : IsCode Dump IsListing
code-dump = code-as text0 In0 Dump IsListing listing_of code0 dump-view

pub dump-reads : (h : ModuleHead) (objects : List ListedObject) (imports : List (List ℕ)) (entries : List (ℕ × EntryHead)) (names : List (List ℕ × ℕ))
    (s0 s1 s2 s3 s4 s5 s6 : State) → Reads module_head_line IsModuleHead shut h s0 s1 → Reads (list_text object_lines 1) (AllIn IsObject) objects_open objects s1 s2
    → Reads (list_text numbered_import_line 1) (AllIn IsListedName) imports_open imports s2 s3
    → Reads (list_text numbered_entry 1) (AllIn IsEntry) entries_open entries s3 s4 → Reads (list_text numbered_name 1) (AllIn IsNamed) names_open names s4 s5
    → Takes end_text s5 s6 → Reads Dump IsListing shut (listing_of (h, (objects, (imports, (entries, (names, tt)))))) s0 s6
dump-reads h objects imports entries names s0 s1 s2 s3 s4 s5 s6 head os is es ns end =
    read-as text0 In0 Dump IsListing listing_of (h, (objects, (imports, (entries, (names, tt))))) s0 s6 dump-view
    (read-pair module_head_line IsModuleHead text1 In1 h _ s0 s1 s6 code-module code1 head
    (list-reads object_lines IsObject object_opens (codes "object ") object-element text2 In2 code2 1 apart1 objects _ s1 s2 s6 os
    (list-reads numbered_import_line IsListedName shut (codes "import ") import-element text3 In3 code3 1 apart2 imports _ s2 s3 s6 is
    (list-reads numbered_entry IsEntry shut (codes "entry ") entry-element text4 In4 code4 1 apart3 entries _ s3 s4 s6 es
    (list-reads numbered_name IsNamed shut (codes "name ") name-element text5 In5 code5 1 apart4 names tt s4 s5 s6 ns end)))))

pub dump-front : (l : Listing) → (rest : List ℕ) × (Dump l ≡ codes "module " ++ rest)
dump-front l =
    let head : ModuleHead = record { name = l.name; library = l.library; flags = l.flags; start = l.start } in
    let p : W0 = (head, (l.objects, (l.imports, (l.entries, (l.names, tt))))) in
    let front = module-front head in
    (front.0 ++ text1 p.1, dump-text p ∙ ap (λ x. x ++ text1 p.1) front.1 ∙ append_assoc (codes "module ") front.0 (text1 p.1))
