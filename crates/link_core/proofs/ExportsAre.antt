-- The entries of a link's exports are those that the rules of linking give.
use Rattle.std.specs.Prelude.{◌≡◌, ◌≢◌, ℕ, suc, ◌≤◌, ◌<◌, Bool, true, false, IsTrue, not, ◌||◌, nat_lt, List, [], ◌∷◌, ◌++◌, Option, Some, None, IsSome, map, length, slice_get, is_some, refl}
use Rattle.std.specs.List.{filter_map, flat_map, cons_option, zip, AllByRecursion}
use Rattle.std.specs.Option.{option_map, option_and_then, option_map_or}
use Rattle.std.proofs.Common.{ap, sym, ◌∙◌, arith, true≢false, subst}
use Rattle.std.proofs.lemmas.List.Elements.{recursion_from_All}
use Rattle.std.proofs.lemmas.Bool.{le-ltb}
use Rattle.std.proofs.lemmas.List.{length-map}
use Rattle.link_fix.proofs.LinkPages.{filter_map-same}
use Rattle.lx_types.proofs.Lists.{length-map-enumerate_from, length-filter_map}
use Rattle.link_place.proofs.Located.{symbols_are}
use Rattle.lx_types.specs.Addresses.{is_big}
use Rattle.lx_types.specs.declared.limits.TheConstants.{BASE_UNIT}
use Rattle.lx_types.specs.declared.entry.EntryHead.{EntryHead}
use Rattle.lx_types.specs.declared.entry.EntryHead.TheVariants as heads
use Rattle.lx_types.specs.declared.entry.FwdKey.TheVariants as fwd
use Rattle.lx_types.specs.declared.fix.FixTarget.{FixTarget}
use Rattle.lx_types.specs.declared.fix.FixTarget.TheVariants as leads
use Rattle.obj_types.specs.Items.{item}
use Rattle.obj_types.specs.declared.symbol.Exp.{Exp}
use Rattle.obj_types.specs.declared.symbol.Imp.{Imp}
use Rattle.obj_types.specs.declared.object.ObjModule.{ObjModule}
use Rattle.obj_types.specs.Definition.{WholeDef, WholeExport}
use Rattle.obj_types.specs.Whole.{WholeModule, WholeExp}
use Rattle.lx_model.specs.ExportTables.{Exported}
use Rattle.link_model.specs.declared.limits.TheConstants.{MAX_NUMBER}
use Rattle.link_model.specs.declared.symbols.LaidObject.{LaidObject}
use Rattle.link_model.specs.Words.{first_of}
use Rattle.link_model.specs.Link.{Link, exports}
use Rattle.link_model.specs.Symbols.{imports, global}
use Rattle.link_model.specs.SymbolRefusals.{sym_refusal}
use Rattle.link_model.specs.Layout.{objects}
use Rattle.link_model.specs.LayoutRefusals.{lay_refusal}
use Rattle.link_model.specs.Goals.{Target, Internal, Constant, Entry, of_symbol}
use Rattle.link_model.specs.Exports.{ExportTarget, Forward, Export, export_target, export_of, ordinals, ordinal_at, asked_ordinals, Out, wrong_ordinal, ordinal_past, name_twice, entry_refusal}
use Rattle.link_model.specs.ImportTables.{used_pairs, link_pairs, forwarded, modules_in, procs_in, import_target, name_offset, with_offset}
use Rattle.link_model.specs.NothingDropped.{WholeLink}
use Rattle.link_model.proofs.Members.{In, here, there, in_right, not_empty}
use Rattle.link_model.proofs.ExportsStay.{exports_stay}
use Rattle.image_model.specs.Exported as links
use Rattle.image_model.specs.Exported.{forwarder_to}
use Rattle.lx_exports.specs.declared.exports.OutEntry.{OutEntry}
use Rattle.lx_exports.specs.Exports.{asked, names_of, numbered, with_ordinals, exported_of, export_refusal, HeadFits, ExportFits}
use Rattle.link_types.specs.Symbols.{SymbolTable}
use Rattle.link_types.specs.Globals.{global_in}
use Rattle.link_types.specs.Binding.{AreSymbolsOf}
use Rattle.link_types.specs.declared.places.Places.{Places}
use Rattle.link_types.specs.Places.{ArePlaces}
use Rattle.link_fix.specs.Tables.{pair_among}
use Rattle.link_core.specs.Exports.{lead_in, pair_in, forward_among, wide_among, entry_with, entry_to, entry_in, entries_in}
use Rattle.link_core.specs.Parts.{all_pairs}
use Rattle.image_model.proofs.ObjectsThere.{IsThere}
use Rattle.image_model.proofs.TargetsThere.{LeadsThere, symbol_there, through, mapped}
use Rattle.image_model.proofs.FewImports.{export_with, few-modules, in-filter_map}
use Rattle.image_model.proofs.RecordsFit.{AmongPairs, import-among}
use Rattle.link_model.proofs.RecordsStay.{pair_there}

-- ---- what an export leads to

abbrev pub lead : Link → Exp → Option Target
lead l x = option_and_then (of_symbol l) (global l x.internal)

lead_is : (l : Link) (p : Places) (s : SymbolTable) (x : Exp) → ArePlaces l p → AreSymbolsOf l s → lead_in p s x ≡ lead l x
lead_is l p s x are of = symbols_are l p (global_in s.globals x.internal) are ∙ ap (option_and_then (of_symbol l)) (of.global x.internal)

-- ---- the pairs of forwarders

abbrev pair_to : Link → Exp → Option Imp
pair_to l x = option_and_then (pair_among (imports l)) (lead l x)

forward_is : (o : Option Imp) → option_and_then forwarded (option_map Forward o) ≡ o
forward_is None = refl
forward_is (Some pair) = refl

pair_is : (l : Link) (t : Target) → option_and_then forwarded (export_target l t) ≡ pair_among (imports l) t
pair_is l (Internal o offset) = refl
pair_is l (Constant value) = refl
pair_is l (Entry slot) = forward_is (slice_get (imports l) slot)

of_target : (l : Link) (n : ℕ) (x : Exp) (o : Option ExportTarget) → option_and_then (λ (e : Export). forwarded e.target) (option_map (export_with l n x) o) ≡ option_and_then forwarded o
of_target l n x None = refl
of_target l n x (Some t) = refl

of_lead : (l : Link) (o : Option Target) → option_and_then forwarded (option_and_then (export_target l) o) ≡ option_and_then (pair_among (imports l)) o
of_lead l None = refl
of_lead l (Some t) = pair_is l t

picked_twice : {X Y : Type 0} (f : X → Option Y) (o : Option X) (xs : List X) → filter_map f (cons_option o xs) ≡ cons_option (option_and_then f o) (filter_map f xs)
picked_twice f None xs = refl
picked_twice f (Some x) xs = refl

forwards_by : (l : Link) (ns : List ℕ) (xs : List Exp) → length ns ≡ length xs → filter_map (λ (e : Export). forwarded e.target) (filter_map (λ q. export_of l q.0 q.1) (zip ns xs)) ≡ filter_map (pair_to l) xs
forwards_by l [] [] e = refl
forwards_by l [] (x ∷ xs) e = absurd (omega (arith, e))
forwards_by l (n ∷ ns) [] e = absurd (omega (arith, e))
forwards_by l (n ∷ ns) (x ∷ xs) e =
    let shorter : length ns ≡ length xs = omega (arith, e) in
    let here : option_and_then (λ (y : Export). forwarded y.target) (export_of l n x) ≡ pair_to l x = of_target l n x (option_and_then (export_target l) (lead l x)) ∙ of_lead l (lead l x) in
    picked_twice (λ (y : Export). forwarded y.target) (export_of l n x) (filter_map (λ q. export_of l q.0 q.1) (zip ns xs))
    ∙ ap (λ (o : Option Imp). cons_option o (filter_map (λ (y : Export). forwarded y.target) (filter_map (λ q. export_of l q.0 q.1) (zip ns xs)))) here
    ∙ ap (λ (ps : List Imp). cons_option (pair_to l x) ps) (forwards_by l ns xs shorter)

as_many : (l : Link) → length (ordinals (asked_ordinals l)) ≡ length (exports l)
as_many l = length-map-enumerate_from (λ q. ordinal_at (asked_ordinals l) q.0 q.1) 0 (asked_ordinals l) ∙ length-map (exports l) (λ (x : Exp). x.ordinal)

pub pairs-are : (l : Link) (p : Places) (s : SymbolTable) (xs : List Exp) → ArePlaces l p → AreSymbolsOf l s → xs ≡ exports l → all_pairs p s (used_pairs l) xs ≡ link_pairs l
unfolding link_pairs Out
pairs-are l p s xs are of is =
    let pair : (x : Exp) → pair_in p s x ≡ pair_to l x = λ x. ap (λ (is : List Imp). option_and_then (pair_among is) (lead_in p s x)) of.imports ∙ ap (option_and_then (pair_among (imports l))) (lead_is l p s x are of) in
    ap (λ (ps : List Imp). used_pairs l ++ ps) (filter_map-same (pair_in p s) (pair_to l) xs pair ∙ ap (filter_map (pair_to l)) is ∙ sym (forwards_by l (ordinals (asked_ordinals l)) (exports l) (as_many l)))

-- ---- a pair that a forwarder names is in the tables

-- A forwarder's entry, which names an import module that there is.
record ForwardsTo (pairs : List Imp) (pair : Imp) : Type 0 where
  head : EntryHead
  is : forward_among pairs pair ≡ Some head
  fits : (wide : Bool) → length (modules_in pairs) ≤ MAX_NUMBER → HeadFits wide head

forwards_by_target : (pairs : List Imp) (pair : Imp) (t : FixTarget) → import_target pairs pair ≡ Some t → AmongPairs pairs t → ForwardsTo pairs pair
forwards_by_target pairs pair (leads.Internal o offset) e h = absurd h
forwards_by_target pairs pair (leads.Ordinal import n) e h = record {
  head = heads.Forward import (fwd.Ordinal n);
  is = ap (option_and_then (λ target. forwarder_to (with_offset (procs_in pairs) target))) e;
  fits = λ wide few. (omega (arith, h.0), omega (arith, h.1, few));
}
forwards_by_target pairs pair (leads.Named import k) e h = record {
  head = heads.Forward import (fwd.NameAt (name_offset (procs_in pairs) k));
  is = ap (option_and_then (λ target. forwarder_to (with_offset (procs_in pairs) target))) e;
  fits = λ wide few. (omega (arith, h.0.0), omega (arith, h.0.1, few));
}
forwards_by_target pairs pair (leads.Own n) e h = absurd h

some_item : {X : Type 0} (o : Option X) → IsSome o → (x : X) × (o ≡ Some x)
some_item None h = absurd (true≢false (sym h))
some_item (Some x) h = (x, refl)

forwards_to : (pairs : List Imp) (pair : Imp) → In pair pairs → ForwardsTo pairs pair
forwards_to pairs pair i =
    let t = some_item (import_target pairs pair) (pair_there pairs pair i) in
    forwards_by_target pairs pair t.0 t.1 (import-among pairs pair t.0 t.1)

-- ---- one export

abbrev pub entry_for : Link → Exp → Option OutEntry
entry_for l x = option_and_then (entry_to (imports l) (link_pairs l) (objects l) x) (lead l x)

-- An export's entry, which the rules tell too, and which fits the tables.
pub record Matches (l : Link) (x : Exp) : Type 0 where
  pub entry : OutEntry
  pub is : entry_for l x ≡ Some entry
  pub told : (n : ℕ) → option_and_then (links.exported l) (export_of l n x) ≡ Some (numbered entry n)
  pub ordinal : entry.ordinal ≡ x.ordinal
  pub name : entry.name ≡ x.name
  pub words : entry.words ≡ x.words
  pub fits : lay_refusal l ≡ None → sym_refusal l ≡ None → HeadFits entry.wide entry.head

not_less : (offset : ℕ) (b : Bool) → MAX_NUMBER < offset → IsTrue (b || not (nat_lt offset BASE_UNIT))
not_less offset b h = or_end b (not (nat_lt offset BASE_UNIT)) (ap not (le-ltb offset BASE_UNIT (omega (arith, h))))
  where
    or_end : (a b : Bool) → b ≡ true → (a || b) ≡ true
    or_end true b e = refl
    or_end false b e = e

wide_fits : (l : Link) (o offset : ℕ) → IsThere l o → HeadFits (wide_among (objects l) (Internal o offset)) (heads.At o offset)
wide_fits l o offset h =
    let from = h.number.0 in let small = h.small in
    (omega (arith, from), omega (arith, small), λ past. not_less offset (is_big (option_map_or (λ x. x.flags) (item (objects l) o) 0)) past)

matches_by : (l : Link) (x : Exp) (t : Target) (e : ExportTarget) → lead l x ≡ Some t → export_target l t ≡ Some e → ((pair : Imp) → pair_among (imports l) t ≡ Some pair → In pair (link_pairs l)) → (lay_refusal l ≡ None → LeadsThere l t) → Matches l x
matches_by l x (Internal o offset) e led to known object =
    record {
      entry = entry_with (objects l) x (Internal o offset) (heads.At o offset);
      is = ap (option_and_then (entry_to (imports l) (link_pairs l) (objects l) x)) led;
      told = λ n. ap (λ (t : Option Target). option_and_then (links.exported l) (option_map (export_with l n x) (option_and_then (export_target l) t))) led;
      ordinal = refl;
      name = refl;
      words = refl;
      fits = λ lay sym. wide_fits l o offset (object lay);
    }
matches_by l x (Constant value) e led to known object = absurd (true≢false (sym (ap is_some to)))
matches_by l x (Entry slot) e led to known object =
    let pair = mapped Forward (slice_get (imports l) slot) e to in
    let f = forwards_to (link_pairs l) pair.item (known pair.item pair.is) in
    record {
      entry = entry_with (objects l) x (Entry slot) f.head;
      is = ap (option_and_then (entry_to (imports l) (link_pairs l) (objects l) x)) led ∙ ap (λ (o : Option Imp). option_map (entry_with (objects l) x (Entry slot)) (option_and_then (forward_among (link_pairs l)) o)) pair.is ∙ ap (option_map (entry_with (objects l) x (Entry slot))) f.is;
      told = λ n.
          ap (λ (t : Option Target). option_and_then (links.exported l) (option_map (export_with l n x) (option_and_then (export_target l) t))) led
          ∙ ap (λ (o : Option Imp). option_and_then (links.exported l) (option_map (export_with l n x) (option_map Forward o))) pair.is
          ∙ ap (λ (o : Option EntryHead). option_map (λ head. let r : Exported = record { name = x.name; ordinal = n; resident = option_map_or (λ m. x.resident) x.ordinal true; words = x.words; head = head; wide = false } in r) o) f.is;
      ordinal = refl;
      name = refl;
      words = refl;
      fits = λ lay sym. f.fits false (few-modules l sym);
    }

-- ---- all exports

abbrev pub AllMatch : Link → List Exp → Type 0
AllMatch l xs = AllByRecursion (Matches l) xs

-- Where a list loses nothing, each item gives something.
first_gives : {X Y : Type 0} (f : X → Option Y) (xs : List X) (o : Option Y) → length (cons_option o (filter_map f xs)) ≡ suc (length xs) → (length (filter_map f xs) ≡ length xs → AllByRecursion (λ x. IsSome (f x)) xs) → IsSome o × AllByRecursion (λ x. IsSome (f x)) xs
first_gives f xs None h rest = let less = length-filter_map f xs in absurd (omega (arith, h, less))
first_gives f xs (Some y) h rest = (refl, rest (omega (arith, h)))

each_gives : {X Y : Type 0} (f : X → Option Y) (xs : List X) → length (filter_map f xs) ≡ length xs → AllByRecursion (λ x. IsSome (f x)) xs
each_gives f [] e = tt
each_gives {X} {Y} f (x ∷ xs) e = first_gives f xs (f x) e (each_gives f xs)

zipped_gives : (l : Link) (ns : List ℕ) (xs : List Exp) → length ns ≡ length xs → AllByRecursion (λ q. IsSome (export_of l q.0 q.1)) (zip ns xs) → AllByRecursion (λ x. IsSome (option_and_then (export_target l) (lead l x))) xs
zipped_gives l [] [] e h = tt
zipped_gives l [] (x ∷ xs) e h = absurd (omega (arith, e))
zipped_gives l (n ∷ ns) [] e h = absurd (omega (arith, e))
zipped_gives l (n ∷ ns) (x ∷ xs) e h =
    (unmapped (option_and_then (export_target l) (lead l x)) h.0, zipped_gives l ns xs (omega (arith, e)) h.1)
  where
    unmapped : (o : Option ExportTarget) → IsSome (option_map (export_with l n x) o) → IsSome o
    unmapped None h = h
    unmapped (Some t) h = refl

length-zip : (ns : List ℕ) (xs : List Exp) → length ns ≡ length xs → length (zip ns xs) ≡ length xs
length-zip [] [] e = refl
length-zip [] (x ∷ xs) e = absurd (omega (arith, e))
length-zip (n ∷ ns) [] e = absurd (omega (arith, e))
length-zip (n ∷ ns) (x ∷ xs) e = ap suc (length-zip ns xs (omega (arith, e)))

all_lead : (l : Link) → WholeLink l → sym_refusal l ≡ None → AllByRecursion (λ x. IsSome (option_and_then (export_target l) (lead l x))) (exports l)
unfolding Out
all_lead l whole e =
    let ns : List ℕ = ordinals (asked_ordinals l) in
    let stay = exports_stay l whole e in
    let count : length (Out l) ≡ length (exports l) = sym (length-map (Out l) (λ (x : Export). x.name)) ∙ ap length stay.names ∙ length-map (exports l) (λ (x : Exp). x.name) in
    zipped_gives l ns (exports l) (as_many l) (each_gives (λ (q : ℕ × Exp). export_of l q.0 q.1) (zip ns (exports l)) (count ∙ sym (length-zip ns (exports l) (as_many l))))

matches : (l : Link) (x : Exp) → In x (exports l) → IsSome (option_and_then (export_target l) (lead l x)) → Matches l x
unfolding link_pairs Out
matches l x i h =
    let e = some_item (option_and_then (export_target l) (lead l x)) h in
    let t = through (export_target l) (lead l x) e.0 e.1 in
    let d = through (of_symbol l) (global l x.internal) t.item t.is in
    let known : (pair : Imp) → pair_among (imports l) t.item ≡ Some pair → In pair (link_pairs l) = λ pair is.
    let to : pair_to l x ≡ Some pair = ap (option_and_then (pair_among (imports l))) t.is ∙ is in
    in_right (used_pairs l) (subst (λ (ps : List Imp). In pair ps) (sym (forwards_by l (ordinals (asked_ordinals l)) (exports l) (as_many l))) (in-filter_map (pair_to l) i to)) in
    matches_by l x t.item e.0 t.is t.gives known (λ lay. symbol_there l d.item t.item lay d.gives)

all_match_by : (l : Link) (xs : List Exp) → ((x : Exp) → In x xs → In x (exports l)) → AllByRecursion (λ x. IsSome (option_and_then (export_target l) (lead l x))) xs → AllMatch l xs
all_match_by l [] sub h = tt
all_match_by l (x ∷ xs) sub h = (matches l x (sub x here) h.0, all_match_by l xs (λ y i. sub y (there i)) h.1)

pub all-match : (l : Link) → WholeLink l → sym_refusal l ≡ None → AllMatch l (exports l)
all-match l whole e = all_match_by l (exports l) (λ x i. i) (all_lead l whole e)

abbrev entries_for : Link → List Exp → List OutEntry
entries_for l xs = filter_map (entry_for l) xs

all_asked : (l : Link) (xs : List Exp) → AllMatch l xs → asked (entries_for l xs) ≡ map (λ x. x.ordinal) xs
all_asked l [] h = refl
all_asked l (x ∷ xs) h =
    ap (λ (o : Option OutEntry). asked (cons_option o (entries_for l xs))) h.0.is
    ∙ ap (λ (o : Option ℕ). o ∷ asked (entries_for l xs)) h.0.ordinal ∙ ap (λ (os : List (Option ℕ)). x.ordinal ∷ os) (all_asked l xs h.1)

all_named : (l : Link) (xs : List Exp) → AllMatch l xs → names_of (entries_for l xs) ≡ map (λ x. x.name) xs
all_named l [] h = refl
all_named l (x ∷ xs) h =
    ap (λ (o : Option OutEntry). names_of (cons_option o (entries_for l xs))) h.0.is
    ∙ ap (λ (n : List ℕ). n ∷ names_of (entries_for l xs)) h.0.name ∙ ap (λ (ns : List (List ℕ)). x.name ∷ ns) (all_named l xs h.1)

all_told : (l : Link) (ns : List ℕ) (xs : List Exp) → length ns ≡ length xs → AllMatch l xs → with_ordinals (entries_for l xs) ns ≡ filter_map (links.exported l) (filter_map (λ q. export_of l q.0 q.1) (zip ns xs))
all_told l [] [] e h = refl
all_told l [] (x ∷ xs) e h = absurd (omega (arith, e))
all_told l (n ∷ ns) [] e h = absurd (omega (arith, e))
all_told l (n ∷ ns) (x ∷ xs) e h =
    let rest : List Export = filter_map (λ q. export_of l q.0 q.1) (zip ns xs) in
    ap (λ (o : Option OutEntry). with_ordinals (cons_option o (entries_for l xs)) (n ∷ ns)) h.0.is
    ∙ ap (λ (es : List Exported). numbered h.0.entry n ∷ es) (all_told l ns xs (omega (arith, e)) h.1)
    ∙ ap (λ (o : Option Exported). cons_option o (filter_map (links.exported l) rest)) (sym (h.0.told n))
    ∙ sym (picked_twice (links.exported l) (export_of l n x) rest)

-- ---- the entries of a link

entries_are : (l : Link) (p : Places) (s : SymbolTable) (os : List LaidObject) (xs : List Exp) → ArePlaces l p → AreSymbolsOf l s → os ≡ objects l → xs ≡ exports l → entries_in p s (all_pairs p s (used_pairs l) xs) os xs ≡ entries_for l (exports l)
entries_are l p s os xs are of laid is =
    let one : (x : Exp) → entry_in p s (all_pairs p s (used_pairs l) xs) os x ≡ entry_for l x = λ x.
    ap (λ (ps : List Imp). option_and_then (entry_to s.imports ps os x) (lead_in p s x)) (pairs-are l p s xs are of is)
    ∙ ap (λ (ys : List LaidObject). option_and_then (entry_to s.imports (link_pairs l) ys x) (lead_in p s x)) laid
    ∙ ap (λ (ys : List Imp). option_and_then (entry_to ys (link_pairs l) (objects l) x) (lead_in p s x)) of.imports
    ∙ ap (option_and_then (entry_to (imports l) (link_pairs l) (objects l) x)) (lead_is l p s x are of) in
    filter_map-same (entry_in p s (all_pairs p s (used_pairs l) xs) os) (entry_for l) xs one ∙ ap (filter_map (entry_for l)) is

-- The entries that a link tells have the exports of its image, are refused as its exports are, and fit the tables.
pub record AreEntries (l : Link) (es : List OutEntry) : Type 0 where
  pub exported : exported_of es ≡ links.exported_of l
  pub refused : export_refusal es ≡ entry_refusal l
  pub fit : AllByRecursion ExportFits es

abbrev pub IsNamed : Exp → Type 0
IsNamed x = (x.name ≢ []) × (x.words ≤ 31)

all_fit : (l : Link) (xs : List Exp) → lay_refusal l ≡ None → sym_refusal l ≡ None → AllMatch l xs → AllByRecursion IsNamed xs → AllByRecursion ExportFits (entries_for l xs)
all_fit l [] lay e h named = tt
all_fit l (x ∷ xs) lay e h named =
    let m = h.0 in
    let entry : OutEntry = m.entry in
    let fits : ExportFits entry = record {
      named = subst (λ (n : List ℕ). 0 < length n) (sym m.name) (not_empty x.name named.0.0);
      words = subst (λ (n : ℕ). n ≤ 31) (sym m.words) named.0.1;
      head = m.fits lay e;
    } in
    subst (λ (o : Option OutEntry). AllByRecursion ExportFits (cons_option o (entries_for l xs))) (sym m.is) (fits, all_fit l xs lay e h.1 named.1)

pub entries-of-link : (l : Link) (p : Places) (s : SymbolTable) (os : List LaidObject) (xs : List Exp) (es : List OutEntry) → ArePlaces l p → AreSymbolsOf l s → os ≡ objects l → xs ≡ exports l → WholeLink l → lay_refusal l ≡ None
    → AllByRecursion IsNamed (exports l) → es ≡ entries_in p s (all_pairs p s (used_pairs l) xs) os xs → AreEntries l es
unfolding links.exported_of entry_refusal Out
entries-of-link l p s os xs es are of laid is whole lay named made =
    let all = all-match l whole of.accepted in
    let same : es ≡ entries_for l (exports l) = made ∙ entries_are l p s os xs are of laid is in
    let same_asked : asked es ≡ asked_ordinals l = ap asked same ∙ all_asked l (exports l) all in
    let same_names : names_of es ≡ map (λ x. x.name) (exports l) = ap names_of same ∙ all_named l (exports l) all in
    record {
      exported =
          ap (λ (os : List (Option ℕ)). with_ordinals es (ordinals os)) same_asked
          ∙ ap (λ (ys : List OutEntry). with_ordinals ys (ordinals (asked_ordinals l))) same
          ∙ all_told l (ordinals (asked_ordinals l)) (exports l) (as_many l) all;
      refused =
          ap (λ (os : List (Option ℕ)). first_of (wrong_ordinal os ∷ ordinal_past MAX_NUMBER os ∷ name_twice (names_of es) ∷ [])) same_asked
          ∙ ap (λ (ns : List (List ℕ)). first_of (wrong_ordinal (asked_ordinals l) ∷ ordinal_past MAX_NUMBER (asked_ordinals l) ∷ name_twice ns ∷ [])) same_names;
      fit = subst (λ (ys : List OutEntry). AllByRecursion ExportFits ys) (sym same) (all_fit l (exports l) lay of.accepted all named);
    }

-- ---- exports have names

in_front : (xs : List Exp) (ms : List ObjModule) (rest : List Exp) → AllByRecursion WholeExp xs → AllByRecursion IsNamed (flat_map (λ m. m.exports) ms ++ rest) → AllByRecursion IsNamed ((xs ++ flat_map (λ m. m.exports) ms) ++ rest)
in_front [] ms rest h after = after
in_front (x ∷ xs) ms rest h after = (h.0, in_front xs ms rest h.1 after)

of_modules : (ms : List ObjModule) (rest : List Exp) → AllByRecursion WholeModule ms → AllByRecursion IsNamed rest → AllByRecursion IsNamed (flat_map (λ m. m.exports) ms ++ rest)
of_modules [] rest whole named = named
of_modules (m ∷ ms) rest whole named =
    in_front m.exports ms rest (recursion_from_All WholeExp m.exports whole.0.exports) (of_modules ms rest whole.1 named)

of_definition : (xs : List Exp) → AllByRecursion WholeExport xs → AllByRecursion IsNamed xs
of_definition [] h = tt
of_definition (x ∷ xs) h = ((h.0.name, h.0.words), of_definition xs h.1)

pub exports-named : (l : Link) → WholeLink l → WholeDef l.def → AllByRecursion IsNamed (exports l)
exports-named l whole def =
    of_modules l.modules l.def.exports (recursion_from_All WholeModule l.modules whole) (of_definition l.def.exports (recursion_from_All WholeExport l.def.exports def.exports))
