-- The entry points of a module that a link wrote are the exports of the link.
use Rattle.std.specs.Prelude.{◌≡◌, ◌≢◌, ℕ, zero, suc, ◌==◌, Bool, false, List, Option, Some, None, Err, All, refl}
use Rattle.std.specs.Option.{option_map}
use Rattle.std.proofs.Common.{ap, sym, ◌∙◌, arith}
use Rattle.std.proofs.lemmas.Bool.{ne_eqb, eq-eqb, eqb-true}
use Rattle.std.proofs.lemmas.Option.{same_Some}
use Rattle.lx_types.specs.declared.entry.EntryHead.{EntryHead}
use Rattle.lx_types.specs.declared.entry.EntryHead.TheVariants as heads
use Rattle.lx_types.specs.declared.entry.EntryKey.TheVariants as entry_keys
use Rattle.lx_types.specs.declared.parts.Parts.{Parts}
use Rattle.lx_types.specs.Parts.{entry_of, ordinal_named}
use Rattle.link_model.specs.Link.{Link}
use Rattle.link_model.specs.Exports.{ExportTarget, At, Forward, Export, Out}
use Rattle.link_model.proofs.Members.{In, in_contained, all_in, found_as}
use Rattle.lx_model.specs.declared.library.EntryFault.TheVariants as faults
use Rattle.lx_model.specs.Entries.{OrdinalOf, head_at, stands_at, Entry, EntryOf, entry_or_none}
use Rattle.lx_model.specs.ExportTables.{Exported, export_at, entries_by_ordinal}
use Rattle.lx_model.specs.Library.{module_of}
use Rattle.image_model.specs.Exported.{head_of, exported_of}
use Rattle.image_model.specs.Linked.{image_of}
use Rattle.image_model.specs.ReadBack.{parts_of_image}
use Rattle.image_model.proofs.LinksRead.{links_read}
use Rattle.image_model.proofs.PartsRead.{parts_read}
use Rattle.layer_laws.specs.EntryLaws.{leads_to, AreEntries, EntriesAreOut}
use Rattle.layer_laws.proofs.Lists.{each-of}
use Rattle.layer_laws.proofs.Given.{given}
use Rattle.layer_laws.proofs.ImagesFit.{images_fit}
use Rattle.layer_laws.proofs.LoadedPages.{Loaded}
use Rattle.layer_laws.proofs.OutApart.{one-of-ordinal, one-of-name, some-ordinal}
use Rattle.layer_laws.proofs.OutListed.{exported-with, listed, is-out}
use Rattle.layer_laws.proofs.EntriesFound.{finds-one, finds-none, entry-is, entry-at-zero, names-in, finds-name, finds-no-name}
use Rattle.layer_laws.proofs.ForwardersFollowed.{spot-there, fault-there, named-place}
use Rattle.layer_laws.proofs.ForwardersNamed.{forwarder-named}

-- ---- the tables of a loaded module

entries_are : (l : Link) (lib : List Parts) (m : ℕ) → Loaded l lib m → (module_of lib m).entries ≡ entries_by_ordinal (exported_of l)
entries_are l lib m loaded = ap (λ (p : Parts). p.entries) (loaded.is ∙ sym (parts_read (image_of l) loaded.fits)) ∙ (links_read l loaded.fits).entries

image_names : (l : Link) → (parts_of_image (image_of l)).names ≡ names-in (exported_of l)
unfolding parts_of_image image_of
image_names l = refl

names_are : (l : Link) (lib : List Parts) (m : ℕ) → Loaded l lib m → (module_of lib m).names ≡ names-in (exported_of l)
names_are l lib m loaded = ap (λ (p : Parts). p.names) loaded.is ∙ image_names l

-- ---- by ordinal

-- At the ordinal of an export stands its head.
record HeadThere (l : Link) (lib : List Parts) (m : ℕ) (x : Export) : Type 0 where
  head : EntryHead
  is : head_of l x.target ≡ Some head
  stands : stands_at lib (m, x.ordinal) ≡ head_at lib m (Some head)

head_there : (l : Link) (lib : List Parts) (m : ℕ) → Loaded l lib m → (x : Export) → In x (Out l) → HeadThere l lib m x
head_there l lib m loaded x i =
    let own = listed l x i in
    let test : Exported → Bool = λ y. y.ordinal == x.ordinal in
    let found = finds-one test (exported_of l) own.inside (eq-eqb x.ordinal x.ordinal refl) in
    let shown = found_as test (exported_of l) found.item found.is in
    let out = is-out l found.item shown.inside in
    let same : out.export ≡ x = one-of-ordinal l loaded.known out.export x out.inside i (out.ordinal ∙ eqb-true found.item.ordinal x.ordinal shown.passes) in
    record {
      head = found.item.head;
      is = ap (λ (y : Export). head_of l y.target) (sym same) ∙ out.head;
      stands = ap (head_at lib m)
          (ap (λ es. entry_of es x.ordinal) (entries_are l lib m loaded) ∙ entry-is (exported_of l) x.ordinal (some-ordinal l loaded.known x i) ∙ ap (λ (o : Option Exported). option_map (λ y. y.head) o) found.is);
    }

head_leads : (l : Link) (lib : List Parts) (m : ℕ) → Loaded l lib m → (t : ExportTarget) (h : EntryHead) (place : OrdinalOf) → head_of l t ≡ Some h → stands_at lib place ≡ head_at lib m (Some h) → Entry lib place ≡ leads_to lib m t
head_leads l lib m loaded (At object offset) h place e stands =
    spot-there lib place (record { «module» = m; object = object; offset = offset }) (stands ∙ ap (λ (g : EntryHead). head_at lib m (Some g)) (sym (same_Some (heads.At object offset) h e)))
head_leads l lib m loaded (Forward pair) h place e stands =
    let r = forwarder-named l lib m loaded pair h e in named-place lib place r.next (stands ∙ r.stands) ∙ r.leads

ordinal_leads : (l : Link) (lib : List Parts) (m : ℕ) → Loaded l lib m → (x : Export) → In x (Out l) → Entry lib (m, x.ordinal) ≡ leads_to lib m x.target
ordinal_leads l lib m loaded x i = let h = head_there l lib m loaded x i in head_leads l lib m loaded x.target h.head (m, x.ordinal) h.is h.stands

no_entry : (lib : List Parts) (m n : ℕ) → entry_of (module_of lib m).entries n ≡ None → Entry lib (m, n) ≡ Err faults.NoEntry
no_entry lib m n e = fault-there lib (m, n) faults.NoEntry (ap (head_at lib m) e)

no_such_ordinal : (l : Link) (n : ℕ) → All (λ (x : Export). x.ordinal ≢ n) (Out l) → export_at (exported_of l) n ≡ None
no_such_ordinal l n none =
    finds-none (λ y. y.ordinal == n) (exported_of l) (each-of (λ y. (y.ordinal == n) ≡ false) (exported_of l) (λ y i. differs y i))
  where
    differs : (y : Exported) → In y (exported_of l) → (y.ordinal == n) ≡ false
    differs y i = let out = is-out l y i in ne_eqb y.ordinal n (λ e. all_in (λ (x : Export). x.ordinal ≢ n) (Out l) none out.inside (out.ordinal ∙ e))

other_ordinal : (l : Link) (lib : List Parts) (m : ℕ) → Loaded l lib m → (n : ℕ) → All (λ (x : Export). x.ordinal ≢ n) (Out l) → Entry lib (m, n) ≡ Err faults.NoEntry
other_ordinal l lib m loaded zero none = no_entry lib m 0 (ap (λ es. entry_of es 0) (entries_are l lib m loaded) ∙ entry-at-zero (exported_of l))
other_ordinal l lib m loaded (suc n) none =
    no_entry lib m (suc n)
    (ap (λ es. entry_of es (suc n)) (entries_are l lib m loaded) ∙ entry-is (exported_of l) (suc n) (not_zero n) ∙ ap (λ (o : Option Exported). option_map (λ y. y.head) o) (no_such_ordinal l (suc n) none))
  where
    not_zero : (k : ℕ) → suc k ≢ 0
    not_zero k e = absurd (omega (arith, e))

-- ---- by name

place_for : ℕ → Option ℕ → Option OrdinalOf
place_for m o = option_map (λ ordinal. (m, ordinal)) o

name_leads : (l : Link) (lib : List Parts) (m : ℕ) → Loaded l lib m → (x : Export) → In x (Out l) → EntryOf lib m (entry_keys.Named x.name) ≡ leads_to lib m x.target
unfolding place_for
name_leads l lib m loaded x i =
    let own = listed l x i in
    let found = finds-name (exported_of l) (exported-with x own.head) own.inside in
    let out = is-out l found.of.export found.of.inside in
    let same : out.export ≡ x = one-of-name l loaded.known out.export x out.inside i (out.name ∙ found.of.name_is) in
    let ordinal : found.ordinal ≡ x.ordinal = sym found.of.ordinal_is ∙ sym out.ordinal ∙ ap (λ (y : Export). y.ordinal) same in
    ap (λ ns. entry_or_none lib (place_for m (ordinal_named ns x.name))) (names_are l lib m loaded)
    ∙ ap (λ (o : Option ℕ). entry_or_none lib (place_for m o)) found.is
    ∙ ap (λ (n : ℕ). Entry lib (m, n)) ordinal
    ∙ ordinal_leads l lib m loaded x i

other_name : (l : Link) (lib : List Parts) (m : ℕ) → Loaded l lib m → (name : List ℕ) → All (λ (x : Export). x.name ≢ name) (Out l) → EntryOf lib m (entry_keys.Named name) ≡ Err faults.NoEntry
unfolding place_for
other_name l lib m loaded name none =
    ap (λ ns. entry_or_none lib (place_for m (ordinal_named ns name))) (names_are l lib m loaded)
    ∙ ap (λ (o : Option ℕ). entry_or_none lib (place_for m o)) (finds-no-name (exported_of l) name (λ y i. differs y i))
  where
    differs : (y : Exported) → In y (exported_of l) → y.name ≢ name
    differs y i e = let out = is-out l y i in all_in (λ (x : Export). x.name ≢ name) (Out l) none out.inside (out.name ∙ e)

-- ---- all together

pub entries-are-out : (l : Link) (lib : List Parts) (m : ℕ) → Loaded l lib m → AreEntries l lib m
entries-are-out l lib m loaded = record {
  by_ordinal = λ x i. ordinal_leads l lib m loaded x (in_contained (Out l) x i);
  by_name = λ x i. name_leads l lib m loaded x (in_contained (Out l) x i);
  no_other_ordinal = λ n none. other_ordinal l lib m loaded n none;
  no_other_name = λ name none. other_name l lib m loaded name none;
}

pub entries_out : EntriesAreOut
entries_out input l links short lib m holds =
    let fits = images_fit input l links short in
    entries-are-out l lib m (record { known = given input l links; fits = fits; is = holds ∙ parts_read (image_of l) fits })
