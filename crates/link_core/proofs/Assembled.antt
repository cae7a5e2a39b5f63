-- The plan of a link from its parts, and what its steps refuse.
use Rattle.std.specs.Prelude.{◌≡◌, ℕ, List, [], ◌∷◌, Option, Some, None, Result, Err, length, sum_by, refl}
use Rattle.std.specs.Option.{option_map}
use Rattle.std.proofs.Common.{ap, sym, ◌∙◌, subst}
use Rattle.lx_types.specs.Answers.{Answers}
use Rattle.lx_types.specs.Names.{uppercase}
use Rattle.lx_types.specs.declared.fail.Fail.{Fail}
use Rattle.lx_types.specs.declared.fail.Fail.TheVariants.{Said, NoMemory}
use Rattle.obj_types.specs.Input.{WholeInput}
use Rattle.obj_types.specs.declared.input.LinkInput.{LinkInput}
use Rattle.link_model.specs.declared.refusals.SymRefusal.{SymRefusal}
use Rattle.link_model.specs.declared.refusals.ComdatRefusal.{ComdatRefusal}
use Rattle.link_model.specs.declared.refusals.LayRefusal.{LayRefusal}
use Rattle.link_model.specs.declared.symbols.Pick.{Pick}
use Rattle.link_model.specs.declared.refusals.FixRefusal.{FixRefusal}
use Rattle.link_model.specs.declared.refusals.EntryRefusal.{EntryRefusal}
use Rattle.link_model.specs.declared.refusals.LinkRefusal.{LinkRefusal}
use Rattle.link_model.specs.declared.refusals.LinkRefusal.TheVariants.{Sym, Comdat, Lay, Fixing, Entry}
use Rattle.link_model.specs.declared.symbols.LaidObject.{LaidObject}
use Rattle.lx_types.specs.declared.fix.Fix.{Fix}
use Rattle.link_model.specs.Words.{first_of}
use Rattle.link_model.specs.Kept.{Kept}
use Rattle.link_model.specs.Clash.{comdat_refusal}
use Rattle.link_model.specs.Link.{Link, link_of, kept_link, exports}
use Rattle.link_model.proofs.Rules.{rules}
use Rattle.link_model.specs.SymbolRefusals.{sym_refusal}
use Rattle.link_model.specs.LayoutRefusals.{lay_refusal}
use Rattle.link_model.specs.Exports.{entry_refusal}
use Rattle.link_model.specs.Refusal.{place_refusal, link_refusal}
use Rattle.link_model.specs.ImportTables.{modules_in, procs_in}
use Rattle.link_model.proofs.ExportsStay.{chosen_are_whole}
use Rattle.lx_exports.specs.Exports.{export_refusal}
use Rattle.image_model.specs.File.{file_of}
use Rattle.image_model.specs.Linked.{image_of}
use Rattle.lx_write.specs.declared.image.Image.{Image}
use Rattle.lx_write.specs.LinkImages.{IsImageOfLink, LinkImagesAreWritten}
use Rattle.lx_write.specs.Value.{CanBeWritten, image_value}
use Rattle.link_types.specs.Symbols.{SymbolTable}
use Rattle.link_types.specs.Binding.{IsBound}
use Rattle.sym_table.specs.Binding.{IsRefused}
use Rattle.link_types.specs.declared.layout.Layout.{Layout}
use Rattle.link_types.specs.Layout.{IsLaidOut}
use Rattle.link_core.specs.declared.image.LinkParts.{LinkParts}
use Rattle.link_core.specs.declared.image.PlacedImage.{PlacedImage}
use Rattle.link_core.specs.declared.planning.Plan.{Plan}
use Rattle.link_core.specs.Parts.{AreParts, HasParts}
use Rattle.link_core.specs.Failed.{IsFailedAs}
use Rattle.link_core.specs.Planned.{IsPlannedLink, IsPlanned, plan_with}
use Rattle.link_core.specs.declared.linking.Linked.{Linked}
use Rattle.image_model.specs.LinkedFile.{IsLinkedFile}
use Rattle.link_core.specs.Links.{IsLinked, IsLinkedImage, RefusesLink}
use Rattle.link_core.proofs.ExportsAre.{pairs-are, AreEntries, entries-of-link, exports-named}
use Rattle.link_core.proofs.Writable.{can-be-written}
use Rattle.image_model.proofs.PageCounts.{pages-are, sources-are}

-- ---- the plan

pub planned : (input : LinkInput) (s : SymbolTable) (layout : Layout) (parts : LinkParts) (m : Image) → WholeInput input → IsBound input s → IsLaidOut (link_of input s.chosen) layout → lay_refusal (link_of input s.chosen) ≡ None
    → AreParts (link_of input s.chosen) s layout parts → HasParts input layout.objects parts m → (p : Plan) → p.layout ≡ layout → p.image ≡ m → IsPlannedLink (link_of input s.chosen) p
planned input s layout parts m whole bound laid lay are has p same_layout same_image =
    let l : Link = link_of input s.chosen in
    let are_whole = chosen_are_whole input s.chosen whole in
    let pairs = pairs-are l layout.places s (exports l) laid.places bound.symbols refl in
    let named = exports-named l are_whole whole.def in
    let entries : AreEntries l parts.tables.exports = entries-of-link l layout.places s layout.objects (exports l) parts.tables.exports laid.places bound.symbols laid.objects refl are_whole lay named are.tables.exports in
    let of_image : AreEntries l m.exports = subst (AreEntries l) (sym has.exports) entries in
    let image : IsImageOfLink l m = record {
      kind = has.kind;
      name = has.name;
      about = has.about;
      flags = has.flags;
      start = has.start ∙ are.placed.start;
      stack = has.stack ∙ are.placed.top;
      heap = has.heap;
      auto = has.auto ∙ are.auto;
      objects = has.objects ∙ laid.objects;
      bytes = has.bytes ∙ are.placed.bytes;
      fixes = has.fixes ∙ are.placed.fixes;
      imports = has.imports ∙ are.tables.imports ∙ ap modules_in pairs;
      procs = has.procs ∙ are.tables.procs ∙ ap procs_in pairs;
      exports = of_image.exported;
    } in
    let written = can-be-written l m image are_whole whole.def whole.stem bound.symbols.accepted lay has.ranges of_image.fit in
    record {
      lay = lay;
      place = are.place;
      laid = subst (IsLaidOut l) (sym same_layout) laid;
      image = subst (IsImageOfLink l) (sym same_image) image;
      writable = subst CanBeWritten (sym same_image) written;
      entries = ap (λ (x : Image). export_refusal x.exports) same_image ∙ of_image.refused;
    }

-- ---- refusals

refusal_is : (l : Link) (a b c d e : Option LinkRefusal) → option_map Sym (sym_refusal l) ≡ a → option_map Comdat l.clash ≡ b → option_map Lay (lay_refusal l) ≡ c → option_map Fixing (place_refusal l) ≡ d → option_map Entry (entry_refusal l) ≡ e → link_refusal l ≡ first_of (a ∷ b ∷ c ∷ d ∷ e ∷ [])
unfolding link_refusal
refusal_is l a b c d e ea eb ec ed ee =
    ap (λ (o : Option LinkRefusal). first_of (o ∷ option_map Comdat l.clash ∷ option_map Lay (lay_refusal l) ∷ option_map Fixing (place_refusal l) ∷ option_map Entry (entry_refusal l) ∷ [])) ea
    ∙ ap (λ (o : Option LinkRefusal). first_of (a ∷ o ∷ option_map Lay (lay_refusal l) ∷ option_map Fixing (place_refusal l) ∷ option_map Entry (entry_refusal l) ∷ [])) eb
    ∙ ap (λ (o : Option LinkRefusal). first_of (a ∷ b ∷ o ∷ option_map Fixing (place_refusal l) ∷ option_map Entry (entry_refusal l) ∷ [])) ec
    ∙ ap (λ (o : Option LinkRefusal). first_of (a ∷ b ∷ c ∷ o ∷ option_map Entry (entry_refusal l) ∷ [])) ed
    ∙ ap (λ (o : Option LinkRefusal). first_of (a ∷ b ∷ c ∷ d ∷ o ∷ [])) ee

-- What names are refused does not depend on COMDATs.
same-names : (l : Link) (clash : Option ComdatRefusal) → sym_refusal (record l { clash = clash }) ≡ sym_refusal l
unfolding rules
same-names l clash = refl

-- Where no COMDATs clash, an input's link is that of what is kept.
pub joined-is : (input : LinkInput) (picks : List Pick) → comdat_refusal input picks ≡ None → link_of (Kept input) picks ≡ kept_link input picks
joined-is input picks none = ap (λ (o : Option ComdatRefusal). let l : Link = record (link_of (Kept input) picks) { clash = o } in l) (sym none)

pub sym-refused : (input : LinkInput) (r : SymRefusal) → IsRefused (Kept input) r → RefusesLink input (Sym r)
sym-refused input r h = record {
  link = kept_link input h.picks;
  of_input = record { picks = h.picks; chosen = h.chosen; same = refl };
  refused = refusal_is (kept_link input h.picks) (Some (Sym r)) _ _ _ _ (ap (option_map Sym) (same-names (link_of (Kept input) h.picks) (comdat_refusal input h.picks) ∙ h.is)) refl refl refl refl;
}

pub comdat-refused : (input : LinkInput) (s : SymbolTable) (r : ComdatRefusal) → IsBound (Kept input) s → comdat_refusal input s.chosen ≡ Some r → RefusesLink input (Comdat r)
comdat-refused input s r bound e = record {
  link = kept_link input s.chosen;
  of_input = record { picks = s.chosen; chosen = bound.chosen; same = refl };
  refused = refusal_is (kept_link input s.chosen) None (Some (Comdat r)) _ _ _ (ap (option_map Sym) (same-names (link_of (Kept input) s.chosen) (comdat_refusal input s.chosen) ∙ bound.symbols.accepted)) (ap (option_map Comdat) e) refl refl refl;
}

-- What is refused after COMDATs is what the link of what is kept refuses.
pub later-refused : (input : LinkInput) (s : SymbolTable) (r : LinkRefusal) → IsBound (Kept input) s → comdat_refusal input s.chosen ≡ None → link_refusal (link_of (Kept input) s.chosen) ≡ Some r → RefusesLink input r
later-refused input s r bound joined e = record {
  link = link_of (Kept input) s.chosen;
  of_input = record { picks = s.chosen; chosen = bound.chosen; same = joined-is input s.chosen joined };
  refused = e;
}

pub lay-refused : (input : LinkInput) (s : SymbolTable) (r : LayRefusal) → IsBound input s → lay_refusal (link_of input s.chosen) ≡ Some r → link_refusal (link_of input s.chosen) ≡ Some (Lay r)
lay-refused input s r bound e =
    refusal_is (link_of input s.chosen) None None (Some (Lay r)) _ _ (ap (option_map Sym) bound.symbols.accepted) refl (ap (option_map Lay) e) refl refl

pub place-refused : (input : LinkInput) (s : SymbolTable) (r : FixRefusal) → IsBound input s → lay_refusal (link_of input s.chosen) ≡ None → place_refusal (link_of input s.chosen) ≡ Some r → link_refusal (link_of input s.chosen) ≡ Some (Fixing r)
place-refused input s r bound lay e =
    refusal_is (link_of input s.chosen) None None None (Some (Fixing r)) _ (ap (option_map Sym) bound.symbols.accepted) refl (ap (option_map Lay) lay) (ap (option_map Fixing) e) refl

pub entry-refused : (input : LinkInput) (p : Plan) (r : EntryRefusal) → IsPlanned input p → export_refusal p.image.exports ≡ Some r → RefusesLink input (Entry r)
entry-refused input p r h e =
    later-refused input p.syms (Entry r) h.bound h.joined
    (refusal_is (link_of (Kept input) p.syms.chosen) None None None None (Some (Entry r)) (ap (option_map Sym) h.bound.symbols.accepted) refl (ap (option_map Lay) h.planned.lay) (ap (option_map Fixing) h.planned.place) (ap (option_map Entry) (sym h.planned.entries ∙ e)))

pub accepted : (input : LinkInput) (p : Plan) → IsPlanned input p → export_refusal p.image.exports ≡ None → link_refusal (link_of (Kept input) p.syms.chosen) ≡ None
accepted input p h e =
    refusal_is (link_of (Kept input) p.syms.chosen) None None None None None (ap (option_map Sym) h.bound.symbols.accepted) refl (ap (option_map Lay) h.planned.lay) (ap (option_map Fixing) h.planned.place) (ap (option_map Entry) (sym h.planned.entries ∙ e))

-- The plan of the link of what is kept is that of the input.
pub plan-of-kept : (input kept : LinkInput) (s : SymbolTable) (made : PlacedImage) → kept ≡ Kept input → IsBound kept s → comdat_refusal input s.chosen ≡ None → IsPlannedLink (link_of kept s.chosen) (plan_with s made) → IsPlanned input (plan_with s made)
plan-of-kept input kept s made is bound joined h = record {
  bound = subst (λ (k : LinkInput). IsBound k s) is bound;
  joined = joined;
  planned = subst (λ (k : LinkInput). IsPlannedLink (link_of k s.chosen) (plan_with s made)) is h;
}

pub kept-refused : (input kept : LinkInput) (s : SymbolTable) (r : LinkRefusal) → kept ≡ Kept input → IsBound kept s → comdat_refusal input s.chosen ≡ None → link_refusal (link_of kept s.chosen) ≡ Some r → RefusesLink input r
kept-refused input kept s r is bound joined e =
    later-refused input s r (subst (λ (k : LinkInput). IsBound k s) is bound) joined (subst (λ (k : LinkInput). link_refusal (link_of k s.chosen) ≡ Some r) is e)

-- ---- failures that are passed on as those of the link

pub failed-by : {A B R S : Type 0} (r : Result A (Fail R)) (fail : Fail R) (given : Fail S) (told : R → S) (P : A → Type 0) (Q : R → Type 0) (P' : B → Type 0) (Q' : S → Type 0)
    → IsFailedAs (λ e t. t ≡ told e) fail given → r ≡ Err fail → ((e : R) → Q e → Q' (told e)) → Answers r P Q → Answers {A = B} (Err given) P' Q'
failed-by {A} {B} {R} {S} r fail given told P Q P' Q' is was f h =
    passed fail given is (subst (λ (x : Result A (Fail R)). Answers x P Q) was h)
  where
    passed : (fail : Fail R) (given : Fail S) → IsFailedAs (λ e t. t ≡ told e) fail given → Answers {A = A} (Err fail) P Q → Answers {A = B} (Err given) P' Q'
    passed (Said e) (Said t) same g = subst Q' (sym same) (f e g)
    passed NoMemory NoMemory same g = tt
    passed (Said e) NoMemory same g = absurd same
    passed NoMemory (Said t) same g = absurd same

-- ---- the file

pub file-of-plan : (input : LinkInput) (p : Plan) (file : List ℕ) → LinkImagesAreWritten → IsPlanned input p → file ≡ file_of (image_value p.image) → file ≡ file_of (image_of (link_of (Kept input) p.syms.chosen))
file-of-plan input p file law h e = e ∙ ap file_of (law (link_of (Kept input) p.syms.chosen) p.image h.planned.image)

pub linked-is : (input : LinkInput) (p : Plan) (file : List ℕ) (linked : Linked) → LinkImagesAreWritten → IsPlanned input p → export_refusal p.image.exports ≡ None → file ≡ file_of (image_value p.image) → IsLinkedImage p.image file linked → IsLinked input linked
linked-is input p file linked law h none e is =
    let l : Link = link_of (Kept input) p.syms.chosen in
    let image = h.planned.image in
    record {
      link = l;
      of_input = record { picks = p.syms.chosen; chosen = h.bound.chosen; same = joined-is input p.syms.chosen h.joined };
      accepted = accepted input p h none;
      file = is.file ∙ file-of-plan input p file law h e;
      name = is.name ∙ ap uppercase image.name;
      objects = is.objects ∙ ap (λ (os : List LaidObject). length os) image.objects;
      pages = is.pages ∙ ap (λ (xss : List (List (List Fix))). sum_by length xss) image.fixes ∙ pages-are l;
      sources = is.sources ∙ ap (λ (xss : List (List (List Fix))). sum_by (λ pages. sum_by length pages) xss) image.fixes ∙ sources-are l;
    }

pub file-alone : (input : LinkInput) (linked : Linked) (file : List ℕ) → file ≡ linked.file → IsLinked input linked → IsLinkedFile input file
file-alone input linked file e h = record { link = h.link; of_input = h.of_input; accepted = h.accepted; file = e ∙ h.file }
