-- What is known of the link of an input that links.
use Rattle.std.specs.Prelude.{◌≡◌, ◌≢◌, List, [], ◌∷◌, Option, Some, None, slice_get, if◌then◌else◌, true, false, Bool, ℕ, refl}
use Rattle.std.specs.List.{cons_option, AllByRecursion}
use Rattle.std.specs.Option.{option_map}
use Rattle.std.proofs.Common.{sym, subst}
use Rattle.lx_types.specs.Names.{IsName}
use Rattle.obj_types.specs.Definition.{WholeDef}
use Rattle.obj_types.specs.declared.object.ObjModule.{ObjModule}
use Rattle.obj_types.specs.declared.input.LinkInput.{LinkInput}
use Rattle.link_model.specs.declared.symbols.Pick.{Pick}
use Rattle.link_model.specs.declared.refusals.LinkRefusal.TheVariants.{Sym, Comdat, Lay, Fixing, Entry}
use Rattle.link_model.specs.Words.{first_of}
use Rattle.link_model.specs.Choosing.{module_of, modules_of}
use Rattle.link_model.specs.Kept.{Kept}
use Rattle.link_model.specs.Link.{Link, kept_link}
use Rattle.link_model.specs.SymbolRefusals.{sym_refusal}
use Rattle.link_model.specs.LayoutRefusals.{lay_refusal}
use Rattle.link_model.specs.Exports.{entry_refusal}
use Rattle.link_model.specs.Refusal.{place_refusal, link_refusal}
use Rattle.link_model.specs.NothingDropped.{WholeLink}
use Rattle.link_model.proofs.Members.{all_in, in_at}
use Rattle.link_model.proofs.ExternalsMean.{neither, not_mapped}
use Rattle.link_model.proofs.ExportsStay.{chosen_are_whole}
use Rattle.link_model.proofs.KeptWhole.{kept_is_whole}
use Rattle.layer_laws.specs.Ranges.{ModuleInRange, DefInRange, InputInRange}
use Rattle.layer_laws.specs.LinkedImages.{Links}
use Rattle.layer_laws.proofs.KeptInputs.{kept_in_range}

-- The link's modules and definitions are whole and have the numbers of their types, and it is not refused.
pub record Given (l : Link) : Type 0 where
  pub whole : WholeLink l
  pub def : WholeDef l.def
  pub stem : l.stem ≢ []
  pub modules_range : AllByRecursion ModuleInRange l.modules
  pub def_range : DefInRange l.def
  pub stem_range : IsName l.stem
  pub sym_none : sym_refusal l ≡ None
  pub lay_none : lay_refusal l ≡ None
  pub place_none : place_refusal l ≡ None
  pub entry_none : entry_refusal l ≡ None

-- ---- the chosen modules of an input

picked_by : (input : LinkInput) (lib : Bool) (index : ℕ) (m : ObjModule) → InputInRange input → slice_get (if lib then input.libs else input.objects) index ≡ Some m → ModuleInRange m
picked_by input true index m range e = all_in ModuleInRange input.libs range.libs (in_at input.libs index m e)
picked_by input false index m range e = all_in ModuleInRange input.objects range.objects (in_at input.objects index m e)

more : (o : Option ObjModule) (ms : List ObjModule) → ((m : ObjModule) → o ≡ Some m → ModuleInRange m) → AllByRecursion ModuleInRange ms → AllByRecursion ModuleInRange (cons_option o ms)
more None ms h rest = rest
more (Some m) ms h rest = (h m refl, rest)

picks_in_range : (input : LinkInput) (picks : List Pick) → InputInRange input → AllByRecursion ModuleInRange (modules_of input picks)
picks_in_range input [] range = tt
picks_in_range input (pick ∷ picks) range =
    more (module_of input pick) (modules_of input picks) (λ m e. picked_by input pick.lib pick.index m range e) (picks_in_range input picks range)

-- ---- no refusal

record NoRefusal (l : Link) : Type 0 where
  sym_none : sym_refusal l ≡ None
  clash_none : l.clash ≡ None
  lay_none : lay_refusal l ≡ None
  place_none : place_refusal l ≡ None
  entry_none : entry_refusal l ≡ None

none_of : (l : Link) → link_refusal l ≡ None → NoRefusal l
unfolding link_refusal
none_of l e =
    let first = neither (option_map Sym (sym_refusal l)) (first_of (option_map Comdat l.clash ∷ option_map Lay (lay_refusal l) ∷ option_map Fixing (place_refusal l) ∷ option_map Entry (entry_refusal l) ∷ [])) e in
    let second = neither (option_map Comdat l.clash) (first_of (option_map Lay (lay_refusal l) ∷ option_map Fixing (place_refusal l) ∷ option_map Entry (entry_refusal l) ∷ [])) first.1 in
    let third = neither (option_map Lay (lay_refusal l)) (first_of (option_map Fixing (place_refusal l) ∷ option_map Entry (entry_refusal l) ∷ [])) second.1 in
    let fourth = neither (option_map Fixing (place_refusal l)) (first_of (option_map Entry (entry_refusal l) ∷ [])) third.1 in
    let fifth = neither (option_map Entry (entry_refusal l)) (first_of []) fourth.1 in
    record {
      sym_none = not_mapped Sym (sym_refusal l) first.0;
      clash_none = not_mapped Comdat l.clash second.0;
      lay_none = not_mapped Lay (lay_refusal l) third.0;
      place_none = not_mapped Fixing (place_refusal l) fourth.0;
      entry_none = not_mapped Entry (entry_refusal l) fifth.0;
    }

-- ---- the link

given_by : (input : LinkInput) (picks : List Pick) → (links : Links input (kept_link input picks)) → Given (kept_link input picks)
unfolding Kept
given_by input picks links =
    let none = none_of (kept_link input picks) links.accepted in
    record {
      whole = chosen_are_whole (Kept input) picks (kept_is_whole input links.whole);
      def = links.whole.def;
      stem = links.whole.stem;
      modules_range = picks_in_range (Kept input) picks (kept_in_range input links.range);
      def_range = links.range.def;
      stem_range = links.range.stem;
      sym_none = none.sym_none;
      lay_none = none.lay_none;
      place_none = none.place_none;
      entry_none = none.entry_none;
    }

pub given : (input : LinkInput) (l : Link) → Links input l → Given l
given input l links =
    let picks = links.of_input.picks in
    let same = links.of_input.same in
    subst Given (sym same) (given_by input picks (subst (λ (k : Link). Links input k) same links))
