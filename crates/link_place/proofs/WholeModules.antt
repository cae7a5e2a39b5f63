-- The modules of a whole input stand on locations that there are, and a link of its picks has them.
use Rattle.std.specs.Prelude.{◌≡◌, ◌<◌, List}
use Rattle.std.specs.List.{All}
use Rattle.std.proofs.Common.{sym, subst, ◌∙◌}
use Rattle.std.proofs.lemmas.List.Elements.{All-weaker}
use Rattle.obj_types.specs.declared.object.ObjModule.{ObjModule}
use Rattle.obj_types.specs.declared.object.FixAt.{FixAt}
use Rattle.obj_types.specs.declared.input.LinkInput.{LinkInput}
use Rattle.obj_types.specs.Input.{WholeInput}
use Rattle.obj_types.specs.Location.{location_len}
use Rattle.obj_types.specs.Whole.{WholeModule, WholeFix}
use Rattle.link_model.specs.declared.symbols.Pick.{Pick}
use Rattle.link_model.specs.declared.symbols.LaidObject.{LaidObject}
use Rattle.link_model.specs.Choosing.{modules_of}
use Rattle.link_model.specs.Link.{link_of}
use Rattle.link_model.proofs.ExportsStay.{chosen_are_whole}
use Rattle.link_types.specs.Symbols.{SymbolTable}
use Rattle.link_types.specs.Binding.{IsBound}
use Rattle.link_types.specs.declared.layout.Layout.{Layout}
use Rattle.link_types.specs.Layout.{IsLaidOut}
use Rattle.link_place.specs.Placing.{HasLocations, AreLaid}
use Rattle.link_place.proofs.Meanings.{has-meanings}

has_locations : (m : ObjModule) → WholeModule m → HasLocations m
has_locations m whole = All-weaker (WholeFix m) (λ (f : FixAt). 0 < location_len f.loc) (λ f w. w.location) m.fixes whole.fixes

pub all-located : (input : LinkInput) (picks : List Pick) (ms : List ObjModule) → WholeInput input → ms ≡ modules_of input picks → All HasLocations ms
all-located input picks ms whole is =
    subst (λ (xs : List ObjModule). All HasLocations xs) (sym is) (All-weaker WholeModule HasLocations has_locations (modules_of input picks) (chosen_are_whole input picks whole))

pub laid-by : (input : LinkInput) (s : SymbolTable) (layout : Layout) (ms : List ObjModule) (os : List LaidObject) → ms ≡ modules_of input s.chosen → os ≡ layout.objects → IsBound input s → IsLaidOut (link_of input s.chosen) layout
    → AreLaid (link_of input s.chosen) ms s layout.places os
laid-by input s layout ms os chosen lent bound laid = record {
  modules = sym chosen;
  meanings = has-meanings (link_of input s.chosen) s bound.symbols.meanings;
  imports = bound.symbols.imports;
  places = laid.places;
  objects = lent ∙ laid.objects;
}
