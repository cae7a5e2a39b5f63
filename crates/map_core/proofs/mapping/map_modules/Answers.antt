use Rattle.std.proofs.Common.{ℕ, List, ◌++◌, map, length, ap, ◌∙◌}
use Rattle.std.specs.List.{flat_map, enumerate_from}
use Rattle.obj_types.specs.declared.symbol.Common.{Common}
use Rattle.obj_types.specs.declared.symbol.Imp.{Imp}
use Rattle.link_model.specs.declared.symbols.LaidObject.{LaidObject}
use Rattle.map_model.specs.Lines.{map_line, object_line, public_line, constant_line, import_line}
use Rattle.map_core.specs.Shown.{by_address, by_name}
use Rattle.map_core.specs.Places.{common_text}
use Rattle.map_core.proofs.Assembled.{map-assembled}
use Rattle.map_core.proofs.mapping.map_modules.Goals as goal

pub returns : goal.returns
returns c =
    map-assembled c.args.name.now c.in_ok-upper.upper (map (λ m. m.now) c.args.modules.now) c.args.syms.now c.args.lay.now
    (map by_address c.in_ok-places.places.items) (map by_name c.in_ok-values.values.items)
    c.push_head.new.out.items c.push_objects.new.out.items c.push_modules.new.out.items c.push_commons.new.out.items c.push_places.new.out.items
    c.push_values.new.out.items c.push_imports.new.out.items c.in_ok-upper.ensures.letters c.in_ok-places.ensures c.in_ok-values.ensures
    (c.in_ok-push_head.ensures
    ∙ ap (λ (out : List ℕ). out ++ map_line c.in_ok-upper.upper (length c.objects-objects.result.now)) c.new-out.ensures.items
    ∙ ap (λ (os : List LaidObject). map_line c.in_ok-upper.upper (length os)) c.objects-objects.ensures)
    (c.in_ok-push_objects.ensures ∙ ap (λ (os : List LaidObject). c.push_head.new.out.items ++ flat_map object_line (enumerate_from 1 os)) c.objects-objects.ensures)
    c.in_ok-push_modules.ensures
    (c.in_ok-push_commons.ensures
    ∙ ap (λ (cs : List (List ℕ × Common)). c.push_modules.new.out.items ++ flat_map (common_text c.args.lay.now) (enumerate_from 0 cs)) c.commons.ensures)
    (c.in_ok-push_places.ensures ∙ ap (λ ps. c.push_commons.new.out.items ++ flat_map public_line (map by_address ps)) c.as_slice.ensures.value)
    (c.in_ok-push_values.ensures ∙ ap (λ vs. c.push_places.new.out.items ++ flat_map constant_line (map by_name vs)) c.as_slice-2.ensures.value)
    (c.in_ok-push_imports.ensures ∙ ap (λ (is : List Imp). c.push_values.new.out.items ++ flat_map import_line is) c.imports.ensures)
