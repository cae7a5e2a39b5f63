-- By the places of a link its fixups are those of the rules.
use Rattle.std.specs.Prelude.{◌≡◌, ℕ, List, [], ◌∷◌, ◌++◌, Option, Some, None, refl}
use Rattle.std.specs.Option.{option_map, option_and_then}
use Rattle.std.specs.List.{filter_map, cons_option, flat_map, enumerate_from}
use Rattle.std.proofs.Common.{ap, sym, ◌∙◌}
use Rattle.obj_types.specs.Items.{item}
use Rattle.obj_types.specs.declared.object.FixAt.{FixAt}
use Rattle.obj_types.specs.declared.object.ObjModule.{ObjModule}
use Rattle.obj_types.specs.declared.object.Frame.{Frame}
use Rattle.obj_types.specs.declared.object.Frame.TheVariants as frames
use Rattle.obj_types.specs.declared.object.Goal.{Goal}
use Rattle.obj_types.specs.declared.object.Goal.TheVariants as goals
use Rattle.obj_types.specs.declared.symbol.Ext.{Ext}
use Rattle.link_model.specs.declared.symbols.SymDef.{SymDef}
use Rattle.link_model.specs.declared.symbols.SymDef.TheVariants as means
use Rattle.link_model.specs.Link.{Link, chosen_module}
use Rattle.link_model.specs.Symbols.{Sym}
use Rattle.link_model.specs.Goals.{Target, internal, shifted, of_symbol, of_external, object_of_group, group_name, target_of, location, object_of_frame, object_of_target}
use Rattle.link_model.specs.Fixups as rules
use Rattle.link_types.specs.Symbols.{SymbolTable}
use Rattle.link_types.specs.declared.places.Places.{Places}
use Rattle.link_types.specs.Places.{ArePlaces}
use Rattle.link_place.specs.Meanings.{HasMeanings}
use Rattle.link_place.specs.Fixed.{symbol_at, external_at, group_target, target_at, location_at, frame_at, fixup_at, fixups_in}

pub symbol_is : (l : Link) (p : Places) (d : SymDef) → ArePlaces l p → symbol_at p d ≡ of_symbol l d
symbol_is l p (means.In n seg offset) are = ap (λ (q : Option (ℕ × ℕ)). internal (option_map (shifted offset) q)) (are.spots n seg)
symbol_is l p (means.Const value) are = refl
symbol_is l p (means.Common slot) are = ap internal (are.commons slot)
symbol_is l p (means.Import slot) are = refl

pub symbols_are : (l : Link) (p : Places) (o : Option SymDef) → ArePlaces l p → option_and_then (symbol_at p) o ≡ option_and_then (of_symbol l) o
symbols_are l p None are = refl
symbols_are l p (Some d) are = symbol_is l p d are

chained_ext : (l : Link) (n : ℕ) (o : Option Ext) → option_and_then (of_symbol l) (option_and_then (Sym l n) o) ≡ option_and_then (λ e. option_and_then (of_symbol l) (Sym l n e)) o
chained_ext l n None = refl
chained_ext l n (Some e) = refl

chained : (l : Link) (n index : ℕ) (o : Option ObjModule) → option_and_then (of_symbol l) (option_and_then (λ m. option_and_then (Sym l n) (item m.exts index)) o)
    ≡ option_and_then (λ m. option_and_then (λ e. option_and_then (of_symbol l) (Sym l n e)) (item m.exts index)) o
chained l n index None = refl
chained l n index (Some m) = chained_ext l n (item m.exts index)

external_is : (l : Link) (p : Places) (s : SymbolTable) (n index : ℕ) → ArePlaces l p → HasMeanings l s → external_at p s n index ≡ of_external l n index
external_is l p s n index are means =
    symbols_are l p (option_and_then (λ row. item row index) (item s.meanings n)) are
    ∙ ap (option_and_then (of_symbol l)) (means n index)
    ∙ chained l n index (chosen_module l n)

grouped : (f : List ℕ → Option ℕ) (g : Option ℕ → Target) (o : Option (List ℕ)) → option_map g (option_map f o) ≡ option_map (λ x. g (f x)) o
grouped f g None = refl
grouped f g (Some x) = refl

pub target_is : (l : Link) (p : Places) (s : SymbolTable) (n : ℕ) (goal : Goal) → ArePlaces l p → HasMeanings l s → target_at p s n goal ≡ target_of l n goal
unfolding target_of
target_is l p s n (goals.Seg index) are means = ap internal (are.spots n index)
target_is l p s n (goals.Ext index) are means = external_is l p s n index are means
target_is l p s n (goals.Group index) are means =
    ap (option_map group_target) (are.groups n index) ∙ grouped (object_of_group l) group_target (group_name l n index)

unwrapped : (f : List ℕ → Option ℕ) (o : Option (List ℕ)) → option_and_then (λ (x : Option ℕ). x) (option_map f o) ≡ option_and_then f o
unwrapped f None = refl
unwrapped f (Some x) = refl

frame_is : (l : Link) (p : Places) (s : SymbolTable) (n : ℕ) (f : FixAt) (frame : Frame) → ArePlaces l p → HasMeanings l s → frame_at p s n f frame ≡ object_of_frame l n f frame
frame_is l p s n f (frames.Seg index) are means = ap (option_map (λ (q : ℕ × ℕ). q.0)) (are.spots n index)
frame_is l p s n f (frames.Group index) are means =
    ap (option_and_then (λ (x : Option ℕ). x)) (are.groups n index) ∙ unwrapped (object_of_group l) (group_name l n index)
frame_is l p s n f (frames.Ext index) are means = ap (option_and_then object_of_target) (external_is l p s n index are means)
frame_is l p s n f frames.Here are means = ap (option_map (λ (q : ℕ × ℕ). q.0)) (are.spots n f.seg)
frame_is l p s n f frames.OfTarget are means = refl

location_is : (l : Link) (p : Places) (n : ℕ) (f : FixAt) → ArePlaces l p → location_at p n f ≡ location l n f
location_is l p n f are = ap (option_map (shifted f.offset)) (are.spots n f.seg)

-- A fixup, by its frame's object, its place and its target.
abbrev made : ℕ → ObjModule → FixAt → Option ℕ → Option (ℕ × ℕ) → Option Target → Option rules.Fixup
made n m f frame place target =
    option_and_then
    (λ t. option_map
    (λ q. record { by = n; fix = f; object = q.0; offset = q.1; narrow = rules.is_narrow m f.seg; target = t; frame = frame; standing = rules.standing_in m f }) place)
    target

fixup_is : (l : Link) (p : Places) (s : SymbolTable) (n : ℕ) (m : ObjModule) (f : FixAt) → ArePlaces l p → HasMeanings l s → fixup_at p s n m f (rules.standing_in m f) ≡ rules.fixup_of l n m f
fixup_is l p s n m f are means =
    ap (λ (o : Option ℕ). made n m f o (location_at p n f) (target_at p s n f.goal)) (frame_is l p s n f f.frame are means)
    ∙ ap (λ (q : Option (ℕ × ℕ)). made n m f (object_of_frame l n f f.frame) q (target_at p s n f.goal)) (location_is l p n f are)
    ∙ ap (made n m f (object_of_frame l n f f.frame) (location l n f)) (target_is l p s n f.goal are means)

picked_same : (f g : FixAt → Option rules.Fixup) (xs : List FixAt) → ((x : FixAt) → f x ≡ g x) → filter_map f xs ≡ filter_map g xs
picked_same f g [] same = refl
picked_same f g (x ∷ xs) same =
    ap (λ (o : Option rules.Fixup). cons_option o (filter_map f xs)) (same x) ∙ ap (λ (ys : List rules.Fixup). cons_option (g x) ys) (picked_same f g xs same)

in_modules : (l : Link) (p : Places) (s : SymbolTable) (ms : List (ℕ × ObjModule)) → ArePlaces l p → HasMeanings l s → flat_map (λ q. fixups_in p s q.0 q.1) ms ≡ flat_map (λ q. filter_map (rules.fixup_of l q.0 q.1) q.1.fixes) ms
in_modules l p s [] are means = refl
in_modules l p s (q ∷ ms) are means =
    let here : fixups_in p s q.0 q.1 ≡ filter_map (rules.fixup_of l q.0 q.1) q.1.fixes = picked_same (λ f. fixup_at p s q.0 q.1 f (rules.standing_in q.1 f)) (rules.fixup_of l q.0 q.1) q.1.fixes (λ f. fixup_is l p s q.0 q.1 f are means) in
    ap (λ (qs : List rules.Fixup). qs ++ flat_map (λ q. fixups_in p s q.0 q.1) ms) here
    ∙ ap (λ (rest : List rules.Fixup). filter_map (rules.fixup_of l q.0 q.1) q.1.fixes ++ rest) (in_modules l p s ms are means)

pub fixups-are : (l : Link) (p : Places) (s : SymbolTable) (ms : List ObjModule) (found : List rules.Fixup) → l.modules ≡ ms → ArePlaces l p → HasMeanings l s → found ≡ flat_map (λ q. fixups_in p s q.0 q.1) (enumerate_from 1 ms) → found ≡ rules.fixups l
unfolding rules.fixups
fixups-are l p s ms found of are means is =
    is ∙ in_modules l p s (enumerate_from 1 ms) are means
    ∙ ap (λ (xs : List ObjModule). flat_map (λ q. filter_map (rules.fixup_of l q.0 q.1) q.1.fixes) (enumerate_from 1 xs)) (sym of)
