-- From the places of a link to its pages.
use Rattle.std.specs.Prelude.{◌≡◌, ℕ, ◌+◌, ◌<◌, List, [], ◌∷◌, Option, Some, None, map}
use Rattle.std.specs.Option.{option_map, option_and_then, option_or}
use Rattle.std.specs.List.{All, filter_map, cons_option, flat_map, enumerate_from}
use Rattle.std.proofs.Common.{ap, ◌∙◌}
use Rattle.std.proofs.lemmas.List.Elements.{All-nil, All-cons, All-head, All-tail, All-append}
use Rattle.obj_types.specs.Location.{location_len}
use Rattle.obj_types.specs.declared.object.FixAt.{FixAt}
use Rattle.obj_types.specs.declared.object.ObjModule.{ObjModule}
use Rattle.link_model.specs.declared.refusals.FixRefusal.{FixRefusal}
use Rattle.link_model.specs.Link.{Link}
use Rattle.link_model.specs.Goals.{Target}
use Rattle.link_model.specs.Fixups as rules
use Rattle.link_model.specs.Start.{start_outside}
use Rattle.link_model.specs.Refusal.{place_refusal}
use Rattle.link_types.specs.Symbols.{SymbolTable}
use Rattle.link_fix.specs.declared.fixup.Fixup.{Fixup}
use Rattle.link_fix.specs.Shown.{shown}
use Rattle.link_fix.specs.Bare.{bare}
use Rattle.link_fix.specs.Values.{IsAccepted}
use Rattle.link_fix.proofs.AcceptedFixups.{OnLocation, bare-accepts}
use Rattle.link_types.specs.declared.places.Places.{Places}
use Rattle.link_place.specs.Fixed.{target_at, location_at, frame_at, fixup_at, fixups_in, fixups_by}
use Rattle.link_place.specs.Judged.{first_refusal}
use Rattle.link_place.specs.Placing.{HasLocations, fixup_refusal}
use Rattle.link_place.proofs.Judging.{first-append, or-none}

abbrev made : ℕ → ObjModule → FixAt → Option ℕ → Option (ℕ × ℕ) → Option Target → Option rules.Fixup
made n m f frame place target =
    option_and_then
    (λ t. option_map
    (λ q. record { by = n; fix = f; object = q.0; offset = q.1; narrow = rules.is_narrow m f.seg; target = t; frame = frame; standing = rules.standing_in m f }) place)
    target

one_located : (n : ℕ) (m : ObjModule) (f : FixAt) (frame : Option ℕ) (place : Option (ℕ × ℕ)) (target : Option Target) (rest : List rules.Fixup) → 0 < location_len f.loc → All OnLocation rest → All OnLocation (cons_option (made n m f frame place target) rest)
one_located n m f frame place None rest h all = all
one_located n m f frame None (Some t) rest h all = all
one_located n m f frame (Some q) (Some t) rest h all =
    All-cons OnLocation (record { by = n; fix = f; object = q.0; offset = q.1; narrow = rules.is_narrow m f.seg; target = t; frame = frame; standing = rules.standing_in m f }) rest h all

in_module : (p : Places) (s : SymbolTable) (n : ℕ) (m : ObjModule) (fs : List FixAt) → All (λ f. 0 < location_len f.loc) fs → All OnLocation (filter_map (λ f. fixup_at p s n m f (rules.standing_in m f)) fs)
in_module p s n m [] all = All-nil OnLocation
in_module p s n m (f ∷ fs) all =
    one_located n m f (frame_at p s n f f.frame) (location_at p n f) (target_at p s n f.goal) (filter_map (λ f. fixup_at p s n m f (rules.standing_in m f)) fs) (All-head (λ (x : FixAt). 0 < location_len x.loc) f fs all)
    (in_module p s n m fs (All-tail (λ (x : FixAt). 0 < location_len x.loc) f fs all))

in_modules : (p : Places) (s : SymbolTable) (b : ℕ) (ms : List ObjModule) → All HasLocations ms → All OnLocation (flat_map (λ q. fixups_in p s q.0 q.1) (enumerate_from b ms))
in_modules p s b [] all = All-nil OnLocation
in_modules p s b (m ∷ ms) all =
    All-append OnLocation (fixups_in p s b m) (flat_map (λ q. fixups_in p s q.0 q.1) (enumerate_from (b + 1) ms)) (in_module p s b m m.fixes (All-head HasLocations m ms all)) (in_modules p s (b + 1) ms (All-tail HasLocations m ms all))

-- What is left of the fixups of modules of which none is refused.
pub all-accepted : (p : Places) (s : SymbolTable) (ms : List ObjModule) (kept : List Fixup) → All HasLocations ms → first_refusal (fixups_by p s ms) ≡ None → map shown kept ≡ map bare (fixups_by p s ms) → All IsAccepted kept
all-accepted p s ms kept all none is = bare-accepts (fixups_by p s ms) kept none (in_modules p s 1 ms all) is

-- ---- refusals

refusal_is : (l : Link) → place_refusal l ≡ option_or (fixup_refusal l) (start_outside l)
unfolding place_refusal
refusal_is l = first-append (map rules.fix_refusal (rules.fixups l)) (start_outside l ∷ []) ∙ ap (option_or (fixup_refusal l)) (or-none (start_outside l))

pub refused-fixup : (l : Link) (r : FixRefusal) → fixup_refusal l ≡ Some r → place_refusal l ≡ Some r
refused-fixup l r e = refusal_is l ∙ ap (λ (o : Option FixRefusal). option_or o (start_outside l)) e

pub start-decides : (l : Link) (o : Option FixRefusal) → fixup_refusal l ≡ None → start_outside l ≡ o → place_refusal l ≡ o
start-decides l o none e = refusal_is l ∙ ap (λ (x : Option FixRefusal). option_or x (start_outside l)) none ∙ e
