-- COMDATs of one name that may not stand for one another. "C2h COMDAT", the selection criteria.
use Rattle.std.specs.Prelude.{ℕ, ◌+◌, Bool, true, false, not, ◌||◌, List, [], ◌++◌, Option, None, map, length, take, if◌then◌else◌, ◌==◌}
use Rattle.std.specs.List.{find, position, flat_map, list_any, enumerate_from, range_with_len}
use Rattle.std.specs.Option.{option_map, option_and_then, option_map_or}
use Rattle.obj_types.specs.declared.object.Comdat.{Comdat}
use Rattle.obj_types.specs.declared.object.ObjModule.{ObjModule}
use Rattle.obj_types.specs.declared.object.Selection.{Selection}
use Rattle.obj_types.specs.declared.object.Selection.TheVariants.{NoMatch, Any, SameSize, Exact}
use Rattle.obj_types.specs.declared.input.LinkInput.{LinkInput}
use Rattle.obj_types.specs.Items.{item}
use Rattle.obj_types.specs.Data.{Data}
use Rattle.link_model.specs.declared.symbols.Pick.{Pick}
use Rattle.link_model.specs.declared.refusals.ComdatRefusal.{ComdatRefusal}
use Rattle.link_model.specs.declared.refusals.ComdatRefusal.TheVariants.{Clash}
use Rattle.link_model.specs.Words.{first_of}
use Rattle.link_model.specs.Choosing.{module_of}
use Rattle.link_model.specs.Kept.{shared, taken, is_called}

-- ---- two COMDATs

-- A COMDAT in its module.
pub record Owned : Type 0 where
  pub owner : ObjModule
  pub comdat : Comdat

abbrev pub len_of : Owned → ℕ
len_of x = option_map_or (λ s. s.len) (item x.owner.segs x.comdat.seg) 0

-- The byte at an offset, without fixups.
abbrev pub byte_of : Owned → ℕ → ℕ
byte_of x offset = Data x.owner x.comdat.seg offset

abbrev pub has_other_len : Owned → Owned → Bool
has_other_len x y = not (len_of x == len_of y)

abbrev pub has_other_byte : Owned → Owned → Bool
has_other_byte x y = list_any (λ offset. not (byte_of x offset == byte_of y offset)) (range_with_len 0 (len_of x))

-- The first may not stand for the second. The first one's selection says it.
abbrev pub refuses_by : Selection → Owned → Owned → Bool
refuses_by NoMatch first second = true
refuses_by Any first second = false
refuses_by SameSize first second = has_other_len first second
refuses_by Exact first second = has_other_len first second || has_other_byte first second

abbrev pub refuses : Owned → Owned → Bool
refuses first second = refuses_by first.comdat.selection first second

-- ---- a link. The modules of an input in its order: object files, then library modules.

abbrev pub all_modules : LinkInput → List ObjModule
all_modules input = input.objects ++ input.libs

abbrev pub place_of : LinkInput → Pick → ℕ
place_of input pick = if pick.lib then length input.objects + pick.index else pick.index

-- The COMDATs of a module, with its place.
abbrev pub owned_by : ℕ × ObjModule → List (ℕ × Owned)
owned_by q = map (λ c. (q.0, record { owner = q.1; comdat = c })) (shared q.1)

-- The COMDAT that stays of a name: the first, with the place of its module.
abbrev pub staying : LinkInput → List ℕ → Option (ℕ × Owned)
staying input name = find (λ x. is_called name x.1.comdat) (flat_map owned_by (enumerate_from 0 (all_modules input)))

-- The number of the chosen module at a place of the input. Numbers count from 1.
abbrev pub chosen_number : LinkInput → List Pick → ℕ → Option ℕ
chosen_number input picks place = option_map (λ k. k + 1) (position (λ pick. place_of input pick == place) picks)

-- The clash of a COMDAT of chosen module n with the one that stays, where the latter is in a chosen module too.
abbrev pub clash_with : LinkInput → List Pick → ℕ → Owned → ℕ × Owned → Option ComdatRefusal
clash_with input picks n own first =
    if refuses first.1 own then option_map (λ by. Clash own.comdat.name by n) (chosen_number input picks first.0) else None

abbrev pub clash_of : LinkInput → List Pick → ℕ → Owned → Option ComdatRefusal
clash_of input picks n own = option_and_then (clash_with input picks n own) (staying input own.comdat.name)

-- The clashes of the COMDATs of chosen module n that were taken out, in order.
abbrev pub clashes_in : LinkInput → List Pick → ℕ → ℕ → ObjModule → List (Option ComdatRefusal)
clashes_in input picks n place m =
    map (λ c. clash_of input picks n (record { owner = m; comdat = c })) (taken (take place (all_modules input)) m)

abbrev pub clashes_of : LinkInput → List Pick → ℕ × Pick → List (Option ComdatRefusal)
clashes_of input picks q = option_map_or (clashes_in input picks q.0 (place_of input q.1)) (module_of input q.1) []

-- The first clash, in order of chosen modules and of the COMDATs of each.
unfoldable pub comdat_refusal : LinkInput → List Pick → Option ComdatRefusal
comdat_refusal input picks = first_of (flat_map (clashes_of input picks) (enumerate_from 1 picks))
