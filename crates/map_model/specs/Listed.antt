-- What a map lists of a link: its contributions, its communals, and the publics of its modules, with their addresses where
-- the objects stand at their linked bases.
use Rattle.std.specs.Prelude.{ℕ, not, List, Option, Some, None, map, filter}
use Rattle.std.specs.List.{filter_map, enumerate_from}
use Rattle.std.specs.Option.{option_map_or, option_and_then}
use Rattle.lx_types.specs.Addresses.{address}
use Rattle.obj_types.specs.declared.object.Seg.{Seg}
use Rattle.obj_types.specs.declared.object.ObjModule.{ObjModule}
use Rattle.obj_types.specs.declared.symbol.Pub.{Pub}
use Rattle.obj_types.specs.Items.{item}
use Rattle.link_model.specs.declared.symbols.LaidObject.{LaidObject}
use Rattle.link_model.specs.Link.{Link, of_modules}
use Rattle.link_model.specs.Layout.{objects}
use Rattle.link_model.specs.Symbols.{at_place}
use Rattle.link_model.specs.Goals.{Target, Internal, Constant, Entry, of_symbol}

-- ---- addresses

-- The address of a place, which is an object's number and an offset in it, among objects at their linked bases.
abbrev pub address_among : List LaidObject → ℕ × ℕ → ℕ
address_among os place = address (option_map_or (λ o. o.base) (item os place.0) 0) place.1

abbrev pub address_at : Link → ℕ × ℕ → ℕ
address_at l place = address_among (objects l) place

-- ---- contributions

-- A segment of a chosen module; both count from 1.
pub record Contribution : Type 0 where
  pub by : ℕ
  pub index : ℕ
  pub seg : Seg

abbrev pub contribution : ℕ → ℕ × Seg → Contribution
contribution n q = record { by = n; index = q.0; seg = q.1 }

-- The segments of a module that are not debug.
abbrev pub contributions_in : ℕ → ObjModule → List Contribution
contributions_in n m = map (contribution n) (filter (λ q. not q.1.debug) (enumerate_from 1 m.segs))

abbrev pub contributions : Link → List Contribution
contributions l = of_modules l contributions_in

-- ---- publics

-- The publics of the chosen modules that are not local, each with its module's number.
abbrev pub publics : Link → List (ℕ × Pub)
publics l = of_modules l (λ n m. map (λ p. (n, p)) (filter (λ p. not p.local) m.pubs))

-- A name, with the address or the value for which it stands.
pub record Listed : Type 0 where
  pub number : ℕ
  pub name : List ℕ

-- A name that stands for a place, by its address.
abbrev pub placed : List LaidObject → List ℕ → Target → Option Listed
placed os name (Internal object offset) = Some (record { number = address_among os (object, offset); name = name })
placed os name (Constant value) = None
placed os name (Entry slot) = None

-- A name that stands for a number.
abbrev pub valued : List ℕ → Target → Option Listed
valued name (Internal object offset) = None
valued name (Constant value) = Some (record { number = value; name = name })
valued name (Entry slot) = None

-- What a public stands for.
abbrev pub meaning : Link → ℕ × Pub → Option Target
meaning l q = of_symbol l (at_place q.0 q.1.place)

-- The publics that have a place, and the others.
abbrev pub placed_publics : Link → List Listed
placed_publics l = filter_map (λ q. option_and_then (placed (objects l) q.1.name) (meaning l q)) (publics l)

abbrev pub constants : Link → List Listed
constants l = filter_map (λ q. option_and_then (valued q.1.name) (meaning l q)) (publics l)
