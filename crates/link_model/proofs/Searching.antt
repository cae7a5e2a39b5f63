-- The first library module that is drawn.
use Rattle.std.specs.Prelude.{ℕ, Bool, true, not, ◌&&◌, List, Option, find}
use Rattle.std.specs.List.{enumerate_from}
use Rattle.std.specs.Option.{option_map}
use Rattle.obj_types.specs.declared.object.ObjModule.{ObjModule}
use Rattle.obj_types.specs.declared.input.LinkInput.{LinkInput}
use Rattle.link_model.specs.declared.symbols.Pick.{Pick}
use Rattle.link_model.specs.Choosing.{is_picked, is_drawn}

abbrev pub is_next : LinkInput → List Pick → ℕ × ObjModule → Bool
is_next input picks q = not (is_picked picks q.0) && is_drawn input picks q.1

abbrev pub next_from : LinkInput → List Pick → ℕ → List ObjModule → Option Pick
next_from input picks k ms = option_map (λ q. record { lib = true; index = q.0 }) (find (is_next input picks) (enumerate_from k ms))
