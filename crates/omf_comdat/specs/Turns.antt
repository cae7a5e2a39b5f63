-- What a COMDAT record adds, in its two steps.
use Rattle.std.specs.Prelude.{◌≡◌, ℕ, [], ◌∷◌, ◌++◌}
use Rattle.obj_types.specs.declared.parts.ObjParts.{ObjParts}
use Rattle.omf_model.specs.Comdat.{ComDat, begun_with, data_with, is_begun, piece_with, public_with}
use Rattle.omf_model.specs.Items.{begun_names, name_with}
use Rattle.omf_model.specs.ReadComdat.{number_so_far}
use Rattle.omf_comdat.specs.declared.record.Turn.{Turn}

-- The record's segment, and whether its COMDAT has begun.
pub record IsTurn (p : ObjParts) (d : ComDat) (turn : Turn) : Type 0 where
  pub number : turn.number ≡ number_so_far p d
  pub begun : turn.has_begun ≡ is_begun (begun_names p.comdats) (name_with p.names d.name)

-- The COMDAT that begins, with its public.
abbrev pub with_begun : ObjParts → ℕ → ComDat → ObjParts
with_begun p number d = record p {
  «module» = record p.module { pubs = p.module.pubs ++ public_with number (name_with p.names d.name) d ∷ [] };
  comdats = p.comdats ++ begun_with p.module.segs (name_with p.names d.name) d ∷ [];
}

-- The data, to which later fixups refer.
abbrev pub with_data : ObjParts → ℕ → ComDat → ObjParts
with_data p number d = record p {
  «module» = record p.module { pieces = p.module.pieces ++ piece_with number d ∷ [] };
  last = data_with number d;
}
