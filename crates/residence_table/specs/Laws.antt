-- What holds of the residences of a legal history.
use Rattle.std.specs.Prelude.{List}
use Rattle.load_model.specs.declared.deeds.Entry.{Entry}
use Rattle.load_model.specs.Modules.{Library, Held}
use Rattle.load_model.specs.State.{Failing}
use Rattle.load_model.specs.Histories.{state_after, Legal}
use Rattle.residence_table.specs.Residences.{unwritten_residences}
use Rattle.residence_table.specs.Placing.{AreResidencesOf}

-- The residences of a legal history are of modules of the library, have bases in their arenas, and serial numbers of their own.
abbrev pub LegalResidencesStand : Type 0
LegalResidencesStand =
    (lib : Library) (failing : Failing) (contents : Held) (h : List Entry) → Legal lib failing contents h →
    AreResidencesOf lib (unwritten_residences (state_after lib failing h))
