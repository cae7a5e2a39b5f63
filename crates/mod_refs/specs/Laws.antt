-- What holds of the counts of a legal history.
use Rattle.std.specs.Prelude.{List}
use Rattle.load_model.specs.declared.deeds.Entry.{Entry}
use Rattle.load_model.specs.Modules.{Library, Held}
use Rattle.load_model.specs.State.{Failing}
use Rattle.load_model.specs.Histories.{state_after, Legal}
use Rattle.load_model.specs.ProcessCounts.{ProcessCounts}
use Rattle.mod_refs.specs.AllCounts.{AreCountsOfAll, AreKept}

-- The counts of the processes of a legal history are those of processes that hold modules of the library, and no more loads of
-- each than they may.
abbrev pub LegalCountsAreKept : Type 0
LegalCountsAreKept =
    (lib : Library) (failing : Failing) (contents : Held) (h : List Entry) (all_counts : List ProcessCounts) → Legal lib failing contents h →
    AreCountsOfAll lib (state_after lib failing h) all_counts → AreKept lib all_counts
