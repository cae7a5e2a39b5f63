-- A view after a free or an exit of its own.
use Rattle.std.specs.Prelude.{◌≡◌, ℕ, ◌==◌, not, List, [], ◌∷◌, ◌++◌, filter, find, length, option_map}
use Rattle.load_model.specs.declared.deeds.Deed.{Deed}
use Rattle.load_model.specs.declared.deeds.Deed.TheVariants as deeds
use Rattle.load_model.specs.declared.deeds.Entry.{Entry}
use Rattle.load_model.specs.declared.deeds.Fresh.{Fresh}
use Rattle.load_model.specs.Modules.{Library, Held}
use Rattle.load_model.specs.State.{Failing, Process, Eager, is_among, reaches, attached_residence}
use Rattle.load_model.specs.Leaving.{freeing, exiting, left_serials}
use Rattle.load_model.specs.TouchedPages.{touched_after}
use Rattle.load_model.specs.Histories.{state_after, Follows, Legal}
use Rattle.load_model.specs.ProcessCounts.{ProcessCounts, AreCountsOf}
use Rattle.load_model.specs.Views.{Mapped, Holding, mapped_pages, fresh_of, IsMapped, StandsFor}

-- The entry gives up a load, or all of them, and then the process is this one, before it leaves what it no longer reaches.
abbrev pub GivesUpTo : Deed → Process → Process → Type 0
GivesUpTo (deeds.Free m calls gone) before after = after ≡ freeing m before
GivesUpTo (deeds.Exit calls gone) before after = after ≡ exiting before
GivesUpTo deed before after = ⊥

-- the mapped pages that lie in no residence which such a process leaves
abbrev pub mapped_kept : Library → Eager → Process → List Mapped → List Mapped
mapped_kept lib e after pages = filter (λ (p : Mapped). not (is_among (left_serials lib e after) p.of.serial)) pages

-- They are those of modules that it still reaches.
abbrev pub KeptAreReached : Type 0
KeptAreReached =
    (lib : Library) (failing : Failing) (contents : Held) (h : List Entry) (x : Entry) (after : Process) (p : Mapped) → Legal lib failing contents h →
    Follows lib failing contents h x → GivesUpTo x.deed ((state_after lib failing h).processes x.pid) after →
    (it : IsMapped lib contents (state_after lib failing h) x.pid p) →
    not (is_among (left_serials lib (state_after lib failing h) after) p.of.serial) ≡ reaches lib after it.residence.«module»

-- So a view that has mapped what its process touched goes on to have.
abbrev pub KeptAreTouched : Type 0
KeptAreTouched =
    (lib : Library) (v : Holding) (e : Eager) (deed : Deed) (after : Process) → GivesUpTo deed (e.processes v.pid) after →
    mapped_pages (record v { mapped = mapped_kept lib e after v.mapped }) ≡ touched_after lib e v.pid deed (λ q. mapped_pages v) v.pid

-- After such an entry of its own a view stands with the counts and the residences that the process has then, and
-- with those pages.
abbrev pub StandsLeft : Type 0
StandsLeft =
    (lib : Library) (failing : Failing) (contents : Held) (v : Holding) (h : List Entry) (x : Entry) (after : Process)
    (counts : ProcessCounts) (residences : List Fresh) →
    Legal lib failing contents h → Follows lib failing contents h x → x.pid ≡ v.pid → GivesUpTo x.deed ((state_after lib failing h).processes v.pid) after →
    AreCountsOf lib ((state_after lib failing (h ++ x ∷ [])).processes v.pid) counts →
    ((k : ℕ) → find (λ s. s.«module» == k) residences ≡ option_map fresh_of (attached_residence lib (state_after lib failing (h ++ x ∷ [])) v.pid k)) →
    StandsFor lib failing contents v h →
    StandsFor lib failing contents
    (record v {
      ended = after.ended;
      counts = counts;
      residences = residences;
      mapped = mapped_kept lib (state_after lib failing h) after v.mapped;
      front = length
          (h ++ x ∷ []);
    })
    (h ++ x ∷ [])
