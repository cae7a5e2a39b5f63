-- What an entry of another process leaves to a process.
use Rattle.std.specs.Prelude.{◌≡◌, ℕ, ◌==◌, List, true, false, is_some}
use Rattle.load_model.specs.declared.deeds.Entry.{Entry}
use Rattle.load_model.specs.Modules.{Library, Held}
use Rattle.load_model.specs.State.{Failing, Eager, pids, is_among, reaches, residence_of}
use Rattle.load_model.specs.Memory.{bases_seen}
use Rattle.load_model.specs.Histories.{after_entry, state_after, Follows, Legal}
use Rattle.load_model.specs.Laws.{unwritten_of}

-- Two states that a process cannot tell apart: it is the same, and so are the residences that it reaches, but
-- for the writes that are shared.
pub record Alike (lib : Library) (e after : Eager) (q : ℕ) : Type 0 where
  pub process : after.processes q ≡ e.processes q
  pub residences : (m : ℕ) → reaches lib (e.processes q) m ≡ true → unwritten_of (residence_of after m) ≡ unwritten_of (residence_of e m)

-- An entry of another process leaves such a state.
abbrev pub OthersLeaveAlike : Type 0
OthersLeaveAlike =
    (lib : Library) (failing : Failing) (contents : Held) (h : List Entry) (entry : Entry) (pid : ℕ) → Legal lib failing contents h →
    Follows lib failing contents h entry → is_among pids pid ≡ true →
    (pid == entry.pid) ≡ false → Alike lib (state_after lib failing h) (after_entry lib (state_after lib failing h) entry) pid

-- In such states it sees the same bases of what it reaches.
abbrev pub BasesAreAlike : Type 0
BasesAreAlike =
    (lib : Library) (e after : Eager) (pid m : ℕ) → Alike lib e after pid → reaches lib (e.processes pid) m ≡ true → bases_seen lib after m ≡ bases_seen lib e m

-- While a residence stands, its bases and those of what it reaches stay, whoever does what.
abbrev pub BasesSeenStay : Type 0
BasesSeenStay =
    (lib : Library) (failing : Failing) (contents : Held) (h : List Entry) (entry : Entry) (m : ℕ) → Legal lib failing contents h →
    Follows lib failing contents h entry →
    is_some (residence_of (state_after lib failing h) m) ≡ true → is_some (residence_of (after_entry lib (state_after lib failing h) entry) m) ≡ true →
    bases_seen lib (after_entry lib (state_after lib failing h) entry) m ≡ bases_seen lib (state_after lib failing h) m
