use Rattle.std.proofs.Common.{◌≡◌, ◌++◌, take, drop}
use Rattle.load_model.specs.Initialising.{before_number}
use Rattle.residence_table.proofs.failing.before.Given as goal

-- Those so far are before it, and so are those of the rest that are before it there.
abbrev pub invariant-loop-place : goal.invariant-loop-place
invariant-loop-place l = before_number l.by l.modules ≡ take l.place l.modules ++ before_number l.by (drop l.place l.modules)
