-- The sources of a page, one after the other.
use Rattle.std.proofs.Common.{◌≡◌, List}
use Rattle.lx_types.specs.declared.fix.FixTarget.{FixTarget}
use Rattle.lx_model.specs.Module.{Targets}
use Rattle.lx_fixrec.specs.Left.{Left}
use Rattle.lx_read.specs.References.{with_targets, left_fault, left_targets}

-- what is left says what is wrong with all, and the targets so far with those that are left are all of them
pub record PageKept (within : Targets) (all : Left) (before : List FixTarget) (left : Left) (now : List FixTarget) : Type 0 where
  pub faults : left_fault within left ≡ left_fault within all
  pub listed : with_targets now (left_targets left) ≡ with_targets before (left_targets all)
