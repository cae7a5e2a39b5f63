-- The records of a page as they are read, and the targets outside the module's own objects as they are listed.
use Rattle.std.specs.Prelude.{◌≡◌, ◌&&◌, not, List, [], ◌∷◌, ◌++◌, map, fold, Option, Some, None, Result, Ok, Err, if◌then◌else◌}
use Rattle.std.specs.List.{list_any}
use Rattle.lx_types.specs.declared.fail.Fail.{Fail}
use Rattle.lx_types.specs.Answers.{if_said}
use Rattle.lx_types.specs.declared.fix.FixTarget.{FixTarget}
use Rattle.lx_types.specs.declared.refusal.LxRefusal.{LxRefusal}
use Rattle.lx_types.specs.declared.refusal.LxKind.TheVariants.{BadTarget}
use Rattle.lx_model.specs.Reading.{fault, first, ◌then◌}
use Rattle.lx_model.specs.Judging.{IsFault}
use Rattle.lx_model.specs.Module.{Targets, is_target, same_target, is_reference}
use Rattle.lx_fixrec.specs.Left.{Placed, Left}

-- targets with one more, where it is a reference that is not among them, and with others one by one
abbrev pub with_target : List FixTarget → FixTarget → List FixTarget
with_target ts t = if is_reference t && not (list_any (λ u. same_target u t) ts) then ts ++ t ∷ [] else ts

abbrev pub with_targets : List FixTarget → List FixTarget → List FixTarget
with_targets ts us = fold with_target ts us

-- what is wrong with a source, and with the sources that are left
abbrev pub source_fault : Targets → Placed → Option LxRefusal
source_fault within s = if is_target within s.1.target then None else Some (fault BadTarget s.0)

abbrev pub left_fault : Targets → Left → Option LxRefusal
left_fault within left = first (map (source_fault within) left.items) then left.end

abbrev pub left_targets : Left → List FixTarget
left_targets left = map (λ s. s.1.target) left.items

-- What a call answers that adds the targets of a page's sources. Want of memory is free.
abbrev pub AddsPage : Result (Unit {0}) (Fail LxRefusal) → Targets → Left → List FixTarget → List FixTarget → Type 0
AddsPage (Ok done) within left old new = (left_fault within left ≡ None) × (new ≡ with_targets old (left_targets left))
AddsPage (Err e) within left old new = IsFault (if_said e) (left_fault within left)
