-- Sets of segments.
use Rattle.std.specs.Prelude.{◌≡◌, ℕ, Bool, List, map}
use Rattle.std.specs.Ordering.{nat_cmp}
use Rattle.std.specs.BTreeSet.{BTreeSet, contains}
use Rattle.std.proofs.Common.{ap}
use Rattle.obj_types.specs.declared.object.ObjModule.{ObjModule}
use Rattle.link_model.specs.Kept.{is_seg_of, without}
use Rattle.comdat_core.specs.declared.taking.Taken.{Taken}
use Rattle.comdat_core.specs.Taking.{comdat_of}
use Rattle.comdat_core.specs.Keeping.{without_taken}

-- A set of these segments serves in the place of the test.
pub without_set : (m : ObjModule) (out : List Taken) (gone : BTreeSet ℕ) → ((seg : ℕ) → contains nat_cmp gone seg ≡ is_seg_of (map comdat_of out) seg) → without (contains nat_cmp gone) m ≡ without_taken m out
without_set m out gone same = ap (λ (f : ℕ → Bool). without f m) (λ i seg. same seg i)
