-- What a record of some fields adds.
use Rattle.std.proofs.Common.{◌≡◌, Result, Ok, Err, ◌∙◌}
use Rattle.obj_types.specs.declared.refusal.OmfRefusal.{OmfRefusal}
use Rattle.obj_types.specs.declared.parts.ObjParts.{ObjParts}
use Rattle.lx_types.specs.declared.fail.Fail.{Fail}
use Rattle.lx_types.specs.declared.fail.Fail.TheVariants.{Said}
use Rattle.lx_types.specs.Answers.{as_is, as_said, Gives}
use Rattle.omf_model.specs.Record.{Record}
use Rattle.omf_model.specs.Add.{add}
use Rattle.omf_model.specs.ReadAfter.{then_add}

-- what a call gave that is refused for a fault, within one that takes memory
pub said-gives : {A B F : Type 0} (view : A → B) (r : Result A F) (x : A) (read : Result B F) → Gives view as_is r read → Ok x ≡ as_said r → read ≡ Ok (view x)
said-gives view (Ok y) x read h is = let same : y ≡ x = cc in h ∙ (λ i. Ok (view (same i)))
said-gives {A} {B} {F} view (Err f) x read h is = absurd (let yes : Result A (Fail F) = Ok x in let no : yes ≡ Err (Said f) = is in cc)

-- what is added is that of the fields
pub added : {D : Type 0} (view : D → Record) (p : ObjParts) (d : D) (q : ObjParts) (read : Result Record OmfRefusal) → read ≡ Ok (view d) → add p (view d) ≡ q → then_add p read ≡ Ok q
added view p d q read found more = rw found (λ i. Ok (more i))
