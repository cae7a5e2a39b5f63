-- What one more place of a walk along forwarders gives.
use Rattle.std.proofs.Common.{◌≡◌, ℕ, suc, zero, ◌-◌, ◌<◌, ◌∙◌, List, Option, Some, None, Result, Ok, Err, ap, sym, refl, arith}
use Rattle.lx_types.specs.declared.parts.Parts.{Parts}
use Rattle.lx_types.specs.declared.entry.EntryHead.{EntryHead}
use Rattle.lx_types.specs.declared.entry.EntryHead.TheVariants.{At, Gate286, Forward}
use Rattle.lx_types.specs.Parts.{entry_of}
use Rattle.lx_model.specs.declared.library.Spot.{Spot}
use Rattle.lx_model.specs.declared.library.EntryFault.{EntryFault}
use Rattle.lx_model.specs.declared.library.EntryFault.TheVariants as faults
use Rattle.lx_model.specs.Library.{module_of}
use Rattle.lx_model.specs.Entries.{OrdinalOf, spot, fails, forwards, place_or_none, followed, import_place}

-- what stands at a place
abbrev pub head_of : List Parts → OrdinalOf → Option EntryHead
head_of lib place = entry_of (module_of lib place.0).entries place.1

-- what the walk gives that stops here, or goes on
abbrev pub after_place : ℕ → List Parts → Option OrdinalOf → Result Spot EntryFault
after_place n lib (Some next) = followed n lib next
after_place n lib None = Err faults.NoEntry

abbrev pub after_head : ℕ → List Parts → OrdinalOf → Option EntryHead → Result Spot EntryFault
after_head n lib place None = Err faults.NoEntry
after_head n lib place (Some (At object offset)) = Ok (record { «module» = place.0; object = object; offset = offset })
after_head n lib place (Some (Gate286 object offset)) = Err faults.Gate286
after_head n lib place (Some (Forward import key)) = after_place n lib (import_place lib place.0 import key)

forwarded : (n : ℕ) (lib : List Parts) (next : Option OrdinalOf) →
    (elim (place_or_none next) [ spot s ↦ Ok s | fails e ↦ Err e | forwards place ↦ followed n lib place ]) ≡ after_place n lib next
forwarded n lib (Some place) = refl
forwarded n lib None = refl

pub followed-suc : (n : ℕ) (lib : List Parts) (place : OrdinalOf) (head : Option EntryHead) → head_of lib place ≡ head → followed (suc n) lib place ≡ after_head n lib place head
unfolding followed
followed-suc n lib place None is = rw (followed, is) refl
followed-suc n lib place (Some (At object offset)) is = rw (followed, is) refl
followed-suc n lib place (Some (Gate286 object offset)) is = rw (followed, is) refl
followed-suc n lib place (Some (Forward import key)) is = rw (followed, is) (forwarded n lib (import_place lib place.0 import key))

-- the same for a number of places that is not 0
pub followed-some : (n : ℕ) (lib : List Parts) (place : OrdinalOf) (head : Option EntryHead) → 0 < n → head_of lib place ≡ head → followed n lib place ≡ after_head (n - 1) lib place head
followed-some zero lib place head some is = absurd (omega (arith, some))
followed-some (suc n) lib place head some is =
    let less : suc n - 1 ≡ n = omega arith in
    followed-suc n lib place head is ∙ ap (λ k. after_head k lib place head) (sym less)
