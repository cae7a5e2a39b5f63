-- What the readers of groups answer, against the definitions of iterated data.
use Rattle.std.specs.Prelude.{◌≡◌, ℕ, List, ◌++◌, length, Some, Result, Ok, Err}
use Rattle.lx_types.specs.declared.object.TheConstants.{PAGE_SIZE}
use Rattle.lx_types.specs.declared.refusal.LxRefusal.{LxRefusal}
use Rattle.lx_types.specs.declared.refusal.LxKind.TheVariants as kinds
use Rattle.lx_model.specs.Reading.{fault, ◌>>=◌, Many, whole}
use Rattle.lx_model.specs.Iterated as iterated
use Rattle.lx_model.specs.Iterated.{expansion, groups_data}
use Rattle.lx_model.specs.Packed.{filled, packed}
use Rattle.lx_iter.specs.declared.expansion.Group.{Group}
use Rattle.lx_iter.specs.declared.refusal.IterRefusal.{IterRefusal}
use Rattle.lx_iter.specs.declared.refusal.IterRefusal.TheVariants.{TooLong, Short}

-- what a refusal says is wrong, and where
abbrev pub refusal : IterRefusal → LxRefusal
refusal (TooLong at) = fault kinds.TooLong at
refusal (Short at) = fault kinds.Short at

-- a group that stands in the data
abbrev pub group_of : Group → iterated.Group
group_of g = record { times = g.times; bytes = g.bytes.now }

-- the page of iterated data
abbrev pub page_of : List ℕ → Result (List ℕ) LxRefusal
page_of bytes = expansion bytes >>= λ given. Ok (filled given)

-- What a call answers that writes the page of iterated data: the page is full, or the data has a fault.
abbrev pub Expands : Result (Unit {0}) IterRefusal → List ℕ → List ℕ → Type 0
Expands (Ok done) bytes page = page_of bytes ≡ Ok page
Expands (Err r) bytes page = expansion bytes ≡ Err (refusal r)

-- what groups give, after what is given before them
abbrev pub after_given : List ℕ → Many iterated.Group → Result (List ℕ) LxRefusal
after_given before groups = whole groups >>= λ gs. Ok (before ++ groups_data gs)

-- a law: what a page is packed to gives the page
abbrev pub PackedExpands : Type 0
PackedExpands = (page bytes : List ℕ) → length page ≡ PAGE_SIZE → packed page ≡ Some bytes → page_of bytes ≡ Ok page
