-- The sources of a page that may stand in one list, by what they share.
use Rattle.std.specs.Prelude.{◌≡◌, ℕ, Bool, false, List, ℤ, map, filter, not, ◌&&◌, ◌==◌, Option, Some}
use Rattle.lx_types.specs.declared.fix.Fix.{Fix}
use Rattle.lx_model.specs.Module.{same_target}
use Rattle.lx_model.specs.Sources.{code_of}
use Rattle.lx_model.specs.JoinedRecords.{crosses, same_alias}
use Rattle.lx_fixrec.specs.declared.lists.Shared.{Shared}
use Rattle.lx_fixrec.specs.declared.lists.Firsts.{Firsts}
use Rattle.indexmap.specs.IndexMap.{get}

abbrev pub shared_of : Fix → Shared
shared_of f = record { code = code_of f.source; alias = f.alias; target = f.target; additive = f.additive }

abbrev pub same_shared : Shared → Shared → Bool
same_shared a b = a.code == b.code && (same_alias a.alias b.alias && (same_target a.target b.target && a.additive == b.additive))

-- the source lies within its page and shares this
abbrev pub is_with : Shared → Fix → Bool
is_with k f = same_shared k (shared_of f) && not (crosses f)

-- the offsets of the sources that share this and lie within their page
abbrev pub offsets_with : Shared → List Fix → List ℤ
offsets_with k fixes = map (λ f. f.offset) (filter (is_with k) fixes)

-- the place of the first of the sources that share this
abbrev pub first_in : Firsts → Shared → Option ℕ
first_in l k = get same_shared l.places k

-- a call that puts the place of a source that shares this
pub record Puts (old : Firsts) (k : Shared) (place : ℕ) (before : Option ℕ) (new : Firsts) : Type 0 where
  pub before_is : before ≡ first_in old k
  pub put : first_in new k ≡ Some place
  pub others : (q : Shared) → same_shared k q ≡ false → first_in new q ≡ first_in old q
