-- What holds of the parts of every module: numbers name what is there, and places lie in the file.
use Rattle.std.specs.Prelude.{◌≡◌, ℕ, ◌+◌, ◌≤◌, ◌<◌, ◌^◌, ◌⊎◌, length, All, AllPairs, IfSome}
use Rattle.lx_types.specs.declared.object.ObjHead.{ObjHead}
use Rattle.lx_types.specs.declared.object.PageHead.{PageHead}
use Rattle.lx_types.specs.declared.object.PageKind.{PageKind}
use Rattle.lx_types.specs.declared.object.PageKind.TheVariants.{Plain, Iterated, Invalid, Zero}
use Rattle.lx_types.specs.declared.object.TheConstants.{PAGE_SIZE}
use Rattle.lx_types.specs.declared.entry.EntryHead.{EntryHead}
use Rattle.lx_types.specs.declared.entry.EntryHead.TheVariants.{At, Gate286, Forward}
use Rattle.lx_types.specs.declared.fix.FixTarget.{FixTarget}
use Rattle.lx_types.specs.declared.fix.FixTarget.TheVariants as targets
use Rattle.lx_types.specs.declared.parts.Parts.{Parts}

-- a number that counts from 1 and names one of so many
abbrev pub IsNumberOf : ℕ → ℕ → Type 0
IsNumberOf number count = (1 ≤ number) × (number ≤ count)

-- the object's pages are in a page table of this length
abbrev pub HasPages : ℕ → ObjHead → Type 0
HasPages table o = (o.count ≡ 0) ⊎ ((1 ≤ o.first) × (o.first + o.count ≤ table + 1))

-- how long the data of a page of this kind may be, and where data stands that is not there
abbrev pub KindFits : PageKind → ℕ → ℕ → Type 0
KindFits Plain at len = len ≤ PAGE_SIZE
KindFits Iterated at len = Unit {0}
KindFits Invalid at len = (at ≡ 0) × (len ≡ 0)
KindFits Zero at len = (at ≡ 0) × (len ≡ 0)

-- the page's data stands in a file of this length
abbrev pub DataFits : ℕ → PageHead → Type 0
DataFits file page = (page.at + page.len ≤ file) × KindFits page.kind page.at page.len

-- the entry names an object or an import that is there
abbrev pub HeadFits : ℕ → ℕ → EntryHead → Type 0
HeadFits objects imports (At object offset) = IsNumberOf object objects
HeadFits objects imports (Gate286 object offset) = IsNumberOf object objects
HeadFits objects imports (Forward import key) = IsNumberOf import imports

-- a target outside the module's own objects names an import or an ordinal
abbrev pub RefFits : ℕ → FixTarget → Type 0
RefFits imports (targets.Internal object offset) = ⊥
RefFits imports (targets.Ordinal import ordinal) = IsNumberOf import imports
RefFits imports (targets.Named import name_at) = IsNumberOf import imports
RefFits imports (targets.Own ordinal) = Unit {0}

-- The parts of a module fit each other: this much is so of whatever the format reads from a file.
pub record Sound (p : Parts) : Type 0 where
  -- a place in the file has 32 bits
  pub short : length p.file < 2 ^ 32
  pub start : IfSome p.start (λ s. IsNumberOf s.0 (length p.objects))
  pub objects : All (HasPages (length p.pages)) p.objects
  pub pages : All (DataFits (length p.file)) p.pages
  -- each page of the table has its fixup records, somewhere in the file
  pub spans : length p.fix_spans ≡ length p.pages
  pub records : All (λ s. (s.0 ≤ s.1) × (s.1 ≤ length p.file)) p.fix_spans
  -- the ordinals rise, so none has two entries
  pub ordinals : AllPairs (λ a b. a.0 < b.0) p.entries
  pub entries : All (λ e. HeadFits (length p.objects) (length p.imports) e.1) p.entries
  pub refs : All (RefFits (length p.imports)) p.refs
