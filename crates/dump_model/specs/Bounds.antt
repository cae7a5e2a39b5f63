-- The listings that have a dump: their numbers have 32 bits, and their names at most 255 bytes.
use Rattle.std.specs.Prelude.{◌≡◌, ℕ, ◌<◌, ◌^◌, List, length, IfSome, ℤ, pos, negsuc}
use Rattle.std.specs.List.{AllByRecursion}
use Rattle.lx_types.specs.Names.{IsName}
use Rattle.lx_types.specs.declared.object.PageKind.{PageKind}
use Rattle.lx_types.specs.declared.object.PageKind.TheVariants as kinds
use Rattle.lx_types.specs.declared.fix.FixTarget.{FixTarget}
use Rattle.lx_types.specs.declared.fix.FixTarget.TheVariants as targets
use Rattle.lx_types.specs.declared.fix.Fix.{Fix}
use Rattle.lx_types.specs.declared.entry.EntryHead.{EntryHead}
use Rattle.lx_types.specs.declared.entry.EntryHead.TheVariants as heads
use Rattle.lx_types.specs.declared.entry.FwdKey.{FwdKey}
use Rattle.lx_types.specs.declared.entry.FwdKey.TheVariants as keys
use Rattle.dump_model.specs.declared.listing.ListedObject.{ListedObject}
use Rattle.dump_model.specs.declared.listing.ListedPage.{ListedPage}
use Rattle.dump_model.specs.declared.listing.Listing.{Listing}

abbrev pub Has32 : ℕ → Type 0
Has32 n = n < 2 ^ 32

-- a number with a sign, of 32 bits
abbrev pub HasSigned32 : ℤ → Type 0
HasSigned32 (pos n) = n < 2 ^ 31
HasSigned32 (negsuc n) = n < 2 ^ 31

abbrev pub IsByte : ℕ → Type 0
IsByte b = b < 256

pub record IsListedName (name : List ℕ) : Type 0 where
  pub short : IsName name
  pub bytes : AllByRecursion IsByte name

abbrev pub IsPair : ℕ × ℕ → Type 0
IsPair p = Has32 p.0 × Has32 p.1

-- only a page that is plain or iterated has data
abbrev pub HasData : PageKind → ℕ → ℕ → Type 0
HasData kinds.Plain at len = Has32 at × Has32 len
HasData kinds.Iterated at len = Has32 at × Has32 len
HasData kinds.Invalid at len = (at ≡ 0) × (len ≡ 0)
HasData kinds.Zero at len = (at ≡ 0) × (len ≡ 0)

abbrev pub IsTarget : FixTarget → Type 0
IsTarget (targets.Internal object offset) = Has32 object × Has32 offset
IsTarget (targets.Ordinal import ordinal) = Has32 import × Has32 ordinal
IsTarget (targets.Named import name_at) = Has32 import × Has32 name_at
IsTarget (targets.Own ordinal) = Has32 ordinal

pub record IsFix (f : Fix) : Type 0 where
  pub offset : HasSigned32 f.offset
  pub target : IsTarget f.target
  pub additive : Has32 f.additive

pub record IsPage (p : ListedPage) : Type 0 where
  pub place : HasData p.kind p.at p.len
  pub fixes : AllByRecursion IsFix p.fixes

-- an object has a page count of 32 bits
pub record IsObject (o : ListedObject) : Type 0 where
  pub size : Has32 o.size
  pub base : Has32 o.base
  pub flags : Has32 o.flags
  pub count : Has32 (length o.pages)
  pub pages : AllByRecursion IsPage o.pages

abbrev pub IsKey : FwdKey → Type 0
IsKey (keys.Ordinal n) = Has32 n
IsKey (keys.NameAt at) = Has32 at

abbrev pub IsHead : EntryHead → Type 0
IsHead (heads.At object offset) = Has32 object × Has32 offset
IsHead (heads.Gate286 object offset) = Has32 object × Has32 offset
IsHead (heads.Forward import key) = Has32 import × IsKey key

abbrev pub IsEntry : ℕ × EntryHead → Type 0
IsEntry e = Has32 e.0 × IsHead e.1

abbrev pub IsNamed : List ℕ × ℕ → Type 0
IsNamed n = IsListedName n.0 × Has32 n.1

pub record IsListing (l : Listing) : Type 0 where
  pub name : IsListedName l.name
  pub flags : Has32 l.flags
  pub start : IfSome l.start IsPair
  pub objects : AllByRecursion IsObject l.objects
  pub imports : AllByRecursion IsListedName l.imports
  pub entries : AllByRecursion IsEntry l.entries
  pub names : AllByRecursion IsNamed l.names
