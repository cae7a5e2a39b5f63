-- The parts of lines that are read by themselves, and which of their values are in range.
use Rattle.std.specs.Prelude.{◌≡◌, ℕ, zero, suc, Bool, List, [], ◌∷◌, ◌++◌, codes, decimal, IfSome, Option}
use Rattle.std.specs.List.{flat_map}
use Rattle.lx_types.specs.declared.fix.Source.{Source}
use Rattle.lx_types.specs.declared.fix.Source.TheVariants as sources
use Rattle.lx_types.specs.declared.fix.FixTarget.{FixTarget}
use Rattle.lx_types.specs.declared.fix.FixTarget.TheVariants as targets
use Rattle.lx_types.specs.declared.entry.EntryHead.{EntryHead}
use Rattle.lx_types.specs.declared.entry.EntryHead.TheVariants as heads
use Rattle.lx_types.specs.declared.entry.FwdKey.{FwdKey}
use Rattle.lx_types.specs.declared.object.PageKind.{PageKind}
use Rattle.lx_types.specs.declared.object.PageKind.TheVariants as kinds
use Rattle.lx_types.specs.declared.object.PageHead.{PageHead}
use Rattle.lx_types.specs.Escaped.{hex_address}
use Rattle.session_model.specs.Text.{line_of}
use Rattle.dump_model.specs.Bounds.{Has32, HasData, IsTarget, IsHead, IsListedName, IsPair}
use Rattle.dump_model.specs.Lines.{name_word, kind_word, start_words, data_words, alias_words, target_words, head_words, key_words}
use Rattle.dump_read.specs.declared.objects.ObjectHead.{ObjectHead}
use Rattle.dump_read.specs.declared.head.ModuleHead.{ModuleHead}

-- each value is in range
abbrev pub Any : {A : Type 0} → A → Type 0
Any a = Unit {0}

-- words, each with a blank after it
abbrev pub leading : List (List ℕ) → List ℕ
leading ws = flat_map (λ w. w ++ 0x20 ∷ []) ws

-- ---- fixups

abbrev pub source_at : ℕ → Source
source_at zero = sources.Byte
source_at (suc zero) = sources.Sel
source_at (suc (suc zero)) = sources.Far16
source_at (suc (suc (suc zero))) = sources.Off16
source_at (suc (suc (suc (suc zero)))) = sources.Far32
source_at (suc (suc (suc (suc (suc zero))))) = sources.Off32
source_at (suc (suc (suc (suc (suc (suc k)))))) = sources.Self32

abbrev pub source_tag : Source → ℕ
source_tag sources.Byte = 0
source_tag sources.Sel = 1
source_tag sources.Far16 = 2
source_tag sources.Off16 = 3
source_tag sources.Far32 = 4
source_tag sources.Off32 = 5
source_tag sources.Self32 = 6

abbrev pub source_pieces : List (List ℕ)
source_pieces = codes "byte " ∷ codes "sel " ∷ codes "far16 " ∷ codes "off16 " ∷ codes "far32 " ∷ codes "off32 " ∷ codes "self32 " ∷ []

abbrev pub target_tag : FixTarget → ℕ
target_tag (targets.Internal object offset) = 0
target_tag (targets.Ordinal import ordinal) = 1
target_tag (targets.Named import name_at) = 2
target_tag (targets.Own ordinal) = 3

abbrev pub target_pieces : List (List ℕ)
target_pieces = codes "internal " ∷ codes "ordinal " ∷ codes "name " ∷ codes "own " ∷ []

abbrev pub target_text : FixTarget → List ℕ
target_text t = leading (target_words t)

-- after the first word
abbrev pub target_rest : FixTarget → List ℕ
target_rest (targets.Internal object offset) = leading (decimal object ∷ decimal offset ∷ [])
target_rest (targets.Ordinal import ordinal) = leading (decimal import ∷ decimal ordinal ∷ [])
target_rest (targets.Named import name_at) = leading (decimal import ∷ decimal name_at ∷ [])
target_rest (targets.Own ordinal) = leading (decimal ordinal ∷ [])

abbrev pub IsTargetOf : ℕ → FixTarget → Type 0
IsTargetOf k t = IsTarget t × (target_tag t ≡ k)

abbrev pub aliased_pieces : List (List ℕ)
aliased_pieces = codes "internal " ∷ codes "ordinal " ∷ codes "name " ∷ codes "own " ∷ codes "alias " ∷ []

abbrev pub aliased_text : Bool × FixTarget → List ℕ
aliased_text p = leading (alias_words p.0 ++ target_words p.1)

abbrev pub IsAliased : Bool × FixTarget → Type 0
IsAliased p = IsTarget p.1

-- ---- objects and pages

abbrev pub HasHeadData : PageHead → Type 0
HasHeadData h = HasData h.kind h.at h.len

abbrev pub kind_tag : PageKind → ℕ
kind_tag kinds.Plain = 0
kind_tag kinds.Iterated = 1
kind_tag kinds.Invalid = 2
kind_tag kinds.Zero = 3

abbrev pub data_pieces : List (List ℕ)
data_pieces = codes "plain " ∷ codes "iterated " ∷ (codes "invalid" ++ 0x0A ∷ []) ∷ (codes "zero" ++ 0x0A ∷ []) ∷ []

abbrev pub data_text : PageHead → List ℕ
data_text h = line_of (data_words h.kind h.at h.len)

abbrev pub place_rest : PageKind → ℕ → ℕ → List ℕ
place_rest kinds.Plain at len = line_of (decimal at ∷ decimal len ∷ [])
place_rest kinds.Iterated at len = line_of (decimal at ∷ decimal len ∷ [])
place_rest kinds.Invalid at len = []
place_rest kinds.Zero at len = []

abbrev pub data_rest : PageHead → List ℕ
data_rest h = place_rest h.kind h.at h.len

abbrev pub IsDataOf : ℕ → PageHead → Type 0
IsDataOf k h = HasHeadData h × (kind_tag h.kind ≡ k)

abbrev pub page_head_line : ℕ → ℕ → PageHead → List ℕ
page_head_line k i h = line_of (codes "page" ∷ decimal k ∷ decimal i ∷ data_words h.kind h.at h.len)

pub record IsObjectHead (o : ObjectHead) : Type 0 where
  pub size : Has32 o.size
  pub base : Has32 o.base
  pub flags : Has32 o.flags
  pub count : Has32 o.count

abbrev pub object_head_line : ℕ → ObjectHead → List ℕ
object_head_line k o =
    line_of
    (codes "object" ∷ decimal k ∷ codes "size" ∷ decimal o.size ∷ codes "base" ∷ hex_address o.base ∷ codes "flags" ∷ hex_address o.flags
    ∷ codes "pages" ∷ decimal o.count ∷ [])

-- ---- entries

abbrev pub key_text : FwdKey → List ℕ
key_text key = line_of (key_words key)

abbrev pub head_tag : EntryHead → ℕ
head_tag (heads.At object offset) = 0
head_tag (heads.Gate286 object offset) = 1
head_tag (heads.Forward import key) = 2

abbrev pub head_pieces : List (List ℕ)
head_pieces = codes "at " ∷ codes "gate " ∷ codes "forward " ∷ []

abbrev pub head_text : EntryHead → List ℕ
head_text head = line_of (head_words head)

abbrev pub head_rest : EntryHead → List ℕ
head_rest (heads.At object offset) = line_of (decimal object ∷ decimal offset ∷ [])
head_rest (heads.Gate286 object offset) = line_of (decimal object ∷ decimal offset ∷ [])
head_rest (heads.Forward import key) = line_of (decimal import ∷ key_words key)

abbrev pub IsHeadOf : ℕ → EntryHead → Type 0
IsHeadOf k h = IsHead h × (head_tag h ≡ k)

-- ---- the module

abbrev pub start_text : Option (ℕ × ℕ) → List ℕ
start_text s = line_of (start_words s)

abbrev pub IsStart : Option (ℕ × ℕ) → Type 0
IsStart s = IfSome s IsPair

pub record IsModuleHead (h : ModuleHead) : Type 0 where
  pub name : IsListedName h.name
  pub flags : Has32 h.flags
  pub start : IsStart h.start

abbrev pub module_head_line : ModuleHead → List ℕ
module_head_line h =
    line_of (codes "module" ∷ name_word h.name ∷ kind_word h.library ∷ codes "flags" ∷ hex_address h.flags ∷ codes "start" ∷ start_words h.start)
