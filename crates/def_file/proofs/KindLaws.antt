-- What of the module's kind holds of all that is read, and that statements can give what was read.
use Rattle.std.proofs.Common.{◌≡◌, ℕ, Bool, true, false, cond, ◌||◌, Option, Some, None, List, map, slice_index_or, is_some, unwrap_or, refl, sym, subst, ap, ◌∙◌}
use Rattle.std.specs.Prelude.{IfSome, Err, if◌then◌else◌}
use Rattle.std.specs.List.{All}
use Rattle.std.specs.Option.{option_map_or}
use Rattle.std.proofs.lemmas.List.Elements.{All-map}
use Rattle.obj_types.specs.declared.definition.Attrs.{Attrs}
use Rattle.obj_types.specs.declared.definition.ModKind.{ModKind}
use Rattle.obj_types.specs.declared.definition.ModKind.TheVariants as modules
use Rattle.def_model.specs.declared.keyword.Keyword.{Keyword}
use Rattle.def_model.specs.declared.keyword.Keyword.TheVariants as kw
use Rattle.def_model.specs.declared.draft.Draft.{Draft}
use Rattle.def_model.specs.declared.draft.SegDraft.{SegDraft}
use Rattle.def_model.specs.declared.draft.Words.{Words}
use Rattle.def_model.specs.declared.draft.Place.{Place}
use Rattle.def_model.specs.declared.draft.Place.TheVariants as place
use Rattle.def_model.specs.declared.draft.Owner.TheVariants as owners
use Rattle.def_model.specs.declared.draft.Size.TheVariants as sizes
use Rattle.def_model.specs.declared.refusal.DefKind.TheVariants as kinds
use Rattle.def_model.specs.Draft.{at, no_words}
use Rattle.def_model.specs.Attributes.{attrs_with}
use Rattle.def_model.specs.Statements.{begun_by, is_second, keyword_statement}
use Rattle.obj_types.specs.Defaults.{code_attrs, data_attrs}
use Rattle.def_model.specs.Meaning.{file_of, segment_of, is_code, is_code_class}
use Rattle.def_file.specs.Stated.{Stated, StatedSegment}
use Rattle.def_file.specs.Whole.{CallsFit, FitsKind, WholeDraft}

-- ---- the kind

abbrev some_place : Place → Option Place
some_place p = Some p

here : (q p : Place) (kind : Option ModKind) → FitsKind q kind → some_place q ≡ Some p → FitsKind p kind
here q p kind fits is = let same : q ≡ p = cc in subst (λ (x : Place). FitsKind x kind) same fits

not_given : (kind : Option ModKind) → is_some kind ≡ false → kind ≡ None
not_given None is = refl
not_given (Some kind) is = absurd cc

-- the place after a keyword that may stand there
pub begun_kind : (k : Keyword) (d : Draft) (p : Place) → begun_by k ≡ Some p → is_second d k ≡ false → FitsKind p d.kind
begun_kind kw.Name d p is first = here place.Program p d.kind (not_given d.kind first) is
begun_kind kw.Library d p is first = here place.Library p d.kind (not_given d.kind first) is
begun_kind kw.Description d p is first = here place.Description p d.kind tt is
begun_kind kw.Code d p is first = here (place.Attributes owners.Code no_words) p d.kind tt is
begun_kind kw.Data d p is first = here (place.Attributes owners.Data no_words) p d.kind tt is
begun_kind kw.Segments d p is first = here place.Segments p d.kind tt is
begun_kind kw.Exports d p is first = here place.Exports p d.kind tt is
begun_kind kw.Imports d p is first = here place.Imports p d.kind tt is
begun_kind kw.StackSize d p is first = here (place.Size sizes.Stack) p d.kind tt is
begun_kind kw.HeapSize d p is first = here (place.Size sizes.Heap) p d.kind tt is
begun_kind kw.Base d p is first = here place.Base p d.kind tt is
begun_kind kw.ProtMode d p is first = here place.Statement p d.kind tt is
begun_kind kw.ExeType d p is first = here place.ExeType p d.kind tt is
begun_kind kw.Unread d p is first = absurd cc
begun_kind kw.Window d p is first = absurd cc
begun_kind (kw.Init each) d p is first = absurd cc
begun_kind (kw.Term each) d p is first = absurd cc
begun_kind kw.Class d p is first = absurd cc
begun_kind kw.ResidentName d p is first = absurd cc
begun_kind kw.NoData d p is first = absurd cc
begun_kind (kw.Attribute pair on) d p is first = absurd cc
begun_kind kw.NoEffect d p is first = absurd cc

-- what stands in the file already begins a statement
pub twice : (k : Keyword) (d : Draft) → is_second d k ≡ true → keyword_statement d k ≡ Err kinds.Twice
unfolding keyword_statement
twice kw.Name d is = ap (λ (x : Bool). option_map_or (λ (p : Place). if x then Err kinds.Twice else at d p) (begun_by kw.Name) (Err kinds.Statement)) is
twice kw.Library d is = ap (λ (x : Bool). option_map_or (λ (p : Place). if x then Err kinds.Twice else at d p) (begun_by kw.Library) (Err kinds.Statement)) is
twice kw.Description d is = ap (λ (x : Bool). option_map_or (λ (p : Place). if x then Err kinds.Twice else at d p) (begun_by kw.Description) (Err kinds.Statement)) is
twice kw.Code d is = ap (λ (x : Bool). option_map_or (λ (p : Place). if x then Err kinds.Twice else at d p) (begun_by kw.Code) (Err kinds.Statement)) is
twice kw.Data d is = ap (λ (x : Bool). option_map_or (λ (p : Place). if x then Err kinds.Twice else at d p) (begun_by kw.Data) (Err kinds.Statement)) is
twice kw.StackSize d is = ap (λ (x : Bool). option_map_or (λ (p : Place). if x then Err kinds.Twice else at d p) (begun_by kw.StackSize) (Err kinds.Statement)) is
twice kw.HeapSize d is = ap (λ (x : Bool). option_map_or (λ (p : Place). if x then Err kinds.Twice else at d p) (begun_by kw.HeapSize) (Err kinds.Statement)) is
twice kw.Base d is = ap (λ (x : Bool). option_map_or (λ (p : Place). if x then Err kinds.Twice else at d p) (begun_by kw.Base) (Err kinds.Statement)) is
twice kw.Segments d is = absurd cc
twice kw.Exports d is = absurd cc
twice kw.Imports d is = absurd cc
twice kw.ProtMode d is = absurd cc
twice kw.ExeType d is = absurd cc
twice kw.Unread d is = absurd cc
twice kw.Window d is = absurd cc
twice (kw.Init each) d is = absurd cc
twice (kw.Term each) d is = absurd cc
twice kw.Class d is = absurd cc
twice kw.ResidentName d is = absurd cc
twice kw.NoData d is = absurd cc
twice (kw.Attribute pair on) d is = absurd cc
twice kw.NoEffect d is = absurd cc

pub calls_none : (kind : Option ModKind) (init term : Option Bool) → kind ≡ None → CallsFit kind init term → (init ≡ None) × (term ≡ None)
calls_none None init term is fits = fits
calls_none (Some kind) init term is fits = absurd cc

pub calls_of_library : (kind : Option ModKind) (init term : Option Bool) → kind ≡ Some modules.Library → CallsFit kind init term
calls_of_library kind init term is = subst (λ (k : Option ModKind). CallsFit k init term) (sym is) tt

-- ---- what statements can give

no_calls : (kind : Option ModKind) (init term : Option Bool) → CallsFit kind init term → unwrap_or kind modules.Program ≡ modules.Program → (unwrap_or init false ≡ false) × (unwrap_or term false ≡ false)
no_calls None init term fits is = let a = fits.0 in let b = fits.1 in (ap (λ (x : Option Bool). unwrap_or x false) a, ap (λ (x : Option Bool). unwrap_or x false) b)
no_calls (Some modules.Program) init term fits is = let a = fits.0 in let b = fits.1 in (ap (λ (x : Option Bool). unwrap_or x false) a, ap (λ (x : Option Bool). unwrap_or x false) b)
no_calls (Some modules.Library) init term fits is = absurd cc

executable : (w : Option Bool) → (is_some w || true) ≡ true
executable None = refl
executable (Some b) = refl

-- without a word that makes it executable it is as readable as it was
readable : (w : Option Bool) (exec read : Bool) → (is_some w || exec) ≡ false → (exec ≡ false) × (unwrap_or w read ≡ read)
readable None exec read is = (is, refl)
readable (Some b) exec read is = absurd cc

class_of : (class : Option (List ℕ)) (other : Bool) → option_map_or is_code_class class other ≡ false → IfSome class (λ name. is_code_class name ≡ false)
class_of None other is = tt
class_of (Some name) other is = is

segment_stated_by : (code : Bool) (words : Words) (class : Option (List ℕ)) (c p : Attrs) → c.exec ≡ true → (p.exec ≡ false → p.read ≡ true) → option_map_or is_code_class class (is_some words.read) ≡ code →
    (attrs_with (cond code c p) words).exec ≡ false → (p.exec ≡ false) × ((attrs_with (cond code c p) words).read ≡ true) × IfSome class (λ name. is_code_class name ≡ false)
segment_stated_by true words class c p code_exec plain_read is none = let r = readable words.read c.exec c.read none in absurd (let no_exec = r.0 in cc)
segment_stated_by false words class c p code_exec plain_read is none =
    let r = readable words.read p.exec p.read none in
    (r.0, r.1 ∙ plain_read r.0, class_of class (is_some words.read) is)

segment_stated : (c p : Attrs) → c.exec ≡ true → (p.exec ≡ false → p.read ≡ true) → (s : SegDraft) → StatedSegment p (segment_of c p s)
segment_stated c p code_exec plain_read s = segment_stated_by (is_code s) s.words s.class c p code_exec plain_read refl

each_stated : (c p : Attrs) → c.exec ≡ true → (p.exec ≡ false → p.read ≡ true) → (segs : List SegDraft) → All (StatedSegment p) (map (segment_of c p) segs)
each_stated c p code_exec plain_read segs = All-map (StatedSegment p) (segment_of c p) segs (λ k d lt. segment_stated c p code_exec plain_read (slice_index_or segs k d))

pub stated : (d : Draft) → WholeDraft d → Stated (file_of d)
stated d whole =
    let code = attrs_with code_attrs (unwrap_or d.code no_words) in
    let plain = attrs_with data_attrs (unwrap_or d.plain no_words) in
    let code_exec : code.exec ≡ true = executable (unwrap_or d.code no_words).read in
    let plain_read : plain.exec ≡ false → plain.read ≡ true = λ none. (readable (unwrap_or d.plain no_words).read false true none).1 in
    record {
      init_each = λ is. (no_calls d.kind d.init_each d.term_each whole.calls is).0;
      term_each = λ is. (no_calls d.kind d.init_each d.term_each whole.calls is).1;
      code = code_exec;
      plain = plain_read;
      segs = each_stated code plain code_exec plain_read d.segs;
    }
