-- What was drafted for a value gives the value.
use Rattle.std.proofs.Common.{◌≡◌, ℕ, List, [], ◌∷◌, map, refl, ap, sym, ◌∙◌, Bool, true, false, cond, Option, Some, None}
use Rattle.std.specs.Prelude.{IfSome, is_some, unwrap_or}
use Rattle.std.specs.Option.{option_map_or}
use Rattle.std.specs.List.{All}
use Rattle.std.proofs.lemmas.List.Elements.{All-head, All-tail}
use Rattle.obj_types.specs.declared.definition.Attrs.{Attrs}
use Rattle.obj_types.specs.declared.definition.DefFile.{DefFile}
use Rattle.obj_types.specs.declared.definition.ModKind.{ModKind}
use Rattle.obj_types.specs.declared.definition.ModKind.TheVariants as modules
use Rattle.obj_types.specs.declared.definition.SegAttrs.{SegAttrs}
use Rattle.def_tokens.proofs.TokenLaws.{if-second}
use Rattle.def_model.specs.declared.draft.Draft.{Draft}
use Rattle.def_model.specs.Attributes.{attrs_with}
use Rattle.obj_types.specs.Defaults.{code_attrs, data_attrs}
use Rattle.def_model.specs.Meaning.{is_code_class, is_code, segment_of, file_of}
use Rattle.def_file.specs.Stated.{Stated, StatedSegment}
use Rattle.def_write.proofs.ReadHead.{calls, headed, words_of}
use Rattle.def_write.proofs.ReadSegments.{drafted}

-- ---- attributes

attrs-back-at : (exec : Bool) (start : Attrs) (read write shared preload conforming iopl : Bool)
    → (exec ≡ false → (start.exec ≡ false) × (read ≡ start.read))
    → let a : Attrs = record { read = read; write = write; exec = exec; shared = shared; preload = preload; conforming = conforming; iopl = iopl } in
    attrs_with start (words_of a) ≡ a
attrs-back-at true start read write shared preload conforming iopl h = refl
attrs-back-at false start read write shared preload conforming iopl h =
    let same = h refl in
    let with_read : Bool → Attrs = λ r. record { read = r; write = write; exec = start.exec; shared = shared; preload = preload; conforming = conforming; iopl = iopl } in
    let with_exec : Bool → Attrs = λ e. record { read = read; write = write; exec = e; shared = shared; preload = preload; conforming = conforming; iopl = iopl } in
    ap with_read (sym same.1) ∙ ap with_exec same.0

attrs-back : (start a : Attrs) → (a.exec ≡ false → (start.exec ≡ false) × (a.read ≡ start.read)) → attrs_with start (words_of a) ≡ a
attrs-back start a h = attrs-back-at a.exec start a.read a.write a.shared a.preload a.conforming a.iopl h

code-back : (a : Attrs) → a.exec ≡ true → attrs_with code_attrs (words_of a) ≡ a
code-back a h = attrs-back code_attrs a (λ e. absurd (let no : ⊥ = cc in no))

plain-back : (a : Attrs) → (a.exec ≡ false → a.read ≡ true) → attrs_with data_attrs (words_of a) ≡ a
plain-back a h = attrs-back data_attrs a (λ e. (refl, h e))

-- ---- segments

no-code-at : (exec read : Bool) (class : Option (List ℕ)) → exec ≡ false → IfSome class (λ c. is_code_class c ≡ false)
    → option_map_or is_code_class class (is_some (cond exec (Some read) None)) ≡ false
no-code-at true read class e h = cc
no-code-at false read None e h = refl
no-code-at false read (Some c) e h = h

segment-back : (code plain : Attrs) (s : SegAttrs) → (plain.exec ≡ false → plain.read ≡ true) → StatedSegment plain s
    → segment_of code plain (drafted s) ≡ s
segment-back code plain s reads h =
    let start : Attrs = cond (is_code (drafted s)) code plain in
    let back : attrs_with start (words_of s.attrs) ≡ s.attrs =
    attrs-back start s.attrs (λ e.
    let stated : (plain.exec ≡ false) × (s.attrs.read ≡ true) × IfSome s.class (λ c. is_code_class c ≡ false) = h e in
    let is_plain : start ≡ plain = if-second (is_code (drafted s)) code plain (no-code-at s.attrs.exec s.attrs.read s.class e stated.2) in
    (ap (λ (a : Attrs). a.exec) is_plain ∙ stated.0, stated.1 ∙ sym (ap (λ (a : Attrs). a.read) is_plain ∙ reads stated.0))) in
    ap (λ a. record { name = s.name; class = s.class; attrs = a }) back

segments-back : (code plain : Attrs) (segs : List SegAttrs) → (plain.exec ≡ false → plain.read ≡ true) → All (StatedSegment plain) segs
    → map (segment_of code plain) (map drafted segs) ≡ segs
segments-back code plain [] reads h = refl
segments-back code plain (s ∷ segs) reads h =
    ap (λ t. t ∷ map (segment_of code plain) (map drafted segs)) (segment-back code plain s reads (All-head (StatedSegment plain) s segs h))
    ∙ ap (λ ts. s ∷ ts) (segments-back code plain segs reads (All-tail (StatedSegment plain) s segs h))

-- ---- the file

calls-back : (kind : ModKind) (each : Bool) → (kind ≡ modules.Program → each ≡ false) → unwrap_or (calls kind each) false ≡ each
calls-back modules.Program each h = sym (h refl)
calls-back modules.Library each h = refl

-- All that the statements of a value say.
abbrev pub drafted_file : DefFile → Draft
drafted_file d =
    record (headed d.kind d.name d.init_each d.term_each d.about d.code d.plain) {
      segs = map drafted d.segs;
      exports = d.exports;
      imports = d.imports;
      stack = Some d.stack;
      heap = Some d.heap;
      base = d.base;
    }

pub file-back : (d : DefFile) → Stated d → file_of (drafted_file d) ≡ d
file-back d h =
    let code : Attrs = attrs_with code_attrs (words_of d.code) in
    let plain : Attrs = attrs_with data_attrs (words_of d.plain) in
    let with_attrs : Attrs → Attrs → DefFile = λ c p.
    record d {
      init_each = unwrap_or (calls d.kind d.init_each) false;
      term_each = unwrap_or (calls d.kind d.term_each) false;
      code = c;
      plain = p;
      segs = map (segment_of c p) (map drafted d.segs);
    } in
    let with_calls : Bool → Bool → DefFile = λ i t. record d { init_each = i; term_each = t } in
    ap (λ c. with_attrs c plain) (code-back d.code h.code)
    ∙ ap (λ p. with_attrs d.code p) (plain-back d.plain h.plain)
    ∙ ap (λ ss. record d { init_each = unwrap_or (calls d.kind d.init_each) false; term_each = unwrap_or (calls d.kind d.term_each) false; segs = ss }) (segments-back d.code d.plain d.segs h.plain h.segs)
    ∙ ap (λ i. with_calls i (unwrap_or (calls d.kind d.term_each) false)) (calls-back d.kind d.init_each h.init_each)
    ∙ ap (λ t. with_calls d.init_each t) (calls-back d.kind d.term_each h.term_each)
