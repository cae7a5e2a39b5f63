-- The items of SEGMENTS, read again.
use Rattle.std.proofs.Common.{◌≡◌, ◌≢◌, ℕ, List, [], ◌∷◌, ◌++◌, map, refl, ap, sym, ◌∙◌, append_assoc, append-nil, Bool, true, false, Option, Some, None}
use Rattle.std.specs.Prelude.{IfSome}
use Rattle.std.specs.List.{All, flat_map}
use Rattle.std.proofs.lemmas.List.Elements.{All-head, All-tail}
use Rattle.lx_types.specs.Names.{IsName}
use Rattle.obj_types.specs.declared.definition.Attrs.{Attrs}
use Rattle.obj_types.specs.declared.definition.SegAttrs.{SegAttrs}
use Rattle.def_model.specs.declared.keyword.Keyword.TheVariants as kw
use Rattle.def_model.specs.Lexemes.{Lexeme, keyword}
use Rattle.def_model.specs.declared.draft.SegDraft.{SegDraft}
use Rattle.def_model.specs.declared.draft.Draft.{Draft}
use Rattle.def_model.specs.declared.draft.Owner.TheVariants as owners
use Rattle.def_model.specs.declared.draft.Place.TheVariants as place
use Rattle.def_model.specs.Draft.{no_words}
use Rattle.def_write.specs.Names.{SegmentNames}
use Rattle.def_write.specs.Writing.{attribute_tokens, class_tokens, segment_tokens}
use Rattle.def_file.proofs.Compute.{computed}
use Rattle.def_file.proofs.SaysLaws.{says, name-is, text-is, goes-on}
use Rattle.def_write.proofs.ReadHead.{words_of, attributes-read}

abbrev pub joined : List (List Lexeme) → List Lexeme
joined items = flat_map (λ (ts : List Lexeme). ts) items

-- An item, as it is written.
abbrev pub drafted : SegAttrs → SegDraft
drafted s = record { name = s.name; class = s.class; words = words_of s.attrs }

-- A name of a segment, after which no class stands.
no-class-at : (exec : Bool) (d : Draft) (name : List ℕ) (read write shared preload conforming iopl : Bool) (rest : List Lexeme)
    → let a : Attrs = record { read = read; write = write; exec = exec; shared = shared; preload = preload; conforming = conforming; iopl = iopl } in
    says (record { draft = d; place = place.Segment name }) (attribute_tokens a ++ rest)
    ≡ says (record { draft = d; place = place.Attributes (owners.Segment name None) no_words }) (attribute_tokens a ++ rest)
unfolding computed
no-class-at true d name read write shared preload conforming iopl rest = refl
no-class-at false d name read write shared preload conforming iopl rest = refl

class-read : (class : Option (List ℕ)) (d : Draft) (name : List ℕ) (a : Attrs) (rest : List Lexeme)
    → IfSome class IsName
    → says (record { draft = d; place = place.Segment name }) (class_tokens class ++ (attribute_tokens a ++ rest))
    ≡ says (record { draft = d; place = place.Attributes (owners.Segment name class) no_words }) (attribute_tokens a ++ rest)
unfolding computed
class-read None d name a rest short = no-class-at a.exec d name a.read a.write a.shared a.preload a.conforming a.iopl rest
class-read (Some c) d name a rest short = goes-on _ c _ _ (text-is c short)

segment-read : (s : SegAttrs) (d : Draft) (rest : List Lexeme) → s.name ≢ [] → SegmentNames IsName s
    → says (record { draft = d; place = place.Segments }) (segment_tokens s ++ rest)
    ≡ says (record { draft = d; place = place.Attributes (owners.Segment s.name s.class) (words_of s.attrs) }) rest
unfolding computed
segment-read s d rest some short =
    goes-on _ s.name _ _ (name-is s.name some short.name)
    ∙ ap (λ ts. says (record { draft = d; place = place.Segment s.name }) ts) (append_assoc (class_tokens s.class) (attribute_tokens s.attrs) rest)
    ∙ class-read s.class d s.name s.attrs rest short.class
    ∙ attributes-read s.attrs d (owners.Segment s.name s.class) rest

abbrev pub with_segments : Draft → List SegDraft → Draft
with_segments d segs = record d { segs = segs }

-- The next item, or EXPORTS, ends an item.
segment-ends : (d : Draft) (done : List SegDraft) (s : SegAttrs) (segs : List SegAttrs) (rest : List Lexeme)
    → says (record { draft = with_segments d done; place = place.Attributes (owners.Segment s.name s.class) (words_of s.attrs) })
    (joined (map segment_tokens segs) ++ keyword kw.Exports ∷ rest)
    ≡ says (record { draft = with_segments d (done ++ drafted s ∷ []); place = place.Segments })
    (joined (map segment_tokens segs) ++ keyword kw.Exports ∷ rest)
unfolding computed
segment-ends d done s [] rest = refl
segment-ends d done s (next ∷ segs) rest = refl

pub segments-read : (segs : List SegAttrs) (d : Draft) (done : List SegDraft) (rest : List Lexeme)
    → All (λ (s : SegAttrs). s.name ≢ []) segs → All (λ (s : SegAttrs). SegmentNames IsName s) segs
    → says (record { draft = with_segments d done; place = place.Segments }) (joined (map segment_tokens segs) ++ keyword kw.Exports ∷ rest)
    ≡ says (record { draft = with_segments d (done ++ map drafted segs); place = place.Exports }) rest
unfolding computed
segments-read [] d done rest some short =
    ap (λ xs. says (record { draft = with_segments d xs; place = place.Exports }) rest) (sym (append-nil done))
segments-read (s ∷ segs) d done rest some short =
    ap (λ ts. says (record { draft = with_segments d done; place = place.Segments }) ts)
    (append_assoc (segment_tokens s) (joined (map segment_tokens segs)) (keyword kw.Exports ∷ rest))
    ∙ segment-read s (with_segments d done) (joined (map segment_tokens segs) ++ keyword kw.Exports ∷ rest)
    (All-head (λ (s : SegAttrs). s.name ≢ []) s segs some) (All-head (λ (s : SegAttrs). SegmentNames IsName s) s segs short)
    ∙ segment-ends d done s segs rest
    ∙ segments-read segs d (done ++ drafted s ∷ []) rest
    (All-tail (λ (s : SegAttrs). s.name ≢ []) s segs some) (All-tail (λ (s : SegAttrs). SegmentNames IsName s) s segs short)
    ∙ ap (λ xs. says (record { draft = with_segments d xs; place = place.Exports }) rest) (append_assoc done (drafted s ∷ []) (map drafted segs))
