-- The lines of a dump, as they are pushed group by group.
use Rattle.std.proofs.Common.{◌≡◌, ℕ, ◌≤◌, List, [], ◌∷◌, ◌++◌, length, Option, Some, None, arith, append_assoc}
use Rattle.std.specs.Prelude.{codes, decimal}
use Rattle.std.specs.Fmt.{signed_decimal}
use Rattle.std.specs.List.{flat_map, enumerate_from}
use Rattle.lx_types.specs.declared.fix.Fix.{Fix}
use Rattle.lx_types.specs.declared.object.PageKind.{PageKind}
use Rattle.lx_types.specs.declared.object.PageKind.TheVariants as kinds
use Rattle.lx_types.specs.declared.entry.EntryHead.{EntryHead}
use Rattle.lx_types.specs.declared.entry.EntryHead.TheVariants as heads
use Rattle.lx_types.specs.Escaped.{hex_address}
use Rattle.session_model.specs.Text.{line_of}
use Rattle.dump_model.specs.declared.listing.ListedObject.{ListedObject}
use Rattle.dump_model.specs.declared.listing.ListedPage.{ListedPage}
use Rattle.dump_model.specs.declared.listing.Listing.{Listing}
use Rattle.dump_model.specs.Lines.{name_word, kind_word, start_words, data_words, source_word, alias_words, target_words, head_words, module_line, object_line, page_line, fix_line, entry_line, name_line, end_line}
use Rattle.dump_model.specs.Dumps.{page_lines, object_lines, numbered_import_line, Dump}
use Rattle.line_words.specs.Words.{leading}
use Rattle.line_words.proofs.LeadingLaws.{some-after, group-pushed, after-pushed}

pub fix-pushed : (out z a b c d new : List ℕ) (k i : ℕ) (f : Fix) → z ≡ out ++ leading (codes "fix" ∷ decimal k ∷ decimal i ∷ [])
    → a ≡ z ++ leading (signed_decimal f.offset ∷ []) → b ≡ a ++ leading (source_word f.source ∷ []) → c ≡ b ++ leading (alias_words f.alias) → d ≡ c ++ leading (target_words f.target)
    → new ≡ d ++ line_of (codes "add" ∷ decimal f.additive ∷ []) → new ≡ out ++ fix_line k i f
unfolding fix_line
fix-pushed out z a b c d new k i f hz ha hb hc hd hnew =
    let last = codes "add" ∷ decimal f.additive ∷ [] in
    let after = target_words f.target ++ last in
    let others = alias_words f.alias ++ after in
    let one = some-after (target_words f.target) last (omega arith) in
    group-pushed out z new (codes "fix" ∷ decimal k ∷ decimal i ∷ []) (signed_decimal f.offset ∷ source_word f.source ∷ others) (omega arith) hz
    (group-pushed z a new (signed_decimal f.offset ∷ []) (source_word f.source ∷ others) (omega arith) ha
    (group-pushed a b new (source_word f.source ∷ []) others (some-after (alias_words f.alias) after one) hb
    (group-pushed b c new (alias_words f.alias) after one hc (group-pushed c d new (target_words f.target) last (omega arith) hd hnew))))

pub page-pushed : (out a b new : List ℕ) (k i : ℕ) (p : ListedPage) → a ≡ out ++ leading (codes "page" ∷ decimal k ∷ decimal i ∷ [])
    → 1 ≤ length (data_words p.kind p.at p.len) → b ≡ a ++ line_of (data_words p.kind p.at p.len) → new ≡ b ++ flat_map (fix_line k i) p.fixes
    → new ≡ out ++ page_lines k (i, p)
unfolding page_lines page_line
page-pushed out a b new k i p ha some hb hnew =
    after-pushed out b new (page_line k i p) (flat_map (fix_line k i) p.fixes)
    (group-pushed out a b (codes "page" ∷ decimal k ∷ decimal i ∷ []) (data_words p.kind p.at p.len) some ha hb) hnew

pub object-pushed : (out a b c d e new : List ℕ) (k : ℕ) (o : ListedObject) → a ≡ out ++ leading (codes "object" ∷ decimal k ∷ [])
    → b ≡ a ++ leading (codes "size" ∷ decimal o.size ∷ []) → c ≡ b ++ leading (codes "base" ∷ hex_address o.base ∷ [])
    → d ≡ c ++ leading (codes "flags" ∷ hex_address o.flags ∷ []) → e ≡ d ++ line_of (codes "pages" ∷ decimal (length o.pages) ∷ [])
    → new ≡ e ++ flat_map (page_lines k) (enumerate_from 0 o.pages) → new ≡ out ++ object_lines (k, o)
unfolding object_lines object_line
object-pushed out a b c d e new k o ha hb hc hd he hnew =
    let pages = codes "pages" ∷ decimal (length o.pages) ∷ [] in
    let flags = codes "flags" ∷ hex_address o.flags ∷ pages in
    let base = codes "base" ∷ hex_address o.base ∷ flags in
    let size = codes "size" ∷ decimal o.size ∷ base in
    after-pushed out e new (object_line k o) (flat_map (page_lines k) (enumerate_from 0 o.pages))
    (group-pushed out a e (codes "object" ∷ decimal k ∷ []) size (omega arith) ha
    (group-pushed a b e (codes "size" ∷ decimal o.size ∷ []) base (omega arith) hb
    (group-pushed b c e (codes "base" ∷ hex_address o.base ∷ []) flags (omega arith) hc
    (group-pushed c d e (codes "flags" ∷ hex_address o.flags ∷ []) pages (omega arith) hd he))))
    hnew

pub module-pushed : (out a b c d new : List ℕ) (l : Listing) → a ≡ out ++ leading (codes "module" ∷ name_word l.name ∷ [])
    → b ≡ a ++ leading (kind_word l.library ∷ []) → c ≡ b ++ leading (codes "flags" ∷ hex_address l.flags ∷ [])
    → d ≡ c ++ leading (codes "start" ∷ []) → 1 ≤ length (start_words l.start) → new ≡ d ++ line_of (start_words l.start) → new ≡ out ++ module_line l
unfolding module_line
module-pushed out a b c d new l ha hb hc hd some hnew =
    let start = codes "start" ∷ start_words l.start in
    let flags = codes "flags" ∷ hex_address l.flags ∷ start in
    group-pushed out a new (codes "module" ∷ name_word l.name ∷ []) (kind_word l.library ∷ flags) (omega arith) ha
    (group-pushed a b new (kind_word l.library ∷ []) flags (omega arith) hb
    (group-pushed b c new (codes "flags" ∷ hex_address l.flags ∷ []) start (omega arith) hc
    (group-pushed c d new (codes "start" ∷ []) (start_words l.start) some hd hnew)))

pub entry-pushed : (out a new : List ℕ) (e : ℕ × EntryHead) → a ≡ out ++ leading (codes "entry" ∷ decimal e.0 ∷ []) → 1 ≤ length (head_words e.1)
    → new ≡ a ++ line_of (head_words e.1) → new ≡ out ++ entry_line e
unfolding entry_line
entry-pushed out a new e ha some hnew = group-pushed out a new (codes "entry" ∷ decimal e.0 ∷ []) (head_words e.1) some ha hnew

-- ---- each has words after its first ones

pub some-data : (kind : PageKind) (at len : ℕ) → 1 ≤ length (data_words kind at len)
some-data kinds.Plain at len = omega arith
some-data kinds.Iterated at len = omega arith
some-data kinds.Invalid at len = omega arith
some-data kinds.Zero at len = omega arith

pub some-start : (start : Option (ℕ × ℕ)) → 1 ≤ length (start_words start)
some-start None = omega arith
some-start (Some s) = omega arith

pub some-head : (head : EntryHead) → 1 ≤ length (head_words head)
some-head (heads.At object offset) = omega arith
some-head (heads.Gate286 object offset) = omega arith
some-head (heads.Forward import key) = omega arith

-- ---- the whole

pub dump-pushed : (l : Listing) (a b c d e new : List ℕ) → a ≡ module_line l → b ≡ a ++ flat_map object_lines (enumerate_from 1 l.objects)
    → c ≡ b ++ flat_map numbered_import_line (enumerate_from 1 l.imports) → d ≡ c ++ flat_map entry_line l.entries → e ≡ d ++ flat_map name_line l.names
    → new ≡ e ++ end_line → new ≡ Dump l
unfolding Dump
dump-pushed l a b c d e new ha hb hc hd he hnew =
    regroup (module_line l) (flat_map object_lines (enumerate_from 1 l.objects)) (flat_map numbered_import_line (enumerate_from 1 l.imports))
    (flat_map entry_line l.entries) (flat_map name_line l.names) end_line a b c d e new ha hb hc hd he hnew
  where
    regroup : (u v w x y z a b c d e new : List ℕ) → a ≡ u → b ≡ a ++ v → c ≡ b ++ w → d ≡ c ++ x → e ≡ d ++ y → new ≡ e ++ z
        → new ≡ u ++ (v ++ (w ++ (x ++ (y ++ z))))
    regroup u v w x y z a b c d e new ha hb hc hd he hnew = rw (hnew, he, hd, hc, hb, ha) (simp append_assoc)
