-- Entry tables that were written are read again.
use Rattle.std.proofs.Common.{◌≡◌, ℕ, ◌+◌, ◌<◌, ◌≤◌, ◌^◌, false, cond, eqb, ltb, not, List, [], ◌∷◌, ◌++◌, length, map, Option, Some, None, Result, Ok, Err, refl, sym, subst, ap, ◌∙◌, append_assoc, arith}
use Rattle.std.specs.List.{flat_map, enumerate_from, AllByRecursion as Each}
use Rattle.std.proofs.lemmas.Bool.{le-ltb}
use Rattle.std.proofs.lemmas.Bool.Decides.{nat_tests}
use Rattle.lx_bytes.specs.Cursor.{Cursor}
use Rattle.lx_bytes.specs.LittleEndian.{little_bytes}
use Rattle.lx_types.specs.declared.refusal.LxRefusal.{LxRefusal}
use Rattle.lx_types.specs.declared.refusal.LxKind.TheVariants as kinds
use Rattle.lx_types.specs.declared.entry.EntryHead.{EntryHead}
use Rattle.lx_types.specs.declared.entry.EntryHead.TheVariants.{At, Gate286, Forward}
use Rattle.lx_types.specs.Sound.{IsNumberOf}
use Rattle.lx_model.specs.Reading.{fault, cursor, number, Read, ◌>>=◌, ends, many}
use Rattle.lx_model.specs.EntryTable.{Numbered, names_one_of, at_entry, gate_entry, forward_key, forward_entry, bundle_entries, object_entries, bundle_of_type, bundle_at}
use Rattle.lx_model.specs.declared.limits.TheConstants.{MAX_ORDINAL}
use Rattle.lx_model.specs.Bundles.{AtEntry, GateEntry, ForwardEntry, at_spelling, gate_spelling, forward_spelling, Bundle, unused, narrow, gates, wide, forwarders, ordinal_count, ordinals_together, type_of, body_spelling, bundle_spelling, table_spelling, heads_of, entries_after, AtFits, GateFits, ForwardFits, ObjectFits, BodyFits, BundleFits}
use Rattle.lx_model.specs.TableLaws.{EntriesReadAgain}
use Rattle.lx_model.proofs.ReadsAs.{ReadsAs, number_reads, byte_reads, bind_reads, done_reads}
use Rattle.lx_model.proofs.Steps.{done, then_ok, other}
use Rattle.lx_model.proofs.Entries.{further, after_count}
use Rattle.lx_model.proofs.Many.{Whole, none_whole, more_whole, whole_is}
use Rattle.lx_model.proofs.NamesRead.{not_zero}
use Rattle.lx_model.proofs.Shortening.{bundle_shortens}

-- ---- entries

at_reads : (width bound object : ℕ) (e : AtEntry) → bound ≡ 256 ^ width → AtFits bound e → ReadsAs (at_entry width object) (at_spelling width e) (At object e.offset)
unfolding at_entry
at_reads width bound object e is h =
    bind_reads (number 1) (λ flags. number width flags.1 >>= λ offset. Ok (At object offset.0, offset.1)) (e.flags ∷ []) (little_bytes width e.offset) e.flags (At object e.offset)
    (byte_reads e.flags h.flags)
    (done_reads (number width) (λ offset. At object offset) (little_bytes width e.offset) e.offset (number_reads width e.offset (subst (λ (b : ℕ). e.offset < b) is h.offset)))

gate_reads : (object : ℕ) (e : GateEntry) → GateFits e → ReadsAs (gate_entry object) (gate_spelling e) (Gate286 object e.offset)
unfolding gate_entry
gate_reads object e h =
    bind_reads (number 1) (λ flags. number 2 flags.1 >>= λ offset. number 2 offset.1 >>= λ gate. Ok (Gate286 object offset.0, gate.1))
    (e.flags ∷ []) (little_bytes 2 e.offset ++ little_bytes 2 e.gate) e.flags (Gate286 object e.offset)
    (byte_reads e.flags h.flags)
    (bind_reads (number 2) (λ offset. number 2 offset.1 >>= λ gate. Ok (Gate286 object offset.0, gate.1)) (little_bytes 2 e.offset) (little_bytes 2 e.gate) e.offset (Gate286 object e.offset)
    (number_reads 2 e.offset h.offset)
    (done_reads (number 2) (λ gate. Gate286 object e.offset) (little_bytes 2 e.gate) e.gate (number_reads 2 e.gate h.gate)))

names : (count number : ℕ) → IsNumberOf number count → not (names_one_of count number) ≡ false
names count number h = grind (arith, nat_tests)

forward_reads : (imports : ℕ) (e : ForwardEntry) → ForwardFits imports e → ReadsAs (forward_entry imports) (forward_spelling e) (Forward e.import (forward_key e.flags e.key))
unfolding forward_entry
forward_reads imports e h at rest =
    let head = Forward e.import (forward_key e.flags e.key) in
    let wrong = fault kinds.EntryTable at in
    bind_reads (number 1) (λ flags. number 2 flags.1 >>= λ import. cond (not (names_one_of imports import.0)) (Err wrong) (number 4 import.1 >>= λ key. Ok (Forward import.0 (forward_key flags.0 key.0), key.1)))
    (e.flags ∷ []) (little_bytes 2 e.import ++ little_bytes 4 e.key) e.flags head (byte_reads e.flags h.flags)
    (bind_reads (number 2) (λ import. cond (not (names_one_of imports import.0)) (Err wrong) (number 4 import.1 >>= λ key. Ok (Forward import.0 (forward_key e.flags key.0), key.1)))
    (little_bytes 2 e.import) (little_bytes 4 e.key) e.import head (number_reads 2 e.import h.import)
    (λ at' rest'. other (not (names_one_of imports e.import)) (Err wrong)
    (number 4 (cursor at' (little_bytes 4 e.key ++ rest')) >>= λ key. Ok (Forward e.import (forward_key e.flags key.0), key.1)) (names imports e.import h.there)
    ∙ done_reads (number 4) (λ key. Forward e.import (forward_key e.flags key)) (little_bytes 4 e.key) e.key (number_reads 4 e.key h.key) at' rest')) at rest

-- ---- the entries of a bundle

entries_read : {E : Type 0} (Fits : E → Type 0) (spell : E → List ℕ) (head : E → EntryHead) (read : Cursor → Read EntryHead) (es : List E) (ordinal : ℕ) →
    ((e : E) → Fits e → ReadsAs read (spell e) (head e)) → Each Fits es → ReadsAs (bundle_entries (length es) ordinal read) (flat_map spell es) (enumerate_from ordinal (map head es))
unfolding bundle_entries
entries_read Fits spell head read [] ordinal each fits at rest = let end : at + 0 ≡ at = omega arith in rw end refl
entries_read Fits spell head read (e ∷ es) ordinal each fits at rest =
    bind_reads read (λ x. bundle_entries (length es) (ordinal + 1) read x.1 >>= λ others. Ok ((ordinal, x.0) ∷ others.0, others.1)) (spell e) (flat_map spell es) (head e) (enumerate_from ordinal (map head (e ∷ es)))
    (each e fits.0)
    (done_reads (bundle_entries (length es) (ordinal + 1) read) (λ others. (ordinal, head e) ∷ others) (flat_map spell es) (enumerate_from (ordinal + 1) (map head es))
    (entries_read Fits spell head read es (ordinal + 1) each fits.1)) at rest

object_read : (objects bad n ordinal object : ℕ) (read : ℕ → Cursor → Read EntryHead) (bytes : List ℕ) (es : List Numbered) → ObjectFits objects object →
    ReadsAs (bundle_entries n ordinal (read object)) bytes es → ReadsAs (object_entries objects bad n ordinal read) (little_bytes 2 object ++ bytes) es
unfolding object_entries
object_read objects bad n ordinal object read bytes es fits after =
    bind_reads (number 2) (λ o. cond (not (names_one_of objects o.0)) (Err (fault kinds.EntryTable bad)) (bundle_entries n ordinal (read o.0) o.1)) (little_bytes 2 object) bytes object es
    (number_reads 2 object fits.1)
    (λ at rest. other (not (names_one_of objects object)) (Err (fault kinds.EntryTable bad)) (bundle_entries n ordinal (read object) (cursor at (bytes ++ rest))) (names objects object fits.0) ∙ after at rest)

body_reads : (objects imports bad ordinal : ℕ) (b : Bundle) → BodyFits objects imports b →
    ReadsAs (bundle_of_type (type_of b) objects imports bad (ordinal_count b) ordinal) (body_spelling b) (enumerate_from ordinal (heads_of b))
unfolding bundle_of_type
body_reads objects imports bad ordinal (unused n) h at rest = let end : at + 0 ≡ at = omega arith in rw end refl
body_reads objects imports bad ordinal (narrow object es) h at rest =
    object_read objects bad (length es) ordinal object (at_entry 2) (flat_map (at_spelling 2) es) (enumerate_from ordinal (map (λ e. At object e.offset) es)) h.0
    (entries_read (AtFits (2 ^ 16)) (at_spelling 2) (λ e. At object e.offset) (at_entry 2 object) es ordinal (λ e fits. at_reads 2 (2 ^ 16) object e refl fits) h.1) at rest
body_reads objects imports bad ordinal (gates object es) h at rest =
    object_read objects bad (length es) ordinal object gate_entry (flat_map gate_spelling es) (enumerate_from ordinal (map (λ e. Gate286 object e.offset) es)) h.0
    (entries_read GateFits gate_spelling (λ e. Gate286 object e.offset) (gate_entry object) es ordinal (λ e fits. gate_reads object e fits) h.1) at rest
body_reads objects imports bad ordinal (wide object es) h at rest =
    object_read objects bad (length es) ordinal object (at_entry 4) (flat_map (at_spelling 4) es) (enumerate_from ordinal (map (λ e. At object e.offset) es)) h.0
    (entries_read (AtFits (2 ^ 32)) (at_spelling 4) (λ e. At object e.offset) (at_entry 4 object) es ordinal (λ e fits. at_reads 4 (2 ^ 32) object e refl fits) h.1) at rest
body_reads objects imports bad ordinal (forwarders reserved es) h at rest =
    bind_reads (number 2) (λ word. bundle_entries (length es) ordinal (forward_entry imports) word.1)
    (little_bytes 2 reserved) (flat_map forward_spelling es) reserved (enumerate_from ordinal (map (λ e. Forward e.import (forward_key e.flags e.key)) es))
    (number_reads 2 reserved h.0)
    (entries_read (ForwardFits imports) forward_spelling (λ e. Forward e.import (forward_key e.flags e.key)) (forward_entry imports) es ordinal (λ e fits. forward_reads imports e fits) h.1) at rest

-- ---- the table

type_small : (b : Bundle) → type_of b < 256
type_small (unused n) = omega arith
type_small (narrow object es) = omega arith
type_small (gates object es) = omega arith
type_small (wide object es) = omega arith
type_small (forwarders reserved es) = omega arith

abbrev item : ℕ → Bundle → List Numbered → Option (List Numbered × ℕ)
item last b es = Some (es, last + ordinal_count b)

pub bundle_reads : (objects imports last : ℕ) (b : Bundle) → BundleFits objects imports b → last + ordinal_count b ≤ MAX_ORDINAL →
    ReadsAs (bundle_at objects imports last) (bundle_spelling b) (item last b (enumerate_from (last + 1) (heads_of b)))
unfolding bundle_at
bundle_reads objects imports last b fits room at rest =
    let count = ordinal_count b in
    let kind = type_of b in
    let es = enumerate_from (last + 1) (heads_of b) in
    let at_kind = cursor (at + 1) (kind ∷ body_spelling b ++ rest) in
    let at_body = cursor (at + 1 + 1) (body_spelling b ++ rest) in
    let at_next = cursor (at + 1 + 1 + length (body_spelling b)) rest in
    let all : Read (Option (List Numbered × ℕ)) = Ok (item last b es, at_next) in
    let end : at + 1 + 1 + length (body_spelling b) ≡ at + length (bundle_spelling b) = omega arith in
    let by_kind : further objects imports last at (count, at_kind) ≡ all
    = then_ok (number 1 at_kind) (λ k. bundle_of_type k.0 objects imports at count (last + 1) k.1 >>= λ entries. done (item last b entries.0, entries.1)) (kind, at_body) all
    (byte_reads kind (type_small b) (at + 1) (body_spelling b ++ rest))
    (then_ok (bundle_of_type kind objects imports at count (last + 1) at_body) (λ entries. done (item last b entries.0, entries.1)) (es, at_next) all
    (body_reads objects imports at (last + 1) b fits.body (at + 1 + 1) rest) refl) in
    let by_count : after_count objects imports last at (count, at_kind) ≡ all
    = other (eqb count 0) (ends at_kind) (cond (ltb MAX_ORDINAL (last + count)) (Err (fault kinds.EntryTable at)) (further objects imports last at (count, at_kind))) (not_zero count fits.some)
    ∙ other (ltb MAX_ORDINAL (last + count)) (Err (fault kinds.EntryTable at)) (further objects imports last at (count, at_kind)) (le-ltb MAX_ORDINAL (last + count) room)
    ∙ by_kind in
    let read : (number 1 (cursor at (bundle_spelling b ++ rest)) >>= after_count objects imports last at) ≡ all
    = then_ok (number 1 (cursor at (bundle_spelling b ++ rest))) (after_count objects imports last at) (count, at_kind) all (byte_reads count fits.few at (kind ∷ body_spelling b ++ rest)) by_count in
    read ∙ ap (λ (n : ℕ). done (item last b es, cursor n rest)) end

end_reads : (objects imports last : ℕ) → ReadsAs (bundle_at objects imports last) (0 ∷ []) None
unfolding bundle_at
end_reads objects imports last at rest =
    then_ok (number 1 (cursor at (0 ∷ rest)))
    (after_count objects imports last at) (0, cursor (at + 1) rest) (Ok (None, cursor (at + 1) rest)) (byte_reads 0 (omega arith) at rest) refl

pub regroup : (a b c d : List ℕ) → ((a ++ b) ++ c) ++ d ≡ a ++ ((b ++ c) ++ d)
regroup a b c d = simp append_assoc

-- the entries of each bundle
abbrev each_after : ℕ → List Bundle → List (List Numbered)
each_after last [] = []
each_after last (b ∷ bs) = enumerate_from (last + 1) (heads_of b) ∷ each_after (last + ordinal_count b) bs

each_joined : (last : ℕ) (bs : List Bundle) → flat_map (λ es. es) (each_after last bs) ≡ entries_after last bs
each_joined last [] = refl
each_joined last (b ∷ bs) = ap (λ (es : List Numbered). enumerate_from (last + 1) (heads_of b) ++ es) (each_joined (last + ordinal_count b) bs)

bundles_read : (objects imports : ℕ) (bs : List Bundle) (last at : ℕ) (rest : List ℕ) → Each (BundleFits objects imports) bs → last + ordinals_together bs ≤ MAX_ORDINAL →
    Whole (many (bundle_at objects imports) last (cursor at (table_spelling bs ++ rest))) (each_after last bs) rest
bundles_read objects imports [] last at rest fits room = none_whole (bundle_at objects imports) last (cursor at (0 ∷ rest)) (at + 1) rest (end_reads objects imports last at rest)
bundles_read objects imports (b ∷ bs) last at rest fits room =
    let bytes = bundle_spelling b in
    let tail = table_spelling bs ++ rest in
    let es = enumerate_from (last + 1) (heads_of b) in
    let together = more_whole (bundle_at objects imports) (bundle_shortens objects imports) last
    (cursor at (bytes ++ tail)) (cursor (at + length bytes) tail) (es, last + ordinal_count b) (each_after (last + ordinal_count b) bs) rest
    (bundle_reads objects imports last b fits.0 (omega arith) at tail)
    (bundles_read objects imports bs (last + ordinal_count b) (at + length bytes) rest fits.1 (omega arith)) in
    subst (λ (x : List ℕ). Whole (many (bundle_at objects imports) last (cursor at x)) (es ∷ each_after (last + ordinal_count b) bs) rest) (sym (regroup bytes (flat_map bundle_spelling bs) (0 ∷ []) rest)) together

pub table_reads : EntriesReadAgain
table_reads objects imports bs rest fits room =
    let m = many (bundle_at objects imports) 0 (cursor 0 (table_spelling bs ++ rest)) in
    let read = whole_is m (each_after 0 bs) rest (bundles_read objects imports bs 0 0 rest fits (omega arith)) in
    ap (λ (r : Result (List (List Numbered)) LxRefusal). r >>= λ bundles. Ok (flat_map (λ es. es) bundles)) read ∙ ap done (each_joined 0 bs)
