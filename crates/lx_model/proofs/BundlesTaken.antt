-- Entry tables that are read are spelled so.
use Rattle.std.proofs.Common.{◌≡◌, ℕ, zero, suc, ◌+◌, ◌<◌, ◌≤◌, ◌^◌, Bool, true, false, cond, eqb, ltb, not, List, [], ◌∷◌, ◌++◌, length, map, Option, Some, None, Ok, Err, refl, sym, subst, ap, ◌∙◌, append_assoc, arith}
use Rattle.std.specs.List.{flat_map, enumerate_from, AllByRecursion as Each}
use Rattle.std.proofs.lemmas.Bool.{ltb-false, eqb-true}
use Rattle.lx_bytes.specs.Cursor.{Cursor}
use Rattle.lx_bytes.specs.LittleEndian.{AreBytes, little_bytes}
use Rattle.lx_types.specs.declared.refusal.LxKind.TheVariants as kinds
use Rattle.lx_types.specs.declared.entry.EntryHead.{EntryHead}
use Rattle.lx_types.specs.declared.entry.EntryHead.TheVariants.{At, Gate286, Forward}
use Rattle.lx_model.specs.Reading.{fault, cursor, number, Read, ◌>>=◌, ends, Many, many}
use Rattle.lx_model.specs.EntryTable.{Numbered, names_one_of, at_entry, gate_entry, forward_key, forward_entry, bundle_entries, object_entries, bundle_of_type, bundle_at, entries_in}
use Rattle.lx_model.specs.declared.limits.TheConstants.{MAX_ORDINAL}
use Rattle.lx_model.specs.Bundles.{at_spelling, gate_spelling, forward_spelling, Bundle, unused, narrow, gates, wide, forwarders, ordinal_count, ordinals_together, type_of, body_spelling, bundle_spelling, table_spelling, heads_of, entries_after, AtFits, GateFits, ForwardFits, ObjectFits, BodyFits, BundleFits}
use Rattle.lx_model.proofs.Entries.{further, after_count, numbered}
use Rattle.lx_model.proofs.Many.{whole_ends, Cases, many_holds}
use Rattle.lx_model.proofs.Shortening.{bundle_shortens}
use Rattle.lx_model.proofs.Steps.{bind_ok, guard_ok, done}
use Rattle.lx_model.proofs.TablesTaken.{positive}
use Rattle.lx_model.proofs.Takes.{Takes, Takes-then, number_takes, takes_nothing}
use Rattle.lx_model.proofs.RecordsTaken.{byte_taken}

-- ---- entries

-- an entry that fits, its spelling, and what it stands for
pub record EntryTaken {E : Type 0} (Fits : E → Type 0) (spell : E → List ℕ) (head : E → EntryHead) (c : Cursor) (h : EntryHead) (d : Cursor) : Type 0 where
  pub entry : E
  pub fits : Fits entry
  pub means : h ≡ head entry
  pub taken : Takes c (spell entry) d

abbrev head_read : EntryHead → Cursor → Read EntryHead
head_read h c = Ok (h, c)

at_taken : (width bound object : ℕ) → 256 ^ width ≡ bound → (c d : Cursor) (h : EntryHead) →
    AreBytes c.left → at_entry width object c ≡ Ok (h, d) → EntryTaken (AtFits bound) (at_spelling width) (λ e. At object e.offset) c h d
unfolding at_entry
at_taken width bound object is c d h bytes e =
    let first = bind_ok (number 1 c) (λ flags. number width flags.1 >>= λ offset. head_read (At object offset.0) offset.1) (h, d) e in
    let flags = first.0 in
    let a = number_takes 1 c flags.1 flags.0 bytes first.1 in
    let second = bind_ok (number width flags.1) (λ offset. head_read (At object offset.0) offset.1) (h, d) first.2 in
    let offset = second.0 in
    let b = number_takes width flags.1 offset.1 offset.0 a.taken.rest second.1 in
    let pair : (At object offset.0, offset.1) ≡ (h, d) = cc in
    let byte = byte_taken c flags.1 flags.0 a.below a.taken in
    let here : EntryTaken (AtFits bound) (at_spelling width) (λ e. At object e.offset) c (At object offset.0) offset.1 = record {
      entry = record { flags = flags.0; offset = offset.0 };
      fits = record { flags = a.below; offset = subst (λ (n : ℕ). offset.0 < n) is b.below };
      means = refl;
      taken = Takes-then c flags.1 offset.1 (flags.0 ∷ []) (little_bytes width offset.0) byte b.taken;
    } in
    subst (λ (p : EntryHead × Cursor). EntryTaken (AtFits bound) (at_spelling width) (λ e. At object e.offset) c p.0 p.1) pair here

gate_taken : (object : ℕ) (c d : Cursor) (h : EntryHead) → AreBytes c.left → gate_entry object c ≡ Ok (h, d) → EntryTaken GateFits gate_spelling (λ e. Gate286 object e.offset) c h d
unfolding gate_entry
gate_taken object c d h bytes e =
    let first = bind_ok (number 1 c) (λ flags. number 2 flags.1 >>= λ offset. number 2 offset.1 >>= λ gate. head_read (Gate286 object offset.0) gate.1) (h, d) e in
    let flags = first.0 in
    let a = number_takes 1 c flags.1 flags.0 bytes first.1 in
    let second = bind_ok (number 2 flags.1) (λ offset. number 2 offset.1 >>= λ gate. head_read (Gate286 object offset.0) gate.1) (h, d) first.2 in
    let offset = second.0 in
    let b = number_takes 2 flags.1 offset.1 offset.0 a.taken.rest second.1 in
    let third = bind_ok (number 2 offset.1) (λ gate. head_read (Gate286 object offset.0) gate.1) (h, d) second.2 in
    let gate = third.0 in
    let g = number_takes 2 offset.1 gate.1 gate.0 b.taken.rest third.1 in
    let pair : (Gate286 object offset.0, gate.1) ≡ (h, d) = cc in
    let byte = byte_taken c flags.1 flags.0 a.below a.taken in
    let here : EntryTaken GateFits gate_spelling (λ e. Gate286 object e.offset) c (Gate286 object offset.0) gate.1 = record {
      entry = record { flags = flags.0; offset = offset.0; gate = gate.0 };
      fits = record { flags = a.below; offset = b.below; gate = g.below };
      means = refl;
      taken = Takes-then c flags.1 gate.1 (flags.0 ∷ []) (little_bytes 2 offset.0 ++ little_bytes 2 gate.0) byte (Takes-then flags.1 offset.1 gate.1 (little_bytes 2 offset.0) (little_bytes 2 gate.0) b.taken g.taken);
    } in
    subst (λ (p : EntryHead × Cursor). EntryTaken GateFits gate_spelling (λ e. Gate286 object e.offset) c p.0 p.1) pair here

forward_taken : (imports : ℕ) (c d : Cursor) (h : EntryHead) → AreBytes c.left →
    forward_entry imports c ≡ Ok (h, d) → EntryTaken (ForwardFits imports) forward_spelling (λ e. Forward e.import (forward_key e.flags e.key)) c h d
unfolding forward_entry
forward_taken imports c d h bytes e =
    let wrong = fault kinds.EntryTable c.at in
    let first = bind_ok (number 1 c) (λ flags. number 2 flags.1 >>= λ import. cond
    (not (names_one_of imports import.0)) (Err wrong) (number 4 import.1 >>= λ key. head_read (Forward import.0 (forward_key flags.0 key.0)) key.1)) (h, d) e in
    let flags = first.0 in
    let a = number_takes 1 c flags.1 flags.0 bytes first.1 in
    let second = bind_ok (number 2 flags.1) (λ import. cond (not (names_one_of imports import.0))
    (Err wrong) (number 4 import.1 >>= λ key. head_read (Forward import.0 (forward_key flags.0 key.0)) key.1)) (h, d) first.2 in
    let import = second.0 in
    let b = number_takes 2 flags.1 import.1 import.0 a.taken.rest second.1 in
    let guard = guard_ok (not (names_one_of imports import.0)) wrong (number 4 import.1 >>= λ key. head_read (Forward import.0 (forward_key flags.0 key.0)) key.1) (h, d) second.2 in
    let third = bind_ok (number 4 import.1) (λ key. head_read (Forward import.0 (forward_key flags.0 key.0)) key.1) (h, d) guard.1 in
    let key = third.0 in
    let k = number_takes 4 import.1 key.1 key.0 b.taken.rest third.1 in
    let pair : (Forward import.0 (forward_key flags.0 key.0), key.1) ≡ (h, d) = cc in
    let byte = byte_taken c flags.1 flags.0 a.below a.taken in
    let here : EntryTaken (ForwardFits imports) forward_spelling (λ e. Forward e.import (forward_key e.flags e.key)) c (Forward import.0 (forward_key flags.0 key.0)) key.1 = record {
      entry = record { flags = flags.0; import = import.0; key = key.0 };
      fits = record { flags = a.below; there = numbered imports import.0 guard.0; import = b.below; key = k.below };
      means = refl;
      taken = Takes-then c flags.1 key.1 (flags.0 ∷ []) (little_bytes 2 import.0 ++ little_bytes 4 key.0) byte (Takes-then flags.1 import.1 key.1 (little_bytes 2 import.0) (little_bytes 4 key.0) b.taken k.taken);
    } in
    subst (λ (p : EntryHead × Cursor). EntryTaken (ForwardFits imports) forward_spelling (λ e. Forward e.import (forward_key e.flags e.key)) c p.0 p.1) pair here

-- ---- the entries of a bundle

pub record EntriesTaken {E : Type 0} (Fits : E → Type 0) (spell : E → List ℕ) (head : E → EntryHead) (n ordinal : ℕ) (c : Cursor) (es : List Numbered) (d : Cursor) : Type 0 where
  pub entries : List E
  pub len : length entries ≡ n
  pub fits : Each Fits entries
  pub means : es ≡ enumerate_from ordinal (map head entries)
  pub taken : Takes c (flat_map spell entries) d

entries_taken : {E : Type 0} (Fits : E → Type 0) (spell : E → List ℕ) (head : E → EntryHead) (read : Cursor → Read EntryHead) →
    ((c d : Cursor) (h : EntryHead) → AreBytes c.left → read c ≡ Ok (h, d) → EntryTaken Fits spell head c h d) →
    (n ordinal : ℕ) (c d : Cursor) (es : List Numbered) → AreBytes c.left → bundle_entries n ordinal read c ≡ Ok (es, d) → EntriesTaken Fits spell head n ordinal c es d
unfolding bundle_entries
entries_taken Fits spell head read one zero ordinal c d es bytes e =
    let pair : ([], c) ≡ (es, d) = cc in
    let here : EntriesTaken Fits spell head 0 ordinal c [] c = record { entries = []; len = refl; fits = tt; means = refl; taken = takes_nothing c bytes } in
    subst (λ (p : List Numbered × Cursor). EntriesTaken Fits spell head 0 ordinal c p.0 p.1) pair here
entries_taken Fits spell head read one (suc n) ordinal c d es bytes e =
    let first = bind_ok (read c) (λ h. bundle_entries n (ordinal + 1) read h.1 >>= λ others. done ((ordinal, h.0) ∷ others.0, others.1)) (es, d) e in
    let h = first.0 in
    let a = one c h.1 h.0 bytes first.1 in
    let second = bind_ok (bundle_entries n (ordinal + 1) read h.1) (λ others. done ((ordinal, h.0) ∷ others.0, others.1)) (es, d) first.2 in
    let others = second.0 in
    let rest = entries_taken Fits spell head read one n (ordinal + 1) h.1 others.1 others.0 a.taken.rest second.1 in
    let pair : ((ordinal, h.0) ∷ others.0, others.1) ≡ (es, d) = cc in
    let means : (ordinal, h.0) ∷ others.0 ≡ (ordinal, head a.entry) ∷ enumerate_from (ordinal + 1) (map head rest.entries) = let x = a.means in let y = rest.means in cc in
    let here : EntriesTaken Fits spell head (suc n) ordinal c ((ordinal, h.0) ∷ others.0) others.1 = record {
      entries = a.entry ∷ rest.entries;
      len = ap suc rest.len;
      fits = (a.fits, rest.fits);
      means = means;
      taken = Takes-then c h.1 others.1 (spell a.entry) (flat_map spell rest.entries) a.taken rest.taken;
    } in
    subst (λ (p : List Numbered × Cursor). EntriesTaken Fits spell head (suc n) ordinal c p.0 p.1) pair here

-- ---- bundles

-- a bundle, without its count and its type, of n ordinals
pub record BodyTaken (objects imports kind n ordinal : ℕ) (c : Cursor) (es : List Numbered) (d : Cursor) : Type 0 where
  pub bundle : Bundle
  pub size : ordinal_count bundle ≡ n
  pub type : type_of bundle ≡ kind
  pub fits : BodyFits objects imports bundle
  pub means : es ≡ enumerate_from ordinal (heads_of bundle)
  pub taken : Takes c (body_spelling bundle) d

-- an object's number, and what stands after it
pub record ObjectTaken {E : Type 0} (Fits : E → Type 0) (spell : E → List ℕ) (head : ℕ → E → EntryHead) (objects n ordinal : ℕ) (c : Cursor) (es : List Numbered) (d : Cursor) : Type 0 where
  pub object : ℕ
  pub object_fits : ObjectFits objects object
  pub middle : Cursor
  pub number : Takes c (little_bytes 2 object) middle
  pub entries : EntriesTaken Fits spell (head object) n ordinal middle es d

object_taken : {E : Type 0} (Fits : E → Type 0) (spell : E → List ℕ) (head : ℕ → E → EntryHead) (read : ℕ → Cursor → Read EntryHead) →
    ((object : ℕ) (c d : Cursor) (h : EntryHead) → AreBytes c.left → read object c ≡ Ok (h, d) → EntryTaken Fits spell (head object) c h d) →
    (objects bad n ordinal : ℕ) (c d : Cursor) (es : List Numbered) → AreBytes c.left → object_entries objects bad n ordinal read c ≡ Ok (es, d) → ObjectTaken Fits spell head objects n ordinal c es d
unfolding object_entries
object_taken Fits spell head read one objects bad n ordinal c d es bytes e =
    let wrong = fault kinds.EntryTable bad in
    let first = bind_ok (number 2 c) (λ o. cond (not (names_one_of objects o.0)) (Err wrong) (bundle_entries n ordinal (read o.0) o.1)) (es, d) e in
    let o = first.0 in
    let a = number_takes 2 c o.1 o.0 bytes first.1 in
    let guard = guard_ok (not (names_one_of objects o.0)) wrong (bundle_entries n ordinal (read o.0) o.1) (es, d) first.2 in
    record {
      object = o.0;
      object_fits = (numbered objects o.0 guard.0, a.below);
      middle = o.1;
      number = a.taken;
      entries = entries_taken Fits spell (head o.0) (read o.0) (one o.0) n ordinal o.1 d es a.taken.rest guard.1;
    }

body_taken : (kind objects imports bad n ordinal : ℕ) (c d : Cursor) (es : List Numbered) →
    AreBytes c.left → bundle_of_type kind objects imports bad n ordinal c ≡ Ok (es, d) → BodyTaken objects imports kind n ordinal c es d
unfolding bundle_of_type
body_taken zero objects imports bad n ordinal c d es bytes e =
    let pair : ([], c) ≡ (es, d) = cc in
    let here : BodyTaken objects imports 0 n ordinal c [] c = record { bundle = unused n; size = refl; type = refl; fits = tt; means = refl; taken = takes_nothing c bytes } in
    subst (λ (p : List Numbered × Cursor). BodyTaken objects imports 0 n ordinal c p.0 p.1) pair here
body_taken (suc zero) objects imports bad n ordinal c d es bytes e =
    let t = object_taken (AtFits (2 ^ 16)) (at_spelling 2) (λ o x. At o x.offset) (at_entry 2) (λ o. at_taken 2 (2 ^ 16) o refl) objects bad n ordinal c d es bytes e in
    record {
      bundle = narrow t.object t.entries.entries;
      size = t.entries.len;
      type = refl;
      fits = (t.object_fits, t.entries.fits);
      means = t.entries.means;
      taken = Takes-then c t.middle d (little_bytes 2 t.object) (flat_map (at_spelling 2) t.entries.entries) t.number t.entries.taken;
    }
body_taken (suc (suc zero)) objects imports bad n ordinal c d es bytes e =
    let t = object_taken GateFits gate_spelling (λ o x. Gate286 o x.offset) gate_entry gate_taken objects bad n ordinal c d es bytes e in
    record {
      bundle = gates t.object t.entries.entries;
      size = t.entries.len;
      type = refl;
      fits = (t.object_fits, t.entries.fits);
      means = t.entries.means;
      taken = Takes-then c t.middle d (little_bytes 2 t.object) (flat_map gate_spelling t.entries.entries) t.number t.entries.taken;
    }
body_taken (suc (suc (suc zero))) objects imports bad n ordinal c d es bytes e =
    let t = object_taken (AtFits (2 ^ 32)) (at_spelling 4) (λ o x. At o x.offset) (at_entry 4) (λ o. at_taken 4 (2 ^ 32) o refl) objects bad n ordinal c d es bytes e in
    record {
      bundle = wide t.object t.entries.entries;
      size = t.entries.len;
      type = refl;
      fits = (t.object_fits, t.entries.fits);
      means = t.entries.means;
      taken = Takes-then c t.middle d (little_bytes 2 t.object) (flat_map (at_spelling 4) t.entries.entries) t.number t.entries.taken;
    }
body_taken (suc (suc (suc (suc zero)))) objects imports bad n ordinal c d es bytes e =
    let first = bind_ok (number 2 c) (λ reserved. bundle_entries n ordinal (forward_entry imports) reserved.1) (es, d) e in
    let word = first.0 in
    let a = number_takes 2 c word.1 word.0 bytes first.1 in
    let t = entries_taken (ForwardFits imports) forward_spelling (λ x. Forward x.import (forward_key x.flags x.key)) (forward_entry imports) (forward_taken imports) n ordinal word.1 d es a.taken.rest first.2 in
    record {
      bundle = forwarders word.0 t.entries;
      size = t.len;
      type = refl;
      fits = (a.below, t.fits);
      means = t.means;
      taken = Takes-then c word.1 d (little_bytes 2 word.0) (flat_map forward_spelling t.entries) a.taken t.taken;
    }
body_taken (suc (suc (suc (suc (suc k))))) objects imports bad n ordinal c d es bytes e = absurd cc

-- ---- the table

-- a bundle that was read after the last ordinal of those before it
pub record BundleTaken (objects imports last : ℕ) (c : Cursor) (x : List Numbered × ℕ) (d : Cursor) : Type 0 where
  pub bundle : Bundle
  pub fits : BundleFits objects imports bundle
  pub room : x.1 ≤ MAX_ORDINAL
  pub last_is : last + ordinal_count bundle ≡ x.1
  pub means : x.0 ≡ enumerate_from (last + 1) (heads_of bundle)
  pub taken : Takes c (bundle_spelling bundle) d

-- what a step took: the end, or a bundle
abbrev pub StepTaken : ℕ → ℕ → ℕ → Cursor → Option (List Numbered × ℕ) → Cursor → Type 0
StepTaken objects imports last c None d = Takes c (0 ∷ []) d
StepTaken objects imports last c (Some x) d = BundleTaken objects imports last c x d

-- one bundle more
more : (objects imports last kind count : ℕ) (c f g d : Cursor) (es : List Numbered) → 0 < count → count < 256 → last + count ≤ MAX_ORDINAL →
    Takes c (count ∷ []) f → Takes f (kind ∷ []) g → BodyTaken objects imports kind count (last + 1) g es d → BundleTaken objects imports last c (es, last + count) d
more objects imports last kind count c f g d es some few room first second body =
    let b = body.bundle in
    let all : Takes c (count ∷ kind ∷ body_spelling b) d = Takes-then c f d (count ∷ []) (kind ∷ body_spelling b) first (Takes-then f g d (kind ∷ []) (body_spelling b) second body.taken) in
    let with_count : Takes c (ordinal_count b ∷ kind ∷ body_spelling b) d = subst (λ (x : ℕ). Takes c (x ∷ kind ∷ body_spelling b) d) (sym body.size) all in
    let size = body.size in
    record {
      bundle = b;
      fits = record { some = rw size some; few = rw size few; body = body.fits };
      room = room;
      last_is = omega (arith, size);
      means = body.means;
      taken = subst (λ (x : ℕ). Takes c (ordinal_count b ∷ x ∷ body_spelling b) d) (sym body.type) with_count;
    }

by_count : (objects imports last at count : ℕ) (none : Bool) (c f d : Cursor) (o : Option (List Numbered × ℕ)) → eqb count 0 ≡ none → count < 256 → Takes c (count ∷ []) f →
    cond none (ends f) (cond (ltb MAX_ORDINAL (last + count)) (Err (fault kinds.EntryTable at)) (further objects imports last at (count, f))) ≡ Ok (o, d) → StepTaken objects imports last c o d
by_count objects imports last at count true c f d o is few first e =
    let pair : (None, f) ≡ (o, d) = cc in
    let zero_count = eqb-true count 0 is in
    subst (λ (p : Option (List Numbered × ℕ) × Cursor). StepTaken objects imports last c p.0 p.1) pair (subst (λ (x : ℕ). Takes c (x ∷ []) f) zero_count first)
by_count objects imports last at count false c f d o is few first e =
    let guard = guard_ok (ltb MAX_ORDINAL (last + count)) (fault kinds.EntryTable at) (further objects imports last at (count, f)) (o, d) e in
    let room : last + count ≤ MAX_ORDINAL = ltb-false MAX_ORDINAL (last + count) guard.0 in
    let step = bind_ok (number 1 f) (λ kind. bundle_of_type kind.0 objects imports at count (last + 1) kind.1 >>= λ entries. done (Some (entries.0, last + count), entries.1)) (o, d) guard.1 in
    let kind = step.0 in
    let k = number_takes 1 f kind.1 kind.0 first.rest step.1 in
    let second = bind_ok (bundle_of_type kind.0 objects imports at count (last + 1) kind.1) (λ entries. done (Some (entries.0, last + count), entries.1)) (o, d) step.2 in
    let entries = second.0 in
    let body = body_taken kind.0 objects imports at count (last + 1) kind.1 entries.1 entries.0 k.taken.rest second.1 in
    let pair : (Some (entries.0, last + count), entries.1) ≡ (o, d) = (let end = second.2 in cc) in
    let type_byte = byte_taken f kind.1 kind.0 k.below k.taken in
    subst (λ (p : Option (List Numbered × ℕ) × Cursor). StepTaken objects imports last c p.0 p.1) pair
    (more objects imports last kind.0 count c f kind.1 entries.1 entries.0 (positive count is) few room first type_byte body)

pub bundle_taken : (objects imports last : ℕ) (c d : Cursor) (o : Option (List Numbered × ℕ)) → AreBytes c.left → bundle_at objects imports last c ≡ Ok (o, d) → StepTaken objects imports last c o d
unfolding bundle_at
bundle_taken objects imports last c d o h e =
    let step = bind_ok (number 1 c) (after_count objects imports last c.at) (o, d) e in
    let count = step.0 in
    let a = number_takes 1 c count.1 count.0 h step.1 in
    by_count objects imports last c.at count.0 (eqb count.0 0) c count.1 d o refl a.below (byte_taken c count.1 count.0 a.below a.taken) step.2

pub record BundlesTaken (objects imports last : ℕ) (c : Cursor) (es : List Numbered) (d : Cursor) : Type 0 where
  pub bundles : List Bundle
  pub fits : Each (BundleFits objects imports) bundles
  pub room : last + ordinals_together bundles ≤ MAX_ORDINAL
  pub means : es ≡ entries_after last bundles
  pub taken : Takes c (table_spelling bundles) d

abbrev AreTaken : ℕ → ℕ → ℕ → Cursor → Many (List Numbered) → Type 0
AreTaken objects imports last c m = AreBytes c.left → last ≤ MAX_ORDINAL → (d : Cursor) → m.end ≡ Ok d → BundlesTaken objects imports last c (flat_map (λ es. es) m.items) d

regroup : (a b c : List ℕ) → a ++ (b ++ c) ≡ (a ++ b) ++ c
regroup a b c = sym (append_assoc a b c)

together : (objects imports last : ℕ) (c d end : Cursor) (x : List Numbered × ℕ) (others : List Numbered) →
    BundleTaken objects imports last c x d → BundlesTaken objects imports x.1 d others end → BundlesTaken objects imports last c (x.0 ++ others) end
together objects imports last c d end x others b rest =
    let all = Takes-then c d end (bundle_spelling b.bundle) (table_spelling rest.bundles) b.taken rest.taken in
    let at = b.last_is in
    let below = rest.room in
    let means : x.0 ++ others ≡ enumerate_from (last + 1) (heads_of b.bundle) ++ entries_after x.1 rest.bundles = (let p = b.means in let q = rest.means in cc) in
    record {
      bundles = b.bundle ∷ rest.bundles;
      fits = (b.fits, rest.fits);
      room = omega (arith, at, below);
      means = means ∙ ap (λ (n : ℕ). enumerate_from (last + 1) (heads_of b.bundle) ++ entries_after n rest.bundles) (sym at);
      taken = subst (λ (t : List ℕ). Takes c t end) (regroup (bundle_spelling b.bundle) (flat_map bundle_spelling rest.bundles) (0 ∷ [])) all;
    }

bundles_taken : (objects imports : ℕ) → Cases (bundle_at objects imports) (AreTaken objects imports)
bundles_taken objects imports = record {
  none = λ last c d e h low end is.
      let same : d ≡ end = cc in
      let here : BundlesTaken objects imports last c [] d = record { bundles = []; fits = tt; room = omega arith; means = refl; taken = bundle_taken objects imports last c d None h e } in
      subst (λ (x : Cursor). BundlesTaken objects imports last c [] x) same here;
  wrong = λ last c e is h low end ok. absurd cc;
  more = λ last c d x m e again h low end is.
      let b = bundle_taken objects imports last c d (Some x) h e in
      together objects imports last c d end x (flat_map (λ es. es) m.items) b (again b.taken.rest b.room end is);
}

pub record TableTaken (objects imports : ℕ) (bytes : List ℕ) (es : List Numbered) : Type 0 where
  pub end : Cursor
  pub all : BundlesTaken objects imports 0 (cursor 0 bytes) es end

pub table_taken : (objects imports : ℕ) (bytes : List ℕ) (es : List Numbered) → AreBytes bytes → entries_in objects imports bytes ≡ Ok es → TableTaken objects imports bytes es
table_taken objects imports bytes es h e =
    let m = many (bundle_at objects imports) 0 (cursor 0 bytes) in
    let first = bind_ok (m.end >>= λ _. Ok m.items) (λ bundles. done (flat_map (λ es. es) bundles)) es e in
    let ok = whole_ends m first.0 first.1 in
    let last : flat_map (λ es. es) first.0 ≡ es = (let end = first.2 in cc) in
    let joined : flat_map (λ es. es) m.items ≡ es = ap (λ (bs : List (List Numbered)). flat_map (λ es. es) bs) ok.2 ∙ last in
    record {
      end = ok.0;
      all = subst (λ (xs : List Numbered). BundlesTaken objects imports 0 (cursor 0 bytes) xs ok.0) joined
          (many_holds (bundle_at objects imports) (AreTaken objects imports) (bundle_shortens objects imports) (bundles_taken objects imports) 0 (cursor 0 bytes) h (omega arith) ok.0 ok.1);
    }
