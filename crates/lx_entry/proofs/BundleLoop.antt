-- One bundle after another: what stands before the entries of a bundle, its entries, and the bundles after it.
use Rattle.std.proofs.Common.{◌≡◌, ℕ, zero, suc, ◌+◌, ◌<◌, Bool, true, false, cond, not, eqb, ltb, Option, Some, None, List, [], ◌∷◌, ◌++◌, length, Result, Ok, Err, refl, sym, subst, ap, ◌∙◌, append_assoc, append-nil}
use Rattle.std.specs.Prelude.{IsErrAnd}
use Rattle.std.specs.List.{flat_map}
use Rattle.lx_bytes.specs.Cursor.{Cursor}
use Rattle.lx_types.specs.Answers.{Tells, Gives, if_said_as}
use Rattle.lx_types.specs.declared.refusal.LxRefusal.{LxRefusal}
use Rattle.lx_types.specs.declared.refusal.LxKind.TheVariants.{EntryTable}
use Rattle.lx_types.specs.declared.fail.Fail.{Fail}
use Rattle.lx_types.specs.declared.fail.Fail.TheVariants.{Said, NoMemory}
use Rattle.lx_model.specs.Reading.{fault, number, Read, ◌>>=◌, ends, Many, many}
use Rattle.lx_model.specs.EntryTable.{Numbered, names_one_of, at_entry, gate_entry, forward_entry, bundle_entries, object_entries, bundle_of_type, bundle_at}
use Rattle.lx_model.specs.declared.limits.TheConstants.{MAX_ORDINAL}
use Rattle.lx_model.proofs.Many.{many_ends, many_more, many_fails}
use Rattle.lx_model.proofs.Shortening.{bundle_shortens}
use Rattle.lx_model.proofs.Steps.{bind_ok, done}
use Rattle.lx_entry.specs.declared.bundles.Form.{Form}
use Rattle.lx_entry.specs.declared.bundles.Form.TheVariants.{Narrow, Gate, Wide, Forwarder}
use Rattle.lx_entry.specs.declared.bundles.Head.{Head}
use Rattle.lx_entry.specs.declared.refusal.TableRefusal.{TableRefusal}
use Rattle.lx_entry.specs.Bundles.{entry_at, form_at, head_at, onto, Adds, AddsBundle, joined}
use Rattle.lx_entry.specs.Refusals.{refusal}
use Rattle.lx_entry.proofs.Refusals.{gives_failed, bundle_failed}

-- ---- a bundle is its head and its entries

-- the entries that stand after what was read of a bundle
abbrev pub entries_after : ℕ → ℕ → ℕ → Option Form → Cursor → Read (List Numbered)
entries_after imports n ordinal None c = Ok ([], c)
entries_after imports n ordinal (Some form) c = bundle_entries n ordinal (entry_at form imports) c

abbrev some_form : (ℕ → Form) → ℕ × Cursor → Read (Option Form)
some_form form o = Ok (Some (form o.0), o.1)

abbrev forwarders : ℕ × Cursor → Read (Option Form)
forwarders o = Ok (Some Forwarder, o.1)

abbrev head_with : ℕ → Option Form × Cursor → Read (Option Head)
head_with count form = Ok (Some (record { count = count; form = form.0 }), form.1)

abbrev no_head : Cursor → Read (Option Head)
no_head c = Ok (None, c)

abbrev put : List Numbered → List Numbered × Cursor → Read (List Numbered)
put before es = Ok (before ++ es.0, es.1)

object_split : (objects : ℕ) (f : LxRefusal) (r : Read ℕ) (form : ℕ → Form) (k : ℕ → Cursor → Read (List Numbered)) (e : Option Form → Cursor → Read (List Numbered)) →
    ((o : ℕ) (d : Cursor) → k o d ≡ e (Some (form o)) d) →
    (r >>= λ o. cond (not (names_one_of objects o.0)) (Err f) (k o.0 o.1)) ≡ (((r >>= λ o. cond (not (names_one_of objects o.0)) (Err f) (Ok o)) >>= some_form form) >>= λ x. e x.0 x.1)
object_split objects f (Err g) form k e same = refl
object_split objects f (Ok o) form k e same = by_test (not (names_one_of objects o.0))
  where
    by_test : (b : Bool) → cond b (Err f) (k o.0 o.1) ≡ ((cond b (Err f) (Ok o) >>= some_form form) >>= λ x. e x.0 x.1)
    by_test true = refl
    by_test false = same o.0 o.1

word_split : (r : Read ℕ) (k : Cursor → Read (List Numbered)) (e : Option Form → Cursor → Read (List Numbered)) → ((d : Cursor) → k d ≡ e (Some Forwarder) d) →
    (r >>= λ o. k o.1) ≡ ((r >>= forwarders) >>= λ x. e x.0 x.1)
word_split (Err g) k e same = refl
word_split (Ok o) k e same = same o.1

type_split : (kind objects imports bundle n ordinal : ℕ) (c : Cursor) → bundle_of_type kind objects imports bundle n ordinal c ≡ (form_at kind objects bundle c >>= λ form. entries_after imports n ordinal form.0 form.1)
unfolding bundle_of_type object_entries
type_split zero objects imports bundle n ordinal c = refl
type_split (suc zero) objects imports bundle n ordinal c = object_split objects (fault EntryTable bundle) (number 2 c) Narrow (λ o d. bundle_entries n ordinal (at_entry 2 o) d) (entries_after imports n ordinal) (λ o d. refl)
type_split (suc (suc zero)) objects imports bundle n ordinal c = object_split objects (fault EntryTable bundle) (number 2 c) Gate (λ o d. bundle_entries n ordinal (gate_entry o) d) (entries_after imports n ordinal) (λ o d. refl)
type_split (suc (suc (suc zero))) objects imports bundle n ordinal c = object_split objects (fault EntryTable bundle) (number 2 c) Wide (λ o d. bundle_entries n ordinal (at_entry 4 o) d) (entries_after imports n ordinal) (λ o d. refl)
type_split (suc (suc (suc (suc zero)))) objects imports bundle n ordinal c = word_split (number 2 c) (λ d. bundle_entries n ordinal (forward_entry imports) d) (entries_after imports n ordinal) (λ d. refl)
type_split (suc (suc (suc (suc (suc k))))) objects imports bundle n ordinal c = refl

abbrev pub with_head : ℕ → ℕ → Option Head → Cursor → Read (Option (List Numbered × ℕ))
with_head imports last None c = Ok (None, c)
with_head imports last (Some h) c = entries_after imports h.count (last + 1) h.form c >>= λ es. Ok (Some (es.0, last + h.count), es.1)

abbrev item : ℕ → List Numbered × Cursor → Read (Option (List Numbered × ℕ))
item last es = Ok (Some (es.0, last), es.1)

by_form : (imports last count : ℕ) (form : Read (Option Form)) →
    ((form >>= λ f. entries_after imports count (last + 1) f.0 f.1) >>= item (last + count)) ≡ ((form >>= head_with count) >>= λ h. with_head imports last h.0 h.1)
by_form imports last count (Err e) = refl
by_form imports last count (Ok f) = refl

by_type : (objects imports last count at : ℕ) (type : Read ℕ) →
    (type >>= λ t. bundle_of_type t.0 objects imports at count (last + 1) t.1 >>= item (last + count)) ≡ ((type >>= λ t. form_at t.0 objects at t.1 >>= head_with count) >>= λ h. with_head imports last h.0 h.1)
by_type objects imports last count at (Err e) = refl
by_type objects imports last count at (Ok t) = ap (λ (r : Read (List Numbered)). r >>= item (last + count)) (type_split t.0 objects imports at count (last + 1) t.1) ∙ by_form imports last count (form_at t.0 objects at t.1)

by_limit : (objects imports last count at : ℕ) (over : Bool) (type : Read ℕ) →
    cond over (Err (fault EntryTable at)) (type >>= λ t. bundle_of_type t.0 objects imports at count (last + 1) t.1 >>= item (last + count))
    ≡ (cond over (Err (fault EntryTable at)) (type >>= λ t. form_at t.0 objects at t.1 >>= head_with count) >>= λ h. with_head imports last h.0 h.1)
by_limit objects imports last count at true type = refl
by_limit objects imports last count at false type = by_type objects imports last count at type

by_zero : (objects imports last count at : ℕ) (d : Cursor) (none : Bool) →
    cond none (ends d) (cond (ltb MAX_ORDINAL (last + count)) (Err (fault EntryTable at)) (number 1 d >>= λ t. bundle_of_type t.0 objects imports at count (last + 1) t.1 >>= item (last + count)))
    ≡ (cond none (no_head d) (cond (ltb MAX_ORDINAL (last + count)) (Err (fault EntryTable at)) (number 1 d >>= λ t. form_at t.0 objects at t.1 >>= head_with count)) >>= λ h. with_head imports last h.0 h.1)
by_zero objects imports last count at d true = refl
by_zero objects imports last count at d false = by_limit objects imports last count at (ltb MAX_ORDINAL (last + count)) (number 1 d)

by_count : (objects imports last at : ℕ) (count : Read ℕ) →
    (count >>= λ n. cond (eqb n.0 0) (ends n.1) (cond (ltb MAX_ORDINAL (last + n.0)) (Err (fault EntryTable at)) (number 1 n.1 >>= λ t. bundle_of_type t.0 objects imports at n.0 (last + 1) t.1 >>= item (last + n.0))))
    ≡ ((count >>= λ n. cond (eqb n.0 0) (no_head n.1) (cond (ltb MAX_ORDINAL (last + n.0)) (Err (fault EntryTable at)) (number 1 n.1 >>= λ t. form_at t.0 objects at t.1 >>= head_with n.0))) >>= λ h. with_head imports last h.0 h.1)
by_count objects imports last at (Err e) = refl
by_count objects imports last at (Ok n) = by_zero objects imports last n.0 at n.1 (eqb n.0 0)

pub bundle_split : (objects imports last : ℕ) (c : Cursor) → bundle_at objects imports last c ≡ (head_at objects last c >>= λ h. with_head imports last h.0 h.1)
unfolding bundle_at
bundle_split objects imports last c = by_count objects imports last c.at (number 1 c)

-- ---- what the next bundle gives

after_head : (objects imports last : ℕ) (c d : Cursor) (h : Option Head) → head_at objects last c ≡ Ok (h, d) → bundle_at objects imports last c ≡ with_head imports last h d
after_head objects imports last c d h e = bundle_split objects imports last c ∙ ap (λ (r : Read (Option Head)). r >>= λ x. with_head imports last x.0 x.1) e

pub head_wrong : (objects imports last : ℕ) (c : Cursor) (e : LxRefusal) → head_at objects last c ≡ Err e → bundle_at objects imports last c ≡ Err e
head_wrong objects imports last c e is = bundle_split objects imports last c ∙ ap (λ (r : Read (Option Head)). r >>= λ x. with_head imports last x.0 x.1) is

pub head_ends : (objects imports last : ℕ) (c d : Cursor) → head_at objects last c ≡ Ok (None, d) → bundle_at objects imports last c ≡ Ok (None, d)
head_ends objects imports last c d e = after_head objects imports last c d None e

-- what is added by a bundle
pub record Added (objects imports last : ℕ) (c : Cursor) (next : ℕ) (before after : List Numbered) (d : Cursor) : Type 0 where
  pub entries : List Numbered
  pub read : bundle_at objects imports last c ≡ Ok (Some (entries, next), d)
  pub beyond : after ≡ before ++ entries

pub no_form : (objects imports last : ℕ) (c d : Cursor) (h : Head) (before : List Numbered) → head_at objects last c ≡ Ok (Some h, d) → h.form ≡ None → Added objects imports last c (last + h.count) before before d
no_form objects imports last c d h before e none = record {
  entries = [];
  read = after_head objects imports last c d (Some h) e ∙ ap (λ (f : Option Form). entries_after imports h.count (last + 1) f d >>= item (last + h.count)) none;
  beyond = sym (append-nil before);
}

with_form : (objects imports last : ℕ) (c d : Cursor) (h : Head) (form : Form) → head_at objects last c ≡ Ok (Some h, d) → h.form ≡ Some form →
    bundle_at objects imports last c ≡ (bundle_entries h.count (last + 1) (entry_at form imports) d >>= item (last + h.count))
with_form objects imports last c d h form e some = after_head objects imports last c d (Some h) e ∙ ap (λ (f : Option Form). entries_after imports h.count (last + 1) f d >>= item (last + h.count)) some

pub entries_wrong : (objects imports last : ℕ) (c d : Cursor) (h : Head) (form : Form) (e : LxRefusal) → head_at objects last c ≡ Ok (Some h, d) → h.form ≡ Some form →
    bundle_entries h.count (last + 1) (entry_at form imports) d ≡ Err e → bundle_at objects imports last c ≡ Err e
entries_wrong objects imports last c d h form e is some wrong = with_form objects imports last c d h form is some ∙ ap (λ (r : Read (List Numbered)). r >>= item (last + h.count)) wrong

pub entries_added : (objects imports last : ℕ) (c d end : Cursor) (h : Head) (form : Form) (before after : List Numbered) → head_at objects last c ≡ Ok (Some h, d) → h.form ≡ Some form →
    onto before (bundle_entries h.count (last + 1) (entry_at form imports) d) ≡ Ok (after, end) → Added objects imports last c (last + h.count) before after end
entries_added objects imports last c d end h form before after is some added =
    let read = bundle_entries h.count (last + 1) (entry_at form imports) d in
    let parts = bind_ok read (put before) (after, end) added in
    let es = parts.0 in
    let pair : (before ++ es.0, es.1) ≡ (after, end) = (let last = parts.2 in cc) in
    let here : Added objects imports last c (last + h.count) before (before ++ es.0) es.1 = record {
      entries = es.0;
      read = with_form objects imports last c d h form is some ∙ ap (λ (r : Read (List Numbered)). r >>= item (last + h.count)) parts.1;
      beyond = refl;
    } in
    subst (λ (p : List Numbered × Cursor). Added objects imports last c (last + h.count) before p.0 p.1) pair here

-- what a refusal of the entries is of the bundle
told_on : (objects imports last : ℕ) (c d : Cursor) (h : Head) (form : Form) (f : Fail TableRefusal) → head_at objects last c ≡ Ok (Some h, d) → h.form ≡ Some form →
    Tells (if_said_as (refusal EntryTable) f) (bundle_entries h.count (last + 1) (entry_at form imports) d) → Tells (if_said_as (refusal EntryTable) f) (bundle_at objects imports last c)
told_on objects imports last c d h form (Said r) is some told = entries_wrong objects imports last c d h form (refusal EntryTable r) is some told
told_on objects imports last c d h form NoMemory is some told = tt

pub pass_on : (objects imports last : ℕ) (c d : Cursor) (h : Head) (form : Form) (before after : List Numbered) (new : Cursor) (f : Fail TableRefusal) (answer : Result (Option ℕ) (Fail TableRefusal)) →
    head_at objects last c ≡ Ok (Some h, d) → h.form ≡ Some form → Adds (Err f) (bundle_entries h.count (last + 1) (entry_at form imports) d) before after new → IsErrAnd answer (λ e. e ≡ f) →
    AddsBundle answer (bundle_at objects imports last c) before after new
pass_on objects imports last c d h form before after new f answer is some told e = bundle_failed answer (bundle_at objects imports last c) before after new f e (told_on objects imports last c d h form f is some told)

-- ---- one bundle more

pub joined_none : (objects imports last : ℕ) (c d : Cursor) (before : List Numbered) (all : Result (List Numbered) LxRefusal) → bundle_at objects imports last c ≡ Ok (None, d) →
    joined before (many (bundle_at objects imports) last c) ≡ all → all ≡ Ok before
joined_none objects imports last c d before all e kept = sym kept ∙ ap (joined before) (many_ends (bundle_at objects imports) last c d e) ∙ ap done (append-nil before)

pub joined_wrong : (objects imports last : ℕ) (c : Cursor) (e : LxRefusal) (before : List Numbered) (all : Result (List Numbered) LxRefusal) → bundle_at objects imports last c ≡ Err e →
    joined before (many (bundle_at objects imports) last c) ≡ all → all ≡ Err e
joined_wrong objects imports last c e before all is kept = sym kept ∙ ap (joined before) (many_fails (bundle_at objects imports) last c e is)

joined_front : (before es : List Numbered) (rest : Many (List Numbered)) → joined (before ++ es) rest ≡ joined before (record { items = es ∷ rest.items; end = rest.end })
joined_front before es rest = by_end rest.end
  where
    by_end : (end : Result Cursor LxRefusal) → joined (before ++ es) (record { items = rest.items; end = end }) ≡ joined before (record { items = es ∷ rest.items; end = end })
    by_end (Ok d) = ap done (append_assoc before es (flat_map (λ xs. xs) rest.items))
    by_end (Err e) = refl

pub joined_more : (objects imports last next : ℕ) (c d : Cursor) (es before : List Numbered) (all : Result (List Numbered) LxRefusal) → bundle_at objects imports last c ≡ Ok (Some (es, next), d) →
    joined before (many (bundle_at objects imports) last c) ≡ all → joined (before ++ es) (many (bundle_at objects imports) next d) ≡ all
joined_more objects imports last next c d es before all e kept =
    joined_front before es (many (bundle_at objects imports) next d) ∙ sym (ap (joined before) (many_more (bundle_at objects imports) (bundle_shortens objects imports) last c d (es, next) e)) ∙ kept

-- what a refusal of a bundle is of the table
told_of : (objects imports last : ℕ) (c : Cursor) (before : List Numbered) (all : Result (List Numbered) LxRefusal) (f : Fail TableRefusal) → Tells (if_said_as (refusal EntryTable) f) (bundle_at objects imports last c) →
    joined before (many (bundle_at objects imports) last c) ≡ all → Tells (if_said_as (refusal EntryTable) f) all
told_of objects imports last c before all (Said r) told kept = joined_wrong objects imports last c (refusal EntryTable r) before all told kept
told_of objects imports last c before all NoMemory told kept = tt

pub refuse : (objects imports last : ℕ) (c : Cursor) (before after : List Numbered) (new : Cursor) (all : Result (List Numbered) LxRefusal) (f : Fail TableRefusal) (answer : Result (List Numbered) (Fail TableRefusal)) →
    AddsBundle (Err f) (bundle_at objects imports last c) before after new → IsErrAnd answer (λ e. e ≡ f) → joined before (many (bundle_at objects imports) last c) ≡ all → Gives (λ (es : List Numbered). es) (if_said_as (refusal EntryTable)) answer all
refuse objects imports last c before after new all f answer told e kept = gives_failed EntryTable (λ (es : List Numbered). es) answer all f e (told_of objects imports last c before all f told kept)

pub shorter : (objects imports last next : ℕ) (c d : Cursor) (es : List Numbered) → bundle_at objects imports last c ≡ Ok (Some (es, next), d) → length d.left < length c.left
shorter objects imports last next c d es e = bundle_shortens objects imports last c d (es, next) e
