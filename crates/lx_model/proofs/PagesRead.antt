-- The records of a page, and groups of iterated data, that were written are read again.
use Rattle.std.proofs.Common.{◌≡◌, ℕ, ◌+◌, ◌*◌, ◌<◌, ◌≤◌, cond, eqb, ltb, List, [], ◌∷◌, ◌++◌, length, Option, Some, None, Result, Ok, Err, refl, sym, subst, ap, ◌∙◌, append_assoc, arith, length-append}
use Rattle.std.specs.List.{flat_map, AllByRecursion as Each}
use Rattle.std.proofs.lemmas.Bool.{le-ltb}
use Rattle.lx_bytes.specs.Cursor.{Cursor}
use Rattle.lx_bytes.specs.LittleEndian.{little_bytes}
use Rattle.lx_types.specs.declared.refusal.LxRefusal.{LxRefusal}
use Rattle.lx_types.specs.declared.refusal.LxKind.TheVariants.{TooLong}
use Rattle.lx_types.specs.declared.object.TheConstants.{PAGE_SIZE}
use Rattle.lx_types.specs.declared.fix.Fix.{Fix}
use Rattle.lx_model.specs.Reading.{fault, cursor, text, number, Read, ◌>>=◌, ends, Many, many, fault_of}
use Rattle.lx_model.specs.Iterated.{Group, group_spelling, groups_spelling, group_data, groups_data, GroupFits, group_fields, fault_at, group_at}
use Rattle.lx_model.specs.Records.{Record, record_at, next_record, fixes_of}
use Rattle.lx_model.specs.RecordSpelling.{Written, record_spelling, fixes_written, RecordFits}
use Rattle.lx_model.specs.TableLaws.{RecordsReadAgain, GroupsReadAgain}
use Rattle.lx_model.proofs.Many.{many_ends, many_more, Whole, none_whole, more_whole, whole_is}
use Rattle.lx_model.proofs.NamesRead.{not_zero}
use Rattle.lx_model.proofs.ReadsAs.{ReadsAs, text_reads, number_reads, bind_reads, done_reads}
use Rattle.lx_model.proofs.RecordsRead.{record_reads}
use Rattle.lx_model.proofs.Shortening.{record_shortens, group_shortens}
use Rattle.lx_model.proofs.Steps.{done, other}
use Rattle.lx_model.proofs.TablesTaken.{length-repeat}

-- ---- records

-- the records mean what was written, and nothing is wrong
pub record Means (records : Many Record) (fixes : List Fix) : Type 0 where
  pub fixes_are : fixes_of records ≡ fixes
  pub faultless : fault_of records.end ≡ None

abbrev item : ℕ → List Fix → Option (Record × Unit {0})
item at fixes = Some (record { at = at; fixes = fixes }, tt)

pub next_ends : (at : ℕ) → next_record tt (cursor at []) ≡ Ok (None, cursor at [])
unfolding next_record
next_ends at = refl

pub next_reads : (c d : Cursor) (fixes : List Fix) → 0 < length c.left → record_at c ≡ Ok (fixes, d) → next_record tt c ≡ Ok (item c.at fixes, d)
unfolding next_record
next_reads c d fixes some is = other (eqb (length c.left) 0) (ends c) (record_at c >>= λ read. done (item c.at read.0, read.1)) (not_zero (length c.left) some) ∙ rw is refl

pub records_mean : (ws : List Written) (at : ℕ) → Each RecordFits ws → Means (many next_record tt (cursor at (flat_map record_spelling ws))) (flat_map fixes_written ws)
records_mean [] at fits =
    let none = many_ends next_record tt (cursor at []) (cursor at []) (next_ends at) in
    subst (λ (m : Many Record). Means m []) (sym none) (record { fixes_are = refl; faultless = refl })
records_mean (w ∷ ws) at fits =
    let bytes = record_spelling w in
    let tail = flat_map record_spelling ws in
    let here = next_reads (cursor at (bytes ++ tail)) (cursor (at + length bytes) tail) (fixes_written w) (omega arith) (record_reads w fits.0 at tail) in
    let step = many_more next_record record_shortens tt (cursor at (bytes ++ tail)) (cursor (at + length bytes) tail) (record { at = at; fixes = fixes_written w }, tt) here in
    let others = records_mean ws (at + length bytes) fits.1 in
    subst (λ (m : Many Record). Means m (fixes_written w ++ flat_map fixes_written ws)) (sym step)
    (record { fixes_are = ap (λ (x : List Fix). fixes_written w ++ x) others.fixes_are; faultless = others.faultless })

pub records_again : RecordsReadAgain
records_again ws fits = let means = records_mean ws 0 fits in (means.fixes_are, means.faultless)

-- ---- groups

abbrev after_times : ℕ → List ℕ × Cursor → Read Group
after_times times bytes = Ok (record { times = times; bytes = bytes.0 }, bytes.1)

fields_read : (g : Group) → GroupFits g → ReadsAs group_fields (group_spelling g) g
unfolding group_fields
fields_read g fits at rest =
    let bytes = g.bytes in
    let head = little_bytes 2 (length bytes) in
    let last : ReadsAs (λ d. number 2 d >>= λ len. text len.0 len.1 >>= after_times g.times) (head ++ bytes) g
    = bind_reads (number 2) (λ len. text len.0 len.1 >>= after_times g.times) head bytes (length bytes) g (number_reads 2 (length bytes) fits.bytes)
    (done_reads (text (length bytes)) (λ b. record { times = g.times; bytes = b }) bytes bytes (text_reads bytes)) in
    let all = bind_reads (number 2) (λ times. number 2 times.1 >>= λ len. text len.0 len.1 >>= after_times times.0) (little_bytes 2 g.times) (head ++ bytes) g.times g (number_reads 2 g.times fits.times) last at rest in
    subst (λ (x : List ℕ). group_fields (cursor at (x ++ rest)) ≡ Ok (g, cursor (at + length x) rest)) (sym (append_assoc (little_bytes 2 g.times) head bytes)) all

-- what is made of the fields of a group that stands at a place
abbrev after : ℕ → ℕ → Read Group → Read (Option (Group × ℕ))
after before at fields =
    fault_at at fields >>= λ group. cond (ltb PAGE_SIZE (before + group.0.times * length group.0.bytes))
    (Err (fault TooLong at)) (done (Some (group.0, before + group.0.times * length group.0.bytes), group.1))

pub group_read : (before at : ℕ) (g : Group) (rest : List ℕ) → GroupFits g → before + g.times * length g.bytes ≤ PAGE_SIZE →
    group_at before (cursor at (group_spelling g ++ rest)) ≡ Ok (Some (g, before + g.times * length g.bytes), cursor (at + length (group_spelling g)) rest)
unfolding group_at
group_read before at g rest fits small =
    let given = before + g.times * length g.bytes in
    let end = cursor (at + length (group_spelling g)) rest in
    let here = fields_read g fits at rest in
    let limit = le-ltb PAGE_SIZE given small in
    other (eqb (length (group_spelling g ++ rest)) 0) (ends (cursor at (group_spelling g ++ rest)))
    (after before at (group_fields (cursor at (group_spelling g ++ rest)))) (not_zero (length (group_spelling g ++ rest)) (omega arith))
    ∙ ap (after before at) here
    ∙ other (ltb PAGE_SIZE given) (Err (fault TooLong at)) (done (Some (g, given), end)) limit

group_ends : (before at : ℕ) → group_at before (cursor at []) ≡ Ok (None, cursor at [])
unfolding group_at
group_ends before at = refl

groups_read : (gs : List Group) (before at : ℕ) → Each GroupFits gs → before + length (groups_data gs) ≤ PAGE_SIZE → Whole (many group_at before (cursor at (groups_spelling gs))) gs []
groups_read [] before at fits small = none_whole group_at before (cursor at []) at [] (group_ends before at)
groups_read (g ∷ gs) before at fits small =
    let bytes = group_spelling g in
    let tail = groups_spelling gs in
    let size = length-repeat g.times g.bytes in
    let sum = length-append (group_data g) (groups_data gs) in
    more_whole group_at group_shortens before (cursor at (bytes ++ tail)) (cursor (at + length bytes) tail) (g, before + g.times * length g.bytes) gs [] (group_read before at g tail fits.0 (omega (arith, size, sum)))
    (groups_read gs (before + g.times * length g.bytes) (at + length bytes) fits.1 (omega (arith, size, sum)))

pub groups_again : GroupsReadAgain
groups_again gs fits small =
    let read = whole_is (many group_at 0 (cursor 0 (groups_spelling gs))) gs [] (groups_read gs 0 0 fits (omega arith)) in
    ap (λ (r : Result (List Group) LxRefusal). r >>= λ groups. Ok (groups_data groups)) read
