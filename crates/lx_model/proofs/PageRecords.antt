-- The records of a page that have no fault are all spelled so.
use Rattle.std.proofs.Common.{◌≡◌, ℕ, Bool, true, false, cond, eqb, List, [], ◌∷◌, ◌++◌, length, Option, Some, None, Ok, refl, subst, ap, ◌∙◌}
use Rattle.std.specs.List.{flat_map, AllByRecursion as Each}
use Rattle.std.proofs.lemmas.Bool.{eqb-true}
use Rattle.lx_bytes.specs.Cursor.{Cursor}
use Rattle.lx_bytes.specs.LittleEndian.{AreBytes}
use Rattle.lx_types.specs.declared.fix.Fix.{Fix}
use Rattle.lx_model.specs.Reading.{cursor, ◌>>=◌, ends, Many, fault_of}
use Rattle.lx_model.specs.Records.{Record, record_at, next_record, fixes_of}
use Rattle.lx_model.specs.RecordSpelling.{Written, record_spelling, fixes_written, RecordFits}
use Rattle.lx_model.specs.TableLaws.{RecordsAreSpelled}
use Rattle.lx_model.proofs.Many.{Cases, many_holds}
use Rattle.lx_model.proofs.RecordsTaken.{RecordTaken, record_taken}
use Rattle.lx_model.proofs.Shortening.{record_shortens}
use Rattle.lx_model.proofs.Steps.{bind_ok, done}
use Rattle.lx_model.proofs.TablesTaken.{empty}

-- no bytes are left, or a record
abbrev StepTaken : Cursor → Option (Record × Unit {0}) → Cursor → Type 0
StepTaken c None d = c.left ≡ []
StepTaken c (Some x) d = RecordTaken c x.0.fixes d

by_left : (c d : Cursor) (o : Option (Record × Unit {0})) (none : Bool) → AreBytes c.left → eqb (length c.left) 0 ≡ none →
    cond none (ends c) (record_at c >>= λ fixes. done (Some (record { at = c.at; fixes = fixes.0 }, tt), fixes.1)) ≡ Ok (o, d) → StepTaken c o d
by_left c d o true h is e =
    let pair : (None, c) ≡ (o, d) = cc in
    let here : c.left ≡ [] = empty c.left (eqb-true (length c.left) 0 is) in
    subst (λ (p : Option (Record × Unit {0}) × Cursor). StepTaken c p.0 p.1) pair here
by_left c d o false h is e =
    let first = bind_ok (record_at c) (λ fixes. done (Some (record { at = c.at; fixes = fixes.0 }, tt), fixes.1)) (o, d) e in
    let pair : (Some (record { at = c.at; fixes = first.0.0 }, tt), first.0.1) ≡ (o, d) = (let last = first.2 in cc) in
    subst (λ (p : Option (Record × Unit {0}) × Cursor). StepTaken c p.0 p.1) pair (record_taken c first.0.1 first.0.0 h first.1)

step_taken : (known : Unit {0}) (c d : Cursor) (o : Option (Record × Unit {0})) → AreBytes c.left → next_record known c ≡ Ok (o, d) → StepTaken c o d
unfolding next_record
step_taken known c d o h e = by_left c d o (eqb (length c.left) 0) h refl e

record AllTaken (c : Cursor) (m : Many Record) : Type 0 where
  written : List Written
  fits : Each RecordFits written
  means : fixes_of m ≡ flat_map fixes_written written
  parts : c.left ≡ flat_map record_spelling written

abbrev AreTaken : Unit {0} → Cursor → Many Record → Type 0
AreTaken known c m = AreBytes c.left → fault_of m.end ≡ None → AllTaken c m

all_taken : Cases next_record AreTaken
all_taken = record {
  none = λ known c d e h good. record { written = []; fits = tt; means = refl; parts = step_taken known c d None h e };
  wrong = λ known c e is h good. absurd cc;
  more = λ known c d x m e again h good.
      let first = step_taken known c d (Some x) h e in
      let rest = again first.taken.rest good in
      record {
        written = first.written ∷ rest.written;
        fits = (first.fits, rest.fits);
        means = ap (λ (fixes : List Fix). fixes ++ fixes_of m) first.means ∙ ap (λ (fixes : List Fix). fixes_written first.written ++ fixes) rest.means;
        parts = first.taken.parts ∙ ap (λ (ys : List ℕ). record_spelling first.written ++ ys) rest.parts;
      };
}

pub records_are_spelled : RecordsAreSpelled
records_are_spelled at bytes h good =
    let t = many_holds next_record AreTaken record_shortens all_taken tt (cursor at bytes) h good in
    (t.written, t.fits, t.means, t.parts)
