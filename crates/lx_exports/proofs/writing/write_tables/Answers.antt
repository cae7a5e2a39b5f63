use Rattle.std.proofs.Common.{◌≡◌, ℕ, Some, Result, Ok, Err}
use Rattle.std.specs.Prelude.{IfOk}
use Rattle.std.specs.List.{AllByRecursion}
use Rattle.lx_exports.specs.Exports.{export_refusal}
use Rattle.lx_exports.specs.Writing.{AreTablesOf, HeadIsThere, AreReadAgain}
use Rattle.lx_types.specs.Answers.{Answers}
use Rattle.lx_types.specs.declared.fail.Fail.{Fail}
use Rattle.lx_types.specs.declared.fail.Fail.TheVariants.{Said, NoMemory}
use Rattle.lx_exports.proofs.TablesRead.{tables_again}
use Rattle.lx_exports.proofs.writing.write_tables.Goals as goal

answer_follows : {A R : Type 0} (P Q : A → Type 0) (W : R → Type 0) (r : Result A (Fail R)) → ((a : A) → P a → Q a) → Answers r P W → IfOk r Q
answer_follows P Q W (Ok a) f h = f a h
answer_follows P Q W (Err (Said e)) f h = tt
answer_follows P Q W (Err NoMemory) f h = tt

pub returns-clause-read : goal.returns-clause-read
returns-clause-read c =
    let name = c.args.name.now in
    let about = c.args.about.now in
    let xs = c.args.exports.now in
    answer_follows
    (λ t. AreTablesOf name about xs t)
    (λ t. (objects imports : ℕ) → AllByRecursion (λ x. HeadIsThere objects imports x.head) xs → AreReadAgain objects imports name about xs t)
    (λ refusal. export_refusal xs ≡ Some refusal)
    c.tables_of.result
    (λ t are. tables_again name about xs t c.requires.named c.bytes-name.ensures.short c.bytes-about.ensures.short c.requires.fit c.export_ranges.ensures are)
    c.tables_of.ensures
