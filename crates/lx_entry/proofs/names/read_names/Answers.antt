use Rattle.std.proofs.Common.{◌≡◌, List, [], ◌∷◌, ◌++◌, Option, Some, None, Ok, sym, subst}
use Rattle.lx_model.specs.NameTables.{Named, name_entry}
use Rattle.lx_model.specs.Reading.{cursor, many, front}
use Rattle.lx_model.proofs.Many.{front_none, front_more}
use Rattle.lx_model.proofs.Shortening.{name_shortens}
use Rattle.std.specs.Option.{option_map}
use Rattle.lx_entry.proofs.NameLoop.{refuse}
use Rattle.lx_entry.proofs.names.read_names.Goals as goal

pub returns-in_err-named : goal.returns-in_err-named
returns-in_err-named c =
    refuse c.loop-names.fields c.loop-names.names (many name_entry tt (cursor 0 c.args.bytes.now)) c.in_err-named.field-0.0 c.from_residual.result c.in_err-named.ensures c.from_residual.ensures.1 c.loop-names.invariant

pub loop-names-smaller : goal.loop-names-smaller
loop-names-smaller c =
    let some : c.in_ok-named.field-0 ≡ Some c.in-Some.named = c.in-Some.is in
    let read = subst (λ (o : Option Named). name_entry tt c.loop-names.fields ≡ Ok (option_map (λ named. (named, tt)) o, c.name_entry.new.fields)) some c.in_ok-named.ensures in
    name_shortens tt c.loop-names.fields c.name_entry.new.fields (c.in-Some.named, tt) read

pub loop-names-preserved : goal.loop-names-preserved
loop-names-preserved c =
    let some : c.in_ok-named.field-0 ≡ Some c.in-Some.named = c.in-Some.is in
    let read = subst (λ (o : Option Named). name_entry tt c.loop-names.fields ≡ Ok (option_map (λ named. (named, tt)) o, c.name_entry.new.fields)) some c.in_ok-named.ensures in
    let all = many name_entry tt (cursor 0 c.args.bytes.now) in
    let more = front_more name_entry name_shortens tt c.loop-names.fields c.name_entry.new.fields (c.in-Some.named, tt) c.loop-names.names all read c.loop-names.invariant in
    let pushed : c.push.new.self ≡ c.loop-names.names ++ c.in-Some.named ∷ [] = c.in_ok-push.ensures in
    subst (λ (ns : List Named). front ns (many name_entry tt c.name_entry.new.fields) ≡ all) (sym pushed) more

pub returns : goal.returns
returns c =
    let none : c.in_ok-named.field-0 ≡ None = c.in_default.is in
    let end = subst (λ (o : Option Named). name_entry tt c.loop-names.fields ≡ Ok (option_map (λ named. (named, tt)) o, c.name_entry.new.fields)) none c.in_ok-named.ensures in
    front_none name_entry tt c.loop-names.fields c.name_entry.new.fields c.loop-names.names (many name_entry tt (cursor 0 c.args.bytes.now)) end c.loop-names.invariant
