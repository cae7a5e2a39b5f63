use Rattle.std.proofs.Common.{subst}
use Rattle.link_model.specs.declared.refusals.LinkRefusal.TheVariants.{Sym}
use Rattle.link_place.proofs.AnswersMapped.{answers-value}
use Rattle.sym_table.specs.Binding.{IsRefused}
use Rattle.link_core.proofs.Assembled.{failed-by, sym-refused}
use Rattle.link_core.proofs.planning.plan_link.Goals as goal

pub plan_bound-requires : goal.plan_bound-requires
plan_bound-requires c =
    record { whole = c.requires.whole; kept = c.requires.kept; out = c.requires.out; bound = answers-value c.bind.result c.in-Ok.syms _ _ c.in-Ok.is c.bind.ensures }

pub returns-in-Err : goal.returns-in-Err
returns-in-Err c =
    failed-by c.bind.result c.in-Err.fail c.failed_as.result Sym _ _ _ _ c.failed_as.ensures c.in-Err.is (λ e h. sym-refused c.args.input.now e (subst (λ k. IsRefused k e) c.requires.kept h)) c.bind.ensures
