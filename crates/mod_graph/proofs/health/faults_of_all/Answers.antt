use Rattle.std.proofs.Common.{◌∙◌, ap, length, arith}
use Rattle.std.proofs.lemmas.List.FromFn.{length-map-range_with_len}
use Rattle.mod_graph.specs.Faults.{faults_of}
use Rattle.mod_graph.proofs.Lists.{table_more}
use Rattle.mod_graph.proofs.health.faults_of_all.Goals as goal

pub loop-m-preserved : goal.loop-m-preserved
loop-m-preserved c =
    table_more (faults_of c.args.points.now) c.loop-m.faults.items c.push.new.self.items c.in_ok-faults_of_module.field-0 c.loop-m.m
    c.loop-m.invariant c.in_ok-faults_of_module.ensures c.in_ok-push.ensures.items

pub returns-clause-length : goal.returns-clause-length
returns-clause-length c =
    ap length c.loop-m.invariant ∙ length-map-range_with_len (faults_of c.args.points.now) 0 c.loop-m.m ∙ omega (arith, c.loop-m-test.false, c.loop-m.auto.m-end)
