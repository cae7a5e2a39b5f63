use Rattle.transcript_read.specs.Modules.{NamesFirst}
use Rattle.transcript_read.proofs.modules.ModuleNames.of.Given as goal

abbrev pub invariant-loop-m : goal.invariant-loop-m
invariant-loop-m l = NamesFirst l.lib l.m l.table
