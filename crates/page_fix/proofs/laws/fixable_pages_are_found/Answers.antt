use Rattle.page_fix.proofs.Fixables.{fixable_so, fixable_only}
use Rattle.page_fix.proofs.Made.{fixable_is_listed}
use Rattle.page_fix.proofs.laws.fixable_pages_are_found.Goals as goal

pub returns-clause-listed : goal.returns-clause-listed
returns-clause-listed c = fixable_is_listed

pub returns-clause-so : goal.returns-clause-so
returns-clause-so c = fixable_so

pub returns-clause-only : goal.returns-clause-only
returns-clause-only c = fixable_only
