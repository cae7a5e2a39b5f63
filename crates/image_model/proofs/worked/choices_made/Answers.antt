use Rattle.std.proofs.Common.{refl}
use Rattle.image_model.proofs.Rules.{rules}
use Rattle.image_model.proofs.worked.choices_made.Goals as goal

pub returns-clause-forms : goal.returns-clause-forms
unfolding rules
returns-clause-forms c = record { empty = refl; short = refl; full = refl; pattern = refl; no_gain = refl; runs = refl }

pub returns-clause-records : goal.returns-clause-records
unfolding rules
returns-clause-records c = record { listed = refl; at_end = refl; before = refl; order = refl; import = refl; wide = refl; word_ordinal = refl; selector = refl; most = refl; one_less = refl }

pub returns-clause-bundles : goal.returns-clause-bundles
unfolding rules
returns-clause-bundles c = record { none = refl; joined = refl; objects = refl; types = refl; forwarders = refl; unused = refl }
