-- What is told of resource files and of modules to which resources are not bound: kinds by their names.
use Rattle.std.specs.Prelude.{ℕ, List, codes}
use Rattle.answer_model.specs.FileRefusals.{placed}
use Rattle.res_model.specs.declared.refusal.ResRefusal.{ResRefusal}
use Rattle.res_model.specs.declared.refusal.ResRefusal.TheVariants.{Short, BadItem, Twice}
use Rattle.res_model.specs.declared.refusal.BindRefusal.{BindRefusal}
use Rattle.res_model.specs.declared.refusal.BindRefusal.TheVariants.{HasResources, TooMany, TooLarge}

-- `@AT KIND`
abbrev pub res_text : ResRefusal → List ℕ
res_text (Short at) = placed at (codes "Short")
res_text (BadItem at) = placed at (codes "BadItem")
res_text (Twice at) = placed at (codes "Twice")

abbrev pub bind_text : BindRefusal → List ℕ
bind_text HasResources = codes "HasResources"
bind_text TooMany = codes "TooMany"
bind_text TooLarge = codes "TooLarge"
