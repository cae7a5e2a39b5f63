-- What a reader of fields says is wrong.
use Rattle.lx_types.specs.declared.refusal.LxRefusal.{LxRefusal}
use Rattle.lx_types.specs.declared.refusal.LxKind.TheVariants as kinds
use Rattle.lx_model.specs.Reading.{fault}
use Rattle.lx_fields.specs.declared.fields.Short.{Short}

-- a field passes the end
abbrev pub short_fault : Short → LxRefusal
short_fault short = fault kinds.Short short.at
