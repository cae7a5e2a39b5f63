-- What is written of a module is an object file that means it.
use Rattle.obj_types.specs.declared.object.ObjModule.{ObjModule}
use Rattle.omf_model.specs.Object.{Obj}
use Rattle.omf_write.specs.ObjectBytes.{object_bytes}
use Rattle.omf_write.specs.ObjectFits.{ObjectFits}
use Rattle.omf_write.specs.Writable.{IsWritable}

-- So each module that can be written, whose names and numbers its types have room for, has an object file.
abbrev pub WritableModulesHaveFiles : Type 0
WritableModulesHaveFiles = (m : ObjModule) → IsWritable m → ObjectFits m → Obj (object_bytes m) m
