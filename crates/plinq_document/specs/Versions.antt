-- The version of a document.
use Rattle.std.specs.Prelude.{ℤ, pos, Bool, true, false, if◌then◌else◌, option_and_then, Result, Ok, Err, codes}
use Rattle.std.specs.Ordering.{int_eq}
use Rattle.serde_json.specs.Data.{Data}
use Rattle.serde_json.specs.Find.{get}
use Rattle.plinq_document.specs.JsonValues.{whole_number}
use Rattle.plinq_document.specs.Results.{◌>>=◌, or_shape}
use Rattle.plinq_document.specs.declared.version.Version.{Version}
use Rattle.plinq_document.specs.declared.version.Version.TheVariants.{One, Two}
use Rattle.plinq_document.specs.declared.doc_fault.DocFault.{DocFault}
use Rattle.plinq_document.specs.declared.doc_fault.DocFault.TheVariants as fault

-- the version of this number
abbrev pub version_numbered : ℤ → Result Version DocFault
version_numbered n = if int_eq n (pos 1) then Ok One else if int_eq n (pos 2) then Ok Two else Err fault.Version

-- the version that a document names
abbrev pub version_in : Data → Result Version DocFault
version_in d = or_shape (option_and_then whole_number (get (codes "version") d)) >>= version_numbered

-- whether a version has what came with another
abbrev pub has : Version → Version → Bool
has One One = true
has One Two = false
has Two came = true
