-- What a source of a script and a trace means, and why one is refused.
use Rattle.std.specs.Prelude.{◌≡◌, ℕ, nat_le, if◌then◌else◌, length, IfSome, Ok, Option, codes, string_bytes, ⊤}
use Rattle.std.specs.Io.KnownBytes.{IsAtEnd}
use Rattle.base_managers.specs.Managing.{ManagerTables}
use Rattle.image_facts.specs.model_kernel.Scripts.{Script as Tables}
use Rattle.image_facts.specs.model_kernel.State.{Text}
use Rattle.script_drill.specs.script_types.declared.refusals.Refusal.{Refusal}
use Rattle.script_drill.specs.script_types.declared.refusals.Why.TheVariants.{Long, Missing}
use Rattle.script_meaning.specs.Meaning.{Source as ScriptSource, script_meaning}
use Rattle.script_meaning.specs.Reading.{Reading, ◌>>=◌, or_refused, refused}
use Rattle.command_source.specs.command_outcomes.Seen.{SeenSource}
use Rattle.command_source.specs.command_outcomes.declared.faults.Fault.{Fault}
use Rattle.command_source.specs.command_outcomes.declared.faults.Fault.TheVariants.{Script, Source, Memory}
use Rattle.command_source.specs.Sources.{StopsInTime}
use Rattle.command_promises.specs.SourceParts.{Parts, parts_of}

-- bytes of a source at most
abbrev pub most_bytes : ℕ
most_bytes = 67108864

-- a script, the managers that it brings, and a trace
pub record Traced : Type 0 where
  pub script : Tables
  pub brought : ManagerTables
  pub trace : Text

abbrev pub with_trace : Text → ScriptSource → Traced
with_trace trace source = record { script = source.script.tables; brought = source.managers; trace = trace }

abbrev pub parts_meaning : Parts → Reading Traced
parts_meaning parts = script_meaning parts.script >>= (λ source. Ok (with_trace parts.trace source))

-- WHAT A SOURCE MEANS: the script before the first line `---`, whose own limit holds for it, with the managers that it brings, and the trace
-- behind that line
unfoldable pub traced_meaning : Text → Reading Traced
traced_meaning bytes =
    if nat_le (length bytes) most_bytes
    then or_refused Missing (codes "---") (parts_of bytes) >>= parts_meaning
    else refused Long (codes "-")

abbrev pub MeansTraced : Text → Traced → Type 0
MeansTraced bytes traced = traced_meaning bytes ≡ Ok traced

-- the source is refused as the refusal says, where its bytes are told
abbrev pub IsRefusalOf : Option Text → Refusal → Type 0
IsRefusalOf left refusal = IfSome left (λ bytes. traced_meaning bytes ≡ refused refusal.why (string_bytes refusal.key))

-- WHAT IS KNOWN OF WHAT WAS READ: what holds of the script, its managers and the trace that it means, why it is refused, that a count of
-- faults rose, and how much was taken where it was not read
pub record ReadFrom : Type 1 where
  pub means : (Traced → Type 0) → Type 0
  pub refused : Refusal → Type 0
  pub rose : Type 0
  pub in_time : Fault → Type 0

-- THE SOURCE WAS READ to its end, and means a script with its managers, and a trace, of which this holds
pub record OfSource (source : SeenSource) (P : Traced → Type 0) : Type 0 where
  pub traced : Traced
  pub means : IfSome source.before (λ bytes. MeansTraced bytes traced)
  pub ended : IfSome source.before (λ _. IsAtEnd source.after)
  pub holds : P traced

-- of a source
abbrev pub from_source : SeenSource → ReadFrom
from_source source = record { means = OfSource source; refused = IsRefusalOf source.before; rose = source.rose; in_time = StopsInTime most_bytes source }

-- the bytes mean a script with its managers, and a trace, of which this holds
pub record OfBytes (bytes : Text) (P : Traced → Type 0) : Type 0 where
  pub traced : Traced
  pub means : MeansTraced bytes traced
  pub holds : P traced

-- of bytes
abbrev pub from_bytes : Text → ReadFrom
from_bytes bytes = record { means = OfBytes bytes; refused = λ refusal. traced_meaning bytes ≡ refused refusal.why (string_bytes refusal.key); rose = ⊥; in_time = λ fault. ⊤ }

-- of a script, its managers and a trace
abbrev pub from_parts : Traced → ReadFrom
from_parts traced = record { means = λ P. P traced; refused = λ refusal. ⊥; rose = ⊥; in_time = λ fault. ⊤ }

-- WHY NONE WAS READ: the source is refused so, its count of faults rose, or memory ran out
abbrev pub StopsTraced : SeenSource → Fault → Type 0
StopsTraced source (Script refusal) = IsRefusalOf source.before refusal
StopsTraced source Source = source.rose
StopsTraced source Memory = ⊤
StopsTraced source fault = ⊥
