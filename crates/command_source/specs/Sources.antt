-- Which sources are accepted, why the others are refused, and where reading stops.
use Rattle.std.specs.Prelude.{◌≡◌, ℕ, ◌+◌, Ok, codes, string_bytes, Option, IfSome, ⊤}
use Rattle.std.specs.Io.KnownBytes.{IsAtEnd}
use Rattle.edge_streams.specs.Reading.{TakesAtMost}
use Rattle.edge_streams.specs.declared.reading.TheConstants.{PIECE_BYTES}
use Rattle.edge_streams.specs.declared.reading.ReadStop.{ReadStop}
use Rattle.edge_streams.specs.declared.reading.ReadStop.TheVariants.{Source as FromSource, Memory as NoRoom, Long as TooMuch}
use Rattle.script_types.specs.model_kernel.State.{Text}
use Rattle.script_types.specs.model_kernel.Scripts.{Script as Tables}
use Rattle.base_managers.specs.Managing.{ManagerTables}
use Rattle.script_reading.specs.script_meaning.Meaning.{script_meaning}
use Rattle.script_reading.specs.script_meaning.Reading.{refused}
use Rattle.script_types.specs.declared.refusals.Refusal.{Refusal}
use Rattle.script_types.specs.declared.refusals.Why.{Why}
use Rattle.script_types.specs.declared.refusals.Why.TheVariants.{Long}
use Rattle.command_outcomes.specs.Seen.{SeenSource}
use Rattle.command_outcomes.specs.declared.faults.Fault.{Fault}
use Rattle.command_outcomes.specs.declared.faults.Fault.TheVariants.{Script, Source, Memory}

-- the source stands for this script, with so many frames for each container, and brings these managers
abbrev pub MeansScript : Text → Tables → ℕ → ManagerTables → Type 0
MeansScript bytes script frames brought = script_meaning bytes ≡ Ok (record { script = record { tables = script; frames = frames }; managers = brought })

-- whatever the frames
abbrev pub IsAccepted : Text → Tables → ManagerTables → Type 0
IsAccepted bytes script brought = (frames : ℕ) × MeansScript bytes script frames brought

-- the source is refused so
abbrev pub IsRefusal : Text → Why → Text → Type 0
IsRefusal bytes why key = script_meaning bytes ≡ refused why key

-- the source is refused as the refusal says, where its bytes are told
abbrev pub IsRefusalOf : Option Text → Refusal → Type 0
IsRefusalOf left refusal = IfSome left (λ bytes. IsRefusal bytes refusal.why (string_bytes refusal.key))

-- THE SOURCE WAS READ to its end, and stands for this script and brings these managers, where its bytes are told
pub record HasRead (source : SeenSource) (script : Tables) (brought : ManagerTables) : Type 0 where
  pub accepted : IfSome source.before (λ bytes. IsAccepted bytes script brought)
  pub ended : IfSome source.before (λ _. IsAtEnd source.after)

-- WHY NO SCRIPT WAS READ: the source is refused so, its count of faults rose, or memory ran out
abbrev pub StopsSource : SeenSource → Fault → Type 0
StopsSource source (Script refusal) = IsRefusalOf source.before refusal
StopsSource source Source = source.rose
StopsSource source Memory = ⊤
StopsSource source fault = ⊥

-- at most so many bytes of the source were taken, where they are told
abbrev pub IsTakenTo : SeenSource → ℕ → Type 0
IsTakenTo source most = TakesAtMost source.before source.after most

-- HOW MUCH WAS TAKEN of a source that may have so many bytes and was not read: at most one piece more, and not that where it failed
abbrev pub StopsInTime : ℕ → SeenSource → Fault → Type 0
StopsInTime most source Source = IsTakenTo source most
StopsInTime most source fault = IsTakenTo source (most + PIECE_BYTES)

-- the fault is that of a source that is too long, unless memory ran out
abbrev pub IsLongFault : Fault → Type 0
IsLongFault (Script refusal) = (refusal.why ≡ Long) × (string_bytes refusal.key ≡ codes "-")
IsLongFault Memory = ⊤
IsLongFault fault = ⊥

-- the fault of a source whose reading stopped so
abbrev pub IsFaultOfStop : ReadStop → Fault → Type 0
IsFaultOfStop (FromSource fault) f = f ≡ Source
IsFaultOfStop NoRoom f = f ≡ Memory
IsFaultOfStop TooMuch f = IsLongFault f
