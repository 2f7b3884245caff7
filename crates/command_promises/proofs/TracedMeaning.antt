-- What a source of a script and a trace means, by where it parts.
use Rattle.std.proofs.Common.{◌≡◌, ℕ, ◌+◌, ◌<◌, ◌≤◌, Bool, true, false, if◌then◌else◌, nat_le, length, drop, take, Ok, Option, Some, None, option_map, codes, string_bytes, ap, ap₂, sym, subst, ◌∙◌, arith}
use Rattle.std.specs.Prelude.{IfSome}
use Rattle.std.proofs.lemmas.Bool.Decides.{nat_tests}
use Rattle.image_facts.specs.model_kernel.State.{Text}
use Rattle.script_drill.specs.script_types.declared.refusals.Refusal.{Refusal}
use Rattle.script_drill.specs.script_types.declared.refusals.ScriptFault.{ScriptFault}
use Rattle.script_drill.specs.script_types.declared.refusals.ScriptFault.TheVariants.{Refused, Memory as NoRoom}
use Rattle.script_drill.specs.script_types.declared.refusals.Why.{Why}
use Rattle.script_drill.specs.script_types.declared.refusals.Why.TheVariants.{Long, Missing}
use Rattle.script_meaning.specs.Meaning.{Source as ScriptSource, script_meaning}
use Rattle.script_meaning.specs.Reading.{IsBlamed, IsFaultOf, Reading, ◌>>=◌, or_refused, refused}
use Rattle.command_source.specs.Sources.{IsFaultOfStop}
use Rattle.image_reading.specs.edge_streams.Reading.{IsFault}
use Rattle.image_reading.specs.edge_streams.declared.reading.ReadStop.{ReadStop}
use Rattle.image_reading.specs.edge_streams.declared.reading.ReadStop.TheVariants as stop
use Rattle.command_source.specs.command_outcomes.Seen.{SeenSource}
use Rattle.command_source.specs.command_outcomes.declared.faults.Fault.{Fault}
use Rattle.command_source.specs.command_outcomes.declared.faults.Fault.TheVariants.{Script, Memory}
use Rattle.command_promises.specs.SourceParts.{Parts, parts_at, parts_of, rule_from}
use Rattle.command_promises.specs.Sources.{IsRefusalOf, MeansTraced, StopsTraced, Traced, most_bytes, parts_meaning, traced_meaning, with_trace}

within : (n m : ℕ) → n ≤ m → nat_le n m ≡ true
within n m le = grind (arith, nat_tests)

beyond : (n m : ℕ) → m < n → nat_le n m ≡ false
beyond n m lt = grind (arith, nat_tests)

abbrev by_parts : Option Parts → Reading Traced
by_parts parts = or_refused Missing (codes "---") parts >>= parts_meaning

abbrev by_length : Text → Bool → Reading Traced
by_length bytes b = if b then by_parts (parts_of bytes) else refused Long (codes "-")

opened : (bytes : Text) → traced_meaning bytes ≡ by_length bytes (nat_le (length bytes) most_bytes)
unfolding traced_meaning
opened bytes = λ i. by_length bytes (nat_le (length bytes) most_bytes)

pub meaning_long : (bytes : Text) → most_bytes < length bytes → traced_meaning bytes ≡ refused Long (codes "-")
meaning_long bytes lt = opened bytes ∙ ap (by_length bytes) (beyond (length bytes) most_bytes lt)

module _ (bytes : Text) (short : length bytes ≤ most_bytes) where
  meaning_short : traced_meaning bytes ≡ by_parts (parts_of bytes)
  meaning_short = opened bytes ∙ ap (by_length bytes) (within (length bytes) most_bytes short)

  -- without the line
  pub meaning_none : rule_from true bytes 0 ≡ None → traced_meaning bytes ≡ refused Missing (codes "---")
  meaning_none none = meaning_short ∙ ap (λ (o : Option ℕ). by_parts (option_map (parts_at bytes) o)) none

  module _ (at : ℕ) (is : rule_from true bytes 0 ≡ Some at) where
    meaning_at : traced_meaning bytes ≡ parts_meaning (parts_at bytes at)
    meaning_at = meaning_short ∙ ap (λ (o : Option ℕ). by_parts (option_map (parts_at bytes) o)) is

    -- the script before it is read
    pub meaning_ok : (source : ScriptSource) (trace : Text) → script_meaning (take at bytes) ≡ Ok source → trace ≡ drop (at + 4) bytes → MeansTraced bytes (with_trace trace source)
    meaning_ok source trace read same =
        meaning_at
        ∙ (ap (λ (r : Reading ScriptSource). r >>= (λ (s : ScriptSource). Ok (with_trace (drop (at + 4) bytes) s))) read
        ∙ ap (λ (t : Text). Ok (with_trace t source)) (sym same))

    -- or refused
    pub meaning_fault : (fault : ScriptFault) → IsFaultOf (script_meaning (take at bytes)) fault → IsFaultOf (traced_meaning bytes) fault
    meaning_fault (Refused refusal) told = meaning_at ∙ ap (λ (r : Reading ScriptSource). r >>= (λ (s : ScriptSource). Ok (with_trace (drop (at + 4) bytes) s))) told
    meaning_fault NoRoom told = tt

-- a source that is too long
long_refused : (before : Option Text) (refusal : Refusal) → IfSome before (λ left. most_bytes < length left) → refusal.why ≡ Long → string_bytes refusal.key ≡ codes "-" → IsRefusalOf before refusal
long_refused None refusal long why key = tt
long_refused (Some bytes) refusal long why key = meaning_long bytes long ∙ ap₂ (λ (w : Why) (k : Text). refused {A = Traced} w k) (sym why) (sym key)

-- why a reading stopped
pub stop_fault : (source : SeenSource) (s : ReadStop) (fault : Fault) → IsFaultOfStop s fault → (s ≡ stop.Long → IfSome source.before (λ left. most_bytes < length left)) → (IsFault s → source.rose) → StopsTraced source fault
stop_fault source (stop.Source f) fault is long rose = subst (StopsTraced source) (sym is) (rose tt)
stop_fault source stop.Memory fault is long rose = subst (StopsTraced source) (sym is) tt
stop_fault source stop.Long (Script refusal) is long rose = long_refused source.before refusal (long (λ i. stop.Long)) is.0 is.1
stop_fault source stop.Long Memory is long rose = tt
stop_fault source stop.Long fault is long rose = absurd is

-- a source without the line
pub none_fault : (bytes : Text) → length bytes ≤ most_bytes → rule_from true bytes 0 ≡ None → (fault : ScriptFault) → IsBlamed Missing (codes "---") fault → IsFaultOf (traced_meaning bytes) fault
none_fault bytes short none (Refused refusal) (why, key) = meaning_none bytes short none ∙ ap₂ (λ (w : Why) (k : Text). refused {A = Traced} w k) (sym why) (sym key)
none_fault bytes short none NoRoom told = tt
