-- A source that means a script means an allowed one, with allowed managers.
use Rattle.std.proofs.Common.{◌≡◌, ◌≤◌, Bool, true, false, nat_le, if◌then◌else◌, [], length, Result, Ok, Err, IfOk, codes, subst, arith}
use Rattle.std.specs.Str.{is_utf8}
use Rattle.script_types.specs.model_kernel.State.{Text}
use Rattle.base_instructions.specs.Reader.{instr_of}
use Rattle.base_managers.specs.Managing.{ManagerTables, AreScriptManagers, managers_of}
use Rattle.toml.specs.Data.{Members}
use Rattle.toml.specs.Parse.{parse_document}
use Rattle.script_types.specs.Rules.{IsScript}
use Rattle.script_types.specs.Scripts.{tables_of}
use Rattle.script_types.specs.declared.refusals.ScriptFault.{ScriptFault}
use Rattle.script_types.specs.declared.refusals.Why.TheVariants.{NotToml, Long}
use Rattle.script_meaning.specs.Fields.{only, number_or}
use Rattle.script_meaning.specs.Meaning.{FramedTables, Source, programs_at, both_kinds, top_keys, entities_at, tree_meaning, script_meaning}
use Rattle.script_meaning.specs.Reading.{Reading, Reads, ◌>>=◌, refused, or_refused}
use Rattle.script_reading.specs.Views.{source_of}
use Rattle.script_reading.specs.declared.reading.ManagedScript.{ManagedScript}
use Rattle.script_meaning.proofs.Allowed.{IsAllowed, programs_ok, entities_ok}
use Rattle.script_meaning.proofs.Managed.{managers_ok}
use Rattle.script_meaning.proofs.Readings.{then_ok, same_ok, err_is_not_ok, number_or_ok}

abbrev pub IsAllowedSource : Source → Type 0
IsAllowedSource s = IsAllowed s.script × AreScriptManagers s.managers

tree_ok : (ms : Members) (s : Source) → tree_meaning instr_of ms ≡ Ok s → IsAllowedSource s
tree_ok ms s h =
    let made : FramedTables → ManagerTables → Source = λ script managers. record { script = script; managers = managers } in
    let a = then_ok (only top_keys [] ms) (λ _. number_or 10000 1 40000 [] (codes "steps") ms >>= (λ steps. number_or 32 1 256 [] (codes "frames") ms >>= (λ frames. programs_at instr_of ms >>= (λ programs. entities_at steps frames programs ms >>= (λ script. both_kinds programs ms >>= (λ managers. Ok (made script managers))))))) s h in
    let b = then_ok (number_or 10000 1 40000 [] (codes "steps") ms) (λ steps. number_or 32 1 256 [] (codes "frames") ms >>= (λ frames. programs_at instr_of ms >>= (λ programs. entities_at steps frames programs ms >>= (λ script. both_kinds programs ms >>= (λ managers. Ok (made script managers)))))) s a.2 in
    let c = then_ok (number_or 32 1 256 [] (codes "frames") ms) (λ frames. programs_at instr_of ms >>= (λ programs. entities_at b.0 frames programs ms >>= (λ script. both_kinds programs ms >>= (λ managers. Ok (made script managers))))) s b.2 in
    let d = then_ok (programs_at instr_of ms) (λ programs. entities_at b.0 c.0 programs ms >>= (λ script. both_kinds programs ms >>= (λ managers. Ok (made script managers)))) s c.2 in
    let e = then_ok (entities_at b.0 c.0 d.0 ms) (λ script. both_kinds d.0 ms >>= (λ managers. Ok (made script managers))) s d.2 in
    let f = then_ok (both_kinds d.0 ms) (λ managers. Ok (made e.0 managers)) s e.2 in
    let steps = number_or_ok 10000 1 40000 [] (codes "steps") ms b.0 (omega arith) (omega arith) b.1 in
    let frames = number_or_ok 32 1 256 [] (codes "frames") ms c.0 (omega arith) (omega arith) c.1 in
    let programs = programs_ok ms d.0 d.1 in
    subst IsAllowedSource (same_ok (made e.0 f.0) s f.2) (entities_ok b.0 c.0 d.0 ms e.0 steps frames programs e.1, managers_ok d.0 ms f.0 programs f.1)

-- a source that means a script means an allowed one
pub allowed : (bytes : Text) (s : Source) → script_meaning bytes ≡ Ok s → IsAllowedSource s
allowed bytes s h = by (nat_le (length bytes) 1048576) h
  where
    read : Reading Members
    read = if is_utf8 bytes then or_refused NotToml (codes "-") (parse_document bytes) else refused NotToml (codes "-")

    by : (b : Bool) → (if b then read >>= tree_meaning instr_of else refused Long (codes "-")) ≡ Ok s → IsAllowedSource s
    by true f = let p = then_ok read (tree_meaning instr_of) s f in tree_ok p.0 s p.2
    by false f = absurd (err_is_not_ok _ s f)

-- what a call may say of what it answers
pub rules_of : (bytes : Text) (result : Result ManagedScript ScriptFault) → Reads source_of (script_meaning bytes) result → IfOk result (λ s. IsScript (tables_of s.script))
rules_of bytes (Ok s) h = (allowed bytes (source_of s) h).0.0
rules_of bytes (Err e) h = tt

pub frames_of : (bytes : Text) (result : Result ManagedScript ScriptFault) → Reads source_of (script_meaning bytes) result → IfOk result (λ s. (1 ≤ s.script.frames) × (s.script.frames ≤ 256))
frames_of bytes (Ok s) h = let a = allowed bytes (source_of s) h in (a.0.1, a.0.2)
frames_of bytes (Err e) h = tt

pub managed_of : (bytes : Text) (result : Result ManagedScript ScriptFault) → Reads source_of (script_meaning bytes) result → IfOk result (λ s. AreScriptManagers (managers_of s.managers))
managed_of bytes (Ok s) h = (allowed bytes (source_of s) h).1
managed_of bytes (Err e) h = tt
