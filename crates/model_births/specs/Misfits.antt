-- Why a script doesn't fit an atlas.
use Rattle.std.specs.Prelude.{◌≡◌, ℕ, ◌+◌, ◌++◌, List, [], ◌∷◌, length, codes, decimal, nat_le, if◌then◌else◌, Option, Some, None, is_some, option_map, string_bytes, ⊤}
use Rattle.model_sound_runs.specs.model_kernel.Scripts.{ContainerTable, LocusTable, Script, container_named, locus_named}
use Rattle.model_sound_runs.specs.model_kernel.State.{Text, AtlasState}
use Rattle.model_sound_runs.specs.model_kernel.Words.{or_else}
use Rattle.model_births.specs.Fitting.{Fits, new_containers, new_loci}
use Rattle.model_sound_runs.specs.script_types.declared.refusals.ScriptFault.{ScriptFault}
use Rattle.model_sound_runs.specs.script_types.declared.refusals.ScriptFault.TheVariants.{Refused, Memory}
use Rattle.model_sound_runs.specs.script_types.declared.refusals.Why.{Why}
use Rattle.model_sound_runs.specs.script_types.declared.refusals.Why.TheVariants.{Clash, NoRoom}

-- the key of the name of the table at this place
abbrev pub name_key : Text → ℕ → Text
name_key kind i = kind ++ codes "." ++ decimal i ++ codes ".name"

-- the place, counted from i, of the first container's table whose name is a locus in the atlas
abbrev pub container_clash : AtlasState → List ContainerTable → ℕ → Option ℕ
container_clash a [] i = None
container_clash a (t ∷ ts) i = if is_some (locus_named a t.name) then Some i else container_clash a ts (i + 1)

-- of the first locus's table whose name is a container
abbrev pub locus_clash : AtlasState → List LocusTable → ℕ → Option ℕ
locus_clash a [] i = None
locus_clash a (t ∷ ts) i = if is_some (container_named a t.name) then Some i else locus_clash a ts (i + 1)

-- the key of the first name that stands in the atlas with the other kind, in the script's order
abbrev pub clash_key : AtlasState → Script → Option Text
clash_key a script = or_else (option_map (name_key (codes "container")) (container_clash a script.containers 0)) (option_map (name_key (codes "locus")) (locus_clash a script.loci 0))

-- the kind of which more names are new than numbers are free
abbrev pub room_key : AtlasState → Script → Option Text
room_key a script =
    if nat_le (length a.containers + new_containers a script.containers) 40
    then (if nat_le (length a.loci + new_loci a script.loci) 23 then None else Some (codes "locus"))
    else Some (codes "container")

-- the first reason: a clash, and then want of room
abbrev pub misfit : AtlasState → Script → Option (Why × Text)
misfit a script = or_else (option_map (λ key. (Clash, key)) (clash_key a script)) (option_map (λ key. (NoRoom, key)) (room_key a script))

-- the refusal is this reason, and the script doesn't fit
abbrev pub IsMisfit : AtlasState → Script → ScriptFault → Type 0
IsMisfit a script (Refused refusal) = (misfit a script ≡ Some (refusal.why, string_bytes refusal.key)) × (Fits a script → ⊥)
IsMisfit a script Memory = ⊤

-- the two reasons one by one
abbrev pub IsClash : AtlasState → Script → ScriptFault → Type 0
IsClash a script (Refused refusal) = (refusal.why ≡ Clash) × (clash_key a script ≡ Some (string_bytes refusal.key))
IsClash a script Memory = ⊤

abbrev pub IsNoRoom : AtlasState → Script → ScriptFault → Type 0
IsNoRoom a script (Refused refusal) = (refusal.why ≡ NoRoom) × (room_key a script ≡ Some (string_bytes refusal.key))
IsNoRoom a script Memory = ⊤
