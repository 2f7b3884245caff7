-- Which words are a command. A word is the list of its bytes.
use Rattle.std.specs.Prelude.{◌≡◌, ◌⊎◌, ℕ, ◌<◌, ◌≤◌, Bool, true, false, List, [], ◌∷◌, ◌++◌, length, codes}
use Rattle.std.specs.Str.Parse.{IsNumeral, digits_value}
use Rattle.command_words.specs.Forms.{is_name, is_refused}
use Rattle.command_words.specs.declared.Command.{Command}
use Rattle.command_words.specs.declared.Command.TheVariants.{CheckTrace, Copy, Drill, Format, Report, Run, RunOnThreads, Show}

-- one to twenty decimal digits whose value is n; zeros may lead
abbrev pub IsNumber : List ℕ → ℕ → Type 0
IsNumber digits n = IsNumeral 10 digits × (length digits ≤ 20) × (digits_value 10 digits ≡ n)

-- how many blocks an image may have
abbrev pub IsSize : ℕ → Type 0
IsSize blocks = (2600 ≤ blocks) × (blocks ≤ 65536)

-- what a drill may be drawn from: 2^64 numbers
abbrev pub IsSeed : ℕ → Type 0
IsSeed seed = seed ≤ 18446744073709551615

-- how many workers a run on threads may have
abbrev pub IsWorkers : ℕ → Type 0
IsWorkers workers = (1 ≤ workers) × (workers ≤ 16)

-- the words behind `run`
abbrev pub run_words : Bool → List (List ℕ)
run_words false = []
run_words true = codes "--trace" ∷ []

-- `--workers` and the word behind it, with `--trace` before or behind both where the run is traced
abbrev pub AreOptionsWith : List (List ℕ) → List ℕ → Bool → Type 0
AreOptionsWith options digits trace = (options ≡ run_words trace ++ codes "--workers" ∷ digits ∷ []) ⊎ (options ≡ codes "--workers" ∷ digits ∷ run_words trace)

-- THE OPTIONS OF A RUN ON THREADS, which has so many workers, and is traced or not
pub record AreThreadOptions (options : List (List ℕ)) (workers : ℕ) (trace : Bool) : Type 0 where
  pub digits : List ℕ
  pub are : AreOptionsWith options digits trace
  pub number : IsNumber digits workers × IsWorkers workers

-- a word that may stand for a name: not refused, and without a hyphen before the rest
pub record IsNameWord (word : List ℕ) : Type 0 where
  pub stands : is_refused word ≡ false
  pub no_option : is_name word ≡ true

-- THE COPY of the container with the one name under the other
abbrev pub IsCopyOf : List (List ℕ) → List ℕ → List ℕ → Type 0
IsCopyOf words name fresh = (words ≡ codes "copy" ∷ name ∷ fresh ∷ []) × IsNameWord name × IsNameWord fresh

abbrev pub IsCommand : List (List ℕ) → Command → Type 0
IsCommand words (Format blocks) = (digits : List ℕ) × (words ≡ codes "format" ∷ digits ∷ []) × IsNumber digits blocks × IsSize blocks
IsCommand words (Run trace) = words ≡ codes "run" ∷ run_words trace
IsCommand words (RunOnThreads workers trace) = (options : List (List ℕ)) × (words ≡ codes "run" ∷ options) × AreThreadOptions options workers trace
IsCommand words Show = words ≡ codes "show" ∷ []
IsCommand words Report = words ≡ codes "report" ∷ []
IsCommand words (Drill seed) = (digits : List ℕ) × (words ≡ codes "drill" ∷ digits ∷ []) × IsNumber digits seed × IsSeed seed
IsCommand words CheckTrace = words ≡ codes "check-trace" ∷ []
IsCommand words Copy = (name fresh : List ℕ) × IsCopyOf words name fresh

-- THE WORDS BEHIND `mirror`: the path of the standby's file, which isn't empty; a seed; and how many of a hundred are lost
pub record AreMirrorWords (words : List (List ℕ)) (seed loss : ℕ) : Type 0 where
  pub standby : List ℕ
  pub digits : List ℕ
  pub lost : List ℕ
  pub are : words ≡ standby ∷ digits ∷ lost ∷ []
  pub path : 0 < length standby
  pub seed_is : IsNumber digits seed × IsSeed seed
  pub loss_is : IsNumber lost loss × (loss ≤ 90)
