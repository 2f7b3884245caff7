-- Words are one command at most.
use Rattle.std.proofs.Common.{◌≡◌, ◌∙◌, ◌+◌, ◌*◌, ℕ, Bool, List, [], ◌∷◌, ap, cond, inl, inr, length, sym, true, false}
use Rattle.std.specs.Prelude.{◌==◌, codes}
use Rattle.std.specs.Str.Parse.{digits_value}
use Rattle.command_words.specs.Commands.{AreOptionsWith, IsCommand, IsCopyOf}
use Rattle.command_words.specs.declared.Command.{Command}
use Rattle.command_words.specs.declared.Command.TheVariants.{CheckTrace, Copy, Drill, Format, Report, Run, RunOnThreads, Show}

-- a number that tells the words of the commands apart
abbrev mark : List (List ℕ) → ℕ
mark [] = 0
mark (word ∷ words) = length word + 10 * length words

abbrev value : List (List ℕ) → ℕ
value [] = 0
value (word ∷ []) = 0
value (word ∷ digits ∷ words) = digits_value 10 digits

-- the word behind `--workers`, which stands behind `--trace` or first, by its value
abbrev workers_in : List (List ℕ) → ℕ
workers_in [] = 0
workers_in (name ∷ []) = 0
workers_in (name ∷ option ∷ words) = cond (length option == 7) (value words) (value (option ∷ words))

-- the one command that words can be
abbrev told : List (List ℕ) → Command
told words = cond (mark words == 16) (Format (value words)) (cond (mark words == 15) (Drill (value words)) (cond (mark words == 13) (Run true)
    (cond (mark words == 3) (Run false) (cond (mark words == 4) Show (cond (mark words == 6) Report (cond (mark words == 24) Copy
    (cond (mark words == 23) (RunOnThreads (workers_in words) false) (cond (mark words == 33) (RunOnThreads (workers_in words) true) CheckTrace))))))))

threads_told : (options : List (List ℕ)) (digits : List ℕ) (workers : ℕ) (trace : Bool) → AreOptionsWith options digits trace → digits_value 10 digits ≡ workers
    → told (codes "run" ∷ options) ≡ RunOnThreads workers trace
threads_told options digits workers true (inl are) n = ap (λ behind. told (codes "run" ∷ behind)) are ∙ ap (λ w. RunOnThreads w true) n
threads_told options digits workers true (inr are) n = ap (λ behind. told (codes "run" ∷ behind)) are ∙ ap (λ w. RunOnThreads w true) n
threads_told options digits workers false (inl are) n = ap (λ behind. told (codes "run" ∷ behind)) are ∙ ap (λ w. RunOnThreads w false) n
threads_told options digits workers false (inr are) n = ap (λ behind. told (codes "run" ∷ behind)) are ∙ ap (λ w. RunOnThreads w false) n

is_told : (words : List (List ℕ)) (command : Command) → IsCommand words command → told words ≡ command
is_told words (Format blocks) (digits, is, number, size) = ap told is ∙ ap Format number.2
is_told words (Run true) is = ap told is
is_told words (Run false) is = ap told is
is_told words (RunOnThreads workers trace) (options, is, these) = ap told is ∙ threads_told options these.digits workers trace these.are these.number.0.2
is_told words Show is = ap told is
is_told words Report is = ap told is
is_told words (Drill seed) (digits, is, number, size) = ap told is ∙ ap Drill number.2
is_told words CheckTrace is = ap told is
is_told words Copy (name, fresh, copy) = ap told copy.0

pub one_command : (words : List (List ℕ)) (c d : Command) → IsCommand words c → IsCommand words d → c ≡ d
one_command words c d is also = sym (is_told words c is) ∙ is_told words d also

-- and have at most two names
pub one_copy : (words : List (List ℕ)) (name fresh other new : List ℕ) → IsCopyOf words name fresh → IsCopyOf words other new → (name ≡ other) × (fresh ≡ new)
one_copy words name fresh other new one two =
    let same : codes "copy" ∷ name ∷ fresh ∷ [] ≡ codes "copy" ∷ other ∷ new ∷ [] = sym one.0 ∙ two.0 in
    (cc same, cc same)
