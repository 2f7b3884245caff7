-- What words say of their command: those without `--workers` are no run on threads, and numbers are in their bounds.
use Rattle.std.proofs.Common.{◌≡◌, ◌≤◌, ◌||◌, inl, inr, ℕ, Bool, true, false, List, [], ◌∷◌, map, refl, sym, ap, subst, ◌∙◌}
use Rattle.std.proofs.lemmas.Bool.{true≢false}
use Rattle.std.specs.List.{list_any}
use Rattle.std.specs.Prelude.{codes}
use Rattle.command_words.specs.Commands.{AreOptionsWith, AreThreadOptions, IsCommand}
use Rattle.command_words.specs.declared.Command.{Command}
use Rattle.command_words.specs.declared.Command.TheVariants.{Copy, Format, RunOnThreads}
use Rattle.command_check_trace.specs.image_facts.Layout.{least_blocks, most_blocks}
use Rattle.command_run.specs.model_kernel.State.{Text}
use Rattle.hopper_top.specs.Leaving.{IsSerial, names_workers}

-- a test of what each member is made into
pub any_in_map : {X Y : Type 0} (p : Y → Bool) (f : X → Y) (xs : List X) → list_any (λ x. p (f x)) xs ≡ list_any p (map f xs)
any_in_map p f [] = refl
any_in_map p f (x ∷ xs) = ap (λ b. p (f x) || b) (any_in_map p f xs)

has_word : (trace : Bool) (options : List Text) (digits : Text) → AreOptionsWith options digits trace → names_workers (codes "run" ∷ options) ≡ true
has_word false options digits (inl is) = ap (λ (o : List Text). names_workers (codes "run" ∷ o)) is
has_word true options digits (inl is) = ap (λ (o : List Text). names_workers (codes "run" ∷ o)) is
has_word trace options digits (inr is) = ap (λ (o : List Text). names_workers (codes "run" ∷ o)) is

module _ (words : List Text) (none : names_workers words ≡ false) (command : Command) (told : IsCommand words command) where
  no_threads : (workers : ℕ) (trace : Bool) → IsCommand words (RunOnThreads workers trace) → ⊥
  no_threads workers trace (options, are, o) = true≢false (sym (has_word trace options o.digits o.are) ∙ (ap names_workers (sym are) ∙ none))

  pub is_serial : IsSerial command
  is_serial workers trace is = no_threads workers trace (subst (λ (c : Command). IsCommand words c) is told)

-- so many workers as a run on threads may have
pub few_workers : (words : List Text) (command : Command) → IsCommand words command → (workers : ℕ) (trace : Bool) → command ≡ RunOnThreads workers trace → (1 ≤ workers) × (workers ≤ 16)
few_workers words command told workers trace is = (let o = subst (λ (c : Command). IsCommand words c) is told in o.2.number.1)

-- so many blocks as an image may have
pub few_blocks : (words : List Text) (command : Command) → IsCommand words command → (blocks : ℕ) → command ≡ Format blocks → (least_blocks ≤ blocks) × (blocks ≤ most_blocks)
few_blocks words command told blocks is = (let o = subst (λ (c : Command). IsCommand words c) is told in o.3)

-- a copy's words are those of a copy
pub copy_words : (words : List Text) (command : Command) → IsCommand words command → command ≡ Copy → IsCommand words Copy
copy_words words command told is = subst (λ (c : Command). IsCommand words c) is told
