-- What `clap` makes of the words of a command with no flag and at most one value.
use Rattle.std.proofs.Common.{◌≡◌, ◌∙◌, ℕ, zero, suc, Bool, true, false, refl, sym, ap, ap₂, List, [], ◌∷◌, Option, Some, None, Result, Ok, Err, IfErr, IfOk, IsErrAnd, IsTrue, MatchOption, ◌≢◌, ◌↔◌, ◌≤◌, length, drop, subst, arith, cond, codes, slice_index, ne_eqb, true≢false}
use Rattle.std.specs.Prelude.{encode_utf8, slice_get, ◌&&◌, ◌||◌, is_some, option_and_then}
use Rattle.std.specs.List.{list_all, list_any}
use Rattle.std.specs.Option.{option_map, option_map_or}
use Rattle.std.proofs.lemmas.Bool.{false≢true}
use Rattle.std.specs.Str.{bytes_eq, chars}
use Rattle.clap.specs.Lexer.{long_of, long_of_rest, short_of, short_of_rest, strip_byte}
use Rattle.clap.specs.Walk.{Held, Outcome, Row, Rule, Step, Text, Walk, after_flag, after_step, arg_by_index, arg_by_long, arg_by_short, bundle_met, bundle_step, done, first_of, finished, idle, long_met, long_or_other, nothing_held, plain, short_met, short_or_plain, trailing, value, walk_from, walked, word_met}
use Rattle.clap.specs.Words.{App, FailsBy, HasMatchesOf, first_value, found_of, rows_of, kind_of, Kinds, fault_of, is_simple, is_simple_and_free, matches_of, new_app, new_rule, takes, with_rule}
use Rattle.clap.specs.Simple.{Shape, built, entered, on_top}
use Rattle.clap.specs.Takes.{built_takes, bundle_passes, default_passes, entered_passes, is_valid, settle_passes, step_passes, walk_passes, word_passes, flag_word_passes}
use Rattle.clap.specs.Faults.{built_fault, positional_fault, step_fault, turn_fault, walk_fault, word_fault}
use Rattle.clap.specs.Kinds.{or_else}
use Rattle.clap.specs.declared.error.Error.{Error}
use Rattle.clap.specs.declared.parser.matches.ArgMatches.{ArgMatches}
use Rattle.clap.proofs.WalkLemmas.{first_value-rows}
use Rattle.std.specs.Borrow.{Bor}
use Rattle.clap.specs.declared.error.kind.ErrorKind.TheVariants.{InvalidSubcommand, OutOfMemory, UnknownArgument}
use Rattle.command_words.specs.Forms as form
use Rattle.clap.proofs.OnLiterals.{clap_on_literals}

-- a command of its name alone, and one with a value
abbrev pub bare : Text → App
bare name = on_top (λ s. record s { disable_help_flag = true }) (new_app name)

abbrev pub number : Rule
number = record (new_rule (codes "number")) { required = true }

abbrev pub valued : Text → App
valued name = with_rule (bare name) number

-- ---- lists of kinds

abbrev pub is_nil_kinds : Kinds → Bool
is_nil_kinds [] = true
is_nil_kinds (x ∷ xs) = false

pub no_first : (a b : Kinds) → or_else a b ≡ [] → a ≡ []
no_first [] b e = refl
no_first (k ∷ ks) b e = e

pub no_next : (a b : Kinds) → or_else a b ≡ [] → b ≡ []
no_next [] b e = e
no_next (k ∷ ks) b e = absurd (let f : is_nil_kinds (k ∷ ks) ≡ true = ap is_nil_kinds e in true≢false (sym f))

abbrev strays : Bool → Kinds
strays leaf = cond leaf (UnknownArgument ∷ []) (UnknownArgument ∷ InvalidSubcommand ∷ [])

unknown_kinds : UnknownArgument ∷ [] ≡ [] → ⊥
unknown_kinds e = absurd (let f : is_nil_kinds (UnknownArgument ∷ []) ≡ true = ap is_nil_kinds e in true≢false (sym f))

-- ---- one word

abbrev at_rest : List Row → Option (Text × List Text) → Held
at_rest rows pending = record { rows = rows; pending = pending; skip = 0 }

abbrev pub between : List Row → Option (Text × List Text) → ℕ → Walk
between rows pending position = record { held = at_rest rows pending; waiting = idle; position = position; is_trailing = false; stopped = None }

-- no argument is named by the word, if it is a long flag
abbrev pub NamesNone : List Rule → Text → Type 0
NamesNone c word = (p : Text × Option Text) → long_of word ≡ Some p → arg_by_long c p.0 ≡ None

module _ (c : List Rule) (no_short : (x : ℕ) → arg_by_short c x ≡ None) (rows : List Row) (pending : Option (Text × List Text)) where
  bundled : (word flags : Text) (k : ℕ) → after_flag c idle word (bundle_met c k flags 0 plain (at_rest rows pending)).0 (bundle_met c k flags 0 plain (at_rest rows pending)).1 ≡ (at_rest rows pending, value)
  unfolding bundle_met
  bundled word flags zero = refl
  bundled word flags (suc k) = go (slice_get (chars flags) 0)
    where
      go : (o : Option ℕ) → (λ (b : Held × Outcome). after_flag c idle word b.0 b.1) (bundle_step c o flags 0 plain (at_rest rows pending) (bundle_met c k)) ≡ (at_rest rows pending, value)
      go None = refl
      go (Some x) = ap (λ r. (λ (b : Held × Outcome). after_flag c idle word b.0 b.1) (short_met c r (drop (length (encode_utf8 x)) flags) (at_rest rows pending) (bundle_met c k (drop (length (encode_utf8 x)) flags) 0 done))) (no_short x)

  shorts : (word : Text) (o : Option Text) → short_or_plain c idle word o (at_rest rows pending) ≡ (at_rest rows pending, value)
  shorts word None = refl
  shorts word (Some flags) = bundled word flags _

  longs : (word : Text) (o : Option (Text × Option Text)) → ((p : Text × Option Text) → o ≡ Some p → arg_by_long c p.0 ≡ None) → long_or_other c idle word o (at_rest rows pending) ≡ (at_rest rows pending, value)
  longs word (Some p) no_long = ap (λ r. after_flag c idle word (long_met c r p.1 (at_rest rows pending)).0 (long_met c r p.1 (at_rest rows pending)).1) (no_long p refl)
  longs word None no_long = shorts word (short_of word)

  -- a word goes to a positional, also where it is refused as a flag
  pub goes_on : (word : Text) (position : ℕ) → NamesNone c word → bytes_eq word (codes "--") ≡ false → word_met c [] false idle position word (at_rest rows pending) ≡ (at_rest rows pending, value)
  goes_on word position no_long e = ap (λ b. cond b (at_rest rows pending, trailing position) (long_or_other c idle word (long_of word) (at_rest rows pending))) e ∙ longs word (long_of word) no_long

-- a word for which there is no place is refused
pub stray : (s : Shape) (word : Text) (rest : List Text) (rows : List Row) (pending : Option (Text × List Text)) (position : ℕ) → s.is_leaf ≡ true
    → NamesNone s.rules word → ((x : ℕ) → arg_by_short s.rules x ≡ None) → arg_by_index s.rules position ≡ None
    → bytes_eq word (codes "--") ≡ false → walk_fault s [] (between rows pending position) (word ∷ rest) ≡ [] → ⊥
unfolding walk_fault
stray s word rest rows pending position leaf no_long no_short none e fault =
    let w = between rows pending position in
    let turn : turn_fault s [] w word ≡ [] = no_first (turn_fault s [] w word) _ fault in
    let met = goes_on s.rules no_short rows pending word position no_long e in
    let step : step_fault s position (at_rest rows pending) value ≡ [] =
    sym (ap (λ (m : Held × Step). step_fault s position m.0 m.1) met) ∙ no_next (word_fault s [] false idle word (at_rest rows pending)) _ turn in
    unknown_kinds (sym (ap₂ (λ o leaf. option_map_or (λ a. positional_fault s.rules s.args_override_self a (at_rest rows pending)) o (strays leaf)) none leaf) ∙ step)

-- ---- a command of its name alone

module _ (name : Text) where
  pub bare_simple : is_simple_and_free (bare name) ≡ true
  bare_simple = refl

  pub bare_taken : (words : List Text) → drop 1 words ≡ [] → takes (bare name) words ≡ true
  unfolding clap_on_literals
  bare_taken words e = ap (λ ws. is_simple (bare name) && built_takes (built (bare name)) nothing_held ws) e

  pub bare_refused : (first word : Text) (rest : List Text) → bytes_eq word (codes "--") ≡ false → fault_of (bare name) (first ∷ word ∷ rest) ≡ [] → ⊥
  bare_refused first word rest e fault =
      stray (built (bare name)).top word rest [] None 1 refl (λ p is. refl) (λ x. refl) refl e (no_first (walk_fault (built (bare name)).top [] (walk_from nothing_held) (word ∷ rest)) _ fault)

-- the outcome of a parse, as the caller keeps it
abbrev pub IsOutcome : {M : Type 0} → Result M Error → Option M → Type 0
IsOutcome parsed r = MatchOption r (IsErrAnd parsed (λ e. kind_of e ≢ OutOfMemory)) (λ m. parsed ≡ Ok m)

pub not_taken : {M : Type 0} (parsed : Result M Error) (P : Type 0) → IsOutcome parsed None → IfErr parsed (λ e. P → kind_of e ≡ OutOfMemory) → P → ⊥
not_taken (Ok m) P out passes p = out
not_taken (Err e) P out passes p = out (passes p)

pub no_fault : {M : Type 0} (parsed : Result M Error) (m : M) (kinds : Kinds) → parsed ≡ Ok m → FailsBy kinds parsed → kinds ≡ []
no_fault parsed m kinds is fails = subst (FailsBy kinds) is fails

pub rest_stays : (first : Text) (rest : List Text) → list_any form.is_refused (first ∷ rest) ≡ false → list_any form.is_refused rest ≡ false
rest_stays first rest e = grind arith

pub second_stays : (first word : Text) (rest : List Text) → list_any form.is_refused (first ∷ word ∷ rest) ≡ false → bytes_eq word (codes "--") ≡ false
second_stays first word rest e = grind arith

pub none_behind : {M : Type 0} (name : Text) (words : List Text) (parsed : Result M Error) (r : Option M) → list_any form.is_refused words ≡ false
    → FailsBy (fault_of (bare name) words) parsed → IfErr parsed (λ e. takes (bare name) words ≡ true → kind_of e ≡ OutOfMemory) → IsOutcome parsed r
    → IsTrue (is_some r) ↔ length words ≤ 1
none_behind name [] parsed None fine fails passes out = absurd (not_taken parsed _ out passes (bare_taken name [] refl))
none_behind name (w ∷ []) parsed None fine fails passes out = absurd (not_taken parsed _ out passes (bare_taken name (w ∷ []) refl))
none_behind name (w ∷ v ∷ rest) parsed None fine fails passes out = (λ t. absurd (false≢true t), λ le. absurd (omega (arith, le)))
none_behind name [] parsed (Some m) fine fails passes out = (λ t. omega arith, λ le. refl)
none_behind name (w ∷ []) parsed (Some m) fine fails passes out = (λ t. omega arith, λ le. refl)
none_behind name (w ∷ v ∷ rest) parsed (Some m) fine fails passes out =
    absurd (bare_refused name w v rest (second_stays w v rest fine) (no_fault parsed m _ out fails))

-- ---- a command with one value

module _ (command : Text) where
  abbrev here : Shape
  here = (built (valued command)).top

  abbrev with_value : Text → Walk
  with_value v = between [] (Some (codes "number", v ∷ [])) 2

  walked_once : (v : Text) → bytes_eq v (codes "--") ≡ false → walked here.rules [] (walk_from nothing_held) v ≡ with_value v
  unfolding walked
  walked_once v e = ap (λ (m : Held × Step). after_step here.rules v (walk_from nothing_held) m.0 m.1) (goes_on here.rules (λ x. refl) [] None v 1 (λ p is. refl) e)

  pub valued_simple : is_simple_and_free (valued command) ≡ true
  valued_simple = refl

  pub also_simple : is_simple (valued command) ≡ true
  also_simple = refl

  none_refused : (words : List Text) → drop 1 words ≡ [] → fault_of (valued command) words ≡ [] → ⊥
  unfolding clap_on_literals
  none_refused words none fault =
      let missing : is_nil_kinds (fault_of (valued command) words) ≡ false = ap (λ ws. is_nil_kinds (built_fault (built (valued command)) nothing_held ws)) none in
      true≢false (sym (ap is_nil_kinds fault) ∙ missing)

  two_refused : (first v u : Text) (rest : List Text) → bytes_eq v (codes "--") ≡ false → bytes_eq u (codes "--") ≡ false → fault_of (valued command) (first ∷ v ∷ u ∷ rest) ≡ [] → ⊥
  unfolding walk_fault
  two_refused first v u rest e f fault =
      let all : walk_fault here [] (walk_from nothing_held) (v ∷ u ∷ rest) ≡ [] = no_first (walk_fault here [] (walk_from nothing_held) (v ∷ u ∷ rest)) _ fault in
      let second : walk_fault here [] (walked here.rules [] (walk_from nothing_held) v) (u ∷ rest) ≡ [] = no_next (turn_fault here [] (walk_from nothing_held) v) _ all in
      stray here u rest [] (Some (codes "number", v ∷ [])) 2 refl (λ p is. refl) (λ x. refl) refl f
      (sym (ap (λ w. walk_fault here [] w (u ∷ rest)) (walked_once v e)) ∙ second)

  pub value_found : (first v : Text) → bytes_eq v (codes "--") ≡ false → first_of (codes "number") (matches_of (valued command) (first ∷ v ∷ [])) ≡ Some v
  value_found first v e = ap (λ (w : Walk). first_of (codes "number") (finished here.rules w.held)) (walked_once v e)

  -- a word with no hyphen at its front is no flag

  no_minus : (v : Text) → (slice_index v 0 ≡ 45 → ⊥) → strip_byte 45 v ≡ None
  no_minus [] h = refl
  no_minus (x ∷ xs) h = ap (λ b. cond b (Some xs) None) (ne_eqb x 45 h)

  word_passes_on : (v : Text) → bytes_eq v (codes "--") ≡ false → (slice_index v 0 ≡ 45 → ⊥) → word_passes here [] false idle v nothing_held ≡ true
  word_passes_on v e h =
      let long : long_of v ≡ None = ap (λ o. option_and_then long_of_rest (option_and_then (strip_byte 45) o)) (no_minus v h) in
      let short : short_of v ≡ None = ap (option_and_then short_of_rest) (no_minus v h) in
      ap (λ b. b || flag_word_passes here.rules here.args_override_self (long_of v) v nothing_held) e
      ∙ ap (λ o. flag_word_passes here.rules here.args_override_self o v nothing_held) long
      ∙ ap (λ o. option_map_or (λ flags. bundle_passes here.rules here.args_override_self flags nothing_held) o true) short

  walk_passes_on : (v : Text) → bytes_eq v (codes "--") ≡ false → (slice_index v 0 ≡ 45 → ⊥) → walk_passes here [] (walk_from nothing_held) (v ∷ []) ≡ true
  unfolding walk_passes
  walk_passes_on v e h =
      ap₂ (λ b (m : Held × Step). (b && step_passes here 1 m.0 m.1) && true) (word_passes_on v e h) (goes_on here.rules (λ x. refl) [] None v 1 (λ p is. refl) e)

  abbrev level : Walk → Bool → Bool
  level w t = entered_passes (built (valued command)) w.stopped && (t && (settle_passes here.rules here.args_override_self w.held
      && (list_all default_passes here.rules && is_valid here (finished here.rules w.held) (is_some (entered (built (valued command)) w.stopped)))))

  pub value_taken : (first v : Text) → bytes_eq v (codes "--") ≡ false → (slice_index v 0 ≡ 45 → ⊥) → takes (valued command) (first ∷ v ∷ []) ≡ true
  value_taken first v e h = ap₂ level (walked_once v e) (walk_passes_on v e h)

  -- what was parsed had one word behind the name
  pub one_behind : {M : Type 0} (words : List Text) (parsed : Result M Error) (m : M) → list_any form.is_refused words ≡ false → FailsBy (fault_of (valued command) words) parsed → parsed ≡ Ok m
      → (name v : Text) × (words ≡ name ∷ v ∷ []) × (first_of (codes "number") (matches_of (valued command) words) ≡ Some v)
  one_behind [] parsed m fine fails is = absurd (none_refused [] refl (no_fault parsed m _ is fails))
  one_behind (w ∷ []) parsed m fine fails is = absurd (none_refused (w ∷ []) refl (no_fault parsed m _ is fails))
  one_behind (w ∷ v ∷ []) parsed m fine fails is = (w, v, refl, value_found w v (second_stays w v [] fine))
  one_behind (w ∷ v ∷ u ∷ rest) parsed m fine fails is =
      absurd (two_refused w v u rest (second_stays w v (u ∷ rest) fine) (second_stays v u rest (rest_stays w (v ∷ u ∷ rest) fine)) (no_fault parsed m _ is fails))

  -- what the getter gives is that word
  pub value_read : (words : List Text) (parsed : Result ArgMatches Error) (m : ArgMatches) (got : Option (Bor Text)) → list_any form.is_refused words ≡ false
      → FailsBy (fault_of (valued command) words) parsed → IfOk parsed (HasMatchesOf (valued command) words) → parsed ≡ Ok m
      → option_map (λ s. s.now) got ≡ first_value (found_of m) (codes "number") → (name v : Text) × (words ≡ name ∷ v ∷ []) × (option_map (λ s. s.now) got ≡ Some v)
  value_read words parsed m got fine fails matches is get =
      let (name, v, one, value_is) = one_behind words parsed m fine fails is in
      let rows : rows_of (found_of m) ≡ matches_of (valued command) words = (subst (λ p. IfOk p (HasMatchesOf (valued command) words)) is matches also_simple).0 in
      (name, v, one, get ∙ first_value-rows (found_of m) (codes "number") ∙ ap (first_of (codes "number")) rows ∙ value_is)

  -- one word that was refused begins with a hyphen
  pub refused_begins : {M : Type 0} (words : List Text) (name v : Text) (parsed : Result M Error) → words ≡ name ∷ v ∷ [] → list_any form.is_refused words ≡ false → IsOutcome parsed None
      → IfErr parsed (λ e. takes (valued command) words ≡ true → kind_of e ≡ OutOfMemory) → slice_index v 0 ≡ 45
  refused_begins words name v parsed is fine out passes =
      let stays = second_stays name v [] (subst (λ ws. list_any form.is_refused ws ≡ false) is fine) in
      let not : (slice_index v 0 ≡ 45 → ⊥) → ⊥ = λ h. not_taken parsed _ out passes (ap (takes (valued command)) is ∙ value_taken name v stays h) in
      grind (arith, not)
