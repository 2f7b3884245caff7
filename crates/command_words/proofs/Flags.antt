-- What `clap` makes of the words of a run, which may have one flag.
use Rattle.std.proofs.Common.{◌≡◌, ◌∙◌, ℕ, Bool, true, false, refl, sym, ap, List, [], ◌∷◌, Option, Some, None, Result, Ok, is_some, length, not, one-add, take, ◌+◌, unwrap_or, IfErr, IfOk, drop, subst, cond, codes, true≢false}
use Rattle.std.specs.Prelude.{◌==◌, ◌||◌, Decides, option_and_then}
use Rattle.std.specs.List.{before_first, list_any, position_or_len}
use Rattle.std.specs.Str.{bytes_eq}
use Rattle.std.proofs.lemmas.Bool.{false≢true, or_parts}
use Rattle.std.proofs.lemmas.Bool.Decides.{Decides-eqb}
use Rattle.std.proofs.lemmas.Option.{option_and_then_some}
use Rattle.std.proofs.lemmas.Slice.Eq.{bytes_eq-Decides}
use Rattle.clap.specs.Lexer.{long_of, long_of_rest, strip_byte}
use Rattle.clap.specs.Walk.{Row, Text, Walk, nothing_held, one_of, rows_after, walk_from, walked}
use Rattle.clap.specs.Words.{App, FailsBy, HasMatchesOf, Rule, fault_of, found_of, is_simple, is_simple_and_free, kind_of, matches_of, new_rule, one_text, rows_of, takes, with_rule}
use Rattle.clap.specs.Simple.{Shape, built, filled}
use Rattle.clap.specs.Takes.{built_takes}
use Rattle.clap.specs.Faults.{turn_fault, walk_fault}
use Rattle.clap.specs.declared.builder.action.ArgAction.TheVariants.{SetTrue}
use Rattle.clap.specs.declared.error.Error.{Error}
use Rattle.clap.specs.declared.error.kind.ErrorKind.TheVariants.{OutOfMemory}
use Rattle.clap.specs.declared.parser.matches.ArgMatches.{ArgMatches}
use Rattle.clap.proofs.OnLiterals.{clap_on_literals}
use Rattle.clap.proofs.WalkLemmas.{one_text-rows}
use Rattle.command_words.specs.Commands.{run_words}
use Rattle.command_words.specs.Forms as form
use Rattle.command_words.proofs.Walks.{IsOutcome, NamesNone, bare, between, is_nil_kinds, no_fault, no_first, no_next, not_taken, rest_stays, second_stays, stray}

abbrev pub trace_rule : Rule
trace_rule = record (new_rule (codes "trace")) { long = Some (codes "trace"); action = Some SetTrue }

abbrev pub flagged : App
flagged = with_rule (bare (codes "run")) trace_rule

abbrev here : Shape
here = (built flagged).top

abbrev trace_filled : Rule
trace_filled = filled trace_rule

pub flagged_simple : is_simple_and_free flagged ≡ true
flagged_simple = refl

also_simple : is_simple flagged ≡ true
also_simple = refl

-- ---- a word that is another flag names no argument

whole_name : (xs : Text) → list_any (λ b. b == 61) xs ≡ false → before_first (λ b. b == 61) xs ≡ xs
whole_name [] none = refl
whole_name (x ∷ xs) none =
    let parts = or_parts (x == 61) (list_any (λ b. b == 61) xs) none in
    ap (λ b. take (cond (not b) (1 + position_or_len (λ y. y == 61) xs) 0) (x ∷ xs)) parts.0 ∙ ap (λ n. take n (x ∷ xs)) (one-add _) ∙ ap (λ ys. x ∷ ys) (whole_name xs parts.1)

stripped : (k : ℕ) (word rest : Text) → strip_byte k word ≡ Some rest → word ≡ k ∷ rest
stripped k [] rest e = absurd (false≢true (ap is_some e))
stripped k (x ∷ xs) rest e = go (x == k) refl (λ same. (Decides-eqb x k).0 same) e
  where
    go : (b : Bool) → b ≡ b → (b ≡ true → x ≡ k) → cond b (Some xs) None ≡ Some rest → x ∷ xs ≡ k ∷ rest
    go true b same is = ap (λ o. x ∷ unwrap_or o xs) is ∙ ap (λ y. y ∷ rest) (same refl)
    go false b same is = absurd (false≢true (ap is_some is))

named_rest : (rest : Text) (p : Text × Option Text) → list_any (λ b. b == 61) rest ≡ false → long_of_rest rest ≡ Some p → rest ≡ p.0
named_rest [] p none is = absurd (false≢true (ap is_some is))
named_rest (x ∷ xs) p none is = sym (whole_name (x ∷ xs) none) ∙ ap (λ o. (unwrap_or o p).0) is

-- what a long flag without a value is named
long_named : (word : Text) (p : Text × Option Text) → list_any (λ b. b == 61) word ≡ false → long_of word ≡ Some p → word ≡ 45 ∷ 45 ∷ p.0
long_named word p none is = option_and_then_some long_of_rest (option_and_then (strip_byte 45) (strip_byte 45 word)) p is (λ rest inner named.
    option_and_then_some (strip_byte 45) (strip_byte 45 word) rest inner (λ first outer more.
    let all : word ≡ 45 ∷ 45 ∷ rest = stripped 45 word first outer ∙ ap (λ r. 45 ∷ r) (stripped 45 first rest more) in
    let lacks : list_any (λ b. b == 61) rest ≡ false = sym (ap (list_any (λ b. b == 61)) all) ∙ none in
    all ∙ ap (λ r. 45 ∷ 45 ∷ r) (named_rest rest p lacks named)))

no_equals : (word : Text) → form.is_refused word ≡ false → list_any (λ b. b == 61) word ≡ false
no_equals word fine = (or_parts (length word == 0 || bytes_eq word (codes "--")) (list_any (λ b. b == 61) word) fine).1

other_names : (word : Text) → form.is_refused word ≡ false → (word ≡ codes "--trace" → ⊥) → NamesNone here.rules word
other_names word fine other p is = go (bytes_eq (codes "trace") p.0) (λ e. other (long_named word p (no_equals word fine) is ∙ ap (λ r. 45 ∷ 45 ∷ r) (sym ((bytes_eq-Decides (codes "trace") p.0).0 e))))
  where
    go : (b : Bool) → (b ≡ true → ⊥) → cond (b || false) (Some trace_filled) None ≡ None
    go true never = absurd (never refl)
    go false never = refl

-- ---- which words are taken

stray_here : (word : Text) (rest : List Text) (rows : List Row) → form.is_refused word ≡ false → bytes_eq word (codes "--") ≡ false → (word ≡ codes "--trace" → ⊥)
    → walk_fault here [] (between rows None 1) (word ∷ rest) ≡ [] → ⊥
stray_here word rest rows fine e other = stray here word rest rows None 1 refl (other_names word fine other) (λ x. refl) refl e

abbrev traced : Walk
traced = walked here.rules [] (walk_from nothing_held) (codes "--trace")

conflict : (u : Text) → u ≡ codes "--trace" → turn_fault here [] traced u ≡ [] → ⊥
unfolding clap_on_literals
conflict u is none = let bad : is_nil_kinds (turn_fault here [] traced u) ≡ false = ap (λ w. is_nil_kinds (turn_fault here [] traced w)) is in true≢false (sym (ap is_nil_kinds none) ∙ bad)

-- a second word behind the flag
second_refused : (u : Text) (rest : List Text) → form.is_refused u ≡ false → bytes_eq u (codes "--") ≡ false → walk_fault here [] traced (u ∷ rest) ≡ [] → ⊥
unfolding clap_on_literals
second_refused u rest fine e fault = stray_here u rest traced.held.rows fine e (λ is. conflict u is (no_first (turn_fault here [] traced u) _ fault)) fault

first_refused : (first v : Text) (rest : List Text) → list_any form.is_refused (first ∷ v ∷ rest) ≡ false → (v ≡ codes "--trace" → ⊥) → fault_of flagged (first ∷ v ∷ rest) ≡ [] → ⊥
first_refused first v rest fine other fault =
    stray_here v rest [] (or_parts (form.is_refused v) (list_any form.is_refused rest) (rest_stays first (v ∷ rest) fine)).0 (second_stays first v rest fine) other
    (no_first (walk_fault here [] (walk_from nothing_held) (v ∷ rest)) _ fault)

more_refused : (first v u : Text) (rest : List Text) → list_any form.is_refused (first ∷ v ∷ u ∷ rest) ≡ false → v ≡ codes "--trace" → fault_of flagged (first ∷ v ∷ u ∷ rest) ≡ [] → ⊥
unfolding walk_fault
more_refused first v u rest fine is fault =
    let stays = rest_stays first (v ∷ u ∷ rest) fine in
    let all : walk_fault here [] (walk_from nothing_held) (v ∷ u ∷ rest) ≡ [] = no_first (walk_fault here [] (walk_from nothing_held) (v ∷ u ∷ rest)) _ fault in
    let behind : walk_fault here [] (walked here.rules [] (walk_from nothing_held) v) (u ∷ rest) ≡ [] = no_next (turn_fault here [] (walk_from nothing_held) v) _ all in
    second_refused u rest (or_parts (form.is_refused u) (list_any form.is_refused rest) (rest_stays v (u ∷ rest) stays)).0 (second_stays v u rest stays)
    (subst (λ w. walk_fault here [] (walked here.rules [] (walk_from nothing_held) w) (u ∷ rest) ≡ []) is behind)

-- the words that a parse takes
flag_words : (words : List Text) → list_any form.is_refused words ≡ false → fault_of flagged words ≡ [] → (trace : Bool) × (drop 1 words ≡ run_words trace)
flag_words [] fine fault = (false, refl)
flag_words (w ∷ []) fine fault = (false, refl)
flag_words (w ∷ v ∷ rest) fine fault = go (bytes_eq v (codes "--trace")) (bytes_eq-Decides v (codes "--trace")) rest fine fault
  where
    go : (b : Bool) → Decides b (v ≡ codes "--trace") → (behind : List Text) → list_any form.is_refused (w ∷ v ∷ behind) ≡ false → fault_of flagged (w ∷ v ∷ behind) ≡ []
        → (trace : Bool) × (v ∷ behind ≡ run_words trace)
    go true tells [] ok none = (true, ap (λ x. x ∷ []) (tells.0 refl))
    go true tells (u ∷ us) ok none = absurd (more_refused w v u us ok (tells.0 refl) none)
    go false tells behind ok none = absurd (first_refused w v behind ok (λ is. false≢true (tells.1 is)) none)

-- what was parsed is the flag or nothing, and is told so
abbrev pub IsFlag : List Text → Bool → Type 0
IsFlag words trace = (drop 1 words ≡ run_words trace) × (one_of (codes "trace") (matches_of flagged words) ≡ Some (cond trace (codes "true") (codes "false")))

bare_flag : (words : List Text) (trace : Bool) → drop 1 words ≡ run_words trace → IsFlag words trace
unfolding clap_on_literals
bare_flag words true is = (is, ap (λ ws. one_of (codes "trace") (rows_after here.rules [] ws)) is)
bare_flag words false is = (is, ap (λ ws. one_of (codes "trace") (rows_after here.rules [] ws)) is)

pub flag_taken : (words : List Text) (trace : Bool) → drop 1 words ≡ run_words trace → takes flagged words ≡ true
unfolding clap_on_literals
flag_taken words true is = ap (λ ws. built_takes (built flagged) nothing_held ws) is
flag_taken words false is = ap (λ ws. built_takes (built flagged) nothing_held ws) is

-- what a getter makes of the flag is what stands in the words
pub flag_read : (words : List Text) (parsed : Result ArgMatches Error) (m : ArgMatches) (got : Bool) → list_any form.is_refused words ≡ false
    → FailsBy (fault_of flagged words) parsed → IfOk parsed (HasMatchesOf flagged words) → parsed ≡ Ok m
    → (one_text (found_of m) (codes "trace") ≡ Some (codes "true") → got ≡ true) → (one_text (found_of m) (codes "trace") ≡ Some (codes "false") → got ≡ false)
    → drop 1 words ≡ run_words got
flag_read words parsed m got fine fails matches is if_true if_false =
    let (trace, behind) = flag_words words fine (no_fault parsed m _ is fails) in
    let rows : rows_of (found_of m) ≡ matches_of flagged words = (subst (λ p. IfOk p (HasMatchesOf flagged words)) is matches also_simple).0 in
    let text = one_text-rows (found_of m) (codes "trace") ∙ ap (one_of (codes "trace")) rows ∙ (bare_flag words trace behind).1 in
    behind ∙ ap run_words (sym (told trace if_true if_false text))
  where
    told : (trace : Bool) → (one_text (found_of m) (codes "trace") ≡ Some (codes "true") → got ≡ true) → (one_text (found_of m) (codes "trace") ≡ Some (codes "false") → got ≡ false)
        → one_text (found_of m) (codes "trace") ≡ Some (cond trace (codes "true") (codes "false")) → got ≡ trace
    told true if_true if_false text = if_true text
    told false if_true if_false text = if_false text

-- words that are none of a run are refused
pub flag_refused : {M : Type 0} (words : List Text) (trace : Bool) (parsed : Result M Error) → IsOutcome parsed None
    → IfErr parsed (λ e. takes flagged words ≡ true → kind_of e ≡ OutOfMemory) → drop 1 words ≡ run_words trace → ⊥
flag_refused words trace parsed out passes is = not_taken parsed _ out passes (flag_taken words trace is)
