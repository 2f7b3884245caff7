-- Words, their bytes, and which are no command.
use Rattle.std.proofs.Common.{◌≡◌, ◌∙◌, ◌<◌, ℕ, Bool, List, [], ◌∷◌, length, map, Option, Some, None, IfSome, IfNone, sym, ap, ap₂, refl, true, false, true≢false, is_some, unwrap_or, String, string_bytes, codes, slice_index, ne_eqb, arith, inl, inr, drop, subst}
use Rattle.std.specs.Prelude.{◌==◌, ◌&&◌, ◌||◌, slice_get, bytes_eq}
use Rattle.std.specs.Bool.{then_some}
use Rattle.std.specs.List.{list_any}
use Rattle.std.specs.Borrow.{Bor}
use Rattle.std.specs.Option.{option_map}
use Rattle.std.specs.Str.Parse.{AllDigits, IsNumeral}
use Rattle.std.proofs.lemmas.Bool.{and_parts, false≢true}
use Rattle.std.proofs.lemmas.Option.{same_Some}
use Rattle.clap.proofs.WalkLemmas.{list_any-map}
use Rattle.std.proofs.lemmas.Str.Parse.{digit_from_value}
use Rattle.command_words.specs.Commands.{AreOptionsWith, AreThreadOptions, IsCommand, run_words}
use Rattle.command_words.specs.Forms as form
use Rattle.command_words.specs.declared.Command.{Command}
use Rattle.command_words.specs.declared.Command.TheVariants.{CheckTrace, Copy, Drill, Format, Report, Run, RunOnThreads, Show}

-- what a getter gave, by its bytes
pub value_given : (r : Option (Bor (List ℕ))) (name v : List ℕ) (words : List (List ℕ)) → option_map (λ s. s.now) r ≡ Some v → words ≡ name ∷ v ∷ []
    → IfSome r (λ value. (x : List ℕ) × (words ≡ x ∷ value.now ∷ []))
value_given None name v words e is = tt
value_given (Some s) name v words e is = (name, is ∙ ap (λ t. name ∷ t ∷ []) (sym (ap (λ o. unwrap_or o v) e)))

pub is_given : (P : Type 0) (r : Option (Bor (List ℕ))) (v : List ℕ) → option_map (λ s. s.now) r ≡ Some v → IfNone r P
is_given P None v e = absurd (false≢true (ap is_some e))
is_given P (Some s) v e = tt

-- ---- digits are no refused word

no_equals : (digits : List ℕ) → AllDigits 10 digits → list_any (λ b. b == 61) digits ≡ false
no_equals [] h = refl
no_equals (d ∷ ds) h =
    let digit = digit_from_value d h.0 in
    ap₂ (λ a b. a || b) (ne_eqb d 61 (λ e. omega (arith, digit.1, e))) (no_equals ds h.1)

first_digit : (digits : List ℕ) → IsNumeral 10 digits → slice_index digits 0 ≡ 45 → ⊥
first_digit [] h e = absurd (omega (arith, h.0))
first_digit (d ∷ ds) h e = let digit = digit_from_value d h.1.0 in omega (arith, digit.0, e)

not_dashes : (digits : List ℕ) → (slice_index digits 0 ≡ 45 → ⊥) → bytes_eq digits (codes "--") ≡ false
not_dashes [] h = refl
not_dashes (d ∷ ds) h = ap (λ b. b && bytes_eq ds (45 ∷ [])) (ne_eqb d 45 h)

digits_stand : (digits : List ℕ) → IsNumeral 10 digits → form.is_refused digits ≡ false
digits_stand digits h =
    ap₂ (λ a b. a || b) (ap₂ (λ a b. a || b) (ne_eqb (length digits) 0 (λ e. omega (arith, h.0, e))) (not_dashes digits (first_digit digits h))) (no_equals digits h.1)

options_stand : (options : List (List ℕ)) (digits : List ℕ) (trace : Bool) → form.is_refused digits ≡ false → AreOptionsWith options digits trace → list_any form.is_refused options ≡ false
options_stand options digits true fine (inl is) = ap (list_any form.is_refused) is ∙ ap (λ b. b || false) fine
options_stand options digits true fine (inr is) = ap (list_any form.is_refused) is ∙ ap (λ b. b || false) fine
options_stand options digits false fine (inl is) = ap (list_any form.is_refused) is ∙ ap (λ b. b || false) fine
options_stand options digits false fine (inr is) = ap (list_any form.is_refused) is ∙ ap (λ b. b || false) fine

-- a command has no refused word
pub commands_stand : (words : List (List ℕ)) (command : Command) → IsCommand words command → list_any form.is_refused words ≡ false
commands_stand words (Format blocks) (digits, is, number, size) = ap (list_any form.is_refused) is ∙ ap (λ b. b || false) (digits_stand digits number.0)
commands_stand words (Drill seed) (digits, is, number, size) = ap (list_any form.is_refused) is ∙ ap (λ b. b || false) (digits_stand digits number.0)
commands_stand words (Run true) is = ap (list_any form.is_refused) is
commands_stand words (Run false) is = ap (list_any form.is_refused) is
commands_stand words (RunOnThreads workers trace) (options, is, these) = ap (list_any form.is_refused) is ∙ options_stand options these.digits trace (digits_stand these.digits these.number.0.0) these.are
commands_stand words Show is = ap (list_any form.is_refused) is
commands_stand words Report is = ap (list_any form.is_refused) is
commands_stand words CheckTrace is = ap (list_any form.is_refused) is
commands_stand words Copy (name, fresh, copy) = ap (list_any form.is_refused) copy.0 ∙ ap₂ (λ a b. a || (b || false)) copy.1.stands copy.2.stands

pub no_command : (words : List (List ℕ)) → list_any form.is_refused words ≡ true → (command : Command) → IsCommand words command → ⊥
no_command words e command is = true≢false (sym e ∙ commands_stand words command is)

-- the first byte of the first word
abbrev pub letter : List (List ℕ) → ℕ
letter words = slice_index (unwrap_or (slice_get words 0) []) 0

-- words of a command without digits
other_word : (words others : List (List ℕ)) (a b : ℕ) → words ≡ others → letter others ≡ a → letter words ≡ b → (a ≡ b → ⊥) → ⊥
other_word words others a b is at front differ = differ (sym at ∙ ap letter (sym is) ∙ front)

-- with no value, or one that begins with a hyphen, neither `format` nor `drill` is a command
pub no_number : (words : List (List ℕ)) (k : ℕ) → letter words ≡ k → k < 114 → (99 ≡ k → ⊥)
    → ((name v : List ℕ) → words ≡ name ∷ v ∷ [] → slice_index v 0 ≡ 45) → (command : Command) → IsCommand words command → ⊥
no_number words k front low not_c hyphen (Format blocks) (digits, is, number, size) = first_digit digits number.0 (hyphen (codes "format") digits is)
no_number words k front low not_c hyphen (Drill seed) (digits, is, number, size) = first_digit digits number.0 (hyphen (codes "drill") digits is)
no_number words k front low not_c hyphen (Run true) is = other_word words _ 114 k is refl front (λ e. omega arith)
no_number words k front low not_c hyphen (Run false) is = other_word words _ 114 k is refl front (λ e. omega arith)
no_number words k front low not_c hyphen (RunOnThreads workers trace) (options, is, these) = other_word words _ 114 k is refl front (λ e. omega arith)
no_number words k front low not_c hyphen Show is = other_word words _ 115 k is refl front (λ e. omega arith)
no_number words k front low not_c hyphen Report is = other_word words _ 114 k is refl front (λ e. omega arith)
no_number words k front low not_c hyphen CheckTrace is = other_word words _ 99 k is refl front not_c
no_number words k front low not_c hyphen Copy (name, fresh, copy) = other_word words _ 99 k copy.0 refl front not_c

-- how many letters the first word has: of all names of commands `run` alone has three
abbrev pub letters : List (List ℕ) → ℕ
letters words = length (unwrap_or (slice_get words 0) [])

other_letters : (words others : List (List ℕ)) (a : ℕ) → words ≡ others → letters others ≡ a → letters words ≡ 3 → (a ≡ 3 → ⊥) → ⊥
other_letters words others a is at three differ = differ (sym at ∙ ap letters (sym is) ∙ three)

-- with other words behind it than the options of a run, `run` is no command
pub no_run : (words : List (List ℕ)) → letters words ≡ 3 → ((workers : ℕ) (trace : Bool) → AreThreadOptions (drop 1 words) workers trace → ⊥)
    → ((trace : Bool) → drop 1 words ≡ run_words trace → ⊥) → (command : Command) → IsCommand words command → ⊥
no_run words three threads plain (Run trace) is = plain trace (ap (drop 1) is)
no_run words three threads plain (RunOnThreads workers trace) (options, is, these) = threads workers trace (subst (λ behind. AreThreadOptions behind workers trace) (sym (ap (drop 1) is)) these)
no_run words three threads plain (Format blocks) (digits, is, number, size) = other_letters words _ 6 is refl three (λ e. omega arith)
no_run words three threads plain (Drill seed) (digits, is, number, size) = other_letters words _ 5 is refl three (λ e. omega arith)
no_run words three threads plain Show is = other_letters words _ 4 is refl three (λ e. omega arith)
no_run words three threads plain Report is = other_letters words _ 6 is refl three (λ e. omega arith)
no_run words three threads plain CheckTrace is = other_letters words _ 11 is refl three (λ e. omega arith)
no_run words three threads plain Copy (name, fresh, copy) = other_letters words _ 4 copy.0 refl three (λ e. omega arith)

-- where a map gave none, there was none before
pub none_mapped : {A B P Q : Type 0} (r : Option A) (mapped : Option B) → is_some mapped ≡ is_some r → IfNone r P → (P → Q) → IfNone mapped Q
none_mapped None None same none so = so none
none_mapped (Some x) None same none so = absurd (false≢true same)
none_mapped r (Some y) same none so = tt

-- no word is refused, said of the bytes
pub none_in_bytes : {Z : Type 0} (words : List (String Z)) → list_any (λ word. form.is_refused (string_bytes word)) words ≡ false → list_any form.is_refused (map string_bytes words) ≡ false
none_in_bytes words none = sym (list_any-map form.is_refused string_bytes words) ∙ none

pub string_front : {Z : Type 0} (words : List (String Z)) (first : String Z) → slice_get words 0 ≡ Some first → slice_get (map string_bytes words) 0 ≡ Some (string_bytes first)
string_front [] first e = absurd (false≢true (ap is_some e))
string_front (w ∷ ws) first e = ap (option_map string_bytes) e

pub first_letter : {Z : Type 0} (words : List (String Z)) (first : String Z) (name : List ℕ) → slice_get words 0 ≡ Some first → string_bytes first ≡ name
    → letter (map string_bytes words) ≡ slice_index name 0
first_letter words first name at named = ap (λ o. slice_index (unwrap_or o []) 0) (string_front words first at) ∙ ap (λ word. slice_index word 0) named

pub first_letters : {Z : Type 0} (words : List (String Z)) (first : String Z) (name : List ℕ) → slice_get words 0 ≡ Some first → string_bytes first ≡ name
    → letters (map string_bytes words) ≡ length name
first_letters words first name at named = ap (λ o. length (unwrap_or o [])) (string_front words first at) ∙ ap length named

-- ---- the two names of a copy

none_of : (a b : Bool) → (a || b) ≡ false → (a ≡ false) × (b ≡ false)
none_of true b e = absurd (true≢false e)
none_of false b e = (refl, e)

-- three words, the first of which is the command's, of which none is refused, are a copy
pub copy_of : (words : List (List ℕ)) (first : List ℕ) → slice_get words 0 ≡ Some first → first ≡ codes "copy" → list_any form.is_refused words ≡ false → form.has_two_names words ≡ true → IsCommand words Copy
copy_of [] first front is fine two = absurd (true≢false (sym two))
copy_of (a ∷ []) first front is fine two = absurd (true≢false (sym two))
copy_of (a ∷ b ∷ []) first front is fine two = absurd (true≢false (sym two))
copy_of (a ∷ b ∷ c ∷ d ∷ rest) first front is fine two = absurd (true≢false (sym two))
copy_of (a ∷ b ∷ c ∷ []) first front is fine two =
    let both = and_parts (form.is_name b) (form.is_name c) two in
    let same : a ≡ codes "copy" = same_Some a first front ∙ is in
    let rest = (none_of (form.is_refused a) (list_any form.is_refused (b ∷ c ∷ [])) fine).1 in
    let one = none_of (form.is_refused b) (list_any form.is_refused (c ∷ [])) rest in
    let other = none_of (form.is_refused c) false one.1 in
    (b, c, (ap (λ (word : List ℕ). word ∷ b ∷ c ∷ []) same, record { stands = one.0; no_option = both.0 }, record { stands = other.0; no_option = both.1 }))

pub if_copy : (words : List (List ℕ)) (first : List ℕ) (b : Bool) → slice_get words 0 ≡ Some first → first ≡ codes "copy" → list_any form.is_refused words ≡ false → b ≡ form.has_two_names words
    → IfSome (then_some b Copy) (λ (command : Command). IsCommand words command)
if_copy words first true front is fine two = copy_of words first front is fine (sym two)
if_copy words first false front is fine two = tt
