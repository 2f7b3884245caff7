-- The two forms of a locus's blob.
use Rattle.std.proofs.Common.{◌≡◌, ◌<◌, ◌≤◌, ℕ, ◌^◌, ◌==◌, ◌&&◌, Bool, true, false, nat_le, if◌then◌else◌, List, ◌∷◌, ◌++◌, length, ◌⊎◌, inl, inr, refl, sym, ap, ◌∙◌, arith, eqb-true}
use Rattle.std.proofs.lemmas.Bool.{false≢true, leb-true, le-leb}
use Rattle.std.proofs.lemmas.Bool.Decides.{leb_tells}
use Rattle.byteorder.specs.Endian.{little_bytes}
use Rattle.blob_grammar.specs.model_kernel.State.{LocusState}
use Rattle.blob_grammar.proofs.model_kernel_lemmas.Basics.{and_left, and_right}
use Rattle.blob_grammar.specs.Spelling.{locus_blob, locus_front, locus_rest}
use Rattle.blob_reading.specs.Loci.{IsPrintedSpelled, form_byte, least_privates, most_calls, most_printed, most_privates, printed_width}
use Rattle.blob_reading.specs.declared.forms.Form.{Form}
use Rattle.blob_reading.specs.declared.forms.Form.TheVariants.{Short, Long}
use Rattle.blob_facts.proofs.Numbers.{tells}
use Rattle.blob_facts.proofs.Sequences.{TellsApart}

-- what a form bounds is within the bounds of loci
pub record FormBounds (form : Form) : Type 0 where
  pub calls : most_calls form ≤ 64
  pub privates : most_privates form ≤ 16
  pub printed : most_printed form ≤ 2 ^ 62
  pub fits : most_printed form < 256 ^ printed_width form
  pub least : (printed deep : ℕ) → least_privates form printed deep ≤ most_privates form

nine_or_none : (b : Bool) → (if b then 9 else 0) ≤ 16
nine_or_none true = omega arith
nine_or_none false = omega arith

pub bounds : (form : Form) → FormBounds form
bounds Short = record { calls = omega arith; privates = omega arith; printed = omega arith; fits = omega arith; least = λ printed deep. omega arith }
bounds Long = record { calls = omega arith; privates = omega arith; printed = omega arith; fits = omega arith; least = λ printed deep. nine_or_none (printed == 0 && nat_le deep 32) }

-- a locus that has printed so much, with so many calls and private regions, has this form
pub record HasForm (form : Form) (printed deep privates : ℕ) : Type 0 where
  pub count : printed ≤ most_printed form
  pub calls : deep ≤ most_calls form
  pub least : least_privates form printed deep ≤ privates
  pub most : privates ≤ most_privates form

abbrev pub is_short_form : Form → Bool
is_short_form Short = true
is_short_form Long = false

abbrev pub short_test : ℕ → ℕ → ℕ → Bool
short_test printed deep privates = printed == 0 && nat_le deep 32 && nat_le privates 8

long_by : (a b c : Bool) (privates : ℕ) → ((c ≡ true) × (privates ≤ 8)) ⊎ ((c ≡ false) × (8 < privates)) → (if a && b then 9 else 0) ≤ privates → (a && b && c) ≡ false
long_by false b c privates t least = refl
long_by true false c privates t least = refl
long_by true true c privates (inl t) least = absurd (let few = t.1 in omega (arith, few, least))
long_by true true c privates (inr t) least = t.0

short_by : (a b c : Bool) → a ≡ true → b ≡ true → c ≡ true → (a && b && c) ≡ true
short_by a b c p q r = λ i. p i && q i && r i

test_is : (form : Form) (printed deep privates : ℕ) → HasForm form printed deep privates → short_test printed deep privates ≡ is_short_form form
test_is Short printed deep privates h =
    let none = h.count in
    short_by (printed == 0) (nat_le deep 32) (nat_le privates 8) (ap (λ n. n == 0) (let e : printed ≡ 0 = omega (arith, none) in e)) (le-leb deep 32 h.calls) (le-leb privates 8 h.most)
test_is Long printed deep privates h = long_by (printed == 0) (nat_le deep 32) (nat_le privates 8) privates (leb_tells privates 8) h.least

pub has_form : (printed deep privates : ℕ) → printed ≤ 2 ^ 62 → deep ≤ 64 → privates ≤ 16 → (b : Bool) → short_test printed deep privates ≡ b → (form : Form) × HasForm form printed deep privates
has_form printed deep privates small few some true short =
    let first = and_left (printed == 0 && nat_le deep 32) (nat_le privates 8) short in
    let none : printed ≡ 0 = eqb-true printed 0 (and_left (printed == 0) (nat_le deep 32) first) in (
      Short,
      record {
        count = omega (arith, none);
        calls = leb-true deep 32 (and_right (printed == 0) (nat_le deep 32) first);
        least = omega arith;
        most = leb-true privates 8 (and_right (printed == 0 && nat_le deep 32) (nat_le privates 8) short);
      },
    )
has_form printed deep privates small few some false long = (
  Long,
  record { count = small; calls = few; least = least_by (printed == 0) (nat_le deep 32) (nat_le privates 8) privates (leb_tells privates 8) long; most = some },
)
  where
    least_by : (a b c : Bool) (privates : ℕ) → ((c ≡ true) × (privates ≤ 8)) ⊎ ((c ≡ false) × (8 < privates)) → (a && b && c) ≡ false → (if a && b then 9 else 0) ≤ privates
    least_by false b c privates t e = omega arith
    least_by true false c privates t e = omega arith
    least_by true true c privates (inl t) e = absurd (false≢true (sym e ∙ t.0))
    least_by true true c privates (inr t) e = let h = t.1 in omega (arith, h)

-- the blob in this form
abbrev pub form_blob : Form → LocusState → List ℕ
form_blob form l = form_byte form ∷ locus_front l ++ (little_bytes (printed_width form) l.printed ++ locus_rest l)

abbrev blob_by : Bool → LocusState → List ℕ
blob_by b l = if b then 2 ∷ locus_front l ++ locus_rest l else 3 ∷ locus_front l ++ (little_bytes 8 l.printed ++ locus_rest l)

form_is : (form : Form) (l : LocusState) → blob_by (is_short_form form) l ≡ form_blob form l
form_is Short l = refl
form_is Long l = refl

abbrev pub LocusHasForm : Form → LocusState → Type 0
LocusHasForm form l = HasForm form l.printed (length l.chain) (length l.privates)

pub blob_is : (form : Form) (l : LocusState) → LocusHasForm form l → locus_blob l ≡ form_blob form l
unfolding locus_blob
blob_is form l h = ap (λ b. blob_by b l) (test_is form l.printed (length l.chain) (length l.privates) h) ∙ form_is form l

pub printed_tells : (form : Form) → TellsApart (IsPrintedSpelled form)
printed_tells form = tells (printed_width form) 0 (most_printed form) (bounds form).fits
