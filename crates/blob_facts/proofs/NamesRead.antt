-- The names of one kind, each of the next entity in the directory so far; and a reader of them, at each name.
use Rattle.std.proofs.Common.{◌≡◌, ◌<◌, ◌≤◌, inr, ℕ, zero, suc, ◌+◌, ◌-◌, List, [], ◌∷◌, ◌++◌, length, None, refl, sym, ap, subst, ◌∙◌, arith}
use Rattle.std.proofs.lemmas.List.{length-append}
use Rattle.act_atlas_laws.specs.base_types.declared.entities.Kind.{Kind}
use Rattle.act_atlas_laws.specs.base_types.declared.entities.Kind.TheVariants.{Atlas, Container, Locus}
use Rattle.act_atlas_laws.specs.data_atlas_facts.Directory.{Directory, IsDirectory, IsNameOf, entity_named, made_name, name_of, with_entity}
use Rattle.act_atlas_laws.proofs.data_atlas_facts_lemmas.Naming.{born_container, born_locus, free_container_none, free_locus_none, made_is_new}
use Rattle.blob_grammar.specs.Spelling.{text_bytes}
use Rattle.blob_facts.specs.Fields.{IsFound, IsRefused, Spells}
use Rattle.blob_facts.proofs.Items.{HasRead, all_read, none_yet, one_more, one_refused}
use Rattle.blob_facts.specs.Names.{AreNamesSpelled, IsNameIn, NameItem, most_names, names_in, next_number, with_names, with_next}
use Rattle.blob_facts.proofs.NameFields.{name_tells}

-- THE NEXT ENTITY of a kind, where there is room for one
pub in_range : (kind : Kind) → (kind ≡ Atlas → ⊥) → (a : Directory) → length (names_in kind a) < most_names kind → next_number kind a < 64
in_range Atlas other a room = absurd (other refl)
in_range Container other a room = omega (arith, room)
in_range Locus other a room = omega (arith, room)

pub next_free : (kind : Kind) → (kind ≡ Atlas → ⊥) → (a : Directory) → length (names_in kind a) < most_names kind → name_of a (next_number kind a) ≡ None
next_free Atlas other a room = absurd (other refl)
next_free Container other a room = free_container_none a room
next_free Locus other a room = free_locus_none a

pub still_directory : (kind : Kind) → (kind ≡ Atlas → ⊥) → (a : Directory) (name : List ℕ) → IsDirectory a → length (names_in kind a) < most_names kind → IsNameOf (next_number kind a) name → entity_named a name ≡ None
    → IsDirectory (with_entity a kind name)
still_directory Atlas other a name ok room form new = absurd (other refl)
still_directory Container other a name ok room form new = born_container a name (length a.containers + 1) (a.containers ++ name ∷ []) ok (record { form = form; none = new }) room refl refl
still_directory Locus other a name ok room form new = born_locus a name (length a.loci + 41) (a.loci ++ name ∷ []) ok (record { form = form; none = new }) room refl refl

pub one_more_name : (kind : Kind) → (kind ≡ Atlas → ⊥) → (a : Directory) (name : List ℕ) → names_in kind (with_entity a kind name) ≡ names_in kind a ++ name ∷ []
one_more_name Atlas other a name = absurd (other refl)
one_more_name Container other a name = refl
one_more_name Locus other a name = refl

pub container_other : Container ≡ Atlas → ⊥
container_other e = cc

pub locus_other : Locus ≡ Atlas → ⊥
locus_other e = cc

-- all but the names of the kind is as at the start
pub as_before : (kind : Kind) (start a : Directory) (name : List ℕ) → a ≡ with_names kind start (names_in kind a) → with_entity a kind name ≡ with_names kind start (names_in kind (with_entity a kind name))
as_before Atlas start a name e = e
as_before Container start a name e = ap (λ (d : Directory). with_names Container d (a.containers ++ name ∷ [])) e
as_before Locus start a name e = ap (λ (d : Directory). with_names Locus d (a.loci ++ name ∷ [])) e

pub itself : (kind : Kind) (a : Directory) → a ≡ with_names kind a (names_in kind a)
itself Atlas a = refl
itself Container a = refl
itself Locus a = refl

-- there are names for so many: the made ones
pub some_names : (kind : Kind) → (kind ≡ Atlas → ⊥) → (n : ℕ) (a : Directory) → IsDirectory a → length (names_in kind a) + n ≤ most_names kind → (b : List ℕ) × Spells (AreNamesSpelled kind n a) b
some_names kind other zero a ok room = ([], record { value = []; spelled = (refl, refl) })
some_names kind other (suc n) a ok room =
    let less : length (names_in kind a) < most_names kind = omega (arith, room) in
    let name = made_name (next_number kind a) in
    let new = made_is_new a (next_number kind a) ok (in_range kind other a less) (next_free kind other a less) in
    let born = still_directory kind other a name ok less (inr refl) new in
    let len : length (names_in kind (with_entity a kind name)) ≡ length (names_in kind a) + 1 = ap (λ (l : List (List ℕ)). length l) (one_more_name kind other a name) ∙ length-append (names_in kind a) (name ∷ []) in
    let more = some_names kind other n (with_entity a kind name) born (omega (arith, len, room)) in
    (text_bytes name ++ more.0, record { value = name ∷ more.1.value; spelled = (text_bytes name, more.0, record { form = inr refl; new = new; is = refl }, more.1.spelled, refl) })

-- A READER of so many names of the kind
module _ (kind : Kind) (count : ℕ) (start : Directory) (bytes : List ℕ) where
  abbrev pub Read : List (List ℕ) → ℕ → Directory → List ℕ → Type 0
  Read names left a rest = HasRead (NameItem kind) (with_next kind) count start bytes names left a rest

  pub record SoFar (place : ℕ) (a : Directory) (rest : List ℕ) : Type 0 where
    pub born : length (names_in kind a) ≡ place
    pub others : a ≡ with_names kind start (names_in kind a)
    pub read : Read (names_in kind a) (count - place) a rest

  pub begun : names_in kind start ≡ [] → SoFar 0 start bytes
  begun none = record {
    born = ap (λ (l : List (List ℕ)). length l) none;
    others = itself kind start;
    read =
        subst (λ (l : List (List ℕ)). Read l (count - 0) start bytes) (sym none)
        (subst (λ n. Read [] n start bytes) (let e : count ≡ count - 0 = omega arith in e) (none_yet (NameItem kind) (with_next kind) count start bytes));
  }

  module _ (other : kind ≡ Atlas → ⊥) (few : count ≤ most_names kind) (place : ℕ) (a : Directory) (rest behind : List ℕ) (more : place < count) (ok : IsDirectory a) (so_far : SoFar place a rest) where
    pub room : length (names_in kind a) < most_names kind
    room = let b = so_far.born in omega (arith, b, more, few)

    still : Read (names_in kind a) (suc (count - place - 1)) a rest
    still = subst (λ n. Read (names_in kind a) n a rest) (let e : count - place ≡ suc (count - place - 1) = omega (arith, more) in e) so_far.read

    len : (name : List ℕ) → length (names_in kind (with_entity a kind name)) ≡ place + 1
    len name =
        ap (λ (l : List (List ℕ)). length l) (one_more_name kind other a name) ∙ length-append (names_in kind a) (name ∷ []) ∙ ap (λ n. n + 1) so_far.born

    pub name_refused : IsRefused (Spells (IsNameIn a (next_number kind a))) rest behind → IsRefused (Spells (AreNamesSpelled kind count start)) bytes behind
    name_refused r =
        one_refused (NameItem kind) (with_next kind) count start bytes (names_in kind a) (count - place - 1) a rest behind
        (λ name x f. some_names kind other (count - place - 1) (with_entity a kind name) (still_directory kind other a name ok room f.form f.new)
        (let l = len name in omega (arith, l, more, few))) still r

    pub name_added : (name : List ℕ) (after : Directory) → IsFound (IsNameIn a (next_number kind a)) rest name behind → after ≡ with_entity a kind name → SoFar (place + 1) after behind
    name_added name after f is =
        subst (λ (d : Directory). SoFar (place + 1) d behind) (sym is) (record {
          born = len name;
          others = as_before kind start a name so_far.others;
          read =
              subst (λ (l : List (List ℕ)). Read l (count - (place + 1)) (with_entity a kind name) behind) (sym (one_more_name kind other a name))
              (subst (λ n. Read (names_in kind a ++ name ∷ []) n (with_entity a kind name) behind) (let e : count - place - 1 ≡ count - (place + 1) = omega arith in e)
              (one_more (NameItem kind) (with_next kind) count start bytes (names_in kind a) (count - place - 1) a rest name behind (name_tells a (next_number kind a)) still f));
        })

  pub all_added : (place : ℕ) (a : Directory) (rest : List ℕ) → count ≤ place → SoFar place a rest → IsFound (AreNamesSpelled kind count start) bytes (names_in kind a) rest
  all_added place a rest end so_far =
      all_read (NameItem kind) (with_next kind) count start bytes (names_in kind a) a rest
      (subst (λ n. Read (names_in kind a) n a rest) (let e : count - place ≡ 0 = omega (arith, end) in e) so_far.read)
