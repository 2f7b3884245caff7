-- One field behind another: where the whole is refused.
use Rattle.std.proofs.Common.{◌≡◌, ℕ, List, ◌++◌, sym, ap, subst, ◌∙◌, append_assoc}
use Rattle.blob_facts.specs.Fields.{IsFound, IsRefused, IsStuck, Spells, Then}

-- a field tells where it ends and what it spells
pub record TellsApart {A : Type 0} (Field : A → List ℕ → Type 0) : Type 0 where
  pub told : (v w : A) (a b x y : List ℕ) → Field v a → Field w b → a ++ x ≡ b ++ y → (v ≡ w) × (x ≡ y)

-- THE FIRST FIELD IS REFUSED, and each of its values can be followed
pub stuck_here : {A : Type 0} {Field : A → List ℕ → Type 0} {Rest : A → List ℕ → Type 0} (front behind : List ℕ)
    → ((v : A) (a : List ℕ) → Field v a → (b : List ℕ) × Rest v b) → IsStuck (Spells Field) front behind → IsStuck (Then Field Rest) front behind
stuck_here front behind followed stuck = record {
  begins =
      let more = stuck.begins in
      let on = followed more.1.value (front ++ more.0) more.1.spelled in
      (more.0 ++ on.0, record { value = more.1.value; front = front ++ more.0; behind = on.0; spelled = more.1.spelled; followed = on.1; is = sym (append_assoc front more.0 on.0) });
  stops = λ whole more rest spelled same goes.
      stuck.stops spelled.front (spelled.behind ++ more) rest (record { value = spelled.value; spelled = spelled.spelled })
      (sym (append_assoc spelled.front spelled.behind more) ∙ ap (λ (l : List ℕ). l ++ more) (sym spelled.is) ∙ same) goes;
}

-- THE FIRST FIELD IS READ, and what follows is refused
pub stuck_later : {A : Type 0} {Field : A → List ℕ → Type 0} {Rest : A → List ℕ → Type 0} (v : A) (a front behind : List ℕ)
    → TellsApart Field → Field v a → IsStuck (Rest v) front behind → IsStuck (Then Field Rest) (a ++ front) behind
stuck_later {Rest = Rest} v a front behind tells spelled stuck = record {
  begins =
      let more = stuck.begins in
      (more.0, record { value = v; front = a; behind = front ++ more.0; spelled = spelled; followed = more.1; is = append_assoc a front more.0 });
  stops = λ whole more rest one same goes.
      let told = tells.told one.value v one.front a (one.behind ++ more) (front ++ rest) one.spelled spelled
      (sym (append_assoc one.front one.behind more) ∙ ap (λ (l : List ℕ). l ++ more) (sym one.is) ∙ same ∙ append_assoc a front rest) in
      stuck.stops one.behind more rest (subst (λ u. Rest u one.behind) told.0 one.followed) told.1 goes;
}

-- the same of what a reader tells
pub refused_here : {A : Type 0} {Field : A → List ℕ → Type 0} {Rest : A → List ℕ → Type 0} {bytes behind : List ℕ}
    → ((v : A) (a : List ℕ) → Field v a → (b : List ℕ) × Rest v b) → IsRefused (Spells Field) bytes behind → IsRefused (Then Field Rest) bytes behind
refused_here {behind = behind} followed r = record { front = r.front; stuck = stuck_here r.front behind followed r.stuck; is = r.is }

pub refused_later : {A : Type 0} {Field : A → List ℕ → Type 0} {Rest : A → List ℕ → Type 0} {bytes rest behind : List ℕ} {v : A}
    → TellsApart Field → IsFound Field bytes v rest → IsRefused (Rest v) rest behind → IsRefused (Then Field Rest) bytes behind
refused_later {behind = behind} {v = v} tells found r = record {
  front = found.front ++ r.front;
  stuck = stuck_later v found.front r.front behind tells found.spelled r.stuck;
  is = found.is ∙ ap (λ (l : List ℕ). found.front ++ l) r.is ∙ sym (append_assoc found.front r.front behind);
}

-- the same set under other words
pub stuck_as : {S T : List ℕ → Type 0} (front behind : List ℕ) → ((y : List ℕ) → S y → T y) → ((y : List ℕ) → T y → S y) → IsStuck S front behind → IsStuck T front behind
stuck_as front behind there back stuck = record {
  begins = (stuck.begins.0, there (front ++ stuck.begins.0) stuck.begins.1);
  stops = λ whole more rest one same goes. stuck.stops whole more rest (back whole one) same goes;
}

pub refused_as : {S T : List ℕ → Type 0} {bytes behind : List ℕ} → ((y : List ℕ) → S y → T y) → ((y : List ℕ) → T y → S y) → IsRefused S bytes behind → IsRefused T bytes behind
refused_as {behind = behind} there back r = record { front = r.front; stuck = stuck_as r.front behind there back r.stuck; is = r.is }

-- FRONTS one behind another
pub joined : {y a b c d : List ℕ} → y ≡ a ++ b → a ≡ c → b ≡ d → y ≡ c ++ d
joined y a b = y ∙ (λ i. a i ++ b i)

pub chain : {y a b c : List ℕ} (d rest : List ℕ) → y ≡ a ++ b → a ≡ c → b ≡ d ++ rest → y ≡ (c ++ d) ++ rest
chain {c = c} d rest y a b = y ∙ (λ i. a i ++ b i) ∙ sym (append_assoc c d rest)
