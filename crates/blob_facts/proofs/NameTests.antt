-- What the tests of a front tell.
use Rattle.std.proofs.Common.{◌≡◌, ℕ, suc, ◌<◌, Bool, true, false, List, ◌∷◌, length, drop, sym, ap, ◌∙◌, arith}
use Rattle.std.specs.Prelude.{nat_eq, slice_index}
use Rattle.std.specs.Bool.{Decides}
use Rattle.std.specs.Char.{is_ascii}
use Rattle.std.proofs.lemmas.Bool.{false≢true}
use borrow.Author.Tests.{lt-ltb}
use Rattle.std.specs.List.{list_all, starts_with}
use Rattle.std.proofs.lemmas.Bool.Decides.{Decides-eqb}
use Rattle.std.proofs.lemmas.Slice.Eq.{starts_is}
use Rattle.act_atlas_laws.specs.data_atlas_facts.Directory.{is_letter, is_name_byte, made_name}
use Rattle.blob_facts.specs.Names.{IsGivenFront, IsMadeSo}

pub made_so : (number size : ℕ) (front made : List ℕ) (r : Bool) → made ≡ made_name number → size ≡ length made → r ≡ starts_with nat_eq made front → Decides r (IsMadeSo number size front)
made_so number size front made r is long test =
    let s = starts_is Decides-eqb made front r test in (
      λ t. record { long = long ∙ ap (λ (l : List ℕ). length l) is; rest = drop (length front) made; is = sym is ∙ s.0 t },
      λ (m : IsMadeSo number size front). s.1 m.rest (is ∙ m.is),
    )

pub given_front : (front : List ℕ) (first : ℕ) (rest : List ℕ) (r : Bool) → front ≡ first ∷ rest → is_letter first ≡ true → r ≡ list_all is_name_byte front → Decides r (IsGivenFront front)
given_front front first rest r is letter test = (
  λ t. record {
    some = (let e : length front ≡ suc (length rest) = ap (λ (l : List ℕ). length l) is in omega (arith, e));
    letter = ap (λ (l : List ℕ). is_letter (slice_index l 0)) is ∙ letter;
    all = sym test ∙ t;
  },
  λ (g : IsGivenFront front). test ∙ g.all,
)

pub no_ascii : (byte : ℕ) → is_ascii byte ≡ false → byte < 128 → ⊥
no_ascii byte none small = false≢true (sym none ∙ lt-ltb byte 128 small)
