use Rattle.std.proofs.Common.{map, string_bytes, ◌≡◌, ◌∙◌, ℕ, List, [], ◌∷◌, get_or, String, sym, ap, subst}
use Rattle.std.specs.Prelude.{codes}
use Rattle.command_words.specs.Commands.{IsCopyOf}
use Rattle.command_words.proofs.copied_names.Goals as goal

-- the words behind the first of three
behind_first : {Z : Type 0} (words : List (String Z)) (x : String Z) (a b d : List ℕ) → map string_bytes words ≡ a ∷ b ∷ d ∷ [] → (string_bytes (get_or words 1 x) ≡ b)
behind_first [] x a b d e = absurd (cc e)
behind_first (u ∷ []) x a b d e = absurd (cc e)
behind_first (u ∷ v ∷ []) x a b d e = absurd (cc e)
behind_first (u ∷ v ∷ w ∷ words) x a b d e = cc e

behind_second : {Z : Type 0} (words : List (String Z)) (x : String Z) (a b d : List ℕ) → map string_bytes words ≡ a ∷ b ∷ d ∷ [] → (string_bytes (get_or words 2 x) ≡ d)
behind_second [] x a b d e = absurd (cc e)
behind_second (u ∷ []) x a b d e = absurd (cc e)
behind_second (u ∷ v ∷ []) x a b d e = absurd (cc e)
behind_second (u ∷ v ∷ w ∷ words) x a b d e = cc e

pub returns : goal.returns
returns c =
    let k = c.requires in
    let words = c.args.words.now in
    let one : string_bytes c.index-words-1.result ≡ k.0 = ap string_bytes c.index-words-1.is ∙ behind_first words c.index-words-1.result (codes "copy") k.0 k.1 k.2.0 in
    let other : string_bytes c.index-words-2.result ≡ k.1 = ap string_bytes c.index-words-2.is ∙ behind_second words c.index-words-2.result (codes "copy") k.0 k.1 k.2.0 in
    subst (λ (b : List ℕ). IsCopyOf (map string_bytes words) (string_bytes c.index-words-1.result) b) (sym other)
    (subst (λ (a : List ℕ). IsCopyOf (map string_bytes words) a k.1) (sym one) k.2)
