use Rattle.std.proofs.Common.{◌≡◌, ◌*◌, ℕ, ap, subst, sym, ◌∙◌}
use Rattle.plain_states.specs.Plains.{container_of}
use Rattle.plain_states.specs.model_kernel.State.{ContainerCell, ContainerState}
use Rattle.act_alone.specs.Loci.{container_with}
use Rattle.image_shown_facts.specs.image_plain.Words.{words_with}
use Rattle.image_shown_facts.specs.Words.{IsSparse}
use Rattle.image_reading.proofs.containers.container_with.Goals as goal

pub returns-clause-cell : goal.returns-clause-cell
returns-clause-cell g c x =
    let head = c.args.container.now.head in
    let words : ℕ → ℕ = words_with g.s head.tag c.in_ok-words.words in
    let is : container_of g.s c.in_ok-plain.plain ≡ container_with words head = c.in_ok-plain.ensures.container g.s in
    record {
      words = words;
      is = ap ContainerCell is;
      told = λ t. ap ContainerCell is ∙ ap (λ (w : ℕ → ℕ). ContainerCell (container_with w head)) (λ i a. c.in_ok-words.ensures.words t a i);
    }

pub returns-clause-sparse : goal.returns-clause-sparse
returns-clause-sparse g c =
    let head = c.args.container.now.head in
    let plain = c.in_ok-plain.plain in
    let is : container_of g.s plain ≡ container_with (words_with g.s head.tag c.in_ok-words.words) head = c.in_ok-plain.ensures.container g.s in
    let tag : head.tag ≡ plain.tag = sym (ap (λ (k : ContainerState). k.tag) is) in
    let pages : head.pages ≡ plain.pages = sym (ap (λ (k : ContainerState). k.pages) is) in
    subst (λ words. IsSparse g.s plain.tag (128 * plain.pages) words) (sym c.in_ok-plain.ensures.words)
    (subst (λ (n : ℕ). IsSparse g.s plain.tag (128 * n) c.in_ok-words.words) pages (subst (λ (t : ℕ). IsSparse g.s t (128 * head.pages) c.in_ok-words.words) tag c.in_ok-words.ensures.sparse))
