use Rattle.std.proofs.Common.{◌≡◌, ◌+◌, ◌<◌, ◌++◌, ◌∷◌, [], ℕ, List, Option, length, slice_get, ap, sym, subst, arith}
use Rattle.std.specs.Prelude.{All}
use Rattle.std.proofs.lemmas.List.{length-append}
use Rattle.std.proofs.lemmas.List.Elements.{All-push}
use Rattle.edge_disk.specs.Image.{block_at}
use Rattle.plain_states.specs.Plains.{container_cell, container_of}
use Rattle.plain_states.specs.declared.plain.PlainContainer.{PlainContainer}
use Rattle.plain_states.specs.model_kernel.State.{ContainerCell}
use Rattle.image_shown_facts.specs.image_meaning.Parts.{Part}
use Rattle.log_reading.proofs.log_facts_lemmas.ReadSoFar.{ReadsOnly-trans}
use Rattle.image_shown_facts.specs.image_fits.Chosen.{part_in, parts_of}
use Rattle.image_shown_facts.specs.image_fits.declared.chosen.ChosenEntity.{ChosenEntity}
use Rattle.image_shown_facts.specs.States.{IsCellOf, IsSparseContainer}
use Rattle.image_shown_facts.proofs.Listing.{more, read_part, same_bytes}
use Rattle.image_reading.proofs.containers.containers_of.Goals as goal

pub loop-place-preserved : goal.loop-place-preserved
loop-place-preserved g c =
    let disk = g.met.D.Disk in
    let so_far = c.loop-place.invariant in
    let es : List (Option ChosenEntity) = c.args.entities.now in
    let n : ℕ = c.loop-place.place in
    let cs : List PlainContainer = c.loop-place.containers.items in
    let k : PlainContainer = c.in_ok-container.container in
    let f : ℕ → List ℕ = block_at (g.D.Disk.reading c.args.disk.now) in
    let was : ℕ → List ℕ = block_at (g.D.Disk.reading c.loop-place.disk) in
    let items : c.push.new.self.items ≡ cs ++ k ∷ [] = c.in_ok-push.ensures.items in
    let entity : Option ChosenEntity = c.index-entities-place.result in
    let low : n + 1 < length es = (let t = c.loop-place-test.true in let few = c.requires.1.1.1.1.1.0 in let long = c.requires.1.1.1.1.0 in omega (arith, t, few, long)) in
    let part : part_in entity ≡ parts_of es (n + 1) = read_part es (n + 1) entity low c.index-entities-place.is in
    let moved : IsCellOf g.D.Disk.tells g.s f (n + 1) (part_in entity) (ContainerCell (container_of g.s k)) =
    same_bytes g.D.Disk.tells g.s was f (n + 1) (part_in entity) (ContainerCell (container_of g.s k)) (λ t. ap block_at (so_far.same.same_reading t)) (c.in_ok-container.ensures.cell (n + 1)) in
    let here : IsCellOf g.D.Disk.tells g.s f (n + 1) (parts_of es (n + 1)) (ContainerCell (container_of g.s k)) =
    subst (λ (p : Option Part). IsCellOf g.D.Disk.tells g.s f (n + 1) p (ContainerCell (container_of g.s k))) part moved in
    record {
      many = (let long = so_far.many in let b = ap length items in let e = length-append cs (k ∷ []) in omega (arith, long, b, e));
      cells = subst (λ (l : List PlainContainer). (i : ℕ) → i < n + 1 → IsCellOf g.D.Disk.tells g.s f (i + 1) (parts_of es (i + 1)) (container_cell g.s (slice_get l i))) (sym items)
          (more cs k (λ i o. IsCellOf g.D.Disk.tells g.s f (i + 1) (parts_of es (i + 1)) (container_cell g.s o)) n so_far.many so_far.cells here);
      sparse = subst (All (IsSparseContainer g.s)) (sym items) (All-push (IsSparseContainer g.s) cs k so_far.sparse c.in_ok-container.ensures.sparse);
      later = (let before = so_far.later in let now = c.container_at.ensures.same.later in omega (arith, before, now));
      same = ReadsOnly-trans _ _ _ (λ t d s b. disk.counts_now d s b t) so_far.same c.container_at.ensures.same;
    }
