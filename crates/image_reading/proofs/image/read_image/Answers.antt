use Rattle.std.proofs.Common.{◌≡◌, ℕ, List, Option, inr, sym, ap, subst, ◌∙◌}
use Rattle.edge_disk.specs.Image.{Image, block_at}
use Rattle.plain_states.specs.Plains.{cells_of}
use Rattle.base_types.specs.declared.records.Rec.{Rec}
use Rattle.image_shown_facts.specs.image_meaning.Foreign.{IsBadMeaning}
use Rattle.image_shown_facts.specs.image_meaning.Parts.{Part, cut_of}
use Rattle.image_shown_facts.proofs.image_chosen_lemmas.Verdicts.{handed_on}
use Rattle.image_shown_facts.specs.image_chosen.Parts.{ArePartsOf}
use Rattle.image_shown_facts.specs.image_chosen_facts.Parts.{IsAcceptedWith}
use Rattle.log_reading.proofs.log_facts_lemmas.ReadSoFar.{ReadsOnly-trans}
use Rattle.log_reading.specs.Logs.{IsKnown, IsLogOf}
use Rattle.log_reading.specs.declared.log.ImageLog.{ImageLog}
use Rattle.image_shown_facts.specs.image_fits.Chosen.{parts_of}
use Rattle.image_shown_facts.specs.image_fits.declared.chosen.ChosenEntity.{ChosenEntity}
use Rattle.image_shown_facts.specs.States.{cell_in}
use Rattle.image_shown_facts.proofs.Aside.{accepted_means, sound_cells, taken_of}
use Rattle.image_shown_facts.proofs.Low.{all_low}
use Rattle.image_reading.proofs.image.read_image.Goals as goal

pub returns-in_err-parts-clause-foreign : goal.returns-in_err-parts-clause-foreign
returns-in_err-parts-clause-foreign g c t bad is =
    let log : ImageLog = c.in_ok-log.log in
    let same : g.D.Disk.reading c.read_log.new.disk ≡ g.D.Disk.reading c.args.disk.now = c.in_ok-log.ensures.same.same_reading t in
    let logged : IsLogOf (g.D.Disk.reading c.read_log.new.disk) log = subst (λ (i : Image). IsLogOf i log) (sym same) (c.in_ok-log.ensures.log t) in
    inr (subst (λ (i : Image). IsBadMeaning i bad) same
    (c.in_err-parts.ensures.foreign t logged bad (handed_on c.from_residual-in_err-parts.result c.in_err-parts.field-0.0 bad c.from_residual-in_err-parts.ensures.1 is)))

pub returns-in_err-parts-clause-same : goal.returns-in_err-parts-clause-same
returns-in_err-parts-clause-same g c =
    let disk = g.met.D.Disk in
    ReadsOnly-trans _ _ _ (λ t d s b. disk.counts_now d s b t) c.in_ok-log.ensures.same c.in_err-parts.ensures.same

pub state_of-requires : goal.state_of-requires
state_of-requires g c κs within =
    let log : ImageLog = c.in_ok-log.log in
    let count : g.D.Disk.block_count c.read_parts.new.disk ≡ g.D.Disk.block_count c.args.disk.now = c.in_ok-parts.ensures.same.same_count ∙ c.in_ok-log.ensures.same.same_count in (
      λ a mem. within.0 a mem,
      (
        λ a mem. within.1 a mem,
        (
          c.requires.1.1.0,
          (
            c.requires.1.1.1,
            (log, subst (λ (n : ℕ). IsKnown n log) (sym count) c.in_ok-log.ensures.known, c.in_ok-parts.ensures.parts),
          ),
        ),
      ),
    )

pub returns-in-Ok-clause-meaning : goal.returns-in-Ok-clause-meaning
returns-in-Ok-clause-meaning g c t =
    let log : ImageLog = c.in_ok-log.log in
    let image : Image = g.D.Disk.reading c.args.disk.now in
    let es : List (Option ChosenEntity) = c.in_ok-parts.parts.entities.items in
    let parts : ℕ → Option Part = parts_of es in
    let same : g.D.Disk.reading c.read_log.new.disk ≡ image = c.in_ok-log.ensures.same.same_reading t in
    let later : g.D.Disk.reading c.read_parts.new.disk ≡ image = c.in_ok-parts.ensures.same.same_reading t ∙ same in
    let logged : IsLogOf (g.D.Disk.reading c.read_log.new.disk) log = subst (λ (i : Image). IsLogOf i log) (sym same) (c.in_ok-log.ensures.log t) in
    let accepted : IsAcceptedWith image log.recs.items parts = subst (λ (i : Image). IsAcceptedWith i log.recs.items parts) same (c.in_ok-parts.ensures.accepted t logged) in
    accepted_means g.s image accepted.whole c.in-Ok.state c.in_ok-parts.parts.cut.0
    (λ x. (c.in-Ok.ensures.cells x).told t ∙ (ap (λ (i : Image). cell_in g.s (block_at i) x (parts x)) later ∙ ap (λ (p : ℕ → Option Part). cell_in g.s (block_at image) x (p x)) (sym accepted.parts_are)))
    (λ x. ap (λ (f : ℕ → ℕ). f x) c.in_ok-parts.ensures.parts.cut ∙ ap (λ (rs : List Rec). cut_of rs x) (sym accepted.recs_are))

pub returns-in-Ok-clause-sound : goal.returns-in-Ok-clause-sound
returns-in-Ok-clause-sound g c =
    let log : ImageLog = c.in_ok-log.log in
    let are : ArePartsOf log c.in_ok-parts.parts = c.in_ok-parts.ensures.parts in
    let es : List (Option ChosenEntity) = c.in_ok-parts.parts.entities.items in
    sound_cells g.s (block_at (g.D.Disk.reading c.read_parts.new.disk)) log.blocks log.recs.items (parts_of es) (taken_of log.recs.items es are.chosen) g.D.Disk.tells are.formed are.fit (cells_of g.s c.in-Ok.state) c.in-Ok.ensures.cells

pub returns-in-Ok-clause-same : goal.returns-in-Ok-clause-same
returns-in-Ok-clause-same g c =
    let disk = g.met.D.Disk in
    ReadsOnly-trans _ _ _ (λ t d s b. disk.counts_now d s b t) (ReadsOnly-trans _ _ _ (λ t d s b. disk.counts_now d s b t) c.in_ok-log.ensures.same c.in_ok-parts.ensures.same) c.state_of.ensures.same

pub returns-in-Err-ReadFault-clause-same : goal.returns-in-Err-ReadFault-clause-same
returns-in-Err-ReadFault-clause-same g c =
    let disk = g.met.D.Disk in
    ReadsOnly-trans _ _ _ (λ t d s b. disk.counts_now d s b t) (ReadsOnly-trans _ _ _ (λ t d s b. disk.counts_now d s b t) c.in_ok-log.ensures.same c.in_ok-parts.ensures.same) c.state_of.ensures.same

pub returns-clause-same : goal.returns-clause-same
returns-clause-same g c =
    let disk = g.met.D.Disk in
    ReadsOnly-trans _ _ _ (λ t d s b. disk.counts_now d s b t) (ReadsOnly-trans _ _ _ (λ t d s b. disk.counts_now d s b t) c.in_ok-log.ensures.same c.in_ok-parts.ensures.same) c.state_of.ensures.same

pub returns-in-Ok-clause-low : goal.returns-in-Ok-clause-low
returns-in-Ok-clause-low g c = all_low c.in_ok-log.log.blocks c.in_ok-log.log.recs.items c.in_ok-parts.parts.cut.0 c.in_ok-log.ensures.known.in_range c.in_ok-parts.ensures.parts.cut
