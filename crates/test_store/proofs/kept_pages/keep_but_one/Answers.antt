use Rattle.std.proofs.Common.{◌≡◌, ◌||◌, ◌==◌, Bool, true, false, if◌then◌else◌, refl, ap, ◌∙◌}
use Rattle.data_blocks.specs.Ledger.{is_held}
use Rattle.test_store.proofs.kept_pages.keep_but_one.Goals as goal

or_true : (b : Bool) → (b || true) ≡ true
or_true true = refl
or_true false = refl

pub give_back-requires : goal.give_back-requires
give_back-requires g c =
    c.in_ok-keep_chosen.ensures.kept.held c.args.block
    ∙ (ap (λ (b : Bool). is_held c.args.store.now.blocks c.args.block || b) c.requires.named ∙ or_true (is_held c.args.store.now.blocks c.args.block))

pub returns : goal.returns
returns g c n = ap (λ f. f n) c.give_back.ensures.held ∙ ap (λ (b : Bool). if n == c.args.block then false else b) (c.in_ok-keep_chosen.ensures.kept.held n)
