use Rattle.std.proofs.Common.{◌≡◌, ℕ, IfOk, ap, ◌∙◌, subst}
use Rattle.test_pages.specs.Own.{own_words}
use Rattle.test_pages.proofs.Starting.{put_here}
use Rattle.test_pages.proofs.own.OwnPages.store_and_load.Goals as goal

pub returns : goal.returns
returns c =
    subst (λ (w : ℕ). IfOk c.load.result (λ loaded. loaded ≡ w)) (ap (λ (f : ℕ → ℕ). f c.args.address) c.in_ok-store.ensures.written ∙ put_here (own_words c.args.self.now.store c.args.self.now.memory) c.args.address c.args.word) c.load.ensures.word
