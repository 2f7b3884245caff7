use Rattle.image_fit_facts.proofs.Uses.{full, past, used}
use Rattle.image_fits.proofs.names.add_use.Goals as goal

pub returns-then-at-uses : goal.returns-then-at-uses
returns-then-at-uses c = λ f before. past c.args.uses.now f c.args.block c.if-at-uses.true before

pub returns-then-uses-at-ge-MANY : goal.returns-then-uses-at-ge-MANY
returns-then-uses-at-ge-MANY c = λ f before. full c.args.uses.now f c.args.block c.if-uses-at-ge-MANY.true before

pub returns : goal.returns
returns c = λ f before. used c.args.uses.now f c.args.block c.if-at-uses.false c.if-uses-at-ge-MANY.false before
