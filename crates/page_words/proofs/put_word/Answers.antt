use Rattle.base_bytes.proofs.Filling.{ok_gives}
use Rattle.page_words.proofs.Words.{put_here, put_others}
use Rattle.page_words.proofs.put_word.Goals as goal

pub returns-clause-here : goal.returns-clause-here
returns-clause-here c = put_here c.args.place c.args.word _ _ c.ranges.word.fits (ok_gives _ _ _ c.unwrap.ensures c.put_u64.ensures.ok)

pub returns-clause-others : goal.returns-clause-others
returns-clause-others c = put_others c.args.place c.args.word _ _ (ok_gives _ _ _ c.unwrap.ensures c.put_u64.ensures.ok)
