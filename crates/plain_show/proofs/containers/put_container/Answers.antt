-- At each fault the pieces before it are put, and a front of its own; at the end all of them.
use Rattle.std.proofs.KnownBytes.{Appends-trans}
use Rattle.edge_streams.proofs.Streams.{AppendsPart-after, AppendsPart-more}
use Rattle.line_text.proofs.Puts.{Puts-cut, Puts-then}
use Rattle.plain_show.proofs.containers.put_container.Goals as goal

pub returns-in_err-put_head-clause-bytes : goal.returns-in_err-put_head-clause-bytes
returns-in_err-put_head-clause-bytes g c = Puts-cut _ _ _ _ _ c.from_residual.ensures.1 (AppendsPart-more _ _ _ _ (AppendsPart-more _ _ _ _ (AppendsPart-more _ _ _ _ (c.in_err-put_head.ensures.bytes g.s))))

pub returns-in_err-put_regions-clause-bytes : goal.returns-in_err-put_regions-clause-bytes
returns-in_err-put_regions-clause-bytes g c = Puts-cut _ _ _ _ _ c.from_residual-in_err-put_regions.ensures.1 (AppendsPart-more _ _ _ _ (AppendsPart-more _ _ _ _ (AppendsPart-after _ _ _ _ _ (c.in_ok-put_head.ensures.bytes g.s) c.in_err-put_regions.ensures.bytes)))

pub returns-in_err-put_caps-clause-bytes : goal.returns-in_err-put_caps-clause-bytes
returns-in_err-put_caps-clause-bytes g c = rw (← c.deref.ensures.value) (Puts-cut _ _ _ _ _ c.from_residual-in_err-put_caps.ensures.1 (AppendsPart-more _ _ _ _ (AppendsPart-after _ _ _ _ _ (Appends-trans _ _ _ _ _ (c.in_ok-put_head.ensures.bytes g.s) c.in_ok-put_regions.ensures.bytes) c.in_err-put_caps.ensures.bytes)))

pub returns-clause-bytes : goal.returns-clause-bytes
returns-clause-bytes g c = rw (← c.deref.ensures.value) (Puts-then _ _ _ _ _ _ (Appends-trans _ _ _ _ _ (Appends-trans _ _ _ _ _ (c.in_ok-put_head.ensures.bytes g.s) c.in_ok-put_regions.ensures.bytes) c.in_ok-put_caps.ensures.bytes) c.put_words.ensures.bytes)
