-- At each fault the pieces before it are put, and a front of its own; at the end all of them.
use Rattle.std.proofs.KnownBytes.{Appends-trans}
use Rattle.edge_streams.proofs.Streams.{AppendsPart-after, AppendsPart-more}
use Rattle.line_text.proofs.Puts.{Puts-cut, Puts-then}
use Rattle.plain_show.proofs.loci.put_locus.Goals as goal

pub returns-in_err-put_head-clause-bytes : goal.returns-in_err-put_head-clause-bytes
returns-in_err-put_head-clause-bytes g c = Puts-cut _ _ _ _ _ c.from_residual.ensures.1 (AppendsPart-more _ _ _ _ (AppendsPart-more _ _ _ _ (AppendsPart-more _ _ _ _ (AppendsPart-more _ _ _ _ (AppendsPart-more _ _ _ _ c.in_err-put_head.ensures.bytes)))))

pub returns-in_err-put_printed-clause-bytes : goal.returns-in_err-put_printed-clause-bytes
returns-in_err-put_printed-clause-bytes g c = Puts-cut _ _ _ _ _ c.from_residual-in_err-put_printed.ensures.1 (AppendsPart-more _ _ _ _ (AppendsPart-more _ _ _ _ (AppendsPart-more _ _ _ _ (AppendsPart-more _ _ _ _ (AppendsPart-after _ _ _ _ _ c.in_ok-put_head.ensures.bytes c.in_err-put_printed.ensures.bytes)))))

pub returns-in_err-put_privates-clause-bytes : goal.returns-in_err-put_privates-clause-bytes
returns-in_err-put_privates-clause-bytes g c = Puts-cut _ _ _ _ _ c.from_residual-in_err-put_privates.ensures.1 (AppendsPart-more _ _ _ _ (AppendsPart-more _ _ _ _ (AppendsPart-more _ _ _ _ (AppendsPart-after _ _ _ _ _ (Appends-trans _ _ _ _ _ c.in_ok-put_head.ensures.bytes c.in_ok-put_printed.ensures.bytes) c.in_err-put_privates.ensures.bytes))))

pub returns-in_err-put_chain-clause-bytes : goal.returns-in_err-put_chain-clause-bytes
returns-in_err-put_chain-clause-bytes g c = Puts-cut _ _ _ _ _ c.from_residual-in_err-put_chain.ensures.1 (AppendsPart-more _ _ _ _ (AppendsPart-more _ _ _ _ (AppendsPart-after _ _ _ _ _ (Appends-trans _ _ _ _ _ (Appends-trans _ _ _ _ _ c.in_ok-put_head.ensures.bytes c.in_ok-put_printed.ensures.bytes) c.in_ok-put_privates.ensures.bytes) c.in_err-put_chain.ensures.bytes)))

pub returns-in_err-put_walk-clause-bytes : goal.returns-in_err-put_walk-clause-bytes
returns-in_err-put_walk-clause-bytes g c = Puts-cut _ _ _ _ _ c.from_residual-in_err-put_walk.ensures.1 (AppendsPart-more _ _ _ _ (AppendsPart-after _ _ _ _ _ (Appends-trans _ _ _ _ _ (Appends-trans _ _ _ _ _ (Appends-trans _ _ _ _ _ c.in_ok-put_head.ensures.bytes c.in_ok-put_printed.ensures.bytes) c.in_ok-put_privates.ensures.bytes) c.in_ok-put_chain.ensures.bytes) c.in_err-put_walk.ensures.bytes))

pub returns-clause-bytes : goal.returns-clause-bytes
returns-clause-bytes g c = rw (← c.deref.ensures.value) (Puts-then _ _ _ _ _ _ (Appends-trans _ _ _ _ _ (Appends-trans _ _ _ _ _ (Appends-trans _ _ _ _ _ (Appends-trans _ _ _ _ _ c.in_ok-put_head.ensures.bytes c.in_ok-put_printed.ensures.bytes) c.in_ok-put_privates.ensures.bytes) c.in_ok-put_chain.ensures.bytes) c.in_ok-put_walk.ensures.bytes) c.put_caps.ensures.bytes)
