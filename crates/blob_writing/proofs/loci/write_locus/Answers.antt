use Rattle.std.proofs.Common.{◌≡◌, ℕ, List, [], ◌∷◌, ◌++◌, Bool, true, false, if◌then◌else◌, sym, ap, ◌∙◌, append_assoc}
use Rattle.byteorder.specs.Endian.{little_bytes}
use Rattle.blob_grammar.specs.model_kernel.State.{LocusState}
use Rattle.blob_grammar.specs.Spelling.{is_short, locus_blob, locus_front, locus_rest}
use Rattle.blob_facts.specs.act_alone.Loci.{locus_of}
use Rattle.blob_writing.proofs.loci.write_locus.Goals as goal
use Rattle.blob_writing.proofs.loci.write_locus.Goals.{then-is_short, else-is_short}

-- the form by the test
form : (l : LocusState) (b : Bool) → is_short l ≡ b
    → (if b then 2 ∷ locus_front l ++ locus_rest l else 3 ∷ locus_front l ++ (little_bytes 8 l.printed ++ locus_rest l)) ≡ locus_blob l
unfolding locus_blob
form l b is = ap (λ (t : Bool). if t then 2 ∷ locus_front l ++ locus_rest l else 3 ∷ locus_front l ++ (little_bytes 8 l.printed ++ locus_rest l)) (sym is)

-- the pieces of the short form, and of the long one
short : (l : LocusState) (none kind front all : List ℕ) → is_short l ≡ true → none ≡ [] → kind ≡ none ++ 2 ∷ [] → front ≡ kind ++ locus_front l
    → all ≡ front ++ locus_rest l → all ≡ locus_blob l
short l none kind front all is p q r s =
    let together : all ≡ (([] ++ 2 ∷ []) ++ locus_front l) ++ locus_rest l = cc in
    together ∙ form l true is

long : (l : LocusState) (none kind front printed all : List ℕ) → is_short l ≡ false → none ≡ [] → kind ≡ none ++ 3 ∷ [] → front ≡ kind ++ locus_front l
    → printed ≡ front ++ little_bytes 8 l.printed → all ≡ printed ++ locus_rest l → all ≡ locus_blob l
long l none kind front printed all is p q r s t =
    let together : all ≡ ((([] ++ 3 ∷ []) ++ locus_front l) ++ little_bytes 8 l.printed) ++ locus_rest l = cc in
    together ∙ append_assoc (3 ∷ locus_front l) (little_bytes 8 l.printed) (locus_rest l) ∙ form l false is

pub returns : goal.returns
returns c =
    elim c.if-is_short.branch [
      | then-is_short w ↦ short (locus_of c.args.locus.now) c.clear.new.self w.push.new.self w.put_front.new.blob c.put_rest.new.blob (sym c.is_short.ensures ∙ w.if-is_short.true)
          c.clear.ensures w.push.ensures w.put_front.ensures.front (rw w.blob-is at c.put_rest.ensures)
      | else-is_short w ↦ long (locus_of c.args.locus.now) c.clear.new.self w.push-else-is_short.new.self w.put_front-else-is_short.new.blob w.put_u64.new.self c.put_rest.new.blob
          (sym c.is_short.ensures ∙ w.if-is_short.false) c.clear.ensures w.push-else-is_short.ensures w.put_front-else-is_short.ensures.front w.put_u64.ensures (rw w.blob-is at c.put_rest.ensures)
    ]
