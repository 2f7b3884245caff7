-- An image that stores some of the commits which a stretch of commits makes or tries.
use Rattle.std.proofs.Common.{◌≡◌, ℕ, ◌+◌, ◌≤◌, List, ◌++◌, length, take, sym, ap, subst, ◌∙◌, arith, length-append}
use Rattle.std.proofs.Math.Seq.{take-append-add}
use Rattle.edge_disk.specs.Image.{Image}
use Rattle.base_types.specs.declared.histories.Entry.{Entry}
use Rattle.image_state_laws.specs.model_kernel.Choices.{Commit}
use Rattle.kernel_invariant.specs.Beginnings.{Beginning, BeginsRight, IsLegal, completed, first_commits, with_tried}
use Rattle.kernel_invariant.specs.Left.{HoldAcknowledged, IsCutImage}
use Rattle.kernel_invariant.specs.Records.{StoresCommits, StoresSome}
use Rattle.kernel_invariant.proofs.Leaving.{image_of}
use Rattle.kernel_invariant.proofs.Staying.{stores_stay}

-- more first commits hold what fewer do
held_more : (b : Beginning) (es : List Entry) (marks : List ℕ) (now t k m : ℕ) → k ≤ m → m ≤ length (with_tried b es) → HoldAcknowledged b es marks now t k → HoldAcknowledged b es marks now t m
held_more b es marks now t k m le high h = record {
  opened = (let low = h.opened in omega (arith, low, le));
  some = high;
  acknowledged = λ told fs gs is acked. (let low = h.acknowledged told fs gs is acked in omega (arith, low, le));
}

pub image_some : (b : Beginning) (es fs : List Entry) (count n : ℕ) (more : List Commit) (marks : List ℕ) (now t : ℕ) (c : Image) → BeginsRight b → IsLegal b (es ++ fs)
    → with_tried b (es ++ fs) ≡ completed b es ++ more → n ≤ length more → HoldAcknowledged b (es ++ fs) marks now t (length (completed b es))
    → StoresSome b es count (completed b es) more n c → IsCutImage b (es ++ fs) marks now t c
image_some b es fs count n more marks now t c right legal all enough holds st =
    let k : ℕ = length (completed b es) + st.made in
    let first : first_commits b (es ++ fs) k ≡ completed b es ++ take st.made more = ap (take k) all ∙ take-append-add (completed b es) more st.made in
    let long : length (with_tried b (es ++ fs)) ≡ length (completed b es) + length more = ap length all ∙ length-append (completed b es) more in
    let few = st.few in
    let stored : StoresCommits b (es ++ fs) count (completed b es ++ take st.made more) c = stores_stay b es fs legal count (completed b es ++ take st.made more) c st.stores in
    image_of b (es ++ fs) right legal count marks now t c k
    (held_more b (es ++ fs) marks now t (length (completed b es)) k (omega arith) (omega (arith, long, few, enough)) holds)
    (subst (λ (cs : List Commit). StoresCommits b (es ++ fs) count cs c) (sym first) stored)
