-- Parts that keep their memory.
use Rattle.std.proofs.Common.{◌≡◌, ℕ, Bool, List, Option, Some, None, option_map, refl, sym, ap, subst, ◌∙◌}
use Rattle.page_store.specs.model_kernel.State.{Supply}
use Rattle.cell_looks.specs.act_alone.declared.loci.Head.{Head}
use Rattle.cell_looks.specs.page_memory.declared.paged.PagedMemory.{PagedMemory}
use Rattle.cell_looks.specs.page_memory.Words.{AreCleanTrue, IsSoundTable}
use Rattle.cell_looks.specs.cell_states.declared.cells.Part.{Part}
use Rattle.cell_looks.specs.cell_states.declared.cells.Part.TheVariants as part
use Rattle.cell_plans.specs.cell_calls.Besides.{KeepsMemory, head_of, memory_of}
use Rattle.cell_looks.specs.Looking.{MayLook}
use Rattle.std.proofs.lemmas.Option.{same_Some}

tags : Option Head → Option ℕ
tags o = option_map (λ (h : Head). h.tag) o

counts : Option Head → Option ℕ
counts o = option_map (λ (h : Head). h.pages) o

pub looks_again : (s : Supply) (tells : Type 0) (held : ℕ → Bool) (words : ℕ → List ℕ) (p q : Part) → KeepsMemory p q → MayLook s tells held words p → MayLook s tells held words q
unfolding tags counts
looks_again s tells held words p q keeps may = by q (keeps.memory ∙ ap memory_of may.is) (keeps.tag ∙ ap (λ p. tags (head_of p)) may.is) (keeps.pages ∙ ap (λ p. counts (head_of p)) may.is)
  where
    by_head : (m : PagedMemory) (o : Option Head) → m ≡ may.memory → tags o ≡ Some may.head.tag → counts o ≡ Some may.head.pages → MayLook s tells held words (part.Container (record { head = o; memory = m }))
    by_head m (Some k) same tag pages = record {
      head = k;
      memory = m;
      is = refl;
      of = record {
        tag = ap (λ (m : PagedMemory). m.tag) same ∙ may.of.tag ∙ sym (same_Some k.tag may.head.tag tag);
        pages = ap (λ (m : PagedMemory). m.pages) same ∙ may.of.pages ∙ sym (same_Some k.pages may.head.pages pages);
      };
      table = subst (IsSoundTable held) (sym same) may.table;
      clean = λ told. subst (AreCleanTrue s words) (sym same) (may.clean told);
    }
    by_head m None same tag pages = cc

    by : (q : Part) → memory_of q ≡ Some may.memory → tags (head_of q) ≡ Some may.head.tag → counts (head_of q) ≡ Some may.head.pages → MayLook s tells held words q
    by (part.Container b) memory tag pages = by_head b.memory b.head (same_Some b.memory may.memory memory) tag pages
    by (part.Atlas d) memory tag pages = cc
    by (part.Locus l) memory tag pages = cc
