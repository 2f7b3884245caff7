use Rattle.test_kernel.proofs.forms.with_steps.Goals as goal

pub returns : goal.returns
returns c =
    let h = c.requires.script in
    record {
      steps = (c.requires.least, c.requires.most);
      few_containers = h.few_containers;
      few_loci = h.few_loci;
      containers = h.containers;
      loci = h.loci;
      different = h.different;
      few_picks = h.few_picks;
      order = h.order;
    }
