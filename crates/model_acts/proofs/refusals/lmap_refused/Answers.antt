use Rattle.std.proofs.Common.{◌≡◌, ℕ, ◌&&◌, ◌==◌, ap, ◌∙◌}
use Rattle.std.specs.List.{list_any}
use Rattle.base_types.specs.declared.capabilities.Region.{Region}
use Rattle.model_kernel.specs.State.{LocusState}
use Rattle.model_kernel.specs.Refusals.{refusal, overlaps_private, new_region}
use Rattle.model_acts.specs.Views.{view_of, meets}
use Rattle.model_acts.proofs.refusals.lmap_refused.Goals as goal

meets_as : (l : LocusState) (r : Region) (at count : ℕ) → at ≡ r.at → count ≡ r.count → list_any (λ p. p.made == l.host && meets at count p.region) l.privates ≡ overlaps_private l r
meets_as l r at count e f =
    ap (λ n. list_any (λ p. p.made == l.host && meets n count p.region) l.privates) e ∙ ap (λ n. list_any (λ p. p.made == l.host && meets r.at n p.region) l.privates) f

pub returns : goal.returns
unfolding refusal
returns c =
    let l = view_of c.args.l.now in
    let r = new_region l c.args.a c.args.c c.args.b c.args.n c.args.rights in
    let same : c.overlaps_private-overlaps.result ≡ overlaps_private l r = c.overlaps_private-overlaps.ensures ∙ meets_as l r c.register.result c.register-2.result c.register.ensures c.register-2.ensures in
    cc
