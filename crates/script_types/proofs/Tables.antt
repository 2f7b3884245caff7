-- One more table behind those of a script, each of which may name those before it.
use Rattle.std.proofs.Common.{◌≡◌, Bool, true, false, ◌||◌, List, [], ◌∷◌, ◌++◌, refl, sym, ◌∙◌}
use Rattle.std.proofs.Math.Bool.{or-false}
use Rattle.model_kernel.specs.State.{Text}
use Rattle.model_kernel.specs.Scripts.{ContainerTable, LocusTable, text_eq}
use Rattle.script_types.specs.Rules.{AreContainerTables, AreLocusTables, IsContainerTable, IsLocusTable, container_names, is_among, locus_names}

or_moved : (a b c : Bool) → (a || (b || c)) ≡ (b || a || c)
or_moved true true c = refl
or_moved true false c = refl
or_moved false true c = refl
or_moved false false c = refl

-- one more container
pub containers_more : (earlier : List Text) (ts : List ContainerTable) (t : ContainerTable) → AreContainerTables earlier ts
    → ((known : List Text) → ((name : Text) → is_among known name ≡ (is_among earlier name || is_among (container_names ts) name)) → IsContainerTable known t)
    → AreContainerTables earlier (ts ++ t ∷ [])
containers_more earlier [] t h good = (good earlier (λ name. sym (or-false (is_among earlier name))), tt)
containers_more earlier (u ∷ ts) t h good =
    (h.0, containers_more (u.name ∷ earlier) ts t h.1 (λ known same. good known (λ name. same name ∙ sym (or_moved (is_among earlier name) (text_eq name u.name) (is_among (container_names ts) name)))))

-- one more locus
pub loci_more : (containers earlier : List Text) (ts : List LocusTable) (t : LocusTable) → AreLocusTables containers earlier ts
    → ((known : List Text) → ((name : Text) → is_among known name ≡ (is_among earlier name || is_among (locus_names ts) name)) → IsLocusTable containers known t)
    → AreLocusTables containers earlier (ts ++ t ∷ [])
loci_more containers earlier [] t h good = (good earlier (λ name. sym (or-false (is_among earlier name))), tt)
loci_more containers earlier (u ∷ ts) t h good =
    (h.0, loci_more containers (u.name ∷ earlier) ts t h.1 (λ known same. good known (λ name. same name ∙ sym (or_moved (is_among earlier name) (text_eq name u.name) (is_among (locus_names ts) name)))))
