use Rattle.std.proofs.Common.{[], subst}
use Rattle.base_types.specs.declared.entities.Kind.TheVariants.{Container, Locus}
use Rattle.data_atlas.specs.data_atlas_facts.Directory.{Directory, edges_of}
use Rattle.blob_reading.specs.blob_facts.Fields.{IsRefused, Spells}
use Rattle.blob_reading.proofs.Exits.{hands_on}
use Rattle.blob_reading.specs.blob_facts.Names.{AreNamesSpelled}
use Rattle.blob_reading.proofs.blob_facts_lemmas.AtlasFields.{atlas_found, containers_refused, count_refused, edges_refused, kind_refused, loci_refused, locus_count_refused}
use Rattle.blob_reading.proofs.blob_facts_lemmas.AtlasRead.{containers_found, loci_found, named_is, no_edges, no_rows, whole}
use Rattle.blob_atlas.proofs.atlases.read_fields.Goals as goal

pub returns-in_err-kind-clause-refused : goal.returns-in_err-kind-clause-refused
returns-in_err-kind-clause-refused c =
    hands_on _ c.from_residual.result c.from_residual.ensures.1
    (kind_refused no_rows c.args.bytes.now [] [] [] [] [] c.in_err-kind.field-0.0.rest.now 0 0 0 [] [] c.in_err-kind.ensures.refused)

pub returns-in_err-containers-clause-refused : goal.returns-in_err-containers-clause-refused
returns-in_err-containers-clause-refused c =
    hands_on _ c.from_residual-in_err-containers.result c.from_residual-in_err-containers.ensures.1
    (count_refused no_rows c.args.bytes.now c.in_ok-kind.rest.now [] [] [] [] c.in_err-containers.field-0.0.rest.now c.in_ok-kind.kind 0 0 [] [] c.in_ok-kind.ensures.read c.in_err-containers.ensures.refused)

pub returns-in_err-all_containers-clause-refused : goal.returns-in_err-all_containers-clause-refused
returns-in_err-all_containers-clause-refused c =
    hands_on _ c.from_residual-in_err-all_containers.result c.from_residual-in_err-all_containers.ensures.1
    (containers_refused no_rows c.args.bytes.now c.in_ok-kind.rest.now c.in_ok-containers.rest.now [] [] [] c.in_err-all_containers.field-0.0.rest.now c.in_ok-kind.kind c.in_ok-containers.containers 0 [] [] c.in_ok-kind.ensures.read c.in_ok-containers.ensures.read
    (subst (λ (d : Directory). IsRefused (Spells (AreNamesSpelled Container c.in_ok-containers.containers d)) c.in_ok-containers.rest.now c.in_err-all_containers.field-0.0.rest.now) c.new-atlas.ensures c.in_err-all_containers.ensures.refused))

pub returns-in_err-loci-clause-refused : goal.returns-in_err-loci-clause-refused
returns-in_err-loci-clause-refused c =
    hands_on _ c.from_residual-in_err-loci.result c.from_residual-in_err-loci.ensures.1
    (locus_count_refused no_rows c.args.bytes.now c.in_ok-kind.rest.now c.in_ok-containers.rest.now c.in_ok-all_containers.rest.now [] [] c.in_err-loci.field-0.0.rest.now c.in_ok-kind.kind c.in_ok-containers.containers 0 c.read_names.new.atlas.containers [] c.in_ok-kind.ensures.read c.in_ok-containers.ensures.read
    (containers_found c.new-atlas.result c.read_names.new.atlas c.new-atlas.ensures c.in_ok-all_containers.ensures.others c.in_ok-containers.containers c.in_ok-containers.rest.now c.in_ok-all_containers.rest.now c.in_ok-all_containers.ensures.read)
    c.in_err-loci.ensures.refused)

pub returns-in_err-all_loci-clause-refused : goal.returns-in_err-all_loci-clause-refused
returns-in_err-all_loci-clause-refused c =
    hands_on _ c.from_residual-in_err-all_loci.result c.from_residual-in_err-all_loci.ensures.1
    (loci_refused no_rows c.args.bytes.now c.in_ok-kind.rest.now c.in_ok-containers.rest.now c.in_ok-all_containers.rest.now c.in_ok-loci.rest.now [] c.in_err-all_loci.field-0.0.rest.now c.in_ok-kind.kind c.in_ok-containers.containers c.in_ok-loci.loci c.read_names.new.atlas.containers [] c.in_ok-kind.ensures.read c.in_ok-containers.ensures.read
    (containers_found c.new-atlas.result c.read_names.new.atlas c.new-atlas.ensures c.in_ok-all_containers.ensures.others c.in_ok-containers.containers c.in_ok-containers.rest.now c.in_ok-all_containers.rest.now c.in_ok-all_containers.ensures.read)
    c.in_ok-loci.ensures.read
    (subst (λ (d : Directory). IsRefused (Spells (AreNamesSpelled Locus c.in_ok-loci.loci d)) c.in_ok-loci.rest.now c.in_err-all_loci.field-0.0.rest.now) (named_is c.new-atlas.result c.read_names.new.atlas c.new-atlas.ensures c.in_ok-all_containers.ensures.others) c.in_err-all_loci.ensures.refused))

pub read_edges-requires : goal.read_edges-requires
read_edges-requires c = record { none = no_edges c.new-atlas.result c.read_names.new.atlas c.new-atlas.ensures c.in_ok-all_containers.ensures.others c.read_names-2.new.atlas c.in_ok-all_loci.ensures.others }

pub returns-in-Err-clause-refused : goal.returns-in-Err-clause-refused
returns-in-Err-clause-refused c =
    edges_refused no_rows c.args.bytes.now c.in_ok-kind.rest.now c.in_ok-containers.rest.now c.in_ok-all_containers.rest.now c.in_ok-loci.rest.now c.in_ok-all_loci.rest.now c.in-Err.stuck.rest.now c.in_ok-kind.kind c.in_ok-containers.containers c.in_ok-loci.loci c.read_names.new.atlas.containers c.read_names-2.new.atlas.loci c.in_ok-kind.ensures.read c.in_ok-containers.ensures.read
    (containers_found c.new-atlas.result c.read_names.new.atlas c.new-atlas.ensures c.in_ok-all_containers.ensures.others c.in_ok-containers.containers c.in_ok-containers.rest.now c.in_ok-all_containers.rest.now c.in_ok-all_containers.ensures.read)
    c.in_ok-loci.ensures.read
    (loci_found c.new-atlas.result c.read_names.new.atlas c.new-atlas.ensures c.in_ok-all_containers.ensures.others c.read_names-2.new.atlas c.in_ok-all_loci.ensures.others c.in_ok-loci.loci c.in_ok-loci.rest.now c.in_ok-all_loci.rest.now c.in_ok-all_loci.ensures.read)
    c.in-Err.ensures.refused

pub returns-clause-read : goal.returns-clause-read
returns-clause-read c =
    whole c.new-atlas.result c.read_names.new.atlas c.new-atlas.ensures c.in_ok-all_containers.ensures.others c.read_names-2.new.atlas c.in_ok-all_loci.ensures.others c.read_edges.new.atlas c.args.bytes.now c.in-Ok.read.1.now c.in-Ok.ensures.names.0 c.in-Ok.ensures.names.1
    (atlas_found no_rows c.args.bytes.now c.in_ok-kind.rest.now c.in_ok-containers.rest.now c.in_ok-all_containers.rest.now c.in_ok-loci.rest.now c.in_ok-all_loci.rest.now c.in-Ok.read.1.now c.in_ok-kind.kind c.in_ok-containers.containers c.in_ok-loci.loci c.read_names.new.atlas.containers c.read_names-2.new.atlas.loci (edges_of c.read_edges.new.atlas) c.in_ok-kind.ensures.read c.in_ok-containers.ensures.read
    (containers_found c.new-atlas.result c.read_names.new.atlas c.new-atlas.ensures c.in_ok-all_containers.ensures.others c.in_ok-containers.containers c.in_ok-containers.rest.now c.in_ok-all_containers.rest.now c.in_ok-all_containers.ensures.read)
    c.in_ok-loci.ensures.read
    (loci_found c.new-atlas.result c.read_names.new.atlas c.new-atlas.ensures c.in_ok-all_containers.ensures.others c.read_names-2.new.atlas c.in_ok-all_loci.ensures.others c.in_ok-loci.loci c.in_ok-loci.rest.now c.in_ok-all_loci.rest.now c.in_ok-all_loci.ensures.read)
    c.in-Ok.ensures.read)
