use Rattle.blob_grammar.proofs.Joins.{atlas_form, born_number, container, container_form, locus, locus_form}
use Rattle.blob_grammar.proofs.sound_form_law.Goals as goal

pub returns-clause-container : goal.returns-clause-container
returns-clause-container c = container

pub returns-clause-locus : goal.returns-clause-locus
returns-clause-locus c = locus

pub returns-clause-number : goal.returns-clause-number
returns-clause-number c a x sound = born_number a sound.few_containers sound.few_loci x

pub returns-clause-container_form : goal.returns-clause-container_form
returns-clause-container_form c = container_form

pub returns-clause-locus_form : goal.returns-clause-locus_form
returns-clause-locus_form c = locus_form

pub returns-clause-atlas_form : goal.returns-clause-atlas_form
returns-clause-atlas_form c = atlas_form
