use Rattle.tree_laws.proofs.Data.DataEnded.{one_chunk_ends, one_more_ends, release_ends, shape_in_place}
use Rattle.tree_laws.proofs.data_laws.data_edits_end.Goals as goal

pub returns-clause-one : goal.returns-clause-one
returns-clause-one c = one_chunk_ends

pub returns-clause-more : goal.returns-clause-more
returns-clause-more c = one_more_ends

pub returns-clause-none : goal.returns-clause-none
returns-clause-none c = release_ends

pub returns-clause-same : goal.returns-clause-same
returns-clause-same c = shape_in_place
