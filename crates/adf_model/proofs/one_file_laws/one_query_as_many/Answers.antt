use Rattle.adf_model.proofs.Following.QueryAsMany.{query_as_many}
use Rattle.adf_model.proofs.one_file_laws.one_query_as_many.Goals as goal

pub returns : goal.returns
returns c files number opened query here file no_link = query_as_many files number opened here query file no_link
