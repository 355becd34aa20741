use Rattle.adf_data.proofs.RunLaws.{run_ends, bytes_within, bytes_more}
use Rattle.adf_data.proofs.runs.stretch_at.Goals as goal

pub returns-clause-small : goal.returns-clause-small
returns-clause-small c = run_ends c.args.runs.now c.args.i c.args.element _ c.requires.there c.requires.small

pub returns-clause-ends : goal.returns-clause-ends
returns-clause-ends c = λ limit all. run_ends c.args.runs.now c.args.i c.args.element limit c.requires.there all

pub returns-clause-room : goal.returns-clause-room
returns-clause-room c = bytes_within c.args.runs.now c.args.i c.args.element c.requires.there

pub returns-clause-more : goal.returns-clause-more
returns-clause-more c = bytes_more c.args.runs.now c.args.i c.args.element c.requires.there
