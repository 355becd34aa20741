use Rattle.std.proofs.Common.{rules}
use Rattle.data_edits.proofs.Shapes.{dims_long, shape_put}
use Rattle.data_edits.proofs.fields.put_shape.Goals as goal

pub returns-clause-text : goal.returns-clause-text
returns-clause-text c =
    shape_put c.args.wide c.args.shape.now _ c.word_of.ensures c.padded.ensures c.put-at.ensures.text c.from.ensures c.put_number-at.ensures.text (dims_long c.args.shape.now (search rules) c.requires.few) c.put_dimensions.ensures.text
