use Rattle.std.proofs.Common.{refl, sym, ◌∙◌, arith}
use Rattle.std.proofs.lemmas.List.{take_all}
use Rattle.adf_format.specs.Records.{node_text}
use Rattle.adf_records.proofs.node.write.Goals as goal

pub returns : goal.returns
unfolding node_text
returns c =
    sym (take_all c.put_tag.result c.put_tag.new.into (omega arith))
    ∙ rw (
      c.put_tag.ensures.text,
      c.put_pointer-at-2.ensures.text,
      c.put_number-at-4.ensures.text,
      c.from-4.ensures,
      c.put_dimensions-at.ensures.text,
      c.dimension_digits-digits.ensures,
      c.put_number-at-3.ensures.text,
      c.from-3.ensures,
      c.put-at-3.ensures.text,
      c.padded.ensures,
      c.word_of.ensures.word,
      c.put_pointer-at.ensures.text,
      c.put_number-at-2.ensures.text,
      c.from-2.ensures,
      c.put_number-at.ensures.text,
      c.from.ensures,
      c.put-at-2.ensures.text,
      c.put-at.ensures.text,
      c.put_tag-at.ensures.text,
    ) refl
