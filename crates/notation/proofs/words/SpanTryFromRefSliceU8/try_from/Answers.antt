use Rattle.std.proofs.Common.{◌∙◌, rules}
use Rattle.notation.proofs.Backs.{range_back}
use Rattle.notation.proofs.Scans.{span-range}
use Rattle.notation.proofs.words.SpanTryFromRefSliceU8.try_from.Goals as goal

pub returns : goal.returns
returns c = record {
  value =
      c.up_to.ensures.value
      ∙ span-range c.args.word.now c.scan-low.result.0 c.scan-low.result.1 c.scan-low.ensures.number c.scan-low.ensures.count c.if-end-eq0.false c.if-end-word.false c.if-word-end-ne-DASH.false;
  ordered = c.up_to.ensures.ordered;
  within = search rules;
  back = range_back;
}
