use Rattle.std.proofs.Common.{sym, ◌∙◌}
use Rattle.script_text.proofs.Digits.{reads_on, is_refused, is_whole}
use Rattle.script_text.proofs.numbers.value_of.Goals as goal

pub returns-in_err-value : goal.returns-in_err-value
returns-in_err-value c =
    c.from_residual.ensures ∙ sym (is_refused c.args.base c.loop-byte.value c.loop-byte.byte-index c.args.digits.now c.requires c.loop-byte-test.true c.loop-byte.invariant (sym c.next_value.ensures ∙ c.in_err-value.was))

pub loop-byte-preserved : goal.loop-byte-preserved
loop-byte-preserved c =
    reads_on c.args.base c.loop-byte.value c.loop-byte.byte-index c.in_ok-value.value c.args.digits.now c.loop-byte-test.true c.loop-byte.invariant (sym c.next_value.ensures ∙ c.in_ok-value.was)

pub returns : goal.returns
returns c = is_whole c.args.base c.loop-byte.value c.loop-byte.byte-index c.args.digits.now c.loop-byte-test.false c.loop-byte.invariant
