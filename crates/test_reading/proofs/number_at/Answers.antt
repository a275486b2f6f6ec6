use Rattle.std.proofs.Common.{rules, ◌∙◌}
use Rattle.test_reading.proofs.NumberLaws.{too_few, four}
use Rattle.test_reading.proofs.number_at.Goals as goal

pub returns-in_default : goal.returns-in_default
returns-in_default c = too_few c.args.bytes.now c.args.at (search rules)

pub returns-in_default-2 : goal.returns-in_default-2
returns-in_default-2 c = too_few c.args.bytes.now c.args.at (search rules)

pub returns : goal.returns
returns c = c.from_be_bytes.ensures ∙ four c.args.bytes.now c.args.at (search rules) c.in-Some-len4-up.field-0.now (search rules) (search rules)
