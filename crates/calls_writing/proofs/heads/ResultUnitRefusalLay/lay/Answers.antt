-- `calls_writing::heads::ResultUnitRefusalLay::lay` meets its contract: the name of an outcome ends before the first zero. Assumes nothing.
use mathlib.Core.Path.{ap, ◌∙◌}
use Rattle.text_reading.specs.Fields.{up_to}
use Rattle.text_writing.proofs.LayingLaws.{laid_as}
use Rattle.calls_writing.proofs.NameLaws.{outcome_named}
use Rattle.calls_writing.proofs.heads.ResultUnitRefusalLay.lay.Goals as goal

pub returns : goal.returns
returns c = laid_as c.lay.ensures (c.field.ensures ∙ ap (up_to 0) c.outcome_name-padded.ensures ∙ outcome_named c.args.self)
