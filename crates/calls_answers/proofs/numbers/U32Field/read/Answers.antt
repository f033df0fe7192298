-- `calls_answers::numbers::U32Field::read` meets its contract: what is no short whole number is no count. Assumes nothing.
use Rattle.std.proofs.Common.{rules, ◌≡◌, ◌∙◌, ap, Some, None}
use Rattle.calls_answers.specs.Numbers.{short_whole_of}
use Rattle.calls_answers.proofs.NumberLaws.{count_none, count_read}
use Rattle.calls_answers.proofs.numbers.U32Field.read.Goals as goal

pub returns-in_err-n : goal.returns-in_err-n
returns-in_err-n c =
    let none : c.from_residual.result ≡ None = search rules in
    let e : short_whole_of c.args.field.now ≡ None = search rules in
    none ∙ count_none c.args.field.now e

pub returns : goal.returns
returns c =
    let e : short_whole_of c.args.field.now ≡ Some c.in_ok-n.n = search rules in
    ap Some c.min.ensures ∙ count_read c.args.field.now c.in_ok-n.n e
