-- `calls_answers::numbers::read_run` meets its contract. The loop's invariant: so many fields were read, and what is left decides.
-- Assumes nothing.
use Rattle.std.proofs.Common.{rules, ◌≡◌, drop, cond, Some, None}
use Rattle.text_reading.specs.Fields.{up_to}
use Rattle.calls_lines.specs.Lines.{tab}
use Rattle.calls_answers.proofs.NumberLaws.{stops, goes, gives}
use Rattle.calls_answers.proofs.ReadingLaws.{so_far_more, run_stopped}
use Rattle.calls_answers.proofs.numbers.read_run.Goals as goal

pub returns-in_default : goal.returns-in_default
returns-in_default g c =
    let a = c.args in
    let p = g.T.Field.passes in
    let v = g.T.Field.value in
    let f = up_to tab (drop c.loop-i.at a.line.now) in
    let e : cond (p f) (Some (v f)) None ≡ None = search rules in
    run_stopped p v a.places.now a.line.now a.start a.wanted c.loop-i.invariant (search rules) (search rules) (stops (p f) (v f) e)

pub loop-i-preserved : goal.loop-i-preserved
loop-i-preserved g c =
    let a = c.args in
    let p = g.T.Field.passes in
    let v = g.T.Field.value in
    let f = up_to tab (drop c.loop-i.at a.line.now) in
    let e : cond (p f) (Some (v f)) None ≡ Some c.in-Some.x = search rules in
    rw c.next_field-at.ensures
    (so_far_more p v a.places.now a.line.now a.start a.wanted c.loop-i.invariant (search rules) (search rules)
    (goes (p f) (v f) c.in-Some.x e) c.in-Some.x (gives (p f) (v f) c.in-Some.x e) c.put.new.places c.put.ensures)
