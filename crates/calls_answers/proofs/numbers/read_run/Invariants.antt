-- `calls_answers::numbers::read_run` meets its contract. The loop's invariant: so many fields were read, and what is left decides.
-- Assumes nothing.
use Rattle.calls_answers.proofs.ReadingLaws.{SoFar}
use Rattle.calls_answers.proofs.numbers.read_run.Given as goal

abbrev pub invariant-loop-i : goal.invariant-loop-i
invariant-loop-i g l = SoFar g.T.Field.passes g.T.Field.value l.initial.places l.line l.start l.wanted l.at l.i l.places
