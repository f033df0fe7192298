-- `trio_numbers::places::put_values` meets its contract. The loop's invariant: what is left to store decides. Assumes nothing.
use Rattle.std.proofs.Common.{◌≡◌, ◌+◌, map, drop, length}
use Rattle.std.proofs.lemmas.List.Edits.{sets}
use Rattle.trio_numbers.proofs.places.put_values.Given as goal

abbrev pub invariant-loop-i : goal.invariant-loop-i
invariant-loop-i g l = record {
  places : length l.numbers ≡ length l.initial.numbers;
  left : sets l.numbers (l.at + l.i) (drop l.i (map g.T.Word.word l.values)) ≡ sets l.initial.numbers l.at (map g.T.Word.word l.values);
}
