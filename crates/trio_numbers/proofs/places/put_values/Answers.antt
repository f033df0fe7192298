-- `trio_numbers::places::put_values` meets its contract. The loop's invariant: what is left to store decides. Assumes nothing.
use Rattle.std.proofs.Common.{rules, arith, ◌∙◌, ◌+◌, sym, ap, map}
use lib.ListN.{length-map}
use Rattle.lists.proofs.PlaceLaws.{map_at}
use Rattle.lists.proofs.StoredLaws.{store_more, store_end}
use Rattle.trio_numbers.proofs.places.put_values.Goals as goal

pub loop-i-preserved : goal.loop-i-preserved
loop-i-preserved g c =
    let w = g.T.Word.word in
    let vs = c.args.values.now in
    let s = c.loop-i in
    let m = length-map vs w in
    let here = c.to_word.ensures ∙ ap w c.index-values-i.is ∙ sym (map_at w vs c.index-values-i.result 0 s.i c.loop-i-test.true) in
    record {
      places = search rules;
      left = store_more s.numbers (map w vs) 0 (c.args.at + s.i) s.i _ _ (omega (arith, m, c.loop-i-test.true)) here (omega arith)
          ∙ s.invariant.left;
    }

pub returns : goal.returns
returns g c =
    let a = c.args in
    let s = c.loop-i in
    store_end s.numbers (map g.T.Word.word a.values.now) 0 (a.at + s.i) s.i
    (omega (arith, length-map a.values.now g.T.Word.word, c.loop-i-test.false)) ∙ s.invariant.left
