-- `trio_numbers::places::values` meets its contract: each is read where it stands. Assumes nothing.
use Rattle.std.proofs.Common.{rules, tests, ◌∙◌, get_or, drop}
use Rattle.lists.proofs.FromFnLaws.{from_fn_is}
use Rattle.trio_numbers.proofs.NumbersLaws.{values_there}
use Rattle.trio_numbers.proofs.places.values.Goals as goal

pub returns : goal.returns
returns g c =
    let f = g.T.Word.of_word in
    let a = c.args in
    from_fn_is _ (λ k. f (get_or (drop a.from a.numbers.now) k 0)) _ c.from_fn.result (λ k y q i r. search (rules, tests)) g.row.N
    c.from_fn.ensures.items
    ∙ values_there f a.numbers.now a.from g.row.N
