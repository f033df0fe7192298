-- `places_right` meets its contract: each `all` is `every`. Assumes nothing.
use Rattle.std.proofs.Common.{rules, tests, ◌∙◌, sym, ap, take, drop}
use Rattle.std.proofs.lemmas.Iterator.{YieldsList-from_slice}
use Rattle.std.proofs.lemmas.Iterator.Search.{all_from_yields_List}
use mathlib.Core.Bool.{Bool, ◌&&◌}
use Rattle.lists.specs.Every.{every}
use Rattle.lists.proofs.ChainLaws.{all_is_every}
use Rattle.trio_parts.proofs.PlacesLaws.{places_split}
use Rattle.trio_parts.proofs.shape.places_right.Goals as goal

pub returns-then-all : goal.returns-then-all
returns-then-all g c =
    let fits = g.T.Place.fits in
    let blank = g.T.Place.blank in
    let front = take c.args.used c.args.xs.now in
    let back = drop c.args.used c.args.xs.now in
    let e = all_from_yields_List fits _ _ c.all.result c.all.ensures.ran (YieldsList-from_slice front (search rules))
    (λ x b q k. search (rules, tests)) ∙ all_is_every fits front in
    all_from_yields_List blank _ _ c.all-then-all.result c.all-then-all.ensures.ran (YieldsList-from_slice back (search rules))
    (λ x b q k. search (rules, tests)) ∙ all_is_every blank back
    ∙ sym (ap (λ (t : Bool). t && every blank back) (sym e ∙ c.if-all.true))
    ∙ sym (places_split fits blank c.args.used c.args.xs.now)

pub returns-else-all : goal.returns-else-all
returns-else-all g c =
    let fits = g.T.Place.fits in
    let blank = g.T.Place.blank in
    let front = take c.args.used c.args.xs.now in
    let back = drop c.args.used c.args.xs.now in
    let e = all_from_yields_List fits _ _ c.all.result c.all.ensures.ran (YieldsList-from_slice front (search rules))
    (λ x b q k. search (rules, tests)) ∙ all_is_every fits front in
    c.if-all.false
    ∙ sym (ap (λ (t : Bool). t && every blank back) (sym e ∙ c.if-all.false))
    ∙ sym (places_split fits blank c.args.used c.args.xs.now)
