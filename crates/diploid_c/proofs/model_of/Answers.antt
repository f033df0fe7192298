-- `diploid_c::model_of` meets its contract: each `?` hands on what the definition hands on. Assumes nothing.
use Rattle.std.proofs.Common.{◌≡◌, Ok, Err, rules}
use Rattle.diploid_models.specs.Models.{mode_of}
use Rattle.diploid_c.specs.Diploid.{three_given, model_of}
use Rattle.diploid_c.proofs.model_of.Goals as goal

pub returns-in_err-try_from : goal.returns-in_err-try_from
unfolding model_of
returns-in_err-try_from c =
    let r = c.in_err-try_from.field-0.0 in
    let mode : mode_of c.args.mode ≡ Err r = search rules in
    let left : c.from_residual.result ≡ Err r = search rules in
    rw (left, mode)

pub returns-in_err-three : goal.returns-in_err-three
unfolding model_of
returns-in_err-three c =
    let r = c.in_err-three.field-0.0 in
    let mode : mode_of c.args.mode ≡ Ok c.in_ok-try_from.field-0 = search rules in
    let fractions : three_given c.args.fractions.now ≡ Err r = search rules in
    let left : c.from_residual-in_err-three.result ≡ Err r = search rules in
    rw (left, mode, fractions)

pub returns-in_err-three-2 : goal.returns-in_err-three-2
unfolding model_of
returns-in_err-three-2 c =
    let r = c.in_err-three-2.field-0.0 in
    let mode : mode_of c.args.mode ≡ Ok c.in_ok-try_from.field-0 = search rules in
    let fractions : three_given c.args.fractions.now ≡ Ok c.in_ok-three.field-0 = search rules in
    let means : three_given c.args.means.now ≡ Err r = search rules in
    let left : c.from_residual-in_err-three-2.result ≡ Err r = search rules in
    rw (left, mode, fractions, means)

pub returns-in_err-three-3 : goal.returns-in_err-three-3
unfolding model_of
returns-in_err-three-3 c =
    let r = c.in_err-three-3.field-0.0 in
    let mode : mode_of c.args.mode ≡ Ok c.in_ok-try_from.field-0 = search rules in
    let fractions : three_given c.args.fractions.now ≡ Ok c.in_ok-three.field-0 = search rules in
    let means : three_given c.args.means.now ≡ Ok c.in_ok-three-2.field-0 = search rules in
    let precisions : three_given c.args.precisions.now ≡ Err r = search rules in
    let left : c.from_residual-in_err-three-3.result ≡ Err r = search rules in
    rw (left, mode, fractions, means, precisions)

pub returns : goal.returns
unfolding model_of
returns c =
    let mode : mode_of c.args.mode ≡ Ok c.in_ok-try_from.field-0 = search rules in
    let fractions : three_given c.args.fractions.now ≡ Ok c.in_ok-three.field-0 = search rules in
    let means : three_given c.args.means.now ≡ Ok c.in_ok-three-2.field-0 = search rules in
    let precisions : three_given c.args.precisions.now ≡ Ok c.in_ok-three-3.field-0 = search rules in
    rw (mode, fractions, means, precisions)
