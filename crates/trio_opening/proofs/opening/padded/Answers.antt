-- `padded` meets its contract. Assumes nothing.
use Rattle.std.proofs.Common.{rules}
use Rattle.std.proofs.lemmas.List.{drop-replicate}
use Rattle.trio_opening.proofs.opening.padded.Goals as goal

pub returns : goal.returns
returns g c = search (rules, drop-replicate)
