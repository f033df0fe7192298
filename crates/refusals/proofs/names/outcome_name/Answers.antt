-- `refusals::names::outcome_name` meets its contract: `done` is spelled here as its definition has it. Assumes nothing.
use mathlib.Core.Path.{refl}
use Rattle.refusals.proofs.names.outcome_name.Goals as goal

pub returns-in-Ok : goal.returns-in-Ok
returns-in-Ok g c = rw c.in-Ok.is refl
