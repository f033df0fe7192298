-- O2: of a closing that is refused, of any part, and of the call of an input that is refused, zeros are written, so that no flag is set
-- and the quality is 0; zero is written for the ground of nothing else. T9: so is what is written where there is no runner-up. Assumes
-- nothing.
use Prim.Native.Nat.{ℕ}
use mathlib.Core.Bool.{true≢false}
use mathlib.Core.List.{List}
use mathlib.Core.Logic.{◌↔◌, ◌≢◌}
use mathlib.Core.Path.{◌≡◌, refl, sym, ap}
use native.Mathlib.Omega.{arith}
use lib.Ieee.{Float}
use Rattle.std.specs.Prelude.{Option, None, Result, Ok, Err, IsErr}
use Rattle.std.specs.Option.{unwrap_or}
use Rattle.std.specs.Float.{binary64}
use Rattle.std.specs.Float.Ieee.{of_bits}
use Rattle.trio_entries.specs.declared.entry.Entry.{Entry}
use Rattle.trio_entries.specs.Held.{no_entry}
use Rattle.refusals.specs.declared.Refusal.{Refusal}
use Rattle.trio_family.specs.declared.ground.Ground.{Ground}
use Rattle.trio_family.specs.declared.ground.Ground.TheVariants.{Won, Tied, Unread, Inferred}
use Rattle.trio_family.specs.Numbers.{ground_number}
use Rattle.trio_parts.specs.declared.part.Part.{Part}
use Rattle.trio_opening.specs.Opening.{open_step}
use Rattle.trio_reads.specs.Flags.{none_read}
use Rattle.trio_closings.specs.declared.closing.Call.{Call}
use Rattle.trio_closings.specs.Closing.{close_step}
use Rattle.trio_desks.specs.Call.{call_of}
use Rattle.trio_desks.proofs.Demand.{call_each}
use Rattle.trio_c.specs.Trio.{six_flags, call_numbers, answer_numbers}

-- of whatever is refused
none_set : (r : Result Call Refusal) → IsErr r → (answer_numbers r).read ≡ six_flags none_read
none_set (Ok k) e = absurd (true≢false (sym e))
none_set (Err r) e = refl

-- of any part, forged or not
pub refused_none : (p : Part) → IsErr (close_step p).call → (answer_numbers (close_step p).call).read ≡ six_flags none_read
refused_none p = none_set (close_step p).call

-- of any input that opening refuses
pub refused_call_none : (n : ℕ) (counts : List ℕ) (weights : List Float) (rule : ℕ) → (open_step n counts weights rule).outcome ≢ Ok tt
    → (answer_numbers (call_of n counts weights rule).call).read ≡ six_flags none_read
refused_call_none n counts weights rule other =
    call_each n counts weights rule (λ c. (answer_numbers c.call).read ≡ six_flags none_read) (λ accepted. absurd (other accepted))
    (λ r refused. refl)

-- a ground has no number 0
ground_some : (g : Ground) → ground_number g ≢ 0
ground_some Won = λ e. omega (arith, e)
ground_some Tied = λ e. omega (arith, e)
ground_some Unread = λ e. omega (arith, e)
ground_some Inferred = λ e. omega (arith, e)

-- of any answer
pub no_ground_written : (r : Result Call Refusal) → ((answer_numbers r).rests_on ≡ 0) ↔ IsErr r
no_ground_written (Ok k) = (λ e. absurd (ground_some k.ground e), λ e. absurd (true≢false (sym e)))
no_ground_written (Err r) = (λ e. refl, λ e. refl)

-- T11: of what is refused the quality is 0
pub refused_nothing : (r : Result Call Refusal) → IsErr r → (answer_numbers r).quality ≡ 0
refused_nothing (Ok k) e = absurd (true≢false (sym e))
refused_nothing (Err r) e = refl

-- T9: where there is no runner-up, its places are zero
pub no_runner_written : (k : Call) → k.runner ≡ None → ((call_numbers k).position ≡ 0) × ((call_numbers k).second ≡ of_bits binary64 0)
unfolding of_bits
no_runner_written k e = (
  ap (λ (r : Option Entry). (unwrap_or r no_entry).position) e,
  ap (λ (r : Option Entry). (unwrap_or r no_entry).score) e,
)
