-- Three scores that are what each of them is. Assumes nothing.
use Rattle.std.proofs.Common.{◌≡◌, refl}
use lib.Ieee.{Float}
use Rattle.diploid_qualities.specs.declared.scores.Scores.{Scores}

pub are_each : {s : Scores} {x y z : Float} → s.homref ≡ x → s.het ≡ y → s.homalt ≡ z
    → s ≡ record { homref = x; het = y; homalt = z }
are_each p q r = rw (← p, ← q, ← r) refl
