-- The laws of `trio_c`: what is written of a refusal.
pub mod RefusedLaws
