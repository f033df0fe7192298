-- `calls_writing::fields::PairLay::lay` meets its contract: the lower allele, a slash, the higher. Assumes nothing.
use mathlib.Core.List.{append_assoc, append-nil}
use Rattle.text_writing.proofs.LayingLaws.{laid_behind, laid_as}
use Rattle.calls_writing.proofs.fields.PairLay.lay.Goals as goal

pub returns : goal.returns
returns c = laid_as (laid_behind (laid_behind c.lay-to_slash.ensures c.lay-to_high.ensures) c.lay.ensures) (simp (append_assoc, append-nil))
