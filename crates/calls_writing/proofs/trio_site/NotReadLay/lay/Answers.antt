-- `calls_writing::trio_site::NotReadLay::lay` meets its contract: the animal, a colon, the allele. Assumes nothing.
use mathlib.Core.List.{append_assoc, append-nil}
use Rattle.text_writing.proofs.LayingLaws.{laid_behind, laid_as}
use Rattle.calls_writing.proofs.trio_site.NotReadLay.lay.Goals as goal

pub returns : goal.returns
returns c =
    laid_as (laid_behind (laid_behind c.lay-to_colon.ensures c.lay-to_allele.ensures) c.lay.ensures) (simp (append_assoc, append-nil))
