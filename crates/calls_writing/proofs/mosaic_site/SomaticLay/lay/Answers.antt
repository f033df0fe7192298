-- `calls_writing::mosaic_site::SomaticLay::lay` meets its contract: the allele, a colon, its VAF. Assumes nothing.
use mathlib.Core.List.{append_assoc, append-nil}
use Rattle.text_writing.proofs.LayingLaws.{laid_behind, laid_as}
use Rattle.calls_writing.proofs.mosaic_site.SomaticLay.lay.Goals as goal

pub returns : goal.returns
returns c = laid_as (laid_behind (laid_behind c.lay-to_colon.ensures c.lay-to_vaf.ensures) c.lay.ensures) (simp (append_assoc, append-nil))
